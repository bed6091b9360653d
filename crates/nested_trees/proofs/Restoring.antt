-- Restoring undoes erasing, and erasing undoes restoring.
use Rattle.std.proofs.Common.{◌≡◌, ℕ, ◌<◌, ◌-◌, List, [], ◌∷◌, length, Bool, true, false, None, refl, sym, ap, ap₂, subst, ◌∙◌, arith}
use Rattle.adp_model.specs.declared.grammar.Arg.{Arg}
use Rattle.adp_model.specs.declared.grammar.Arg.TheVariants.{Rule, Literal, Letter, Run}
use Rattle.adp_model.specs.declared.grammar.Alt.{Alt}
use Rattle.adp_model.specs.declared.grammar.Grammar.{Grammar}
use Rattle.adp_model.specs.declared.cell.Cell.{Cell}
use Rattle.adp_model.specs.PosedProblem.{PosedProblem, IsSpan}
use Rattle.adp_model.specs.Parts.{alternatives_of, alternative_at, arguments_of}
use Rattle.adp_model.specs.Lengths.{AllowsLength}
use Rattle.adp_model.specs.Tree as plain
use Rattle.adp_model.specs.Derivation.{Derives, DeriveArguments}
use Rattle.nested_trees.specs.HiddenRules.{is_hidden, AreNestedAlternatives}
use Rattle.nested_trees.specs.Patterns.{Pattern, Plain, Nested, Patterns, NoPatterns, FirstPattern, IsPatternOf, ArePatternsOf, NestedProblem, HidesRules}
use Rattle.nested_trees.specs.NestedTree.{NestedTree, Leaf, NestedNode, RuleNode, NestedTrees, Nil, Cons, end_of}
use Rattle.nested_trees.specs.NestedDerivation.{DerivesNested, MeetPatterns}
use Rattle.nested_trees.specs.Erasure.{erased, erased_below, erased_children, named_rule, restored, restored_children}
use Rattle.nested_trees.proofs.Following.{IsChildOf, Meets, child_first, first_child, met_first}
use Rattle.nested_trees.proofs.Erasing.{only_alternative, erased_hidden, erased_other, no_hidden_given}

-- ---- restoring what was erased

module _ (p : PosedProblem) (hidden : ℕ) (alone : AreNestedAlternatives p.grammar hidden) where
  abbrev g : Grammar
  g = p.grammar

  -- the node of a rule, hidden or not
  back : (test : Bool) (rule own alternative from to : ℕ) (children : plain.Trees) → is_hidden g hidden own ≡ test
      → own ≡ rule
      → alternative < length (alternatives_of g rule)
      → restored_children g (arguments_of g rule alternative) (erased_children g hidden children) ≡ children
      → restored g rule (erased_below g hidden
      (plain.Node own alternative from to children)) ≡ plain.Node own alternative from to children
  back true rule own alternative from to children is same inside kept =
      let first : alternative ≡ 0 =
      only_alternative g hidden alone rule alternative (sym (ap (is_hidden g hidden) same) ∙ is) inside in
      ap (restored g rule) (erased_hidden g hidden own alternative from to children is)
      ∙ ap (λ a. plain.Node rule 0 from to (restored_children g (arguments_of g rule a)
      (erased_children g hidden children))) (sym first)
      ∙ ap (plain.Node rule 0 from to) kept
      ∙ ap₂ (λ r a. plain.Node r a from to children) (sym same) (sym first)
  back false rule own alternative from to children is same inside kept =
      ap (restored g rule) (erased_other g hidden own alternative from to children is)
      ∙ ap (λ r. plain.Node own alternative from to
      (restored_children g (arguments_of g r alternative) (erased_children g hidden children))) same
      ∙ ap (plain.Node own alternative from to) kept

  mutual
    pub restored-erased_below : (argument : Arg) (from : ℕ) (tree : plain.Tree) → IsChildOf p argument from tree
        → restored g (named_rule argument) (erased_below g hidden tree) ≡ tree
    restored-erased_below argument from (plain.Leaf from' to') h = refl
    restored-erased_below (Rule rule) from (plain.Node own alternative from' to' children) h =
        back (is_hidden g hidden own) rule own alternative from' to' children refl h.0 h.4
        (restored-erased_children (arguments_of g rule alternative) from to' children h.5)
    restored-erased_below (Literal text) from (plain.Node own alternative from' to' children) h = absurd h
    restored-erased_below (Letter class) from (plain.Node own alternative from' to' children) h = absurd h
    restored-erased_below (Run class low high) from (plain.Node own alternative from' to' children) h = absurd h

    pub restored-erased_children : (arguments : List Arg) (from to : ℕ) (children : plain.Trees)
        → DeriveArguments p arguments from to children
        → restored_children g arguments (erased_children g hidden children) ≡ children
    restored-erased_children arguments from to plain.Nil h = refl
    restored-erased_children [] from to (plain.Cons first others) h = absurd h
    restored-erased_children (argument ∷ arguments) from to (plain.Cons first others) h =
        let d = child_first p argument arguments from to first others h in
        ap₂ (λ t ts. plain.Cons t ts) (restored-erased_below argument from first d.0)
        (restored-erased_children arguments (plain.end_of first) to others d.1)

  pub restored-erased : (cell : Cell) (tree : plain.Tree) → Derives p cell tree
      → restored g cell.rule (erased g hidden tree) ≡ tree
  restored-erased cell (plain.Leaf from to) d = absurd d
  restored-erased cell (plain.Node rule alternative from to children) d =
      ap (λ r. plain.Node rule alternative from to
      (restored_children g (arguments_of g r alternative) (erased_children g hidden children))) d.0
      ∙ ap (plain.Node rule alternative from to)
      (restored-erased_children (arguments_of g cell.rule alternative) cell.from cell.to children d.5)

  -- so what is erased to one tree is one tree
  pub erased-injective : (cell : Cell) (t u : plain.Tree) → Derives p cell t → Derives p cell u
      → erased g hidden t ≡ erased g hidden u → t ≡ u
  erased-injective cell t u d d' same =
      sym (restored-erased cell t d) ∙ ap (restored g cell.rule) same ∙ restored-erased cell u d'

  pub erased_below-injective : (argument : Arg) (from from' : ℕ) (t u : plain.Tree) → IsChildOf p argument from t
      → IsChildOf p argument from' u
      → erased_below g hidden t ≡ erased_below g hidden u → t ≡ u
  erased_below-injective argument from from' t u d d' same =
      sym (restored-erased_below argument from t d) ∙ ap (restored g (named_rule argument)) same
      ∙ restored-erased_below argument from' u d'

-- ---- erasing what was restored

pub end-restored : (g : Grammar) (rule : ℕ) (tree : NestedTree) → plain.end_of (restored g rule tree) ≡ end_of tree
end-restored g rule (Leaf from to) = refl
end-restored g rule (NestedNode sign from to children) = refl
end-restored g rule (RuleNode own alternative from to children) = refl

-- any length suits an alternative without a size
allows_any : (alternative : Alt) (letters : ℕ) → alternative.size ≡ None → AllowsLength alternative letters
allows_any alternative letters none =
    subst (λ s. AllowsLength (record alternative { size = s }) letters) (sym none) (omega arith, tt)

module _ (q : NestedProblem) (hidden : ℕ) (alone : AreNestedAlternatives q.plain.grammar hidden)
    (hides : HidesRules q hidden) where
  abbrev p' : PosedProblem
  p' = q.plain

  abbrev g' : Grammar
  g' = q.plain.grammar

  -- the restored tree is the argument's child, and erased it is the nested tree
  abbrev IsRestored : Arg → ℕ → NestedTree → Type 0
  IsRestored argument from tree =
      IsChildOf p' argument from (restored g' (named_rule argument) tree)
      × (erased_below g' hidden (restored g' (named_rule argument) tree) ≡ tree)

  abbrev AreRestored : List Arg → ℕ → ℕ → NestedTrees → Type 0
  AreRestored arguments from to children =
      DeriveArguments p' arguments from to (restored_children g' arguments children)
      × (erased_children g' hidden (restored_children g' arguments children) ≡ children)

  restored_given : (given argument : Arg) (from : ℕ) (tree : NestedTree) → given ≡ argument
      → IsRestored given from tree → IsRestored argument from tree
  restored_given given argument from tree e h = subst (λ a. IsRestored a from tree) e h

  nested_back : (rule sign given from from' to' : ℕ) (children : NestedTrees) → is_hidden g' hidden rule ≡ true
      → sign ≡ (alternative_at g' rule 0).sign
      → given ≡ sign → from' ≡ from → IsSpan p'.word from' to'
      → AreRestored (arguments_of g' rule 0) from' to' children
      → IsRestored (Rule rule) from (NestedNode given from' to' children)
  nested_back rule sign given from from' to' children is signs same start span kept =
      let one = alone.one rule is in
      let inside : 0 < length (alternatives_of g' rule) = omega arith in
      let own = restored_children g' (arguments_of g' rule 0) children in (
        (
          refl,
          start,
          refl,
          subst (λ x. IsSpan p'.word x to') start span,
          inside,
          subst (λ x. DeriveArguments p' (arguments_of g' rule 0) x to' own) start kept.0,
          allows_any (alternative_at g' rule 0) (to' - from) (alone.unsized rule is),
        ),
        erased_hidden g' hidden rule 0 from' to' own is
            ∙ ap₂ (λ s cs. NestedNode s from' to' cs) (sym (same ∙ signs)) kept.1,
      )

  rule_back : (rule from own alternative from' to' : ℕ) (children : NestedTrees) → is_hidden g' hidden rule ≡ false
      → DerivesNested q (record { rule = rule; from = from; to = to' }) (RuleNode own alternative from' to' children)
      → AreRestored (arguments_of g' rule alternative) from to' children
      → IsRestored (Rule rule) from (RuleNode own alternative from' to' children)
  rule_back rule from own alternative from' to' children is d kept =
      let moved : AreRestored (arguments_of g' own alternative) from to' children =
      subst (λ r. AreRestored (arguments_of g' r alternative) from to' children) (sym d.0) kept in
      let trees = restored_children g' (arguments_of g' own alternative) children in (
        (
          d.0,
          d.1,
          d.2,
          d.3,
          d.4,
          subst (λ r. DeriveArguments p'
              (arguments_of g' r alternative) from to' trees) d.0 moved.0,
          d.6,
        ),
        erased_other g' hidden own alternative from' to' trees (ap (is_hidden g' hidden) d.0 ∙ is)
            ∙ ap (RuleNode own alternative from' to') moved.1,
      )

  mutual
    pub restored_below : (argument : Arg) (pattern : Pattern) (from : ℕ) (tree : NestedTree)
        → IsPatternOf g' hidden argument pattern → Meets q pattern from tree
        → IsRestored argument from tree
    restored_below argument (Plain (Rule rule)) from (Leaf from' to') is h = absurd h
    restored_below argument (Plain (Rule rule)) from (NestedNode sign from' to' children) is h = absurd h
    restored_below argument (Plain (Rule rule)) from (RuleNode own alternative from' to' children) is h =
        restored_given (Rule rule) argument from (RuleNode own alternative from' to' children) is.0
        (rule_back rule from own alternative from' to' children
        (no_hidden_given g' hidden (Rule rule) argument is.0 is.1) h
        (restored_all (arguments_of g' rule alternative) (q.patterns rule alternative) from to' children
        (hides rule alternative) h.5))
    restored_below argument (Plain (Literal text)) from (Leaf from' to') is h =
        restored_given (Literal text) argument from (Leaf from' to') is.0 (h, refl)
    restored_below argument (Plain (Literal text)) from (NestedNode sign from' to' children) is h = absurd h
    restored_below argument (Plain (Literal text)) from (RuleNode own alternative from' to' children) is h = absurd h
    restored_below argument (Plain (Letter class)) from (Leaf from' to') is h =
        restored_given (Letter class) argument from (Leaf from' to') is.0 (h, refl)
    restored_below argument (Plain (Letter class)) from (NestedNode sign from' to' children) is h = absurd h
    restored_below argument (Plain (Letter class)) from (RuleNode own alternative from' to' children) is h = absurd h
    restored_below argument (Plain (Run class low high)) from (Leaf from' to') is h =
        restored_given (Run class low high) argument from (Leaf from' to') is.0 (h, refl)
    restored_below argument (Plain (Run class low high)) from (NestedNode sign from' to' children) is h = absurd h
    restored_below argument (Plain (Run class low high)) from (RuleNode own alternative from' to' children) is h =
        absurd h
    restored_below (Rule rule) (Nested sign inner) from (Leaf from' to') is h = absurd h
    restored_below (Rule rule) (Nested sign inner) from (NestedNode given from' to' children) is h =
        nested_back rule sign given from from' to' children is.0 is.1 h.0 h.1 h.2
        (restored_all (arguments_of g' rule 0) inner from' to' children is.2 h.3)
    restored_below (Rule rule) (Nested sign inner) from (RuleNode own alternative from' to' children) is h = absurd h
    restored_below (Literal text) (Nested sign inner) from tree is h = absurd is
    restored_below (Letter class) (Nested sign inner) from tree is h = absurd is
    restored_below (Run class low high) (Nested sign inner) from tree is h = absurd is

    pub restored_all : (arguments : List Arg) (ps : Patterns) (from to : ℕ) (children : NestedTrees)
        → ArePatternsOf g' hidden arguments ps
        → MeetPatterns q ps from to children → AreRestored arguments from to children
    restored_all [] NoPatterns from to Nil are h = (h, refl)
    restored_all [] NoPatterns from to (Cons first others) are h = absurd h
    restored_all [] (FirstPattern pattern ps) from to children are h = absurd are
    restored_all (argument ∷ arguments) NoPatterns from to children are h = absurd are
    restored_all (argument ∷ arguments) (FirstPattern pattern ps) from to Nil are h = absurd h
    restored_all (argument ∷ arguments) (FirstPattern pattern ps) from to (Cons first others) are h =
        let m = met_first q pattern ps from to first others h in
        let one = restored_below argument pattern from first are.0 m.0 in
        let all = restored_all arguments ps (end_of first) to others are.1 m.1 in
        let end = end-restored g' (named_rule argument) first in (
          first_child p' argument arguments from to (restored g' (named_rule argument) first)
              (restored_children g' arguments others) one.0
              (subst (λ x. DeriveArguments p' arguments x to (restored_children g' arguments others))
              (sym end) all.0),
          ap₂ (λ t ts. Cons t ts) one.1 all.1,
        )

  pub derived-restored : (cell : Cell) (tree : NestedTree) → DerivesNested q cell tree
      → Derives p' cell (restored g' cell.rule tree) × (erased g' hidden (restored g' cell.rule tree) ≡ tree)
  derived-restored cell (Leaf from to) d = absurd d
  derived-restored cell (NestedNode sign from to children) d = absurd d
  derived-restored cell (RuleNode rule alternative from to children) d =
      let kept =
      restored_all (arguments_of g' cell.rule alternative)
      (q.patterns cell.rule alternative) cell.from cell.to children (hides cell.rule alternative) d.5 in
      let moved : AreRestored (arguments_of g' rule alternative) cell.from cell.to children =
      subst (λ r. AreRestored (arguments_of g' r alternative) cell.from cell.to children) (sym d.0) kept in
      let trees = restored_children g' (arguments_of g' rule alternative) children in (
        (
          d.0,
          d.1,
          d.2,
          d.3,
          d.4,
          subst (λ r. DeriveArguments p'
              (arguments_of g' r alternative) cell.from cell.to trees) d.0 moved.0,
          d.6,
        ),
        ap (RuleNode rule alternative from to) moved.1,
      )
