-- Erasing maps derived trees to derived nested trees.
use Rattle.std.proofs.Common.{◌≡◌, ℕ, ◌<◌, List, [], ◌∷◌, length, Bool, true, false, if◌then◌else◌, IsTrue, refl, sym, ap, subst, ◌∙◌, arith}
use Rattle.adp_model.specs.declared.grammar.Arg.{Arg}
use Rattle.adp_model.specs.declared.grammar.Arg.TheVariants.{Rule, Literal, Letter, Run}
use Rattle.adp_model.specs.declared.grammar.Grammar.{Grammar}
use Rattle.adp_model.specs.declared.cell.Cell.{Cell}
use Rattle.adp_model.specs.PosedProblem.{PosedProblem, IsSpan}
use Rattle.adp_model.specs.Parts.{alternatives_of, alternative_at, arguments_of}
use Rattle.adp_model.specs.Tree as plain
use Rattle.adp_model.specs.Derivation.{Derives, DeriveArguments}
use Rattle.nested_trees.specs.HiddenRules.{is_hidden, AreNestedAlternatives}
use Rattle.nested_trees.specs.Patterns.{Pattern, Plain, Nested, Patterns, NoPatterns, FirstPattern, NamesNoHidden, IsPatternOf, ArePatternsOf, NestedProblem, HidesRules}
use Rattle.nested_trees.specs.NestedTree.{NestedNode, RuleNode, NestedTrees, end_of, ends_of}
use Rattle.nested_trees.specs.NestedDerivation.{DerivesNested, MeetsSign, MeetPatterns}
use Rattle.nested_trees.specs.Erasure.{erased, erased_below, erased_children}
use Rattle.nested_trees.proofs.Following.{IsChildOf, Meets, child_first, first_met, if_true, if_false}

-- ---- what is known of the node of a hidden rule, and of any other

-- the only alternative is the first
pub only_alternative : (g : Grammar) (hidden : ℕ) → AreNestedAlternatives g hidden → (rule alternative : ℕ)
    → IsTrue (is_hidden g hidden rule)
    → alternative < length (alternatives_of g rule) → alternative ≡ 0
only_alternative g hidden alone rule alternative is inside = let e = alone.one rule is in omega arith

pub erased_hidden : (g : Grammar) (hidden rule alternative from to : ℕ) (children : plain.Trees)
    → is_hidden g hidden rule ≡ true
    → erased_below g hidden (plain.Node rule alternative from to children) ≡ NestedNode
    (alternative_at g rule alternative).sign from to (erased_children g hidden children)
erased_hidden g hidden rule alternative from to children is =
    if_true (is_hidden g hidden rule) (NestedNode (alternative_at g rule alternative).sign from to
    (erased_children g hidden children)) (RuleNode rule alternative from to
    (erased_children g hidden children)) is

pub erased_other : (g : Grammar) (hidden rule alternative from to : ℕ) (children : plain.Trees)
    → is_hidden g hidden rule ≡ false
    → erased_below g hidden (plain.Node rule alternative from to children) ≡ RuleNode rule alternative from to
    (erased_children g hidden children)
erased_other g hidden rule alternative from to children is =
    if_false (is_hidden g hidden rule) (NestedNode (alternative_at g rule alternative).sign from to
    (erased_children g hidden children)) (RuleNode rule alternative from to
    (erased_children g hidden children)) is

-- ---- spans stay

end_either : (test : Bool) (sign rule alternative from to : ℕ) (children : NestedTrees)
    → end_of (if test then NestedNode sign from to children else RuleNode rule alternative from to children) ≡ to
end_either true sign rule alternative from to children = refl
end_either false sign rule alternative from to children = refl

pub end-erased : (g : Grammar) (hidden : ℕ) (tree : plain.Tree)
    → end_of (erased_below g hidden tree) ≡ plain.end_of tree
end-erased g hidden (plain.Leaf from to) = refl
end-erased g hidden (plain.Node rule alternative from to children) =
    end_either (is_hidden g hidden rule) _ rule alternative from to (erased_children g hidden children)

pub ends-erased : (g : Grammar) (hidden : ℕ) (children : plain.Trees)
    → ends_of (erased_children g hidden children) ≡ plain.ends_of children
ends-erased g hidden plain.Nil = refl
ends-erased g hidden (plain.Cons first others) = cc (end-erased g hidden first, ends-erased g hidden others)

-- ---- an argument that stands for itself

pub child_given : (p : PosedProblem) (given argument : Arg) (from : ℕ) (tree : plain.Tree) → given ≡ argument
    → IsChildOf p argument from tree → IsChildOf p given from tree
child_given p given argument from tree e h = subst (λ a. IsChildOf p a from tree) (sym e) h

pub no_hidden_given : (g : Grammar) (hidden : ℕ) (given argument : Arg) → given ≡ argument
    → NamesNoHidden g hidden argument → NamesNoHidden g hidden given
no_hidden_given g hidden given argument e h = subst (NamesNoHidden g hidden) (sym e) h

-- ---- derivation

module _ (q : NestedProblem) (hidden : ℕ) (alone : AreNestedAlternatives q.plain.grammar hidden)
    (hides : HidesRules q hidden) where
  abbrev p : PosedProblem
  p = q.plain

  abbrev g : Grammar
  g = q.plain.grammar

  -- a node of the plain grammar, whose children are those of the nested one
  node_derived : (cell : Cell) (rule alternative from to : ℕ) (children : plain.Trees)
      → Derives p cell (plain.Node rule alternative from to children)
      → MeetPatterns q (q.patterns cell.rule alternative) cell.from cell.to (erased_children g hidden children)
      → DerivesNested q cell (RuleNode rule alternative from to (erased_children g hidden children))
  node_derived cell rule alternative from to children d met = (d.0, d.1, d.2, d.3, d.4, met, d.6)

  -- the node of an argument that names no hidden rule
  other_met : (rule from own alternative from' to' : ℕ) (children : plain.Trees) → is_hidden g hidden rule ≡ false
      → Derives p (record { rule = rule; from = from; to = to' }) (plain.Node own alternative from' to' children)
      → MeetPatterns q (q.patterns rule alternative) from to' (erased_children g hidden children)
      → Meets q (Plain (Rule rule)) from (erased_below g hidden (plain.Node own alternative from' to' children))
  other_met rule from own alternative from' to' children is d met =
      subst (Meets q (Plain (Rule rule)) from)
      (sym (erased_other g hidden own alternative from' to' children (ap (is_hidden g hidden) d.0 ∙ is)))
      (node_derived (record { rule = rule; from = from; to = to' }) own alternative from' to' children d met)

  -- the node of an argument that names a hidden rule
  hidden_met : (rule sign from own alternative from' to' : ℕ) (inner : Patterns) (children : plain.Trees)
      → is_hidden g hidden rule ≡ true
      → sign ≡ (alternative_at g rule 0).sign → alternative ≡ 0
      → Derives p (record { rule = rule; from = from; to = to' }) (plain.Node own alternative from' to' children)
      → MeetPatterns q inner from to' (erased_children g hidden children)
      → MeetsSign q sign inner from (erased_below g hidden (plain.Node own alternative from' to' children))
  hidden_met rule sign from own alternative from' to' inner children is signs first d met =
      subst (MeetsSign q sign inner from) (sym
      (erased_hidden g hidden own alternative from' to' children (ap (is_hidden g hidden) d.0 ∙ is))) (
        cc (d.0, signs, first),
        d.1,
        subst (λ x. IsSpan p.word x to') (sym d.1) d.3,
        subst (λ x. MeetPatterns q inner x to' (erased_children g hidden children)) (sym d.1) met,
      )

  mutual
    pub met_below : (argument : Arg) (pattern : Pattern) (from : ℕ) (tree : plain.Tree)
        → IsPatternOf g hidden argument pattern → IsChildOf p argument from tree
        → Meets q pattern from (erased_below g hidden tree)
    met_below argument (Plain (Rule rule)) from (plain.Leaf from' to') is h =
        absurd (child_given p (Rule rule) argument from (plain.Leaf from' to') is.0 h)
    met_below argument (Plain (Rule rule)) from (plain.Node own alternative from' to' children) is h =
        let d : Derives p (record { rule = rule; from = from; to = to' })
        (plain.Node own alternative from' to' children) = child_given p (Rule rule) argument from
        (plain.Node own alternative from' to' children) is.0 h in
        other_met rule from own alternative from' to' children
        (no_hidden_given g hidden (Rule rule) argument is.0 is.1) d
        (met_children (arguments_of g rule alternative) (q.patterns rule alternative) from to' children
        (hides rule alternative) d.5)
    met_below argument (Plain (Literal text)) from (plain.Leaf from' to') is h =
        child_given p (Literal text) argument from (plain.Leaf from' to') is.0 h
    met_below argument (Plain (Literal text)) from (plain.Node own alternative from' to' children) is h =
        absurd (child_given p (Literal text) argument from (plain.Node own alternative from' to' children) is.0 h)
    met_below argument (Plain (Letter class)) from (plain.Leaf from' to') is h =
        child_given p (Letter class) argument from (plain.Leaf from' to') is.0 h
    met_below argument (Plain (Letter class)) from (plain.Node own alternative from' to' children) is h =
        absurd (child_given p (Letter class) argument from (plain.Node own alternative from' to' children) is.0 h)
    met_below argument (Plain (Run class low high)) from (plain.Leaf from' to') is h =
        child_given p (Run class low high) argument from (plain.Leaf from' to') is.0 h
    met_below argument (Plain (Run class low high)) from (plain.Node own alternative from' to' children) is h =
        absurd (child_given p (Run class low high) argument from
        (plain.Node own alternative from' to' children) is.0 h)
    met_below (Rule rule) (Nested sign inner) from (plain.Leaf from' to') is h = absurd h
    met_below (Rule rule) (Nested sign inner) from (plain.Node own alternative from' to' children) is h =
        let first : alternative ≡ 0 = only_alternative g hidden alone rule alternative is.0 h.4 in
        hidden_met rule sign from own alternative from' to' inner children is.0 is.1 first h
        (met_children (arguments_of g rule 0) inner from to' children is.2
        (subst (λ a. DeriveArguments p (arguments_of g rule a) from to' children) first h.5))
    met_below (Literal text) (Nested sign inner) from tree is h = absurd is
    met_below (Letter class) (Nested sign inner) from tree is h = absurd is
    met_below (Run class low high) (Nested sign inner) from tree is h = absurd is

    pub met_children : (arguments : List Arg) (ps : Patterns) (from to : ℕ) (children : plain.Trees)
        → ArePatternsOf g hidden arguments ps
        → DeriveArguments p arguments from to children → MeetPatterns q ps from to (erased_children g hidden children)
    met_children [] NoPatterns from to plain.Nil are h = h
    met_children [] NoPatterns from to (plain.Cons first others) are h = absurd h
    met_children [] (FirstPattern pattern ps) from to children are h = absurd are
    met_children (argument ∷ arguments) NoPatterns from to children are h = absurd are
    met_children (argument ∷ arguments) (FirstPattern pattern ps) from to plain.Nil are h = absurd h
    met_children (argument ∷ arguments) (FirstPattern pattern ps) from to (plain.Cons first others) are h =
        let d = child_first p argument arguments from to first others h in
        first_met q pattern ps from to (erased_below g hidden first) (erased_children g hidden others)
        (met_below argument pattern from first are.0 d.0)
        (subst (λ x. MeetPatterns q ps x to (erased_children g hidden others)) (sym (end-erased g hidden first))
        (met_children arguments ps (plain.end_of first) to others are.1 d.1))

  pub derived-erased : (cell : Cell) (tree : plain.Tree) → Derives p cell tree
      → DerivesNested q cell (erased g hidden tree)
  derived-erased cell (plain.Leaf from to) d = absurd d
  derived-erased cell (plain.Node rule alternative from to children) d =
      node_derived cell rule alternative from to children d
      (met_children (arguments_of g cell.rule alternative)
      (q.patterns cell.rule alternative) cell.from cell.to children (hides cell.rule alternative) d.5)
