-- Erasing keeps scores and texts.
use Rattle.std.proofs.Common.{◌≡◌, ℕ, ℤ, List, [], ◌∷◌, ◌++◌, Bool, true, false, refl, sym, ap, ap₂, subst, ◌∙◌}
use Rattle.adp_model.specs.declared.grammar.Arg.{Arg}
use Rattle.adp_model.specs.declared.grammar.Arg.TheVariants.{Rule, Literal, Letter, Run}
use Rattle.adp_model.specs.declared.grammar.Grammar.{Grammar}
use Rattle.adp_model.specs.declared.cell.Cell.{Cell}
use Rattle.adp_model.specs.Ascii.{closing_bracket, comma, opening_bracket}
use Rattle.adp_model.specs.PosedProblem.{PosedProblem}
use Rattle.adp_model.specs.Parts.{alternative_at, arguments_of, sign_at, term_for, term_of}
use Rattle.adp_model.specs.Terms.{term_value}
use Rattle.adp_model.specs.Tokens.{letters_between, token_value}
use Rattle.adp_model.specs.Tree as plain
use Rattle.adp_model.specs.Derivation.{Derives, DeriveArguments}
use Rattle.adp_model.specs.Scores.{score_of, values_of}
use Rattle.adp_model.specs.TreeText.{tree_text, children_text, further_text}
use Rattle.nested_trees.specs.HiddenRules.{is_hidden, AreNestedAlternatives}
use Rattle.nested_trees.specs.Patterns.{Pattern, Plain, Nested, Patterns, NoPatterns, FirstPattern, IsPatternOf, ArePatternsOf, NestedProblem, HidesRules}
use Rattle.nested_trees.specs.NestedTree.{NestedTree, RuleNode, NestedTrees, Cons, start_of, end_of}
use Rattle.nested_trees.specs.NestedScores.{nested_score, nested_values}
use Rattle.nested_trees.specs.NestedText.{nested_text, nested_children_text, nested_further_text}
use Rattle.nested_trees.specs.Erasure.{erased, erased_below, erased_children}
use Rattle.nested_trees.proofs.Following.{IsChildOf, child_first}
use Rattle.nested_trees.proofs.Erasing.{only_alternative, erased_hidden, erased_other, child_given, no_hidden_given}

-- ---- scores

-- what a child is worth to a plain argument, and to a pattern
abbrev pub child_value : PosedProblem → Arg → plain.Tree → ℤ
child_value p (Rule rule) tree = score_of p tree
child_value p token tree =
    token_value p.grammar token (letters_between p.word (plain.start_of tree) (plain.end_of tree))

abbrev pub nested_value : NestedProblem → Pattern → NestedTree → ℤ
nested_value q (Nested sign inner) tree = nested_score q (Nested sign inner) tree
nested_value q (Plain (Rule rule)) tree = nested_score q (Plain (Rule rule)) tree
nested_value q (Plain token) tree =
    token_value q.plain.grammar token (letters_between q.plain.word (start_of tree) (end_of tree))

value_first : (p : PosedProblem) (argument : Arg) (arguments : List Arg) (first : plain.Tree) (others : plain.Trees)
    → values_of p (argument ∷ arguments)
    (plain.Cons first others) ≡ child_value p argument first ∷ values_of p arguments others
value_first p (Rule rule) arguments first others = refl
value_first p (Literal text) arguments first others = refl
value_first p (Letter class) arguments first others = refl
value_first p (Run class low high) arguments first others = refl

nested_value_first : (q : NestedProblem) (pattern : Pattern) (ps : Patterns) (first : NestedTree)
    (others : NestedTrees)
    → nested_values q (FirstPattern pattern ps)
    (Cons first others) ≡ nested_value q pattern first ∷ nested_values q ps others
nested_value_first q (Nested sign inner) ps first others = refl
nested_value_first q (Plain (Rule rule)) ps first others = refl
nested_value_first q (Plain (Literal text)) ps first others = refl
nested_value_first q (Plain (Letter class)) ps first others = refl
nested_value_first q (Plain (Run class low high)) ps first others = refl

module _ (q : NestedProblem) (hidden : ℕ) (alone : AreNestedAlternatives q.plain.grammar hidden)
    (hides : HidesRules q hidden) where
  abbrev p : PosedProblem
  p = q.plain

  abbrev g : Grammar
  g = q.plain.grammar

  abbrev KeepsValue : Arg → Pattern → plain.Tree → Type 0
  KeepsValue argument pattern tree = nested_value q pattern (erased_below g hidden tree) ≡ child_value p argument tree

  value_given : (given argument : Arg) (tree : plain.Tree) → given ≡ argument → KeepsValue given (Plain given) tree
      → KeepsValue argument (Plain given) tree
  value_given given argument tree e h = h ∙ ap (λ a. child_value p a tree) e

  -- a node's score, where the values of its children are kept
  rule_score : (pattern : Pattern) (rule alternative from to : ℕ) (children : plain.Trees)
      → nested_values q (q.patterns rule alternative) (erased_children g hidden children) ≡ values_of p
      (arguments_of g rule alternative) children
      → nested_score q pattern (RuleNode rule alternative from to (erased_children g hidden children)) ≡ score_of p
      (plain.Node rule alternative from to children)
  rule_score pattern rule alternative from to children kept = ap (term_value (term_of p rule alternative)) kept

  other_score : (rule own alternative from to : ℕ) (children : plain.Trees) → is_hidden g hidden rule ≡ false
      → own ≡ rule
      → nested_values q (q.patterns rule alternative) (erased_children g hidden children) ≡ values_of p
      (arguments_of g rule alternative) children
      → KeepsValue (Rule rule) (Plain (Rule rule)) (plain.Node own alternative from to children)
  other_score rule own alternative from to children is same kept =
      ap (nested_score q (Plain (Rule rule)))
      (erased_other g hidden own alternative from to children (ap (is_hidden g hidden) same ∙ is))
      ∙ rule_score (Plain (Rule rule)) own alternative from to children
      (subst (λ r. nested_values q (q.patterns r alternative) (erased_children g hidden children) ≡ values_of p
      (arguments_of g r alternative) children) (sym same) kept)

  hidden_score : (rule sign own alternative from to : ℕ) (inner : Patterns) (children : plain.Trees)
      → is_hidden g hidden rule ≡ true
      → sign ≡ (alternative_at g rule 0).sign → own ≡ rule → alternative ≡ 0
      → nested_values q inner (erased_children g hidden children) ≡ values_of p (arguments_of g rule 0) children
      → KeepsValue (Rule rule) (Nested sign inner) (plain.Node own alternative from to children)
  hidden_score rule sign own alternative from to inner children is signs same first kept =
      ap (nested_score q (Nested sign inner))
      (erased_hidden g hidden own alternative from to children (ap (is_hidden g hidden) same ∙ is))
      ∙ ap₂ (λ r a. term_value (term_for g p.algebra (alternative_at g r a).sign)
      (nested_values q inner (erased_children g hidden children))) same first
      ∙ ap (term_value (term_of p rule 0)) kept
      ∙ ap₂ (λ r a. term_value (term_of p r a) (values_of p (arguments_of g r a) children)) (sym same) (sym first)

  mutual
    pub value-erased : (argument : Arg) (pattern : Pattern) (from : ℕ) (tree : plain.Tree)
        → IsPatternOf g hidden argument pattern → IsChildOf p argument from tree
        → KeepsValue argument pattern tree
    value-erased argument (Plain (Rule rule)) from (plain.Leaf from' to') is h =
        absurd (child_given p (Rule rule) argument from (plain.Leaf from' to') is.0 h)
    value-erased argument (Plain (Rule rule)) from (plain.Node own alternative from' to' children) is h =
        let d : Derives p (record { rule = rule; from = from; to = to' })
        (plain.Node own alternative from' to' children) = child_given p (Rule rule) argument from
        (plain.Node own alternative from' to' children) is.0 h in
        value_given (Rule rule) argument (plain.Node own alternative from' to' children) is.0
        (other_score rule own alternative from' to' children
        (no_hidden_given g hidden (Rule rule) argument is.0 is.1) d.0
        (values-erased (arguments_of g rule alternative) (q.patterns rule alternative) from to' children
        (hides rule alternative) d.5))
    value-erased argument (Plain (Literal text)) from (plain.Leaf from' to') is h =
        value_given (Literal text) argument (plain.Leaf from' to') is.0 refl
    value-erased argument (Plain (Literal text)) from (plain.Node own alternative from' to' children) is h =
        absurd (child_given p (Literal text) argument from (plain.Node own alternative from' to' children) is.0 h)
    value-erased argument (Plain (Letter class)) from (plain.Leaf from' to') is h =
        value_given (Letter class) argument (plain.Leaf from' to') is.0 refl
    value-erased argument (Plain (Letter class)) from (plain.Node own alternative from' to' children) is h =
        absurd (child_given p (Letter class) argument from (plain.Node own alternative from' to' children) is.0 h)
    value-erased argument (Plain (Run class low high)) from (plain.Leaf from' to') is h =
        value_given (Run class low high) argument (plain.Leaf from' to') is.0 refl
    value-erased argument (Plain (Run class low high)) from (plain.Node own alternative from' to' children) is h =
        absurd (child_given p (Run class low high) argument from
        (plain.Node own alternative from' to' children) is.0 h)
    value-erased (Rule rule) (Nested sign inner) from (plain.Leaf from' to') is h = absurd h
    value-erased (Rule rule) (Nested sign inner) from (plain.Node own alternative from' to' children) is h =
        let first : alternative ≡ 0 = only_alternative g hidden alone rule alternative is.0 h.4 in
        hidden_score rule sign own alternative from' to' inner children is.0 is.1 h.0 first
        (values-erased (arguments_of g rule 0) inner from to' children is.2
        (subst (λ a. DeriveArguments p (arguments_of g rule a) from to' children) first h.5))
    value-erased (Literal text) (Nested sign inner) from tree is h = absurd is
    value-erased (Letter class) (Nested sign inner) from tree is h = absurd is
    value-erased (Run class low high) (Nested sign inner) from tree is h = absurd is

    pub values-erased : (arguments : List Arg) (ps : Patterns) (from to : ℕ) (children : plain.Trees)
        → ArePatternsOf g hidden arguments ps
        → DeriveArguments p arguments from to children
        → nested_values q ps (erased_children g hidden children) ≡ values_of p arguments children
    values-erased [] NoPatterns from to children are h = refl
    values-erased [] (FirstPattern pattern ps) from to children are h = absurd are
    values-erased (argument ∷ arguments) NoPatterns from to children are h = absurd are
    values-erased (argument ∷ arguments) (FirstPattern pattern ps) from to plain.Nil are h = absurd h
    values-erased (argument ∷ arguments) (FirstPattern pattern ps) from to (plain.Cons first others) are h =
        let d = child_first p argument arguments from to first others h in
        nested_value_first q pattern ps (erased_below g hidden first) (erased_children g hidden others)
        ∙ ap₂ (λ v vs. v ∷ vs) (value-erased argument pattern from first are.0 d.0)
        (values-erased arguments ps (plain.end_of first) to others are.1 d.1)
        ∙ sym (value_first p argument arguments first others)

  pub score-erased : (pattern : Pattern) (cell : Cell) (tree : plain.Tree) → Derives p cell tree
      → nested_score q pattern (erased g hidden tree) ≡ score_of p tree
  score-erased pattern cell (plain.Leaf from to) d = absurd d
  score-erased pattern cell (plain.Node rule alternative from to children) d =
      rule_score pattern rule alternative from to children
      (values-erased (arguments_of g rule alternative) (q.patterns rule alternative) cell.from cell.to children
      (hides rule alternative)
      (subst (λ r. DeriveArguments p (arguments_of g r alternative) cell.from cell.to children) (sym d.0) d.5))

-- ---- texts

-- a node's text is its sign's, with its children's
node_text : (p : PosedProblem) (hidden : ℕ) (test : Bool) (rule alternative from to : ℕ) (children : plain.Trees)
    → is_hidden p.grammar hidden rule ≡ test
    → nested_children_text p (erased_children p.grammar hidden children) ≡ children_text p children
    → nested_text p (erased_below p.grammar hidden (plain.Node rule alternative from to children)) ≡ tree_text p
    (plain.Node rule alternative from to children)
node_text p hidden true rule alternative from to children is kept =
    ap (nested_text p) (erased_hidden p.grammar hidden rule alternative from to children is)
    ∙ ap (λ text. (sign_at p.grammar
    (alternative_at p.grammar rule alternative).sign).name ++ opening_bracket ∷ text ++ closing_bracket ∷ []) kept
node_text p hidden false rule alternative from to children is kept =
    ap (nested_text p) (erased_other p.grammar hidden rule alternative from to children is)
    ∙ ap (λ text. (sign_at p.grammar
    (alternative_at p.grammar rule alternative).sign).name ++ opening_bracket ∷ text ++ closing_bracket ∷ []) kept

mutual
  pub text-below : (p : PosedProblem) (hidden : ℕ) (tree : plain.Tree)
      → nested_text p (erased_below p.grammar hidden tree) ≡ tree_text p tree
  text-below p hidden (plain.Leaf from to) = refl
  text-below p hidden (plain.Node rule alternative from to children) =
      node_text p hidden (is_hidden p.grammar hidden rule) rule alternative from to children refl
      (text-children p hidden children)

  pub text-children : (p : PosedProblem) (hidden : ℕ) (children : plain.Trees)
      → nested_children_text p (erased_children p.grammar hidden children) ≡ children_text p children
  text-children p hidden plain.Nil = refl
  text-children p hidden (plain.Cons first others) =
      ap₂ (λ t ts. t ++ ts) (text-below p hidden first) (text-further p hidden others)

  pub text-further : (p : PosedProblem) (hidden : ℕ) (children : plain.Trees)
      → nested_further_text p (erased_children p.grammar hidden children) ≡ further_text p children
  text-further p hidden plain.Nil = refl
  text-further p hidden (plain.Cons first others) =
      ap₂ (λ t ts. comma ∷ t ++ ts) (text-below p hidden first) (text-further p hidden others)

pub text-erased : (p : PosedProblem) (hidden : ℕ) (tree : plain.Tree)
    → nested_text p (erased p.grammar hidden tree) ≡ tree_text p tree
text-erased p hidden (plain.Leaf from to) = refl
text-erased p hidden (plain.Node rule alternative from to children) =
    ap (λ text. (sign_at p.grammar
    (alternative_at p.grammar rule alternative).sign).name ++ opening_bracket ∷ text ++ closing_bracket ∷ [])
    (text-children p hidden children)
