-- Erasing keeps the order of preference.
use Rattle.std.proofs.Common.{◌≡◌, ℕ, ◌<◌, ℤ, ◌⊎◌, inl, inr, ◌↔◌, List, [], ◌∷◌, ◌++◌, take, false, refl, sym, ap, subst, ◌∙◌}
use Rattle.adp_model.specs.declared.grammar.Arg.{Arg}
use Rattle.adp_model.specs.declared.grammar.Arg.TheVariants.{Rule, Literal, Letter, Run}
use Rattle.adp_model.specs.declared.grammar.Goal.{Goal}
use Rattle.adp_model.specs.declared.grammar.Grammar.{Grammar}
use Rattle.adp_model.specs.declared.cell.Cell.{Cell}
use Rattle.adp_model.specs.PosedProblem.{PosedProblem}
use Rattle.adp_model.specs.Parts.{algebra_of, alternative_at, arguments_of}
use Rattle.adp_model.specs.Tree as plain
use Rattle.adp_model.specs.Derivation.{Derives, DeriveArguments}
use Rattle.adp_model.specs.Scores.{score_of, IsBetter}
use Rattle.adp_model.specs.Preference.{cuts_of, LexicographicallyLess, FirstDifferencePrecedes, IsBefore}
use Rattle.nested_trees.specs.HiddenRules.{is_hidden, AreNestedAlternatives}
use Rattle.nested_trees.specs.Patterns.{Pattern, Plain, Nested, Patterns, NoPatterns, FirstPattern, IsPatternOf, ArePatternsOf, NestedProblem, HidesRules}
use Rattle.nested_trees.specs.NestedTree.{NestedTree, NestedNode, RuleNode}
use Rattle.nested_trees.specs.NestedScores.{nested_score}
use Rattle.nested_trees.specs.NestedPreference.{nested_cuts_of, NodePrecedes, PrecedesNested, FirstDifferencePrecedesNested, IsNestedBefore}
use Rattle.nested_trees.specs.Erasure.{erased, erased_below, erased_children}
use Rattle.nested_trees.proofs.Following.{IsChildOf, child_first}
use Rattle.nested_trees.proofs.Erasing.{only_alternative, erased_hidden, erased_other, ends-erased, child_given, no_hidden_given}
use Rattle.nested_trees.proofs.Restoring.{erased_below-injective}
use Rattle.nested_trees.proofs.Scoring.{value-erased, score-erased}

-- nodes of the same scores, alternatives and cuts are in the same order, where their children are
node_moved : (goal : Goal) (a a' b b' : ℤ) (i i' j j' : ℕ) (xs xs' ys ys' : List ℕ) (Children Others : Type 0)
    → a ≡ b → a' ≡ b' → i ≡ j → i' ≡ j' → xs ≡ ys → xs' ≡ ys'
    → (i ≡ i' → Children → Others) → NodePrecedes goal a a' i i' xs xs' Children
    → NodePrecedes goal b b' j j' ys ys' Others
node_moved goal a a' b b' i i' j j' xs xs' ys ys' Children Others score score' alternative alternative' cuts cuts' below (inl better) =
    inl (subst (λ x. IsBetter goal x b') score (subst (IsBetter goal a) score' better))
node_moved goal a a' b b' i i' j j' xs xs' ys ys' Children Others score score' alternative alternative' cuts cuts' below (inr (same, inl earlier)) =
    inr (sym score ∙ same ∙ score', inl (subst (λ x. x < j') alternative (subst (λ x. i < x) alternative' earlier)))
node_moved goal a a' b b' i i' j j' xs xs' ys ys' Children Others score score' alternative alternative' cuts cuts' below (inr (same, inr (one, inl less))) =
    inr (
      sym score ∙ same ∙ score',
      inr (
        sym alternative ∙ one ∙ alternative',
        inl
            (subst (λ x. LexicographicallyLess x ys') cuts (subst (LexicographicallyLess xs) cuts' less)),
      ),
    )
node_moved goal a a' b b' i i' j j' xs xs' ys ys' Children Others score score' alternative alternative' cuts cuts' below (inr (same, inr (one, inr (equal, children)))) =
    inr (
      sym score ∙ same ∙ score',
      inr (
        sym alternative ∙ one ∙ alternative',
        inr
            (sym cuts ∙ equal ∙ cuts', below one children),
      ),
    )

-- both ways
node_moves : (goal : Goal) (a a' b b' : ℤ) (i i' j j' : ℕ) (xs xs' ys ys' : List ℕ) (Children Others : Type 0)
    → a ≡ b → a' ≡ b' → i ≡ j → i' ≡ j' → xs ≡ ys → xs' ≡ ys'
    → (i ≡ i' → Children ↔ Others) → NodePrecedes goal a a' i i' xs xs' Children
    ↔ NodePrecedes goal b b' j j' ys ys' Others
node_moves goal a a' b b' i i' j j' xs xs' ys ys' Children Others score score' alternative alternative' cuts cuts' below = (
  node_moved goal a a' b b' i i' j j' xs xs' ys ys' Children Others score score' alternative alternative' cuts cuts'
      (λ one. (below one).0),
  node_moved goal b b' a a' j j' i i' ys ys' xs xs' Others Children (sym score) (sym score') (sym alternative)
      (sym alternative') (sym cuts) (sym cuts')
      (λ one. (below (alternative ∙ one ∙ sym alternative')).1),
)

cuts-erased : (g : Grammar) (hidden to : ℕ) (children : plain.Trees)
    → cuts_of to children ≡ nested_cuts_of to (erased_children g hidden children)
cuts-erased g hidden to children =
    ap (λ ends. take 3 (ends ++ to ∷ to ∷ to ∷ [])) (sym (ends-erased g hidden children))

module _ (q : NestedProblem) (hidden : ℕ) (alone : AreNestedAlternatives q.plain.grammar hidden)
    (hides : HidesRules q hidden) where
  abbrev p : PosedProblem
  p = q.plain

  abbrev g : Grammar
  g = q.plain.grammar

  abbrev IsKept : Pattern → plain.Tree → plain.Tree → Type 0
  IsKept pattern t u = IsBefore p t u ↔ PrecedesNested q pattern (erased_below g hidden t) (erased_below g hidden u)

  abbrev AreKept : Patterns → plain.Trees → plain.Trees → Type 0
  AreKept ps ts us =
      FirstDifferencePrecedes (IsBetter (algebra_of p).goal) (score_of p) ts us
      ↔ FirstDifferencePrecedesNested q ps (erased_children g hidden ts) (erased_children g hidden us)

  -- two nodes of a rule
  rules_kept : (pattern : Pattern) (cell cell' : Cell) (rule alternative from to : ℕ) (children : plain.Trees)
      (rule' alternative' from' to' : ℕ) (children' : plain.Trees)
      → Derives p cell (plain.Node rule alternative from to children)
      → Derives p cell' (plain.Node rule' alternative' from' to' children')
      → (alternative ≡ alternative' → AreKept (q.patterns rule alternative) children children')
      → IsBefore p (plain.Node rule alternative from to children) (plain.Node rule' alternative' from' to' children')
      ↔ PrecedesNested q pattern (RuleNode rule alternative from to (erased_children g hidden children))
      (RuleNode rule' alternative' from' to' (erased_children g hidden children'))
  rules_kept pattern cell cell' rule alternative from to children rule' alternative' from' to' children' d d' below =
      node_moves (algebra_of p).goal _ _ _ _ alternative alternative' alternative alternative' _ _ _ _ _ _
      (sym (score-erased q hidden alone hides pattern cell (plain.Node rule alternative from to children) d))
      (sym (score-erased q hidden alone hides pattern cell' (plain.Node rule' alternative' from' to' children') d'))
      refl refl (cuts-erased g hidden to children) (cuts-erased g hidden to' children') below

  -- two nodes of the only alternative of a hidden rule
  hidden_kept : (sign own own' : ℕ) (inner : Patterns) (rule alternative from to : ℕ) (children : plain.Trees)
      (rule' alternative' from' to' : ℕ) (children' : plain.Trees)
      → alternative ≡ 0 → alternative' ≡ 0
      → score_of p (plain.Node rule alternative from to children) ≡ nested_score q (Nested sign inner)
      (NestedNode own from to (erased_children g hidden children))
      → score_of p (plain.Node rule' alternative' from' to' children') ≡ nested_score q (Nested sign inner)
      (NestedNode own' from' to' (erased_children g hidden children'))
      → AreKept inner children children'
      → IsBefore p (plain.Node rule alternative from to children) (plain.Node rule' alternative' from' to' children')
      ↔ PrecedesNested q (Nested sign inner) (NestedNode own from to (erased_children g hidden children))
      (NestedNode own' from' to' (erased_children g hidden children'))
  hidden_kept sign own own' inner rule alternative from to children rule' alternative' from' to' children' first first' score score' below =
      node_moves (algebra_of p).goal _ _ _ _ alternative alternative' 0 0 _ _ _ _ _ _ score score' first first'
      (cuts-erased g hidden to children) (cuts-erased g hidden to' children') (λ _. below)

  -- what is kept of two nested trees is kept of the trees that are erased to them
  kept_moved : (pattern : Pattern) (t u : plain.Tree) (x y : NestedTree) → erased_below g hidden t ≡ x
      → erased_below g hidden u ≡ y → IsBefore p t u ↔ PrecedesNested q pattern x y → IsKept pattern t u
  kept_moved pattern t u x y e e' kept =
      subst (λ z. IsBefore p t u ↔ PrecedesNested q pattern z (erased_below g hidden u)) (sym e)
      (subst (λ z. IsBefore p t u ↔ PrecedesNested q pattern x z) (sym e') kept)

  other_nodes_kept : (rule from from' : ℕ) (own alternative begin to : ℕ) (children : plain.Trees)
      (own' alternative' begin' to' : ℕ) (children' : plain.Trees) → is_hidden g hidden rule ≡ false
      → Derives p (record { rule = rule; from = from; to = to }) (plain.Node own alternative begin to children)
      → Derives p (record { rule = rule; from = from'; to = to' }) (plain.Node own' alternative' begin' to' children')
      → (alternative ≡ alternative' → AreKept (q.patterns rule alternative) children children')
      → IsKept (Plain (Rule rule)) (plain.Node own alternative begin to children)
      (plain.Node own' alternative' begin' to' children')
  other_nodes_kept rule from from' own alternative begin to children own' alternative' begin' to' children' is d d' below =
      kept_moved (Plain (Rule rule)) (plain.Node own alternative begin to children)
      (plain.Node own' alternative' begin' to' children') _ _
      (erased_other g hidden own alternative begin to children (ap (is_hidden g hidden) d.0 ∙ is))
      (erased_other g hidden own' alternative' begin' to' children' (ap (is_hidden g hidden) d'.0 ∙ is))
      (rules_kept (Plain (Rule rule)) (record { rule = rule; from = from; to = to })
      (record { rule = rule; from = from'; to = to' }) own alternative begin to children own' alternative' begin' to' children' d d'
      (λ one. subst (λ r. AreKept (q.patterns r alternative) children children') (sym d.0) (below one)))

  hidden_nodes_kept : (rule sign from from' : ℕ) (inner : Patterns) (own alternative begin to : ℕ)
      (children : plain.Trees) (own' alternative' begin' to' : ℕ) (children' : plain.Trees)
      → IsPatternOf g hidden (Rule rule) (Nested sign inner)
      → Derives p (record { rule = rule; from = from; to = to }) (plain.Node own alternative begin to children)
      → Derives p (record { rule = rule; from = from'; to = to' }) (plain.Node own' alternative' begin' to' children')
      → AreKept inner children children'
      → IsKept (Nested sign inner) (plain.Node own alternative begin to children)
      (plain.Node own' alternative' begin' to' children')
  hidden_nodes_kept rule sign from from' inner own alternative begin to children own' alternative' begin' to' children' is d d' below =
      let e = erased_hidden g hidden own alternative begin to children (ap (is_hidden g hidden) d.0 ∙ is.0) in
      let e' = erased_hidden g hidden own' alternative' begin' to' children' (ap (is_hidden g hidden) d'.0 ∙ is.0) in
      let score =
      value-erased q hidden alone hides (Rule rule) (Nested sign inner) from
      (plain.Node own alternative begin to children) is d in
      let score' =
      value-erased q hidden alone hides (Rule rule) (Nested sign inner) from'
      (plain.Node own' alternative' begin' to' children') is d' in
      kept_moved (Nested sign inner) (plain.Node own alternative begin to children)
      (plain.Node own' alternative' begin' to' children') _ _ e e'
      (hidden_kept sign (alternative_at g own alternative).sign
      (alternative_at g own' alternative').sign inner own alternative begin to children own' alternative' begin' to' children'
      (only_alternative g hidden alone rule alternative is.0 d.4)
      (only_alternative g hidden alone rule alternative' is.0 d'.4)
      (sym score ∙ ap (nested_score q (Nested sign inner)) e)
      (sym score' ∙ ap (nested_score q (Nested sign inner)) e') below)

  -- the trees are in one order, or they are one and those behind them are in one order
  either_moves : {A A' B B' C C' : Type 0} → A ↔ A' → B ↔ B' → C ↔ C' → (A ⊎ (B × C)) ↔ (A' ⊎ (B' × C'))
  either_moves {A} {A'} {B} {B'} {C} {C'} a b c = (there, back)
    where
      there : A ⊎ (B × C) → A' ⊎ (B' × C')
      there (inl x) = inl (a.0 x)
      there (inr y) = inr (b.0 y.0, c.0 y.1)

      back : A' ⊎ (B' × C') → A ⊎ (B × C)
      back (inl x) = inl (a.1 x)
      back (inr y) = inr (b.1 y.0, c.1 y.1)

  leaves_kept : (pattern : Pattern) (from to : ℕ) (u : plain.Tree) → IsKept pattern (plain.Leaf from to) u
  leaves_kept pattern from to u = ((λ h. h), (λ h. h))

  mutual
    kept_below : (argument : Arg) (pattern : Pattern) (from from' : ℕ) (t u : plain.Tree)
        → IsPatternOf g hidden argument pattern → IsChildOf p argument from t → IsChildOf p argument from' u
        → IsKept pattern t u
    kept_below argument pattern from from' (plain.Leaf begin to) u is h k = leaves_kept pattern begin to u
    kept_below argument (Plain (Rule rule)) from from' (plain.Node own alternative begin to children)
        (plain.Leaf begin' to') is h k =
        absurd (child_given p (Rule rule) argument from' (plain.Leaf begin' to') is.0 k)
    kept_below argument (Plain (Rule rule)) from from' (plain.Node own alternative begin to children)
        (plain.Node own' alternative' begin' to' children') is h k =
        let d : Derives p (record { rule = rule; from = from; to = to })
        (plain.Node own alternative begin to children) = child_given p (Rule rule) argument from
        (plain.Node own alternative begin to children) is.0 h in
        let d' : Derives p (record { rule = rule; from = from'; to = to' })
        (plain.Node own' alternative' begin' to' children') = child_given p (Rule rule) argument from'
        (plain.Node own' alternative' begin' to' children') is.0 k in
        other_nodes_kept rule from from' own alternative begin to children own' alternative' begin' to' children'
        (no_hidden_given g hidden (Rule rule) argument is.0 is.1) d d'
        (λ one. kept_children (arguments_of g rule alternative)
        (q.patterns rule alternative) from to from' to' children children' (hides rule alternative) d.5
        (subst (λ a. DeriveArguments p (arguments_of g rule a) from' to' children') (sym one) d'.5))
    kept_below argument (Plain (Literal text)) from from' (plain.Node own alternative begin to children) u is h k =
        absurd (child_given p (Literal text) argument from (plain.Node own alternative begin to children) is.0 h)
    kept_below argument (Plain (Letter class)) from from' (plain.Node own alternative begin to children) u is h k =
        absurd (child_given p (Letter class) argument from (plain.Node own alternative begin to children) is.0 h)
    kept_below argument (Plain (Run class low high)) from from'
        (plain.Node own alternative begin to children) u is h k = absurd
        (child_given p (Run class low high) argument from (plain.Node own alternative begin to children) is.0 h)
    kept_below (Rule rule) (Nested sign inner) from from' (plain.Node own alternative begin to children)
        (plain.Leaf begin' to') is h k = absurd k
    kept_below (Rule rule) (Nested sign inner) from from' (plain.Node own alternative begin to children)
        (plain.Node own' alternative' begin' to' children') is h k =
        let first : alternative ≡ 0 = only_alternative g hidden alone rule alternative is.0 h.4 in
        let first' : alternative' ≡ 0 = only_alternative g hidden alone rule alternative' is.0 k.4 in
        hidden_nodes_kept rule sign from from' inner own alternative begin to children own' alternative' begin' to' children' is h k
        (kept_children (arguments_of g rule 0) inner from to from' to' children children' is.2
        (subst (λ a. DeriveArguments p (arguments_of g rule a) from to children) first h.5)
        (subst (λ a. DeriveArguments p (arguments_of g rule a) from' to' children') first' k.5))
    kept_below (Literal text) (Nested sign inner) from from' (plain.Node own alternative begin to children) u is h k =
        absurd is
    kept_below (Letter class) (Nested sign inner) from from' (plain.Node own alternative begin to children) u is h k =
        absurd is
    kept_below (Run class low high) (Nested sign inner) from from'
        (plain.Node own alternative begin to children) u is h k = absurd is

    kept_children : (arguments : List Arg) (ps : Patterns) (from to from' to' : ℕ) (ts us : plain.Trees)
        → ArePatternsOf g hidden arguments ps
        → DeriveArguments p arguments from to ts → DeriveArguments p arguments from' to' us → AreKept ps ts us
    kept_children [] NoPatterns from to from' to' plain.Nil us are h k = ((λ h. h), (λ h. h))
    kept_children [] NoPatterns from to from' to' (plain.Cons t ts) us are h k = absurd h
    kept_children [] (FirstPattern pattern ps) from to from' to' ts us are h k = absurd are
    kept_children (argument ∷ arguments) NoPatterns from to from' to' ts us are h k = absurd are
    kept_children (argument ∷ arguments) (FirstPattern pattern ps) from to from' to' plain.Nil us are h k = absurd h
    kept_children (argument ∷ arguments) (FirstPattern pattern ps) from to from' to'
        (plain.Cons t ts) plain.Nil are h k = absurd k
    kept_children (argument ∷ arguments) (FirstPattern pattern ps) from to from' to' (plain.Cons t ts)
        (plain.Cons u us) are h k =
        let d = child_first p argument arguments from to t ts h in
        let d' = child_first p argument arguments from' to' u us k in
        either_moves (kept_below argument pattern from from' t u are.0 d.0 d'.0)
        (ap (erased_below g hidden), erased_below-injective p hidden alone argument from from' t u d.0 d'.0)
        (kept_children arguments ps (plain.end_of t) to (plain.end_of u) to' ts us are.1 d.1 d'.1)

  pub before-erased : (cell : Cell) (t u : plain.Tree) → Derives p cell t → Derives p cell u → IsBefore p t u
      ↔ IsNestedBefore q cell (erased g hidden t) (erased g hidden u)
  before-erased cell (plain.Leaf from to) u d d' = absurd d
  before-erased cell (plain.Node rule alternative from to children) (plain.Leaf from' to') d d' = absurd d'
  before-erased cell (plain.Node rule alternative from to children)
      (plain.Node rule' alternative' from' to' children') d d' =
      rules_kept (Plain (Rule cell.rule)) cell cell rule alternative from to children rule' alternative' from' to' children' d d'
      (λ one. kept_children (arguments_of g rule alternative)
      (q.patterns rule alternative) cell.from cell.to cell.from cell.to children children' (hides rule alternative)
      (subst (λ r. DeriveArguments p (arguments_of g r alternative) cell.from cell.to children) (sym d.0) d.5)
      (subst (λ r. DeriveArguments p (arguments_of g r alternative) cell.from cell.to children') (sym d.0)
      (subst (λ a. DeriveArguments p (arguments_of g cell.rule a) cell.from cell.to children') (sym one) d'.5)))
