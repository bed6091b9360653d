-- Replacing the rule children of a derived tree by the preferred trees of their cells never makes it later.
use Rattle.std.proofs.Common.{◌≡◌, ℕ, ◌-◌, ◌<◌, ℤ, ◌⊎◌, inl, inr, List, [], ◌∷◌, length, refl, sym, ap, ap₂, subst, arith}
use Rattle.std.proofs.lemmas.Int.{ints}
use Rattle.std.specs.List.{AllByRecursion}
use Rattle.adp_model.specs.declared.grammar.Arg.{Arg}
use Rattle.adp_model.specs.declared.grammar.Arg.TheVariants.{Rule}
use Rattle.adp_model.specs.declared.grammar.Goal.{Goal}
use Rattle.adp_model.specs.declared.grammar.Goal.TheVariants.{Least, Greatest}
use Rattle.adp_model.specs.declared.cell.Cell.{Cell}
use Rattle.adp_model.specs.PosedProblem.{PosedProblem, IsSpan}
use Rattle.adp_model.specs.Parts.{algebra_of, alternatives_of, alternative_at, arguments_of}
use Rattle.adp_model.specs.Lengths.{AllowsLength}
use Rattle.adp_model.specs.Tree.{Tree, Leaf, Node, Trees, Nil, Cons, end_of, ends_of}
use Rattle.adp_model.specs.Derivation.{Derives, DeriveArguments}
use Rattle.adp_model.specs.Scores.{score_of, values_of, IsBetter}
use Rattle.adp_model.specs.Preference.{cuts_of, FirstDifferencePrecedes, IsBefore, IsPreferred}
use Rattle.adp_model.specs.Answers.{choice_of}
use Rattle.adp_model.specs.Splits.{place, AtRule}
use Rattle.adp_model.specs.Bellman.{ArePreferred}
use Rattle.adp_model.proofs.Ends.{cuts_at}
use Rattle.adp_model.proofs.Derived.{HasFewArguments, end-derived}
use Rattle.adp_model.proofs.Order.{IsBefore_total}
use Rattle.adp_model.proofs.Premises.{IsSolved, IsComposed, IsSolvable, IsAsGood, AreAsGood}

-- ---- values

IsAsGood_refl : (goal : Goal) (a : ℤ) → IsAsGood goal a a
IsAsGood_refl Least a = omega (arith, ints)
IsAsGood_refl Greatest a = omega (arith, ints)

IsAsGood-better : (goal : Goal) (a b : ℤ) → IsBetter goal a b → IsAsGood goal a b
IsAsGood-better Least a b h = omega (arith, ints)
IsAsGood-better Greatest a b h = omega (arith, ints)

better_or_same : (goal : Goal) (a b : ℤ) → IsAsGood goal a b → IsBetter goal a b ⊎ (a ≡ b)
better_or_same Least a b h = grind (arith, ints)
better_or_same Greatest a b h = grind (arith, ints)

-- ---- children

-- a tree that is before another is as good
IsAsGood-before : (p : PosedProblem) (t u : Tree) → IsBefore p t u → IsAsGood (algebra_of p).goal (score_of p t) (score_of p u)
IsAsGood-before p (Leaf from to) u h = absurd h
IsAsGood-before p (Node rule alternative from to children) (Leaf from' to') h = absurd h
IsAsGood-before p (Node rule alternative from to children) (Node rule' alternative' from' to' children') (inl better) = IsAsGood-better _ _ _ better
IsAsGood-before p (Node rule alternative from to children) (Node rule' alternative' from' to' children') (inr h) = subst (IsAsGood (algebra_of p).goal (score_of p (Node rule alternative from to children))) h.0 (IsAsGood_refl _ _)

-- the same, or the first is before
abbrev pub IsAtLeast : PosedProblem → Tree → Tree → Type 0
IsAtLeast p t u = (t ≡ u) ⊎ IsBefore p t u

pub preferred_at_least : (p : PosedProblem) → HasFewArguments p.grammar → (cell : Cell) (t u : Tree) → IsPreferred p cell t → Derives p cell u → IsAtLeast p t u
preferred_at_least p few cell t u h d = go (IsBefore_total p few cell t u h.derived d)
  where
    go : (t ≡ u) ⊎ (IsBefore p t u ⊎ IsBefore p u t) → IsAtLeast p t u
    go (inl e) = inl e
    go (inr (inl b)) = inr b
    go (inr (inr b)) = absurd (h.first u d b)

pub IsAsGood-at_least : (p : PosedProblem) (t u : Tree) → IsAtLeast p t u → IsAsGood (algebra_of p).goal (score_of p t) (score_of p u)
IsAsGood-at_least p t u (inl e) = subst (λ x. IsAsGood (algebra_of p).goal (score_of p t) (score_of p x)) e (IsAsGood_refl _ _)
IsAsGood-at_least p t u (inr b) = IsAsGood-before p t u b

abbrev pub FirstDifference : PosedProblem → Trees → Trees → Type 0
FirstDifference p ts us = FirstDifferencePrecedes (IsBetter (algebra_of p).goal) (score_of p) ts us

pub record IsReplacement (p : PosedProblem) (arguments : List Arg) (from to : ℕ) (children others : Trees) : Type 0 where
  pub derived : DeriveArguments p arguments from to others
  pub preferred : ArePreferred p arguments from others
  pub ends_are : ends_of others ≡ ends_of children
  pub good : AreAsGood (algebra_of p).goal arguments (values_of p arguments others) (values_of p arguments children)
  pub at_least : (others ≡ children) ⊎ FirstDifference p others children

cons_at_least : (p : PosedProblem) (t u : Tree) (ts us : Trees) → IsAtLeast p t u → (ts ≡ us) ⊎ FirstDifference p ts us → (Cons t ts ≡ Cons u us) ⊎ FirstDifference p (Cons t ts) (Cons u us)
cons_at_least p t u ts us (inr b) h = inr (inl b)
cons_at_least p t u ts us (inl e) (inl f) = inl (ap₂ (λ x xs. Cons x xs) e f)
cons_at_least p t u ts us (inl e) (inr b) = inr (inr (e, b))

with_preferred : (p : PosedProblem) → HasFewArguments p.grammar → (rule : ℕ) (arguments : List Arg) (from to : ℕ) (t first : Tree) (ts others : Trees) → IsPreferred p (record { rule = rule; from = from; to = end_of first }) t → Derives p (record { rule = rule; from = from; to = end_of first }) first → IsReplacement p arguments (end_of first) to others ts → IsReplacement p (Rule rule ∷ arguments) from to (Cons first others) (Cons t ts)
with_preferred p few rule arguments from to t first ts others preferred d r =
    let e : end_of t ≡ end_of first = end-derived p _ t preferred.derived in
    let at_least : IsAtLeast p t first = preferred_at_least p few _ t first preferred d in
    record {
      derived = (subst (λ x. Derives p (record { rule = rule; from = from; to = x }) t) (sym e) preferred.derived, subst (λ x. DeriveArguments p arguments x to ts) (sym e) r.derived);
      preferred = (subst (λ x. IsPreferred p (record { rule = rule; from = from; to = x }) t) (sym e) preferred, subst (λ x. ArePreferred p arguments x ts) (sym e) r.preferred);
      ends_are = ap₂ (λ x xs. x ∷ xs) e r.ends_are;
      good = (IsAsGood-at_least p t first at_least, r.good);
      at_least = cons_at_least p t first ts others at_least r.at_least;
    }

with_solved : (p : PosedProblem) → HasFewArguments p.grammar → (rule : ℕ) (arguments : List Arg) (from to : ℕ) (first : Tree) (ts others : Trees) → IsSolved p (record { rule = rule; from = from; to = end_of first }) → Derives p (record { rule = rule; from = from; to = end_of first }) first → IsReplacement p arguments (end_of first) to others ts → (trees : Trees) × IsReplacement p (Rule rule ∷ arguments) from to (Cons first others) trees
with_solved p few rule arguments from to first ts others (inl none) d r = absurd (none first d)
with_solved p few rule arguments from to first ts others (inr found) d r = (Cons found.0 ts, with_preferred p few rule arguments from to found.0 first ts others found.1 d r)

pub children_replaced : (p : PosedProblem) → HasFewArguments p.grammar → (arguments : List Arg) (from to : ℕ) (children : Trees) → AllByRecursion (AtRule (IsSolved p)) (place arguments from (ends_of children)) → DeriveArguments p arguments from to children → (others : Trees) × IsReplacement p arguments from to children others
children_replaced p few [] from to Nil solved h = (Nil, record { derived = h; preferred = tt; ends_are = refl; good = refl; at_least = inl refl })
children_replaced p few [] from to (Cons first others) solved h = absurd h
children_replaced p few (argument ∷ arguments) from to Nil solved h = absurd h
children_replaced p few (Rule rule ∷ arguments) from to (Cons first others) solved h =
    let rest = children_replaced p few arguments (end_of first) to others solved.1 h.1 in
    with_solved p few rule arguments from to first rest.0 others solved.0 h.0 rest.1
children_replaced p few (token ∷ arguments) from to (Cons first others) solved h =
    let rest = children_replaced p few arguments (end_of first) to others solved.1 h.1 in (
      Cons first rest.0,
      record {
        derived = (h.0, rest.1.derived);
        preferred = rest.1.preferred;
        ends_are = ap (λ xs. end_of first ∷ xs) rest.1.ends_are;
        good = (refl, rest.1.good);
        at_least = cons_at_least p first first rest.0 others (inl refl) rest.1.at_least;
      },
    )

-- ---- trees

pub record IsReplaced (p : PosedProblem) (cell : Cell) (tree other : Tree) : Type 0 where
  pub composed : IsComposed p cell other
  pub choice_is : choice_of other ≡ choice_of tree
  pub at_least : IsAtLeast p other tree

node_at_least : (p : PosedProblem) (rule alternative from to : ℕ) (ts us : Trees) → IsAsGood (algebra_of p).goal (score_of p (Node rule alternative from to ts)) (score_of p (Node rule alternative from to us)) → cuts_of to ts ≡ cuts_of to us → (ts ≡ us) ⊎ FirstDifference p ts us → IsAtLeast p (Node rule alternative from to ts) (Node rule alternative from to us)
node_at_least p rule alternative from to ts us good cuts (inl e) = inl (ap (λ x. Node rule alternative from to x) e)
node_at_least p rule alternative from to ts us good cuts (inr b) = go (better_or_same _ _ _ good)
  where
    go : IsBetter (algebra_of p).goal (score_of p (Node rule alternative from to ts)) (score_of p (Node rule alternative from to us)) ⊎ (score_of p (Node rule alternative from to ts) ≡ score_of p (Node rule alternative from to us)) → IsAtLeast p (Node rule alternative from to ts) (Node rule alternative from to us)
    go (inl better) = inr (inl better)
    go (inr same) = inr (inr (same, inr (refl, inr (cuts, b))))

node_replaced : (p : PosedProblem) (measure : Cell → ℕ) → IsSolvable p measure → (cell : Cell) (alternative : ℕ) (children : Trees) → IsSpan p.word cell.from cell.to → alternative < length (alternatives_of p.grammar cell.rule) → AllowsLength (alternative_at p.grammar cell.rule alternative) (cell.to - cell.from) → AllByRecursion (AtRule (IsSolved p)) (place (arguments_of p.grammar cell.rule alternative) cell.from (ends_of children)) → DeriveArguments p (arguments_of p.grammar cell.rule alternative) cell.from cell.to children → (other : Tree) × IsReplaced p cell (Node cell.rule alternative cell.from cell.to children) other
node_replaced p measure solvable cell alternative children span in_range allowed solved h =
    let arguments : List Arg = arguments_of p.grammar cell.rule alternative in
    let found = children_replaced p solvable.few arguments cell.from cell.to children solved h in
    let ts : Trees = found.0 in
    let r : IsReplacement p arguments cell.from cell.to children ts = found.1 in
    let cuts : cuts_of cell.to ts ≡ cuts_of cell.to children = ap (cuts_at cell.to) r.ends_are in
    let good = solvable.orderly cell.rule alternative cell.from cell.to ts children in_range r.derived h r.good in (
      Node cell.rule alternative cell.from cell.to ts,
      record {
        composed = record { derived = (refl, refl, refl, span, in_range, r.derived, allowed); preferred = r.preferred };
        choice_is = ap (λ x. record { alt = alternative; cuts = x }) cuts;
        at_least = node_at_least p cell.rule alternative cell.from cell.to ts children good cuts r.at_least;
      },
    )

-- the cells of the rule children of the tree's root are solved
abbrev pub AreChildrenSolved : PosedProblem → Cell → Tree → Type 0
AreChildrenSolved p cell (Leaf from to) = Unit {0}
AreChildrenSolved p cell (Node rule alternative from to children) = AllByRecursion (AtRule (IsSolved p)) (place (arguments_of p.grammar cell.rule alternative) cell.from (ends_of children))

pub tree_replaced : (p : PosedProblem) (measure : Cell → ℕ) → IsSolvable p measure → (cell : Cell) (tree : Tree) → AreChildrenSolved p cell tree → Derives p cell tree → (other : Tree) × IsReplaced p cell tree other
tree_replaced p measure solvable cell (Leaf from to) solved d = absurd d
tree_replaced p measure solvable cell (Node rule alternative from to children) solved d =
    let e : Node cell.rule alternative cell.from cell.to children ≡ Node rule alternative from to children = cc (d.0, d.1, d.2) in
    subst (λ (tree : Tree). (other : Tree) × IsReplaced p cell tree other) e (node_replaced p measure solvable cell alternative children d.3 d.4 d.6 solved d.5)
