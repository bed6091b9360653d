-- Every cell has a preferred tree or none at all: by induction on the measure, the first of its composed trees.
use Rattle.std.proofs.Common.{◌≡◌, ℕ, zero, suc, ◌<◌, ◌≤◌, ℤ, ◌⊎◌, inl, inr, List, [], ◌∷◌, ◌++◌, length, take, refl, sym, ap, ap₂, subst, ◌∙◌, arith, suc-le-suc}
use Rattle.std.specs.List.{AllByRecursion}
use Rattle.adp_model.specs.declared.grammar.Arg.{Arg}
use Rattle.adp_model.specs.declared.grammar.Arg.TheVariants.{Rule}
use Rattle.adp_model.specs.declared.cell.Cell.{Cell}
use Rattle.adp_model.specs.declared.cell.Choice.{Choice}
use Rattle.adp_model.specs.PosedProblem.{PosedProblem, IsSpan}
use Rattle.adp_model.specs.Parts.{alternatives_of, arguments_of}
use Rattle.adp_model.specs.Tree.{Tree, Leaf, Node, Trees, Nil, Cons, end_of, ends_of}
use Rattle.adp_model.specs.Derivation.{Derives, DeriveArguments}
use Rattle.adp_model.specs.Scores.{score_of}
use Rattle.adp_model.specs.Preference.{cuts_of, IsBefore, IsPreferred}
use Rattle.adp_model.specs.Answers.{choice_of}
use Rattle.adp_model.specs.Splits.{place, FitsSpan, IsViable, AtRule}
use Rattle.adp_model.specs.FirstSplit.{IsScoredSplit}
use Rattle.adp_model.specs.Bellman.{HasBestScore, ArePreferred}
use Rattle.adp_model.proofs.Derived.{HasFewArguments, ends-derived_unique, length-cuts_of, leaf_unique, length-derived}
use Rattle.adp_model.proofs.Order.{IsBefore_trans, IsPreferred_unique}
use Rattle.adp_model.proofs.Ends.{last_end}
use Rattle.adp_model.proofs.Premises.{IsFew-arguments, IsSolved, IsComposed, IsSolvable}
use Rattle.adp_model.proofs.SplitTrees.{tree_of_split, IsScoredSplit-composed, IsViable-derived, root_placed, fits-derived, last-ends}
use Rattle.adp_model.proofs.Replacement.{IsAtLeast, AreChildrenSolved, tree_replaced}
use Rattle.adp_model.proofs.Decisions.{Decided}
use Rattle.adp_model.proofs.Deciding.{viable_or_not, scored_or_not}
use Rattle.adp_model.proofs.Choosing.{IsFirst, HasFirst, HasFirst-same, HasFirst-only, HasFirst-below}

-- ---- a composed tree is told by its choice

children_unique : (p : PosedProblem) → HasFewArguments p.grammar → (arguments : List Arg) (from to : ℕ) (ts us : Trees) → DeriveArguments p arguments from to ts → DeriveArguments p arguments from to us → ArePreferred p arguments from ts → ArePreferred p arguments from us → ends_of ts ≡ ends_of us → ts ≡ us
children_unique p few [] from to Nil Nil h k a b e = refl
children_unique p few [] from to Nil (Cons u us) h k a b e = absurd k
children_unique p few [] from to (Cons t ts) us h k a b e = absurd h
children_unique p few (argument ∷ arguments) from to Nil us h k a b e = absurd h
children_unique p few (argument ∷ arguments) from to (Cons t ts) Nil h k a b e = absurd k
children_unique p few (Rule rule ∷ arguments) from to (Cons t ts) (Cons u us) h k a b e =
    let same : end_of t ≡ end_of u = cc in
    let first : t ≡ u = IsPreferred_unique p few (record { rule = rule; from = from; to = end_of t }) t u a.0 (subst (λ x. IsPreferred p (record { rule = rule; from = from; to = x }) u) (sym same) b.0) in
    ap₂ (λ x xs. Cons x xs) first
    (children_unique p few arguments (end_of t) to ts us h.1 (subst (λ x. DeriveArguments p arguments x to us) (sym same) k.1) a.1 (subst (λ x. ArePreferred p arguments x us) (sym same) b.1) (cc))
children_unique p few (token ∷ arguments) from to (Cons t ts) (Cons u us) h k a b e =
    let same : end_of t ≡ end_of u = cc in
    ap₂ (λ x xs. Cons x xs) (leaf_unique p token from t u h.0 k.0 same)
    (children_unique p few arguments (end_of t) to ts us h.1 (subst (λ x. DeriveArguments p arguments x to us) (sym same) k.1) a (subst (λ x. ArePreferred p arguments x us) (sym same) b) (cc))

pub composed_unique : (p : PosedProblem) → HasFewArguments p.grammar → (cell : Cell) (t u : Tree) → IsComposed p cell t → IsComposed p cell u → choice_of t ≡ choice_of u → t ≡ u
composed_unique p few cell (Leaf from to) u h k e = absurd h.derived
composed_unique p few cell (Node rule alternative from to ts) (Leaf from' to') h k e = absurd k.derived
composed_unique p few cell (Node rule alternative from to ts) (Node rule' alternative' from' to' us) h k e =
    let d = h.derived in
    let d' = k.derived in
    let alternatives : alternative ≡ alternative' = ap (λ (c : Choice). c.alt) e in
    let arguments : List Arg = arguments_of p.grammar cell.rule alternative in
    let cuts : cuts_of to ts ≡ cuts_of to' us = ap (λ (c : Choice). c.cuts) e in
    let cuts' : cuts_of cell.to ts ≡ cuts_of cell.to us = subst (λ x. cuts_of x ts ≡ cuts_of cell.to us) d.2 (subst (λ x. cuts_of to ts ≡ cuts_of x us) d'.2 cuts) in
    let derived' : DeriveArguments p arguments cell.from cell.to us = subst (λ x. DeriveArguments p (arguments_of p.grammar cell.rule x) cell.from cell.to us) (sym alternatives) d'.5 in
    let preferred' : ArePreferred p arguments cell.from us = subst (λ x. ArePreferred p (arguments_of p.grammar cell.rule x) cell.from us) (sym alternatives) k.preferred in
    let children : ts ≡ us = children_unique p few arguments cell.from cell.to ts us d.5 derived' h.preferred preferred' (ends-derived_unique p arguments cell.from cell.to ts us (few cell.rule alternative) d.5 derived' cuts') in
    cc (d.0, d.1, d.2, d'.0, d'.1, d'.2)

-- ---- what smaller cells' answers give

-- all cells of the word below a measure are solved
abbrev pub AreSolvedBelow : PosedProblem → (Cell → ℕ) → ℕ → Type 0
AreSolvedBelow p measure bound = (child : Cell) → IsSpan p.word child.from child.to → measure child < bound → IsSolved p child

solved_placed : (p : PosedProblem) (measure : Cell → ℕ) (bound : ℕ) → AreSolvedBelow p measure bound → (arguments : List Arg) (from : ℕ) (ends : List ℕ) → AllByRecursion (FitsSpan p) (place arguments from ends) → AllByRecursion (AtRule (λ child. measure child < bound)) (place arguments from ends) → AllByRecursion (AtRule (IsSolved p)) (place arguments from ends)
solved_placed p measure bound solved [] from ends fits below = tt
solved_placed p measure bound solved (argument ∷ arguments) from [] fits below = tt
solved_placed p measure bound solved (Rule rule ∷ arguments) from (to ∷ ends) fits below =
    (solved (record { rule = rule; from = from; to = to }) fits.0.0 below.0, solved_placed p measure bound solved arguments to ends fits.1 below.1)
solved_placed p measure bound solved (token ∷ arguments) from (to ∷ ends) fits below =
    (tt, solved_placed p measure bound solved arguments to ends fits.1 below.1)

-- the rule children of a derived tree are solved
children_solved : (p : PosedProblem) (measure : Cell → ℕ) → IsSolvable p measure → (cell : Cell) → AreSolvedBelow p measure (measure cell) → (tree : Tree) → Derives p cell tree → AreChildrenSolved p cell tree
children_solved p measure solvable cell solved (Leaf from to) d = tt
children_solved p measure solvable cell solved (Node rule alternative from to children) d =
    let arguments : List Arg = arguments_of p.grammar cell.rule alternative in
    let viable = IsViable-derived p measure solvable cell alternative children d.4 d.6 d.5 in
    solved_placed p measure (measure cell) solved arguments cell.from (ends_of children)
    (fits-derived p measure solvable arguments cell.from cell.to children d.5)
    (subst (AllByRecursion (AtRule (λ child. measure child < measure cell))) (root_placed p cell alternative children (IsFew-arguments p measure solvable cell.rule alternative d.4) d.5) (solvable.falls cell alternative (cuts_of cell.to children) d.3 viable))

-- ---- the cell's first composed tree

-- the tree is composed with this choice
abbrev HasChoice : PosedProblem → Cell → Choice → Tree → Type 0
HasChoice p cell choice tree = IsComposed p cell tree × (choice_of tree ≡ choice)

choice_or_not : (p : PosedProblem) (measure : Cell → ℕ) → IsSolvable p measure → (cell : Cell) → IsSpan p.word cell.from cell.to → AreSolvedBelow p measure (measure cell) → (alternative : ℕ) (cuts : List ℕ) → alternative < length (alternatives_of p.grammar cell.rule) → length cuts ≡ 3 → ((tree : Tree) × HasChoice p cell (record { alt = alternative; cuts = cuts }) tree) ⊎ ((tree : Tree) → HasChoice p cell (record { alt = alternative; cuts = cuts }) tree → ⊥)
choice_or_not p measure solvable cell span solved alternative cuts in_range three = by_viable (viable_or_not p measure solvable cell alternative cuts in_range three)
  where
    split_of : (tree : Tree) → HasChoice p cell (record { alt = alternative; cuts = cuts }) tree → IsScoredSplit p (HasBestScore p) cell (score_of p tree) (record { alt = alternative; cuts = cuts })
    split_of tree h = subst (IsScoredSplit p (HasBestScore p) cell (score_of p tree)) h.1 (IsScoredSplit-composed p measure solvable cell tree h.0)

    by_score : Decided ((score : ℤ) × IsScoredSplit p (HasBestScore p) cell score (record { alt = alternative; cuts = cuts })) → ((tree : Tree) × HasChoice p cell (record { alt = alternative; cuts = cuts }) tree) ⊎ ((tree : Tree) → HasChoice p cell (record { alt = alternative; cuts = cuts }) tree → ⊥)
    by_score (inl found) =
        let made = tree_of_split p measure solvable cell found.0 (record { alt = alternative; cuts = cuts }) span found.1 in
        inl (made.0, (made.1.composed, sym made.1.choice_is))
    by_score (inr none) = inr (λ tree h. none (score_of p tree, split_of tree h))

    by_viable : Decided (IsViable p cell alternative cuts) → ((tree : Tree) × HasChoice p cell (record { alt = alternative; cuts = cuts }) tree) ⊎ ((tree : Tree) → HasChoice p cell (record { alt = alternative; cuts = cuts }) tree → ⊥)
    by_viable (inl viable) =
        by_score (scored_or_not p cell (record { alt = alternative; cuts = cuts }) viable
        (solved_placed p measure (measure cell) solved (arguments_of p.grammar cell.rule alternative) cell.from (cuts ++ cell.to ∷ []) viable.fits (solvable.falls cell alternative cuts span viable)))
    by_viable (inr none) = inr (λ tree h. none (split_of tree h).viable)

first_of_choice : (p : PosedProblem) (measure : Cell → ℕ) → IsSolvable p measure → (cell : Cell) → IsSpan p.word cell.from cell.to → AreSolvedBelow p measure (measure cell) → (alternative : ℕ) (cuts : List ℕ) → alternative < length (alternatives_of p.grammar cell.rule) → length cuts ≡ 3 → HasFirst p (HasChoice p cell (record { alt = alternative; cuts = cuts }))
first_of_choice p measure solvable cell span solved alternative cuts in_range three =
    HasFirst-only p (HasChoice p cell (record { alt = alternative; cuts = cuts })) (λ t u h k. composed_unique p solvable.few cell t u h.0 k.0 (h.1 ∙ sym k.1))
    (choice_or_not p measure solvable cell span solved alternative cuts in_range three)

-- ---- all choices

-- the boundaries rise
abbrev IsRising : ℕ → List ℕ → Type 0
IsRising from [] = Unit {0}
IsRising from (end ∷ ends) = (from ≤ end) × IsRising end ends

rising_placed : (p : PosedProblem) (arguments : List Arg) (from : ℕ) (ends : List ℕ) → length ends ≡ length arguments → AllByRecursion (FitsSpan p) (place arguments from ends) → IsRising from ends
rising_placed p [] from [] e fits = tt
rising_placed p [] from (to ∷ ends) e fits = absurd (omega arith)
rising_placed p (argument ∷ arguments) from [] e fits = tt
rising_placed p (argument ∷ arguments) from (to ∷ ends) e fits = (fits.0.0.in_order, rising_placed p arguments to ends (omega arith) fits.1)

last_from : (from : ℕ) (ends : List ℕ) → IsRising from ends → from ≤ last_end from ends
last_from from [] h = omega arith
last_from from (end ∷ ends) h = let k : end ≤ last_end end ends = last_from end ends h.1 in let m : from ≤ end = h.0 in omega arith

ends_bounded : (from to : ℕ) (ends : List ℕ) → IsRising from ends → last_end from ends ≤ to → AllByRecursion (λ end. end ≤ to) ends
ends_bounded from to [] h k = tt
ends_bounded from to (end ∷ ends) h k = let m : end ≤ last_end end ends = last_from end ends h.1 in (omega arith, ends_bounded end to ends h.1 k)

cuts_bounded : (count to : ℕ) (ends filling : List ℕ) → AllByRecursion (λ end. end ≤ to) ends → AllByRecursion (λ end. end ≤ to) filling → AllByRecursion (λ end. end ≤ to) (take count (ends ++ filling))
cuts_bounded zero to ends filling h k = tt
cuts_bounded (suc count) to [] [] h k = tt
cuts_bounded (suc count) to [] (end ∷ filling) h k = (k.0, cuts_bounded count to [] filling h k.1)
cuts_bounded (suc count) to (end ∷ ends) filling h k = (h.0, cuts_bounded count to ends filling h.1 k)

-- the cuts of a derived tree lie in its span
root_bounded : (p : PosedProblem) (measure : Cell → ℕ) → IsSolvable p measure → (arguments : List Arg) (from to : ℕ) (children : Trees) → DeriveArguments p arguments from to children → AllByRecursion (λ end. end ≤ to) (cuts_of to children)
root_bounded p measure solvable arguments from to children h =
    let rising = rising_placed p arguments from (ends_of children) (length-derived p arguments from to children h) (fits-derived p measure solvable arguments from to children h) in
    let last : last_end from (ends_of children) ≡ to = last-ends p arguments from to children h in
    cuts_bounded 3 to (ends_of children) (to ∷ to ∷ to ∷ []) (ends_bounded from to (ends_of children) rising (omega arith)) (omega arith, (omega arith, (omega arith, tt)))

-- the tree is composed with this alternative and these cuts, each below a bound
abbrev IsAmong : PosedProblem → Cell → ℕ → Tree → Type 0
IsAmong p cell alternative tree =
    (a : ℕ) × (a < suc cell.to) × ((b : ℕ) × (b < suc cell.to) × ((c : ℕ) × (c < suc cell.to) × HasChoice p cell (record { alt = alternative; cuts = a ∷ b ∷ c ∷ [] }) tree))

among_cuts : (p : PosedProblem) (cell : Cell) (alternative : ℕ) (cuts : List ℕ) (tree : Tree) → length cuts ≡ 3 → AllByRecursion (λ end. end ≤ cell.to) cuts → HasChoice p cell (record { alt = alternative; cuts = cuts }) tree → IsAmong p cell alternative tree
among_cuts p cell alternative [] tree three bounded h = absurd (omega arith)
among_cuts p cell alternative (a ∷ []) tree three bounded h = absurd (omega arith)
among_cuts p cell alternative (a ∷ b ∷ []) tree three bounded h = absurd (omega arith)
among_cuts p cell alternative (a ∷ b ∷ c ∷ []) tree three bounded h =
    (a, suc-le-suc bounded.0, (b, suc-le-suc bounded.1.0, (c, suc-le-suc bounded.1.1.0, h)))
among_cuts p cell alternative (a ∷ b ∷ c ∷ d ∷ cuts) tree three bounded h = absurd (omega arith)

among_composed : (p : PosedProblem) (measure : Cell → ℕ) → IsSolvable p measure → (cell : Cell) (tree : Tree) → IsComposed p cell tree → (alternative : ℕ) × (alternative < length (alternatives_of p.grammar cell.rule)) × IsAmong p cell alternative tree
among_composed p measure solvable cell (Leaf from to) h = absurd h.derived
among_composed p measure solvable cell (Node rule alternative from to children) h =
    let d = h.derived in
    let bounded = root_bounded p measure solvable (arguments_of p.grammar cell.rule alternative) cell.from cell.to children d.5 in
    let e : cuts_of to children ≡ cuts_of cell.to children = ap (λ x. cuts_of x children) d.2 in
    (alternative, d.4, among_cuts p cell alternative (cuts_of cell.to children) (Node rule alternative from to children) (length-cuts_of cell.to children) bounded (h, ap (λ x. record { alt = alternative; cuts = x }) e))

first_of_alternative : (p : PosedProblem) (measure : Cell → ℕ) → IsSolvable p measure → (cell : Cell) → IsSpan p.word cell.from cell.to → AreSolvedBelow p measure (measure cell) → (alternative : ℕ) → alternative < length (alternatives_of p.grammar cell.rule) → HasFirst p (IsAmong p cell alternative)
first_of_alternative p measure solvable cell span solved alternative in_range =
    HasFirst-below p solvable.few cell
    (λ a tree. (b : ℕ) × (b < suc cell.to) × ((c : ℕ) × (c < suc cell.to) × HasChoice p cell (record { alt = alternative; cuts = a ∷ b ∷ c ∷ [] }) tree))
    (λ a tree h. h.2.2.0.derived)
    (suc cell.to)
    (λ a below. HasFirst-below p solvable.few cell
    (λ b tree. (c : ℕ) × (c < suc cell.to) × HasChoice p cell (record { alt = alternative; cuts = a ∷ b ∷ c ∷ [] }) tree)
    (λ b tree h. h.2.0.derived)
    (suc cell.to)
    (λ b below. HasFirst-below p solvable.few cell
    (λ c tree. HasChoice p cell (record { alt = alternative; cuts = a ∷ b ∷ c ∷ [] }) tree)
    (λ c tree h. h.0.derived)
    (suc cell.to)
    (λ c below. first_of_choice p measure solvable cell span solved alternative (a ∷ b ∷ c ∷ []) in_range refl)))

first_composed : (p : PosedProblem) (measure : Cell → ℕ) → IsSolvable p measure → (cell : Cell) → IsSpan p.word cell.from cell.to → AreSolvedBelow p measure (measure cell) → HasFirst p (IsComposed p cell)
first_composed p measure solvable cell span solved =
    HasFirst-same p (λ tree. (alternative : ℕ) × (alternative < length (alternatives_of p.grammar cell.rule)) × IsAmong p cell alternative tree) (IsComposed p cell)
    (λ tree h. h.2.2.2.2.0)
    (among_composed p measure solvable cell)
    (HasFirst-below p solvable.few cell (IsAmong p cell) (λ alternative tree h. h.2.2.2.0.derived) (length (alternatives_of p.grammar cell.rule))
    (first_of_alternative p measure solvable cell span solved))

-- ---- all cells

-- a tree that is not before another, where a third is at least as early as it, is not after that one either
at_least_before : (p : PosedProblem) (t u v : Tree) → IsAtLeast p t u → IsBefore p u v → IsBefore p t v
at_least_before p t u v (inl e) h = subst (λ x. IsBefore p x v) (sym e) h
at_least_before p t u v (inr before) h = IsBefore_trans p t u v before h

-- the first composed tree is preferred
pub preferred_first : (p : PosedProblem) (measure : Cell → ℕ) → IsSolvable p measure → (cell : Cell) → ((tree : Tree) → Derives p cell tree → AreChildrenSolved p cell tree) → (tree : Tree) → IsFirst p (IsComposed p cell) tree → IsPreferred p cell tree
preferred_first p measure solvable cell solved tree first = record { derived = first.holds.derived; first = none }
  where
    none : (other : Tree) → Derives p cell other → IsBefore p other tree → ⊥
    none other d before =
        let replaced = tree_replaced p measure solvable cell other (solved other d) d in
        first.first replaced.0 replaced.1.composed (at_least_before p replaced.0 other tree replaced.1.at_least before)

IsSolved-first : (p : PosedProblem) (measure : Cell → ℕ) → IsSolvable p measure → (cell : Cell) → ((tree : Tree) → Derives p cell tree → AreChildrenSolved p cell tree) → HasFirst p (IsComposed p cell) → IsSolved p cell
IsSolved-first p measure solvable cell solved (inl none) = inl (λ tree d. none _ (tree_replaced p measure solvable cell tree (solved tree d) d).1.composed)
IsSolved-first p measure solvable cell solved (inr found) = inr (found.0, preferred_first p measure solvable cell solved found.0 found.1)

solved_below : (p : PosedProblem) (measure : Cell → ℕ) → IsSolvable p measure → (bound : ℕ) → AreSolvedBelow p measure bound
solved_below p measure solvable zero cell span below = absurd (omega arith)
solved_below p measure solvable (suc bound) cell span below =
    let smaller = λ (child : Cell) (inside : IsSpan p.word child.from child.to) (k : measure child < measure cell). solved_below p measure solvable bound child inside (omega arith) in
    IsSolved-first p measure solvable cell (children_solved p measure solvable cell smaller) (first_composed p measure solvable cell span smaller)

-- every cell has a preferred tree or none at all
pub IsSolved-cell : (p : PosedProblem) (measure : Cell → ℕ) → IsSolvable p measure → (cell : Cell) → IsSpan p.word cell.from cell.to → IsSolved p cell
IsSolved-cell p measure solvable cell span = solved_below p measure solvable (suc (measure cell)) cell span (omega arith)

pub children_solved_always : (p : PosedProblem) (measure : Cell → ℕ) → IsSolvable p measure → (cell : Cell) (tree : Tree) → Derives p cell tree → AreChildrenSolved p cell tree
children_solved_always p measure solvable cell = children_solved p measure solvable cell (λ child span below. IsSolved-cell p measure solvable child span)
