-- A split whose rule arguments have best scores is the root of a derived tree, so its term's magnitude is in range.
use Rattle.std.proofs.Common.{◌≡◌, ℕ, suc, ◌-◌, ◌≤◌, ℤ, List, [], ◌∷◌, length, map, drop, nat_abs, refl, sym, ap₂, subst, arith}
use Rattle.std.specs.List.{AllByRecursion}
use Rattle.adp_model.specs.declared.grammar.Arg.{Arg}
use Rattle.adp_model.specs.declared.grammar.Arg.TheVariants.{Rule}
use Rattle.adp_model.specs.declared.cell.Cell.{Cell}
use Rattle.adp_model.specs.declared.cell.Choice.{Choice}
use Rattle.adp_model.specs.PosedProblem.{PosedProblem, IsSpan}
use Rattle.adp_model.specs.Parts.{arguments_of, term_of}
use Rattle.adp_model.specs.Terms.{magnitude}
use Rattle.adp_model.specs.Tree.{Tree, Leaf, Node, Trees, Nil, Cons, end_of}
use Rattle.adp_model.specs.Derivation.{Derives, DeriveArguments}
use Rattle.adp_model.specs.Scores.{values_of, root_magnitude}
use Rattle.adp_model.specs.Bellman.{HasBestScore}
use Rattle.adp_model.specs.Splits.{place, placed, ends_by, FitsSpan, IsViable}
use Rattle.adp_model.specs.FirstSplit.{AreArgumentValues}

-- children of these arguments, with these values
record HasChildren (p : PosedProblem) (arguments : List Arg) (from to : ℕ) (values : List ℤ) : Type 0 where
  children : Trees
  derived : DeriveArguments p arguments from to children
  valued : values_of p arguments children ≡ values

-- derived trees end where their cells end
abbrev pub EndWithCells : PosedProblem → Type 0
EndWithCells p = (cell : Cell) (tree : Tree) → Derives p cell tree → end_of tree ≡ cell.to

with_rule : (p : PosedProblem) → EndWithCells p
    → (rule : ℕ) (arguments : List Arg) (from end to : ℕ) (value : ℤ) (values : List ℤ)
    → HasBestScore p (record { rule = rule; from = from; to = end }) value → HasChildren p arguments end to values
    → HasChildren p (Rule rule ∷ arguments) from to (value ∷ values)
with_rule p ends rule arguments from end to value values best others =
    let tree : Tree = best.1.0 in
    let derived : Derives p (record { rule = rule; from = from; to = end }) tree = best.1.1.derived in
    let here : end_of tree ≡ end = ends (record { rule = rule; from = from; to = end }) tree derived in
    record {
      children = Cons tree others.children;
      derived = (
        subst (λ x. Derives p (record { rule = rule; from = from; to = x }) tree) (sym here) derived,
        subst (λ x. DeriveArguments p arguments x to others.children) (sym here) others.derived,
      );
      valued = ap₂ (λ x xs. x ∷ xs) (sym best.1.2) others.valued;
    }

-- the last of the ends and those behind it are the cell's end
abbrev EndAt : ℕ → List Arg → List ℕ → Type 0
EndAt to arguments ends = AllByRecursion (λ boundary. boundary ≡ to) (drop (length arguments - 1) ends)

one_less : (n : ℕ) → suc n - 1 ≡ n
one_less n = omega arith

last_end : (to : ℕ) (argument : Arg) (end : ℕ) (ends : List ℕ) → EndAt to (argument ∷ []) (end ∷ ends) → end ≡ to
last_end to argument end ends h = let k = subst (λ n. AllByRecursion (λ boundary. boundary ≡ to) (drop n (end ∷ ends))) (one_less 0) h in k.0

later_ends : (to : ℕ) (argument next : Arg) (arguments : List Arg) (end : ℕ) (ends : List ℕ)
    → EndAt to (argument ∷ next ∷ arguments) (end ∷ ends) → EndAt to (next ∷ arguments) ends
later_ends to argument next arguments end ends h =
    let k = subst (λ n. AllByRecursion (λ boundary. boundary ≡ to) (drop n (end ∷ ends))) (one_less (suc (length arguments))) h in
    subst (λ n. AllByRecursion (λ boundary. boundary ≡ to) (drop n ends)) (sym (one_less (length arguments))) k

no_ends : (n : ℕ) → suc n ≤ 0 → ⊥
no_ends n h = omega arith

fewer : (m n : ℕ) → suc m ≤ suc n → m ≤ n
fewer m n h = omega arith

with_argument : (p : PosedProblem) → EndWithCells p
    → (argument : Arg) (arguments : List Arg) (from end to : ℕ) (value : ℤ) (values : List ℤ)
    → AllByRecursion (FitsSpan p) (place (argument ∷ []) from (end ∷ []))
    → AreArgumentValues p (HasBestScore p) (place (argument ∷ []) from (end ∷ [])) (value ∷ [])
    → HasChildren p arguments end to values → HasChildren p (argument ∷ arguments) from to (value ∷ values)
with_argument p ends (Rule rule) arguments from end to value values fits best others = with_rule p ends rule arguments from end to value values best.0 others
with_argument p ends token arguments from end to value values fits best others = record {
  children = Cons (Leaf from end) others.children;
  derived = ((refl, fits.0.0, fits.0.1), others.derived);
  valued = ap₂ (λ x xs. x ∷ xs) (sym best.0) others.valued;
}

children_of : (p : PosedProblem) → EndWithCells p
    → (argument : Arg) (arguments : List Arg) (from to : ℕ) (ends : List ℕ) (values : List ℤ)
    → length (argument ∷ arguments) ≤ length ends → EndAt to (argument ∷ arguments) ends
    → AllByRecursion (FitsSpan p) (place (argument ∷ arguments) from ends)
    → AreArgumentValues p (HasBestScore p) (place (argument ∷ arguments) from ends) values
    → HasChildren p (argument ∷ arguments) from to values
children_of p spans argument arguments from to [] values enough last fits best = absurd (no_ends (length arguments) enough)
children_of p spans argument arguments from to (end ∷ ends) [] enough last fits best = absurd best
children_of p spans argument [] from to (end ∷ ends) (value ∷ []) enough last fits best =
    with_argument p spans argument [] from end to value [] (fits.0, tt) (best.0, tt) (record { children = Nil; derived = last_end to argument end ends last; valued = refl })
children_of p spans argument [] from to (end ∷ ends) (value ∷ other ∷ values) enough last fits best = absurd best.1
children_of p spans argument (next ∷ arguments) from to (end ∷ ends) (value ∷ values) enough last fits best =
    with_argument p spans argument (next ∷ arguments) from end to value values (fits.0, tt) (best.0, tt)
    (children_of p spans next arguments end to ends values (fewer (suc (length arguments)) (length ends) enough) (later_ends to argument next arguments end ends last) fits.1 best.1)

-- the bound of a word bounds the magnitude of such a split
pub split_within : (p : PosedProblem) → EndWithCells p → (bound : ℕ)
    → ((cell : Cell) (tree : Tree) → Derives p cell tree → root_magnitude p tree ≤ bound) → (cell : Cell)
    → IsSpan p.word cell.from cell.to → (choice : Choice) (values : List ℤ)
    → 1 ≤ length (arguments_of p.grammar cell.rule choice.alt)
    → length (arguments_of p.grammar cell.rule choice.alt) ≤ length (ends_by cell choice.cuts)
    → IsViable p cell choice.alt choice.cuts
    → AreArgumentValues p (HasBestScore p) (placed p cell choice.alt choice.cuts) values
    → magnitude (term_of p cell.rule choice.alt) (map nat_abs values) ≤ bound
split_within p spans bound bounded cell span choice values some few viable best = by (arguments_of p.grammar cell.rule choice.alt) refl
  where
    by : (arguments : List Arg) → arguments_of p.grammar cell.rule choice.alt ≡ arguments
        → magnitude (term_of p cell.rule choice.alt) (map nat_abs values) ≤ bound
    by [] is = absurd (no_ends 0 (subst (λ (x : List Arg). 1 ≤ length x) is some))
    by (argument ∷ arguments) is =
        let made = children_of p spans argument arguments cell.from cell.to (ends_by cell choice.cuts) values
        (subst (λ (x : List Arg). length x ≤ length (ends_by cell choice.cuts)) is few)
        (subst (λ (x : List Arg). EndAt cell.to x (ends_by cell choice.cuts)) is viable.last)
        (subst (λ (x : List Arg). AllByRecursion (FitsSpan p) (place x cell.from (ends_by cell choice.cuts))) is viable.fits)
        (subst (λ (x : List Arg). AreArgumentValues p (HasBestScore p) (place x cell.from (ends_by cell choice.cuts)) values) is best) in
        let derived = subst (λ (x : List Arg). DeriveArguments p x cell.from cell.to made.children) (sym is) made.derived in
        let valued = subst (λ (x : List Arg). values_of p x made.children ≡ values) (sym is) made.valued in
        let tree : Tree = Node cell.rule choice.alt cell.from cell.to made.children in
        let low = bounded cell tree (refl, refl, refl, span, viable.in_range, derived, viable.allowed) in
        subst (λ (x : List ℤ). magnitude (term_of p cell.rule choice.alt) (map nat_abs x) ≤ bound) valued low
