-- A number that falls while a walk goes on.
use Rattle.std.proofs.Common.{◌≡◌, ℕ, suc, ◌+◌, ◌-◌, ◌*◌, ◌<◌, ◌≤◌, true, Option, Some, None, List, [], ◌∷◌, ◌++◌, length, refl, sym, ap, ◌∙◌, inl, inr, arith}
use Rattle.std.specs.List.{AllByRecursion}
use Rattle.std.proofs.Math.Nat.{mul-le-mul_right}
use Rattle.std.proofs.lemmas.Nat.{mod_below}
use Rattle.adp_model.specs.declared.cell.Cell.{Cell}
use Rattle.adp_model.specs.PosedProblem.{PosedProblem}
use Rattle.adp_model.specs.Parts.{alternatives_of}
use Rattle.adp_model.specs.Preference.{LexicographicallyLess}
use Rattle.adp_model.specs.Walk.{ranks_of}
use Rattle.memo_model.specs.declared.visit.Position.{Position}
use Rattle.memo_model.specs.declared.visit.Visit.{Visit}
use Rattle.memo_model.specs.Visits.{visited_at, is_less, argument_at}
use Rattle.argument_search.proofs.VisitOrder.{lex_from}

abbrev power : List ℕ → ℕ
power [] = 1
power (x ∷ xs) = 4001 * power xs

abbrev left_by : List ℕ → ℕ
left_by [] = 0
left_by (x ∷ xs) = (4000 - x) * power xs + left_by xs

left_low : (xs : List ℕ) → left_by xs < power xs
left_low [] = omega arith
left_low (x ∷ xs) =
    let l = left_low xs in
    let k : 4000 - x ≤ 4000 = omega arith in
    let m : (4000 - x) * power xs ≤ 4000 * power xs = mul-le-mul_right (power xs) k in
    omega arith

power_same : (xs ys : List ℕ) → length xs ≡ length ys → power xs ≡ power ys
power_same [] [] e = refl
power_same [] (y ∷ ys) e = absurd (omega arith)
power_same (x ∷ xs) [] e = absurd (omega arith)
power_same (x ∷ xs) (y ∷ ys) e = ap (λ n. 4001 * n) (power_same xs ys (omega arith))

left_falls : (xs ys : List ℕ) → length xs ≡ length ys → AllByRecursion (λ y. y ≤ 4000) ys → LexicographicallyLess xs ys
    → left_by ys < left_by xs
left_falls [] ys e low l = absurd l
left_falls (x ∷ xs) [] e low l = absurd l
left_falls (x ∷ xs) (y ∷ ys) e low (inl l) =
    let p : power xs ≡ power ys = power_same xs ys (omega arith) in
    let m : y ≤ 4000 = low.0 in
    let k : (4000 - y) + 1 ≤ 4000 - x = omega arith in
    let n : ((4000 - y) + 1) * power ys ≤ (4000 - x) * power ys = mul-le-mul_right (power ys) k in
    let parts : ((4000 - y) + 1) * power ys ≡ (4000 - y) * power ys + power ys = grind arith in
    let q : (4000 - x) * power xs ≡ (4000 - x) * power ys = ap (λ z. (4000 - x) * z) p in
    let r = left_low ys in
    omega arith
left_falls (x ∷ xs) (y ∷ ys) e low (inr (f, l)) =
    let p : power xs ≡ power ys = power_same xs ys (omega arith) in
    let q : (4000 - x) * power xs ≡ (4000 - y) * power ys = λ i. (4000 - f i) * p i in
    let r = left_falls xs ys (omega arith) low.1 l in
    omega arith

-- how many positions a walk has left at most
abbrev pub positions_left : PosedProblem → Visit → Option Position → ℕ
positions_left p visit None = power (0 ∷ 0 ∷ 0 ∷ 0 ∷ 0 ∷ []) + 1
positions_left p visit (Some at) = left_by (visited_at p visit (argument_at visit.cell at)) + 1

positions_low : (cell : Cell) (turns cuts : List ℕ) (number : ℕ) → cell.to - cell.from ≤ 4000 → number ≤ 4000
    → AllByRecursion (λ y. y ≤ 4000) (ranks_of cell turns cuts ++ number ∷ [])
positions_low cell turns [] number l k = (k, tt)
positions_low cell [] (cut ∷ cuts) number l k = (k, tt)
positions_low cell (turn ∷ turns) (cut ∷ cuts) number l k = (
  (let m = mod_below (cut - cell.from + (cell.to - cell.from + 1) - turn) (cell.to - cell.from + 1) (omega arith) in
      omega arith),
  positions_low cell turns cuts number l k,
)

pub positions_length : (cell : Cell) (turns cuts : List ℕ) (number : ℕ) → length turns ≡ length cuts
    → length (ranks_of cell turns cuts ++ number ∷ []) ≡ length cuts + 1
positions_length cell [] [] number e = refl
positions_length cell [] (cut ∷ cuts) number e = absurd (omega arith)
positions_length cell (turn ∷ turns) [] number e = absurd (omega arith)
positions_length cell (turn ∷ turns) (cut ∷ cuts) number e =
    omega (arith, positions_length cell turns cuts number (omega arith))

module _ (p : PosedProblem) (visit : Visit) (three : length visit.turns ≡ 3)
    (first : visit.first < length (alternatives_of p.grammar visit.cell.rule))
    (few : length (alternatives_of p.grammar visit.cell.rule) ≤ 64)
    (short : visit.cell.to - visit.cell.from ≤ 4000) where
  -- from a position to one behind it
  pub positions_fall : (old : Option Position) (next : Position) → length next.cuts ≡ 3 → next.number ≤ 4
      → ((at : Position) → old ≡ Some at
      → (length at.cuts ≡ 3) ×
      (is_less (visited_at p visit (argument_at visit.cell at))
      (visited_at p visit (argument_at visit.cell next)) ≡ true))
      → positions_left p visit (Some next) < positions_left p visit old
  positions_fall None next three' low behind =
      let l = left_low (visited_at p visit (argument_at visit.cell next)) in
      let e : length (visited_at p visit (argument_at visit.cell next)) ≡ 5 =
      ap suc (positions_length visit.cell visit.turns next.cuts next.number (three ∙ sym three')) ∙ omega
      (arith, three') in
      let q : power (visited_at p visit (argument_at visit.cell next)) ≡ power (0 ∷ 0 ∷ 0 ∷ 0 ∷ 0 ∷ []) =
      power_same (visited_at p visit (argument_at visit.cell next)) (0 ∷ 0 ∷ 0 ∷ 0 ∷ 0 ∷ []) e in
      omega arith
  positions_fall (Some at) next three' low behind =
      let h = behind at refl in
      let m = mod_below (next.alternative + length (alternatives_of p.grammar visit.cell.rule) - visit.first)
      (length (alternatives_of p.grammar visit.cell.rule)) (omega arith) in
      let a = positions_length visit.cell visit.turns at.cuts at.number (three ∙ sym h.0) in
      let b = positions_length visit.cell visit.turns next.cuts next.number (three ∙ sym three') in
      let l = left_falls (visited_at p visit (argument_at visit.cell at))
      (visited_at p visit (argument_at visit.cell next))
      (ap suc a ∙ ap (λ n. suc (n + 1)) (h.0 ∙ sym three') ∙ sym (ap suc b))
      (omega arith, positions_low visit.cell visit.turns next.cuts next.number short (omega arith))
      (lex_from (visited_at p visit (argument_at visit.cell at))
      (visited_at p visit (argument_at visit.cell next)) h.1) in
      omega arith
