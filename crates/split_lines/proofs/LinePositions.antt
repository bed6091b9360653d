-- The positions at which the boundary of a line may stand.
use Rattle.std.proofs.Common.{◌≡◌, ◌↔◌, ℕ, min, max, ◌+◌, ◌-◌, ◌<◌, ◌≤◌, List, length, drop, arith}
use Rattle.std.specs.List.{AllByRecursion, AllAdjacentBelow, Contains}
use Rattle.std.proofs.lemmas.List.Elements.{All-from_recursion, recursion_from_All, All-drop}
use Rattle.adp_model.specs.PosedProblem.{PosedProblem}
use Rattle.adp_model.specs.Splits.{FitsSpan}
use Rattle.viable_splits.specs.Placing.{on_span, Cover, AreEnds}
use Rattle.split_lines.specs.Laid.{LineParts, AreBoundaries}
use Rattle.split_lines.specs.Begins.{AreStarts}
use Rattle.split_lines.specs.Matching.{HaveLetters, AreMatchPositions}
use Rattle.split_lines.specs.Lines.{LeavesPosition}

-- what holds of all items holds of all but the first so many
pub all_dropped : {X : Type 0} (P : X → Type 0) (n : ℕ) (xs : List X) → AllByRecursion P xs → AllByRecursion P (drop n xs)
all_dropped P n xs all = recursion_from_All P (drop n xs) (All-drop P n xs (All-from_recursion P xs all))

-- where the first argument may end and the second one may begin, less the letters between
pub position_left : (p : PosedProblem) (parts : LineParts) (from to letters last first_end past_end first_start past_start start end : ℕ) → AreEnds p parts.first from last (record { start = first_end; end = past_end }) → AreStarts p parts.second from last (record { start = first_start; end = past_start }) → Cover p parts.tail last to → end ≡ min past_end (past_start - letters) → start ≡ min (max first_end (first_start - letters)) end → (position : ℕ) → ((start ≤ position) × (position < end)) ↔ LeavesPosition p parts from to letters last position
position_left p parts from to letters last first_end past_end first_start past_start start end ends starts tail end_is start_is position = (there, back)
  where
    there : (start ≤ position) × (position < end) → LeavesPosition p parts from to letters last position
    there (low, high) =
        let behind : first_end ≤ position = omega arith in
        let before : position < past_end = omega arith in
        let low' : first_start ≤ position + letters = omega arith in
        let high' : position + letters < past_start = omega arith in
        let within : position ≤ last = omega (arith, ends.up_to_last, before) in
        let after : from ≤ position + letters = omega (arith, ends.behind, behind) in
        record { first = (ends.exact position within).1 (behind, before); second = (starts.exact (position + letters) after).1 (low', high'); tail = tail }

    back : LeavesPosition p parts from to letters last position → (start ≤ position) × (position < end)
    back leaves =
        let forward = leaves.second.0.in_order in
        let behind = leaves.first.0.in_order in
        let one = (ends.exact position (omega (arith, forward))).0 leaves.first in
        let two = (starts.exact (position + letters) (omega (arith, behind))).0 leaves.second in
        (omega (arith, one.0, two.0, start_is), omega (arith, one.1, two.1, end_is))

-- the positions that are left and at which the tokens between match are those of the boundary
pub boundaries : (p : PosedProblem) (parts : LineParts) (from to letters tail last start end : ℕ) (matched positions : List ℕ) → HaveLetters p parts.middle letters → HaveLetters p parts.tail tail → AreMatchPositions p parts.middle letters (length p.word + 1) matched → last ≡ to - tail → ((position : ℕ) → ((start ≤ position) × (position < end)) ↔ LeavesPosition p parts from to letters last position) → ((position : ℕ) → Contains positions position ↔ (Contains matched position × (start ≤ position) × (position < end))) → AllAdjacentBelow (λ (a b : ℕ). a < b) positions (length positions) → AreBoundaries p parts from to letters last positions
boundaries p parts from to letters tail last start end matched positions middle_letters tail_letters matches last_is left between rising = record {
  exact = λ position. (there position, back position);
  one_middle = λ position end cover. middle_letters position end cover;
  one_tail = λ position cover. let e = tail_letters position to cover in omega (arith, e, last_is);
  rising = rising;
}
  where
    there : (position : ℕ) → Contains positions position → FitsSpan p (on_span parts.first from position) × Cover p parts.middle position (position + letters) × FitsSpan p (on_span parts.second (position + letters) last) × Cover p parts.tail last to
    there position contains =
        let it = (between position).0 contains in
        let leaves = (left position).0 (it.1, it.2) in
        let cover = ((matches.exact position).0 it.0).1 in
        (leaves.first, cover, leaves.second, leaves.tail)

    back : (position : ℕ) → FitsSpan p (on_span parts.first from position) × Cover p parts.middle position (position + letters) × FitsSpan p (on_span parts.second (position + letters) last) × Cover p parts.tail last to → Contains positions position
    back position (first, cover, second, tail') =
        let within = (left position).1 (record { first = first; second = second; tail = tail' }) in
        let inside : position < length p.word + 1 = omega (arith, first.0.in_word) in
        (between position).1 ((matches.exact position).1 (inside, cover), within.0, within.1)
