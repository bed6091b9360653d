use Rattle.std.proofs.Common.{ℕ, ℤ, ◌-ℤ◌, FitsSigned, w64, arith, rules}
use Rattle.std.specs.List.{Contains}
use Rattle.std.proofs.lemmas.Int.{ints, to_z-of_z, fits_signed_from_abs}
use Rattle.adp_model.specs.Bellman.{HasBestScore}
use Rattle.score_numbers.specs.FirstPositions.{IsFirstAmong}
use Rattle.cell_answers.specs.LaidBy.{IsFirstEnd}
use Rattle.cell_answers.specs.Totals.{HasTotal}
use Rattle.cell_answers.proofs.FirstEnds.{AreLaid, AreSound, total_low}
use Rattle.cell_answers.proofs.FirstTotals.{Through, first_left, not_nowhere}
use Rattle.cell_answers.proofs.OpenedLines.{IsTail, opened_holds, opened_tail, opened_whole}
use Rattle.cell_answers.proofs.WholeLines.{IsWhole}
use Rattle.cell_answers.proofs.Soundness.{sound_by}
use Rattle.cell_answers.proofs.answer_cuts.end_along.Goals as goal
use Rattle.cell_answers.proofs.answer_cuts.end_along.Goals.{In-Some}

laid : (c : In-Some) → AreLaid c.args.lines.now c.args.scores.now c.args.arguments.now c.args.factors.now c.args.from c.args.to
laid c = record { weighted = c.requires.weighted; span = c.requires.span; scored = c.requires.scored; low = c.requires.low }

whole : (c : In-Some) → IsWhole c.args.lines.now c.args.scores.now c.in-Some.opened.arguments c.in-Some.opened.from c.args.to c.in-Some.opened.boundary
whole c =
    opened_whole c.args.lines.now c.args.scores.now c.args.arguments.now c.args.factors.now c.args.from c.args.to (laid c) c.in-Some.opened c.in-Some.ensures

tail : (c : In-Some) → IsTail c.args.lines.now c.in-Some.opened c.args.to
tail c =
    opened_tail c.args.lines.now c.args.scores.now c.args.arguments.now c.args.factors.now c.args.from c.args.to (laid c) c.in-Some.opened c.in-Some.ensures

pub fixed_total-requires-clause-weighted : goal.fixed_total-requires-clause-weighted
fixed_total-requires-clause-weighted c = (tail (goal.at.fixed_total-requires-clause-weighted c).In-Some).weighted

pub fixed_total-requires-clause-covers : goal.fixed_total-requires-clause-covers
fixed_total-requires-clause-covers c = (tail (goal.at.fixed_total-requires-clause-covers c).In-Some).covers

pub fixed_total-requires-clause-low : goal.fixed_total-requires-clause-low
fixed_total-requires-clause-low c = (tail (goal.at.fixed_total-requires-clause-low c).In-Some).low

sound : (c : In-Some) → AreSound c.args.lines.now
sound c =
    sound_by c.problem.result.now c.args.lines.now c.problem.ensures c.admissible.ensures
    (c.bounds_are_sound.ensures.score c.args.lines.now) (c.answer_is_unique.ensures c.args.lines.now)

-- what the tokens leave fits
left_fits : (c : In-Some) (behind : ℤ) → HasTotal c.args.lines.now (HasBestScore c.args.lines.now)
    c.in-Some.opened.arguments.tail.now c.in-Some.opened.arguments.tail_factors.now c.in-Some.opened.boundary.last
    c.args.to behind → FitsSigned w64 (c.args.total -ℤ behind)
left_fits c behind has =
    let p = c.args.lines.now in
    let line = c.in-Some.opened in
    let low = total_low p (sound c) c.args.arguments.now c.args.factors.now c.args.from c.args.to c.requires.low c.args.total c.requires.has in
    let low' = total_low p (sound c) line.arguments.tail.now line.arguments.tail_factors.now line.boundary.last c.args.to (tail c).low behind has in
    fits_signed_from_abs w64 (c.args.total -ℤ behind) (omega (arith, ints))

pub overflow_sub-front : goal.overflow_sub-front
overflow_sub-front c =
    let at = (goal.at.overflow_sub-front c).In-Some in
    let fits_total : FitsSigned w64 c.args.total = search rules in
    let fits_behind : FitsSigned w64 c.fixed_total.result = search rules in
    simp to_z-of_z (left_fits at c.fixed_total.result c.fixed_total.ensures)

pub unreachable-requires-in-None : goal.unreachable-requires-in-None
unreachable-requires-in-None c =
    let at = (goal.at.unreachable-requires-in-None c).In-Some in
    let p = c.args.lines.now in
    let line = c.in-Some.opened in
    let behind = c.fixed_total.result in
    let fits_total : FitsSigned w64 c.args.total = search rules in
    let fits_behind : FitsSigned w64 behind = search rules in
    let fits_left : FitsSigned w64 (c.args.total -ℤ behind) = left_fits at behind c.fixed_total.ensures in
    let none : (position : ℕ) → Contains line.boundary.positions.now position
    → Through p c.args.scores.now line.arguments line.from c.args.to line.boundary (whole at)
    (c.args.total -ℤ behind) position → ⊥ = simp to_z-of_z at c.in-None.ensures in
    opened_holds p c.args.scores.now c.args.arguments.now c.args.factors.now c.args.from c.args.to (laid at) line c.in-Some.ensures
    (λ arguments factors from. HasTotal p (HasBestScore p) arguments factors from c.args.to c.args.total → ⊥)
    (λ has. not_nowhere p c.args.scores.now line.arguments line.from c.args.to line.boundary (whole at) c.args.total
    behind c.fixed_total.ensures has none) c.requires.has

pub returns : goal.returns
returns c =
    let at = (goal.at.returns c).In-Some in
    let p = c.args.lines.now in
    let line = c.in-Some.opened in
    let behind = c.fixed_total.result in
    let position = c.in-Some-first_through.position in
    let fits_total : FitsSigned w64 c.args.total = search rules in
    let fits_behind : FitsSigned w64 behind = search rules in
    let fits_left : FitsSigned w64 (c.args.total -ℤ behind) = left_fits at behind c.fixed_total.ensures in
    let first : IsFirstAmong line.boundary.positions.now (Through p c.args.scores.now line.arguments line.from c.args.to
    line.boundary (whole at) (c.args.total -ℤ behind)) position = simp to_z-of_z
    at c.in-Some-first_through.ensures in
    opened_holds p c.args.scores.now c.args.arguments.now c.args.factors.now c.args.from c.args.to (laid at) line c.in-Some.ensures
    (λ arguments factors from. IsFirstEnd p arguments factors from c.args.to c.args.total position)
    (first_left p c.args.scores.now line.arguments line.from c.args.to line.boundary (whole at) c.args.total behind c.fixed_total.ensures position first)
