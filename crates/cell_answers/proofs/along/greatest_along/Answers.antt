use Rattle.std.proofs.Common.{ℤ, ◌+ℤ◌, Some, FitsSigned, w64, sym, subst, rules}
use Rattle.std.proofs.lemmas.Int.{to_z-of_z}
use Rattle.adp_model.specs.Bellman.{HasBestScore}
use Rattle.cell_answers.specs.Totals.{HasTotal}
use Rattle.score_numbers.specs.Greatest.{IsGreatestOf}
use Rattle.cell_answers.proofs.FirstEnds.{AreLaid, AreSound}
use Rattle.cell_answers.proofs.OpenedLines.{IsTail, opened_holds, opened_tail, opened_whole}
use Rattle.cell_answers.proofs.WholeLines.{IsWhole, none_without_front, greatest_whole, whole_low}
use Rattle.cell_answers.proofs.Soundness.{fits_below, sound_by}
use Rattle.cell_answers.proofs.along.greatest_along.Goals as goal
use Rattle.cell_answers.proofs.along.greatest_along.Goals.{After-greatest_front}

laid : (c : After-greatest_front) → AreLaid c.args.lines.now c.args.scores.now c.args.arguments.now c.args.factors.now c.args.from c.args.to
laid c = record { weighted = c.requires.weighted; span = c.requires.span; scored = c.requires.scored; low = c.requires.low }

whole : (c : After-greatest_front) → IsWhole c.args.lines.now c.args.scores.now c.in_ok-opened.opened.arguments
    c.in_ok-opened.opened.from c.args.to c.in_ok-opened.opened.boundary
whole c =
    opened_whole c.args.lines.now c.args.scores.now c.args.arguments.now c.args.factors.now c.args.from c.args.to
    (laid c) c.in_ok-opened.opened c.in_ok-opened.ensures

tail : (c : After-greatest_front) → IsTail c.args.lines.now c.in_ok-opened.opened c.args.to
tail c =
    opened_tail c.args.lines.now c.args.scores.now c.args.arguments.now c.args.factors.now c.args.from c.args.to
    (laid c) c.in_ok-opened.opened c.in_ok-opened.ensures

pub between_total-behind-requires-clause-weighted : goal.between_total-behind-requires-clause-weighted
between_total-behind-requires-clause-weighted c = (tail (goal.at.between_total-behind-requires-clause-weighted c).After-greatest_front).weighted

pub between_total-behind-requires-clause-covers : goal.between_total-behind-requires-clause-covers
between_total-behind-requires-clause-covers c = (tail (goal.at.between_total-behind-requires-clause-covers c).After-greatest_front).covers

pub between_total-behind-requires-clause-low : goal.between_total-behind-requires-clause-low
between_total-behind-requires-clause-low c = (tail (goal.at.between_total-behind-requires-clause-low c).After-greatest_front).low

pub returns-in_err-front : goal.returns-in_err-front
returns-in_err-front c =
    let at = (goal.at.returns-in_err-front c).After-greatest_front in
    let p = c.args.lines.now in
    let line = c.in_ok-opened.opened in
    subst (IsGreatestOf (HasTotal p (HasBestScore p) c.args.arguments.now c.args.factors.now c.args.from c.args.to)) (sym c.from_residual-in_err-front.ensures)
    (opened_holds p c.args.scores.now c.args.arguments.now c.args.factors.now c.args.from c.args.to (laid at) line c.in_ok-opened.ensures
    (λ arguments factors from. (total : ℤ) → HasTotal p (HasBestScore p) arguments factors from c.args.to total → ⊥)
    (none_without_front p c.args.scores.now line.arguments line.from c.args.to line.boundary (whole at) c.in_err-front.ensures))

sound : (c : After-greatest_front) → AreSound c.args.lines.now
sound c =
    sound_by c.problem.result.now c.args.lines.now c.problem.ensures c.admissible.ensures
    (c.bounds_are_sound.ensures.score c.args.lines.now) (c.answer_is_unique.ensures c.args.lines.now)

pub overflow_add-result : goal.overflow_add-result
overflow_add-result c =
    let at = (goal.at.overflow_add-result c).After-greatest_front in
    let line = c.in_ok-opened.opened in
    let low = whole_low c.args.lines.now c.args.scores.now line.arguments line.from c.args.to line.boundary (whole at)
    (sound at) c.in_ok-front.front c.between_total-behind.result c.in_ok-front.ensures.0
    c.between_total-behind.ensures in
    let fits_front : FitsSigned w64 c.in_ok-front.front = search rules in
    let fits_tail : FitsSigned w64 c.between_total-behind.result = search rules in
    simp to_z-of_z (fits_below (c.in_ok-front.front +ℤ c.between_total-behind.result) low)

pub returns : goal.returns
returns c =
    let at = (goal.at.returns c).After-greatest_front in
    let p = c.args.lines.now in
    let line = c.in_ok-opened.opened in
    let low = whole_low p c.args.scores.now line.arguments line.from c.args.to line.boundary (whole at) (sound at)
    c.in_ok-front.front c.between_total-behind.result c.in_ok-front.ensures.0 c.between_total-behind.ensures in
    let fits_front : FitsSigned w64 c.in_ok-front.front = search rules in
    let fits_tail : FitsSigned w64 c.between_total-behind.result = search rules in
    let fits_sum : FitsSigned w64 (c.in_ok-front.front +ℤ c.between_total-behind.result) =
    fits_below (c.in_ok-front.front +ℤ c.between_total-behind.result) low in
    let found : IsGreatestOf (HasTotal p (HasBestScore p) c.args.arguments.now c.args.factors.now c.args.from c.args.to)
    (Some (c.in_ok-front.front +ℤ c.between_total-behind.result)) =
    opened_holds p c.args.scores.now c.args.arguments.now c.args.factors.now c.args.from c.args.to (laid at) line c.in_ok-opened.ensures
    (λ arguments factors from. IsGreatestOf (HasTotal p (HasBestScore p) arguments factors from c.args.to)
    (Some (c.in_ok-front.front +ℤ c.between_total-behind.result)))
    (greatest_whole p c.args.scores.now line.arguments line.from c.args.to line.boundary (whole at) c.in_ok-front.front
    c.between_total-behind.result c.in_ok-front.ensures c.between_total-behind.ensures) in
    simp to_z-of_z found
