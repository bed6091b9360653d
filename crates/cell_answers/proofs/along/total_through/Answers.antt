use Rattle.std.proofs.Common.{◌≡◌, ◌+◌, ◌<◌, ℤ, ◌+ℤ◌, ◌*ℤ◌, Some, FitsSigned, w64, to_z, of_z, sym, ap, subst, ◌∙◌, arith, rules}
use Rattle.std.proofs.lemmas.Int.{to_z-of_z}
use Rattle.adp_model.specs.Bellman.{HasBestScore}
use Rattle.adp_model.specs.FirstSplit.{IsValue}
use Rattle.viable_splits.specs.Placing.{on_span}
use Rattle.cell_answers.specs.Through.{HasLineTotal}
use Rattle.cell_answers.specs.Totals.{HasTotal}
use Rattle.score_numbers.specs.Greatest.{IsGreatestOf}
use Rattle.cell_answers.proofs.FirstEnds.{AreSound}
use Rattle.cell_answers.proofs.FrontPositions.{first_fits, middle_weighted, middle_low, second_known, second_fits}
use Rattle.cell_answers.proofs.FrontPositions.{first_token_low, second_token_low, through_parts_low, greatest_here}
use Rattle.cell_answers.proofs.FrontPositions.{one_here, sums_low}
use Rattle.cell_answers.proofs.Soundness.{fits_below, sound_by}
use Rattle.cell_answers.proofs.along.total_through.Goals as goal
use Rattle.cell_answers.proofs.along.total_through.Goals.{After-answer_is_unique}

sound : (c : After-answer_is_unique) → AreSound c.args.lines.now
sound c =
    sound_by c.problem.result.now c.args.lines.now c.problem.ensures c.admissible.ensures
    (c.bounds_are_sound.ensures.score c.args.lines.now) (c.answer_is_unique.ensures c.args.lines.now)

pub overflow_add-behind : goal.overflow_add-behind
overflow_add-behind c =
    let fits = second_fits c.args.lines.now c.args.line.now c.requires.opened c.args.position c.requires.stands in
    let last : c.args.line.now.boundary.last < 65536 = search rules in
    omega (arith, fits.0.in_order)

pub value_among-requires-clause-fits : goal.value_among-requires-clause-fits
value_among-requires-clause-fits c =
    first_fits c.args.lines.now c.args.line.now c.requires.opened _ c.requires.stands

pub value_among-requires-clause-low : goal.value_among-requires-clause-low
value_among-requires-clause-low c =
    first_token_low c.args.lines.now c.args.line.now c.requires.opened _ c.requires.stands

pub value_among-requires-clause-there : goal.value_among-requires-clause-there
value_among-requires-clause-there c = c.requires.opened.row _ c.requires.stands

pub returns-in_default-clause-greatest : goal.returns-in_default-clause-greatest
returns-in_default-clause-greatest c = λ number it. c.in_default.ensures it.value it.is_value

pub value_among-requires-2-clause-known : goal.value_among-requires-2-clause-known
value_among-requires-2-clause-known c =
    second_known c.args.lines.now c.args.line.now c.requires.opened

pub value_among-requires-2-clause-fits : goal.value_among-requires-2-clause-fits
value_among-requires-2-clause-fits c =
    second_fits c.args.lines.now c.args.line.now c.requires.opened _ c.requires.stands

pub value_among-requires-2-clause-low : goal.value_among-requires-2-clause-low
value_among-requires-2-clause-low c =
    second_token_low c.args.lines.now c.args.line.now c.requires.opened _ c.requires.stands

pub value_among-requires-2-clause-there : goal.value_among-requires-2-clause-there
value_among-requires-2-clause-there c = c.requires.opened.column _ c.requires.stands

pub returns-in_default-value_among-clause-greatest : goal.returns-in_default-value_among-clause-greatest
returns-in_default-value_among-clause-greatest c = λ number it. c.in_default-value_among.ensures it.other it.is_other

pub between_total-between-requires-clause-weighted : goal.between_total-between-requires-clause-weighted
between_total-between-requires-clause-weighted c =
    middle_weighted c.args.lines.now c.args.line.now c.requires.opened

pub between_total-between-requires-clause-low : goal.between_total-between-requires-clause-low
between_total-between-requires-clause-low c =
    middle_low c.args.lines.now c.args.line.now c.requires.opened _ c.requires.stands

abbrev Read : ℤ → ℤ
Read number = to_z w64 (of_z w64 number)

-- the numbers that are added up fit, and their sums
parts : (c : After-answer_is_unique) → (first between second : ℤ)
    → IsValue c.args.lines.now (HasBestScore c.args.lines.now) (on_span c.args.line.now.arguments.first.now c.args.line.now.from c.args.position) first
    → HasTotal c.args.lines.now (HasBestScore c.args.lines.now) c.args.line.now.arguments.middle.now
    c.args.line.now.arguments.middle_factors.now c.args.position
    (c.args.position + c.args.line.now.boundary.letters) between
    → IsValue c.args.lines.now (HasBestScore c.args.lines.now)
    (on_span c.args.line.now.arguments.second.now (c.args.position + c.args.line.now.boundary.letters)
    c.args.line.now.boundary.last) second
    → FitsSigned w64 (c.args.line.now.arguments.first_factor *ℤ first) × FitsSigned w64 ((c.args.line.now.arguments.first_factor *ℤ first) +ℤ between)
    × FitsSigned w64 (c.args.line.now.arguments.second_factor *ℤ second)
    × FitsSigned w64 (((c.args.line.now.arguments.first_factor *ℤ first) +ℤ between)
    +ℤ (c.args.line.now.arguments.second_factor *ℤ second))
parts c first between second is_first has_between is_second =
    let one = c.args.line.now.arguments.first_factor *ℤ first in
    let other = c.args.line.now.arguments.second_factor *ℤ second in
    let low = sums_low one between other
    (through_parts_low c.args.lines.now c.args.line.now c.requires.opened c.args.position c.requires.stands (sound c)
    first between second is_first has_between is_second) in
    (fits_below one low.0, fits_below (one +ℤ between) low.1, fits_below other low.2, fits_below ((one +ℤ between) +ℤ other) low.3)

pub overflow_mul-result : goal.overflow_mul-result
overflow_mul-result c =
    let at = (goal.at.overflow_mul-result c).After-answer_is_unique in
    let it = parts at c.in-Some.first c.between_total-between.result c.in-Some-value_among.second c.in-Some.ensures
    c.between_total-between.ensures c.in-Some-value_among.ensures in
    let fits_factor : FitsSigned w64 c.args.line.now.arguments.first_factor = search rules in
    let fits_value : FitsSigned w64 c.in-Some.first = search rules in
    simp to_z-of_z it.0

pub overflow_add-result : goal.overflow_add-result
overflow_add-result c =
    let at = (goal.at.overflow_add-result c).After-answer_is_unique in
    let it = parts at c.in-Some.first c.between_total-between.result c.in-Some-value_among.second c.in-Some.ensures
    c.between_total-between.ensures c.in-Some-value_among.ensures in
    let fits_factor : FitsSigned w64 c.args.line.now.arguments.first_factor = search rules in
    let fits_value : FitsSigned w64 c.in-Some.first = search rules in
    let fits_between : FitsSigned w64 c.between_total-between.result = search rules in
    let fits_product : FitsSigned w64 (c.args.line.now.arguments.first_factor *ℤ c.in-Some.first) = it.0 in
    simp to_z-of_z it.1

pub overflow_mul-result-2 : goal.overflow_mul-result-2
overflow_mul-result-2 c =
    let at = (goal.at.overflow_mul-result-2 c).After-answer_is_unique in
    let it = parts at c.in-Some.first c.between_total-between.result c.in-Some-value_among.second c.in-Some.ensures
    c.between_total-between.ensures c.in-Some-value_among.ensures in
    let fits_second_factor : FitsSigned w64 c.args.line.now.arguments.second_factor = search rules in
    let fits_second_value : FitsSigned w64 c.in-Some-value_among.second = search rules in
    simp to_z-of_z it.2

pub overflow_add-result-2 : goal.overflow_add-result-2
overflow_add-result-2 c =
    let at = (goal.at.overflow_add-result-2 c).After-answer_is_unique in
    let it = parts at c.in-Some.first c.between_total-between.result c.in-Some-value_among.second c.in-Some.ensures
    c.between_total-between.ensures c.in-Some-value_among.ensures in
    let fits_factor : FitsSigned w64 c.args.line.now.arguments.first_factor = search rules in
    let fits_value : FitsSigned w64 c.in-Some.first = search rules in
    let fits_second_factor : FitsSigned w64 c.args.line.now.arguments.second_factor = search rules in
    let fits_second_value : FitsSigned w64 c.in-Some-value_among.second = search rules in
    let fits_between : FitsSigned w64 c.between_total-between.result = search rules in
    let fits_first : FitsSigned w64 (c.args.line.now.arguments.first_factor *ℤ c.in-Some.first) = it.0 in
    let fits_sum : FitsSigned w64 ((c.args.line.now.arguments.first_factor *ℤ c.in-Some.first) +ℤ c.between_total-between.result) = it.1 in
    let fits_second : FitsSigned w64 (c.args.line.now.arguments.second_factor *ℤ c.in-Some-value_among.second) = it.2 in
    simp to_z-of_z it.3

-- the sum, as its bits are read
read_sum : (a x b c y : ℤ) → FitsSigned w64 a → FitsSigned w64 x → FitsSigned w64 b → FitsSigned w64 c
    → FitsSigned w64 y → FitsSigned w64 (a *ℤ x) × FitsSigned w64 ((a *ℤ x) +ℤ b) × FitsSigned w64 (c *ℤ y)
    × FitsSigned w64 (((a *ℤ x) +ℤ b) +ℤ (c *ℤ y))
    → Read (Read (Read (Read a *ℤ Read x) +ℤ Read b) +ℤ Read (Read c *ℤ Read y)) ≡ (((a *ℤ x) +ℤ b) +ℤ (c *ℤ y))
read_sum a x b c y fits_a fits_x fits_b fits_c fits_y (fits_first, fits_sum, fits_second, fits_total) =
    ap (λ n. Read (Read (Read (n *ℤ Read x) +ℤ Read b) +ℤ Read (Read c *ℤ Read y))) (to_z-of_z w64 a fits_a)
    ∙ ap (λ n. Read (Read (Read (a *ℤ n) +ℤ Read b) +ℤ Read (Read c *ℤ Read y))) (to_z-of_z w64 x fits_x)
    ∙ ap (λ n. Read (Read (n +ℤ Read b) +ℤ Read (Read c *ℤ Read y))) (to_z-of_z w64 (a *ℤ x) fits_first)
    ∙ ap (λ n. Read (Read ((a *ℤ x) +ℤ n) +ℤ Read (Read c *ℤ Read y))) (to_z-of_z w64 b fits_b)
    ∙ ap (λ n. Read (n +ℤ Read (Read c *ℤ Read y))) (to_z-of_z w64 ((a *ℤ x) +ℤ b) fits_sum)
    ∙ ap (λ n. Read (((a *ℤ x) +ℤ b) +ℤ Read (n *ℤ Read y))) (to_z-of_z w64 c fits_c)
    ∙ ap (λ n. Read (((a *ℤ x) +ℤ b) +ℤ Read (c *ℤ n))) (to_z-of_z w64 y fits_y)
    ∙ ap (λ n. Read (((a *ℤ x) +ℤ b) +ℤ n)) (to_z-of_z w64 (c *ℤ y) fits_second)
    ∙ to_z-of_z w64 (((a *ℤ x) +ℤ b) +ℤ (c *ℤ y)) fits_total

pub returns-clause-greatest : goal.returns-clause-greatest
returns-clause-greatest c =
    let at = (goal.at.returns-clause-greatest c).After-answer_is_unique in
    let it = parts at c.in-Some.first c.between_total-between.result c.in-Some-value_among.second c.in-Some.ensures
    c.between_total-between.ensures c.in-Some-value_among.ensures in
    let T : ℤ → Type 0 = λ total. IsGreatestOf (HasLineTotal c.args.lines.now c.args.line.now c.args.position) (Some total) in
    subst T (sym (read_sum c.args.line.now.arguments.first_factor c.in-Some.first c.between_total-between.result
    c.args.line.now.arguments.second_factor c.in-Some-value_among.second (search rules) (search rules)
    (search rules) (search rules) (search rules) it))
    (greatest_here c.args.lines.now c.args.line.now c.requires.opened c.args.position c.requires.stands (sound at)
    c.in-Some.first c.between_total-between.result c.in-Some-value_among.second c.in-Some.ensures c.between_total-between.ensures c.in-Some-value_among.ensures)

pub returns-clause-only : goal.returns-clause-only
returns-clause-only c =
    let at = (goal.at.returns-clause-only c).After-answer_is_unique in
    let it = parts at c.in-Some.first c.between_total-between.result c.in-Some-value_among.second c.in-Some.ensures
    c.between_total-between.ensures c.in-Some-value_among.ensures in
    let T : ℤ → Type 0 = λ total. (other : ℤ) → HasLineTotal c.args.lines.now c.args.line.now c.args.position other → other ≡ total in
    subst T (sym (read_sum c.args.line.now.arguments.first_factor c.in-Some.first c.between_total-between.result
    c.args.line.now.arguments.second_factor c.in-Some-value_among.second (search rules) (search rules)
    (search rules) (search rules) (search rules) it))
    (one_here c.args.lines.now c.args.line.now c.requires.opened c.args.position c.requires.stands (sound at)
    c.in-Some.first c.between_total-between.result c.in-Some-value_among.second c.in-Some.ensures c.between_total-between.ensures c.in-Some-value_among.ensures)
