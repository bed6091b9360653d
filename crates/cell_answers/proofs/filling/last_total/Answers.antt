use Rattle.std.proofs.Common.{◌≡◌, ℕ, ℤ, pos, ◌*ℤ◌, Option, Some, [], ◌∷◌, refl, FitsSigned, w64, sym, subst, ◌∙◌, rules}
use Rattle.std.specs.Prelude.{MatchOption}
use Rattle.std.proofs.lemmas.Bool.{false≢true}
use Rattle.std.proofs.lemmas.Int.{to_z-of_z}
use Rattle.adp_model.specs.Splits.{AtRule, FitsSpan}
use Rattle.adp_model.specs.FirstSplit.{IsValue}
use Rattle.adp_model.specs.Bellman.{HasBestScore}
use Rattle.viable_splits.specs.Placing.{on_span, Cover}
use Rattle.cell_answers.specs.Entries.{HasEntry}
use Rattle.cell_answers.specs.Totals.{HasTotal}
use Rattle.score_numbers.specs.Greatest.{IsGreatestOf}
use Rattle.cell_answers.proofs.FirstEnds.{AreLaid, AreSound, first_low, parts_low, first_known_entry}
use Rattle.cell_answers.proofs.OneEnds.{total_nowhere, last_misses, greatest_from, unvalued_from, total_of_none, nothing_more}
use Rattle.cell_answers.proofs.Soundness.{fits_below, sound_by}
use Rattle.cell_answers.proofs.filling.last_total.Goals as goal
use Rattle.cell_answers.proofs.filling.last_total.Goals.{After-answer_is_unique}

laid : (c : After-answer_is_unique) → AreLaid c.args.lines.now c.args.scores.now (c.args.argument.now ∷ []) (c.args.factor ∷ []) c.args.from c.args.to
laid c = record { weighted = c.requires.weighted; span = c.requires.span; scored = c.requires.scored; low = c.requires.low }

sound : (c : After-answer_is_unique) → AreSound c.args.lines.now
sound c =
    sound_by c.problem.result.now c.args.lines.now c.problem.ensures c.admissible.ensures
    (c.bounds_are_sound.ensures.score c.args.lines.now) (c.answer_is_unique.ensures c.args.lines.now)

-- it can end at one position alone
only : (c : After-answer_is_unique) (other : ℕ)
    → FitsSpan c.args.lines.now (on_span c.args.argument.now c.args.from other)
    → Cover c.args.lines.now [] other c.args.to → other ≡ c.args.to
only c other fits cover = cover

abbrev IsValueHere : After-answer_is_unique → ℤ → Type 0
IsValueHere c = IsValue c.args.lines.now (HasBestScore c.args.lines.now) (on_span c.args.argument.now c.args.from c.args.to)

pub returns-then-not-fits : goal.returns-then-not-fits
returns-then-not-fits c =
    let p = c.args.lines.now in
    let argument = c.args.argument.now in
    let misses : FitsSpan p (on_span argument c.args.from c.args.to) → ⊥ = λ fits. false≢true (sym c.if-not-fits.true ∙ c.fits.ensures.1 fits) in
    total_nowhere p argument [] c.args.from c.args.to (last_misses p argument c.args.from c.args.to misses) (HasBestScore p) c.args.factor []

pub argument_value-requires-clause-known : goal.argument_value-requires-clause-known
argument_value-requires-clause-known c = c.requires.weighted.known.0

pub argument_value-requires-clause-low : goal.argument_value-requires-clause-low
argument_value-requires-clause-low c =
    let begun = (goal.at.argument_value-requires-clause-low c).After-answer_is_unique in
    first_low c.args.lines.now c.args.scores.now c.args.argument.now [] c.args.factor [] c.args.from c.args.to
    (laid begun) c.args.to (c.fits.ensures.0 c.if-not-fits.false)

-- what is known of the cell of a rule
abbrev entry : (c : After-answer_is_unique)
    → FitsSpan c.args.lines.now (on_span c.args.argument.now c.args.from c.args.to)
    → AtRule (HasEntry c.args.scores.now) (on_span c.args.argument.now c.args.from c.args.to)
entry c fits = first_known_entry c.args.lines.now c.args.scores.now c.args.argument.now [] c.args.factor [] c.args.from c.args.to (laid c) c.args.to fits refl

abbrev Told : After-answer_is_unique → Option ℤ → Type 0
Told c result = MatchOption result ((value : ℤ) → IsValueHere c value → ⊥) (IsValueHere c)

pub returns-in_err-argument_value : goal.returns-in_err-argument_value
returns-in_err-argument_value c =
    let begun = (goal.at.returns-in_err-argument_value c).After-answer_is_unique in
    let p = c.args.lines.now in
    let argument = c.args.argument.now in
    let fits = c.fits.ensures.0 c.if-not-fits.false in
    let none : (value : ℤ) → IsValueHere begun value → ⊥ = subst (Told begun) c.in_err-argument_value.was (c.argument_value.ensures (entry begun fits)) in
    subst (λ (result : Option ℤ). IsGreatestOf (HasTotal p (HasBestScore p) (argument ∷ []) (c.args.factor ∷ [])
    c.args.from c.args.to) result) (sym c.from_residual.ensures)
    (unvalued_from p argument [] c.args.from c.args.to c.args.to fits (only begun) (HasBestScore p) c.args.factor [] none)

pub overflow_mul-result : goal.overflow_mul-result
overflow_mul-result c =
    let begun = (goal.at.overflow_mul-result c).After-answer_is_unique in
    let p = c.args.lines.now in
    let fits = c.fits.ensures.0 c.if-not-fits.false in
    let value = c.in_ok-argument_value.field-0 in
    let is_value : IsValueHere begun value = subst (Told begun) c.in_ok-argument_value.was (c.argument_value.ensures (entry begun fits)) in
    let it = parts_low p c.args.scores.now c.args.argument.now [] c.args.factor [] c.args.from c.args.to (laid begun)
    c.args.to fits (sound begun) value (λ _. is_value) (pos 0)
    (total_of_none p (HasBestScore p) [] c.args.to refl).0 in
    let fits_factor : FitsSigned w64 c.args.factor = search rules in
    let fits_value : FitsSigned w64 value = search rules in
    simp to_z-of_z (fits_below (c.args.factor *ℤ value) it.0)

pub returns : goal.returns
returns c =
    let begun = (goal.at.returns c).After-answer_is_unique in
    let p = c.args.lines.now in
    let argument = c.args.argument.now in
    let factor = c.args.factor in
    let fits = c.fits.ensures.0 c.if-not-fits.false in
    let value = c.in_ok-argument_value.field-0 in
    let is_value : IsValueHere begun value = subst (Told begun) c.in_ok-argument_value.was (c.argument_value.ensures (entry begun fits)) in
    let none = total_of_none p (HasBestScore p) [] c.args.to refl in
    let it = parts_low p c.args.scores.now argument [] factor [] c.args.from c.args.to (laid begun) c.args.to fits
    (sound begun) value (λ _. is_value) (pos 0) none.0 in
    let fits_factor : FitsSigned w64 factor = search rules in
    let fits_value : FitsSigned w64 value = search rules in
    let fits_product : FitsSigned w64 (factor *ℤ value) = fits_below (factor *ℤ value) it.0 in
    let found = greatest_from p argument [] c.args.from c.args.to c.args.to fits (only begun) (HasBestScore p) factor []
    (sound begun).one value (pos 0) is_value none in
    let G : ℤ → Type 0 = λ total. IsGreatestOf (HasTotal p (HasBestScore p) (argument ∷ []) (factor ∷ []) c.args.from c.args.to) (Some total) in
    simp to_z-of_z (subst G (nothing_more (factor *ℤ value)) found)
