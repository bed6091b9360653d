use Rattle.std.proofs.Common.{◌≡◌, ◌<◌, ◌⊎◌, ◌+◌, ◌-◌, ℕ, ℤ, ◌+ℤ◌, ◌*ℤ◌, Option, Some, FitsSigned, w64, map, get_or, sym, ap, subst, ◌∙◌, arith, rules}
use Rattle.score_numbers.specs.Entries.{score_of_entry}
use Rattle.score_numbers.specs.Greatest.{IsGreatestOf}
use Rattle.cell_answers.specs.NotedEnds.{HasTotalBefore}
use Rattle.std.proofs.lemmas.Int.{to_z-of_z}
use Rattle.std.proofs.lemmas.Option.{slice_get-get_or}
use Rattle.cell_answers.specs.declared.tails.Note.TheVariants.{Open}
use Rattle.cell_answers.specs.TailRows.{Tells}
use Rattle.cell_answers.specs.Tails.{IsTailTotal}
use Rattle.cell_answers.proofs.FirstEnds.{AreSound}
use Rattle.cell_answers.proofs.Soundness.{sound_by}
use Rattle.cell_answers.proofs.Reading.{product_fits, sum_fits, sum_read}
use Rattle.cell_answers.proofs.NotedEnds.{IsEndOf, end_fits, end_total, end_unvalued, end_without, number_told}
use Rattle.cell_answers.proofs.noted_ends.over_numbers.Given.{Over}
use Rattle.cell_answers.proofs.noted_ends.over_numbers.Goals as goal
use Rattle.cell_answers.proofs.noted_ends.over_numbers.Goals.{After-answer_is_unique, After-entry, After-score_of}
use Rattle.cell_answers.proofs.noted_ends.over_numbers.Goals.{in-Some+in-Some-told+in-Some-total}
use Rattle.cell_answers.proofs.noted_ends.over_numbers.Goals.{in-Some+in-Some-told+in_default-total, in_default}

sound : (g : Over) (c : After-answer_is_unique g) → AreSound c.args.lines.now
sound g c =
    sound_by c.problem.result.now c.args.lines.now c.problem.ensures c.admissible.ensures
    (c.bounds_are_sound.ensures.score c.args.lines.now) (c.answer_is_unique.ensures c.args.lines.now)

pub loop-number-init : goal.loop-number-init
loop-number-init g c =
    subst (λ bound. IsGreatestOf (HasTotalBefore c.args.lines.now c.args.laid.now bound) c.args.reached.greatest) (omega arith) c.requires.reached

pub returns-in_default-told-clause-reached : goal.returns-in_default-told-clause-reached
returns-in_default-told-clause-reached g c = c.loop-number.invariant

pub entry-requires : goal.entry-requires
entry-requires g c =
    let k = c.args.reached.end - c.args.first + c.loop-number.number in
    let number = c.index-numbers-before.result in
    c.requires.proper k number (slice_get-get_or c.args.numbers.now k number (omega arith) ∙ ap (λ it. Some it) (sym c.index-numbers-before.is))

abbrev Here : (g : Over) (c : After-entry g) → ℕ
Here g c = c.args.reached.end + c.loop-number.number

-- the first argument may end here, and this is its entry
end_here : (g : Over) (c : After-entry g)
    → IsEndOf c.args.lines.now c.args.scores.now c.args.laid.now c.args.first c.args.past
    (map (g.N.Number.told c.args.goal) c.args.numbers.now) (Here g c) c.entry.result
end_here g c =
    let before : Here g c < c.args.past = omega arith in
    record {
      same = c.requires.same_problem;
      out = c.requires.laid;
      are = c.requires.numbers;
      from_first = omega arith;
      before = before;
      fits = c.requires.fit (Here g c) (omega arith) before;
      there = number_told (g.N.Number.told c.args.goal) c.args.numbers.now
          (c.args.reached.end - c.args.first + c.loop-number.number) (Here g c - c.args.first)
          c.index-numbers-before.result c.entry.result (omega arith) c.index-numbers-before.is c.entry.ensures (omega arith);
    }

-- what is found of the entry
found : (g : Over) (c : After-score_of g) → score_of_entry c.entry.result ≡ c.score_of.result
found g c = sym (c.score_of.ensures ∙ ap score_of_entry (to_z-of_z w64 c.entry.result (search rules)))

-- what the note tells is worth
noted : (g : Over) (c : After-entry g) (total : Option ℤ) → Tells (get_or c.args.notes.now c.loop-number.number Open) (Here g c) c.args.laid.now.to total
    → IsTailTotal c.args.lines.now c.requires.notes.tail (Here g c) c.args.laid.now.to total
noted g c total tells =
    c.requires.notes.are_true c.loop-number.number (Here g c) c.args.laid.now.to (get_or c.args.notes.now c.loop-number.number Open) total
    (slice_get-get_or c.args.notes.now c.loop-number.number Open (omega arith)) tells

parts : (g : Over) (c : After-entry g) (sound : AreSound c.args.lines.now) (total : Option ℤ)
    → Tells (get_or c.args.notes.now c.loop-number.number Open) (Here g c) c.args.laid.now.to total
    → (value rest : ℤ) → score_of_entry c.entry.result ≡ Some value → total ≡ Some rest
    → FitsSigned w64 (c.args.laid.now.factor *ℤ value) × FitsSigned w64 rest
    × FitsSigned w64 ((c.args.laid.now.factor *ℤ value) +ℤ rest)
parts g c sound total tells =
    end_fits (end_here g c) c.requires.notes.tail c.requires.notes.is_tail total (noted g c total tells) sound

pub overflow_mul-laid : goal.overflow_mul-laid
overflow_mul-laid g c =
    let at = (goal.at.overflow_mul-laid g c).After-entry in
    let it = parts g at (sound g (goal.at.overflow_mul-laid g c).After-answer_is_unique) c.in-Some-told.total
    c.in-Some-told.ensures c.in-Some.value c.in-Some-total.rest
    (found g (goal.at.overflow_mul-laid g c).After-score_of ∙ c.in-Some.is) c.in-Some-total.is in
    product_fits c.args.laid.now.factor c.in-Some.value (search rules) (search rules) it.0

pub overflow_add-laid : goal.overflow_add-laid
overflow_add-laid g c =
    let at = (goal.at.overflow_add-laid g c).After-entry in
    let it = parts g at (sound g (goal.at.overflow_add-laid g c).After-answer_is_unique) c.in-Some-told.total
    c.in-Some-told.ensures c.in-Some.value c.in-Some-total.rest
    (found g (goal.at.overflow_add-laid g c).After-score_of ∙ c.in-Some.is) c.in-Some-total.is in
    sum_fits c.args.laid.now.factor c.in-Some.value (search rules) (search rules) it.0 c.in-Some-total.rest it.1 it.2

pub loop-number-preserved : goal.loop-number-preserved
loop-number-preserved g c =
    let at = (goal.at.loop-number-preserved g c).After-entry in
    let told = found g (goal.at.loop-number-preserved g c).After-score_of in
    let p = c.args.lines.now in
    let laid = c.args.laid.now in
    let here = end_here g at in
    let tail = c.requires.notes.tail in
    let is_tail = c.requires.notes.is_tail in
    let was = c.loop-number.greatest in
    let reached = c.loop-number.invariant in
    let R : Option ℤ → Type 0 = IsGreatestOf (HasTotalBefore p laid (Here g at + 1)) in
    let moved : (greatest : Option ℤ) → R greatest
    → IsGreatestOf (HasTotalBefore p laid (c.args.reached.end + (c.loop-number.number + 1))) greatest = λ greatest is.
    subst (λ bound. IsGreatestOf (HasTotalBefore p laid bound) greatest) (omega arith) is in
    moved c.match-score_of.greatest (elim c.match-score_of.branch [
      | in-Some+in-Some-told+in-Some-total w ↦
          let value = w.in-Some.value in
          let rest = w.in-Some-total.rest in
          let total = w.in-Some-told.total in
          let both = w.greater-greatest.result in
          let safe = sound g (goal.at.loop-number-preserved g c).After-answer_is_unique in
          let is_value = told ∙ w.in-Some.is in
          let it = parts g at safe total w.in-Some-told.ensures value rest is_value w.in-Some-total.is in
          let E : ℤ → Type 0 = λ sum. IsGreatestOf (λ number. (was ≡ Some number) ⊎ (Some sum ≡ Some number)) both in
          let either : E ((laid.factor *ℤ value) +ℤ rest) = subst E
          (sum_read laid.factor value (search rules) (search rules) it.0 rest it.1 it.2) w.greater-greatest.ensures in
          subst R (sym w.greatest-is)
          (end_total here tail is_tail total (noted g at total w.in-Some-told.ensures) safe value rest is_value
          w.in-Some-total.is was both reached either)
      | in-Some+in-Some-told+in_default-total w ↦
          let total = w.in-Some-told.total in
          subst R (sym w.greatest-is)
          (end_without here tail is_tail total (noted g at total w.in-Some-told.ensures) w.in_default-total.is was reached)
      | in_default w ↦
          subst R (sym w.greatest-is) (end_unvalued here (told ∙ w.in_default.is) was reached)
    ])

pub returns-clause-reached : goal.returns-clause-reached
returns-clause-reached g c =
    let same : c.loop-number.number ≡ c.min-count.result = omega arith in
    subst (λ number. IsGreatestOf (HasTotalBefore c.args.lines.now c.args.laid.now (c.args.reached.end + number))
    c.loop-number.greatest) same c.loop-number.invariant
