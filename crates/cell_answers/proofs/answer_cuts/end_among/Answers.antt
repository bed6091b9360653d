use Rattle.std.proofs.Common.{◌≡◌, ◌+◌, ◌<◌, ◌≤◌, ℕ, ℤ, ◌+ℤ◌, ◌*ℤ◌, Some, List, ◌∷◌, ap, FitsSigned, w64, to_z, of_z, sym, subst, ◌∙◌, arith, rules}
use Rattle.std.specs.declared.ops.Range.{Range}
use Rattle.std.proofs.lemmas.Int.{to_z-of_z}
use Rattle.adp_model.specs.declared.grammar.Arg.{Arg}
use Rattle.adp_model.specs.Splits.{AtRule, FitsSpan}
use Rattle.adp_model.specs.FirstSplit.{IsValue}
use Rattle.adp_model.specs.Bellman.{HasBestScore}
use Rattle.viable_splits.specs.Placing.{on_span, ArePositions}
use Rattle.cell_answers.specs.Entries.{HasEntry}
use Rattle.cell_answers.specs.LaidBy.{IsFirstEnd}
use Rattle.cell_answers.specs.Tails.{IsOwner}
use Rattle.cell_answers.specs.Totals.{HasTotal}
use Rattle.score_numbers.specs.Greatest.{IsGreatestOf}
use Rattle.cell_answers.proofs.FirstEnds.{AreLaid, AreSound, first_low, rest_laid}
use Rattle.cell_answers.proofs.LaidEnds.{HasTotalNowhere, none_valued, none_totalled, none_so_great, found_here, none_at_first, not_all_tried}
use Rattle.cell_answers.proofs.TailFactors.{shorter_owner}
use Rattle.cell_answers.proofs.Soundness.{parts_fit, same_bits, sound_by}
use Rattle.cell_answers.proofs.answer_cuts.end_among.Goals as goal
use Rattle.cell_answers.proofs.answer_cuts.end_among.Goals.{After-answer_is_unique, After-ends_of_first-positions}

-- the arguments, from the first one on
laid : (c : After-answer_is_unique) → AreLaid c.args.behind.now.lines.now c.args.behind.now.scores.now
    (c.in-Some-Some.argument.now ∷ c.in-Some-Some.others.now) (c.in-Some-Some.factor.now ∷ c.in-Some-Some.more.now)
    c.args.from c.args.to
laid c =
    let p = c.args.behind.now.lines.now in
    let table = c.args.behind.now.scores.now in
    let A : List Arg → Type 0 = λ arguments. AreLaid p table arguments (c.in-Some-Some.factor.now ∷ c.in-Some-Some.more.now) c.args.from c.args.to in
    let F : List ℤ → Type 0 = λ factors. AreLaid p table c.args.arguments.now factors c.args.from c.args.to in
    subst A c.in-Some-Some.ensures.cases.0 (subst F c.in-Some-Some.ensures'.cases.0
    (record { weighted = c.requires.weighted; span = c.requires.span; scored = c.requires.scored; low = c.requires.low }))

greatest : (c : After-answer_is_unique)
    → IsGreatestOf (HasTotal c.args.behind.now.lines.now (HasBestScore c.args.behind.now.lines.now)
    (c.in-Some-Some.argument.now ∷ c.in-Some-Some.others.now) (c.in-Some-Some.factor.now ∷ c.in-Some-Some.more.now)
    c.args.from c.args.to) (Some c.args.total)
greatest c =
    let p = c.args.behind.now.lines.now in
    let A : List Arg → Type 0 = λ arguments. IsGreatestOf (HasTotal p (HasBestScore p) arguments
    (c.in-Some-Some.factor.now ∷ c.in-Some-Some.more.now) c.args.from c.args.to) (Some c.args.total) in
    let F : List ℤ → Type 0 = λ factors. IsGreatestOf (HasTotal p (HasBestScore p) c.args.arguments.now factors c.args.from c.args.to) (Some c.args.total) in
    subst A c.in-Some-Some.ensures.cases.0 (subst F c.in-Some-Some.ensures'.cases.0 c.requires.greatest)

sound : (c : After-answer_is_unique) → AreSound c.args.behind.now.lines.now
sound c =
    sound_by c.problem.result.now c.args.behind.now.lines.now c.problem.ensures c.admissible.ensures
    (c.bounds_are_sound.ensures.score c.args.behind.now.lines.now)
    (c.answer_is_unique.ensures c.args.behind.now.lines.now)

positions : (c : After-ends_of_first-positions) → ArePositions c.args.behind.now.lines.now c.in-Some-Some.argument.now
    c.in-Some-Some.others.now c.args.from c.args.to c.ends_of_first-positions.result
positions c = c.ends_of_first-positions.ensures c.in-Some-Some.argument.now c.in-Some-Some.others.now c.in-Some-Some.ensures.cases.0

fits : (c : After-ends_of_first-positions) (end : ℕ) → c.ends_of_first-positions.result.start ≤ end
    → end < c.ends_of_first-positions.result.end
    → FitsSpan c.args.behind.now.lines.now (on_span c.in-Some-Some.argument.now c.args.from end)
fits c end l m = (positions c).fit end l m

-- what a goal has of the total: its bits, read back
total_is : (c : After-answer_is_unique) → to_z w64 (of_z w64 c.args.total) ≡ c.args.total
total_is c = let fits : FitsSigned w64 c.args.total = search rules in to_z-of_z w64 c.args.total fits

abbrev Nowhere : (c : After-answer_is_unique) → ℕ → ℤ → Type 0
Nowhere c bound total =
    HasTotalNowhere c.args.behind.now.lines.now c.in-Some-Some.argument.now c.in-Some-Some.others.now
    c.in-Some-Some.factor.now c.in-Some-Some.more.now c.args.from c.args.to total bound

pub loop-end-init : goal.loop-end-init
loop-end-init c =
    let at = (goal.at.loop-end-init c).After-ends_of_first-positions in
    let begun = (goal.at.loop-end-init c).After-answer_is_unique in
    record {
      same = c.requires.same_tails;
      none = subst (Nowhere begun c.ends_of_first-positions.result.start) (sym (total_is begun))
          (none_at_first c.args.behind.now.lines.now c.args.behind.now.scores.now (sound begun)
          c.in-Some-Some.argument.now c.in-Some-Some.others.now c.in-Some-Some.factor.now c.in-Some-Some.more.now
          c.args.from c.args.to c.args.total (laid begun) (greatest begun) c.ends_of_first-positions.result
          (positions at));
    }

pub argument_value-requires-clause-fits : goal.argument_value-requires-clause-fits
argument_value-requires-clause-fits c =
    fits (goal.at.argument_value-requires-clause-fits c).After-ends_of_first-positions c.loop-end.end c.loop-end.auto.end c.loop-end-test.true

pub argument_value-requires-clause-low : goal.argument_value-requires-clause-low
argument_value-requires-clause-low c =
    let at = (goal.at.argument_value-requires-clause-low c).After-ends_of_first-positions in
    let begun = (goal.at.argument_value-requires-clause-low c).After-answer_is_unique in
    first_low c.args.behind.now.lines.now c.args.behind.now.scores.now c.in-Some-Some.argument.now
    c.in-Some-Some.others.now c.in-Some-Some.factor.now c.in-Some-Some.more.now c.args.from c.args.to (laid begun)
    c.loop-end.end (fits at c.loop-end.end c.loop-end.auto.end c.loop-end-test.true)

-- the invariant, with the total itself
before : (c : After-answer_is_unique) (bound : ℕ) → Nowhere c bound (to_z w64 (of_z w64 c.args.total)) → Nowhere c bound c.args.total
before c bound it = subst (Nowhere c bound) (total_is c) it

after : (c : After-answer_is_unique) (bound : ℕ) → Nowhere c bound c.args.total → Nowhere c bound (to_z w64 (of_z w64 c.args.total))
after c bound it = subst (Nowhere c bound) (sym (total_is c)) it

pub loop-end-preserved-in_default-argument_value : goal.loop-end-preserved-in_default-argument_value
loop-end-preserved-in_default-argument_value c =
    let at = (goal.at.loop-end-preserved-in_default-argument_value c).After-ends_of_first-positions in
    let begun = (goal.at.loop-end-preserved-in_default-argument_value c).After-answer_is_unique in
    let end = c.loop-end.end in
    record {
      same = c.loop-end.invariant.same;
      none = after begun (end + 1)
          (none_valued c.args.behind.now.lines.now c.args.behind.now.scores.now (sound begun)
          c.in-Some-Some.argument.now c.in-Some-Some.others.now c.in-Some-Some.factor.now c.in-Some-Some.more.now
          c.args.from c.args.to c.args.total (laid begun) (greatest begun) end
          (before begun end c.loop-end.invariant.none)
          (fits at end c.loop-end.auto.end c.loop-end-test.true) (λ entry. c.in_default-argument_value.ensures entry));
    }

pub loop-end-preserved-in_default-tail_total : goal.loop-end-preserved-in_default-tail_total
loop-end-preserved-in_default-tail_total c =
    let at = (goal.at.loop-end-preserved-in_default-tail_total c).After-ends_of_first-positions in
    let begun = (goal.at.loop-end-preserved-in_default-tail_total c).After-answer_is_unique in
    let end = c.loop-end.end in
    record {
      same = c.in_default-tail_total.ensures.same ∙ c.loop-end.invariant.same;
      none = after begun (end + 1)
          (none_totalled c.args.behind.now.lines.now c.args.behind.now.scores.now (sound begun)
          c.in-Some-Some.argument.now c.in-Some-Some.others.now c.in-Some-Some.factor.now c.in-Some-Some.more.now
          c.args.from c.args.to c.args.total (laid begun) (greatest begun) end
          (before begun end c.loop-end.invariant.none)
          (fits at end c.loop-end.auto.end c.loop-end-test.true) c.in_default-tail_total.ensures.greatest);
    }

-- the arguments behind an end
rest : (c : After-answer_is_unique) (range : Range ℕ)
    → ArePositions c.args.behind.now.lines.now c.in-Some-Some.argument.now c.in-Some-Some.others.now c.args.from
    c.args.to range → (end : ℕ) → range.start ≤ end → end < range.end
    → AreLaid c.args.behind.now.lines.now c.args.behind.now.scores.now c.in-Some-Some.others.now c.in-Some-Some.more.now
    end c.args.to
rest c range are end l m =
    rest_laid c.args.behind.now.lines.now c.args.behind.now.scores.now c.in-Some-Some.argument.now
    c.in-Some-Some.others.now c.in-Some-Some.factor.now c.in-Some-Some.more.now c.args.from c.args.to (laid c) end
    (are.fit end l m) (omega (arith, are.up_to_last, m))

pub tail_total-requires-clause-owner : goal.tail_total-requires-clause-owner
tail_total-requires-clause-owner c =
    let p = c.args.behind.now.lines.now in
    let owner = c.args.behind.now.owner in
    let A : List Arg → Type 0 = λ arguments. IsOwner p owner arguments (c.in-Some-Some.factor.now ∷ c.in-Some-Some.more.now) in
    let F : List ℤ → Type 0 = λ factors. IsOwner p owner c.args.arguments.now factors in
    shorter_owner p owner c.in-Some-Some.argument.now c.in-Some-Some.others.now c.in-Some-Some.factor.now c.in-Some-Some.more.now
    (subst A c.in-Some-Some.ensures.cases.0 (subst F c.in-Some-Some.ensures'.cases.0 c.requires.owner))

pub tail_total-requires-clause-same_tails : goal.tail_total-requires-clause-same_tails
tail_total-requires-clause-same_tails c = c.loop-end.invariant.same

pub tail_total-requires-clause-weighted : goal.tail_total-requires-clause-weighted
tail_total-requires-clause-weighted c =
    let it = goal.at.tail_total-requires-clause-weighted c in
    (rest it.After-answer_is_unique c.ends_of_first-positions.result (positions it.After-ends_of_first-positions)
    c.loop-end.end c.loop-end.auto.end c.loop-end-test.true).weighted

pub tail_total-requires-clause-scored : goal.tail_total-requires-clause-scored
tail_total-requires-clause-scored c =
    let it = goal.at.tail_total-requires-clause-scored c in
    (rest it.After-answer_is_unique c.ends_of_first-positions.result (positions it.After-ends_of_first-positions)
    c.loop-end.end c.loop-end.auto.end c.loop-end-test.true).scored

pub tail_total-requires-clause-low : goal.tail_total-requires-clause-low
tail_total-requires-clause-low c =
    let it = goal.at.tail_total-requires-clause-low c in
    (rest it.After-answer_is_unique c.ends_of_first-positions.result (positions it.After-ends_of_first-positions)
    c.loop-end.end c.loop-end.auto.end c.loop-end-test.true).low

-- the product of the first argument and the total from an end on fit
fitting : (c : After-answer_is_unique) (end : ℕ)
    → FitsSpan c.args.behind.now.lines.now (on_span c.in-Some-Some.argument.now c.args.from end) → (value : ℤ)
    → (AtRule (HasEntry c.args.behind.now.scores.now) (on_span c.in-Some-Some.argument.now c.args.from end)
    → IsValue c.args.behind.now.lines.now (HasBestScore c.args.behind.now.lines.now)
    (on_span c.in-Some-Some.argument.now c.args.from end) value)
    → (rest : ℤ) → HasTotal c.args.behind.now.lines.now (HasBestScore c.args.behind.now.lines.now)
    c.in-Some-Some.others.now c.in-Some-Some.more.now end c.args.to rest
    → FitsSigned w64 (c.in-Some-Some.factor.now *ℤ value) × FitsSigned w64 rest
    × FitsSigned w64 ((c.in-Some-Some.factor.now *ℤ value) +ℤ rest)
fitting c end end_fits value told rest total =
    parts_fit c.args.behind.now.lines.now c.args.behind.now.scores.now c.in-Some-Some.argument.now
    c.in-Some-Some.others.now c.in-Some-Some.factor.now c.in-Some-Some.more.now c.args.from c.args.to (laid c) end
    end_fits (sound c) value told rest total

pub overflow_mul-factor : goal.overflow_mul-factor
overflow_mul-factor c =
    let at = (goal.at.overflow_mul-factor c).After-ends_of_first-positions in
    let begun = (goal.at.overflow_mul-factor c).After-answer_is_unique in
    let end = c.loop-end.end in
    let end_fits = fits at end c.loop-end.auto.end c.loop-end-test.true in
    let factor = c.in-Some-Some.factor.now in
    let value = c.in-Some.value in
    let rest = c.in-Some-tail_total.rest in
    let it = fitting begun end end_fits value (λ entry. c.in-Some.ensures entry) rest c.in-Some-tail_total.ensures.greatest.0 in
    let fits_factor : FitsSigned w64 factor = search rules in
    let fits_value : FitsSigned w64 value = search rules in
    simp to_z-of_z it.0

pub overflow_add-factor : goal.overflow_add-factor
overflow_add-factor c =
    let at = (goal.at.overflow_add-factor c).After-ends_of_first-positions in
    let begun = (goal.at.overflow_add-factor c).After-answer_is_unique in
    let end = c.loop-end.end in
    let end_fits = fits at end c.loop-end.auto.end c.loop-end-test.true in
    let factor = c.in-Some-Some.factor.now in
    let value = c.in-Some.value in
    let rest = c.in-Some-tail_total.rest in
    let it = fitting begun end end_fits value (λ entry. c.in-Some.ensures entry) rest c.in-Some-tail_total.ensures.greatest.0 in
    let fits_factor : FitsSigned w64 factor = search rules in
    let fits_value : FitsSigned w64 value = search rules in
    let fits_product : FitsSigned w64 (factor *ℤ value) = it.0 in
    let fits_rest : FitsSigned w64 rest = it.1 in
    simp to_z-of_z it.2

pub returns-then-factor-value-clause-first : goal.returns-then-factor-value-clause-first
returns-then-factor-value-clause-first c =
    let at = (goal.at.returns-then-factor-value-clause-first c).After-ends_of_first-positions in
    let begun = (goal.at.returns-then-factor-value-clause-first c).After-answer_is_unique in
    let end = c.loop-end.end in
    let end_fits = fits at end c.loop-end.auto.end c.loop-end-test.true in
    let factor = c.in-Some-Some.factor.now in
    let value = c.in-Some.value in
    let rest = c.in-Some-tail_total.rest in
    let it = fitting begun end end_fits value (λ entry. c.in-Some.ensures entry) rest c.in-Some-tail_total.ensures.greatest.0 in
    let fits_factor : FitsSigned w64 factor = search rules in
    let fits_value : FitsSigned w64 value = search rules in
    let fits_product : FitsSigned w64 (factor *ℤ value) = it.0 in
    let fits_rest : FitsSigned w64 rest = it.1 in
    let fits_sum : FitsSigned w64 ((factor *ℤ value) +ℤ rest) = it.2 in
    let p = c.args.behind.now.lines.now in
    let more = c.in-Some-Some.more.now in
    let fits_total : FitsSigned w64 c.args.total = search rules in
    let told : of_z w64 ((factor *ℤ value) +ℤ rest) ≡ of_z w64 c.args.total = simp to_z-of_z at c.if-factor-value.true in
    let same = same_bits ((factor *ℤ value) +ℤ rest) c.args.total fits_sum fits_total told in
    let found = found_here p c.args.behind.now.scores.now (sound begun) c.in-Some-Some.argument.now
    c.in-Some-Some.others.now factor more c.args.from c.args.to c.args.total (laid begun) (greatest begun) end
    (before begun end c.loop-end.invariant.none) end_fits value rest (λ entry. c.in-Some.ensures entry)
    c.in-Some-tail_total.ensures.greatest same in
    let A : List Arg → Type 0 = λ arguments. IsFirstEnd p arguments (factor ∷ more) c.args.from c.args.to c.args.total end in
    let F : List ℤ → Type 0 = λ factors. IsFirstEnd p c.args.arguments.now factors c.args.from c.args.to c.args.total end in
    subst F (sym c.in-Some-Some.ensures'.cases.0) (subst A (sym c.in-Some-Some.ensures.cases.0) found)

pub loop-end-preserved : goal.loop-end-preserved
loop-end-preserved c =
    let at = (goal.at.loop-end-preserved c).After-ends_of_first-positions in
    let begun = (goal.at.loop-end-preserved c).After-answer_is_unique in
    let end = c.loop-end.end in
    let end_fits = fits at end c.loop-end.auto.end c.loop-end-test.true in
    let factor = c.in-Some-Some.factor.now in
    let value = c.in-Some.value in
    let rest = c.in-Some-tail_total.rest in
    let it = fitting begun end end_fits value (λ entry. c.in-Some.ensures entry) rest c.in-Some-tail_total.ensures.greatest.0 in
    let fits_factor : FitsSigned w64 factor = search rules in
    let fits_value : FitsSigned w64 value = search rules in
    let fits_product : FitsSigned w64 (factor *ℤ value) = it.0 in
    let fits_rest : FitsSigned w64 rest = it.1 in
    let fits_sum : FitsSigned w64 ((factor *ℤ value) +ℤ rest) = it.2 in
    let told : of_z w64 ((factor *ℤ value) +ℤ rest) ≡ of_z w64 c.args.total → ⊥ = simp to_z-of_z at c.if-factor-value.false in
    let differs : ((factor *ℤ value) +ℤ rest) ≡ c.args.total → ⊥ = λ e. told (ap (of_z w64) e) in
    record {
      same = c.in-Some-tail_total.ensures.same ∙ c.loop-end.invariant.same;
      none = after begun (end + 1)
          (none_so_great c.args.behind.now.lines.now c.args.behind.now.scores.now (sound begun)
          c.in-Some-Some.argument.now c.in-Some-Some.others.now factor c.in-Some-Some.more.now c.args.from c.args.to
          c.args.total (laid begun) (greatest begun) end (before begun end c.loop-end.invariant.none) end_fits value
          rest (λ entry. c.in-Some.ensures entry) c.in-Some-tail_total.ensures.greatest differs);
    }

pub unreachable-requires-2 : goal.unreachable-requires-2
unreachable-requires-2 c =
    let at = (goal.at.unreachable-requires-2 c).After-ends_of_first-positions in
    let begun = (goal.at.unreachable-requires-2 c).After-answer_is_unique in
    not_all_tried c.args.behind.now.lines.now c.args.behind.now.scores.now (sound begun) c.in-Some-Some.argument.now
    c.in-Some-Some.others.now c.in-Some-Some.factor.now c.in-Some-Some.more.now c.args.from c.args.to c.args.total
    (laid begun) (greatest begun) c.ends_of_first-positions.result (positions at) c.loop-end.end
    c.loop-end-test.false (before begun c.loop-end.end c.loop-end.invariant.none)
