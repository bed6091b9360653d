use Rattle.std.proofs.Common.{◌≡◌, ◌≤◌, ℕ, ℤ, ◌-◌, ◌+ℤ◌, ◌*ℤ◌, Option, Some, None, List, [], ◌∷◌, length, drop, ap}
use Rattle.std.proofs.Common.{FitsSigned, w64, sym, subst, arith, rules, ◌∙◌}
use Rattle.std.specs.Option.{option_copied}
use Rattle.std.specs.Prelude.{IfSome, ◌==◌, if◌then◌else◌}
use Rattle.std.proofs.lemmas.Int.{to_z-of_z}
use Rattle.adp_model.specs.declared.grammar.Arg.{Arg}
use Rattle.split_lines.specs.declared.lines.Line.{Line}
use Rattle.split_lines.specs.Lines.{IsLine}
use Rattle.adp_model.specs.Splits.{AtRule, FitsSpan}
use Rattle.adp_model.specs.FirstSplit.{IsValue}
use Rattle.adp_model.specs.Bellman.{HasBestScore}
use Rattle.viable_splits.specs.Placing.{on_span, Cover}
use Rattle.cell_answers.specs.Entries.{HasEntry}
use Rattle.cell_answers.specs.Totals.{AreLow, AreWeighted, HasTotal}
use Rattle.score_numbers.specs.Greatest.{IsGreatestOf}
use Rattle.cell_answers.specs.NotedEnds.{HasTotalOf}
use Rattle.cell_answers.proofs.FirstEnds.{AreLaid, AreSound, first_known_entry, first_low, rest_laid, none_first, all_found}
use Rattle.cell_answers.proofs.Greatest.{before_more}
use Rattle.cell_answers.proofs.NotedEnds.{laid_first, laid_out, owned_tail, sides_fit}
use Rattle.cell_answers.proofs.Totalling.{greatest_at, values_cover}
use Rattle.split_lines.specs.Ends.{IsEndTold}
use Rattle.cell_answers.proofs.OneEnds.{none_ends, one_ends, total_nowhere, none_from, greatest_from, fixed_value, empty_without}
use Rattle.cell_answers.specs.Tails.{IsOwner, IsTail, IsTailTotal}
use Rattle.cell_answers.proofs.TailFactors.{shorter_owner, owner_tail, tail_total_is}
use Rattle.cell_answers.proofs.Reading.{product_fits, sum_fits, sum_read}
use Rattle.cell_answers.proofs.Soundness.{parts_fit, sound_by}
use Rattle.cell_answers.proofs.filling.+totals.Goals as goal
use Rattle.cell_answers.proofs.filling.+totals.Goals.{total_at-After-answer_is_unique}
use Rattle.cell_answers.proofs.filling.+totals.Goals.{greatest_total-After-answer_is_unique}
use Rattle.cell_answers.proofs.filling.+totals.Goals.{greatest_total-After-token_value, greatest_total-In_ok-end}
use Rattle.cell_answers.proofs.filling.+totals.Goals.{tail_total-After-total}

-- the arguments, from the first one on
laid : (t : ℕ) (c : greatest_total-After-answer_is_unique t)
    → AreLaid c.args.known.now.lines.now c.args.known.now.scores.now
    (c.in-Some-Some.argument.now ∷ c.in-Some-Some.others.now) (c.in-Some-Some.factor.now ∷ c.in-Some-Some.factors.now)
    c.args.from c.args.to
laid t c =
    let p = c.args.known.now.lines.now in
    let table = c.args.known.now.scores.now in
    let A : List Arg → Type 0 = λ arguments. AreLaid p table arguments (c.in-Some-Some.factor.now ∷ c.in-Some-Some.factors.now) c.args.from c.args.to in
    let F : List ℤ → Type 0 = λ factors. AreLaid p table c.args.arguments.now factors c.args.from c.args.to in
    subst A c.in-Some-Some.ensures.cases.0 (subst F c.in-Some-Some.ensures'.cases.0
    (record { weighted = c.requires.weighted; span = c.requires.span; scored = c.requires.scored; low = c.requires.low }))

sound : (t : ℕ) (c : greatest_total-After-answer_is_unique t) → AreSound c.args.known.now.lines.now
sound t c =
    sound_by c.problem.result.now c.args.known.now.lines.now c.problem.ensures c.admissible.ensures
    (c.bounds_are_sound.ensures.score c.args.known.now.lines.now)
    (c.answer_is_unique.ensures c.args.known.now.lines.now)

-- the line of the others
later_line : (t : ℕ) (c : greatest_total-After-answer_is_unique t)
    → IfSome c.args.known.now.line
    (λ line. IsLine c.args.known.now.lines.now (drop (c.args.ahead - 1) c.in-Some-Some.others.now) line)
later_line t c =
    let A : List Arg → Type 0 = λ arguments. IfSome c.args.known.now.line (λ line. IsLine c.args.known.now.lines.now (drop c.args.ahead arguments) line) in
    c.line_begins_later.ensures c.args.known.now.lines.now c.in-Some-Some.argument.now c.in-Some-Some.others.now
    c.args.known.now.line (option_copied c.line_here.result) c.args.ahead
    (subst (λ (given : Option Line). option_copied c.line_here.result ≡ (if c.args.ahead == 0 then given else None))
    c.as_ref.ensures.value c.line_here.ensures) (ap option_copied c.in_default.is)
    (subst A c.in-Some-Some.ensures.cases.0 c.requires.line)

-- the alternative whose last arguments the others are
owner_behind : (t : ℕ) (c : greatest_total-After-answer_is_unique t)
    → IsOwner c.args.known.now.lines.now c.args.known.now.owner c.in-Some-Some.others.now c.in-Some-Some.factors.now
owner_behind t c =
    let p = c.args.known.now.lines.now in
    let A : List Arg → Type 0 = λ arguments. IsOwner p c.args.known.now.owner arguments (c.in-Some-Some.factor.now ∷ c.in-Some-Some.factors.now) in
    let F : List ℤ → Type 0 = λ factors. IsOwner p c.args.known.now.owner c.args.arguments.now factors in
    shorter_owner p c.args.known.now.owner c.in-Some-Some.argument.now c.in-Some-Some.others.now c.in-Some-Some.factor.now c.in-Some-Some.factors.now
    (subst A c.in-Some-Some.ensures.cases.0 (subst F c.in-Some-Some.ensures'.cases.0 c.requires.owner))

-- what holds of the totals of the first argument and the others holds of those of the arguments
of_all : (t : ℕ) (c : greatest_total-After-answer_is_unique t) (result : Option ℤ)
    → IsGreatestOf (HasTotal c.args.known.now.lines.now (HasBestScore c.args.known.now.lines.now)
    (c.in-Some-Some.argument.now ∷ c.in-Some-Some.others.now)
    (c.in-Some-Some.factor.now ∷ c.in-Some-Some.factors.now) c.args.from c.args.to) result
    → IsGreatestOf (HasTotal c.args.known.now.lines.now (HasBestScore c.args.known.now.lines.now) c.args.arguments.now
    c.args.factors.now c.args.from c.args.to) result
of_all t c result found =
    let p = c.args.known.now.lines.now in
    let A : List Arg → Type 0 = λ arguments. IsGreatestOf (HasTotal p (HasBestScore p) arguments
    (c.in-Some-Some.factor.now ∷ c.in-Some-Some.factors.now) c.args.from c.args.to) result in
    let F : List ℤ → Type 0 = λ factors. IsGreatestOf (HasTotal p (HasBestScore p) c.args.arguments.now factors c.args.from c.args.to) result in
    subst F (sym c.in-Some-Some.ensures'.cases.0) (subst A (sym c.in-Some-Some.ensures.cases.0) found)

-- ---- end by end

pub greatest_total-total_by_ends-requires : goal.greatest_total-total_by_ends-requires
greatest_total-total_by_ends-requires t c =
    let begun = (goal.at.greatest_total-total_by_ends-requires t c).After-answer_is_unique in
    let p = c.args.known.now.lines.now in
    let argument = c.in-Some-Some.argument.now in
    let others = c.in-Some-Some.others.now in
    let factor = c.in-Some-Some.factor.now in
    let N : ℕ → Type 0 = λ n. IfSome c.args.known.now.line (λ line. IsLine p (drop n others) line) in
    let ahead = subst N (sym c.saturating_sub-ahead.ensures) (later_line t begun) in
    let fewer = c.in-Some-Some.ensures.cases.1 in
    let out = laid_out p c.args.known.now.scores.now _ factor (sym (to_z-of_z w64 factor (search rules))) (laid t begun) in
    let ends = c.ends_of_first-ends.ensures argument others c.in-Some-Some.ensures.cases.0 in
    (search rules, (c.requires.same_problem, (c.requires.same_tails, (owner_behind t begun, (ahead, (out, ends))))))

pub greatest_total-returns-clause-greatest : goal.greatest_total-returns-clause-greatest
greatest_total-returns-clause-greatest t c =
    let begun = (goal.at.greatest_total-returns-clause-greatest t c).After-answer_is_unique in
    let p = c.args.known.now.lines.now in
    let argument = c.in-Some-Some.argument.now in
    let others = c.in-Some-Some.others.now in
    let factors = c.in-Some-Some.factors.now in
    let found = c.total_by_ends.result in
    let F : ℤ → Type 0 = λ factor. IsGreatestOf
    (HasTotal p (HasBestScore p) (argument ∷ others) (factor ∷ factors) c.args.from c.args.to) found in
    of_all t begun found
    (subst F (to_z-of_z w64 c.in-Some-Some.factor.now (search rules)) c.total_by_ends.ensures.greatest)

pub total_by_ends-side_by_side-sides-requires : goal.total_by_ends-side_by_side-sides-requires
total_by_ends-side_by_side-sides-requires t c =
    let others = c.args.laid.now.others.now in
    let factors = c.args.laid.now.factors.now in
    let tail = c.tail_of-tail.result in
    let told = owned_tail c.args.known.now.lines.now c.args.known.now.owner others factors tail c.tail_of-tail.ensures
    c.requires.owner in
    record { tail = subst (λ q. IfSome tail (λ it. IsTail q it others factors)) (sym c.requires.same_problem) told }

pub total_by_ends-loop-reached-init : goal.total_by_ends-loop-reached-init
total_by_ends-loop-reached-init t c =
    let laid = c.args.laid.now in
    record {
      same = c.requires.same_tails;
      begun = omega arith;
      reached = none_first c.args.known.now.lines.now laid.first.now laid.others.now laid.factor laid.factors.now laid.from
          laid.to c.args.ends c.requires.ends;
    }

pub total_by_ends-over_noted-reached-requires-clause-fit : goal.total_by_ends-over_noted-reached-requires-clause-fit
total_by_ends-over_noted-reached-requires-clause-fit t c =
    sides_fit c.args.known.now.lines.now c.args.known.now.scores.now c.args.laid.now c.args.ends.start c.args.ends.end
    c.side_by_side-sides.result c.side_by_side-sides.ensures c.requires.ends.fit

pub total_by_ends-total_at-total-requires : goal.total_by_ends-total_at-total-requires
total_by_ends-total_at-total-requires t c =
    let end = c.over_noted-reached.result.end in
    let from_start : c.args.ends.start ≤ end = omega (
      arith,
      c.loop-reached.invariant.begun,
      c.over_noted-reached.ensures.later,
    ) in
    let within : end ≤ c.args.laid.now.to = omega (arith, c.requires.ends.up_to_last, c.if-reached-ends.true) in
    let fits = c.requires.ends.fit end from_start c.if-reached-ends.true in (
      search rules,
      (
        c.requires.same_problem,
        (
          c.loop-reached.invariant.same,
          (c.requires.owner, (c.requires.line, (c.requires.laid, (fits, within)))),
        ),
      ),
    )

pub total_by_ends-loop-reached-preserved-then-reached-ends : goal.total_by_ends-loop-reached-preserved-then-reached-ends
total_by_ends-loop-reached-preserved-then-reached-ends t c = record {
  same = c.total_at-total.ensures.same ∙ c.loop-reached.invariant.same;
  begun = omega (arith, c.loop-reached.invariant.begun, c.over_noted-reached.ensures.later);
  reached = before_more _ c.over_noted-reached.result.end c.over_noted-reached.result.greatest
      c.over_noted-reached.ensures.reached c.total_at-total.result c.greater.result c.total_at-total.ensures.greatest
      c.greater.ensures;
}

pub total_by_ends-returns-clause-greatest : goal.total_by_ends-returns-clause-greatest
total_by_ends-returns-clause-greatest t c =
    let laid = c.args.laid.now in
    all_found c.args.known.now.lines.now laid.first.now laid.others.now laid.factor laid.factors.now laid.from laid.to
    c.args.ends c.requires.ends c.loop-reached.reached.end c.loop-reached.reached.greatest c.loop-reached-test.false
    c.loop-reached.invariant.reached

-- ---- at one end

laid_there : (t : ℕ) (c : total_at-After-answer_is_unique t) → AreLaid c.args.known.now.lines.now c.args.known.now.scores.now
    (c.args.laid.now.first.now ∷ c.args.laid.now.others.now) (c.args.laid.now.factor ∷ c.args.laid.now.factors.now) c.args.laid.now.from c.args.laid.now.to
laid_there t c = laid_first c.args.known.now.lines.now c.args.known.now.scores.now c.args.laid.now c.requires.laid

sound_there : (t : ℕ) (c : total_at-After-answer_is_unique t) → AreSound c.args.known.now.lines.now
sound_there t c =
    sound_by c.problem.result.now c.args.known.now.lines.now c.problem.ensures c.admissible.ensures
    (c.bounds_are_sound.ensures.score c.args.known.now.lines.now)
    (c.answer_is_unique.ensures c.args.known.now.lines.now)

-- where the others have a total the first argument has its entry
entry_there : (t : ℕ) (c : total_at-After-answer_is_unique t) (total : ℤ) → HasTotal c.args.known.now.lines.now
    (HasBestScore c.args.known.now.lines.now) c.args.laid.now.others.now c.args.laid.now.factors.now c.args.end c.args.laid.now.to total
    → AtRule (HasEntry c.args.known.now.scores.now) (on_span c.args.laid.now.first.now c.args.laid.now.from c.args.end)
entry_there t c total has =
    let p = c.args.known.now.lines.now in
    let laid = c.args.laid.now in
    first_known_entry p c.args.known.now.scores.now laid.first.now laid.others.now laid.factor laid.factors.now
    laid.from laid.to (laid_there t c) c.args.end c.requires.fits
    (values_cover p (HasBestScore p) laid.others.now c.args.end laid.to has.0 has.1)

pub total_at-argument_value-requires-clause-low : goal.total_at-argument_value-requires-clause-low
total_at-argument_value-requires-clause-low t c =
    let laid = c.args.laid.now in
    first_low c.args.known.now.lines.now c.args.known.now.scores.now laid.first.now laid.others.now laid.factor laid.factors.now laid.from laid.to
    (laid_first c.args.known.now.lines.now c.args.known.now.scores.now laid c.requires.laid) c.args.end c.requires.fits

pub total_at-returns-in_default-clause-greatest : goal.total_at-returns-in_default-clause-greatest
total_at-returns-in_default-clause-greatest t c = λ number it.
    c.in_default.ensures (entry_there t (goal.at.total_at-returns-in_default-clause-greatest t c).After-answer_is_unique
    it.others it.have_others) it.value it.is_value

pub total_at-tail_total-requires : goal.total_at-tail_total-requires
total_at-tail_total-requires t c =
    let begun = (goal.at.total_at-tail_total-requires t c).After-answer_is_unique in
    let laid = c.args.laid.now in
    let rest = rest_laid c.args.known.now.lines.now c.args.known.now.scores.now laid.first.now laid.others.now
    laid.factor laid.factors.now laid.from laid.to (laid_there t begun)
    c.args.end c.requires.fits c.requires.within in (
      search rules,
      (
        c.requires.same_problem,
        (
          c.requires.same_tails,
          (
            c.requires.owner,
            (c.requires.line, (rest.weighted, (rest.span, (rest.scored, rest.low)))),
          ),
        ),
      ),
    )

pub total_at-returns-in_default-tail_total-clause-greatest : goal.total_at-returns-in_default-tail_total-clause-greatest
total_at-returns-in_default-tail_total-clause-greatest t c = λ number it. c.in_default-tail_total.ensures.greatest it.others it.have_others

parts_there : (t : ℕ) (c : total_at-After-answer_is_unique t) (value : ℤ) →
    (AtRule (HasEntry c.args.known.now.scores.now) (on_span c.args.laid.now.first.now c.args.laid.now.from c.args.end) → IsValue c.args.known.now.lines.now
    (HasBestScore c.args.known.now.lines.now) (on_span c.args.laid.now.first.now c.args.laid.now.from c.args.end) value)
    → (rest : ℤ) → HasTotal c.args.known.now.lines.now (HasBestScore c.args.known.now.lines.now)
    c.args.laid.now.others.now c.args.laid.now.factors.now c.args.end c.args.laid.now.to rest
    → FitsSigned w64 (c.args.laid.now.factor *ℤ value) × FitsSigned w64 rest × FitsSigned w64 ((c.args.laid.now.factor *ℤ value) +ℤ rest)
parts_there t c value told rest has =
    let laid = c.args.laid.now in
    parts_fit c.args.known.now.lines.now c.args.known.now.scores.now laid.first.now laid.others.now laid.factor
    laid.factors.now laid.from laid.to (laid_there t c) c.args.end
    c.requires.fits (sound_there t c) value told rest has

pub total_at-overflow_mul-result : goal.total_at-overflow_mul-result
total_at-overflow_mul-result t c =
    let begun = (goal.at.total_at-overflow_mul-result t c).After-answer_is_unique in
    let it = parts_there t begun c.in-Some.value (λ entry. c.in-Some.ensures entry) c.in-Some-tail_total.rest c.in-Some-tail_total.ensures.greatest.0 in
    product_fits c.args.laid.now.factor c.in-Some.value (search rules) (search rules) it.0

pub total_at-overflow_add-result : goal.total_at-overflow_add-result
total_at-overflow_add-result t c =
    let begun = (goal.at.total_at-overflow_add-result t c).After-answer_is_unique in
    let rest = c.in-Some-tail_total.rest in
    let it = parts_there t begun c.in-Some.value (λ entry. c.in-Some.ensures entry) rest c.in-Some-tail_total.ensures.greatest.0 in
    sum_fits c.args.laid.now.factor c.in-Some.value (search rules) (search rules) it.0 rest it.1 it.2

pub total_at-returns-clause-greatest : goal.total_at-returns-clause-greatest
total_at-returns-clause-greatest t c =
    let begun = (goal.at.total_at-returns-clause-greatest t c).After-answer_is_unique in
    let p = c.args.known.now.lines.now in
    let laid = c.args.laid.now in
    let value = c.in-Some.value in
    let rest = c.in-Some-tail_total.rest in
    let greatest = c.in-Some-tail_total.ensures.greatest in
    let it = parts_there t begun value (λ entry. c.in-Some.ensures entry) rest greatest.0 in
    let R : ℤ → Type 0 = λ total. IsGreatestOf (HasTotalOf p laid c.args.end) (Some total) in
    subst R (sym (sum_read laid.factor value (search rules) (search rules) it.0 rest it.1 it.2))
    (greatest_at p (HasBestScore p) laid.first.now laid.others.now laid.factor laid.factors.now laid.from laid.to
    (sound_there t begun).one c.args.end value rest c.requires.fits
    (c.in-Some.ensures (entry_there t begun rest greatest.0)) greatest)

-- ---- in front of the ends

-- the product of the first argument and the total from an end on fit
fitting : (t : ℕ) (c : greatest_total-After-answer_is_unique t) (end : ℕ)
    → FitsSpan c.args.known.now.lines.now (on_span c.in-Some-Some.argument.now c.args.from end) → (value : ℤ)
    → (AtRule (HasEntry c.args.known.now.scores.now) (on_span c.in-Some-Some.argument.now c.args.from end)
    → IsValue c.args.known.now.lines.now (HasBestScore c.args.known.now.lines.now)
    (on_span c.in-Some-Some.argument.now c.args.from end) value)
    → (rest : ℤ) → HasTotal c.args.known.now.lines.now (HasBestScore c.args.known.now.lines.now)
    c.in-Some-Some.others.now c.in-Some-Some.factors.now end c.args.to rest
    → FitsSigned w64 (c.in-Some-Some.factor.now *ℤ value) × FitsSigned w64 rest
    × FitsSigned w64 ((c.in-Some-Some.factor.now *ℤ value) +ℤ rest)
fitting t c end end_fits value told rest total =
    parts_fit c.args.known.now.lines.now c.args.known.now.scores.now c.in-Some-Some.argument.now
    c.in-Some-Some.others.now c.in-Some-Some.factor.now c.in-Some-Some.factors.now c.args.from c.args.to (laid t c) end
    end_fits (sound t c) value told rest total

pub greatest_total-greatest_along-requires-clause-line : goal.greatest_total-greatest_along-requires-clause-line
greatest_total-greatest_along-requires-clause-line t c =
    c.line_begins_here.ensures c.args.known.now.lines.now c.args.arguments.now c.args.known.now.line
    (option_copied c.line_here.result) c.args.ahead c.in-Some.line.now
    (subst (λ (given : Option Line). option_copied c.line_here.result ≡ (if c.args.ahead == 0 then given else None))
    c.as_ref.ensures.value c.line_here.ensures) (ap option_copied c.in-Some.is) c.requires.line

-- ---- a token in front

told_end : (t : ℕ) (c : greatest_total-In_ok-end t) → IsEndTold c.args.known.now.lines.now c.in-Some-Some.argument.now
    c.args.from c.args.to (Some c.in_ok-end.end)
told_end t c = let E : Option ℕ → Type 0 = IsEndTold c.args.known.now.lines.now c.in-Some-Some.argument.now c.args.from c.args.to in
    subst E c.in_ok-end.was c.token_end.ensures

end_there : (t : ℕ) (c : greatest_total-In_ok-end t)
    → (c.in_ok-end.end ≤ c.args.to) × FitsSpan c.args.known.now.lines.now
    (on_span c.in-Some-Some.argument.now c.args.from c.in_ok-end.end)
end_there t c = (told_end t c c.in_ok-end.end).0 (λ i. Some c.in_ok-end.end)

only_end : (t : ℕ) (c : greatest_total-In_ok-end t) (other : ℕ)
    → FitsSpan c.args.known.now.lines.now (on_span c.in-Some-Some.argument.now c.args.from other)
    → Cover c.args.known.now.lines.now c.in-Some-Some.others.now other c.args.to → other ≡ c.in_ok-end.end
only_end t c = one_ends c.args.known.now.lines.now c.in-Some-Some.argument.now c.in-Some-Some.others.now c.args.from c.args.to c.in_ok-end.end (told_end t c)

pub greatest_total-returns-in_err-end-clause-greatest : goal.greatest_total-returns-in_err-end-clause-greatest
greatest_total-returns-in_err-end-clause-greatest t c =
    let begun = (goal.at.greatest_total-returns-in_err-end-clause-greatest t c).After-answer_is_unique in
    let p = c.args.known.now.lines.now in
    let argument = c.in-Some-Some.argument.now in
    let others = c.in-Some-Some.others.now in
    let E : Option ℕ → Type 0 = IsEndTold p argument c.args.from c.args.to in
    let none = none_ends p argument others c.args.from c.args.to (subst E c.in_err-end.was c.token_end.ensures) in
    of_all t begun c.from_residual.result
    (subst (λ (result : Option ℤ). IsGreatestOf (HasTotal p (HasBestScore p) (argument ∷ others)
    (c.in-Some-Some.factor.now ∷ c.in-Some-Some.factors.now) c.args.from c.args.to) result)
    (sym c.from_residual.ensures)
    (total_nowhere p argument others c.args.from c.args.to none (HasBestScore p) c.in-Some-Some.factor.now c.in-Some-Some.factors.now))

pub greatest_total-greatest_total-requires : goal.greatest_total-greatest_total-requires
greatest_total-greatest_total-requires t c =
    let begun = (goal.at.greatest_total-greatest_total-requires t c).After-answer_is_unique in
    let p = c.args.known.now.lines.now in
    let it = end_there t (goal.at.greatest_total-greatest_total-requires t c).In_ok-end in
    let rest = rest_laid p c.args.known.now.scores.now c.in-Some-Some.argument.now c.in-Some-Some.others.now
    c.in-Some-Some.factor.now c.in-Some-Some.factors.now c.args.from c.args.to (laid t begun) c.in_ok-end.end
    it.1 it.0 in
    let fewer = c.in-Some-Some.ensures.cases.1 in
    let N : ℕ → Type 0 = λ n. IfSome c.args.known.now.line (λ line. IsLine p (drop n c.in-Some-Some.others.now) line) in
    let ahead = subst N (sym c.saturating_sub-ahead.ensures) (later_line t begun) in
    (search rules, (c.requires.same_problem, (c.requires.same_tails, (owner_behind t begun, (ahead, (rest.weighted, (rest.span, (rest.scored, rest.low))))))))

pub greatest_total-returns-in_err-rest-clause-greatest : goal.greatest_total-returns-in_err-rest-clause-greatest
greatest_total-returns-in_err-rest-clause-greatest t c =
    let begun = (goal.at.greatest_total-returns-in_err-rest-clause-greatest t c).After-answer_is_unique in
    let at = (goal.at.greatest_total-returns-in_err-rest-clause-greatest t c).In_ok-end in
    let p = c.args.known.now.lines.now in
    let argument = c.in-Some-Some.argument.now in
    let others = c.in-Some-Some.others.now in
    let G : Option ℤ → Type 0 = λ result. IsGreatestOf (HasTotal p (HasBestScore p) others c.in-Some-Some.factors.now c.in_ok-end.end c.args.to) result in
    of_all t begun c.from_residual-in_err-rest.result
    (subst (λ (result : Option ℤ). IsGreatestOf (HasTotal p (HasBestScore p) (argument ∷ others)
    (c.in-Some-Some.factor.now ∷ c.in-Some-Some.factors.now) c.args.from c.args.to) result)
    (sym c.from_residual-in_err-rest.ensures)
    (none_from p argument others c.args.from c.args.to c.in_ok-end.end (end_there t at).1 (only_end t at)
    (HasBestScore p) c.in-Some-Some.factor.now c.in-Some-Some.factors.now
    (subst G c.in_err-rest.was c.greatest_total.ensures.greatest)))

pub greatest_total-token_value-requires-clause-span : goal.greatest_total-token_value-requires-clause-span
greatest_total-token_value-requires-clause-span t c = (end_there t (goal.at.greatest_total-token_value-requires-clause-span t c).In_ok-end).1.0

pub greatest_total-token_value-requires-clause-low : goal.greatest_total-token_value-requires-clause-low
greatest_total-token_value-requires-clause-low t c =
    let begun = (goal.at.greatest_total-token_value-requires-clause-low t c).After-answer_is_unique in
    first_low c.args.known.now.lines.now c.args.known.now.scores.now c.in-Some-Some.argument.now
    c.in-Some-Some.others.now c.in-Some-Some.factor.now c.in-Some-Some.factors.now c.args.from c.args.to
    (laid t begun) c.in_ok-end.end
    (end_there t (goal.at.greatest_total-token_value-requires-clause-low t c).In_ok-end).1

-- the value of the token, and that its parts are low
value_is : (t : ℕ) (c : greatest_total-After-token_value t)
    → IsValue c.args.known.now.lines.now (HasBestScore c.args.known.now.lines.now)
    (on_span c.in-Some-Some.argument.now c.args.from c.in_ok-end.end) c.token_value.result
value_is t c =
    let p = c.args.known.now.lines.now in
    let argument = c.in-Some-Some.argument.now in
    let V : ℤ → Type 0 = λ value. IsValue p (HasBestScore p) (on_span argument c.args.from c.in_ok-end.end) value in
    subst V (sym c.token_value.ensures) (fixed_value p (HasBestScore p) argument c.args.from c.in_ok-end.end (c.is_fixed.ensures.0 c.if-is_fixed.true))

rest_is : (t : ℕ) (c : greatest_total-After-token_value t)
    → IsGreatestOf (HasTotal c.args.known.now.lines.now (HasBestScore c.args.known.now.lines.now)
    c.in-Some-Some.others.now c.in-Some-Some.factors.now c.in_ok-end.end c.args.to) (Some c.in_ok-rest.rest)
rest_is t c =
    let p = c.args.known.now.lines.now in
    let G : Option ℤ → Type 0 = λ result. IsGreatestOf (HasTotal p (HasBestScore p) c.in-Some-Some.others.now
    c.in-Some-Some.factors.now c.in_ok-end.end c.args.to) result in
    subst G c.in_ok-rest.was c.greatest_total.ensures.greatest

pub greatest_total-overflow_mul-result : goal.greatest_total-overflow_mul-result
greatest_total-overflow_mul-result t c =
    let begun = (goal.at.greatest_total-overflow_mul-result t c).After-answer_is_unique in
    let at = (goal.at.greatest_total-overflow_mul-result t c).In_ok-end in
    let behind = (goal.at.greatest_total-overflow_mul-result t c).After-token_value in
    let factor = c.in-Some-Some.factor.now in
    let value = c.token_value.result in
    let rest = c.in_ok-rest.rest in
    let it = fitting t begun c.in_ok-end.end (end_there t at).1 value (λ entry. value_is t behind) rest (rest_is t behind).0 in
    product_fits factor value (search rules) (search rules) it.0

pub greatest_total-overflow_add-result : goal.greatest_total-overflow_add-result
greatest_total-overflow_add-result t c =
    let begun = (goal.at.greatest_total-overflow_add-result t c).After-answer_is_unique in
    let at = (goal.at.greatest_total-overflow_add-result t c).In_ok-end in
    let behind = (goal.at.greatest_total-overflow_add-result t c).After-token_value in
    let factor = c.in-Some-Some.factor.now in
    let value = c.token_value.result in
    let rest = c.in_ok-rest.rest in
    let it = fitting t begun c.in_ok-end.end (end_there t at).1 value (λ entry. value_is t behind) rest (rest_is t behind).0 in
    sum_fits factor value (search rules) (search rules) it.0 rest it.1 it.2

pub greatest_total-returns-then-is_fixed-clause-greatest : goal.greatest_total-returns-then-is_fixed-clause-greatest
greatest_total-returns-then-is_fixed-clause-greatest t c =
    let begun = (goal.at.greatest_total-returns-then-is_fixed-clause-greatest t c).After-answer_is_unique in
    let at = (goal.at.greatest_total-returns-then-is_fixed-clause-greatest t c).In_ok-end in
    let behind = (goal.at.greatest_total-returns-then-is_fixed-clause-greatest t c).After-token_value in
    let factor = c.in-Some-Some.factor.now in
    let value = c.token_value.result in
    let rest = c.in_ok-rest.rest in
    let it = fitting t begun c.in_ok-end.end (end_there t at).1 value (λ entry. value_is t behind) rest (rest_is t behind).0 in
    let found = greatest_from c.args.known.now.lines.now c.in-Some-Some.argument.now c.in-Some-Some.others.now
    c.args.from c.args.to c.in_ok-end.end (end_there t at).1 (only_end t at)
    (HasBestScore c.args.known.now.lines.now) factor c.in-Some-Some.factors.now (sound t begun).one value rest
    (value_is t behind) (rest_is t behind) in
    let p = c.args.known.now.lines.now in
    subst (λ total. IsGreatestOf (HasTotal p (HasBestScore p) c.args.arguments.now c.args.factors.now c.args.from
    c.args.to) (Some total)) (sym (sum_read factor value (search rules) (search rules) it.0 rest it.1 it.2))
    (of_all t begun (Some ((factor *ℤ value) +ℤ rest)) found)

-- ---- the last argument

-- nothing stands behind it
none_behind : (t : ℕ) (c : greatest_total-After-answer_is_unique t) → length c.in-Some-Some.others.now ≡ 0
    → (c.in-Some-Some.others.now ≡ []) × (c.in-Some-Some.factors.now ≡ [])
none_behind t c none =
    let none' = empty_without c.in-Some-Some.others.now none in
    let each : length c.in-Some-Some.factors.now ≡ 0 = omega (
      arith,
      c.requires.weighted.factors_each,
      ap length c.in-Some-Some.ensures.cases.0,
      ap length c.in-Some-Some.ensures'.cases.0,
      ap length none',
    ) in
    (none', empty_without c.in-Some-Some.factors.now each)

laid_alone : (t : ℕ) (c : greatest_total-After-answer_is_unique t) → length c.in-Some-Some.others.now ≡ 0
    → AreLaid c.args.known.now.lines.now c.args.known.now.scores.now (c.in-Some-Some.argument.now ∷ [])
    (c.in-Some-Some.factor.now ∷ []) c.args.from c.args.to
laid_alone t c none =
    let it = none_behind t c none in
    let p = c.args.known.now.lines.now in
    let table = c.args.known.now.scores.now in
    subst (λ others. AreLaid p table (c.in-Some-Some.argument.now ∷ others) (c.in-Some-Some.factor.now ∷ []) c.args.from c.args.to) it.0
    (subst (λ factors. AreLaid p table (c.in-Some-Some.argument.now ∷ c.in-Some-Some.others.now)
    (c.in-Some-Some.factor.now ∷ factors) c.args.from c.args.to) it.1 (laid t c))

pub greatest_total-last_total-requires-clause-weighted : goal.greatest_total-last_total-requires-clause-weighted
greatest_total-last_total-requires-clause-weighted t c =
    let it = laid_alone t (goal.at.greatest_total-last_total-requires-clause-weighted t c).After-answer_is_unique (search rules) in
    let p = c.args.known.now.lines.now in
    let argument = c.in-Some-Some.argument.now in
    subst (λ factor. AreWeighted p (argument ∷ []) (factor ∷ [])) (sym (to_z-of_z w64 c.in-Some-Some.factor.now (search rules))) it.weighted

pub greatest_total-last_total-requires-clause-scored : goal.greatest_total-last_total-requires-clause-scored
greatest_total-last_total-requires-clause-scored t c =
    (laid_alone t (goal.at.greatest_total-last_total-requires-clause-scored t c).After-answer_is_unique (search rules)).scored

pub greatest_total-last_total-requires-clause-low : goal.greatest_total-last_total-requires-clause-low
greatest_total-last_total-requires-clause-low t c =
    let it = laid_alone t (goal.at.greatest_total-last_total-requires-clause-low t c).After-answer_is_unique (search rules) in
    let p = c.args.known.now.lines.now in
    let argument = c.in-Some-Some.argument.now in
    subst (λ factor. AreLow p (argument ∷ []) (factor ∷ []) c.args.from c.args.to) (sym (to_z-of_z w64 c.in-Some-Some.factor.now (search rules))) it.low

pub greatest_total-returns-then-is_empty-clause-greatest : goal.greatest_total-returns-then-is_empty-clause-greatest
greatest_total-returns-then-is_empty-clause-greatest t c =
    let begun = (goal.at.greatest_total-returns-then-is_empty-clause-greatest t c).After-answer_is_unique in
    let it = none_behind t begun (search rules) in
    let p = c.args.known.now.lines.now in
    let argument = c.in-Some-Some.argument.now in
    let factor = c.in-Some-Some.factor.now in
    let found = subst (λ factor. IsGreatestOf (HasTotal p (HasBestScore p) (argument ∷ []) (factor ∷ []) c.args.from
    c.args.to) c.last_total.result) (to_z-of_z w64 factor (search rules)) c.last_total.ensures in
    of_all t begun c.last_total.result
    (subst (λ others. IsGreatestOf (HasTotal p (HasBestScore p) (argument ∷ others)
    (factor ∷ c.in-Some-Some.factors.now) c.args.from c.args.to) c.last_total.result) (sym it.0)
    (subst (λ factors. IsGreatestOf (HasTotal p (HasBestScore p) (argument ∷ []) (factor ∷ factors) c.args.from
    c.args.to) c.last_total.result) (sym it.1) found))

pub greatest_total-greatest_along-requires-clause-same_problem : goal.greatest_total-greatest_along-requires-clause-same_problem
greatest_total-greatest_along-requires-clause-same_problem t c = c.requires.same_problem

pub greatest_total-greatest_along-requires-clause-weighted : goal.greatest_total-greatest_along-requires-clause-weighted
greatest_total-greatest_along-requires-clause-weighted t c = c.requires.weighted

pub greatest_total-greatest_along-requires-clause-span : goal.greatest_total-greatest_along-requires-clause-span
greatest_total-greatest_along-requires-clause-span t c = c.requires.span

pub greatest_total-greatest_along-requires-clause-scored : goal.greatest_total-greatest_along-requires-clause-scored
greatest_total-greatest_along-requires-clause-scored t c = c.requires.scored

pub greatest_total-greatest_along-requires-clause-low : goal.greatest_total-greatest_along-requires-clause-low
greatest_total-greatest_along-requires-clause-low t c = c.requires.low

pub greatest_total-last_total-requires-clause-same_problem : goal.greatest_total-last_total-requires-clause-same_problem
greatest_total-last_total-requires-clause-same_problem t c = c.requires.same_problem

pub greatest_total-last_total-requires-clause-span : goal.greatest_total-last_total-requires-clause-span
greatest_total-last_total-requires-clause-span t c = c.requires.span

pub greatest_total-ends_of_first-ends-requires-clause-span : goal.greatest_total-ends_of_first-ends-requires-clause-span
greatest_total-ends_of_first-ends-requires-clause-span t c = c.requires.span

pub greatest_total-token_end-requires-clause-span : goal.greatest_total-token_end-requires-clause-span
greatest_total-token_end-requires-clause-span t c = c.requires.span

pub greatest_total-returns-in-Some-clause-greatest : goal.greatest_total-returns-in-Some-clause-greatest
greatest_total-returns-in-Some-clause-greatest t c = c.greatest_along.ensures

pub greatest_total-token_end-requires-clause-known : goal.greatest_total-token_end-requires-clause-known
greatest_total-token_end-requires-clause-known t c =
    (laid t (goal.at.greatest_total-token_end-requires-clause-known t c).After-answer_is_unique).weighted.known.0

pub greatest_total-token_value-requires-clause-known : goal.greatest_total-token_value-requires-clause-known
greatest_total-token_value-requires-clause-known t c =
    (laid t (goal.at.greatest_total-token_value-requires-clause-known t c).After-answer_is_unique).weighted.known.0

-- ---- what is noted

-- the tail that is told is that of the arguments
told_tail : (t : ℕ) (c : tail_total-After-total t) → IsTail c.args.known.now.lines.now c.in-Some.tail c.args.arguments.now c.args.factors.now
told_tail t c =
    owner_tail c.args.known.now.lines.now c.args.known.now.owner c.args.arguments.now c.args.factors.now c.in-Some.tail
    (sym c.in-Some.is ∙ c.tail_of.ensures) c.requires.owner

pub tail_total-note-requires : goal.tail_total-note-requires
tail_total-note-requires t c =
    let p = c.args.known.now.lines.now in
    let total = c.greatest_total-total.result in
    let tail = c.in-Some.tail in
    let it = told_tail t (goal.at.tail_total-note-requires t c).After-total in
    let found = tail_total_is p tail c.args.arguments.now c.args.factors.now c.args.from c.args.to total it c.greatest_total-total.ensures.greatest in
    subst (λ q. IsTailTotal q tail c.args.from c.args.to total) (sym (c.greatest_total-total.ensures.same ∙ c.requires.same_tails)) found
