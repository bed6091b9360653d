use Rattle.std.proofs.Common.{Bool, true, false, ◌≡◌, ℕ, Bor, length, take, map, refl, sym, ap, subst, ◌∙◌, arith, rules}
use Rattle.std.proofs.lemmas.Bool.{false≢true}
use Rattle.std.proofs.lemmas.List.{take_rest}
use Rattle.adp_model.specs.declared.grammar.Alt.{Alt}
use Rattle.adp_model.specs.declared.grammar.Term as term
use Rattle.adp_model.specs.PosedProblem.{PosedProblem}
use Rattle.adp_model.specs.Parts.{algebra_of, arguments_of, term_of}
use Rattle.std.specs.Bool.{OnTrue}
use Rattle.split_lines.specs.declared.kept.KeptAlternative.{KeptAlternative}
use Rattle.split_lines.specs.declared.kept.Scoring.{Scoring}
use Rattle.split_lines.specs.declared.kept.Scoring.TheVariants.{Sum, Term}
use Rattle.split_lines.specs.declared.kept.WeightedSum.{WeightedSum}
use Rattle.split_lines.specs.EachWord.{with_word}
use Rattle.split_lines.specs.Kept.{AreOneLetter, HasLengths, IsScored, IsSummed}
use Rattle.score_numbers.specs.Turned.{turned}
use Rattle.split_lines.proofs.MakingReady.{alternative_kept, alternative_summed}
use Rattle.split_lines.proofs.TurnedTerms.{FurtherAddNothing}
use Rattle.split_lines.proofs.kept.kept_alternative.Goals as goal
use Rattle.split_lines.proofs.kept.kept_alternative.Goals.{in-None, in-Some}

on_true : (b : Bool) (P : Type 0) → OnTrue b P → b ≡ true → P
on_true true P it e = it
on_true false P it e = absurd (false≢true e)

module _ (p : PosedProblem) (rule alternative : ℕ) (kept : KeptAlternative) (scoring : Scoring) where
  by_sum : (sum : WeightedSum) → scoring ≡ Sum sum → IsSummed p rule alternative kept sum → IsScored p rule alternative kept scoring
  by_sum sum is summed = subst (IsScored p rule alternative kept) (sym is) summed

  by_term : (read : Bor term.Term) → scoring ≡ Term read → read.now ≡ term_of p rule alternative → IsScored p rule alternative kept scoring
  by_term read is same = subst (IsScored p rule alternative kept) (sym is) same

pub lowered-requires : goal.lowered-requires
lowered-requires c = record {
  count = length (arguments_of c.args.problem.now.grammar c.args.rule c.args.alt);
  few = omega (arith, c.arguments-arguments.ensures.few, ap length c.arguments-arguments.ensures.arguments);
  fits = c.term-term.ensures.fits;
}

pub returns-clause-alternative : goal.returns-clause-alternative
returns-clause-alternative c = λ word short.
    let p = with_word c.args.problem.now.grammar c.args.problem.now.algebra word in
    let all = c.arguments-arguments.result.now in
    let n = c.front_length-number.result in
    let are = c.arguments-arguments.ensures in
    let term_is = c.term-term.ensures.term in
    let goal_is = c.goal-goal.ensures in
    let law : FurtherAddNothing = record { sums = c.further_factors_add_nothing.ensures.sums; totals = c.further_factors_add_nothing.ensures.totals } in
    let scored : IsScored p c.args.rule c.args.alt _ c.match-lowered.scoring = elim c.match-lowered.branch [
      | in-Some w ↦
          let lowered = w.in-Some.lowered in
          let four : length lowered.factors ≡ 4 = search rules in
          let constant = w.weighted_sum.ensures.constant ∙ ap (λ goal. turned goal lowered.constant) goal_is in
          let factors : take (length lowered.factors) w.weighted_sum.result.factors ≡ map (turned (algebra_of p).goal) lowered.factors =
          w.weighted_sum.ensures.factors ∙ ap (λ goal. map (turned goal) lowered.factors) goal_is in
          by_sum p c.args.rule c.args.alt _ c.match-lowered.scoring w.weighted_sum.result w.scoring-is
          (alternative_summed law p c.args.rule c.args.alt _ w.weighted_sum.result c.term-term.result.now lowered all n are.arguments (omega (arith, four, are.few))
          c.front_length-number.ensures.within refl (take_rest all n) term_is w.in-Some.ensures.exact constant factors (c.may_weigh.ensures w.weighted_sum.result w.scoring-is))
      | in-None w ↦ by_term p c.args.rule c.args.alt _ c.match-lowered.scoring c.term-term.result w.scoring-is term_is
    ] in
    alternative_kept p c.args.rule c.args.alt _ all n are.arguments are.few are.known c.front_length-number.ensures.within c.front_length-number.ensures.fixed
    refl (take_rest all n) (c.fixed_letters.ensures.letters p short) c.first_letter.ensures (on_true c.are_one_letter.result (AreOneLetter (take n all)) c.are_one_letter.ensures) c.class_of.ensures
    (subst (λ (it : Alt). HasLengths it c.lengths_of.result) c.alternative.ensures c.lengths_of.ensures) scored
