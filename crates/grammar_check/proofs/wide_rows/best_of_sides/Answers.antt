use Rattle.std.proofs.Common.{◌≡◌, ℕ, ◌+◌, ◌-◌, min, refl, ap, ◌∙◌, arith}
use Rattle.adp_model.specs.LimitFaults.{told}
use Rattle.grammar_check.specs.Plans.{greatest_from}
use Rattle.grammar_check.specs.TermSpreads.{put}
use Rattle.grammar_check.proofs.WideSteps.{join_step}
use Rattle.grammar_check.proofs.wide_rows.best_of_sides.Goals as goal

pub loop-more-preserved : goal.loop-more-preserved
loop-more-preserved c = record {
  upper = omega arith;
  best = λ one other left_reads right_reads.
      let more = c.loop-more.more in
      let spare = c.args.spare in
      join_step (λ n. put c.args.operation (one n) (other (spare - n))) c.saturating_sub-first.result more c.loop-more.best c.put.result c.max-best.result (put c.args.operation (one more) (other (spare - more)))
      c.loop-more.auto.more (c.loop-more.invariant.best one other left_reads right_reads) refl
      (c.put.ensures (one more) (other (spare - more)) (left_reads more (omega arith)) (right_reads (spare - more) (omega arith))) c.max-best.ensures;
}

pub returns : goal.returns
returns c = λ one other left_reads right_reads.
    let number : ℕ → ℕ = λ more. put c.args.operation (one more) (other (c.args.spare - more)) in
    let first : c.saturating_sub-first.result ≡ c.args.spare - c.args.right_room = omega (arith, c.saturating_sub-first.ensures) in
    let count : c.loop-more.more - c.saturating_sub-first.result ≡ min c.args.spare c.args.left_room + 1 - (c.args.spare - c.args.right_room) = omega (arith, first, c.min-last.ensures, c.loop-more-test.false, c.loop-more.auto.more, c.loop-more.invariant.upper) in
    c.loop-more.invariant.best one other left_reads right_reads
    ∙ ap (λ n. told (greatest_from number n (c.loop-more.more - c.saturating_sub-first.result))) first
    ∙ ap (λ n. told (greatest_from number (c.args.spare - c.args.right_room) n)) count
