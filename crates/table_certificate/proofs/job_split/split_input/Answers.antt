use Rattle.table_certificate.proofs.SplitLines.{parted, one_more_passed, not_both}
use Rattle.table_certificate.proofs.job_split.split_input.Goals as goal

pub returns-then-is_job-clause-split : goal.returns-then-is_job-clause-split
returns-then-is_job-clause-split c =
    parted c.args.bytes.now c.lines.rest.now c.in-Some.line.now c.in-Some.behind.now c.lines.count c.lines.invariant c.in-Some.ensures (c.is_job.ensures.0 c.if-is_job.true)

pub lines-preserved : goal.lines-preserved
lines-preserved c =
    one_more_passed c.args.bytes.now c.lines.rest.now c.in-Some.line.now c.in-Some.behind.now c.lines.count c.lines.invariant c.in-Some.ensures (λ is. not_both c.is_job.result c.if-is_job.false
    (c.is_job.ensures.1 is))
