use Rattle.std.proofs.Common.{sym, subst, ◌+◌}
use Rattle.table_certificate.specs.JobSplit.{IsFirstLine}
use Rattle.table_certificate.proofs.SplitLines.{whole_first, ended_first, tail_of, some_bytes}
use Rattle.table_certificate.proofs.job_split.first_line.Goals as goal

pub returns-then-end-text : goal.returns-then-end-text
returns-then-end-text c =
    subst (λ x. IsFirstLine c.args.text.now c.args.text.now x) (sym (tail_of c.line_end-end.result c.args.text.now))
    (whole_first c.args.text.now c.line_end-end.result (some_bytes c.args.text.now c.if-is_empty.ensures) c.line_end-end.ensures c.if-end-text.true)

pub returns : goal.returns
returns c =
    subst (λ x. IsFirstLine c.args.text.now c.without_return.result.now x) (sym (tail_of (c.line_end-end.result + 1) c.args.text.now))
    (ended_first c.args.text.now c.without_return.result.now c.line_end-end.result c.line_end-end.ensures c.if-end-text.false c.without_return.ensures)
