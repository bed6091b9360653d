use Rattle.std.proofs.Common.{append_assoc}
use Rattle.table_certificate.proofs.writing.push_cell_line.Goals as goal

pub returns : goal.returns
returns c =
    rw (
      c.in_ok-push-4.ensures.items,
      c.in_ok-push_score.ensures,
      c.in_ok-push-3.ensures.items,
      c.in_ok-push_decimal-2.ensures.appended,
      c.in_ok-push-2.ensures.items,
      c.in_ok-push_decimal.ensures.appended,
      c.in_ok-push.ensures.items,
      c.in_ok-extend_from_slice.ensures.items,
      c.rule_name.ensures,
      c.from.ensures,
      c.from-2.ensures,
    ) (simp append_assoc)
