use Rattle.table_certificate.proofs.NextLines.{at_head, head_line, other_line}
use Rattle.table_certificate.proofs.SplitLines.{not_both}
use Rattle.table_certificate.proofs.forms.next_line.Goals as goal

pub returns-then-is_head : goal.returns-then-is_head
returns-then-is_head c =
    let next = c.in_ok-form.ensures in
    at_head c.args.grammar.now c.args.text.now c.in_ok-form.form c.in_ok-form.behind.now next (head_line next.exact c.in_ok-form.form next.is (c.is_head.ensures.0 c.if-is_head.true))

pub returns-else-is_head : goal.returns-else-is_head
returns-else-is_head c =
    let next = c.in_ok-form.ensures in
    record {
      next = next;
      other = other_line next.exact c.in_ok-form.form next.is (λ head. not_both c.is_head.result c.if-is_head.false (c.is_head.ensures.1 head));
    }
