use Rattle.std.proofs.Common.{◌+◌, drop, sym, subst}
use Rattle.table_certificate.specs.declared.forms.Form.{Form}
use Rattle.table_certificate.specs.declared.forms.Form.TheVariants as kept_forms
use Rattle.table_certificate.specs.NextForms.{IsNextForm}
use Rattle.table_certificate.proofs.NextLines.{ended_form, last_form}
use Rattle.table_certificate.proofs.SplitLines.{end_low, some_bytes, tail_of}
use Rattle.table_certificate.proofs.forms.next_form.Goals as goal

pub returns-then-end-text : goal.returns-then-end-text
returns-then-end-text c =
    let text = c.args.text.now in
    let end = c.line_end-end.result in
    subst (λ x. IsNextForm c.args.grammar.now text kept_forms.Formless x) (sym (tail_of end text))
    (last_form c.args.grammar.now text end (some_bytes text c.if-is_empty.ensures) c.line_end-end.ensures c.if-end-text.true)

pub returns : goal.returns
returns c =
    let text = c.args.text.now in
    let end = c.line_end-end.result in
    let low = end_low text end c.line_end-end.ensures c.if-end-text.false in
    let found = ended_form c.args.grammar.now text c.without_return-line.result.now end c.line_end-end.ensures c.if-end-text.false low c.without_return-line.ensures in
    subst (λ x. IsNextForm c.args.grammar.now text c.form_of.result x) (sym (tail_of (end + 1) text))
    (subst (λ (f : Form). IsNextForm c.args.grammar.now text f (drop (end + 1) text)) (sym c.form_of.ensures) found)
