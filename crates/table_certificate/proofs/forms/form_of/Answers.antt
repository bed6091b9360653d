use Rattle.std.proofs.Common.{ap}
use Rattle.table_certificate.specs.KeptForms.{kept_form}
use Rattle.table_certificate.proofs.FiveWords.{five_words}
use Rattle.table_certificate.proofs.forms.form_of.Goals as goal

pub returns-in-Some-rest-3 : goal.returns-in-Some-rest-3
returns-in-Some-rest-3 c =
    let one = rw c.in-Some.is at c.cut_word.ensures in
    let two = rw c.in-Some-rest.is at c.cut_word-2.ensures in
    let three = rw c.in-Some-rest-2.is at c.cut_word-3.ensures in
    let four = rw c.in-Some-rest-3.is at c.cut_word-4.ensures in
    ap kept_form (five_words c.args.grammar.now c.args.line.now c.cut_word.result.0.now c.cut_word-2.result.0.now c.cut_word-3.result.0.now c.cut_word-4.result.0.now
    c.in-Some.rest.now c.in-Some-rest.rest.now c.in-Some-rest-2.rest.now c.in-Some-rest-3.field-0.now one two three four)
