use Rattle.std.proofs.Common.{◌≡◌, false, sym, ◌∙◌, ap}
use Rattle.job_texts.specs.Declarations.{Let}
use Rattle.grammar_text.specs.Judged.{has_other_name}
use Rattle.grammar_text.specs.Seen.{declaration_seen, term_seen, words_seen}
use Rattle.grammar_text.proofs.OwnWords.{own_told}
use Rattle.grammar_text.proofs.reader.faults.own_words.Goals as goal
use Rattle.grammar_text.proofs.reader.faults.own_words.Goals.{in-Ok, in-Err-Name, in-Err-Number, in-Err-Unknown, in-Err-Count, in-Err-Twice, in-Err-Shape}

pub returns : goal.returns
returns c =
    let line = declaration_seen c.args.declaration.now in
    let variables = words_seen c.in-Let.variables.items in
    let term = term_seen c.in-Let.term.version c.in-Let.term.bytes.now in
    let is : line ≡ Let c.in-Let.sign.now variables term = ap declaration_seen c.in-Let.is in
    let named : has_other_name line ≡ false = sym c.has_other_name.ensures ∙ c.if-has_other_name.false in
    let told = own_told line c.in-Let.sign.now variables term is named c.read_let.result (rw c.deref.ensures.value at c.read_let.ensures) in
    elim c.match-read_let.branch [
      | in-Ok w ↦ rw w.result-is (rw w.in-Ok.is at told)
      | in-Err-Name w ↦ rw w.result-is (rw (w.in-Err-Name.is, w.in-Err-Name.field-0-is) at told)
      | in-Err-Number w ↦ rw w.result-is (rw (w.in-Err-Number.is, w.in-Err-Number.field-0-is) at told)
      | in-Err-Unknown w ↦ rw w.result-is (rw (w.in-Err-Unknown.is, w.in-Err-Unknown.field-0-is) at told)
      | in-Err-Count w ↦ rw w.result-is (rw (w.in-Err-Count.is, w.in-Err-Count.field-0-is) at told)
      | in-Err-Twice w ↦ rw w.result-is (rw (w.in-Err-Twice.is, w.in-Err-Twice.field-0-is) at told)
      | in-Err-Shape w ↦ rw w.result-is tt
    ]
