use Rattle.std.proofs.Common.{◌≡◌, length, not, nat_eq, sym, ◌∙◌, ap}
use Rattle.std.proofs.lemmas.List.{length-map}
use Rattle.grammar_text.specs.Seen.{words_seen}
use Rattle.grammar_text.proofs.reader.names.misfits.Goals as goal

pub returns-in-Some : goal.returns-in-Some
returns-in-Some c =
    let count : c.len.result ≡ length (words_seen c.in-Let.variables.items) = c.len.ensures ∙ c.in-Let.variables.ok.0 ∙ sym (length-map c.in-Let.variables.items (λ word. word.now)) in
    rw (c.in-Let.is, sym c.in-Some.ensures) (ap (λ n. not (nat_eq (length c.in-Some.kinds.now) n)) count)
