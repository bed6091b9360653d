use Rattle.std.proofs.Common.{map, sym, ◌∙◌, ap}
use Rattle.std.specs.List.{list_any}
use Rattle.job_texts.specs.TextFaults.{is_unknown_argument}
use Rattle.grammar_text.specs.Seen.{argument_seen}
use Rattle.grammar_text.proofs.reader.names.uses_unknown_in.Goals as goal

pub returns-else-not-has_sign : goal.returns-else-not-has_sign
returns-else-not-has_sign c = λ all are.
    rw (sym (c.has_sign.ensures all are), c.if-not-has_sign.false)
    (c.has_unknown_argument.ensures all are ∙ ap (λ arguments. list_any (is_unknown_argument all) (map argument_seen arguments)) c.deref.ensures.value)
