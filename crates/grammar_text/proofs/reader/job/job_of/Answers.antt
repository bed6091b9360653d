use Rattle.std.proofs.Common.{ap, ◌∙◌}
use Rattle.job_texts.specs.JobText.{declared_grammar}
use Rattle.grammar_text.proofs.AcceptedTexts.{accepted-buildable, accepted-printable, made}
use Rattle.grammar_text.proofs.reader.job.job_of.Goals as goal

pub declared_grammar-requires-clause-buildable : goal.declared_grammar-requires-clause-buildable
declared_grammar-requires-clause-buildable c = rw c.requires.declarations (accepted-buildable c.args.text.now c.requires.faultless)

pub owned-requires : goal.owned-requires
owned-requires c = rw c.requires.words (accepted-printable c.args.text.now c.requires.faultless)

pub invariant_of-result : goal.invariant_of-result
invariant_of-result c =
    let it = made c.args.text.now c.args.version c.in_ok-grammar.grammar c.new.result c.requires.faultless c.requires.version (c.in_ok-grammar.ensures ∙ ap declared_grammar c.requires.declarations) (c.new.ensures ∙ c.in_ok-words.ensures ∙ c.requires.words) in
    record { of_version = it.of_version; well_formed = it.well_formed; printable_words = it.printable_words; few_words = it.few_words }

pub returns : goal.returns
returns c =
    (made c.args.text.now c.args.version c.in_ok-grammar.grammar c.new.result c.requires.faultless c.requires.version (c.in_ok-grammar.ensures ∙ ap declared_grammar c.requires.declarations) (c.new.ensures ∙ c.in_ok-words.ensures ∙ c.requires.words)).verdict
