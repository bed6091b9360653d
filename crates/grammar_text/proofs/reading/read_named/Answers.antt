use Rattle.std.proofs.Common.{map, refl, sym, ◌∙◌, ap}
use Rattle.std.proofs.lemmas.List.{length-map}
use Rattle.job_texts.specs.DeclaredNames.{TextLines, declarations}
use Rattle.job_texts.specs.JobLines.{words_line_of}
use Rattle.grammar_text.specs.Gathering.{text_seen}
use Rattle.grammar_text.specs.Seen.{declaration_seen}
use Rattle.grammar_text.proofs.Placing.{all_is}
use Rattle.grammar_text.proofs.reading.read_named.Goals as goal

pub words_of-requires : goal.words_of-requires
words_of-requires c =
    ap (λ (text : TextLines). text.words_line) c.requires.seen ∙ ap words_line_of (sym (ap (λ (text : TextLines). text.lines) c.requires.seen))

pub job_of-requires-clause-declarations : goal.job_of-requires-clause-declarations
job_of-requires-clause-declarations c =
    let declared = c.args.text.now.header.declared.items in
    ap (map declaration_seen) c.deref.ensures.value
    ∙ sym (all_is (text_seen c.args.text.now) c.args.text.now.header.sorts.items (map declaration_seen declared) (c.requires.says ∙ sym (length-map declared declaration_seen)) refl)
    ∙ ap declarations c.requires.seen

pub job_of-requires-clause-version : goal.job_of-requires-clause-version
job_of-requires-clause-version c = ap (λ (text : TextLines). text.version) c.requires.seen
