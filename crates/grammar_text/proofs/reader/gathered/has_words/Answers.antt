use Rattle.std.proofs.Common.{sym, ◌∙◌}
use Rattle.grammar_text.specs.Gathering.{is_words_declaration}
use Rattle.grammar_text.specs.Seen.{declaration_seen}
use Rattle.grammar_text.proofs.Scans.{one_passes, one_more_fails, none_passes}
use Rattle.grammar_text.proofs.reader.gathered.has_words.Goals as goal

pub returns-then-is_words : goal.returns-then-is_words
returns-then-is_words c =
    sym (one_passes declaration_seen is_words_declaration c.args.declared.now c.loop-declaration.declaration-index c.declaration-item.result
    c.loop-declaration-test.true c.declaration-item.is (sym c.is_words.ensures ∙ c.if-is_words.true) c.loop-declaration.invariant)

pub loop-declaration-preserved : goal.loop-declaration-preserved
loop-declaration-preserved c =
    one_more_fails declaration_seen is_words_declaration c.args.declared.now c.loop-declaration.declaration-index c.declaration-item.result
    c.loop-declaration-test.true c.declaration-item.is (sym c.is_words.ensures ∙ c.if-is_words.false) c.loop-declaration.invariant

pub returns : goal.returns
returns c = sym (none_passes declaration_seen is_words_declaration c.args.declared.now c.loop-declaration.declaration-index c.loop-declaration-test.false c.loop-declaration.invariant)
