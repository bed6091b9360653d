use Rattle.std.proofs.Common.{◌≡◌, take}
use Rattle.grammar_text.specs.Seen.{words_seen}
use Rattle.grammar_text.proofs.reader.job.owned.Given as goal

abbrev pub invariant-loop-word : goal.invariant-loop-word
invariant-loop-word l = l.texts.items ≡ words_seen (take l.word-index l.words)
