use Rattle.std.proofs.Common.{◌≡◌, take}
use Rattle.grammar_text.specs.Seen.{words_seen}
use Rattle.grammar_text.proofs.reader.judge.read_let.Given as goal

abbrev pub invariant-loop-variable : goal.invariant-loop-variable
invariant-loop-variable l = l.names.items ≡ words_seen (take l.variable-index l.variables)
