use Rattle.std.proofs.Common.{◌≡◌, take}
use Rattle.grammar_text.proofs.reader.grammar.copied.Given as goal

abbrev pub invariant-loop-kind : goal.invariant-loop-kind
invariant-loop-kind l = l.copy.items ≡ take l.kind-index l.kinds
