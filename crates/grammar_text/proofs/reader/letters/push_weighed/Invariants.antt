use Rattle.std.proofs.Common.{◌≡◌, ◌++◌, map, take}
use Rattle.grammar_text.proofs.reader.letters.push_weighed.Given as goal

abbrev pub invariant-loop-letter : goal.invariant-loop-letter
invariant-loop-letter l = l.class.items ≡ l.initial.class.items ++ map (λ letter. (letter, l.weight)) (take l.letter-index l.letters)
