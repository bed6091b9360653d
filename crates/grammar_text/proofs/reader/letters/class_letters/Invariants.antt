use Rattle.std.proofs.Common.{◌≡◌, map, take}
use Rattle.job_texts.specs.TextFaults as faults
use Rattle.grammar_text.specs.Seen.{item_seen}
use Rattle.grammar_text.proofs.reader.letters.class_letters.Given as goal

abbrev pub invariant-loop-item : goal.invariant-loop-item
invariant-loop-item l = l.class.items ≡ faults.class_letters (map item_seen (take l.item-index l.items))
