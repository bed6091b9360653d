use Rattle.std.proofs.Common.{◌≡◌, true, take}
use Rattle.adp_model.specs.WellFormed.{are_distinct}
use Rattle.grammar_text.specs.Names.{AreMembers}
use Rattle.grammar_text.specs.Seen.{words_seen}
use Rattle.grammar_text.proofs.reader.repeats.are_distinct.Given as goal

abbrev pub invariant-loop-text : goal.invariant-loop-text
invariant-loop-text l = record {
  distinct : are_distinct (words_seen (take l.text-index l.texts)) ≡ true;
  members : AreMembers l.seen (words_seen (take l.text-index l.texts));
}
