use Rattle.std.proofs.Common.{◌≡◌, ◌+◌, ◌-◌, length, take}
use Rattle.std.specs.List.{range_with_len}
use Rattle.job_texts.specs.JobText.{first_fault, first_fault_at}
use Rattle.grammar_text.specs.Collecting.{says_in}
use Rattle.grammar_text.specs.Gathering.{text_seen}
use Rattle.grammar_text.proofs.reader.first_fault.first_fault.Given as goal

-- the place of the next declaration, and the fault of the lines that are left
abbrev pub invariant-loop-index : goal.invariant-loop-index
invariant-loop-index l = record {
  place : l.place ≡ says_in (take l.index l.text.header.sorts.items);
  left : first_fault (text_seen l.text) ≡ first_fault_at (text_seen l.text) (range_with_len (l.index + 1) (length l.text.lines.items + 1 - l.index));
}
