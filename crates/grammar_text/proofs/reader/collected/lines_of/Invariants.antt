use Rattle.std.proofs.Common.{◌≡◌, ◌+◌, ◌≤◌, ◌^◌, ◌++◌, length, All}
use Rattle.job_texts.specs.JobLines.{job_lines}
use Rattle.grammar_text.specs.Seen.{words_seen}
use Rattle.grammar_text.proofs.reader.collected.lines_of.Given as goal

-- the lines that are found, and those of what is left
abbrev pub invariant-loop-line : goal.invariant-loop-line
invariant-loop-line l = record {
  within : length l.lines.items + length l.rest ≤ length l.text;
  short : All (λ line. length line.now ≤ 2 ^ 31) l.lines.items;
  found : words_seen l.lines.items ++ job_lines l.rest ≡ job_lines l.text;
}

abbrev pub decreases-loop-line : goal.decreases-loop-line
decreases-loop-line l = length l.rest
