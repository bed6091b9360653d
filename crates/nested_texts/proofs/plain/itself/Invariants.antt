use Rattle.std.proofs.Common.{◌≡◌, ◌+◌, ◌≤◌, ◌++◌, length}
use Rattle.job_texts.specs.JobLines.{job_lines}
use Rattle.nested_texts.specs.PlainTexts.{kept_lines}
use Rattle.nested_texts.specs.Seen.{origins_of}
use Rattle.nested_texts.proofs.plain.itself.Given as goal

abbrev pub invariant-loop-behind : goal.invariant-loop-behind
invariant-loop-behind l = record {
  short : l.place + length l.rest ≤ length l.bytes + 1;
  place : l.place + length (job_lines l.rest) ≡ 1 + length (job_lines l.bytes);
  origins : l.origin.items ++ origins_of (kept_lines l.place (job_lines l.rest)) ≡ origins_of (kept_lines 1 (job_lines l.bytes));
}

abbrev pub decreases-loop-behind : goal.decreases-loop-behind
decreases-loop-behind l = length l.rest
