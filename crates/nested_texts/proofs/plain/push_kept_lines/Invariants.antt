use Rattle.std.proofs.Common.{◌≡◌, ◌+◌, ◌≤◌, ◌++◌, length}
use Rattle.job_texts.specs.JobLines.{job_lines}
use Rattle.nested_texts.specs.PlainTexts.{kept_lines}
use Rattle.nested_texts.specs.Seen.{origins_of, text_of}
use Rattle.nested_texts.proofs.plain.push_kept_lines.Given as goal

abbrev pub invariant-loop-line : goal.invariant-loop-line
invariant-loop-line l = record {
  short : l.place + length l.rest ≤ l.fn.place + length l.bytes;
  place : l.place + length (job_lines l.rest) ≡ l.fn.place + length (job_lines l.bytes);
  text : l.lines.text.items ++ text_of (kept_lines l.place (job_lines l.rest))
      ≡ l.initial.lines.text.items ++ text_of (kept_lines l.fn.place (job_lines l.bytes));
  origins : l.lines.origins.items ++ origins_of (kept_lines l.place (job_lines l.rest))
      ≡ l.initial.lines.origins.items ++ origins_of (kept_lines l.fn.place (job_lines l.bytes));
}

abbrev pub decreases-loop-line : goal.decreases-loop-line
decreases-loop-line l = length l.rest
