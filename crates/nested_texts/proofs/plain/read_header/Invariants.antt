use Rattle.std.proofs.Common.{◌≡◌, ◌+◌, ◌≤◌, ◌++◌, ◌∷◌, codes, length}
use Rattle.job_texts.specs.JobLines.{job_lines}
use Rattle.nested_texts.specs.PlainTexts.{before_words, changed_lines, from_words, hidden_lines, line_of}
use Rattle.nested_texts.specs.Seen.{origins_of, text_of}
use Rattle.nested_texts.proofs.plain.read_header.Given as goal

abbrev pub invariant-header : goal.invariant-header
invariant-header l = record {
  short : l.place + length l.rest ≤ length l.bytes + 2;
  few : l.number + length l.rest ≤ length l.bytes + 1;
  count : l.number ≡ length l.hidden.origins.items + 1;
  changed : l.changed.text.items ++ text_of (changed_lines l.place l.number (before_words (job_lines l.rest)))
      ≡ text_of (line_of 1 (codes "adp 2") ∷ changed_lines 2 1 (before_words (job_lines l.bytes)));
  changed_origins : l.changed.origins.items ++ origins_of (changed_lines l.place l.number (before_words (job_lines l.rest)))
      ≡ origins_of (line_of 1 (codes "adp 2") ∷ changed_lines 2 1 (before_words (job_lines l.bytes)));
  hidden : l.hidden.text.items ++ text_of (hidden_lines l.place l.number (before_words (job_lines l.rest)))
      ≡ text_of (hidden_lines 2 1 (before_words (job_lines l.bytes)));
  hidden_origins : l.hidden.origins.items ++ origins_of (hidden_lines l.place l.number (before_words (job_lines l.rest)))
      ≡ origins_of (hidden_lines 2 1 (before_words (job_lines l.bytes)));
  rest : from_words (job_lines l.rest) ≡ from_words (job_lines l.bytes);
  place : l.place + length (before_words (job_lines l.rest)) ≡ 2 + length (before_words (job_lines l.bytes));
}

abbrev pub decreases-header : goal.decreases-header
decreases-header l = length l.rest
