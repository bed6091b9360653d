-- What `plain_text` promises.
use Rattle.std.specs.Prelude.{◌≡◌, ℕ, ◌+◌, ◌*◌, ◌≤◌, false, List, length, map}
use Rattle.job_texts.specs.JobLines.{job_lines, line_at}
use Rattle.nested_texts.specs.declared.plain.Plain.{Plain}
use Rattle.nested_texts.specs.PlainTexts.{PlainLine, hidden_count, is_third_format, origins, plain_lines}

-- this is the plain text of these bytes: its lines, the origin of each and of one more, and the number of hidden rules.
-- Where line 1 of the bytes isn't `adp 3`, its text is these very bytes; else it is at most 17 times as long
pub record IsPlain (bytes : List ℕ) (plain : Plain) : Type 0 where
  pub lines : job_lines plain.text.items ≡ map (λ (line : PlainLine). line.bytes) (plain_lines (job_lines bytes))
  pub origin : plain.origin.items ≡ origins (plain_lines (job_lines bytes)) (length (job_lines bytes) + 1)
  pub hidden : plain.hidden ≡ hidden_count (job_lines bytes)
  pub same : is_third_format (line_at (job_lines bytes) 1) ≡ false → plain.text.items ≡ bytes
  pub short : length plain.text.items ≤ 17 * length bytes
