-- The job of a text whose rules may have alternatives as arguments: that of its plain text.
use Rattle.std.specs.Prelude.{◌≡◌, ℕ, ◌+◌, Option, Some, None, List, ◌∷◌, length, map, slice_index_or, if◌then◌else◌}
use Rattle.adp_model.specs.declared.job.Job.{Job}
use Rattle.adp_model.specs.declared.fault.TextFault.{TextFault}
use Rattle.job_texts.specs.JobLines.{job_lines, line_at}
use Rattle.job_texts.specs.JobText.{IsFaultOf, IsText}
use Rattle.nested_texts.specs.PlainTexts.{PlainLine, hidden_count, is_third_format, origins, plain_lines}

-- a text of these lines is the plain text of these bytes: only its lines matter
abbrev pub IsPlainText : List ℕ → List ℕ → Type 0
IsPlainText bytes text = job_lines text ≡ map (λ (line : PlainLine). line.bytes) (plain_lines (job_lines bytes))

-- the bytes spell the job: their plain text does
abbrev pub IsNestedText : List ℕ → Job → Type 0
IsNestedText bytes job = (text : List ℕ) × IsPlainText bytes text × IsText text job

-- the line of the bytes that a line of the plain text comes from; behind the last one, the number behind all lines
abbrev pub origin_of : List ℕ → ℕ → ℕ
origin_of bytes line =
    slice_index_or (0 ∷ origins (plain_lines (job_lines bytes)) (length (job_lines bytes) + 1)) line 0

-- the bytes spell no job, and this is their fault: that of their plain text, at the line that its line comes from
abbrev pub IsNestedFault : List ℕ → TextFault → Type 0
IsNestedFault bytes fault =
    (text : List ℕ) × (found : TextFault) × IsPlainText bytes text × IsFaultOf text found
    × (fault ≡ record found { line = origin_of bytes found.line })

-- how many rules of the job are hidden, where line 1 is that of the format with nested alternatives
abbrev pub hidden_in : List ℕ → Option ℕ
hidden_in bytes =
    if is_third_format (line_at (job_lines bytes) 1) then Some (hidden_count (job_lines bytes)) else None
