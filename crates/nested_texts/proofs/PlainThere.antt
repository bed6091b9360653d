-- Any bytes have a plain text.
use Rattle.std.proofs.Common.{◌≡◌, ℕ, ◌+◌, inl, inr, Bool, not, if◌then◌else◌, List, [], ◌∷◌, length, map, drop, refl, sym, ap, ◌∙◌, arith}
use Rattle.std.specs.List.{position_or_len}
use Rattle.std.specs.Char.{is_newline}
use Rattle.std.proofs.lemmas.Bool.{cases_Bool, cases_eq}
use Rattle.std.proofs.lemmas.List.Sums.{prefix_len-le-length}
use Rattle.job_texts.specs.JobLines.{job_lines, line_at}
use Rattle.nested_texts.specs.PlainTexts.{PlainLine, is_third_format, kept_lines, plain_behind, plain_lines}
use Rattle.nested_texts.specs.Seen.{text_of}
use Rattle.nested_texts.proofs.EndedLines.{lines_of_text}
use Rattle.nested_texts.proofs.PlainLines.{plain_are_plain}
use Rattle.nested_texts.proofs.SplitLines.{first_of_more, first_of_one}
use Rattle.nested_texts.proofs.WholeTexts.{kept}

-- the lines behind line 1 are those of some bytes
behind_first : (bytes : List ℕ) → (behind : List ℕ) × (drop 1 (job_lines bytes) ≡ job_lines behind)
behind_first [] = ([], refl)
behind_first (byte ∷ bytes) =
    let text : List ℕ = byte ∷ bytes in
    let end : ℕ = position_or_len is_newline text in
    let within = prefix_len-le-length (λ (byte : ℕ). not (is_newline byte)) text in
    elim (cases_eq end (length text)) [
      | inl all ↦ ([], ap (λ (lines : List (List ℕ)). drop 1 lines) (first_of_one text (omega arith) all))
      | inr more ↦ (
        drop (end + 1) text,
        ap (λ (lines : List (List ℕ)). drop 1 lines) (first_of_more text (grind (arith, within, more))),
      )
    ]

abbrev all_bytes : List PlainLine → List (List ℕ)
all_bytes lines = map (λ (line : PlainLine). line.bytes) lines

-- the plain lines, by whether line 1 is that of the third format
abbrev chosen : List (List ℕ) → Bool → List (List ℕ)
chosen lines third = all_bytes (if third then plain_behind (drop 1 lines) else kept_lines 1 lines)

pub plain_there : (bytes : List ℕ) → (text : List ℕ) × (job_lines text ≡ all_bytes (plain_lines (job_lines bytes)))
plain_there bytes = elim (cases_Bool (is_third_format (line_at (job_lines bytes) 1))) [
  | inl third ↦
      let found = behind_first bytes in (
        text_of (plain_behind (job_lines found.0)),
        lines_of_text (plain_behind (job_lines found.0)) (plain_are_plain found.0)
            ∙ ap (λ (lines : List (List ℕ)). all_bytes (plain_behind lines)) (sym found.1)
            ∙ ap (chosen (job_lines bytes)) (sym third),
      )
  | inr other ↦ (bytes, sym (kept 1 (job_lines bytes)) ∙ ap (chosen (job_lines bytes)) (sym other))
]
