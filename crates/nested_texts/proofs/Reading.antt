-- The header, line by line.
use Rattle.std.proofs.Common.{◌≡◌, ℕ, suc, ◌+◌, true, false, Bool, List, [], ◌∷◌, ◌++◌, length, length-append, map, refl, sym, ap, ◌∙◌, arith}
use Rattle.std.proofs.lemmas.List.{length-map}
use Rattle.job_texts.specs.JobLines.{is_words_line}
use Rattle.nested_texts.specs.declared.nested.Nested.{Nested}
use Rattle.nested_texts.specs.declared.output.Lines.{Lines}
use Rattle.nested_texts.specs.NestedRules as rules
use Rattle.nested_texts.specs.NestedRules.{nested_in}
use Rattle.nested_texts.specs.PlainTexts.{PlainLine, before_words, changed_lines, from_words, hidden_lines, hidden_rules, line_of, replaced}
use Rattle.nested_texts.specs.Seen.{nested_seen, origins_of, text_of, AddsLines, IsOther}
use Rattle.nested_texts.proofs.AddedLines.{text_more, origins_more}

module _ (rest behind : List (List ℕ)) (line : List ℕ) (nested : List Nested) (lines : rest ≡ line ∷ behind) (other : IsOther line nested) where
  count : length nested ≡ length (nested_in line)
  count = sym (length-map nested nested_seen) ∙ ap length other.found

  changed_is : (place number : ℕ)
      → changed_lines place number (before_words rest)
      ≡ (line_of place (replaced line (length line) 1 number 0 (map nested_seen nested)) ∷ []) ++ changed_lines (place + 1) (number + length nested) (before_words behind)
  changed_is place number = rw (lines, other.other, other.found, count) refl

  hidden_is : (place number : ℕ)
      → hidden_lines place number (before_words rest)
      ≡ map (line_of place) (hidden_rules line number (map nested_seen nested)) ++ hidden_lines (place + 1) (number + length nested) (before_words behind)
  hidden_is place number = rw (lines, other.other, other.found, count) refl

  pub changed_text : (place number : ℕ) (before after : Lines) (all : List ℕ)
      → AddsLines before after (line_of place (replaced line (length line) 1 number 0 (map nested_seen nested)) ∷ [])
      → before.text.items ++ text_of (changed_lines place number (before_words rest)) ≡ all
      → after.text.items ++ text_of (changed_lines (place + 1) (number + length nested) (before_words behind)) ≡ all
  changed_text place number before after all adds seen =
      text_more before after _ (changed_lines (place + 1) (number + length nested) (before_words behind)) all adds
      (ap (λ (those : List PlainLine). before.text.items ++ text_of those) (sym (changed_is place number)) ∙ seen)

  pub changed_origins : (place number : ℕ) (before after : Lines) (all : List ℕ)
      → AddsLines before after (line_of place (replaced line (length line) 1 number 0 (map nested_seen nested)) ∷ [])
      → before.origins.items ++ origins_of (changed_lines place number (before_words rest)) ≡ all
      → after.origins.items ++ origins_of (changed_lines (place + 1) (number + length nested) (before_words behind)) ≡ all
  changed_origins place number before after all adds seen =
      origins_more before after _ (changed_lines (place + 1) (number + length nested) (before_words behind)) all adds
      (ap (λ (those : List PlainLine). before.origins.items ++ origins_of those) (sym (changed_is place number)) ∙ seen)

  pub hidden_text : (place number : ℕ) (before after : Lines) (all : List ℕ)
      → AddsLines before after (map (line_of place) (hidden_rules line number (map nested_seen nested)))
      → before.text.items ++ text_of (hidden_lines place number (before_words rest)) ≡ all
      → after.text.items ++ text_of (hidden_lines (place + 1) (number + length nested) (before_words behind)) ≡ all
  hidden_text place number before after all adds seen =
      text_more before after _ (hidden_lines (place + 1) (number + length nested) (before_words behind)) all adds
      (ap (λ (those : List PlainLine). before.text.items ++ text_of those) (sym (hidden_is place number)) ∙ seen)

  pub hidden_origins : (place number : ℕ) (before after : Lines) (all : List ℕ)
      → AddsLines before after (map (line_of place) (hidden_rules line number (map nested_seen nested)))
      → before.origins.items ++ origins_of (hidden_lines place number (before_words rest)) ≡ all
      → after.origins.items ++ origins_of (hidden_lines (place + 1) (number + length nested) (before_words behind)) ≡ all
  hidden_origins place number before after all adds seen =
      origins_more before after _ (hidden_lines (place + 1) (number + length nested) (before_words behind)) all adds
      (ap (λ (those : List PlainLine). before.origins.items ++ origins_of those) (sym (hidden_is place number)) ∙ seen)

  pub from_behind_line : from_words behind ≡ from_words rest
  from_behind_line = rw (lines, other.other) refl

  pub one_before : length (before_words rest) ≡ suc (length (before_words behind))
  one_before = rw (lines, other.other) refl

rules_count : (line : List ℕ) (origin number : ℕ) (nested : List rules.Nested) → length (origins_of (map (line_of origin) (hidden_rules line number nested))) ≡ length nested
rules_count line origin number [] = refl
rules_count line origin number (nested ∷ others) = ap suc (rules_count line origin (number + 1) others)

-- as many rules were added as alternatives stand as arguments
pub rules_added : (line : List ℕ) (origin number : ℕ) (nested : List Nested) (before after : Lines)
    → AddsLines before after (map (line_of origin) (hidden_rules line number (map nested_seen nested)))
    → length after.origins.items ≡ length before.origins.items + length nested
rules_added line origin number nested before after adds =
    let those = rules_count line origin number (map nested_seen nested) in
    ap length adds.origins
    ∙ length-append before.origins.items (origins_of (map (line_of origin) (hidden_rules line number (map nested_seen nested))))
    ∙ ap (λ (n : ℕ). length before.origins.items + n) (those ∙ length-map nested nested_seen)

pub all_lines : (lines : List (List ℕ)) → length (before_words lines) + length (from_words lines) ≡ length lines
all_lines [] = refl
all_lines (line ∷ lines) = step (is_words_line line) refl (all_lines lines)
  where
    step : (words : Bool) → is_words_line line ≡ words → length (before_words lines) + length (from_words lines) ≡ length lines
        → length (before_words (line ∷ lines)) + length (from_words (line ∷ lines)) ≡ length (line ∷ lines)
    step true e same = rw e (omega arith)
    step false e same = rw e (omega (arith, same))
