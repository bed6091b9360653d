-- Whole texts.
use Rattle.std.proofs.Common.{◌≡◌, ℕ, suc, ◌+◌, ◌≤◌, nat_eq, true, false, Result, Ok, Err, IfOk, List, [], ◌∷◌, ◌++◌, codes, length, map, refl, sym, ap, ◌∙◌, arith}
use Rattle.job_texts.specs.JobLines.{job_lines, line_at}
use Rattle.std.specs.Borrow.{Bor}
use Rattle.std.proofs.lemmas.List.{length-map}
use lib.Pointwise.{pointwise_long}
use Rattle.nested_texts.specs.declared.output.Lines.{Lines}
use Rattle.nested_texts.specs.declared.plain.Header.{Header}
use Rattle.nested_texts.specs.declared.plain.Plain.{Plain}
use Rattle.nested_texts.specs.IsPlain.{IsPlain}
use Rattle.nested_texts.specs.PlainTexts.{PlainLine, before_words, changed_lines, from_words, hidden_lines, is_third_format, kept_lines, line_of, origins, plain_behind}
use Rattle.nested_texts.specs.Seen.{origins_of, text_of, AddsLines, IsItself, IsPlainBehind, ReadsHeader}
use Rattle.nested_texts.proofs.AddedLines.{text_append, origins_append}
use Rattle.nested_texts.proofs.EndedLines.{lines_of_text}
use Rattle.nested_texts.proofs.Growth.{plain_size}
use Rattle.nested_texts.proofs.PlainLines.{plain_are_plain}
use Rattle.nested_texts.proofs.Reading.{all_lines}

pub kept : (place : ℕ) (lines : List (List ℕ)) → map (λ (line : PlainLine). line.bytes) (kept_lines place lines) ≡ lines
kept place [] = refl
kept place (line ∷ lines) = ap (λ (others : List (List ℕ)). line ∷ others) (kept (place + 1) lines)

-- three texts, one behind the other
pub text_is : (first second third : List PlainLine) (text : List ℕ) → text ≡ text_of first ++ text_of second ++ text_of third → text ≡ text_of (first ++ second ++ third)
text_is first second third text is =
    is ∙ ap (λ (front : List ℕ). front ++ text_of third) (sym (text_append first second)) ∙ sym (text_append (first ++ second) third)

pub origins_are : (first second third : List PlainLine) (all : List ℕ) (behind : ℕ) → all ≡ (origins_of first ++ origins_of second ++ origins_of third) ++ behind ∷ []
    → all ≡ origins (first ++ second ++ third) behind
origins_are first second third all behind is =
    is ∙ ap (λ (front : List ℕ). front ++ behind ∷ [])
    (ap (λ (front : List ℕ). front ++ origins_of third) (sym (origins_append first second)) ∙ sym (origins_append (first ++ second) third))

pub behind_all : (lines : List (List ℕ)) (place rest : ℕ) → place ≡ 2 + length (before_words lines) → rest ≡ length (from_words lines) → place + rest ≡ length lines + 2
behind_all lines place rest is rest_is = omega (arith, all_lines lines)

third_size : (line : List ℕ) → is_third_format line ≡ true → length line ≡ 5
third_size line third = pointwise_long nat_eq line (codes "adp 3") third

-- the plain text, by the lines behind line 1
pub by_third : {E : Type 0} (bytes line behind : List ℕ) (result : Result Plain E) → job_lines bytes ≡ line ∷ job_lines behind → is_third_format line ≡ true
    → length line + length behind ≤ length bytes → length bytes ≤ 4194304
    → IfOk result (λ plain. IsPlainBehind behind plain) → IfOk result (λ plain. IsPlain bytes plain)
by_third bytes line behind (Err error) lines third within few is = tt
by_third bytes line behind (Ok plain) lines third within few is =
    let more : length (job_lines behind) + 2 ≡ suc (length (job_lines behind)) + 1 = omega arith in
    record {
      lines = rw (lines, third) (ap job_lines is.text ∙ lines_of_text (plain_behind (job_lines behind)) (plain_are_plain behind));
      origin = rw (lines, third) (is.origin ∙ ap (origins (plain_behind (job_lines behind))) more);
      hidden = rw (lines, third) is.hidden;
      same = λ other. absurd (impossible (rw lines at other));
      short = omega (arith, within, third_size line third, ap length is.text, plain_size behind (omega (arith, within, few)));
    }
  where
    impossible : is_third_format line ≡ false → ⊥
    impossible other = let no : true ≡ false = sym third ∙ other in cc

-- a text of another format
pub by_itself : {E : Type 0} (bytes : List ℕ) (result : Result Plain E) → is_third_format (line_at (job_lines bytes) 1) ≡ false
    → IfOk result (λ plain. IsItself bytes plain) → IfOk result (λ plain. IsPlain bytes plain)
by_itself bytes (Err error) other is = tt
by_itself bytes (Ok plain) other is = record {
  lines = rw other (ap job_lines is.text ∙ sym (kept 1 (job_lines bytes)));
  origin = rw other is.origin;
  hidden = rw other is.hidden;
  same = λ _. is.text;
  short = omega (arith, ap length is.text);
}

-- ---- the pieces of a plain text, joined

pub same_header : (bytes : List ℕ) (header : Header) (changed hidden : Lines) (place : ℕ) (rest : Bor (List ℕ))
    → header.changed ≡ changed → header.hidden ≡ hidden → header.place ≡ place → header.rest ≡ rest
    → ReadsHeader bytes header → ReadsHeader bytes (record { changed = changed; hidden = hidden; place = place; rest = rest })
same_header bytes header changed hidden place rest a b c d reads = record {
  changed = rw (← a) reads.changed;
  changed_origins = rw (← a) reads.changed_origins;
  hidden = rw (← b) reads.hidden;
  hidden_origins = rw (← b) reads.hidden_origins;
  rest = rw (← d) reads.rest;
  place = rw (← c) reads.place;
  short = rw (← c, ← d) reads.short;
  few = rw (← b) reads.few;
}

pub whole_text : (bytes : List ℕ) (header : Header) (joined after : Lines) (behind : ℕ) (plain : Plain) → ReadsHeader bytes header
    → joined.text.items ≡ header.changed.text.items ++ header.hidden.text.items
    → joined.origins.items ≡ header.changed.origins.items ++ header.hidden.origins.items
    → AddsLines joined after (kept_lines header.place (job_lines header.rest.now)) → behind ≡ header.place + length (job_lines header.rest.now)
    → plain.text.items ≡ after.text.items → plain.origin.items ≡ after.origins.items ++ behind ∷ []
    → plain.hidden ≡ length header.hidden.origins.items → IsPlainBehind bytes plain
whole_text bytes header joined after behind plain reads joined_text joined_origins adds behind_is text_is' origin_is hidden_is =
    let lines = job_lines bytes in
    let first = line_of 1 (codes "adp 2") ∷ changed_lines 2 1 (before_words lines) in
    let second = hidden_lines 2 1 (before_words lines) in
    let third = kept_lines (2 + length (before_words lines)) (from_words lines) in
    let text : after.text.items ≡ text_of first ++ text_of second ++ text_of third =
    adds.text ∙ rw (joined_text, reads.changed, reads.hidden, reads.place, reads.rest) refl in
    let origin : after.origins.items ≡ origins_of first ++ origins_of second ++ origins_of third =
    adds.origins ∙ rw (joined_origins, reads.changed_origins, reads.hidden_origins, reads.place, reads.rest) refl in
    let last : behind ≡ length lines + 2 =
    behind_is ∙ behind_all lines header.place (length (job_lines header.rest.now)) reads.place (ap length reads.rest) in
    record {
      text = text_is' ∙ text_is first second third after.text.items text;
      origin = origin_is ∙ origins_are first second third (after.origins.items ++ behind ∷ []) (length lines + 2) (rw (origin, last) refl);
      hidden = hidden_is ∙ ap length reads.hidden_origins ∙ length-map second (λ (line : PlainLine). line.origin);
    }
