-- The header lines of a text without a fault: each is skipped or has form.
use Rattle.std.proofs.Common.{◌≡◌, ℕ, zero, suc, ◌+◌, ◌<◌, ◌≤◌, Bool, true, false, cond, not, Option, Some, None, Result, Ok, Err, List, [], ◌∷◌, length, drop, slice_index_or, refl, sym, ◌∙◌, ap, subst, arith, lit<, length-drop}
use Rattle.std.specs.List.{list_all, find, range_with_len, AllByRecursion, All}
use Rattle.std.specs.Option.{option_map, option_or}
use Rattle.std.proofs.lemmas.List.{get_or-map, get_or-drop, get_or_default}
use Rattle.std.proofs.lemmas.List.Elements.{recursion_from_All}
use Rattle.adp_model.specs.Printable.{is_printable_byte}
use Rattle.adp_model.specs.declared.fault.TextFault.{TextFault}
use Rattle.adp_model.specs.declared.job.Job.{Job}
use Rattle.job_texts.specs.LineTokens.{Token, Offence, StrayByte, OpenQuote, tokens_of}
use Rattle.job_texts.specs.JobLines.{header_of, is_skipped, is_words_line, job_lines, line_at, up_to_words_line, version_of}
use Rattle.job_texts.specs.Declarations.{Declaration, HeaderLine, Skipped, Unprintable, Unclosed, Shapeless, Says, declaration_of, header_line}
use Rattle.job_texts.specs.DeclaredNames.{TextLines, declarations, header_at}
use Rattle.job_texts.specs.TextFaults.{FaultKind, fault_kinds, has_unprintable_byte, has_no_shape, has_unclosed_quote, plain_kind}
use Rattle.job_texts.specs.JobText.{Accepted, accepted_of, declared_grammar, fault_at, first_fault, first_fault_at, lines_verdict, IsText}
use Rattle.nested_jobs.proofs.Verdicts.{fault_of, lined}
use Rattle.nested_jobs.proofs.SingleRules.{IsFine}

-- ---- no line has a fault

or_none : (first other : Option TextFault) → option_or first other ≡ None → (first ≡ None) × (other ≡ None)
or_none None other h = (refl, h)
or_none (Some fault) other h = absurd cc

no_kind : (line : ℕ) (text : TextLines) (found : Option FaultKind) → option_map (fault_of text line) found ≡ None
    → found ≡ None
no_kind line text None h = refl
no_kind line text (Some kind) h = absurd cc

cond_none : {X : Type 0} (b : Bool) (x : X) (other : Option X) → cond b (Some x) other ≡ None
    → (b ≡ false) × (other ≡ None)
cond_none true x other h = absurd cc
cond_none false x other h = (refl, h)

none_passes : {X : Type 0} (test : X → Bool) (xs : List X) (k : ℕ) (default : X) → k < length xs → find test xs ≡ None
    → test (slice_index_or xs k default) ≡ false
none_passes test [] k default within h = absurd (omega arith)
none_passes test (x ∷ xs) zero default within h = (cond_none (test x) x (find test xs) h).0
none_passes test (x ∷ xs) (suc k) default within h =
    none_passes test xs k default (omega arith) (cond_none (test x) x (find test xs) h).1

no_fault : (text : TextLines) (from n k line : ℕ) → first_fault_at text (range_with_len from n) ≡ None → k < n
    → from + k ≡ line → fault_at text line ≡ None
no_fault text from zero k line h within e = absurd (omega arith)
no_fault text from (suc n) zero line h within e =
    let same : from ≡ line = omega arith in
    subst (λ (line : ℕ). fault_at text line ≡ None) same
    (or_none (fault_at text from) (first_fault_at text (range_with_len (from + 1) n)) h).0
no_fault text from (suc n) (suc k) line h within e =
    no_fault text (from + 1) n k line
    (or_none (fault_at text from) (first_fault_at text (range_with_len (from + 1) n)) h).1 (omega arith) (omega arith)

-- the kinds of faults that ask for form, none of which stands at a line
record IsFreeLine (text : TextLines) (line : ℕ) : Type 0 where
  printable : has_unprintable_byte text line ≡ false
  shaped : has_no_shape text line ≡ false
  closed : has_unclosed_quote text line ≡ false

abbrev stands_at : TextLines → ℕ → FaultKind → Bool
stands_at text line kind = kind.stands text line

abbrev any_kind : FaultKind
any_kind = plain_kind 1 has_unprintable_byte

free_line : (text : TextLines) (line : ℕ) → fault_at text line ≡ None → IsFreeLine text line
free_line text line h =
    let none : find (stands_at text line) fault_kinds ≡ None =
    no_kind line text (find (stands_at text line) fault_kinds) h in
    record {
      printable = none_passes (stands_at text line) fault_kinds 1 any_kind (lit< tt) none;
      shaped = none_passes (stands_at text line) fault_kinds 2 any_kind (lit< tt) none;
      closed = none_passes (stands_at text line) fault_kinds 5 any_kind (lit< tt) none;
    }

free : (text : TextLines) (line : ℕ) → first_fault text ≡ None → 0 < line → line ≤ length text.lines + 1
    → IsFreeLine text line
free text zero h from to = absurd (omega arith)
free text (suc k) h from to =
    free_line text (suc k) (no_fault text 1 (length text.lines + 1) k (suc k) h (omega arith) (omega arith))

-- ---- header lines

-- a line has an unprintable byte
unprintable : (version : ℕ) (line : List ℕ) → header_line version line ≡ Unprintable
    → list_all is_printable_byte line ≡ false
unprintable version line h = step (list_all is_printable_byte line) refl
  where
    by_shape : (skipped : Bool) → is_skipped line ≡ skipped → list_all is_printable_byte line ≡ true
        → (tokens : List Token) → tokens_of line ≡ Ok tokens
        → (shape : Option Declaration) → declaration_of version tokens ≡ shape → ⊥
    by_shape true s p tokens t shape d = cc (rw s at h)
    by_shape false s p tokens t None d = cc (rw (s, p, t, d) at h)
    by_shape false s p tokens t (Some declaration) d = cc (rw (s, p, t, d) at h)

    by_tokens : (skipped : Bool) → is_skipped line ≡ skipped → list_all is_printable_byte line ≡ true
        → (tokens : Result (List Token) Offence) → tokens_of line ≡ tokens → ⊥
    by_tokens true s p tokens t = cc (rw s at h)
    by_tokens false s p (Err StrayByte) t = cc (rw (s, p, t) at h)
    by_tokens false s p (Err OpenQuote) t = cc (rw (s, p, t) at h)
    by_tokens false s p (Ok tokens) t = by_shape false s p tokens t (declaration_of version tokens) refl

    step : (printable : Bool) → list_all is_printable_byte line ≡ printable → list_all is_printable_byte line ≡ false
    step false p = p
    step true p = absurd (by_tokens (is_skipped line) refl p (tokens_of line) refl)

shaped : (text : TextLines) (number : ℕ) → header_at text number ≡ Shapeless → has_no_shape text number ≡ true
shaped text number e = rw e refl

closed : (text : TextLines) (number : ℕ) → header_at text number ≡ Unclosed → has_unclosed_quote text number ≡ true
closed text number e = rw e refl

fine_line : (text : TextLines) (number version : ℕ) (line : List ℕ) → IsFreeLine text number
    → header_at text number ≡ header_line version line → line_at text.lines number ≡ line
    → IsFine (header_line version line)
fine_line text number version line free header own = step (header_line version line) refl
  where
    step : (found : HeaderLine) → header_line version line ≡ found → IsFine found
    step Skipped e = tt
    step (Says declaration) e = tt
    step Shapeless e = absurd (cc (sym (shaped text number (header ∙ e)) ∙ free.shaped))
    step Unclosed e = absurd (cc (sym (closed text number (header ∙ e)) ∙ free.closed))
    step Unprintable e =
        let none = ap (list_all is_printable_byte) own ∙ unprintable version line e in
        absurd (cc (sym (ap not none) ∙ free.printable))

-- the lines up to the `words` line are the first ones
up_to_short : (lines : List (List ℕ)) → length (up_to_words_line lines) ≤ length lines
up_to_short [] = omega arith
up_to_short (line ∷ lines) = step (is_words_line line) (up_to_short lines)
  where
    step : (words : Bool) → length (up_to_words_line lines) ≤ length lines
        → length (line ∷ cond words [] (up_to_words_line lines)) ≤ length (line ∷ lines)
    step true h = omega arith
    step false h = omega arith

up_to_at : (lines : List (List ℕ)) (k : ℕ) (default : List ℕ) → k < length (up_to_words_line lines)
    → slice_index_or (up_to_words_line lines) k default ≡ slice_index_or lines k default
up_to_at [] k default h = refl
up_to_at (line ∷ lines) zero default h = refl
up_to_at (line ∷ lines) (suc k) default h = step (is_words_line line) (λ within. up_to_at lines k default within) h
  where
    step : (words : Bool)
        → (k < length (up_to_words_line lines)
        → slice_index_or (up_to_words_line lines) k default ≡ slice_index_or lines k default)
        → suc k < length (line ∷ cond words [] (up_to_words_line lines))
        → slice_index_or (cond words [] (up_to_words_line lines)) k default ≡ slice_index_or lines k default
    step true rest h = absurd (omega arith)
    step false rest h = rest (omega arith)

-- where no line has a fault, each header line is skipped or has form
pub fine_header : (lines : List (List ℕ)) → first_fault (lined lines) ≡ None
    → AllByRecursion (λ (line : List ℕ). IsFine (header_line (version_of lines) line)) (header_of lines)
fine_header lines h =
    recursion_from_All (λ (line : List ℕ). IsFine (header_line (version_of lines) line)) (header_of lines) at
  where
    at : All (λ (line : List ℕ). IsFine (header_line (version_of lines) line)) (header_of lines)
    at k default within =
        let line = slice_index_or (header_of lines) k default in
        let short = up_to_short (drop 1 lines) in
        let next : suc k ≡ 1 + k = omega arith in
        let long : suc (suc k) ≤ length lines + 1 = omega (arith, length-drop 1 lines) in
        let header : header_at (lined lines) (suc (suc k)) ≡ header_line (version_of lines) line =
        get_or-map (header_line (version_of lines)) (header_of lines) k default Skipped within in
        let own : line_at lines (suc (suc k)) ≡ line =
        ap (λ (place : ℕ). slice_index_or lines place []) next ∙ sym (get_or-drop 1 lines k [])
        ∙ sym (up_to_at (drop 1 lines) k [] within)
        ∙ get_or_default (header_of lines) k [] default within in
        fine_line (lined lines) (suc (suc k)) (version_of lines) line
        (free (lined lines) (suc (suc k)) h (omega arith) long) header own

pub record IsAccepted (text : List ℕ) (job : Job) : Type 0 where
  pub faultless : first_fault (lined (job_lines text)) ≡ None
  pub grammar : job.grammar ≡ declared_grammar (declarations (lined (job_lines text)))

same_ok : (a b : Accepted) (verdict : Result Accepted TextFault) → verdict ≡ Ok a → verdict ≡ Ok b → a ≡ b
same_ok a b verdict e f = cc

no_err : (a : Accepted) (fault : TextFault) (verdict : Result Accepted TextFault) → verdict ≡ Ok a
    → verdict ≡ Err fault → ⊥
no_err a fault verdict e f = cc

pub accepted : (text : List ℕ) (job : Job) → IsText text job → IsAccepted text job
accepted text job h = step (first_fault (lined (job_lines text))) refl
  where
    step : (first : Option TextFault) → first_fault (lined (job_lines text)) ≡ first → IsAccepted text job
    step (Some fault) e =
        absurd (no_err (record { version = job.version; grammar = job.grammar; words = job.words }) fault
        (lines_verdict (lined (job_lines text))) h (rw e refl))
    step None e = record {
      faultless = e;
      grammar = ap (λ (accepted : Accepted). accepted.grammar)
          (same_ok (record { version = job.version; grammar = job.grammar; words = job.words })
          (accepted_of (lined (job_lines text))) (lines_verdict (lined (job_lines text))) h (rw e refl));
    }
