-- The verdict on a plain text, by its lines.
use Rattle.std.proofs.Common.{◌≡◌, ◌↔◌, ℕ, zero, suc, ◌+◌, ◌<◌, ◌≤◌, Bool, true, false, cond, IsTrue, nat_le, Option, Some, None, Result, Ok, Err, List, [], ◌∷◌, length, map, slice_index_or, refl, sym, ◌∙◌, ap, subst, arith}
use Rattle.std.proofs.Math.Bool.{Bool-set}
use Rattle.std.specs.List.{list_all, find, range_with_len}
use Rattle.std.specs.Option.{option_map}
use Rattle.adp_model.specs.Printable.{is_printable_byte}
use Rattle.adp_model.specs.WellFormed.{is_of_version, is_well_formed}
use Rattle.adp_model.specs.declared.grammar.Grammar.{Grammar}
use Rattle.adp_model.specs.declared.job.Job.{Job}
use Rattle.adp_model.specs.declared.fault.TextFault.{TextFault}
use Rattle.job_texts.specs.JobLines.{job_lines, header_of, line_at, version_of, words_line_of, words_of}
use Rattle.job_texts.specs.Declarations.{Skipped, header_line}
use Rattle.job_texts.specs.DeclaredNames.{TextLines, text_lines}
use Rattle.job_texts.specs.TextFaults.{FaultKind, fault_kinds}
use Rattle.job_texts.specs.JobText.{Accepted, accepted_of, fault_at, first_fault, first_fault_at, lines_verdict, text_verdict, IsFaultOf, IsText}
use Rattle.nested_texts.specs.PlainTexts.{PlainLine, is_third_format, kept_lines, origins, plain_lines}
use Rattle.nested_jobs.specs.NestedJob.{IsNestedFault, IsNestedText, IsPlainText, hidden_in, origin_of}

-- ---- only lines matter

-- a text by its lines
abbrev pub lined : List (List ℕ) → TextLines
lined lines = record {
  version = version_of lines;
  lines = lines;
  header = Skipped ∷ map (header_line (version_of lines)) (header_of lines);
  words_line = words_line_of lines;
  words = words_of lines;
}

pub same_verdict : (a b : List ℕ) → job_lines a ≡ job_lines b → text_verdict a ≡ text_verdict b
same_verdict a b e = ap (λ (lines : List (List ℕ)). lines_verdict (lined lines)) e

abbrev at_line : TextFault → ℕ → TextFault
at_line fault line = record fault { line = line }

-- ---- one verdict

abbrev ok : Accepted → Result Accepted TextFault
ok a = Ok a

abbrev err : TextFault → Result Accepted TextFault
err a = Err a

same_ok : (a b : Accepted) → ok a ≡ ok b → a ≡ b
same_ok a b e = cc

same_err : (a b : TextFault) → err a ≡ err b → a ≡ b
same_err a b e = cc

ok_or_err : (a : Accepted) (b : TextFault) → ok a ≡ err b → ⊥
ok_or_err a b e = cc

one_proof : (test : Bool) (p q : IsTrue test) → p ≡ q
one_proof test p q = let proposition : IsProp (IsTrue test) = hlevel (Bool-set) in proposition p q

abbrev made : (version : ℕ) (grammar : Grammar) (words : List (List ℕ)) → IsTrue (is_of_version version grammar)
    → IsTrue (is_well_formed grammar)
    → IsTrue (list_all (list_all is_printable_byte) words) → IsTrue (nat_le (length words) 65536) → Job
made version grammar words a b c d =
    record {
      version = version;
      grammar = grammar;
      words = words;
      of_version = a;
      well_formed = b;
      printable_words = c;
      few_words = d;
    }

same_job : (job other : Job) → job.version ≡ other.version → job.grammar ≡ other.grammar → job.words ≡ other.words
    → job ≡ other
same_job job other version grammar words =
    subst
    (λ (v : ℕ). (a : IsTrue (is_of_version v other.grammar))
    → job ≡ made v other.grammar other.words a other.well_formed other.printable_words other.few_words)
    version
    (subst
    (λ (g : Grammar). (w : IsTrue (is_well_formed g)) (a : IsTrue (is_of_version job.version g))
    → job ≡ made job.version g other.words a w other.printable_words other.few_words)
    grammar
    (subst
    (λ (ws : List (List ℕ)). (p : IsTrue (list_all (list_all is_printable_byte) ws))
    (f : IsTrue (nat_le (length ws) 65536)) (w : IsTrue (is_well_formed job.grammar))
    (a : IsTrue (is_of_version job.version job.grammar)) → job ≡ made job.version job.grammar ws a w p f)
    words
    (λ p f w a.
    let e1 = one_proof (is_of_version job.version job.grammar) job.of_version a in
    let e2 = one_proof (is_well_formed job.grammar) job.well_formed w in
    let e3 = one_proof (list_all (list_all is_printable_byte) job.words) job.printable_words p in
    let e4 = one_proof (nat_le (length job.words) 65536) job.few_words f in
    ap (λ x. made job.version job.grammar job.words x job.well_formed job.printable_words job.few_words) e1
    ∙ ap (λ x. made job.version job.grammar job.words a x job.printable_words job.few_words) e2
    ∙ ap (λ x. made job.version job.grammar job.words a w x job.few_words) e3
    ∙ ap (λ x. made job.version job.grammar job.words a w p x) e4)
    other.printable_words other.few_words)
    other.well_formed)
    other.of_version

plain_same : (bytes a b : List ℕ) → IsPlainText bytes a → IsPlainText bytes b → text_verdict a ≡ text_verdict b
plain_same bytes a b plain plain' = same_verdict a b (plain ∙ sym plain')

pub one_job : (bytes : List ℕ) (job other : Job) → IsNestedText bytes job → IsNestedText bytes other → job ≡ other
one_job bytes job other spelled again =
    let a : Accepted = record { version = job.version; grammar = job.grammar; words = job.words } in
    let b : Accepted = record { version = other.version; grammar = other.grammar; words = other.words } in
    let both : a ≡ b = same_ok a b (sym spelled.2 ∙ plain_same bytes spelled.0 again.0 spelled.1 again.1 ∙ again.2) in
    same_job job other (ap (λ (x : Accepted). x.version) both) (ap (λ (x : Accepted). x.grammar) both)
    (ap (λ (x : Accepted). x.words) both)

pub one_fault : (bytes : List ℕ) (fault other : TextFault) → IsNestedFault bytes fault → IsNestedFault bytes other
    → fault ≡ other
one_fault bytes fault other refused again =
    let both : refused.1 ≡ again.1 =
    same_err refused.1 again.1 (sym refused.3 ∙ plain_same bytes refused.0 again.0 refused.2 again.2 ∙ again.3) in
    refused.4
    ∙ ap (λ (found : TextFault). at_line found (origin_of bytes found.line)) both ∙ sym again.4

pub not_both : (bytes : List ℕ) (job : Job) (fault : TextFault) → IsNestedText bytes job → IsNestedFault bytes fault → ⊥
not_both bytes job fault spelled refused =
    ok_or_err (record { version = job.version; grammar = job.grammar; words = job.words }) refused.1
    (sym spelled.2 ∙ plain_same bytes spelled.0 refused.0 spelled.1 refused.2 ∙ refused.3)

-- ---- where a fault stands

-- the fault of a kind at a line
abbrev pub fault_of : TextLines → ℕ → FaultKind → TextFault
fault_of text line kind = record { line = line; kind = kind.number; count = kind.count text line }

-- the fault that a line has is told of this line
told_at : (text : TextLines) (line : ℕ) (fault : TextFault) → fault_at text line ≡ Some fault → fault.line ≡ line
told_at text line fault h = step (find (λ (kind : FaultKind). kind.stands text line) fault_kinds) h
  where
    step : (found : Option FaultKind) → option_map (fault_of text line) found ≡ Some fault → fault.line ≡ line
    step None e = absurd cc
    step (Some kind) e =
        let same : fault_of text line kind ≡ fault = cc in
        sym (ap (λ (f : TextFault). f.line) same)

stands_among : (text : TextLines) (from n : ℕ) (fault : TextFault)
    → first_fault_at text (range_with_len from n) ≡ Some fault
    → (from ≤ fault.line) × (fault.line < from + n)
stands_among text from zero fault h = absurd cc
stands_among text from (suc n) fault h = step (fault_at text from) refl (stands_among text (from + 1) n fault)
  where
    step : (found : Option TextFault) → fault_at text from ≡ found
        → (first_fault_at text (range_with_len (from + 1) n) ≡ Some fault
        → (from + 1 ≤ fault.line) × (fault.line < from + 1 + n))
        → (from ≤ fault.line) × (fault.line < from + suc n)
    step None e rest =
        let found = rest (rw e at h) in
        (omega arith, omega arith)
    step (Some first) e rest =
        let is : Some first ≡ Some fault = rw e at h in
        let own = told_at text from fault (e ∙ is) in
        (omega arith, omega arith)

refused_by : (text : TextLines) (first : Option TextFault) (fault : TextFault) → first_fault text ≡ first
    → lines_verdict text ≡ Err fault → first ≡ Some fault
refused_by text None fault e h = absurd (ok_or_err (accepted_of text) fault (rw e at h))
refused_by text (Some first) fault e h = ap (λ (f : TextFault). Some f) (same_err first fault (rw e at h))

pub stands_at_line : (bytes : List ℕ) (fault : TextFault) → IsFaultOf bytes fault
    → (1 ≤ fault.line) × (fault.line ≤ length (job_lines bytes) + 1)
stands_at_line bytes fault h =
    let text = text_lines bytes in
    let found = stands_among text 1 (length text.lines + 1) fault (refused_by text (first_fault text) fault refl h) in
    (found.0, omega arith)

-- ---- texts without nested alternatives

no_third : (third : Bool) (count : ℕ) → cond third (Some count) None ≡ None → third ≡ false
no_third true count e = absurd cc
no_third false count e = refl

pub kept_bytes : (place : ℕ) (lines : List (List ℕ))
    → map (λ (line : PlainLine). line.bytes) (kept_lines place lines) ≡ lines
kept_bytes place [] = refl
kept_bytes place (line ∷ lines) = ap (λ (others : List (List ℕ)). line ∷ others) (kept_bytes (place + 1) lines)

kept_origin : (place : ℕ) (lines : List (List ℕ)) (behind k : ℕ) → place + length lines ≡ behind → k ≤ length lines
    → slice_index_or (origins (kept_lines place lines) behind) k 0 ≡ place + k
kept_origin place [] behind zero e h = omega arith
kept_origin place [] behind (suc k) e h = absurd (omega arith)
kept_origin place (line ∷ lines) behind zero e h = omega arith
kept_origin place (line ∷ lines) behind (suc k) e h =
    kept_origin (place + 1) lines behind k (omega arith) (omega arith) ∙ omega arith

itself : (bytes : List ℕ) → hidden_in bytes ≡ None → plain_lines (job_lines bytes) ≡ kept_lines 1 (job_lines bytes)
itself bytes h = rw (no_third (is_third_format (line_at (job_lines bytes) 1)) _ h) refl

own_text : (bytes : List ℕ) → hidden_in bytes ≡ None → IsPlainText bytes bytes
own_text bytes h = sym (ap (map (λ (line : PlainLine). line.bytes)) (itself bytes h) ∙ kept_bytes 1 (job_lines bytes))

own_line : (bytes : List ℕ) (line : ℕ) → hidden_in bytes ≡ None → 1 ≤ line → line ≤ length (job_lines bytes) + 1
    → origin_of bytes line ≡ line
own_line bytes zero h from to = absurd (omega arith)
own_line bytes (suc k) h from to =
    ap (λ (plain : List PlainLine). slice_index_or (origins plain (length (job_lines bytes) + 1)) k 0) (itself bytes h)
    ∙ kept_origin 1 (job_lines bytes) (length (job_lines bytes) + 1) k (omega arith) (omega arith) ∙ omega arith

pub job_stays : (bytes : List ℕ) → hidden_in bytes ≡ None → (job : Job) → IsText bytes job ↔ IsNestedText bytes job
job_stays bytes h job = (
  λ spelled. (bytes, own_text bytes h, spelled),
  λ spelled. plain_same bytes bytes spelled.0 (own_text bytes h) spelled.1 ∙ spelled.2,
)

pub fault_stays : (bytes : List ℕ) → hidden_in bytes ≡ None → (fault : TextFault)
    → IsFaultOf bytes fault ↔ IsNestedFault bytes fault
fault_stays bytes h fault = (there, back)
  where
    at_own : (found : TextFault) → IsFaultOf bytes found
        → found ≡ at_line found (origin_of bytes found.line)
    at_own found refused =
        let stands = stands_at_line bytes found refused in
        let own = own_line bytes found.line h stands.0 stands.1 in
        ap (at_line found) (sym own)

    there : IsFaultOf bytes fault → IsNestedFault bytes fault
    there refused = (bytes, fault, own_text bytes h, refused, at_own fault refused)

    back : IsNestedFault bytes fault → IsFaultOf bytes fault
    back refused =
        let found = plain_same bytes bytes refused.0 (own_text bytes h) refused.2 ∙ refused.3 in
        subst (IsFaultOf bytes) (at_own refused.1 found ∙ sym refused.4) found
