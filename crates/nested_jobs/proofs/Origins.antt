-- The lines that the lines of a plain text come from.
use Rattle.std.proofs.Common.{◌≡◌, ℕ, zero, suc, ◌+◌, ◌-◌, ◌<◌, ◌≤◌, Bool, true, false, List, [], ◌∷◌, ◌++◌, length, map, drop, slice_index_or, refl, sym, ◌∙◌, ap, subst, arith, length-drop}
use Rattle.std.specs.List.{AllByRecursion}
use Rattle.std.proofs.lemmas.List.{get_or_default, length-map}
use Rattle.std.proofs.lemmas.List.Elements.{All-from_recursion}
use Rattle.adp_model.specs.declared.fault.TextFault.{TextFault}
use Rattle.job_texts.specs.JobLines.{is_words_line, job_lines, line_at}
use Rattle.job_texts.specs.JobText.{IsFaultOf}
use Rattle.nested_texts.specs.NestedRules.{nested_in}
use Rattle.nested_texts.specs.PlainTexts.{PlainLine, before_words, changed_lines, from_words, hidden_lines, hidden_rules, is_third_format, kept_lines, line_of, origins, plain_behind, plain_lines}
use Rattle.nested_jobs.specs.NestedJob.{IsNestedFault, IsPlainText, origin_of}
use Rattle.nested_jobs.proofs.Verdicts.{stands_at_line}

-- ---- of plain lines

-- each comes from a line from 1 to this one
abbrev AreUpTo : ℕ → List PlainLine → Type 0
AreUpTo last lines = AllByRecursion (λ (line : PlainLine). (1 ≤ line.origin) × (line.origin ≤ last)) lines

up_to-append : (last : ℕ) (xs ys : List PlainLine) → AreUpTo last xs → AreUpTo last ys → AreUpTo last (xs ++ ys)
up_to-append last [] ys first second = second
up_to-append last (line ∷ xs) ys first second = (first.0, up_to-append last xs ys first.1 second)

kept_up_to : (last place : ℕ) (lines : List (List ℕ)) → 1 ≤ place → place + length lines ≤ last + 1
    → AreUpTo last (kept_lines place lines)
kept_up_to last place [] low high = tt
kept_up_to last place (line ∷ lines) low high =
    ((low, omega arith), kept_up_to last (place + 1) lines (omega arith) (omega arith))

changed_up_to : (last place number : ℕ) (lines : List (List ℕ)) → 1 ≤ place → place + length lines ≤ last + 1
    → AreUpTo last (changed_lines place number lines)
changed_up_to last place number [] low high = tt
changed_up_to last place number (line ∷ lines) low high = (
  (low, omega arith),
  changed_up_to last (place + 1) (number + length (nested_in line)) lines (omega arith) (omega arith),
)

rules_up_to : (last place : ℕ) (rules : List (List ℕ)) → 1 ≤ place → place ≤ last
    → AreUpTo last (map (line_of place) rules)
rules_up_to last place [] low high = tt
rules_up_to last place (rule ∷ rules) low high = ((low, high), rules_up_to last place rules low high)

hidden_up_to : (last place number : ℕ) (lines : List (List ℕ)) → 1 ≤ place → place + length lines ≤ last + 1
    → AreUpTo last (hidden_lines place number lines)
hidden_up_to last place number [] low high = tt
hidden_up_to last place number (line ∷ lines) low high =
    let further = number + length (nested_in line) in
    up_to-append last (map (line_of place) (hidden_rules line number (nested_in line)))
    (hidden_lines (place + 1) further lines)
    (rules_up_to last place (hidden_rules line number (nested_in line)) low (omega arith))
    (hidden_up_to last (place + 1) further lines (omega arith) (omega arith))

-- the header and what follows are all lines
parted_lines : (lines : List (List ℕ)) → length (before_words lines) + length (from_words lines) ≡ length lines
parted_lines [] = refl
parted_lines (line ∷ lines) = step (is_words_line line) refl (parted_lines lines)
  where
    step : (words : Bool) → is_words_line line ≡ words
        → length (before_words lines) + length (from_words lines) ≡ length lines
        → length (before_words (line ∷ lines)) + length (from_words (line ∷ lines)) ≡ length (line ∷ lines)
    step true e rest = rw e (omega arith)
    step false e rest = rw e (omega (arith, rest))

plain_up_to : (lines : List (List ℕ)) → AreUpTo (length lines + 1) (plain_lines lines)
plain_up_to lines = step (is_third_format (line_at lines 1)) refl
  where
    step : (third : Bool) → is_third_format (line_at lines 1) ≡ third → AreUpTo (length lines + 1) (plain_lines lines)
    step false e = rw e (kept_up_to (length lines + 1) 1 lines (omega arith) (omega arith))
    step true e =
        let behind = drop 1 lines in
        let before = before_words behind in
        let count = parted_lines behind in
        let long : length behind ≤ length lines = omega (arith, length-drop 1 lines) in
        let header = up_to-append (length lines + 1) (changed_lines 2 1 before) (hidden_lines 2 1 before)
        (changed_up_to (length lines + 1) 2 1 before (omega arith) (omega arith))
        (hidden_up_to (length lines + 1) 2 1 before (omega arith) (omega arith)) in
        let kept = kept_lines (2 + length before) (from_words behind) in
        let rest = up_to-append (length lines + 1) (changed_lines 2 1 before ++ hidden_lines 2 1 before) kept header
        (kept_up_to (length lines + 1) (2 + length before) (from_words behind) (omega arith) (omega arith)) in
        let all : AreUpTo (length lines + 1) (plain_behind behind) = ((omega arith, omega arith), rest) in
        rw e all

-- ---- of faults

origins_up_to : (last : ℕ) (lines : List PlainLine) → 1 ≤ last → AreUpTo last lines
    → AllByRecursion (λ (origin : ℕ). (1 ≤ origin) × (origin ≤ last)) (origins lines last)
origins_up_to last [] low are = ((low, omega arith), tt)
origins_up_to last (line ∷ lines) low are = (are.0, origins_up_to last lines low are.1)

abbrev all_origins : List ℕ → List ℕ
all_origins bytes = origins (plain_lines (job_lines bytes)) (length (job_lines bytes) + 1)

-- a fault's line has an origin
pub record HasOrigin (bytes : List ℕ) (line : ℕ) : Type 0 where
  pub within : line - 1 < length (all_origins bytes)
  pub first : 1 ≤ line

many_origins : (lines : List PlainLine) (last : ℕ) → length (origins lines last) ≡ length lines + 1
many_origins [] last = refl
many_origins (line ∷ lines) last = let rest = many_origins lines last in omega (arith, rest)

has_origin : (bytes text : List ℕ) (fault : TextFault) → IsPlainText bytes text → IsFaultOf text fault
    → HasOrigin bytes fault.line
has_origin bytes text fault plain refused =
    let stands = stands_at_line text fault refused in
    let lines = plain_lines (job_lines bytes) in
    let count : length (job_lines text) ≡ length lines = ap length plain
    ∙ length-map lines (λ (line : PlainLine). line.bytes) in
    let many = many_origins lines (length (job_lines bytes) + 1) in
    record { within = omega (arith, stands.0, stands.1, count, many); first = stands.0 }

-- the origin is one of the list
read_origin : (bytes : List ℕ) (line default : ℕ) → HasOrigin bytes line
    → origin_of bytes line ≡ slice_index_or (all_origins bytes) (line - 1) default
read_origin bytes zero default has = absurd (omega (arith, has.first))
read_origin bytes (suc line) default has =
    let own : suc line - 1 ≡ line = omega arith in
    ap (λ (place : ℕ). slice_index_or (all_origins bytes) place 0) (sym own)
    ∙ get_or_default (all_origins bytes) (suc line - 1) 0 default has.within

pub origin_within : (bytes text : List ℕ) (fault : TextFault) → IsPlainText bytes text → IsFaultOf text fault
    → fault.line - 1 < length (all_origins bytes)
origin_within bytes text fault plain refused = (has_origin bytes text fault plain refused).within

pub origin_read : (bytes text : List ℕ) (fault : TextFault) (default : ℕ) → IsPlainText bytes text
    → IsFaultOf text fault
    → origin_of bytes fault.line ≡ slice_index_or (all_origins bytes) (fault.line - 1) default
origin_read bytes text fault default plain refused =
    read_origin bytes fault.line default (has_origin bytes text fault plain refused)

pub nested_at_line : (bytes : List ℕ) (fault : TextFault) → IsNestedFault bytes fault
    → (1 ≤ fault.line) × (fault.line ≤ length (job_lines bytes) + 1)
nested_at_line bytes fault refused =
    let last = length (job_lines bytes) + 1 in
    let found = refused.1 in
    let has = has_origin bytes refused.0 found refused.2 refused.3 in
    let read = read_origin bytes found.line 0 has in
    let all = origins_up_to last (plain_lines (job_lines bytes)) (omega arith) (plain_up_to (job_lines bytes)) in
    let own = All-from_recursion (λ (origin : ℕ). (1 ≤ origin) × (origin ≤ last)) (all_origins bytes) all
    (found.line - 1) 0 has.within in
    let line = ap (λ (fault : TextFault). fault.line) refused.4 in
    let is : fault.line ≡ slice_index_or (all_origins bytes) (found.line - 1) 0 = line ∙ read in
    subst (λ (line : ℕ). (1 ≤ line) × (line ≤ last)) (sym is) own
