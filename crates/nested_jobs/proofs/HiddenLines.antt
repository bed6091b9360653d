-- The lines of hidden rules, and header lines with hidden names.
use Rattle.std.proofs.Common.{◌≡◌, ℕ, zero, suc, ◌+◌, ◌-◌, ◌/◌, ◌%◌, ◌<◌, ◌≤◌, ◌⊎◌, inl, inr, ◌==◌, Bool, true, false, codes, nat_lt, List, [], ◌∷◌, ◌++◌, length, take, drop, refl, sym, ◌∙◌, ap, subst, arith, append_assoc}
use Rattle.std.specs.List.{slice_range, AllByRecursion}
use Rattle.std.specs.Fmt.{decimal, digits, digits_onto, digit_glyph}
use Rattle.std.proofs.lemmas.Bool.{cases_lt, eqb-true}
use Rattle.std.proofs.lemmas.Bool.Decides.{nat_tests}
use Rattle.std.proofs.lemmas.List.{drop-drop, take_all}
use Rattle.std.proofs.Math.Seq.{take-add}
use Rattle.job_texts.specs.JobLines.{is_words_line}
use Rattle.nested_texts.specs.NestedRules.{Nested, nested_in}
use Rattle.nested_texts.specs.PlainTexts.{changed_line, hidden_name, hidden_rule, hidden_rules, replaced}
use Rattle.nested_jobs.proofs.Sides.{Side, Outside, side_after, side_after-append, bars, bars-append}
use Rattle.nested_jobs.proofs.Chains.{side_at, bars_at}
use Rattle.nested_jobs.proofs.SingleRules.{IsQuiet, IsQuietRule}
use Rattle.nested_jobs.proofs.Scans.{IsEndAt, IsNestedAt, EndBefore, AreNestedAt}
use Rattle.nested_jobs.proofs.FirstLetters.{BeginsRule, found_in}

-- ---- quiet bytes

quiet-append : (xs ys : List ℕ) → IsQuiet xs → IsQuiet ys → IsQuiet (xs ++ ys)
quiet-append xs ys first second =
    let count = bars-append Outside xs ys in
    let behind : bars (side_after Outside xs) ys ≡ 0 = ap (λ (side : Side). bars side ys) first.side ∙ second.bars in
    record {
      side = side_after-append Outside xs ys ∙ ap (λ (side : Side). side_after side ys) first.side ∙ second.side;
      bars = omega (arith, count, behind, first.bars);
    }

-- no `"` and no `|`
abbrev IsPlain : ℕ → Type 0
IsPlain byte = ((byte == 34) ≡ false) × ((byte == 124) ≡ false)

plain_quiet : (bytes : List ℕ) → AllByRecursion IsPlain bytes → IsQuiet bytes
plain_quiet [] plain = record { side = refl; bars = refl }
plain_quiet (byte ∷ bytes) plain =
    let rest = plain_quiet bytes plain.1 in
    record { side = rw plain.0.0 rest.side; bars = rw (plain.0.0, plain.0.1) (omega (arith, rest.bars)) }

glyph_plain : (digit : ℕ) → digit < 10 → IsPlain (digit_glyph false digit)
glyph_plain digit h =
    let is : digit_glyph false digit ≡ 48 + digit = grind (arith, nat_tests) in
    subst IsPlain (sym is) (grind (arith, nat_tests), grind (arith, nat_tests))

onto_plain : (count n : ℕ) (behind : List ℕ) → AllByRecursion IsPlain behind
    → AllByRecursion IsPlain (digits_onto count 10 false n behind)
onto_plain zero n behind plain = plain
onto_plain (suc count) n behind plain =
    let own : IsPlain (digit_glyph false (n % 10)) = glyph_plain (n % 10) (omega arith) in
    step (n / 10 == 0) refl own (onto_plain count (n / 10) (digit_glyph false (n % 10) ∷ behind) (own, plain))
  where
    step : (last : Bool) → (n / 10 == 0) ≡ last → IsPlain (digit_glyph false (n % 10))
        → AllByRecursion IsPlain (digits_onto count 10 false (n / 10) (digit_glyph false (n % 10) ∷ behind))
        → AllByRecursion IsPlain (digits_onto (suc count) 10 false n behind)
    step true e own rest = rw e (own, plain)
    step false e own rest = rw e rest

decimal_plain : (n : ℕ) → AllByRecursion IsPlain (decimal n)
unfolding digits
decimal_plain n = onto_plain 64 n [] tt

name_quiet : (number : ℕ) → IsQuiet (hidden_name number)
name_quiet number =
    quiet-append (codes "h_") (decimal number) (record { side = refl; bars = refl })
    (plain_quiet (decimal number) (decimal_plain number))

-- ---- pieces of a line

quiet_slice : (line : List ℕ) (from to : ℕ) → side_at line from ≡ Outside → side_at line to ≡ Outside
    → bars_at line from ≡ bars_at line to → IsQuiet (slice_range line from to)
quiet_slice line from to begins ends level = step (cases_lt from to)
  where
    step : (from < to) ⊎ (to ≤ from) → IsQuiet (slice_range line from to)
    step (inr past) =
        let none : to - from ≡ 0 = omega arith in
        subst (λ (count : ℕ). IsQuiet (take count (drop from line))) (sym none) (record { side = refl; bars = refl })
    step (inl before) =
        let whole : from + (to - from) ≡ to = omega arith in
        let parts : take to line ≡ take from line ++ slice_range line from to =
        ap (λ (count : ℕ). take count line) (sym whole) ∙ take-add from (to - from) line in
        let side =
        ap (side_after Outside) parts ∙ side_after-append Outside (take from line) (slice_range line from to) in
        let count = ap (bars Outside) parts ∙ bars-append Outside (take from line) (slice_range line from to) in
        let own : bars (side_at line from) (slice_range line from to) ≡ bars Outside (slice_range line from to) =
        ap (λ (side : Side). bars side (slice_range line from to)) begins in
        record {
          side = sym (ap (λ (side : Side). side_after side (slice_range line from to)) begins) ∙ sym side ∙ ends;
          bars = omega (arith, count, own, level);
        }

-- the bytes end in a `)` outside of quoted texts, with no `|` outside
record IsClosing (bytes : List ℕ) : Type 0 where
  front : List ℕ
  is : bytes ≡ front ++ 41 ∷ []
  quiet : IsQuiet front

closing-append : (xs ys : List ℕ) → IsQuiet xs → IsClosing ys → IsClosing (xs ++ ys)
closing-append xs ys quiet closing = record {
  front = xs ++ closing.front;
  is = ap (λ (ys : List ℕ). xs ++ ys) closing.is ∙ sym (append_assoc xs closing.front (41 ∷ []));
  quiet = quiet-append xs closing.front quiet closing.quiet;
}

closing_slice : (line : List ℕ) (from to : ℕ) → IsEndAt line to → side_at line from ≡ Outside
    → bars_at line from ≡ bars_at line to → from < to → IsClosing (slice_range line from to)
closing_slice line from to end begins level h =
    let parts : to - from ≡ (end.before - from) + (to - end.before) = omega (arith, end.next) in
    let whole : from + (end.before - from) ≡ end.before = omega (arith, end.next) in
    let rest : drop (end.before - from) (drop from line) ≡ drop end.before line =
    drop-drop (end.before - from) from line ∙ ap (λ (place : ℕ). drop place line) whole in
    record {
      front = slice_range line from end.before;
      is = ap (λ (count : ℕ). take count (drop from line)) parts
          ∙ take-add (end.before - from) (to - end.before) (drop from line)
          ∙ ap (λ (rest : List ℕ). slice_range line from end.before ++ take (to - end.before) rest) rest
          ∙ ap (λ (last : List ℕ). slice_range line from end.before ++ last) end.last;
      quiet = quiet_slice line from end.before begins end.side (level ∙ sym end.bars);
    }

-- ---- hidden names

replaced_closes : (line : List ℕ) (depth to number from : ℕ) (nested : List Nested) → IsEndAt line to
    → side_at line from ≡ Outside → bars_at line from ≡ bars_at line to → from < to
    → AreNestedAt line nested → EndBefore line depth to nested
    → IsClosing (replaced line to (depth + 1) number from nested)
replaced_closes line depth to number from [] end begins level h are before =
    closing_slice line from to end begins level h
replaced_closes line depth to number from (nested ∷ others) end begins level h are before =
    step (nested.depth == depth + 1) refl
    (λ deep. replaced_closes line depth to (number + 1) nested.to others end are.0.ends.behind
    (sym are.0.level ∙ (before deep).1) (before deep).0 are.2 (before deep).2)
    (λ deep. replaced_closes line depth to (number + 1) from others end begins level h are.2 (before deep).2)
  where
    deeper : (deep : Bool) → nat_lt (depth + 1) nested.depth ≡ deep → (nested.depth == depth + 1) ≡ false
        → (depth < nested.depth → IsClosing (replaced line to (depth + 1) (number + 1) from others))
        → IsClosing (replaced line to (depth + 1) number from (nested ∷ others))
    deeper true e other further = rw (other, e) (further (grind (arith, nat_tests)))
    deeper false e other further = rw (other, e) (closing_slice line from to end begins level h)

    step : (same : Bool) → (nested.depth == depth + 1) ≡ same
        → (depth < nested.depth → IsClosing (replaced line to (depth + 1) (number + 1) nested.to others))
        → (depth < nested.depth → IsClosing (replaced line to (depth + 1) (number + 1) from others))
        → IsClosing (replaced line to (depth + 1) number from (nested ∷ others))
    step true e named further =
        let is : nested.depth ≡ depth + 1 = eqb-true nested.depth (depth + 1) e in
        let piece = quiet_slice line from nested.from begins are.0.begins (level ∙ sym (before (omega arith)).1) in
        rw e (closing-append (slice_range line from nested.from ++ hidden_name number)
        (replaced line to (depth + 1) (number + 1) nested.to others)
        (quiet-append (slice_range line from nested.from) (hidden_name number) piece (name_quiet number))
        (named (omega arith)))
    step false e named further = deeper (nat_lt (depth + 1) nested.depth) refl e further

hidden_rule_closes : (line : List ℕ) (number : ℕ) (nested : Nested) (others : List Nested) → IsNestedAt line nested
    → EndBefore line nested.depth nested.to others → AreNestedAt line others
    → IsQuietRule (hidden_rule line number nested others)
hidden_rule_closes line number nested others is before are =
    let depth = nested.depth in
    let own = replaced_closes line depth nested.to
    (number + 1) nested.from others is.ends is.begins is.level is.long are before in
    let bytes = replaced line nested.to (depth + 1) (number + 1) nested.from others in
    let constant : IsQuiet (codes "rule ") = record { side = refl; bars = refl } in
    let named = quiet-append (codes "rule ") (hidden_name number) constant (name_quiet number) in
    let equals : IsQuiet (codes " = ") = record { side = refl; bars = refl } in
    let begun = quiet-append (codes "rule " ++ hidden_name number) (codes " = ") named equals in
    let closing = closing-append (codes "rule " ++ hidden_name number ++ codes " = ") bytes begun own in
    record {
      rest = hidden_name number ++ codes " = " ++ bytes;
      front = closing.front;
      begins = refl;
      ends = closing.is;
      quiet = closing.quiet;
    }

hidden_rules_close : (line : List ℕ) (number : ℕ) (nested : List Nested) → AreNestedAt line nested
    → AllByRecursion IsQuietRule (hidden_rules line number nested)
hidden_rules_close line number [] are = tt
hidden_rules_close line number (nested ∷ others) are =
    (hidden_rule_closes line number nested others are.0 are.1 are.2, hidden_rules_close line (number + 1) others are.2)

-- a changed line is no `words` line
changed_other : (line : List ℕ) (number : ℕ) (nested : List Nested) → is_words_line line ≡ false
    → AllByRecursion (BeginsRule line) nested
    → is_words_line (replaced line (length line) 1 number 0 nested) ≡ false
changed_other line number nested other begin = among nested number begin
  where
    whole : is_words_line (slice_range line 0 (length line)) ≡ false
    whole = subst (λ (l : List ℕ). is_words_line l ≡ false) (sym (take_all (length line - 0) line (omega arith))) other

    among : (nested : List Nested) (number : ℕ) → AllByRecursion (BeginsRule line) nested
        → is_words_line (replaced line (length line) 1 number 0 nested) ≡ false
    among [] number begin = whole
    among (nested ∷ others) number begin =
        step (nested.depth == 1) refl (nat_lt 1 nested.depth) refl (among others (number + 1) begin.1)
      where
        step : (same : Bool) → (nested.depth == 1) ≡ same → (deeper : Bool) → nat_lt 1 nested.depth ≡ deeper
            → is_words_line (replaced line (length line) 1 (number + 1) 0 others) ≡ false
            → is_words_line (replaced line (length line) 1 number 0 (nested ∷ others)) ≡ false
        step true e deeper e' rest =
            let further = replaced line (length line) 1 (number + 1) nested.to others in
            let from_start : nested.from - 0 ≡ nested.from = omega arith in
            let is : replaced line (length line) 1 number 0 (nested ∷ others) ≡ take nested.from line ++
            (hidden_name number ++ further) =
            rw e (ap (λ (count : ℕ). take count line ++ hidden_name number ++ further) from_start
            ∙ append_assoc (take nested.from line) (hidden_name number) further) in
            subst (λ (l : List ℕ). is_words_line l ≡ false) (sym is) (begin.0 (hidden_name number ++ further))
        step false e true e' rest = rw (e, e') rest
        step false e false e' rest = rw (e, e') whole

-- ---- of a line

pub rules_close : (line : List ℕ) (number : ℕ) → AllByRecursion IsQuietRule (hidden_rules line number (nested_in line))
rules_close line number = hidden_rules_close line number (nested_in line) (found_in line).found

pub line_other : (line : List ℕ) (number : ℕ) → is_words_line line ≡ false
    → is_words_line (changed_line number line) ≡ false
line_other line number other = changed_other line number (nested_in line) other (found_in line).begin
