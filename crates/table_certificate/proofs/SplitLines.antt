-- The lines of a text, cut behind a line's end.
use Rattle.std.proofs.Common.{◌≡◌, ℕ, suc, ◌+◌, ◌-◌, ◌<◌, ◌≤◌, ◌==◌, ◌⊎◌, inl, inr, List, [], ◌∷◌, ◌++◌, map, cond, Bool, true, false, Option, Some, None, unwrap_or, length, take, drop, get_or, ◌≢◌, Contains, codes, append_assoc, append-nil, drop_of_length-le, refl, ap, sym, subst, ◌∙◌, arith, drop_at, take_at, take_all, take-suc, length-append, length-drop}
use Rattle.std.specs.List.{slice_split, onto_first, position_or_len, count_by}
use Rattle.std.specs.Char.{is_newline}
use Rattle.std.specs.Str.Lines.{strip_carriage_return, lines_of_parts, lines}
use Rattle.std.proofs.lemmas.List.Elements.{Contains-push_cases}
use Rattle.std.proofs.lemmas.List.Splits.{length-slice_split}
use Rattle.std.proofs.lemmas.List.Sums.{position_or_len_is, sum_by-append}
use Rattle.std.proofs.lemmas.Bool.{false_from_ne_true}
use Rattle.std.proofs.lemmas.Bool.Decides.{nat_tests}
use Rattle.memchr.specs.Find.{IsFirstByte, is_byte}
use Rattle.adp_model.specs.Ascii.{line_feed}
use Rattle.table_certificate.specs.JobSplit.{AreEndedLines, IsEndedLine, IsFirstLine, IsSplitAtJob}

front_first : (line : List ℕ) (rest : List (List ℕ)) (first : List ℕ) (others : List (List ℕ)) → rest ≡ first ∷ others
    → lines_of_parts (line ∷ rest) ≡ strip_carriage_return line ∷ lines_of_parts rest
front_first line rest first others is = rw is refl

pub record NotEmpty (rest : List (List ℕ)) : Type 0 where
  pub first : List ℕ
  pub others : List (List ℕ)
  pub is : rest ≡ first ∷ others

pub some_part : (text : List ℕ) → NotEmpty (slice_split is_newline text)
some_part [] = record { first = []; others = []; is = refl }
some_part (byte ∷ text) = step (is_newline byte) refl (some_part text)
  where
    step : (ends : Bool) → is_newline byte ≡ ends → NotEmpty (slice_split is_newline text)
        → NotEmpty (slice_split is_newline (byte ∷ text))
    step true e rest = record { first = []; others = slice_split is_newline text; is = rw e refl }
    step false e rest = record { first = byte ∷ rest.first; others = rest.others; is = rw (e, rest.is) refl }

onto_first-append : (byte : ℕ) (parts others : List (List ℕ)) → NotEmpty parts
    → onto_first byte (parts ++ others) ≡ onto_first byte parts ++ others
onto_first-append byte parts others some = rw some.is refl

split_at_end : (text behind : List ℕ)
    → slice_split is_newline (text ++ line_feed ∷ behind) ≡ slice_split is_newline text ++ slice_split is_newline behind
split_at_end [] behind = refl
split_at_end (byte ∷ text) behind = step (is_newline byte) refl (split_at_end text behind)
  where
    step : (ends : Bool) → is_newline byte ≡ ends
        → slice_split is_newline (text ++ line_feed ∷ behind) ≡ slice_split is_newline text ++ slice_split is_newline behind
        → slice_split is_newline (byte ∷ (text ++ line_feed ∷ behind)) ≡ slice_split is_newline (byte ∷ text) ++ slice_split is_newline behind
    step true e inner = rw (e, inner) refl
    step false e inner = rw (e, inner) (onto_first-append byte (slice_split is_newline text) (slice_split is_newline behind) (some_part text))

lines_of_parts-append : (parts others : List (List ℕ)) → NotEmpty others
    → lines_of_parts (parts ++ others) ≡ map strip_carriage_return parts ++ lines_of_parts others
lines_of_parts-append [] others some = refl
lines_of_parts-append (part ∷ []) others some = front_first part others some.first some.others some.is
lines_of_parts-append (part ∷ next ∷ parts) others some = ap (λ (rest : List (List ℕ)). strip_carriage_return part ∷ rest) (lines_of_parts-append (next ∷ parts) others some)

-- lines behind a line's end
pub lines_behind : (text behind : List ℕ)
    → lines (text ++ line_feed ∷ behind) ≡ map strip_carriage_return (slice_split is_newline text) ++ lines behind
lines_behind text behind = ap lines_of_parts (split_at_end text behind) ∙ lines_of_parts-append (slice_split is_newline text) (slice_split is_newline behind) (some_part behind)

pub lines-append : (before rest : List ℕ) → AreEndedLines before → lines (before ++ rest) ≡ lines before ++ lines rest
lines-append before rest (inl none) = rw none refl
lines-append before rest (inr (earlier, is)) =
    let whole : (earlier ++ line_feed ∷ []) ++ rest ≡ earlier ++ line_feed ∷ rest = append_assoc earlier (line_feed ∷ []) rest in
    let alone : lines before ≡ map strip_carriage_return (slice_split is_newline earlier) = ap lines is ∙ lines_behind earlier [] ∙ append-nil (map strip_carriage_return
    (slice_split is_newline earlier)) in
    ap (λ (x : List ℕ). lines (x ++ rest)) is ∙ ap lines whole ∙ lines_behind earlier rest ∙ ap (λ (x : List (List ℕ)). x ++ lines rest) (sym alone)

-- the place of the first newline, or the length
pub found_end : (text : List ℕ) (found : Option ℕ) → IsFirstByte (is_byte 10) text found
    → unwrap_or found (length text) ≡ position_or_len is_newline text
found_end text None none =
    sym (position_or_len_is is_newline text (length text) 0 (omega arith)
    (λ place below. false_from_ne_true (is_newline (get_or text place 0)) (none place (omega arith) below))
    (λ within. absurd (omega (arith, within))))
found_end text (Some place) (first, ends) =
    sym (position_or_len_is is_newline text place 0 (omega (arith, first.high))
    (λ other below. false_from_ne_true (is_newline (get_or text other 0)) (first.before other (omega arith) below))
    (λ _. ends))

-- ---- the first line

-- no newline ends the text
pub record IsWhole (text : List ℕ) : Type 0 where
  pub alone : slice_split is_newline text ≡ text ∷ []
  pub at : position_or_len is_newline text ≡ length text

-- a newline ends its first line
pub record HasEnd (text : List ℕ) : Type 0 where
  pub line : List ℕ
  pub behind : List ℕ
  pub is : text ≡ line ++ line_feed ∷ behind
  pub alone : slice_split is_newline line ≡ line ∷ []
  pub at : position_or_len is_newline text ≡ length line

newline_is : (byte : ℕ) → is_newline byte ≡ true → byte ≡ line_feed
newline_is byte e = grind (arith, nat_tests)

further : (byte : ℕ) → is_newline byte ≡ false → (text : List ℕ) → slice_split is_newline text ≡ text ∷ []
    → slice_split is_newline (byte ∷ text) ≡ (byte ∷ text) ∷ []
further byte e text alone = rw (e, alone) refl

further_position : (byte : ℕ) → is_newline byte ≡ false → (text : List ℕ) (n : ℕ)
    → position_or_len is_newline text ≡ n → position_or_len is_newline (byte ∷ text) ≡ suc n
further_position byte e text n at = rw (e, at) (omega arith)

behind_byte : (byte : ℕ) → is_newline byte ≡ false → (text : List ℕ) → IsWhole text ⊎ HasEnd text
    → IsWhole (byte ∷ text) ⊎ HasEnd (byte ∷ text)
behind_byte byte e text (inl whole) = inl (record {
  alone = further byte e text whole.alone;
  at = further_position byte e text (length text) whole.at;
})
behind_byte byte e text (inr end) = inr (record {
  line = byte ∷ end.line;
  behind = end.behind;
  is = ap (λ (x : List ℕ). byte ∷ x) end.is;
  alone = further byte e end.line end.alone;
  at = further_position byte e text (length end.line) end.at;
})

first_byte : (byte : ℕ) → is_newline byte ≡ true → (text : List ℕ) → HasEnd (byte ∷ text)
first_byte byte e text = record {
  line = [];
  behind = text;
  is = ap (λ x. x ∷ text) (newline_is byte e);
  alone = refl;
  at = rw e refl;
}

pub has_end : (text : List ℕ) → IsWhole text ⊎ HasEnd text
has_end [] = inl (record { alone = refl; at = refl })
has_end (byte ∷ text) = step (is_newline byte) refl (has_end text)
  where
    step : (ends : Bool) → is_newline byte ≡ ends → IsWhole text ⊎ HasEnd text
        → IsWhole (byte ∷ text) ⊎ HasEnd (byte ∷ text)
    step true e rest = inr (first_byte byte e text)
    step false e rest = behind_byte byte e text rest

pub one_part : (line : List ℕ) → 0 < length line → lines_of_parts (line ∷ []) ≡ line ∷ []
one_part line h = let e : (length line == 0) ≡ false = grind (arith, nat_tests) in rw e refl

pub shorter : (text : List ℕ) (end : HasEnd text) → length end.line < length text
shorter text end =
    let whole : length text ≡ length end.line + suc (length end.behind) = ap length end.is ∙ length-append end.line (line_feed ∷ end.behind) in
    omega arith

-- a text that no newline ends is its first line
pub whole_first : (text : List ℕ) (end : ℕ) → 0 < length text → end ≡ position_or_len is_newline text
    → end ≡ length text → IsFirstLine text text (drop end text)
whole_first text end some at all = by (has_end text)
  where
    none : drop end text ≡ []
    none = drop_of_length-le text (omega arith)

    by : IsWhole text ⊎ HasEnd text → IsFirstLine text text (drop end text)
    by (inl whole) = record {
      ended = text;
      parts = sym (append-nil text) ∙ ap (λ (x : List ℕ). text ++ x) (sym none);
      is_ended = inr (inr (refl, none));
      some = some;
      alone = ap lines_of_parts whole.alone ∙ one_part text some;
    }
    by (inr ends) = let short : length ends.line < length text = shorter text ends in absurd (omega (arith, ends.at))

same_of_true : (a b : ℕ) → (a == b) ≡ true → a ≡ b
same_of_true a b e = grind (arith, nat_tests)

last_return : (line : List ℕ) → (get_or line (length line - 1) 0 == 13) ≡ true
    → line ≡ take (length line - 1) line ++ 13 ∷ []
last_return [] e = cc
last_return (byte ∷ bytes) e =
    let n : ℕ = length bytes in
    let low : n < length (byte ∷ bytes) = omega arith in
    let place : length (byte ∷ bytes) - 1 ≡ n = omega arith in
    let all : take (suc n) (byte ∷ bytes) ≡ byte ∷ bytes = take_all (suc n) (byte ∷ bytes) (omega arith) in
    let last : get_or (byte ∷ bytes) n 0 ≡ 13 = same_of_true (get_or (byte ∷ bytes) n 0) 13 (subst (λ k. (get_or (byte ∷ bytes) k 0 == 13) ≡ true) place e) in
    subst (λ k. byte ∷ bytes ≡ take k (byte ∷ bytes) ++ 13 ∷ []) (sym place)
    (sym all ∙ take-suc (byte ∷ bytes) n 0 low ∙ ap (λ x. take n (byte ∷ bytes) ++ x ∷ []) last)

stripped : (line behind : List ℕ) → IsEndedLine (strip_carriage_return line) behind (line ++ line_feed ∷ [])
stripped line behind = by (get_or line (length line - 1) 0 == 13) refl
  where
    by : (returned : Bool) → (get_or line (length line - 1) 0 == 13) ≡ returned
        → IsEndedLine (strip_carriage_return line) behind (line ++ line_feed ∷ [])
    by true e =
        let short : List ℕ = take (length line - 1) line in
        rw e (inr (inl (ap (λ (x : List ℕ). x ++ line_feed ∷ []) (last_return line e) ∙ append_assoc short (13 ∷ []) (line_feed ∷ []))))
    by false e = rw e (inl refl)

pub ended_line : (line behind : List ℕ) → slice_split is_newline line ≡ line ∷ []
    → IsFirstLine (line ++ line_feed ∷ behind) (strip_carriage_return line) behind
ended_line line behind alone = record {
  ended = line ++ line_feed ∷ [];
  parts = sym (append_assoc line (line_feed ∷ []) behind);
  is_ended = stripped line behind;
  some = let long : length (line ++ line_feed ∷ []) ≡ length line + 1 = length-append line (line_feed ∷ []) in omega arith;
  alone = lines_behind line [] ∙ append-nil (map strip_carriage_return (slice_split is_newline line)) ∙ ap (λ (x : List (List ℕ)). map strip_carriage_return x) alone;
}

behind_end : (line behind : List ℕ) (end : ℕ) → length line ≡ end
    → drop (end + 1) (line ++ line_feed ∷ behind) ≡ behind
behind_end line behind end long =
    let past : length (line ++ line_feed ∷ []) ≡ end + 1 = length-append line (line_feed ∷ []) ∙ ap (λ n. n + 1) long in
    ap (λ (x : List ℕ). drop (end + 1) x) (sym (append_assoc line (line_feed ∷ []) behind)) ∙ drop_at (line ++ line_feed ∷ []) behind (end + 1) past

-- a line that a newline ends
pub ended_first : (text line : List ℕ) (end : ℕ) → end ≡ position_or_len is_newline text → end ≢ length text
    → line ≡ strip_carriage_return (take end text) → IsFirstLine text line (drop (end + 1) text)
ended_first text line end at more is = by (has_end text)
  where
    by : IsWhole text ⊎ HasEnd text → IsFirstLine text line (drop (end + 1) text)
    by (inl whole) = absurd (more (at ∙ whole.at))
    by (inr ends) =
        let long : length ends.line ≡ end = sym (at ∙ ends.at) in
        let front : take end text ≡ ends.line = ap (λ (x : List ℕ). take end x) ends.is ∙ take_at ends.line (line_feed ∷ ends.behind) end long in
        let rest : drop (end + 1) text ≡ ends.behind = ap (λ (x : List ℕ). drop (end + 1) x) ends.is ∙ behind_end ends.line ends.behind end long in
        let line_is : line ≡ strip_carriage_return ends.line = is ∙ ap strip_carriage_return front in
        let first = ended_line ends.line ends.behind ends.alone in
        let here = subst (λ x. IsFirstLine x (strip_carriage_return ends.line) ends.behind) (sym ends.is) first in
        let named = subst (λ x. IsFirstLine text x ends.behind) (sym line_is) here in
        subst (λ x. IsFirstLine text line x) (sym rest) named

-- ---- how many newlines

-- a newline counts, and no byte before it
pub counted_before : (line behind : List ℕ) → slice_split is_newline line ≡ line ∷ []
    → count_by is_newline (line ++ line_feed ∷ behind) ≡ suc (count_by is_newline behind)
counted_before line behind alone =
    let parts : length (slice_split is_newline line) ≡ count_by is_newline line + 1 = length-slice_split is_newline line in
    let one : length (slice_split is_newline line) ≡ 1 = ap length alone in
    let whole : count_by is_newline (line ++ line_feed ∷ behind) ≡ count_by is_newline line + count_by is_newline (line_feed ∷ behind) = sum_by-append (λ x. cond (is_newline x) 1 0) line (line_feed ∷ behind) in
    let last : count_by is_newline (line_feed ∷ behind) ≡ 1 + count_by is_newline behind = sum_by-append (λ x. cond (is_newline x) 1 0) (line_feed ∷ []) behind in
    omega (arith, parts, one, whole, last)

pub counted_whole : (text : List ℕ) (end : ℕ) → end ≡ position_or_len is_newline text → end ≡ length text
    → count_by is_newline text ≡ 0
counted_whole text end at all = by (has_end text)
  where
    by : IsWhole text ⊎ HasEnd text → count_by is_newline text ≡ 0
    by (inl whole) =
        let parts : length (slice_split is_newline text) ≡ count_by is_newline text + 1 = length-slice_split is_newline text in
        let one : length (slice_split is_newline text) ≡ 1 = ap length whole.alone in
        omega (arith, parts, one)
    by (inr ends) = let short : length ends.line < length text = shorter text ends in absurd (omega (arith, ends.at))

pub counted_end : (text : List ℕ) (end : ℕ) → end ≡ position_or_len is_newline text → end ≢ length text
    → count_by is_newline text ≡ suc (count_by is_newline (drop (end + 1) text))
counted_end text end at more = by (has_end text)
  where
    by : IsWhole text ⊎ HasEnd text → count_by is_newline text ≡ suc (count_by is_newline (drop (end + 1) text))
    by (inl whole) = absurd (more (at ∙ whole.at))
    by (inr ends) =
        let long : length ends.line ≡ end = sym (at ∙ ends.at) in
        let rest : drop (end + 1) text ≡ ends.behind = ap (λ (x : List ℕ). drop (end + 1) x) ends.is ∙ behind_end ends.line ends.behind end long in
        ap (count_by is_newline) ends.is ∙ counted_before ends.line ends.behind ends.alone ∙ ap (λ (x : List ℕ). suc (count_by is_newline x)) (sym rest)

pub end_low : (text : List ℕ) (end : ℕ) → end ≡ position_or_len is_newline text → end ≢ length text → end < length text
end_low text end at more = by (has_end text)
  where
    by : IsWhole text ⊎ HasEnd text → end < length text
    by (inl whole) = absurd (more (at ∙ whole.at))
    by (inr ends) = let short : length ends.line < length text = shorter text ends in omega (arith, short, at, ends.at)

-- ---- going from line to line

-- so many lines have been passed, none of them `job`
pub record IsPassed (bytes rest : List ℕ) (count : ℕ) : Type 0 where
  pub before : List ℕ
  pub parts : bytes ≡ before ++ rest
  pub ended : AreEndedLines before ⊎ (rest ≡ [])
  pub all : lines bytes ≡ lines before ++ lines rest
  pub none : Contains (lines before) (codes "job") → ⊥
  pub counted : count ≡ length (lines before)
  pub few : count + length rest ≤ length bytes

pub none_passed : (bytes : List ℕ) → IsPassed bytes bytes 0
none_passed bytes = record {
  before = [];
  parts = refl;
  ended = inl (inl refl);
  all = refl;
  none = λ found. absurd (omega (arith, found.1));
  counted = refl;
  few = omega arith;
}

-- an ended line ends with a newline, or nothing stands behind it
ended_or_last : (line behind ended : List ℕ) → IsEndedLine line behind ended → AreEndedLines ended ⊎ (behind ≡ [])
ended_or_last line behind ended (inl e) = inl (inr (line, e))
ended_or_last line behind ended (inr (inl e)) = inl (inr (line ++ 13 ∷ [], e ∙ sym (append_assoc line (13 ∷ []) (line_feed ∷ []))))
ended_or_last line behind ended (inr (inr e)) = inr e.1

more_ended : (before ended : List ℕ) → 0 < length ended → AreEndedLines ended → AreEndedLines (before ++ ended)
more_ended before ended some (inl none) = let e : length ended ≡ 0 = ap length none in absurd (omega arith)
more_ended before ended some (inr (line, is)) = inr (before ++ line, ap (λ (x : List ℕ). before ++ x) is ∙ sym (append_assoc before line (line_feed ∷ [])))

-- the lines before something has been passed are ended
ended_before : (before rest : List ℕ) → 0 < length rest → AreEndedLines before ⊎ (rest ≡ []) → AreEndedLines before
ended_before before rest some (inl ended) = ended
ended_before before rest some (inr none) = let e : length rest ≡ 0 = ap length none in absurd (omega arith)

-- the lines of a text are its first line, and those behind it
pub lines_of_first : (text line behind : List ℕ) → IsFirstLine text line behind → lines text ≡ line ∷ lines behind
lines_of_first text line behind first = ap lines first.parts ∙ by (ended_or_last line behind first.ended first.is_ended)
  where
    by : AreEndedLines first.ended ⊎ (behind ≡ []) → lines (first.ended ++ behind) ≡ line ∷ lines behind
    by (inl ended) = lines-append first.ended behind ended ∙ ap (λ (x : List (List ℕ)). x ++ lines behind) first.alone
    by (inr none) =
        ap (λ (x : List ℕ). lines (first.ended ++ x)) none ∙ ap lines (append-nil first.ended) ∙ first.alone
        ∙ ap (λ (x : List ℕ). line ∷ lines x) (sym none)

some_left : (text line behind : List ℕ) → IsFirstLine text line behind → 0 < length text
some_left text line behind first =
    let whole : length text ≡ length first.ended + length behind = ap length first.parts ∙ length-append first.ended behind in
    omega (arith, first.some)

contains_more : (items : List (List ℕ)) (last item : List ℕ) → (Contains items item → ⊥) → (last ≡ item → ⊥)
    → Contains (items ++ last ∷ []) item → ⊥
contains_more items last item none other found = by (Contains-push_cases items last item found)
  where
    by : Contains items item ⊎ (last ≡ item) → ⊥
    by (inl earlier) = none earlier
    by (inr here) = other here

pub one_more_passed : (bytes rest line behind : List ℕ) (count : ℕ) → IsPassed bytes rest count
    → IsFirstLine rest line behind → (line ≡ codes "job" → ⊥) → IsPassed bytes behind (count + 1)
one_more_passed bytes rest line behind count passed first other =
    let ended : AreEndedLines passed.before = ended_before passed.before rest (some_left rest line behind first) passed.ended in
    let joined : lines (passed.before ++ first.ended) ≡ lines passed.before ++ line ∷ [] =
    lines-append passed.before first.ended ended ∙ ap (λ (x : List (List ℕ)). lines passed.before ++ x) first.alone in
    let longer : length (lines passed.before ++ line ∷ []) ≡ length (lines passed.before) + 1 = length-append (lines passed.before) (line ∷ []) in
    let rest_long : length rest ≡ length first.ended + length behind = ap length first.parts ∙ length-append first.ended behind in
    record {
      before = passed.before ++ first.ended;
      parts = passed.parts ∙ ap (λ (x : List ℕ). passed.before ++ x) first.parts ∙ sym (append_assoc passed.before first.ended behind);
      ended = still ended (ended_or_last line behind first.ended first.is_ended);
      all = passed.all ∙ ap (λ (x : List (List ℕ)). lines passed.before ++ x) (lines_of_first rest line behind first)
          ∙ sym (append_assoc (lines passed.before) (line ∷ []) (lines behind)) ∙ ap (λ (x : List (List ℕ)). x ++ lines behind) (sym joined);
      none = subst (λ (x : List (List ℕ)). Contains x (codes "job") → ⊥) (sym joined) (contains_more (lines passed.before) line (codes "job") passed.none other);
      counted = let e : length (lines (passed.before ++ first.ended)) ≡ length (lines passed.before) + 1 = ap length joined ∙ longer in omega (arith, passed.counted);
      few = omega (arith, passed.few, first.some);
    }
  where
    still : AreEndedLines passed.before → AreEndedLines first.ended ⊎ (behind ≡ [])
        → AreEndedLines (passed.before ++ first.ended) ⊎ (behind ≡ [])
    still ended (inl more) = inl (more_ended passed.before first.ended first.some more)
    still ended (inr none) = inr none

-- where the line is `job`, the bytes are parted there
pub parted : (bytes rest line behind : List ℕ) (count : ℕ) → IsPassed bytes rest count → IsFirstLine rest line behind
    → line ≡ codes "job" → IsSplitAtJob bytes (take (length bytes - length rest) bytes) behind
parted bytes rest line behind count passed first is =
    let whole : length bytes ≡ length passed.before + length rest = ap length passed.parts ∙ length-append passed.before rest in
    let front : take (length bytes - length rest) bytes ≡ passed.before =
    ap (λ (x : List ℕ). take (length bytes - length rest) x) passed.parts ∙ take_at passed.before rest (length bytes - length rest) (omega arith) in
    subst (λ x. IsSplitAtJob bytes x behind) (sym front) (record {
      ended = first.ended;
      parts = passed.parts ∙ ap (λ (x : List ℕ). passed.before ++ x) first.parts ∙ sym (append_assoc passed.before first.ended behind);
      whole = ended_before passed.before rest (some_left rest line behind first) passed.ended;
      is_job = subst (λ x. IsEndedLine x behind first.ended) is first.is_ended;
      first = passed.none;
    })

-- where no byte is left, all lines are passed
pub all_passed : (bytes rest : List ℕ) (count : ℕ) → IsPassed bytes rest count → rest ≡ []
    → (Contains (lines bytes) (codes "job") → ⊥) × (count ≡ length (lines bytes))
all_passed bytes rest count passed none =
    let same : lines bytes ≡ lines passed.before =
    passed.all ∙ ap (λ (x : List ℕ). lines passed.before ++ lines x) none ∙ append-nil (lines passed.before) in
    (subst (λ (x : List (List ℕ)). Contains x (codes "job") → ⊥) (sym same) passed.none, passed.counted ∙ ap length (sym same))

-- a slice from a place on is all behind it
pub tail_of : (n : ℕ) (items : List ℕ) → take (length items - n) (drop n items) ≡ drop n items
tail_of n items = let long : length (drop n items) ≤ length items - n = omega (arith, length-drop n items) in take_all (length items - n) (drop n items) long

pub some_bytes : (text : List ℕ) → false ≡ (length text == 0) → 0 < length text
some_bytes text e = grind (arith, nat_tests)

pub not_both : (b : Bool) → b ≡ false → b ≡ true → ⊥
not_both b e h = cc
