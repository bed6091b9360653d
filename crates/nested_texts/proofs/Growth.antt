-- How long a plain text gets: for each nested alternative a name in its place, and a line with its bytes.
use Rattle.std.proofs.Common.{◌≡◌, ℕ, zero, suc, ◌+◌, ◌-◌, ◌*◌, ◌<◌, ◌≤◌, ◌==◌, nat_lt, Bool, true, false, Option, Some, None, Result, Ok, Err, List, [], ◌∷◌, ◌++◌, codes, length, map, drop, get_or, slice_index, refl, ap, length-append, length-drop, arith}
use Rattle.std.specs.List.{All, onto_first, slice_range, slice_split}
use Rattle.std.specs.Char.{is_newline}
use Rattle.std.specs.Fmt.{decimal}
use Rattle.std.specs.Str.Lines.{strip_carriage_return, lines_of_parts}
use Rattle.std.proofs.lemmas.Fmt.{length-decimal-le}
use Rattle.std.proofs.lemmas.List.{length-take}
use Rattle.std.proofs.lemmas.List.Elements.{All-nil, All-cons, All-drop, All-head, All-tail}
use Rattle.std.proofs.lemmas.Bool.Decides.{nat_tests}
use Rattle.job_texts.specs.JobLines.{is_words_line, job_lines}
use Rattle.job_texts.specs.LineTokens.{Token, OpenBracket, CloseBracket, PlacedToken, Offence, QuotedRest, Beginning, Space, Begins, Stops, ByteSort, SpaceByte, WordByte, QuoteByte, DotByte, MarkByte, OtherByte, beginning, byte_sort, is_one_of, quoted_rest, with_token, tokens_from, line_tokens}
use Rattle.nested_texts.specs.NestedRules.{Nested, ends_at, ends_of, is_nested_rule, nested_at, nested_behind, nested_in}
use Rattle.nested_texts.specs.PlainTexts.{before_words, changed_line, changed_lines, from_words, hidden_lines, hidden_name, hidden_rule, hidden_rules, kept_lines, line_of, plain_behind, replaced}
use Rattle.nested_texts.specs.Seen.{end_of, ended, text_of}
use Rattle.nested_texts.proofs.AddedLines.{text_append}
use Rattle.nested_texts.proofs.HeaderLines.{few_tokens}
use Rattle.nested_texts.proofs.Replacing.{none_replaced}

-- ---- tokens stand in order

-- a closing bracket has one byte
abbrev IsNarrow : Token → ℕ → ℕ → Type 0
IsNarrow CloseBracket from to = to ≡ from + 1
IsNarrow token from to = Unit {0}

-- tokens begin in order, at this place at the earliest, and all before the end of so many bytes
abbrev AreInOrder : ℕ → ℕ → List PlacedToken → Type 0
AreInOrder bytes place [] = Unit {0}
AreInOrder bytes place (placed ∷ tokens) =
    (place ≤ placed.from) × (placed.from < bytes) × IsNarrow placed.token placed.from placed.to × AreInOrder bytes placed.from tokens

abbrev InOrder : ℕ → ℕ → Result (List PlacedToken) Offence → Type 0
InOrder bytes place (Ok tokens) = AreInOrder bytes place tokens
InOrder bytes place (Err offence) = Unit {0}

order_later : (bytes place later : ℕ) (tokens : List PlacedToken) → place ≤ later → AreInOrder bytes later tokens
    → AreInOrder bytes place tokens
order_later bytes place later [] h order = tt
order_later bytes place later (placed ∷ tokens) h order = (omega (arith, order.0), order.1, order.2, order.3)

later : (bytes place : ℕ) (tokens : Result (List PlacedToken) Offence) → InOrder bytes (place + 1) tokens → InOrder bytes place tokens
later bytes place (Ok tokens) order = order_later bytes place (place + 1) tokens (omega arith) order
later bytes place (Err offence) order = tt

abbrev NarrowBeginning : ℕ → Beginning → Type 0
NarrowBeginning place (Begins token further) = IsNarrow token place (place + 1 + further)
NarrowBeginning place other = Unit {0}

narrow_mark : (place : ℕ) (mark : Token) → IsNarrow mark place (place + 1 + 0)
narrow_mark place CloseBracket = omega arith
narrow_mark place mark = tt

narrow_quote : (place byte : ℕ) (text : List ℕ) (quoted : Option QuotedRest) → byte_sort byte ≡ QuoteByte → quoted_rest false text ≡ quoted
    → NarrowBeginning place (beginning byte text)
narrow_quote place byte text (Some rest) e f = rw (e, f) tt
narrow_quote place byte text None e f = rw (e, f) tt

narrow_dots : (place byte : ℕ) (text : List ℕ) → byte_sort byte ≡ DotByte → NarrowBeginning place (beginning byte text)
narrow_dots place byte [] e = rw e tt
narrow_dots place byte (second ∷ others) e = step (is_one_of (codes ".") second) refl
  where
    step : (dot : Bool) → is_one_of (codes ".") second ≡ dot → NarrowBeginning place (beginning byte (second ∷ others))
    step true f = rw (e, f) tt
    step false f = rw (e, f) tt

narrow : (place byte : ℕ) (text : List ℕ) → NarrowBeginning place (beginning byte text)
narrow place byte text = step (byte_sort byte) refl
  where
    step : (sort : ByteSort) → byte_sort byte ≡ sort → NarrowBeginning place (beginning byte text)
    step SpaceByte e = rw e tt
    step WordByte e = rw e tt
    step QuoteByte e = narrow_quote place byte text (quoted_rest false text) e refl
    step DotByte e = narrow_dots place byte text e
    step (MarkByte mark) e = rw e (narrow_mark place mark)
    step OtherByte e = rw e tt

with_first : (bytes place : ℕ) (token : PlacedToken) (tokens : Result (List PlacedToken) Offence) → token.from ≡ place → place < bytes
    → IsNarrow token.token token.from token.to → InOrder bytes token.from tokens → InOrder bytes place (with_token token tokens)
with_first bytes place token (Ok tokens) from within one order = (omega (arith, from), omega (arith, from, within), one, order)
with_first bytes place token (Err offence) from within one order = tt

in_order : (bytes inside place : ℕ) (text : List ℕ) → place + length text ≡ bytes → InOrder bytes place (tokens_from inside place text)
in_order bytes inside place [] h = tt
in_order bytes (suc inside) place (byte ∷ text) h =
    later bytes place (tokens_from inside (place + 1) text) (in_order bytes inside (place + 1) text (omega (arith, h)))
in_order bytes zero place (byte ∷ text) h =
    step (beginning byte text) refl (narrow place byte text) (λ inside. in_order bytes inside (place + 1) text (omega (arith, h)))
  where
    step : (begins : Beginning) → beginning byte text ≡ begins → NarrowBeginning place (beginning byte text)
        → ((inside : ℕ) → InOrder bytes (place + 1) (tokens_from inside (place + 1) text))
        → InOrder bytes place (tokens_from zero place (byte ∷ text))
    step Space e one rest = rw e (later bytes place (tokens_from 0 (place + 1) text) (rest 0))
    step (Begins token further) e one rest =
        rw e (with_first bytes place (record { token = token; from = place; to = place + 1 + further }) (tokens_from further (place + 1) text)
        refl (omega (arith, h)) (rw e at one) (later bytes place (tokens_from further (place + 1) text) (rest further)))
    step (Stops offence) e one rest = rw e tt

tokens_in_order : (line : List ℕ) (tokens : List PlacedToken) → line_tokens line ≡ Ok tokens → AreInOrder (length line) 0 tokens
tokens_in_order line tokens e = rw e at (in_order (length line) 0 0 line (omega arith))

-- ---- pieces

slice_size : (line : List ℕ) (from to : ℕ) → length (slice_range line from to) ≤ to - from
slice_size line from to = omega (arith, length-take (to - from) (drop from line))

slice_later : (line : List ℕ) (from to : ℕ) → length (slice_range line 0 to) ≤ from + length (slice_range line from to)
slice_later line from to = omega (arith, length-take (to - 0) (drop 0 line), length-take (to - from) (drop from line), length-drop from line)

name_size : (number : ℕ) → number ≤ 9999999 → length (hidden_name number) ≤ 9
name_size number h = omega (arith, length-append (codes "h_") (decimal number), length-decimal-le 7 number (omega arith) (omega arith) (omega arith))

end_size : (line : List ℕ) → length (end_of line) ≤ 2
end_size line = step (get_or line (length line - 1) 0 == 13) refl
  where
    step : (ends : Bool) → (get_or line (length line - 1) 0 == 13) ≡ ends → length (end_of line) ≤ 2
    step true e = rw e (omega arith)
    step false e = rw e (omega arith)

ended_size : (line : List ℕ) → length (ended line) ≤ length line + 2
ended_size line = omega (arith, length-append line (end_of line), end_size line)

three : (first second third : List ℕ) → length (first ++ second ++ third) ≡ length first + length second + length third
three first second third = omega (arith, length-append (first ++ second) third, length-append first second)

-- from a later byte on the bytes are fewer by those between at most
replaced_later : (line : List ℕ) (to depth number from : ℕ) (nested : List Nested)
    → length (replaced line to depth number 0 nested) ≤ from + length (replaced line to depth number from nested)
replaced_later line to depth number from [] = slice_later line from to
replaced_later line to depth number from (nested ∷ others) =
    step (nested.depth == depth) (nat_lt depth nested.depth) refl refl (replaced_later line to depth (number + 1) from others)
  where
    step : (same deeper : Bool) → (nested.depth == depth) ≡ same → nat_lt depth nested.depth ≡ deeper
        → length (replaced line to depth (number + 1) 0 others) ≤ from + length (replaced line to depth (number + 1) from others)
        → length (replaced line to depth number 0 (nested ∷ others)) ≤ from + length (replaced line to depth number from (nested ∷ others))
    step true deeper e f rest =
        let name = hidden_name number in
        let behind = replaced line to depth (number + 1) nested.to others in
        rw e (omega (
          arith,
          slice_later line from nested.from,
          three (slice_range line 0 nested.from) name behind,
          three (slice_range line from nested.from) name behind,
        ))
    step false true e f rest = rw (e, f) rest
    step false false e f rest = rw (e, f) (slice_later line from to)

-- ---- the alternatives that are open before a token

-- the bytes from a token on that go to the alternatives that are open before it, with names in place of others. Those of
-- the rule itself are bytes of its line
abbrev open_bytes : List ℕ → ℕ → ℕ → List ℕ → List Nested → ℕ
open_bytes line number from [] nested = length (replaced line (length line) 1 number from nested)
open_bytes line number from (to ∷ []) nested = length (replaced line (length line) 1 number from nested)
open_bytes line number from (to ∷ outer ∷ further) nested =
    length (replaced line to (suc (suc (length further))) number from nested) + open_bytes line number to (outer ∷ further) nested

-- the bytes of hidden rules
abbrev rule_bytes : List ℕ → ℕ → ℕ → List Nested → ℕ
rule_bytes line origin number nested = length (text_of (map (line_of origin) (hidden_rules line number nested)))

-- the first alternative lies in no more of them than are open, or in the rule's own
abbrev IsShallow : List ℕ → List Nested → Type 0
IsShallow ends [] = Unit {0}
IsShallow [] (nested ∷ others) = nested.depth ≤ 1
IsShallow (to ∷ further) (nested ∷ others) = nested.depth ≤ suc (length further)

shallow_further : (to : ℕ) (ends : List ℕ) (nested : List Nested) → IsShallow ends nested → IsShallow (to ∷ ends) nested
shallow_further to ends [] shallow = tt
shallow_further to [] (nested ∷ others) shallow = omega (arith, shallow)
shallow_further to (outer ∷ further) (nested ∷ others) shallow = omega (arith, shallow)

shallow_first : (to : ℕ) (nested : List Nested) → IsShallow (to ∷ []) nested → IsShallow [] nested
shallow_first to [] shallow = tt
shallow_first to (nested ∷ others) shallow = omega (arith, shallow)

shallow_at : (token : Token) (from to : ℕ) (ends : List ℕ) (nested : List Nested) → IsShallow ends nested
    → IsShallow (ends_at token to ends) (nested_at token from ends nested)
shallow_at OpenBracket from to [] nested shallow = shallow
shallow_at OpenBracket from to (end ∷ []) nested shallow = shallow_first end nested shallow
shallow_at OpenBracket from to (end ∷ outer ∷ further) nested shallow = omega arith
shallow_at CloseBracket from to ends nested shallow = shallow_further to ends nested shallow
shallow_at token from to ends nested shallow = shallow

shallow_behind : (from : ℕ) (tokens : List PlacedToken) → IsShallow (ends_of tokens) (nested_behind from tokens)
shallow_behind from [] = tt
shallow_behind from (placed ∷ tokens) =
    shallow_at placed.token from placed.to (ends_of tokens) (nested_behind placed.from tokens) (shallow_behind placed.from tokens)

-- one that lies deeper has no name of its own
skipped : (line : List ℕ) (to depth number from : ℕ) (nested : Nested) (others : List Nested) → depth < nested.depth
    → replaced line to depth number from (nested ∷ others) ≡ replaced line to depth (number + 1) from others
skipped line to depth number from nested others h =
    let other : (nested.depth == depth) ≡ false = grind (arith, nat_tests) in
    let deeper : nat_lt depth nested.depth ≡ true = grind (arith, nat_tests) in
    rw (other, deeper) refl

-- one of this depth has
named : (line : List ℕ) (to depth number from : ℕ) (nested : Nested) (others : List Nested) → nested.depth ≡ depth → number ≤ 9999999
    → length (replaced line to depth number from (nested ∷ others))
    ≤ (nested.from - from) + 9 + length (replaced line to depth (number + 1) nested.to others)
named line to depth number from nested others is h =
    let same : (nested.depth == depth) ≡ true = grind (arith, nat_tests) in
    let behind = replaced line to depth (number + 1) nested.to others in
    rw same (omega (arith, three (slice_range line from nested.from) (hidden_name number) behind, slice_size line from nested.from, name_size number h))

-- none that lies less deep
closed : (line : List ℕ) (to number from outer : ℕ) (further : List ℕ) (nested : List Nested) → IsShallow (outer ∷ further) nested
    → length (replaced line to (suc (suc (length further))) number from nested) ≤ to - from
closed line to number from outer further [] shallow = slice_size line from to
closed line to number from outer further (nested ∷ others) shallow =
    rw (none_replaced line to (suc (suc (length further))) number from nested others (omega (arith, shallow))) (slice_size line from to)

-- alternatives around one that begins here go on behind it
outer_skips : (line : List ℕ) (number from : ℕ) (ends : List ℕ) (nested : Nested) (others : List Nested)
    → length ends < nested.depth → 1 < nested.depth
    → open_bytes line number from ends (nested ∷ others) ≡ open_bytes line (number + 1) from ends others
outer_skips line number from [] nested others h deep = ap length (skipped line (length line) 1 number from nested others deep)
outer_skips line number from (to ∷ []) nested others h deep = ap length (skipped line (length line) 1 number from nested others deep)
outer_skips line number from (to ∷ outer ∷ further) nested others h deep =
    omega (
      arith,
      ap length (skipped line to (suc (suc (length further))) number from nested others h),
      outer_skips line number to (outer ∷ further) nested others (omega (arith, h)) deep,
    )

-- the one that is open there has its name
inner_named : (line : List ℕ) (number from before end outer : ℕ) (further : List ℕ) (others : List Nested) → number ≤ 9999999
    → open_bytes line number from (outer ∷ further) (record { depth = suc (length further); from = before; to = end } ∷ others)
    ≤ (before - from) + 9 + open_bytes line (number + 1) end (outer ∷ further) others
inner_named line number from before end outer [] others h =
    named line (length line) 1 number from (record { depth = 1; from = before; to = end }) others refl h
inner_named line number from before end outer (behind ∷ further) others h =
    let nested : Nested = record { depth = suc (suc (length further)); from = before; to = end } in
    omega (
      arith,
      named line outer (suc (suc (length further))) number from nested others refl h,
      outer_skips line number outer (behind ∷ further) nested others (omega arith) (omega arith),
    )

-- where the bytes of a rest fit
abbrev Fits : List ℕ → ℕ → ℕ → List ℕ → List Nested → Type 0
Fits line origin before ends nested = (number from : ℕ) → from ≤ before + 1 → from ≤ length line → number + length nested ≤ 9999999
    → from + open_bytes line number from ends nested + rule_bytes line origin number nested ≤ length line + 29 * length nested

one_rule : (line : List ℕ) (origin number : ℕ) (nested : Nested) (others : List Nested) → number ≤ 9999999
    → rule_bytes line origin number (nested ∷ others)
    ≤ 19 + length (replaced line nested.to (nested.depth + 1) (number + 1) nested.from others) + rule_bytes line origin (number + 1) others
one_rule line origin number nested others h =
    let rule = hidden_rule line number nested others in
    let front = codes "rule " ++ hidden_name number in
    let alternative = replaced line nested.to (nested.depth + 1) (number + 1) nested.from others in
    let size : length rule ≡ 5 + length (hidden_name number) + 3 + length alternative =
    omega (arith, three front (codes " = ") alternative, length-append (codes "rule ") (hidden_name number)) in
    omega (
      arith,
      size,
      name_size number h,
      ended_size rule,
      length-append (ended rule) (text_of (map (line_of origin) (hidden_rules line (number + 1) others))),
    )

fits_at : (line : List ℕ) (origin : ℕ) (token : Token) (before from to : ℕ) (ends : List ℕ) (nested : List Nested)
    → before ≤ from → from < length line → IsNarrow token from to → IsShallow ends nested
    → Fits line origin from ends nested → Fits line origin before (ends_at token to ends) (nested_at token before ends nested)
fits_at line origin OpenBracket before from to [] nested order within one shallow rest =
    λ number begin h inside few. rest number begin (omega (arith, order, h)) inside few
fits_at line origin OpenBracket before from to (end ∷ []) nested order within one shallow rest =
    λ number begin h inside few. rest number begin (omega (arith, order, h)) inside few
fits_at line origin OpenBracket before from to (end ∷ outer ∷ further) nested order within one shallow rest =
    λ number begin h inside few.
    let first : Nested = record { depth = suc (length further); from = before; to = end } in
    let same : first.depth + 1 ≡ suc (suc (length further)) = omega arith in
    let small : number ≤ 9999999 = omega (arith, few) in
    let behind = rest (number + 1) before (omega (arith, order)) (omega (arith, order, within)) (omega (arith, few)) in
    let alternative = ap (λ (depth : ℕ). length (replaced line end depth (number + 1) before nested)) same in
    omega (
      arith,
      h,
      behind,
      alternative,
      one_rule line origin number first nested small,
      inner_named line number begin before end outer further nested small,
    )
fits_at line origin CloseBracket before from to [] nested order within one shallow rest =
    λ number begin h inside few. rest number begin (omega (arith, order, h)) inside few
fits_at line origin CloseBracket before from to (outer ∷ further) nested order within one shallow rest =
    λ number begin h inside few.
    let behind = rest number to (omega (arith, one)) (omega (arith, one, within)) few in
    let last = closed line to number begin outer further nested shallow in
    omega (arith, h, order, one, behind, last)
fits_at line origin token before from to ends nested order within one shallow rest =
    λ number begin h inside few. rest number begin (omega (arith, order, h)) inside few

fits : (line : List ℕ) (origin before : ℕ) (tokens : List PlacedToken) → AreInOrder (length line) before tokens
    → Fits line origin before (ends_of tokens) (nested_behind before tokens)
fits line origin before [] order = λ number from h inside few. omega (arith, inside, slice_size line from (length line))
fits line origin before (placed ∷ tokens) order =
    fits_at line origin placed.token before placed.from placed.to (ends_of tokens) (nested_behind placed.from tokens)
    order.0 order.1 order.2 (shallow_behind placed.from tokens) (fits line origin placed.from tokens order.3)

-- each alternative has two brackets
pairs_at : (token : Token) (from to : ℕ) (ends : List ℕ) (nested : List Nested)
    → 2 * length (nested_at token from ends nested) + length (ends_at token to ends) ≤ 2 * length nested + length ends + 1
pairs_at OpenBracket from to [] nested = omega arith
pairs_at OpenBracket from to (end ∷ []) nested = omega arith
pairs_at OpenBracket from to (end ∷ outer ∷ further) nested = omega arith
pairs_at CloseBracket from to ends nested = omega arith
pairs_at token from to ends nested = omega arith

pairs : (from : ℕ) (tokens : List PlacedToken) → 2 * length (nested_behind from tokens) + length (ends_of tokens) ≤ length tokens
pairs from [] = omega arith
pairs from (placed ∷ tokens) =
    omega (arith, pairs_at placed.token from placed.to (ends_of tokens) (nested_behind placed.from tokens), pairs placed.from tokens)

-- ---- a line

-- the bytes that a line with its hidden rules has
abbrev line_bytes : List ℕ → ℕ → ℕ → List Nested → ℕ
line_bytes line origin number nested = length (replaced line (length line) 1 number 0 nested) + rule_bytes line origin number nested

-- what no alternative that is open has goes to the rule itself
whole_line : (line : List ℕ) (number from : ℕ) (ends : List ℕ) (nested : List Nested) → from ≤ length line
    → All (λ (end : ℕ). end ≤ length line) ends
    → length (replaced line (length line) 1 number 0 nested) ≤ length line + open_bytes line number from ends nested
whole_line line number from [] nested inside all = omega (arith, inside, replaced_later line (length line) 1 number from nested)
whole_line line number from (to ∷ []) nested inside all = omega (arith, inside, replaced_later line (length line) 1 number from nested)
whole_line line number from (to ∷ outer ∷ further) nested inside all =
    let end : to ≤ length line = All-head (λ (end : ℕ). end ≤ length line) to (outer ∷ further) all in
    let others = All-tail (λ (end : ℕ). end ≤ length line) to (outer ∷ further) all in
    omega (arith, whole_line line number to (outer ∷ further) nested end others)

ends_inside : (bytes place : ℕ) (tokens : List PlacedToken) → AreInOrder bytes place tokens → All (λ (end : ℕ). end ≤ bytes) (ends_of tokens)
ends_inside bytes place [] order = All-nil (λ (end : ℕ). end ≤ bytes)
ends_inside bytes place (placed ∷ tokens) order =
    step placed.token placed.from placed.to (ends_of tokens) order.1 order.2 (ends_inside bytes placed.from tokens order.3)
  where
    step : (token : Token) (from to : ℕ) (ends : List ℕ) → from < bytes → IsNarrow token from to → All (λ (end : ℕ). end ≤ bytes) ends
        → All (λ (end : ℕ). end ≤ bytes) (ends_at token to ends)
    step OpenBracket from to ends within one all = All-drop (λ (end : ℕ). end ≤ bytes) 1 ends all
    step CloseBracket from to ends within one all = All-cons (λ (end : ℕ). end ≤ bytes) to ends (omega (arith, within, one)) all
    step token from to ends within one all = all

by_tokens : (line : List ℕ) (origin number : ℕ) (tokens : List PlacedToken) → line_tokens line ≡ Ok tokens → number + length line ≤ 9999999
    → line_bytes line origin number (nested_behind 0 tokens) ≤ 2 * length line + 29 * length (nested_behind 0 tokens)
by_tokens line origin number tokens e few =
    let order = tokens_in_order line tokens e in
    let count = pairs 0 tokens in
    let total = few_tokens line tokens e in
    omega (
      arith,
      whole_line line number 0 (ends_of tokens) (nested_behind 0 tokens) (omega arith) (ends_inside (length line) 0 tokens order),
      fits line origin 0 tokens order number 0 (omega arith) (omega arith) (omega (arith, count, total, few)),
    )

-- the same of a header line, and how many alternatives stand as arguments in it
record LineFits (line : List ℕ) (origin number : ℕ) (nested : List Nested) : Type 0 where
  bytes : line_bytes line origin number nested ≤ 2 * length line + 29 * length nested
  few : 2 * length nested ≤ length line

none_fit : (line : List ℕ) (origin number : ℕ) → LineFits line origin number []
none_fit line origin number = record { bytes = omega (arith, slice_size line 0 (length line)); few = omega arith }

line_fits : (line : List ℕ) (origin number : ℕ) → number + length line ≤ 9999999 → LineFits line origin number (nested_in line)
line_fits line origin number h = step (line_tokens line) refl
  where
    rule : (tokens : List PlacedToken) (nested : Bool) → line_tokens line ≡ Ok tokens
        → is_nested_rule (map (λ (placed : PlacedToken). placed.token) tokens) ≡ nested → LineFits line origin number (nested_in line)
    rule tokens true e f =
        let few : 2 * length (nested_behind 0 tokens) ≤ length line = omega (arith, pairs 0 tokens, few_tokens line tokens e) in
        rw (e, f) (record { bytes = by_tokens line origin number tokens e h; few = few })
    rule tokens false e f = rw (e, f) (none_fit line origin number)

    step : (tokens : Result (List PlacedToken) Offence) → line_tokens line ≡ tokens → LineFits line origin number (nested_in line)
    step (Ok tokens) e = rule tokens (is_nested_rule (map (λ (placed : PlacedToken). placed.token) tokens)) e refl
    step (Err offence) e = rw e (none_fit line origin number)

-- ---- texts

-- the bytes of lines with one byte between two
abbrev size_of : List (List ℕ) → ℕ
size_of [] = 0
size_of (line ∷ lines) = length line + 1 + size_of lines

header_fits : (place number : ℕ) (lines : List (List ℕ)) → number + size_of lines ≤ 9999999
    → length (text_of (changed_lines place number lines)) + length (text_of (hidden_lines place number lines)) ≤ 17 * size_of lines
header_fits place number [] h = omega arith
header_fits place number (line ∷ lines) h =
    let nested = nested_in line in
    let own = line_fits line place number (omega (arith, h)) in
    let behind = header_fits (place + 1) (number + length nested) lines (omega (arith, h, own.few)) in
    let changed = changed_line number line in
    let changed_behind = changed_lines (place + 1) (number + length nested) lines in
    let hidden = map (line_of place) (hidden_rules line number nested) in
    let hidden_behind = hidden_lines (place + 1) (number + length nested) lines in
    omega (
      arith,
      own.bytes,
      own.few,
      behind,
      ended_size changed,
      length-append (ended changed) (text_of changed_behind),
      ap length (text_append hidden hidden_behind),
      length-append (text_of hidden) (text_of hidden_behind),
    )

kept_fit : (place : ℕ) (lines : List (List ℕ)) → length (text_of (kept_lines place lines)) ≤ 17 * size_of lines
kept_fit place [] = omega arith
kept_fit place (line ∷ lines) =
    omega (arith, ended_size line, length-append (ended line) (text_of (kept_lines (place + 1) lines)), kept_fit (place + 1) lines)

size_parted : (lines : List (List ℕ)) → size_of (before_words lines) + size_of (from_words lines) ≡ size_of lines
size_parted [] = refl
size_parted (line ∷ lines) = step (is_words_line line) refl (size_parted lines)
  where
    step : (words : Bool) → is_words_line line ≡ words → size_of (before_words lines) + size_of (from_words lines) ≡ size_of lines
        → size_of (before_words (line ∷ lines)) + size_of (from_words (line ∷ lines)) ≡ size_of (line ∷ lines)
    step true e same = rw e (omega arith)
    step false e same = rw e (omega (arith, same))

stripped_size : (line : List ℕ) → length (strip_carriage_return line) ≤ length line
stripped_size line = step (slice_index line (length line - 1) == 13) refl
  where
    step : (ends : Bool) → (slice_index line (length line - 1) == 13) ≡ ends → length (strip_carriage_return line) ≤ length line
    step true e = rw e (omega (arith, length-take (length line - 1) line))
    step false e = rw e (omega arith)

onto_size : (byte : ℕ) (parts : List (List ℕ)) → 0 < size_of parts → size_of (onto_first byte parts) ≡ size_of parts + 1
onto_size byte [] h = absurd (omega (arith, h))
onto_size byte (part ∷ parts) h = omega arith

parts_size : (text : List ℕ) → size_of (slice_split is_newline text) ≡ length text + 1
parts_size [] = refl
parts_size (byte ∷ text) = step (is_newline byte) refl (parts_size text)
  where
    step : (ends : Bool) → is_newline byte ≡ ends → size_of (slice_split is_newline text) ≡ length text + 1
        → size_of (slice_split is_newline (byte ∷ text)) ≡ length (byte ∷ text) + 1
    step true e same = rw e (omega (arith, same))
    step false e same = rw e (omega (arith, same, onto_size byte (slice_split is_newline text) (omega (arith, same))))

of_parts_size : (parts : List (List ℕ)) → size_of (lines_of_parts parts) ≤ size_of parts
of_parts_size [] = omega arith
of_parts_size (part ∷ []) = step (length part == 0) refl
  where
    step : (none : Bool) → (length part == 0) ≡ none → size_of (lines_of_parts (part ∷ [])) ≤ size_of (part ∷ [])
    step true e = rw e (omega arith)
    step false e = rw e (omega arith)
of_parts_size (part ∷ second ∷ parts) = omega (arith, stripped_size part, of_parts_size (second ∷ parts))

lines_size : (text : List ℕ) → size_of (job_lines text) ≤ length text + 1
lines_size text = omega (arith, parts_size text, of_parts_size (slice_split is_newline text))

-- the plain text of a text whose bytes behind line 1 are these
pub plain_size : (bytes : List ℕ) → length bytes ≤ 4194304 → length (text_of (plain_behind (job_lines bytes))) ≤ 17 * length bytes + 23
plain_size bytes h =
    let lines = job_lines bytes in
    let size = lines_size bytes in
    let first = line_of 1 (codes "adp 2") in
    let changed = changed_lines 2 1 (before_words lines) in
    let hidden = hidden_lines 2 1 (before_words lines) in
    let kept = kept_lines (2 + length (before_words lines)) (from_words lines) in
    let parted = size_parted lines in
    omega (
      arith,
      size,
      parted,
      header_fits 2 1 (before_words lines) (omega (arith, h, size, parted)),
      kept_fit (2 + length (before_words lines)) (from_words lines),
      ap length (text_append (first ∷ changed ++ hidden) kept),
      length-append (text_of (first ∷ changed ++ hidden)) (text_of kept),
      ap length (text_append (first ∷ changed) hidden),
      length-append (text_of (first ∷ changed)) (text_of hidden),
      length-append (ended first.bytes) (text_of changed),
    )
