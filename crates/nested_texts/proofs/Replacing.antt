-- A line with hidden names, alternative by alternative.
use Rattle.std.proofs.Common.{◌≡◌, ℕ, zero, suc, ◌+◌, ◌<◌, ◌≤◌, ◌==◌, nat_lt, Bool, true, false, List, [], ◌∷◌, ◌++◌, length, map, take, drop, refl, sym, ap, ◌∙◌, append_assoc, arith}
use Rattle.std.specs.List.{All, slice_range}
use Rattle.std.proofs.lemmas.List.Elements.{All-head, All-tail, All-weaker}
use Rattle.std.proofs.lemmas.Bool.Decides.{nat_tests}
use Rattle.nested_texts.specs.declared.nested.Nested.{Nested}
use Rattle.nested_texts.specs.NestedRules as rules
use Rattle.nested_texts.specs.PlainTexts.{replaced}
use Rattle.nested_texts.specs.Seen.{from_behind, nested_seen, piece_before, AreInside, IsBehind}

-- the first one, which isn't behind all
pub first_replaced : (line : List ℕ) (to depth number from : ℕ) (nested : rules.Nested) (others : List rules.Nested) → depth ≤ nested.depth
    → replaced line to depth number from (nested ∷ others)
    ≡ piece_before line depth number from nested ++ replaced line to depth (number + 1) (from_behind depth from nested) others
first_replaced line to depth number from nested others h = step (nested.depth == depth) refl
  where
    step : (same : Bool) → (nested.depth == depth) ≡ same
        → replaced line to depth number from (nested ∷ others)
        ≡ piece_before line depth number from nested ++ replaced line to depth (number + 1) (from_behind depth from nested) others
    step true e = rw e (simp append_assoc)
    step false e =
        let deeper : nat_lt depth nested.depth ≡ true = grind (arith, nat_tests) in
        rw (e, deeper) refl

-- one that is behind all
pub none_replaced : (line : List ℕ) (to depth number from : ℕ) (nested : rules.Nested) (others : List rules.Nested) → nested.depth < depth
    → replaced line to depth number from (nested ∷ others) ≡ slice_range line from to
none_replaced line to depth number from nested others h =
    let other : (nested.depth == depth) ≡ false = grind (arith, nat_tests) in
    let less : nat_lt depth nested.depth ≡ false = grind (arith, nat_tests) in
    rw (other, less) refl

-- those that lie deeper have no names of their own
pub deeper_skipped : (line : List ℕ) (to depth number from count : ℕ) (nested : List Nested) → count ≤ length nested
    → All (λ (other : Nested). depth < other.depth) (take count nested)
    → replaced line to depth number from (map nested_seen nested) ≡ replaced line to depth (number + count) from (map nested_seen (drop count nested))
deeper_skipped line to depth number from zero nested h deeper =
    let same : number + 0 ≡ number = omega arith in rw same refl
deeper_skipped line to depth number from (suc count) [] h deeper = absurd (omega arith)
deeper_skipped line to depth number from (suc count) (nested ∷ others) h deeper =
    let is_deeper : depth < nested.depth = All-head (λ (other : Nested). depth < other.depth) nested (take count others) deeper in
    let other : (nested.depth == depth) ≡ false = grind (arith, nat_tests) in
    let more : nat_lt depth nested.depth ≡ true = grind (arith, nat_tests) in
    let rest = deeper_skipped line to depth (number + 1) from count others (omega arith)
    (All-tail (λ (other : Nested). depth < other.depth) nested (take count others) deeper) in
    let same : number + 1 + count ≡ number + suc count = omega arith in
    rw (other, more) (rest ∙ rw same refl)

-- one step further
pub replaced_step : (line : List ℕ) (to around number from behind next : ℕ) (first : Nested) (others : List Nested) (out after all : List ℕ)
    → around < first.depth → first.inside ≤ length others → All (λ (other : Nested). first.depth < other.depth) (take first.inside others)
    → after ≡ out ++ piece_before line (around + 1) number from (nested_seen first) → behind ≡ from_behind (around + 1) from (nested_seen first)
    → next ≡ number + 1 + first.inside
    → out ++ replaced line to (around + 1) number from (map nested_seen (first ∷ others)) ≡ all
    → after ++ replaced line to (around + 1) next behind (map nested_seen (drop first.inside others)) ≡ all
replaced_step line to around number from behind next first others out after all deep inside deeper after_is behind_is next_is seen =
    let rest = All-weaker (λ (other : Nested). first.depth < other.depth) (λ (other : Nested). around + 1 < other.depth) (λ other h. omega arith) (take first.inside others) deeper in
    let skip = deeper_skipped line to (around + 1) (number + 1) behind first.inside others inside rest in
    let front = first_replaced line to (around + 1) number from (nested_seen first) (map nested_seen others) (omega arith) in
    let named = ap (λ (place : ℕ). replaced line to (around + 1) (number + 1) place (map nested_seen others)) behind_is in
    let joined = ap (λ (those : List ℕ). piece_before line (around + 1) number from (nested_seen first) ++ those) (sym skip ∙ named) in
    rw (after_is, next_is)
    (append_assoc out (piece_before line (around + 1) number from (nested_seen first)) _
    ∙ ap (λ (those : List ℕ). out ++ those) (joined ∙ sym front) ∙ seen)

-- the end
pub replaced_end : (line : List ℕ) (to around number from : ℕ) (nested : List Nested) → IsBehind around nested
    → replaced line to (around + 1) number from (map nested_seen nested) ≡ slice_range line from to
replaced_end line to around number from [] behind = refl
replaced_end line to around number from (nested ∷ others) behind =
    none_replaced line to (around + 1) number from (nested_seen nested) (map nested_seen others) (omega arith)

pub inside_behind : (count : ℕ) (nested : List Nested) → AreInside nested → AreInside (drop count nested)
inside_behind zero nested inside = inside
inside_behind (suc count) [] inside = tt
inside_behind (suc count) (nested ∷ others) inside = inside_behind count others inside.2

-- where the bytes go on lies in the line
pub behind_within : (line : List ℕ) (depth from : ℕ) (nested : rules.Nested) → from ≤ length line → nested.to ≤ length line
    → from_behind depth from nested ≤ length line
behind_within line depth from nested begins ends = step (nested.depth == depth) refl
  where
    step : (same : Bool) → (nested.depth == depth) ≡ same → from_behind depth from nested ≤ length line
    step true e = rw e ends
    step false e = rw e begins
