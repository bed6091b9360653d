-- How many cells are left to a rule: what is counted from start to start, added up.
use Rattle.std.proofs.Common.{◌≡◌, ◌↔◌, ℕ, zero, suc, ◌+◌, ◌-◌, ◌*◌, ◌/◌, ◌<◌, ◌≤◌, ◌⊎◌, inl, inr, ⊎_elim, min, max, true, false, IfSome, refl, sym, ap, subst, ◌∙◌, arith}
use Rattle.std.proofs.lemmas.Bool.{false≢true}
use Rattle.cell_layouts.specs.declared.cells.RuleBounds.{RuleBounds}
use Rattle.adp_model.specs.declared.grammar.Grammar.{Grammar}
use Rattle.adp_model.specs.Cells.{AreCountedEnds, IsPlaceOf}
use Rattle.cell_layouts.specs.CountedCells.{LeavesSpan}
use Rattle.cell_layouts.specs.Layout.{AreBoundsOf}

-- what is counted up to a start goes on to the next one by as many spans as are left from there
abbrev pub GoesOn : RuleBounds → ℕ → (ℕ → ℕ → Type 0) → Type 0
GoesOn bounds len Counts =
    (from first past count : ℕ) → from ≤ len → first ≤ past
    → ((to : ℕ) → LeavesSpan bounds len from to ↔ ((first ≤ to) × (to < past)))
    → Counts from count → Counts (from + 1) (count + (past - first))

-- the sum of the numbers below
pub triangle : ℕ → ℕ
triangle zero = 0
triangle (suc n) = n + triangle n

-- the same as one product
next_triangle : (n : ℕ) → triangle (suc n) ≡ n + triangle n
unfolding triangle
next_triangle n = refl

no_triangle : triangle 0 ≡ 0
unfolding triangle
no_triangle = refl

doubled : (n : ℕ) → 2 * triangle n ≡ n * (n - 1) → 2 * triangle (suc n) ≡ suc n * (suc n - 1)
doubled zero half = omega (arith, next_triangle 0, no_triangle)
doubled (suc m) half =
    let same : suc m * (suc m - 1) ≡ suc m * m = ap (λ k. suc m * k) (let less : suc m - 1 ≡ m = omega arith in less) in
    let same' : suc (suc m) * (suc (suc m) - 1) ≡ suc (suc m) * suc m = ap (λ k. suc (suc m) * k) (let less : suc (suc m) - 1 ≡ suc m = omega arith in less) in
    omega (arith, half, same, same', next_triangle (suc m))

triangle_twice : (n : ℕ) → 2 * triangle n ≡ n * (n - 1)
triangle_twice zero = omega (arith, no_triangle)
triangle_twice (suc n) = doubled n (triangle_twice n)

at_most_or_more : (a b : ℕ) → (a ≤ b) ⊎ (b < a)
at_most_or_more zero b = inl (omega arith)
at_most_or_more (suc a) zero = inr (omega arith)
at_most_or_more (suc a) (suc b) = ⊎_elim (λ few. inl (omega (arith, few))) (λ more. inr (omega (arith, more))) (at_most_or_more a b)

small_triangle : (n : ℕ) → n ≤ 1 → triangle n ≡ 0
small_triangle zero few = no_triangle
small_triangle (suc zero) few = omega (arith, next_triangle 0, no_triangle)
small_triangle (suc (suc n)) few = absurd (let none : ⊥ = omega (arith, few) in none)

-- how many spans of lengths from `least` to `longest` lie within so many letters
abbrev pub spans_within : ℕ → ℕ → ℕ → ℕ
spans_within least longest room = (min longest room + 1 - least) * (room + 1 - min longest room) + triangle (min longest room + 1 - least)

first_spans : (least longest : ℕ) → spans_within least longest 0 ≡ min longest 0 + 1 - least
first_spans least longest =
    let w : ℕ = min longest 0 + 1 - least in
    let d : ℕ = 0 + 1 - min longest 0 in
    let one : d ≡ 1 = omega arith in
    let none : triangle w ≡ 0 = small_triangle w (omega arith) in
    let all : w * d + triangle w ≡ w = subst (λ n. w * n + triangle w ≡ w) (sym one) (omega (arith, none)) in
    all

grown_triangle : (w w' : ℕ) → w' ≡ suc w ⊎ ((w ≡ 0) × (w' ≡ 0)) → w' * 1 + triangle w' ≡ w' + (w * 1 + triangle w)
grown_triangle w w' = ⊎_elim
    (λ e. subst (λ n. n * 1 + triangle n ≡ n + (w * 1 + triangle w)) (sym e) (let grown : suc w * 1 + triangle (suc w) ≡ suc w + (w * 1 + triangle w) = omega (arith, next_triangle w) in grown))
    (λ both. subst (λ n. n * 1 + triangle n ≡ n + (w * 1 + triangle w)) (sym both.1) (subst (λ n. 0 * 1 + triangle 0 ≡ 0 + (n * 1 + triangle n)) (sym both.0) (omega arith)))

more_spans : (least longest room : ℕ) → spans_within least longest (suc room) ≡ (min longest (suc room) + 1 - least) + spans_within least longest room
more_spans least longest room =
    ⊎_elim longer shorter (at_most_or_more longest room)
  where
    w : ℕ
    w = min longest room + 1 - least

    w' : ℕ
    w' = min longest (suc room) + 1 - least

    longer : longest ≤ room → spans_within least longest (suc room) ≡ w' + spans_within least longest room
    longer few =
        let same : w' ≡ w = omega (arith, few) in
        let d : ℕ = room + 1 - min longest room in
        let next : suc room + 1 - min longest (suc room) ≡ d + 1 = omega (arith, few) in
        let all : w * (d + 1) + triangle w ≡ w + (w * d + triangle w) = omega arith in
        subst (λ n. n * (suc room + 1 - min longest (suc room)) + triangle n ≡ n + (w * d + triangle w)) (sym same)
        (subst (λ n. w * n + triangle w ≡ w + (w * d + triangle w)) (sym next) all)

    shorter : room < longest → spans_within least longest (suc room) ≡ w' + spans_within least longest room
    shorter more =
        let one : room + 1 - min longest room ≡ 1 = omega (arith, more) in
        let one' : suc room + 1 - min longest (suc room) ≡ 1 = omega (arith, more) in
        let grows : w' ≡ suc w ⊎ ((w ≡ 0) × (w' ≡ 0)) = ⊎_elim
        (λ few. inl (omega (arith, few, more)))
        (λ many. inr (omega (arith, many, more), omega (arith, many, more)))
        (at_most_or_more least (suc room)) in
        subst (λ n. w' * n + triangle w' ≡ w' + (w * (room + 1 - min longest room) + triangle w)) (sym one')
        (subst (λ n. w' * 1 + triangle w' ≡ w' + (w * n + triangle w)) (sym one) (grown_triangle w w' grows))

module _ (bounds : RuleBounds) (len : ℕ) (Counts : ℕ → ℕ → Type 0) (goes_on : GoesOn bounds len Counts) where
  counts_same : (from from' k k' : ℕ) → from ≡ from' → k ≡ k' → Counts from k → Counts from' k'
  counts_same from from' k k' e f counts = subst (λ n. Counts from' n) f (subst (λ n. Counts n k) e counts)

  -- from one start on, where so many spans are left from each start, by the letters behind it
  counted_down : (low : ℕ) (size total : ℕ → ℕ) → total 0 ≡ size 0 → ((room : ℕ) → total (suc room) ≡ size (suc room) + total room)
      → ((from room k : ℕ) → low ≤ from → from + room ≡ len → Counts from k → Counts (from + 1) (k + size room))
      → (room from k : ℕ) → low ≤ from → from + room ≡ len → Counts from k → Counts (len + 1) (k + total room)
  counted_down low size total last more step zero from k above e counts =
      counts_same (from + 1) (len + 1) (k + size 0) (k + total 0) (omega (arith, e)) (ap (λ n. k + n) (sym last)) (step from 0 k above e counts)
  counted_down low size total last more step (suc room) from k above e counts =
      let behind : from + 1 + room ≡ len = omega (arith, e) in
      let above' : low ≤ from + 1 = omega (arith, above) in
      let all = counted_down low size total last more step room (from + 1) (k + size (suc room)) above' behind (step from (suc room) k above e counts) in
      counts_same (len + 1) (len + 1) (k + size (suc room) + total room) (k + total (suc room)) refl (omega (arith, more room)) all

  module _ (longest : ℕ) (told : (letters : ℕ) → letters ≤ len → IfSome bounds.greatest (λ most. letters ≤ most) ↔ (letters ≤ longest)) (in_word : longest ≤ len) where
    -- from each start to all ends, where the rule has no anchor
    free_step : bounds.left ≡ false → bounds.right ≡ false → (from room k : ℕ) → 0 ≤ from → from + room ≡ len → Counts from k
        → Counts (from + 1) (k + (min longest room + 1 - bounds.least))
    free_step not_left not_right from room k _ e counts =
        let first : ℕ = from + bounds.least in
        let past : ℕ = max (from + bounds.least) (from + min longest room + 1) in
        let ends : (to : ℕ) → LeavesSpan bounds len from to ↔ ((first ≤ to) × (to < past)) = λ to. (
          λ span. (
              let few : to - from ≤ longest = (told (to - from) (omega (arith, span.in_word))).0 span.short in
              (omega (arith, span.in_order, span.long), omega (arith, span.in_order, span.in_word, span.long, few, e))
              ),
          λ within. record {
            in_order = omega (arith, within.0);
            in_word = omega (arith, within.0, within.1, e);
            long = omega (arith, within.0);
            short = (told (to - from) (omega (arith, within.0, within.1, e))).1 (omega (arith, within.0, within.1, e));
            left = λ flag. absurd (false≢true (sym not_left ∙ flag));
            right = λ flag. absurd (false≢true (sym not_right ∙ flag));
          },
        ) in
        counts_same (from + 1) (from + 1) (k + (past - first)) (k + (min longest room + 1 - bounds.least)) refl (omega arith)
        (goes_on from first past k (omega (arith, e)) (omega arith) ends counts)

    -- from each start to the last end, where the rule is anchored on the right
    right_step : bounds.left ≡ false → bounds.right ≡ true → (from room k : ℕ) → 0 ≤ from → from + room ≡ len → Counts from k
        → Counts (from + 1) (k + (min longest room + 1 - max bounds.least room))
    right_step not_left right from room k _ e counts =
        let past : ℕ = len + (min longest room + 1 - max bounds.least room) in
        let ends : (to : ℕ) → LeavesSpan bounds len from to ↔ ((len ≤ to) × (to < past)) = λ to. (
          λ span. (
              let at : to ≡ len = span.right right in
              let few : to - from ≤ longest = (told (to - from) (omega (arith, span.in_word))).0 span.short in
              (omega (arith, at), omega (arith, at, span.long, few, e))
              ),
          λ within. record {
            in_order = omega (arith, within.0, within.1, e);
            in_word = omega (arith, within.0, within.1, e);
            long = omega (arith, within.0, within.1, e);
            short = (told (to - from) (omega (arith, within.0, within.1, e))).1 (omega (arith, within.0, within.1, e));
            left = λ flag. absurd (false≢true (sym not_left ∙ flag));
            right = λ flag. omega (arith, within.0, within.1, e);
          },
        ) in
        counts_same (from + 1) (from + 1) (k + (past - len)) (k + (min longest room + 1 - max bounds.least room)) refl (omega arith)
        (goes_on from len past k (omega (arith, e)) (omega arith) ends counts)

    -- from no start but the first one, where the rule is anchored on the left
    left_step : bounds.left ≡ true → (from room k : ℕ) → 1 ≤ from → from + room ≡ len → Counts from k → Counts (from + 1) (k + 0)
    left_step left from room k above e counts =
        let ends : (to : ℕ) → LeavesSpan bounds len from to ↔ ((from ≤ to) × (to < from)) = λ to. (
          λ span. absurd (let none : ⊥ = omega (arith, above, span.left left) in none),
          λ within. absurd (let none : ⊥ = omega (arith, within.0, within.1) in none),
        ) in
        counts_same (from + 1) (from + 1) (k + (from - from)) (k + 0) refl (omega arith) (goes_on from from from k (omega (arith, e)) (omega arith) ends counts)

    none_behind : bounds.left ≡ true → (k : ℕ) → Counts 1 k → Counts (len + 1) k
    none_behind left k counts =
        by len refl counts
      where
        by : (letters : ℕ) → letters ≡ len → Counts 1 k → Counts (len + 1) k
        by zero e counts = counts_same 1 (len + 1) k k (omega (arith, e)) refl counts
        by (suc room) e counts =
            counts_same (len + 1) (len + 1) (k + 0) k refl (omega arith) (counted_down 1 (λ _. 0) (λ _. 0) refl (λ _. refl) (left_step left) room 1 k (omega arith) (omega (arith, e)) counts)

    -- all spans that are left, by the rule's anchors
    pub free_counted : bounds.left ≡ false → bounds.right ≡ false → (k : ℕ) → Counts 0 k
        → Counts (len + 1) (k + spans_within bounds.least longest len)
    free_counted not_left not_right k counts =
        counted_down 0 (λ room. min longest room + 1 - bounds.least) (spans_within bounds.least longest) (first_spans bounds.least longest) (more_spans bounds.least longest)
        (free_step not_left not_right) len 0 k (omega arith) (omega arith) counts

    pub right_counted : bounds.left ≡ false → bounds.right ≡ true → (k : ℕ) → Counts 0 k
        → Counts (len + 1) (k + (longest + 1 - bounds.least))
    right_counted not_left right k counts =
        counts_same (len + 1) (len + 1) (k + (min longest len + 1 - bounds.least)) (k + (longest + 1 - bounds.least)) refl (omega (arith, in_word))
        (counted_down 0 (λ room. min longest room + 1 - max bounds.least room) (λ room. min longest room + 1 - bounds.least) (omega arith) (λ room. omega arith)
        (right_step not_left right) len 0 k (omega arith) (omega arith) counts)

    pub left_counted : bounds.left ≡ true → bounds.right ≡ false → (k : ℕ) → Counts 0 k
        → Counts (len + 1) (k + (longest + 1 - bounds.least))
    left_counted left not_right k counts =
        let first : ℕ = bounds.least in
        let past : ℕ = max bounds.least (longest + 1) in
        let ends : (to : ℕ) → LeavesSpan bounds len 0 to ↔ ((first ≤ to) × (to < past)) = λ to. (
          λ span. (
              let few : to - 0 ≤ longest = (told (to - 0) (omega (arith, span.in_word))).0 span.short in
              (omega (arith, span.long), omega (arith, few))
              ),
          λ within. record {
            in_order = omega arith;
            in_word = omega (arith, within.0, within.1, in_word);
            long = omega (arith, within.0);
            short = (told (to - 0) (omega (arith, within.0, within.1, in_word))).1 (omega (arith, within.0, within.1));
            left = λ flag. refl;
            right = λ flag. absurd (false≢true (sym not_right ∙ flag));
          },
        ) in
        counts_same (len + 1) (len + 1) (k + (past - first)) (k + (longest + 1 - bounds.least)) refl (omega arith)
        (none_behind left (k + (past - first)) (counts_same (0 + 1) 1 (k + (past - first)) (k + (past - first)) refl refl
        (goes_on 0 first past k (omega arith) (omega arith) ends counts)))

    pub whole_counted : bounds.left ≡ true → bounds.right ≡ true → (k : ℕ) → Counts 0 k
        → Counts (len + 1) (k + (longest + 1 - max bounds.least len))
    whole_counted left right k counts =
        let past : ℕ = len + (longest + 1 - max bounds.least len) in
        let ends : (to : ℕ) → LeavesSpan bounds len 0 to ↔ ((len ≤ to) × (to < past)) = λ to. (
          λ span. (
              let at : to ≡ len = span.right right in
              let few : to - 0 ≤ longest = (told (to - 0) (omega (arith, span.in_word))).0 span.short in
              (omega (arith, at), omega (arith, at, span.long, few))
              ),
          λ within. record {
            in_order = omega arith;
            in_word = omega (arith, within.0, within.1, in_word);
            long = omega (arith, within.0, within.1, in_word);
            short = (told (to - 0) (omega (arith, within.0, within.1, in_word))).1 (omega (arith, within.0, within.1, in_word));
            left = λ flag. refl;
            right = λ flag. omega (arith, within.0, within.1, in_word);
          },
        ) in
        counts_same (len + 1) (len + 1) (k + (past - len)) (k + (longest + 1 - max bounds.least len)) refl (omega arith)
        (none_behind left (k + (past - len)) (goes_on 0 len past k (omega arith) (omega arith) ends counts))

-- the spans of all lengths, as one number
pub spans_are : (least longest len : ℕ) → longest ≤ len
    → spans_within least longest len ≡ (longest + 1 - least) * (len + 1 - longest) + (longest + 1 - least) * (longest + 1 - least - 1) / 2
spans_are least longest len in_word =
    let w : ℕ = longest + 1 - least in
    let whole : min longest len ≡ longest = omega (arith, in_word) in
    let triangle_is : triangle w ≡ w * (w - 1) / 2 = omega (arith, triangle_twice w) in
    let half : w * (len + 1 - longest) + triangle w ≡ w * (len + 1 - longest) + w * (w - 1) / 2 =
    ap (λ n. w * (len + 1 - longest) + n) triangle_is in
    subst (λ m. (m + 1 - least) * (len + 1 - m) + triangle (m + 1 - least) ≡ w * (len + 1 - longest) + w * (w - 1) / 2) (sym whole) half

-- ---- of a grammar's rule

-- where its bounds leave a rule the spans of its counted cells, its places go on from start to start
pub places_on : (grammar : Grammar) (len rule : ℕ) (bounds : RuleBounds) → AreBoundsOf grammar len rule bounds
    → ((from first past k : ℕ) → AreCountedEnds grammar len rule from first past → first ≤ past
    → IsPlaceOf grammar len (record { rule = rule; from = from; to = 0 }) k
    → IsPlaceOf grammar len (record { rule = rule; from = from + 1; to = 0 }) (k + (past - first)))
    → GoesOn bounds len (λ from k. IsPlaceOf grammar len (record { rule = rule; from = from; to = 0 }) k)
places_on grammar len rule bounds are on from first past k within order ends =
    on from first past k (λ to. (λ counted. (ends to).0 ((are from to).0 counted), λ range. (are from to).1 ((ends to).1 range))) order
