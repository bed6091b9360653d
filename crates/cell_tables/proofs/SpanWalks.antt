-- The last of the spans from a start that are marked, and the first of those from several starts, 64 ends at a time.
use Rattle.std.proofs.Common.{◌≡◌, ◌↔◌, ℕ, ◌+◌, ◌*◌, ◌/◌, ◌<◌, ◌≤◌, List, length, ap, subst, inl, inr, arith}
use Rattle.std.specs.Prelude.{IsSome, is_some, bit_and, bit_or}
use Rattle.std.specs.List.{Contains}
use Rattle.std.proofs.lemmas.Bool.{cases_lt}
use Rattle.cell_tables.specs.Spans.{value_at}
use Rattle.cell_tables.specs.Bits.{IsBitIn}
use Rattle.cell_tables.specs.Marks.{CellMarks, AreMarks, IsEndMarked, IsLastMarked, IsNextMarked, IsSpanMarked}
use Rattle.cell_tables.proofs.SetBits.{both_bits, either_bits, no_bit}

-- a marked span is one of a counted cell
pub span_counted : (marks : CellMarks) (rules : List ℕ) (from to : ℕ) → AreMarks marks → IsSpanMarked marks rules from to → (from ≤ to) × (to ≤ length marks.problem.word)
span_counted marks rules from to are (rule, there, row) =
    let counted = are.counted (record { rule = rule; from = from; to = to }) (inl row) in
    (counted.in_order, counted.in_word)

module _ (marks : CellMarks) (rules : List ℕ) (from number any mask : ℕ) (are : (to : ℕ) → IsBitIn any number to ↔ ((to / 64 ≡ number) × IsSpanMarked marks rules from to)) where
  module _ (below : ℕ) (before : (to : ℕ) → IsBitIn mask number to ↔ ((to / 64 ≡ number) × (to < below))) (past : ℕ) (next : past ≡ number + 1) (none_behind : (to : ℕ) → 64 * past ≤ to → to < below → IsSpanMarked marks rules from to → ⊥) where
    bit_before : (to : ℕ) → to / 64 ≡ number → to < below → IsSpanMarked marks rules from to → IsBitIn (bit_and any mask) number to
    bit_before to here low marked = (both_bits any mask number to).1 ((are to).1 (here, marked), (before to).1 (here, low))

    pub last_found : (last : ℕ) → IsBitIn (bit_and any mask) number last → ((to : ℕ) → IsBitIn (bit_and any mask) number to → to ≤ last) → IsLastMarked marks rules from below last
    last_found last set greatest =
        let both = (both_bits any mask number last).0 set in
        record {
          before = ((before last).0 both.1).1;
          marked = ((are last).0 both.0).1;
          last = λ to behind low marked.
              elim (cases_lt to (64 * past)) [
                | inl within ↦
                    let here : to / 64 ≡ number = omega (arith, both.0.number_is) in
                    omega (arith, greatest to (bit_before to here low marked))
                | inr high ↦ none_behind to high low marked
              ];
        }

    pub none_from_here : ((to : ℕ) → IsBitIn (bit_and any mask) number to → ⊥) → (to : ℕ) → 64 * number ≤ to → to < below → IsSpanMarked marks rules from to → ⊥
    none_from_here none to high low marked =
        elim (cases_lt to (64 * past)) [
          | inl within ↦ none to (bit_before to (omega arith) low marked)
          | inr behind ↦ none_behind to behind low marked
        ]

module _ (marks : CellMarks) (rules : List ℕ) (first number : ℕ) where
  -- the bits tell the ends at which a span is marked, of those that begin before this start
  abbrev pub AreEndsMarked : ℕ → ℕ → Type 0
  AreEndsMarked past bits = (to : ℕ) → IsBitIn bits number to ↔ ((to / 64 ≡ number) × IsEndMarked marks rules first past to)

  pub no_start : AreEndsMarked first 0
  no_start to = (λ bit. absurd (no_bit number to bit), λ (same, is). absurd (omega (arith, is.from_first, is.before)))

  pub one_more_start : (from bits more : ℕ) → first ≤ from → AreEndsMarked from bits → ((to : ℕ) → IsBitIn more number to ↔ ((to / 64 ≡ number) × IsSpanMarked marks rules from to)) → AreEndsMarked (from + 1) (bit_or bits more)
  one_more_start from bits more within before here to =
      let both = either_bits bits more number to in (
        λ bit. elim (both.0 bit) [
          | inl was ↦ let (same, is) = (before to).0 was in (same, record { from = is.from; from_first = is.from_first; before = omega (arith, is.before); marked = is.marked })
          | inr now ↦ let (same, is) = (here to).0 now in (same, record { from = from; from_first = within; before = omega arith; marked = is })
        ],
        λ (same, is). both.1 (elim (cases_lt is.from from) [
          | inl early ↦ inl ((before to).1 (same, record { from = is.from; from_first = is.from_first; before = early; marked = is.marked }))
          | inr late ↦
              let e : is.from ≡ from = omega (arith, is.before) in
              inr ((here to).1 (same, subst (λ start. IsSpanMarked marks rules start to) e is.marked))
        ]),
      )

  pub all_starts : (past from bits : ℕ) → past ≤ from → (first ≤ past → from ≤ past) → (past < first → from ≤ first) → AreEndsMarked from bits → AreEndsMarked past bits
  all_starts past from bits high within none told to = (
    λ bit.
        let (same, is) = (told to).0 bit in
        let before : is.from < past = elim (cases_lt past first) [
          | inl empty ↦ absurd (omega (arith, is.before, is.from_first, none empty))
          | inr some ↦ omega (arith, is.before, within some)
        ] in
        (same, record { from = is.from; from_first = is.from_first; before = before; marked = is.marked }),
    λ (same, is). (told to).1 (same, record { from = is.from; from_first = is.from_first; before = omega (arith, is.before); marked = is.marked }),
  )

module _ (marks : CellMarks) (rules : List ℕ) (first past number any mask : ℕ) (are : (to : ℕ) → IsBitIn any number to ↔ ((to / 64 ≡ number) × IsEndMarked marks rules first past to)) (least : ℕ) (behind : (to : ℕ) → IsBitIn mask number to ↔ ((to / 64 ≡ number) × (least ≤ to))) (none_before : (to : ℕ) → least ≤ to → to < 64 * number → IsEndMarked marks rules first past to → ⊥) where
  bit_behind : (to : ℕ) → to / 64 ≡ number → least ≤ to → IsEndMarked marks rules first past to → IsBitIn (bit_and any mask) number to
  bit_behind to here high marked = (both_bits any mask number to).1 ((are to).1 (here, marked), (behind to).1 (here, high))

  pub next_found : (next : ℕ) → IsBitIn (bit_and any mask) number next → ((to : ℕ) → IsBitIn (bit_and any mask) number to → next ≤ to) → IsNextMarked marks rules first past least next
  next_found next set smallest =
      let both = (both_bits any mask number next).0 set in
      record {
        behind = ((behind next).0 both.1).1;
        marked = ((are next).0 both.0).1;
        none_before = λ to high low marked.
            elim (cases_lt to (64 * number)) [
              | inl early ↦ none_before to high early marked
              | inr within ↦
                  let here : to / 64 ≡ number = omega (arith, both.0.number_is) in
                  omega (arith, smallest to (bit_behind to here high marked))
            ];
      }

  pub none_up_to_here : ((to : ℕ) → IsBitIn (bit_and any mask) number to → ⊥) → (to : ℕ) → least ≤ to → to < 64 * (number + 1) → IsEndMarked marks rules first past to → ⊥
  none_up_to_here none to high low marked =
      elim (cases_lt to (64 * number)) [
        | inl early ↦ none_before to high early marked
        | inr within ↦ none to (bit_behind to (omega arith) high marked)
      ]

-- a marked span has its number of 64 ends
pub span_there : (marks : CellMarks) (rules : List ℕ) (from low high : ℕ) → ((rule number : ℕ) → Contains rules rule → IsSome (value_at marks.rows rule from number) → (low ≤ number) × (number < high))
    → (to : ℕ) → IsSpanMarked marks rules from to → (low ≤ to / 64) × (to / 64 < high)
span_there marks rules from low high within to (rule, known, row) = within rule (to / 64) known (ap is_some row.there)

-- ---- without a mask

module _ (marks : CellMarks) (rules : List ℕ) (from number any past next : ℕ) (are : (to : ℕ) → IsBitIn any number to ↔ ((to / 64 ≡ number) × IsSpanMarked marks rules from to)) (next_is : next ≡ number + 1) (early : number < past)
    (none_behind : (to : ℕ) → 64 * next ≤ to → to < 64 * past → IsSpanMarked marks rules from to → ⊥) where
  pub last_among : (last : ℕ) → IsBitIn any number last → ((to : ℕ) → IsBitIn any number to → to ≤ last) → IsLastMarked marks rules from (64 * past) last
  last_among last set greatest = record {
    before = omega (arith, set.number_is);
    marked = ((are last).0 set).1;
    last = λ to behind low marked.
        elim (cases_lt to (64 * next)) [
          | inl within ↦
              let here : to / 64 ≡ number = omega (arith, set.number_is) in
              omega (arith, greatest to ((are to).1 (here, marked)))
          | inr high ↦ none_behind to high low marked
        ];
  }

  pub none_among : ((to : ℕ) → IsBitIn any number to → ⊥) → (to : ℕ) → 64 * number ≤ to → to < 64 * past → IsSpanMarked marks rules from to → ⊥
  none_among none to high low marked =
      elim (cases_lt to (64 * next)) [
        | inl within ↦ none to ((are to).1 (omega arith, marked))
        | inr behind ↦ none_behind to behind low marked
      ]

-- the last one before a number is the last one before an end of that number, where that has none
pub last_earlier : (marks : CellMarks) (rules : List ℕ) (from number below : ℕ) → 64 * number ≤ below → ((to : ℕ) → 64 * number ≤ to → to < below → IsSpanMarked marks rules from to → ⊥) → (last : ℕ) → IsLastMarked marks rules from (64 * number) last → IsLastMarked marks rules from below last
last_earlier marks rules from number below within none last is = record {
  before = omega (arith, is.before);
  marked = is.marked;
  last = λ to behind low marked.
      elim (cases_lt to (64 * number)) [
        | inl early ↦ is.last to behind early marked
        | inr here ↦ none to here low marked
      ];
}

module _ (marks : CellMarks) (rules : List ℕ) (first past number any least : ℕ) (are : (to : ℕ) → IsBitIn any number to ↔ ((to / 64 ≡ number) × IsEndMarked marks rules first past to)) (behind : least ≤ number)
    (none_before : (to : ℕ) → 64 * least ≤ to → to < 64 * number → IsEndMarked marks rules first past to → ⊥) where
  pub next_among : (next : ℕ) → IsBitIn any number next → ((to : ℕ) → IsBitIn any number to → next ≤ to) → IsNextMarked marks rules first past (64 * least) next
  next_among next set smallest = record {
    behind = omega (arith, set.number_is);
    marked = ((are next).0 set).1;
    none_before = λ to high low marked.
        elim (cases_lt to (64 * number)) [
          | inl early ↦ none_before to high early marked
          | inr within ↦
              let here : to / 64 ≡ number = omega (arith, set.number_is) in
              omega (arith, smallest to ((are to).1 (here, marked)))
        ];
  }

  pub none_up_to : ((to : ℕ) → IsBitIn any number to → ⊥) → (to : ℕ) → 64 * least ≤ to → to < 64 * (number + 1) → IsEndMarked marks rules first past to → ⊥
  none_up_to none to high low marked =
      elim (cases_lt to (64 * number)) [
        | inl early ↦ none_before to high early marked
        | inr within ↦ none to ((are to).1 (omega arith, marked))
      ]

-- the first one from a number on is the first one from an end before it on, where none lies between
pub next_later : (marks : CellMarks) (rules : List ℕ) (first past least number : ℕ) → least ≤ 64 * number → ((to : ℕ) → least ≤ to → to < 64 * number → IsEndMarked marks rules first past to → ⊥) → (next : ℕ) → IsNextMarked marks rules first past (64 * number) next → IsNextMarked marks rules first past least next
next_later marks rules first past least number within none next is = record {
  behind = omega (arith, is.behind);
  marked = is.marked;
  none_before = λ to high low marked.
      elim (cases_lt to (64 * number)) [
        | inl early ↦ none to high early marked
        | inr late ↦ is.none_before to late low marked
      ];
}
