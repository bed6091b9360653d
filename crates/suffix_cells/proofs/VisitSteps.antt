-- What is visited, by bits.
use Rattle.std.proofs.Common.{◌≡◌, ◌↔◌, ◌⊎◌, ℕ, zero, ◌*◌, ◌%◌, ◌^◌, ◌<◌, ◌≤◌, Option, Some, None, List, length, set, replicate}
use Rattle.std.proofs.Common.{refl, sym, ap, subst, inl, inr, ⊎_elim, ◌∙◌, arith}
use Rattle.std.specs.Prelude.{bit_or, slice_index, MatchOption}
use Rattle.std.specs.Int.{bit_at, w128}
use Rattle.std.proofs.lemmas.Bool.{cases_lt, cases_eq}
use Rattle.std.proofs.lemmas.List.{get_or-replicate, get_or-set_same, get_or-set_other, get_or_past, length-replicate}
use Rattle.std.proofs.lemmas.Nat.Bits.{bit_at-zero, bit_at_set_other, bit_at_set_same}
use Rattle.std.proofs.lemmas.Option.{slice_get_within}
use Rattle.adp_model.specs.declared.cell.Cell.{Cell}
use Rattle.adp_model.specs.PosedProblem.{PosedProblem}
use Rattle.cell_demands.specs.Rows.{AreMarkedInRows}
use Rattle.cell_tables.specs.Marks.{CellMarks, AreInRows, AreMarkedToo, IsMarked, IsMarkedInRow}
use Rattle.suffix_cells.specs.Visits.{AreNumbers, IsFirstBit, IsFirstFrom, IsLastBelow, IsLastBit, IsVisited, Visited, suffix_cell}

-- ---- the first and the last that is visited

module _ (visits : Visited) (from bits : ℕ) (exact : (number : ℕ) → bit_at bits number ≡ 1 ↔ IsVisited visits from number) where
  pub first_visited : (found : Option ℕ) (least : ℕ)
      → MatchOption found ((other : ℕ) → least ≤ other → bit_at bits other ≡ 1 → ⊥) (IsFirstBit bits least)
      → MatchOption found ((other : ℕ) → least ≤ other → IsVisited visits from other → ⊥) (IsFirstFrom visits from least)
  first_visited None least none = λ other high visited. none other high ((exact other).1 visited)
  first_visited (Some number) least first = record {
    from_least = first.from_least;
    visited = (exact number).0 first.set;
    none_before = λ other high low visited. first.none_before other high low ((exact other).1 visited);
  }

  pub last_visited : (found : Option ℕ) (below : ℕ)
      → MatchOption found ((other : ℕ) → other < below → bit_at bits other ≡ 1 → ⊥) (IsLastBit bits below)
      → MatchOption found ((other : ℕ) → other < below → IsVisited visits from other → ⊥) (IsLastBelow visits from below)
  last_visited None below none = λ other low visited. none other low ((exact other).1 visited)
  last_visited (Some number) below last = record {
    before = last.before;
    visited = (exact number).0 last.set;
    none_behind = λ other high low visited. last.none_behind other high low ((exact other).1 visited);
  }

-- ---- nothing is

-- no bit is set among zeros
pub no_bit : (count from number : ℕ) → bit_at (slice_index (replicate count 0) from) number ≡ 1 → ⊥
no_bit count from number set =
    let zeros : slice_index (replicate count 0) from ≡ 0 = elim (cases_lt from count) [
      | inl within ↦ get_or-replicate count from 0 0 within
      | inr past ↦ get_or_past (replicate count 0) from 0 (omega (arith, past, length-replicate count zero))
    ] in
    let clear : bit_at (slice_index (replicate count 0) from) number ≡ 0 = ap (λ n. bit_at n number) zeros ∙ bit_at-zero number in
    omega (arith, set, clear)

-- ---- one more

module _ (marks : CellMarks) (order numbers : List ℕ) (are : AreNumbers (length marks.problem.grammar.rules) order numbers)
    (bits : List ℕ)
    (exact : (from number : ℕ) → bit_at (slice_index bits from) number ≡ 1 ↔ IsVisited (record { marks = marks; order = order }) from number)
    (rule from : ℕ) (known : rule < length marks.problem.grammar.rules) where
  abbrev number : ℕ
  number = slice_index numbers rule

  abbrev cell : Cell
  cell = suffix_cell marks.problem rule from

  pub number_below : number < 128
  number_below = let within = slice_get_within order number rule (are.there rule known) in omega (arith, within, are.few)

  -- the rule is visited already
  pub visited_before : bit_at (slice_index bits from) number ≡ 1 → AreMarkedInRows marks marks (λ other. other ≡ cell)
  visited_before set =
      let it = (exact from number).0 set in
      let told : Some it.rule ≡ Some rule = sym it.stands ∙ are.there rule known in
      let same : it.rule ≡ rule = cc in
      let row = subst (λ r. IsMarkedInRow marks (suffix_cell marks.problem r from)) same it.marked in
      record {
        marked = record {
          problem = refl;
          exact = λ other. (λ now. inl now, λ some. ⊎_elim (λ was. was) (λ e. inl (subst (IsMarkedInRow marks) (sym e) row)) some);
          rows_stay = λ other stays. stays;
        };
        in_rows = λ other e. subst (IsMarkedInRow marks) (sym e) row;
      }

  -- the rule is not
  pub not_marked : (bit_at (slice_index bits from) number ≡ 1 → ⊥) → IsMarkedInRow marks cell → ⊥
  not_marked clear row = clear ((exact from number).1 (record { rule = rule; stands = are.there rule known; marked = row }))

  -- it is now
  module _ (within : from < length bits) (in_rows : (other : Cell) → IsMarked marks other → IsMarkedInRow marks other)
      (new : CellMarks) (more : AreMarkedToo marks new (λ other. other ≡ cell)) (rows : AreInRows new (λ other. other ≡ cell)) where
    abbrev word : ℕ
    word = bit_or (slice_index bits from) (1 * 2 ^ number % 2 ^ 128)

    abbrev set_bits : List ℕ
    set_bits = set bits from word

    abbrev before : Visited
    before = record { marks = marks; order = order }

    abbrev after : Visited
    after = record { marks = new; order = order }

    same_length : length marks.problem.word ≡ length new.problem.word
    same_length = ap (λ (p : PosedProblem). length p.word) (sym more.problem)

    still_visited : (at other : ℕ) → IsVisited before at other → IsVisited after at other
    still_visited at other it = record {
      rule = it.rule;
      stands = it.stands;
      marked = subst (λ to. IsMarkedInRow new (record { rule = it.rule; from = at; to = to })) same_length
          (more.rows_stay (suffix_cell marks.problem it.rule at) it.marked);
    }

    -- the bits at this start, and those at another
    bits_here : slice_index set_bits from ≡ word
    bits_here = get_or-set_same bits from word 0 within

    bits_there : (at : ℕ) → (at ≡ from → ⊥) → slice_index set_bits at ≡ slice_index bits at
    bits_there at apart = get_or-set_other bits from at word 0 apart

    visited_now : IsVisited after from number
    visited_now = record {
      rule = rule;
      stands = are.there rule known;
      marked = subst (λ to. IsMarkedInRow new (record { rule = rule; from = from; to = to })) same_length (rows cell refl);
    }

    of_bit_here : (other : ℕ) → bit_at word other ≡ 1 → IsVisited after from other
    of_bit_here other set = elim (cases_eq other number) [
      | inl same ↦ subst (IsVisited after from) (sym same) visited_now
      | inr apart ↦
          let kept = bit_at_set_other w128 (slice_index bits from) number number_below other apart in
          still_visited from other ((exact from other).0 (sym kept ∙ set))
    ]

    of_bit : (at other : ℕ) → bit_at (slice_index set_bits at) other ≡ 1 → IsVisited after at other
    of_bit at other set = elim (cases_eq at from) [
      | inl same ↦
          let here : bit_at (slice_index set_bits from) other ≡ 1 = subst (λ n. bit_at (slice_index set_bits n) other ≡ 1) same set in
          subst (λ n. IsVisited after n other) (sym same)
          (of_bit_here other (ap (λ n. bit_at n other) (sym bits_here) ∙ here))
      | inr apart ↦ still_visited at other ((exact at other).0 (ap (λ n. bit_at n other) (sym (bits_there at apart)) ∙ set))
    ]

    -- a bit that was set still is
    still_set : (at other : ℕ) → bit_at (slice_index bits at) other ≡ 1 → bit_at (slice_index set_bits at) other ≡ 1
    still_set at other set = elim (cases_eq at from) [
      | inl same ↦
          let was : bit_at (slice_index bits from) other ≡ 1 = subst (λ n. bit_at (slice_index bits n) other ≡ 1) same set in
          let here : bit_at word other ≡ 1 = elim (cases_eq other number) [
            | inl it ↦ ap (bit_at word) it ∙ bit_at_set_same w128 (slice_index bits from) number number_below
            | inr apart ↦ bit_at_set_other w128 (slice_index bits from) number number_below other apart ∙ was
          ] in
          subst (λ n. bit_at (slice_index set_bits n) other ≡ 1) (sym same) (ap (λ n. bit_at n other) bits_here ∙ here)
      | inr apart ↦ ap (λ n. bit_at n other) (bits_there at apart) ∙ set
    ]

    bit_now : bit_at (slice_index set_bits from) number ≡ 1
    bit_now = ap (λ n. bit_at n number) bits_here ∙ bit_at_set_same w128 (slice_index bits from) number number_below

    of_visit : (at other : ℕ) → IsVisited after at other → bit_at (slice_index set_bits at) other ≡ 1
    of_visit at other it =
        let row : IsMarkedInRow new (suffix_cell marks.problem it.rule at) =
        subst (λ to. IsMarkedInRow new (record { rule = it.rule; from = at; to = to })) (sym same_length) it.marked in
        elim ((more.exact (suffix_cell marks.problem it.rule at)).0 (inl row)) [
          | inl was ↦ still_set at other ((exact at other).1
              (record { rule = it.rule; stands = it.stands; marked = in_rows (suffix_cell marks.problem it.rule at) was }))
          | inr same ↦
              let same_rule = ap (λ (c : Cell). c.rule) same in
              let same_start = ap (λ (c : Cell). c.from) same in
              let there : other ≡ number = sym (are.inverse other it.rule it.stands) ∙ ap (slice_index numbers) same_rule in
              subst (λ n. bit_at (slice_index set_bits n) other ≡ 1) (sym same_start)
              (subst (λ n. bit_at (slice_index set_bits from) n ≡ 1) (sym there) bit_now)
        ]

    pub exact_now : (at other : ℕ) → bit_at (slice_index set_bits at) other ≡ 1 ↔ IsVisited after at other
    exact_now at other = (of_bit at other, of_visit at other)

    pub still_in_rows : (other : Cell) → IsMarked new other → IsMarkedInRow new other
    still_in_rows other marked =
        ⊎_elim (λ was. more.rows_stay other (in_rows other was)) (rows other) ((more.exact other).0 marked)

    pub rows_now : (other : Cell) → IsMarkedInRow new other ↔ (IsMarkedInRow marks other ⊎ (other ≡ cell))
    rows_now other = (
      λ row. ⊎_elim (λ was. inl (in_rows other was)) inr ((more.exact other).0 (inl row)),
      ⊎_elim (more.rows_stay other) (rows other),
    )
