-- The sweep that fills in the scores of the demanded cells, cell by cell, start by start, end by end and block by block.
use Rattle.std.proofs.Common.{◌≡◌, ◌↔◌, ◌⊎◌, ℕ, ◌+◌, ◌-◌, ◌*◌, ◌/◌, ◌<◌, ◌≤◌, ℤ, List, length, sym, ap, subst, inl, inr, ⊎_elim, ◌∙◌, arith}
use Rattle.std.specs.Prelude.{slice_index}
use Rattle.std.proofs.lemmas.Bool.{cases_lt}
use Rattle.std.proofs.lemmas.List.{get_or_read}
use Rattle.adp_model.specs.declared.cell.Cell.{Cell}
use Rattle.adp_model.specs.PosedProblem.{PosedProblem}
use Rattle.adp_model.specs.Demand.{IsDemandedChild, IsBelow, IsDemanded}
use Rattle.cell_tables.specs.Tables.{Table}
use Rattle.cell_answers.specs.Entries.{HasEntry}
use Rattle.cell_tables.specs.Marks.{CellMarks, IsMarkedInRow, IsEndMarked}
use Rattle.suffix_cells.specs.Ranks.{AreRanked}
use Rattle.seq_reference.specs.Filling.{AreFilled, AreKept, IsFromStart, IsFilledBefore, IsFilledFrom, IsWithin, IsShorterWithin, IsFilledBeforeRule}
use Rattle.seq_reference.proofs.Sweeps.{Counted, visited}

module _ (p : PosedProblem) (counted : (cell : Cell) → IsDemanded p cell → Counted p cell) where
  -- fewer counted cells are looked at
  pub filled_fewer : (table : Table ℤ) (Holds Other : Cell → Type 0) → ((cell : Cell) → Counted p cell → Other cell → Holds cell) → AreFilled p table Holds → AreFilled p table Other
  filled_fewer table Holds Other fewer filled = record {
    problem = filled.problem;
    entries = λ cell demanded other. filled.entries cell demanded (fewer cell (counted cell demanded) other);
  }

  -- one more cell, which is not demanded
  pub filled_past : (cell : Cell) (table : Table ℤ) (Holds Other : Cell → Type 0) → AreFilled p table Holds → (IsDemanded p cell → ⊥) → ((other : Cell) → Other other → Holds other ⊎ (other ≡ cell)) → AreFilled p table Other
  filled_past cell table Holds Other filled none cases = record {
    problem = filled.problem;
    entries = λ other demanded is. ⊎_elim (λ before. filled.entries other demanded before) (λ e. absurd (none (subst (IsDemanded p) e demanded))) (cases other is);
  }

  -- one more cell, whose entry is kept
  pub filled_kept : (cell : Cell) (old new : Table ℤ) (Holds Other : Cell → Type 0) → AreFilled p old Holds → new.problem ≡ old.problem → HasEntry new cell → ((other : Cell) → HasEntry old other → HasEntry new other)
      → ((other : Cell) → Other other → Holds other ⊎ (other ≡ cell)) → AreFilled p new Other
  filled_kept cell old new Holds Other filled same kept others cases = record {
    problem = same ∙ filled.problem;
    entries = λ other demanded is. ⊎_elim (λ before. others other (filled.entries other demanded before)) (λ e. subst (HasEntry new) (sym e) kept) (cases other is);
  }

-- ---- the cells of a span

module _ (p : PosedProblem) (rules : List ℕ) (from to : ℕ) where
  pub fill_cases : (number rule : ℕ) → rule ≡ slice_index rules number → (other : Cell) → IsFilledBeforeRule rules from to (number + 1) other → IsFilledBeforeRule rules from to number other ⊎ (other ≡ visited p rules from to rule)
  fill_cases number rule is other (inl before) = inl (inl before)
  fill_cases number rule is other (inr (begins, ends, (at, low, there))) =
      ⊎_elim
      (λ before. inl (inr (begins, ends, (at, before, there))))
      (λ here.
      let e : at ≡ number = omega arith in
      let same : other.rule ≡ rule = sym there ∙ ap (slice_index rules) e ∙ sym is in
      inr (λ k. record { rule = same k; from = begins k; to = ends k }))
      (cases_lt at number)

  -- each demanded child of the cell at hand was filled before
  pub child_before : (number rule : ℕ) → rule ≡ slice_index rules number → number < length rules → AreRanked p rules → (ranks : List ℕ) → ((cell child : Cell) → IsDemandedChild p cell child → IsBelow ranks child cell)
      → (child : Cell) → Counted p child → IsDemandedChild p (visited p rules from to rule) child → IsFilledBeforeRule rules from to number child
  child_before number rule is l ranked ranks below child counted is_child =
      let falls = below (visited p rules from to rule) child is_child in
      ⊎_elim
      (λ later. inl ((falls.begins, falls.ends), inl later))
      (λ not_later.
      let begins : child.from ≡ from = omega (arith, not_later, falls.begins) in
      ⊎_elim
      (λ shorter. inl ((falls.begins, falls.ends), inr shorter))
      (λ not_shorter.
      let ends : child.to ≡ to = omega (arith, not_shorter, falls.ends) in
      let stands = ranked.all child.rule counted.rule in
      let there = sym (get_or_read rules stands.0 child.rule stands.1 (sym stands.2) 0) in
      inr (begins, ends, (stands.0, ranked.children_first number stands.0 (visited p rules from to rule) child l stands.1 (sym is) there begins ends is_child, there)))
      (cases_lt child.to to))
      (cases_lt from child.from)

  pub none_filled : (cell : Cell) → IsFilledBeforeRule rules from to 0 cell → IsShorterWithin from to cell
  none_filled cell (inl before) = before
  none_filled cell (inr (begins, ends, (at, low, there))) = absurd (omega arith)

  pub all_filled : AreRanked p rules → (number : ℕ) → length rules ≤ number → (cell : Cell) → Counted p cell → IsWithin from to cell → IsFilledBeforeRule rules from to number cell
  all_filled ranked number whole cell counted (low, high) =
      ⊎_elim
      (λ later. inl ((low, high), inl later))
      (λ begins.
      ⊎_elim
      (λ shorter. inl ((low, high), inr shorter))
      (λ ends.
      let stands = ranked.all cell.rule counted.rule in
      inr (omega arith, omega arith, (stands.0, omega (arith, stands.1), sym (get_or_read rules stands.0 cell.rule stands.1 (sym stands.2) 0))))
      (cases_lt cell.to to))
      (cases_lt from cell.from)

-- ---- the starts of an end

module _ (p : PosedProblem) (first past to : ℕ) where
  -- what ends before, or here and begins later, is all that is shorter and lies within
  pub shorter_filled : (table : Table ℤ) (from next : ℕ) → first ≤ from → next ≡ from + 1 → AreFilled p table (IsFilledFrom first past to next) → AreFilled p table (IsShorterWithin from to)
  shorter_filled table from next within is filled = record {
    problem = filled.problem;
    entries = λ cell demanded ((low, high), shorter). ⊎_elim
        (λ before. filled.entries cell demanded (inl (inr (omega arith, before))))
        (λ here. filled.entries cell demanded (inr (⊎_elim (λ later. omega arith) (λ before. absurd (omega arith)) shorter, omega arith)))
        (cases_lt cell.to to);
  }

  -- one more start
  pub span_filled : (old new : Table ℤ) (from next : ℕ) → next ≡ from + 1 → AreFilled p old (IsFilledFrom first past to next) → AreKept old new → AreFilled p new (IsWithin from to) → AreFilled p new (IsFilledFrom first past to from)
  span_filled old new from next is before kept filled = record {
    problem = filled.problem;
    entries = λ cell demanded here. ⊎_elim
        (λ was. kept cell (before.entries cell demanded (inl was)))
        (λ (low, ends). filled.entries cell demanded (low, omega arith)) here;
  }

  -- one more start, where no demanded cell begins
  pub unmarked_filled : (table : Table ℤ) (from next : ℕ) → next ≡ from + 1 → AreFilled p table (IsFilledFrom first past to next) → ((cell : Cell) → cell.from ≡ from → IsDemanded p cell → ⊥) → AreFilled p table (IsFilledFrom first past to from)
  unmarked_filled table from next is before none = record {
    problem = before.problem;
    entries = λ cell demanded here. ⊎_elim
        (λ was. before.entries cell demanded (inl was))
        (λ (low, ends). ⊎_elim
        (λ later. before.entries cell demanded (inr (omega arith, ends)))
        (λ at. absurd (none cell (omega arith) demanded))
        (cases_lt from cell.from)) here;
  }

  pub no_start_filled : (table : Table ℤ) → AreFilled p table (IsFilledBefore first past to) → AreFilled p table (IsFilledFrom first past to past)
  no_start_filled table filled = record {
    problem = filled.problem;
    entries = λ cell demanded is. ⊎_elim (λ was. filled.entries cell demanded was) (λ (late, ends). filled.entries cell demanded (inl late)) is;
  }

  pub end_filled : (table : Table ℤ) (from : ℕ) → from ≤ first → AreFilled p table (IsFilledFrom first past to from) → AreFilled p table (IsFilledBefore first past (to + 1))
  end_filled table from all filled = record {
    problem = filled.problem;
    entries = λ cell demanded is. ⊎_elim
        (λ behind. filled.entries cell demanded (inl (inl behind)))
        (λ (low, high). ⊎_elim
        (λ before. filled.entries cell demanded (inl (inr (low, before))))
        (λ here. filled.entries cell demanded (inr (omega arith, omega arith)))
        (cases_lt cell.to to)) is;
  }

-- ---- the ends of a block

module _ (p : PosedProblem) (counted : (cell : Cell) → IsDemanded p cell → Counted p cell) (marks : CellMarks) (marked : (cell : Cell) → IsMarkedInRow marks cell ↔ IsDemanded p cell) (rules : List ℕ) (ranked : AreRanked p rules) (table : Table ℤ) (first past least : ℕ) (filled : AreFilled p table (IsFilledBefore first past least)) where
  -- a demanded cell that begins in the block is told by its end
  end_told : (cell : Cell) → first ≤ cell.from → cell.from < past → IsDemanded p cell → IsEndMarked marks rules first past cell.to
  end_told cell low high demanded = record {
    from = cell.from;
    from_first = low;
    before = high;
    marked = (cell.rule, ranked.all cell.rule (counted cell demanded).rule, (marked cell).1 demanded);
  }

  -- a demanded cell of the block is filled, or its end is marked and does not come before the least one
  filled_or_told : (cell : Cell) → first ≤ cell.from → IsDemanded p cell → HasEntry table cell ⊎ ((least ≤ cell.to) × IsEndMarked marks rules first past cell.to)
  filled_or_told cell low demanded = elim (cases_lt cell.from past) [
    | inr behind ↦ inl (filled.entries cell demanded (inl behind))
    | inl within ↦ elim (cases_lt cell.to least) [
      | inl before ↦ inl (filled.entries cell demanded (inr (low, before)))
      | inr later ↦ inr (later, end_told cell low within demanded)
    ]
  ]

  -- no demanded cell of the block ends between two positions
  pub filled_up_to : (to : ℕ) → ((other : ℕ) → least ≤ other → other < to → IsEndMarked marks rules first past other → ⊥) → AreFilled p table (IsFilledBefore first past to)
  filled_up_to to none = record {
    problem = filled.problem;
    entries = λ cell demanded is. ⊎_elim
        (λ behind. filled.entries cell demanded (inl behind))
        (λ (low, high). ⊎_elim (λ entry. entry) (λ (late, told). absurd (none cell.to late high told)) (filled_or_told cell low demanded)) is;
  }

  -- none ends behind the last position
  pub filled_block : ((to : ℕ) → least ≤ to → IsEndMarked marks rules first past to → ⊥) → AreFilled p table (IsFromStart first)
  filled_block none = record {
    problem = filled.problem;
    entries = λ cell demanded low. ⊎_elim (λ entry. entry) (λ (late, told). absurd (none cell.to late told)) (filled_or_told cell low demanded);
  }

-- no cell of the block ends before its first start
pub first_filled : (p : PosedProblem) (first past : ℕ) (cell : Cell) → Counted p cell → IsFilledBefore first past first cell → IsFromStart past cell
first_filled p first past cell counted (inl behind) = behind
first_filled p first past cell counted (inr (low, high)) = absurd (omega (arith, counted.in_order))

-- ---- the whole sweep

-- no demanded cell begins behind the word
pub none_from : (p : PosedProblem) (counted : (cell : Cell) → IsDemanded p cell → Counted p cell) (table : Table ℤ) (past : ℕ) → table.problem ≡ p → length p.word < past → AreFilled p table (IsFromStart past)
none_from p counted table past problem behind = record {
  problem = problem;
  entries = λ cell demanded late. let is = counted cell demanded in absurd (omega (arith, is.in_order, is.in_word));
}

-- the first block of starts is the last one filled
pub all_from : (p : PosedProblem) (table : Table ℤ) (block : ℕ) → block ≤ 0 → AreFilled p table (IsFromStart (block * 16)) → (cell : Cell) → IsDemanded p cell → HasEntry table cell
all_from p table block none filled cell demanded = filled.entries cell demanded (omega arith)

-- a block of a word, which has at most so many letters, ends within 16 bits
pub block_end_fits : (len block : ℕ) → len ≤ 32767 → block ≤ len / 16 + 1 → (block - 1) * 16 + 16 < 65536
block_end_fits len block few within = omega arith
