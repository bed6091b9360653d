-- The sweep that makes the lists of the demanded cells, cell by cell, end by end and start by start.
use Rattle.std.proofs.Common.{◌≡◌, ◌↔◌, ◌⊎◌, ℕ, ◌+◌, ◌<◌, ◌≤◌, List, length, sym, ap, subst, inl, inr, ⊎_elim, ◌∙◌, arith}
use Rattle.std.specs.Prelude.{slice_index}
use Rattle.std.proofs.lemmas.Bool.{cases_lt}
use Rattle.std.proofs.lemmas.List.{get_or_read}
use Rattle.adp_model.specs.declared.cell.Cell.{Cell}
use Rattle.adp_model.specs.PosedProblem.{PosedProblem}
use Rattle.adp_model.specs.Cells.{IsCounted}
use Rattle.adp_model.specs.Demand.{IsDemandedChild, IsBelow, IsDemanded}
use Rattle.cell_tables.specs.Marks.{CellMarks, IsMarkedInRow, IsEndMarked}
use Rattle.suffix_cells.specs.Ranks.{AreRanked}
use Rattle.seq_reference.specs.Filling.{IsFromStart, IsFilledBefore, IsWithin, IsShorterWithin, IsFilledBeforeRule}
use Rattle.k_best.specs.declared.list_table.ListTable.{ListTable}
use Rattle.k_best.specs.ListTables.{AreListed, HasList, IsLaidOut}

abbrev pub Counted : PosedProblem → Cell → Type 0
Counted p cell = IsCounted p.grammar (length p.word) cell

-- ---- the cells of a span

module _ (p : PosedProblem) (rules : List ℕ) (from to : ℕ) where
  abbrev pub visited : ℕ → Cell
  visited rule = record { rule = rule; from = from; to = to }

  cases : (number rule : ℕ) → rule ≡ slice_index rules number → (other : Cell)
      → IsFilledBeforeRule rules from to (number + 1) other → IsFilledBeforeRule rules from to number other ⊎ (other ≡ visited rule)
  cases number rule is other (inl before) = inl (inl before)
  cases number rule is other (inr (begins, ends, (at, low, there))) =
      ⊎_elim
      (λ before. inl (inr (begins, ends, (at, before, there))))
      (λ here.
      let e : at ≡ number = omega arith in
      let same : other.rule ≡ rule = sym there ∙ ap (slice_index rules) e ∙ sym is in
      inr (λ i. record { rule = same i; from = begins i; to = ends i }))
      (cases_lt at number)

  -- each demanded child of the cell at hand has its list
  pub child_before : (number rule : ℕ) → rule ≡ slice_index rules number → number < length rules → AreRanked p rules
      → (ranks : List ℕ) → ((cell child : Cell) → IsDemandedChild p cell child → IsBelow ranks child cell)
      → (child : Cell) → Counted p child → IsDemandedChild p (visited rule) child → IsFilledBeforeRule rules from to number child
  child_before number rule is l ranked ranks below child counted is_child =
      let falls = below (visited rule) child is_child in
      ⊎_elim
      (λ later. inl ((falls.begins, falls.ends), inl later))
      (λ not_later.
      let begins : child.from ≡ from = omega (arith, not_later, falls.begins) in
      ⊎_elim
      (λ shorter. inl ((falls.begins, falls.ends), inr shorter))
      (λ not_shorter.
      let ends : child.to ≡ to = omega (arith, not_shorter, falls.ends) in
      let stands = ranked.all child.rule counted.rule in
      let there = sym (get_or_read rules stands.0 child.rule stands.1 (sym stands.2) 0) in
      inr (
        begins,
        ends,
        (
          stands.0,
          ranked.children_first number stands.0 (visited rule) child l stands.1 (sym is) there begins ends is_child,
          there,
        ),
      ))
      (cases_lt child.to to))
      (cases_lt from child.from)

  module _ (k : ℕ) where
    pub none_filled : (table : ListTable) → AreListed p k table (IsShorterWithin from to)
        → AreListed p k table (IsFilledBeforeRule rules from to 0)
    none_filled table listed = record {
      laid = listed.laid;
      lists = λ cell demanded is. ⊎_elim (λ before. listed.lists cell demanded before) (λ same. absurd (omega (arith, same.2.1))) is;
    }

    -- one more cell, which is not demanded
    pub filled_past : (table : ListTable) (number rule : ℕ) → rule ≡ slice_index rules number
        → AreListed p k table (IsFilledBeforeRule rules from to number) → (IsDemanded p (visited rule) → ⊥)
        → AreListed p k table (IsFilledBeforeRule rules from to (number + 1))
    filled_past table number rule is listed none = record {
      laid = listed.laid;
      lists = λ cell demanded holds. ⊎_elim
          (λ before. listed.lists cell demanded before)
          (λ here. absurd (none (subst (IsDemanded p) here demanded))) (cases number rule is cell holds);
    }

    -- one more cell, whose list is put
    pub filled_more : (old new : ListTable) (number rule : ℕ) → rule ≡ slice_index rules number
        → AreListed p k old (IsFilledBeforeRule rules from to number) → IsLaidOut p new → HasList k new (visited rule)
        → ((cell : Cell) → HasList k old cell → HasList k new cell)
        → AreListed p k new (IsFilledBeforeRule rules from to (number + 1))
    filled_more old new number rule is listed laid has kept = record {
      laid = laid;
      lists = λ cell demanded holds. ⊎_elim
          (λ before. kept cell (listed.lists cell demanded before))
          (λ here. subst (HasList k new) (sym here) has) (cases number rule is cell holds);
    }

    pub all_filled : AreRanked p rules → ((cell : Cell) → IsDemanded p cell → Counted p cell) → (number : ℕ) → length rules ≤ number
        → (table : ListTable) → AreListed p k table (IsFilledBeforeRule rules from to number) → AreListed p k table (IsWithin from to)
    all_filled ranked counted number whole table listed = record {
      laid = listed.laid;
      lists = λ cell demanded within. listed.lists cell demanded (go cell (counted cell demanded) within);
    }
      where
        go : (cell : Cell) → Counted p cell → IsWithin from to cell → IsFilledBeforeRule rules from to number cell
        go cell counted (low, high) =
            ⊎_elim
            (λ later. inl ((low, high), inl later))
            (λ begins.
            ⊎_elim
            (λ shorter. inl ((low, high), inr shorter))
            (λ ends.
            let stands = ranked.all cell.rule counted.rule in
            inr (omega arith, omega arith, (stands.0, omega (arith, stands.1), sym (get_or_read rules stands.0 cell.rule stands.1 (sym stands.2) 0))))
            (cases_lt cell.to to))
            (cases_lt from cell.from)

-- ---- the ends of a start

module _ (p : PosedProblem) (k from : ℕ) (counted : (cell : Cell) → IsDemanded p cell → Counted p cell) where
  pub first_filled : (table : ListTable) → AreListed p k table (IsFromStart (from + 1))
      → AreListed p k table (IsFilledBefore from (from + 1) from)
  first_filled table listed = record {
    laid = listed.laid;
    lists = λ cell demanded is. ⊎_elim
        (λ behind. listed.lists cell demanded behind)
        (λ here. let in_order = (counted cell demanded).in_order in absurd (omega (arith, here.0, here.1))) is;
  }

  pub end_filled : (old new : ListTable) (least to : ℕ) → AreListed p k old (IsFilledBefore from (from + 1) least)
      → ((cell : Cell) → HasList k old cell → HasList k new cell) → AreListed p k new (IsWithin from to)
      → AreListed p k new (IsFilledBefore from (from + 1) (to + 1))
  end_filled old new least to before kept listed = record {
    laid = listed.laid;
    lists = λ cell demanded is. ⊎_elim
        (λ behind. kept cell (before.lists cell demanded (inl behind)))
        (λ here. listed.lists cell demanded (here.0, omega (arith, here.1))) is;
  }

  module _ (marks : CellMarks) (marked : (cell : Cell) → IsMarkedInRow marks cell ↔ IsDemanded p cell) (rules : List ℕ)
      (ranked : AreRanked p rules) (table : ListTable) (least : ℕ) (listed : AreListed p k table (IsFilledBefore from (from + 1) least)) where
    end_told : (cell : Cell) → from ≤ cell.from → cell.from < from + 1 → IsDemanded p cell → IsEndMarked marks rules from (from + 1) cell.to
    end_told cell low high demanded = record {
      from = cell.from;
      from_first = low;
      before = high;
      marked = (cell.rule, ranked.all cell.rule (counted cell demanded).rule, (marked cell).1 demanded);
    }

    filled_or_told : (cell : Cell) → from ≤ cell.from → IsDemanded p cell
        → HasList k table cell ⊎ ((least ≤ cell.to) × IsEndMarked marks rules from (from + 1) cell.to)
    filled_or_told cell low demanded =
        ⊎_elim
        (λ within. ⊎_elim
        (λ before. inl (listed.lists cell demanded (inr (low, before))))
        (λ later. inr (later, end_told cell low within demanded))
        (cases_lt cell.to least))
        (λ behind. inl (listed.lists cell demanded (inl behind)))
        (cases_lt cell.from (from + 1))

    -- no demanded cell of the start ends between two positions
    pub filled_up_to : (to : ℕ) → ((other : ℕ) → least ≤ other → other < to → IsEndMarked marks rules from (from + 1) other → ⊥)
        → AreListed p k table (IsShorterWithin from to)
    filled_up_to to none = record {
      laid = listed.laid;
      lists = λ cell demanded is. ⊎_elim
          (λ later. listed.lists cell demanded (inl (omega arith)))
          (λ shorter. ⊎_elim (λ has. has) (λ told. absurd (none cell.to told.0 shorter told.1)) (filled_or_told cell is.0.0 demanded)) is.1;
    }

    -- none ends behind the last position
    pub filled_start : ((to : ℕ) → least ≤ to → IsEndMarked marks rules from (from + 1) to → ⊥)
        → AreListed p k table (IsFromStart from)
    filled_start none = record {
      laid = listed.laid;
      lists = λ cell demanded low. ⊎_elim (λ has. has) (λ told. absurd (none cell.to told.0 told.1)) (filled_or_told cell low demanded);
    }
