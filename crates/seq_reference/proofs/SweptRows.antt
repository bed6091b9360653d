-- The sweep that marks the demanded cells row by row.
use Rattle.std.proofs.Common.{◌≡◌, ℕ, ◌+◌, ◌≤◌, Some, List, length, slice_get, sym, ap, subst, inl, inr, ⊎_elim, ◌∙◌, arith}
use Rattle.std.specs.List.{Contains}
use Rattle.std.proofs.lemmas.Bool.{cases_eq, cases_lt}
use Rattle.std.proofs.lemmas.List.{get_or_read}
use Rattle.std.proofs.lemmas.Option.{slice_get-get_or, slice_get_within}
use Rattle.adp_model.specs.declared.cell.Cell.{Cell}
use Rattle.adp_model.specs.PosedProblem.{PosedProblem, axiom_cell}
use Rattle.adp_model.specs.Demand.{IsDemandedChild, IsDemanded, Child}
use Rattle.cell_demands.specs.Rows.{AreMarkedInRows, IsChildOfRow}
use Rattle.cell_tables.specs.Marks.{CellMarks, HasStart, IsMarked, IsMarkedInRow}
use Rattle.row_scores.specs.Order.{AreInRowOrder}
use Rattle.seq_reference.specs.Sweeping.{AreSweptInRows, IsBeforeStart, IsBehindRow, IsSettled}
use Rattle.seq_reference.proofs.Sweeps.{Counted, settled_later, swept_fewer}

stands_at : (rules : List ℕ) (rule : ℕ) → Contains rules rule → (number : ℕ) × (slice_get rules number ≡ Some rule)
stands_at rules rule stands =
    let read = get_or_read rules stands.0 rule stands.1 (sym stands.2) 0 in
    (stands.0, slice_get-get_or rules stands.0 0 stands.1 ∙ ap (λ it. Some it) (sym read))

module _ (p : PosedProblem) (counted : (cell : Cell) → IsDemanded p cell → Counted p cell) (rules : List ℕ)
    (order : AreInRowOrder p rules) (from : ℕ) where
  -- before the first row of a start, and behind the last one
  pub swept_first : (marks : CellMarks) → AreSweptInRows p marks (IsBeforeStart from)
      → AreSweptInRows p marks (IsBehindRow rules from (length rules))
  swept_first marks both = record {
    swept = swept_fewer p counted marks (IsBeforeStart from) (IsBehindRow rules from (length rules)) before both.swept;
    in_rows = both.in_rows;
  }
    where
      before : (cell : Cell) → Counted p cell → IsBehindRow rules from (length rules) cell → IsBeforeStart from cell
      before cell is (inl early) = early
      before cell is (inr (begins, behind)) =
          let stands = stands_at rules cell.rule (order.all cell.rule is.rule) in
          let within = slice_get_within rules stands.0 cell.rule stands.1 in
          let past = behind stands.0 stands.1 in
          absurd (omega (arith, within, past))

  pub swept_last : (marks : CellMarks) → AreSweptInRows p marks (IsBehindRow rules from 0)
      → AreSweptInRows p marks (IsBeforeStart (from + 1))
  swept_last marks both = record {
    swept = swept_fewer p counted marks (IsBehindRow rules from 0) (IsBeforeStart (from + 1))
        (λ cell _ before. elim (cases_lt cell.from from) [
          | inl early ↦ inl early
          | inr late ↦ inr (omega (arith, before, late), λ other there. omega arith)
        ]) both.swept;
    in_rows = both.in_rows;
  }

  -- a start at which no cell is marked
  pub swept_over : (marks : CellMarks) → (HasStart marks from → ⊥) → AreSweptInRows p marks (IsBeforeStart from)
      → AreSweptInRows p marks (IsBeforeStart (from + 1))
  swept_over marks none both = record {
    swept = record {
      problem = both.swept.problem;
      demanded = both.swept.demanded;
      begun = both.swept.begun;
      settled = λ cell before marked. elim (cases_lt cell.from from) [
        | inl early ↦ both.swept.settled cell early marked
        | inr late ↦ absurd (none (cell, omega (arith, before, late), both.in_rows cell marked))
      ];
    };
    in_rows = both.in_rows;
  }

  -- one row more
  module _ (forward : (cell child : Cell) → IsDemandedChild p cell child → cell.from ≤ child.from) (number rule : ℕ)
      (there : slice_get rules number ≡ Some rule) (first second : CellMarks)
      (both : AreSweptInRows p first (IsBehindRow rules from (number + 1)))
      (more : AreMarkedInRows first second (IsChildOfRow p first rule from)) where
    abbrev row_cell : ℕ → Cell
    row_cell to = record { rule = rule; from = from; to = to }

    still : (cell : Cell) → IsBehindRow rules from (number + 1) cell → IsMarked first cell → IsSettled second cell
    still cell before marked = settled_later first second (IsChildOfRow p first rule from) more.marked cell (both.swept.settled cell before marked)

    -- a marked cell of the row
    settled_here : (cell : Cell) → cell.from ≡ from → cell.rule ≡ rule → IsMarked first cell → IsSettled second cell
    settled_here cell begins same marked =
        let row = both.in_rows cell marked in
        let at : cell ≡ row_cell cell.to = λ i. record { rule = same i; from = begins i; to = cell.to } in
        let problem = more.marked.problem ∙ both.swept.problem in
        record {
          marked = more.marked.rows_stay cell row;
          children = λ child is. (more.marked.exact child).1 (inr (
            cell.to,
            subst (IsMarkedInRow first) at row,
            subst (λ it. IsDemandedChild p it child) at (subst (λ q. IsDemandedChild q cell child) problem is),
          ));
        }

    settled_was : (cell : Cell) → IsBehindRow rules from number cell → IsMarked first cell → IsSettled second cell
    settled_was cell (inl early) marked = still cell (inl early) marked
    settled_was cell (inr (begins, behind)) marked = elim (cases_eq cell.rule rule) [
      | inl same ↦ settled_here cell begins same marked
      | inr other ↦ still cell (inr (
        begins,
        λ at stands. elim (cases_eq at number) [
          | inl here ↦
              let read : Some cell.rule ≡ Some rule = sym stands ∙ ap (slice_get rules) here ∙ there in
              absurd (other cc)
          | inr apart ↦ let least = behind at stands in omega (arith, least, apart)
        ],
      )) marked
    ]

    -- what is marked now lies in no row that was settled
    settled_child : (cell : Cell) → IsBehindRow rules from number cell → IsChildOfRow p first rule from cell → ⊥
    settled_child cell (inl early) (to, row, is) = let late = forward (row_cell to) cell is in omega (arith, early, late)
    settled_child cell (inr (begins, behind)) (to, row, is) =
        let stands = order.children_first number (row_cell to) cell there begins is in
        let past = behind stands.0 stands.2 in
        omega (arith, past, stands.1)

    pub swept_row : AreSweptInRows p second (IsBehindRow rules from number)
    swept_row = record {
      swept = record {
        problem = more.marked.problem ∙ both.swept.problem;
        demanded = λ cell marked. ⊎_elim (both.swept.demanded cell)
            (λ (to, row, is). Child (row_cell to) cell (both.swept.demanded (row_cell to) (inl row)) is) ((more.marked.exact cell).0 marked);
        begun = λ demanded. (more.marked.exact (axiom_cell p)).1 (inl (both.swept.begun demanded));
        settled = λ cell before marked. ⊎_elim (settled_was cell before) (λ child. absurd (settled_child cell before child)) ((more.marked.exact cell).0 marked);
      };
      in_rows = λ cell marked. ⊎_elim (λ was. more.marked.rows_stay cell (both.in_rows cell was)) (λ child. more.in_rows cell child) ((more.marked.exact cell).0 marked);
    }
