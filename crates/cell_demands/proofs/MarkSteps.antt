-- Marks, one after another: what several calls that mark cells leave marked.
use Rattle.std.proofs.Common.{◌≡◌, ◌⊎◌, ℕ, refl, sym, ap, subst, inl, inr, ⊎_elim, ◌∙◌}
use Rattle.adp_model.specs.declared.grammar.Arg.{Arg}
use Rattle.adp_model.specs.declared.grammar.Arg.TheVariants.{Rule}
use Rattle.adp_model.specs.declared.cell.Cell.{Cell}
use Rattle.split_lines.specs.Laid.{IsCellOf}
use Rattle.cell_tables.specs.Marks.{CellMarks, AreInRows, AreMarkedToo, AreMarkedFrom}

pub same_rule : (argument : Arg) (rule other : ℕ) → argument ≡ Rule rule → argument ≡ Rule other → other ≡ rule
same_rule argument rule other is is' = let same : Rule rule ≡ Rule other = sym is ∙ is' in cc

-- the same cells, told in another way
pub too_like : (old new : CellMarks) (Holds Other : Cell → Type 0) → ((cell : Cell) → Holds cell → Other cell)
    → ((cell : Cell) → Other cell → Holds cell) → AreMarkedToo old new Holds → AreMarkedToo old new Other
too_like old new Holds Other there back marked = record {
  problem = marked.problem;
  exact = λ cell. (
    λ now. ⊎_elim (λ was. inl was) (λ holds. inr (there cell holds)) ((marked.exact cell).0 now),
    λ some. (marked.exact cell).1 (⊎_elim (λ was. inl was) (λ other. inr (back cell other)) some),
  );
  rows_stay = marked.rows_stay;
}

-- an argument that is a rule, on spans that begin at one place: its cells, told by their ends
module _ (argument : Arg) (rule from : ℕ) (is : argument ≡ Rule rule) (IsEnd IsTold : ℕ → Type 0)
    (told : (end : ℕ) → IsEnd end → IsTold end) where
  abbrev IsToldCell : Cell → Type 0
  IsToldCell cell = (cell.rule ≡ rule) × (cell.from ≡ from) × IsTold cell.to

  abbrev IsItsCell : Cell → Type 0
  IsItsCell cell = (end : ℕ) × IsEnd end × IsCellOf argument from end cell

  told_cell : (cell : Cell) → IsItsCell cell → IsToldCell cell
  told_cell cell (end, here, its) =
      (same_rule argument rule cell.rule is its.rule, sym its.begins, subst IsTold its.ends (told end here))

  pub ends_marked : ((end : ℕ) → IsTold end → IsEnd end) → (old new : CellMarks) → AreMarkedToo old new IsToldCell
      → AreMarkedToo old new IsItsCell
  ends_marked back old new =
      too_like old new IsToldCell IsItsCell
      (λ cell (e, e', here). (
        cell.to,
        back cell.to here,
        record { rule = is ∙ ap Rule (sym e); begins = sym e'; ends = refl },
      ))
      told_cell

  pub ends_in_rows : (marks : CellMarks) → AreInRows marks IsToldCell → AreInRows marks IsItsCell
  ends_in_rows marks rows = λ cell its. rows cell (told_cell cell its)

pub too_none : (marks : CellMarks) (Holds : Cell → Type 0) → ((cell : Cell) → Holds cell → ⊥) → AreMarkedToo marks marks Holds
too_none marks Holds none = record {
  problem = refl;
  exact = λ cell. (λ marked. inl marked, λ marked. ⊎_elim (λ was. was) (λ here. absurd (none cell here)) marked);
  rows_stay = λ cell row. row;
}

pub too_more : (first second third : CellMarks) (Holds Other : Cell → Type 0) → AreMarkedToo first second Holds
    → AreMarkedToo second third Other → AreMarkedToo first third (λ cell. Holds cell ⊎ Other cell)
too_more first second third Holds Other before after = record {
  problem = after.problem ∙ before.problem;
  exact = λ cell. (
    λ marked. ⊎_elim
        (λ was. ⊎_elim (λ early. inl early) (λ here. inr (inl here)) ((before.exact cell).0 was))
        (λ here. inr (inr here)) ((after.exact cell).0 marked),
    λ marked. (after.exact cell).1 (⊎_elim
        (λ early. inl ((before.exact cell).1 (inl early)))
        (λ some. ⊎_elim (λ here. inl ((before.exact cell).1 (inr here))) (λ here. inr here) some) marked),
  );
  rows_stay = λ cell row. after.rows_stay cell (before.rows_stay cell row);
}

module _ (begin : ℕ) where
  pub marked_like : (old new : CellMarks) (Holds Other : Cell → Type 0) → ((cell : Cell) → Holds cell → Other cell)
      → ((cell : Cell) → Other cell → Holds cell) → AreMarkedFrom begin old new Holds
      → AreMarkedFrom begin old new Other
  marked_like old new Holds Other there back from = record {
    marked = too_like old new Holds Other there back from.marked;
    begun = λ cell here other. from.begun cell here (back cell other);
  }

  pub none_marked : (marks : CellMarks) (Holds : Cell → Type 0) → ((cell : Cell) → Holds cell → ⊥) → AreMarkedFrom begin marks marks Holds
  none_marked marks Holds none = record {
    marked = too_none marks Holds none;
    begun = λ cell here holds. absurd (none cell holds);
  }

  pub marked_more : (first second third : CellMarks) (Holds Other : Cell → Type 0)
      → AreMarkedFrom begin first second Holds → AreMarkedFrom begin second third Other
      → AreMarkedFrom begin first third (λ cell. Holds cell ⊎ Other cell)
  marked_more first second third Holds Other before after = record {
    marked = too_more first second third Holds Other before.marked after.marked;
    begun = λ cell here some. ⊎_elim (λ early. after.marked.rows_stay cell (before.begun cell here early)) (λ late. after.begun cell here late) some;
  }

  -- where all are in rows
  pub marked_in_rows : (old new : CellMarks) (Holds : Cell → Type 0) → AreMarkedToo old new Holds → AreInRows new Holds → AreMarkedFrom begin old new Holds
  marked_in_rows old new Holds marked rows = record { marked = marked; begun = λ cell here holds. rows cell holds }
