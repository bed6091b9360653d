-- Flags of the rules of cells that are marked in columns, and of the starts of those that are marked in rows.
use Rattle.std.proofs.Common.{◌≡◌, ◌↔◌, ℕ, Bool, true, false, IsTrue, Option, Some, None, List, get_or, replicate, slice_get, refl, sym, ap, subst, inl, inr, ⊎_elim, ◌∙◌, arith}
use Rattle.std.specs.Prelude.{unwrap_or}
use Rattle.std.proofs.lemmas.Bool.{cases_lt, false≢true}
use Rattle.std.proofs.lemmas.List.{get_or-replicate, length-replicate}
use Rattle.std.proofs.lemmas.Option.{get_or_from_slice_get, slice_get_past, unwrap_or-slice_get}
use Rattle.adp_model.specs.declared.cell.Cell.{Cell}
use Rattle.cell_tables.specs.Spans.{Spans}
use Rattle.cell_tables.specs.Bits.{AreSetToo}
use Rattle.cell_tables.specs.Flags.{IsFlagged, IsRaised}
use Rattle.cell_tables.specs.Marks.{AreMarkedToo, CellMarks, HasInColumns, HasStart}
use Rattle.cell_tables.proofs.CellMarks.{with_columns, with_rows}

told_some : (flag : Option Bool) → unwrap_or flag false ≡ true → flag ≡ Some true
told_some None set = absurd (false≢true set)
told_some (Some flag) set = ap Some set

-- a flag that is read tells whether it is set
pub flag_told : (flags : List Bool) (number : ℕ) → IsTrue (get_or flags number false) ↔ IsFlagged flags number
flag_told flags number = (
  λ set. told_some (slice_get flags number) (unwrap_or-slice_get flags number false ∙ set),
  λ flagged. get_or_from_slice_get flags number true false flagged,
)

-- none of so many flags that are clear is set
pub none_flagged : (flags : List Bool) (count number : ℕ) → flags ≡ replicate count false → IsFlagged flags number → ⊥
none_flagged flags count number clear flagged =
    let set : get_or (replicate count false) number false ≡ true = subst (λ flags. get_or flags number false ≡ true) clear ((flag_told flags number).1 flagged) in
    elim (cases_lt number count) [
      | inl within ↦ false≢true (sym (get_or-replicate count number false false within) ∙ set)
      | inr past ↦
          let none = slice_get_past (replicate count false) number (omega (arith, length-replicate count false)) in
          let there = (flag_told (replicate count false) number).0 set in
          let both : Some true ≡ None = sym there ∙ none in
          absurd cc
    ]

-- no cell is marked in addition
pub none_marked : (marks : CellMarks) (Holds : Cell → Type 0) → ((cell : Cell) → Holds cell → ⊥) → AreMarkedToo marks marks Holds
none_marked marks Holds none = record {
  problem = refl;
  exact = λ cell. (λ marked. inl marked, λ either. ⊎_elim (λ was. was) (λ holds. absurd (none cell holds)) either);
  rows_stay = λ cell row. row;
}

-- where bits of a start are set, its flag is
pub starts_flagged : (old : CellMarks) (rows : Spans ℕ) (rule from : ℕ) (IsFar : ℕ → Type 0) (flag : Bool) (flags now : List Bool) → AreSetToo old.rows rows rule from IsFar → IsRaised flags now from flag → IsTrue flag ↔ ((far : ℕ) × IsFar far)
    → ((start : ℕ) → IsFlagged flags start ↔ HasStart old start) → (start : ℕ) → IsFlagged now start ↔ HasStart (with_rows old rows) start
starts_flagged old rows rule from IsFar flag flags now too raised some before start = (
  λ flagged. ⊎_elim
      (λ was. let it = (before start).0 was in (it.0, it.1, (too.exact it.0.rule it.0.from it.0.to).1 (inl it.2)))
      (λ (set, same). let far = some.0 set in (record { rule = rule; from = from; to = far.0 }, sym same, (too.exact rule from far.0).1 (inr (refl, refl, far.1))))
      ((raised.exact start).0 flagged),
  λ (cell, begins, row). ⊎_elim
      (λ was. (raised.exact start).1 (inl ((before start).1 (cell, begins, was))))
      (λ (r, f, is). (raised.exact start).1 (inr (some.1 (cell.to, is), sym begins ∙ f)))
      ((too.exact cell.rule cell.from cell.to).0 row),
)

-- where bits of a rule are set in columns, its flag is
pub rules_flagged : (old : CellMarks) (columns : Spans ℕ) (rule to : ℕ) (IsFar : ℕ → Type 0) (flag : Bool) (flags now : List Bool) → AreSetToo old.columns columns rule to IsFar → IsRaised flags now rule flag → IsTrue flag ↔ ((far : ℕ) × IsFar far)
    → ((number : ℕ) → IsFlagged flags number ↔ HasInColumns old number) → (number : ℕ) → IsFlagged now number ↔ HasInColumns (with_columns old columns) number
rules_flagged old columns rule to IsFar flag flags now too raised some before number = (
  λ flagged. ⊎_elim
      (λ was. let it = (before number).0 was in (it.0, it.1, (too.exact it.0.rule it.0.to it.0.from).1 (inl it.2)))
      (λ (set, same). let far = some.0 set in (record { rule = rule; from = far.0; to = to }, sym same, (too.exact rule to far.0).1 (inr (refl, refl, far.1))))
      ((raised.exact number).0 flagged),
  λ (cell, of_rule, column). ⊎_elim
      (λ was. (raised.exact number).1 (inl ((before number).1 (cell, of_rule, was))))
      (λ (r, t, is). (raised.exact number).1 (inr (some.1 (cell.from, is), sym of_rule ∙ r)))
      ((too.exact cell.rule cell.to cell.from).0 column),
)
