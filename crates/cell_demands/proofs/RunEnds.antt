-- Runs of ends of an argument at which it is noted whether the others are laid behind it.
use Rattle.std.proofs.Common.{◌≡◌, ◌↔◌, ℕ, ◌/◌, ◌%◌, ◌<◌, ◌≤◌, Bool, IsTrue, List, get_or, inl, inr, ⊎_elim, sym, subst, arith}
use Rattle.std.specs.Int.{bit_at}
use Rattle.std.proofs.lemmas.Bool.{cases_eq}
use Rattle.adp_model.specs.declared.grammar.Arg.{Arg}
use Rattle.adp_model.specs.declared.cell.Cell.{Cell}
use Rattle.adp_model.specs.PosedProblem.{PosedProblem}
use Rattle.adp_model.specs.Splits.{FitsSpan}
use Rattle.viable_splits.specs.Placing.{on_span, Cover}
use Rattle.split_lines.specs.Laid.{IsCellOf}
use Rattle.cell_tables.specs.Bits.{IsBitOf}
use Rattle.cell_tables.specs.Marks.{CellMarks, AreInRows, AreMarkedFrom, AreMarkedToo}
use Rattle.cell_demands.specs.declared.tails.EndNotes.{EndNotes}
use Rattle.cell_demands.specs.PlaceBits.{HasBit}
use Rattle.cell_demands.specs.Runs.{CoversBelow, DemandsBelow}
use Rattle.cell_demands.specs.TailNotes.{AreToldOf}
use Rattle.cell_demands.specs.Tails.{AreMarkedOn}
use Rattle.cell_demands.proofs.LineDemands.{cover_of_demands}
use Rattle.cell_demands.proofs.TailSteps.{begins_behind}

module _ (p : PosedProblem) (marks : CellMarks) (argument : Arg) (others : List Arg) (from to first past : ℕ)
    (notes : EndNotes) (told : AreToldOf p marks others to notes)
    (fit : (end : ℕ) → first ≤ end → end < past → FitsSpan p (on_span argument from end))
    (laid : List ℕ) (same : laid ≡ notes.laid.items) where
  abbrev IsLaid : ℕ → Type 0
  IsLaid = IsBitOf laid first past

  abbrev IsLaidCell : Cell → Type 0
  IsLaidCell cell = (end : ℕ) × IsLaid end × IsCellOf argument from end cell

  abbrev IsDemanded : Cell → Type 0
  IsDemanded = DemandsBelow p argument others from to first past

  laid_there : (end : ℕ) → IsLaid end → AreMarkedOn p marks others end to
  laid_there end bit = told.laid end (subst (λ bits. HasBit bits end) same bit.bit)

  pub demanded_run : (cell : Cell) (end : ℕ) → IsLaid end → IsCellOf argument from end cell → IsDemanded cell
  demanded_run cell end bit is =
      (end, bit.from_first, bit.before, fit end bit.from_first bit.before, inl (is, (laid_there end bit).laid))

  module _ (known : List ℕ) (same_known : known ≡ notes.known.items)
      (all : (end : ℕ) → first ≤ end → end < past → HasBit known end) where
    laid_end : (end : ℕ) → first ≤ end → end < past → Cover p others end to → IsLaid end
    laid_end end l m cover = elim (cases_eq (bit_at (get_or laid (end / 64) 0) (end % 64)) 1) [
      | inl set ↦ record { from_first = l; before = m; bit = set }
      | inr clear ↦
          let here = subst (λ bits. HasBit bits end) same_known (all end l m) in
          absurd (told.missed end here (λ one. clear (subst (λ bits. HasBit bits end) (sym same) one)) cover)
    ]

    covers_run : (some : Bool) → IsTrue some ↔ ((end : ℕ) × IsLaid end)
        → IsTrue some ↔ CoversBelow p argument others from to first past
    covers_run some is = (
      λ yes. let found = is.0 yes in
          let bit = found.1 in
          (found.0, bit.from_first, bit.before, fit found.0 bit.from_first bit.before, (laid_there found.0 bit).laid),
      λ (end, l, m, fits, cover). is.1 (end, laid_end end l m cover),
    )

    marked_run : (begin : ℕ) (new : CellMarks) → begin < first → AreMarkedToo marks new IsLaidCell
        → AreInRows new IsLaidCell → AreMarkedFrom begin marks new IsDemanded
    marked_run begin new behind marked rows = record {
      marked = record {
        problem = marked.problem;
        exact = λ cell. (
          λ now. ⊎_elim (λ was. inl was) (λ (end, bit, is). inr (demanded_run cell end bit is)) ((marked.exact cell).0 now),
          λ either. (marked.exact cell).1 (⊎_elim (λ was. inl was)
              (λ (end, l, m, fits, some). ⊎_elim
              (λ (is, cover). inr (end, laid_end end l m cover, is))
              (λ later.
              let bit = laid_end end l m (cover_of_demands p others end to cell later) in
              inl ((laid_there end bit).marked cell later)) some) either),
        );
        rows_stay = marked.rows_stay;
      };
      begun = λ cell here (end, l, m, fits, some). ⊎_elim
          (λ (is, cover). rows cell (end, laid_end end l m cover, is))
          (λ later. let after = begins_behind p others end to cell later in absurd (omega (arith, after, here, l, behind))) some;
    }

    -- once the ends of the run are gone through
    pub after_run : (some : Bool) → IsTrue some ↔ ((end : ℕ) × IsLaid end) → (begin : ℕ) (new : CellMarks) → begin < first
        → AreMarkedToo marks new IsLaidCell → AreInRows new IsLaidCell
        → (IsTrue some ↔ CoversBelow p argument others from to first past) × AreMarkedFrom begin marks new IsDemanded
    after_run some is begin new behind marked rows = (covers_run some is, marked_run begin new behind marked rows)
