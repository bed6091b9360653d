-- The ends of a row that an alternative allows, and what all its alternatives demand.
use Rattle.std.proofs.Common.{◌≡◌, ◌⊎◌, ℕ, ◌+◌, ◌-◌, ◌≤◌, List, [], ◌∷◌, length, subst, inl, inr, ⊎_elim, arith}
use Rattle.std.proofs.lemmas.Bool.{cases_lt}
use Rattle.adp_model.specs.declared.cell.Cell.{Cell}
use Rattle.adp_model.specs.declared.grammar.Arg.{Arg}
use Rattle.adp_model.specs.PosedProblem.{PosedProblem}
use Rattle.adp_model.specs.Parts.{alternative_at, alternatives_of, arguments_of}
use Rattle.viable_splits.specs.Placing.{Cover}
use Rattle.split_lines.specs.declared.kept.Lengths.{Lengths}
use Rattle.split_lines.specs.Kept.{HasLengths, IsAmong as HasLength}
use Rattle.split_lines.specs.Laid.{Demands, DemandsBy}
use Rattle.cell_tables.specs.Marks.{CellMarks}
use Rattle.cell_demands.specs.PlaceBits.{HasBit}
use Rattle.cell_demands.specs.Rows.{AreMarkedInRows, DemandsOfLengths, DemandsOfRow, IsChildOfEnds}
use Rattle.cell_demands.proofs.Dividing.{cover_forward}
use Rattle.cell_demands.proofs.LineDemands.{DemandsByFirst, child_of_first, cover_of_demands, first_of_child}
use Rattle.cell_demands.proofs.RowMarks.{rows_like, rows_more}

-- what arguments cover ends in the word
pub cover_within : (p : PosedProblem) (argument : Arg) (arguments : List Arg) (from to : ℕ) → Cover p (argument ∷ arguments) from to → to ≤ length p.word
cover_within p argument [] from to (end, fits, same) = omega (arith, fits.0.in_word, same)
cover_within p argument (next ∷ arguments) from to (end, fits, cover) = cover_within p next arguments end to cover

pub demands_within : (p : PosedProblem) (arguments : List Arg) (from to : ℕ) (cell : Cell) → Demands p arguments from to cell
    → (from ≤ to) × (to ≤ length p.word)
demands_within p [] from to cell none = absurd none
demands_within p (argument ∷ arguments) from to cell demands =
    let cover = cover_of_demands p (argument ∷ arguments) from to cell demands in
    (cover_forward p (argument ∷ arguments) from to cover, cover_within p argument arguments from to cover)

-- from one position, to ends of these lengths
module _ (p : PosedProblem) (arguments : List Arg) (lengths : Lengths) (from : ℕ) (ends : List ℕ)
    (IsHere IsWanted : ℕ → Type 0) (only : (at : ℕ) → IsHere at → at ≡ from) (here : IsHere from)
    (wanted : (to : ℕ) → IsWanted to → HasBit ends to × HasLength lengths (to - from))
    (is_wanted : (to : ℕ) → from ≤ to → to ≤ length p.word → HasBit ends to → HasLength lengths (to - from) → IsWanted to) where
  pub lengths_of_row : (cell : Cell) → DemandsOfRow p arguments IsHere IsWanted cell → DemandsOfLengths p arguments lengths from ends cell
  lengths_of_row cell (at, to, is, want, demands) =
      let told = wanted to want in
      (to, told.0, told.1, subst (λ k. Demands p arguments k to cell) (only at is) demands)

  pub row_of_lengths : (cell : Cell) → DemandsOfLengths p arguments lengths from ends cell → DemandsOfRow p arguments IsHere IsWanted cell
  row_of_lengths cell (to, bit, length, demands) =
      let within = demands_within p arguments from to cell demands in
      (from, to, here, is_wanted to within.0 within.1 bit length, demands)

  pub lengths_marked : (old new : CellMarks) → AreMarkedInRows old new (DemandsOfRow p arguments IsHere IsWanted)
      → AreMarkedInRows old new (DemandsOfLengths p arguments lengths from ends)
  lengths_marked old new =
      rows_like old new (DemandsOfRow p arguments IsHere IsWanted) (DemandsOfLengths p arguments lengths from ends) lengths_of_row row_of_lengths

-- ---- alternative by alternative

module _ (p : PosedProblem) (rule from : ℕ) (ends : List ℕ) where
  abbrev cell_to : ℕ → Cell
  cell_to to = record { rule = rule; from = from; to = to }

  -- one of the first alternatives, on a cell of the row
  abbrev pub IsChildByFirst : ℕ → Cell → Type 0
  IsChildByFirst count child = (to : ℕ) × HasBit ends to × DemandsByFirst p (cell_to to) count child

  module _ (alternative : ℕ) (lengths : Lengths) (few : length p.word ≤ 4000)
      (has : HasLengths (alternative_at p.grammar rule alternative) lengths) where
    abbrev By : Cell → Type 0
    By = DemandsOfLengths p (arguments_of p.grammar rule alternative) lengths from ends

    pub demands_of_lengths : (child : Cell) → By child → (to : ℕ) × HasBit ends to × DemandsBy p (cell_to to) alternative child
    demands_of_lengths child (to, bit, length, demands) =
        let within = demands_within p (arguments_of p.grammar rule alternative) from to child demands in
        (to, bit, ((has (to - from) (omega (arith, within, few))).1 length, demands))

    lengths_of_demands : (child : Cell) (to : ℕ) → HasBit ends to → DemandsBy p (cell_to to) alternative child → By child
    lengths_of_demands child to bit (allowed, demands) =
        let within = demands_within p (arguments_of p.grammar rule alternative) from to child demands in
        (to, bit, (has (to - from) (omega (arith, within, few))).0 allowed, demands)

    pub one_more_of_row : (first second third : CellMarks) → AreMarkedInRows first second (IsChildByFirst alternative)
        → AreMarkedInRows second third By → AreMarkedInRows first third (IsChildByFirst (alternative + 1))
    one_more_of_row first second third before after =
        rows_like first third (λ child. IsChildByFirst alternative child ⊎ By child) (IsChildByFirst (alternative + 1))
        (λ child some. ⊎_elim
        (λ (to, bit, (number, l, demands)). (to, bit, (number, omega arith, demands)))
        (λ by. let it = demands_of_lengths child by in (it.0, it.1, (alternative, omega arith, it.2))) some)
        (λ child (to, bit, (number, l, demands)). ⊎_elim
        (λ early. inl (to, bit, (number, early, demands)))
        (λ late.
        let same : number ≡ alternative = omega (arith, l, late) in
        inr (lengths_of_demands child to bit (subst (λ n. DemandsBy p (cell_to to) n child) same demands)))
        (cases_lt number alternative))
        (rows_more first second third (IsChildByFirst alternative) By before after)

  -- all of them
  pub all_of_row : (few : (alternative : ℕ) → length (arguments_of p.grammar rule alternative) ≤ 4) (old new : CellMarks)
      → AreMarkedInRows old new (IsChildByFirst (length (alternatives_of p.grammar rule)))
      → AreMarkedInRows old new (IsChildOfEnds p rule from ends)
  all_of_row few old new =
      rows_like old new (IsChildByFirst (length (alternatives_of p.grammar rule))) (IsChildOfEnds p rule from ends)
      (λ child (to, bit, first). (to, bit, child_of_first p (cell_to to) few child first))
      (λ child (to, bit, is). (to, bit, first_of_child p (cell_to to) few child is))
