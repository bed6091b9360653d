-- What straight arguments and alternatives leave marked in rows.
use Rattle.std.proofs.Common.{◌≡◌, ℕ, ◌+◌, ◌<◌, ◌≤◌, List, [], ◌∷◌, ◌++◌, length, refl, sym, ap, subst, inl, inr, ◌∙◌}
use Rattle.std.specs.List.{AllByRecursion}
use Rattle.adp_model.specs.declared.grammar.Arg.{Arg}
use Rattle.adp_model.specs.declared.grammar.Arg.TheVariants.{Rule, Literal, Letter, Run}
use Rattle.adp_model.specs.declared.cell.Cell.{Cell}
use Rattle.adp_model.specs.PosedProblem.{PosedProblem}
use Rattle.adp_model.specs.Parts.{alternatives_of, arguments_of}
use Rattle.adp_model.specs.Splits.{FitsSpan}
use Rattle.adp_model.specs.Demand.{IsDemandedChild}
use Rattle.viable_splits.specs.Placing.{on_span, Cover}
use Rattle.split_lines.specs.Laid.{Demands, DemandsBy, IsCellOf, IsFixed}
use Rattle.cell_tables.specs.Marks.{CellMarks, AreMarkedFrom}
use Rattle.cell_demands.specs.Rows.{AreMarkedInRows}
use Rattle.cell_demands.proofs.Fronts.{marked_behind_front}
use Rattle.cell_demands.proofs.LineDemands.{DemandsByFirst, all_alternatives, one_more_alternative, passed_over}
use Rattle.cell_demands.proofs.MarkSteps.{marked_in_rows, same_rule}
use Rattle.cell_demands.proofs.OneEnds.{marked_behind, marked_nowhere}
use Rattle.cell_demands.proofs.RowMarks.{rows_like}
use Rattle.suffix_cells.specs.Straight.{IsStraight}

-- ---- marks in rows are marks from each start

module _ (old new : CellMarks) (Holds : Cell → Type 0) where
  pub from_rows : AreMarkedInRows old new Holds → (begin : ℕ) → AreMarkedFrom begin old new Holds
  from_rows rows begin = marked_in_rows begin old new Holds rows.marked rows.in_rows

  pub to_rows : ((begin : ℕ) → AreMarkedFrom begin old new Holds) → AreMarkedInRows old new Holds
  to_rows from = record { marked = (from 0).marked; in_rows = λ cell holds. (from cell.from).begun cell refl holds }

-- ---- straight arguments

-- nothing stands behind a rule
pub alone : (arguments others : List Arg) (argument : Arg) (rule : ℕ) → arguments ≡ argument ∷ others → argument ≡ Rule rule → IsStraight arguments
    → arguments ≡ argument ∷ []
alone arguments others argument rule split is straight =
    split ∙ ap (λ xs. argument ∷ xs)
    (none others (subst (λ it. IsStraight (it ∷ others)) is (subst IsStraight split straight)))
  where
    none : (others : List Arg) → length others ≡ 0 → others ≡ []
    none [] empty = refl
    none (other ∷ others) empty = absurd cc

-- an argument in front that is no rule has fixed length
pub fixed_first : (argument : Arg) (others : List Arg) → ((rule : ℕ) → argument ≡ Rule rule → ⊥) → IsStraight (argument ∷ others)
    → IsFixed argument
fixed_first (Rule rule) others token straight = token rule refl
fixed_first (Literal text) others token straight = tt
fixed_first (Letter class) others token straight = tt
fixed_first (Run class low high) others token straight = straight

-- straight arguments behind a token
pub straight_others : (argument : Arg) (others : List Arg) → ((rule : ℕ) → argument ≡ Rule rule → ⊥) → IsStraight (argument ∷ others)
    → IsStraight others
straight_others (Rule rule) others token straight = absurd (token rule refl)
straight_others (Literal text) others token straight = straight
straight_others (Letter class) others token straight = straight
straight_others (Run class low high) others token straight = absurd straight

-- and behind tokens of fixed length
pub straight_behind : (front others : List Arg) → AllByRecursion IsFixed front → IsStraight (front ++ others) → IsStraight others
straight_behind [] others fixed straight = straight
straight_behind (Rule rule ∷ front) others fixed straight = absurd fixed.0
straight_behind (Literal text ∷ front) others fixed straight = straight_behind front others fixed.1 straight
straight_behind (Letter class ∷ front) others fixed straight = straight_behind front others fixed.1 straight
straight_behind (Run class low high ∷ front) others fixed straight = absurd fixed.0

-- ---- what they demand

module _ (p : PosedProblem) where
  -- the last argument, a rule
  module _ (argument : Arg) (rule from to : ℕ) (is : argument ≡ Rule rule) (fits : FitsSpan p (on_span argument from to)) where
    abbrev its_cell : Cell
    its_cell = record { rule = rule; from = from; to = to }

    pub rule_demanded : (cell : Cell) → cell ≡ its_cell → Demands p (argument ∷ []) from to cell
    rule_demanded cell same =
        (to, fits, inl (subst (IsCellOf argument from to) (sym same) (record { rule = is; begins = refl; ends = refl }), refl))

    demanded_rule : (cell : Cell) → Demands p (argument ∷ []) from to cell → cell ≡ its_cell
    demanded_rule cell (end, fits', inl (it, ends)) =
        let same = same_rule argument rule cell.rule is it.rule in
        λ k. record { rule = same k; from = sym it.begins k; to = (sym it.ends ∙ ends) k }
    demanded_rule cell (end, fits', inr none) = absurd none

    pub rule_marked : (old new : CellMarks) → AreMarkedInRows old new (λ cell. cell ≡ its_cell)
        → AreMarkedInRows old new (Demands p (argument ∷ []) from to)
    rule_marked old new = rows_like old new (λ cell. cell ≡ its_cell) (Demands p (argument ∷ []) from to) rule_demanded demanded_rule

  -- nothing
  pub nowhere : (argument : Arg) (others : List Arg) (from to : ℕ) (marks : CellMarks)
      → ((end : ℕ) → FitsSpan p (on_span argument from end) → Cover p others end to → ⊥)
      → AreMarkedInRows marks marks (Demands p (argument ∷ others) from to)
  nowhere argument others from to marks none =
      to_rows marks marks (Demands p (argument ∷ others) from to) (λ begin. marked_nowhere p argument others from to none begin marks)

  -- behind a token, and behind tokens in front
  pub behind_token : (token : Arg) (others : List Arg) (from to end : ℕ) → FitsSpan p (on_span token from end)
      → ((other : ℕ) → FitsSpan p (on_span token from other) → Cover p others other to → other ≡ end) → IsFixed token
      → (old new : CellMarks) → AreMarkedInRows old new (Demands p others end to)
      → AreMarkedInRows old new (Demands p (token ∷ others) from to)
  behind_token token others from to end fits only fixed old new rows =
      to_rows old new (Demands p (token ∷ others) from to)
      (λ begin. marked_behind p token others from to end fits only fixed begin old new (from_rows old new (Demands p others end to) rows begin))

  pub behind_front : (front others : List Arg) (from to : ℕ) → AllByRecursion IsFixed front → (end : ℕ) → Cover p front from end
      → ((other : ℕ) → Cover p front from other → other ≡ end)
      → (old new : CellMarks) → AreMarkedInRows old new (Demands p others end to)
      → AreMarkedInRows old new (Demands p (front ++ others) from to)
  behind_front front others from to fixed end covers only old new rows =
      to_rows old new (Demands p (front ++ others) from to)
      (λ begin. marked_behind_front p front others from to fixed end covers only begin old new
      (from_rows old new (Demands p others end to) rows begin))

-- ---- alternative by alternative

module _ (p : PosedProblem) (cell : Cell) where
  pub one_more : (count : ℕ) (first second third : CellMarks) → AreMarkedInRows first second (DemandsByFirst p cell count)
      → AreMarkedInRows second third (DemandsBy p cell count) → AreMarkedInRows first third (DemandsByFirst p cell (count + 1))
  one_more count first second third before here =
      to_rows first third (DemandsByFirst p cell (count + 1))
      (λ begin. one_more_alternative p cell begin count first second third
      (from_rows first second (DemandsByFirst p cell count) before begin) (from_rows second third (DemandsBy p cell count) here begin))

  pub passed : (count next : ℕ) (first second : CellMarks) → count ≤ next
      → ((alternative : ℕ) → count ≤ alternative → alternative < next → (child : Cell) → DemandsBy p cell alternative child → ⊥)
      → AreMarkedInRows first second (DemandsByFirst p cell count) → AreMarkedInRows first second (DemandsByFirst p cell next)
  passed count next first second ahead none rows =
      to_rows first second (DemandsByFirst p cell next)
      (λ begin. passed_over p cell begin count next first second ahead none (from_rows first second (DemandsByFirst p cell count) rows begin))

  pub all_of_them : ((alternative : ℕ) → length (arguments_of p.grammar cell.rule alternative) ≤ 4) → (first second : CellMarks)
      → AreMarkedInRows first second (DemandsByFirst p cell (length (alternatives_of p.grammar cell.rule)))
      → AreMarkedInRows first second (IsDemandedChild p cell)
  all_of_them few first second rows =
      to_rows first second (IsDemandedChild p cell)
      (λ begin. all_alternatives p cell few begin first second
      (from_rows first second (DemandsByFirst p cell (length (alternatives_of p.grammar cell.rule))) rows begin))
