-- Scores that numbers of a width stand for: which numbers there are, and what is told after one more is kept.
use Rattle.std.proofs.Common.{◌≡◌, ℕ, ◌<◌, ◌≤◌, ◌^◌, ℤ, nat_abs, MatchOption, Option, Some, None, List, slice_get}
use Rattle.std.proofs.Common.{length, refl, sym, ap, subst, inl, ◌∙◌, arith}
use Rattle.std.specs.Prelude.{IsSome, unwrap_or, IfSome}
use Rattle.std.specs.Option.{option_map}
use Rattle.std.proofs.lemmas.Option.{slice_get-map}
use Rattle.adp_model.specs.declared.grammar.Goal.{Goal}
use Rattle.adp_model.specs.declared.cell.Cell.{Cell}
use Rattle.adp_model.specs.declared.cell.Answer.TheVariants.{NoCandidate}
use Rattle.adp_model.specs.PosedProblem.{PosedProblem}
use Rattle.adp_model.specs.Answers.{IsAnswer}
use Rattle.adp_model.specs.Bellman.{HasBestScore}
use Rattle.adp_model.specs.Cells.{IsCounted}
use Rattle.adp_model.specs.Tree.{Tree}
use Rattle.adp_model.specs.Derivation.{Derives}
use Rattle.adp_model.specs.Scores.{score_of}
use Rattle.adp_model.specs.Checks.{IsChecked}
use Rattle.adp_model.specs.Bounds.{IsScoreBound}
use Rattle.adp_model.specs.ProblemFields.{IsAdmissible, most_letters}
use Rattle.cell_layouts.specs.declared.layout.Side.{Side}
use Rattle.cell_layouts.specs.declared.layout.Side.TheVariants.{Rows, Columns}
use Rattle.cell_tables.specs.Spans.{Spans, IsWritten, value_at}
use Rattle.cell_tables.specs.Tables.{Table, AreCells, in_row, in_column, spans_of}
use Rattle.cell_answers.specs.Entries.{HasEntry, IsEntry}
use Rattle.score_numbers.specs.Entries.{no_candidate}
use Rattle.score_numbers.specs.Packing.{Width, IsProper, told, told_list}
use Rattle.cell_answers.specs.PackedTables.{told_spans, told_table}
use Rattle.cell_answers.specs.ScoresFields.{AreWithin, IsOfWidth}
use Rattle.cell_answers.proofs.Told.{told_written, proper_written, told_some, value_told}
use Rattle.cell_answers.proofs.KeptScores.{entry_right, entry_now, entry_still}

some_there : (found : Option ℤ) (number : ℤ) → found ≡ Some number → IsSome found
some_there None number e = absurd cc
some_there (Some found) number e = refl

some_same : (found : Option ℤ) (a b : ℤ) → found ≡ Some a → found ≡ Some b → a ≡ b
some_same found a b e e' = cc

-- a new table has the mark everywhere
pub new_proper : (width : Width) (p : PosedProblem) (table : Table ℤ) → table.problem ≡ p → AreCells table → AreWithin p width.limit
    → ((cell : Cell) → IsCounted p.grammar (length p.word) cell → in_row table cell ≡ Some width.mark)
    → ((cell : Cell) → IsCounted p.grammar (length p.word) cell → in_column table cell ≡ Some width.mark) → IsOfWidth width table
new_proper width p table problem cells within rows columns = record {
  within = subst (λ q. AreWithin q width.limit) (sym problem) within;
  rows = λ rule near far number there.
      let cell : Cell = record { rule = rule; from = near; to = far } in
      let counted = subst (λ q. IsCounted q.grammar (length q.word) cell) problem
      ((cells.rows_are cell).0 (some_there (value_at table.rows rule near far) number there)) in
      inl (some_same (value_at table.rows rule near far) number width.mark there (rows cell counted));
  columns = λ rule near far number there.
      let cell : Cell = record { rule = rule; from = far; to = near } in
      let counted = subst (λ q. IsCounted q.grammar (length q.word) cell) problem
      ((cells.columns_are cell).0 (some_there (value_at table.columns rule near far) number there)) in
      inl (some_same (value_at table.columns rule near far) number width.mark there (columns cell counted));
}

-- a score that is right is within the limit
pub right_within : (p : PosedProblem) (cell : Cell) (limit : ℕ) (score : Option ℤ) → AreWithin p limit
    → MatchOption score (IsAnswer p cell NoCandidate) (HasBestScore p cell)
    → IfSome score (λ best. nat_abs best ≤ limit)
right_within p cell limit None within right = tt
right_within p cell limit (Some best) within right = within cell best right

module _ (old new : Table ℤ) (cell : Cell) (score : Option ℤ) (entry : ℤ) (limit : ℕ) (problem : new.problem ≡ old.problem)
    (row : IsWritten old.rows new.rows cell.rule cell.from cell.to entry) (column : IsWritten old.columns new.columns cell.rule cell.to cell.from entry)
    (is : entry ≡ unwrap_or score no_candidate) (right : MatchOption score (IsAnswer old.problem cell NoCandidate) (HasBestScore old.problem cell))
    (within : AreWithin old.problem limit) (low : limit < 2 ^ 63) where
  is_entry : IsEntry old.problem cell entry
  is_entry =
      let below : (best : ℤ) → HasBestScore old.problem cell best → nat_abs best < 2 ^ 63 = λ best has. omega (arith, within cell best has) in
      subst (IsEntry old.problem cell) (sym is) (entry_right old.problem cell score right below)

  pub has_now : HasEntry new cell
  has_now =
      subst (λ p. HasEntry (record { problem = p; rows = new.rows; columns = new.columns }) cell) (sym problem)
      (entry_now old new.rows new.columns cell entry row column is_entry)

  pub has_still : (other : Cell) → HasEntry old other → HasEntry new other
  has_still other has =
      subst (λ p. HasEntry (record { problem = p; rows = new.rows; columns = new.columns }) other) (sym problem)
      (entry_still old new.rows new.columns cell entry row column is_entry other has)

-- what keeps a number of a width leaves
module _ (width : Width) (goal : Goal) (old new : Table ℤ) (cell : Cell) (score : Option ℤ) (number : ℤ) (problem : new.problem ≡ old.problem)
    (row : IsWritten old.rows new.rows cell.rule cell.from cell.to number) (column : IsWritten old.columns new.columns cell.rule cell.to cell.from number)
    (is : told width goal number ≡ unwrap_or score no_candidate) (proper : IsProper width number)
    (right : MatchOption score (IsAnswer old.problem cell NoCandidate) (HasBestScore old.problem cell))
    (of_width : IsOfWidth width old) (low : width.limit < 2 ^ 63) where
  pub width_kept : IsOfWidth width new
  width_kept = record {
    within = subst (λ q. AreWithin q width.limit) (sym problem) of_width.within;
    rows = proper_written width old.rows new.rows cell.rule cell.from cell.to number row proper of_width.rows;
    columns = proper_written width old.columns new.columns cell.rule cell.to cell.from number column proper of_width.columns;
  }

  told_row : IsWritten (told_spans width goal old.rows) (told_spans width goal new.rows) cell.rule cell.from cell.to (told width goal number)
  told_row = told_written width goal old.rows new.rows cell.rule cell.from cell.to number row

  told_column : IsWritten (told_spans width goal old.columns) (told_spans width goal new.columns) cell.rule cell.to cell.from (told width goal number)
  told_column = told_written width goal old.columns new.columns cell.rule cell.to cell.from number column

  pub told_now : HasEntry (told_table width goal new) cell
  told_now =
      has_now (told_table width goal old) (told_table width goal new) cell score (told width goal number) width.limit
      problem told_row told_column is right of_width.within low

  pub told_still : (other : Cell) → HasEntry (told_table width goal old) other → HasEntry (told_table width goal new) other
  told_still =
      has_still (told_table width goal old) (told_table width goal new) cell score (told width goal number) width.limit
      problem told_row told_column is right of_width.within low

pub spans_told : (width : Width) (goal : Goal) (table : Table ℤ) (side : Side)
    → spans_of (told_table width goal table) side ≡ told_spans width goal (spans_of table side)
spans_told width goal table Rows = λ i. told_spans width goal table.rows
spans_told width goal table Columns = λ i. told_spans width goal table.columns

-- best scores are within a limit that the score bound keeps
pub best_low : (p : PosedProblem) → IsAdmissible p
    → ((q : PosedProblem) (least : List ℕ) (greatest : List (Option ℕ)) (ranks : List ℕ)
    → IsChecked q.grammar q.algebra least greatest ranks → length q.word ≤ most_letters → (number : ℕ)
    → IsScoreBound q.grammar q.algebra (length q.word) number
    → (cell : Cell) (tree : Tree) → Derives q cell tree → nat_abs (score_of q tree) ≤ number)
    → (number limit : ℕ) → IsScoreBound p.grammar p.algebra (length p.word) number → number ≤ limit → AreWithin p limit
best_low p admissible law number limit bound low cell best has =
    let bounded = law p admissible.least admissible.greatest admissible.ranks admissible.checked
    admissible.limits.letters number bound cell has.1.0 has.1.1.derived in
    omega (arith, ap nat_abs has.1.2, bounded)

-- entries among numbers between two far ends
pub told_between : (width : Width) (goal : Goal) (numbers : List ℤ) (position : ℕ) (spans : Spans ℤ) (rule near far : ℕ)
    → slice_get numbers position ≡ value_at spans rule near far
    → slice_get (told_list width goal numbers) position ≡ value_at (told_spans width goal spans) rule near far
told_between width goal numbers position spans rule near far e =
    slice_get-map (told width goal) numbers position ∙ ap (option_map (told width goal)) e ∙ sym (value_told width goal spans rule near far)

pub some_untold : (width : Width) (goal : Goal) (spans : Spans ℤ) (rule near far : ℕ)
    → IsSome (value_at (told_spans width goal spans) rule near far) → IsSome (value_at spans rule near far)
some_untold width goal spans rule near far some =
    told_some (told width goal) (value_at spans rule near far) (subst IsSome (value_told width goal spans rule near far) some)
