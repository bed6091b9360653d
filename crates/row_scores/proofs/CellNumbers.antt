-- The number of a cell: what all alternatives give it at most, settled.
use Rattle.std.proofs.Common.{◌≡◌, ℕ, ◌<◌, ◌≤◌, ◌^◌, ℤ, ◌<ℤ◌, ◌≤ℤ◌, nat_abs, IsTrue, Option, Some, None, List, length, slice_get, sym, ap, subst, ◌∙◌, inl, inr, arith}
use Rattle.std.specs.Option.{option_map}
use Rattle.std.proofs.lemmas.Int.{ints}
use Rattle.adp_model.specs.declared.grammar.Goal.{Goal}
use Rattle.adp_model.specs.declared.grammar.Grammar.{Grammar}
use Rattle.adp_model.specs.declared.cell.Answer.{Answer}
use Rattle.adp_model.specs.declared.cell.Answer.TheVariants.{Best, NoCandidate}
use Rattle.adp_model.specs.declared.cell.Cell.{Cell}
use Rattle.adp_model.specs.declared.cell.Choice.{Choice}
use Rattle.adp_model.specs.PosedProblem.{PosedProblem, IsSpan}
use Rattle.adp_model.specs.Answers.{IsAnswer}
use Rattle.adp_model.specs.Bellman.{Bellman, HasBestScore}
use Rattle.adp_model.specs.Bounds.{IsScoreBound}
use Rattle.adp_model.specs.Cells.{IsCounted}
use Rattle.adp_model.specs.Checks.{IsChecked}
use Rattle.adp_model.specs.Demand.{IsDemanded}
use Rattle.adp_model.specs.Derivation.{Derives}
use Rattle.adp_model.specs.Parts.{algebra_of, alternatives_of, arguments_of}
use Rattle.adp_model.specs.ProblemFields.{IsAdmissible, most_letters}
use Rattle.adp_model.specs.Scores.{score_of}
use Rattle.adp_model.specs.Tree.{Tree}
use Rattle.adp_model.specs.WellFormed.{is_well_formed}
use Rattle.cell_tables.specs.Tables.{AreCells, Table, in_column, in_row}
use Rattle.cell_answers.specs.Entries.{HasEntry, IsEntry}
use Rattle.cell_answers.specs.PackedTables.{told_table}
use Rattle.cell_answers.specs.ScoresFields.{AreWithin, IsOfWidth}
use Rattle.cell_answers.proofs.BestSplits.{not_greater}
use Rattle.cell_answers.proofs.KeptScores.{entry_right}
use Rattle.cell_answers.proofs.PackedScores.{best_low, new_proper}
use Rattle.cell_answers.proofs.Scoring.{scored_in, turned_in, turned_low, turned_twice}
use Rattle.cell_answers.proofs.Told.{told_mark, told_score, value_told}
use Rattle.score_numbers.specs.Packing.{Width, told}
use Rattle.score_numbers.specs.Turned.{turned}
use Rattle.score_rows.specs.Numbers.{StandsFor, least}
use Rattle.row_scores.specs.Ready.{IsLowProblem}
use Rattle.row_scores.specs.RowNumbers.{HasCellNumber, IsNumberOf}
use Rattle.row_scores.specs.RowRules.{GivesBefore, IsRowOf}
use Rattle.row_scores.specs.Sweeps.{AreFilled, AreNumbers, IsAny, IsSettled}

-- the score bound of words bounds the scores of their trees
abbrev pub BoundsKeep : Type 0
BoundsKeep =
    (q : PosedProblem) (least : List ℕ) (greatest : List (Option ℕ)) (ranks : List ℕ) → IsChecked q.grammar q.algebra least greatest ranks
    → length q.word ≤ most_letters → (number : ℕ) → IsScoreBound q.grammar q.algebra (length q.word) number
    → (cell : Cell) (tree : Tree) → Derives q cell tree → nat_abs (score_of q tree) ≤ number

pub low_scores : (p : PosedProblem) → IsAdmissible p → BoundsKeep → (width : Width) → IsLowProblem p width → AreWithin p width.limit
low_scores p admissible keep width low = best_low p admissible keep low.bound width.limit low.is_bound low.low

module _ (p : PosedProblem) (bellman : Bellman p) (cell : Cell) (span : IsSpan p.word cell.from cell.to)
    (some : (alternative : ℕ) → alternative < length (alternatives_of p.grammar cell.rule) → 1 ≤ length (arguments_of p.grammar cell.rule alternative))
    (few : (alternative : ℕ) → length (arguments_of p.grammar cell.rule alternative) ≤ 4)
    (width : Width) (within : AreWithin p width.limit) where
  abbrev goal : Goal
  goal = (algebra_of p).goal

  abbrev Gives : ℤ → Type 0
  Gives = GivesBefore p cell (length (alternatives_of p.grammar cell.rule))

  -- the best score is given by an alternative
  best_given : (best : ℤ) (choice : Choice) → IsAnswer p cell (Best best choice) → Gives (turned goal best)
  best_given best choice is =
      let split = (bellman.only cell (Best best choice) span is).1 in
      (choice.alt, split.viable.in_range, scored_in p bellman cell span some few best choice split)

  -- and none gives more
  given_low : (best : ℤ) (choice : Choice) → IsAnswer p cell (Best best choice) → (number : ℤ) → Gives number → number ≤ℤ turned goal best
  given_low best choice is number (alternative, in_range, has) =
      let first = bellman.only cell (Best best choice) span is in
      let split = turned_in p bellman cell span some few number alternative in_range has in
      not_greater p bellman cell span some few choice.alt first.1.viable.in_range best (choice.cuts, is) number
      (λ better. first.2 (turned goal number) (record { alt = alternative; cuts = split.0 }) tt split.1 (inl better))

  none_given : IsAnswer p cell NoCandidate → (number : ℤ) → Gives number → ⊥
  none_given is number (alternative, in_range, has) =
      let split = turned_in p bellman cell span some few number alternative in_range has in
      bellman.only cell NoCandidate span is (turned goal number) (record { alt = alternative; cuts = split.0 }) tt split.1

  -- the greatest that is given is the best score, turned
  best_number : (number best : ℤ) (choice : Choice) → IsAnswer p cell (Best best choice) → number ≡ turned goal best → IsNumberOf width p cell number
  best_number number best choice is same =
      let size : nat_abs (turned goal best) ≡ nat_abs best = turned_low goal best in
      let low : nat_abs best ≤ width.limit = within cell best (choice, is) in
      let same_size = ap nat_abs same in
      inr (omega (arith, same_size, size, low), subst (HasBestScore p cell) (sym (ap (turned goal) same ∙ turned_twice goal best)) (choice, is))

  pub settled_number : (number settled : ℤ) → StandsFor width Gives number → IsSettled width number settled → IsNumberOf width p cell settled
  settled_number number settled stands is = by (bellman.answered cell span) stands is
    where
      by : (answer : Answer) × IsAnswer p cell answer → StandsFor width Gives number → IsSettled width number settled → IsNumberOf width p cell settled
      by (NoCandidate, none) (inl (dead, empty)) (inl (live, same)) = absurd (omega (arith, ints, dead, live))
      by (NoCandidate, none) (inl (dead, empty)) (inr (dead', mark)) = inl (mark, none)
      by (NoCandidate, none) (inr (live, greatest)) is' = absurd (none_given none number greatest.0)
      by (Best best choice, answer) (inl (dead, empty)) is' = absurd (empty (turned goal best) (best_given best choice answer))
      by (Best best choice, answer) (inr (live, greatest)) (inr (dead, mark)) = absurd (omega (arith, ints, dead, live))
      by (Best best choice, answer) (inr (live, greatest)) (inl (live', same)) =
          let up = greatest.1 (turned goal best) (best_given best choice answer) in
          let down = given_low best choice answer number greatest.0 in
          let equal : number ≡ turned goal best = omega (arith, ints, up, down) in
          best_number settled best choice answer (same ∙ equal)

-- of a cell of the row that all alternatives were put into
pub row_number : (p : PosedProblem) (admissible : IsAdmissible p) → Bellman p → BoundsKeep
    → ((grammar : Grammar) → IsTrue (is_well_formed grammar) → (rule alternative : ℕ) → alternative < length (alternatives_of grammar rule)
    → 1 ≤ length (arguments_of grammar rule alternative))
    → ((grammar : Grammar) → IsTrue (is_well_formed grammar) → (rule alternative : ℕ) → length (arguments_of grammar rule alternative) ≤ 4)
    → (width : Width) → IsLowProblem p width → (rule from count : ℕ) → count ≡ length (alternatives_of p.grammar rule)
    → (row : List ℤ) → IsRowOf p width rule from count row
    → (to : ℕ) → IsDemanded p (record { rule = rule; from = from; to = to })
    → IsCounted p.grammar (length p.word) (record { rule = rule; from = from; to = to })
    → (number settled : ℤ) → slice_get row to ≡ Some number → IsSettled width number settled
    → IsNumberOf width p (record { rule = rule; from = from; to = to }) settled
row_number p admissible bellman keep some few width low rule from count all row is to demanded counted number settled there settles =
    let cell : Cell = record { rule = rule; from = from; to = to } in
    let whole : IsRowOf p width rule from (length (alternatives_of p.grammar rule)) row = subst (λ n. IsRowOf p width rule from n row) all is in
    settled_number p bellman cell (record { in_order = counted.in_order; in_word = counted.in_word }) (some p.grammar admissible.checked.well_formed rule)
    (few p.grammar admissible.checked.well_formed rule) width (low_scores p admissible keep width low) number settled
    (whole.stand to number demanded there) settles

-- ---- the entry of a cell that has its number

module _ (width : Width) (dead : width.mark <ℤ least width) (short : width.limit < 2 ^ 63) (goal : Goal) (table : Table ℤ)
    (same_goal : goal ≡ (algebra_of table.problem).goal) (within : AreWithin table.problem width.limit) where
  below : (cell : Cell) (best : ℤ) → HasBestScore table.problem cell best → nat_abs best < 2 ^ 63
  below cell best has = omega (arith, within cell best has, short)

  told_entry : (cell : Cell) (number : ℤ) → IsNumberOf width table.problem cell number → IsEntry table.problem cell (told width goal number)
  told_entry cell number (inl (mark, none)) =
      subst (IsEntry table.problem cell) (sym (told_mark width goal number mark)) (entry_right table.problem cell None none (below cell))
  told_entry cell number (inr (low, best)) =
      let apart : number ≡ width.mark → ⊥ = λ mark. omega (arith, ints, low, mark, dead) in
      let is : told width goal number ≡ turned (algebra_of table.problem).goal number =
      told_score width goal number apart ∙ ap (λ g. turned g number) same_goal in
      subst (IsEntry table.problem cell) (sym is) (entry_right table.problem cell (Some (turned (algebra_of table.problem).goal number)) best (below cell))

  pub has_entry : (cell : Cell) → HasCellNumber width (λ number. number) table cell → HasEntry (told_table width goal table) cell
  has_entry cell has = record {
    entry = told width goal has.item;
    in_row = value_told width goal table.rows cell.rule cell.from cell.to ∙ ap (option_map (told width goal)) has.in_row;
    in_column = value_told width goal table.columns cell.rule cell.to cell.from ∙ ap (option_map (told width goal)) has.in_column;
    is_entry = told_entry cell has.item has.is;
  }

pub of_width : (width : Width) (p : PosedProblem) (table : Table ℤ) → AreNumbers width (λ number. number) p table → AreWithin p width.limit
    → IsOfWidth width table
of_width width p table are within = record {
  within = subst (λ q. AreWithin q width.limit) (sym are.problem) within;
  rows = are.rows;
  columns = are.columns;
}

-- a new table has numbers of the width
pub fresh_numbers : (width : Width) (p q : PosedProblem) → q ≡ p → AreWithin p width.limit → (table : Table ℤ) → table.problem ≡ q → AreCells table
    → ((cell : Cell) → IsCounted q.grammar (length q.word) cell → in_row table cell ≡ Some width.mark)
    → ((cell : Cell) → IsCounted q.grammar (length q.word) cell → in_column table cell ≡ Some width.mark) → AreNumbers width (λ number. number) p table
fresh_numbers width p q same within table problem cells rows columns =
    let it = new_proper width q table problem cells (subst (λ r. AreWithin r width.limit) (sym same) within) rows columns in
    record { problem = problem ∙ same; rows = it.rows; columns = it.columns }

-- where all demanded cells have their numbers they have their entries
pub scored : (width : Width) → width.mark <ℤ least width → width.limit < 2 ^ 63 → (p : PosedProblem) → AreWithin p width.limit
    → (goal : Goal) → goal ≡ (algebra_of p).goal → (table : Table ℤ) → AreFilled width (λ number. number) p table IsAny
    → (cell : Cell) → IsDemanded p cell → HasEntry (told_table width goal table) cell
scored width dead short p within goal same table filled cell demanded =
    has_entry width dead short goal table (same ∙ ap (λ (q : PosedProblem). (algebra_of q).goal) (sym filled.numbers.problem))
    (subst (λ q. AreWithin q width.limit) (sym filled.numbers.problem) within) cell (filled.filled cell demanded tt)
