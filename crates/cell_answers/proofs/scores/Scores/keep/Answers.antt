use Rattle.std.proofs.Common.{◌≡◌, ◌<◌, ◌^◌, ◌-◌, ℤ, MatchOption, Option, length, FitsSigned, w16, w32, w64, rules, refl, sym, ap, subst, ◌∙◌, arith}
use Rattle.std.proofs.lemmas.Int.{to_z-of_z}
use Rattle.adp_model.specs.declared.cell.Cell.{Cell}
use Rattle.adp_model.specs.declared.cell.Answer.TheVariants.{NoCandidate}
use Rattle.adp_model.specs.PosedProblem.{PosedProblem}
use Rattle.adp_model.specs.Answers.{IsAnswer}
use Rattle.adp_model.specs.Bellman.{HasBestScore}
use Rattle.adp_model.specs.Cells.{IsCounted}
use Rattle.cell_answers.specs.declared.scores.Packed.{Packed}
use Rattle.cell_answers.specs.declared.scores.Packed.TheVariants.{Short, Medium, Long, Whole}
use Rattle.cell_answers.specs.declared.scores.Scores.TheInside.{Inside}
use Rattle.cell_tables.specs.Spans.{IsWritten}
use Rattle.cell_tables.specs.Tables.{Table}
use Rattle.cell_answers.specs.Entries.{HasEntry}
use Rattle.score_numbers.specs.Packing.{short, medium, long}
use Rattle.cell_answers.specs.PackedTables.{told_table}
use Rattle.cell_answers.specs.ScoresFields.{IsPacked, IsOfWidth, AreScores, AreWithin, scores_table, table_of}
use Rattle.cell_answers.proofs.PackedScores.{right_within, has_now, has_still, width_kept, told_now, told_still}
use Rattle.cell_answers.proofs.scores.Scores.keep.Goals as goal
use Rattle.cell_answers.proofs.scores.Scores.keep.Goals.{in-Short, in-Medium, in-Long, in-Whole}

-- the problem of the scores is that of the table within
problem_is : (inside : Inside) (packed : Packed) (now : Table ℤ) → scores_table inside ≡ now → inside.packed ≡ packed
    → now.problem ≡ (table_of inside.goal packed).problem
problem_is inside packed now view is = ap (λ (t : Table ℤ). t.problem) (sym view) ∙ ap (λ p. (table_of inside.goal p).problem) is

counted_within : (inside : Inside) (packed : Packed) (now : Table ℤ) (cell : Cell) → scores_table inside ≡ now
    → inside.packed ≡ packed → IsCounted now.problem.grammar (length now.problem.word) cell
    → IsCounted (table_of inside.goal packed).problem.grammar (length (table_of inside.goal packed).problem.word) cell
counted_within inside packed now cell view is counted =
    subst (λ (p : PosedProblem). IsCounted p.grammar (length p.word) cell) (problem_is inside packed now view is) counted

-- what is right of the scores is right of the table within
within_right : (inside : Inside) (packed : Packed) (now table : Table ℤ) (cell : Cell) (score : Option ℤ)
    → scores_table inside ≡ now → inside.packed ≡ packed → table_of inside.goal packed ≡ table
    → MatchOption score (IsAnswer now.problem cell NoCandidate) (HasBestScore now.problem cell)
    → MatchOption score (IsAnswer table.problem cell NoCandidate) (HasBestScore table.problem cell)
within_right inside packed now table cell score view is told right =
    let same : now.problem ≡ table.problem = problem_is inside packed now view is ∙ ap (λ (t : Table ℤ). t.problem) told in
    subst (λ (p : PosedProblem). MatchOption score (IsAnswer p cell NoCandidate) (HasBestScore p cell)) same right

pub short_number-requires : goal.short_number-requires
short_number-requires c =
    let table = c.in-Short.table in
    let of_width : IsOfWidth short table = subst IsPacked c.in-Short.is c.self.invariant in
    let right = within_right c.self.inside (Short table) c.args.self.now (told_table short c.self.inside.goal table)
    c.args.cell c.args.score c.self.view_is c.in-Short.is refl c.requires.right in
    right_within table.problem c.args.cell short.limit c.args.score of_width.within right

pub medium_number-requires : goal.medium_number-requires
medium_number-requires c =
    let table = c.in-Medium.table in
    let of_width : IsOfWidth medium table = subst IsPacked c.in-Medium.is c.self.invariant in
    let right = within_right c.self.inside (Medium table) c.args.self.now (told_table medium c.self.inside.goal table)
    c.args.cell c.args.score c.self.view_is c.in-Medium.is refl c.requires.right in
    right_within table.problem c.args.cell medium.limit c.args.score of_width.within right

pub long_number-requires : goal.long_number-requires
long_number-requires c =
    let table = c.in-Long.table in
    let of_width : IsOfWidth long table = subst IsPacked c.in-Long.is c.self.invariant in
    let right = within_right c.self.inside (Long table) c.args.self.now (told_table long c.self.inside.goal table)
    c.args.cell c.args.score c.self.view_is c.in-Long.is refl c.requires.right in
    right_within table.problem c.args.cell long.limit c.args.score of_width.within right

pub put-requires : goal.put-requires
put-requires c = counted_within c.self.inside (Short c.in-Short.table) c.args.self.now c.args.cell c.self.view_is c.in-Short.is c.requires.counted

pub put-requires-in-Medium : goal.put-requires-in-Medium
put-requires-in-Medium c = counted_within c.self.inside (Medium c.in-Medium.table) c.args.self.now c.args.cell c.self.view_is c.in-Medium.is c.requires.counted

pub put-requires-in-Long : goal.put-requires-in-Long
put-requires-in-Long c = counted_within c.self.inside (Long c.in-Long.table) c.args.self.now c.args.cell c.self.view_is c.in-Long.is c.requires.counted

pub put-requires-in-Whole : goal.put-requires-in-Whole
put-requires-in-Whole c = counted_within c.self.inside (Whole c.in-Whole.table) c.args.self.now c.args.cell c.self.view_is c.in-Whole.is c.requires.counted

pub returns-clause-problem : goal.returns-clause-problem
returns-clause-problem c =
    let now = c.args.self.now in
    let P : Inside → PosedProblem = λ inside. (scores_table inside).problem in
    elim c.match-self.branch [
      | in-Short w ↦ ap P w.self-inside-is ∙ w.put.ensures.problem ∙ sym (problem_is c.self.inside (Short w.in-Short.table) now c.self.view_is w.in-Short.is)
      | in-Medium w ↦ ap P w.self-inside-is ∙ w.put-in-Medium.ensures.problem
          ∙ sym (problem_is c.self.inside (Medium w.in-Medium.table) now c.self.view_is w.in-Medium.is)
      | in-Long w ↦ ap P w.self-inside-is ∙ w.put-in-Long.ensures.problem
          ∙ sym (problem_is c.self.inside (Long w.in-Long.table) now c.self.view_is w.in-Long.is)
      | in-Whole w ↦ ap P w.self-inside-is ∙ w.put-in-Whole.ensures.problem
          ∙ sym (problem_is c.self.inside (Whole w.in-Whole.table) now c.self.view_is w.in-Whole.is)
    ]

pub invariant_of-self : goal.invariant_of-self
invariant_of-self c = elim c.match-self.branch [
  | in-Short w ↦
      let old = w.in-Short.table in
      let new = w.put.new.self in
      let goal = c.self.inside.goal in
      let cell = c.args.cell in
      let number = w.short_number.result in
      let fits : FitsSigned w16 number = search rules in
      let R : ℤ → Type 0 = λ value. IsWritten old.rows new.rows cell.rule cell.from cell.to value in
      let C : ℤ → Type 0 = λ value. IsWritten old.columns new.columns cell.rule cell.to cell.from value in
      let row : IsWritten old.rows new.rows cell.rule cell.from cell.to number = subst R (to_z-of_z w16 number fits) w.put.ensures.row in
      let column : IsWritten old.columns new.columns cell.rule cell.to cell.from number = subst C (to_z-of_z w16 number fits) w.put.ensures.column in
      let of_width : IsOfWidth short old = subst IsPacked w.in-Short.is c.self.invariant in
      let right = within_right c.self.inside (Short old) c.args.self.now (told_table short goal old) cell c.args.score
      c.self.view_is w.in-Short.is refl c.requires.right in
      let low : short.limit < 2 ^ 63 = omega arith in
      subst AreScores (sym w.self-inside-is)
      (width_kept short goal old new cell c.args.score number w.put.ensures.problem row column
      w.short_number.ensures.told w.short_number.ensures.proper right of_width low)
  | in-Medium w ↦
      let old = w.in-Medium.table in
      let new = w.put-in-Medium.new.self in
      let goal = c.self.inside.goal in
      let cell = c.args.cell in
      let number = w.medium_number.result in
      let fits : FitsSigned w32 number = search rules in
      let R : ℤ → Type 0 = λ value. IsWritten old.rows new.rows cell.rule cell.from cell.to value in
      let C : ℤ → Type 0 = λ value. IsWritten old.columns new.columns cell.rule cell.to cell.from value in
      let row : IsWritten old.rows new.rows cell.rule cell.from cell.to number = subst R (to_z-of_z w32 number fits) w.put-in-Medium.ensures.row in
      let column : IsWritten old.columns new.columns cell.rule cell.to cell.from number = subst C (to_z-of_z w32 number fits) w.put-in-Medium.ensures.column in
      let of_width : IsOfWidth medium old = subst IsPacked w.in-Medium.is c.self.invariant in
      let right = within_right c.self.inside (Medium old) c.args.self.now (told_table medium goal old) cell c.args.score
      c.self.view_is w.in-Medium.is refl c.requires.right in
      let low : medium.limit < 2 ^ 63 = omega arith in
      subst AreScores (sym w.self-inside-is)
      (width_kept medium goal old new cell c.args.score number w.put-in-Medium.ensures.problem row column
      w.medium_number.ensures.told w.medium_number.ensures.proper right of_width low)
  | in-Long w ↦
      let old = w.in-Long.table in
      let new = w.put-in-Long.new.self in
      let goal = c.self.inside.goal in
      let cell = c.args.cell in
      let number = w.long_number.result in
      let fits : FitsSigned w64 number = search rules in
      let R : ℤ → Type 0 = λ value. IsWritten old.rows new.rows cell.rule cell.from cell.to value in
      let C : ℤ → Type 0 = λ value. IsWritten old.columns new.columns cell.rule cell.to cell.from value in
      let row : IsWritten old.rows new.rows cell.rule cell.from cell.to number = subst R (to_z-of_z w64 number fits) w.put-in-Long.ensures.row in
      let column : IsWritten old.columns new.columns cell.rule cell.to cell.from number = subst C (to_z-of_z w64 number fits) w.put-in-Long.ensures.column in
      let of_width : IsOfWidth long old = subst IsPacked w.in-Long.is c.self.invariant in
      let right = within_right c.self.inside (Long old) c.args.self.now (told_table long goal old) cell c.args.score
      c.self.view_is w.in-Long.is refl c.requires.right in
      let low : long.limit < 2 ^ 63 = omega arith in
      subst AreScores (sym w.self-inside-is)
      (width_kept long goal old new cell c.args.score number w.put-in-Long.ensures.problem row column
      w.long_number.ensures.told w.long_number.ensures.proper right of_width low)
  | in-Whole w ↦
      let old = w.in-Whole.table in
      let new = w.put-in-Whole.new.self in
      let goal = c.self.inside.goal in
      let cell = c.args.cell in
      let entry = w.unwrap_or.result in
      let fits : FitsSigned w64 entry = search rules in
      let R : ℤ → Type 0 = λ value. IsWritten old.rows new.rows cell.rule cell.from cell.to value in
      let C : ℤ → Type 0 = λ value. IsWritten old.columns new.columns cell.rule cell.to cell.from value in
      let row : IsWritten old.rows new.rows cell.rule cell.from cell.to entry = subst R (to_z-of_z w64 entry fits) w.put-in-Whole.ensures.row in
      let column : IsWritten old.columns new.columns cell.rule cell.to cell.from entry = subst C (to_z-of_z w64 entry fits) w.put-in-Whole.ensures.column in
      let within : AreWithin old.problem (2 ^ 63 - 1) = subst IsPacked w.in-Whole.is c.self.invariant in
      let right = within_right c.self.inside (Whole old) c.args.self.now old cell c.args.score c.self.view_is w.in-Whole.is refl c.requires.right in
      let low : 2 ^ 63 - 1 < 2 ^ 63 = omega arith in
      subst AreScores (sym w.self-inside-is) (subst (λ (p : PosedProblem). AreWithin p (2 ^ 63 - 1)) (sym w.put-in-Whole.ensures.problem) within)
]

pub returns-clause-kept : goal.returns-clause-kept
returns-clause-kept c = elim c.match-self.branch [
  | in-Short w ↦
      let old = w.in-Short.table in
      let new = w.put.new.self in
      let goal = c.self.inside.goal in
      let cell = c.args.cell in
      let number = w.short_number.result in
      let fits : FitsSigned w16 number = search rules in
      let R : ℤ → Type 0 = λ value. IsWritten old.rows new.rows cell.rule cell.from cell.to value in
      let C : ℤ → Type 0 = λ value. IsWritten old.columns new.columns cell.rule cell.to cell.from value in
      let row : IsWritten old.rows new.rows cell.rule cell.from cell.to number = subst R (to_z-of_z w16 number fits) w.put.ensures.row in
      let column : IsWritten old.columns new.columns cell.rule cell.to cell.from number = subst C (to_z-of_z w16 number fits) w.put.ensures.column in
      let of_width : IsOfWidth short old = subst IsPacked w.in-Short.is c.self.invariant in
      let right = within_right c.self.inside (Short old) c.args.self.now (told_table short goal old) cell c.args.score
      c.self.view_is w.in-Short.is refl c.requires.right in
      let low : short.limit < 2 ^ 63 = omega arith in
      subst (λ (inside : Inside). HasEntry (scores_table inside) cell) (sym w.self-inside-is)
      (told_now short goal old new cell c.args.score number w.put.ensures.problem row column
      w.short_number.ensures.told w.short_number.ensures.proper right of_width low)
  | in-Medium w ↦
      let old = w.in-Medium.table in
      let new = w.put-in-Medium.new.self in
      let goal = c.self.inside.goal in
      let cell = c.args.cell in
      let number = w.medium_number.result in
      let fits : FitsSigned w32 number = search rules in
      let R : ℤ → Type 0 = λ value. IsWritten old.rows new.rows cell.rule cell.from cell.to value in
      let C : ℤ → Type 0 = λ value. IsWritten old.columns new.columns cell.rule cell.to cell.from value in
      let row : IsWritten old.rows new.rows cell.rule cell.from cell.to number = subst R (to_z-of_z w32 number fits) w.put-in-Medium.ensures.row in
      let column : IsWritten old.columns new.columns cell.rule cell.to cell.from number = subst C (to_z-of_z w32 number fits) w.put-in-Medium.ensures.column in
      let of_width : IsOfWidth medium old = subst IsPacked w.in-Medium.is c.self.invariant in
      let right = within_right c.self.inside (Medium old) c.args.self.now (told_table medium goal old) cell c.args.score
      c.self.view_is w.in-Medium.is refl c.requires.right in
      let low : medium.limit < 2 ^ 63 = omega arith in
      subst (λ (inside : Inside). HasEntry (scores_table inside) cell) (sym w.self-inside-is)
      (told_now medium goal old new cell c.args.score number w.put-in-Medium.ensures.problem row column
      w.medium_number.ensures.told w.medium_number.ensures.proper right of_width low)
  | in-Long w ↦
      let old = w.in-Long.table in
      let new = w.put-in-Long.new.self in
      let goal = c.self.inside.goal in
      let cell = c.args.cell in
      let number = w.long_number.result in
      let fits : FitsSigned w64 number = search rules in
      let R : ℤ → Type 0 = λ value. IsWritten old.rows new.rows cell.rule cell.from cell.to value in
      let C : ℤ → Type 0 = λ value. IsWritten old.columns new.columns cell.rule cell.to cell.from value in
      let row : IsWritten old.rows new.rows cell.rule cell.from cell.to number = subst R (to_z-of_z w64 number fits) w.put-in-Long.ensures.row in
      let column : IsWritten old.columns new.columns cell.rule cell.to cell.from number = subst C (to_z-of_z w64 number fits) w.put-in-Long.ensures.column in
      let of_width : IsOfWidth long old = subst IsPacked w.in-Long.is c.self.invariant in
      let right = within_right c.self.inside (Long old) c.args.self.now (told_table long goal old) cell c.args.score
      c.self.view_is w.in-Long.is refl c.requires.right in
      let low : long.limit < 2 ^ 63 = omega arith in
      subst (λ (inside : Inside). HasEntry (scores_table inside) cell) (sym w.self-inside-is)
      (told_now long goal old new cell c.args.score number w.put-in-Long.ensures.problem row column
      w.long_number.ensures.told w.long_number.ensures.proper right of_width low)
  | in-Whole w ↦
      let old = w.in-Whole.table in
      let new = w.put-in-Whole.new.self in
      let goal = c.self.inside.goal in
      let cell = c.args.cell in
      let entry = w.unwrap_or.result in
      let fits : FitsSigned w64 entry = search rules in
      let R : ℤ → Type 0 = λ value. IsWritten old.rows new.rows cell.rule cell.from cell.to value in
      let C : ℤ → Type 0 = λ value. IsWritten old.columns new.columns cell.rule cell.to cell.from value in
      let row : IsWritten old.rows new.rows cell.rule cell.from cell.to entry = subst R (to_z-of_z w64 entry fits) w.put-in-Whole.ensures.row in
      let column : IsWritten old.columns new.columns cell.rule cell.to cell.from entry = subst C (to_z-of_z w64 entry fits) w.put-in-Whole.ensures.column in
      let within : AreWithin old.problem (2 ^ 63 - 1) = subst IsPacked w.in-Whole.is c.self.invariant in
      let right = within_right c.self.inside (Whole old) c.args.self.now old cell c.args.score c.self.view_is w.in-Whole.is refl c.requires.right in
      let low : 2 ^ 63 - 1 < 2 ^ 63 = omega arith in
      subst (λ (inside : Inside). HasEntry (scores_table inside) cell) (sym w.self-inside-is)
      (has_now old new cell c.args.score entry (2 ^ 63 - 1) w.put-in-Whole.ensures.problem row column
      w.unwrap_or.ensures right within low)
]

pub returns-clause-others : goal.returns-clause-others
returns-clause-others c = elim c.match-self.branch [
  | in-Short w ↦
      let old = w.in-Short.table in
      let new = w.put.new.self in
      let goal = c.self.inside.goal in
      let cell = c.args.cell in
      let number = w.short_number.result in
      let fits : FitsSigned w16 number = search rules in
      let R : ℤ → Type 0 = λ value. IsWritten old.rows new.rows cell.rule cell.from cell.to value in
      let C : ℤ → Type 0 = λ value. IsWritten old.columns new.columns cell.rule cell.to cell.from value in
      let row : IsWritten old.rows new.rows cell.rule cell.from cell.to number = subst R (to_z-of_z w16 number fits) w.put.ensures.row in
      let column : IsWritten old.columns new.columns cell.rule cell.to cell.from number = subst C (to_z-of_z w16 number fits) w.put.ensures.column in
      let of_width : IsOfWidth short old = subst IsPacked w.in-Short.is c.self.invariant in
      let right = within_right c.self.inside (Short old) c.args.self.now (told_table short goal old) cell c.args.score
      c.self.view_is w.in-Short.is refl c.requires.right in
      let low : short.limit < 2 ^ 63 = omega arith in
      let was : (other : Cell) → HasEntry c.args.self.now other → HasEntry (told_table short goal old) other =
      λ other has. subst (λ packed. HasEntry (table_of goal packed) other) w.in-Short.is
      (subst (λ table. HasEntry table other) (sym c.self.view_is) has) in
      λ other has. subst (λ (inside : Inside). HasEntry (scores_table inside) other) (sym w.self-inside-is)
      (told_still short goal old new cell c.args.score number w.put.ensures.problem row column
      w.short_number.ensures.told w.short_number.ensures.proper right of_width low other (was other has))
  | in-Medium w ↦
      let old = w.in-Medium.table in
      let new = w.put-in-Medium.new.self in
      let goal = c.self.inside.goal in
      let cell = c.args.cell in
      let number = w.medium_number.result in
      let fits : FitsSigned w32 number = search rules in
      let R : ℤ → Type 0 = λ value. IsWritten old.rows new.rows cell.rule cell.from cell.to value in
      let C : ℤ → Type 0 = λ value. IsWritten old.columns new.columns cell.rule cell.to cell.from value in
      let row : IsWritten old.rows new.rows cell.rule cell.from cell.to number = subst R (to_z-of_z w32 number fits) w.put-in-Medium.ensures.row in
      let column : IsWritten old.columns new.columns cell.rule cell.to cell.from number = subst C (to_z-of_z w32 number fits) w.put-in-Medium.ensures.column in
      let of_width : IsOfWidth medium old = subst IsPacked w.in-Medium.is c.self.invariant in
      let right = within_right c.self.inside (Medium old) c.args.self.now (told_table medium goal old) cell c.args.score
      c.self.view_is w.in-Medium.is refl c.requires.right in
      let low : medium.limit < 2 ^ 63 = omega arith in
      let was : (other : Cell) → HasEntry c.args.self.now other → HasEntry (told_table medium goal old) other =
      λ other has. subst (λ packed. HasEntry (table_of goal packed) other) w.in-Medium.is
      (subst (λ table. HasEntry table other) (sym c.self.view_is) has) in
      λ other has. subst (λ (inside : Inside). HasEntry (scores_table inside) other) (sym w.self-inside-is)
      (told_still medium goal old new cell c.args.score number w.put-in-Medium.ensures.problem row column
      w.medium_number.ensures.told w.medium_number.ensures.proper right of_width low other (was other has))
  | in-Long w ↦
      let old = w.in-Long.table in
      let new = w.put-in-Long.new.self in
      let goal = c.self.inside.goal in
      let cell = c.args.cell in
      let number = w.long_number.result in
      let fits : FitsSigned w64 number = search rules in
      let R : ℤ → Type 0 = λ value. IsWritten old.rows new.rows cell.rule cell.from cell.to value in
      let C : ℤ → Type 0 = λ value. IsWritten old.columns new.columns cell.rule cell.to cell.from value in
      let row : IsWritten old.rows new.rows cell.rule cell.from cell.to number = subst R (to_z-of_z w64 number fits) w.put-in-Long.ensures.row in
      let column : IsWritten old.columns new.columns cell.rule cell.to cell.from number = subst C (to_z-of_z w64 number fits) w.put-in-Long.ensures.column in
      let of_width : IsOfWidth long old = subst IsPacked w.in-Long.is c.self.invariant in
      let right = within_right c.self.inside (Long old) c.args.self.now (told_table long goal old) cell c.args.score
      c.self.view_is w.in-Long.is refl c.requires.right in
      let low : long.limit < 2 ^ 63 = omega arith in
      let was : (other : Cell) → HasEntry c.args.self.now other → HasEntry (told_table long goal old) other =
      λ other has. subst (λ packed. HasEntry (table_of goal packed) other) w.in-Long.is
      (subst (λ table. HasEntry table other) (sym c.self.view_is) has) in
      λ other has. subst (λ (inside : Inside). HasEntry (scores_table inside) other) (sym w.self-inside-is)
      (told_still long goal old new cell c.args.score number w.put-in-Long.ensures.problem row column
      w.long_number.ensures.told w.long_number.ensures.proper right of_width low other (was other has))
  | in-Whole w ↦
      let old = w.in-Whole.table in
      let new = w.put-in-Whole.new.self in
      let goal = c.self.inside.goal in
      let cell = c.args.cell in
      let entry = w.unwrap_or.result in
      let fits : FitsSigned w64 entry = search rules in
      let R : ℤ → Type 0 = λ value. IsWritten old.rows new.rows cell.rule cell.from cell.to value in
      let C : ℤ → Type 0 = λ value. IsWritten old.columns new.columns cell.rule cell.to cell.from value in
      let row : IsWritten old.rows new.rows cell.rule cell.from cell.to entry = subst R (to_z-of_z w64 entry fits) w.put-in-Whole.ensures.row in
      let column : IsWritten old.columns new.columns cell.rule cell.to cell.from entry = subst C (to_z-of_z w64 entry fits) w.put-in-Whole.ensures.column in
      let within : AreWithin old.problem (2 ^ 63 - 1) = subst IsPacked w.in-Whole.is c.self.invariant in
      let right = within_right c.self.inside (Whole old) c.args.self.now old cell c.args.score c.self.view_is w.in-Whole.is refl c.requires.right in
      let low : 2 ^ 63 - 1 < 2 ^ 63 = omega arith in
      let was : (other : Cell) → HasEntry c.args.self.now other → HasEntry old other = λ other has.
      subst (λ packed. HasEntry (table_of goal packed) other) w.in-Whole.is
      (subst (λ table. HasEntry table other) (sym c.self.view_is) has) in
      λ other has. subst (λ (inside : Inside). HasEntry (scores_table inside) other) (sym w.self-inside-is)
      (has_still old new cell c.args.score entry (2 ^ 63 - 1) w.put-in-Whole.ensures.problem row column
      w.unwrap_or.ensures right within low other (was other has))
]
