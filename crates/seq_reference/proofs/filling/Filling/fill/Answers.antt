use Rattle.std.proofs.Common.{ℤ, length, sym, ap, subst, ◌∙◌}
use Rattle.std.specs.Prelude.{MatchOption}
use Rattle.adp_model.specs.declared.cell.Answer.TheVariants.{NoCandidate}
use Rattle.adp_model.specs.PosedProblem.{PosedProblem}
use Rattle.adp_model.specs.Answers.{IsAnswer}
use Rattle.adp_model.specs.Bellman.{HasBestScore}
use Rattle.adp_model.specs.Cells.{IsCounted}
use Rattle.cell_tables.specs.Tables.{Table}
use Rattle.cell_answers.specs.Entries.{HasEntry}
use Rattle.seq_reference.proofs.filling.Filling.fill.Goals as goal

pub cell_score_noting-score-requires-clause-scored : goal.cell_score_noting-score-requires-clause-scored
cell_score_noting-score-requires-clause-scored c = λ child is.
    let E : Table ℤ → Type 0 = λ table. HasEntry table child in
    subst E (sym c.self.view_is) (c.requires.scored child is)

pub keep-requires-clause-counted : goal.keep-requires-clause-counted
keep-requires-clause-counted c =
    let C : PosedProblem → Type 0 = λ q. IsCounted q.grammar (length q.word) c.args.cell in
    let same = ap (λ (table : Table ℤ). table.problem) c.self.view_is ∙ c.requires.same_problem in
    subst C (sym same) c.requires.counted

pub keep-requires-clause-right : goal.keep-requires-clause-right
keep-requires-clause-right c =
    let R : PosedProblem → Type 0 = λ q. MatchOption c.cell_score_noting-score.result (IsAnswer q c.args.cell NoCandidate) (HasBestScore q c.args.cell) in
    let same = ap (λ (table : Table ℤ). table.problem) c.self.view_is ∙ c.requires.same_problem in
    subst R (sym same) c.cell_score_noting-score.ensures.best

pub returns-clause-others : goal.returns-clause-others
returns-clause-others c = λ other entry.
    let E : Table ℤ → Type 0 = λ table. HasEntry table other in
    c.keep.ensures.others other (subst E (sym c.self.view_is) entry)
