use Rattle.std.proofs.Common.{ℕ, ℤ, Option, MatchOption, FitsSigned, w64, sym, subst, ◌∙◌, rules}
use Rattle.std.proofs.lemmas.Int.{to_z-of_z}
use Rattle.adp_model.specs.Answers.{HasNoTree}
use Rattle.adp_model.specs.Bellman.{HasBestScore}
use Rattle.adp_model.specs.PosedProblem.{PosedProblem}
use Rattle.adp_model.specs.ProblemFields.{IsAdmissible}
use Rattle.first_trees.specs.RankedSplits.{HasScoreAt}
use Rattle.k_best.proofs.Told.{best_at, none_at}
use Rattle.k_best.proofs.growing.told_at.Goals as goal

pub returns-in-Some-Some : goal.returns-in-Some-Some
returns-in-Some-Some c =
    let p = c.args.basis.now.lines.now in
    let k = c.args.basis.now.k in
    let cell = c.args.cell in
    let score = c.in-Some-Some.score in
    let keeps = subst IsAdmissible c.problem.ensures c.admissible.ensures in
    let fits : FitsSigned w64 score = search rules in
    let told : MatchOption c.in-Some-Some.field-0 (HasNoTree p cell) (HasBestScore p cell) =
    subst (λ (q : PosedProblem). MatchOption c.in-Some-Some.field-0 (HasNoTree q cell) (HasBestScore q cell)) c.requires.basis.solved c.in-Some-Some.ensures.told in
    let best : HasBestScore p cell score =
    subst (λ (o : Option ℤ). MatchOption o (HasNoTree p cell) (HasBestScore p cell)) c.in-Some-Some.field-0-is told in
    let has =
    subst (λ (rank : ℕ). HasScoreAt p k cell rank score) (sym c.if-rank-eq0.true)
    (best_at p k cell c.requires.basis.some
    (c.cells_have_first_trees.ensures p keeps.least keeps.greatest keeps.ranks keeps.checked cell k)
    (c.first_tree_is_the_preferred_tree.ensures.none p cell k c.requires.basis.some)
    (c.first_tree_is_the_preferred_tree.ensures.first p cell k)
    (λ t u. c.preferred_tree_is_unique.ensures p cell t u keeps.checked.well_formed) score best) in
    (has.0, has.1, to_z-of_z w64 score fits ∙ has.2)

pub returns-in-Some-None : goal.returns-in-Some-None
returns-in-Some-None c later score low has =
    let p = c.args.basis.now.lines.now in
    let cell = c.args.cell in
    let told : MatchOption c.in-Some-None.field-0 (HasNoTree p cell) (HasBestScore p cell) =
    subst (λ (q : PosedProblem). MatchOption c.in-Some-None.field-0 (HasNoTree q cell) (HasBestScore q cell)) c.requires.basis.solved c.in-Some-None.ensures.told in
    none_at p c.args.basis.now.k cell
    (subst (λ (o : Option ℤ). MatchOption o (HasNoTree p cell) (HasBestScore p cell)) c.in-Some-None.field-0-is told) later score has
