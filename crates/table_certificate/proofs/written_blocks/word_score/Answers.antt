use Rattle.std.proofs.Common.{IfSome, IsSome, subst}
use Rattle.adp_model.specs.declared.cell.Cell.{Cell}
use Rattle.adp_model.specs.PosedProblem.{PosedProblem}
use Rattle.adp_model.specs.Demand.{IsDemanded}
use Rattle.table_certificate.specs.BestScores.{IsBestScore}
use Rattle.table_certificate.proofs.WrittenBlocks.{word_best, word_none}
use Rattle.table_certificate.proofs.written_blocks.word_score.Goals as goal

pub returns-clause-within : goal.returns-clause-within
returns-clause-within c =
    let p = c.args.problem.now in
    let told = c.demanded_score.result in
    let best = subst (λ (x : Cell). IfSome told (IsBestScore p x)) c.axiom_cell.ensures
    (subst (λ (q : PosedProblem). IfSome told (IsBestScore q c.axiom_cell.result)) c.requires c.demanded_score.ensures.told) in
    let some = subst (λ (x : Cell). IsDemanded p x → IsSome told) c.axiom_cell.ensures
    (subst (λ (q : PosedProblem). IsDemanded q c.axiom_cell.result → IsSome told) c.requires c.demanded_score.ensures.demanded.1) in
    word_best p told c.unwrap_or.result best some c.unwrap_or.ensures

pub returns-clause-outside : goal.returns-clause-outside
returns-clause-outside c =
    let p = c.args.problem.now in
    let told = c.demanded_score.result in
    let only = subst (λ (x : Cell). IsSome told → IsDemanded p x) c.axiom_cell.ensures
    (subst (λ (q : PosedProblem). IsSome told → IsDemanded q c.axiom_cell.result) c.requires c.demanded_score.ensures.demanded.0) in
    word_none p (c.demanded_cells_are_counted.ensures p c.admissible.ensures.checked.well_formed) told c.unwrap_or.result only c.unwrap_or.ensures
