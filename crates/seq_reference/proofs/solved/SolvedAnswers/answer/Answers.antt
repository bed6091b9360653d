use Rattle.std.proofs.Common.{sym, subst, ◌∙◌}
use Rattle.adp_model.specs.PosedProblem.{PosedProblem}
use Rattle.adp_model.specs.Demand.{Child, IsDemanded, IsDemandedChild}
use Rattle.seq_reference.proofs.solved.SolvedAnswers.answer.Goals as goal

pub kept_answer-requires-clause-scored : goal.kept_answer-requires-clause-scored
kept_answer-requires-clause-scored c =
    let demanded = (c.self.invariant.marked c.args.cell).0 (c.is_marked_in_row.ensures.0 c.if-is_marked_in_row.true) in
    λ child is. c.self.invariant.scored child
    (Child c.args.cell child demanded (subst (λ (p : PosedProblem). IsDemandedChild p c.args.cell child) c.lines.ensures is))

pub kept_answer-requires-clause-kept : goal.kept_answer-requires-clause-kept
kept_answer-requires-clause-kept c =
    c.self.invariant.scored c.args.cell ((c.self.invariant.marked c.args.cell).0 (c.is_marked_in_row.ensures.0 c.if-is_marked_in_row.true))

pub returns-else-is_marked_in_row-clause-demanded : goal.returns-else-is_marked_in_row-clause-demanded
returns-else-is_marked_in_row-clause-demanded c = λ demanded.
    let D : PosedProblem → Type 0 = λ p. IsDemanded p c.args.cell in
    let marked = (c.self.invariant.marked c.args.cell).1 (subst D (sym c.self.view_is) demanded) in
    sym c.if-is_marked_in_row.false ∙ c.is_marked_in_row.ensures.1 marked
