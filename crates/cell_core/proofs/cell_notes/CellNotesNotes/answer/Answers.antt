use Rattle.std.proofs.Common.{sym, subst, ap, ◌∙◌}
use Rattle.adp_model.specs.Demand.{IsDemandedChild}
use Rattle.cell_tables.specs.Noted.{Notes, IsNoted}
use Rattle.cell_core.proofs.cell_notes.CellNotesNotes.answer.Goals as goal

-- each demanded child is noted, so it has its entry
pub cell_answer_noting-requires-clause-scored : goal.cell_answer_noting-requires-clause-scored
cell_answer_noting-requires-clause-scored c = λ child h.
    let same =
    c.lines-lines.ensures ∙ c.deref.ensures ∙ c.self.invariant.0 ∙ ap (λ (notes : Notes). notes.problem) c.self.view_is in
    let demanded = subst (λ q. IsDemandedChild q c.args.cell child) same h in
    c.self.invariant.3 child
    (subst (λ (notes : Notes). IsNoted notes child) (sym c.self.view_is) (c.requires.noted child demanded))

pub invariant_of-self : goal.invariant_of-self
invariant_of-self c = (
  c.self.invariant.0,
  c.self.invariant.1,
  c.cell_answer_noting.ensures.same ∙ c.self.invariant.2,
  c.self.invariant.3,
)
