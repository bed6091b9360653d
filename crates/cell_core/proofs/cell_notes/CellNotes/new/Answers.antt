use Rattle.std.proofs.Common.{sym, ◌∙◌}
use Rattle.cell_core.proofs.cell_notes.CellNotes.new.Goals as goal

pub invariant_of-result : goal.invariant_of-result
invariant_of-result c = (
  c.in_ok-prepared.ensures ∙ sym c.deref.ensures ∙ sym (c.in_ok-noted.ensures.problem ∙ c.layout-layout.ensures),
  c.in_ok-scores.ensures ∙ sym c.in_ok-noted.ensures.problem,
  c.in_ok-tails.ensures ∙ c.lines-lines.ensures ∙ c.deref-2.ensures ∙ sym c.deref.ensures ∙ sym (c.in_ok-noted.ensures.problem ∙ c.layout-layout.ensures),
  λ cell noted. absurd (c.in_ok-noted.ensures.none cell noted),
)
