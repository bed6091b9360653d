use Rattle.std.proofs.Common.{sym, ◌∙◌}
use Rattle.cell_core.proofs.cell_notes.CellNotes.emptied.Goals as goal

pub invariant_of-result : goal.invariant_of-result
invariant_of-result c =
    let same = c.in_ok-noted.ensures.problem ∙ c.layout.ensures ∙ c.deref.ensures in (
      sym same,
      c.self.invariant.1 ∙ sym c.self.invariant.0 ∙ sym same,
      c.self.invariant.2 ∙ sym c.self.invariant.0 ∙ sym same,
      λ cell noted. absurd (c.in_ok-noted.ensures.none cell noted),
    )
