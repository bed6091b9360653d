use Rattle.std.proofs.Common.{◌≡◌, ◌↔◌, ◌⊎◌, inl, inr, sym, subst, ap, ◌∙◌}
use Rattle.adp_model.specs.declared.cell.Cell.{Cell}
use Rattle.memo_model.specs.Memos.{IsScoreOf}
use Rattle.cell_tables.specs.Noted.{Notes, IsNoted}
use Rattle.cell_answers.specs.Entries.{HasEntry}
use Rattle.cell_core.proofs.cell_notes.CellNotesNotes.note.Goals as goal

pub keep-requires-clause-right : goal.keep-requires-clause-right
keep-requires-clause-right c =
    subst (λ q. IsScoreOf q c.args.cell c.args.score)
    (sym (c.self.invariant.1 ∙ ap (λ (notes : Notes). notes.problem) c.self.view_is)) c.requires.score

pub invariant_of-self : goal.invariant_of-self
invariant_of-self c = (
  c.self.invariant.0 ∙ sym c.note.ensures.problem,
  c.keep.ensures.problem ∙ c.self.invariant.1 ∙ sym c.note.ensures.problem,
  c.self.invariant.2 ∙ sym c.note.ensures.problem,
  λ other noted. entered other ((c.note.ensures.noted other).0 noted),
)
  where
    entered : (other : Cell) → IsNoted c.self.inside.noted other ⊎ (other ≡ c.args.cell) → HasEntry c.keep.new.self other
    entered other (inl was) = c.keep.ensures.others other (c.self.invariant.3 other was)
    entered other (inr e) = subst (HasEntry c.keep.new.self) (sym e) c.keep.ensures.kept

pub returns-clause-noted : goal.returns-clause-noted
returns-clause-noted c = λ other.
    subst (λ (notes : Notes). IsNoted c.note.new.self other ↔ (IsNoted notes other ⊎ (other ≡ c.args.cell))) c.self.view_is
    (c.note.ensures.noted other)
