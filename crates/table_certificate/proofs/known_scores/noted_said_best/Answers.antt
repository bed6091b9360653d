use Rattle.std.proofs.Common.{◌≡◌, ◌↔◌, ◌⊎◌, inl, inr, ℤ, Option, length, slice_index_or, sym, subst, ◌∙◌}
use Rattle.std.proofs.lemmas.Bool.{OnTrue_at}
use Rattle.adp_model.specs.declared.cell.Cell.{Cell}
use Rattle.adp_model.specs.Cells.{IsCounted}
use Rattle.adp_model.specs.PosedProblem.{PosedProblem}
use Rattle.adp_model.specs.ProblemFields.{IsAdmissible}
use Rattle.cell_tables.specs.Noted.{Notes, IsNoted}
use Rattle.table_certificate.specs.Claims.{claimed}
use Rattle.table_certificate.specs.KnownScores.{AreSaidBest, IsSaidBest}
use Rattle.table_certificate.proofs.known_scores.noted_said_best.Goals as goal
use Rattle.table_certificate.proofs.known_scores.noted_said_best.Goals.{then-is_said_best, else-is_said_best}

-- with one cell more
one_more : (p : PosedProblem) (said : Cell → Option (Option ℤ)) (old new : Notes) (cell : Cell) → AreSaidBest p said old
    → IsSaidBest p said cell → ((other : Cell) → IsNoted new other ↔ (IsNoted old other ⊎ (other ≡ cell)))
    → AreSaidBest p said new
one_more p said old new cell are best noted = λ other is. by other ((noted other).0 is)
  where
    by : (other : Cell) → IsNoted old other ⊎ (other ≡ cell) → IsSaidBest p said other
    by other (inl before) = are other before
    by other (inr same) = subst (IsSaidBest p said) (sym same) best

pub loop-cell-init : goal.loop-cell-init
loop-cell-init c =
    (c.in_ok-said_best.ensures.problem ∙ sym c.requires, λ cell noted. absurd (c.in_ok-said_best.ensures.none cell noted))

pub note-requires : goal.note-requires
note-requires c =
    let cell : Cell = slice_index_or c.deref-cell-items.result.now c.loop-cell.cell-index (record { rule = 0; from = 0; to = 0 }) in
    let best : IsSaidBest c.args.solved.now (claimed c.args.claims.now) cell = OnTrue_at c.if-is_said_best.true c.is_said_best.ensures in
    let admissible = subst IsAdmissible (c.problem-problem.ensures ∙ sym c.requires) c.admissible.ensures in
    subst (λ (q : PosedProblem). IsCounted q.grammar (length q.word) cell) (sym c.loop-cell.invariant.0)
    (c.demanded_cells_are_counted.ensures c.args.solved.now admissible.checked.well_formed cell best.demanded)

pub loop-cell-preserved : goal.loop-cell-preserved
loop-cell-preserved c = elim c.if-is_said_best.branch [
  | then-is_said_best w ↦ subst (λ (x : Notes). (x.problem ≡ c.args.solved.now) × AreSaidBest c.args.solved.now (claimed c.args.claims.now) x) (sym w.said_best-is) (
    w.note.ensures.problem ∙ c.loop-cell.invariant.0,
    one_more c.args.solved.now (claimed c.args.claims.now) c.loop-cell.said_best w.note.new.self
        (slice_index_or c.deref-cell-items.result.now c.loop-cell.cell-index (record { rule = 0; from = 0; to = 0 })) c.loop-cell.invariant.1
        (OnTrue_at w.if-is_said_best.true c.is_said_best.ensures) w.note.ensures.noted,
  )
  | else-is_said_best w ↦ subst (λ (x : Notes). (x.problem ≡ c.args.solved.now) × AreSaidBest c.args.solved.now (claimed c.args.claims.now) x) (sym w.said_best-is) c.loop-cell.invariant
]

pub returns : goal.returns
returns c = λ cell noted. subst (λ (q : PosedProblem). IsSaidBest q (claimed c.args.claims.now) cell) c.requires (c.loop-cell.invariant.1 cell noted)
