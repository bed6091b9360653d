use Rattle.std.proofs.Common.{◌≡◌, ◌↔◌, ◌+◌, ◌-◌, ◌<◌, ◌≤◌, ℕ, List, length, sym, ap, subst, inl, arith}
use Rattle.adp_model.specs.declared.cell.Cell.{Cell}
use Rattle.adp_model.specs.PosedProblem.{PosedProblem}
use Rattle.adp_model.specs.ProblemFields.{IsAdmissible}
use Rattle.adp_model.specs.Cells.{AreCountedEnds, IsCounted}
use Rattle.cell_tables.specs.Marks.{AreMarks, CellMarks, IsMarkedInRow}
use Rattle.cell_demands.specs.PlaceBits.{HasBit}
use Rattle.cell_demands.specs.Rows.{AreMarkedInRows, IsChildOfEnds, IsChildOfRow}
use Rattle.cell_demands.proofs.RowMarks.{rows_like, rows_none}
use Rattle.cell_demands.proofs.rows.mark_row_children.Goals as goal
use Rattle.cell_demands.proofs.rows.mark_row_children.Goals.{After-ends-start}

-- they end in the word
within : (p : PosedProblem) (rule from start end : ℕ) → AreCountedEnds p.grammar (length p.word) rule from start end → start < end → end ≤ length p.word + 1
within p rule from start end are some =
    let last = (are (end - 1)).1 (omega (arith, some), omega (arith, some)) in
    omega (arith, some, last.in_word)

module _ (p : PosedProblem) (marks : CellMarks) (rule from start end : ℕ) (same : marks.problem ≡ p)
    (are : AreCountedEnds p.grammar (length p.word) rule from start end) (known : AreMarks marks) where
  in_range : (to : ℕ) → IsMarkedInRow marks (record { rule = rule; from = from; to = to }) → (start ≤ to) × (to < end)
  in_range to marked =
      let cell : Cell = record { rule = rule; from = from; to = to } in
      (are to).0 (subst (λ (q : PosedProblem). IsCounted q.grammar (length q.word) cell) same (known.counted cell (inl marked)))

  -- where none is marked nothing is demanded
  none_of_row : ((to : ℕ) → start ≤ to → to < end → IsMarkedInRow marks (record { rule = rule; from = from; to = to }) → ⊥)
      → AreMarkedInRows marks marks (IsChildOfRow p marks rule from)
  none_of_row none =
      rows_none marks (IsChildOfRow p marks rule from) (λ child (to, marked, is). let l = in_range to marked in none to l.0 l.1 marked)

  module _ (ends : List ℕ)
      (exact : (to : ℕ) → HasBit ends to ↔ ((start ≤ to) × (to < end) × IsMarkedInRow marks (record { rule = rule; from = from; to = to }))) where
    of_row : (child : Cell) → IsChildOfEnds p rule from ends child → IsChildOfRow p marks rule from child
    of_row child (to, bit, is) = (to, ((exact to).0 bit).2, is)

    of_ends : (child : Cell) → IsChildOfRow p marks rule from child → IsChildOfEnds p rule from ends child
    of_ends child (to, marked, is) = let l = in_range to marked in (to, (exact to).1 (l.0, l.1, marked), is)

counted : (c : After-ends-start) → AreCountedEnds c.args.lines.now.grammar (length c.args.lines.now.word) c.args.rule c.args.from c.ends-start.result.start c.ends-start.result.end
counted c =
    subst (λ (p : PosedProblem). AreCountedEnds p.grammar (length p.word) c.args.rule c.args.from c.ends-start.result.start c.ends-start.result.end)
    c.requires.same_problem.0 c.ends-start.ensures.ends

pub find_ends-requires-clause-short : goal.find_ends-requires-clause-short
find_ends-requires-clause-short c =
    let at = (goal.at.find_ends-requires-clause-short c).After-ends-start in
    let last = within c.args.lines.now c.args.rule c.args.from c.ends-start.result.start c.ends-start.result.end (counted at) c.if-start-end.false in
    omega (arith, last, c.requires.room.ends, ap length c.deref_mut-ends.ensures.value)

pub first_set-requires-clause-few : goal.first_set-requires-clause-few
first_set-requires-clause-few c =
    let at = (goal.at.first_set-requires-clause-few c).After-ends-start in
    let last = within c.args.lines.now c.args.rule c.args.from c.ends-start.result.start c.ends-start.result.end (counted at) c.if-start-end.false in
    let A : PosedProblem → Type 0 = IsAdmissible in
    let short = (subst A c.problem.ensures c.admissible.ensures).limits.letters in
    omega (arith, last, short)

pub returns-then-start-end-clause-marked : goal.returns-then-start-end-clause-marked
returns-then-start-end-clause-marked c =
    let at = (goal.at.returns-then-start-end-clause-marked c).After-ends-start in
    none_of_row c.args.lines.now c.args.marks.now c.args.rule c.args.from c.ends-start.result.start c.ends-start.result.end c.requires.same_problem.1
    (counted at) c.cells.ensures (λ to low high marked. omega (arith, low, high, c.if-start-end.true))

pub returns-then-first_set-end-clause-marked : goal.returns-then-first_set-end-clause-marked
returns-then-first_set-end-clause-marked c =
    let at = (goal.at.returns-then-first_set-end-clause-marked c).After-ends-start in
    none_of_row c.args.lines.now c.args.marks.now c.args.rule c.args.from c.ends-start.result.start c.ends-start.result.end c.requires.same_problem.1
    (counted at) c.cells.ensures
    (λ to low high marked. c.first_set.ensures.none_before to low (omega (arith, high, c.if-first_set-end.true))
    ((c.find_ends.ensures.exact to).1 (low, high, marked)))

pub mark_ends_children-requires-clause-counted : goal.mark_ends_children-requires-clause-counted
mark_ends_children-requires-clause-counted c = λ child is.
    let at = (goal.at.mark_ends_children-requires-clause-counted c).After-ends-start in
    let C : PosedProblem → Type 0 = λ p. IsCounted p.grammar (length p.word) child in
    let E : PosedProblem → Type 0 = λ p. IsChildOfEnds p c.args.rule c.args.from c.find_ends.new.ends child in
    subst C (sym c.new-lines.ensures) (c.requires.counted child
    (of_row c.args.lines.now c.args.marks.now c.args.rule c.args.from c.ends-start.result.start c.ends-start.result.end c.requires.same_problem.1
    (counted at) c.cells.ensures c.find_ends.new.ends c.find_ends.ensures.exact child (subst E c.new-lines.ensures is)))

pub returns-clause-marked : goal.returns-clause-marked
returns-clause-marked c =
    let at = (goal.at.returns-clause-marked c).After-ends-start in
    let p = c.args.lines.now in
    let marks = c.args.marks.now in
    let ends = c.find_ends.new.ends in
    rows_like marks c.mark_ends_children.new.marks (IsChildOfEnds p c.args.rule c.args.from ends) (IsChildOfRow p marks c.args.rule c.args.from)
    (of_row p marks c.args.rule c.args.from c.ends-start.result.start c.ends-start.result.end c.requires.same_problem.1 (counted at) c.cells.ensures ends
    c.find_ends.ensures.exact)
    (of_ends p marks c.args.rule c.args.from c.ends-start.result.start c.ends-start.result.end c.requires.same_problem.1 (counted at) c.cells.ensures ends
    c.find_ends.ensures.exact)
    (subst (λ (it : PosedProblem). AreMarkedInRows marks c.mark_ends_children.new.marks (IsChildOfEnds it c.args.rule c.args.from ends)) c.new-lines.ensures
    c.mark_ends_children.ensures.marked)
