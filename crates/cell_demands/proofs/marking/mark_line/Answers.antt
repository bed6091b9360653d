use Rattle.std.proofs.Common.{◌≡◌, ◌⊎◌, ◌↔◌, ℕ, ◌+◌, ◌≤◌, true, not, IsTrue, length, refl, sym, ap, subst, ⊎_elim, ◌∙◌, arith}
use Rattle.std.specs.List.{Contains}
use Rattle.adp_model.specs.declared.cell.Cell.{Cell}
use Rattle.adp_model.specs.PosedProblem.{PosedProblem}
use Rattle.adp_model.specs.Cells.{IsCounted}
use Rattle.split_lines.specs.Laid.{IsCellOf, Demands}
use Rattle.viable_splits.specs.Placing.{Cover}
use Rattle.cell_demands.proofs.LineDemands.{demands_first, demands_second, demanded_by_line, cover_told, cover_of_demands}
use Rattle.cell_demands.proofs.MarkSteps.{marked_like, marked_more, marked_in_rows, none_marked}
use Rattle.cell_demands.proofs.marking.mark_line.Goals as goal
use Rattle.cell_demands.proofs.marking.mark_line.Goals.{After-is_empty}

short : (c : After-is_empty) → (position : ℕ) → Contains c.boundary-boundary.result.positions.now position
    → position + c.boundary-boundary.result.letters ≤ 4000
short c position there =
    let P : PosedProblem → Type 0 = λ q. length q.word ≤ 4000 in
    let word = subst P c.problem.ensures c.admissible.ensures.limits.letters in
    let span = ((c.boundary-boundary.ensures.boundaries.exact position).0 there).2.0 in
    omega (arith, span.in_order, span.in_word, word)

pub mark_first-requires-clause-short : goal.mark_first-requires-clause-short
mark_first-requires-clause-short c = λ position there. omega (arith, short (goal.at.mark_first-requires-clause-short c).After-is_empty position there)

pub mark_second-requires-clause-short : goal.mark_second-requires-clause-short
mark_second-requires-clause-short c = λ position there. short (goal.at.mark_second-requires-clause-short c).After-is_empty position there

pub mark_second-requires-clause-begin : goal.mark_second-requires-clause-begin
mark_second-requires-clause-begin c = λ position there.
    let span = ((c.boundary-boundary.ensures.boundaries.exact position).0 there).0.0 in
    omega (arith, span.in_order, c.requires.begin)

pub mark_first-requires-clause-counted : goal.mark_first-requires-clause-counted
mark_first-requires-clause-counted c =
    λ cell end there is.
    let p = c.args.lines.now in
    let b = c.boundary-boundary.result in
    let C : PosedProblem → Type 0 = λ q. IsCounted q.grammar (length q.word) cell in
    subst C (sym c.requires.same_problem)
    (c.requires.counted cell
    (demands_first p c.args.arguments.now c.args.line.between c.args.from c.args.to b.letters b.last b.positions.now
    c.requires.line.has_line c.boundary-boundary.ensures.boundaries c.index-arguments-0.result
    c.index-arguments-0.is cell end there is))

pub mark_second-requires-clause-counted : goal.mark_second-requires-clause-counted
mark_second-requires-clause-counted c =
    λ cell start there is.
    let p = c.args.lines.now in
    let b = c.boundary-boundary.result in
    let C : PosedProblem → Type 0 = λ q. IsCounted q.grammar (length q.word) cell in
    subst C (sym (c.mark_first.ensures.marked.problem ∙ c.requires.same_problem))
    (c.requires.counted cell
    (demands_second p c.args.arguments.now c.args.line.between c.args.from c.args.to b.letters b.last b.positions.now
    c.requires.line.has_line c.boundary-boundary.ensures.boundaries c.index-arguments-line.result
    c.index-arguments-line.is cell start there is))

told : (c : After-is_empty) → IsTrue (not c.is_empty.result) ↔ Cover c.args.lines.now c.args.arguments.now c.args.from c.args.to
told c =
    let b = c.boundary-boundary.result in
    cover_told c.args.lines.now c.args.arguments.now c.args.line.between c.args.from c.args.to b.letters b.last
    b.positions.now c.requires.line.has_line c.boundary-boundary.ensures.boundaries c.is_empty.result
    c.is_empty.ensures

nothing : (c : After-is_empty) → c.is_empty.result ≡ true → Cover c.args.lines.now c.args.arguments.now c.args.from c.args.to → ⊥
nothing c empty cover = let some = (told c).1 cover in absurd cc

pub returns-then-is_empty-clause-laid : goal.returns-then-is_empty-clause-laid
returns-then-is_empty-clause-laid c =
    let at = (goal.at.returns-then-is_empty-clause-laid c).After-is_empty in
    (λ is. absurd cc, λ cover. absurd (nothing at c.if-is_empty.true cover))

pub returns-then-is_empty-clause-marked : goal.returns-then-is_empty-clause-marked
returns-then-is_empty-clause-marked c =
    let at = (goal.at.returns-then-is_empty-clause-marked c).After-is_empty in
    let p = c.args.lines.now in
    none_marked c.args.begin c.args.marks.now (Demands p c.args.arguments.now c.args.from c.args.to)
    (λ cell demands. nothing at c.if-is_empty.true (cover_of_demands p c.args.arguments.now c.args.from c.args.to cell demands))

pub returns-clause-laid : goal.returns-clause-laid
returns-clause-laid c =
    let at = (goal.at.returns-clause-laid c).After-is_empty in
    let some : IsTrue (not c.is_empty.result) = ap not c.if-is_empty.false in
    (λ _. (told at).0 some, λ _. refl)

pub returns-clause-marked : goal.returns-clause-marked
returns-clause-marked c =
    let p = c.args.lines.now in
    let b = c.boundary-boundary.result in
    let positions = b.positions.now in
    let from = c.args.from in
    let to = c.args.to in
    let begin = c.args.begin in
    let first = c.index-arguments-0.result in
    let second = c.index-arguments-line.result in
    let First : Cell → Type 0 = λ cell. (position : ℕ) × Contains positions position × IsCellOf first from position cell in
    let Second : Cell → Type 0 = λ cell. (position : ℕ) × Contains positions position × IsCellOf second (position + b.letters) b.last cell in
    marked_like begin c.args.marks.now c.mark_second.new.marks (λ cell. First cell ⊎ Second cell) (Demands p c.args.arguments.now from to)
    (λ cell some. ⊎_elim
    (λ (position, there, is). demands_first p c.args.arguments.now c.args.line.between from to b.letters b.last
    positions c.requires.line.has_line c.boundary-boundary.ensures.boundaries first c.index-arguments-0.is cell
    position there is)
    (λ (position, there, is). demands_second p c.args.arguments.now c.args.line.between from to b.letters b.last
    positions c.requires.line.has_line c.boundary-boundary.ensures.boundaries second c.index-arguments-line.is cell
    position there is) some)
    (λ cell demands. demanded_by_line p c.args.arguments.now c.args.line.between from to b.letters b.last positions
    c.requires.line.has_line c.boundary-boundary.ensures.boundaries first second c.index-arguments-0.is
    c.index-arguments-line.is cell demands)
    (marked_more begin c.args.marks.now c.mark_first.new.marks c.mark_second.new.marks First Second
    (marked_in_rows begin c.args.marks.now c.mark_first.new.marks First c.mark_first.ensures.marked c.mark_first.ensures.in_row) c.mark_second.ensures)
