use Rattle.std.proofs.Common.{◌≡◌, ℕ, ◌+◌, ◌-◌, ℤ, ◌+ℤ◌, ◌*ℤ◌, FitsSigned, w64, rules, IsSome, length, map, sym, ap, subst, ◌∙◌, refl, arith}
use Rattle.std.proofs.lemmas.Int.{to_z-of_z}
use Rattle.adp_model.specs.PosedProblem.{PosedProblem}
use Rattle.adp_model.specs.Cells.{AreCountedEnds}
use Rattle.adp_model.specs.Parts.{algebra_of}
use Rattle.adp_model.specs.declared.grammar.Goal.{Goal}
use Rattle.cell_tables.specs.Spans.{value_at}
use Rattle.score_numbers.specs.Turned.{turned}
use Rattle.score_rows.specs.Raised.{AreHighest, AreLowProducts, HasProduct}
use Rattle.row_scores.proofs.RuleSteps.{counted_at, no_steps, row_proper, row_steps, some_at}
use Rattle.row_scores.proofs.steps.step_by_rule.Goals as goal

-- the ends are those of the problem of the lines
ends_of : (p q : PosedProblem) (rule from first past : ℕ) → p ≡ q → AreCountedEnds p.grammar (length p.word) rule from first past
    → AreCountedEnds q.grammar (length q.word) rule from first past
ends_of p q rule from first past same ends = subst (λ (r : PosedProblem). AreCountedEnds r.grammar (length r.word) rule from first past) same ends

pub returns-then-ends : goal.returns-then-ends
returns-then-ends g c =
    let known = c.args.known.now in
    let ends = c.ends-ends.result in
    no_steps g.N.RowNumber.value known.table.now known.lines.now c.args.rule c.args.position ends.start ends.end c.cells.ensures c.requires.known.same_problem
    (ends_of known.layout.now known.lines.now c.args.rule c.args.position ends.start ends.end c.requires.known.same_layout c.ends-ends.ensures.ends)
    g.N.RowNumber.width c.args.factor (g.N.RowNumber.value c.args.number) c.if-ends.true c.args.next.now

pub between-row-requires-clause-first : goal.between-row-requires-clause-first
between-row-requires-clause-first g c some =
    let known = c.args.known.now in
    let ends = c.ends-ends.result in
    subst (λ spans. IsSome (value_at spans c.args.rule c.args.position ends.start)) (sym c.grid.ensures)
    (some_at g.N.RowNumber.value known.table.now known.lines.now c.args.rule c.args.position ends.start ends.end c.cells.ensures c.requires.known.same_problem
    (ends_of known.layout.now known.lines.now c.args.rule c.args.position ends.start ends.end c.requires.known.same_layout c.ends-ends.ensures.ends)
    ends.start (omega arith) some)

pub between-row-requires-clause-last : goal.between-row-requires-clause-last
between-row-requires-clause-last g c some =
    let known = c.args.known.now in
    let ends = c.ends-ends.result in
    subst (λ spans. IsSome (value_at spans c.args.rule c.args.position (ends.end - 1))) (sym c.grid.ensures)
    (some_at g.N.RowNumber.value known.table.now known.lines.now c.args.rule c.args.position ends.start ends.end c.cells.ensures c.requires.known.same_problem
    (ends_of known.layout.now known.lines.now c.args.rule c.args.position ends.start ends.end c.requires.known.same_layout c.ends-ends.ensures.ends)
    (ends.end - 1) (omega (arith, some)) (omega (arith, some)))

pub raise-requires-clause-within : goal.raise-requires-clause-within
raise-requires-clause-within g c =
    let known = c.args.known.now in
    let ends = c.ends-ends.result in
    let last = counted_at g.N.RowNumber.value known.table.now known.lines.now c.args.rule c.args.position ends.start ends.end c.cells.ensures
    c.requires.known.same_problem
    (ends_of known.layout.now known.lines.now c.args.rule c.args.position ends.start ends.end c.requires.known.same_layout c.ends-ends.ensures.ends)
    (ends.end - 1) (omega (arith, c.if-ends.false)) (omega (arith, c.if-ends.false)) in
    omega (arith, last.in_word, c.between-row.ensures.as_many, c.if-ends.false, c.requires.long)

pub raise_scaled-requires-clause-within : goal.raise_scaled-requires-clause-within
raise_scaled-requires-clause-within g c =
    let known = c.args.known.now in
    let ends = c.ends-ends.result in
    let last = counted_at g.N.RowNumber.value known.table.now known.lines.now c.args.rule c.args.position ends.start ends.end c.cells.ensures
    c.requires.known.same_problem
    (ends_of known.layout.now known.lines.now c.args.rule c.args.position ends.start ends.end c.requires.known.same_layout c.ends-ends.ensures.ends)
    (ends.end - 1) (omega (arith, c.if-ends.false)) (omega (arith, c.if-ends.false)) in
    omega (arith, last.in_word, c.between-row.ensures.as_many, c.if-ends.false, c.requires.long)

pub raise_scaled-requires-clause-proper : goal.raise_scaled-requires-clause-proper
raise_scaled-requires-clause-proper g c =
    let known = c.args.known.now in
    let ends = c.ends-ends.result in
    let rule = c.args.rule in
    let position = c.args.position in
    let row = c.between-row.result.now in
    row_proper g.N.RowNumber.value known.table.now known.lines.now rule position ends.start ends.end c.cells.ensures c.requires.known.same_problem
    (ends_of known.layout.now known.lines.now rule position ends.start ends.end c.requires.known.same_layout c.ends-ends.ensures.ends)
    row c.between-row.ensures.as_many
    (λ k l. c.between-row.ensures.values k l ∙ ap (λ spans. value_at spans rule position (ends.start + k)) c.grid.ensures)
    g.N.RowNumber.width (λ k number there. c.requires.known.proper rule position k number there)

pub returns-then-is_plain : goal.returns-then-is_plain
returns-then-is_plain g c =
    let known = c.args.known.now in
    let ends = c.ends-ends.result in
    let rule = c.args.rule in
    let position = c.args.position in
    let row = c.between-row.result.now in
    let before = g.N.RowNumber.value c.args.number in
    let fits : FitsSigned w64 c.args.factor = search rules in
    let goal_is : c.goal-goal.result ≡ (algebra_of known.lines.now).goal = c.goal-goal.ensures ∙ ap (λ p. (algebra_of p).goal) c.problem.ensures in
    let plain : (number : ℤ) → (c.args.factor *ℤ turned c.goal-goal.result number) ≡ number = simp to_z-of_z at (c.is_plain.ensures c.if-is_plain.true) in
    row_steps g.N.RowNumber.value known.table.now known.lines.now rule position ends.start ends.end c.cells.ensures c.requires.known.same_problem
    (ends_of known.layout.now known.lines.now rule position ends.start ends.end c.requires.known.same_layout c.ends-ends.ensures.ends)
    row c.between-row.ensures.as_many
    (λ k l. c.between-row.ensures.values k l ∙ ap (λ spans. value_at spans rule position (ends.start + k)) c.grid.ensures)
    g.N.RowNumber.width c.args.factor before (λ other. other +ℤ before)
    (λ other. ap (λ n. n +ℤ before) (ap (λ goal. c.args.factor *ℤ turned goal other) (sym goal_is) ∙ plain other))
    c.args.next.now c.raise.new.self c.raise.ensures

pub returns-else-is_plain : goal.returns-else-is_plain
returns-else-is_plain g c =
    let known = c.args.known.now in
    let ends = c.ends-ends.result in
    let rule = c.args.rule in
    let position = c.args.position in
    let row = c.between-row.result.now in
    let value = g.N.RowNumber.value in
    let width = g.N.RowNumber.width in
    let before = value c.args.number in
    let fits : FitsSigned w64 c.args.factor = search rules in
    let goal_is : c.goal-goal.result ≡ (algebra_of known.lines.now).goal = c.goal-goal.ensures ∙ ap (λ p. (algebra_of p).goal) c.problem.ensures in
    let R : Goal → Type 0 = λ goal. AreHighest width (HasProduct width goal c.args.factor before ends.start (map value row))
    (AreLowProducts width goal c.args.factor before ends.start (map value row)) c.args.next.now c.raise_scaled.new.self in
    let raised : R c.goal-goal.result = simp to_z-of_z at c.raise_scaled.ensures in
    row_steps value known.table.now known.lines.now rule position ends.start ends.end c.cells.ensures c.requires.known.same_problem
    (ends_of known.layout.now known.lines.now rule position ends.start ends.end c.requires.known.same_layout c.ends-ends.ensures.ends)
    row c.between-row.ensures.as_many
    (λ k l. c.between-row.ensures.values k l ∙ ap (λ spans. value_at spans rule position (ends.start + k)) c.grid.ensures)
    width c.args.factor before (λ other. (c.args.factor *ℤ turned (algebra_of known.lines.now).goal other) +ℤ before)
    (λ other. refl) c.args.next.now c.raise_scaled.new.self (subst R goal_is raised)
