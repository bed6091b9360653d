use Rattle.std.proofs.Common.{ℕ, ◌-◌, ◌<◌, ◌≤◌, refl, subst, arith}
use Rattle.std.specs.Prelude.{IsSome}
use Rattle.std.specs.List.{Contains}
use Rattle.cell_tables.specs.Spans.{value_at}
use Rattle.cell_tables.specs.Marks.{CellMarks}
use Rattle.cell_tables.proofs.SpanWalks.{span_there, last_among, none_among}
use Rattle.cell_tables.proofs.marks.Marks.last_before.Goals as goal
use Rattle.cell_tables.proofs.marks.Marks.last_before.Goals.{After-numbers_of-low}

within : (c : After-numbers_of-low) → (rule number : ℕ) → Contains c.args.rules.now rule → IsSome (value_at c.args.self.now.rows rule c.args.from number) → (c.numbers_of-low.result.0 ≤ number) × (number < c.numbers_of-low.result.1)
within c =
    let W : CellMarks → Type 0 = λ marks. (rule number : ℕ) → Contains c.args.rules.now rule → IsSome (value_at marks.rows rule c.args.from number) → (c.numbers_of-low.result.0 ≤ number) × (number < c.numbers_of-low.result.1) in
    subst W c.self.view_is c.numbers_of-low.ensures

pub loop-number-init : goal.loop-number-init
loop-number-init c = λ to high low marked.
    let at = (goal.at.loop-number-init c).After-numbers_of-low in
    let there = span_there c.args.self.now c.args.rules.now c.args.from c.numbers_of-low.result.0 c.numbers_of-low.result.1 (within at) to marked in
    absurd (omega (arith, there.1, high, low))

pub loop-number-preserved : goal.loop-number-preserved
loop-number-preserved c =
    let next = c.loop-number.number in
    none_among c.args.self.now c.args.rules.now c.args.from (next - 1) c.any_marked.result c.args.past next c.any_marked.ensures (omega arith) (omega arith) c.loop-number.invariant (c.in_default.ensures.none refl)

pub returns-in-Some-clause-last : goal.returns-in-Some-clause-last
returns-in-Some-clause-last c =
    let next = c.loop-number.number in
    last_among c.args.self.now c.args.rules.now c.args.from (next - 1) c.any_marked.result c.args.past next c.any_marked.ensures (omega arith) (omega arith) c.loop-number.invariant c.in-Some.to c.in-Some.ensures.set c.in-Some.ensures.last

pub returns-clause-none : goal.returns-clause-none
returns-clause-none c = λ none to low marked.
    let at = (goal.at.returns-clause-none c).After-numbers_of-low in
    let there = span_there c.args.self.now c.args.rules.now c.args.from c.numbers_of-low.result.0 c.numbers_of-low.result.1 (within at) to marked in
    c.loop-number.invariant to (omega (arith, there.0, c.loop-number-test.false)) low marked
