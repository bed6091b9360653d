use Rattle.std.proofs.Common.{◌≡◌, ◌≤◌, ◌<◌, ℕ, length, refl, sym, ap, subst, ◌∙◌, arith}
use Rattle.std.proofs.lemmas.Bool.{false≢true}
use Rattle.adp_model.specs.declared.cell.Cell.{Cell}
use Rattle.adp_model.specs.PosedProblem.{PosedProblem}
use Rattle.adp_model.specs.Cells.{IsCounted}
use Rattle.adp_model.specs.Splits.{FitsSpan}
use Rattle.viable_splits.specs.Placing.{AreEnds, on_span}
use Rattle.cell_tables.specs.Bits.{IsBitOf}
use Rattle.cell_demands.specs.PlaceBits.{IsLastBit}
use Rattle.cell_demands.specs.Rows.{AreMarkedInRows, GoesOn, IsAmong, IsBetween}
use Rattle.cell_demands.proofs.RowMarks.{bit_of_end, end_of_bit, ends_marked_in_rows, its_cell, no_cells, none_without, rows_none}
use Rattle.cell_demands.proofs.rows.mark_ends.Goals as goal
use Rattle.cell_demands.proofs.rows.mark_ends.Goals.{After-argument_ends-ends, After-last_set}

-- where the argument may end in the word
ends_of : (c : After-argument_ends-ends) → AreEnds c.args.lines.now c.args.argument.now c.args.from (length c.args.lines.now.word) c.argument_ends-ends.result
ends_of c =
    let whole : length c.letters-last.result.now ≡ length c.args.lines.now.word = ap length c.letters-last.ensures.word ∙ ap (λ (p : PosedProblem). length p.word) c.problem.ensures in
    subst (λ last. AreEnds c.args.lines.now c.args.argument.now c.args.from last c.argument_ends-ends.result) whole c.argument_ends-ends.ensures

closed : (c : After-argument_ends-ends) → c.argument_ends-ends.result.end ≤ c.argument_ends-ends.result.start
    → GoesOn c.args.lines.now c.args.argument.now (IsAmong c.args.behind) c.args.from → ⊥
closed c none =
    none_without c.args.lines.now c.args.argument.now c.args.from c.args.behind c.requires.behind c.argument_ends-ends.result (ends_of c) none

low : (c : After-last_set) → (c.args.behind.first ≤ c.max-first.result) × (c.argument_ends-ends.result.start ≤ c.max-first.result)
low c = (omega (arith, c.max-first.ensures), omega (arith, c.max-first.ensures))

lowest : (c : After-last_set) (at : ℕ) → c.args.behind.first ≤ at → c.argument_ends-ends.result.start ≤ at → c.max-first.result ≤ at
lowest c at l m = omega (arith, l, m, c.max-first.ensures)

high : (c : After-last_set) → (c.min-past.result ≤ c.args.behind.past) × (c.min-past.result ≤ c.argument_ends-ends.result.end)
high c = (omega (arith, c.min-past.ensures), omega (arith, c.min-past.ensures))

highest : (c : After-last_set) (at : ℕ) → at < c.args.behind.past → at < c.argument_ends-ends.result.end → at < c.min-past.result
highest c at l m = omega (arith, l, m, c.min-past.ensures)

-- an end that the argument may have and that stands behind has its bit in the range
bit : (c : After-last_set) → AreEnds c.args.lines.now c.args.argument.now c.args.from (length c.args.lines.now.word) c.argument_ends-ends.result
    → (end : ℕ) → FitsSpan c.args.lines.now (on_span c.args.argument.now c.args.from end) → IsAmong c.args.behind end
    → IsBitOf c.args.behind.bits.now c.max-first.result c.min-past.result end
bit c are =
    bit_of_end c.args.lines.now c.args.argument.now c.args.from c.args.behind c.requires.behind c.argument_ends-ends.result are
    c.max-first.result c.min-past.result (low c) (lowest c) (high c) (highest c)

none_behind : (c : After-last_set) → AreEnds c.args.lines.now c.args.argument.now c.args.from (length c.args.lines.now.word) c.argument_ends-ends.result
    → ((place : ℕ) → IsBitOf c.args.behind.bits.now c.max-first.result c.min-past.result place → ⊥)
    → GoesOn c.args.lines.now c.args.argument.now (IsAmong c.args.behind) c.args.from → ⊥
none_behind c are none (end, fits, among) = none end (bit c are end fits among)

goes_on : (c : After-last_set) → AreEnds c.args.lines.now c.args.argument.now c.args.from (length c.args.lines.now.word) c.argument_ends-ends.result
    → (last : ℕ) → IsLastBit c.args.behind.bits.now c.max-first.result c.min-past.result last
    → GoesOn c.args.lines.now c.args.argument.now (IsAmong c.args.behind) c.args.from
goes_on c are last is =
    let end = end_of_bit c.args.lines.now c.args.argument.now c.args.from c.args.behind c.requires.behind c.argument_ends-ends.result are
    c.max-first.result c.min-past.result (low c) (lowest c) (high c) (highest c) last is.set in
    (last, end.0, end.1)

nothing : (c : After-argument_ends-ends) → (GoesOn c.args.lines.now c.args.argument.now (IsAmong c.args.behind) c.args.from → ⊥)
    → AreMarkedInRows c.args.marks.now c.args.marks.now (IsBetween c.args.lines.now c.args.argument.now (λ at. at ≡ c.args.from) (IsAmong c.args.behind))
nothing c none =
    let p = c.args.lines.now in
    let argument = c.args.argument.now in
    rows_none c.args.marks.now (IsBetween p argument (λ at. at ≡ c.args.from) (IsAmong c.args.behind))
    (λ cell (at, end, same, fits, among, its). none (subst (GoesOn p argument (IsAmong c.args.behind)) same (end, fits, among)))

pub returns-then-ends-clause-goes_on : goal.returns-then-ends-clause-goes_on
returns-then-ends-clause-goes_on c =
    let at = (goal.at.returns-then-ends-clause-goes_on c).After-argument_ends-ends in
    (λ is. absurd (false≢true is), λ on. absurd (closed at (omega (arith, c.if-ends.true)) on))

pub returns-then-ends-clause-marked : goal.returns-then-ends-clause-marked
returns-then-ends-clause-marked c =
    let at = (goal.at.returns-then-ends-clause-marked c).After-argument_ends-ends in
    nothing at (closed at (omega (arith, c.if-ends.true)))

pub returns-in_default-clause-goes_on : goal.returns-in_default-clause-goes_on
returns-in_default-clause-goes_on c =
    let at = (goal.at.returns-in_default-clause-goes_on c).After-last_set in
    let are = ends_of (goal.at.returns-in_default-clause-goes_on c).After-argument_ends-ends in
    (λ is. absurd (false≢true is), λ on. absurd (none_behind at are c.in_default.ensures on))

pub returns-in_default-clause-marked : goal.returns-in_default-clause-marked
returns-in_default-clause-marked c =
    let at = (goal.at.returns-in_default-clause-marked c).After-last_set in
    let first = (goal.at.returns-in_default-clause-marked c).After-argument_ends-ends in
    nothing first (none_behind at (ends_of first) c.in_default.ensures)

pub mark_ends_of-requires-clause-counted : goal.mark_ends_of-requires-clause-counted
mark_ends_of-requires-clause-counted c = λ to is.
    let at = (goal.at.mark_ends_of-requires-clause-counted c).After-last_set in
    let are = ends_of (goal.at.mark_ends_of-requires-clause-counted c).After-argument_ends-ends in
    let cell : Cell = record { rule = c.in-Rule.rule; from = c.args.from; to = to } in
    let C : PosedProblem → Type 0 = λ p. IsCounted p.grammar (length p.word) cell in
    subst C (sym c.requires.same_problem) (c.requires.counted cell
    (its_cell c.args.lines.now c.args.argument.now c.args.from c.args.behind c.requires.behind c.argument_ends-ends.result are
    c.max-first.result c.min-past.result (low at) (lowest at) (high at) (highest at) c.in-Rule.rule c.in-Rule.is
    c.first_set-first.result c.in-Some.last c.first_set-first.ensures.from_first c.first_set-first.ensures.none_before
    c.in-Some.ensures cell (refl, refl, is)))

pub returns-in-Rule-clause-goes_on : goal.returns-in-Rule-clause-goes_on
returns-in-Rule-clause-goes_on c =
    let at = (goal.at.returns-in-Rule-clause-goes_on c).After-last_set in
    let are = ends_of (goal.at.returns-in-Rule-clause-goes_on c).After-argument_ends-ends in
    (λ _. goes_on at are c.in-Some.last c.in-Some.ensures, λ _. refl)

pub returns-in-Rule-clause-marked : goal.returns-in-Rule-clause-marked
returns-in-Rule-clause-marked c =
    let at = (goal.at.returns-in-Rule-clause-marked c).After-last_set in
    let are = ends_of (goal.at.returns-in-Rule-clause-marked c).After-argument_ends-ends in
    ends_marked_in_rows c.args.lines.now c.args.argument.now c.args.from c.args.behind c.requires.behind c.argument_ends-ends.result are
    c.max-first.result c.min-past.result (low at) (lowest at) (high at) (highest at) c.in-Rule.rule c.in-Rule.is
    c.first_set-first.result c.in-Some.last c.first_set-first.ensures.from_first c.first_set-first.ensures.none_before
    c.in-Some.ensures c.args.marks.now c.mark_ends_of.new.self c.mark_ends_of.ensures.marked c.mark_ends_of.ensures.in_row

pub returns-in_default-argument : goal.returns-in_default-argument
returns-in_default-argument c =
    let at = (goal.at.returns-in_default-argument c).After-last_set in
    let are = ends_of (goal.at.returns-in_default-argument c).After-argument_ends-ends in
    record {
      goes_on = (λ _. goes_on at are c.in-Some.last c.in-Some.ensures, λ _. refl);
      marked = no_cells c.args.lines.now c.args.argument.now (λ at. at ≡ c.args.from) (IsAmong c.args.behind) c.in_default-argument.not-Rule c.args.marks.now;
    }
