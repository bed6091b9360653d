use Rattle.std.proofs.Common.{◌≡◌, ℕ, ◌+◌, ◌-◌, ◌<◌, ◌≤◌, length, slice_index, subst, sym, arith}
use Rattle.std.specs.List.{Contains}
use Rattle.std.proofs.lemmas.Bool.{OnTrue_from, eqb-true, ltb-true}
use Rattle.adp_model.specs.declared.grammar.Arg.{Arg}
use Rattle.adp_model.specs.PosedProblem.{PosedProblem}
use Rattle.viable_splits.specs.Placing.{Cover}
use Rattle.split_lines.specs.Laid.{IsCellOf}
use Rattle.split_lines.specs.Lines.{parts_by}
use Rattle.argument_search.specs.Skipping.{AreNotedOn, IsNotedAt}
use Rattle.argument_search.proofs.Demanded.{line_noted, line_stands}
use Rattle.argument_search.proofs.LineHere.{position_within}
use Rattle.argument_search.proofs.NotedPositions.{at_contained, first_or_behind, last_or_before, some_left, some_there}
use Rattle.argument_search.proofs.NotedArguments.{noted_if_laid}
use Rattle.argument_search.proofs.passing.is_line_noted.Given.{Over}
use Rattle.argument_search.proofs.passing.is_line_noted.Goals as goal
use Rattle.argument_search.proofs.passing.is_line_noted.Goals.{After-on-pair}

pub returns-then-is_empty : goal.returns-then-is_empty
returns-then-is_empty g c = λ cover.
    let p = c.args.lines.now in
    let given = c.args.arguments.now in
    let pair = c.on-pair.result in
    let none : length pair.positions.now ≡ 0 = eqb-true _ _ (sym c.if-is_empty.ensures) in
    let it = line_stands p given c.args.line.between pair.from c.args.to pair.letters pair.last pair.positions.now
    c.requires.line.has_line c.on-pair.ensures.boundaries
    (subst (λ at. Cover p given at c.args.to) (sym c.on-pair.ensures.begins) cover) in
    absurd (omega (arith, none, some_there pair.positions.now it.0 it.1))

-- the last position of the boundary
last_of : (g : Over) (c : After-on-pair g) → 0 < length c.on-pair.result.positions.now
    → Contains c.on-pair.result.positions.now
    (slice_index c.on-pair.result.positions.now (length c.on-pair.result.positions.now - 1))
    × (slice_index c.on-pair.result.positions.now 0
    ≤ slice_index c.on-pair.result.positions.now (length c.on-pair.result.positions.now - 1))
    × (slice_index c.on-pair.result.positions.now (length c.on-pair.result.positions.now - 1)
    + c.on-pair.result.letters ≤ 4000)
last_of g c some =
    let pair = c.on-pair.result in
    let positions = pair.positions.now in
    let boundaries = c.on-pair.ensures.boundaries in
    let last = slice_index positions (length positions - 1) in
    let there = at_contained positions (length positions - 1) (omega (arith, some)) in
    let word = subst (λ (q : PosedProblem). length q.word ≤ 4000) c.problem.ensures
    c.admissible.ensures.limits.letters in
    let within = position_within c.args.lines.now (parts_by c.args.arguments.now c.args.line.between) pair.from c.args.to
    pair.letters pair.last positions boundaries last there in (
      there,
      first_or_behind positions boundaries.rising last there,
      omega (arith, within.1, word, c.requires.span.in_word),
    )

pub overflow_add-last : goal.overflow_add-last
overflow_add-last g c =
    let at = (goal.at.overflow_add-last g c).After-on-pair in
    let it = last_of g at (some_left c.on-pair.result.positions.now c.if-is_empty.ensures) in
    omega (arith, it.2)

pub both_noted-requires-clause-order : goal.both_noted-requires-clause-order
both_noted-requires-clause-order g c =
    let at = (goal.at.both_noted-requires-clause-order g c).After-on-pair in
    let it = last_of g at (some_left c.on-pair.result.positions.now c.if-is_empty.ensures) in
    omega (arith, it.1)

pub both_noted-requires-clause-up_to : goal.both_noted-requires-clause-up_to
both_noted-requires-clause-up_to g c =
    let at = (goal.at.both_noted-requires-clause-up_to g c).After-on-pair in
    let it = last_of g at (some_left c.on-pair.result.positions.now c.if-is_empty.ensures) in
    (_, it.0, omega arith)

pub both_noted-requires-clause-short : goal.both_noted-requires-clause-short
both_noted-requires-clause-short g c =
    let at = (goal.at.both_noted-requires-clause-short g c).After-on-pair in
    let it = last_of g at (some_left c.on-pair.result.positions.now c.if-is_empty.ensures) in
    omega (arith, it.2)

pub returns : goal.returns
returns g c =
    OnTrue_from _ _
    (λ e.
    let less = ltb-true _ _ e in
    let p = c.args.lines.now in
    let Noted = g.N.NotedCells.is_noted c.args.noted.now in
    let pair = c.on-pair.result in
    let is = c.on-pair.ensures in
    let rising = is.boundaries.rising in
    let given = c.args.arguments.now in
    let noted_at : (at : ℕ) → Contains pair.positions.now at → IsNotedAt Noted pair at =
    λ at contains.
    c.both_noted.ensures.noted at contains (first_or_behind pair.positions.now rising at contains)
    (omega (arith, last_or_before pair.positions.now rising at contains, less)) in
    noted_if_laid p Noted given c.args.so_far c.args.from c.args.to c.if-not-so_far.false
    (subst (λ at. AreNotedOn p Noted given at c.args.to) is.begins
    (line_noted p Noted given c.args.line.between pair.from c.args.to pair.letters pair.last pair.positions.now
    c.requires.line.has_line is.boundaries
    (λ at contains child here. (noted_at at contains).first child
    (subst (λ (a : Arg). IsCellOf a pair.from at child) (sym is.first) here))
    (λ at contains child here. (noted_at at contains).second child
    (subst (λ (a : Arg). IsCellOf a (at + pair.letters) pair.last child) (sym is.second) here)))))
