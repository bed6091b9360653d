use Rattle.std.proofs.Common.{◌≡◌, ℕ, false, not, List, ◌+◌, ◌<◌, ◌≤◌, ◌∷◌, drop, length, slice_index, slice_index_or, ap, sym, subst, ◌∙◌, arith}
use Rattle.std.specs.Bool.{OnTrue, OnFalse}
use Rattle.std.specs.List.{Contains}
use Rattle.std.proofs.lemmas.Bool.{true≢false}
use Rattle.adp_model.specs.declared.grammar.Arg.{Arg}
use Rattle.adp_model.specs.declared.grammar.Arg.TheVariants.{Rule}
use Rattle.memo_model.specs.declared.visit.Position.{Position}
use Rattle.adp_model.specs.PosedProblem.{PosedProblem}
use Rattle.adp_model.specs.Parts.{arguments_of}
use Rattle.adp_model.specs.Splits.{ends_by, FitsSpan}
use Rattle.viable_splits.specs.Placing.{on_span}
use Rattle.split_lines.specs.Lines.{parts_by, IsLine}
use Rattle.argument_search.specs.Skipping.{IsReached, IsSkipped}
use Rattle.argument_search.proofs.LineHere.{cut_within, start_within, few_before, position_within, spans_there, at_moved}
use Rattle.argument_search.proofs.Reached.{is_told}
use Rattle.argument_search.proofs.skipping.reached.Given.{Over}
use Rattle.argument_search.proofs.skipping.reached.Goals as goal
use Rattle.argument_search.proofs.skipping.reached.Goals.{In-Some, After-pair_of-pair, then-ahead, else-ahead, else-ahead-cuts-via-then-ahead-cuts+else-number-at, else-ahead-cuts-via-else-ahead-cuts}

-- the arguments of the split's alternative
abbrev all : (g : Over) (c : In-Some g) → List Arg
all g c = arguments_of c.args.problem.now.grammar c.args.visit.cell.rule c.args.argument.now.alternative

-- the line is one of the problem
line_is : (g : Over) (c : In-Some g)
    → IsLine c.args.problem.now (drop c.in-Some.line.first (all g c)) c.in-Some.line
line_is g c =
    subst
    (λ (q : PosedProblem). IsLine q
    (drop c.in-Some.line.first
    (arguments_of q.grammar c.args.visit.cell.rule c.args.argument.now.alternative)) c.in-Some.line)
    c.requires.same c.in-Some.ensures

few_are : (g : Over) (c : In-Some g)
    → (c.in-Some.line.first + c.in-Some.line.between < 3) × (c.in-Some.line.first < length (all g c))
few_are g c =
    few_before (all g c) c.in-Some.line.first c.in-Some.line.between (line_is g c).has_line
    (c.arguments_are_few_and_known.ensures.few c.args.problem.now.grammar c.admissible.ensures.checked.well_formed
    c.args.visit.cell.rule c.args.argument.now.alternative)

pub pair_of-pair-requires-clause-line : goal.pair_of-pair-requires-clause-line
pair_of-pair-requires-clause-line g c = line_is g (goal.at.pair_of-pair-requires-clause-line g c).In-Some

-- where the line begins
begin_is : (g : Over) (c : In-Some g)
    → c.args.visit.cell.from
    ≤ slice_index (c.args.visit.cell.from ∷ ends_by c.args.visit.cell c.args.argument.now.cuts) c.in-Some.line.first
begin_is g c =
    let cell = c.args.visit.cell in
    let at = c.args.argument.now in
    let within = c.viable_cuts_lie_within_the_cell.ensures c.args.problem.now c.admissible.ensures.checked.well_formed cell
    at.alternative at.cuts c.requires.span.in_order c.requires.argument.viable in
    (start_within cell at.cuts within c.requires.span.in_order c.in-Some.line.first
    (let few = few_are g c in omega (arith, few.0, c.requires.argument.viable.three))).0

-- the positions of its boundary lie within the cell, and so do the letters behind them
position_is : (g : Over) (c : After-pair_of-pair g) (begin : c.args.visit.cell.from
    ≤ slice_index (c.args.visit.cell.from ∷ ends_by c.args.visit.cell c.args.argument.now.cuts) c.in-Some.line.first)
    → (position : ℕ) → Contains c.pair_of-pair.result.positions.now position
    → (c.args.visit.cell.from ≤ position) × (position + c.pair_of-pair.result.letters ≤ c.args.visit.cell.to)
position_is g c begin position contains =
    let pair = c.pair_of-pair.result in
    let arguments : List Arg =
    arguments_of c.args.problem.now.grammar c.args.visit.cell.rule c.args.argument.now.alternative in
    let it = position_within c.args.problem.now
    (parts_by (drop c.in-Some.line.first arguments) c.in-Some.line.between) pair.from c.args.visit.cell.to pair.letters
    pair.last pair.positions.now c.pair_of-pair.ensures.boundaries position contains in
    (omega (arith, it.0, begin, c.pair_of-pair.ensures.begins), it.1)

pub next_boundary-requires-clause-within : goal.next_boundary-requires-clause-within
next_boundary-requires-clause-within g c = λ other contains.
    let at = goal.at.next_boundary-requires-clause-within g c in
    let it = position_is g at.After-pair_of-pair (begin_is g at.In-Some) other contains in
    (it.0, omega (arith, it.1))

pub next_boundary-requires-clause-short : goal.next_boundary-requires-clause-short
next_boundary-requires-clause-short g c = λ other contains.
    let at = goal.at.next_boundary-requires-clause-short g c in
    let it = position_is g at.After-pair_of-pair (begin_is g at.In-Some) other contains in
    omega (arith, it.1, c.requires.span.in_word, c.admissible.ensures.limits.letters)

pub next_boundary-requires-clause-position : goal.next_boundary-requires-clause-position
next_boundary-requires-clause-position g c =
    let p = c.args.problem.now in
    let cell = c.args.visit.cell in
    let cuts = c.args.argument.now.cuts in
    let viable = c.requires.argument.viable in
    let within =
    c.viable_cuts_lie_within_the_cell.ensures p c.admissible.ensures.checked.well_formed cell
    c.args.argument.now.alternative cuts c.requires.span.in_order viable in
    let few = few_are g (goal.at.next_boundary-requires-clause-position g c).In-Some in
    cut_within cell cuts within c.in-Some.line.first (omega (arith, few.0, viable.three))

pub is_viable-requires-clause-short : goal.is_viable-requires-clause-short
is_viable-requires-clause-short g c =
    let at = goal.at.is_viable-requires-clause-short g c in
    let it = position_is g at.After-pair_of-pair (begin_is g at.In-Some) c.in-Some-next_boundary.ahead.position
    c.in-Some-next_boundary.ensures.up_to.stands in
    omega (arith, it.1, c.moved-cuts.ensures.there, c.requires.span.in_word, c.admissible.ensures.limits.letters)

-- the spans of the line's arguments where its boundary stands at a position
spans_are : (g : Over) (c : After-pair_of-pair g) (position cut : ℕ) → Contains c.pair_of-pair.result.positions.now position
    → cut ≡ position
    → FitsSpan c.args.problem.now (on_span
    (slice_index_or
    (arguments_of c.args.problem.now.grammar c.args.visit.cell.rule c.args.argument.now.alternative) c.in-Some.line.first
    (Rule 0))
    (slice_index (c.args.visit.cell.from ∷ ends_by c.args.visit.cell c.args.argument.now.cuts) c.in-Some.line.first) cut)
    × FitsSpan c.args.problem.now (on_span
    (slice_index_or
    (arguments_of c.args.problem.now.grammar c.args.visit.cell.rule c.args.argument.now.alternative)
    (c.in-Some.line.first + c.in-Some.line.between + 1) (Rule 0))
    (cut + c.pair_of-pair.result.letters) c.pair_of-pair.result.last)
spans_are g c position cut contains is =
    let pair = c.pair_of-pair.result in
    spans_there c.args.problem.now
    (arguments_of c.args.problem.now.grammar c.args.visit.cell.rule c.args.argument.now.alternative) c.in-Some.line.first
    c.in-Some.line.between pair.from c.args.visit.cell.to pair.letters pair.last pair.positions.now
    c.pair_of-pair.ensures.boundaries position contains
    (slice_index (c.args.visit.cell.from ∷ ends_by c.args.visit.cell c.args.argument.now.cuts) c.in-Some.line.first) cut
    c.pair_of-pair.ensures.begins is

pub is_viable-requires-clause-first : goal.is_viable-requires-clause-first
is_viable-requires-clause-first g c =
    (spans_are g (goal.at.is_viable-requires-clause-first g c).After-pair_of-pair c.in-Some-next_boundary.ahead.position
    (slice_index c.moved-cuts.result c.in-Some.line.first) c.in-Some-next_boundary.ensures.up_to.stands
    c.moved-cuts.ensures.there).0

pub is_viable-requires-clause-second : goal.is_viable-requires-clause-second
is_viable-requires-clause-second g c =
    (spans_are g (goal.at.is_viable-requires-clause-second g c).After-pair_of-pair c.in-Some-next_boundary.ahead.position
    (slice_index c.moved-cuts.result c.in-Some.line.first) c.in-Some-next_boundary.ensures.up_to.stands
    c.moved-cuts.ensures.there).1

pub returns : goal.returns
returns g c =
    let p = c.args.problem.now in
    let cell = c.args.visit.cell in
    let at = c.args.argument.now in
    let n = c.in-Some.line.first in
    let pair = c.pair_of-pair.ensures in
    let formed = c.admissible.ensures.checked.well_formed in
    let arguments : List Arg = arguments_of p.grammar cell.rule at.alternative in
    let has = (line_is g (goal.at.returns g c).In-Some).has_line in
    let few = few_are g (goal.at.returns g c).In-Some in
    let number = c.if-ahead.number in
    let counted = ap length c.arguments-count.ensures.arguments in
    let later : slice_index at.cuts n ≡ c.in-Some-next_boundary.ahead.position → at.number < number =
    λ same. elim c.else-ahead-cuts.branch [
      | else-ahead-cuts-via-then-ahead-cuts+else-number-at w ↦ omega (arith, w.if-number-at.false)
      | else-ahead-cuts-via-else-ahead-cuts w ↦ absurd (w.if-ahead-cuts.false (sym same))
    ] in
    let at_first : c.in-Some-next_boundary.ahead.is_noted ≡ false → number ≡ n =
    λ e. elim c.if-ahead.branch [
      | then-ahead w ↦ absurd (true≢false (sym w.if-ahead.true ∙ e))
      | else-ahead w ↦ w.number-is
    ] in
    let numbered : number < length arguments = elim c.if-ahead.branch [
      | then-ahead w ↦ omega (arith, w.number-is, counted, few.1)
      | else-ahead w ↦ omega (arith, w.number-is, few.1)
    ] in
    let it = is_told p (g.N.NotedCells.is_noted c.args.noted.now) c.args.visit c.requires.walk at c.moved-cuts.result n
    c.in-Some-next_boundary.ahead.position number
    c.ranks_begin_at_the_turn.ensures.apart
    (λ alternative cuts viable. c.viable_cuts_lie_within_the_cell.ensures p formed cell alternative cuts
    c.requires.span.in_order viable)
    (λ alternative. c.arguments_are_few_and_known.ensures.few p.grammar formed cell.rule alternative)
    c.requires.argument c.if-not-is_viable.ensures
    (omega (arith, few.0)) c.moved-cuts.ensures.front c.moved-cuts.ensures.there
    c.if-not-are_noted_before.ensures c.pair_of-pair.result c.in-Some-next_boundary.ensures.up_to later
    (parts_by (drop n arguments) c.in-Some.line.between) has.parts pair.boundaries pair.begins pair.first pair.second
    few.1 numbered
    c.in-Some-next_boundary.ahead.is_noted at_first c.in-Some-next_boundary.ensures.noted in
    let there = at_moved c.at_number.result c.first_of-there.result at.alternative c.moved-cuts.result number
    c.at_number.ensures c.first_of-there.ensures in
    record {
      next = subst
          (λ (to : Position). OnTrue (not c.in-Some-next_boundary.ahead.is_noted)
          (IsReached p (g.N.NotedCells.is_noted c.args.noted.now) c.args.visit at to)) (sym there) it.0;
      past = subst
          (λ (to : Position). OnFalse (not c.in-Some-next_boundary.ahead.is_noted)
          (IsSkipped p (g.N.NotedCells.is_noted c.args.noted.now) c.args.visit at to)) (sym there) it.1;
    }
