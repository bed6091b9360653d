use Rattle.std.proofs.Common.{◌≡◌, ◌+◌, ◌-◌, ◌<◌, ◌≤◌, ℕ, Bool, true, false, not, Option, Some, None, IfSome, List, length, slice_index, arith, rules}
use Rattle.std.specs.Bool.{OnTrue}
use Rattle.std.specs.List.{Contains}
use Rattle.argument_search.specs.declared.skipping.Ahead.{Ahead}
use Rattle.argument_search.specs.declared.skipping.OpenPair.{OpenPair}
use Rattle.adp_model.specs.declared.cell.Cell.{Cell}
use Rattle.argument_search.specs.Skipping.{IsLeftBetween, IsNotedUpTo, IsNotedAt}
use Rattle.argument_search.proofs.NotedPositions.{at_contained, first_or_behind, last_or_before, noted_up, noted_down, noted_round}
use Rattle.argument_search.proofs.skipping.next_boundary.Goals as goal

last_short : (positions : List ℕ) (letters : ℕ) → 0 < length positions
    → ((other : ℕ) → Contains positions other → other + letters ≤ 4000)
    → slice_index positions (length positions - 1) + letters ≤ 4000
last_short positions letters some short =
    short (slice_index positions (length positions - 1)) (at_contained positions (length positions - 1) (omega (arith, some)))

-- what the cells are noted up to is noted at the position too, where it is so up to the end
at_position : (Noted : Cell → Type 0) (pair : OpenPair) (begin past : ℕ) (ahead : Ahead)
    → IsLeftBetween Noted pair begin past ahead → OnTrue ahead.is_noted (IsNotedAt Noted pair ahead.position)
at_position Noted pair begin past ahead left = go ahead.is_noted left.whole
  where
    go : (b : Bool) → OnTrue b ((position : ℕ) → Contains pair.positions.now position → begin ≤ position → position < past
        → IsNotedAt Noted pair position) → OnTrue b (IsNotedAt Noted pair ahead.position)
    go true whole = whole ahead.position left.stands left.low left.high
    go false whole = tt

where_noted : (b : Bool) (P : Type 0) → not b ≡ false → OnTrue b P → P
where_noted true P e it = it
where_noted false P e it = absurd cc

-- both of an option's facts
both : (found : Option Ahead) (A B C : Ahead → Type 0) → IfSome found A → ((ahead : Ahead) → A ahead → B ahead)
    → ((ahead : Ahead) → A ahead → C ahead) → IfSome found B × IfSome found C
both None A B C it f g = (tt, tt)
both (Some ahead) A B C it f g = (f ahead it, g ahead it)

pub first_left-requires-clause-short : goal.first_left-requires-clause-short
first_left-requires-clause-short g c =
    let short = last_short c.args.pair.positions.now c.args.pair.letters (search rules) c.requires.short in
    omega (arith, short, c.min.ensures)

pub returns-then-position-pivot : goal.returns-then-position-pivot
returns-then-position-pivot g c =
    let Noted = g.N.NotedCells.is_noted c.args.noted.now in
    let past = c.min.result in
    let it = both c.first_left.result (IsLeftBetween Noted c.args.pair c.args.position past)
    (λ ahead. IsNotedUpTo Noted c.args.cell c.args.turn c.args.pair c.args.position ahead.position)
    (λ ahead. OnTrue ahead.is_noted (IsNotedAt Noted c.args.pair ahead.position)) c.first_left.ensures
    (λ ahead left.
    noted_down c.args.cell c.args.turn c.args.pair c.requires.turn c.requires.order c.requires.within
    c.ranks_begin_at_the_turn.ensures.behind c.ranks_begin_at_the_turn.ensures.before Noted c.args.position ahead.position
    c.requires.position.0 left.stands left.low (omega (arith, left.high, c.min.ensures)) left.noted)
    (λ ahead left. at_position Noted c.args.pair c.args.position past ahead left) in
    record { up_to = it.0; noted = it.1 }

pub first_left-requires-2-clause-short : goal.first_left-requires-2-clause-short
first_left-requires-2-clause-short g c =
    let short = last_short c.args.pair.positions.now c.args.pair.letters (search rules) c.requires.short in
    omega (arith, short)

pub returns-then-not-ahead : goal.returns-then-not-ahead
returns-then-not-ahead g c =
    let Noted = g.N.NotedCells.is_noted c.args.noted.now in
    let left = c.in-Some.ensures in
    record {
      up_to = noted_up c.args.cell c.args.turn c.args.pair c.requires.turn c.requires.order c.requires.within
          c.ranks_begin_at_the_turn.ensures.behind c.ranks_begin_at_the_turn.ensures.before Noted c.args.position
          c.in-Some.ahead.position c.requires.position.0 left.stands left.low (omega (arith, c.if-position-pivot.false)) left.noted;
      noted = at_position Noted c.args.pair c.args.position _ c.in-Some.ahead left;
    }

pub first_left-requires-3-clause-short : goal.first_left-requires-3-clause-short
first_left-requires-3-clause-short g c =
    let short = last_short c.args.pair.positions.now c.args.pair.letters (search rules) c.requires.short in
    omega (arith, short, c.if-last-position.false, c.if-position-pivot.false)

pub returns : goal.returns
returns g c =
    let Noted = g.N.NotedCells.is_noted c.args.noted.now in
    let positions = c.args.pair.positions.now in
    let pivot = c.args.cell.from + c.args.turn in
    let whole = where_noted c.in-Some.ahead.is_noted _ c.if-not-ahead.false c.in-Some.ensures.whole in
    let it = both c.first_left-3.result (IsLeftBetween Noted c.args.pair (slice_index positions 0) pivot)
    (λ ahead. IsNotedUpTo Noted c.args.cell c.args.turn c.args.pair c.args.position ahead.position)
    (λ ahead. OnTrue ahead.is_noted (IsNotedAt Noted c.args.pair ahead.position)) c.first_left-3.ensures
    (λ ahead left.
    noted_round c.args.cell c.args.turn c.args.pair c.requires.turn c.requires.order c.requires.within
    c.ranks_begin_at_the_turn.ensures.behind c.ranks_begin_at_the_turn.ensures.before Noted c.args.position ahead.position
    c.requires.position.0 left.stands (slice_index positions 0) (first_or_behind positions c.requires.rising)
    c.requires.position.1 (omega (arith, c.if-position-pivot.false)) left.high
    (λ position contains low.
    whole position contains low (omega (arith, last_or_before positions c.requires.rising position contains))) left.noted)
    (λ ahead left. at_position Noted c.args.pair (slice_index positions 0) pivot ahead left) in
    record { up_to = it.0; noted = it.1 }

pub overflow_add-last : goal.overflow_add-last
overflow_add-last g c =
    let short = last_short c.args.pair.positions.now c.args.pair.letters (search rules) c.requires.short in
    omega (arith, short)

pub overflow_add-last-2 : goal.overflow_add-last-2
overflow_add-last-2 g c =
    let short = last_short c.args.pair.positions.now c.args.pair.letters (search rules) c.requires.short in
    omega (arith, short)
