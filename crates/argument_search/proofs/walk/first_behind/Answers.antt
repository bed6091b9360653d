use Rattle.std.proofs.Common.{◌≡◌, ◌+◌, ◌-◌, ◌%◌, length, subst, ap, arith}
use Rattle.std.specs.Prelude.{MatchOption}
use Rattle.std.proofs.lemmas.Nat.{mod_below}
use Rattle.argument_search.specs.Seeking.{turned_of, IsNoneLeft, IsFirstLeft}
use Rattle.argument_search.proofs.walk.first_behind.Goals as goal

pub overflow_cast-count : goal.overflow_cast-count
overflow_cast-count g c =
    let e = ap length c.alternatives.ensures.alternatives in
    let few = c.alternatives.ensures.few in
    omega arith

pub overflow_add-turned : goal.overflow_add-turned
overflow_add-turned g c =
    let e = ap length c.alternatives.ensures.alternatives in
    let few = c.alternatives.ensures.few in
    let known = c.requires.alternative in
    let f = c.from.ensures in
    omega arith

pub overflow_add-turned-2 : goal.overflow_add-turned-2
overflow_add-turned-2 g c =
    let e = ap length c.alternatives.ensures.alternatives in
    let few = c.alternatives.ensures.few in
    let first = c.requires.walk.first in
    let below = mod_below (c.from.result + length c.alternatives.result.now - c.args.visit.first)
    (length c.alternatives.result.now) (omega arith) in
    omega arith

pub returns : goal.returns
returns g c =
    let p = c.args.problem.now in
    let v = c.args.visit in
    let Noted = g.N.NotedCells.is_noted c.args.noted.now in
    let n = ap length c.alternatives.ensures.alternatives in
    let f = c.from.ensures in
    let same : (c.from.result + length c.alternatives.result.now - v.first) % length c.alternatives.result.now + 1 ≡
    turned_of p v c.args.alternative + 1 =
    λ i. (f i + n i - v.first) % n i + 1 in
    subst (λ x. MatchOption c.first_from.result (IsNoneLeft p Noted v x) (IsFirstLeft p Noted v x)) same
    c.first_from.ensures
