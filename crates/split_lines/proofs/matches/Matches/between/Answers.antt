use Rattle.std.proofs.Common.{◌↔◌, ℕ, ◌-◌, ◌<◌, ◌≤◌, List, take, drop, sym, subst, rules, arith}
use Rattle.std.specs.List.{Contains}
use Rattle.std.proofs.lemmas.List.{get_or_read}
use Rattle.split_lines.proofs.MatchLists.{AreRising, part_in_order, part_within, part_exact, part_rising}
use Rattle.split_lines.proofs.matches.Matches.between.Goals as goal

pub slice_bounds-result-count : goal.slice_bounds-result-count
slice_bounds-result-count c =
    let positions = c.args.self.now.positions.items in
    let before = c.args.self.now.before.items in
    let i_is = get_or_read before c.args.first c.index.result.now (omega arith) c.index.ensures 0 in
    let j_is = get_or_read before c.args.past c.index-2.result.now (omega arith) c.index-2.ensures 0 in
    part_in_order positions before c.requires.counts c.args.first c.args.past _ _ c.requires.in_order c.requires.within i_is j_is

pub slice_bounds-result-start : goal.slice_bounds-result-start
slice_bounds-result-start c =
    let positions = c.args.self.now.positions.items in
    let before = c.args.self.now.before.items in
    let i_is = get_or_read before c.args.first c.index.result.now (omega arith) c.index.ensures 0 in
    let j_is = get_or_read before c.args.past c.index-2.result.now (omega arith) c.index-2.ensures 0 in
    let in_order = part_in_order positions before c.requires.counts c.args.first c.args.past _ _ c.requires.in_order c.requires.within i_is j_is in
    let within = part_within positions before c.requires.counts c.args.first c.args.past _ _ c.requires.in_order c.requires.within i_is j_is in
    search rules

pub returns-clause-exact : goal.returns-clause-exact
returns-clause-exact c = λ position.
    let before = c.args.self.now.before.items in
    let i_is = get_or_read before c.args.first c.index.result.now (omega arith) c.index.ensures 0 in
    let j_is = get_or_read before c.args.past c.index-2.result.now (omega arith) c.index-2.ensures 0 in
    let P : List ℕ → Type 0 = λ positions. Contains (take (c.index-2.result.now - c.index.result.now) (drop c.index.result.now positions)) position
    ↔ (Contains c.args.self.now.positions.items position × (c.args.first ≤ position) × (position < c.args.past)) in
    subst P (sym c.deref.ensures.value) (part_exact c.args.self.now.positions.items before c.requires.counts c.args.first c.args.past _ _ c.requires.in_order c.requires.within i_is j_is position)

pub returns-clause-rising : goal.returns-clause-rising
returns-clause-rising c =
    let before = c.args.self.now.before.items in
    let i_is = get_or_read before c.args.first c.index.result.now (omega arith) c.index.ensures 0 in
    let j_is = get_or_read before c.args.past c.index-2.result.now (omega arith) c.index-2.ensures 0 in
    let P : List ℕ → Type 0 = λ positions. AreRising (take (c.index-2.result.now - c.index.result.now) (drop c.index.result.now positions)) in
    subst P (sym c.deref.ensures.value) (part_rising c.args.self.now.positions.items before c.requires.counts c.args.first c.args.past _ _ c.requires.in_order c.requires.within i_is j_is c.requires.rising)
