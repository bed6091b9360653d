use Rattle.std.proofs.Common.{◌+◌, ◌-◌, ◌<◌, ◌≤◌, ℤ, List, length, take, drop, sym, subst, rules, arith}
use Rattle.score_numbers.specs.Limits.{AreLimited}
use Rattle.split_lines.proofs.LimitLists.{first_before, last_within, limited_among}
use Rattle.split_lines.proofs.matches.Matches.limits_among.Goals as goal
use Rattle.split_lines.proofs.matches.Matches.limits_among.Goals.{After-row_known-in-Some-Some-1}

in_order : (c : After-row_known-in-Some-Some-1) → c.in-Some-Some.first.now ≤ c.in-Some-Some.last.now
in_order c = let r = c.requires in
    first_before c.args.self.now.positions.items c.args.positions.now c.args.self.now.limits.items r.limits r.some r.whole r.rising c.in-Some-Some.first.now c.in-Some-Some.last.now c.in-Some-Some.ensures.value c.in-Some-Some.ensures'.value

within : (c : After-row_known-in-Some-Some-1) → c.in-Some-Some.last.now < length c.args.self.now.limits.items
within c = let r = c.requires in
    last_within c.args.self.now.positions.items c.args.positions.now c.args.self.now.limits.items r.limits r.some r.whole r.rising c.in-Some-Some.first.now c.in-Some-Some.last.now c.in-Some-Some.ensures.value c.in-Some-Some.ensures'.value

pub slice_bounds-result-count : goal.slice_bounds-result-count
slice_bounds-result-count c = omega (arith, in_order c)

pub slice_bounds-result-start : goal.slice_bounds-result-start
slice_bounds-result-start c = let a = in_order c in let b = within c in search rules

pub slice_bounds-result-end : goal.slice_bounds-result-end
slice_bounds-result-end c = let a = in_order c in let b = within c in search rules

pub returns-in-Some-Some : goal.returns-in-Some-Some
returns-in-Some-Some c =
    let r = c.requires in
    let first = c.in-Some-Some.first.now in
    let last = c.in-Some-Some.last.now in
    let F : List ℤ → Type 0 = λ limits. AreLimited c.args.positions.now (take (last + 1 - first) (drop first limits)) in
    subst F (sym c.deref.ensures.value) (limited_among c.args.self.now.positions.items c.args.positions.now c.args.self.now.limits.items r.limits r.some r.whole r.rising first last c.in-Some-Some.ensures.value c.in-Some-Some.ensures'.value)
