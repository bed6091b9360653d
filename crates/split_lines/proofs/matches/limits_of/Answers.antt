use Rattle.std.proofs.Common.{◌≡◌, ℤ, List, length, sym, subst, ap, ◌∙◌, arith}
use Rattle.std.specs.Vec.{with_items}
use Rattle.std.proofs.lemmas.List.{with_items_is, length-replicate}
use Rattle.score_numbers.specs.Packing.{short}
use Rattle.split_lines.specs.Matching.{AreLimitsOf}
use Rattle.split_lines.proofs.LimitLists.{limits_set}
use Rattle.split_lines.proofs.matches.limits_of.Goals as goal

pub set_places-requires-clause-within : goal.set_places-requires-clause-within
set_places-requires-clause-within c = λ position contains.
    let same = c.in_ok-limits.ensures.items_if_clones_equal (λ other e. e) in
    let many = ap length same in
    let begun = ap length c.deref_mut.ensures.value in
    omega (arith, c.requires position contains, many, begun, length-replicate c.args.count short.mark)

pub returns : goal.returns
returns c =
    let same = c.in_ok-limits.ensures.items_if_clones_equal (λ other e. e) in
    let F : List ℤ → Type 0 = AreLimitsOf c.args.count c.args.positions.now in
    let refilled : (with_items c.in_ok-limits.limits c.set_places.new.values).items ≡ c.set_places.new.values = with_items_is c.in_ok-limits.limits c.set_places.new.values (c.set_places.ensures.as_many ∙ c.deref_mut.ensures.len) in
    subst F (sym refilled) (limits_set c.args.count c.args.positions.now c.deref_mut.result.now c.set_places.new.values c.requires (c.deref_mut.ensures.value ∙ same) c.set_places.ensures)
