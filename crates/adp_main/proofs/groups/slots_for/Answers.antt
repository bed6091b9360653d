use Rattle.std.proofs.Common.{◌≡◌, ◌+◌, map, get_or, refl, ap, sym, ◌∙◌, arith}
use Rattle.std.specs.Option.{option_copied}
use Rattle.evaluators.proofs.Listed.{take_whole}
use Rattle.adp_main.specs.Groups.{Post, post_of, posts_from}
use Rattle.adp_main.proofs.Posts.{map_next, post_at, posts_length}
use Rattle.adp_main.proofs.groups.slots_for.Goals as goal

pub loop-place-preserved : goal.loop-place-preserved
loop-place-preserved g c =
    let command = c.args.command.now in
    let made = option_copied c.args.made in
    let problems = c.args.problems.now in
    let posts = posts_from command made c.args.number problems in
    let place = c.loop-place.place in
    let long = posts_length command made c.args.number problems in
    let post : Post =
    record { command = command; made = made; number = c.args.number + place; problem = c.new.result } in
    let its = c.new.ensures ∙ c.index-problems-place.is ∙ ap (λ d. get_or problems place d) (sym c.new.ensures) in
    let here : post ≡ get_or posts place post =
    sym (post_at command made c.args.number problems place c.new.result (c.args.number + place) (omega arith) its refl post) in
    ap (map post_of) (c.in_ok-push.ensures {u = tt}).items
    ∙ map_next post_of c.loop-place.slots.items posts _ place (omega (arith, long)) c.loop-place.invariant here

pub returns : goal.returns
returns g c =
    let long = posts_length c.args.command.now (option_copied c.args.made) c.args.number c.args.problems.now in
    let posts = posts_from c.args.command.now (option_copied c.args.made) c.args.number c.args.problems.now in
    c.loop-place.invariant ∙ take_whole posts c.loop-place.place (omega (arith, long))
