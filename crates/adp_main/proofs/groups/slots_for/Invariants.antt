use Rattle.std.proofs.Common.{◌≡◌, map, take}
use Rattle.std.specs.Option.{option_copied}
use Rattle.adp_main.specs.Groups.{post_of, posts_from}
use Rattle.adp_main.proofs.groups.slots_for.Given as goal

abbrev pub invariant-loop-place : goal.invariant-loop-place
invariant-loop-place g l =
    map post_of l.slots.items ≡ take l.place (posts_from l.command (option_copied l.made) l.number l.problems)
