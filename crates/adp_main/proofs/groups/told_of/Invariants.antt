use Rattle.std.proofs.Common.{◌≡◌, ◌++◌, map, IfSome}
use Rattle.std.specs.List.{AllZip}
use Rattle.std.specs.Vec.Iter.{into_iter_items}
use Rattle.adp_main.specs.Groups.{IsTold, post_of}
use Rattle.adp_main.proofs.groups.told_of.Given as goal

abbrev pub invariant-loop-slot : goal.invariant-loop-slot
invariant-loop-slot g l = record {
  left : l.yielded ++ into_iter_items l.slot-iterator ≡ l.fn.slots.items;
  told : AllZip (λ post told. IfSome told (IsTold post)) (map post_of l.yielded) l.all.items;
}
