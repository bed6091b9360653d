use Rattle.std.proofs.Common.{◌≡◌, map, length}
use Rattle.std.specs.List.{AllWithin}
use Rattle.word_groups.proofs.filling.fill_each.Given as goal

abbrev pub invariant-loop-place : goal.invariant-loop-place
invariant-loop-place g l = record {
  filled : AllWithin g.S.Fill.is_filled l.slots 0 l.place;
  ready : AllWithin g.S.Fill.is_ready l.slots l.place (length l.slots);
  asked : map g.S.Fill.asked l.slots ≡ map g.S.Fill.asked l.fn.slots;
}
