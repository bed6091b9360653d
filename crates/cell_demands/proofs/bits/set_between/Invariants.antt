use Rattle.std.proofs.Common.{◌-◌, ◌<◌, ◌≤◌}
use Rattle.cell_demands.specs.PlaceBits.{HaveBitsToo}
use Rattle.cell_demands.proofs.bits.set_between.Given as goal

abbrev pub invariant-loop-place : goal.invariant-loop-place
invariant-loop-place l = record {
  from_first : l.first ≤ l.place;
  within : l.place ≤ l.past;
  set : HaveBitsToo l.initial.bits l.bits (λ other. (l.first ≤ other) × (other < l.place));
}

abbrev pub decreases-loop-place : goal.decreases-loop-place
decreases-loop-place l = l.past - l.place
