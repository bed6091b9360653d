use Rattle.std.proofs.Common.{◌≡◌, ℕ, ◌+◌, ◌-◌, take}
use Rattle.std.specs.List.{Contains}
use Rattle.cell_tables.specs.Spans.{AreSet}
use Rattle.cell_tables.proofs.grid.set_places.Given as goal

abbrev pub invariant-loop-place : goal.invariant-loop-place
invariant-loop-place g l =
    AreSet l.initial.values l.values (λ at. (place : ℕ) × Contains (take l.place-index l.places) place × (at ≡ place + l.ahead - l.back)) l.value
