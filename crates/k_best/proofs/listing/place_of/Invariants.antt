use Rattle.std.proofs.Common.{◌≤◌, length, drop}
use Rattle.std.specs.List.{AllByRecursion}
use Rattle.first_trees.specs.Entries.{EntryPrecedes}
use Rattle.k_best.proofs.listing.place_of.Given as goal

-- no entry from this place on comes before the new one
abbrev pub invariant-loop-place : goal.invariant-loop-place
invariant-loop-place l =
    (l.place ≤ length l.listed)
    × AllByRecursion (λ other. EntryPrecedes l.goal other l.entry → ⊥) (drop l.place l.listed)

abbrev pub decreases-loop-place : goal.decreases-loop-place
decreases-loop-place l = l.place
