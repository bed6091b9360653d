use Rattle.std.proofs.Common.{◌<◌}
use Rattle.first_trees.specs.Entries.{Entry}
use Rattle.first_trees.specs.RankedSplits.{IsRankedSplit}
use Rattle.k_best.specs.Growing.{IsHeaded}
use Rattle.k_best.specs.GrowingLists.{no_ranks}
use Rattle.k_best.specs.RankedRows.{IsListing}
use Rattle.k_best.proofs.opening.meet_all_heads.Given as goal

-- the ranked splits by the alternatives before this one have their heads
abbrev pub invariant-loop-alt : goal.invariant-loop-alt
invariant-loop-alt l = record {
  listing : IsListing l.basis.lines.now l.basis.k l.cell l.found.items;
  met : (entry : Entry) → IsRankedSplit l.basis.lines.now l.basis.k l.cell entry → entry.choice.alt < l.alt
      → IsHeaded l.basis.lines.now l.basis.k l.cell no_ranks l.found.items entry;
}
