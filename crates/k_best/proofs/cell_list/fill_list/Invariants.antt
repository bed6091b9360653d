use Rattle.std.proofs.Common.{◌<◌}
use Rattle.adp_model.specs.Parts.{algebra_of}
use Rattle.first_trees.specs.Entries.{Entry}
use Rattle.first_trees.specs.RankedSplits.{IsRankedSplit}
use Rattle.k_best.specs.RankedRows.{IsListing}
use Rattle.k_best.specs.Settled.{IsSettled}
use Rattle.k_best.proofs.cell_list.fill_list.Given as goal

-- the ranked splits by the alternatives before this one are settled
abbrev pub invariant-loop-alt : goal.invariant-loop-alt
invariant-loop-alt l = record {
  listing : IsListing l.lines l.k l.cell l.listed.items;
  met : (entry : Entry) → IsRankedSplit l.lines l.k l.cell entry → entry.choice.alt < l.alt
      → IsSettled (algebra_of l.lines).goal l.k l.listed.items entry;
}
