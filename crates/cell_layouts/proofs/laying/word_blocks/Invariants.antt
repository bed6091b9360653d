use Rattle.std.proofs.Common.{◌*◌, ◌≤◌, take}
use Rattle.cell_layouts.specs.Layout.{AreWordBlocks}
use Rattle.cell_layouts.proofs.laying.word_blocks.Given as goal

abbrev pub invariant-loop-far : goal.invariant-loop-far
invariant-loop-far l = record {
  words : AreWordBlocks (take l.far-index l.fars) l.place l.blocks.items;
  few : l.place ≤ l.far-index * 1024;
}
