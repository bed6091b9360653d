use Rattle.std.proofs.Common.{◌+◌, ◌*◌, ◌≤◌, length}
use Rattle.cell_layouts.specs.Layout.{AreFirstBlocks}
use Rattle.cell_layouts.proofs.laying.laid_blocks.Given as goal

abbrev pub invariant-loop-rule : goal.invariant-loop-rule
invariant-loop-rule l = record {
  blocks : AreFirstBlocks l.problem.grammar (length l.problem.word) l.side (l.rule * (length l.problem.word + 1)) l.place l.blocks.items;
  few : l.place ≤ l.rule * 16008001;
}

abbrev pub invariant-loop-near : goal.invariant-loop-near
invariant-loop-near l = record {
  blocks : AreFirstBlocks l.problem.grammar (length l.problem.word) l.side (l.rule * (length l.problem.word + 1) + l.near) l.place l.blocks.items;
  few : l.place ≤ l.rule * 16008001 + l.near * 4001;
}
