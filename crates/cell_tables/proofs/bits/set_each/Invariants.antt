use Rattle.std.proofs.Common.{take}
use Rattle.cell_tables.specs.WordBits.{AreBitsSet, IsBitOfFar}
use Rattle.cell_tables.proofs.FarBits.{IsMoved}
use Rattle.cell_tables.proofs.bits.set_each.Given as goal

abbrev pub invariant-loop-far : goal.invariant-loop-far
invariant-loop-far l =
    AreBitsSet l.initial.words l.words (IsBitOfFar l.start l.low (IsMoved (take l.far-index l.fars) l.shift))
