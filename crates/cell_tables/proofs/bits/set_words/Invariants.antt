use Rattle.cell_tables.specs.WordBits.{AreBitsSet, IsBitOfFar}
use Rattle.cell_tables.proofs.FarBits.{IsEarly}
use Rattle.cell_tables.proofs.bits.set_words.Given as goal

abbrev pub invariant-loop-number : goal.invariant-loop-number
invariant-loop-number l =
    AreBitsSet l.fn.words l.words (IsBitOfFar l.start l.low (IsEarly l.bits l.first l.past l.number))
