use Rattle.memo_table.proofs.ClosedParts.{AreOtherKeys}
use Rattle.memo_table.proofs.closed.Closed.find.Given as goal

abbrev pub invariant-loop-turn : goal.invariant-loop-turn
invariant-loop-turn l = AreOtherKeys l.self l.code l.turn
