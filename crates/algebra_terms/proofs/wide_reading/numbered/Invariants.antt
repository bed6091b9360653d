use Rattle.std.proofs.Common.{take}
use Rattle.algebra_terms.specs.WideReading.{AreNumbers}
use Rattle.algebra_terms.proofs.wide_reading.numbered.Given as goal

abbrev pub invariant-loop-i : goal.invariant-loop-i
invariant-loop-i l = AreNumbers l.numbers (take l.i l.vars)
