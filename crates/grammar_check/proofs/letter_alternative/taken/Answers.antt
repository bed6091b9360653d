use Rattle.std.proofs.Common.{◌≡◌, ap, ◌∙◌, arith}
use Rattle.grammar_check.specs.LetterSteps.{taken}
use Rattle.grammar_check.proofs.LetterSteps.{taken_none}
use Rattle.grammar_check.proofs.letter_alternative.taken.Goals as goal

pub returns-then-left-eq0 : goal.returns-then-left-eq0
returns-then-left-eq0 c =
    let loop = c.loop-first in
    let empty : loop.left ≡ 0 = omega (arith, c.if-left-eq0.true) in
    let none = ap (taken loop.rest.now) empty ∙ taken_none loop.rest.now in
    omega (arith, loop.invariant.low, loop.invariant.total)
