use Rattle.std.proofs.Common.{ap, ◌∙◌, arith}
use Rattle.grammar_check.specs.LetterSteps.{place_in}
use Rattle.grammar_check.proofs.LetterSteps.{place_inside}
use Rattle.grammar_check.proofs.letter_alternative.steps_of.Goals as goal

pub insert-requires : goal.insert-requires
insert-requires c =
    let steps = c.loop-number.steps in
    let place = c.place_in-place.ensures ∙ ap (λ ss. place_in ss c.letter-worth.result) c.deref.ensures.value in
    let inside = place_inside steps.items c.letter-worth.result in
    omega (arith, steps.ok.0)
