use Rattle.std.proofs.Common.{ap, sym, ◌∙◌}
use Rattle.adp_main.specs.Groups.{notes_of}
use Rattle.adp_main.specs.Writing.{IsWrittenWith}
use Rattle.adp_main.proofs.Running.{ending_of}
use Rattle.adp_main.proofs.groups.write_one.Goals as goal

pub returns-in-Some-clause-ending : goal.returns-in-Some-clause-ending
returns-in-Some-clause-ending g c =
    ending_of (λ bytes noted (w : IsWrittenWith c.deref.result.now c.in-Some.note bytes noted). (
      w.0 ∙ c.deref.ensures.value,
      w.1 ∙ ap notes_of (sym c.in-Some.is),
    )) _ _ _ _ _ c.write_noted.ensures.ending
