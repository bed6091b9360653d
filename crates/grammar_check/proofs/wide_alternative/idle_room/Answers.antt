use Rattle.std.proofs.Common.{ap, arith}
use Rattle.std.specs.Prelude.{if◌then◌else◌}
use Rattle.std.proofs.lemmas.List.{drop_more}
use Rattle.adp_model.specs.WideTerms.{form_of}
use Rattle.grammar_check.specs.declared.part.Worth.TheVariants.{OfLetters}
use Rattle.grammar_check.specs.TermSpreads.{idle_room, names}
use Rattle.grammar_check.proofs.wide_alternative.idle_room.Goals as goal

pub loop-place-preserved : goal.loop-place-preserved
loop-place-preserved c =
    let parts = c.args.parts.now in
    let place = c.loop-place.place in
    let here = ap (idle_room (form_of c.args.term.now) place) (drop_more parts place (record { worth = OfLetters 0 0; low = 0; room = 0 }) (omega (arith, c.loop-place-test.true))) in
    let part = ap (λ p. if names (form_of c.args.term.now) place then 0 else p.room) c.part_at.ensures in
    record {
      fits = omega (arith, c.saturating_add-total.ensures);
      total = omega (arith, c.loop-place.invariant.total, c.saturating_add-total.ensures, c.idle.ensures, here, part);
    }
