use Rattle.std.proofs.Common.{sym, subst, ◌∙◌, arith}
use Rattle.std.proofs.Math.Seq.{map-set_same}
use Rattle.std.proofs.lemmas.List.{get_or-set_same, get_or-set_other, length-set}
use Rattle.std.proofs.lemmas.List.Elements.{AllWithin-set, AllWithin-more}
use Rattle.word_groups.proofs.filling.fill_each.Goals as goal

pub loop-place-preserved : goal.loop-place-preserved
loop-place-preserved g c =
    let place = c.loop-place.place in
    let slots = c.loop-place.slots in
    let filled = c.fill.ensures.filled in
    record {
      filled = AllWithin-more g.S.Fill.is_filled _ 0 place
          (AllWithin-set g.S.Fill.is_filled slots 0 place place _ (omega arith) filled c.loop-place.invariant.filled)
          (λ d. subst g.S.Fill.is_filled (sym (get_or-set_same slots place _ d (omega arith))) filled);
      ready = λ k d low inside.
          subst g.S.Fill.is_ready (sym (get_or-set_other slots place k _ d (omega (arith, low))))
          (c.loop-place.invariant.ready k d (omega (arith, low)) (omega (arith, inside, length-set slots place c.fill.new.self)));
      asked = map-set_same g.S.Fill.asked slots place _ c.index-slots-place.result c.fill.ensures.asked
          ∙ c.loop-place.invariant.asked;
    }

pub returns-clause-filled : goal.returns-clause-filled
returns-clause-filled g c k d inside = c.loop-place.invariant.filled k d (omega arith) (omega arith)
