use Rattle.std.proofs.Common.{◌<ℤ◌, [], ◌∷◌, length, map, sym, ap, subst, ◌∙◌, arith, length-append}
use Rattle.std.proofs.lemmas.List.{map-append}
use Rattle.score_rows.specs.Numbers.{AreDead, least}
use Rattle.score_rows.proofs.Windowed.{dead_more}
use Rattle.score_rows.proofs.totals.Totals.new.Goals as goal

pub loop-preserved : goal.loop-preserved
loop-preserved g c =
    let value = g.N.RowNumber.value in
    let width = g.N.RowNumber.width in
    let items = c.loop.numbers.items in
    let low : value c.mark.result <ℤ least width = subst (λ n. n <ℤ least width) (sym c.mark.ensures.is) c.mark.ensures.dead in
    let more = c.in_ok-push.ensures.items in
    record {
      long = omega (arith, ap length more, length-append items (c.mark.result ∷ []), c.loop.invariant.long);
      dead = subst (AreDead width) (sym (ap (map value) more ∙ map-append value items (c.mark.result ∷ [])))
          (dead_more width (map value items) (value c.mark.result) c.loop.invariant.dead low);
    }
