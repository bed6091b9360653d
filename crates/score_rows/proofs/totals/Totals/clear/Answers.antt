use Rattle.std.proofs.Common.{◌≡◌, ◌⊎◌, ◌+◌, ◌<◌, ◌≤◌, ◌<ℤ◌, ℕ, ℤ, Some, List, map, slice_get, sym, subst, ◌∙◌, arith}
use Rattle.std.proofs.lemmas.List.{length-map, length-set, map-set}
use Rattle.score_rows.specs.Numbers.{least}
use Rattle.score_rows.proofs.Windowed.{dead_from}
use Rattle.score_rows.proofs.totals.Totals.clear.Goals as goal

pub loop-position-preserved : goal.loop-position-preserved
loop-position-preserved g c =
    let value = g.N.RowNumber.value in
    let width = g.N.RowNumber.width in
    let items = c.loop-position.self-inside.numbers.items in
    let position = c.loop-position.position in
    let past = c.self.inside.window.past in
    let low : value c.mark.result <ℤ least width = subst (λ n. n <ℤ least width) (sym c.mark.ensures.is) c.mark.ensures.dead in
    let D : List ℤ → Type 0 = λ numbers. (k : ℕ) (number : ℤ) → slice_get numbers k ≡ Some number → ((k < position + 1) ⊎ (past ≤ k)) → number <ℤ least width in
    record {
      long = length-set items position c.mark.result ∙ c.loop-position.invariant.long;
      dead = subst D (sym (map-set value items position c.mark.result))
          (dead_from width (map value items) position past (value c.mark.result) low
          (omega (arith, length-map items value, c.loop-position.invariant.long, c.self.invariant.within, c.loop-position-test.true))
          c.loop-position.invariant.dead);
    }
