use Rattle.std.proofs.Common.{◌≡◌, length, map, slice_get, sym, ap, subst, ◌∙◌, inl, inr, ⊎_elim, arith}
use Rattle.std.specs.Vec.{with_items}
use Rattle.std.proofs.lemmas.List.{length-map, with_items_is}
use Rattle.score_rows.proofs.Windowed.{AreDeadOutside, still_dead}
use Rattle.score_rows.proofs.totals.Totals.raise.Goals as goal

pub invariant_of-self : goal.invariant_of-self
invariant_of-self g c =
    let value = g.N.RowNumber.value in
    let items = c.self.inside.numbers.items in
    let now = c.raise.new.row in
    let long : length c.args.self.now ≡ length items = ap length (sym c.self.view_is) ∙ length-map items value in
    let refilled : (with_items c.self.inside.numbers now).items ≡ now =
    with_items_is c.self.inside.numbers now (sym (length-map now value) ∙ c.raise.ensures.raised.as_many ∙ length-map c.deref_mut.result.now value ∙ c.deref_mut.ensures.len) in
    let as_many : length now ≡ length items = sym (length-map now value) ∙ c.raise.ensures.raised.as_many ∙ length-map c.deref_mut.result.now value ∙ ap length c.deref_mut.ensures.value in
    record {
      within =
          let past = c.with-self-inside.ensures.within (length items) c.self.invariant.within (omega (arith, long, c.window_of.ensures.past, c.requires.within)) in
          omega (arith, past, as_many, ap length refilled);
      dead = subst (λ xs. AreDeadOutside g.N.RowNumber.width c.with-self-inside.result (map value xs)) (sym refilled) (still_dead g.N.RowNumber.width c.self.inside.window c.with-self-inside.result (map value items) (map value now)
          c.self.invariant.dead c.with-self-inside.ensures.self_in
          (λ k outside. c.raise.ensures.others k (⊎_elim (λ before. inl (omega (arith, before, c.window_of.ensures.first))) (λ behind. inr (omega (arith, behind, c.window_of.ensures.past))) (c.with-self-inside.ensures.other_in k outside)) ∙ ap (λ xs. slice_get (map value xs) k) c.deref_mut.ensures.value));
    }
