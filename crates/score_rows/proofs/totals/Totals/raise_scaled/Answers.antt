use Rattle.std.proofs.Common.{◌≡◌, ℤ, List, FitsSigned, w64, rules, length, map, slice_get, sym, ap, subst, ◌∙◌, inl, inr, ⊎_elim, arith}
use Rattle.std.specs.Vec.{with_items}
use Rattle.std.proofs.lemmas.List.{length-map, with_items_is}
use Rattle.std.proofs.lemmas.Int.{to_z-of_z}
use Rattle.score_rows.specs.Raised.{AreHighest, AreLowProducts, HasProduct}
use Rattle.score_rows.proofs.Windowed.{AreDeadOutside, still_dead}
use Rattle.score_rows.proofs.totals.Totals.raise_scaled.Goals as goal

pub invariant_of-self : goal.invariant_of-self
invariant_of-self g c =
    let value = g.N.RowNumber.value in
    let items = c.self.inside.numbers.items in
    let now = c.raise_scaled.new.row in
    let long : length c.args.self.now ≡ length items = ap length (sym c.self.view_is) ∙ length-map items value in
    let refilled : (with_items c.self.inside.numbers now).items ≡ now =
    with_items_is c.self.inside.numbers now (sym (length-map now value) ∙ c.raise_scaled.ensures.raised.as_many ∙ length-map c.deref_mut.result.now value ∙ c.deref_mut.ensures.len) in
    let as_many : length now ≡ length items = sym (length-map now value) ∙ c.raise_scaled.ensures.raised.as_many ∙ length-map c.deref_mut.result.now value ∙ ap length c.deref_mut.ensures.value in
    record {
      within =
          let past = c.with-self-inside.ensures.within (length items) c.self.invariant.within (omega (arith, long, c.window_of.ensures.past, c.requires.within)) in
          omega (arith, past, as_many, ap length refilled);
      dead = subst (λ xs. AreDeadOutside g.N.RowNumber.width c.with-self-inside.result (map value xs)) (sym refilled) (still_dead g.N.RowNumber.width c.self.inside.window c.with-self-inside.result (map value items) (map value now)
          c.self.invariant.dead c.with-self-inside.ensures.self_in
          (λ k outside. c.raise_scaled.ensures.others k (⊎_elim (λ before. inl (omega (arith, before, c.window_of.ensures.first))) (λ behind. inr (omega (arith, behind, c.window_of.ensures.past))) (c.with-self-inside.ensures.other_in k outside)) ∙ ap (λ xs. slice_get (map value xs) k) c.deref_mut.ensures.value));
    }

pub returns : goal.returns
returns g c =
    let value = g.N.RowNumber.value in
    let width = g.N.RowNumber.width in
    let items = c.self.inside.numbers.items in
    let now = c.raise_scaled.new.row in
    let refilled : (with_items c.self.inside.numbers now).items ≡ now =
    with_items_is c.self.inside.numbers now (sym (length-map now value) ∙ c.raise_scaled.ensures.raised.as_many ∙ length-map c.deref_mut.result.now value ∙ c.deref_mut.ensures.len) in
    let fits : FitsSigned w64 c.args.factor = search rules in
    let others = map value c.args.others.now in
    let R : List ℤ → List ℤ → Type 0 = AreHighest width (HasProduct width c.args.goal c.args.factor (value c.args.add) c.args.first others)
    (AreLowProducts width c.args.goal c.args.factor (value c.args.add) c.args.first others) in
    let raised : R (map value c.deref_mut.result.now) (map value now) = simp to_z-of_z at c.raise_scaled.ensures.raised in
    subst (λ old. R old (map value (with_items c.self.inside.numbers now).items)) c.self.view_is
    (subst (λ xs. R (map value items) (map value xs)) (sym refilled)
    (subst (λ xs. R (map value xs) (map value now)) c.deref_mut.ensures.value raised))
