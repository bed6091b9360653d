use Rattle.std.proofs.Common.{◌≡◌, ℤ, List, length, map, slice_get, sym, ap, subst, ◌∙◌, arith}
use Rattle.std.proofs.lemmas.Int.{ints}
use Rattle.std.specs.Vec.{with_items}
use Rattle.std.proofs.lemmas.List.{length-map, with_items_is}
use Rattle.score_rows.specs.Raised.{AreHighest, HasNumber, HasScore, IsAnywhere}
use Rattle.score_rows.proofs.Highest.{rows_dropped, rows_still}
use Rattle.score_rows.proofs.Windowed.{AreDeadOutside, between_score, in_window, score_between, still_dead}
use Rattle.score_rows.proofs.totals.Totals.raise_between.Goals as goal

pub invariant_of-self : goal.invariant_of-self
invariant_of-self g c =
    let value = g.N.RowNumber.value in
    let items = c.self.inside.numbers.items in
    let now = c.raise_between.new.row in
    let long : length c.args.self.now ≡ length items = ap length (sym c.self.view_is) ∙ length-map items value in
    let long' : length c.args.others.now ≡ length c.others.inside.numbers.items = ap length (sym c.others.view_is) ∙ length-map c.others.inside.numbers.items value in
    let refilled : (with_items c.self.inside.numbers now).items ≡ now =
    with_items_is c.self.inside.numbers now (sym (length-map now value) ∙ c.raise_between.ensures.raised.as_many ∙ length-map c.deref_mut.result.now value ∙ c.deref_mut.ensures.len) in
    let as_many : length now ≡ length items = sym (length-map now value) ∙ c.raise_between.ensures.raised.as_many ∙ length-map c.deref_mut.result.now value ∙ ap length c.deref_mut.ensures.value in
    record {
      within =
          let past = c.with-self-inside.ensures.within (length items) c.self.invariant.within
          (omega (arith, long, long', c.requires, c.min.ensures, c.others.invariant.within)) in
          omega (arith, past, as_many, ap length refilled);
      dead = subst (λ xs. AreDeadOutside g.N.RowNumber.width c.with-self-inside.result (map value xs)) (sym refilled) (still_dead g.N.RowNumber.width c.self.inside.window c.with-self-inside.result (map value items) (map value now)
          c.self.invariant.dead c.with-self-inside.ensures.self_in
          (λ k outside. c.raise_between.ensures.others k (c.with-self-inside.ensures.other_in k outside) ∙ ap (λ xs. slice_get (map value xs) k) c.deref_mut.ensures.value));
    }

pub returns-then-here : goal.returns-then-here
returns-then-here g c =
    let value = g.N.RowNumber.value in
    let width = g.N.RowNumber.width in
    let items = c.self.inside.numbers.items in
    let now = c.raise_between.new.row in
    let refilled : (with_items c.self.inside.numbers now).items ≡ now =
    with_items_is c.self.inside.numbers now (sym (length-map now value) ∙ c.raise_between.ensures.raised.as_many ∙ length-map c.deref_mut.result.now value ∙ c.deref_mut.ensures.len) in
    let others = c.args.others.now in
    let same : map value c.deref.result.now ≡ others = ap (map value) c.deref.ensures.value ∙ c.others.view_is in
    let dead : AreDeadOutside width c.others.inside.window others = subst (AreDeadOutside width c.others.inside.window) c.others.view_is c.others.invariant.dead in
    let B : List ℤ → List ℤ → List ℤ → Type 0 = λ others old new. AreHighest width (HasNumber c.max.result c.min.result others) IsAnywhere old new in
    let R : List ℤ → List ℤ → Type 0 = AreHighest width (HasScore width c.args.first c.args.past others) IsAnywhere in
    let raised : B others (map value c.deref_mut.result.now) (map value now) = subst (λ xs. B xs (map value c.deref_mut.result.now) (map value now)) same c.raise_between.ensures.raised in
    let dropped : R (map value c.deref_mut.result.now) (map value now) =
    rows_dropped width (HasNumber c.max.result c.min.result others) (HasScore width c.args.first c.args.past others) IsAnywhere (map value c.deref_mut.result.now) (map value now)
    (score_between width c.args.first c.args.past c.max.result c.min.result c.others.inside.window others dead c.max.ensures c.min.ensures)
    (between_score width c.args.first c.args.past c.max.result c.min.result c.others.inside.window others dead c.max.ensures c.min.ensures)
    raised in
    subst (λ old. R old (map value (with_items c.self.inside.numbers now).items)) c.self.view_is
    (subst (λ xs. R (map value items) (map value xs)) (sym refilled)
    (subst (λ xs. R (map value xs) (map value now)) c.deref_mut.ensures.value dropped))

pub returns-else-here : goal.returns-else-here
returns-else-here g c =
    let value = g.N.RowNumber.value in
    rows_still g.N.RowNumber.width (HasScore g.N.RowNumber.width c.args.first c.args.past c.args.others.now) IsAnywhere c.args.self.now
    (λ k number ((after, before, there), live).
    let dead = c.others.invariant.dead k number (ap (λ xs. slice_get xs k) c.others.view_is ∙ there)
    (in_window c.args.first c.args.past c.others.inside.window k after before (omega (arith, c.if-here.false, c.max.ensures, c.min.ensures))) in
    omega (arith, ints, dead, live))
