use Rattle.std.proofs.Common.{◌≡◌, ◌+◌, ◌+ℤ◌, ◌*ℤ◌, ℤ, Some, List, FitsSigned, rules, w64, to_z, of_z, ℕ, length, map, slice_get, slice_set, sym, ap, subst, ◌∙◌, inl, inr, arith}
use Rattle.std.specs.Int.{int_max}
use Rattle.std.proofs.lemmas.Bool.{false≢true}
use Rattle.std.proofs.lemmas.Int.{to_z-of_z}
use Rattle.std.proofs.lemmas.List.{length-map, map-set}
use Rattle.score_numbers.specs.Turned.{turned}
use Rattle.score_rows.proofs.Positions.{same_item, value_at}
use Rattle.score_rows.proofs.RaisedRows.{AreRaisedBefore, raised_more, raised_past}
use Rattle.score_rows.proofs.RaisedSums.{ComesTo, IsLowAt, all_raised, from_at, from_at_apart, highest_sum}
use Rattle.score_rows.proofs.raising.raise_scaled.Goals as goal
use Rattle.score_rows.proofs.raising.raise_scaled.Goals.{then-not-is_mark, else-not-is_mark}

pub scaled-requires : goal.scaled-requires
scaled-requires g c =
    let value = g.N.RowNumber.value in
    let there = value_at value c.args.others.now c.loop-k.k c.index-others-k.result (omega (arith, c.loop-k-test.true)) (sym c.index-others-k.is) in
    elim (c.requires.proper c.loop-k.k (value c.index-others-k.result) there) [
      | inl marked ↦ absurd (false≢true (sym c.if-not-is_mark.true ∙ c.is_mark.ensures.1 marked))
      | inr low ↦ low
    ]

pub loop-k-preserved : goal.loop-k-preserved
loop-k-preserved g c =
    let value = g.N.RowNumber.value in
    let width = g.N.RowNumber.width in
    let k = c.loop-k.k in
    let row = c.loop-k.row in
    let at = c.args.at in
    let others = c.args.others.now in
    let add = value c.args.add in
    let other = value c.index-others-k.result in
    let fits : FitsSigned w64 c.args.factor = search rules in
    let kept : to_z w64 (of_z w64 c.args.factor) ≡ c.args.factor = to_z-of_z w64 c.args.factor fits in
    let Scaled : ℤ → ℤ → ℤ = λ factor other. (factor *ℤ turned c.args.goal other) +ℤ add in
    let Sum : ℤ → ℤ = Scaled c.args.factor in
    let old = map value c.args.row.now in
    let rows : length row ≡ length c.args.row.now =
    sym (length-map row value) ∙ c.loop-k.invariant.raised.as_many ∙ length-map c.args.row.now value in
    let there : slice_get (map value others) k ≡ Some other =
    value_at value others k c.index-others-k.result (omega (arith, c.loop-k-test.true)) (sym c.index-others-k.is) in
    let I : ℤ → List ℤ → ℕ → Type 0 = λ factor now bound. AreRaisedBefore width (from_at at) (ComesTo width (Scaled factor) (map value others)) (IsLowAt width (Scaled factor) (map value others) add) old now bound in
    let so_far : I c.args.factor (map value row) k = subst (λ factor. I factor (map value row) k) kept c.loop-k.invariant in
    let R : List ℤ → Type 0 = λ now. AreRaisedBefore width (from_at at) (ComesTo width Sum (map value others)) (IsLowAt width Sum (map value others) add) old now (k + 1) in
    subst (λ factor. I factor (map value c.if-not-is_mark.row) (k + 1)) (sym kept) (elim c.if-not-is_mark.branch [
      | then-not-is_mark w ↦
          let before = value w.index-row-at.result in
          let was : slice_get (map value row) (at + k) ≡ Some before =
          value_at value row (at + k) w.index-row-at.result (omega (arith, rows, c.requires.within, c.loop-k-test.true)) (sym w.index-row-at.is) in
          let apart : other ≡ width.mark → ⊥ = λ e. false≢true (sym w.if-not-is_mark.true ∙ c.is_mark.ensures.1 e) in
          subst R (sym (ap (map value) w.row-is ∙ map-set value row (at + k) w.most.result ∙ ap (slice_set (map value row) (at + k)) w.most.ensures))
          (raised_more width (from_at at) (ComesTo width Sum (map value others)) (IsLowAt width Sum (map value others) add) old (from_at_apart at)
          (map value row) k before (int_max before (value w.scaled.result)) was
          (λ low. highest_sum width Sum (map value others) add k before other (value w.scaled.result) there (simp to_z-of_z at w.scaled.ensures) (λ e. absurd (apart e)) low)
          so_far)
      | else-not-is_mark w ↦
          subst R (sym (ap (map value) w.row-is))
          (raised_past width (from_at at) (ComesTo width Sum (map value others)) (IsLowAt width Sum (map value others) add) old (map value row) k
          (λ number (other', there', scores, is).
          let same = same_item (map value others) k other' other there' there in
          scores (same ∙ c.is_mark.ensures.0 (let no = w.if-not-is_mark.false in cc)))
          so_far)
    ])

pub returns-clause-raised : goal.returns-clause-raised
returns-clause-raised g c =
    let value = g.N.RowNumber.value in
    let width = g.N.RowNumber.width in
    let others = map value c.args.others.now in
    let add = value c.args.add in
    let fits : FitsSigned w64 c.args.factor = search rules in
    let Scaled : ℤ → ℤ → ℤ = λ factor other. (factor *ℤ turned c.args.goal other) +ℤ add in
    let I : ℤ → Type 0 = λ factor. AreRaisedBefore width (from_at c.args.at) (ComesTo width (Scaled factor) others) (IsLowAt width (Scaled factor) others add)
    (map value c.args.row.now) (map value c.loop-k.row) c.loop-k.k in
    all_raised width (Scaled c.args.factor) others add c.args.at c.loop-k.k (map value c.args.row.now) (map value c.loop-k.row)
    (omega (arith, length-map c.args.others.now value, c.loop-k-test.false))
    (subst I (to_z-of_z w64 c.args.factor fits) c.loop-k.invariant)
