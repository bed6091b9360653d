use Rattle.std.proofs.Common.{◌≡◌, ◌+◌, ◌+ℤ◌, ℤ, Some, List, length, map, slice_get, slice_set, sym, ap, subst, ◌∙◌, arith}
use Rattle.std.specs.Int.{int_max}
use Rattle.std.proofs.lemmas.List.{length-map, map-set}
use Rattle.score_rows.proofs.Positions.{value_at}
use Rattle.score_rows.proofs.RaisedRows.{AreRaisedBefore, raised_more}
use Rattle.score_rows.proofs.RaisedSums.{ComesTo, IsLowAt, all_raised, from_at, from_at_apart, highest_sum}
use Rattle.score_rows.proofs.raising.raise.Goals as goal

pub loop-k-preserved : goal.loop-k-preserved
loop-k-preserved g c =
    let value = g.N.RowNumber.value in
    let width = g.N.RowNumber.width in
    let k = c.loop-k.k in
    let row = c.loop-k.row in
    let at = c.args.at in
    let others = c.args.others.now in
    let add = value c.args.add in
    let before = value c.index-row-at.result in
    let other = value c.index-others-k.result in
    let rows : length row ≡ length c.args.row.now =
    sym (length-map row value) ∙ c.loop-k.invariant.raised.as_many ∙ length-map c.args.row.now value in
    let was : slice_get (map value row) (at + k) ≡ Some before =
    value_at value row (at + k) c.index-row-at.result (omega (arith, rows, c.requires.within, c.loop-k-test.true)) (sym c.index-row-at.is) in
    let there : slice_get (map value others) k ≡ Some other =
    value_at value others k c.index-others-k.result (omega (arith, c.loop-k-test.true)) (sym c.index-others-k.is) in
    let Sum : ℤ → ℤ = λ other. other +ℤ add in
    let R : List ℤ → Type 0 = λ now. AreRaisedBefore width (from_at at) (ComesTo width Sum (map value others)) (IsLowAt width Sum (map value others) add) (map value c.args.row.now) now (k + 1) in
    subst R (sym (map-set value row (at + k) c.most.result ∙ ap (slice_set (map value row) (at + k)) c.most.ensures))
    (raised_more width (from_at at) (ComesTo width Sum (map value others)) (IsLowAt width Sum (map value others) add) (map value c.args.row.now) (from_at_apart at)
    (map value row) k before (int_max before (value c.raised.result)) was
    (λ low. highest_sum width Sum (map value others) add k before other (value c.raised.result) there (λ l m. c.raised.ensures.scored m) c.raised.ensures.marked low)
    c.loop-k.invariant)

pub returns-clause-raised : goal.returns-clause-raised
returns-clause-raised g c =
    let value = g.N.RowNumber.value in
    all_raised g.N.RowNumber.width (λ other. other +ℤ value c.args.add) (map value c.args.others.now) (value c.args.add) c.args.at c.loop-k.k (map value c.args.row.now) (map value c.loop-k.row)
    (omega (arith, length-map c.args.others.now value, c.loop-k-test.false)) c.loop-k.invariant
