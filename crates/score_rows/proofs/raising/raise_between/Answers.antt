use Rattle.std.proofs.Common.{◌≡◌, ◌+◌, ◌-◌, List, ℤ, length, map, slice_set, sym, ap, subst, ◌∙◌, arith}
use Rattle.std.proofs.lemmas.List.{length-map, map-set}
use Rattle.score_rows.specs.Raised.{IsAnywhere}
use Rattle.score_rows.proofs.Positions.{value_at}
use Rattle.score_rows.proofs.RaisedRows.{AreRaisedBefore}
use Rattle.score_rows.proofs.RaisedSums.{StandsAt, between_all, between_init, between_more, between_others, from_at}
use Rattle.score_rows.proofs.raising.raise_between.Goals as goal

pub loop-k-init : goal.loop-k-init
loop-k-init g c =
    let value = g.N.RowNumber.value in
    record {
      raised = between_init g.N.RowNumber.width c.args.first (map value c.args.others.now) (map value c.args.row.now);
      within = c.requires.in_order;
    }

pub loop-k-preserved : goal.loop-k-preserved
loop-k-preserved g c =
    let value = g.N.RowNumber.value in
    let width = g.N.RowNumber.width in
    let k = c.loop-k.k in
    let row = c.loop-k.row in
    let others = c.args.others.now in
    let first = c.args.first in
    let rows : length row ≡ length c.args.row.now =
    sym (length-map row value) ∙ c.loop-k.invariant.raised.raised.as_many ∙ length-map c.args.row.now value in
    let was = value_at value row k c.index-row-k.result (omega (arith, rows, c.requires.row, c.loop-k-test.true)) (sym c.index-row-k.is) in
    let there = value_at value others k c.index-others-k.result (omega (arith, c.requires.others, c.loop-k-test.true)) (sym c.index-others-k.is) in
    let R : List ℤ → Type 0 = λ now. AreRaisedBefore width (from_at first) (StandsAt first (map value others)) IsAnywhere (map value c.args.row.now) now ((k + 1) - first) in
    record {
      raised = subst R (sym (map-set value row k c.most.result ∙ ap (slice_set (map value row) k) c.most.ensures))
          (between_more width first (map value others) (map value c.args.row.now) (map value row) k (value c.index-row-k.result) (value c.index-others-k.result)
          c.loop-k.auto.k was there c.loop-k.invariant.raised);
      within = omega (arith, c.loop-k-test.true);
    }

pub returns-clause-raised : goal.returns-clause-raised
returns-clause-raised g c =
    let value = g.N.RowNumber.value in
    between_all g.N.RowNumber.width c.args.first (map value c.args.others.now) (map value c.args.row.now) c.args.past (map value c.loop-k.row) c.loop-k.k
    c.loop-k-test.false c.loop-k.invariant.raised c.loop-k.invariant.within

pub returns-clause-others : goal.returns-clause-others
returns-clause-others g c =
    let value = g.N.RowNumber.value in
    between_others g.N.RowNumber.width c.args.first (map value c.args.others.now) (map value c.args.row.now) c.args.past (map value c.loop-k.row) c.loop-k.k
    c.loop-k.invariant.within c.loop-k.invariant.raised
