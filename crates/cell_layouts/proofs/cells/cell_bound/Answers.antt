use Rattle.std.proofs.Common.{◌≡◌, ℕ, ◌+◌, ◌<◌, length, refl, sym, ap, subst, arith}
use Rattle.adp_model.specs.Cells.{IsPlaceOf}
use Rattle.cell_layouts.specs.declared.cells.RuleBounds.{RuleBounds}
use Rattle.cell_layouts.specs.CountedCells.{bounds_in}
use Rattle.cell_layouts.specs.Layout.{AreBoundsOf}
use Rattle.cell_layouts.proofs.Counting.{bounds_counted}
use Rattle.cell_layouts.proofs.cells.cell_bound.Goals as goal

pub loop-rule-preserved : goal.loop-rule-preserved
loop-rule-preserved c =
    let g = c.args.grammar.now in
    let sizes = c.args.sizes.now in
    let anchors = c.args.anchors.now in
    let rule = c.loop-rule.rule in
    let known : rule < length g.rules = omega (arith, ap length c.as_slice-rule-end.ensures, c.loop-rule-test.true) in
    let bounds_are : c.of_rule.result ≡ bounds_in sizes.least sizes.greatest anchors.left anchors.right rule = cc in
    let are : AreBoundsOf g c.args.n rule (bounds_in sizes.least sizes.greatest anchors.left anchors.right rule) =
    bounds_counted g sizes.least sizes.greatest anchors.left anchors.right rule known c.sizes_are_numbers.ensures (c.requires.sizes.least_are rule known) (sizes.greatest, c.requires.sizes.greatest_are, known, refl) c.requires.anchors.left c.requires.anchors.right
    c.args.n in
    let B : RuleBounds → Type 0 = λ bounds. AreBoundsOf g c.args.n rule bounds in
    let P : ℕ → Type 0 = λ more. IsPlaceOf g c.args.n (record { rule = rule + 1; from = 0; to = 0 }) (c.loop-rule.count + more) in
    record {
      place = subst P (sym c.from-count.ensures) (c.count.ensures.all g rule c.loop-rule.count (subst B (sym bounds_are) are) c.loop-rule.invariant.place);
      few = omega (arith, c.from-count.ensures, c.count.ensures.few, c.loop-rule.invariant.few);
    }
