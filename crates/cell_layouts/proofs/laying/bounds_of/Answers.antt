use Rattle.std.proofs.Common.{◌≡◌, ◌<◌, length, sym, ap, subst, arith}
use Rattle.adp_model.specs.PosedProblem.{PosedProblem}
use Rattle.cell_layouts.specs.CountedCells.{bounds_in}
use Rattle.cell_layouts.specs.Layout.{AreBoundsOf}
use Rattle.cell_layouts.proofs.Counting.{bounds_counted}
use Rattle.cell_layouts.proofs.laying.bounds_of.Goals as goal

pub returns : goal.returns
returns c =
    let fields = c.problem.inside in
    let checked = c.problem.invariant.checked in
    let g = fields.grammar.now in
    let rule = c.args.rule in
    let known : rule < length g.rules =
    omega (arith, ap (λ (p : PosedProblem). length p.grammar.rules) c.problem.view_is, c.requires) in
    let counted = bounds_counted g fields.least.now fields.greatest.now fields.left.now fields.right.now rule known
    c.sizes_are_numbers.ensures (checked.least_are rule known) (checked.greatest_are rule known)
    c.problem.invariant.left c.problem.invariant.right (length fields.word.now) in
    let same : c.of_rule.result
    ≡ bounds_in fields.least.now fields.greatest.now fields.left.now fields.right.now rule = cc in
    let P : PosedProblem → Type 0 = λ p. AreBoundsOf p.grammar (length p.word) rule c.of_rule.result in
    subst P c.problem.view_is (subst (AreBoundsOf g (length fields.word.now) rule) (sym same) counted)
