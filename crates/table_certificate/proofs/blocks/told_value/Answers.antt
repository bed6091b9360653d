use Rattle.std.proofs.Common.{◌≡◌, ◌<◌, ◌^◌, length, sym, ap, subst, ◌∙◌, arith}
use Rattle.adp_model.specs.declared.cell.Cell.{Cell}
use Rattle.adp_model.specs.PosedProblem.{axiom_cell}
use Rattle.adp_model.specs.Sizes.{IsWithinSizes}
use Rattle.table_certificate.specs.Claims.{claimed}
use Rattle.table_certificate.proofs.SplitLines.{not_both}
use Rattle.table_certificate.proofs.ToldValues.{told_inside, told_outside}
use Rattle.table_certificate.proofs.blocks.told_value.Goals as goal

pub returns-then-is_within_sizes : goal.returns-then-is_within_sizes
returns-then-is_within_sizes c = λ block told.
    let p = c.args.problem.now in
    let cell = c.axiom_cell-cell.result in
    let is : cell ≡ axiom_cell p = c.axiom_cell-cell.ensures in
    let here = subst (λ n. IsWithinSizes p.grammar cell.rule n) c.from.ensures (c.is_within_sizes.ensures.0 c.if-is_within_sizes.true) in
    let within = subst (λ (x : Cell). IsWithinSizes p.grammar x.rule x.to) is here in
    let short : length p.word < 2 ^ 16 = let ends : cell.to ≡ length p.word = ap (λ (x : Cell). x.to) is in omega (arith, ends) in
    told_inside p block within c.said.result
    (c.said.ensures ∙ ap (claimed c.args.claims.now) is ∙ told (axiom_cell p) (record { begins = omega arith; ends = short }))

pub returns-else-is_within_sizes : goal.returns-else-is_within_sizes
returns-else-is_within_sizes c = λ block told.
    let p = c.args.problem.now in
    let cell = c.axiom_cell-cell.result in
    let is : cell ≡ axiom_cell p = c.axiom_cell-cell.ensures in
    told_outside p block (λ within. not_both c.is_within_sizes.result c.if-is_within_sizes.false
    (c.is_within_sizes.ensures.1 (subst (λ n. IsWithinSizes p.grammar cell.rule n) (sym c.from.ensures)
    (subst (λ (x : Cell). IsWithinSizes p.grammar x.rule x.to) (sym is) within))))
