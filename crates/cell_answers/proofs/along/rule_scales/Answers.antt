use Rattle.std.proofs.Common.{FitsSigned, w64, subst, rules}
use Rattle.std.proofs.lemmas.Int.{to_z-of_z}
use Rattle.cell_answers.specs.ArgumentEntries.{IsScaled}
use Rattle.cell_answers.proofs.along.rule_scales.Goals as goal

pub returns : goal.returns
returns c =
    let x = c.args.line.now.arguments in
    let fits : FitsSigned w64 x.first_factor = search rules in
    let fits_behind : FitsSigned w64 x.second_factor = search rules in
    let fits_scale : FitsSigned w64 c.in-Some-Some.before = search rules in
    let fits_scale_behind : FitsSigned w64 c.in-Some-Some.behind = search rules in
    simp to_z-of_z (record {
      before = subst (λ factor. IsScaled x.first.now factor c.args.line.now.row.goal c.in-Some-Some.before)
          (to_z-of_z w64 x.first_factor fits) c.in-Some-Some.ensures;
      behind = subst (λ factor. IsScaled x.second.now factor c.args.line.now.column.goal c.in-Some-Some.behind)
          (to_z-of_z w64 x.second_factor fits_behind) c.in-Some-Some.ensures';
    })
