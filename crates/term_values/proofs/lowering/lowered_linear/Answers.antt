use Rattle.std.proofs.Common.{ℕ, pos, slice_index_or, ap, ◌∙◌, FitsSigned, w64, rules}
use Rattle.std.proofs.lemmas.Int.{to_z-of_z}
use Rattle.term_values.proofs.PaddedFactors.{linear_lowered}
use Rattle.term_values.proofs.lowering.lowered_linear.Goals as goal

pub returns : goal.returns
returns c =
    let fits : FitsSigned w64 c.args.term.now.constant = search rules in
    let first : FitsSigned w64 c.factor_at.result = search rules in
    let second : FitsSigned w64 c.factor_at-2.result = search rules in
    let third : FitsSigned w64 c.factor_at-3.result = search rules in
    let fourth : FitsSigned w64 c.factor_at-4.result = search rules in
    let same = λ (place : ℕ). ap (λ xs. slice_index_or xs place (pos 0)) c.as_slice-factors.ensures in
    simp to_z-of_z
    (linear_lowered c.args.term.now _ _ _ _ c.requires.few c.requires.low
    (c.factor_at.ensures ∙ same 0) (c.factor_at-2.ensures ∙ same 1) (c.factor_at-3.ensures ∙ same 2) (c.factor_at-4.ensures ∙ same 3))
