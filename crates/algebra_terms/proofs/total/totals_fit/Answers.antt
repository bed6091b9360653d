use Rattle.std.proofs.Common.{◌≡◌, ℤ, FitsSigned, pos, Option, Some, None, unwrap_or, sym, ap, ◌∙◌}
use Rattle.std.specs.Int.{w128}
use Rattle.std.proofs.lemmas.Int.{to_z-of_z}
use Rattle.job_texts.specs.TermText.{total}
use Rattle.algebra_terms.specs.Reading.{parts_seen}
use Rattle.algebra_terms.proofs.Totals.{factor_is, fit_more}
use Rattle.algebra_terms.proofs.total.totals_fit.Goals as goal
use Rattle.algebra_terms.proofs.total.totals_fit.Goals.{in-None, in-Some}

pub loop-part-preserved : goal.loop-part-preserved
loop-part-preserved c =
    let all = parts_seen c.args.parts.now in
    let fits = sym c.is_in_range.ensures ∙ c.if-not-is_in_range.false in
    elim c.match-part.branch [
      | in-None w ↦
          let fits_constant : FitsSigned w128 c.args.constant = c.ranges.constant in
          fit_more all c.args.parts.now c.loop-part.part-index (record { variable = None; amount = None }) _ c.loop-part-test.true c.loop-part.invariant
          (w.sum-is ∙ simp to_z-of_z (rw w.in-None.is c.requires.constant)) fits
      | in-Some w ↦
          let fits_sum : FitsSigned w128 w.unwrap_or-sum.result = record { sfits = w.unwrap_or-sum.type_inv } in
          let sum_is : w.unwrap_or-sum.result ≡ total (Some w.in-Some.variable.now) all =
          rw (w.unwrap_or-sum.ensures, w.copied.ensures, w.get.ensures.value)
          (ap (λ (found : Option ℤ). unwrap_or found (pos 0)) (c.requires.factors w.in-Some.variable.now) ∙ factor_is all w.in-Some.variable.now) in
          fit_more all c.args.parts.now c.loop-part.part-index (record { variable = None; amount = None }) _ c.loop-part-test.true c.loop-part.invariant
          (w.sum-is ∙ simp to_z-of_z (rw w.in-Some.is sum_is)) fits
    ]
