use Rattle.std.proofs.Common.{subst, inl, inr, arith}
use Rattle.std.proofs.lemmas.Bool.{cases_lt}
use Rattle.adp_model.specs.PosedProblem.{PosedProblem}
use Rattle.adp_model.specs.ProblemFields.{IsAdmissible}
use Rattle.suffix_cells.specs.Targets.{LeadsBy}
use Rattle.suffix_cells.proofs.Leading.{leads_still, leads_to}
use Rattle.suffix_cells.proofs.targets.target_bits.Goals as goal

pub loop-alt-preserved : goal.loop-alt-preserved
loop-alt-preserved c = λ alternative below.
    let p = c.args.lines.now in
    let order = c.args.visits.now.order in
    let rule = c.args.rule in
    let more = c.in_ok-bits.bits in
    elim (cases_lt alternative c.loop-alt.alt) [
      | inl before ↦ leads_still p order rule alternative c.loop-alt.bits more c.in_ok-bits.ensures.kept (c.loop-alt.invariant alternative before)
      | inr here ↦ subst (λ at. LeadsBy p order rule at more) (omega (arith, below, here)) c.in_ok-bits.ensures.leads
    ]

pub returns : goal.returns
returns c =
    let p = c.args.lines.now in
    let admissible : IsAdmissible p = subst (λ (q : PosedProblem). IsAdmissible q) c.problem.ensures c.admissible.ensures in
    leads_to p c.args.visits.now.order c.args.rule c.loop-alt.bits
    (c.arguments_are_few_and_known.ensures.few p.grammar admissible.checked.well_formed c.args.rule)
    (λ alternative below. c.loop-alt.invariant alternative
    (omega (arith, below, c.alternatives-alternatives.ensures.each, c.loop-alt-test.false, c.loop-alt.auto)))
