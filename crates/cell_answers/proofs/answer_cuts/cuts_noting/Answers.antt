use Rattle.std.proofs.Common.{◌<◌, length, sym, subst, arith}
use Rattle.adp_model.specs.declared.cell.Answer.TheVariants.{Best}
use Rattle.adp_model.specs.PosedProblem.{PosedProblem}
use Rattle.adp_model.specs.ProblemFields.{IsAdmissible}
use Rattle.adp_model.specs.Parts.{alternatives_of}
use Rattle.split_lines.specs.declared.kept.KeptAlternative.{KeptAlternative}
use Rattle.split_lines.specs.Kept.{IsAlternative, IsScored}
use Rattle.cell_answers.proofs.answer_cuts.cuts_noting.Goals as goal
use Rattle.cell_answers.proofs.answer_cuts.cuts_noting.Goals.{After-index-alternatives-best}

-- the best alternative is one of the rule's
in_range : (c : After-index-alternatives-best) → c.args.best.alt < length (alternatives_of c.args.lines.now.grammar c.args.cell.rule)
in_range c =
    let A : PosedProblem → Type 0 = IsAdmissible in
    let admissible = subst A c.problem.ensures c.admissible.ensures in
    let best = c.requires.best in
    ((c.bellman.ensures.admissible c.args.lines.now admissible).only c.args.cell
    (Best c.args.best.score (record { alt = c.args.best.alt; cuts = best.0 })) c.requires.in_word
    best.1).1.viable.in_range

-- it is kept
kept_is : (c : After-index-alternatives-best) → IsAlternative c.args.lines.now c.args.cell.rule c.args.best.alt c.index-alternatives-best.result
kept_is c =
    subst (λ (k : KeptAlternative). IsAlternative c.args.lines.now c.args.cell.rule c.args.best.alt k) (sym c.index-alternatives-best.is)
    (c.alternatives.ensures.are c.args.best.alt c.index-alternatives-best.result (omega (arith, c.alternatives.ensures.each, in_range c)))

pub cuts_by_sum-requires-clause-alternative : goal.cuts_by_sum-requires-clause-alternative
cuts_by_sum-requires-clause-alternative c = kept_is (goal.at.cuts_by_sum-requires-clause-alternative c).After-index-alternatives-best

pub cuts_by_sum-requires-clause-sum : goal.cuts_by_sum-requires-clause-sum
cuts_by_sum-requires-clause-sum c =
    let at = (goal.at.cuts_by_sum-requires-clause-sum c).After-index-alternatives-best in
    subst (IsScored c.args.lines.now c.args.cell.rule c.args.best.alt c.index-alternatives-best.result) c.in-Sum.is (kept_is at).scored

pub cuts_by_term-requires-clause-term : goal.cuts_by_term-requires-clause-term
cuts_by_term-requires-clause-term c =
    let at = (goal.at.cuts_by_term-requires-clause-term c).After-index-alternatives-best in
    subst (IsScored c.args.lines.now c.args.cell.rule c.args.best.alt c.index-alternatives-best.result) c.in-Term.is (kept_is at).scored
