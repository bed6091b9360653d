use Rattle.std.proofs.Common.{◌<◌, ◌≤◌, ℕ, length, sym, subst, ◌∙◌}
use Rattle.std.proofs.lemmas.Bool.{false≢true}
use Rattle.adp_model.specs.PosedProblem.{PosedProblem}
use Rattle.adp_model.specs.Parts.{alternatives_of, arguments_of}
use Rattle.adp_model.specs.ProblemFields.{IsAdmissible}
use Rattle.split_lines.proofs.Openings.{closed_at_other_lengths, opened_by_front}
use Rattle.split_lines.proofs.kept.opening.Goals as goal
use Rattle.split_lines.proofs.kept.opening.Goals.{After-alternatives_fit}

-- an alternative has arguments
some : (c : After-alternatives_fit) (alternative : ℕ) → alternative < length (alternatives_of c.args.tables.now.grammar c.args.cell.rule)
    → 1 ≤ length (arguments_of c.args.tables.now.grammar c.args.cell.rule alternative)
some c alternative in_range =
    let admissible : IsAdmissible c.args.tables.now = subst (λ (q : PosedProblem). IsAdmissible q) c.problem.ensures c.admissible.ensures in
    c.alternatives_fit.ensures.arguments c.args.tables.now.grammar admissible.checked.well_formed c.args.cell.rule alternative in_range

pub returns-then-not-may_span : goal.returns-then-not-may_span
returns-then-not-may_span c =
    let at = (goal.at.returns-then-not-may_span c).After-alternatives_fit in
    closed_at_other_lengths c.args.tables.now c.args.alternative.now c.requires.front c.args.cell (some at) c.requires.short
    (λ may. false≢true (sym c.if-not-may_span.true ∙ c.may_span.ensures.1 may))

pub returns : goal.returns
returns c =
    let at = (goal.at.returns c).After-alternatives_fit in
    opened_by_front c.args.tables.now c.args.alternative.now c.requires.front c.args.cell (some at)
    c.requires.short (c.may_span.ensures.0 c.if-not-may_span.false) c.front_end.result c.front_end.ensures
