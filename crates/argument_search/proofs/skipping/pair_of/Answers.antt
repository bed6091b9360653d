use Rattle.std.proofs.Common.{◌∷◌, List, slice_index, sym, ap, subst, ◌∙◌, arith}
use Rattle.adp_model.specs.PosedProblem.{PosedProblem, IsSpan}
use Rattle.adp_model.specs.Parts.{arguments_of}
use Rattle.adp_model.specs.Splits.{ends_by}
use Rattle.adp_model.specs.declared.grammar.Arg.{Arg}
use Rattle.memo_model.specs.declared.visit.Position.{Position}
use Rattle.argument_search.proofs.LineHere.{start_within, few_before}
use Rattle.argument_search.proofs.skipping.pair_of.Goals as goal

pub on-requires-clause-span : goal.on-requires-clause-span
on-requires-clause-span c =
    let p = c.args.problem.now in
    let cell = c.args.cell in
    let at = c.args.at in
    let n = c.args.line.first in
    let formed = c.admissible.ensures.checked.well_formed in
    let arguments : List Arg = arguments_of p.grammar cell.rule at.alternative in
    let within = c.viable_cuts_lie_within_the_cell.ensures p formed cell at.alternative at.cuts c.requires.span.in_order
    c.requires.viable in
    let few = few_before arguments n c.args.line.between c.requires.line.has_line
    (c.arguments_are_few_and_known.ensures.few p.grammar formed cell.rule at.alternative) in
    let it = start_within cell at.cuts within c.requires.span.in_order n
    (omega (arith, few.0, c.requires.viable.three)) in
    let begins = c.start_of-from.ensures
    ∙ ap (λ (b : Position). slice_index (cell.from ∷ ends_by cell b.cuts) b.number) c.at_number-begin.ensures in
    subst (λ (q : PosedProblem). IsSpan q.word c.start_of-from.result cell.to) (sym c.requires.same)
    (record { in_order = omega (arith, it.1, begins); in_word = c.requires.span.in_word })
