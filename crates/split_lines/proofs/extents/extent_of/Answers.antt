use Rattle.std.proofs.Common.{sym, subst}
use Rattle.adp_model.specs.declared.grammar.Arg.{Arg}
use Rattle.adp_model.specs.WellFormed.{IsKnown}
use Rattle.split_lines.specs.EachWord.{with_word}
use Rattle.split_lines.specs.Extents.{IsExtent}
use Rattle.split_lines.proofs.ExtentPositions.{rule_extent, run_extent}
use Rattle.split_lines.proofs.extents.extent_of.Goals as goal

pub returns-in-Rule : goal.returns-in-Rule
returns-in-Rule c = λ word short.
    let p = with_word c.args.problem.now.grammar c.args.problem.now.algebra word in
    let E : Arg → Type 0 = λ argument. IsExtent p argument c.extent_between.result in
    subst E (sym c.in-Rule.is)
    (rule_extent p c.in-Rule.rule c.sizes-least.result.0 c.sizes-least.result.1 c.extent_between.result c.sizes-least.ensures c.extent_between.ensures.class c.extent_between.ensures.between)

pub returns-in-Run : goal.returns-in-Run
returns-in-Run c = λ word short.
    let p = with_word c.args.problem.now.grammar c.args.problem.now.algebra word in
    let E : Arg → Type 0 = λ argument. IsExtent p argument c.extent_between-in-Run.result in
    let known = subst (IsKnown c.args.problem.now.grammar) c.in-Run.is c.requires.known in
    subst E (sym c.in-Run.is)
    (run_extent p c.in-Run.class c.in-Run.low c.in-Run.high c.extent_between-in-Run.result known c.extent_between-in-Run.ensures.class c.extent_between-in-Run.ensures.between)
