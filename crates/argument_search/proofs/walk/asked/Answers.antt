use Rattle.std.proofs.Common.{◌≡◌, List, ◌∷◌, length, get_or, slice_index, sym, subst, ap, ◌∙◌, arith}
use Rattle.adp_model.specs.declared.grammar.Arg.{Arg}
use Rattle.adp_model.specs.declared.grammar.Arg.TheVariants.{Rule}
use Rattle.adp_model.specs.SplitArguments.{AsksFor}
use Rattle.adp_model.specs.Splits.{ends_by}
use Rattle.memo_model.specs.Visits.{argument_at}
use Rattle.argument_search.proofs.PlacedArguments.{length_ends}
use Rattle.argument_search.proofs.PlacedArguments.{asks_there, asks_rule}
use Rattle.argument_search.proofs.walk.asked.Goals as goal

pub returns-in-Rule : goal.returns-in-Rule
returns-in-Rule c =
    let p = c.args.problem.now in
    let a = argument_at c.args.cell c.args.at in
    let few = c.arguments.ensures.few in
    let same = ap length c.arguments.ensures.arguments in
    let inside = c.requires.within in
    let three = c.requires.viable.three in
    let ends = length_ends c.args.at.cuts c.args.cell.to in
    let e =
    subst (λ (xs : List Arg). get_or xs c.args.at.number c.index-arguments-at.result ≡ Rule c.in-Rule.rule)
    c.arguments.ensures.arguments (sym c.index-arguments-at.is ∙ c.in-Rule.is) in
    let asks = asks_there p a c.in-Rule.rule c.index-arguments-at.result c.requires e (omega arith) in
    subst (λ x. AsksFor p a (record { rule = c.in-Rule.rule; from = x; to = c.end_of.result })) (sym c.start_of.ensures)
    (subst
    (λ y. AsksFor p a
    (record {
      rule = c.in-Rule.rule;
      from =
          slice_index (c.args.cell.from ∷ ends_by c.args.cell c.args.at.cuts) c.args.at.number;
      to = y;
    }))
    (sym c.end_of.ensures) asks)

pub returns-in_default : goal.returns-in_default
returns-in_default c = λ child asks.
    let p = c.args.problem.now in
    let a = argument_at c.args.cell c.args.at in
    let few = c.arguments.ensures.few in
    let same = ap length c.arguments.ensures.arguments in
    let inside = c.requires.within in
    let three = c.requires.viable.three in
    let ends = length_ends c.args.at.cuts c.args.cell.to in
    let e = asks_rule p a child c.index-arguments-at.result c.requires (omega arith) asks in
    c.in_default.not-Rule child.rule
    (c.index-arguments-at.is ∙ subst
    (λ (xs : List Arg). get_or xs c.args.at.number c.index-arguments-at.result ≡ Rule child.rule)
    (sym c.arguments.ensures.arguments) e)
