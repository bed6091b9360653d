use Rattle.std.proofs.Common.{◌≡◌, ◌+◌, ◌-◌, ◌<◌, List, ◌∷◌, length, take, drop, sym, subst, rules}
use Rattle.adp_model.specs.declared.grammar.Arg.{Arg}
use Rattle.viable_splits.specs.Placing.{AreLengths}
use Rattle.viable_splits.proofs.Dividing.{split_at_first}
use Rattle.viable_splits.proofs.LengthSums.{more_lengths}
use Rattle.viable_splits.proofs.end_positions.+total_lengths.Goals as goal

pub returns : goal.returns
returns t c =
    let all = c.args.arguments.now in
    let first = c.index-arguments-0.result in
    let later : List Arg = take (length all - 1) (drop 1 all) in
    let some : 0 < length all = search rules in
    let split : all ≡ first ∷ later = split_at_first all first some c.index-arguments-0.is in
    subst (λ xs. AreLengths c.args.problem.now xs c.args.most (c.lengths-least.result.0 + c.total_lengths-others_least.result.0) (c.lengths-least.result.1 + c.total_lengths-others_least.result.1)) (sym split)
    (more_lengths c.args.problem.now first later c.args.most c.lengths-least.result.0 c.lengths-least.result.1 c.total_lengths-others_least.result.0 c.total_lengths-others_least.result.1 c.lengths-least.ensures c.total_lengths-others_least.ensures)
