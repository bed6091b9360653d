use Rattle.std.proofs.Common.{◌≡◌, ◌+◌, ◌-◌, ◌≤◌, List, ◌∷◌, length, take, drop, slice_index, ap, sym, subst, arith, rules}
use Rattle.adp_model.specs.declared.grammar.Arg.{Arg}
use Rattle.std.specs.List.{AllByRecursion}
use Rattle.adp_model.specs.PosedProblem.{IsSpan}
use Rattle.adp_model.specs.WellFormed.{IsKnown}
use Rattle.viable_splits.specs.Placing.{rank_at, AreLeft, Divide, HasNoneBehind, IsFirstBehind, IsNextFrom, IsLastFrom}
use Rattle.viable_splits.proofs.Dividing.{split_first, rest_later}
use Rattle.viable_splits.proofs.Closing.{all_at, closed_last, match_option}
use Rattle.viable_splits.proofs.NextPosition.{Standing, position_after, position_before, later_divide, next_later, next_here, last_here}
use Rattle.viable_splits.proofs.placing.+next_cuts.Goals as goal

pub returns-then-arguments-lt2 : goal.returns-then-arguments-lt2
returns-then-arguments-lt2 g t c =
    closed_last (g.M.Matcher.posed c.args.walk.now.matcher.now) c.args.walk.now.cell c.args.arguments.now c.args.from c.args.number c.args.cuts c.if-arguments-lt2.true c.requires.divides

pub returns-in-Some : goal.returns-in-Some
returns-in-Some g t c =
    let p = g.M.Matcher.posed c.args.walk.now.matcher.now in
    let cell = c.args.walk.now.cell in
    let all = c.args.arguments.now in
    let cuts = c.args.cuts in
    let number = c.args.number in
    let split = split_first all (omega (arith, c.if-arguments-lt2.false)) in
    let first = split.0 in
    let later : List Arg = take (length all - 1) (drop 1 all) in
    let turns_three : length cuts.turns ≡ 3 = search rules in
    let stand : Standing p cell first later c.args.from number cuts = record {
      after = c.requires.left.after;
      some = omega (arith, c.if-arguments-lt2.false, ap length split.1);
      boundary = omega (arith, c.if-arguments-lt2.false, c.requires.left.few);
      at_three = search rules;
      turns_three = turns_three;
      turned = all_at (λ turn. turn ≤ cell.to - cell.from) cuts.turns number 0 (omega (arith, c.if-arguments-lt2.false, c.requires.left.few)) c.requires.left.turned;
      divides = subst (λ xs. Divide p xs c.args.from cell.to (drop number cuts.at)) split.1 c.requires.divides;
    } in
    subst (λ xs. IsNextFrom p cell xs c.args.from number cuts c.in-Some.found) (sym split.1)
    (next_later p cell first later c.args.from number cuts stand c.in-Some.found c.in-Some.ensures)

pub returns-in-None : goal.returns-in-None
returns-in-None g t c =
    let p = g.M.Matcher.posed c.args.walk.now.matcher.now in
    let cell = c.args.walk.now.cell in
    let all = c.args.arguments.now in
    let cuts = c.args.cuts in
    let number = c.args.number in
    let split = split_first all (omega (arith, c.if-arguments-lt2.false)) in
    let first = split.0 in
    let later : List Arg = take (length all - 1) (drop 1 all) in
    let turns_three : length cuts.turns ≡ 3 = search rules in
    let stand : Standing p cell first later c.args.from number cuts = record {
      after = c.requires.left.after;
      some = omega (arith, c.if-arguments-lt2.false, ap length split.1);
      boundary = omega (arith, c.if-arguments-lt2.false, c.requires.left.few);
      at_three = search rules;
      turns_three = turns_three;
      turned = all_at (λ turn. turn ≤ cell.to - cell.from) cuts.turns number 0 (omega (arith, c.if-arguments-lt2.false, c.requires.left.few)) c.requires.left.turned;
      divides = subst (λ xs. Divide p xs c.args.from cell.to (drop number cuts.at)) split.1 c.requires.divides;
    } in
    let position = slice_index cuts.at number in
    let least_rank = rank_at cell cuts.turns number position + 1 in
    match_option c.first_behind.result
    (HasNoneBehind p cell all c.args.from number least_rank cuts.turns)
    (IsLastFrom p cell all c.args.from number cuts)
    (λ found. IsFirstBehind p cell all c.args.from number least_rank cuts found)
    (λ found. IsNextFrom p cell all c.args.from number cuts found)
    (λ none.
    subst (λ xs. IsLastFrom p cell xs c.args.from number cuts) (sym split.1)
    (last_here p cell first later c.args.from number cuts stand c.in-None.ensures (subst (λ xs. HasNoneBehind p cell xs c.args.from number least_rank cuts.turns) split.1 none)))
    (λ found there.
    subst (λ xs. IsNextFrom p cell xs c.args.from number cuts found) (sym split.1)
    (next_here p cell first later c.args.from number cuts stand c.in-None.ensures found (subst (λ xs. IsFirstBehind p cell xs c.args.from number least_rank cuts found) split.1 there)))
    (rw c.rank-least_rank.ensures.rank at c.first_behind.ensures)

pub next_cuts-requires : goal.next_cuts-requires
next_cuts-requires g t c κs within =
    let p = g.M.Matcher.posed c.args.walk.now.matcher.now in
    let cell = c.args.walk.now.cell in
    let all = c.args.arguments.now in
    let cuts = c.args.cuts in
    let number = c.args.number in
    let split = split_first all (omega (arith, c.if-arguments-lt2.false)) in
    let first = split.0 in
    let later : List Arg = take (length all - 1) (drop 1 all) in
    let turns_three : length cuts.turns ≡ 3 = search rules in
    let stand : Standing p cell first later c.args.from number cuts = record {
      after = c.requires.left.after;
      some = omega (arith, c.if-arguments-lt2.false, ap length split.1);
      boundary = omega (arith, c.if-arguments-lt2.false, c.requires.left.few);
      at_three = search rules;
      turns_three = turns_three;
      turned = all_at (λ turn. turn ≤ cell.to - cell.from) cuts.turns number 0 (omega (arith, c.if-arguments-lt2.false, c.requires.left.few)) c.requires.left.turned;
      divides = subst (λ xs. Divide p xs c.args.from cell.to (drop number cuts.at)) split.1 c.requires.divides;
    } in
    let span : IsSpan p.word (slice_index cuts.at number) cell.to = record { in_order = position_before p cell first later c.args.from number cuts stand; in_word = c.requires.left.span.in_word } in
    let rest = rest_later p cell c.args.walk.now.alt number all c.requires.left.rest in
    let known : AllByRecursion (IsKnown p.grammar) (first ∷ later) = subst (AllByRecursion (IsKnown p.grammar)) split.1 c.requires.left.known in
    let long : length all ≡ length later + 1 = omega (arith, ap length split.1) in
    let left : AreLeft p cell c.args.walk.now.alt later (slice_index cuts.at number) (number + 1) cuts.turns = record {
      span = span;
      after = position_after p cell first later c.args.from number cuts stand;
      known = known.1;
      rest = rest;
      few = omega (arith, c.requires.left.few);
      boundary = omega (arith, c.requires.left.few, c.if-arguments-lt2.false);
      turned = c.requires.left.turned;
    } in
    (search rules, (within, (left, later_divide p cell first later c.args.from number cuts stand)))

pub overflow_add-least_rank : goal.overflow_add-least_rank
overflow_add-least_rank g t c = omega (arith, c.rank-least_rank.ensures.short)

pub first_behind-requires-clause-rank : goal.first_behind-requires-clause-rank
first_behind-requires-clause-rank g t c = omega (arith, c.rank-least_rank.ensures.short)
