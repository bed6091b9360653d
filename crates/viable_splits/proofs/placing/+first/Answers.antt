use Rattle.std.proofs.Common.{◌≡◌, ◌+◌, max, ap, ◌∙◌, ◌-◌, ◌<◌, ◌≤◌, List, ◌∷◌, length, take, drop, subst, sym, arith, rules, slice_index}
use Rattle.adp_model.specs.declared.grammar.Arg.{Arg}
use Rattle.std.specs.List.{AllByRecursion}
use Rattle.adp_model.specs.WellFormed.{IsKnown}
use Rattle.viable_splits.specs.Placing.{CoverNone, HasNoneBehind, IsFirstBehind, HasNoneWithin, IsFirstWithin}
use Rattle.viable_splits.proofs.Dividing.{split_first, rest_later}
use Rattle.viable_splits.proofs.Passing.{none_passed, none_joined, none_up_to, first_there}
use Rattle.viable_splits.proofs.FirstPosition.{Looking, first_ahead, first_wrapped, none_either}
use Rattle.viable_splits.proofs.Closing.{all_at, not_contained, closed_first, divide_one, divide_none, fits_one, match_option}
use Rattle.viable_splits.proofs.placing.+first.Goals as goal

pub first_behind-returns-in-Some : goal.first_behind-returns-in-Some
first_behind-returns-in-Some g t c =
    let p = g.M.Matcher.posed c.args.walk.now.matcher.now in
    let cell = c.args.walk.now.cell in
    let all = c.args.arguments.now in
    let parts = split_first all (omega (arith, c.requires.several)) in
    let first = parts.0 in
    let later : List Arg = take (length all - 1) (drop 1 all) in
    let cuts = c.args.cuts in
    let number = c.args.number in
    let turns_three : length cuts.turns ≡ 3 = search rules in
    let split : all ≡ first ∷ later = parts.1 in
    let look : Looking p cell first later c.args.from number c.first_ends-positions.result.start c.first_ends-positions.result.end cuts = record {
      after = c.requires.left.after;
      some = omega (arith, c.requires.several, ap length split);
      boundary = omega (arith, c.requires.several, c.requires.left.few);
      at_three = search rules;
      turns_three = turns_three;
      turned = all_at (λ turn. turn ≤ cell.to - cell.from) cuts.turns number 0 (omega (arith, c.requires.several, c.requires.left.few)) c.requires.left.turned;
      few = omega (arith, c.requires.several, c.requires.left.few, ap length split);
      positions = c.first_ends-positions.ensures.positions first later split;
    } in
    subst (λ xs. IsFirstBehind p cell xs c.args.from number c.args.least_rank cuts c.in-Some.found) (sym split)
    (first_ahead p cell first later c.args.from number c.first_ends-positions.result.start c.first_ends-positions.result.end cuts look c.args.least_rank c.max-ahead.result c.in-Some.found c.max-ahead.ensures c.in-Some.ensures)

pub first_behind-returns-in-None : goal.first_behind-returns-in-None
first_behind-returns-in-None g t c =
    let p = g.M.Matcher.posed c.args.walk.now.matcher.now in
    let cell = c.args.walk.now.cell in
    let all = c.args.arguments.now in
    let parts = split_first all (omega (arith, c.requires.several)) in
    let first = parts.0 in
    let later : List Arg = take (length all - 1) (drop 1 all) in
    let cuts = c.args.cuts in
    let number = c.args.number in
    let turns_three : length cuts.turns ≡ 3 = search rules in
    let split : all ≡ first ∷ later = parts.1 in
    let look : Looking p cell first later c.args.from number c.first_ends-positions.result.start c.first_ends-positions.result.end cuts = record {
      after = c.requires.left.after;
      some = omega (arith, c.requires.several, ap length split);
      boundary = omega (arith, c.requires.several, c.requires.left.few);
      at_three = search rules;
      turns_three = turns_three;
      turned = all_at (λ turn. turn ≤ cell.to - cell.from) cuts.turns number 0 (omega (arith, c.requires.several, c.requires.left.few)) c.requires.left.turned;
      few = omega (arith, c.requires.several, c.requires.left.few, ap length split);
      positions = c.first_ends-positions.ensures.positions first later split;
    } in
    let wrapped_is : c.max-wrapped.result ≡ max c.first_ends-positions.result.start (cell.from + (c.args.least_rank - (cell.to + 1 - (cell.from + slice_index cuts.turns number)))) =
    c.max-wrapped.ensures ∙ ap (λ n. max c.first_ends-positions.result.start (cell.from + n)) c.saturating_sub-skipped.ensures in
    match_option c.first_within-in-None.result
    (HasNoneWithin p cell later c.max-wrapped.result c.min-before_turn.result number cuts.turns)
    (HasNoneBehind p cell all c.args.from number c.args.least_rank cuts.turns)
    (λ found. IsFirstWithin p cell later c.max-wrapped.result c.min-before_turn.result number cuts found)
    (λ found. IsFirstBehind p cell all c.args.from number c.args.least_rank cuts found)
    (λ none.
    subst (λ xs. HasNoneBehind p cell xs c.args.from number c.args.least_rank cuts.turns) (sym split)
    (none_either p cell first later c.args.from number c.first_ends-positions.result.start c.first_ends-positions.result.end cuts look c.args.least_rank c.max-ahead.result c.max-wrapped.result c.min-before_turn.result c.max-ahead.ensures wrapped_is c.min-before_turn.ensures c.in-None.ensures none))
    (λ found within.
    subst (λ xs. IsFirstBehind p cell xs c.args.from number c.args.least_rank cuts found) (sym split)
    (first_wrapped p cell first later c.args.from number c.first_ends-positions.result.start c.first_ends-positions.result.end cuts look c.args.least_rank c.max-ahead.result c.max-wrapped.result c.min-before_turn.result found c.max-ahead.ensures wrapped_is c.min-before_turn.ensures c.in-None.ensures within))
    c.first_within-in-None.ensures

pub first_cuts-returns-in-empty : goal.first_cuts-returns-in-empty
first_cuts-returns-in-empty g t c =
    let p = g.M.Matcher.posed c.args.walk.now.matcher.now in
    let found = c.closed.result in
    let divides = divide_none p c.args.arguments.now c.args.from c.args.walk.now.cell.to (drop c.args.number found.at) (omega (arith, c.in-empty.len_below)) c.closed.ensures.closed in
    closed_first p c.args.walk.now.cell c.args.arguments.now c.args.from c.args.number c.args.cuts found (omega (arith, c.in-empty.len_below)) c.closed.ensures.turns (search rules) c.closed.ensures.kept c.closed.ensures.closed divides

pub first_cuts-returns-then-contains : goal.first_cuts-returns-then-contains
first_cuts-returns-then-contains g t c =
    let p = g.M.Matcher.posed c.args.walk.now.matcher.now in
    let found = c.closed-then-contains.result in
    let to = c.args.walk.now.cell.to in
    let one : length c.args.arguments.now ≡ 1 = omega (arith, c.in-len1.len_at_least, c.in-len1.len_below) in
    let between : (c.argument_ends.result.start ≤ to) × (to < c.argument_ends.result.end) = (search rules, search rules) in
    let fits = (c.argument_ends.ensures.exact to (omega arith)).1 between in
    let divides = divide_one p c.args.arguments.now c.only-item.result c.args.from to (drop c.args.number found.at) one c.only-item.is fits c.closed-then-contains.ensures.closed in
    closed_first p c.args.walk.now.cell c.args.arguments.now c.args.from c.args.number c.args.cuts found (omega arith) c.closed-then-contains.ensures.turns (search rules) c.closed-then-contains.ensures.kept c.closed-then-contains.ensures.closed divides

pub first_cuts-returns-else-contains : goal.first_cuts-returns-else-contains
first_cuts-returns-else-contains g t c others l h r =
    let to = c.args.walk.now.cell.to in
    let one : length c.args.arguments.now ≡ 1 = omega (arith, c.in-len1.len_at_least, c.in-len1.len_below) in
    let fits = fits_one (g.M.Matcher.posed c.args.walk.now.matcher.now) c.args.arguments.now c.only-item.result c.args.from to others one c.only-item.is h in
    let between = (c.argument_ends.ensures.exact to (omega arith)).0 fits in
    not_contained c.argument_ends.result.start to c.argument_ends.result.end c.if-contains.ensures.value between.0 between.1

pub first_behind-first_within-requires : goal.first_behind-first_within-requires
first_behind-first_within-requires g t c κs within =
    let p = g.M.Matcher.posed c.args.walk.now.matcher.now in
    let cell = c.args.walk.now.cell in
    let all = c.args.arguments.now in
    let parts = split_first all (omega (arith, c.requires.several)) in
    let later : List Arg = take (length all - 1) (drop 1 all) in
    let positions = c.first_ends-positions.ensures.positions parts.0 later parts.1 in
    let known : AllByRecursion (IsKnown p.grammar) (parts.0 ∷ later) = subst (AllByRecursion (IsKnown p.grammar)) parts.1 c.requires.left.known in
    let rest = rest_later p cell c.args.walk.now.alt c.args.number all c.requires.left.rest in
    let long : length all ≡ length later + 1 = omega (arith, ap length parts.1) in
    let high = positions.up_to_last in
    let low = positions.behind in
    let after = c.requires.left.after in
    let word = c.requires.left.span.in_word in
    (search rules, (within, (omega (arith, low), (omega (arith, high), (search rules, (word, (known.1, (rest, (omega (arith, c.requires.several), (omega (arith, c.requires.left.few), c.requires.left.turned))))))))))

pub first_behind-first_within-requires-in-None : goal.first_behind-first_within-requires-in-None
first_behind-first_within-requires-in-None g t c κs within =
    let p = g.M.Matcher.posed c.args.walk.now.matcher.now in
    let cell = c.args.walk.now.cell in
    let all = c.args.arguments.now in
    let parts = split_first all (omega (arith, c.requires.several)) in
    let later : List Arg = take (length all - 1) (drop 1 all) in
    let positions = c.first_ends-positions.ensures.positions parts.0 later parts.1 in
    let known : AllByRecursion (IsKnown p.grammar) (parts.0 ∷ later) = subst (AllByRecursion (IsKnown p.grammar)) parts.1 c.requires.left.known in
    let rest = rest_later p cell c.args.walk.now.alt c.args.number all c.requires.left.rest in
    let long : length all ≡ length later + 1 = omega (arith, ap length parts.1) in
    let high = positions.up_to_last in
    let low = positions.behind in
    let after = c.requires.left.after in
    let word = c.requires.left.span.in_word in
    (search rules, (within, (omega (arith, low), (omega (arith, high), (search rules, (word, (known.1, (rest, (omega (arith, c.requires.several), (omega (arith, c.requires.left.few), c.requires.left.turned))))))))))

pub first_within-overflow_cast-moved : goal.first_within-overflow_cast-moved
first_within-overflow_cast-moved g t c = omega (arith, c.in-Some.ensures.high, c.requires.short)

pub first_within-loop-position-preserved : goal.first_within-loop-position-preserved
first_within-loop-position-preserved g t c =
    let p = g.M.Matcher.posed c.args.walk.now.matcher.now in
    let low = c.in-Some.ensures.low in (
      omega (arith, c.loop-position.invariant.0),
      none_up_to p c.args.walk.now.cell c.args.arguments.now c.args.start c.loop-position.start c.args.end c.in-Some.position c.args.number c.args.cuts.turns c.requires.some c.requires.few c.loop-position.invariant.1 (rw c.requires.rest.are c.in-Some.ensures) c.in_default-first_cuts.ensures,
    )

pub first_within-returns-in-Some-first_cuts : goal.first_within-returns-in-Some-first_cuts
first_within-returns-in-Some-first_cuts g t c =
    let p = g.M.Matcher.posed c.args.walk.now.matcher.now in
    first_there p c.args.walk.now.cell c.args.arguments.now c.args.start c.loop-position.start c.args.end c.in-Some.position c.args.number c.args.cuts c.in-Some-first_cuts.found c.requires.some c.requires.few c.loop-position.invariant.0 c.loop-position.invariant.1 (rw c.requires.rest.are c.in-Some.ensures) c.in-Some-first_cuts.ensures

pub first_within-returns : goal.first_within-returns
first_within-returns g t c =
    let p = g.M.Matcher.posed c.args.walk.now.matcher.now in
    let cell = c.args.walk.now.cell in
    let turns = c.args.cuts.turns in
    let passed : CoverNone p c.args.arguments.now c.loop-position.start c.args.end = rw c.requires.rest.are c.in_default.ensures in
    none_joined p cell c.args.arguments.now c.args.start c.loop-position.start c.args.end c.args.number turns c.loop-position.invariant.1
    (none_passed p cell c.args.arguments.now c.loop-position.start c.args.end c.args.number turns c.requires.some c.requires.few passed)
