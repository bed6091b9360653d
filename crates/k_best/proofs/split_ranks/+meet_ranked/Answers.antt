use Rattle.std.proofs.Common.{◌≡◌, ◌≤◌, ◌<◌, ◌+◌, ◌++◌, ◌∷◌, [], ℕ, ℤ, List, length, length-take, FitsSigned, w64, sym, ap, subst, ◌∙◌, arith, rules, false, Bool, not, nat_lt, nat_eq, IfOk}
use Rattle.std.proofs.lemmas.Bool.Decides.{nat_tests}
use Rattle.adp_model.specs.Splits.{Placed}
use Rattle.std.proofs.lemmas.Int.{to_z-of_z}
use Rattle.adp_model.specs.declared.grammar.Arg.{Arg}
use Rattle.adp_model.specs.declared.grammar.Arg.TheVariants.{Rule}
use Rattle.adp_model.specs.PosedProblem.{PosedProblem}
use Rattle.adp_model.specs.ProblemFields.{IsAdmissible}
use Rattle.first_trees.specs.Entries.{Entry, AreEntries}
use Rattle.k_best.specs.Chosen.{ranks_of, values_of}
use Rattle.k_best.specs.ListTables.{HasList}
use Rattle.k_best.specs.RankedRows.{AreNotBelow, AreSettled, BeginWith, IsBegun}
use Rattle.k_best.proofs.InOrder.{get_at}
use Rattle.k_best.proofs.Rows.{argument_fits, argument_known, argument_there, token_matches, begun_next, begun_token, child_contained, gone_more, list_few, met_left, met_whole, out_empty, out_left, still_kept}
use Rattle.k_best.proofs.split_ranks.+meet_ranked.Goals as goal
use Rattle.k_best.proofs.split_ranks.+meet_ranked.Goals.{After-first_trees_are_unique, After-list-list}

none : (n : ℕ) → nat_lt 0 n ≡ false → n ≡ 0
none n is = grind (arith, nat_tests)

empty : (list : List Entry) (is_empty : Bool) → is_empty ≡ nat_eq (length list) 0 → not is_empty ≡ false → length list ≡ 0
empty list is_empty is not_in = grind (arith, nat_tests)

-- the split as it is begun, from its next argument on
begun : (t : ℕ) (c : After-first_trees_are_unique t)
    → IsBegun c.args.split.lines.now c.args.split.k c.args.split.cell c.args.split.choice (ranks_of c.args.chosen) (values_of c.args.chosen)
    (c.in-Some.argument.now ∷ c.in-Some.others.now) c.args.from (c.in-Some-split_first.to.now ∷ c.in-Some-split_first.later.now)
begun t c =
    let B : List Arg → List ℕ → Type 0 =
    λ arguments ends. IsBegun c.args.split.lines.now c.args.split.k c.args.split.cell c.args.split.choice (ranks_of c.args.chosen) (values_of c.args.chosen) arguments c.args.from ends in
    subst (B (c.in-Some.argument.now ∷ c.in-Some.others.now)) c.in-Some-split_first.ensures.cases.0
    (subst (λ arguments. B arguments c.args.ends.now) c.in-Some.ensures.cases.0 c.requires.begun)

-- the cell of a rule among the arguments has its list
has_list : (t : ℕ) (c : After-first_trees_are_unique t) (rule : ℕ) → c.in-Some.argument.now ≡ Rule rule
    → HasList c.args.split.k c.args.table.now (record { rule = rule; from = c.args.from; to = c.in-Some-split_first.to.now })
has_list t c rule is =
    let p = c.args.split.lines.now in
    let choice = c.args.split.choice in
    let cell = c.args.split.cell in
    c.requires.lists (record { rule = rule; from = c.args.from; to = c.in-Some-split_first.to.now }) (
      choice.alt,
      choice.cuts,
      c.requires.viable,
      child_contained p c.args.split.k cell choice (ranks_of c.args.chosen) (values_of c.args.chosen) c.in-Some.others.now c.args.from
          c.in-Some-split_first.to.now c.in-Some-split_first.later.now (Rule rule)
          (subst (λ argument. IsBegun p c.args.split.k cell choice (ranks_of c.args.chosen) (values_of c.args.chosen) (argument ∷ c.in-Some.others.now) c.args.from (c.in-Some-split_first.to.now ∷ c.in-Some-split_first.later.now)) is (begun t c)),
    )

rule_begun : (t : ℕ) (c : After-first_trees_are_unique t) (rule : ℕ) → c.in-Some.argument.now ≡ Rule rule
    → IsBegun c.args.split.lines.now c.args.split.k c.args.split.cell c.args.split.choice (ranks_of c.args.chosen) (values_of c.args.chosen)
    (Rule rule ∷ c.in-Some.others.now) c.args.from (c.in-Some-split_first.to.now ∷ c.in-Some-split_first.later.now)
rule_begun t c rule is =
    subst (λ argument. IsBegun c.args.split.lines.now c.args.split.k c.args.split.cell c.args.split.choice (ranks_of c.args.chosen) (values_of c.args.chosen) (argument ∷ c.in-Some.others.now) c.args.from (c.in-Some-split_first.to.now ∷ c.in-Some-split_first.later.now))
    is (begun t c)

-- the list that is gone through is that of the rule's cell
are_entries : (t : ℕ) (c : After-list-list t)
    → AreEntries c.args.split.lines.now c.args.split.k (record { rule = c.in-Rule.rule; from = c.args.from; to = c.in-Some-split_first.to.now }) c.list-list.result.now
are_entries t c =
    let has = has_list t ((goal.at-After-list-list t c).After-first_trees_are_unique) c.in-Rule.rule c.in-Rule.is in
    subst (λ (q : PosedProblem). AreEntries q c.args.split.k (record { rule = c.in-Rule.rule; from = c.args.from; to = c.in-Some-split_first.to.now }) c.list-list.result.now)
    c.requires.laid.problem (c.list-list.ensures c.args.split.k has)

four : (t : ℕ) (c : After-first_trees_are_unique t) → c.args.chosen.valued + 1 ≤ 4
four t c =
    let p = c.args.split.lines.now in
    let known = subst IsAdmissible c.problem.ensures c.admissible.ensures in
    let few = c.arguments_are_few_and_known.ensures.few p.grammar known.checked.well_formed c.args.split.cell.rule c.args.split.choice.alt in
    let long : length c.args.chosen.values ≡ 4 = search rules in
    omega (arith, (begun t c).as_many, few, length-take c.args.chosen.valued c.args.chosen.values, long, c.requires.room)

pub list-list-requires-clause-counted : goal.list-list-requires-clause-counted
list-list-requires-clause-counted t c =
    (has_list t (goal.at.list-list-requires-clause-counted t c).After-first_trees_are_unique c.in-Rule.rule c.in-Rule.is).counted

pub overflow_cast-rank : goal.overflow_cast-rank
overflow_cast-rank t c =
    let at = (goal.at.overflow_cast-rank t c).After-list-list in
    let few = list_few c.args.split.lines.now c.args.split.k (record { rule = c.in-Rule.rule; from = c.args.from; to = c.in-Some-split_first.to.now }) c.list-list.result.now (are_entries t at) in
    let low : c.loop-rank.rank < 64 = omega (arith, few, c.requires.small, c.loop-rank-test.true) in
    search (rules, low)

pub meet_ranked-requires : goal.meet_ranked-requires
meet_ranked-requires t c =
    let at = (goal.at.meet_ranked-requires t c).After-list-list in
    let unique = (goal.at.meet_ranked-requires t c).After-first_trees_are_unique in
    let p = c.args.split.lines.now in
    let k = c.args.split.k in
    let cell = c.args.split.cell in
    let choice = c.args.split.choice in
    let ranks = ranks_of c.args.chosen in
    let values = values_of c.args.chosen in
    let others = c.in-Some.others.now in
    let to = c.in-Some-split_first.to.now in
    let later = c.in-Some-split_first.later.now in
    let room = four t unique in
    let standing = get_at c.list-list.result.now c.loop-rank.rank c.index-list-rank.result c.loop-rank-test.true c.index-list-rank.is in
    let fits : FitsSigned w64 c.score.result = search rules in
    let valued : values_of c.with_value.result ≡ values ++ c.score.result ∷ [] = simp to_z-of_z at c.with_value.ensures.values in
    let values_are : values ++ c.index-list-rank.result.score ∷ [] ≡ values_of c.with_rank-next.result =
    sym (c.with_rank-next.ensures.values ∙ valued ∙ ap (λ (v : ℤ). values ++ v ∷ []) c.score.ensures) in
    let ranks_are : ranks ++ c.loop-rank.rank ∷ [] ≡ ranks_of c.with_rank-next.result =
    sym (c.with_rank-next.ensures.ranks ∙ ap (λ (xs : List ℕ). xs ++ c.loop-rank.rank ∷ []) c.with_value.ensures.ranks) in
    let next = begun_next p k cell choice ranks values others c.args.from to later c.in-Rule.rule (rule_begun t unique c.in-Rule.rule c.in-Rule.is)
    (λ child trees firsts. c.first_trees_are_unique.ensures.one p child k trees firsts) c.list-list.result.now (are_entries t at) c.loop-rank.rank c.index-list-rank.result standing in
    let here = subst (λ vs. IsBegun p k cell choice (ranks_of c.with_rank-next.result) vs others to later) values_are
    (subst (λ rs. IsBegun p k cell choice rs (values ++ c.index-list-rank.result.score ∷ []) others to later) ranks_are next) in
    let ranked_few : c.with_rank-next.result.ranked ≤ c.with_rank-next.result.valued =
    omega (arith, c.with_rank-next.ensures.ranked, c.with_rank-next.ensures.valued, c.with_value.ensures.ranked, c.with_value.ensures.valued, c.requires.few) in
    let valued_few : c.with_rank-next.result.valued ≤ 4 =
    omega (arith, c.with_rank-next.ensures.valued, c.with_value.ensures.valued, room) in
    let fewer = c.in-Some.ensures.cases.1 in
    (search rules, (c.requires.laid, (c.requires.small, (c.requires.lists, (c.requires.span, (c.requires.viable, (c.requires.term, (ranked_few, (valued_few, (here, c.loop-rank.invariant.listing))))))))))

pub returns-then-not-branch-clause-kept : goal.returns-then-not-branch-clause-kept
returns-then-not-branch-clause-kept t c =
    let at = (goal.at.returns-then-not-branch-clause-kept t c).After-list-list in
    let unique = (goal.at.returns-then-not-branch-clause-kept t c).After-first_trees_are_unique in
    let p = c.args.split.lines.now in
    let k = c.args.split.k in
    let cell = c.args.split.cell in
    let choice = c.args.split.choice in
    let ranks = ranks_of c.args.chosen in
    let values = values_of c.args.chosen in
    let others = c.in-Some.others.now in
    let to = c.in-Some-split_first.to.now in
    let later = c.in-Some-split_first.later.now in
    still_kept p k cell choice ranks values others c.args.from to later c.in-Rule.rule (rule_begun t unique c.in-Rule.rule c.in-Rule.is)
    (λ child trees firsts. c.first_trees_are_unique.ensures.one p child k trees firsts) c.list-list.result.now (are_entries t at)
    c.loop-rank.rank c.args.listed.now.items c.loop-rank.listed.items c.meet_ranked.new.listed.items c.loop-rank.invariant c.in_ok-meet_ranked-in-Rule.ensures.kept

pub returns-then-not-branch-clause-met : goal.returns-then-not-branch-clause-met
returns-then-not-branch-clause-met t c =
    let at = (goal.at.returns-then-not-branch-clause-met t c).After-list-list in
    let unique = (goal.at.returns-then-not-branch-clause-met t c).After-first_trees_are_unique in
    let p = c.args.split.lines.now in
    let k = c.args.split.k in
    let cell = c.args.split.cell in
    let choice = c.args.split.choice in
    let ranks = ranks_of c.args.chosen in
    let values = values_of c.args.chosen in
    let others = c.in-Some.others.now in
    let to = c.in-Some-split_first.to.now in
    let later = c.in-Some-split_first.later.now in
    let ranks_are : ranks_of c.with_rank-next.result ≡ ranks ++ c.loop-rank.rank ∷ [] =
    c.with_rank-next.ensures.ranks ∙ ap (λ (xs : List ℕ). xs ++ c.loop-rank.rank ∷ []) c.with_value.ensures.ranks in
    let out : AreSettled p k cell choice (AreNotBelow (ranks ++ c.loop-rank.rank ∷ [])) c.meet_ranked.new.listed.items =
    subst (λ rs. AreSettled p k cell choice (AreNotBelow rs) c.meet_ranked.new.listed.items) ranks_are
    (c.in_ok-meet_ranked-in-Rule.ensures.out c.if-not-branch.true) in
    met_left p k cell choice ranks values others c.args.from to later c.in-Rule.rule (rule_begun t unique c.in-Rule.rule c.in-Rule.is)
    (λ child trees firsts. c.first_trees_are_unique.ensures.one p child k trees firsts) c.list-list.result.now (are_entries t at)
    c.loop-rank.rank c.args.listed.now.items c.loop-rank.listed.items c.meet_ranked.new.listed.items c.loop-rank.invariant c.in_ok-meet_ranked-in-Rule.ensures.kept out

pub returns-then-not-branch-clause-out : goal.returns-then-not-branch-clause-out
returns-then-not-branch-clause-out t c =
    let at = (goal.at.returns-then-not-branch-clause-out t c).After-list-list in
    let unique = (goal.at.returns-then-not-branch-clause-out t c).After-first_trees_are_unique in
    let p = c.args.split.lines.now in
    let k = c.args.split.k in
    let cell = c.args.split.cell in
    let choice = c.args.split.choice in
    let ranks = ranks_of c.args.chosen in
    let values = values_of c.args.chosen in
    let others = c.in-Some.others.now in
    let to = c.in-Some-split_first.to.now in
    let later = c.in-Some-split_first.later.now in
    let ranks_are : ranks_of c.with_rank-next.result ≡ ranks ++ c.loop-rank.rank ∷ [] =
    c.with_rank-next.ensures.ranks ∙ ap (λ (xs : List ℕ). xs ++ c.loop-rank.rank ∷ []) c.with_value.ensures.ranks in
    let out : AreSettled p k cell choice (AreNotBelow (ranks ++ c.loop-rank.rank ∷ [])) c.meet_ranked.new.listed.items =
    subst (λ rs. AreSettled p k cell choice (AreNotBelow rs) c.meet_ranked.new.listed.items) ranks_are
    (c.in_ok-meet_ranked-in-Rule.ensures.out c.if-not-branch.true) in
    λ not_in. out_left p k cell choice ranks values others c.args.from to later c.in-Rule.rule (rule_begun t unique c.in-Rule.rule c.in-Rule.is)
    (λ child trees firsts. c.first_trees_are_unique.ensures.one p child k trees firsts) c.list-list.result.now (are_entries t at)
    c.loop-rank.rank c.args.listed.now.items c.loop-rank.listed.items c.meet_ranked.new.listed.items c.loop-rank.invariant c.in_ok-meet_ranked-in-Rule.ensures.kept (none c.loop-rank.rank not_in) out

pub loop-rank-preserved : goal.loop-rank-preserved
loop-rank-preserved t c =
    let at = (goal.at.loop-rank-preserved t c).After-list-list in
    let unique = (goal.at.loop-rank-preserved t c).After-first_trees_are_unique in
    let p = c.args.split.lines.now in
    let k = c.args.split.k in
    let cell = c.args.split.cell in
    let choice = c.args.split.choice in
    let ranks = ranks_of c.args.chosen in
    let values = values_of c.args.chosen in
    let others = c.in-Some.others.now in
    let to = c.in-Some-split_first.to.now in
    let later = c.in-Some-split_first.later.now in
    let ranks_are : ranks_of c.with_rank-next.result ≡ ranks ++ c.loop-rank.rank ∷ [] =
    c.with_rank-next.ensures.ranks ∙ ap (λ (xs : List ℕ). xs ++ c.loop-rank.rank ∷ []) c.with_value.ensures.ranks in
    let met : AreSettled p k cell choice (BeginWith (ranks ++ c.loop-rank.rank ∷ [])) c.meet_ranked.new.listed.items =
    subst (λ rs. AreSettled p k cell choice (BeginWith rs) c.meet_ranked.new.listed.items) ranks_are c.in_ok-meet_ranked-in-Rule.ensures.met in
    gone_more p k cell choice ranks values others c.args.from to later c.in-Rule.rule (rule_begun t unique c.in-Rule.rule c.in-Rule.is)
    (λ child trees firsts. c.first_trees_are_unique.ensures.one p child k trees firsts) c.list-list.result.now (are_entries t at)
    c.loop-rank.rank c.args.listed.now.items c.loop-rank.listed.items c.meet_ranked.new.listed.items c.loop-rank.invariant c.in_ok-meet_ranked-in-Rule.ensures.kept
    c.in_ok-meet_ranked-in-Rule.ensures.listing met

pub returns-after-loop-rank-clause-met : goal.returns-after-loop-rank-clause-met
returns-after-loop-rank-clause-met t c =
    let at = (goal.at.returns-after-loop-rank-clause-met t c).After-list-list in
    let unique = (goal.at.returns-after-loop-rank-clause-met t c).After-first_trees_are_unique in
    let p = c.args.split.lines.now in
    let k = c.args.split.k in
    let cell = c.args.split.cell in
    let choice = c.args.split.choice in
    let ranks = ranks_of c.args.chosen in
    let values = values_of c.args.chosen in
    let others = c.in-Some.others.now in
    let to = c.in-Some-split_first.to.now in
    let later = c.in-Some-split_first.later.now in
    met_whole p k cell choice ranks values others c.args.from to later c.in-Rule.rule (rule_begun t unique c.in-Rule.rule c.in-Rule.is)
    (λ child trees firsts. c.first_trees_are_unique.ensures.one p child k trees firsts) c.list-list.result.now (are_entries t at)
    c.loop-rank.rank c.args.listed.now.items c.loop-rank.listed.items c.loop-rank.invariant c.loop-rank-test.false

pub returns-after-loop-rank-clause-out : goal.returns-after-loop-rank-clause-out
returns-after-loop-rank-clause-out t c =
    let at = (goal.at.returns-after-loop-rank-clause-out t c).After-list-list in
    let unique = (goal.at.returns-after-loop-rank-clause-out t c).After-first_trees_are_unique in
    let p = c.args.split.lines.now in
    let k = c.args.split.k in
    let cell = c.args.split.cell in
    let choice = c.args.split.choice in
    let ranks = ranks_of c.args.chosen in
    let values = values_of c.args.chosen in
    let others = c.in-Some.others.now in
    let to = c.in-Some-split_first.to.now in
    let later = c.in-Some-split_first.later.now in
    λ not_in. out_empty p k cell choice ranks values others c.args.from to later c.in-Rule.rule (rule_begun t unique c.in-Rule.rule c.in-Rule.is)
    (λ child trees firsts. c.first_trees_are_unique.ensures.one p child k trees firsts) c.list-list.result.now (are_entries t at)
    c.loop-rank.rank c.args.listed.now.items c.loop-rank.listed.items c.loop-rank.invariant (empty c.list-list.result.now c.is_empty.result c.is_empty.ensures not_in)

pub token_value-requires : goal.token_value-requires
token_value-requires t c =
    let unique = (goal.at.token_value-requires t c).After-first_trees_are_unique in
    let p = c.args.split.lines.now in
    let k = c.args.split.k in
    let cell = c.args.split.cell in
    let choice = c.args.split.choice in
    let ranks = ranks_of c.args.chosen in
    let values = values_of c.args.chosen in
    let others = c.in-Some.others.now in
    let to = c.in-Some-split_first.to.now in
    let later = c.in-Some-split_first.later.now in
    let token = c.in-Some.argument.now in
    let known = subst IsAdmissible c.problem.ensures c.admissible.ensures in
    let one : Placed = record { argument = token; from = c.args.from; to = to } in
    let there = child_contained p k cell choice ranks values others c.args.from to later token (begun t unique) in
    let fits = argument_fits p cell choice one there c.requires.viable in
    let low =
    c.words_keep_their_score_bound.ensures.token p known.least known.greatest known.ranks known.checked known.limits.letters
    known.limits.scores.0 known.limits.scores.1 cell.rule choice.alt token c.args.from to (argument_there p cell choice one there) fits.0
    (token_matches p c.args.from to token c.in_default-argument.not-Rule fits) in
    record {
      known = argument_known p cell choice one there (c.arguments_are_few_and_known.ensures.known p.grammar known.checked.well_formed cell.rule choice.alt);
      span = fits.0;
      low = omega (arith, low, known.limits.scores.2);
    }

pub meet_ranked-requires-in_default-argument : goal.meet_ranked-requires-in_default-argument
meet_ranked-requires-in_default-argument t c =
    let unique = (goal.at.meet_ranked-requires-in_default-argument t c).After-first_trees_are_unique in
    let p = c.args.split.lines.now in
    let k = c.args.split.k in
    let cell = c.args.split.cell in
    let choice = c.args.split.choice in
    let ranks = ranks_of c.args.chosen in
    let values = values_of c.args.chosen in
    let others = c.in-Some.others.now in
    let to = c.in-Some-split_first.to.now in
    let later = c.in-Some-split_first.later.now in
    let room = four t unique in
    let token = c.in-Some.argument.now in
    let fits : FitsSigned w64 c.token_value.result = search rules in
    let values_are : values ++ c.token_value.result ∷ [] ≡ values_of c.with_value-next.result = sym (simp to_z-of_z at c.with_value-next.ensures.values) in
    let next = begun_token p k cell choice ranks values others c.args.from to later token c.in_default-argument.not-Rule (begun t unique)
    c.token_value.result c.token_value.ensures in
    let here = subst (λ vs. IsBegun p k cell choice (ranks_of c.with_value-next.result) vs others to later) values_are
    (subst (λ rs. IsBegun p k cell choice rs (values ++ c.token_value.result ∷ []) others to later) (sym c.with_value-next.ensures.ranks) next) in
    let ranked_few : c.with_value-next.result.ranked ≤ c.with_value-next.result.valued =
    omega (arith, c.with_value-next.ensures.ranked, c.with_value-next.ensures.valued, c.requires.few) in
    let valued_few : c.with_value-next.result.valued ≤ 4 = omega (arith, c.with_value-next.ensures.valued, room) in
    let fewer = c.in-Some.ensures.cases.1 in
    (search rules, (c.requires.laid, (c.requires.small, (c.requires.lists, (c.requires.span, (c.requires.viable, (c.requires.term, (ranked_few, (valued_few, (here, c.requires.listing))))))))))

pub returns-in_default-argument : goal.returns-in_default-argument
returns-in_default-argument t c =
    let p = c.args.split.lines.now in
    let k = c.args.split.k in
    let cell = c.args.split.cell in
    let choice = c.args.split.choice in
    let new = c.meet_ranked-in_default-argument.new.listed.items in
    let same = c.with_value-next.ensures.ranks in
    record {
      listing = c.meet_ranked-in_default-argument.ensures.listing;
      kept = c.meet_ranked-in_default-argument.ensures.kept;
      met = subst (λ rs. IfOk c.meet_ranked-in_default-argument.result (λ _. AreSettled p k cell choice (BeginWith rs) new)) same
          c.meet_ranked-in_default-argument.ensures.met;
      out = subst (λ rs. IfOk c.meet_ranked-in_default-argument.result (λ is_in. is_in ≡ false → AreSettled p k cell choice (AreNotBelow rs) new)) same
          c.meet_ranked-in_default-argument.ensures.out;
    }
