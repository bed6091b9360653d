use Rattle.std.proofs.Common.{◌≡◌, ◌≤◌, ◌+◌, ◌++◌, ◌∷◌, [], ℕ, List, length, length-take, FitsSigned, w64, sym, ap, subst, ◌∙◌, arith, rules, append_assoc}
use Rattle.std.proofs.lemmas.Int.{to_z-of_z}
use Rattle.adp_model.specs.declared.grammar.Arg.{Arg}
use Rattle.adp_model.specs.declared.grammar.Arg.TheVariants.{Rule}
use Rattle.adp_model.specs.ProblemFields.{IsAdmissible}
use Rattle.adp_model.specs.Splits.{Placed}
use Rattle.first_trees.specs.RankedSplits.{HasScoreAt}
use Rattle.k_best.specs.Chosen.{ranks_of, values_of}
use Rattle.k_best.specs.Growing.{AreUnder}
use Rattle.k_best.specs.GrowingLists.{IsRankedAt}
use Rattle.k_best.specs.RankedRows.{IsBegun}
use Rattle.k_best.proofs.RankedAt.{found_here, nowhere}
use Rattle.k_best.proofs.Rows.{argument_fits, argument_known, argument_there, token_matches, begun_rule, begun_token, child_contained}
use Rattle.k_best.proofs.ranked.+split_at.Goals as goal
use Rattle.k_best.proofs.ranked.+split_at.Goals.{After-words_keep_their_score_bound}

-- the split as it is begun, from its next argument on
begun : (t : ℕ) (c : After-words_keep_their_score_bound t)
    → IsBegun c.args.basis.now.lines.now c.args.basis.now.k c.args.node.cell c.args.node.choice (ranks_of c.args.chosen) (values_of c.args.chosen)
    (c.in-Some.argument.now ∷ c.in-Some.others.now) c.args.from (c.in-Some-split_first.to.now ∷ c.in-Some-split_first.later.now)
begun t c =
    let B : List Arg → List ℕ → Type 0 =
    λ arguments ends. IsBegun c.args.basis.now.lines.now c.args.basis.now.k c.args.node.cell c.args.node.choice (ranks_of c.args.chosen) (values_of c.args.chosen) arguments c.args.from ends in
    subst (B (c.in-Some.argument.now ∷ c.in-Some.others.now)) c.in-Some-split_first.ensures.cases.0
    (subst (λ arguments. B arguments c.args.ends.now) c.in-Some.ensures.cases.0 c.requires.begun)

rule_begun : (t : ℕ) (c : After-words_keep_their_score_bound t) (rule : ℕ) → c.in-Some.argument.now ≡ Rule rule
    → IsBegun c.args.basis.now.lines.now c.args.basis.now.k c.args.node.cell c.args.node.choice (ranks_of c.args.chosen) (values_of c.args.chosen)
    (Rule rule ∷ c.in-Some.others.now) c.args.from (c.in-Some-split_first.to.now ∷ c.in-Some-split_first.later.now)
rule_begun t c rule is =
    subst (λ argument. IsBegun c.args.basis.now.lines.now c.args.basis.now.k c.args.node.cell c.args.node.choice (ranks_of c.args.chosen) (values_of c.args.chosen) (argument ∷ c.in-Some.others.now) c.args.from (c.in-Some-split_first.to.now ∷ c.in-Some-split_first.later.now))
    is (begun t c)

four : (t : ℕ) (c : After-words_keep_their_score_bound t) → c.args.chosen.valued + 1 ≤ 4
four t c =
    let p = c.args.basis.now.lines.now in
    let known = subst IsAdmissible c.problem.ensures c.admissible.ensures in
    let few = c.arguments_are_few_and_known.ensures.few p.grammar known.checked.well_formed c.args.node.cell.rule c.args.node.choice.alt in
    let long : length c.args.chosen.values ≡ 4 = search rules in
    omega (arith, (begun t c).as_many, few, length-take c.args.chosen.valued c.args.chosen.values, long, c.requires.room)

pub returns-in_default : goal.returns-in_default
returns-in_default t c =
    let p = c.args.basis.now.lines.now in
    let here = found_here p c.args.basis.now.k c.args.node.cell c.args.node.choice (ranks_of c.args.chosen) c.args.ranks.now (values_of c.args.chosen)
    c.args.from c.args.ends.now c.args.arguments.now (omega (arith, c.in_default.ensures.cases)) c.requires.begun in
    let long : length c.args.chosen.values ≡ 4 = search rules in
    (here.0, here.1, omega (arith, here.2, length-take c.args.chosen.valued c.args.chosen.values, long, c.requires.room), c.requires.few)

pub split_at-requires : goal.split_at-requires
split_at-requires t c =
    let at = (goal.at.split_at-requires t c).After-words_keep_their_score_bound in
    let p = c.args.basis.now.lines.now in
    let k = c.args.basis.now.k in
    let cell = c.args.node.cell in
    let choice = c.args.node.choice in
    let ranks = ranks_of c.args.chosen in
    let values = values_of c.args.chosen in
    let others = c.in-Some.others.now in
    let to = c.in-Some-split_first.to.now in
    let later = c.in-Some-split_first.later.now in
    let rank = c.in-Some-split_first-2.rank.now in
    let score = c.in-Score.score in
    let room = four t at in
    let fits : FitsSigned w64 score = search rules in
    let has : HasScoreAt p k (record { rule = c.in-Rule.rule; from = c.args.from; to = to }) rank score = c.in-Score.ensures in
    let valued : values_of c.with_value.result ≡ values ++ score ∷ [] = simp to_z-of_z at c.with_value.ensures.values in
    let values_are : values ++ score ∷ [] ≡ values_of c.with_rank-next.result = sym (c.with_rank-next.ensures.values ∙ valued) in
    let ranks_are : ranks ++ rank ∷ [] ≡ ranks_of c.with_rank-next.result =
    sym (c.with_rank-next.ensures.ranks ∙ ap (λ (xs : List ℕ). xs ++ rank ∷ []) c.with_value.ensures.ranks) in
    let next = begun_rule p k cell choice ranks values others c.args.from to later c.in-Rule.rule (rule_begun t at c.in-Rule.rule c.in-Rule.is) rank score has in
    let here = subst (λ vs. IsBegun p k cell choice (ranks_of c.with_rank-next.result) vs others to later) values_are
    (subst (λ rs. IsBegun p k cell choice rs (values ++ score ∷ []) others to later) ranks_are next) in
    let ranked_few : c.with_rank-next.result.ranked ≤ c.with_rank-next.result.valued =
    omega (arith, c.with_rank-next.ensures.ranked, c.with_rank-next.ensures.valued, c.with_value.ensures.ranked, c.with_value.ensures.valued, c.requires.few) in
    let valued_few : c.with_rank-next.result.valued ≤ 4 =
    omega (arith, c.with_rank-next.ensures.valued, c.with_value.ensures.valued, room) in
    let fewer = c.in-Some.ensures.cases.1 in
    (search rules, (c.requires.basis, (c.requires.growing, (c.requires.span, (c.requires.viable, (ranked_few, (valued_few, here)))))))

pub token_value-requires : goal.token_value-requires
token_value-requires t c =
    let at = (goal.at.token_value-requires t c).After-words_keep_their_score_bound in
    let p = c.args.basis.now.lines.now in
    let k = c.args.basis.now.k in
    let cell = c.args.node.cell in
    let choice = c.args.node.choice in
    let ranks = ranks_of c.args.chosen in
    let values = values_of c.args.chosen in
    let others = c.in-Some.others.now in
    let to = c.in-Some-split_first.to.now in
    let later = c.in-Some-split_first.later.now in
    let token = c.in-Some.argument.now in
    let known = subst IsAdmissible c.problem.ensures c.admissible.ensures in
    let one : Placed = record { argument = token; from = c.args.from; to = to } in
    let there = child_contained p k cell choice ranks values others c.args.from to later token (begun t at) in
    let fits = argument_fits p cell choice one there c.requires.viable in
    let low =
    c.words_keep_their_score_bound.ensures.token p known.least known.greatest known.ranks known.checked known.limits.letters
    known.limits.scores.0 known.limits.scores.1 cell.rule choice.alt token c.args.from to (argument_there p cell choice one there) fits.0
    (token_matches p c.args.from to token c.in_default-argument.not-Rule fits) in
    record {
      known = argument_known p cell choice one there (c.arguments_are_few_and_known.ensures.known p.grammar known.checked.well_formed cell.rule choice.alt);
      span = fits.0;
      low = omega (arith, low, known.limits.scores.2);
    }

pub split_at-requires-in_default-argument : goal.split_at-requires-in_default-argument
split_at-requires-in_default-argument t c =
    let at = (goal.at.split_at-requires-in_default-argument t c).After-words_keep_their_score_bound in
    let p = c.args.basis.now.lines.now in
    let k = c.args.basis.now.k in
    let cell = c.args.node.cell in
    let choice = c.args.node.choice in
    let ranks = ranks_of c.args.chosen in
    let values = values_of c.args.chosen in
    let others = c.in-Some.others.now in
    let to = c.in-Some-split_first.to.now in
    let later = c.in-Some-split_first.later.now in
    let room = four t at in
    let token = c.in-Some.argument.now in
    let fits : FitsSigned w64 c.token_value.result = search rules in
    let values_are : values ++ c.token_value.result ∷ [] ≡ values_of c.with_value-next.result = sym (simp to_z-of_z at c.with_value-next.ensures.values) in
    let next = begun_token p k cell choice ranks values others c.args.from to later token c.in_default-argument.not-Rule (begun t at)
    c.token_value.result c.token_value.ensures in
    let here = subst (λ vs. IsBegun p k cell choice (ranks_of c.with_value-next.result) vs others to later) values_are
    (subst (λ rs. IsBegun p k cell choice rs (values ++ c.token_value.result ∷ []) others to later) (sym c.with_value-next.ensures.ranks) next) in
    let ranked_few : c.with_value-next.result.ranked ≤ c.with_value-next.result.valued =
    omega (arith, c.with_value-next.ensures.ranked, c.with_value-next.ensures.valued, c.requires.few) in
    let valued_few : c.with_value-next.result.valued ≤ 4 = omega (arith, c.with_value-next.ensures.valued, room) in
    let fewer = c.in-Some.ensures.cases.1 in
    (search rules, (c.requires.basis, (c.requires.growing, (c.requires.span, (c.requires.viable, (ranked_few, (valued_few, here)))))))

pub returns-in-Score : goal.returns-in-Score
returns-in-Score t c =
    let ranks = ranks_of c.args.chosen in
    let rank = c.in-Some-split_first-2.rank.now in
    let more = c.in-Some-split_first-2.ranks.now in
    let ranks_are : ranks_of c.with_rank-next.result ≡ ranks ++ rank ∷ [] =
    c.with_rank-next.ensures.ranks ∙ ap (λ (xs : List ℕ). xs ++ rank ∷ []) c.with_value.ensures.ranks in
    let whole : ranks_of c.with_rank-next.result ++ more ≡ ranks ++ c.args.ranks.now =
    ap (λ (xs : List ℕ). xs ++ more) ranks_are ∙ append_assoc ranks (rank ∷ []) more
    ∙ ap (λ (xs : List ℕ). ranks ++ xs) (sym c.in-Some-split_first-2.ensures.cases.0) in
    subst (λ (xs : List ℕ). IsRankedAt c.args.basis.now.lines.now c.args.basis.now.k c.args.node.cell c.args.node.choice xs c.split_at.result) whole c.split_at.ensures

pub returns-in-Nothing : goal.returns-in-Nothing
returns-in-Nothing t c entry is same under =
    let at = (goal.at.returns-in-Nothing t c).After-words_keep_their_score_bound in
    let ranks = ranks_of c.args.chosen in
    nowhere c.args.basis.now.lines.now c.args.basis.now.k c.args.node.cell c.args.node.choice ranks (values_of c.args.chosen)
    c.in-Some.others.now c.args.from c.in-Some-split_first.to.now c.in-Some-split_first.later.now c.in-Rule.rule
    (rule_begun t at c.in-Rule.rule c.in-Rule.is) c.in-Some-split_first-2.rank.now c.in-Some-split_first-2.ranks.now c.in-Nothing.ensures entry is same
    (subst (λ (xs : List ℕ). AreUnder (ranks ++ xs) entry.ranks) c.in-Some-split_first-2.ensures.cases.0 under)
