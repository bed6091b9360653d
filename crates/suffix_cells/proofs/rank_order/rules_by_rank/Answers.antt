use Rattle.std.proofs.Common.{◌≡◌, ℕ, List, length, rules, ap, subst, ◌∙◌}
use Rattle.std.specs.Prelude.{slice_index}
use Rattle.std.specs.List.Sorted.{IsNonDecreasingBy}
use Rattle.std.proofs.lemmas.List.Sorted.{IsNonDecreasingBy-from_sort_by_key}
use Rattle.adp_model.specs.PosedProblem.{PosedProblem}
use Rattle.adp_model.specs.ProblemFields.{posed_problem}
use Rattle.suffix_cells.specs.Ranks.{AreRanked}
use Rattle.suffix_cells.proofs.Ranks.{ranked_rules}
use Rattle.suffix_cells.proofs.rank_order.rules_by_rank.Goals as goal

pub returns : goal.returns
returns c =
    let fields = c.problem.inside in
    let checked = c.problem.invariant.checked in
    let p = posed_problem fields in
    let sorted_rules = c.sort_unstable_by_key.new.self.items in
    let ranks = c.as_slice-ranks.result.now in
    let sorted : IsNonDecreasingBy (slice_index ranks) sorted_rules =
    IsNonDecreasingBy-from_sort_by_key (slice_index ranks) sorted_rules c.sort_unstable_by_key.ensures.sorted (λ a r q k. search rules) in
    let N : List ℕ → Type 0 = λ it. IsNonDecreasingBy (slice_index it) sorted_rules in
    let below = c.demanded_children_are_below.ensures p fields.least.now fields.greatest.now fields.ranks.now checked in
    let each : length ranks ≡ length p.grammar.rules = ap length c.as_slice-ranks.ensures ∙ checked.ranks_each in
    let ranked = ranked_rules p fields.ranks.now c.in_ok-rules.rules.items sorted_rules (length ranks) each c.in_ok-rules.ensures.each
    c.in_ok-rules.ensures.are c.sort_unstable_by_key.ensures.permutation below (subst N c.as_slice-ranks.ensures sorted) in
    let A : PosedProblem → Type 0 = λ it. AreRanked it sorted_rules in
    subst A c.problem.view_is ranked
