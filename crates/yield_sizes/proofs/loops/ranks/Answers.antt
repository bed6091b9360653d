use Rattle.std.proofs.Common.{◌≡◌, ℕ, List, map, ap, sym, subst, ◌∙◌}
use Rattle.yield_sizes.specs.LoopAnswers.{AreRanks}
use Rattle.yield_sizes.proofs.Searching.{if_ok_weaker}
use Rattle.yield_sizes.proofs.MarkCounts.{rank_of, ranks_told}
use Rattle.yield_sizes.proofs.loops.ranks.Goals as goal

pub returns : goal.returns
returns c =
    let grammar = c.args.grammar.now in
    let rows = c.in_ok-paths.paths.items in
    let told = ranks_told grammar rows (c.numbers_fit_together.ensures.few_rules grammar c.requires.well_formed) (c.numbers_fit_together.ensures.named_known grammar c.requires.well_formed) c.requires.no_loop c.in_ok-paths.ensures in
    let P : List ℕ → Type 0 = AreRanks grammar in
    if_ok_weaker c.marked_in_each.result (λ counts. counts.items ≡ map rank_of c.deref.result.now) (λ counts. P counts.items)
    (λ counts e. subst P (sym (e ∙ ap (map rank_of) c.deref.ensures.value)) told) c.marked_in_each.ensures
