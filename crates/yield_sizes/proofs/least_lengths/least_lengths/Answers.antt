use Rattle.std.proofs.Common.{◌<◌, ℕ, Option, List, length, replicate, sym, rules, ap, subst, ◌∙◌}
use Rattle.std.proofs.lemmas.List.{length-replicate}
use Rattle.yield_sizes.specs.KnownLengths.{AreLeastLengths, AreLengths, fall_left}
use Rattle.yield_sizes.proofs.GrammarReads.{written_items}
use Rattle.yield_sizes.proofs.LeastLengths.{lengths_found, none_at, nothing_known, unknown}
use Rattle.yield_sizes.proofs.least_lengths.least_lengths.Goals as goal

pub loop-init : goal.loop-init
loop-init c =
    let grammar = c.args.grammar.now in
    let count = length c.as_slice.result.now in
    subst (AreLengths grammar 4294967295) (sym (c.in_ok-known.ensures.items_if_clones_equal (λ other e. search rules)))
    (nothing_known grammar 4294967295 (replicate count unknown) (length-replicate count unknown ∙ ap length c.as_slice.ensures) (none_at count))

pub improve-requires-clause-lengths : goal.improve-requires-clause-lengths
improve-requires-clause-lengths c = subst (AreLengths c.args.grammar.now 4294967295) (sym c.deref_mut.ensures.value) c.loop.invariant

pub loop-smaller : goal.loop-smaller
loop-smaller c =
    let most : ℕ = 4294967295 in
    let new = c.improve.new.known in
    let items = written_items c.loop.known c.deref_mut.result.now new c.improve.auto.known c.deref_mut.ensures.value in
    subst (λ (it : List (Option ℕ)). fall_left most it < fall_left most c.loop.known.items) (sym items)
    (subst (λ (it : List (Option ℕ)). fall_left most new < fall_left most it) c.deref_mut.ensures.value (c.improve.ensures.fell c.loop-test.true))

pub loop-preserved : goal.loop-preserved
loop-preserved c =
    let items = written_items c.loop.known c.deref_mut.result.now c.improve.new.known c.improve.auto.known c.deref_mut.ensures.value in
    subst (AreLengths c.args.grammar.now 4294967295) (sym items) c.improve.ensures.lengths

pub returns : goal.returns
returns c =
    let grammar = c.args.grammar.now in
    let new = c.improve.new.known in
    let items = written_items c.loop.known c.deref_mut.result.now new c.improve.auto.known c.deref_mut.ensures.value in
    let P : List (Option ℕ) → Type 0 = AreLeastLengths grammar in
    subst P (sym items) (lengths_found grammar new (c.numbers_fit_together.ensures.runs_in_order grammar c.requires) (c.numbers_fit_together.ensures.sizes_fit grammar c.requires) c.improve.ensures.lengths (c.improve.ensures.least c.loop-test.false))
