use Rattle.std.proofs.Common.{◌≡◌, ℕ, ◌+◌, ◌-◌, ◌/◌, ◌<◌, ◌≤◌, List, length, sym, ap, subst, ◌∙◌, arith}
use Rattle.std.specs.Prelude.{IsSome}
use Rattle.std.specs.Vec.{with_items}
use Rattle.std.proofs.lemmas.List.{with_items_is}
use Rattle.cell_tables.specs.GridFields.{grid_spans}
use Rattle.cell_tables.specs.Spans.{Spans, Stands, block_at, value_at}
use Rattle.cell_tables.specs.Bits.{AreSetToo, IsBitOf}
use Rattle.cell_tables.specs.WordBits.{AreBitsSet, IsBitOfFar}
use Rattle.cell_tables.proofs.Values.{stands_where_some, stands_between, block_low, index_within, low_in, with_values}
use Rattle.cell_tables.proofs.SpanBits.{block_bits_written}
use Rattle.cell_tables.proofs.bits.Grid+u64.set_bits_of.Goals as goal

place_in : (place first last low many len : ℕ) → low ≤ first → place + (last - low) < many → len ≡ many → first ≤ last → place + (first - low) + (last - first) < len
place_in place first last low many len l within same m = omega arith

pub overflow_sub-start : goal.overflow_sub-start
overflow_sub-start c =
    block_low c.args.self.now c.args.rule c.args.near (c.args.first / 64) c.in-Some.block c.in-Some.ensures.1 (c.requires.first c.if-first-past.false)

pub set_words-requires-clause-within : goal.set_words-requires-clause-within
set_words-requires-clause-within c =
    let spans : Spans ℕ = grid_spans c.self.inside in
    let now = c.args.self.now in
    let rule = c.args.rule in
    let near = c.args.near in
    let last : ℕ = (c.args.past - 1) / 64 in
    let block = c.in-Some.block in
    let some = c.if-first-past.false in
    let B : Spans ℕ → Type 0 = λ s. block ≡ block_at s rule near in
    let L : Spans ℕ → Type 0 = λ s. IsSome (value_at s rule near last) in
    let is : spans ≡ now = c.self.view_is in
    let low = block_low now rule near (c.args.first / 64) block c.in-Some.ensures.1 (c.requires.first some) in
    let stands = stands_where_some spans rule near last (subst L (sym is) (c.requires.last some)) in
    let within = index_within spans c.self.invariant rule near block (subst B (sym is) c.in-Some.ensures.1) last stands in
    place_in block.place (c.args.first / 64) last block.first (length spans.values) _ low within (ap (λ (xs : List ℕ). length xs) c.deref_mut.ensures.value) (omega (arith, some))

pub returns-in-Some : goal.returns-in-Some
returns-in-Some c =
    let spans : Spans ℕ = grid_spans c.self.inside in
    let rule = c.args.rule in
    let near = c.args.near in
    let first = c.args.first in
    let past = c.args.past in
    let bits = c.args.bits.now in
    let values = c.set_words.new.words in
    let block = c.in-Some.block in
    let some : first < past = c.if-first-past.false in
    let is : spans ≡ c.args.self.now = c.self.view_is in
    let is_block : block ≡ block_at spans rule near = subst (λ (s : Spans ℕ). block ≡ block_at s rule near) (sym is) c.in-Some.ensures.1 in
    let there : (number : ℕ) → IsSome (value_at c.args.self.now rule near number) → Stands spans rule near number = λ number value.
    stands_where_some spans rule near number (subst (λ (s : Spans ℕ). IsSome (value_at s rule near number)) (sym is) value) in
    let stands_first = there (first / 64) (c.requires.first some) in
    let stands_last = there ((past - 1) / 64) (c.requires.last some) in
    let low = low_in spans c.self.invariant rule near block is_block (first / 64) stands_first in
    let start : ℕ = block.place + (first / 64 - block.first) in
    let each : (far : ℕ) → IsBitOf bits first past far → Stands spans rule near (far / 64) = λ far here.
    stands_between spans rule near (first / 64) ((past - 1) / 64) (far / 64) stands_first stands_last (omega (arith, here.from_first)) (omega (arith, here.before)) in
    let B : List ℕ → Type 0 = λ old. AreBitsSet old values (IsBitOfFar start (first / 64) (IsBitOf bits first past)) in
    let N : List ℕ → Type 0 = λ new. AreSetToo spans (with_values spans new) rule near (IsBitOf bits first past) in
    let W : Spans ℕ → Type 0 = λ old. AreSetToo old (with_values spans (with_items c.self.inside.values values).items) rule near (IsBitOf bits first past) in
    let same : (far : ℕ) → IsBitOf bits first past far → start + (far / 64 - first / 64) ≡ block.place + (far / 64 - block.first) = λ far here.
    let later : first / 64 ≤ far / 64 = omega (arith, here.from_first) in
    omega (arith, low, later) in
    let written = block_bits_written spans c.self.invariant rule near block is_block start (first / 64) values (IsBitOf bits first past) each same (subst B c.deref_mut.ensures.value c.set_words.ensures) in
    let refilled : (with_items c.self.inside.values values).items ≡ values = with_items_is c.self.inside.values values (c.set_words.ensures.as_many ∙ c.deref_mut.ensures.len) in
    subst W is (subst N (sym refilled) written)

pub returns-in_default : goal.returns-in_default
returns-in_default c =
    let stands = stands_where_some c.args.self.now c.args.rule c.args.near (c.args.first / 64) (c.requires.first c.if-first-past.false) in
    absurd (c.in_default.ensures (c.args.first / 64) stands)
