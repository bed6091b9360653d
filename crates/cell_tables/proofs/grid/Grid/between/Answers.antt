use Rattle.std.proofs.Common.{◌≡◌, ℕ, ◌+◌, ◌-◌, ◌<◌, ◌≤◌, List, length, drop, slice_get, sym, ap, subst, ◌∙◌, arith}
use Rattle.std.specs.Prelude.{IsSome}
use Rattle.cell_layouts.specs.declared.layout.Block.{Block}
use Rattle.cell_tables.specs.GridFields.{grid_spans}
use Rattle.cell_tables.specs.Spans.{Spans, AreBlocks, block_at, value_at}
use Rattle.cell_tables.proofs.Lists.{slice_get-take, slice_get-drop}
use Rattle.cell_tables.proofs.Values.{stands_where_some, block_low, values_between}
use Rattle.cell_tables.proofs.grid.Grid.between.Goals as goal

-- the values stand in the grid's, side by side
held_between : {V : Type 0} (inner now : Spans V) → inner ≡ now → AreBlocks inner → (rule near first past : ℕ) (block : Block) → block ≡ block_at now rule near → first < past
    → (first < past → IsSome (value_at now rule near first)) → (first < past → IsSome (value_at now rule near (past - 1)))
    → (block.place + (first - block.first) + (past - first) ≤ length inner.values)
    × ((k : ℕ) → k < past - first → slice_get inner.values (block.place + (first - block.first) + k) ≡ value_at now rule near (first + k))
held_between {V} inner now is laid rule near first past block is_block some begins ends =
    let B : Spans V → Type 0 = λ spans. block ≡ block_at spans rule near in
    let F : Spans V → Type 0 = λ spans. IsSome (value_at spans rule near first) in
    let L : Spans V → Type 0 = λ spans. IsSome (value_at spans rule near (past - 1)) in
    let at_first = stands_where_some inner rule near first (subst F (sym is) (begins some)) in
    let at_last = stands_where_some inner rule near (past - 1) (subst L (sym is) (ends some)) in
    let found = values_between inner laid rule near block (subst B (sym is) is_block) first past at_first at_last some in
    (found.0, λ k l. found.1 k l ∙ ap (λ (spans : Spans V). value_at spans rule near (first + k)) is)

pub returns-in_default-clause-as_many : goal.returns-in_default-clause-as_many
returns-in_default-clause-as_many g c =
    absurd (c.in_default.ensures c.args.first (stands_where_some c.args.self.now c.args.rule c.args.near c.args.first (c.requires.first c.if-first-past.false)))

pub returns-in_default-clause-values : goal.returns-in_default-clause-values
returns-in_default-clause-values g c =
    absurd (c.in_default.ensures c.args.first (stands_where_some c.args.self.now c.args.rule c.args.near c.args.first (c.requires.first c.if-first-past.false)))

pub overflow_sub-start : goal.overflow_sub-start
overflow_sub-start g c =
    block_low c.args.self.now c.args.rule c.args.near c.args.first c.in-Some.block c.in-Some.ensures.1 (c.requires.first c.if-first-past.false)

pub slice_bounds-result-end-2 : goal.slice_bounds-result-end-2
slice_bounds-result-end-2 g c =
    let rule = c.args.rule in
    let near = c.args.near in
    let first = c.args.first in
    let past = c.args.past in
    let held = held_between (grid_spans c.self.inside) c.args.self.now c.self.view_is c.self.invariant rule near first past c.in-Some.block c.in-Some.ensures.1 c.if-first-past.false c.requires.first c.requires.last in
    omega (arith, held.0, ap (λ (values : List g.row.V.Denot). length values) c.deref.ensures.value)

pub returns-clause-values : goal.returns-clause-values
returns-clause-values g c =
    let rule = c.args.rule in
    let near = c.args.near in
    let first = c.args.first in
    let past = c.args.past in
    let block = c.in-Some.block in
    let start = block.place + (first - block.first) in
    let held = held_between (grid_spans c.self.inside) c.args.self.now c.self.view_is c.self.invariant rule near first past block c.in-Some.ensures.1 c.if-first-past.false c.requires.first c.requires.last in
    λ k l.
    slice_get-take (start + (past - first) - start) k (drop start c.deref.result.now) (omega (arith, l))
    ∙ slice_get-drop start k c.deref.result.now
    ∙ ap (λ (values : List g.row.V.Denot). slice_get values (start + k)) c.deref.ensures.value
    ∙ held.1 k l
