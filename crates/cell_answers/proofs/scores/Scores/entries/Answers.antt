use Rattle.std.proofs.Common.{◌≡◌, ℕ, ℤ, ◌-◌, IsSome, slice_get, sym, ap, subst, ◌∙◌}
use Rattle.cell_answers.specs.declared.argument_values.Numbers.{Numbers}
use Rattle.cell_layouts.specs.declared.layout.Side.{Side}
use Rattle.cell_answers.specs.declared.scores.Packed.{Packed}
use Rattle.cell_answers.specs.declared.scores.Packed.TheVariants.{Short, Medium, Long, Whole}
use Rattle.cell_answers.specs.declared.scores.Scores.TheInside.{Inside}
use Rattle.cell_tables.specs.Spans.{Spans, value_at}
use Rattle.cell_tables.specs.Tables.{Table, spans_of}
use Rattle.score_numbers.specs.Packing.{short, medium, long}
use Rattle.cell_answers.specs.ScoresFields.{scores_table, table_of}
use Rattle.cell_answers.specs.ArgumentEntries.{told_numbers}
use Rattle.cell_answers.proofs.PackedScores.{spans_told, told_between, some_untold}
use Rattle.cell_answers.proofs.scores.Scores.entries.Goals as goal
use Rattle.cell_answers.proofs.scores.Scores.entries.Goals.{in-Short, in-Medium, in-Long, in-Whole}

-- the entries of one side, by the table within
side_is : (inside : Inside) (packed : Packed) (now : Table ℤ) (side : Side) → scores_table inside ≡ now
    → inside.packed ≡ packed → spans_of now side ≡ spans_of (table_of inside.goal packed) side
side_is inside packed now side view is = ap (λ (table : Table ℤ). spans_of table side) (sym view) ∙ ap (λ p. spans_of (table_of inside.goal p) side) is

pub numbers_between-requires-clause-there : goal.numbers_between-requires-clause-there
numbers_between-requires-clause-there c = λ rule is.
    let table = c.in-Short.table in
    let goal = c.self.inside.goal in
    let side = c.args.side in
    let e = side_is c.self.inside (Short table) c.args.self.now side c.self.view_is c.in-Short.is ∙ spans_told short goal table side in
    let there = c.requires.there rule is in
    let S : ℕ → Spans ℤ → Type 0 = λ far spans. IsSome (value_at spans rule c.args.near far) in
    let here : (far : ℕ) → IsSome (value_at (spans_of c.args.self.now side) rule c.args.near far)
    → IsSome (value_at c.grid.result.now rule c.args.near far) = λ far some.
    subst (S far) (sym c.grid.ensures) (some_untold short goal (spans_of table side) rule c.args.near far (subst (S far) e some)) in
    (here c.args.first there.0, here c.args.last there.1)

pub numbers_between-requires-in-Medium-clause-there : goal.numbers_between-requires-in-Medium-clause-there
numbers_between-requires-in-Medium-clause-there c = λ rule is.
    let table = c.in-Medium.table in
    let goal = c.self.inside.goal in
    let side = c.args.side in
    let e = side_is c.self.inside (Medium table) c.args.self.now side c.self.view_is c.in-Medium.is ∙ spans_told medium goal table side in
    let there = c.requires.there rule is in
    let S : ℕ → Spans ℤ → Type 0 = λ far spans. IsSome (value_at spans rule c.args.near far) in
    let here : (far : ℕ) → IsSome (value_at (spans_of c.args.self.now side) rule c.args.near far)
    → IsSome (value_at c.grid-in-Medium.result.now rule c.args.near far) = λ far some.
    subst (S far) (sym c.grid-in-Medium.ensures) (some_untold medium goal (spans_of table side) rule c.args.near far (subst (S far) e some)) in
    (here c.args.first there.0, here c.args.last there.1)

pub numbers_between-requires-in-Long-clause-there : goal.numbers_between-requires-in-Long-clause-there
numbers_between-requires-in-Long-clause-there c = λ rule is.
    let table = c.in-Long.table in
    let goal = c.self.inside.goal in
    let side = c.args.side in
    let e = side_is c.self.inside (Long table) c.args.self.now side c.self.view_is c.in-Long.is ∙ spans_told long goal table side in
    let there = c.requires.there rule is in
    let S : ℕ → Spans ℤ → Type 0 = λ far spans. IsSome (value_at spans rule c.args.near far) in
    let here : (far : ℕ) → IsSome (value_at (spans_of c.args.self.now side) rule c.args.near far)
    → IsSome (value_at c.grid-in-Long.result.now rule c.args.near far) = λ far some.
    subst (S far) (sym c.grid-in-Long.ensures) (some_untold long goal (spans_of table side) rule c.args.near far (subst (S far) e some)) in
    (here c.args.first there.0, here c.args.last there.1)

pub returns-clause-values : goal.returns-clause-values
returns-clause-values c = elim c.match-self.branch [
  | in-Short w ↦
      let table = w.in-Short.table in
      let goal = c.self.inside.goal in
      let side = c.args.side in
      let e = side_is c.self.inside (Short table) c.args.self.now side c.self.view_is w.in-Short.is ∙ spans_told short goal table side in
      λ rule far is low high.
      let position = far - c.args.first in
      let read : slice_get w.numbers_between.result.now position ≡ value_at (spans_of table side) rule c.args.near far =
      w.numbers_between.ensures.values rule far is low high
      ∙ ap (λ (spans : Spans ℤ). value_at spans rule c.args.near far) w.grid.ensures in
      ap (λ (numbers : Numbers). slice_get (told_numbers goal numbers) position) w.numbers-is
      ∙ told_between short goal w.numbers_between.result.now position (spans_of table side) rule c.args.near far read
      ∙ ap (λ (spans : Spans ℤ). value_at spans rule c.args.near far) (sym e)
  | in-Medium w ↦
      let table = w.in-Medium.table in
      let goal = c.self.inside.goal in
      let side = c.args.side in
      let e = side_is c.self.inside (Medium table) c.args.self.now side c.self.view_is w.in-Medium.is ∙ spans_told medium goal table side in
      λ rule far is low high.
      let position = far - c.args.first in
      let read : slice_get w.numbers_between-in-Medium.result.now position ≡ value_at (spans_of table side) rule
      c.args.near far = w.numbers_between-in-Medium.ensures.values rule far is low high
      ∙ ap (λ (spans : Spans ℤ). value_at spans rule c.args.near far) w.grid-in-Medium.ensures in
      ap (λ (numbers : Numbers). slice_get (told_numbers goal numbers) position) w.numbers-is
      ∙ told_between medium goal w.numbers_between-in-Medium.result.now position (spans_of table side) rule c.args.near far read
      ∙ ap (λ (spans : Spans ℤ). value_at spans rule c.args.near far) (sym e)
  | in-Long w ↦
      let table = w.in-Long.table in
      let goal = c.self.inside.goal in
      let side = c.args.side in
      let e = side_is c.self.inside (Long table) c.args.self.now side c.self.view_is w.in-Long.is ∙ spans_told long goal table side in
      λ rule far is low high.
      let position = far - c.args.first in
      let read : slice_get w.numbers_between-in-Long.result.now position ≡ value_at (spans_of table side) rule
      c.args.near far = w.numbers_between-in-Long.ensures.values rule far is low high
      ∙ ap (λ (spans : Spans ℤ). value_at spans rule c.args.near far) w.grid-in-Long.ensures in
      ap (λ (numbers : Numbers). slice_get (told_numbers goal numbers) position) w.numbers-is
      ∙ told_between long goal w.numbers_between-in-Long.result.now position (spans_of table side) rule c.args.near far read
      ∙ ap (λ (spans : Spans ℤ). value_at spans rule c.args.near far) (sym e)
  | in-Whole w ↦
      let table = w.in-Whole.table in
      let goal = c.self.inside.goal in
      let side = c.args.side in
      let e = side_is c.self.inside (Whole table) c.args.self.now side c.self.view_is w.in-Whole.is in
      λ rule far is low high.
      let position = far - c.args.first in
      ap (λ (numbers : Numbers). slice_get (told_numbers goal numbers) position) w.numbers-is
      ∙ w.numbers_between-in-Whole.ensures.values rule far is low high
      ∙ ap (λ (spans : Spans ℤ). value_at spans rule c.args.near far) (w.grid-in-Whole.ensures ∙ sym e)
]
