use Rattle.std.proofs.Common.{◌≡◌, ℕ, ◌<◌, ◌≤◌, inl, inr, sym, subst, ◌∙◌, arith, rules}
use Rattle.std.specs.Prelude.{IsSome}
use Rattle.std.specs.List.{Contains}
use Rattle.std.proofs.lemmas.Bool.{cases_lt, false≢true}
use Rattle.cell_tables.specs.Spans.{value_at}
use Rattle.cell_tables.specs.Marks.{CellMarks, IsSpanMarked}
use Rattle.cell_tables.proofs.SpanWalks.{span_there}
use Rattle.cell_tables.proofs.marks.Marks.numbers.Goals as goal

pub loop-from-preserved-then-not-has_start : goal.loop-from-preserved-then-not-has_start
loop-from-preserved-then-not-has_start c = λ from to high low marked.
    elim (cases_lt from c.loop-from.from) [
      | inl early ↦ c.loop-from.invariant from to high early marked
      | inr late ↦
          let same : from ≡ c.loop-from.from = omega arith in
          absurd (false≢true (sym c.if-not-has_start.true ∙ c.has_start.ensures.1 (record { rule = marked.0; from = from; to = to }, same, marked.2)))
    ]

pub loop-from-preserved : goal.loop-from-preserved
loop-from-preserved c = λ from to high low marked.
    let start = c.loop-from.from in
    elim (cases_lt from start) [
      | inl early ↦
          let was = c.loop-from.invariant from to high early marked in
          (search rules, search rules)
      | inr late ↦
          let W : CellMarks → Type 0 = λ marks. (rule number : ℕ) → Contains c.args.rules.now rule → IsSome (value_at marks.rows rule start number) → (c.numbers_of-from_number.result.0 ≤ number) × (number < c.numbers_of-from_number.result.1) in
          let within = subst W c.self.view_is c.numbers_of-from_number.ensures in
          let same : from ≡ start = omega arith in
          let S : ℕ → Type 0 = λ at. IsSpanMarked c.args.self.now c.args.rules.now at to in
          let now = span_there c.args.self.now c.args.rules.now start c.numbers_of-from_number.result.0 c.numbers_of-from_number.result.1 within to (subst S same marked) in
          (search rules, search rules)
    ]

pub returns : goal.returns
returns c = λ from to high low marked. c.loop-from.invariant from to high (omega (arith, low, c.loop-from-test.false)) marked
