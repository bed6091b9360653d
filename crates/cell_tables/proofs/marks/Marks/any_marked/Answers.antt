use Rattle.std.proofs.Common.{refl, sym, ◌∙◌}
use Rattle.std.proofs.lemmas.Bool.{false≢true}
use Rattle.cell_tables.proofs.SetBits.{no_bit}
use Rattle.cell_tables.proofs.marks.Marks.any_marked.Goals as goal

pub returns-then-not-has_start : goal.returns-then-not-has_start
returns-then-not-has_start c = λ to. (
  λ bit. absurd (no_bit c.args.number to bit),
  λ (same, (rule, known, row)). absurd (false≢true (sym c.if-not-has_start.true ∙ c.has_start.ensures.1 (record { rule = rule; from = c.args.from; to = to }, refl, row))),
)
