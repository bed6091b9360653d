-- How many steps a counter counted.
use Rattle.std.specs.Prelude.{ℕ}
use Rattle.memo_model.specs.declared.steps.Steps.{Steps}

abbrev pub steps_made : {L : Type 0} → Steps L → ℕ
steps_made steps = steps.book.total
