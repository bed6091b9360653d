-- What the fields of the notes of tails stand for.
use Rattle.std.specs.Prelude.{IfSome}
use Rattle.cell_answers.specs.declared.tails.Tails.TheInside.{Inside}
use Rattle.cell_answers.specs.TailRows.{AreTrueRows}

-- what is noted is true
abbrev pub AreTrue : Inside → Type 0
AreTrue fields = IfSome fields.kept (λ kept. AreTrueRows fields.problem.now kept.rows.items)
