use Rattle.std.proofs.Common.{◌≡◌, ◌+◌, ◌*◌, get_or-set_other}
use Rattle.grammar_check.proofs.Index.{rows_apart}
use Rattle.grammar_check.proofs.table.Table.set.Goals as goal

pub returns-clause-other_rows : goal.returns-clause-other_rows
returns-clause-other_rows c = λ other at differ inside.
    let width = c.args.self.now.width in
    let apart : other * width + at ≡ c.args.row * width + c.args.column → ⊥ = rows_apart width c.args.row other c.args.column at c.requires.column inside differ in
    get_or-set_other c.args.self.now.values.items _ _ _ _ apart
