use Rattle.std.proofs.Common.{refl, rules}
use Rattle.cell_demands.proofs.PlaceBits.{ahead_first, none_ahead}
use Rattle.cell_demands.proofs.bits.first_ahead.Goals as goal

pub returns-then-ahead-eq0 : goal.returns-then-ahead-eq0
returns-then-ahead-eq0 c = none_ahead c.args.word c.args.place c.if-ahead-eq0.true

pub returns : goal.returns
returns c = ahead_first c.args.word c.args.place _ (search rules) c.if-ahead-eq0.false refl
