use Rattle.std.proofs.Common.{refl, rules}
use Rattle.cell_demands.proofs.PlaceBits.{behind_last, none_behind}
use Rattle.cell_demands.proofs.bits.last_behind.Goals as goal

pub returns-then-behind-eq0 : goal.returns-then-behind-eq0
returns-then-behind-eq0 c = none_behind c.args.word c.args.place c.if-behind-eq0.true

pub returns : goal.returns
returns c = behind_last c.args.word c.args.place _ (search rules) c.if-behind-eq0.false refl
