use Rattle.std.proofs.Common.{◌%◌, subst, get_or}
use Rattle.split_lines.specs.Beginnings.{IsToldAt}
use Rattle.split_lines.proofs.OpeningBits.{set_left, set_right}
use Rattle.split_lines.proofs.beginnings.Place.bits_at.Goals as goal

pub returns-in-Some-clause-any : goal.returns-in-Some-clause-any
returns-in-Some-clause-any c = λ alternative told. set_left c.args.self.now.any _ alternative told

pub returns-in-Some-clause-letter : goal.returns-in-Some-clause-letter
returns-in-Some-clause-letter c = λ alternative told.
    set_right c.args.self.now.any (get_or c.args.self.now.groups (c.in-Some.letter % 32) 0) alternative (subst (IsToldAt c.args.self.now alternative) c.in-Some.is told)
