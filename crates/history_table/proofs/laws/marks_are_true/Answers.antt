use Rattle.history_table.proofs.Truth.{true_mark}
use Rattle.history_table.proofs.laws.marks_are_true.Goals as goal

pub returns : goal.returns
returns g c = true_mark (g.P.TableRule.holds c.args.about.now) (g.P.Seats.seats c.args.about.now)
