use Rattle.history_table.proofs.Ends.{tells_whole, tells_bare}
use Rattle.history_table.proofs.table.HistoryTable.close_with.Goals as goal

pub returns-clause-whole : goal.returns-clause-whole
returns-clause-whole g c = tells_whole (g.P.TableRule.holds c.args.self.table.shared.key) (g.P.Seats.seats c.args.self.table.shared.key) _ _ _ _ c.close_with.ensures.values.2

pub returns-clause-values : goal.returns-clause-values
returns-clause-values g c = tells_bare (g.P.TableRule.holds c.args.self.table.shared.key) (g.P.Seats.seats c.args.self.table.shared.key) _ _ _ _ c.close_with.ensures.values.2
