use Rattle.std.proofs.Common.{rules}
use Rattle.history_table.proofs.Lifts.{merges}
use Rattle.history_table.proofs.table.HistoryTable.join_seat.Goals as goal

pub join_seat-requires : goal.join_seat-requires
join_seat-requires g c = (
  search rules,
  search rules,
  search rules,
  search rules,
  merges (g.P.TableRule.holds c.args.self.now.table.shared.key) (g.P.Seats.seats c.args.self.now.table.shared.key) _ _ _ _ g.M.Join.both g.M.Join.spent c.requires.live c.requires.rule,
)
