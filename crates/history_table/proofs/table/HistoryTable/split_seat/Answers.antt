use Rattle.std.proofs.Common.{rules}
use Rattle.history_table.proofs.Lifts.{cuts}
use Rattle.history_table.proofs.table.HistoryTable.split_seat.Goals as goal

pub split_seat-requires : goal.split_seat-requires
split_seat-requires g c = (
  search rules,
  search rules,
  cuts (g.P.TableRule.holds c.args.self.now.table.shared.key) (g.P.Seats.seats c.args.self.now.table.shared.key) _ _ g.M.Split.left g.M.Split.right c.requires.parts c.requires.rule,
)
