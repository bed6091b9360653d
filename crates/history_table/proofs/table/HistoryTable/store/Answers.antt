use Rattle.std.proofs.Common.{rules}
use mathlib.Core.Option.{none}
use Rattle.atomic_table.specs.Table.{step}
use Rattle.history_table.specs.History.{bare_me}
use Rattle.history_table.proofs.Lifts.{lifts_store}
use Rattle.history_table.proofs.table.HistoryTable.store.Goals as goal

pub store-requires : goal.store-requires
store-requires g c = (
  search rules,
  search rules,
  lifts_store (g.P.TableRule.holds c.args.self.now.table.shared.key) (g.P.Seats.seats c.args.self.now.table.shared.key) _ _ _ _ c.args.new
      (g.M.Play.then (step c.args.self.now.table.shared.table_id.slots c.args.word c.args.new 0 none) (bare_me c.args.seat.now.me) c.args.new) c.requires.live c.requires.allows,
)
