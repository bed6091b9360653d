use Rattle.std.proofs.Common.{rules}
use Rattle.history_table.specs.declared.history.Deed.TheVariants as deeds
use mathlib.Core.Option.{none}
use Rattle.atomic_table.specs.Table.{step}
use Rattle.history_table.specs.History.{bare_me}
use Rattle.history_table.proofs.Lifts.{lifts}
use Rattle.history_table.proofs.table.HistoryTable.compare_exchange.Goals as goal

pub compare_exchange-requires : goal.compare_exchange-requires
compare_exchange-requires g c = (
  search rules,
  search rules,
  lifts (g.P.TableRule.holds c.args.self.now.table.shared.key) (g.P.Seats.seats c.args.self.now.table.shared.key) _ _ _ _ (deeds.Exchange c.args.old c.args.new)
      (g.M.Play.then (step c.args.self.now.table.shared.table_id.slots c.args.word c.args.old c.args.new none) (bare_me c.args.seat.now.me)) c.requires.live c.requires.allows,
)
