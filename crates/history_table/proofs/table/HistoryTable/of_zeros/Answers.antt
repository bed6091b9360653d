use Rattle.history_table.proofs.Ends.{opens}
use Rattle.history_table.proofs.table.HistoryTable.of_zeros.Goals as goal

pub of_words-requires : goal.of_words-requires
of_words-requires g c = opens (g.P.TableRule.holds c.args.about.now) (g.P.Seats.seats c.args.about.now) _ _ c.requires.zeros c.requires.rule
