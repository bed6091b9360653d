use Rattle.std.proofs.Common.{sym}
use Rattle.adp_io.proofs.MemoryLemmas.{given_front}
use Rattle.adp_io.proofs.clean.CleanSourceSource.read.Goals as goal

pub returns-clause-taken : goal.returns-clause-taken
returns-clause-taken c = given_front _ _ _ _ _ _ _ _ (sym c.self.view_is) c.deref.ensures.value c.min-count.ensures c.copy_from_slice.ensures.after
