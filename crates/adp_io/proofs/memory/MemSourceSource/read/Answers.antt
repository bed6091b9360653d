use Rattle.std.proofs.Common.{ap, sym}
use Rattle.adp_io.proofs.MemoryLemmas.{given_front}
use Rattle.adp_io.proofs.memory.MemSourceSource.read.Goals as goal

pub returns-clause-taken : goal.returns-clause-taken
returns-clause-taken c = given_front _ _ _ _ _ _ _ _ (ap (λ s. s.left) (sym c.self.view_is)) c.deref-2.ensures.value c.min-count.ensures c.copy_from_slice.ensures.after
