use Rattle.std.proofs.Common.{sym, ◌∙◌}
use Rattle.adp_main.proofs.Endings.{line_written}
use Rattle.adp_main.proofs.Told.{undone}
use Rattle.adp_main.proofs.top_call.run.Goals as goal

pub returns-in-Err-clause-fault : goal.returns-in-Err-clause-fault
returns-in-Err-clause-fault g c = λ _. record {
  fault = c.in-Err.fault;
  status_is = c.status_of.ensures;
  is_verdict = c.in-Err.ensures.fault;
  written = line_written c.write_whole.result _ _ _ _ _ _ (c.bytes.ensures ∙ c.fault_line.ensures) c.write_whole.ensures.whole c.write_whole.ensures.part c.write_whole.ensures.faults;
}

pub returns-in-Err-clause-certified : goal.returns-in-Err-clause-certified
returns-in-Err-clause-certified g c = λ done. absurd (undone c.in-Err.fault (sym c.status_of.ensures ∙ done))
