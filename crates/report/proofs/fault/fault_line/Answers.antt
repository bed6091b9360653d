use Rattle.std.proofs.Common.{sym, ap, ◌∙◌}
use Rattle.report.specs.Faults.{fault_line}
use Rattle.report.proofs.fault.fault_line.Goals as goal

pub returns-in-Write : goal.returns-in-Write
returns-in-Write c = c.new-in-Write.ensures ∙ ap fault_line (sym c.in-Write.is)
