-- What a machine over the table holds of a publication may go to another thread with it.
use denote.Param.Send.{IsSend, sendable}
use Rattle.std.proofs.Crossing.{crosses}
use Rattle.adp_model.proofs.cell.Cell.TheSendSync as cell
use Rattle.memo_table.proofs.probe.Next.TheSendSync as next
use Rattle.memo_table.specs.contracts.probe.Probe as Probe

pub probe_send : IsSend Probe.the_row
probe_send =
    search (
      sendable,
      crosses,
      next.the_field_send,
      cell.the_field_send,
    ) depth 40 fits 20000
