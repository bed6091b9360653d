-- Each turn reads some bytes, so the loop ends, and the bytes so far are those that the source has lost.
use Rattle.std.proofs.Common.{◌≡◌, ◌+◌, ◌-◌, ◌<◌, ◌≤◌, vec_len}
use Rattle.std.specs.Io.KnownBytes.{Consumes}
use Rattle.adp_io.specs.Streams.{AsksForAtMost, CallsAtMost, SameTold, job_limit, piece_limit}
use Rattle.adp_io.proofs.job.read_job.Given as goal

abbrev pub invariant-loop-source : goal.invariant-loop-source
invariant-loop-source g l = record {
  told : SameTold (g.S.Source.left l.initial.source) (g.S.Source.left l.source);
  faults : g.S.Source.faults l.source ≡ g.S.Source.faults l.initial.source;
  read : Consumes (g.S.Source.left l.initial.source) (g.S.Source.left l.source) l.bytes.items;
  asked : AsksForAtMost (g.S.Source.asked l.initial.source) (g.S.Source.asked l.source) piece_limit;
  calls : CallsAtMost (g.S.Source.calls l.initial.source) (g.S.Source.calls l.source) (vec_len l.bytes);
  fits : vec_len l.bytes ≤ job_limit + 1;
  piece : 0 < vec_len l.piece;
  short : vec_len l.piece ≤ piece_limit;
}

abbrev pub decreases-loop-source : goal.decreases-loop-source
decreases-loop-source g l = job_limit + 1 - vec_len l.bytes
