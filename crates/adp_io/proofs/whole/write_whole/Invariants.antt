-- Each turn writes some bytes, so the loop ends, and what is written so far is what the sink has taken.
use Rattle.std.proofs.Common.{◌≡◌, ◌-◌, ◌≤◌, length, take}
use Rattle.std.specs.Io.KnownBytes.{Appends}
use Rattle.adp_io.specs.Streams.{CallsAtMost, SameTold}
use Rattle.adp_io.proofs.whole.write_whole.Given as goal

abbrev pub invariant-loop-written : goal.invariant-loop-written
invariant-loop-written g l = record {
  told : SameTold (g.K.Sink.held l.initial.sink) (g.K.Sink.held l.sink);
  within : l.written ≤ length l.bytes;
  taken : Appends (g.K.Sink.held l.initial.sink) (g.K.Sink.held l.sink) (take l.written l.bytes);
  calls : CallsAtMost (g.K.Sink.calls l.initial.sink) (g.K.Sink.calls l.sink) l.written;
  faults : g.K.Sink.faults l.sink ≡ g.K.Sink.faults l.initial.sink;
}

abbrev pub decreases-loop-written : goal.decreases-loop-written
decreases-loop-written g l = length l.bytes - l.written
