-- The first reports were written.
use Rattle.std.proofs.Common.{◌≡◌, take}
use Rattle.std.specs.List.{concat}
use Rattle.std.specs.Io.KnownBytes.{Appends}
use Rattle.adp_io.specs.Streams.{SameTold}
use Rattle.adp_main.specs.Verifying.{score_reports}
use Rattle.adp_main.proofs.verify.write_scores.Given as goal

abbrev pub invariant-loop-place : goal.invariant-loop-place
invariant-loop-place g l = record {
  told : SameTold (g.K.Sink.held l.initial.out) (g.K.Sink.held l.out);
  faults : g.K.Sink.faults l.out ≡ g.K.Sink.faults l.initial.out;
  grew : Appends (g.K.Sink.held l.initial.out) (g.K.Sink.held l.out) (concat (take l.place (score_reports 1 l.scores)));
}
