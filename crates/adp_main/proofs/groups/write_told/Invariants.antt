-- What is told of the words before this place was written.
use Rattle.std.proofs.Common.{◌≡◌, ◌++◌, ℕ, List, length, take}
use Rattle.std.specs.Vec.Iter.{into_iter_items}
use Rattle.adp_io.specs.Streams.{SameTold}
use Rattle.adp_model.specs.PosedProblem.{PosedProblem}
use Rattle.verdicts.specs.Command.{Command}
use Rattle.adp_main.specs.FirstWords.{AreReported}
use Rattle.adp_main.specs.Groups.{AreTold}
use Rattle.adp_main.proofs.groups.write_told.Given as goal

abbrev pub invariant-loop-word : goal.invariant-loop-word
invariant-loop-word g l = record {
  left : l.yielded ++ into_iter_items l.word-iterator ≡ l.fn.all.items;
  count : l.written ≡ length l.yielded;
  told : SameTold (g.K.Sink.held l.initial.out) (g.K.Sink.held l.out);
  faults : g.K.Sink.faults l.out ≡ g.K.Sink.faults l.initial.out;
  ran : (command : Command) (number : ℕ) (asked : List PosedProblem) → AreTold command number asked l.fn.all.items
      → AreReported command number (take l.written asked) (g.G.Gate.runs l.initial.gate) (g.G.Gate.runs l.gate)
      (g.K.Sink.held l.initial.out) (g.K.Sink.held l.out);
}
