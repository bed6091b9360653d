-- The first words were reported and noted, and what is kept serves words of its length.
use Rattle.std.proofs.Common.{◌≡◌, ◌-◌, ◌≤◌, [], length, take, IfSome}
use Rattle.adp_io.specs.Streams.{SameTold}
use Rattle.verdicts.specs.Posed.{posed_word, posed_words}
use Rattle.adp_main.specs.CompiledWords.{ServesItsLength}
use Rattle.adp_main.specs.FirstWords.{AreReported}
use Rattle.adp_main.specs.SharedWords.{IsSharedOf}
use Rattle.adp_main.proofs.writing.write_words.Given as goal

abbrev pub invariant-loop-place : goal.invariant-loop-place
invariant-loop-place g l = record {
  inside : l.place ≤ length l.job.words;
  shared : IsSharedOf (posed_word l.job.checked.grammar l.job.checked.algebra []) l.shared;
  kept : IfSome l.kept (ServesItsLength l.command.second l.job.checked);
  told : SameTold (g.K.Sink.held l.initial.out) (g.K.Sink.held l.out);
  faults : g.K.Sink.faults l.out ≡ g.K.Sink.faults l.initial.out;
  ran : AreReported l.command 1 (take l.place (posed_words l.job.checked.grammar l.job.checked.algebra l.job.words))
      (g.G.Gate.runs l.initial.gate) (g.G.Gate.runs l.gate) (g.K.Sink.held l.initial.out) (g.K.Sink.held l.out);
}

abbrev pub decreases-loop-place : goal.decreases-loop-place
decreases-loop-place g l = l.words - l.place
