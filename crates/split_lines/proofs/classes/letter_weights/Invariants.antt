use Rattle.std.proofs.Common.{◌≡◌, drop, length}
use Rattle.split_lines.specs.Classes.{AreLetterWeights}
use Rattle.split_lines.proofs.classes.letter_weights.Given as goal

-- the weights in the last entries of the class
abbrev pub invariant-loop-number : goal.invariant-loop-number
invariant-loop-number l = record {
  each : length l.weights ≡ 256;
  told : AreLetterWeights (drop l.number l.class) l.weights;
}
