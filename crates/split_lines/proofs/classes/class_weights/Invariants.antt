use Rattle.std.proofs.Common.{◌≡◌, ℕ, ◌<◌, ℤ, Option, List, length, get_or}
use Rattle.adp_model.specs.Parts.{letters_of}
use Rattle.split_lines.specs.Classes.{AreLetterWeights}
use Rattle.split_lines.proofs.classes.class_weights.Given as goal

-- the weights so far
abbrev pub invariant-loop-class : goal.invariant-loop-class
invariant-loop-class l = record {
  each : length l.weights.items ≡ l.class-index;
  are : (class : ℕ) (d : List (Option ℤ)) → class < l.class-index
      → AreLetterWeights (letters_of l.grammar class) (get_or l.weights.items class d);
}
