use Rattle.std.proofs.Common.{◌≡◌, drop}
use Rattle.adp_model.specs.Tokens.{weight_of}
use Rattle.viable_splits.proofs.matcher.is_in.Given as goal

-- the letter is not among the first of the class
abbrev pub invariant-loop-other : goal.invariant-loop-other
invariant-loop-other l = weight_of l.class l.letter ≡ weight_of (drop l.other-index l.class) l.letter
