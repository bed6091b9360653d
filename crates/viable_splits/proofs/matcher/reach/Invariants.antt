use Rattle.std.proofs.Common.{take}
use Rattle.std.specs.List.{AllByRecursion}
use Rattle.adp_model.specs.Tokens.{IsIn}
use Rattle.viable_splits.proofs.matcher.reach.Given as goal

-- the letters so far are in the class
abbrev pub invariant-loop-index : goal.invariant-loop-index
invariant-loop-index l = AllByRecursion (IsIn l.class) (take l.index l.letters)
