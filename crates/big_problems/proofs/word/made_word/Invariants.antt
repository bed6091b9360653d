use Rattle.std.proofs.Common.{◌≡◌, ◌-◌, ◌++◌}
use Rattle.adp_model.specs.BigReport.{made_word}
use Rattle.adp_model.specs.Printable.{IsPrintable}
use Rattle.big_problems.proofs.word.made_word.Given as goal

-- the letters so far, and those that are still to be made
abbrev pub invariant-loop-made : goal.invariant-loop-made
invariant-loop-made l = record {
  made_is : made_word l.fn.seed l.fn.size ≡ l.letters.items ++ made_word l.state (l.fn.size - l._made);
  printable : IsPrintable l.letters.items;
}
