use Rattle.std.proofs.Common.{arith}
use Rattle.big_problems.proofs.MadeLetters.{word_more, printable_more}
use Rattle.big_problems.proofs.word.made_word.Goals as goal

pub loop-made-preserved : goal.loop-made-preserved
loop-made-preserved c =
    let kept = c.loop-made.invariant in
    let moved = c.next_state-state.ensures in
    let here = c.letter_of.ensures in
    let grown = c.in_ok-push.ensures.items in record {
      made_is = word_more _ _ _ _ _ _ _ _ kept.made_is (omega arith) moved here grown;
      printable = printable_more _ _ _ _ _ kept.printable moved here grown;
    }
