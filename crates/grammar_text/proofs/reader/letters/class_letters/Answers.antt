use Rattle.std.proofs.Common.{◌≡◌, ◌++◌, map, ◌∙◌, arith, rules}
use Rattle.std.proofs.lemmas.Int.{ints, to_z-of_z}
use Rattle.grammar_text.proofs.Letters.{class_more}
use Rattle.grammar_text.proofs.reader.letters.class_letters.Goals as goal

pub loop-item-preserved : goal.loop-item-preserved
loop-item-preserved c =
    let pushed : c.push_weighed.new.class.items ≡ c.loop-item.class.items ++ map (λ letter. (letter, c.unwrap_or-weight.result)) c.deref.result.now =
    first_of (search rules, grind (arith, ints, to_z-of_z, c.in_ok-push_weighed.ensures)) in
    class_more c.args.items.now c.loop-item.item-index _ c.loop-item.class.items c.push_weighed.new.class.items c.deref.result.now c.unwrap_or-weight.result
    c.loop-item-test.true c.loop-item.invariant pushed
    (c.deref.ensures.value ∙ rw c.clear.ensures.items at c.in_ok-push_letters.ensures)
    (rw c.weight_of.ensures at c.unwrap_or-weight.ensures)
