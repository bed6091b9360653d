use Rattle.std.proofs.Common.{◌<◌, pos, sym, ◌∙◌, refl, length-set, arith, rules}
use Rattle.grammar_text.proofs.Distinct.{twice, once_more, marks_more, none_seen}
use Rattle.grammar_text.proofs.reader.judge.are_distinct.Goals as goal

pub loop-letter-init : goal.loop-letter-init
loop-letter-init c = record { size = refl; seen = λ letter small. none_seen letter; distinct = refl }

pub returns-then-seen-place : goal.returns-then-seen-place
returns-then-seen-place c =
    let fits : c.from-place.result < 256 = first_of (omega arith, search rules) in
    let stands = sym (c.loop-letter.invariant.seen c.from-place.result fits) ∙ c.if-seen-place.true in
    sym (twice c.args.letters.now c.loop-letter.letter-index (0, pos 0) c.loop-letter-test.true (rw c.from-place.ensures at stands))

pub loop-letter-preserved : goal.loop-letter-preserved
loop-letter-preserved c =
    let fits : c.from-place.result < 256 = first_of (omega arith, search rules) in
    let stands = sym (c.loop-letter.invariant.seen c.from-place.result fits) ∙ c.if-seen-place.false in
    record {
      size = rw length-set c.loop-letter.invariant.size;
      seen = marks_more c.args.letters.now c.loop-letter.letter-index (0, pos 0) c.loop-letter.seen c.from-place.result c.loop-letter-test.true c.loop-letter.invariant.size fits c.from-place.ensures c.loop-letter.invariant.seen;
      distinct = once_more c.args.letters.now c.loop-letter.letter-index (0, pos 0) c.loop-letter-test.true (rw c.from-place.ensures at stands) c.loop-letter.invariant.distinct;
    }
