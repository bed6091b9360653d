use Rattle.std.proofs.Common.{sym, subst, arith}
use Rattle.grammar_check.specs.Fills.{IsKept, IsKeptRanked, IsFilledTo}
use Rattle.grammar_check.proofs.Fillable.{fillable_after, stay_through}
use Rattle.grammar_check.proofs.fill.fill.Goals as goal

pub fill_length-requires-clause-fillable : goal.fill_length-requires-clause-fillable
fill_length-requires-clause-fillable c = fillable_after c.requires.fillable c.loop-len.invariant.stay

pub fill_length-requires-clause-below : goal.fill_length-requires-clause-below
fill_length-requires-clause-below c = λ rule inside.
    c.count_of-count.ensures rule (omega (arith, c.requires.fillable.ranks, c.loop-len.invariant.stay.each))

pub loop-len-preserved : goal.loop-len-preserved
loop-len-preserved c =
    let inv = c.loop-len.invariant in
    let plan = inv.stay.plan in
    record {
      stay = stay_through inv.stay c.fill_length.ensures.stay;
      filled = λ bound planned lesser filled.
          c.fill_length.ensures.filled bound (subst (λ p. IsKept bound p c.loop-len.len) (sym plan) (planned c.loop-len.len (omega (arith, c.loop-len-test.true)))) (subst (λ p. IsKeptRanked c.args.ranks.now p) (sym plan) lesser)
          (inv.filled bound planned lesser filled);
    }

pub returns-clause-filled : goal.returns-clause-filled
returns-clause-filled c = λ bound planned lesser filled.
    subst (IsFilledTo bound c.loop-len.table c.loop-len.plans.items) (omega (arith, c.loop-len-test.false, c.loop-len.auto.len-end)) (c.loop-len.invariant.filled bound planned lesser filled)
