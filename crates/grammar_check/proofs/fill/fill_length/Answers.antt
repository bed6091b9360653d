use Rattle.std.proofs.Common.{sym, subst, arith}
use Rattle.grammar_check.specs.Fills.{IsKept, IsKeptRanked}
use Rattle.grammar_check.proofs.RankSteps.{length_begun, length_done}
use Rattle.grammar_check.proofs.Fillable.{stay_as_they_are, fillable_after, stay_through}
use Rattle.grammar_check.proofs.fill.fill_length.Goals as goal

pub fill_rank-requires-clause-fillable : goal.fill_rank-requires-clause-fillable
fill_rank-requires-clause-fillable c = fillable_after c.requires.fillable c.loop-rank.invariant.stay

pub loop-rank-init : goal.loop-rank-init
loop-rank-init c = record {
  stay = stay_as_they_are c.requires.fillable;
  filled = λ bound planned lesser filled. length_begun bound c.args.ranks.now c.args.table.now c.args.plans.now.items c.args.len filled;
}

pub loop-rank-preserved : goal.loop-rank-preserved
loop-rank-preserved c =
    let inv = c.loop-rank.invariant in
    let plan = inv.stay.plan in
    record {
      stay = stay_through inv.stay c.fill_rank.ensures.stay;
      filled = λ bound planned lesser filled.
          c.fill_rank.ensures.filled bound (subst (λ p. IsKept bound p c.args.len) (sym plan) planned) (subst (λ p. IsKeptRanked c.args.ranks.now p) (sym plan) lesser)
          (inv.filled bound planned lesser filled);
    }

pub returns-clause-filled : goal.returns-clause-filled
returns-clause-filled c = λ bound planned lesser filled.
    length_done bound c.args.ranks.now c.loop-rank.table c.loop-rank.plans.items c.args.len c.loop-rank.rank
    (λ rule inside.
    let known = c.requires.below rule (omega (arith, c.loop-rank.invariant.stay.each, c.loop-rank.plans.ok.0)) in
    omega (arith, c.loop-rank-test.false))
    (c.loop-rank.invariant.filled bound planned lesser filled)
