use Rattle.std.proofs.Common.{◌≡◌, ℕ, length, subst, arith}
use Rattle.suffix_cells.proofs.Numbers.{AreNumbered, all_numbered, one_more_number, rule_known}
use Rattle.suffix_cells.proofs.visits.numbers_in.Goals as goal

pub index_mut-requires : goal.index_mut-requires
index_mut-requires c =
    omega (
      arith,
      rule_known c.args.problem.now c.args.order.now c.requires c.loop-number.number c.loop-number-test.true,
      c.requires.each,
      c.loop-number.invariant.each,
      c.loop-number.numbers.ok,
    )

pub loop-number-preserved : goal.loop-number-preserved
loop-number-preserved c =
    one_more_number c.args.problem.now c.args.order.now c.requires c.loop-number.numbers.items c.loop-number.number c.loop-number-test.true
    c.loop-number.invariant

pub returns : goal.returns
returns c =
    let order = c.args.order.now in
    let whole : c.loop-number.number ≡ length order = omega (arith, c.loop-number-test.false, c.loop-number.auto) in
    let N : ℕ → Type 0 = AreNumbered order c.loop-number.numbers.items in
    all_numbered c.args.problem.now order c.requires c.loop-number.numbers.items
    (c.numbers_fit_together.ensures.few_rules c.args.problem.now.grammar c.admissible.ensures.checked.well_formed) (subst N whole c.loop-number.invariant)
