use Rattle.std.proofs.Common.{ℕ, ◌+◌, length, ap, ◌∙◌, arith}
use Rattle.std.proofs.lemmas.List.{length_push}
use Rattle.suffix_cells.proofs.Ranks.{number_pushed}
use Rattle.suffix_cells.proofs.rank_order.numbers.Goals as goal

pub loop-number-init : goal.loop-number-init
loop-number-init c = record { each = ap length c.in_ok-numbers.ensures.items; are = λ k l. absurd (omega arith) }

pub loop-number-preserved : goal.loop-number-preserved
loop-number-preserved c =
    let old = c.loop-number.numbers.items in
    let number = c.loop-number.number in
    let so_far = c.loop-number.invariant in
    record {
      each = ap length c.in_ok-push.ensures.items ∙ length_push old number ∙ ap (λ (k : ℕ). k + 1) so_far.each;
      are = number_pushed old c.push.new.self.items number c.in_ok-push.ensures.items so_far.each so_far.are;
    }

pub returns-clause-each : goal.returns-clause-each
returns-clause-each c = omega (arith, c.loop-number.invariant.each, c.loop-number-test.false)

pub returns-clause-are : goal.returns-clause-are
returns-clause-are c = λ number l. c.loop-number.invariant.are number (omega (arith, l, c.loop-number-test.false))
