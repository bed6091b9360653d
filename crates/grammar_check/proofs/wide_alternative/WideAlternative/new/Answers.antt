use Rattle.std.proofs.Common.{◌+◌, ◌-◌, ◌^◌, min, ap, ap₂, ◌∙◌, arith}
use Rattle.grammar_check.specs.Plans.{lows}
use Rattle.grammar_check.specs.TermSpreads.{idle_room, term_room}
use Rattle.grammar_check.specs.WideRows.{rows_of}
use Rattle.grammar_check.proofs.TermWays.{times_rise}
use Rattle.grammar_check.proofs.WideSteps.{rows_leaves}
use Rattle.grammar_check.proofs.wide_alternative.WideAlternative.new.Goals as goal

pub rows_of-requires : goal.rows_of-requires
rows_of-requires c = rw c.root-root.ensures (omega (arith, rows_leaves c.args.term.now, c.requires.few))

pub overflow_add-rows_of : goal.overflow_add-rows_of
overflow_add-rows_of c = omega (arith, rows_leaves c.args.term.now, c.requires.few, c.rows_of.ensures, ap rows_of c.root-root.ensures)

pub new-requires : goal.new-requires
new-requires c =
    let few = rows_leaves c.args.term.now in
    let most = times_rise (c.rows_of.result + 1) 63 (c.args.most + 1) 4001 (omega (arith, few, c.requires.few, c.rows_of.ensures, ap rows_of c.root-root.ensures)) (omega (arith, c.requires.short)) in
    omega (arith, most)

pub invariant_of-result : goal.invariant_of-result
invariant_of-result c = record {
  least = c.lows.ensures ∙ ap (λ ps. min (lows ps) (2 ^ 64 - 1)) c.deref.ensures.value;
  room_is = c.term_room.ensures ∙ ap₂ (λ ps term. min (term_room ps term) (2 ^ 64 - 1)) c.deref-2.ensures.value c.root-root.ensures;
  idle_is = c.idle_room.ensures ∙ ap₂ (λ ps term. min (idle_room term 0 ps) (2 ^ 64 - 1)) c.deref-3.ensures.value c.root-root.ensures;
  rows_each = omega (arith, c.in_ok-rows.ensures.rows, c.rows_of.ensures, ap rows_of c.root-root.ensures);
  few = omega (arith, c.in_ok-rows.ensures.rows, c.rows_of.ensures, ap rows_of c.root-root.ensures, rows_leaves c.args.term.now, c.requires.few);
}
