use Rattle.std.proofs.Common.{arith, refl}
use Rattle.std.proofs.lemmas.List.{length_push}
use Rattle.grammar_text.proofs.Fronts.{variables_none}
use Rattle.grammar_text.proofs.ShapeSteps.{rest_of, place_within, variables_step, variables_end, variables_unended}
use Rattle.grammar_text.proofs.reader.shape.variables.Goals as goal

pub returns-in-End-clause-variables : goal.returns-in-End-clause-variables
returns-in-End-clause-variables c =
    let first = rw (rest_of, c.in-End.is) at c.in-Some.ensures in
    variables_end c.args.said.now c.loop-variable.at c.loop-variable.variables.items c.push.new.self.items c.in-Some.variable _ first c.loop-variable.invariant.seen c.in_ok-push.ensures.items
    (rw (c.in_ok-push.ensures.items, length_push) (omega arith))

pub loop-variable-preserved : goal.loop-variable-preserved
loop-variable-preserved c =
    let first = rw (rest_of, c.in-Another.is) at c.in-Some.ensures in
    record {
      within = place_within c.args.said.now c.loop-variable.at 2 c.loop-variable.invariant.within first.1;
      seen = variables_step c.args.said.now c.loop-variable.at c.loop-variable.variables.items c.push.new.self.items c.in-Some.variable _ first c.loop-variable.invariant.seen c.in_ok-push.ensures.items;
      place = rw (c.in_ok-push.ensures.items, length_push) (omega arith);
    }

pub offset_bounds-said-at : goal.offset_bounds-said-at
offset_bounds-said-at c = omega arith

pub slice_bounds-first_variable-count : goal.slice_bounds-first_variable-count
slice_bounds-first_variable-count c = omega arith

pub slice_bounds-first_variable-start : goal.slice_bounds-first_variable-start
slice_bounds-first_variable-start c = omega arith

pub slice_bounds-first_variable-end : goal.slice_bounds-first_variable-end
slice_bounds-first_variable-end c = omega arith

pub overflow_add-at : goal.overflow_add-at
overflow_add-at c =
    let first = rw (rest_of, c.in-Another.is) at c.in-Some.ensures in
    omega (arith, place_within c.args.said.now c.loop-variable.at 2 c.loop-variable.invariant.within first.1)

pub loop-variable-init : goal.loop-variable-init
loop-variable-init c = record { within = omega arith; seen = rw c.new-variables.ensures.items (variables_none _); place = rw c.new-variables.ensures.items refl }

pub returns-clause-variables : goal.returns-clause-variables
returns-clause-variables c =
    let none = rw (rest_of, c.in_default.is) at c.first_variable.ensures in
    variables_unended c.args.said.now c.loop-variable.at c.loop-variable.variables.items _ none c.loop-variable.invariant.seen
