use Rattle.std.proofs.Common.{arith}
use Rattle.grammar_text.proofs.ShapeSteps.{rest_of, place_within, kinds_step, kinds_end, kinds_none}
use Rattle.grammar_text.proofs.Fronts.{front_none}
use Rattle.grammar_text.proofs.reader.shape.kinds.Goals as goal

pub loop-kind-preserved : goal.loop-kind-preserved
loop-kind-preserved c =
    let first = rw (rest_of, c.in-Another.is) at c.in-Some.ensures in
    record {
      within = place_within c.args.said.now c.loop-kind.at 2 c.loop-kind.invariant.within first.1;
      seen = kinds_step c.args.said.now c.loop-kind.at c.loop-kind.kinds.items c.push.new.self.items c.in-Some.kind _ first c.loop-kind.invariant.seen c.in_ok-push.ensures.items;
    }

pub offset_bounds-said-at : goal.offset_bounds-said-at
offset_bounds-said-at c = omega arith

pub slice_bounds-first_kind-start : goal.slice_bounds-first_kind-start
slice_bounds-first_kind-start c = omega arith

pub slice_bounds-first_kind-count : goal.slice_bounds-first_kind-count
slice_bounds-first_kind-count c = omega arith

pub slice_bounds-first_kind-end : goal.slice_bounds-first_kind-end
slice_bounds-first_kind-end c = omega arith

pub returns-in-End : goal.returns-in-End
returns-in-End c =
    let first = rw (rest_of, c.in-End.is) at c.in-Some.ensures in
    kinds_end c.args.said.now c.loop-kind.at c.loop-kind.kinds.items c.push.new.self.items c.in-Some.kind _ first c.loop-kind.invariant.seen c.in_ok-push.ensures.items

pub overflow_add-at : goal.overflow_add-at
overflow_add-at c =
    let first = rw (rest_of, c.in-Another.is) at c.in-Some.ensures in
    omega (arith, place_within c.args.said.now c.loop-kind.at 2 c.loop-kind.invariant.within first.1)

pub loop-kind-smaller : goal.loop-kind-smaller
loop-kind-smaller c =
    let first = rw (rest_of, c.in-Another.is) at c.in-Some.ensures in
    omega (arith, place_within c.args.said.now c.loop-kind.at 2 c.loop-kind.invariant.within first.1)

pub returns : goal.returns
returns c =
    let none = rw (rest_of, c.in_default.is) at c.first_kind.ensures in
    kinds_none c.args.said.now c.loop-kind.at c.loop-kind.kinds.items _ none c.loop-kind.invariant.seen

pub loop-kind-init : goal.loop-kind-init
loop-kind-init c = record { within = omega arith; seen = rw c.new-kinds.ensures.items (front_none _) }
