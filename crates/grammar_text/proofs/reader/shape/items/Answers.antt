use Rattle.std.proofs.Common.{◌∙◌, sym, arith}
use Rattle.grammar_text.proofs.ShapeSteps.{rest_of, place_within, items_step, items_none}
use Rattle.grammar_text.proofs.Fronts.{front_none, some_items}
use Rattle.grammar_text.proofs.reader.shape.items.Goals as goal

pub loop-at-preserved : goal.loop-at-preserved
loop-at-preserved c =
    let first = rw rest_of at c.in-Some.ensures in
    record {
      within = place_within c.args.said.now c.loop-at.at c.in-Some.used c.loop-at.invariant.within first.2;
      seen = items_step c.args.said.now c.loop-at.at c.in-Some.used c.loop-at.items.items c.push.new.self.items c.in-Some.item _ c.loop-at.invariant.within first c.loop-at.invariant.seen c.in_ok-push.ensures.items;
    }

pub offset_bounds-said-at : goal.offset_bounds-said-at
offset_bounds-said-at c = omega arith

pub slice_bounds-first_item-count : goal.slice_bounds-first_item-count
slice_bounds-first_item-count c = omega arith

pub slice_bounds-first_item-start : goal.slice_bounds-first_item-start
slice_bounds-first_item-start c = omega arith

pub slice_bounds-first_item-end : goal.slice_bounds-first_item-end
slice_bounds-first_item-end c = omega arith

pub overflow_add-at : goal.overflow_add-at
overflow_add-at c =
    let first = rw rest_of at c.in-Some.ensures in
    omega (arith, place_within c.args.said.now c.loop-at.at c.in-Some.used c.loop-at.invariant.within first.2)

pub loop-at-init : goal.loop-at-init
loop-at-init c = record { within = omega arith; seen = rw c.new-items.ensures.items (front_none _) }

pub returns-in_default : goal.returns-in_default
returns-in_default c =
    let none = rw (rest_of, c.in_default.is) at c.first_item.ensures in
    items_none c.args.said.now c.loop-at.at c.loop-at.items.items _ none c.loop-at.invariant.seen ∙ sym (some_items c.args.said.now (omega arith))
