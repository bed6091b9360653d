use Rattle.std.proofs.Common.{◌+◌, arith}
use Rattle.std.proofs.Common.{map}
use Rattle.grammar_text.specs.Seen.{alternative_seen}
use Rattle.grammar_text.proofs.Fronts.{front_none}
use Rattle.grammar_text.proofs.ShapeSteps.{rest_of, place_within, alternatives_end, alternatives_step, alternatives_unended, alternatives_without, same_size}
use Rattle.grammar_text.proofs.reader.shape.alternatives.Goals as goal

pub returns-in_default-2 : goal.returns-in_default-2
returns-in_default-2 c =
    let first = rw rest_of at c.in-Some.ensures in
    let none = rw (rest_of, c.in_default-2.is) at c.in_ok-arguments.ensures in
    alternatives_without c.args.said.now c.loop-sign.at c.in-Some.sign (map alternative_seen c.loop-sign.alternatives.items) _ first none c.loop-sign.invariant.seen

pub returns-in-End : goal.returns-in-End
returns-in-End c =
    let first = rw rest_of at c.in-Some.ensures in
    let those = rw (rest_of, c.in-Some-2.is) at c.in_ok-arguments.ensures in
    let ends = rw (rest_of, c.in-End.is) at c.in-Some-behind_alternative.ensures in
    alternatives_end c.args.said.now c.loop-sign.at c.in-Some-2.used c.in-Some-behind_alternative.used c.in-Some.sign c.in-Some-2.arguments.items c.in-Some-behind_alternative.size c.loop-sign.alternatives.items c.push.new.self.items _ _ first those ends (same_size _ _ _ _ c.in_ok-size.ensures) c.loop-sign.invariant.seen c.in_ok-push.ensures.items

pub loop-sign-preserved : goal.loop-sign-preserved
loop-sign-preserved c =
    let said = c.args.said.now in
    let first = rw rest_of at c.in-Some.ensures in
    let those = rw (rest_of, c.in-Some-2.is) at c.in_ok-arguments.ensures in
    let ends = rw (rest_of, c.in-Another.is) at c.in-Some-behind_alternative.ensures in
    let opened = place_within said c.loop-sign.at 2 c.loop-sign.invariant.within first.1 in
    let closed = place_within said (c.loop-sign.at + 2) c.in-Some-2.used opened those.1 in
    record {
      within = place_within said (c.loop-sign.at + 2 + c.in-Some-2.used) c.in-Some-behind_alternative.used closed ends.1;
      seen = alternatives_step said c.loop-sign.at c.in-Some-2.used c.in-Some-behind_alternative.used c.in-Some.sign c.in-Some-2.arguments.items c.in-Some-behind_alternative.size c.loop-sign.alternatives.items c.push.new.self.items _ _ first those ends (same_size _ _ _ _ c.in_ok-size.ensures) c.loop-sign.invariant.seen c.in_ok-push.ensures.items;
    }

pub returns-in_default-behind_alternative : goal.returns-in_default-behind_alternative
returns-in_default-behind_alternative c =
    let first = rw rest_of at c.in-Some.ensures in
    let those = rw (rest_of, c.in-Some-2.is) at c.in_ok-arguments.ensures in
    let none = rw (rest_of, c.in_default-behind_alternative.is) at c.behind_alternative.ensures in
    alternatives_unended c.args.said.now c.loop-sign.at c.in-Some-2.used c.in-Some.sign c.in-Some-2.arguments.items (map alternative_seen c.loop-sign.alternatives.items) _ first those c.loop-sign.invariant.seen none

pub offset_bounds-said-at : goal.offset_bounds-said-at
offset_bounds-said-at c = omega arith

pub slice_bounds-first_sign-count : goal.slice_bounds-first_sign-count
slice_bounds-first_sign-count c = omega arith

pub slice_bounds-first_sign-start : goal.slice_bounds-first_sign-start
slice_bounds-first_sign-start c = omega arith

pub slice_bounds-first_sign-end : goal.slice_bounds-first_sign-end
slice_bounds-first_sign-end c = omega arith

pub loop-sign-init : goal.loop-sign-init
loop-sign-init c = record { within = omega arith; seen = rw c.in_ok-alternatives.ensures.items (front_none _) }
