use Rattle.std.proofs.Common.{arith}
use Rattle.grammar_text.proofs.Fronts.{arguments_none}
use Rattle.grammar_text.proofs.ShapeSteps.{rest_of, one_within, arguments_end, arguments_next}
use Rattle.grammar_text.proofs.reader.shape.arguments.Goals as goal

pub returns-in-Some-End : goal.returns-in-Some-End
returns-in-Some-End c =
    let first = rw rest_of at c.in-Some.ensures in
    let behind = rw (c.in-Some-End.field-0-is, rest_of) at c.in-Some-End.ensures in
    let seen = arguments_end c.args.said.now c.loop-argument.at c.in-Some.used c.loop-argument.arguments.items c.push.new.self.items c.in-Some.argument _ c.loop-argument.invariant.within first c.loop-argument.invariant.seen c.in_ok-push.ensures.items behind in
    (seen, one_within _ _ _ _ behind)

pub loop-argument-preserved : goal.loop-argument-preserved
loop-argument-preserved c =
    let first = rw rest_of at c.in-Some.ensures in
    let behind = rw (c.in-Some-Another.field-0-is, rest_of) at c.in-Some-Another.ensures in
    record {
      within = one_within _ _ _ _ behind;
      seen = arguments_next c.args.said.now c.loop-argument.at c.in-Some.used c.loop-argument.arguments.items c.push.new.self.items c.in-Some.argument _ first c.loop-argument.invariant.seen c.in_ok-push.ensures.items behind;
    }

pub offset_bounds-said-at : goal.offset_bounds-said-at
offset_bounds-said-at c = omega arith

pub slice_bounds-first_argument-count : goal.slice_bounds-first_argument-count
slice_bounds-first_argument-count c = omega arith

pub slice_bounds-first_argument-start : goal.slice_bounds-first_argument-start
slice_bounds-first_argument-start c = omega arith

pub slice_bounds-first_argument-end : goal.slice_bounds-first_argument-end
slice_bounds-first_argument-end c = omega arith

pub loop-argument-init : goal.loop-argument-init
loop-argument-init c = record { within = omega arith; seen = rw c.in_ok-arguments.ensures.items (arguments_none _) }
