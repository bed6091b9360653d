use Rattle.std.proofs.Common.{◌≤◌, ℕ, ap, subst, sym, ◌∙◌}
use Rattle.memo_words.specs.Layout.{key}
use Rattle.memo_words.specs.Passes.{plan_of}
use Rattle.memo_table.proofs.Places.{bits_fit}
use Rattle.memo_table.proofs.ClosedParts.{key_read, position_read, slots_read, more_others, ends_free, ends_full}
use Rattle.memo_table.proofs.closed.Closed.find.Goals as goal

pub nth_position-position-requires : goal.nth_position-position-requires
nth_position-position-requires c =
    subst (λ (n : ℕ). (1 ≤ n) × (n ≤ 22)) (sym c.self.invariant.bits)
    (bits_fit (plan_of c.self.inside.made_for.value) c.self.invariant.planned)

pub returns-then-key-eq0 : goal.returns-then-key-eq0
returns-then-key-eq0 c =
    let at = c.nth_position-position.ensures.probed ∙ position_read c.self.inside c.args.self.now c.self.view_is
    c.self.invariant c.args.code c.loop-turn.turn in
    let found = c.key-key.ensures ∙ key_read c.self.inside c.args.self.now c.self.view_is
    c.nth_position-position.result in
    ends_free c.args.self.now c.args.code c.loop-turn.turn c.requires c.settled.ensures.settled c.loop-turn.invariant
    (ap (key c.args.self.now.words) (sym at) ∙ sym found ∙ c.if-key-eq0.true)

pub loop-turn-preserved : goal.loop-turn-preserved
loop-turn-preserved c =
    more_others c.args.self.now c.args.code c.loop-turn.turn c.nth_position-position.result c.key-key.result
    c.loop-turn.invariant
    (c.nth_position-position.ensures.probed ∙ position_read c.self.inside c.args.self.now c.self.view_is
    c.self.invariant c.args.code c.loop-turn.turn)
    (c.key-key.ensures ∙ key_read c.self.inside c.args.self.now c.self.view_is c.nth_position-position.result)
    c.if-key-code.false c.if-key-eq0.false

pub returns : goal.returns
returns c =
    let slots = c.slots-slots.ensures ∙ slots_read c.self.inside c.args.self.now c.self.view_is c.self.invariant in
    ends_full c.args.self.now c.args.code c.loop-turn.turn
    (subst (λ (n : ℕ). n ≤ c.loop-turn.turn) slots c.loop-turn-test.false) c.loop-turn.invariant
    (λ position below. c.each_position_is_reached.ensures c.args.code c.args.self.now.plan.bits position below)
