use Rattle.algebra_terms.specs.WideSteps.{steps_seen}
use Rattle.algebra_terms.proofs.WideTrees.{not_read, is_read}
use Rattle.algebra_terms.proofs.wide_reading.read_wide.Goals as goal

pub returns-in_default : goal.returns-in_default
returns-in_default c =
    let found = rw (c.deref.ensures.value, c.in_default.is) at c.in_ok-steps.ensures in
    not_read c.args.bytes.now c.args.vars.now c.in_ok-tokens.tokens.items c.in_ok-tokens.ensures.tokens found

pub returns : goal.returns
returns c =
    let found = rw (c.deref.ensures.value, c.in-Some.is) at c.in_ok-steps.ensures in
    let made = rw c.deref-2.ensures.value at c.wide_of_steps.ensures in
    rw (is_read c.args.bytes.now c.args.vars.now c.in_ok-tokens.tokens.items (steps_seen c.in-Some.steps.items) c.in_ok-tokens.ensures.tokens found) made
