use Rattle.std.proofs.Common.{◌≡◌, ◌+◌, ◌-◌, sym, ap₂, subst, arith}
use Rattle.grammar_check.specs.Plans.{lows}
use Rattle.grammar_check.specs.Alternatives.{AreSpread, AreRead}
use Rattle.grammar_check.specs.WideAlternatives.{AreWideSpread}
use Rattle.grammar_check.proofs.alternative.Alternative.extend.Goals as goal

pub returns-in-Linear-clause-value : goal.returns-in-Linear-clause-value
returns-in-Linear-clause-value c = rw c.in-Linear.is (λ bound reads spreads. c.extend.ensures.value bound reads spreads)

pub returns-in-Linear-clause-spread : goal.returns-in-Linear-clause-spread
returns-in-Linear-clause-spread c = rw c.in-Linear.is (λ bound reads spreads.
    subst (λ n. AreSpread bound c.extend.new.self (c.args.len + 1 - n)) (sym (ap₂ (λ f ps. f + lows ps) c.extend.ensures.fixed c.extend.ensures.parts))
    (c.extend.ensures.spread bound reads spreads))

pub returns-in-Wide-clause-spread : goal.returns-in-Wide-clause-spread
returns-in-Wide-clause-spread c = rw c.in-Wide.is (λ bound reads spreads.
    let whole : c.args.len - 0 ≡ c.args.len = omega arith in
    subst (λ ps. AreWideSpread bound c.extend-in-Wide.new.self (c.args.len + 1 - lows ps)) (sym c.extend-in-Wide.ensures.parts)
    (c.extend-in-Wide.ensures.spread bound (subst (AreRead bound c.args.bounds.now c.in-Wide.alternative.parts.items) whole (reads (omega arith))) spreads))
