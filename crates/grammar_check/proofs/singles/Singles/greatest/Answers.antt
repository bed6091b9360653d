use Rattle.std.proofs.Common.{◌-◌, ◌<◌, inl, inr, sym, ap, subst, ◌∙◌, arith}
use Rattle.std.specs.List.{All}
use Rattle.adp_model.specs.LimitFaults.{told}
use Rattle.grammar_check.specs.declared.singles.Single.{Single}
use Rattle.grammar_check.specs.SingleRules.{AreSinglesRead, single_number}
use Rattle.grammar_check.specs.TokenNumbers.{greatest_of}
use Rattle.grammar_check.proofs.SinglePlans.{singles_value, singles_none, singles_readable, singles_read}
use Rattle.grammar_check.proofs.singles.Singles.greatest.Goals as goal

pub greatest_at-requires-clause-readable : goal.greatest_at-requires-clause-readable
greatest_at-requires-clause-readable c =
    let self = c.args.self.now in
    subst (λ each. All (λ (single : Single). single.rule < c.args.bounds.now.rows) each) (sym c.as_slice.ensures.value)
    (singles_readable c.args.bounds.now.rows self.shape self.each.items c.requires.readable)

pub returns : goal.returns
returns c = λ bound reads.
    let self = c.args.self.now in
    let shape = self.shape in
    let len = c.args.len in
    let read = singles_read bound c.args.bounds.now shape self.each.items len (omega arith) reads in
    c.greatest_at.ensures bound (subst (AreSinglesRead bound c.args.bounds.now (len - shape.fixed)) (sym c.as_slice.ensures.value) read)
    ∙ ap (λ each. told (greatest_of (single_number bound (len - shape.fixed)) each)) c.as_slice.ensures.value
    ∙ ap told (sym (singles_value bound shape self.each.items len (omega arith) (omega arith) (omega arith)))

pub returns-then-len-shape : goal.returns-then-len-shape
returns-then-len-shape c = λ bound reads.
    let self = c.args.self.now in
    sym (ap told (singles_none bound self.shape self.each.items c.args.len (inl (omega (arith, c.if-len-shape.true)))))

pub returns-then-own-shape : goal.returns-then-own-shape
returns-then-own-shape c = λ bound reads.
    let self = c.args.self.now in
    sym (ap told (singles_none bound self.shape self.each.items c.args.len (inl (omega (arith, c.if-own-shape.true)))))

pub returns-then-own-shape-2 : goal.returns-then-own-shape-2
returns-then-own-shape-2 c = λ bound reads.
    let self = c.args.self.now in
    sym (ap told (singles_none bound self.shape self.each.items c.args.len (inr (omega arith, omega (arith, c.if-own-shape-2.true)))))
