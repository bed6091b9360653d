use Rattle.std.proofs.Common.{◌≡◌, ◌+◌, ◌-◌, sym, ap, ◌∙◌, arith}
use Rattle.adp_model.specs.LimitFaults.{told}
use Rattle.grammar_check.specs.Plans.{lows, spread}
use Rattle.grammar_check.specs.LetterSteps.{taken}
use Rattle.grammar_check.proofs.Sweeps.{low_is}
use Rattle.grammar_check.proofs.Kept.{kept_too_short, kept_too_long, kept_of_ways}
use Rattle.grammar_check.proofs.LetterSteps.{spread_of_letters}
use Rattle.grammar_check.proofs.letter_alternative.LetterAlternative.value.Goals as goal

pub returns-then-len-self : goal.returns-then-len-self
returns-then-len-self c = λ bound.
    let self = c.args.self.now in
    sym (ap told (kept_too_short bound self.constant self.fixed self.parts.items c.args.len (omega (arith, self.low_is, c.if-len-self.true, c.requires))))

pub returns-then-spare-self : goal.returns-then-spare-self
returns-then-spare-self c = λ bound.
    let self = c.args.self.now in
    let low = low_is self.fixed self.parts.items self.low c.args.len self.low_is c.if-len-self.false c.requires in
    sym (ap told (kept_too_long bound self.constant self.fixed self.parts.items c.args.len (omega arith) (omega (arith, self.room_is, c.if-spare-self.true, c.requires))))

pub returns : goal.returns
returns c = λ bound.
    let self = c.args.self.now in
    let parts = self.parts.items in
    let spare = c.args.len - self.low in
    let low = low_is self.fixed parts self.low c.args.len self.low_is c.if-len-self.false c.requires in
    let room = self.room_is in
    let value = kept_of_ways bound self.constant self.fixed parts c.args.len (omega arith) (omega (arith, c.if-spare-self.false)) in
    let left : c.args.len - (self.fixed + lows parts) ≡ spare = omega arith in
    let same = ap (spread bound parts) left in
    let adds = spread_of_letters bound parts spare self.letters (omega (arith, c.if-spare-self.false)) in
    let steps = c.taken.ensures ∙ ap (λ ss. told (taken ss spare)) (c.deref.ensures.value ∙ self.steps_are) in
    let least = self.least_is in
    omega (arith, c.cut_sum.ensures, c.cut_sum-2.ensures)
