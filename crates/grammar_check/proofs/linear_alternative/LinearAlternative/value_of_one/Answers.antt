use Rattle.std.proofs.Common.{◌≡◌, ◌+◌, ◌-◌, List, [], ◌∷◌, length, slice_index_or, sym, ap, subst, ◌∙◌, arith}
use Rattle.adp_model.specs.LimitFaults.{told}
use Rattle.grammar_check.specs.declared.part.Part.{Part}
use Rattle.grammar_check.specs.Plans.{IsReadable, ReadsRight, lows, rooms, spread, part_at}
use Rattle.grammar_check.proofs.Sweeps.{low_is}
use Rattle.grammar_check.proofs.Kept.{kept_too_short, kept_too_long, kept_of_ways}
use Rattle.grammar_check.proofs.linear_alternative.LinearAlternative.value_of_one.Goals as goal

one_is : (parts : List Part) (part : Part) → length parts ≡ 1 → part ≡ slice_index_or parts 0 part → parts ≡ part ∷ []
one_is [] part one e = absurd (omega arith)
one_is (first ∷ []) part one e = ap (λ p. p ∷ []) (sym e)
one_is (first ∷ second ∷ rest) part one e = absurd (omega arith)

pub last_spread-requires-clause-readable : goal.last_spread-requires-clause-readable
last_spread-requires-clause-readable c =
    let parts = c.args.self.now.parts.items in
    let part = c.index-part.result.now in
    subst (λ (p : Part). IsReadable c.args.bounds.now.rows p.worth) (sym c.index-part.ensures) (c.requires.readable 0 part (omega (arith, c.args.self.now.parts.ok.0, c.requires.one)))

pub last_spread-requires-clause-within : goal.last_spread-requires-clause-within
last_spread-requires-clause-within c =
    let self = c.args.self.now in
    let parts = self.parts.items in
    let part = c.index-part.result.now in
    let one = one_is parts part (omega (arith, self.parts.ok.0, c.requires.one)) c.index-part.ensures in
    let low = low_is self.fixed parts self.low c.args.len self.least c.if-len-self.false c.requires.short in
    let lows_are : lows parts ≡ part.low + 0 = ap lows one in
    omega (arith, c.requires.within)

pub returns-then-len-self : goal.returns-then-len-self
returns-then-len-self c = λ bound reads.
    let self = c.args.self.now in
    sym (ap told (kept_too_short bound self.constant self.fixed self.parts.items c.args.len (omega (arith, self.least, c.if-len-self.true, c.requires.short))))

pub returns-then-spare-part : goal.returns-then-spare-part
returns-then-spare-part c = λ bound reads.
    let self = c.args.self.now in
    let parts = self.parts.items in
    let part = c.index-part.result.now in
    let one = one_is parts part (omega (arith, self.parts.ok.0, c.requires.one)) c.index-part.ensures in
    let low = low_is self.fixed parts self.low c.args.len self.least c.if-len-self.false c.requires.short in
    let rooms_are : rooms parts ≡ part.room + 0 = ap rooms one in
    sym (ap told (kept_too_long bound self.constant self.fixed parts c.args.len (omega arith) (omega (arith, c.if-spare-part.true))))

pub returns : goal.returns
returns c = λ bound reads.
    let self = c.args.self.now in
    let parts = self.parts.items in
    let part = c.index-part.result.now in
    let spare = c.args.len - self.low in
    let one = one_is parts part (omega (arith, self.parts.ok.0, c.requires.one)) c.index-part.ensures in
    let low = low_is self.fixed parts self.low c.args.len self.least c.if-len-self.false c.requires.short in
    let rooms_are : rooms parts ≡ part.room + 0 = ap rooms one in
    let lows_are : lows parts ≡ part.low + 0 = ap lows one in
    let part_is : part_at parts 0 ≡ part = ap (λ ps. part_at ps 0) one in
    let part_low : (part_at parts 0).low ≡ part.low = ap (λ p. p.low) part_is in
    let right : ReadsRight bound c.args.bounds.now part.worth (part.low + spare) =
    subst (λ (p : Part). ReadsRight bound c.args.bounds.now p.worth (part.low + spare)) part_is (reads (omega arith) 0 (part.low + spare) (omega (arith, self.parts.ok.0, c.requires.one)) (omega arith)) in
    let last = c.last_spread.ensures bound right in
    let value = kept_of_ways bound self.constant self.fixed parts c.args.len (omega arith) (omega (arith, c.if-spare-part.false)) in
    let left : c.args.len - (self.fixed + lows parts) ≡ spare = omega arith in
    let same = ap (spread bound parts) left ∙ ap (λ ps. spread bound ps spare) one in
    omega (arith, c.cut_sum.ensures)
