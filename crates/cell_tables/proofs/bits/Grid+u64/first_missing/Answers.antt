use Rattle.std.proofs.Common.{◌≡◌, ap, ◌∙◌, refl, arith}
use Rattle.std.specs.Prelude.{unwrap_or}
use Rattle.cell_tables.proofs.MissingBits.{first_missing, set_up_to_here}
use Rattle.cell_tables.proofs.SetSpans.{word_at}
use Rattle.cell_tables.proofs.bits.Grid+u64.first_missing.Goals as goal

pub loop-number-init : goal.loop-number-init
loop-number-init c = λ far of early. absurd (omega (arith, of.from_first, early))

pub loop-number-preserved : goal.loop-number-preserved
loop-number-preserved c =
    let spans = c.args.self.now in
    let rule = c.args.rule in
    let near = c.args.near in
    let number = c.loop-number.number in
    let set = c.unwrap_or-set.result in
    let word : set ≡ word_at spans rule near number =
    c.unwrap_or-set.ensures ∙ ap (λ value. unwrap_or value 0) c.get.ensures in
    set_up_to_here spans rule near c.args.first c.args.past c.args.bits.now number c.word_between.result set word
    (omega arith) c.word_between.ensures c.loop-number.invariant (c.in_default.ensures.none refl)

pub returns-in-Some : goal.returns-in-Some
returns-in-Some c =
    let spans = c.args.self.now in
    let rule = c.args.rule in
    let near = c.args.near in
    let number = c.loop-number.number in
    let set = c.unwrap_or-set.result in
    let word : set ≡ word_at spans rule near number =
    c.unwrap_or-set.ensures ∙ ap (λ value. unwrap_or value 0) c.get.ensures in
    first_missing spans rule near c.args.first c.args.past c.args.bits.now number c.word_between.result set word
    (omega arith) c.word_between.ensures c.loop-number.invariant c.in-Some.far c.in-Some.ensures.set
    c.in-Some.ensures.first

pub returns : goal.returns
returns c = λ far of. c.loop-number.invariant far of (omega (arith, of.before, c.loop-number-test.false))
