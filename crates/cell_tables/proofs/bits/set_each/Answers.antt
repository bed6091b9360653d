use Rattle.std.proofs.Common.{ℕ, ◌<◌, List, length, get_or, subst, arith}
use Rattle.std.proofs.lemmas.List.Elements.{Contains-get_or}
use Rattle.std.proofs.Math.Seq.{take_all}
use Rattle.cell_tables.specs.WordBits.{AreBitsSet, IsBitOfFar}
use Rattle.cell_tables.proofs.FarBits.{IsMoved, one_more_far}
use Rattle.cell_tables.proofs.bits.set_each.Goals as goal

pub overflow_add-place : goal.overflow_add-place
overflow_add-place c =
    omega (arith, c.requires.short (get_or c.args.fars.now c.loop-far.far-index 0) (Contains-get_or c.args.fars.now c.loop-far.far-index 0 (omega arith)))

pub loop-far-preserved : goal.loop-far-preserved
loop-far-preserved c =
    let fars = c.args.fars.now in
    let i = c.loop-far.far-index in
    let inside : i < length fars = omega arith in
    let within = c.requires.within (get_or fars i 0) (Contains-get_or fars i 0 inside) in
    one_more_far c.args.words.now c.loop-far.words c.args.start c.args.low fars c.args.shift i inside (omega (arith, within, c.loop-far.invariant.as_many)) c.loop-far.invariant

pub returns : goal.returns
returns c =
    let fars = c.args.fars.now in
    let all = take_all c.loop-far.far-index fars (omega arith) in
    let B : List ℕ → Type 0 = λ xs. AreBitsSet c.args.words.now c.loop-far.words (IsBitOfFar c.args.start c.args.low (IsMoved xs c.args.shift)) in
    subst B all c.loop-far.invariant
