use Rattle.std.proofs.Common.{◌≡◌, ℕ, ◌+◌, ◌-◌, ◌/◌, ◌<◌, get_or, set, subst, arith}
use Rattle.std.specs.Prelude.{bit_or}
use Rattle.cell_tables.specs.WordBits.{AreBitsSet, IsBitOfFar}
use Rattle.cell_tables.proofs.FarBits.{IsEarly, one_more_number, all_numbers, whole_between}
use Rattle.cell_tables.proofs.NumberBits.{no_bits_set}
use Rattle.cell_tables.proofs.bits.set_words.Goals as goal

pub loop-number-init : goal.loop-number-init
loop-number-init c =
    let words = c.args.words.now in
    let bits = c.args.bits.now in
    let start = c.args.start in
    let first = c.args.first in
    let past = c.args.past in
    let low : ℕ = first / 64 in
    let word = c.word_between.result in
    let same : start + (low - low) ≡ start = omega arith in
    let none = no_bits_set words (IsBitOfFar start low (IsEarly bits first past low)) (λ number place (far, is, number_is, place_is). omega (arith, is.0.from_first, is.1)) in
    let W : ℕ → Type 0 = λ at. AreBitsSet words (set words at (bit_or (get_or words at 0) word)) (IsBitOfFar start low (IsEarly bits first past (low + 1))) in
    subst W same (one_more_number words words bits start first past low word (omega arith) (omega arith) c.word_between.ensures none)

pub loop-number-preserved : goal.loop-number-preserved
loop-number-preserved c =
    let bits = c.args.bits.now in
    let first = c.args.first in
    let past = c.args.past in
    let number = c.loop-number.number in
    let low : first / 64 < number = omega arith in
    one_more_number c.args.words.now c.loop-number.words bits c.args.start first past number (get_or bits number 0) (omega arith) (omega (arith, c.loop-number.invariant.as_many)) (whole_between bits first past number low c.loop-number-test.true) c.loop-number.invariant

pub returns-then-low-high : goal.returns-then-low-high
returns-then-low-high c =
    let words = c.args.words.now in
    let now = c.loop-number.words in
    let bits = c.args.bits.now in
    let start = c.args.start in
    let first = c.args.first in
    let past = c.args.past in
    let low : ℕ = first / 64 in
    let high : ℕ = (past - 1) / 64 in
    let word = c.word_between-then-low-high.result in
    let last : c.loop-number.number ≡ high = omega arith in
    let E : ℕ → Type 0 = λ number. AreBitsSet words now (IsBitOfFar start low (IsEarly bits first past number)) in
    let whole = one_more_number words now bits start first past high word (omega arith) (omega (arith, c.loop-number.invariant.as_many)) c.word_between-then-low-high.ensures (subst E last c.loop-number.invariant) in
    all_numbers words (set now (start + (high - low)) (bit_or (get_or now (start + (high - low)) 0) word)) bits start low first past (high + 1) (omega arith) whole

pub returns-else-low-high : goal.returns-else-low-high
returns-else-low-high c =
    all_numbers c.args.words.now c.loop-number.words c.args.bits.now c.args.start (c.args.first / 64) c.args.first c.args.past c.loop-number.number (omega arith) c.loop-number.invariant
