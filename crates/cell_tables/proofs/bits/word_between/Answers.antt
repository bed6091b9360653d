use Rattle.std.proofs.Common.{◌≡◌, ◌↔◌, ℕ, ◌+◌, ◌*◌, ◌<◌, ◌≤◌, get_or, refl, sym, ap, ◌∙◌}
use Rattle.std.specs.Int.{bit_at}
use Rattle.std.specs.Prelude.{bit_and}
use Rattle.cell_tables.proofs.NumberBits.{and_bit}
use Rattle.cell_tables.proofs.FarBits.{masked, from_first_masked, from_first_whole, before_past_masked, before_past_whole}
use Rattle.cell_tables.proofs.bits.word_between.Goals as goal
use Rattle.cell_tables.proofs.bits.word_between.Goals.{then-number-first, else-number-first}

-- a bit where a mask was laid over the number, and where none was
under_mask : (word whole mask k : ℕ) (Here Within : Type 0) → word ≡ bit_and whole mask → (bit_at mask k ≡ 1) ↔ Here → Here ↔ Within → (bit_at word k ≡ 1) ↔ ((bit_at whole k ≡ 1) × Within)
under_mask word whole mask k Here Within is told same =
    let bits = ap (λ w. bit_at w k) is in
    let both = and_bit whole mask k in (
      λ one. let all = both.0 (sym bits ∙ one) in (all.0, same.0 (told.0 all.1)),
      λ all. bits ∙ both.1 (all.0, told.1 (same.1 all.1)),
    )

unmasked : (word whole k : ℕ) (Within : Type 0) → word ≡ whole → Within → (bit_at word k ≡ 1) ↔ ((bit_at whole k ≡ 1) × Within)
unmasked word whole k Within is within =
    let bits = ap (λ w. bit_at w k) is in
    (λ one. (sym bits ∙ one, within), λ all. bits ∙ all.0)

twice : (Bit Front Whole First Past : Type 0) → Bit ↔ (Front × Past) → Front ↔ (Whole × First) → Bit ↔ (Whole × First × Past)
twice Bit Front Whole First Past outer inner = (
  λ bit. let both = outer.0 bit in let all = inner.0 both.0 in (all.0, all.1, both.1),
  λ all. outer.1 (inner.1 (all.0, all.1), all.2),
)

pub returns-then-number-past : goal.returns-then-number-past
returns-then-number-past c = λ k below.
    let bits = c.args.bits.now in
    let number = c.args.number in
    let first = c.args.first in
    let past = c.args.past in
    let word = c.if-number-first.word in
    let whole : ℕ = get_or bits number 0 in
    let front : (bit_at word k ≡ 1) ↔ ((bit_at whole k ≡ 1) × (first ≤ 64 * number + k)) = elim c.if-number-first.branch [
      | then-number-first w ↦ under_mask word whole w.ones_from-word.result k _ _ w.word-is (w.ones_from-word.ensures k below) (from_first_masked bits first past number word k below c.requires.some c.requires.low c.requires.high w.if-number-first.true)
      | else-number-first w ↦ unmasked word whole k _ w.word-is (from_first_whole bits first past number word k below c.requires.some c.requires.low c.requires.high w.if-number-first.false)
    ] in
    let last : ℕ = bit_and word c.ones_to-word.result in
    let back = under_mask last word c.ones_to-word.result k _ (64 * number + k < past) refl (c.ones_to-word.ensures k below) (before_past_masked bits first past number word k below c.requires.some c.requires.low c.requires.high c.if-number-past.true) in
    masked bits first past number last k below c.requires.some c.requires.low c.requires.high (twice _ _ _ _ _ back front)

pub returns-else-number-past : goal.returns-else-number-past
returns-else-number-past c = λ k below.
    let bits = c.args.bits.now in
    let number = c.args.number in
    let first = c.args.first in
    let past = c.args.past in
    let word = c.if-number-first.word in
    let whole : ℕ = get_or bits number 0 in
    let front : (bit_at word k ≡ 1) ↔ ((bit_at whole k ≡ 1) × (first ≤ 64 * number + k)) = elim c.if-number-first.branch [
      | then-number-first w ↦ under_mask word whole w.ones_from-word.result k _ _ w.word-is (w.ones_from-word.ensures k below) (from_first_masked bits first past number word k below c.requires.some c.requires.low c.requires.high w.if-number-first.true)
      | else-number-first w ↦ unmasked word whole k _ w.word-is (from_first_whole bits first past number word k below c.requires.some c.requires.low c.requires.high w.if-number-first.false)
    ] in
    let back : (bit_at word k ≡ 1) ↔ ((bit_at word k ≡ 1) × (64 * number + k < past)) = unmasked word word k (64 * number + k < past) refl (before_past_whole bits first past number word k below c.requires.some c.requires.low c.requires.high c.if-number-past.false) in
    masked bits first past number word k below c.requires.some c.requires.low c.requires.high (twice _ _ _ _ _ back front)
