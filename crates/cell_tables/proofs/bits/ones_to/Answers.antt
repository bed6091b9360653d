use Rattle.std.proofs.Common.{◌≡◌, ℕ, ◌-◌, ◌/◌, ◌^◌, inl, inr, ap, ◌∙◌, arith}
use Rattle.std.specs.Int.{bit_at}
use Rattle.std.proofs.lemmas.Bool.{cases_lt}
use Rattle.std.proofs.lemmas.Nat.Bits.{ones_shr, bit_at_ones, bit_at_ones_above}
use Rattle.cell_tables.proofs.bits.ones_to.Goals as goal

pub returns : goal.returns
returns c = λ k below.
    let place = c.args.place in
    let count : ℕ = 64 - (63 - place) in
    let shifted : (2 ^ 64 - 1) / 2 ^ (63 - place) ≡ 2 ^ count - 1 = ones_shr 64 (63 - place) (omega arith) in
    let bits = ap (λ word. bit_at word k) shifted in (
      λ one. elim (cases_lt place k) [
        | inl behind ↦ absurd (omega (arith, bits, one, bit_at_ones_above count k (omega arith)))
        | inr before ↦ before
      ],
      λ before. bits ∙ bit_at_ones count k (omega arith),
    )
