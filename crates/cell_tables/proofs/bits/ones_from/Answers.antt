use Rattle.std.proofs.Common.{◌≡◌, ◌-◌, ◌*◌, ◌%◌, ◌^◌, inl, inr, ap, ◌∙◌, arith}
use Rattle.std.specs.Int.{bit_at}
use Rattle.std.proofs.lemmas.Bool.{cases_lt}
use Rattle.std.proofs.lemmas.Nat.Bits.{ones_shl, bit_at_mask_inside, bit_at_mask_below}
use Rattle.cell_tables.proofs.bits.ones_from.Goals as goal

pub returns : goal.returns
returns c = λ k below.
    let place = c.args.place in
    let shifted : (2 ^ 64 - 1) * 2 ^ place % 2 ^ 64 ≡ 2 ^ 64 - 2 ^ place = ones_shl 64 place (omega arith) in
    let bits = ap (λ word. bit_at word k) shifted in (
      λ one. elim (cases_lt k place) [
        | inl before ↦ absurd (omega (arith, bits, one, bit_at_mask_below place 64 k before))
        | inr behind ↦ behind
      ],
      λ behind. bits ∙ bit_at_mask_inside place 64 k behind below,
    )
