use Rattle.std.proofs.Common.{◌≡◌, ◌+ℤ◌, ◌*ℤ◌, FitsSigned, w64, of_z, inl, inr, sym, ap, ◌∙◌, rules}
use Rattle.std.proofs.lemmas.Int.{to_z-of_z}
use Rattle.score_numbers.proofs.FirstSums.{bits_same, same_bits, same_number}
use Rattle.score_numbers.proofs.weighed_sums.Weights.make.Goals as goal

pub returns-then-before-mark-clause-apart : goal.returns-then-before-mark-clause-apart
returns-then-before-mark-clause-apart c = λ yes. absurd cc

pub returns-then-before-mark-clause-sum : goal.returns-then-before-mark-clause-sum
returns-then-before-mark-clause-sum c = λ apart apart'.
    absurd (elim c.then-before-mark.either [
      | inl e ↦ apart (same_number c.args.before c.args.mark c.ranges.before c.ranges.mark e)
      | inr e ↦ apart' (same_number c.args.behind c.args.mark c.ranges.behind c.ranges.mark e.1)
    ])

pub sum-requires : goal.sum-requires
sum-requires c =
    let fits_mark : FitsSigned w64 c.args.mark = c.ranges.mark in
    let fits_before : FitsSigned w64 c.args.before = c.ranges.before in
    let fits_behind : FitsSigned w64 c.args.behind = c.ranges.behind in
    let fits_weight : FitsSigned w64 c.args.weight = c.ranges.weight in
    simp to_z-of_z (record { low = c.requires.low })

pub returns-clause-apart : goal.returns-clause-apart
returns-clause-apart c = λ yes. (λ e. c.if-before-mark.false (ap (of_z w64) e), λ e. c.if-behind-mark.false (ap (of_z w64) e))

pub returns-clause-sum : goal.returns-clause-sum
returns-clause-sum c = λ apart apart'.
    let fits_mark : FitsSigned w64 c.args.mark = c.ranges.mark in
    let fits_before : FitsSigned w64 c.args.before = c.ranges.before in
    let fits_behind : FitsSigned w64 c.args.behind = c.ranges.behind in
    let fits_sum : FitsSigned w64 c.args.sum = c.ranges.sum in
    let fits_weight : FitsSigned w64 c.args.weight = c.ranges.weight in
    let fits_result : FitsSigned w64 c.sum.result = search rules in
    let scored : (c.args.before ≡ c.args.mark → ⊥) → (c.args.behind ≡ c.args.mark → ⊥) → c.sum.result ≡ (((c.args.scales.before *ℤ c.args.before) +ℤ (c.args.self.factor *ℤ c.args.weight)) +ℤ (c.args.scales.behind *ℤ c.args.behind)) = simp to_z-of_z at c.sum.ensures.scored in
    let is = scored apart apart' in
    (λ same. sym (same_bits c.sum.result c.args.sum fits_result fits_sum same) ∙ is, λ e. bits_same c.sum.result c.args.sum (is ∙ sym e))
