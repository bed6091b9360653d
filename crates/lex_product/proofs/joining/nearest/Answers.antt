use Rattle.std.proofs.Common.{◌≡◌, ℕ, ◌*◌, ◌^◌, ◌<◌, ℤ, pos, ◌+ℤ◌, ◌*ℤ◌, nat_abs, FitsSigned, w64, to_z, of_z, ap, ◌∙◌, arith}
use mir.Syntax.{w128}
use Rattle.std.proofs.lemmas.Int.{ints, to_z-of_z, fits_signed_from_abs}
use Rattle.std.specs.Int.{int_div_euclid}
use Rattle.lex_product.proofs.Joined.{apart, doubled}
use Rattle.lex_product.proofs.joining.nearest.Goals as goal

fits_wide : (z : ℤ) → nat_abs z < 2 ^ 127 → FitsSigned w128 z
fits_wide z low = fits_signed_from_abs w128 z low

-- what the code divides, and by what
inner : (s m : ℤ) → nat_abs s < 2 ^ 64 → nat_abs m < 2 ^ 64
    → to_z w128 (of_z w128 (to_z w128 (of_z w128 (pos 2 *ℤ to_z w128 (of_z w128 s))) +ℤ to_z w128 (of_z w128 m))) ≡ (pos 2 *ℤ s) +ℤ m
inner s m low low' =
    let s_fits : FitsSigned w128 s = fits_wide s (omega arith) in
    let m_fits : FitsSigned w128 m = fits_wide m (omega arith) in
    let twice_fits : FitsSigned w128 (pos 2 *ℤ s) = fits_wide (pos 2 *ℤ s) (omega (arith, ints, doubled s)) in
    let sum_fits : FitsSigned w128 ((pos 2 *ℤ s) +ℤ m) = fits_wide ((pos 2 *ℤ s) +ℤ m) (omega (arith, ints, doubled s)) in
    simp to_z-of_z

-- the quotient that the code computes
divided : (s : ℤ) (m : ℕ) (f w r : ℤ) → f ≡ s → w ≡ pos m → nat_abs s < 2 ^ 64 → m < 2 ^ 64
    → r ≡ int_div_euclid (to_z w128 (of_z w128 (to_z w128 (of_z w128 (pos 2 *ℤ to_z w128 (of_z w128 f))) +ℤ to_z w128 (of_z w128 w)))) (to_z w128 (of_z w128 (pos 2 *ℤ to_z w128 (of_z w128 w))))
    → r ≡ int_div_euclid ((pos 2 *ℤ s) +ℤ pos m) (pos (2 * m))
divided s m f w r f_is w_is low low' is =
    let up : to_z w128 (of_z w128 (to_z w128 (of_z w128 (pos 2 *ℤ to_z w128 (of_z w128 f))) +ℤ to_z w128 (of_z w128 w))) ≡ (pos 2 *ℤ s) +ℤ pos m =
    rw (f_is, w_is) (inner s (pos m) low low') in
    let down : to_z w128 (of_z w128 (pos 2 *ℤ to_z w128 (of_z w128 w))) ≡ pos (2 * m) =
    rw w_is (doubled_whole m low') in
    is ∙ ap (λ z. int_div_euclid z (to_z w128 (of_z w128 (pos 2 *ℤ to_z w128 (of_z w128 w))))) up ∙ ap (int_div_euclid ((pos 2 *ℤ s) +ℤ pos m)) down
  where
    doubled_whole : (n : ℕ) → n < 2 ^ 64 → to_z w128 (of_z w128 (pos 2 *ℤ to_z w128 (of_z w128 (pos n)))) ≡ pos (2 * n)
    doubled_whole n small =
        let n_fits : FitsSigned w128 (pos n) = fits_wide (pos n) (omega arith) in
        let twice_fits : FitsSigned w128 (pos (2 * n)) = fits_wide (pos (2 * n)) (omega arith) in
        simp to_z-of_z

pub returns : goal.returns
returns c same pair is =
    let parts = apart c.args.multiplier same c.args.score pair is in
    let range : FitsSigned w64 c.args.score = c.ranges.score in
    let score : c.from.result ≡ c.args.score = c.from.ensures ∙ to_z-of_z w64 c.args.score range in
    let result_fits : FitsSigned w128 c.div_euclid.result = record { sfits = c.div_euclid.type_inv } in
    to_z-of_z w128 c.div_euclid.result result_fits
    ∙ divided c.args.score c.args.multiplier c.from.result c.from-whole.result c.div_euclid.result score c.from-whole.ensures (omega (arith, ints, range.sfits))
    (omega (arith, c.ranges.multiplier.fits)) c.div_euclid.ensures
    ∙ parts.nearest
