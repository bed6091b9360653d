-- Sums of products that fit 64 bits, as their bits are read.
use Rattle.std.proofs.Common.{◌≡◌, ℤ, ◌+ℤ◌, ◌*ℤ◌, FitsSigned, w64, to_z, of_z, sym, subst, ◌∙◌, ap}
use Rattle.std.proofs.lemmas.Int.{to_z-of_z}

abbrev pub Read : ℤ → ℤ
Read number = to_z w64 (of_z w64 number)

module _ (a x : ℤ) (fits_a : FitsSigned w64 a) (fits_x : FitsSigned w64 x) (fits_product : FitsSigned w64 (a *ℤ x)) where
  parts_read : (Read a *ℤ Read x) ≡ (a *ℤ x)
  parts_read = λ i. to_z-of_z w64 a fits_a i *ℤ to_z-of_z w64 x fits_x i

  pub product_fits : FitsSigned w64 (Read a *ℤ Read x)
  product_fits = subst (FitsSigned w64) (sym parts_read) fits_product

  pub product_read : Read (Read a *ℤ Read x) ≡ (a *ℤ x)
  product_read = ap Read parts_read ∙ to_z-of_z w64 (a *ℤ x) fits_product

  module _ (b : ℤ) (fits_b : FitsSigned w64 b) (fits_sum : FitsSigned w64 ((a *ℤ x) +ℤ b)) where
    terms_read : (Read (Read a *ℤ Read x) +ℤ Read b) ≡ ((a *ℤ x) +ℤ b)
    terms_read = λ i. product_read i +ℤ to_z-of_z w64 b fits_b i

    pub sum_fits : FitsSigned w64 (Read (Read a *ℤ Read x) +ℤ Read b)
    sum_fits = subst (FitsSigned w64) (sym terms_read) fits_sum

    pub sum_read : Read (Read (Read a *ℤ Read x) +ℤ Read b) ≡ ((a *ℤ x) +ℤ b)
    sum_read = ap Read terms_read ∙ to_z-of_z w64 ((a *ℤ x) +ℤ b) fits_sum
