-- One line of a certificate is the first that is false.
use Rattle.std.proofs.Common.{◌≡◌, ℕ, zero, suc, ◌<◌, ◌⊎◌, inl, inr, List, length, arith}
use Rattle.adp_model.specs.PosedProblem.{PosedProblem}
use Rattle.table_certificate.specs.CertificateLines.{LineForm, CertLine}
use Rattle.table_certificate.specs.LocalCertificate.{IsFirstFalse, IsRight, IsWhole}
use Rattle.table_certificate.proofs.BlockForms.{stands_before_end}

module _ (problems : List PosedProblem) (forms : List LineForm) where
  -- a line that is right is there
  right_inside : (place : ℕ) → IsRight problems forms place → place < length forms
  right_inside zero is = stands_before_end forms 0 CertLine is
  right_inside (suc place) is = stands_before_end forms (suc place) is.1 is.3

  not_earlier : (a b : ℕ) → IsFirstFalse problems forms a → IsFirstFalse problems forms b → a < b → ⊥
  not_earlier a b h k less = by h.wrong
    where
      by : ((a < length forms) × (IsRight problems forms a → ⊥)) ⊎ ((a ≡ length forms) × (IsWhole problems forms → ⊥)) → ⊥
      by (inl (inside, wrong)) = wrong (k.right a less)
      by (inr (behind, missing)) = let inside = right_inside a (k.right a less) in omega (arith, inside, behind)

  pub one_false_line : (a b : ℕ) → IsFirstFalse problems forms a → IsFirstFalse problems forms b → a ≡ b
  one_false_line a b h k = by (order a b)
    where
      order : (a b : ℕ) → (a < b) ⊎ ((a ≡ b) ⊎ (b < a))
      order a b = grind (arith)

      by : (a < b) ⊎ ((a ≡ b) ⊎ (b < a)) → a ≡ b
      by (inl less) = absurd (not_earlier a b h k less)
      by (inr (inl same)) = same
      by (inr (inr more)) = absurd (not_earlier b a k h more)
