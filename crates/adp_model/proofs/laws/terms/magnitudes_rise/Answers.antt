use Rattle.std.proofs.Common.{◌≡◌, ℕ, suc, ◌≤◌, List, [], ◌∷◌, length, slice_index, arith}
use Rattle.adp_model.proofs.BoundSoundness.{magnitude_grows}
use Rattle.adp_model.proofs.WideTerms.{AreUpTo}
use Rattle.adp_model.proofs.laws.terms.magnitudes_rise.Goals as goal

up_to : (numbers others : List ℕ) → length numbers ≡ length others → ((place : ℕ) → slice_index numbers place ≤ slice_index others place) → AreUpTo numbers others
up_to [] others long each = tt
up_to (number ∷ numbers) [] long each = absurd (omega (arith, long))
up_to (number ∷ numbers) (other ∷ others) long each = (each 0, up_to numbers others (omega (arith, long)) (λ place. each (suc place)))

pub returns : goal.returns
returns c term numbers others long each = magnitude_grows term numbers others (up_to numbers others long each)
