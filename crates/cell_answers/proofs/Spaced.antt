-- Numbers of a width and the mark.
use Rattle.std.proofs.Common.{◌≡◌, ℕ, zero, suc, ◌<◌, ◌≤◌, ℤ, nat_abs, Some, List, [], ◌∷◌, length, slice_get, ap, arith}
use Rattle.std.proofs.lemmas.Int.{ints}
use Rattle.score_numbers.specs.Packing.{Width, short, medium, long}
use Rattle.score_numbers.specs.Spaced.{IsSpaced}

pub short_spaced : IsSpaced short
short_spaced = record { apart = omega arith; low = omega (arith, ints); negative = omega (arith, ints) }

pub medium_spaced : IsSpaced medium
medium_spaced = record { apart = omega arith; low = omega (arith, ints); negative = omega (arith, ints) }

pub long_spaced : IsSpaced long
long_spaced = record { apart = omega arith; low = omega (arith, ints); negative = omega (arith, ints) }

module _ (width : Width) (spaced : IsSpaced width) where
  pub score_apart : (a : ℤ) → nat_abs a ≤ width.limit → a ≡ width.mark → ⊥
  score_apart a low e = let same = ap nat_abs e in omega (arith, spaced.apart)

pub some_position : {A : Type 0} (items : List A) (position : ℕ) (item : A) → slice_get items position ≡ Some item → position < length items
some_position [] position item e = absurd cc
some_position (x ∷ items) zero item e = omega arith
some_position (x ∷ items) (suc position) item e = omega (arith, some_position items position item e)
