-- Lists of one element, and places within lists.
use Rattle.std.proofs.Common.{◌≡◌, ◌<◌, ℕ, zero, suc, IsSome, List, [], ◌∷◌, length, get_or, slice_get, sym, ap, arith}

-- a list of one element
pub one_alone : {V : Type 0} (xs : List V) (first : V) → length xs ≡ 1 → first ≡ get_or xs 0 first → xs ≡ first ∷ []
one_alone [] first l e = absurd cc
one_alone (x ∷ []) first l e = ap (λ it. it ∷ []) (sym e)
one_alone (x ∷ y ∷ xs) first l e = absurd (omega (arith, l))

pub some_within : {V : Type 0} (xs : List V) (k : ℕ) → IsSome (slice_get xs k) → k < length xs
some_within [] k some = absurd cc
some_within (x ∷ xs) zero some = omega arith
some_within (x ∷ xs) (suc k) some = omega (arith, some_within xs k some)
