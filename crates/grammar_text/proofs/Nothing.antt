-- What nothing tells: of no first fault, of no found item, of two parts that give nothing.
use Rattle.std.proofs.Common.{◌≡◌, ℕ, zero, suc, ◌<◌, Bool, true, false, cond, Option, Some, None, is_some, List, [], ◌∷◌, ◌++◌, length, slice_index_or, refl, subst, arith}
use Rattle.std.specs.List.{find}
use Rattle.std.specs.Option.{option_map, option_or, option_map_or}
use Rattle.std.proofs.lemmas.List.Folds.{find-append}

pub or_none : {X : Type 0} (first other : Option X) → option_or first other ≡ None → (first ≡ None) × (other ≡ None)
or_none None other h = (refl, h)
or_none (Some x) other h = absurd cc

pub map_none : {X Y : Type 0} (f : X → Y) (found : Option X) → option_map f found ≡ None → found ≡ None
map_none f None h = refl
map_none f (Some x) h = absurd cc

pub not_some : {X : Type 0} (found : Option X) → is_some found ≡ false → found ≡ None
not_some None h = refl
not_some (Some x) h = absurd cc

cond_none : {X : Type 0} (b : Bool) (x : X) (other : Option X) → cond b (Some x) other ≡ None → (b ≡ false) × (other ≡ None)
cond_none true x other h = absurd cc
cond_none false x other h = (refl, h)

-- where nothing is found no item passes
pub none_passes : {X : Type 0} (test : X → Bool) (xs : List X) (k : ℕ) (default : X) → k < length xs → find test xs ≡ None → test (slice_index_or xs k default) ≡ false
none_passes test [] k default within h = absurd (omega arith)
none_passes test (x ∷ xs) zero default within h = (cond_none (test x) x (find test xs) h).0
none_passes test (x ∷ xs) (suc k) default within h = none_passes test xs k default (omega arith) (cond_none (test x) x (find test xs) h).1

-- where nothing is found in two lists, nothing is found in the first, nor in the second
pub none_of_both : {X : Type 0} (test : X → Bool) (xs ys : List X) → find test (xs ++ ys) ≡ None → (find test xs ≡ None) × (find test ys ≡ None)
none_of_both test xs ys h = or_none (find test xs) (find test ys) (rw find-append at h)

-- a test of what is there
pub told : {X : Type 0} (test : X → Bool) (found : Option X) (x : X) → found ≡ Some x → option_map_or test found false ≡ false → test x ≡ false
told test found x e h = subst (λ o. option_map_or test o false ≡ false) e h
