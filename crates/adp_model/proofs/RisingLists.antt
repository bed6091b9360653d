-- Lists that rise in a total order, gathered from lists in any order.
use Rattle.std.proofs.Common.{◌≡◌, ℕ, zero, suc, ◌+◌, ◌<◌, ◌⊎◌, inl, inr, List, [], ◌∷◌, ◌++◌, length, get_or, refl, sym, subst, arith}
use Rattle.std.specs.List.{Contains, AllAdjacentBelow}
use Rattle.adp_model.proofs.Decisions.{Decided}

-- ---- what stands in a list

-- it is one of the list's
abbrev pub Among : {X : Type 0} → X → List X → Type 0
Among x [] = ⊥
Among x (y ∷ ys) = (x ≡ y) ⊎ Among x ys

later : {X : Type 0} (x y : X) (xs : List X) → Contains xs x → Contains (y ∷ xs) x
later x y xs (k, inside, e) = (suc k, omega arith, e)

pub Contains-among : {X : Type 0} (x : X) (xs : List X) → Among x xs → Contains xs x
Contains-among x [] none = absurd none
Contains-among x (y ∷ ys) (inl e) = (zero, omega arith, sym e)
Contains-among x (y ∷ ys) (inr h) = later x y ys (Contains-among x ys h)

pub Among-contained : {X : Type 0} (x : X) (xs : List X) → Contains xs x → Among x xs
Among-contained x [] (k, inside, e) = absurd (omega arith)
Among-contained x (y ∷ ys) (zero, inside, e) = inl (sym e)
Among-contained x (y ∷ ys) (suc k, inside, e) = inr (Among-contained x ys (k, omega arith, e))

among_left : {X : Type 0} (x : X) (xs ys : List X) → Among x xs → Among x (xs ++ ys)
among_left x [] ys none = absurd none
among_left x (y ∷ xs) ys (inl e) = inl e
among_left x (y ∷ xs) ys (inr h) = inr (among_left x xs ys h)

among_right : {X : Type 0} (x : X) (xs ys : List X) → Among x ys → Among x (xs ++ ys)
among_right x [] ys h = h
among_right x (y ∷ xs) ys h = inr (among_right x xs ys h)

-- ---- lists of lists

-- the lists of all items, one behind the other
abbrev pub over : {X Y : Type 0} → List Y → (Y → List X) → List X
over [] list = []
over (y ∷ ys) list = list y ++ over ys list

pub among_over : {X Y : Type 0} (x : X) (y : Y) (ys : List Y) (list : Y → List X) → Among y ys → Among x (list y)
    → Among x (over ys list)
among_over x y [] list none h = absurd none
among_over x y (z ∷ ys) list (inl e) h = among_left x (list z) (over ys list) (subst (λ w. Among x (list w)) e h)
among_over x y (z ∷ ys) list (inr k) h = among_right x (list z) (over ys list) (among_over x y ys list k h)

-- the numbers below one
abbrev pub below : ℕ → List ℕ
below zero = []
below (suc n) = n ∷ below n

pub among_below : (i n : ℕ) → i < n → Among i (below n)
among_below i zero less = absurd (omega arith)
among_below i (suc n) less = go (at_or_below i n less) (among_below i n)
  where
    at_or_below : (i n : ℕ) → i < suc n → (i ≡ n) ⊎ (i < n)
    at_or_below i n less = grind arith

    go : (i ≡ n) ⊎ (i < n) → (i < n → Among i (below n)) → Among i (below (suc n))
    go (inl e) rest = inl e
    go (inr k) rest = inr (rest k)

-- ---- lists that rise

module _ {X : Type 0} (Before : X → X → Type 0) (compare : (a b : X) → Before a b ⊎ ((a ≡ b) ⊎ Before b a)) where
  abbrev BeginsBehind : X → List X → Type 0
  BeginsBehind x [] = Unit {0}
  BeginsBehind x (y ∷ ys) = Before x y

  abbrev IsRising : List X → Type 0
  IsRising [] = Unit {0}
  IsRising (x ∷ xs) = BeginsBehind x xs × IsRising xs

  -- the item at its place before or behind the first one; `rest` is the rest with it
  abbrev placed_by : (x y : X) → List X → List X → Before x y ⊎ ((x ≡ y) ⊎ Before y x) → List X
  placed_by x y ys rest (inl less) = x ∷ y ∷ ys
  placed_by x y ys rest (inr (inl same)) = y ∷ ys
  placed_by x y ys rest (inr (inr more)) = y ∷ rest

  -- the list with the item at its place
  abbrev put : X → List X → List X
  put x [] = x ∷ []
  put x (y ∷ ys) = placed_by x y ys (put x ys) (compare x y)

  begins_behind : (y x : X) (ys : List X) → Before y x → BeginsBehind y ys → BeginsBehind y (put x ys)
  begins_behind y x [] more h = more
  begins_behind y x (z ∷ zs) more h = go (compare x z)
    where
      go : (c : Before x z ⊎ ((x ≡ z) ⊎ Before z x)) → BeginsBehind y (placed_by x z zs (put x zs) c)
      go (inl less) = more
      go (inr (inl same)) = h
      go (inr (inr further)) = h

  rising_put : (x : X) (ys : List X) → IsRising ys → IsRising (put x ys)
  rising_put x [] h = (tt, tt)
  rising_put x (y ∷ ys) h = go (compare x y) (rising_put x ys h.1)
    where
      go : (c : Before x y ⊎ ((x ≡ y) ⊎ Before y x)) → IsRising (put x ys) → IsRising (placed_by x y ys (put x ys) c)
      go (inl less) rest = (less, h)
      go (inr (inl same)) rest = h
      go (inr (inr more)) rest = (begins_behind y x ys more h.0, rest)

  put_here : (x : X) (ys : List X) → Among x (put x ys)
  put_here x [] = inl refl
  put_here x (y ∷ ys) = go (compare x y) (put_here x ys)
    where
      go : (c : Before x y ⊎ ((x ≡ y) ⊎ Before y x)) → Among x (put x ys) → Among x (placed_by x y ys (put x ys) c)
      go (inl less) rest = inl refl
      go (inr (inl same)) rest = inl same
      go (inr (inr more)) rest = inr rest

  put_kept : (z x : X) (ys : List X) → Among z ys → Among z (put x ys)
  put_kept z x [] none = absurd none
  put_kept z x (y ∷ ys) h = go (compare x y) h (put_kept z x ys)
    where
      go : (c : Before x y ⊎ ((x ≡ y) ⊎ Before y x)) → (z ≡ y) ⊎ Among z ys → (Among z ys → Among z (put x ys))
          → Among z (placed_by x y ys (put x ys) c)
      go (inl less) k rest = inr k
      go (inr (inl same)) k rest = k
      go (inr (inr more)) (inl e) rest = inl e
      go (inr (inr more)) (inr k) rest = inr (rest k)

  put_only : (z x : X) (ys : List X) → Among z (put x ys) → (z ≡ x) ⊎ Among z ys
  put_only z x [] (inl e) = inl e
  put_only z x [] (inr none) = absurd none
  put_only z x (y ∷ ys) h = go (compare x y) h (put_only z x ys)
    where
      further : (z ≡ x) ⊎ Among z ys → (z ≡ x) ⊎ ((z ≡ y) ⊎ Among z ys)
      further (inl e) = inl e
      further (inr k) = inr (inr k)

      go : (c : Before x y ⊎ ((x ≡ y) ⊎ Before y x)) → Among z (placed_by x y ys (put x ys) c)
          → (Among z (put x ys) → (z ≡ x) ⊎ Among z ys) → (z ≡ x) ⊎ ((z ≡ y) ⊎ Among z ys)
      go (inl less) (inl e) rest = inl e
      go (inl less) (inr k) rest = inr k
      go (inr (inl same)) k rest = inr k
      go (inr (inr more)) (inl e) rest = inr (inl e)
      go (inr (inr more)) (inr k) rest = further (rest k)

  pub adjacent : (xs : List X) → IsRising xs → AllAdjacentBelow Before xs (length xs)
  adjacent [] h k d inside = absurd (omega arith)
  adjacent (x ∷ []) h k d inside = absurd (omega arith)
  adjacent (x ∷ y ∷ ys) h zero d inside = h.0
  adjacent (x ∷ y ∷ ys) h (suc k) d inside =
      let next : suc k + 1 ≡ suc (k + 1) = omega arith in
      subst (λ j. Before (get_or (y ∷ ys) k d) (get_or (x ∷ y ∷ ys) j d)) (sym next)
      (adjacent (y ∷ ys) h.1 k d (omega arith))

  -- ---- those of which it holds

  module _ (Holds : X → Type 0) (holds_or_not : (item : X) → Decided (Holds item)) where
    abbrev with_it : (x : X) → List X → Decided (Holds x) → List X
    with_it x rest (inl held') = put x rest
    with_it x rest (inr wrong) = rest

    -- those of the list of which it holds, each once, in order
    abbrev pub gathered : List X → List X
    gathered [] = []
    gathered (x ∷ xs) = with_it x (gathered xs) (holds_or_not x)

    pub gathered_rise : (xs : List X) → IsRising (gathered xs)
    gathered_rise [] = tt
    gathered_rise (x ∷ xs) = go (holds_or_not x) (gathered_rise xs)
      where
        go : (d : Decided (Holds x)) → IsRising (gathered xs) → IsRising (with_it x (gathered xs) d)
        go (inl held') rest = rising_put x (gathered xs) rest
        go (inr wrong) rest = rest

    pub gathered_hold : (z : X) (xs : List X) → Among z (gathered xs) → Holds z
    gathered_hold z [] none = absurd none
    gathered_hold z (x ∷ xs) h = go (holds_or_not x) h (gathered_hold z xs)
      where
        at_or_later : Holds x → (z ≡ x) ⊎ Among z (gathered xs) → (Among z (gathered xs) → Holds z) → Holds z
        at_or_later held' (inl e) rest = subst Holds (sym e) held'
        at_or_later held' (inr k) rest = rest k

        go : (d : Decided (Holds x)) → Among z (with_it x (gathered xs) d) → (Among z (gathered xs) → Holds z) → Holds z
        go (inl held') k rest = at_or_later held' (put_only z x (gathered xs) k) rest
        go (inr wrong) k rest = rest k

    pub all_gathered : (z : X) (xs : List X) → Holds z → Among z xs → Among z (gathered xs)
    all_gathered z [] held none = absurd none
    all_gathered z (x ∷ xs) held h = go (holds_or_not x) h (all_gathered z xs held)
      where
        go : (d : Decided (Holds x)) → (z ≡ x) ⊎ Among z xs → (Among z xs → Among z (gathered xs))
            → Among z (with_it x (gathered xs) d)
        go (inl held') (inl e) rest = subst (λ w. Among w (put x (gathered xs))) (sym e) (put_here x (gathered xs))
        go (inl held') (inr k) rest = put_kept z x (gathered xs) (rest k)
        go (inr wrong) (inl e) rest = absurd (wrong (subst Holds e held))
        go (inr wrong) (inr k) rest = rest k
