-- The order of lists, as a test.
use Rattle.std.proofs.Common.{◌≡◌, ℕ, ◌<◌, ◌≤◌, ◌⊎◌, inl, inr, Bool, true, false, nat_lt, nat_eq, List, [], ◌∷◌, length, refl, sym, ◌∙◌, arith}
use Rattle.std.specs.Prelude.{if◌then◌else◌, Option, Some, None}
use Rattle.std.proofs.lemmas.Bool.{false≢true, cases_lt, ltb-true, lt-ltb, le-ltb, eqb-true, eq-eqb, false_from_ne_true}
use Rattle.adp_model.specs.PosedProblem.{PosedProblem}
use Rattle.adp_model.specs.Preference.{LexicographicallyLess}
use Rattle.memo_model.specs.declared.visit.Position.{Position}
use Rattle.memo_model.specs.declared.visit.Visit.{Visit}
use Rattle.adp_model.specs.SplitArguments.{SplitArgument}
use Rattle.argument_search.specs.Seeking.{moved_to}
use Rattle.memo_model.specs.Visits.{visited_at, is_less, is_behind, is_behind_position, argument_at}

pub lex_from : (xs ys : List ℕ) → is_less xs ys ≡ true → LexicographicallyLess xs ys
lex_from [] ys e = absurd (false≢true e)
lex_from (x ∷ xs) [] e = absurd (false≢true e)
lex_from (x ∷ xs) (y ∷ ys) e = go (nat_lt x y) (nat_eq x y) refl refl e (lex_from xs ys)
  where
    go : (b c : Bool) → nat_lt x y ≡ b → nat_eq x y ≡ c
        → (if b then true else if c then is_less xs ys else false) ≡ true
        → (is_less xs ys ≡ true → LexicographicallyLess xs ys)
        → (x < y) ⊎ ((x ≡ y) × LexicographicallyLess xs ys)
    go true c here other e later = inl (ltb-true x y here)
    go false true here other e later = inr (eqb-true x y other, later e)
    go false false here other e later = absurd (false≢true e)

pub less_from : (xs ys : List ℕ) → LexicographicallyLess xs ys → is_less xs ys ≡ true
less_from [] ys l = absurd l
less_from (x ∷ xs) [] l = absurd l
less_from (x ∷ xs) (y ∷ ys) (inl l) = rw (lt-ltb x y l) refl
less_from (x ∷ xs) (y ∷ ys) (inr (e, l)) = let n : y ≤ x = omega arith in
    rw (le-ltb x y n) (rw (eq-eqb x y e) (less_from xs ys l))

pub lex_transitive : (xs ys zs : List ℕ) → LexicographicallyLess xs ys → LexicographicallyLess ys zs
    → LexicographicallyLess xs zs
lex_transitive [] ys zs l k = absurd l
lex_transitive (x ∷ xs) [] zs l k = absurd l
lex_transitive (x ∷ xs) (y ∷ ys) [] l k = absurd k
lex_transitive (x ∷ xs) (y ∷ ys) (z ∷ zs) (inl l) (inl k) = inl (omega arith)
lex_transitive (x ∷ xs) (y ∷ ys) (z ∷ zs) (inl l) (inr (e, k)) = inl (omega arith)
lex_transitive (x ∷ xs) (y ∷ ys) (z ∷ zs) (inr (e, l)) (inl k) = inl (omega arith)
lex_transitive (x ∷ xs) (y ∷ ys) (z ∷ zs) (inr (e, l)) (inr (f, k)) = inr (e ∙ f, lex_transitive xs ys zs l k)

pub lex_irreflexive : (xs : List ℕ) → LexicographicallyLess xs xs → ⊥
lex_irreflexive [] l = l
lex_irreflexive (x ∷ xs) (inl l) = omega arith
lex_irreflexive (x ∷ xs) (inr (e, l)) = lex_irreflexive xs l

pub less_transitive : (xs ys zs : List ℕ) → is_less xs ys ≡ true → is_less ys zs ≡ true → is_less xs zs ≡ true
less_transitive xs ys zs e f = less_from xs zs (lex_transitive xs ys zs (lex_from xs ys e) (lex_from ys zs f))

pub less_irreflexive : (xs : List ℕ) → is_less xs xs ≡ false
less_irreflexive xs = false_from_ne_true (is_less xs xs) (λ e. lex_irreflexive xs (lex_from xs xs e))

pub lex_total : (xs ys : List ℕ) → length xs ≡ length ys
    → LexicographicallyLess xs ys ⊎ ((xs ≡ ys) ⊎ LexicographicallyLess ys xs)
lex_total [] [] e = inr (inl refl)
lex_total [] (y ∷ ys) e = absurd (omega arith)
lex_total (x ∷ xs) [] e = absurd (omega arith)
lex_total (x ∷ xs) (y ∷ ys) e =
    elim (cases_lt x y) [
      | inl l ↦ inl (inl l)
      | inr g ↦ elim (cases_lt y x) [
        | inl l ↦ inr (inr (inl l))
        | inr g' ↦
            let same : x ≡ y = omega arith in
            elim (lex_total xs ys (omega arith)) [
              | inl l ↦ inl (inr (same, l))
              | inr (inl q) ↦ inr (inl (cc))
              | inr (inr l) ↦ inr (inr (inr (sym same, l)))
            ]
      ]
    ]

-- ---- a walk whose position has moved on

module _ (p : PosedProblem) (visit : Visit) (position : Position)
    (on : is_behind p visit (argument_at visit.cell position) ≡ true) where
  pub behind_moved : (argument : SplitArgument) → is_behind p (moved_to visit position) argument ≡ true
      → is_behind p visit argument ≡ true
  behind_moved argument e = go visit.at on
    where
      go : (at : Option Position) → is_behind_position p visit at (argument_at visit.cell position) ≡ true
          → is_behind_position p visit at argument ≡ true
      go None on = refl
      go (Some old) on = less_transitive (visited_at p visit (argument_at visit.cell old))
          (visited_at p visit (argument_at visit.cell position)) (visited_at p visit argument) on e

  pub not_behind_itself : is_behind p (moved_to visit position) (argument_at visit.cell position) ≡ false
  not_behind_itself = less_irreflexive (visited_at p visit (argument_at visit.cell position))
