-- Where a count of faults rises over several calls.
use Rattle.std.proofs.Common.{◌≡◌, ℕ, Result, Ok, Err, IsErr, IsErrOf, OnErr, arith, sym, ◌∙◌}
use Rattle.adp_io.specs.Causes.{RisesWhere}

-- nothing failed
pub stood : (before now : ℕ) (failed : Type 0) → now ≡ before → ¬ failed → RisesWhere before now failed
stood before now failed same none = record { later = omega arith; rises = λ f. absurd (none f); stands = λ _. same }

-- the error of a call that is answered as it came
pub same_error : {A B E : Type 0} (r : Result A E) (error other : E) → r ≡ Err error → IsErrOf r other → IsErrOf {T = B} (Err error) other
same_error r error other is h = cc

-- a call that failed as the whole does, after some that did not
pub rose : {A B E : Type 0} (start before now : ℕ) (r : Result A E) (error fault : E) → r ≡ Err error → before ≡ start
    → RisesWhere before now (IsErrOf {T = B} (Err error) fault) → RisesWhere start now (IsErrOf r fault)
rose start before now r error fault is same rises = record {
  later = omega (arith, rises.later);
  rises = λ h. rw (sym same) (rises.rises (same_error r error fault is h));
  stands = λ none. rises.stands (λ h. none (cc)) ∙ same;
}

-- one failure told by another
pub fails_as : {P Q : Type 0} (before now : ℕ) → RisesWhere before now P → P → Q → RisesWhere before now Q
fails_as before now rises p q = record { later = rises.later; rises = λ _. rises.rises p; stands = λ none. absurd (none q) }

-- what an error ensures
pub at_err : {A E P : Type 0} (r : Result A E) → IsErr r → OnErr r P → P
at_err (Ok x) is h = cc
at_err (Err e) is h = h

-- a value is no error
pub no_err : {A E : Type 0} (r : Result A E) (x : A) → r ≡ Ok x → ¬ IsErr r
no_err (Ok y) x is h = cc
no_err (Err e) x is h = cc
