-- What a call gave whose error was turned into another by `map_err`.
use Rattle.std.proofs.Common.{◌≡◌, true, Result, Ok, Err}
use Rattle.std.specs.Result.{MatchResult, IsErrAnd, is_ok}

pub gave_ok : {A E : Type 0} (F : Type 0) (given : Result A E) (x : A) (Other : E → Type 0) → true ≡ is_ok given → MatchResult given (λ y. ◌≡◌ {A = Result A F} (Ok x) (Ok y)) Other → given ≡ Ok x
gave_ok F (Ok y) x Other ok same = cc
gave_ok F (Err e) x Other ok same = cc

pub gave_err : {A E F : Type 0} (given : Result A E) (x : F) (Turned : E → F → Type 0)
    → MatchResult given (λ y. ◌≡◌ {A = Result A F} (Err x) (Ok y)) (λ e. IsErrAnd {T = A} (Err x) (Turned e)) → (e : E) × (given ≡ Err e) × Turned e x
gave_err (Ok y) x Turned same = cc
gave_err (Err e) x Turned same = (e, (λ i. Err e), same)
