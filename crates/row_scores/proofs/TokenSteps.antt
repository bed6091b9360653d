-- Steps by a token, end by end.
use Rattle.std.proofs.Common.{◌≡◌, ◌⊎◌, ℕ, ◌+◌, ◌<◌, ◌≤◌, ℤ, ◌+ℤ◌, ◌*ℤ◌, nat_abs, List, sym, ap, subst, ◌∙◌, refl, inl, inr, arith}
use Rattle.std.proofs.lemmas.Bool.{cases_lt}
use Rattle.adp_model.specs.declared.grammar.Arg.{Arg}
use Rattle.adp_model.specs.declared.grammar.Arg.TheVariants.{Rule, Literal, Letter, Run}
use Rattle.adp_model.specs.PosedProblem.{PosedProblem}
use Rattle.adp_model.specs.Splits.{FitsSpan}
use Rattle.adp_model.specs.Tokens.{letters_between, token_value}
use Rattle.viable_splits.specs.Placing.{on_span}
use Rattle.score_numbers.specs.Packing.{Width}
use Rattle.score_rows.specs.Raised.{AreHighest, IsAnywhere, IsAt}
use Rattle.score_rows.proofs.Highest.{rows_both, rows_same, rows_still}
use Rattle.row_scores.specs.Steps.{AreLowSteps, GoesOn, HasStep, HasValue, Rows}

abbrev pub IsToken : Arg → Type 0
IsToken token = (rule : ℕ) → token ≡ Rule rule → ⊥

module _ (p : PosedProblem) (width : Width) (InRow : Rows) where
  -- what the letters that the token may have are worth
  abbrev pub HasWorth : Arg → ℕ → ℕ → ℤ → Type 0
  HasWorth token from to value = FitsSpan p (on_span token from to) × (value ≡ token_value p.grammar token (letters_between p.word from to))

  worth_of : (token : Arg) → IsToken token → (from to : ℕ) (value : ℤ) → HasValue p width InRow token from to value → HasWorth token from to value
  worth_of (Rule rule) is from to value has = absurd (is rule refl)
  worth_of (Literal text) is from to value has = has
  worth_of (Letter class) is from to value has = has
  worth_of (Run class low high) is from to value has = has

  value_of : (token : Arg) → IsToken token → (from to : ℕ) (value : ℤ) → HasWorth token from to value → HasValue p width InRow token from to value
  value_of (Rule rule) is from to value has = absurd (is rule refl)
  value_of (Literal text) is from to value has = has
  value_of (Letter class) is from to value has = has
  value_of (Run class low high) is from to value has = has

  goes_on : (token : Arg) → IsToken token → (from to : ℕ) → FitsSpan p (on_span token from to) → GoesOn p InRow token from to
  goes_on (Rule rule) is from to fits = absurd (is rule refl)
  goes_on (Literal text) is from to fits = fits
  goes_on (Letter class) is from to fits = fits
  goes_on (Run class low high) is from to fits = fits

  module _ (token : Arg) (factor : ℤ) (position : ℕ) (before : ℤ) where
    -- steps to the ends before this one
    abbrev pub HasStepBefore : ℕ → ℕ → ℤ → Type 0
    HasStepBefore bound end sum = HasStep p width InRow token factor position before end sum × (end < bound)

    abbrev pub IsStepped : List ℤ → List ℤ → ℕ → Type 0
    IsStepped old new bound = AreHighest width (HasStepBefore bound) (AreLowSteps p width InRow token factor position before) old new

    -- the sum with what the letters up to an end are worth
    abbrev pub sum_at : ℕ → ℤ
    sum_at end = (factor *ℤ token_value p.grammar token (letters_between p.word position end)) +ℤ before

    module _ (is_token : IsToken token) where
      step_fits : (end : ℕ) (sum : ℤ) → HasStep p width InRow token factor position before end sum
          → FitsSpan p (on_span token position end) × (sum ≡ sum_at end)
      step_fits end sum (value, has, is) =
          let worth = worth_of token is_token position end value has in
          (worth.0, is ∙ ap (λ v. (factor *ℤ v) +ℤ before) worth.1)

      step_at : (end : ℕ) → FitsSpan p (on_span token position end) → HasStep p width InRow token factor position before end (sum_at end)
      step_at end fits =
          let value = token_value p.grammar token (letters_between p.word position end) in
          (value, value_of token is_token position end value (fits, refl), refl)

      pub none_stepped : (first : ℕ) → ((end : ℕ) → FitsSpan p (on_span token position end) → first ≤ end) → (old : List ℤ) → IsStepped old old first
      none_stepped first after old =
          rows_still width (HasStepBefore first) (AreLowSteps p width InRow token factor position before) old
          (λ end sum (has, l). let m = after end (step_fits end sum has).0 in omega (arith, l, m))

      pub stepped_more : (old row new : List ℤ) (bound : ℕ) (number : ℤ) → FitsSpan p (on_span token position bound)
          → (nat_abs before ≤ width.limit → nat_abs (sum_at bound) ≤ width.limit → number ≡ sum_at bound)
          → IsStepped old row bound → AreHighest width (IsAt bound number) IsAnywhere row new → IsStepped old new (bound + 1)
      stepped_more old row new bound number fits exact so_far more =
          rows_same width (λ end sum. HasStepBefore bound end sum ⊎ IsAt bound number end sum) (HasStepBefore (bound + 1))
          (λ end. AreLowSteps p width InRow token factor position before end × IsAnywhere end) (AreLowSteps p width InRow token factor position before) old new
          (λ end sum low has. elim has [
            | inl (has', l) ↦ (has', omega (arith, l))
            | inr (here, sum_is) ↦
                let low' : AreLowSteps p width InRow token factor position before bound =
                subst (AreLowSteps p width InRow token factor position before) here low in (
                  subst (λ k. HasStep p width InRow token factor position before k sum) (sym here)
                      (subst (HasStep p width InRow token factor position before bound) (sym (sum_is ∙ number_is low')) (step_at bound fits)),
                  omega (arith, here),
                )
          ])
          (λ end sum low (has, l). elim (cases_lt end bound) [
            | inl l' ↦ inl (has, l')
            | inr m ↦
                let here : end ≡ bound = omega (arith, l, m) in
                let low' : AreLowSteps p width InRow token factor position before bound =
                subst (AreLowSteps p width InRow token factor position before) here low in
                inr (here, (step_fits end sum has).1 ∙ ap sum_at here ∙ sym (number_is low'))
          ])
          (λ end low. (low, tt))
          (rows_both width (HasStepBefore bound) (IsAt bound number) (AreLowSteps p width InRow token factor position before) IsAnywhere
          old row new so_far more)
        where
          number_is : AreLowSteps p width InRow token factor position before bound → number ≡ sum_at bound
          number_is low =
              let it = low (goes_on token is_token position bound fits) in
              exact it.0 (it.1 (sum_at bound) (step_at bound fits))

      pub all_stepped : (bound : ℕ) → ((end : ℕ) → FitsSpan p (on_span token position end) → end < bound) → (old new : List ℤ)
          → IsStepped old new bound
          → AreHighest width (HasStep p width InRow token factor position before) (AreLowSteps p width InRow token factor position before) old new
      all_stepped bound within old new it =
          rows_same width (HasStepBefore bound) (HasStep p width InRow token factor position before)
          (AreLowSteps p width InRow token factor position before) (AreLowSteps p width InRow token factor position before) old new
          (λ end sum low has. has.0)
          (λ end sum low has. (has, within end (step_fits end sum has).0))
          (λ end low. low) it
