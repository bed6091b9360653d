-- Tokens that make no difference to a term: whatever they are worth, it comes to the same.
use Rattle.std.proofs.Common.{◌≡◌, ℕ, zero, suc, ◌+◌, ◌*◌, max, ℤ, pos, ◌+ℤ◌, ◌-ℤ◌, ◌*ℤ◌, nat_abs, List, [], ◌∷◌, ◌++◌, length, map}
use Rattle.std.proofs.Common.{replicate, refl, sym, ap, ◌∙◌, arith, append_assoc, append-nil, get_or}
use Rattle.std.specs.Int.{int_max, int_min}
use Rattle.std.proofs.lemmas.List.{length-append}
use Rattle.adp_model.specs.declared.grammar.Arg.{Arg}
use Rattle.adp_model.specs.declared.grammar.Arg.TheVariants.{Rule, Literal, Letter, Run}
use Rattle.adp_model.specs.declared.cell.Cell.{Cell}
use Rattle.adp_model.specs.PosedProblem.{PosedProblem}
use Rattle.adp_model.specs.Terms.{wide_magnitude, wide_value}
use Rattle.adp_model.specs.Tokens.{letters_between, token_value}
use Rattle.adp_model.specs.WideForm.{WideForm, Number, Value, Sum, Difference, Product, Greater, Lesser}
use Rattle.viable_splits.specs.Placing.{Cover}
use Rattle.cell_answers.specs.PlainLines.{AreIdle, IsFreeOf}
use Rattle.cell_answers.specs.Totals.{HaveValues}

-- nothing for each argument
abbrev pub nothing : List Arg → List ℤ
nothing arguments = replicate (length arguments) (pos 0)

-- ---- another value at one place

-- it makes no difference to what is found of the values
abbrev IsIndifferent : {A : Type 0} → (List ℤ → A) → ℕ → Type 0
IsIndifferent F place =
    (front back : List ℤ) (a b : ℤ) → place ≡ length front → F (front ++ a ∷ back) ≡ F (front ++ b ∷ back)

other_value : (front back : List ℤ) (a b : ℤ) (other : ℕ) → (other ≡ length front → ⊥)
    → get_or (front ++ a ∷ back) other (pos 0) ≡ get_or (front ++ b ∷ back) other (pos 0)
other_value [] back a b zero apart = absurd (apart refl)
other_value [] back a b (suc other) apart = refl
other_value (value ∷ front) back a b zero apart = refl
other_value (value ∷ front) back a b (suc other) apart = other_value front back a b other (λ same. apart (ap suc same))

other_size : (front back : List ℤ) (a b : ℤ) (other : ℕ) → (other ≡ length front → ⊥)
    → get_or (map nat_abs (front ++ a ∷ back)) other 0 ≡ get_or (map nat_abs (front ++ b ∷ back)) other 0
other_size [] back a b zero apart = absurd (apart refl)
other_size [] back a b (suc other) apart = refl
other_size (value ∷ front) back a b zero apart = refl
other_size (value ∷ front) back a b (suc other) apart = other_size front back a b other (λ same. apart (ap suc same))

value_indifferent : (form : WideForm) (place : ℕ) → IsFreeOf form place → IsIndifferent (wide_value form) place
value_indifferent (Number number) place free front back a b at = refl
value_indifferent (Value other) place free front back a b at = other_value front back a b other (λ same. free (same ∙ sym at))
value_indifferent (Sum left right) place free front back a b at =
    λ i. value_indifferent left place free.0 front back a b at i +ℤ value_indifferent right place free.1 front back a b at i
value_indifferent (Difference left right) place free front back a b at =
    λ i. value_indifferent left place free.0 front back a b at i -ℤ value_indifferent right place free.1 front back a b at i
value_indifferent (Product left right) place free front back a b at =
    λ i. value_indifferent left place free.0 front back a b at i *ℤ value_indifferent right place free.1 front back a b at i
value_indifferent (Greater left right) place free front back a b at =
    λ i. int_max (value_indifferent left place free.0 front back a b at i) (value_indifferent right place free.1 front back a b at i)
value_indifferent (Lesser left right) place free front back a b at =
    λ i. int_min (value_indifferent left place free.0 front back a b at i) (value_indifferent right place free.1 front back a b at i)

-- how great it can become
abbrev size_of : WideForm → List ℤ → ℕ
size_of form values = wide_magnitude form (map nat_abs values)

size_indifferent : (form : WideForm) (place : ℕ) → IsFreeOf form place → IsIndifferent (size_of form) place
size_indifferent (Number number) place free front back a b at = refl
size_indifferent (Value other) place free front back a b at = other_size front back a b other (λ same. free (same ∙ sym at))
size_indifferent (Sum left right) place free front back a b at =
    λ i. size_indifferent left place free.0 front back a b at i + size_indifferent right place free.1 front back a b at i
size_indifferent (Difference left right) place free front back a b at =
    λ i. size_indifferent left place free.0 front back a b at i + size_indifferent right place free.1 front back a b at i
size_indifferent (Product left right) place free front back a b at =
    λ i. max 1 (size_indifferent left place free.0 front back a b at i) * max 1 (size_indifferent right place free.1 front back a b at i)
size_indifferent (Greater left right) place free front back a b at =
    λ i. max (size_indifferent left place free.0 front back a b at i) (size_indifferent right place free.1 front back a b at i)
size_indifferent (Lesser left right) place free front back a b at =
    λ i. max (size_indifferent left place free.0 front back a b at i) (size_indifferent right place free.1 front back a b at i)

-- ---- other values of idle tokens

module _ (p : PosedProblem) (HasScore : Cell → ℤ → Type 0) where
  -- they have values wherever they match
  pub idle_have : (form : WideForm) (place : ℕ) (tokens : List Arg) (from to : ℕ) → AreIdle form place tokens → Cover p tokens from to
      → (values : List ℤ) × HaveValues p HasScore tokens from to values
  idle_have form place [] from to idle cover = ([], cover)
  idle_have form place (Literal text ∷ tokens) from to idle cover =
      let others = idle_have form (place + 1) tokens cover.0 to idle cover.2 in
      (pos 0 ∷ others.0, (cover.0, cover.1, refl, others.1))
  idle_have form place (Letter class ∷ tokens) from to idle cover =
      let others = idle_have form (place + 1) tokens cover.0 to idle.1 cover.2 in
      (token_value p.grammar (Letter class) (letters_between p.word from cover.0) ∷ others.0, (cover.0, cover.1, refl, others.1))
  idle_have form place (Rule rule ∷ tokens) from to idle cover = absurd idle
  idle_have form place (Run class low high ∷ tokens) from to idle cover = absurd idle

  module _ {A : Type 0} (F : List ℤ → A) (form : WideForm) (free : (place : ℕ) → IsFreeOf form place → IsIndifferent F place) where
    -- one value more is passed
    passed : (value new : ℤ) (front others nothings back : List ℤ) → F (front ++ value ∷ (others ++ back)) ≡ F (front ++ new ∷ (others ++ back))
        → F ((front ++ new ∷ []) ++ (others ++ back)) ≡ F ((front ++ new ∷ []) ++ (nothings ++ back))
        → F (front ++ value ∷ (others ++ back)) ≡ F (front ++ new ∷ (nothings ++ back))
    passed value new front others nothings back here behind =
        here ∙ ap F (sym (append_assoc front (new ∷ []) (others ++ back))) ∙ behind ∙ ap F (append_assoc front (new ∷ []) (nothings ++ back))

    pub idle_same : (place : ℕ) (tokens : List Arg) (from to : ℕ) (front values back : List ℤ) → place ≡ length front → AreIdle form place tokens
        → HaveValues p HasScore tokens from to values → F (front ++ (values ++ back)) ≡ F (front ++ (nothing tokens ++ back))
    idle_same place [] from to front [] back at idle have = refl
    idle_same place [] from to front (value ∷ values) back at idle have = absurd have
    idle_same place (Literal text ∷ tokens) from to front [] back at idle have = absurd have
    idle_same place (Literal text ∷ tokens) from to front (value ∷ values) back at idle have =
        let first : value ≡ pos 0 = have.2 in
        passed value (pos 0) front values (nothing tokens) back (λ i. F (front ++ first i ∷ (values ++ back)))
        (idle_same (place + 1) tokens have.0 to (front ++ pos 0 ∷ []) values back (omega (arith, at, length-append front (pos 0 ∷ []))) idle have.3)
    idle_same place (Letter class ∷ tokens) from to front [] back at idle have = absurd have
    idle_same place (Letter class ∷ tokens) from to front (value ∷ values) back at idle have =
        passed value (pos 0) front values (nothing tokens) back (free place idle.0 front (values ++ back) value (pos 0) at)
        (idle_same (place + 1) tokens have.0 to (front ++ pos 0 ∷ []) values back (omega (arith, at, length-append front (pos 0 ∷ []))) idle.1 have.3)
    idle_same place (Rule rule ∷ tokens) from to front values back at idle have = absurd idle
    idle_same place (Run class low high ∷ tokens) from to front values back at idle have = absurd idle

    -- between two values, and behind the second one
    pub through_same : (place next : ℕ) (middle tail : List Arg) (from to begin end : ℕ) (before values others : List ℤ) (value other : ℤ)
        → place ≡ length before + 1 → next ≡ length before + 2 + length middle → AreIdle form place middle → AreIdle form next tail
        → HaveValues p HasScore middle from to values → HaveValues p HasScore tail begin end others
        → F (before ++ value ∷ (values ++ other ∷ others)) ≡ F (before ++ value ∷ (nothing middle ++ other ∷ nothing tail))
    through_same place next middle tail from to begin end before values others value other at at' idle idle' have have' =
        let first = before ++ value ∷ [] in
        let second = first ++ (nothing middle ++ other ∷ []) in
        let joined : (them : List ℤ) → first ++ (nothing middle ++ other ∷ them) ≡ second ++ them = λ them.
        ap (λ it. first ++ it) (sym (append_assoc (nothing middle) (other ∷ []) them)) ∙ sym (append_assoc first (nothing middle ++ other ∷ []) them) in
        let front : F (first ++ (values ++ other ∷ others)) ≡ F (first ++ (nothing middle ++ other ∷ others)) =
        idle_same place middle from to first values (other ∷ others) (omega (arith, at, length-append before (value ∷ []))) idle have in
        let back : F (second ++ (others ++ [])) ≡ F (second ++ (nothing tail ++ [])) =
        idle_same next tail begin end second others [] (omega (
          arith,
          at',
          length-append before (value ∷ []),
          length-append first (nothing middle ++ other ∷ []),
          length-append (nothing middle) (other ∷ []),
          length_nothing middle,
        )) idle' have' in
        ap F (sym (append_assoc before (value ∷ []) (values ++ other ∷ others)))
        ∙ front
        ∙ ap F (joined others)
        ∙ ap (λ it. F (second ++ it)) (sym (append-nil others))
        ∙ back
        ∙ ap (λ it. F (second ++ it)) (append-nil (nothing tail))
        ∙ ap F (sym (joined (nothing tail)))
        ∙ ap F (append_assoc before (value ∷ []) (nothing middle ++ other ∷ nothing tail))
      where
        length_nothing : (arguments : List Arg) → length (nothing arguments) ≡ length arguments
        length_nothing [] = refl
        length_nothing (argument ∷ arguments) = ap suc (length_nothing arguments)

-- what the term comes to, and how great it can become
module _ (p : PosedProblem) (HasScore : Cell → ℤ → Type 0) (form : WideForm) (before values others : List ℤ) (middle tail : List Arg)
    (from to begin end place next : ℕ) (value other : ℤ) (at : place ≡ length before + 1) (at' : next ≡ length before + 2 + length middle)
    (idle : AreIdle form place middle) (idle' : AreIdle form next tail) (have : HaveValues p HasScore middle from to values)
    (have' : HaveValues p HasScore tail begin end others) where
  pub same_value : wide_value form (before ++ value ∷ (values ++ other ∷ others))
      ≡ wide_value form (before ++ value ∷ (nothing middle ++ other ∷ nothing tail))
  same_value =
      through_same p HasScore (wide_value form) form (value_indifferent form) place next middle tail from to begin end before values others value other
      at at' idle idle' have have'

  pub same_size : wide_magnitude form (map nat_abs (before ++ value ∷ (values ++ other ∷ others)))
      ≡ wide_magnitude form (map nat_abs (before ++ value ∷ (nothing middle ++ other ∷ nothing tail)))
  same_size =
      through_same p HasScore (size_of form) form (size_indifferent form) place next middle tail from to begin end before values others value other
      at at' idle idle' have have'
