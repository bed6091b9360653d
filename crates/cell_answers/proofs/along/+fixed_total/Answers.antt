use Rattle.std.proofs.Common.{◌≡◌, ◌+◌, ◌≤◌, ℕ, ℤ, ◌+ℤ◌, ◌*ℤ◌, List, [], ◌∷◌, length, FitsSigned, w64, nat_abs, refl, sym, ap, subst, ◌∙◌, arith, rules}
use Rattle.std.specs.List.{AllByRecursion}
use Rattle.std.proofs.lemmas.Bool.{eqb-true}
use Rattle.std.proofs.lemmas.Int.{to_z-of_z}
use Rattle.adp_model.specs.declared.grammar.Arg.{Arg}
use Rattle.adp_model.specs.ProblemFields.{greatest_score}
use Rattle.adp_model.specs.Tokens.{letters_between, token_value}
use Rattle.adp_model.specs.Bellman.{HasBestScore}
use Rattle.viable_splits.specs.Placing.{Cover}
use Rattle.split_lines.specs.Laid.{IsFixed}
use Rattle.split_lines.specs.Matching.{fixed_length}
use Rattle.cell_answers.specs.Totals.{HasTotal, AreLow, AreWeighted}
use Rattle.cell_answers.proofs.FirstEnds.{weighted_rest}
use Rattle.adp_model.specs.Terms.{weighted_sum}
use Rattle.cell_answers.proofs.LineTotals.{fixed_values}
use Rattle.cell_answers.proofs.FixedTotals.{rest_covers, end_within, rest_low, token_total, token_parts_low}
use Rattle.cell_answers.proofs.Soundness.{fits_below}
use Rattle.cell_answers.proofs.along.+fixed_total.Goals as goal
use Rattle.cell_answers.proofs.along.+fixed_total.Goals.{After-fixed_length}

-- the tokens, from the first one on
record Tokens (t : ℕ) (c : After-fixed_length t) : Type 0 where
  weighted : AreWeighted c.args.lines.now (c.in-Some-Some.token.now ∷ c.in-Some-Some.tokens.now) (c.in-Some-Some.factor.now ∷ c.in-Some-Some.factors.now)
  fixed : AllByRecursion IsFixed (c.in-Some-Some.token.now ∷ c.in-Some-Some.tokens.now)
  covers : Cover c.args.lines.now (c.in-Some-Some.token.now ∷ c.in-Some-Some.tokens.now) c.args.from c.args.to
  low : AreLow c.args.lines.now (c.in-Some-Some.token.now ∷ c.in-Some-Some.tokens.now)
      (c.in-Some-Some.factor.now ∷ c.in-Some-Some.factors.now) c.args.from c.args.to

tokens : (t : ℕ) (c : After-fixed_length t) → Tokens t c
tokens t c =
    let p = c.args.lines.now in
    let ts = c.in-Some-Some.ensures.cases.0 in
    let fs = c.in-Some-Some.ensures'.cases.0 in
    record {
      weighted = subst (λ xs. AreWeighted p xs (c.in-Some-Some.factor.now ∷ c.in-Some-Some.factors.now)) ts
          (subst (λ ys. AreWeighted p c.args.tokens.now ys) fs c.requires.weighted);
      fixed = subst (AllByRecursion IsFixed) ts c.requires.fixed;
      covers = subst (λ xs. Cover p xs c.args.from c.args.to) ts c.requires.covers;
      low = subst (λ xs. AreLow p xs (c.in-Some-Some.factor.now ∷ c.in-Some-Some.factors.now) c.args.from c.args.to) ts
          (subst (λ ys. AreLow p c.args.tokens.now ys c.args.from c.args.to) fs c.requires.low);
    }

within : (t : ℕ) (c : After-fixed_length t) → c.args.from + fixed_length c.in-Some-Some.token.now ≤ c.args.to
within t c =
    let it = tokens t c in
    end_within c.args.lines.now c.in-Some-Some.token.now c.in-Some-Some.tokens.now c.in-Some-Some.factor.now
    c.in-Some-Some.factors.now c.args.from c.args.to it.weighted it.fixed it.covers it.low

pub overflow_cast-end : goal.overflow_cast-end
overflow_cast-end t c =
    let l = within t (goal.at.overflow_cast-end t c).After-fixed_length in
    omega (arith, l, c.fixed_length.ensures, c.ranges.to)

pub overflow_add-end : goal.overflow_add-end
overflow_add-end t c =
    let l = within t (goal.at.overflow_add-end t c).After-fixed_length in
    omega (arith, l, c.fixed_length.ensures, c.ranges.to)

-- the product and the sum are no greater than the greatest score
parts : (t : ℕ) (c : After-fixed_length t) (value rest : ℤ)
    → value ≡ token_value c.args.lines.now.grammar c.in-Some-Some.token.now
    (letters_between c.args.lines.now.word c.args.from (c.args.from + c.fixed_length.result))
    → HasTotal c.args.lines.now (HasBestScore c.args.lines.now) c.in-Some-Some.tokens.now c.in-Some-Some.factors.now
    (c.args.from + c.fixed_length.result) c.args.to rest
    → (nat_abs (c.in-Some-Some.factor.now *ℤ value) ≤ greatest_score) × (nat_abs rest ≤ greatest_score)
    × (nat_abs ((c.in-Some-Some.factor.now *ℤ value) +ℤ rest) ≤ greatest_score)
parts t c value rest is has =
    let it = tokens t c in
    let p = c.args.lines.now in
    let V : ℕ → Type 0 = λ n. value ≡ token_value p.grammar c.in-Some-Some.token.now (letters_between p.word c.args.from (c.args.from + n)) in
    let H : ℕ → Type 0 = λ n. HasTotal p (HasBestScore p) c.in-Some-Some.tokens.now c.in-Some-Some.factors.now (c.args.from + n) c.args.to rest in
    token_parts_low p c.in-Some-Some.token.now c.in-Some-Some.tokens.now c.in-Some-Some.factor.now
    c.in-Some-Some.factors.now c.args.from c.args.to it.weighted it.fixed it.covers it.low
    (HasBestScore p) value rest
    (subst V c.fixed_length.ensures is) (subst H c.fixed_length.ensures has)

-- some total of the others
rest_total : (t : ℕ) (c : After-fixed_length t) → (rest : ℤ) × HasTotal c.args.lines.now (HasBestScore c.args.lines.now)
    c.in-Some-Some.tokens.now c.in-Some-Some.factors.now (c.args.from + c.fixed_length.result) c.args.to rest
rest_total t c =
    let it = tokens t c in
    let p = c.args.lines.now in
    let C : ℕ → Type 0 = λ n. Cover p c.in-Some-Some.tokens.now (c.args.from + n) c.args.to in
    let covers = subst C (sym c.fixed_length.ensures) (rest_covers p c.in-Some-Some.token.now c.in-Some-Some.tokens.now
    c.in-Some-Some.factor.now c.in-Some-Some.factors.now c.args.from c.args.to it.weighted it.fixed
    it.covers it.low) in
    let found = fixed_values p (HasBestScore p) c.in-Some-Some.tokens.now (c.args.from + c.fixed_length.result) c.args.to it.fixed.1 covers in
    (weighted_sum c.in-Some-Some.factors.now found.0, (found.0, found.1, refl))

pub overflow_mul-result : goal.overflow_mul-result
overflow_mul-result t c =
    let at = (goal.at.overflow_mul-result t c).After-fixed_length in
    let rest = rest_total t at in
    let fits_factor : FitsSigned w64 c.in-Some-Some.factor.now = search rules in
    let fits_value : FitsSigned w64 c.token_value.result = search rules in
    simp to_z-of_z (fits_below (c.in-Some-Some.factor.now *ℤ c.token_value.result) (parts t at c.token_value.result rest.0 c.token_value.ensures rest.1).0)

pub fixed_total-requires : goal.fixed_total-requires
fixed_total-requires t c =
    let at = (goal.at.fixed_total-requires t c).After-fixed_length in
    let it = tokens t at in
    let p = c.args.lines.now in
    let token = c.in-Some-Some.token.now in
    let others = c.in-Some-Some.tokens.now in
    let factor = c.in-Some-Some.factor.now in
    let factors = c.in-Some-Some.factors.now in
    let C : ℕ → Type 0 = λ n. Cover p others (c.args.from + n) c.args.to in
    let L : ℕ → Type 0 = λ n. AreLow p others factors (c.args.from + n) c.args.to in
    let covers = subst C (sym c.fixed_length.ensures) (rest_covers p token others factor factors c.args.from c.args.to it.weighted it.fixed it.covers it.low) in
    let low = subst L (sym c.fixed_length.ensures) (rest_low p token others factor factors c.args.from c.args.to it.weighted it.fixed it.covers it.low) in
    let fewer = c.in-Some-Some.ensures.cases.1 in
    (search rules, (weighted_rest p token others factor factors it.weighted, (it.fixed.1, (covers, low))))

pub overflow_add-result : goal.overflow_add-result
overflow_add-result t c =
    let at = (goal.at.overflow_add-result t c).After-fixed_length in
    let fits_factor : FitsSigned w64 c.in-Some-Some.factor.now = search rules in
    let fits_value : FitsSigned w64 c.token_value.result = search rules in
    let low = parts t at c.token_value.result c.fixed_total.result c.token_value.ensures c.fixed_total.ensures in
    let fits_product : FitsSigned w64 (c.in-Some-Some.factor.now *ℤ c.token_value.result) =
    fits_below (c.in-Some-Some.factor.now *ℤ c.token_value.result) low.0 in
    let fits_rest : FitsSigned w64 c.fixed_total.result = search rules in
    simp to_z-of_z (fits_below ((c.in-Some-Some.factor.now *ℤ c.token_value.result) +ℤ c.fixed_total.result) low.2)

pub returns : goal.returns
returns t c =
    let at = (goal.at.returns t c).After-fixed_length in
    let it = tokens t at in
    let p = c.args.lines.now in
    let token = c.in-Some-Some.token.now in
    let others = c.in-Some-Some.tokens.now in
    let factor = c.in-Some-Some.factor.now in
    let factors = c.in-Some-Some.factors.now in
    let fits_factor : FitsSigned w64 factor = search rules in
    let fits_value : FitsSigned w64 c.token_value.result = search rules in
    let low = parts t at c.token_value.result c.fixed_total.result c.token_value.ensures c.fixed_total.ensures in
    let fits_product : FitsSigned w64 (factor *ℤ c.token_value.result) = fits_below (factor *ℤ c.token_value.result) low.0 in
    let fits_rest : FitsSigned w64 c.fixed_total.result = search rules in
    let fits_sum : FitsSigned w64 ((factor *ℤ c.token_value.result) +ℤ c.fixed_total.result) =
    fits_below ((factor *ℤ c.token_value.result) +ℤ c.fixed_total.result) low.2 in
    let V : ℕ → Type 0 = λ n. c.token_value.result ≡ token_value p.grammar token (letters_between p.word c.args.from (c.args.from + n)) in
    let H : ℕ → Type 0 = λ n. HasTotal p (HasBestScore p) others factors (c.args.from + n) c.args.to c.fixed_total.result in
    let all = token_total p token others factor factors c.args.from c.args.to it.weighted it.fixed it.covers it.low
    (HasBestScore p) c.token_value.result c.fixed_total.result
    (subst V c.fixed_length.ensures c.token_value.ensures) (subst H c.fixed_length.ensures c.fixed_total.ensures) in
    let total = (factor *ℤ c.token_value.result) +ℤ c.fixed_total.result in
    let here : HasTotal p (HasBestScore p) c.args.tokens.now c.args.factors.now c.args.from c.args.to total =
    subst (λ xs. HasTotal p (HasBestScore p) xs c.args.factors.now c.args.from c.args.to total) (sym c.in-Some-Some.ensures.cases.0)
    (subst (λ ys. HasTotal p (HasBestScore p) (token ∷ others) ys c.args.from c.args.to total) (sym c.in-Some-Some.ensures'.cases.0) all) in
    simp to_z-of_z here

-- ---- where there is but one token

no_more : {X : Type 0} (xs : List X) → length xs ≡ 0 → xs ≡ []
no_more [] none = refl
no_more (x ∷ xs) none = absurd (omega arith)

module _ (tokens : List Arg) (factors : List ℤ) (token : Arg) (others : List Arg) (factor : ℤ) (behind : List ℤ)
    (tokens_is : tokens ≡ token ∷ others) (factors_is : factors ≡ factor ∷ behind)
    (each : length factors ≡ length tokens) (none : length others ≡ 0) where
  one_token : tokens ≡ token ∷ []
  one_token = tokens_is ∙ ap (λ xs. token ∷ xs) (no_more others none)

  one_factor : factors ≡ factor ∷ []
  one_factor = factors_is ∙ ap (λ xs. factor ∷ xs) (no_more behind (omega (arith, ap length factors_is, ap length tokens_is, each, none)))

  to_one : (R : List Arg → List ℤ → Type 0) → R tokens factors → R (token ∷ []) (factor ∷ [])
  to_one R it = subst (λ xs. R xs (factor ∷ [])) one_token (subst (R tokens) one_factor it)

  from_one : (R : List Arg → List ℤ → Type 0) → R (token ∷ []) (factor ∷ []) → R tokens factors
  from_one R it = subst (R tokens) (sym one_factor) (subst (λ xs. R xs (factor ∷ [])) (sym one_token) it)

pub one_total-requires-clause-weighted : goal.one_total-requires-clause-weighted
one_total-requires-clause-weighted t c =
    let it = c.in-Some-Some in
    let none = eqb-true (length it.tokens.now) 0 (sym c.is_empty.ensures ∙ c.if-is_empty.true) in
    let fits_factor : FitsSigned w64 it.factor.now = search rules in
    subst (λ f. AreWeighted c.args.lines.now (it.token.now ∷ []) (f ∷ [])) (sym (to_z-of_z w64 it.factor.now fits_factor))
    (to_one c.args.tokens.now c.args.factors.now it.token.now it.tokens.now it.factor.now it.factors.now
    it.ensures.cases.0 it.ensures'.cases.0 c.requires.weighted.factors_each none
    (AreWeighted c.args.lines.now) c.requires.weighted)

pub returns-then-is_empty : goal.returns-then-is_empty
returns-then-is_empty t c =
    let it = c.in-Some-Some in
    let p = c.args.lines.now in
    let total = c.one_total.result in
    let none = eqb-true (length it.tokens.now) 0 (sym c.is_empty.ensures ∙ c.if-is_empty.true) in
    let fits_factor : FitsSigned w64 it.factor.now = search rules in
    let fits_total : FitsSigned w64 c.one_total.result = search rules in
    let has = subst (λ f. HasTotal p (HasBestScore p) (it.token.now ∷ []) (f ∷ []) c.args.from c.args.to total)
    (to_z-of_z w64 it.factor.now fits_factor) c.one_total.ensures in
    let here = from_one c.args.tokens.now c.args.factors.now it.token.now it.tokens.now it.factor.now it.factors.now
    it.ensures.cases.0 it.ensures'.cases.0 c.requires.weighted.factors_each none
    (λ tokens factors. HasTotal p (HasBestScore p) tokens factors c.args.from c.args.to total) has in
    simp to_z-of_z here
