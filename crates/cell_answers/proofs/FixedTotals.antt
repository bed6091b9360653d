-- The total of tokens of fixed length that match, token by token.
use Rattle.std.proofs.Common.{◌≡◌, ℕ, ◌+◌, ◌≤◌, ℤ, ◌+ℤ◌, ◌*ℤ◌, nat_abs, List, [], ◌∷◌, refl, ap, subst, arith}
use Rattle.std.specs.List.{AllByRecursion}
use Rattle.adp_model.specs.declared.grammar.Arg.{Arg}
use Rattle.adp_model.specs.declared.grammar.Arg.TheVariants.{Rule, Literal, Letter, Run}
use Rattle.adp_model.specs.declared.cell.Cell.{Cell}
use Rattle.adp_model.specs.PosedProblem.{PosedProblem}
use Rattle.adp_model.specs.Tokens.{letters_between, token_value}
use Rattle.adp_model.specs.ProblemFields.{greatest_score}
use Rattle.adp_model.specs.Splits.{FitsSpan}
use Rattle.adp_model.specs.FirstSplit.{IsValue}
use Rattle.viable_splits.specs.Placing.{on_span, Cover}
use Rattle.split_lines.specs.Laid.{IsFixed}
use Rattle.split_lines.specs.Matching.{fixed_length}
use Rattle.cell_answers.specs.Totals.{HaveValues, HasTotal, IsWithinBound, AreLow, AreWeighted}
use Rattle.cell_answers.proofs.Tokens.{fixed_span}
use Rattle.cell_answers.proofs.Dividing.{cover_forward}
use Rattle.cell_answers.proofs.Totalling.{low_rest, low_parts}

-- tokens of fixed length have their values whatever the scores
fixed_kept : (p : PosedProblem) (A B : Cell → ℤ → Type 0) (tokens : List Arg) (from to : ℕ) (values : List ℤ)
    → AllByRecursion IsFixed tokens → HaveValues p A tokens from to values → HaveValues p B tokens from to values
fixed_kept p A B [] from to [] fixed have = have
fixed_kept p A B [] from to (value ∷ values) fixed have = absurd have
fixed_kept p A B (token ∷ tokens) from to [] fixed have = absurd have
fixed_kept p A B (Rule rule ∷ tokens) from to (value ∷ values) fixed have = absurd fixed.0
fixed_kept p A B (Literal text ∷ tokens) from to (value ∷ values) fixed have = (have.0, have.1, have.2, fixed_kept p A B tokens have.0 to values fixed.1 have.3)
fixed_kept p A B (Letter class ∷ tokens) from to (value ∷ values) fixed have = (have.0, have.1, have.2, fixed_kept p A B tokens have.0 to values fixed.1 have.3)
fixed_kept p A B (Run class low high ∷ tokens) from to (value ∷ values) fixed have = absurd fixed.0

token_is_value : (p : PosedProblem) (HasScore : Cell → ℤ → Type 0) (token : Arg) (from to : ℕ) (value : ℤ)
    → IsFixed token → value ≡ token_value p.grammar token (letters_between p.word from to)
    → IsValue p HasScore (on_span token from to) value
token_is_value p HasScore (Rule rule) from to value fixed is = absurd fixed
token_is_value p HasScore (Literal text) from to value fixed is = is
token_is_value p HasScore (Letter class) from to value fixed is = is
token_is_value p HasScore (Run class low high) from to value fixed is = absurd fixed

module _ (p : PosedProblem) (token : Arg) (others : List Arg) (factor : ℤ) (factors : List ℤ) (from to : ℕ)
    (weighted : AreWeighted p (token ∷ others) (factor ∷ factors)) (fixed : AllByRecursion IsFixed (token ∷ others))
    (covers : Cover p (token ∷ others) from to) (low : AreLow p (token ∷ others) (factor ∷ factors) from to) where
  end_is : covers.0 ≡ from + fixed_length token
  end_is = fixed_span p token from covers.0 fixed.0 covers.1

  pub token_fits : FitsSpan p (on_span token from (from + fixed_length token))
  token_fits = subst (λ n. FitsSpan p (on_span token from n)) end_is covers.1

  pub rest_covers : Cover p others (from + fixed_length token) to
  rest_covers = subst (λ n. Cover p others n to) end_is covers.2

  pub end_within : from + fixed_length token ≤ to
  end_within = cover_forward p others (from + fixed_length token) to rest_covers

  pub token_low : nat_abs (token_value p.grammar token (letters_between p.word from (from + fixed_length token))) ≤ greatest_score
  token_low = weighted.tokens_low token from (from + fixed_length token) (0, omega arith, refl) token_fits

  pub rest_low : AreLow p others factors (from + fixed_length token) to
  rest_low = low_rest p token others factor factors from (from + fixed_length token) to low token_fits

  module _ (HasScore : Cell → ℤ → Type 0) (value rest : ℤ)
      (is : value ≡ token_value p.grammar token (letters_between p.word from (from + fixed_length token)))
      (has : HasTotal p HasScore others factors (from + fixed_length token) to rest) where
    pub token_total : HasTotal p HasScore (token ∷ others) (factor ∷ factors) from to ((factor *ℤ value) +ℤ rest)
    token_total = (
      value ∷ has.0,
      (
        from + fixed_length token,
        token_fits,
        token_is_value p HasScore token from (from + fixed_length token) value fixed.0 is,
        has.1,
      ),
      ap (λ it. (factor *ℤ value) +ℤ it) has.2,
    )

    pub token_parts_low : (nat_abs (factor *ℤ value) ≤ greatest_score) × (nat_abs rest ≤ greatest_score)
        × (nat_abs ((factor *ℤ value) +ℤ rest) ≤ greatest_score)
    token_parts_low =
        let has' : HasTotal p (IsWithinBound p) others factors (from + fixed_length token) to rest = (
          has.0,
          fixed_kept p HasScore (IsWithinBound p) others (from + fixed_length token) to has.0 fixed.1
              has.1,
          has.2,
        ) in
        low_parts p (IsWithinBound p) (λ cell score within. within) token others factor factors from
        (from + fixed_length token) to ((factor *ℤ value) +ℤ rest) low
        (record {
          fits = token_fits;
          value = value;
          is_value = token_is_value p (IsWithinBound p) token from
              (from + fixed_length token) value fixed.0 is;
          others = rest;
          have_others = has';
          is = refl;
        })
