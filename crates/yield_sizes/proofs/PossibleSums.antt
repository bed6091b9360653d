-- Sums of sizes that are cut where they are large, against bounds; and sizes of rules that are the same in all lists.
use Rattle.std.proofs.Common.{◌≡◌, ◌↔◌, ℕ, ◌+◌, ◌≤◌, min, inl, inr, Option, Some, None, IfSome, List, [], ◌∷◌, length, get_or, fold, refl, sym, ap, ap₂, subst, ◌∙◌, arith}
use Rattle.std.specs.List.{All}
use Rattle.std.proofs.lemmas.Bool.{cases_lt}
use Rattle.std.proofs.lemmas.List.{get_or_past}
use Rattle.std.proofs.lemmas.List.Elements.{All-get_or, All-from_get_or}
use Rattle.adp_model.specs.declared.grammar.Arg.{Arg}
use Rattle.adp_model.specs.declared.grammar.Arg.TheVariants.{Rule}
use Rattle.adp_model.specs.declared.grammar.Alt.{Alt}
use Rattle.adp_model.specs.declared.grammar.Grammar.{Grammar}
use Rattle.adp_model.specs.GrammarFaults.{HasImpossibleAlternative, HasPossibleAlternatives}
use Rattle.adp_model.specs.Lengths.{low_of, high_of}
use Rattle.adp_model.specs.Parts.{alternatives_of, alternative_at}
use Rattle.adp_model.specs.Sizes.{least_of, greatest_of, least_sum, greatest_sum, sum_of, AreSizesOf, IsPossible}
use Rattle.yield_sizes.specs.Possible.{greatest_sum_kept, kept, kept_least_sum, kept_greatest_sum}
use Rattle.yield_sizes.proofs.GreatestLengths.{sum_regroups, up_to_each_other, zero_sum}

abbrev least_step : List ℕ → ℕ → Arg → ℕ
least_step sizes sum argument = min (sum + least_of sizes argument) greatest_sum_kept

least_from : (sizes : List ℕ) (arguments : List Arg) (total : ℕ) → total ≤ greatest_sum_kept → fold (least_step sizes) total arguments ≡ min (total + least_sum sizes arguments) greatest_sum_kept
least_from sizes [] total few = omega arith
least_from sizes (argument ∷ arguments) total few =
    let rest = least_from sizes arguments (least_step sizes total argument) (omega arith) in
    omega (arith, rest)

pub least_sum_kept : (sizes : List ℕ) (arguments : List Arg) → kept_least_sum sizes arguments ≡ min (least_sum sizes arguments) greatest_sum_kept
least_sum_kept sizes arguments = omega (arith, least_from sizes arguments 0 (omega arith))

abbrev greatest_step : List (Option ℕ) → Option ℕ → Arg → Option ℕ
greatest_step sizes sum argument = kept (sum_of sum (greatest_of sizes argument))

kept_sum : (a b : Option ℕ) → kept (sum_of (kept a) b) ≡ kept (sum_of a b)
kept_sum None b = refl
kept_sum (Some a) None = refl
kept_sum (Some a) (Some b) = let same : min (min a greatest_sum_kept + b) greatest_sum_kept ≡ min (a + b) greatest_sum_kept = omega arith in ap (λ n. Some n) same

kept_none_more : (a : Option ℕ) → sum_of a (Some 0) ≡ a
kept_none_more None = refl
kept_none_more (Some a) = let e : a + 0 ≡ a = omega arith in ap (λ n. Some n) e

kept_twice : (a : Option ℕ) → kept (kept a) ≡ kept a
kept_twice None = refl
kept_twice (Some a) = let same : min (min a greatest_sum_kept) greatest_sum_kept ≡ min a greatest_sum_kept = omega arith in ap (λ n. Some n) same

greatest_from : (sizes : List (Option ℕ)) (arguments : List Arg) (total : Option ℕ) → kept total ≡ total → fold (greatest_step sizes) total arguments ≡ kept (sum_of total (greatest_sum sizes arguments))
greatest_from sizes [] total is = sym is ∙ ap kept (sym (kept_none_more total))
greatest_from sizes (argument ∷ arguments) total is =
    greatest_from sizes arguments (greatest_step sizes total argument) (kept_twice (sum_of total (greatest_of sizes argument)))
    ∙ kept_sum (sum_of total (greatest_of sizes argument)) (greatest_sum sizes arguments)
    ∙ ap kept (sum_regroups total (greatest_of sizes argument) (greatest_sum sizes arguments))

pub greatest_sum_is_kept : (sizes : List (Option ℕ)) (arguments : List Arg) → kept_greatest_sum sizes arguments ≡ kept (greatest_sum sizes arguments)
greatest_sum_is_kept sizes arguments = greatest_from sizes arguments (Some 0) refl ∙ ap kept (zero_sum (greatest_sum sizes arguments))

-- a cut sum reaches a low bound where the sum does
pub reached_as_kept : (low : ℕ) (sum : Option ℕ) → low ≤ greatest_sum_kept → IfSome (kept sum) (λ total. low ≤ total) ↔ IfSome sum (λ total. low ≤ total)
reached_as_kept low None few = (λ h. tt, λ h. tt)
reached_as_kept low (Some sum) few = (λ h. omega arith, λ h. omega arith)

-- ---- the sizes of all rules are one pair of lists

module _ (grammar : Grammar) (least others : List ℕ) (greatest greater : List (Option ℕ)) (are : AreSizesOf grammar least greatest) (also : AreSizesOf grammar others greater) where
  same_least : (rule : ℕ) → get_or least rule 0 ≡ get_or others rule 0
  same_least rule = elim (cases_lt rule (length grammar.rules)) [
    | inl inside ↦
        let h = are.least_are rule inside in
        let k = also.least_are rule inside in
        let low : h.0 ≤ k.0 = h.2 k.0 k.1 in
        let high : k.0 ≤ h.0 = k.2 h.0 h.1 in
        omega (arith, h.3, k.3)
    | inr past ↦ get_or_past least rule 0 (omega (arith, are.least_each)) ∙ sym (get_or_past others rule 0 (omega (arith, also.least_each)))
  ]

  same_greatest : (rule : ℕ) → get_or greatest rule None ≡ get_or greater rule None
  same_greatest rule = elim (cases_lt rule (length grammar.rules)) [
    | inl inside ↦ up_to_each_other _ _ (are.greatest_are.least greater also.greatest_are.are rule inside) (also.greatest_are.least greatest are.greatest_are.are rule inside)
    | inr past ↦ get_or_past greatest rule None (omega (arith, are.greatest_are.are.each)) ∙ sym (get_or_past greater rule None (omega (arith, also.greatest_are.are.each)))
  ]

  same_least_sum : (arguments : List Arg) → least_sum least arguments ≡ least_sum others arguments
  same_least_sum [] = refl
  same_least_sum (Rule rule ∷ arguments) = omega (arith, same_least rule, same_least_sum arguments)
  same_least_sum (token ∷ arguments) = ap (λ n. least_of least token + n) (same_least_sum arguments)

  same_greatest_sum : (arguments : List Arg) → greatest_sum greatest arguments ≡ greatest_sum greater arguments
  same_greatest_sum [] = refl
  same_greatest_sum (Rule rule ∷ arguments) = ap₂ sum_of (same_greatest rule) (same_greatest_sum arguments)
  same_greatest_sum (token ∷ arguments) = ap (sum_of (greatest_of greatest token)) (same_greatest_sum arguments)

  possible_as : (alternative : Alt) → IsPossible least greatest alternative → IsPossible others greater alternative
  possible_as alternative h = (
    subst (λ n. IfSome (high_of alternative.size) (λ most. n ≤ most)) (same_least_sum alternative.args) h.0,
    subst (λ o. IfSome o (λ sum. low_of alternative.size ≤ sum)) (same_greatest_sum alternative.args) h.1,
  )

-- ---- rules

abbrev no_alternative : Alt
no_alternative = record { sign = 0; args = []; size = None }

module _ (grammar : Grammar) (least : List ℕ) (greatest : List (Option ℕ)) (are : AreSizesOf grammar least greatest) (rule : ℕ) where
  pub all_possible : All (IsPossible least greatest) (alternatives_of grammar rule) → HasPossibleAlternatives grammar rule
  all_possible all = λ others greater also alternative l.
      possible_as grammar least others greatest greater are also (alternative_at grammar rule alternative)
      (All-get_or (IsPossible least greatest) (alternatives_of grammar rule) alternative no_alternative l all)

  pub not_all_possible : (All (IsPossible least greatest) (alternatives_of grammar rule) → ⊥) → HasImpossibleAlternative grammar rule
  not_all_possible wrong all = wrong (All-from_get_or (IsPossible least greatest) (alternatives_of grammar rule) no_alternative (λ k l. all least greatest are k l))
