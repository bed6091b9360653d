-- The factors that score an alternative are one list, so those of a tail are too.
use Rattle.std.proofs.Common.{◌≡◌, ℕ, ℤ, pos, ◌+ℤ◌, Option, Some, None, List, [], ◌∷◌, ◌++◌, length, refl, ap, sym}
use Rattle.std.proofs.Common.{subst, ◌∙◌, arith, option_map, append_assoc, length-append}
use Rattle.std.proofs.lemmas.Int.{ints}
use Rattle.std.proofs.Math.IntN.{*ℤ-zero, *ℤ-one}
use Rattle.adp_model.specs.declared.grammar.Arg.{Arg}
use Rattle.adp_model.specs.PosedProblem.{PosedProblem}
use Rattle.adp_model.specs.Parts.{arguments_of}
use Rattle.adp_model.specs.Terms.{weighted_sum}
use Rattle.adp_model.specs.Bellman.{HasBestScore}
use Rattle.adp_model.specs.declared.cell.Cell.{Cell}
use Rattle.split_lines.specs.declared.kept.KeptAlternative.{KeptAlternative}
use Rattle.split_lines.specs.declared.kept.WeightedSum.{WeightedSum}
use Rattle.split_lines.specs.Kept.{IsAlternative, IsScoredBy, IsSummed, factors_behind, factors_in_front}
use Rattle.cell_answers.proofs.FrontScores.{others_each}
use Rattle.score_numbers.specs.Greatest.{IsGreatestOf}
use Rattle.cell_answers.specs.declared.filling.Owner.{Owner}
use Rattle.cell_answers.specs.declared.tails.Tail.{Tail}
use Rattle.cell_answers.specs.Tails.{IsTail, IsTailTotal, IsOwner, tail_with}
use Rattle.cell_answers.specs.Totals.{HasTotal}

-- as many zeros as there are factors
zeros : List ℤ → List ℤ
zeros [] = []
zeros (factor ∷ factors) = pos 0 ∷ zeros factors

zeros_each : (factors : List ℤ) → length (zeros factors) ≡ length factors
unfolding zeros
zeros_each [] = refl
zeros_each (factor ∷ factors) = let rest = zeros_each factors in grind (arith, rest)

zeros_add_nothing : (others factors : List ℤ) → weighted_sum others (zeros factors) ≡ pos 0
unfolding zeros
zeros_add_nothing [] factors = refl
zeros_add_nothing (other ∷ others) [] = refl
zeros_add_nothing (other ∷ others) (factor ∷ factors) =
    let rest = zeros_add_nothing others factors in
    let none = *ℤ-zero other in
    omega (arith, ints, rest, none)

-- two sums that are the same at all values have the same factors
same_constants : (factors others : List ℤ) (constant other : ℤ)
    → ((values : List ℤ) → length values ≡ length factors → (constant +ℤ weighted_sum factors values) ≡ (other +ℤ weighted_sum others values))
    → constant ≡ other
same_constants factors others constant other same =
    let at = same (zeros factors) (zeros_each factors) in
    let here = zeros_add_nothing factors factors in
    let there = zeros_add_nothing others factors in
    omega (arith, ints, at, here, there)

pub same_factors : (factors others : List ℤ) (constant other : ℤ) → length factors ≡ length others
    → ((values : List ℤ) → length values ≡ length factors → (constant +ℤ weighted_sum factors values) ≡ (other +ℤ weighted_sum others values))
    → factors ≡ others
same_factors [] [] constant other each same = refl
same_factors [] (x ∷ others) constant other each same = absurd (omega (arith, each))
same_factors (x ∷ factors) [] constant other each same = absurd (omega (arith, each))
same_factors (x ∷ factors) (y ∷ others) constant other each same =
    let constants = same_constants (x ∷ factors) (y ∷ others) constant other same in
    let at = same (pos 1 ∷ zeros factors) (let l = zeros_each factors in grind (arith, l)) in
    let here = zeros_add_nothing factors factors in
    let there = zeros_add_nothing others factors in
    let first : x ≡ y = omega (arith, ints, at, here, there, constants, *ℤ-one x, *ℤ-one y) in
    let rest = same_factors factors others constant other (omega (arith, each)) (λ values l.
    let more = same (pos 0 ∷ values) (grind (arith, l)) in
    omega (arith, ints, more, *ℤ-zero x, *ℤ-zero y)) in
    cc

-- what ends two equal lists, and is of one length, is the same
same_ends : {A : Type 0} → (before after before' after' : List A) → before ++ after ≡ before' ++ after' → length after ≡ length after' → after ≡ after'
same_ends [] after [] after' same each = same
same_ends [] after (x ∷ before') after' same each = absurd (omega (arith, each, ap length same, length-append before' after'))
same_ends (x ∷ before) after [] after' same each = absurd (omega (arith, each, ap length same, length-append before after))
same_ends (x ∷ before) after (y ∷ before') after' same each = same_ends before after before' after' (cc) each

module _ (p : PosedProblem) (tail : Tail) (arguments others : List Arg) (factors more : List ℤ)
    (is : IsTail p tail arguments factors) (other : IsTail p tail others more) where
  pub same_arguments : arguments ≡ others
  same_arguments = same_ends is.before arguments other.before others (sym is.arguments_are ∙ other.arguments_are) (is.count ∙ sym other.count)

  all_same : is.factors_before ++ factors ≡ other.factors_before ++ more
  all_same =
      same_factors (is.factors_before ++ factors) (other.factors_before ++ more) is.constant other.constant (is.scored.each ∙ sym other.scored.each)
      (λ values l. sym (is.scored.value values (l ∙ is.scored.each)) ∙ other.scored.value values (l ∙ is.scored.each))

  pub same_tail_factors : factors ≡ more
  same_tail_factors =
      same_ends is.factors_before factors other.factors_before more all_same (is.each ∙ is.count ∙ sym other.count ∙ sym other.each)

-- so what is found of its arguments and factors is found of the tail
pub tail_total_is : (p : PosedProblem) (tail : Tail) (arguments : List Arg) (factors : List ℤ) (from to : ℕ)
    (total : Option ℤ) → IsTail p tail arguments factors
    → IsGreatestOf (HasTotal p (HasBestScore p) arguments factors from to) total → IsTailTotal p tail from to total
tail_total_is p tail arguments factors from to total is greatest = λ others more other.
    let A : List Arg → Type 0 = λ others. IsGreatestOf (HasTotal p (HasBestScore p) others more from to) total in
    let F : List ℤ → Type 0 = λ more. IsGreatestOf (HasTotal p (HasBestScore p) arguments more from to) total in
    subst A (same_arguments p tail arguments others factors more is other) (subst F (same_tail_factors p tail arguments others factors more is other) greatest)

-- the arguments behind the first one are a tail too
pub shorter_tail : (p : PosedProblem) (rule alt : ℕ) (argument : Arg) (others : List Arg) (factor : ℤ) (factors : List ℤ)
    → IsTail p (record { rule = rule; alt = alt; count = length (argument ∷ others) }) (argument ∷ others) (factor ∷ factors)
    → IsTail p (record { rule = rule; alt = alt; count = length others }) others factors
shorter_tail p rule alt argument others factor factors is = record {
  before = is.before ++ argument ∷ [];
  factors_before = is.factors_before ++ factor ∷ [];
  constant = is.constant;
  arguments_are = is.arguments_are ∙ sym (append_assoc is.before (argument ∷ []) others);
  count = refl;
  each = omega (arith, is.each);
  scored = subst (λ all. IsScoredBy p rule alt is.constant all) (sym (append_assoc is.factors_before (factor ∷ []) factors)) is.scored;
}

pub shorter_owner : (p : PosedProblem) (owner : Option Owner) (argument : Arg) (others : List Arg) (factor : ℤ)
    (factors : List ℤ) → IsOwner p owner (argument ∷ others) (factor ∷ factors) → IsOwner p owner others factors
shorter_owner p None argument others factor factors is = tt
shorter_owner p (Some it) argument others factor factors is = shorter_tail p it.rule it.alt argument others factor factors is

pub owner_tail : (p : PosedProblem) (owner : Option Owner) (arguments : List Arg) (factors : List ℤ) (tail : Tail)
    → Some tail ≡ option_map (λ it. tail_with it (length arguments)) owner → IsOwner p owner arguments factors
    → IsTail p tail arguments factors
owner_tail p None arguments factors tail same is = absurd cc
owner_tail p (Some it) arguments factors tail same is =
    let e : tail_with it (length arguments) ≡ tail = cc in
    subst (λ tail. IsTail p tail arguments factors) e is

-- all arguments behind the tokens in front, where a sum scores the alternative
pub whole_tail : (p : PosedProblem) (cell : Cell) (alt : ℕ) (kept : KeptAlternative)
    (is : IsAlternative p cell.rule alt kept) (sum : WeightedSum) (summed : IsSummed p cell.rule alt kept sum)
    → IsTail p (record { rule = cell.rule; alt = alt; count = length kept.others.now }) kept.others.now (factors_behind kept sum)
whole_tail p cell alt kept is sum summed = record {
  before = kept.front.now;
  factors_before = factors_in_front kept sum;
  constant = sum.constant;
  arguments_are = is.arguments;
  count = refl;
  each = others_each p cell alt kept is sum summed;
  scored = summed.scored;
}

-- all arguments of an alternative are the longest tail
pub all_arguments_tail : (p : PosedProblem) (rule alt : ℕ) (constant : ℤ) (factors : List ℤ)
    → length factors ≡ length (arguments_of p.grammar rule alt) → IsScoredBy p rule alt constant factors
    → IsTail p (record { rule = rule; alt = alt; count = length (arguments_of p.grammar rule alt) }) (arguments_of p.grammar rule alt) factors
all_arguments_tail p rule alt constant factors each scored = record {
  before = [];
  factors_before = [];
  constant = constant;
  arguments_are = refl;
  count = refl;
  each = each;
  scored = scored;
}
