-- The parts of an alternative as they are taken, and where its tokens in front may begin.
use Rattle.std.proofs.Common.{◌≡◌, ℕ, zero, suc, ◌+◌, ◌-◌, ◌<◌, ◌≤◌, Some, List, [], ◌∷◌, ◌++◌, length, take, drop, map, slice_get, true, false, refl, sym, ap, subst, ◌∙◌, inl, inr, arith, length-take, length-drop}
use Rattle.std.specs.Prelude.{IfSome}
use Rattle.std.specs.List.{AllByRecursion}
use Rattle.std.proofs.lemmas.Bool.{cases_lt}
use Rattle.std.proofs.lemmas.List.{length-map, take-append-drop, take-take}
use Rattle.std.proofs.Math.Seq.{take-add}
use Rattle.adp_model.specs.declared.grammar.Arg.{Arg}
use Rattle.adp_model.specs.declared.grammar.Arg.TheVariants.{Rule, Literal, Letter, Run}
use Rattle.adp_model.specs.declared.grammar.Term.{Term}
use Rattle.adp_model.specs.PosedProblem.{PosedProblem}
use Rattle.adp_model.specs.Parts.{algebra_of, alternative_at, arguments_of, term_of}
use Rattle.adp_model.specs.WellFormed.{IsKnown}
use Rattle.viable_splits.specs.Placing.{Cover}
use Rattle.split_lines.specs.declared.kept.KeptAlternative.{KeptAlternative}
use Rattle.split_lines.specs.declared.kept.WeightedSum.{WeightedSum}
use Rattle.score_numbers.specs.Worthless.{AreWorthless}
use Rattle.split_lines.specs.Kept.{AreOneLetter, AreOneOfClass, BeginWith, HasLengths, IsAlternative, IsScored, IsSummed, factors_behind, factors_in_front, first_text}
use Rattle.split_lines.specs.Beginnings.{StandsAt}
use Rattle.split_lines.specs.Laid.{IsFixed}
use Rattle.split_lines.specs.Matching.{HaveLetters}
use Rattle.score_numbers.specs.Turned.{turned}
use Rattle.term_values.specs.declared.lowering.LinearForm.{LinearForm}
use Rattle.term_values.specs.Lowering.{IsLowered}
use Rattle.split_lines.proofs.TurnedTerms.{FurtherAddNothing, scored_by_turned}
use Rattle.split_lines.proofs.Lists.{all_front, all_back, slice_get-drop, slice_get-take, empty_without}

-- ---- the first letter

-- a letter stands within the word
pub within_word : (word : List ℕ) (from letter : ℕ) → slice_get word from ≡ Some letter → from < length word
within_word [] from letter e = absurd cc
within_word (x ∷ word) zero letter e = omega arith
within_word (x ∷ word) (suc from) letter e = let l = within_word word from letter e in omega arith

first_of : (n : ℕ) (xs : List ℕ) (letter : ℕ) (rest : List ℕ) → take n xs ≡ letter ∷ rest → slice_get xs 0 ≡ Some letter
first_of zero xs letter rest e = absurd cc
first_of (suc n) [] letter rest e = absurd cc
first_of (suc n) (x ∷ xs) letter rest e = let same : x ≡ letter = cc in ap Some same

-- where tokens match that begin with a letter, the letter stands
pub letter_stands : (p : PosedProblem) (tokens : List Arg) (letter from to : ℕ) → BeginWith tokens letter → Cover p tokens from to → slice_get p.word from ≡ Some letter
letter_stands p tokens letter from to begin cover =
    let there : Cover p (Literal (letter ∷ begin.letters) ∷ begin.others) from to = subst (λ them. Cover p them from to) begin.are cover in
    let same : from ≡ from + 0 = omega arith in
    ap (slice_get p.word) same ∙ sym (slice_get-drop from 0 p.word) ∙ first_of (there.0 - from) (drop from p.word) letter begin.letters (sym (sym there.1.1))

stands_in_front : (n : ℕ) (xs text : List ℕ) → take n xs ≡ text → (place letter : ℕ) → slice_get text place ≡ Some letter → slice_get xs place ≡ Some letter
stands_in_front n xs text e place letter is =
    elim (cases_lt place n) [
      | inl inside ↦ sym (slice_get-take n place xs inside) ∙ ap (λ them. slice_get them place) e ∙ is
      | inr past ↦
          let l = within_word text place letter is in
          absurd (omega (arith, l, past, length-take n xs, ap length e))
    ]

-- where tokens match, the letters of a literal that is the first of them stand
pub text_stands : (p : PosedProblem) (tokens : List Arg) (from to : ℕ) → Cover p tokens from to → StandsAt p.word from (first_text tokens)
text_stands p [] from to cover place letter is = absurd cc
text_stands p (Rule rule ∷ tokens) from to cover place letter is = absurd cc
text_stands p (Literal text ∷ tokens) from to cover place letter is =
    sym (slice_get-drop from place p.word) ∙ stands_in_front (cover.0 - from) (drop from p.word) text (sym (sym cover.1.1)) place letter is
text_stands p (Letter class ∷ tokens) from to cover place letter is = absurd cc
text_stands p (Run class low high ∷ tokens) from to cover place letter is = absurd cc

-- the rest of a word from a letter that stands in it
rest_of : (xs : List ℕ) (letter : ℕ) → slice_get xs 0 ≡ Some letter → take 1 xs ≡ letter ∷ []
rest_of [] letter e = absurd cc
rest_of (x ∷ xs) letter e = let same : x ≡ letter = cc in ap (λ it. it ∷ []) same

one_letter : (text : List ℕ) (letter : ℕ) (letters : List ℕ) → text ≡ letter ∷ letters → length text ≡ 1 → text ≡ letter ∷ []
one_letter text letter letters e one =
    let none : length letters ≡ 0 = omega (arith, ap length e) in
    e ∙ ap (λ it. letter ∷ it) (empty_without letters none)

-- a literal of one letter matches where the letter stands
pub letter_covers : (p : PosedProblem) (tokens : List Arg) (letter from : ℕ) → BeginWith tokens letter → AreOneLetter tokens → slice_get p.word from ≡ Some letter → Cover p tokens from (from + 1)
letter_covers p tokens letter from begin alone stands =
    let both : Literal (letter ∷ begin.letters) ∷ begin.others ≡ Literal alone.text ∷ [] = sym begin.are ∙ alone.are in
    let text_is : alone.text ≡ letter ∷ begin.letters = cc in
    let text : alone.text ≡ letter ∷ [] = one_letter alone.text letter begin.letters text_is alone.one in
    let same : from ≡ from + 0 = omega arith in
    let there : slice_get (drop from p.word) 0 ≡ Some letter = slice_get-drop from 0 p.word ∙ ap (slice_get p.word) (sym same) ∙ stands in
    let width : from + 1 - from ≡ 1 = omega arith in
    let matched : take (from + 1 - from) (drop from p.word) ≡ alone.text = ap (λ n. take n (drop from p.word)) width ∙ rest_of (drop from p.word) letter there ∙ sym text in
    let l = within_word p.word from letter stands in
    let C : List Arg → Type 0 = λ them. Cover p them from (from + 1) in
    subst C (sym alone.are) (from + 1, (record { in_order = omega arith; in_word = omega arith }, matched), refl)

-- ---- the parts

-- the arguments up to this number stand in front
pub alternative_kept : (p : PosedProblem) (rule alternative : ℕ) (kept : KeptAlternative) (all : List Arg) (n : ℕ)
    → all ≡ arguments_of p.grammar rule alternative → length all ≤ 4 → AllByRecursion (IsKnown p.grammar) all → n ≤ length all → AllByRecursion IsFixed (take n all) → kept.front.now ≡ take n all → kept.others.now ≡ drop n all
    → HaveLetters p kept.front.now kept.letters → IfSome kept.first (BeginWith kept.front.now) → (kept.alone ≡ true → AreOneLetter kept.front.now) → IfSome kept.class (AreOneOfClass kept.front.now)
    → HasLengths (alternative_at p.grammar rule alternative) kept.lengths → IsScored p rule alternative kept kept.scoring → IsAlternative p rule alternative kept
alternative_kept p rule alternative kept all n all_is few known within fixed front_is others_is letters first alone class lengths scored =
    let K : List Arg → Type 0 = AllByRecursion (IsKnown p.grammar) in
    let parted : K (take n all ++ drop n all) = subst K (sym (take-append-drop n all)) known in
    let front_long : length kept.front.now ≡ n = omega (arith, ap length front_is, length-take n all) in
    let others_long : length kept.front.now + length kept.others.now ≡ length all = omega (arith, front_long, ap length others_is, length-drop n all) in
    record {
      arguments = sym all_is ∙ sym (take-append-drop n all) ∙ (λ i. sym front_is i ++ sym others_is i);
      few = omega (arith, few, others_long);
      in_front = record {
        known = subst K (sym front_is) (all_front (IsKnown p.grammar) (take n all) (drop n all) parted);
        fixed = subst (AllByRecursion IsFixed) (sym front_is) fixed;
        letters = letters;
        first = first;
        alone = alone;
        class = class;
      };
      others_known = subst K (sym others_is) (all_back (IsKnown p.grammar) (take n all) (drop n all) parted);
      lengths = lengths;
      scored = scored;
    }

-- the sum that its term is lowered to, turned, scores an alternative
pub alternative_summed : FurtherAddNothing → (p : PosedProblem) (rule alternative : ℕ) (kept : KeptAlternative) (sum : WeightedSum) (term : Term) (lowered : LinearForm) (all : List Arg) (n : ℕ)
    → all ≡ arguments_of p.grammar rule alternative → length all ≤ length lowered.factors → n ≤ length all → kept.front.now ≡ take n all → kept.others.now ≡ drop n all
    → term ≡ term_of p rule alternative → IsLowered term lowered
    → sum.constant ≡ turned (algebra_of p).goal lowered.constant → take (length lowered.factors) sum.factors ≡ map (turned (algebra_of p).goal) lowered.factors
    → (kept.weighs ≡ false → AreWorthless kept.front.now (take (length kept.front.now) sum.factors)) → IsSummed p rule alternative kept sum
alternative_summed law p rule alternative kept sum term lowered all n all_is enough within front_is others_is term_is is constant factors worthless =
    let goal = (algebra_of p).goal in
    let count = length (arguments_of p.grammar rule alternative) in
    let front_long : length kept.front.now ≡ n = omega (arith, ap length front_is, length-take n all) in
    let others_long : length kept.front.now + length kept.others.now ≡ length all = omega (arith, front_long, ap length others_is, length-drop n all) in
    let counted : count ≡ length kept.front.now + length kept.others.now = sym (ap length all_is) ∙ sym others_long in
    let all_there : length lowered.factors ≤ length sum.factors =
    omega (arith, length-take (length lowered.factors) sum.factors, ap length factors, length-map lowered.factors (turned goal)) in
    let few : count ≤ length lowered.factors = omega (arith, enough, ap length all_is) in
    let taken : take count (map (turned goal) lowered.factors) ≡ factors_in_front kept sum ++ factors_behind kept sum =
    ap (take count) (sym factors) ∙ take-take count (length lowered.factors) sum.factors few ∙ ap (λ m. take m sum.factors) counted
    ∙ take-add (length kept.front.now) (length kept.others.now) sum.factors in
    record {
      scored = scored_by_turned law p rule alternative sum.constant (factors_in_front kept sum ++ factors_behind kept sum) term lowered term_is is constant taken few;
      front_each = omega (arith, enough, others_long, all_there, length-take (length kept.front.now) sum.factors);
      worthless = worthless;
    }
