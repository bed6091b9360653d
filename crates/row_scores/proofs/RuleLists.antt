-- Alternatives and rules as rows ask for them, one more at a time.
use Rattle.std.proofs.Common.{◌≡◌, ℕ, suc, ◌+◌, ◌<◌, ◌≤◌, ℤ, Some, List, [], ◌∷◌, ◌++◌, length, take, get_or, slice_get, refl, sym, ap, subst, ◌∙◌, inl, inr, arith, length-append}
use Rattle.std.proofs.lemmas.List.{map-append, take_all}
use Rattle.std.proofs.lemmas.Option.{slice_get-get_or, slice_get-map}
use Rattle.std.specs.Option.{option_map}
use Rattle.std.proofs.Math.Seq.{take-add, take-suc}
use Rattle.adp_model.specs.PosedProblem.{PosedProblem}
use Rattle.adp_model.specs.Parts.{alternative_at, alternatives_of, arguments_of}
use Rattle.split_lines.specs.declared.kept.KeptAlternative.{KeptAlternative}
use Rattle.split_lines.specs.declared.kept.Scoring.TheVariants.{Sum}
use Rattle.split_lines.specs.declared.kept.WeightedSum.{WeightedSum}
use Rattle.split_lines.specs.Kept.{HasLengths, IsAlternative, IsScored, IsScoredBy, IsSummed}
use Rattle.row_scores.specs.declared.rules.RowAlternative.{RowAlternative}
use Rattle.row_scores.specs.declared.rules.RowRule.{RowRule}
use Rattle.row_scores.specs.Order.{AreInRowOrder}
use Rattle.row_scores.specs.RowRules.{AreRowAlternatives, AreRowRules, IsRowAlternative, IsRowRule, numbers_of}
use Rattle.row_scores.proofs.Pushed.{get_push}

-- what is kept of an alternative that a sum scores
pub is_row_alternative : (p : PosedProblem) (rule alternative : ℕ) (kept : KeptAlternative) (sum : WeightedSum) (it : RowAlternative)
    → IsAlternative p rule alternative kept → kept.scoring ≡ Sum sum → alternative < length (alternatives_of p.grammar rule)
    → it.arguments.now ≡ arguments_of p.grammar rule alternative → it.sum ≡ sum → it.lengths ≡ kept.lengths
    → IsRowAlternative p rule alternative it
is_row_alternative p rule alternative kept sum it is scoring in_range arguments same lengths =
    let summed : IsSummed p rule alternative kept sum = subst (IsScored p rule alternative kept) scoring is.scored in
    let each : length kept.front.now + length kept.others.now ≡ length it.arguments.now =
    sym (length-append kept.front.now kept.others.now) ∙ sym (ap length is.arguments) ∙ sym (ap length arguments) in
    let factors : List ℤ = sum.factors in
    let all = take-add (length kept.front.now) (length kept.others.now) factors in
    record {
      in_range = in_range;
      arguments = arguments;
      scored = subst (λ (s : WeightedSum). IsScoredBy p rule alternative s.constant (take (length it.arguments.now) s.factors)) (sym same)
          (subst (λ n. IsScoredBy p rule alternative sum.constant (take n factors)) each
          (subst (IsScoredBy p rule alternative sum.constant) (sym all) summed.scored));
      lengths = subst (λ l. HasLengths (alternative_at p.grammar rule alternative) l) (sym lengths) is.lengths;
    }

pub none_yet : (p : PosedProblem) (rule : ℕ) → AreRowAlternatives p rule 0 []
none_yet p rule = record { each = refl; are = λ alternative it e. absurd cc }

pub one_more : (p : PosedProblem) (rule count : ℕ) (alternatives : List RowAlternative) (it : RowAlternative)
    → AreRowAlternatives p rule count alternatives → IsRowAlternative p rule count it
    → AreRowAlternatives p rule (count + 1) (alternatives ++ it ∷ [])
one_more p rule count alternatives it before is = record {
  each = omega (arith, length-append alternatives (it ∷ []), before.each);
  are = λ alternative other there. elim (get_push alternatives it alternative other there) [
    | inl was ↦ before.are alternative other was
    | inr (at, same) ↦
        let here : count ≡ alternative = sym (at ∙ before.each) in
        subst (λ n. IsRowAlternative p rule n other) here (subst (IsRowAlternative p rule count) same is)
  ];
}

-- the rules of the first numbers of the order
pub record AreFirstRules (p : PosedProblem) (order : List ℕ) (count : ℕ) (rules : List RowRule) : Type 0 where
  pub are : (number : ℕ) (it : RowRule) → slice_get rules number ≡ Some it → IsRowRule p it
  pub numbers : numbers_of rules ≡ take count order

pub no_rules : (p : PosedProblem) (order : List ℕ) → AreFirstRules p order 0 []
no_rules p order = record { are = λ number it e. absurd cc; numbers = refl }

pub rule_more : (p : PosedProblem) (order : List ℕ) (count : ℕ) (rules : List RowRule) (it : RowRule)
    → AreFirstRules p order count rules → count < length order → it.rule ≡ get_or order count 0 → IsRowRule p it
    → AreFirstRules p order (count + 1) (rules ++ it ∷ [])
rule_more p order count rules it before l same is = record {
  are = λ number other there. elim (get_push rules it number other there) [
    | inl was ↦ before.are number other was
    | inr (at, e) ↦ subst (IsRowRule p) e is
  ];
  numbers =
      map-append (λ (r : RowRule). r.rule) rules (it ∷ [])
      ∙ ap (λ numbers. numbers ++ it.rule ∷ []) before.numbers
      ∙ ap (λ n. take count order ++ n ∷ []) same
      ∙ sym (take-suc order count 0 l)
      ∙ ap (λ n. take n order) (let e : suc count ≡ count + 1 = omega arith in e);
}

pub all_rules : (p : PosedProblem) (order : List ℕ) (count : ℕ) (rules : List RowRule) → AreFirstRules p order count rules → length order ≤ count
    → AreInRowOrder p order → AreRowRules p rules
all_rules p order count rules it whole is = record {
  are = it.are;
  in_order = subst (AreInRowOrder p) (sym (it.numbers ∙ take_all count order whole)) is;
}

-- an alternative of a list of them
pub item_of : (p : PosedProblem) (rule count : ℕ) (alternatives items : List RowAlternative) → AreRowAlternatives p rule count alternatives
    → items ≡ alternatives → (number : ℕ) (it : RowAlternative) → number < length items → it ≡ get_or items number it → IsRowAlternative p rule number it
item_of p rule count alternatives items are same number it l is =
    are.are number it (sym (ap (λ all. slice_get all number) same) ∙ slice_get-get_or items number it l ∙ ap Some (sym is))

-- a rule of those in order, and where its number stands
pub rule_of : (rules : List RowRule) (number : ℕ) (it : RowRule) → number < length rules → it ≡ get_or rules number it → slice_get rules number ≡ Some it
rule_of rules number it l is = slice_get-get_or rules number it l ∙ ap Some (sym is)

pub number_of : (rules : List RowRule) (number : ℕ) (it : RowRule) → slice_get rules number ≡ Some it → slice_get (numbers_of rules) number ≡ Some it.rule
number_of rules number it there = slice_get-map (λ (r : RowRule). r.rule) rules number ∙ ap (option_map (λ (r : RowRule). r.rule)) there
