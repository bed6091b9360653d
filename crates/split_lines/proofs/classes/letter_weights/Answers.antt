use Rattle.std.proofs.Common.{◌≡◌, ℕ, suc, ◌+◌, ◌-◌, ◌<◌, ℤ, pos, Option, Some, None, List, ◌∷◌, FitsSigned, w64, length, drop, set, get_or, refl, sym, ap, subst, ◌∙◌, inl, inr, arith, rules, drop-cons, eqb-true, eq-eqb, length-set}
use Rattle.std.specs.Prelude.{◌==◌}
use Rattle.std.proofs.Math.Seq.{drop-length}
use Rattle.std.proofs.lemmas.Int.{to_z-of_z}
use Rattle.std.proofs.lemmas.List.{get_or-replicate, get_or-set_other, get_or-set_same}
use Rattle.std.proofs.lemmas.Bool.{cases_Bool}
use Rattle.adp_model.specs.Tokens.{weight_of}
use Rattle.split_lines.specs.Classes.{AreLetterWeights}
use Rattle.split_lines.proofs.classes.letter_weights.Goals as goal

-- one entry more
kept : (weights : List (Option ℤ)) (rest : List (ℕ × ℤ)) (entry : ℕ × ℤ) → length weights ≡ 256 → entry.0 < 256 → AreLetterWeights rest weights → AreLetterWeights (entry ∷ rest) (set weights entry.0 (Some entry.1))
kept weights rest entry long low are = λ letter l.
    elim (cases_Bool (entry.0 == letter)) [
      | inl here ↦
          let same : entry.0 ≡ letter = eqb-true entry.0 letter here in
          let found : weight_of (entry ∷ rest) letter ≡ Some entry.1 = rw here refl in
          subst (λ n. get_or (set weights entry.0 (Some entry.1)) n None ≡ Some entry.1) same (get_or-set_same weights entry.0 (Some entry.1) None (omega (arith, low, long))) ∙ sym found
      | inr there ↦
          let missed : weight_of (entry ∷ rest) letter ≡ weight_of rest letter = rw there refl in
          get_or-set_other weights entry.0 letter (Some entry.1) None (λ e. absurd (let here = eq-eqb entry.0 letter (sym e) in cc)) ∙ are letter l ∙ sym missed
    ]

pub loop-number-init : goal.loop-number-init
loop-number-init c = record {
  each = search rules;
  told = λ letter l. get_or-replicate 256 letter None None l ∙ sym (ap (λ class. weight_of class letter) (drop-length c.args.class.now));
}

pub loop-number-preserved : goal.loop-number-preserved
loop-number-preserved c =
    let class = c.args.class.now in
    let number = c.loop-number.number - 1 in
    let weights = c.loop-number.weights in
    let entry : ℕ × ℤ = get_or class number (0, pos 0) in
    let back : number + 1 ≡ c.loop-number.number = omega arith in
    let low : entry.0 < 256 = search rules in
    let fits : FitsSigned w64 entry.1 = search rules in
    let value = to_z-of_z w64 entry.1 fits in
    let next : suc number ≡ c.loop-number.number = omega arith in
    let opened : drop number class ≡ entry ∷ drop c.loop-number.number class = subst (λ n. drop number class ≡ entry ∷ drop n class) next (drop-cons class number (0, pos 0) (omega (arith, c.loop-number.auto.number))) in
    record {
      each = length-set weights entry.0 _ ∙ c.loop-number.invariant.each;
      told = λ letter l. ap (λ w. get_or (set weights entry.0 (Some w)) letter None) value ∙ kept weights (drop c.loop-number.number class) entry c.loop-number.invariant.each low c.loop-number.invariant.told letter l ∙ sym (ap (λ it. weight_of it letter) opened);
    }
