use Rattle.std.proofs.Common.{◌≡◌, ℕ, ◌+◌, ◌*◌, ◌^◌, ◌<◌, ◌≤◌, ℤ, pos, ◌+ℤ◌, nat_abs, FitsSigned, w64, to_z, of_z, Some, None, List, length, get_or, ap, sym, subst, ◌∙◌, rules, arith}
use Rattle.std.specs.Int.{w128}
use Rattle.std.proofs.lemmas.Int.{ints, to_z-of_z}
use Rattle.adp_model.specs.Tokens.{weight_of}
use Rattle.split_lines.proofs.ClassFacts.{IsSumOf, total_more, total_same, total_between}
use Rattle.split_lines.proofs.Growing.{holds_more}
use Rattle.split_lines.proofs.classes.sums.Goals as goal
use Rattle.split_lines.proofs.classes.sums.Goals.{in-Some, in_default}

low_more : (i : ℕ) (sum weight : ℤ) → nat_abs sum ≤ 2 ^ 63 * i → nat_abs weight ≤ 2 ^ 63 → nat_abs (sum +ℤ weight) ≤ 2 ^ 63 * (i + 1)
low_more i sum weight l m = omega (arith, ints)

fits_more : (i : ℕ) (sum weight : ℤ) → nat_abs sum ≤ 2 ^ 63 * i → nat_abs weight ≤ 2 ^ 63 → i < 4000 → FitsSigned w128 (sum +ℤ weight)
fits_more i sum weight l m few = omega (arith, ints)

pub loop-letter-preserved : goal.loop-letter-preserved
loop-letter-preserved c =
    let class = c.args.class.class.now in
    let word = c.args.word.now in
    let i = c.loop-letter.letter-index in
    let sums = c.loop-letter.sums.items in
    let within : i < length word = omega arith in
    let now = c.loop-letter.invariant.now.0 in
    let low = c.loop-letter.invariant.now.1 in
    let L : ℤ → Type 0 = λ it. nat_abs it ≤ 2 ^ 63 * (i + 1) in
    let sum : ℤ = to_z w128 c.match-weight_of.sum-bits in
    let old : ℤ = to_z w128 c.loop-letter.sum-bits in
    let both : IsSumOf class word (i + 1) sum =
    elim c.match-weight_of.branch [
      | in-Some w ↦
          let fits : FitsSigned w64 w.in-Some.weight = search rules in
          let weight : w.from-sum.result ≡ w.in-Some.weight = w.from-sum.ensures ∙ to_z-of_z w64 w.in-Some.weight fits in
          let small : nat_abs w.from-sum.result ≤ 2 ^ 63 = omega (arith, ints, fits, weight) in
          let wide : FitsSigned w128 w.from-sum.result = omega (arith, ints, small) in
          let e = w.sum-is ∙ ap (λ it. to_z w128 (of_z w128 (old +ℤ it))) (to_z-of_z w128 w.from-sum.result wide) ∙ to_z-of_z w128 (old +ℤ w.from-sum.result) (fits_more i old w.from-sum.result low small (omega arith)) in
          let found : weight_of class (get_or word i 0) ≡ Some w.from-sum.result = sym c.weight_of.ensures ∙ w.in-Some.is ∙ ap Some (sym weight) in
          (e ∙ ap (λ it. it +ℤ w.from-sum.result) now ∙ sym (total_more class word i w.from-sum.result within found), subst L (sym e) (low_more i old w.from-sum.result low small))
      | in_default w ↦
          let missed : weight_of class (get_or word i 0) ≡ None = sym c.weight_of.ensures ∙ w.in_default.is in
          let kept : L old = omega (arith, low) in
          (w.sum-is ∙ now ∙ sym (total_same class word i within missed), subst L (sym w.sum-is) kept)
    ] in
    let T : List ℤ → Type 0 = λ items. (position : ℕ) → position ≤ i + 1 → IsSumOf class word position (get_or items position (pos 0)) in
    record {
      each = omega (arith, c.in_ok-push-2.ensures.len, c.loop-letter.invariant.each);
      now = both;
      told = subst T (sym {A = List ℤ} c.in_ok-push-2.ensures.items) (holds_more (IsSumOf class word) sums i sum (pos 0) c.loop-letter.invariant.each c.loop-letter.invariant.told both);
    }

pub returns : goal.returns
returns c =
    let class = c.args.class.class.now in
    let word = c.args.word.now in
    let told = c.loop-letter.invariant.told in
    let whole : length word ≤ c.loop-letter.letter-index = omega arith in
    record {
      each = omega (arith, c.loop-letter.invariant.each);
      told = λ from to span.
          let before = told from (omega (arith, span.in_order, span.in_word)) in
          let behind = told to (omega (arith, span.in_word)) in
          omega (arith, ints, before.0, behind.0, total_between class word from to span);
      low = λ position l. (told position (omega (arith, l, whole))).1;
    }
