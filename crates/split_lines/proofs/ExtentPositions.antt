-- The extent of an argument, and the positions at which it may end and begin.
use Rattle.std.proofs.Common.{◌≡◌, ◌↔◌, ℕ, max, min, ◌+◌, ◌-◌, ◌<◌, ◌≤◌, Option, Some, None, IfSome, length, subst, sym, arith}
use Rattle.adp_model.specs.declared.grammar.Arg.{Arg}
use Rattle.adp_model.specs.declared.grammar.Arg.TheVariants.{Rule, Run}
use Rattle.adp_model.specs.PosedProblem.{PosedProblem, IsSpan}
use Rattle.adp_model.specs.ProblemFields.{most_letters}
use Rattle.adp_model.specs.Sizes.{IsWithinSizes}
use Rattle.viable_splits.specs.Placing.{AreEnds}
use Rattle.split_lines.specs.declared.extents.Extent.{Extent}
use Rattle.split_lines.specs.Begins.{AreStarts}
use Rattle.split_lines.specs.Extents.{AreOfClass, IsExtent}
use Rattle.split_lines.proofs.TokenSpans.{length-letters_between}

-- a length keeps two bounds exactly where it keeps those of the extent
abbrev pub KeepsExtent : ℕ → Option ℕ → Extent → Type 0
KeepsExtent least most extent =
    (len : ℕ) → len ≤ most_letters → ((least ≤ len) × IfSome most (λ most. len ≤ most)) ↔ ((extent.least ≤ len) × (len ≤ extent.most))

pub rule_extent : (p : PosedProblem) (rule least : ℕ) (greatest : Option ℕ) (extent : Extent) → ((len : ℕ) → IsWithinSizes p.grammar rule len ↔ ((least ≤ len) × IfSome greatest (λ most. len ≤ most))) → extent.class ≡ None → KeepsExtent least greatest extent → IsExtent p (Rule rule) extent
rule_extent p rule least greatest extent sizes none keeps = record {
  class_known = subst (λ (class : Option ℕ). IfSome class (λ class. class < length p.grammar.classes)) (sym none) tt;
  exact = λ from to span short. (
    λ fits.
        let kept = (keeps (to - from) (omega arith)).0 ((sizes (to - from)).0 fits.1) in
        (kept.0, kept.1, subst (λ (class : Option ℕ). AreOfClass p class from to) (sym none) tt),
    λ it. (span, (sizes (to - from)).1 ((keeps (to - from) (omega arith)).1 (it.0, it.1))),
  );
}

pub run_extent : (p : PosedProblem) (class low : ℕ) (high : Option ℕ) (extent : Extent) → class < length p.grammar.classes → extent.class ≡ Some class → KeepsExtent low high extent → IsExtent p (Run class low high) extent
run_extent p class low high extent known is keeps = record {
  class_known = subst (λ (class : Option ℕ). IfSome class (λ class. class < length p.grammar.classes)) (sym is) known;
  exact = λ from to span short.
      let many = length-letters_between p.word from to span in (
        λ fits.
            let few : IfSome high (λ most. to - from ≤ most) = subst (λ n. IfSome high (λ most. n ≤ most)) many fits.1.1 in
            let long : low ≤ to - from = omega (arith, many, fits.1.0) in
            let kept = (keeps (to - from) (omega arith)).0 (long, few) in
            (kept.0, kept.1, subst (λ (class : Option ℕ). AreOfClass p class from to) (sym is) fits.1.2),
        λ it.
            let kept = (keeps (to - from) (omega arith)).1 (it.0, it.1) in
            (span, (omega (arith, many, kept.0), subst (λ n. IfSome high (λ most. n ≤ most)) (sym many) kept.1, subst (λ (class : Option ℕ). AreOfClass p class from to) is it.2)),
      );
}

-- where an argument ends that has as many letters as its extent allows, of its class
pub extent_ends : (p : PosedProblem) (argument : Arg) (extent : Extent) (from last most end : ℕ) → IsExtent p argument extent → IsSpan p.word from last → last ≤ most_letters → most ≡ min last (from + extent.most) → end ≤ most
    → ((to : ℕ) → from ≤ to → to ≤ most → AreOfClass p extent.class from to ↔ (to ≤ end)) → AreEnds p argument from last (record { start = from + extent.least; end = end + 1 })
extent_ends p argument extent from last most end is span short most_is within reaches = record {
  exact = λ to before. (
    λ fits.
        let it = (is.exact from to fits.0 (omega arith)).0 fits in
        let order = fits.0.in_order in
        let inside : to ≤ most = omega (arith, it.1) in
        let reached = (reaches to order inside).0 it.2 in
        (omega (arith, it.0), omega arith),
    λ between.
        let order : from ≤ to = omega (arith, between.0) in
        let reached : to ≤ end = omega (arith, between.1) in
        let inside : IsSpan p.word from to = record { in_order = order; in_word = omega (arith, span.in_word) } in
        let of_class = (reaches to order (omega arith)).1 reached in
        (is.exact from to inside (omega arith)).1 (omega (arith, between.0), omega arith, of_class),
  );
  behind = omega arith;
  up_to_last = omega arith;
}

-- and where it begins
pub extent_starts : (p : PosedProblem) (argument : Arg) (extent : Extent) (first to longest start past : ℕ) → IsExtent p argument extent → IsSpan p.word first to → to ≤ most_letters → longest ≡ max first (to - extent.most) → longest ≤ start
    → ((from : ℕ) → longest ≤ from → from ≤ to → AreOfClass p extent.class from to ↔ (start ≤ from)) → past ≡ to + 1 - extent.least → AreStarts p argument first to (record { start = start; end = past })
extent_starts p argument extent first to longest start past is span short longest_is from_longest reaches past_is = record {
  exact = λ from after. (
    λ fits.
        let it = (is.exact from to fits.0 short).0 fits in
        let order = fits.0.in_order in
        let inside : longest ≤ from = omega (arith, it.1) in
        let reached = (reaches from inside order).0 it.2 in
        (reached, omega (arith, it.0)),
    λ between.
        let order : from ≤ to = omega (arith, between.1) in
        let reached : start ≤ from = between.0 in
        let inside : IsSpan p.word from to = record { in_order = order; in_word = span.in_word } in
        let of_class = (reaches from (omega arith) order).1 reached in
        (is.exact from to inside short).1 (omega (arith, between.1), omega arith, of_class),
  );
  from_first = omega arith;
  before = omega arith;
}
