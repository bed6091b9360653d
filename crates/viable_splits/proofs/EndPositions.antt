-- The positions at which an argument may end.
use Rattle.std.proofs.Common.{◌≡◌, ℕ, ◌+◌, ◌-◌, ◌≤◌, ◌↔◌, Option, IfSome, Bool, true, false, List, ◌++◌, length, take, drop, refl, sym, ap, subst, ◌∙◌, arith, eqb, length-take, length-drop, length-append}
use Rattle.std.specs.List.{AllByRecursion, starts_with}
use Rattle.std.proofs.lemmas.List.{take-take, take_at, take-append-drop}
use Rattle.std.proofs.lemmas.Bool.{false≢true}
use Rattle.std.proofs.lemmas.Bool.Decides.{Decides-eqb}
use Rattle.std.proofs.lemmas.Slice.Eq.{starts_is}
use Rattle.adp_model.specs.declared.grammar.Arg.TheVariants.{Rule, Literal, Run}
use Rattle.adp_model.specs.PosedProblem.{PosedProblem, IsSpan}
use Rattle.adp_model.specs.Parts.{letters_of}
use Rattle.adp_model.specs.Sizes.{IsWithinSizes}
use Rattle.adp_model.specs.Tokens.{letters_between, IsIn}
use Rattle.viable_splits.specs.Placing.{AreEnds, IsClassEnd}

-- the letters of a span are as many as it is long
pub length-letters_between : (word : List ℕ) (from to : ℕ) → IsSpan word from to → length (letters_between word from to) ≡ to - from
length-letters_between word from to span =
    simp (length-take, length-drop) (omega (arith, span.in_order, span.in_word))

-- a number of letters up to the last position keeps a bound exactly where the position that they end at does
abbrev pub KeepsMost : ℕ → ℕ → Option ℕ → ℕ → Type 0
KeepsMost from last high most = (to : ℕ) → from ≤ to → to ≤ last → (to ≤ most) ↔ IfSome high (λ m. to - from ≤ m)

-- a rule may end where the length is within its sizes
pub rule_ends_at : (p : PosedProblem) (rule from last least most : ℕ) (greatest : Option ℕ) → IsSpan p.word from last → ((len : ℕ) → IsWithinSizes p.grammar rule len ↔ ((least ≤ len) × IfSome greatest (λ m. len ≤ m))) → most ≤ last → KeepsMost from last greatest most → AreEnds p (Rule rule) from last (record { start = from + least; end = most + 1 })
rule_ends_at p rule from last least most greatest span sizes within exact =
    record {
      exact = λ to before. (
        λ fits.
            let sized = (sizes (to - from)).0 fits.1 in
            let short = (exact to fits.0.in_order before).1 sized.1 in
            (omega (arith, sized.0, fits.0.in_order), omega arith),
        λ between.
            let long : from ≤ to = omega arith in
            let short : to ≤ most = omega arith in
            let inside : IsSpan p.word from to = record { in_order = long; in_word = omega (arith, span.in_word) } in
            let least_kept : least ≤ to - from = omega arith in
            (inside, (sizes (to - from)).1 (least_kept, (exact to long before).0 short)),
      );
      behind = omega arith;
      up_to_last = omega arith;
    }

-- letters of a class go on as far as they reach
pub class_end_at : (p : PosedProblem) (class from last reach : ℕ) (letters : List ℕ) → IsSpan p.word from last → letters ≡ take (last - from) (drop from p.word) → reach ≤ length letters → ((n : ℕ) → n ≤ length letters → AllByRecursion (IsIn (letters_of p.grammar class)) (take n letters) ↔ (n ≤ reach)) → IsClassEnd p class from last (from + reach)
class_end_at p class from last reach letters span are reached reaches =
    let many : length letters ≡ last - from = ap length are ∙ length-letters_between p.word from last span in
    let same : (to : ℕ) → to ≤ last → take (to - from) letters ≡ letters_between p.word from to =
    λ to l. ap (take (to - from)) are ∙ take-take (to - from) (last - from) (drop from p.word) (omega arith) in
    let order = span.in_order in
    record {
      after = omega arith;
      within = omega arith;
      exact = λ to long short. (
        λ all.
            let taken : AllByRecursion (IsIn (letters_of p.grammar class)) (take (to - from) letters) = subst (AllByRecursion (IsIn (letters_of p.grammar class))) (sym (same to short)) all in
            let reached_to : to - from ≤ reach = (reaches (to - from) (omega arith)).0 taken in
            omega arith,
        λ before. subst (AllByRecursion (IsIn (letters_of p.grammar class))) (same to short) ((reaches (to - from) (omega arith)).1 (omega arith)),
      );
    }

-- a run may end as far as letters of the class go on, within its bounds
pub run_ends_at : (p : PosedProblem) (class low from last most end : ℕ) (high : Option ℕ) → IsSpan p.word from last → from ≤ most → most ≤ last → KeepsMost from last high most → IsClassEnd p class from most end → AreEnds p (Run class low high) from last (record { start = from + low; end = end + 1 })
run_ends_at p class low from last most end high span after within exact class_end =
    let high_end = class_end.within in
    let low_end = class_end.after in
    record {
      exact = λ to before. (
        λ fits.
            let many = length-letters_between p.word from to fits.0 in
            let few : IfSome high (λ m. to - from ≤ m) = subst (λ n. IfSome high (λ m. n ≤ m)) many fits.1.1 in
            let short : to ≤ most = (exact to fits.0.in_order before).1 few in
            let reached : to ≤ end = (class_end.exact to fits.0.in_order short).0 fits.1.2 in
            let long = fits.1.0 in
            (omega (arith, long, many, fits.0.in_order), omega arith),
        λ between.
            let long : from ≤ to = omega arith in
            let short : to ≤ most = omega arith in
            let inside : IsSpan p.word from to = record { in_order = long; in_word = omega (arith, span.in_word) } in
            let many = length-letters_between p.word from to inside in
            let few = (exact to long before).0 short in
            (inside, (omega (arith, many), subst (λ n. IfSome high (λ m. n ≤ m)) (sym many) few, (class_end.exact to long short).1 (omega arith))),
      );
      behind = omega arith;
      up_to_last = omega arith;
    }

-- a literal may end at one position, if it stands there
pub literal_ends_at : (p : PosedProblem) (text : List ℕ) (from last : ℕ) (starts : Bool) → IsSpan p.word from last → starts ≡ starts_with eqb (take (last - from) (drop from p.word)) text → starts ≡ true → AreEnds p (Literal text) from last (record { start = from + length text; end = from + length text + 1 })
literal_ends_at p text from last starts span is holds =
    let s = take (last - from) (drop from p.word) in
    let many : length s ≡ last - from = length-letters_between p.word from last span in
    let front : s ≡ text ++ drop (length text) s = (starts_is Decides-eqb s text starts is).0 holds in
    let long : length text ≤ last - from = omega (arith, length-append text (drop (length text) s), ap length front) in
    let taken : take (length text) (drop from p.word) ≡ text =
    sym (take-take (length text) (last - from) (drop from p.word) long) ∙ ap (take (length text)) front ∙ take_at text (drop (length text) s) (length text) refl in
    record {
      exact = λ to before. (
        λ fits. let many_to = length-letters_between p.word from to fits.0 in
            (omega (arith, many_to, ap length fits.1, fits.0.in_order), omega (arith, many_to, ap length fits.1, fits.0.in_order)),
        λ between.
            let width : to - from ≡ length text = omega arith in
            (record { in_order = omega arith; in_word = omega (arith, span.in_word) }, rw width taken),
      );
      behind = omega arith;
      up_to_last = omega (arith, span.in_order);
    }

-- and at none, if it doesn't
pub literal_ends_nowhere : (p : PosedProblem) (text : List ℕ) (from last : ℕ) (starts : Bool) → IsSpan p.word from last → starts ≡ starts_with eqb (take (last - from) (drop from p.word)) text → starts ≡ false → AreEnds p (Literal text) from last (record { start = from; end = from })
literal_ends_nowhere p text from last starts span is fails =
    let s = take (last - from) (drop from p.word) in
    record {
      exact = λ to before. (
        λ fits.
            let taken : take (to - from) s ≡ text = take-take (to - from) (last - from) (drop from p.word) (omega arith) ∙ fits.1 in
            let whole : s ≡ text ++ drop (to - from) s = sym (take-append-drop (to - from) s) ∙ ap (λ xs. xs ++ drop (to - from) s) taken in
            absurd (false≢true (sym fails ∙ (starts_is Decides-eqb s text starts is).1 (drop (to - from) s) whole)),
        λ between. absurd (omega (arith, between.0, between.1)),
      );
      behind = omega arith;
      up_to_last = omega (arith, span.in_order);
    }
