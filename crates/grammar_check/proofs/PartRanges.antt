-- Arguments as parts: a length up to the greatest that counts is in an argument's range where it is in the part's.
use Rattle.std.proofs.Common.{◌≡◌, ℕ, zero, suc, ◌+◌, ◌<◌, ◌≤◌, Option, Some, None, IfSome, List, [], ◌∷◌, length, sum, slice_index, slice_index_or, inl, inr, refl, subst, arith, ◌↔◌}
use Rattle.std.specs.List.{AllByRecursion, Contains}
use Rattle.std.proofs.lemmas.List.Sums.{sum_by-cons}
use Rattle.adp_model.specs.declared.grammar.Arg.{Arg}
use Rattle.adp_model.specs.declared.grammar.Arg.TheVariants.{Rule, Literal, Letter, Run}
use Rattle.adp_model.specs.declared.grammar.Grammar.{Grammar}
use Rattle.adp_model.specs.Lengths.{HasLength}
use Rattle.adp_model.specs.Sizes.{IsLeastSize, IsWithinSizes, IsBetween}
use Rattle.adp_model.specs.Loops.{CanBeEmpty, AreEmptyBut}
use Rattle.adp_model.specs.Bounds.{IsInRange, AreInRange}
use Rattle.grammar_check.specs.declared.part.Worth.{Worth}
use Rattle.grammar_check.specs.declared.part.Worth.TheVariants.{OfRule, OfLetters}
use Rattle.grammar_check.specs.declared.part.Part.{Part}
use Rattle.grammar_check.specs.declared.measure.Measure.{Measure}
use Rattle.grammar_check.specs.Plans.{lows, part_at}
use Rattle.grammar_check.specs.GrammarPlans.{low_in, high_in, ranged, factor_in, worth_in, part_in, parts_in}
use Rattle.grammar_check.proofs.Sweeps.{low_at}

-- ---- lengths of parts

abbrev pub IsInPart : Part → ℕ → Type 0
IsInPart part len = (part.low ≤ len) × (len ≤ part.low + part.room)

abbrev pub AreInParts : List Part → List ℕ → Type 0
AreInParts [] [] = Unit {0}
AreInParts [] (len ∷ lengths) = ⊥
AreInParts (part ∷ parts) [] = ⊥
AreInParts (part ∷ parts) (len ∷ lengths) = IsInPart part len × AreInParts parts lengths

pub sum-first : (first : ℕ) (others : List ℕ) → sum (first ∷ others) ≡ first + sum others
sum-first first others = sum_by-cons (λ x. x) first others

into_ranged : (most low : ℕ) (high : Option ℕ) (worth : Worth) (len : ℕ) → len ≤ most → low ≤ len → IfSome high (λ top. len ≤ top) → IsInPart (ranged most low high worth) len
into_ranged most low None worth len short above below = (omega arith, omega arith)
into_ranged most low (Some top) worth len short above below = (omega arith, omega arith)

from_ranged_low : (most low : ℕ) (high : Option ℕ) (worth : Worth) (len : ℕ) → len ≤ most → IsInPart (ranged most low high worth) len → low ≤ len
from_ranged_low most low high worth len short fits = let f = fits.0 in omega arith

from_ranged_high : (most low : ℕ) (high : Option ℕ) (worth : Worth) (len : ℕ) → IfSome high (λ top. low ≤ top) → len ≤ most → IsInPart (ranged most low high worth) len → IfSome high (λ top. len ≤ top)
from_ranged_high most low None worth len valid short fits = tt
from_ranged_high most low (Some top) worth len valid short fits = let f = fits.0 in let g = fits.1 in omega arith

-- ---- arguments

-- the rule is there, and a run's bounds are in order
abbrev pub IsSound : Grammar → Arg → Type 0
IsSound grammar (Rule rule) = rule < length grammar.rules
IsSound grammar (Literal text) = Unit {0}
IsSound grammar (Letter class) = Unit {0}
IsSound grammar (Run class low high) = IfSome high (λ top. low ≤ top)

pub all_from_contained : {X : Type 0} (P : X → Type 0) (xs : List X) → ((x : X) → Contains xs x → P x) → AllByRecursion P xs
all_from_contained P [] each = tt
all_from_contained P (x ∷ xs) each = (each x (0, omega arith, refl), all_from_contained P xs (λ y h. each y (suc h.0, omega (arith, h.1), h.2)))

-- where the part names a rule, all other arguments can be empty
abbrev pub IsAlone : Grammar → Worth → List Arg → Type 0
IsAlone grammar (OfRule rule factor) arguments = AreEmptyBut grammar rule arguments
IsAlone grammar (OfLetters weight factor) arguments = Unit {0}

alone_more : (grammar : Grammar) (argument : Arg) (arguments : List Arg) (worth : Worth) → CanBeEmpty grammar argument → IsAlone grammar worth arguments → IsAlone grammar worth (argument ∷ arguments)
alone_more grammar argument arguments (OfRule rule factor) empty rest = inr (empty, rest)
alone_more grammar argument arguments (OfLetters weight factor) empty rest = tt

module _ (grammar : Grammar) (least : List ℕ) (greatest : List (Option ℕ))
    (least_are : (rule : ℕ) → rule < length grammar.rules → IsLeastSize grammar rule (slice_index least rule))
    (ordered : (rule : ℕ) → rule < length grammar.rules → IfSome (slice_index_or greatest rule None) (λ most. slice_index least rule ≤ most))
    (between : (rule len : ℕ) → rule < length grammar.rules → IsWithinSizes grammar rule len ↔ IsBetween least greatest rule len) where
  range_low : (argument : Arg) (len : ℕ) → IsSound grammar argument → IsInRange grammar argument len → low_in least argument ≤ len
  range_low (Rule rule) len sound fits = ((between rule len sound).0 fits).0
  range_low (Literal text) len sound fits = omega (arith, fits)
  range_low (Letter class) len sound fits = omega (arith, fits)
  range_low (Run class low high) len sound fits = fits.0

  range_high : (argument : Arg) (len : ℕ) → IsSound grammar argument → IsInRange grammar argument len → IfSome (high_in greatest argument) (λ top. len ≤ top)
  range_high (Rule rule) len sound fits = ((between rule len sound).0 fits).1
  range_high (Literal text) len sound fits = omega (arith, fits)
  range_high (Letter class) len sound fits = omega (arith, fits)
  range_high (Run class low high) len sound fits = fits.1

  range_is : (argument : Arg) (len : ℕ) → IsSound grammar argument → low_in least argument ≤ len → IfSome (high_in greatest argument) (λ top. len ≤ top) → IsInRange grammar argument len
  range_is (Rule rule) len sound low high = (between rule len sound).1 (low, high)
  range_is (Literal text) len sound low high = omega (arith, low, high)
  range_is (Letter class) len sound low high = omega (arith, low, high)
  range_is (Run class from to) len sound low high = (low, high)

  ranges_in_order : (argument : Arg) → IsSound grammar argument → IfSome (high_in greatest argument) (λ top. low_in least argument ≤ top)
  ranges_in_order (Rule rule) sound = ordered rule sound
  ranges_in_order (Literal text) sound = omega arith
  ranges_in_order (Letter class) sound = omega arith
  ranges_in_order (Run class low high) sound = sound

  module _ (measure : Measure) (most sign : ℕ) where
    pub into_parts : (arguments : List Arg) (place : ℕ) (ls : List ℕ) → AllByRecursion (IsSound grammar) arguments → sum ls ≤ most → AreInRange grammar arguments ls → AreInParts (parts_in grammar measure (record { least = least; greatest = greatest; most = most }) sign place arguments) ls
    into_parts [] place [] sound short fits = tt
    into_parts [] place (len ∷ ls) sound short fits = absurd fits
    into_parts (argument ∷ arguments) place [] sound short fits = absurd fits
    into_parts (argument ∷ arguments) place (len ∷ ls) sound short fits =
        let total = sum-first len ls in (
          into_ranged most (low_in least argument) (high_in greatest argument) (worth_in grammar measure (factor_in grammar measure sign place) argument) len (omega arith) (range_low argument len sound.0 fits.0) (range_high argument len sound.0 fits.0),
          into_parts arguments (place + 1) ls sound.1 (omega arith) fits.1,
        )

    pub from_parts : (arguments : List Arg) (place : ℕ) (ls : List ℕ) → AllByRecursion (IsSound grammar) arguments → sum ls ≤ most → AreInParts (parts_in grammar measure (record { least = least; greatest = greatest; most = most }) sign place arguments) ls → AreInRange grammar arguments ls
    from_parts [] place [] sound short fits = tt
    from_parts [] place (len ∷ ls) sound short fits = absurd fits
    from_parts (argument ∷ arguments) place [] sound short fits = absurd fits
    from_parts (argument ∷ arguments) place (len ∷ ls) sound short fits =
        let total = sum-first len ls in
        let low : len ≤ most = omega arith in (
          range_is argument len sound.0 (from_ranged_low most (low_in least argument) (high_in greatest argument) (worth_in grammar measure (factor_in grammar measure sign place) argument) len low fits.0)
              (from_ranged_high most (low_in least argument) (high_in greatest argument) (worth_in grammar measure (factor_in grammar measure sign place) argument) len (ranges_in_order argument sound.0) low fits.0),
          from_parts arguments (place + 1) ls sound.1 (omega arith) fits.1,
        )

    -- ---- arguments that can be empty

    empty : (argument : Arg) (place : ℕ) → IsSound grammar argument → (part_in grammar measure (record { least = least; greatest = greatest; most = most }) sign place argument).low ≡ 0 → CanBeEmpty grammar argument
    empty (Rule rule) place sound none =
        let size = least_are rule sound in
        let told = size.3 in
        let shortest : size.0 ≡ 0 = omega arith in
        subst (HasLength grammar rule) shortest size.1
    empty (Literal text) place sound none = omega arith
    empty (Letter class) place sound none = absurd (omega arith)
    empty (Run class low None) place sound none = (omega arith, tt)
    empty (Run class low (Some high)) place sound none = (omega arith, omega arith)

    all_empty : (arguments : List Arg) (place : ℕ) → AllByRecursion (IsSound grammar) arguments → lows (parts_in grammar measure (record { least = least; greatest = greatest; most = most }) sign place arguments) ≤ 0 → AllByRecursion (CanBeEmpty grammar) arguments
    all_empty [] place sound none = tt
    all_empty (argument ∷ arguments) place sound none =
        (empty argument place sound.0 (omega arith), all_empty arguments (place + 1) sound.1 (omega arith))

    pub alone : (arguments : List Arg) (place at : ℕ) → AllByRecursion (IsSound grammar) arguments → at < length (parts_in grammar measure (record { least = least; greatest = greatest; most = most }) sign place arguments)
        → lows (parts_in grammar measure (record { least = least; greatest = greatest; most = most }) sign place arguments) ≤ (part_at (parts_in grammar measure (record { least = least; greatest = greatest; most = most }) sign place arguments) at).low
        → IsAlone grammar (part_at (parts_in grammar measure (record { least = least; greatest = greatest; most = most }) sign place arguments) at).worth arguments
    alone [] place at sound inside least_only = absurd (omega arith)
    alone (Rule rule ∷ arguments) place zero sound inside least_only = inl (refl, all_empty arguments (place + 1) sound.1 (omega arith))
    alone (Literal text ∷ arguments) place zero sound inside least_only = tt
    alone (Letter class ∷ arguments) place zero sound inside least_only = tt
    alone (Run class low high ∷ arguments) place zero sound inside least_only = tt
    alone (argument ∷ arguments) place (suc at) sound inside least_only =
        let parts = parts_in grammar measure (record { least = least; greatest = greatest; most = most }) sign (place + 1) arguments in
        let low = low_at parts at (omega arith) in
        alone_more grammar argument arguments (part_at parts at).worth (empty argument place sound.0 (omega arith)) (alone arguments (place + 1) at sound.1 (omega arith) (omega arith))
