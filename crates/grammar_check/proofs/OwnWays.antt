-- Ways of an alternative of a plan: its value is the greatest over all lengths of its parts.
use Rattle.std.proofs.Common.{◌≡◌, ℕ, ◌+◌, ◌-◌, ◌<◌, ◌≤◌, min, Bool, true, false, nat_le, ◌⊎◌, inl, inr, Option, Some, None, pos, List, [], length, slice_index_or, sum, refl, sym, ap, subst, ◌∙◌, arith}
use Rattle.std.specs.Prelude.{if◌then◌else◌}
use Rattle.std.proofs.lemmas.Bool.{le-leb, lt-leb}
use Rattle.std.proofs.lemmas.List.{get_or_past}
use Rattle.adp_model.specs.WideForm as wide
use Rattle.adp_model.specs.Terms.{wide_magnitude}
use Rattle.adp_model.specs.declared.grammar.Goal.TheVariants.{Least}
use Rattle.adp_model.specs.declared.grammar.Algebra.{Algebra}
use Rattle.adp_model.specs.declared.grammar.Grammar.{Grammar}
use Rattle.adp_model.specs.declared.grammar.Term.{Term}
use Rattle.adp_model.specs.declared.grammar.Term.TheVariants.{Linear, Wide}
use Rattle.adp_model.specs.Parts.{algebra_at, alternatives_of, alternative_at, arguments_of, term_at, term_for}
use Rattle.adp_model.specs.TermForms.{IsTermFor, IsWideFor}
use Rattle.grammar_check.specs.declared.measure.Measure.{Measure}
use Rattle.grammar_check.specs.declared.measure.Measure.TheVariants.{Scores, Nodes}
use Rattle.grammar_check.specs.GrammarPlans.{HasFewLeaves, wide_of, constant_of, wide_in, constant_in, own_of, own_in}
use Rattle.grammar_check.specs.declared.part.Part.{Part}
use Rattle.grammar_check.specs.Plans.{greatest_from, rooms, lows, spread}
use Rattle.grammar_check.specs.TermSpreads.{idle_room, term_room, term_spread, wide_spread}
use Rattle.grammar_check.specs.WideAlternatives.{wide_value}
use Rattle.grammar_check.specs.RuleValues.{Own, own_value}
use Rattle.grammar_check.proofs.PartRanges.{AreInParts}
use Rattle.grammar_check.proofs.Sweeps.{value_of_ways, value_too_short, value_too_long}
use Rattle.grammar_check.proofs.SpreadWays.{total_of, within_spread, spread_found}
use Rattle.grammar_check.proofs.WideWays.{worths_of, rooms_split, within_term, spread_by}

-- what parts of these lengths come to
abbrev pub own_total : (ℕ → ℕ → ℕ) → Own → List Part → List ℕ → ℕ
own_total bound (inl constant) parts lengths = constant + total_of bound parts lengths
own_total bound (inr term) parts lengths = wide_magnitude term (worths_of bound parts lengths)

-- a wide term is one for so many parts
abbrev pub FitsOwn : Own → ℕ → Type 0
FitsOwn (inl constant) count = Unit {0}
FitsOwn (inr term) count = IsWideFor count term

-- ---- values by cases

if_true : (b : Bool) (v w : ℕ) → b ≡ true → (if b then v else w) ≡ v
if_true true v w e = refl
if_true false v w e = absurd cc

if_false : (b : Bool) (v w : ℕ) → b ≡ false → (if b then v else w) ≡ w
if_false true v w e = absurd cc
if_false false v w e = refl

pub wide_long : (bound : ℕ → ℕ → ℕ) (term : wide.WideForm) (parts : List Part) (len : ℕ) → lows parts ≤ len → wide_value bound term parts len ≡ wide_spread bound parts term (len - lows parts)
wide_long bound term parts len long = if_true (nat_le (lows parts) len) (wide_spread bound parts term (len - lows parts)) 0 (le-leb (lows parts) len long)

pub wide_too_short : (bound : ℕ → ℕ → ℕ) (term : wide.WideForm) (parts : List Part) (len : ℕ) → len < lows parts → wide_value bound term parts len ≡ 0
wide_too_short bound term parts len short = if_false (nat_le (lows parts) len) (wide_spread bound parts term (len - lows parts)) 0 (lt-leb (lows parts) len short)

wide_too_long : (bound : ℕ → ℕ → ℕ) (term : wide.WideForm) (parts : List Part) (len : ℕ) → IsWideFor (length parts) term → rooms parts < len - lows parts → wide_value bound term parts len ≡ 0
wide_too_long bound term parts len right long =
    let spare = len - lows parts in
    let idle = idle_room term 0 parts in
    let split = rooms_split bound parts term right in
    let none : min spare (term_room parts term) + 1 - (spare - idle) ≡ 0 = omega (arith, split, long) in
    wide_long bound term parts len (omega (arith, long)) ∙ ap (greatest_from (term_spread bound parts term) (spare - idle)) none

too_short : (bound : ℕ → ℕ → ℕ) (own : Own) (parts : List Part) (len : ℕ) → len < lows parts → own_value bound own parts len ≡ 0
too_short bound (inl constant) parts len short = value_too_short bound constant parts len short
too_short bound (inr term) parts len short = wide_too_short bound term parts len short

too_long : (bound : ℕ → ℕ → ℕ) (own : Own) (parts : List Part) (len : ℕ) → FitsOwn own (length parts) → rooms parts < len - lows parts → own_value bound own parts len ≡ 0
too_long bound (inl constant) parts len right long = value_too_long bound constant parts len long
too_long bound (inr term) parts len right long = wide_too_long bound term parts len right long

-- ---- ways

pub own_below : (bound : ℕ → ℕ → ℕ) (own : Own) (parts : List Part) (lengths : List ℕ) (len : ℕ) → FitsOwn own (length parts) → AreInParts parts lengths → sum lengths ≡ len → own_total bound own parts lengths ≤ own_value bound own parts len
own_below bound (inl constant) parts lengths len right fits total =
    let within = within_spread bound parts lengths fits in
    let spare : sum lengths - lows parts ≡ len - lows parts = ap (λ n. n - lows parts) total in
    let adds : total_of bound parts lengths ≤ spread bound parts (len - lows parts) = subst (λ s. total_of bound parts lengths ≤ spread bound parts s) spare within.adds in
    let value = value_of_ways bound constant parts len (omega (arith, within.low, total)) (omega (arith, within.high, total)) in
    omega (arith, adds, value)
own_below bound (inr term) parts lengths len right fits total =
    let within = within_term bound parts term right lengths fits in
    let spare : sum lengths - lows parts ≡ len - lows parts = ap (λ n. n - lows parts) total in
    let adds : wide_magnitude term (worths_of bound parts lengths) ≤ wide_spread bound parts term (len - lows parts) = subst (λ s. wide_magnitude term (worths_of bound parts lengths) ≤ wide_spread bound parts term s) spare within.adds in
    let value = wide_long bound term parts len (omega (arith, within.low, total)) in
    omega (arith, adds, value)

-- lengths of the parts that come to the value
pub record IsOwnBy (bound : ℕ → ℕ → ℕ) (own : Own) (parts : List Part) (len : ℕ) : Type 0 where
  pub lengths : List ℕ
  pub fit : AreInParts parts lengths
  pub sum_is : sum lengths ≡ len
  pub value_is : own_value bound own parts len ≡ own_total bound own parts lengths

by_ways : (bound : ℕ → ℕ → ℕ) (own : Own) (parts : List Part) (len : ℕ) → FitsOwn own (length parts) → lows parts ≤ len → len - lows parts ≤ rooms parts → IsOwnBy bound own parts len
by_ways bound (inl constant) parts len right long few =
    let found = spread_found bound parts (len - lows parts) few in
    record {
      lengths = found.lengths;
      fit = found.fit;
      sum_is = omega (arith, found.sum_is, long);
      value_is = value_of_ways bound constant parts len long few ∙ ap (λ s. constant + s) found.adds;
    }
by_ways bound (inr term) parts len right long few =
    let found = spread_by bound parts term right (len - lows parts) few in
    record {
      lengths = found.lengths;
      fit = found.fit;
      sum_is = omega (arith, found.sum_is, long);
      value_is = wide_long bound term parts len long ∙ found.adds;
    }

pub own_found : (bound : ℕ → ℕ → ℕ) (own : Own) (parts : List Part) (len : ℕ) → FitsOwn own (length parts) → (own_value bound own parts len ≡ 0) ⊎ IsOwnBy bound own parts len
own_found bound own parts len right = by (order (lows parts) len) (order (len - lows parts) (rooms parts))
  where
    order : (m n : ℕ) → (m ≤ n) ⊎ (n < m)
    order m n = grind arith

    by : (lows parts ≤ len) ⊎ (len < lows parts) → (len - lows parts ≤ rooms parts) ⊎ (rooms parts < len - lows parts) → (own_value bound own parts len ≡ 0) ⊎ IsOwnBy bound own parts len
    by (inr short) d = inl (too_short bound own parts len short)
    by (inl long) (inr many) = inl (too_long bound own parts len right many)
    by (inl long) (inl few) = inr (by_ways bound own parts len right long few)

-- ---- the terms of a grammar are for their alternatives

fits_term : (term : Term) (count : ℕ) → IsTermFor count term → FitsOwn (own_of (wide_of term) (constant_of term)) count
fits_term (Linear term) count h = tt
fits_term (Wide term) count h = h

pub fits_in : (grammar : Grammar) → ((algebra rule alternative : ℕ) → algebra < length grammar.algebras → alternative < length (alternatives_of grammar rule) → IsTermFor (length (arguments_of grammar rule alternative)) (term_at grammar algebra rule alternative))
    → (measure : Measure) (rule alternative : ℕ) → alternative < length (alternatives_of grammar rule) → FitsOwn (own_in grammar measure (alternative_at grammar rule alternative).sign) (length (arguments_of grammar rule alternative))
fits_in grammar fit Nodes rule alternative inside = tt
fits_in grammar fit (Scores algebra) rule alternative inside = by (order algebra (length grammar.algebras))
  where
    sign : ℕ
    sign = (alternative_at grammar rule alternative).sign

    count : ℕ
    count = length (arguments_of grammar rule alternative)

    order : (m n : ℕ) → (m < n) ⊎ (n ≤ m)
    order m n = grind arith

    by : (algebra < length grammar.algebras) ⊎ (length grammar.algebras ≤ algebra) → FitsOwn (own_in grammar (Scores algebra) sign) count
    by (inl there) = fits_term (term_for grammar algebra sign) count (fit algebra rule alternative there inside)
    by (inr past) =
        let none : algebra_at grammar algebra ≡ record { name = []; goal = Least; terms = [] } = get_or_past grammar.algebras algebra (record { name = []; goal = Least; terms = [] }) past in
        subst (λ (a : Algebra). FitsOwn (own_of (wide_of (slice_index_or a.terms sign (Linear (record { constant = pos 0; factors = [] })))) (constant_of (slice_index_or a.terms sign (Linear (record { constant = pos 0; factors = [] }))))) count) (sym none) tt

few_of : (term : Option wide.WideForm) (constant count : ℕ) → FitsOwn (own_of term constant) count → HasFewLeaves term
few_of None constant count h = tt
few_of (Some term) constant count h = h.few

pub few_in : (grammar : Grammar) (measure : Measure) (sign count : ℕ) → FitsOwn (own_in grammar measure sign) count → HasFewLeaves (wide_in grammar measure sign)
few_in grammar measure sign count h = few_of (wide_in grammar measure sign) (constant_in grammar measure sign) count h
