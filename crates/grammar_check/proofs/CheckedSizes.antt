-- What the checks found are the sizes of all rules, and each rule's least size is at most its greatest size, since each
-- alternative is possible.
use Rattle.std.proofs.Common.{◌≡◌, ℕ, zero, suc, ◌+◌, ◌<◌, ◌≤◌, max, ◌⊎◌, inl, inr, nat_le, true, false, Option, Some, None, IfSome, List, [], ◌∷◌, length, slice_index, slice_index_or, refl, sym, ap, subst, ◌∙◌, arith}
use Rattle.std.specs.Prelude.{if◌then◌else◌}
use Rattle.std.proofs.lemmas.List.{ext_get_or, get_or_past}
use Rattle.adp_model.specs.declared.grammar.Arg.{Arg}
use Rattle.adp_model.specs.declared.grammar.Arg.TheVariants.{Rule, Literal, Letter, Run}
use Rattle.adp_model.specs.declared.grammar.Alt.{Alt}
use Rattle.adp_model.specs.declared.grammar.Rule as rules
use Rattle.adp_model.specs.declared.grammar.Grammar.{Grammar}
use Rattle.adp_model.specs.Parts.{alternatives_of, alternative_at, arguments_of}
use Rattle.adp_model.specs.Lengths.{low_of, high_of, AdmitsLength, HasLength, ByAlternative, HaveLength, NoArguments, FirstRule, FirstToken}
use Rattle.adp_model.specs.Sizes.{greatest_bounded, AreStableSizes, AreGreatestSizes, AreSizesOf, IsUpTo, sum_of, greater_of, cut_to, greatest_of, greatest_sum, greatest_among, bounded}
use Rattle.adp_model.specs.WellFormed.{HasFittingBounds, greatest_bound}
use Rattle.adp_model.specs.Checks.{IsChecked}

-- at most as long as this, where it is a bound
abbrev IsAtMost : ℕ → Option ℕ → Type 0
IsAtMost len bound = IfSome bound (λ most. len ≤ most)

sum_at_most : (len rest : ℕ) (a b : Option ℕ) → IsAtMost len a → IsAtMost rest b → IsAtMost (len + rest) (sum_of a b)
sum_at_most len rest None b h k = tt
sum_at_most len rest (Some a) None h k = tt
sum_at_most len rest (Some a) (Some b) h k = omega arith

cut_at_most : (len : ℕ) (high sum : Option ℕ) → IsAtMost len high → IsAtMost len sum → IsAtMost len (cut_to high sum)
cut_at_most len None sum h k = k
cut_at_most len (Some most) None h k = h
cut_at_most len (Some most) (Some sum) h k = omega arith

first_at_most : (len : ℕ) (a b : Option ℕ) → IsAtMost len a → IsAtMost len (greater_of a b)
first_at_most len None b h = tt
first_at_most len (Some a) None h = tt
first_at_most len (Some a) (Some b) h = omega arith

others_at_most : (len : ℕ) (a b : Option ℕ) → IsAtMost len b → IsAtMost len (greater_of a b)
others_at_most len None b h = tt
others_at_most len (Some a) None h = tt
others_at_most len (Some a) (Some b) h = omega arith

among_at_most : (sizes : List (Option ℕ)) (alternatives : List Alt) (k len : ℕ) (d : Alt) → k < length alternatives
    → IsAtMost len (cut_to (high_of (slice_index_or alternatives k d).size) (greatest_sum sizes (slice_index_or alternatives k d).args))
    → IsAtMost len (greatest_among sizes alternatives)
among_at_most sizes [] k len d inside h = absurd (omega arith)
among_at_most sizes (alternative ∷ alternatives) zero len d inside h = first_at_most len _ _ h
among_at_most sizes (alternative ∷ alternatives) (suc k) len d inside h =
    others_at_most len _ _ (among_at_most sizes alternatives k len d (omega arith) h)

bounded_at_most : (len : ℕ) (a : Option ℕ) → IsAtMost len a → IsAtMost len (bounded a)
bounded_at_most len None h = tt
bounded_at_most len (Some a) h =
    elim (nat_le a greatest_bounded) as (λ kept. IsAtMost len (if kept then Some a else None)) [ true ↦ h | false ↦ tt ]

admitted_at_most : (sizes : List (Option ℕ)) (token : Arg) (len : ℕ) → AdmitsLength token len → IsAtMost len (greatest_of sizes token)
admitted_at_most sizes (Rule rule) len h = absurd h
admitted_at_most sizes (Literal text) len h = omega arith
admitted_at_most sizes (Letter class) len h = omega arith
admitted_at_most sizes (Run class low high) len h = h.1

-- what is raised to the low bound is at most what the sum and the low bound are
raised_at_most : (len sum low : ℕ) (a : Option ℕ) → len ≡ max sum low → IsAtMost sum a → IsAtMost low a → IsAtMost len a
raised_at_most len sum low None is h k = tt
raised_at_most len sum low (Some a) is h k = omega arith

lesser_at_most : (len other : ℕ) (a : Option ℕ) → other ≤ len → IsAtMost len a → IsAtMost other a
lesser_at_most len other None less h = tt
lesser_at_most len other (Some a) less h = omega arith

low_at_most_high : (alternative : Alt) → HasFittingBounds alternative → IsAtMost (low_of alternative.size) (high_of alternative.size)
low_at_most_high alternative fits = by (high_of alternative.size) fits.1
  where
    by : (high : Option ℕ) → IfSome high (λ most. (low_of alternative.size ≤ most) × (most ≤ greatest_bound)) → IsAtMost (low_of alternative.size) high
    by None h = tt
    by (Some most) h = h.0

-- only the grammar's rules have alternatives
known : (grammar : Grammar) (rule alternative : ℕ) → alternative < length (alternatives_of grammar rule) → rule < length grammar.rules
known grammar rule alternative inside = by (order rule (length grammar.rules))
  where
    order : (m n : ℕ) → (m < n) ⊎ (n ≤ m)
    order m n = grind arith

    by : (rule < length grammar.rules) ⊎ (length grammar.rules ≤ rule) → rule < length grammar.rules
    by (inl there) = there
    by (inr past) =
        let none = ap (λ (r : rules.Rule). length r.alts) (get_or_past grammar.rules rule (record { name = []; alts = [] }) past) in
        absurd (omega (arith, none, inside))

module _ (grammar : Grammar) (sizes : List (Option ℕ)) (stable : AreStableSizes grammar sizes)
    (fitting : (rule alternative : ℕ) → HasFittingBounds (alternative_at grammar rule alternative))
    (possible : (rule alternative : ℕ) → alternative < length (alternatives_of grammar rule)
    → IsAtMost (low_of (alternative_at grammar rule alternative).size) (greatest_sum sizes (arguments_of grammar rule alternative))) where
  mutual
    length_at_most : (rule len : ℕ) → HasLength grammar rule len → IsAtMost len (slice_index_or sizes rule None)
    length_at_most _ _ (ByAlternative rule alternative sum len inside have within is) =
        let one = alternative_at grammar rule alternative in
        let sums = lengths_at_most (arguments_of grammar rule alternative) sum have in
        let below = raised_at_most len sum (low_of one.size) (greatest_sum sizes one.args) is sums (possible rule alternative inside) in
        let high = raised_at_most len sum (low_of one.size) (high_of one.size) is within (low_at_most_high one (fitting rule alternative)) in
        let among = among_at_most sizes (alternatives_of grammar rule) alternative len (record { sign = 0; args = []; size = None }) inside (cut_at_most len (high_of one.size) (greatest_sum sizes one.args) high below) in
        subst (IsAtMost len) (sym (stable.stable rule (known grammar rule alternative inside))) (bounded_at_most len (greatest_among sizes (alternatives_of grammar rule)) among)

    lengths_at_most : (arguments : List Arg) (sum : ℕ) → HaveLength grammar arguments sum → IsAtMost sum (greatest_sum sizes arguments)
    lengths_at_most _ _ NoArguments = omega arith
    lengths_at_most _ _ (FirstRule rule len arguments others has have) =
        sum_at_most len others (greatest_of sizes (Rule rule)) (greatest_sum sizes arguments) (length_at_most rule len has) (lengths_at_most arguments others have)
    lengths_at_most _ _ (FirstToken token len arguments others admits have) =
        sum_at_most len others (greatest_of sizes token) (greatest_sum sizes arguments) (admitted_at_most sizes token len admits) (lengths_at_most arguments others have)

-- ---- checked grammars

up_to_same : (a b : Option ℕ) → IsUpTo a b → IsUpTo b a → a ≡ b
up_to_same None None h k = refl
up_to_same None (Some b) h k = absurd h
up_to_same (Some a) None h k = absurd k
up_to_same (Some a) (Some b) h k = let same : a ≡ b = omega arith in ap Some same

module _ (grammar : Grammar) (algebra : ℕ) (least : List ℕ) (greatest : List (Option ℕ)) (ranks : List ℕ)
    (checked : IsChecked grammar algebra least greatest ranks) where
  -- the list has the greatest sizes of all rules, where it has that of each
  greatest_is : (sizes : List (Option ℕ)) → AreGreatestSizes grammar sizes → sizes ≡ greatest
  greatest_is sizes are =
      ext_get_or None sizes greatest (are.are.each ∙ sym checked.greatest_each) (λ rule inside.
      let there : rule < length grammar.rules = omega (arith, inside, are.are.each) in
      let own = checked.greatest_are rule there in
      up_to_same (slice_index_or sizes rule None) (slice_index_or own.0 rule None) (are.least own.0 own.1.are rule there) (own.1.least sizes are.are rule there) ∙ sym own.3)

  -- the lists have the sizes of all rules
  pub sizes_are : AreSizesOf grammar least greatest
  sizes_are = record {
    least_each = checked.least_each;
    least_are = checked.least_are;
    greatest_are = record {
      are = record {
        each = checked.greatest_each;
        stable = λ rule inside. let own = checked.greatest_are rule inside in
            subst (λ sizes. slice_index_or sizes rule None ≡ bounded (greatest_among sizes (alternatives_of grammar rule))) (greatest_is own.0 own.1) (own.1.are.stable rule inside);
      };
      least = λ others stable rule inside. let own = checked.greatest_are rule inside in
          subst (λ sizes. IsUpTo (slice_index_or sizes rule None) (slice_index_or others rule None)) (greatest_is own.0 own.1) (own.1.least others stable rule inside);
    };
  }

  -- each rule's least size is at most its greatest size
  pub sizes_in_order : ((rule alternative : ℕ) → HasFittingBounds (alternative_at grammar rule alternative))
      → (rule : ℕ) → rule < length grammar.rules → IfSome (slice_index_or greatest rule None) (λ most. slice_index least rule ≤ most)
  sizes_in_order fitting rule inside =
      let size = checked.least_are rule inside in
      let longest = length_at_most grammar greatest sizes_are.greatest_are.are fitting (λ r a there. (checked.possible r a there).1) rule size.0 size.1 in
      lesser_at_most size.0 (slice_index least rule) (slice_index_or greatest rule None) (omega (arith, size.3)) longest
