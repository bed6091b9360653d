-- The plan of a grammar means what the definitions of bounds say: bounds are the values of the plan, and what they
-- need of rules of the same length has a lesser rank.
use Rattle.std.proofs.Common.{◌≡◌, ℕ, zero, suc, ◌+◌, ◌*◌, ◌<◌, ◌≤◌, max, Option, None, IfSome, pos, ℤ, nat_abs, List, [], ◌∷◌, length, map, drop, slice_index, slice_index_or, ◌⊎◌, inl, inr, refl, sym, ap, subst, ◌∙◌, arith, ◌↔◌, ap₂}
use Rattle.std.specs.List.{All, AllByRecursion}
use Rattle.std.proofs.lemmas.List.{drop_more, drop_all, get_or-map, get_or_past, length-map}
use Rattle.std.proofs.lemmas.List.Elements.{All-from_recursion}
use Rattle.adp_model.specs.declared.grammar.Arg.{Arg}
use Rattle.adp_model.specs.declared.grammar.Arg.TheVariants.{Rule, Literal, Letter, Run}
use Rattle.adp_model.specs.declared.grammar.Alt.{Alt}
use Rattle.adp_model.specs.declared.grammar.Rule as rules
use Rattle.adp_model.specs.declared.grammar.Grammar.{Grammar}
use Rattle.adp_model.specs.Parts.{alternatives_of, alternative_at, arguments_of, term_for, term_at}
use Rattle.adp_model.specs.Terms.{weighted_total, wide_magnitude, magnitude}
use Rattle.adp_model.specs.declared.grammar.Linear as linear
use Rattle.adp_model.specs.WideForm as wide
use Rattle.adp_model.specs.declared.grammar.Term.{Term}
use Rattle.adp_model.specs.declared.grammar.Term.TheVariants.{Linear, Wide}
use Rattle.adp_model.specs.Sizes.{IsLeastSize, IsWithinSizes, IsBetween}
use Rattle.adp_model.specs.Loops.{IsEdge}
use Rattle.adp_model.specs.Bounds.{AreInRange, IsWay, token_bound, argument_bounds, nodes_within, IsGreatest, IsMagnitude, IsNodeNumber, AreScoreBounds, AreNodeBounds}
use Rattle.grammar_check.specs.declared.part.Worth.{Worth}
use Rattle.grammar_check.specs.declared.part.Worth.TheVariants.{OfRule, OfLetters}
use Rattle.grammar_check.specs.declared.part.Part.{Part}
use Rattle.grammar_check.specs.declared.measure.Measure.{Measure}
use Rattle.grammar_check.specs.declared.measure.Measure.TheVariants.{Scores, Nodes}
use Rattle.grammar_check.specs.Plans.{IsReadable, lows, part_at}
use Rattle.grammar_check.specs.RuleValues.{Entry, Own, own_value, rule_value}
use Rattle.grammar_check.specs.GrammarPlans.{Lengths, wide_of, constant_of, factor_of, factor_in, own_of, own_in, parts_in, entry_in, grammar_plan}
use Rattle.grammar_check.specs.Fills.{plan_at, parts_at, IsPlanned, NamesLesser, IsRanked}
use Rattle.grammar_check.proofs.PlanLists.{length-parts}
use Rattle.grammar_check.proofs.PartRanges.{IsSound, IsAlone, into_parts, from_parts, alone}
use Rattle.grammar_check.proofs.SpreadWays.{total_of}
use Rattle.grammar_check.proofs.WideWays.{worths_of}
use Rattle.grammar_check.proofs.OwnWays.{own_total, FitsOwn, own_below, IsOwnBy, own_found}

-- ---- what a way adds is the total of its parts

weighted_more : (factors : List ℤ) (place number : ℕ) (numbers : List ℕ) → weighted_total (drop place factors) (number ∷ numbers) ≡ nat_abs (slice_index_or factors place (pos 0)) * number + weighted_total (drop (place + 1) factors) numbers
weighted_more factors place number numbers = by (order place (length factors))
  where
    order : (m n : ℕ) → (m < n) ⊎ (n ≤ m)
    order m n = grind arith

    by : (place < length factors) ⊎ (length factors ≤ place) → weighted_total (drop place factors) (number ∷ numbers) ≡ nat_abs (slice_index_or factors place (pos 0)) * number + weighted_total (drop (place + 1) factors) numbers
    by (inl inside) = ap (λ fs. weighted_total fs (number ∷ numbers)) (drop_more factors place (pos 0) inside)
    by (inr past) =
        let none = drop_all place factors past in
        let none' : drop (place + 1) factors ≡ [] = drop_all (place + 1) factors (omega arith) in
        let zero' : slice_index_or factors place (pos 0) ≡ pos 0 = get_or_past factors place (pos 0) past in
        rw (none, none', zero') (omega arith)

module _ (grammar : Grammar) (algebra sign : ℕ) (lens : Lengths) (bound : ℕ → ℕ → ℕ) where
  module _ (term : linear.Linear) (term_is : term_for grammar algebra sign ≡ Linear term) where
    counted : (place : ℕ) → nat_abs (slice_index_or term.factors place (pos 0)) ≡ factor_in grammar (Scores algebra) sign place
    counted place = sym (ap (λ t. factor_of t place) term_is)

    counted_more : (place number : ℕ) (numbers : List ℕ) (rest : ℕ) → weighted_total (drop (place + 1) term.factors) numbers ≡ rest → weighted_total (drop place term.factors) (number ∷ numbers) ≡ factor_in grammar (Scores algebra) sign place * number + rest
    counted_more place number numbers rest rest_is =
        weighted_more term.factors place number numbers ∙ ap (λ n. nat_abs (slice_index_or term.factors place (pos 0)) * number + n) rest_is
        ∙ ap (λ f. f * number + rest) (counted place)

    score_total : (arguments : List Arg) (place : ℕ) (ls : List ℕ) → AreInRange grammar arguments ls → weighted_total (drop place term.factors) (argument_bounds grammar bound arguments ls) ≡ total_of bound (parts_in grammar (Scores algebra) lens sign place arguments) ls
    score_total [] place ls fits = none (drop place term.factors)
      where
        none : (factors : List ℤ) → weighted_total factors [] ≡ 0
        none [] = refl
        none (factor ∷ factors) = refl
    score_total (argument ∷ arguments) place [] fits = absurd fits
    score_total (Rule rule ∷ arguments) place (len ∷ ls) fits =
        counted_more place (bound rule len) (argument_bounds grammar bound arguments ls) _ (score_total arguments (place + 1) ls fits.1)
    score_total (Literal text ∷ arguments) place (len ∷ ls) fits =
        let nothing : 0 ≡ 0 * len = omega arith in
        counted_more place 0 (argument_bounds grammar bound arguments ls) _ (score_total arguments (place + 1) ls fits.1)
        ∙ ap (λ n. factor_in grammar (Scores algebra) sign place * n + total_of bound (parts_in grammar (Scores algebra) lens sign (place + 1) arguments) ls) nothing
    score_total (Letter class ∷ arguments) place (len ∷ ls) fits =
        counted_more place (token_bound grammar (Letter class) len) (argument_bounds grammar bound arguments ls) _ (score_total arguments (place + 1) ls fits.1)
    score_total (Run class low high ∷ arguments) place (len ∷ ls) fits =
        counted_more place (token_bound grammar (Run class low high) len) (argument_bounds grammar bound arguments ls) _ (score_total arguments (place + 1) ls fits.1)

  module _ (term : wide.WideForm) (term_is : term_for grammar algebra sign ≡ Wide term) where
    counted_once : (place : ℕ) → factor_in grammar (Scores algebra) sign place ≡ 1
    counted_once place = ap (λ t. factor_of t place) term_is

    once_more : (place number : ℕ) → number ≡ factor_in grammar (Scores algebra) sign place * number
    once_more place number =
        let one : number ≡ 1 * number = omega arith in
        one ∙ ap (λ f. f * number) (sym (counted_once place))

    worths_are : (arguments : List Arg) (place : ℕ) (ls : List ℕ) → AreInRange grammar arguments ls → argument_bounds grammar bound arguments ls ≡ worths_of bound (parts_in grammar (Scores algebra) lens sign place arguments) ls
    worths_are [] place ls fits = refl
    worths_are (argument ∷ arguments) place [] fits = absurd fits
    worths_are (Rule rule ∷ arguments) place (len ∷ ls) fits =
        ap₂ (λ n ns. n ∷ ns) (once_more place (bound rule len)) (worths_are arguments (place + 1) ls fits.1)
    worths_are (Literal text ∷ arguments) place (len ∷ ls) fits =
        let nothing : 0 ≡ 0 * len = omega arith in
        ap₂ (λ n ns. n ∷ ns) (once_more place 0 ∙ ap (λ n. factor_in grammar (Scores algebra) sign place * n) nothing) (worths_are arguments (place + 1) ls fits.1)
    worths_are (Letter class ∷ arguments) place (len ∷ ls) fits =
        ap₂ (λ n ns. n ∷ ns) (once_more place (token_bound grammar (Letter class) len)) (worths_are arguments (place + 1) ls fits.1)
    worths_are (Run class low high ∷ arguments) place (len ∷ ls) fits =
        ap₂ (λ n ns. n ∷ ns) (once_more place (token_bound grammar (Run class low high) len)) (worths_are arguments (place + 1) ls fits.1)

  -- the magnitude of a term is what its parts come to
  magnitude_total : (term : Term) → term_for grammar algebra sign ≡ term → (arguments : List Arg) (ls : List ℕ) → AreInRange grammar arguments ls → magnitude term (argument_bounds grammar bound arguments ls) ≡ own_total bound (own_of (wide_of term) (constant_of term)) (parts_in grammar (Scores algebra) lens sign 0 arguments) ls
  magnitude_total (Linear term) term_is arguments ls fits = ap (λ n. nat_abs term.constant + n) (score_total term term_is arguments 0 ls fits)
  magnitude_total (Wide term) term_is arguments ls fits = ap (wide_magnitude term) (worths_are term term_is arguments 0 ls fits)

node_total : (grammar : Grammar) (sign : ℕ) (lens : Lengths) (nodes : ℕ → ℕ → ℕ) (arguments : List Arg) (place : ℕ) (ls : List ℕ) → nodes_within nodes arguments ls ≡ total_of nodes (parts_in grammar Nodes lens sign place arguments) ls
node_total grammar sign lens nodes [] place ls = refl
node_total grammar sign lens nodes (argument ∷ arguments) place [] = refl
node_total grammar sign lens nodes (Rule rule ∷ arguments) place (len ∷ ls) =
    let rest = node_total grammar sign lens nodes arguments (place + 1) ls in omega arith
node_total grammar sign lens nodes (Literal text ∷ arguments) place (len ∷ ls) =
    let rest = node_total grammar sign lens nodes arguments (place + 1) ls in omega arith
node_total grammar sign lens nodes (Letter class ∷ arguments) place (len ∷ ls) =
    let rest = node_total grammar sign lens nodes arguments (place + 1) ls in omega arith
node_total grammar sign lens nodes (Run class low high ∷ arguments) place (len ∷ ls) =
    let rest = node_total grammar sign lens nodes arguments (place + 1) ls in omega arith

-- ---- rules of the plan

value_above : (bound : ℕ → ℕ → ℕ) (entry : Alt → Entry) (alternatives : List Alt) (len index : ℕ) (d : Alt) → index < length alternatives → own_value bound (entry (slice_index_or alternatives index d)).0 (entry (slice_index_or alternatives index d)).1 len ≤ rule_value bound (map entry alternatives) len
value_above bound entry [] len index d inside = absurd (omega arith)
value_above bound entry (alternative ∷ alternatives) len zero d inside =
    let here = own_value bound (entry alternative).0 (entry alternative).1 len in
    let rest = rule_value bound (map entry alternatives) len in omega arith
value_above bound entry (alternative ∷ alternatives) len (suc index) d inside =
    let low = value_above bound entry alternatives len index d (omega arith) in
    let here = own_value bound (entry alternative).0 (entry alternative).1 len in omega arith

-- the alternative of this number has the value
record IsValueOf (bound : ℕ → ℕ → ℕ) (entry : Alt → Entry) (alternatives : List Alt) (len : ℕ) (d : Alt) (value : ℕ) : Type 0 where
  index : ℕ
  inside : index < length alternatives
  value_is : value ≡ own_value bound (entry (slice_index_or alternatives index d)).0 (entry (slice_index_or alternatives index d)).1 len

max_cases : (a b : ℕ) → (max a b ≡ a) ⊎ (max a b ≡ b)
max_cases a b = grind arith

value_found : (bound : ℕ → ℕ → ℕ) (entry : Alt → Entry) (alternatives : List Alt) (len : ℕ) (d : Alt) → (rule_value bound (map entry alternatives) len ≡ 0) ⊎ IsValueOf bound entry alternatives len d (rule_value bound (map entry alternatives) len)
value_found bound entry [] len d = inl refl
value_found bound entry (alternative ∷ alternatives) len d = by (max_cases (own_value bound (entry alternative).0 (entry alternative).1 len) (rule_value bound (map entry alternatives) len)) (value_found bound entry alternatives len d)
  where
    by : (max (own_value bound (entry alternative).0 (entry alternative).1 len) (rule_value bound (map entry alternatives) len) ≡ own_value bound (entry alternative).0 (entry alternative).1 len) ⊎ (max (own_value bound (entry alternative).0 (entry alternative).1 len) (rule_value bound (map entry alternatives) len) ≡ rule_value bound (map entry alternatives) len)
        → (rule_value bound (map entry alternatives) len ≡ 0) ⊎ IsValueOf bound entry alternatives len d (rule_value bound (map entry alternatives) len)
        → (max (own_value bound (entry alternative).0 (entry alternative).1 len) (rule_value bound (map entry alternatives) len) ≡ 0) ⊎ IsValueOf bound entry (alternative ∷ alternatives) len d (max (own_value bound (entry alternative).0 (entry alternative).1 len) (rule_value bound (map entry alternatives) len))
    by (inl here) rest = inr (record { index = 0; inside = omega arith; value_is = here })
    by (inr there) (inl none) = inl (there ∙ none)
    by (inr there) (inr found) = inr (record { index = suc found.index; inside = omega (arith, found.inside); value_is = there ∙ found.value_is })

-- a number that is no less than all, and 0 or one of them, is the greatest
pub greatest_is : (Holds : ℕ → Type 0) (greatest value : ℕ) → IsGreatest Holds greatest → ((n : ℕ) → Holds n → n ≤ value) → (value ≡ 0) ⊎ Holds value → greatest ≡ value
greatest_is Holds greatest value (inl (holds, top)) above (inl zero') = let low = above greatest holds in omega arith
greatest_is Holds greatest value (inl (holds, top)) above (inr found) = let low = above greatest holds in let high = top value found in omega arith
greatest_is Holds greatest value (inr (nothing, none)) above (inl zero') = omega arith
greatest_is Holds greatest value (inr (nothing, none)) above (inr found) = absurd (none value found)

-- the alternatives of a rule of the plan
plan_of-rule : (grammar : Grammar) (measure : Measure) (lens : Lengths) (rule : ℕ) → rule < length grammar.rules → plan_at (grammar_plan grammar measure lens) rule ≡ map (entry_in grammar measure lens) (alternatives_of grammar rule)
plan_of-rule grammar measure lens rule inside = get_or-map (λ (r : rules.Rule). map (entry_in grammar measure lens) r.alts) grammar.rules rule (record { name = []; alts = [] }) [] inside

module _ (grammar : Grammar) (least : List ℕ) (greatest : List (Option ℕ))
    (least_are : (rule : ℕ) → rule < length grammar.rules → IsLeastSize grammar rule (slice_index least rule))
    (ordered : (rule : ℕ) → rule < length grammar.rules → IfSome (slice_index_or greatest rule None) (λ most. slice_index least rule ≤ most))
    (between : (rule len : ℕ) → rule < length grammar.rules → IsWithinSizes grammar rule len ↔ IsBetween least greatest rule len)
    (sound : (rule alternative : ℕ) → AllByRecursion (IsSound grammar) (arguments_of grammar rule alternative))
    (measure : Measure) (most : ℕ) where
  module _ (right : (rule alternative : ℕ) → alternative < length (alternatives_of grammar rule) → FitsOwn (own_in grammar measure (alternative_at grammar rule alternative).sign) (length (arguments_of grammar rule alternative))) where
    abbrev own_at : ℕ → ℕ → Own
    own_at rule alternative = own_in grammar measure (alternative_at grammar rule alternative).sign

    abbrev way_parts : ℕ → ℕ → List Part
    way_parts rule alternative = parts_in grammar measure (record { least = least; greatest = greatest; most = most }) (alternative_at grammar rule alternative).sign 0 (arguments_of grammar rule alternative)

    -- the value of some way
    abbrev IsWayValue : (ℕ → ℕ → ℕ) → ℕ → ℕ → ℕ → Type 0
    IsWayValue bound rule len number =
        (alternative : ℕ) × (ls : List ℕ) × IsWay grammar rule len alternative ls
        × (number ≡ own_total bound (own_at rule alternative) (way_parts rule alternative) ls)

    fits_own : (rule alternative : ℕ) → alternative < length (alternatives_of grammar rule) → FitsOwn (own_at rule alternative) (length (way_parts rule alternative))
    fits_own rule alternative inside =
        subst (FitsOwn (own_at rule alternative)) (sym (length-parts grammar measure (record { least = least; greatest = greatest; most = most }) (alternative_at grammar rule alternative).sign 0 (arguments_of grammar rule alternative))) (right rule alternative inside)

    way_below : (bound : ℕ → ℕ → ℕ) (rule len : ℕ) → len ≤ most → (n : ℕ) → IsWayValue bound rule len n → n ≤ rule_value bound (map (entry_in grammar measure (record { least = least; greatest = greatest; most = most })) (alternatives_of grammar rule)) len
    way_below bound rule len short n way =
        let alternative = way.0 in
        let ls = way.1 in
        let sign = (alternative_at grammar rule alternative).sign in
        let fits = into_parts grammar least greatest least_are ordered between measure most sign (arguments_of grammar rule alternative) 0 ls (sound rule alternative) (omega (arith, way.2.sum_is)) way.2.fit in
        let below = own_below bound (own_at rule alternative) (way_parts rule alternative) ls len (fits_own rule alternative way.2.in_range) fits way.2.sum_is in
        let above = value_above bound (entry_in grammar measure (record { least = least; greatest = greatest; most = most })) (alternatives_of grammar rule) len alternative (record { sign = 0; args = []; size = None }) way.2.in_range in
        omega (arith, below, above, way.3)

    way_found : (bound : ℕ → ℕ → ℕ) (rule len : ℕ) → len ≤ most → (rule_value bound (map (entry_in grammar measure (record { least = least; greatest = greatest; most = most })) (alternatives_of grammar rule)) len ≡ 0) ⊎ IsWayValue bound rule len (rule_value bound (map (entry_in grammar measure (record { least = least; greatest = greatest; most = most })) (alternatives_of grammar rule)) len)
    way_found bound rule len short = by (value_found bound (entry_in grammar measure (record { least = least; greatest = greatest; most = most })) (alternatives_of grammar rule) len (record { sign = 0; args = []; size = None }))
      where
        value : ℕ
        value = rule_value bound (map (entry_in grammar measure (record { least = least; greatest = greatest; most = most })) (alternatives_of grammar rule)) len

        at : (alternative : ℕ) → alternative < length (alternatives_of grammar rule) → (value' : ℕ) → value' ≡ own_value bound (own_at rule alternative) (way_parts rule alternative) len
            → (own_value bound (own_at rule alternative) (way_parts rule alternative) len ≡ 0) ⊎ IsOwnBy bound (own_at rule alternative) (way_parts rule alternative) len
            → (value' ≡ 0) ⊎ IsWayValue bound rule len value'
        at alternative inside value' value_is (inl none) = inl (value_is ∙ none)
        at alternative inside value' value_is (inr found) =
            let sign = (alternative_at grammar rule alternative).sign in
            let fits = from_parts grammar least greatest least_are ordered between measure most sign (arguments_of grammar rule alternative) 0 found.lengths (sound rule alternative) (omega (arith, found.sum_is)) found.fit in
            inr (alternative, found.lengths, record { in_range = inside; fit = fits; sum_is = found.sum_is }, value_is ∙ found.value_is)

        by : (value ≡ 0) ⊎ IsValueOf bound (entry_in grammar measure (record { least = least; greatest = greatest; most = most })) (alternatives_of grammar rule) len (record { sign = 0; args = []; size = None }) value → (value ≡ 0) ⊎ IsWayValue bound rule len value
        by (inl none) = inl none
        by (inr found) = at found.index found.inside value found.value_is (own_found bound (own_at rule found.index) (way_parts rule found.index) len (fits_own rule found.index found.inside))

  -- ---- what the plan needs

  plan_length : length (grammar_plan grammar measure (record { least = least; greatest = greatest; most = most })) ≡ length grammar.rules
  plan_length = length-map grammar.rules (λ (r : rules.Rule). map (entry_in grammar measure (record { least = least; greatest = greatest; most = most })) r.alts)

  parts_are : (rule alternative : ℕ) → rule < length grammar.rules → alternative < length (alternatives_of grammar rule) → parts_at (grammar_plan grammar measure (record { least = least; greatest = greatest; most = most })) rule alternative ≡ parts_in grammar measure (record { least = least; greatest = greatest; most = most }) (alternative_at grammar rule alternative).sign 0 (arguments_of grammar rule alternative)
  parts_are rule alternative inside in_range =
      ap (λ (p : List Entry). (slice_index_or p alternative (inl 0, [])).1) (plan_of-rule grammar measure (record { least = least; greatest = greatest; most = most }) rule inside)
      ∙ ap (λ (e : Entry). e.1) (get_or-map (entry_in grammar measure (record { least = least; greatest = greatest; most = most })) (alternatives_of grammar rule) alternative (record { sign = 0; args = []; size = None }) (inl 0, []) in_range)

  alternatives_count : (rule : ℕ) → rule < length grammar.rules → length (plan_at (grammar_plan grammar measure (record { least = least; greatest = greatest; most = most })) rule) ≡ length (alternatives_of grammar rule)
  alternatives_count rule inside =
      ap length (plan_of-rule grammar measure (record { least = least; greatest = greatest; most = most }) rule inside) ∙ length-map (alternatives_of grammar rule) (entry_in grammar measure (record { least = least; greatest = greatest; most = most }))

  pub plan_ranked : (ranks : List ℕ) → ((rule other : ℕ) → IsEdge grammar rule other → slice_index ranks other < slice_index ranks rule) → IsRanked ranks (grammar_plan grammar measure (record { least = least; greatest = greatest; most = most }))
  plan_ranked ranks fall rule alternative place in_plan in_rule in_parts least_only = lesser (part_at (parts_at (grammar_plan grammar measure (record { least = least; greatest = greatest; most = most })) rule alternative) place).worth is_alone
    where
      inside : rule < length grammar.rules
      inside = omega (arith, plan_length)

      in_range : alternative < length (alternatives_of grammar rule)
      in_range = let count = alternatives_count rule inside in omega arith

      parts : List Part
      parts = parts_in grammar measure (record { least = least; greatest = greatest; most = most }) (alternative_at grammar rule alternative).sign 0 (arguments_of grammar rule alternative)

      same : parts_at (grammar_plan grammar measure (record { least = least; greatest = greatest; most = most })) rule alternative ≡ parts
      same = parts_are rule alternative inside in_range

      is_alone : IsAlone grammar (part_at (parts_at (grammar_plan grammar measure (record { least = least; greatest = greatest; most = most })) rule alternative) place).worth (arguments_of grammar rule alternative)
      is_alone =
          subst (λ ps. IsAlone grammar (part_at ps place).worth (arguments_of grammar rule alternative)) (sym same)
          (alone grammar least greatest least_are ordered between measure most (alternative_at grammar rule alternative).sign (arguments_of grammar rule alternative) 0 place (sound rule alternative)
          (subst (λ ps. place < length ps) same in_parts) (subst (λ ps. lows ps ≤ (part_at ps place).low) same least_only))

      lesser : (worth : Worth) → IsAlone grammar worth (arguments_of grammar rule alternative) → NamesLesser ranks rule worth
      lesser (OfRule other factor) h = fall rule other (alternative, in_range, h)
      lesser (OfLetters weight factor) h = tt

  readable_parts : (sign place : ℕ) (arguments : List Arg) → AllByRecursion (IsSound grammar) arguments → AllByRecursion (λ (part : Part). IsReadable (length grammar.rules) part.worth) (parts_in grammar measure (record { least = least; greatest = greatest; most = most }) sign place arguments)
  readable_parts sign place [] known = tt
  readable_parts sign place (Rule rule ∷ arguments) known = (known.0, readable_parts sign (place + 1) arguments known.1)
  readable_parts sign place (Literal text ∷ arguments) known = (tt, readable_parts sign (place + 1) arguments known.1)
  readable_parts sign place (Letter class ∷ arguments) known = (tt, readable_parts sign (place + 1) arguments known.1)
  readable_parts sign place (Run class low high ∷ arguments) known = (tt, readable_parts sign (place + 1) arguments known.1)

  pub plan_readable : (rule alternative : ℕ) → rule < length grammar.rules → alternative < length (alternatives_of grammar rule) → All (λ (part : Part). IsReadable (length grammar.rules) part.worth) (parts_at (grammar_plan grammar measure (record { least = least; greatest = greatest; most = most })) rule alternative)
  plan_readable rule alternative inside in_range =
      subst (All (λ (part : Part). IsReadable (length grammar.rules) part.worth)) (sym (parts_are rule alternative inside in_range))
      (All-from_recursion (λ (part : Part). IsReadable (length grammar.rules) part.worth) (parts_in grammar measure (record { least = least; greatest = greatest; most = most }) (alternative_at grammar rule alternative).sign 0 (arguments_of grammar rule alternative)) (readable_parts (alternative_at grammar rule alternative).sign 0 (arguments_of grammar rule alternative) (sound rule alternative)))

  pub plan_readable-at : (rule alternative : ℕ) → rule < length grammar.rules → alternative < length (plan_at (grammar_plan grammar measure (record { least = least; greatest = greatest; most = most })) rule) → All (λ (part : Part). IsReadable (length grammar.rules) part.worth) (parts_at (grammar_plan grammar measure (record { least = least; greatest = greatest; most = most })) rule alternative)
  plan_readable-at rule alternative inside in_rule = plan_readable rule alternative inside (omega (arith, alternatives_count rule inside))

module _ (grammar : Grammar) (algebra : ℕ) (least : List ℕ) (greatest : List (Option ℕ))
    (least_are : (rule : ℕ) → rule < length grammar.rules → IsLeastSize grammar rule (slice_index least rule))
    (ordered : (rule : ℕ) → rule < length grammar.rules → IfSome (slice_index_or greatest rule None) (λ most. slice_index least rule ≤ most))
    (between : (rule len : ℕ) → rule < length grammar.rules → IsWithinSizes grammar rule len ↔ IsBetween least greatest rule len)
    (sound : (rule alternative : ℕ) → AllByRecursion (IsSound grammar) (arguments_of grammar rule alternative))
    (most : ℕ) where
  pub scores_planned : ((rule alternative : ℕ) → alternative < length (alternatives_of grammar rule) → FitsOwn (own_in grammar (Scores algebra) (alternative_at grammar rule alternative).sign) (length (arguments_of grammar rule alternative))) → (bound : ℕ → ℕ → ℕ) → AreScoreBounds grammar algebra bound → (len : ℕ) → len ≤ most → IsPlanned bound (grammar_plan grammar (Scores algebra) (record { least = least; greatest = greatest; most = most })) len
  scores_planned right bound table len short rule in_plan =
      greatest_is (IsMagnitude grammar algebra bound rule len) (bound rule len) (rule_value bound (map (entry_in grammar (Scores algebra) (record { least = least; greatest = greatest; most = most })) (alternatives_of grammar rule)) len) (table rule len)
      (λ n way. way_below grammar least greatest least_are ordered between sound (Scores algebra) most right bound rule len short n (way.0, way.1, way.2, way.3 ∙ same way.0 way.1 way.2.fit))
      (elim (way_found grammar least greatest least_are ordered between sound (Scores algebra) most right bound rule len short) [
        | inl none ↦ inl none
        | inr way ↦ inr (way.0, way.1, way.2, way.3 ∙ sym (same way.0 way.1 way.2.fit))
      ])
      ∙ ap (λ p. rule_value bound p len) (sym (plan_of-rule grammar (Scores algebra) (record { least = least; greatest = greatest; most = most }) rule (omega (arith, length-map grammar.rules (λ (r : rules.Rule). map (entry_in grammar (Scores algebra) (record { least = least; greatest = greatest; most = most })) r.alts)))))
    where
      same : (alternative : ℕ) (ls : List ℕ) → AreInRange grammar (arguments_of grammar rule alternative) ls → magnitude (term_at grammar algebra rule alternative) (argument_bounds grammar bound (arguments_of grammar rule alternative) ls) ≡ own_total bound (own_in grammar (Scores algebra) (alternative_at grammar rule alternative).sign) (parts_in grammar (Scores algebra) (record { least = least; greatest = greatest; most = most }) (alternative_at grammar rule alternative).sign 0 (arguments_of grammar rule alternative)) ls
      same alternative ls fits = magnitude_total grammar algebra (alternative_at grammar rule alternative).sign (record { least = least; greatest = greatest; most = most }) bound (term_at grammar algebra rule alternative) refl (arguments_of grammar rule alternative) ls fits

  pub nodes_planned : (nodes : ℕ → ℕ → ℕ) → AreNodeBounds grammar nodes → (len : ℕ) → len ≤ most → IsPlanned nodes (grammar_plan grammar Nodes (record { least = least; greatest = greatest; most = most })) len
  nodes_planned nodes table len short rule in_plan =
      greatest_is (IsNodeNumber grammar nodes rule len) (nodes rule len) (rule_value nodes (map (entry_in grammar Nodes (record { least = least; greatest = greatest; most = most })) (alternatives_of grammar rule)) len) (table rule len)
      (λ n way. way_below grammar least greatest least_are ordered between sound Nodes most (λ r a inside. tt) nodes rule len short n (way.0, way.1, way.2, way.3 ∙ same way.0 way.1))
      (elim (way_found grammar least greatest least_are ordered between sound Nodes most (λ r a inside. tt) nodes rule len short) [
        | inl none ↦ inl none
        | inr way ↦ inr (way.0, way.1, way.2, way.3 ∙ sym (same way.0 way.1))
      ])
      ∙ ap (λ p. rule_value nodes p len) (sym (plan_of-rule grammar Nodes (record { least = least; greatest = greatest; most = most }) rule (omega (arith, length-map grammar.rules (λ (r : rules.Rule). map (entry_in grammar Nodes (record { least = least; greatest = greatest; most = most })) r.alts)))))
    where
      same : (alternative : ℕ) (ls : List ℕ) → 1 + nodes_within nodes (arguments_of grammar rule alternative) ls ≡ 1 + total_of nodes (parts_in grammar Nodes (record { least = least; greatest = greatest; most = most }) (alternative_at grammar rule alternative).sign 0 (arguments_of grammar rule alternative)) ls
      same alternative ls = ap (λ n. 1 + n) (node_total grammar (alternative_at grammar rule alternative).sign (record { least = least; greatest = greatest; most = most }) nodes (arguments_of grammar rule alternative) 0 ls)
