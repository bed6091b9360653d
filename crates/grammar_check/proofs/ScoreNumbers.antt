-- The score bound of words is the greatest number of a checked grammar's table and tokens.
use Rattle.std.proofs.Common.{◌≡◌, ℕ, zero, suc, ◌+◌, ◌-◌, ◌*◌, ◌<◌, ◌≤◌, min, max, Bool, true, false, ◌&&◌, nat_le, cond, ◌⊎◌, inl, inr, Option, Some, None, List, [], ◌∷◌, length, map, slice_index_or, refl, sym, ap, subst, ◌∙◌, arith}
use Rattle.std.specs.List.{AllByRecursion, Contains}
use Rattle.std.proofs.lemmas.Bool.{le-leb, leb-true}
use Rattle.std.proofs.lemmas.List.{get_or-map, get_or_past, length-map}
use Rattle.adp_model.specs.declared.grammar.Arg.{Arg}
use Rattle.adp_model.specs.declared.grammar.Arg.TheVariants.{Rule, Literal, Letter, Run}
use Rattle.adp_model.specs.declared.grammar.Alt.{Alt}
use Rattle.adp_model.specs.declared.grammar.Rule as rules
use Rattle.adp_model.specs.declared.grammar.Grammar.{Grammar}
use Rattle.adp_model.specs.Parts.{alternatives_of, alternative_at, arguments_of}
use Rattle.adp_model.specs.Lengths.{AdmitsLength}
use Rattle.adp_model.specs.Bounds.{token_bound, IsGreatest, IsRuleBound, IsTokenBound}
use Rattle.grammar_check.specs.declared.measure.Measure.TheVariants.{Scores}
use Rattle.grammar_check.specs.Plans.{greatest_from}
use Rattle.grammar_check.specs.GrammarPlans.{part_in, parts_in, entry_in, grammar_plan}
use Rattle.grammar_check.specs.TokenNumbers.{greatest_of, token_number, alternative_tokens, tokens_number, rules_number, score_number}
use Rattle.grammar_check.proofs.PartRanges.{IsSound}
use Rattle.grammar_check.proofs.PlanMeaning.{greatest_is}

-- ---- the greatest of some items

pub of_above : {X : Type 0} (number : X → ℕ) (items : List X) (k : ℕ) (d : X) → k < length items → number (slice_index_or items k d) ≤ greatest_of number items
of_above number [] k d inside = absurd (omega arith)
of_above number (item ∷ items) zero d inside = let rest = greatest_of number items in omega arith
of_above number (item ∷ items) (suc k) d inside = let low = of_above number items k d (omega arith) in omega arith

max_cases : (a b : ℕ) → (max a b ≡ a) ⊎ (max a b ≡ b)
max_cases a b = grind arith

record IsNumberOf {X : Type 0} (number : X → ℕ) (items : List X) (d : X) (value : ℕ) : Type 0 where
  place : ℕ
  inside : place < length items
  value_is : value ≡ number (slice_index_or items place d)

of_found : {X : Type 0} (number : X → ℕ) (items : List X) (d : X) → (greatest_of number items ≡ 0) ⊎ IsNumberOf number items d (greatest_of number items)
of_found number [] d = inl refl
of_found {X = X} number (item ∷ items) d = by (max_cases (number item) (greatest_of number items)) (of_found number items d)
  where
    by : (max (number item) (greatest_of number items) ≡ number item) ⊎ (max (number item) (greatest_of number items) ≡ greatest_of number items) → (greatest_of number items ≡ 0) ⊎ IsNumberOf number items d (greatest_of number items) → (max (number item) (greatest_of number items) ≡ 0) ⊎ IsNumberOf number (item ∷ items) d (max (number item) (greatest_of number items))
    by (inl here) rest = inr (record { place = 0; inside = omega arith; value_is = here })
    by (inr there) (inl none) = inl (there ∙ none)
    by (inr there) (inr found) = inr (record { place = suc found.place; inside = omega (arith, found.inside); value_is = there ∙ found.value_is })

from_above : (number : ℕ → ℕ) (count k : ℕ) → k < count → number k ≤ greatest_from number 0 count
from_above number zero k below = absurd (omega arith)
from_above number (suc count) k below = by (order k count) (λ less. from_above number count k less)
  where
    order : (m n : ℕ) → (m < n) ⊎ (n ≤ m)
    order m n = grind arith

    place : 0 + count ≡ count
    place = omega arith

    by : (k < count) ⊎ (count ≤ k) → (k < count → number k ≤ greatest_from number 0 count) → number k ≤ max (greatest_from number 0 count) (number (0 + count))
    by (inl less) rest = let low = rest less in omega arith
    by (inr past) rest =
        let same : 0 + count ≡ k = omega arith in
        subst (λ n. number k ≤ max (greatest_from number 0 count) (number n)) (sym same) (omega arith)

record IsNumberAt (number : ℕ → ℕ) (count value : ℕ) : Type 0 where
  place : ℕ
  inside : place < count
  value_is : value ≡ number place

from_found : (number : ℕ → ℕ) (count : ℕ) → (greatest_from number 0 count ≡ 0) ⊎ IsNumberAt number count (greatest_from number 0 count)
from_found number zero = inl refl
from_found number (suc count) = by (max_cases (greatest_from number 0 count) (number (0 + count))) (from_found number count)
  where
    place : 0 + count ≡ count
    place = omega arith

    by : (max (greatest_from number 0 count) (number (0 + count)) ≡ greatest_from number 0 count) ⊎ (max (greatest_from number 0 count) (number (0 + count)) ≡ number (0 + count)) → (greatest_from number 0 count ≡ 0) ⊎ IsNumberAt number count (greatest_from number 0 count) → (max (greatest_from number 0 count) (number (0 + count)) ≡ 0) ⊎ IsNumberAt number (suc count) (max (greatest_from number 0 count) (number (0 + count)))
    by (inl e) (inl none) = inl (e ∙ none)
    by (inl e) (inr found) = inr (record { place = found.place; inside = omega (arith, found.inside); value_is = e ∙ found.value_is })
    by (inr e) rest = inr (record { place = count; inside = omega arith; value_is = e ∙ ap number place })

-- ---- the tokens of a plan

-- an argument stands in a rule and an alternative that are there
argument_stands : (grammar : Grammar) (rule alternative : ℕ) (token : Arg) → Contains (arguments_of grammar rule alternative) token → (rule < length grammar.rules) × (alternative < length (alternatives_of grammar rule))
argument_stands grammar rule alternative token h = (by_rule (order' rule (length grammar.rules)), by_alternative (order' alternative (length (alternatives_of grammar rule))))
  where
    order' : (m n : ℕ) → (m < n) ⊎ (n ≤ m)
    order' m n = grind arith

    by_alternative : (alternative < length (alternatives_of grammar rule)) ⊎ (length (alternatives_of grammar rule) ≤ alternative) → alternative < length (alternatives_of grammar rule)
    by_alternative (inl below) = below
    by_alternative (inr past) =
        let none : length (arguments_of grammar rule alternative) ≡ 0 = ap (λ (a : Alt). length a.args) (get_or_past (alternatives_of grammar rule) alternative (record { sign = 0; args = []; size = None }) past) in
        absurd (omega (arith, none, h.1))

    by_rule : (rule < length grammar.rules) ⊎ (length grammar.rules ≤ rule) → rule < length grammar.rules
    by_rule (inl below) = below
    by_rule (inr past) =
        let none : length (alternatives_of grammar rule) ≡ 0 = ap (λ (r : rules.Rule). length r.alts) (get_or_past grammar.rules rule (record { name = []; alts = [] }) past) in
        absurd (omega (arith, none, by_alternative (order' alternative (length (alternatives_of grammar rule)))))

-- a token of the arguments has the bound
record IsTokenOf (grammar : Grammar) (arguments : List Arg) (len value : ℕ) : Type 0 where
  token : Arg
  stands : Contains arguments token
  admits : AdmitsLength token len
  value_is : value ≡ token_bound grammar token len

choose : Bool → Bool → ℕ → ℕ
choose low high value = cond (low && high) value 0

choose-some : (low high : Bool) (value : ℕ) → low ≡ true → high ≡ true → choose low high value ≡ value
unfolding choose
choose-some true true value e f = refl
choose-some true false value e f = absurd cc
choose-some false high value e f = absurd cc

choose-found : (low high : Bool) (value : ℕ) → (choose low high value ≡ 0) ⊎ ((low ≡ true) × (high ≡ true) × (choose low high value ≡ value))
unfolding choose
choose-found true true value = inr (refl, refl, refl)
choose-found true false value = inl refl
choose-found false high value = inl refl

module _ (grammar : Grammar) (algebra : ℕ) (least : List ℕ) (greatest : List (Option ℕ)) (most : ℕ) where
  -- a token's bound at a length that it admits
  argument_above : (sign place : ℕ) (argument : Arg) (len : ℕ) → len ≤ most → AdmitsLength argument len → token_bound grammar argument len ≤ token_number len (part_in grammar (Scores algebra) (record { least = least; greatest = greatest; most = most }) sign place argument)
  unfolding choose
  argument_above sign place (Rule rule) len short admits = absurd admits
  argument_above sign place (Literal text) len short admits = omega arith
  argument_above sign place (Letter class) len short admits =
      let e = choose-some (nat_le (min 1 (most + 1)) len) (nat_le len (min 1 (most + 1) + (min 1 most - min 1 (most + 1)))) (token_bound grammar (Letter class) len) (le-leb _ _ (omega (arith, admits))) (le-leb _ _ (omega (arith, admits))) in
      omega (arith, e)
  argument_above sign place (Run class low None) len short admits =
      let e = choose-some (nat_le (min low (most + 1)) len) (nat_le len (min low (most + 1) + (min most most - min low (most + 1)))) (token_bound grammar (Run class low None) len) (le-leb _ _ (omega (arith, admits.0))) (le-leb _ _ (omega (arith, admits.0))) in
      omega (arith, e)
  argument_above sign place (Run class low (Some high)) len short admits =
      let e = choose-some (nat_le (min low (most + 1)) len) (nat_le len (min low (most + 1) + (min high most - min low (most + 1)))) (token_bound grammar (Run class low (Some high)) len) (le-leb _ _ (omega (arith, admits.0))) (le-leb _ _ (omega (arith, admits.0, admits.1))) in
      omega (arith, e)

  -- what a part is worth is 0, or the bound of its token
  argument_found : (sign place : ℕ) (argument : Arg) (len : ℕ) → IsSound grammar argument → len ≤ most → (token_number len (part_in grammar (Scores algebra) (record { least = least; greatest = greatest; most = most }) sign place argument) ≡ 0) ⊎ (AdmitsLength argument len × (token_number len (part_in grammar (Scores algebra) (record { least = least; greatest = greatest; most = most }) sign place argument) ≡ token_bound grammar argument len))
  unfolding choose
  argument_found sign place (Rule rule) len sound short = by (choose-found (nat_le low len) (nat_le len (low + room)) 0)
    where
      low : ℕ
      low = (part_in grammar (Scores algebra) (record { least = least; greatest = greatest; most = most }) sign place (Rule rule)).low

      room : ℕ
      room = (part_in grammar (Scores algebra) (record { least = least; greatest = greatest; most = most }) sign place (Rule rule)).room

      by : (choose (nat_le low len) (nat_le len (low + room)) 0 ≡ 0) ⊎ ((nat_le low len ≡ true) × (nat_le len (low + room) ≡ true) × (choose (nat_le low len) (nat_le len (low + room)) 0 ≡ 0)) → (choose (nat_le low len) (nat_le len (low + room)) 0 ≡ 0) ⊎ (⊥ × (choose (nat_le low len) (nat_le len (low + room)) 0 ≡ 0))
      by (inl none) = inl none
      by (inr found) = inl found.2
  argument_found sign place (Literal text) len sound short = by (choose-found (nat_le (min (length text) (most + 1)) len) (nat_le len (min (length text) (most + 1) + (min (length text) most - min (length text) (most + 1)))) (0 * len))
    where
      by : (choose (nat_le (min (length text) (most + 1)) len) (nat_le len (min (length text) (most + 1) + (min (length text) most - min (length text) (most + 1)))) (0 * len) ≡ 0) ⊎ ((nat_le (min (length text) (most + 1)) len ≡ true) × (nat_le len (min (length text) (most + 1) + (min (length text) most - min (length text) (most + 1))) ≡ true) × (choose (nat_le (min (length text) (most + 1)) len) (nat_le len (min (length text) (most + 1) + (min (length text) most - min (length text) (most + 1)))) (0 * len) ≡ 0 * len))
          → (choose (nat_le (min (length text) (most + 1)) len) (nat_le len (min (length text) (most + 1) + (min (length text) most - min (length text) (most + 1)))) (0 * len) ≡ 0) ⊎ ((len ≡ length text) × (choose (nat_le (min (length text) (most + 1)) len) (nat_le len (min (length text) (most + 1) + (min (length text) most - min (length text) (most + 1)))) (0 * len) ≡ 0))
      by (inl none) = inl none
      by (inr found) = inl (omega (arith, found.2))
  argument_found sign place (Letter class) len sound short = by (choose-found (nat_le (min 1 (most + 1)) len) (nat_le len (min 1 (most + 1) + (min 1 most - min 1 (most + 1)))) (token_bound grammar (Letter class) len))
    where
      by : (choose (nat_le (min 1 (most + 1)) len) (nat_le len (min 1 (most + 1) + (min 1 most - min 1 (most + 1)))) (token_bound grammar (Letter class) len) ≡ 0) ⊎ ((nat_le (min 1 (most + 1)) len ≡ true) × (nat_le len (min 1 (most + 1) + (min 1 most - min 1 (most + 1))) ≡ true) × (choose (nat_le (min 1 (most + 1)) len) (nat_le len (min 1 (most + 1) + (min 1 most - min 1 (most + 1)))) (token_bound grammar (Letter class) len) ≡ token_bound grammar (Letter class) len))
          → (choose (nat_le (min 1 (most + 1)) len) (nat_le len (min 1 (most + 1) + (min 1 most - min 1 (most + 1)))) (token_bound grammar (Letter class) len) ≡ 0) ⊎ ((len ≡ 1) × (choose (nat_le (min 1 (most + 1)) len) (nat_le len (min 1 (most + 1) + (min 1 most - min 1 (most + 1)))) (token_bound grammar (Letter class) len) ≡ token_bound grammar (Letter class) len))
      by (inl none) = inl none
      by (inr found) = inr (omega (arith, leb-true _ _ found.0, leb-true _ _ found.1), found.2)
  argument_found sign place (Run class low None) len sound short = by (choose-found (nat_le (min low (most + 1)) len) (nat_le len (min low (most + 1) + (min most most - min low (most + 1)))) (token_bound grammar (Run class low None) len))
    where
      by : (choose (nat_le (min low (most + 1)) len) (nat_le len (min low (most + 1) + (min most most - min low (most + 1)))) (token_bound grammar (Run class low None) len) ≡ 0) ⊎ ((nat_le (min low (most + 1)) len ≡ true) × (nat_le len (min low (most + 1) + (min most most - min low (most + 1))) ≡ true) × (choose (nat_le (min low (most + 1)) len) (nat_le len (min low (most + 1) + (min most most - min low (most + 1)))) (token_bound grammar (Run class low None) len) ≡ token_bound grammar (Run class low None) len))
          → (choose (nat_le (min low (most + 1)) len) (nat_le len (min low (most + 1) + (min most most - min low (most + 1)))) (token_bound grammar (Run class low None) len) ≡ 0) ⊎ (((low ≤ len) × Unit {0}) × (choose (nat_le (min low (most + 1)) len) (nat_le len (min low (most + 1) + (min most most - min low (most + 1)))) (token_bound grammar (Run class low None) len) ≡ token_bound grammar (Run class low None) len))
      by (inl none) = inl none
      by (inr found) = inr ((omega (arith, leb-true _ _ found.0), tt), found.2)
  argument_found sign place (Run class low (Some high)) len sound short = by (choose-found (nat_le (min low (most + 1)) len) (nat_le len (min low (most + 1) + (min high most - min low (most + 1)))) (token_bound grammar (Run class low (Some high)) len))
    where
      by : (choose (nat_le (min low (most + 1)) len) (nat_le len (min low (most + 1) + (min high most - min low (most + 1)))) (token_bound grammar (Run class low (Some high)) len) ≡ 0) ⊎ ((nat_le (min low (most + 1)) len ≡ true) × (nat_le len (min low (most + 1) + (min high most - min low (most + 1))) ≡ true) × (choose (nat_le (min low (most + 1)) len) (nat_le len (min low (most + 1) + (min high most - min low (most + 1)))) (token_bound grammar (Run class low (Some high)) len) ≡ token_bound grammar (Run class low (Some high)) len))
          → (choose (nat_le (min low (most + 1)) len) (nat_le len (min low (most + 1) + (min high most - min low (most + 1)))) (token_bound grammar (Run class low (Some high)) len) ≡ 0) ⊎ (((low ≤ len) × (len ≤ high)) × (choose (nat_le (min low (most + 1)) len) (nat_le len (min low (most + 1) + (min high most - min low (most + 1)))) (token_bound grammar (Run class low (Some high)) len) ≡ token_bound grammar (Run class low (Some high)) len))
      by (inl none) = inl none
      by (inr found) = inr ((omega (arith, leb-true _ _ found.0), omega (arith, sound, leb-true _ _ found.0, leb-true _ _ found.1)), found.2)

  -- ---- alternatives, rules, the plan

  parts_above : (sign place : ℕ) (arguments : List Arg) (k : ℕ) (token : Arg) (len : ℕ) → len ≤ most → k < length arguments → slice_index_or arguments k token ≡ token → AdmitsLength token len → token_bound grammar token len ≤ greatest_of (token_number len) (parts_in grammar (Scores algebra) (record { least = least; greatest = greatest; most = most }) sign place arguments)
  parts_above sign place [] k token len short inside token_is admits = absurd (omega arith)
  parts_above sign place (argument ∷ arguments) zero token len short inside token_is admits =
      let here = argument_above sign place argument len short (subst (λ t. AdmitsLength t len) (sym token_is) admits) in
      let same : token_bound grammar argument len ≡ token_bound grammar token len = ap (λ t. token_bound grammar t len) token_is in
      omega arith
  parts_above sign place (argument ∷ arguments) (suc k) token len short inside token_is admits =
      let low = parts_above sign (place + 1) arguments k token len short (omega arith) token_is admits in
      omega arith

  parts_found : (sign place : ℕ) (arguments : List Arg) (len : ℕ) → AllByRecursion (IsSound grammar) arguments → len ≤ most → (greatest_of (token_number len) (parts_in grammar (Scores algebra) (record { least = least; greatest = greatest; most = most }) sign place arguments) ≡ 0) ⊎ IsTokenOf grammar arguments len (greatest_of (token_number len) (parts_in grammar (Scores algebra) (record { least = least; greatest = greatest; most = most }) sign place arguments))
  parts_found sign place [] len sound short = inl refl
  parts_found sign place (argument ∷ arguments) len sound short = by (max_cases (token_number len (part_in grammar (Scores algebra) (record { least = least; greatest = greatest; most = most }) sign place argument)) (greatest_of (token_number len) (parts_in grammar (Scores algebra) (record { least = least; greatest = greatest; most = most }) sign (place + 1) arguments))) (argument_found sign place argument len sound.0 short) (parts_found sign (place + 1) arguments len sound.1 short)
    where
      here : ℕ
      here = token_number len (part_in grammar (Scores algebra) (record { least = least; greatest = greatest; most = most }) sign place argument)

      rest : ℕ
      rest = greatest_of (token_number len) (parts_in grammar (Scores algebra) (record { least = least; greatest = greatest; most = most }) sign (place + 1) arguments)

      by : (max here rest ≡ here) ⊎ (max here rest ≡ rest) → (here ≡ 0) ⊎ (AdmitsLength argument len × (here ≡ token_bound grammar argument len)) → (rest ≡ 0) ⊎ IsTokenOf grammar arguments len rest → (max here rest ≡ 0) ⊎ IsTokenOf grammar (argument ∷ arguments) len (max here rest)
      by (inl e) (inl none) others = inl (e ∙ none)
      by (inl e) (inr found) others = inr (record { token = argument; stands = (0, omega arith, refl); admits = found.0; value_is = e ∙ found.1 })
      by (inr e) h (inl none) = inl (e ∙ none)
      by (inr e) h (inr found) = inr (record { token = found.token; stands = (suc found.stands.0, omega (arith, found.stands.1), found.stands.2); admits = found.admits; value_is = e ∙ found.value_is })

  tokens_above : (len : ℕ) → len ≤ most → (rule alternative : ℕ) (token : Arg) → rule < length grammar.rules → alternative < length (alternatives_of grammar rule) → Contains (arguments_of grammar rule alternative) token → AdmitsLength token len → token_bound grammar token len ≤ tokens_number len (grammar_plan grammar (Scores algebra) (record { least = least; greatest = greatest; most = most }))
  tokens_above len short rule alternative token inside in_range stands admits =
      let entries = map (entry_in grammar (Scores algebra) (record { least = least; greatest = greatest; most = most })) (alternatives_of grammar rule) in
      let low = parts_above (alternative_at grammar rule alternative).sign 0 (arguments_of grammar rule alternative) stands.0 token len short stands.1 stands.2 admits in
      let above = of_above (alternative_tokens len) entries alternative (inl 0, []) (omega (arith, length-map (alternatives_of grammar rule) (entry_in grammar (Scores algebra) (record { least = least; greatest = greatest; most = most })))) in
      let entry = ap (alternative_tokens len) (get_or-map (entry_in grammar (Scores algebra) (record { least = least; greatest = greatest; most = most })) (alternatives_of grammar rule) alternative (record { sign = 0; args = []; size = None }) (inl 0, []) in_range) in
      let over = of_above (greatest_of (alternative_tokens len)) (grammar_plan grammar (Scores algebra) (record { least = least; greatest = greatest; most = most })) rule [] (omega (arith, length-map grammar.rules (λ (r : rules.Rule). map (entry_in grammar (Scores algebra) (record { least = least; greatest = greatest; most = most })) r.alts))) in
      let plan = ap (greatest_of (alternative_tokens len)) (get_or-map (λ (r : rules.Rule). map (entry_in grammar (Scores algebra) (record { least = least; greatest = greatest; most = most })) r.alts) grammar.rules rule (record { name = []; alts = [] }) [] inside) in
      omega (arith, low, above, entry, over, plan)

  module _ (sound : (rule alternative : ℕ) → AllByRecursion (IsSound grammar) (arguments_of grammar rule alternative)) where
    tokens_found : (len : ℕ) → len ≤ most → (tokens_number len (grammar_plan grammar (Scores algebra) (record { least = least; greatest = greatest; most = most })) ≡ 0) ⊎ ((rule : ℕ) × (alternative : ℕ) × IsTokenOf grammar (arguments_of grammar rule alternative) len (tokens_number len (grammar_plan grammar (Scores algebra) (record { least = least; greatest = greatest; most = most }))))
    tokens_found len short = in_plan (of_found (greatest_of (alternative_tokens len)) (grammar_plan grammar (Scores algebra) (record { least = least; greatest = greatest; most = most })) [])
      where
        value : ℕ
        value = tokens_number len (grammar_plan grammar (Scores algebra) (record { least = least; greatest = greatest; most = most }))

        in_alternative : (rule alternative : ℕ) → (value' : ℕ) → value' ≡ greatest_of (token_number len) (parts_in grammar (Scores algebra) (record { least = least; greatest = greatest; most = most }) (alternative_at grammar rule alternative).sign 0 (arguments_of grammar rule alternative)) → (greatest_of (token_number len) (parts_in grammar (Scores algebra) (record { least = least; greatest = greatest; most = most }) (alternative_at grammar rule alternative).sign 0 (arguments_of grammar rule alternative)) ≡ 0) ⊎ IsTokenOf grammar (arguments_of grammar rule alternative) len (greatest_of (token_number len) (parts_in grammar (Scores algebra) (record { least = least; greatest = greatest; most = most }) (alternative_at grammar rule alternative).sign 0 (arguments_of grammar rule alternative))) → (value' ≡ 0) ⊎ ((r : ℕ) × (a : ℕ) × IsTokenOf grammar (arguments_of grammar r a) len value')
        in_alternative rule alternative value' e (inl none) = inl (e ∙ none)
        in_alternative rule alternative value' e (inr found) = inr (rule, alternative, record { token = found.token; stands = found.stands; admits = found.admits; value_is = e ∙ found.value_is })

        in_rule : (rule : ℕ) → rule < length grammar.rules → (value' : ℕ) → value' ≡ greatest_of (alternative_tokens len) (map (entry_in grammar (Scores algebra) (record { least = least; greatest = greatest; most = most })) (alternatives_of grammar rule)) → (greatest_of (alternative_tokens len) (map (entry_in grammar (Scores algebra) (record { least = least; greatest = greatest; most = most })) (alternatives_of grammar rule)) ≡ 0) ⊎ IsNumberOf (alternative_tokens len) (map (entry_in grammar (Scores algebra) (record { least = least; greatest = greatest; most = most })) (alternatives_of grammar rule)) (inl 0, []) (greatest_of (alternative_tokens len) (map (entry_in grammar (Scores algebra) (record { least = least; greatest = greatest; most = most })) (alternatives_of grammar rule))) → (value' ≡ 0) ⊎ ((r : ℕ) × (a : ℕ) × IsTokenOf grammar (arguments_of grammar r a) len value')
        in_rule rule inside value' e (inl none) = inl (e ∙ none)
        in_rule rule inside value' e (inr found) =
            let in_range : found.place < length (alternatives_of grammar rule) = omega (arith, found.inside, length-map (alternatives_of grammar rule) (entry_in grammar (Scores algebra) (record { least = least; greatest = greatest; most = most }))) in
            in_alternative rule found.place value'
            (e ∙ found.value_is ∙ ap (alternative_tokens len) (get_or-map (entry_in grammar (Scores algebra) (record { least = least; greatest = greatest; most = most })) (alternatives_of grammar rule) found.place (record { sign = 0; args = []; size = None }) (inl 0, []) in_range))
            (parts_found (alternative_at grammar rule found.place).sign 0 (arguments_of grammar rule found.place) len (sound rule found.place) short)

        in_plan : (value ≡ 0) ⊎ IsNumberOf (greatest_of (alternative_tokens len)) (grammar_plan grammar (Scores algebra) (record { least = least; greatest = greatest; most = most })) [] value → (value ≡ 0) ⊎ ((r : ℕ) × (a : ℕ) × IsTokenOf grammar (arguments_of grammar r a) len value)
        in_plan (inl none) = inl none
        in_plan (inr found) =
            let inside : found.place < length grammar.rules = omega (arith, found.inside, length-map grammar.rules (λ (r : rules.Rule). map (entry_in grammar (Scores algebra) (record { least = least; greatest = greatest; most = most })) r.alts)) in
            in_rule found.place inside value
            (found.value_is ∙ ap (greatest_of (alternative_tokens len)) (get_or-map (λ (r : rules.Rule). map (entry_in grammar (Scores algebra) (record { least = least; greatest = greatest; most = most })) r.alts) grammar.rules found.place (record { name = []; alts = [] }) [] inside))
            (of_found (alternative_tokens len) (map (entry_in grammar (Scores algebra) (record { least = least; greatest = greatest; most = most })) (alternatives_of grammar found.place)) (inl 0, []))

    -- ---- the score bound

    order : (m n : ℕ) → (m < n) ⊎ (n ≤ m)
    order m n = grind arith

    rule_below : (bound : ℕ → ℕ → ℕ) (rule l len : ℕ) → rule < length grammar.rules → l ≤ len → bound rule l ≤ score_number bound (length grammar.rules) (grammar_plan grammar (Scores algebra) (record { least = least; greatest = greatest; most = most })) len
    rule_below bound rule l zero inside short =
        let none : l ≡ 0 = omega arith in
        let above = from_above (λ r. bound r 0) (length grammar.rules) rule inside in
        let same = ap (bound rule) none in
        omega arith
    rule_below bound rule l (suc len) inside short = by (order l (suc len)) (λ low. rule_below bound rule l len inside low)
      where
        by : (l < suc len) ⊎ (suc len ≤ l) → (l ≤ len → bound rule l ≤ score_number bound (length grammar.rules) (grammar_plan grammar (Scores algebra) (record { least = least; greatest = greatest; most = most })) len) → bound rule l ≤ score_number bound (length grammar.rules) (grammar_plan grammar (Scores algebra) (record { least = least; greatest = greatest; most = most })) (suc len)
        by (inl less) rest = let low = rest (omega arith) in omega arith
        by (inr past) rest =
            let same : l ≡ suc len = omega arith in
            let above = from_above (λ r. bound r (suc len)) (length grammar.rules) rule inside in
            let here = ap (bound rule) same in
            omega arith

    token_below : (bound : ℕ → ℕ → ℕ) (rule alternative : ℕ) (token : Arg) (l len : ℕ) → len ≤ most → rule < length grammar.rules → alternative < length (alternatives_of grammar rule) → Contains (arguments_of grammar rule alternative) token → AdmitsLength token l → l ≤ len → token_bound grammar token l ≤ score_number bound (length grammar.rules) (grammar_plan grammar (Scores algebra) (record { least = least; greatest = greatest; most = most })) len
    token_below bound rule alternative token l zero low inside in_range stands admits short =
        let none : l ≡ 0 = omega arith in
        let above = tokens_above 0 low rule alternative token inside in_range stands (subst (AdmitsLength token) none admits) in
        let here = ap (token_bound grammar token) none in
        omega arith
    token_below bound rule alternative token l (suc len) low inside in_range stands admits short = by (order l (suc len)) (λ less. token_below bound rule alternative token l len (omega arith) inside in_range stands admits less)
      where
        by : (l < suc len) ⊎ (suc len ≤ l) → (l ≤ len → token_bound grammar token l ≤ score_number bound (length grammar.rules) (grammar_plan grammar (Scores algebra) (record { least = least; greatest = greatest; most = most })) len) → token_bound grammar token l ≤ score_number bound (length grammar.rules) (grammar_plan grammar (Scores algebra) (record { least = least; greatest = greatest; most = most })) (suc len)
        by (inl less) rest = let under = rest (omega arith) in omega arith
        by (inr past) rest =
            let same : l ≡ suc len = omega arith in
            let above = tokens_above (suc len) low rule alternative token inside in_range stands (subst (AdmitsLength token) same admits) in
            let here = ap (token_bound grammar token) same in
            omega arith

    later : (bound : ℕ → ℕ → ℕ) (len n : ℕ) → IsRuleBound grammar bound len n ⊎ IsTokenBound grammar len n → IsRuleBound grammar bound (suc len) n ⊎ IsTokenBound grammar (suc len) n
    later bound len n (inl h) = inl (h.0, h.1, h.2, omega (arith, h.3), h.4)
    later bound len n (inr h) = inr (h.0, h.1, h.2, h.3, h.4, h.5, omega (arith, h.6), h.7)

    at_length : (bound : ℕ → ℕ → ℕ) (len : ℕ) → len ≤ most → (max (rules_number bound (length grammar.rules) len) (tokens_number len (grammar_plan grammar (Scores algebra) (record { least = least; greatest = greatest; most = most }))) ≡ 0) ⊎ (IsRuleBound grammar bound len (max (rules_number bound (length grammar.rules) len) (tokens_number len (grammar_plan grammar (Scores algebra) (record { least = least; greatest = greatest; most = most })))) ⊎ IsTokenBound grammar len (max (rules_number bound (length grammar.rules) len) (tokens_number len (grammar_plan grammar (Scores algebra) (record { least = least; greatest = greatest; most = most })))))
    at_length bound len short = by (max_cases (rules_number bound (length grammar.rules) len) (tokens_number len (grammar_plan grammar (Scores algebra) (record { least = least; greatest = greatest; most = most })))) (from_found (λ rule. bound rule len) (length grammar.rules)) (tokens_found len short)
      where
        by : (max (rules_number bound (length grammar.rules) len) (tokens_number len (grammar_plan grammar (Scores algebra) (record { least = least; greatest = greatest; most = most }))) ≡ rules_number bound (length grammar.rules) len) ⊎ (max (rules_number bound (length grammar.rules) len) (tokens_number len (grammar_plan grammar (Scores algebra) (record { least = least; greatest = greatest; most = most }))) ≡ tokens_number len (grammar_plan grammar (Scores algebra) (record { least = least; greatest = greatest; most = most })))
            → (rules_number bound (length grammar.rules) len ≡ 0) ⊎ IsNumberAt (λ rule. bound rule len) (length grammar.rules) (rules_number bound (length grammar.rules) len)
            → (tokens_number len (grammar_plan grammar (Scores algebra) (record { least = least; greatest = greatest; most = most })) ≡ 0) ⊎ ((rule : ℕ) × (alternative : ℕ) × IsTokenOf grammar (arguments_of grammar rule alternative) len (tokens_number len (grammar_plan grammar (Scores algebra) (record { least = least; greatest = greatest; most = most }))))
            → (max (rules_number bound (length grammar.rules) len) (tokens_number len (grammar_plan grammar (Scores algebra) (record { least = least; greatest = greatest; most = most }))) ≡ 0) ⊎ (IsRuleBound grammar bound len (max (rules_number bound (length grammar.rules) len) (tokens_number len (grammar_plan grammar (Scores algebra) (record { least = least; greatest = greatest; most = most })))) ⊎ IsTokenBound grammar len (max (rules_number bound (length grammar.rules) len) (tokens_number len (grammar_plan grammar (Scores algebra) (record { least = least; greatest = greatest; most = most })))))
        by (inl e) (inl none) t = inl (e ∙ none)
        by (inl e) (inr found) t = inr (inl (found.place, len, found.inside, omega arith, e ∙ found.value_is))
        by (inr e) r (inl none) = inl (e ∙ none)
        by (inr e) r (inr found) = inr (inr (found.0, found.1, found.2.token, len, found.2.stands, found.2.admits, omega arith, e ∙ found.2.value_is))

    score_found : (bound : ℕ → ℕ → ℕ) (len : ℕ) → len ≤ most → (score_number bound (length grammar.rules) (grammar_plan grammar (Scores algebra) (record { least = least; greatest = greatest; most = most })) len ≡ 0) ⊎ (IsRuleBound grammar bound len (score_number bound (length grammar.rules) (grammar_plan grammar (Scores algebra) (record { least = least; greatest = greatest; most = most })) len) ⊎ IsTokenBound grammar len (score_number bound (length grammar.rules) (grammar_plan grammar (Scores algebra) (record { least = least; greatest = greatest; most = most })) len))
    score_found bound zero short = at_length bound 0 short
    score_found bound (suc len) short = by (max_cases (score_number bound (length grammar.rules) (grammar_plan grammar (Scores algebra) (record { least = least; greatest = greatest; most = most })) len) (max (rules_number bound (length grammar.rules) (suc len)) (tokens_number (suc len) (grammar_plan grammar (Scores algebra) (record { least = least; greatest = greatest; most = most }))))) (score_found bound len (omega arith)) (at_length bound (suc len) short)
      where
        before : ℕ
        before = score_number bound (length grammar.rules) (grammar_plan grammar (Scores algebra) (record { least = least; greatest = greatest; most = most })) len

        here : ℕ
        here = max (rules_number bound (length grammar.rules) (suc len)) (tokens_number (suc len) (grammar_plan grammar (Scores algebra) (record { least = least; greatest = greatest; most = most })))

        by : (max before here ≡ before) ⊎ (max before here ≡ here) → (before ≡ 0) ⊎ (IsRuleBound grammar bound len before ⊎ IsTokenBound grammar len before) → (here ≡ 0) ⊎ (IsRuleBound grammar bound (suc len) here ⊎ IsTokenBound grammar (suc len) here) → (max before here ≡ 0) ⊎ (IsRuleBound grammar bound (suc len) (max before here) ⊎ IsTokenBound grammar (suc len) (max before here))
        by (inl e) (inl none) h = inl (e ∙ none)
        by (inl e) (inr found) h = inr (subst (λ n. IsRuleBound grammar bound (suc len) n ⊎ IsTokenBound grammar (suc len) n) (sym e) (later bound len before found))
        by (inr e) b (inl none) = inl (e ∙ none)
        by (inr e) b (inr found) = inr (subst (λ n. IsRuleBound grammar bound (suc len) n ⊎ IsTokenBound grammar (suc len) n) (sym e) found)

    pub score_is : (bound : ℕ → ℕ → ℕ) (len number : ℕ) → len ≤ most → IsGreatest (λ other. IsRuleBound grammar bound len other ⊎ IsTokenBound grammar len other) number → number ≡ score_number bound (length grammar.rules) (grammar_plan grammar (Scores algebra) (record { least = least; greatest = greatest; most = most })) len
    score_is bound len number short is_greatest = greatest_is (λ other. IsRuleBound grammar bound len other ⊎ IsTokenBound grammar len other) number (score_number bound (length grammar.rules) (grammar_plan grammar (Scores algebra) (record { least = least; greatest = greatest; most = most })) len) is_greatest below (score_found bound len short)
      where
        below : (n : ℕ) → IsRuleBound grammar bound len n ⊎ IsTokenBound grammar len n → n ≤ score_number bound (length grammar.rules) (grammar_plan grammar (Scores algebra) (record { least = least; greatest = greatest; most = most })) len
        below n (inl h) = let low = rule_below bound h.0 h.1 len h.2 h.3 in omega (arith, h.4)
        below n (inr h) =
            let there = argument_stands grammar h.0 h.1 h.2 h.4 in
            let low = token_below bound h.0 h.1 h.2 h.3 len short there.0 there.1 h.4 h.5 h.6 in
            omega (arith, h.7)
