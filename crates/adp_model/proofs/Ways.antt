-- The greatest value of the ways to give a length to a rule, and the tables of such values: there is exactly one, where
-- a way's value depends on lesser rules and lengths alone.
use Rattle.std.proofs.Common.{◌≡◌, ℕ, zero, suc, ◌+◌, ◌-◌, ◌<◌, ◌≤◌, List, [], ◌∷◌, length, sum, ◌⊎◌, inl, inr, refl, sym, ap, ◌∙◌, arith}
use Rattle.std.proofs.lemmas.List.Sums.{sum_by-cons}
use Rattle.adp_model.specs.declared.grammar.Arg.{Arg}
use Rattle.adp_model.specs.declared.grammar.Grammar.{Grammar}
use Rattle.adp_model.specs.Parts.{alternatives_of, arguments_of}
use Rattle.adp_model.specs.Bounds.{IsInRange, AreInRange, IsWay, IsGreatest}
use Rattle.adp_model.proofs.Greatest.{greatest_unique, greatest_same, HasGreatest, HasGreatest-same, HasGreatest-none, IsSomewhere, HasGreatest-below}

pub sum-first : (first : ℕ) (others : List ℕ) → sum (first ∷ others) ≡ first + sum others
sum-first first others = sum_by-cons (λ x. x) first others

-- it is decided whether a length is in an argument's range
abbrev pub AreRangesDecided : Grammar → Type 0
AreRangesDecided grammar = (argument : Arg) (len : ℕ) → IsInRange grammar argument len ⊎ (IsInRange grammar argument len → ⊥)

-- the value at some lengths of the arguments that add up to this one
pub record IsValueOfLengths (grammar : Grammar) (arguments : List Arg) (len : ℕ) (value : List ℕ → ℕ) (number : ℕ) : Type 0 where
  pub lengths : List ℕ
  pub fit : AreInRange grammar arguments lengths
  pub sum_is : sum lengths ≡ len
  pub number_is : number ≡ value lengths

-- the first argument has this length
record IsValueAt (grammar : Grammar) (argument : Arg) (arguments : List Arg) (len : ℕ) (value : List ℕ → ℕ) (first number : ℕ) : Type 0 where
  fits : IsInRange grammar argument first
  others : IsValueOfLengths grammar arguments (len - first) (λ lengths. value (first ∷ lengths)) number

HasGreatest-at : (grammar : Grammar) (argument : Arg) (arguments : List Arg) (len : ℕ) (value : List ℕ → ℕ) (first : ℕ) → IsInRange grammar argument first ⊎ (IsInRange grammar argument first → ⊥) → HasGreatest (IsValueOfLengths grammar arguments (len - first) (λ lengths. value (first ∷ lengths))) → HasGreatest (IsValueAt grammar argument arguments len value first)
HasGreatest-at grammar argument arguments len value first (inl fits) others =
    HasGreatest-same (IsValueOfLengths grammar arguments (len - first) (λ lengths. value (first ∷ lengths))) (IsValueAt grammar argument arguments len value first)
    (λ n h. record { fits = fits; others = h }) (λ n h. h.others) others
HasGreatest-at grammar argument arguments len value first (inr wrong) others = HasGreatest-none (IsValueAt grammar argument arguments len value first) (λ n h. wrong h.fits)

pub HasGreatest-lengths : (grammar : Grammar) → AreRangesDecided grammar → (arguments : List Arg) (len : ℕ) (value : List ℕ → ℕ) → HasGreatest (IsValueOfLengths grammar arguments len value)
HasGreatest-lengths grammar decided [] zero value = (value [], inl (record { lengths = []; fit = tt; sum_is = refl; number_is = refl }, λ n h. only h.lengths n h.fit h.number_is))
  where
    only : (lengths : List ℕ) (n : ℕ) → AreInRange grammar [] lengths → n ≡ value lengths → n ≤ value []
    only [] n fit e = omega arith
    only (len ∷ lengths) n fit e = absurd fit
HasGreatest-lengths grammar decided [] (suc len) value = HasGreatest-none (IsValueOfLengths grammar [] (suc len) value) (λ n h. none h.lengths h.fit h.sum_is)
  where
    none : (lengths : List ℕ) → AreInRange grammar [] lengths → sum lengths ≡ suc len → ⊥
    none [] fit e = omega (arith, e)
    none (first ∷ lengths) fit e = fit
HasGreatest-lengths grammar decided (argument ∷ arguments) len value =
    HasGreatest-same (IsSomewhere (IsValueAt grammar argument arguments len value) (suc len)) (IsValueOfLengths grammar (argument ∷ arguments) len value) to from
    (HasGreatest-below (IsValueAt grammar argument arguments len value) (suc len)
    (λ first below. HasGreatest-at grammar argument arguments len value first (decided argument first) (HasGreatest-lengths grammar decided arguments (len - first) (λ lengths. value (first ∷ lengths)))))
  where
    to : (n : ℕ) → IsSomewhere (IsValueAt grammar argument arguments len value) (suc len) n → IsValueOfLengths grammar (argument ∷ arguments) len value n
    to n h = record {
      lengths = h.place ∷ h.holds.others.lengths;
      fit = (h.holds.fits, h.holds.others.fit);
      sum_is = omega (arith, h.holds.others.sum_is, h.below, sum-first h.place h.holds.others.lengths);
      number_is = h.holds.others.number_is;
    }

    by : (n : ℕ) (lengths : List ℕ) → AreInRange grammar (argument ∷ arguments) lengths → sum lengths ≡ len → n ≡ value lengths → IsSomewhere (IsValueAt grammar argument arguments len value) (suc len) n
    by n [] fit e e' = absurd fit
    by n (first ∷ lengths) fit e e' = record {
      place = first;
      below = omega (arith, e, sum-first first lengths);
      holds = record { fits = fit.0; others = record { lengths = lengths; fit = fit.1; sum_is = omega (arith, e, sum-first first lengths); number_is = e' } };
    }

    from : (n : ℕ) → IsValueOfLengths grammar (argument ∷ arguments) len value n → IsSomewhere (IsValueAt grammar argument arguments len value) (suc len) n
    from n h = by n h.lengths h.fit h.sum_is h.number_is

-- the value of a way, where each rule has these bounds by length: of a rule, an alternative and lengths
abbrev pub Valuation : Type 0
Valuation = (ℕ → ℕ → ℕ) → ℕ → ℕ → List ℕ → ℕ

-- the value of some way to give this length to the rule
abbrev pub IsValueOfWay : Grammar → Valuation → (ℕ → ℕ → ℕ) → ℕ → ℕ → ℕ → Type 0
IsValueOfWay grammar value bound rule len number =
    (alternative : ℕ) × (lengths : List ℕ) × IsWay grammar rule len alternative lengths × (number ≡ value bound rule alternative lengths)

pub HasGreatest-way : (grammar : Grammar) → AreRangesDecided grammar → (value : Valuation) (bound : ℕ → ℕ → ℕ) (rule len : ℕ) → HasGreatest (IsValueOfWay grammar value bound rule len)
HasGreatest-way grammar decided value bound rule len =
    HasGreatest-same (IsSomewhere (λ alternative. IsValueOfLengths grammar (arguments_of grammar rule alternative) len (value bound rule alternative)) (length (alternatives_of grammar rule))) (IsValueOfWay grammar value bound rule len)
    (λ n h. (h.place, h.holds.lengths, record { in_range = h.below; fit = h.holds.fit; sum_is = h.holds.sum_is }, h.holds.number_is))
    (λ n h. record { place = h.0; below = h.2.in_range; holds = record { lengths = h.1; fit = h.2.fit; sum_is = h.2.sum_is; number_is = h.3 } })
    (HasGreatest-below (λ alternative. IsValueOfLengths grammar (arguments_of grammar rule alternative) len (value bound rule alternative)) (length (alternatives_of grammar rule))
    (λ alternative below. HasGreatest-lengths grammar decided (arguments_of grammar rule alternative) len (value bound rule alternative)))

-- the table of the greatest values
abbrev pub IsTable : Grammar → Valuation → (ℕ → ℕ → ℕ) → Type 0
IsTable grammar value bound = (rule len : ℕ) → IsGreatest (IsValueOfWay grammar value bound rule len) (bound rule len)

-- two tables agree where the measure is below this number
abbrev pub AgreeBelow : (ℕ → ℕ → ℕ) → (ℕ → ℕ → ℕ) → (ℕ → ℕ → ℕ) → ℕ → Type 0
AgreeBelow measure bound other limit = (rule len : ℕ) → measure rule len < limit → bound rule len ≡ other rule len

-- a way's value depends on rules and lengths of lesser measure alone
abbrev pub IsLocal : Grammar → Valuation → (ℕ → ℕ → ℕ) → Type 0
IsLocal grammar value measure =
    (bound other : ℕ → ℕ → ℕ) (rule len alternative : ℕ) (lengths : List ℕ) → IsWay grammar rule len alternative lengths
    → AgreeBelow measure bound other (measure rule len) → value bound rule alternative lengths ≡ value other rule alternative lengths

module _ (grammar : Grammar) (value : Valuation) (measure : ℕ → ℕ → ℕ) (local : IsLocal grammar value measure) where
  -- where tables agree on what is lesser, the greatest values are one
  greatest_agrees : (bound other : ℕ → ℕ → ℕ) (rule len : ℕ) (a b : ℕ) → AgreeBelow measure bound other (measure rule len) → IsGreatest (IsValueOfWay grammar value bound rule len) a → IsGreatest (IsValueOfWay grammar value other rule len) b → a ≡ b
  greatest_agrees bound other rule len a b agree h k =
      greatest_unique (IsValueOfWay grammar value other rule len) a b
      (greatest_same (IsValueOfWay grammar value bound rule len) (IsValueOfWay grammar value other rule len)
      (λ n way. (way.0, way.1, way.2, way.3 ∙ local bound other rule len way.0 way.1 way.2 agree))
      (λ n way. (way.0, way.1, way.2, way.3 ∙ sym (local bound other rule len way.0 way.1 way.2 agree))) a h) k

  tables_agree : (bound other : ℕ → ℕ → ℕ) → IsTable grammar value bound → IsTable grammar value other → (limit : ℕ) → AgreeBelow measure bound other limit
  tables_agree bound other table table' zero rule len below = absurd (omega arith)
  tables_agree bound other table table' (suc limit) rule len below =
      greatest_agrees bound other rule len (bound rule len) (other rule len)
      (λ r l lower. tables_agree bound other table table' limit r l (omega arith)) (table rule len) (table' rule len)

  pub table_unique : (bound other : ℕ → ℕ → ℕ) → IsTable grammar value bound → IsTable grammar value other → (rule len : ℕ) → bound rule len ≡ other rule len
  table_unique bound other table table' rule len = tables_agree bound other table table' (suc (measure rule len)) rule len (omega arith)

  module _ (decided : AreRangesDecided grammar) where
    -- the greatest values at these bounds
    next : (ℕ → ℕ → ℕ) → ℕ → ℕ → ℕ
    next bound rule len = (HasGreatest-way grammar decided value bound rule len).0

    next_greatest : (bound : ℕ → ℕ → ℕ) (rule len : ℕ) → IsGreatest (IsValueOfWay grammar value bound rule len) (next bound rule len)
    unfolding next
    next_greatest bound rule len = (HasGreatest-way grammar decided value bound rule len).1

    -- right where the measure is below the number of rounds
    after : ℕ → ℕ → ℕ → ℕ
    after zero rule len = 0
    after (suc rounds) rule len = next (after rounds) rule len

    after_stays : (rounds : ℕ) → AgreeBelow measure (after rounds) (after (suc rounds)) rounds
    unfolding after
    after_stays zero rule len below = absurd (omega arith)
    after_stays (suc rounds) rule len below =
        greatest_agrees (after rounds) (after (suc rounds)) rule len (next (after rounds) rule len) (next (after (suc rounds)) rule len)
        (λ r l lower. after_stays rounds r l (omega arith)) (next_greatest (after rounds) rule len) (next_greatest (after (suc rounds)) rule len)

    after_settled : (more rounds rule len : ℕ) → measure rule len < rounds → after rounds rule len ≡ after (more + rounds) rule len
    after_settled zero rounds rule len below = ap (λ n. after n rule len) (omega arith)
    after_settled (suc more) rounds rule len below =
        after_settled more rounds rule len below ∙ after_stays (more + rounds) rule len (omega arith) ∙ ap (λ n. after n rule len) (omega arith)

    found : ℕ → ℕ → ℕ
    found rule len = after (suc (measure rule len)) rule len

    found_after : (rounds rule len : ℕ) → measure rule len < rounds → after rounds rule len ≡ found rule len
    unfolding found
    found_after rounds rule len below =
        sym (after_settled (rounds - suc (measure rule len)) (suc (measure rule len)) rule len (omega arith) ∙ ap (λ n. after n rule len) (omega arith))

    found_table : IsTable grammar value found
    unfolding found after
    found_table rule len =
        greatest_same (IsValueOfWay grammar value (after (measure rule len)) rule len) (IsValueOfWay grammar value found rule len)
        (λ n way. (way.0, way.1, way.2, way.3 ∙ local (after (measure rule len)) found rule len way.0 way.1 way.2 (found_after (measure rule len))))
        (λ n way. (way.0, way.1, way.2, way.3 ∙ sym (local (after (measure rule len)) found rule len way.0 way.1 way.2 (found_after (measure rule len)))))
        (found rule len) (next_greatest (after (measure rule len)) rule len)

    pub table_exists : (bound : ℕ → ℕ → ℕ) × IsTable grammar value bound
    table_exists = (found, found_table)
