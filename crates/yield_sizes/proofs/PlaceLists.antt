-- The places of a grammar's alternatives, listed rule by rule.
use Rattle.std.proofs.Common.{ℕ, ◌+◌, ◌<◌, ◌≤◌, inl, inr, List, [], ◌∷◌, ◌++◌, length, sym, subst, arith}
use Rattle.std.specs.List.{Contains}
use Rattle.std.proofs.lemmas.Bool.{cases_eq}
use Rattle.std.proofs.lemmas.List.Elements.{Contains-append_left, Contains-push, Contains-push_cases}
use Rattle.adp_model.specs.declared.grammar.Grammar.{Grammar}
use Rattle.adp_model.specs.Parts.{alternatives_of}
use Rattle.yield_sizes.specs.declared.places.Place.{Place}
use Rattle.yield_sizes.specs.Places.{ArePlaces, AreAllPlaces}
use Rattle.yield_sizes.proofs.LeastLengths.{in_range}

-- the places of the first rules' alternatives, and of the first ones of the next rule
pub record ArePlacesBelow (grammar : Grammar) (places : List Place) (rules alternatives : ℕ) : Type 0 where
  pub within : ArePlaces grammar places
  pub before : (rule alternative : ℕ) → rule < rules → alternative < length (alternatives_of grammar rule) → Contains places (record { rule = rule; alternative = alternative })
  pub here : (alternative : ℕ) → alternative < alternatives → Contains places (record { rule = rules; alternative = alternative })

pub no_places : (grammar : Grammar) → ArePlacesBelow grammar [] 0 0
no_places grammar = record {
  within = λ place contained. absurd (omega (arith, contained.1));
  before = λ rule alternative l. absurd (omega arith);
  here = λ alternative l. absurd (omega arith);
}

pub one_place_more : (grammar : Grammar) (places : List Place) (rule alternative : ℕ) → alternative < length (alternatives_of grammar rule) → ArePlacesBelow grammar places rule alternative → ArePlacesBelow grammar (places ++ record { rule = rule; alternative = alternative } ∷ []) rule (alternative + 1)
one_place_more grammar places rule alternative l are = record {
  within = λ place contained. elim (Contains-push_cases places (record { rule = rule; alternative = alternative }) place contained) [
    | inl old ↦ are.within place old
    | inr new ↦ subst (λ (it : Place). it.alternative < length (alternatives_of grammar it.rule)) new l
  ];
  before = λ other number k m. Contains-append_left places (record { rule = rule; alternative = alternative } ∷ []) (record { rule = other; alternative = number }) (are.before other number k m);
  here = λ number k. elim (cases_eq number alternative) [
    | inl same ↦ subst (λ n. Contains (places ++ record { rule = rule; alternative = alternative } ∷ []) (record { rule = rule; alternative = n })) (sym same) (Contains-push places (record { rule = rule; alternative = alternative }))
    | inr other ↦ Contains-append_left places (record { rule = rule; alternative = alternative } ∷ []) (record { rule = rule; alternative = number }) (are.here number (omega arith))
  ];
}

pub one_rule_more : (grammar : Grammar) (places : List Place) (rule alternatives : ℕ) → length (alternatives_of grammar rule) ≤ alternatives → ArePlacesBelow grammar places rule alternatives → ArePlacesBelow grammar places (rule + 1) 0
one_rule_more grammar places rule alternatives long are = record {
  within = are.within;
  before = λ other alternative l m. elim (cases_eq other rule) [
    | inl same ↦
        let P : ℕ → Type 0 = λ r. alternative < length (alternatives_of grammar r) in
        let inside : alternative < length (alternatives_of grammar rule) = subst P same m in
        subst (λ r. Contains places (record { rule = r; alternative = alternative })) (sym same) (are.here alternative (omega arith))
    | inr differs ↦ are.before other alternative (omega arith) m
  ];
  here = λ alternative l. absurd (omega arith);
}

pub all_rules : (grammar : Grammar) (places : List Place) (rules : ℕ) → length grammar.rules ≤ rules → ArePlacesBelow grammar places rules 0 → AreAllPlaces grammar places
all_rules grammar places rules long are = record {
  within = are.within;
  all = λ rule alternative l. are.before rule alternative (let known : rule < length grammar.rules = in_range grammar rule alternative l in omega arith) l;
}
