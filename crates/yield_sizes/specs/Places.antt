-- Places of alternatives in a grammar.
use Rattle.std.specs.Prelude.{◌≡◌, ℕ, ◌<◌, Bool, List, length, map}
use Rattle.std.specs.List.{Contains, filter, range_with_len}
use Rattle.adp_model.specs.declared.grammar.Grammar.{Grammar}
use Rattle.adp_model.specs.Parts.{alternatives_of, alternative_at}
use Rattle.yield_sizes.specs.declared.places.Place.{Place}
use Rattle.yield_sizes.specs.ArgumentTests.{has_rule}

-- at each place is an alternative
abbrev pub ArePlaces : Grammar → List Place → Type 0
ArePlaces grammar places =
    (place : Place) → Contains places place → place.alternative < length (alternatives_of grammar place.rule)

-- the places are those of all alternatives
pub record AreAllPlaces (grammar : Grammar) (places : List Place) : Type 0 where
  pub within : ArePlaces grammar places
  pub all : (rule alternative : ℕ) → alternative < length (alternatives_of grammar rule)
      → Contains places (record { rule = rule; alternative = alternative })

-- the alternative at the place names the rule
abbrev pub is_named_at : Grammar → ℕ → Place → Bool
is_named_at grammar rule place = has_rule rule (alternative_at grammar place.rule place.alternative)

-- those of the places whose alternatives name the rule
abbrev pub places_naming : Grammar → List Place → ℕ → List Place
places_naming grammar places rule = filter (is_named_at grammar rule) places

-- the rows have the places that name each rule
abbrev pub AreNamingRows : Grammar → List (List Place) → Type 0
AreNamingRows grammar rows =
    (places : List Place) × AreAllPlaces grammar places
    × (rows ≡ map (places_naming grammar places) (range_with_len 0 (length grammar.rules)))
