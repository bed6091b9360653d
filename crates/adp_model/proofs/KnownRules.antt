-- A rule that has an alternative, a length or sizes is one of the grammar's.
use Rattle.std.proofs.Common.{◌≡◌, ℕ, ◌<◌, ◌≤◌, ◌⊎◌, inl, inr, [], length, ap, arith}
use Rattle.std.proofs.lemmas.Bool.{cases_lt}
use Rattle.std.proofs.lemmas.List.{get_or_past}
use Rattle.adp_model.specs.declared.grammar.Grammar.{Grammar}
use Rattle.adp_model.specs.declared.grammar.Rule as rules
use Rattle.adp_model.specs.Parts.{alternatives_of}
use Rattle.adp_model.specs.Lengths.{HasLength, ByAlternative}
use Rattle.adp_model.specs.Sizes.{IsWithinSizes}

-- a rule past the grammar's has no alternative
pub no_alternatives : (grammar : Grammar) (rule : ℕ) → length grammar.rules ≤ rule → length (alternatives_of grammar rule) ≡ 0
no_alternatives grammar rule past = ap (λ (r : rules.Rule). length r.alts) (get_or_past grammar.rules rule (record { name = []; alts = [] }) past)

pub rule_known : (grammar : Grammar) (rule alternative : ℕ) → alternative < length (alternatives_of grammar rule) → rule < length grammar.rules
rule_known grammar rule alternative h = go (cases_lt rule (length grammar.rules))
  where
    go : (rule < length grammar.rules) ⊎ (length grammar.rules ≤ rule) → rule < length grammar.rules
    go (inl k) = k
    go (inr past) =
        absurd (omega (arith, no_alternatives grammar rule past))

pub rule_known-length : (grammar : Grammar) (rule len : ℕ) → HasLength grammar rule len → rule < length grammar.rules
rule_known-length grammar rule len (ByAlternative _ alternative _ _ in_range have within is) = rule_known grammar rule alternative in_range

pub rule_known-within : (grammar : Grammar) (rule len : ℕ) → IsWithinSizes grammar rule len → rule < length grammar.rules
rule_known-within grammar rule len within = rule_known-length grammar rule within.2.0 within.2.1
