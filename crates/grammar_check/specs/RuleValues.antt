-- Values of the rules of a plan, and what the tables of a rule's alternatives have.
use Rattle.std.specs.Prelude.{ℕ, ◌+◌, ◌-◌, ◌≤◌, ◌⊎◌, max, nat_le, if◌then◌else◌, List, [], ◌∷◌, map}
use mathlib.Core.Logic.{inl, inr}
use Rattle.std.specs.List.{All}
use Rattle.adp_model.specs.WideForm as wide
use Rattle.grammar_check.specs.declared.part.Part.{Part}
use Rattle.grammar_check.specs.declared.table.Table.{Table}
use Rattle.grammar_check.specs.declared.alternative.Alternative.{Alternative}
use Rattle.grammar_check.specs.declared.alternative.Alternative.TheVariants.{Letters, Linear, Wide}
use Rattle.grammar_check.specs.Plans.{IsReadable, lows}
use Rattle.grammar_check.specs.Alternatives.{AreSpread, AreRead, alternative_value}
use Rattle.grammar_check.specs.WideAlternatives.{AreWideSpread, wide_value}

-- what an alternative adds of its own, or the wide term that says what its parts come to
abbrev pub Own : Type 0
Own = ℕ ⊎ wide.WideForm

-- an alternative of a plan
abbrev pub Entry : Type 0
Entry = Own × List Part

-- the greatest value over all ways to give an alternative this length; 0 where there is none
abbrev pub own_value : (ℕ → ℕ → ℕ) → Own → List Part → ℕ → ℕ
own_value bound (inl constant) parts len = alternative_value bound constant parts len
own_value bound (inr term) parts len = wide_value bound term parts len

-- the same of a rule
abbrev pub rule_value : (ℕ → ℕ → ℕ) → List Entry → ℕ → ℕ
rule_value bound [] len = 0
rule_value bound (entry ∷ entries) len = max (own_value bound entry.0 entry.1 len) (rule_value bound entries len)

-- what is kept of an alternative: what it adds of its own, with the tokens of one length, the length of these, and its
-- other parts; or its wide term and all parts
abbrev pub Kept : Type 0
Kept = Own × ℕ × List Part

abbrev pub kept_of : Alternative → Kept
kept_of (Letters alternative) = (inl alternative.constant, alternative.fixed, alternative.parts.items)
kept_of (Linear alternative) = (inl alternative.constant, alternative.fixed, alternative.parts.items)
kept_of (Wide alternative) = (inr alternative.term.now, 0, alternative.parts.items)

-- the kept plan of a rule
abbrev pub plan_of : List Alternative → List Kept
plan_of alternatives = map kept_of alternatives

-- the value of what is kept of an alternative
abbrev pub kept_value : (ℕ → ℕ → ℕ) → Kept → ℕ → ℕ
kept_value bound kept len = if nat_le kept.1 len then own_value bound kept.0 kept.2 (len - kept.1) else 0

-- the greatest of them
abbrev pub kept_rule_value : (ℕ → ℕ → ℕ) → List Kept → ℕ → ℕ
kept_rule_value bound [] len = 0
kept_rule_value bound (kept ∷ others) len = max (kept_value bound kept len) (kept_rule_value bound others len)

-- what is kept names rules of so many
abbrev pub IsKeptReadable : ℕ → Kept → Type 0
IsKeptReadable rules kept = All (λ (part : Part). IsReadable rules part.worth) kept.2

-- so does an alternative
abbrev pub IsAllReadable : ℕ → Alternative → Type 0
IsAllReadable rules alternative = IsKeptReadable rules (kept_of alternative)

-- the alternative's rows, where it keeps any, have at least this width
abbrev pub IsWide : ℕ → Alternative → Type 0
IsWide width (Letters alternative) = Unit {0}
IsWide width (Linear alternative) = width ≤ alternative.spreads.width
IsWide width (Wide alternative) = width ≤ alternative.rows.width

-- the table has the bounds that ways to give what is kept this length need
abbrev pub IsReadFor : (ℕ → ℕ → ℕ) → Table → ℕ → Kept → Type 0
IsReadFor bound table len kept = kept.1 ≤ len → AreRead bound table kept.2 (len - kept.1)

-- the same of a rule
abbrev pub AreAllRead : (ℕ → ℕ → ℕ) → Table → List Kept → ℕ → Type 0
AreAllRead bound table plan len = All (IsReadFor bound table len) plan

-- the rows, where it keeps any, have what the alternative's ways to have lesser lengths add
abbrev pub IsSpreadTo : (ℕ → ℕ → ℕ) → ℕ → Alternative → Type 0
IsSpreadTo bound len (Letters alternative) = Unit {0}
IsSpreadTo bound len (Linear alternative) =
    AreSpread bound alternative (len - (alternative.fixed + lows alternative.parts.items))
IsSpreadTo bound len (Wide alternative) = AreWideSpread bound alternative (len - lows alternative.parts.items)
