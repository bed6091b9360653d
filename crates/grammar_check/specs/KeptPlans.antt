-- What a rule's plan keeps of its alternatives: tokens of one length are added to the constant, and of those with
-- the same other parts and the same length of tokens the one with the greatest constant stands for all.
use Rattle.std.specs.Prelude.{◌≡◌, ℕ, ◌^◌, ◌-◌, ◌<◌, ◌⊎◌, max, min, List, [], length, slice_index_or}
use mathlib.Core.Logic.{inl, inr}
use Rattle.adp_model.specs.LimitFaults.{told}
use Rattle.adp_model.specs.declared.grammar.Grammar.{Grammar}
use Rattle.grammar_check.specs.declared.part.Part.{Part}
use Rattle.grammar_check.specs.declared.rule_plan.RulePlan.{RulePlan}
use Rattle.grammar_check.specs.declared.measure.Measure.{Measure}
use Rattle.grammar_check.specs.Plans.{open_parts, fixed_length}
use Rattle.grammar_check.specs.RuleValues.{Entry, Kept, Own, rule_value, kept_value, kept_rule_value}
use Rattle.grammar_check.specs.TokenNumbers.{greatest_of, token_number, alternative_tokens}
use Rattle.grammar_check.specs.GrammarPlans.{Lengths, grammar_plan}
use Rattle.grammar_check.specs.Fills.{kept_plan, plan_at, plan_tokens}

-- the fixed length and the parts are those of this entry of a plan
abbrev pub KeepsPartsOf : Own → List Part → Kept → Type 0
KeepsPartsOf (inl constant) parts kept =
    (kept.1 ≡ min (fixed_length parts) (2 ^ 64 - 1)) × (kept.2 ≡ open_parts parts)
KeepsPartsOf (inr term) parts kept = (kept.1 ≡ 0) × (kept.2 ≡ parts)

abbrev pub KeepsParts : Entry → Kept → Type 0
KeepsParts entry kept = KeepsPartsOf entry.0 entry.1 kept

-- the same fixed length and the same parts
abbrev pub SameParts : Kept → Kept → Type 0
SameParts kept other = (kept.1 ≡ other.1) × (kept.2 ≡ other.2)

-- so has one of the list
abbrev pub HasParts : List Kept → Kept → Type 0
HasParts plan kept = (at : ℕ) × (at < length plan) × SameParts kept (slice_index_or plan at (inl 0, 0, []))

-- one more alternative is kept: the values are the greater ones, and no other parts come
pub record AddsKept (before after : List Kept) (kept : Kept) : Type 0 where
  pub values : (bound : ℕ → ℕ → ℕ) (len : ℕ) → kept_rule_value bound after len
      ≡ max (kept_rule_value bound before len) (kept_value bound kept len)
  pub parts : (place : ℕ) → place < length after
      → SameParts (slice_index_or after place (inl 0, 0, [])) kept
      ⊎ HasParts before (slice_index_or after place (inl 0, 0, []))

-- what is kept of a rule's plan: it has the same values and the same greatest tokens, and its parts are the plan's
pub record KeepsPlan (entries : List Entry) (kept : List Kept) (tokens : List Part)
    : Type 0 where
  pub values : (bound : ℕ → ℕ → ℕ) (len : ℕ) → len < 2 ^ 32
      → told (kept_rule_value bound kept len) ≡ told (rule_value bound entries len)
  pub parts : (place : ℕ) → place < length kept → (at : ℕ) × (at < length entries)
      × KeepsParts (slice_index_or entries at (inl 0, [])) (slice_index_or kept place (inl 0, 0, []))
  pub tokens_are : (len : ℕ) → greatest_of (token_number len) tokens ≡ greatest_of (alternative_tokens len) entries

-- the plan of a rule keeps these alternatives
abbrev pub Keeps : List Entry → RulePlan → Type 0
Keeps entries plan = KeepsPlan entries (kept_plan plan) plan.tokens.items

-- the plans keep those of a grammar's rules, rule by rule
pub record KeepsAll (grammar : Grammar) (measure : Measure) (lengths : Lengths) (plans : List RulePlan) : Type 0 where
  pub each : length plans ≡ length grammar.rules
  pub keeps : (rule : ℕ) (d : RulePlan) → rule < length plans
      → Keeps (plan_at (grammar_plan grammar measure lengths) rule) (slice_index_or plans rule d)

-- the greatest that letters of this number are worth to a token of the plan
abbrev pub rule_tokens : ℕ → RulePlan → ℕ
rule_tokens len plan = greatest_of (token_number len) (plan_tokens plan)
