-- What a table of bounds has, once it is filled for some rules and lengths.
use Rattle.std.specs.Prelude.{◌≡◌, ℕ, ◌+◌, ◌<◌, ◌≤◌, List, [], ◌++◌, length, map, slice_index, slice_index_or, Vec, vec_len}
use mathlib.Core.Logic.{inl}
use Rattle.std.specs.List.{All}
use Rattle.std.specs.Global.{Global}
use Rattle.adp_model.specs.LimitFaults.{told}
use Rattle.grammar_check.specs.declared.part.Part.{Part}
use Rattle.grammar_check.specs.declared.part.Worth.{Worth}
use Rattle.grammar_check.specs.declared.part.Worth.TheVariants.{OfRule, OfLetters}
use Rattle.grammar_check.specs.declared.table.Table.{Table}
use Rattle.grammar_check.specs.declared.rule_plan.RulePlan.{RulePlan}
use Rattle.grammar_check.specs.Tables.{entry}
use Rattle.grammar_check.specs.Plans.{lows, part_at}
use Rattle.grammar_check.specs.RuleValues.{Entry, Kept, IsKeptReadable, IsWide, IsSpreadTo, plan_of, rule_value, kept_rule_value}
use Rattle.grammar_check.specs.SingleRules.{all_singles}

-- what is kept of a rule: the alternatives whose one part is a rule that is counted once, and the others
abbrev pub kept_plan : RulePlan → List Kept
kept_plan plan = all_singles plan.singles.items ++ plan_of plan.alternatives.items

abbrev pub IsRuleReadable : ℕ → RulePlan → Type 0
IsRuleReadable rules plan = All (IsKeptReadable rules) (kept_plan plan)

abbrev pub IsRuleWide : ℕ → RulePlan → Type 0
IsRuleWide width plan = All (IsWide width) plan.alternatives.items

abbrev pub IsRuleSpread : (ℕ → ℕ → ℕ) → ℕ → RulePlan → Type 0
IsRuleSpread bound len plan = All (IsSpreadTo bound len) plan.alternatives.items

-- the kept plans of all rules
abbrev pub rules_plan : List RulePlan → List (List Kept)
rules_plan plans = map kept_plan plans

-- the tokens of a rule's plan
abbrev pub plan_tokens : RulePlan → List Part
plan_tokens plan = plan.tokens.items

-- the plan of a rule
abbrev pub plan_at : List (List Entry) → ℕ → List Entry
plan_at plan rule = slice_index_or plan rule []

-- the parts of an alternative
abbrev pub parts_at : List (List Entry) → ℕ → ℕ → List Part
parts_at plan rule alternative = (slice_index_or (plan_at plan rule) alternative (inl 0, [])).1

-- the bounds are the values of the plan at this length
abbrev pub IsPlanned : (ℕ → ℕ → ℕ) → List (List Entry) → ℕ → Type 0
IsPlanned bound plan len = (rule : ℕ) → rule < length plan → bound rule len ≡ rule_value bound (plan_at plan rule) len

-- a rule that the part names has a lesser rank
abbrev pub NamesLesser : List ℕ → ℕ → Worth → Type 0
NamesLesser ranks rule (OfRule other factor) = slice_index ranks other < slice_index ranks rule
NamesLesser ranks rule (OfLetters weight factor) = Unit {0}

-- a part that can be as long as the rule, since all others can be empty, names a rule of lesser rank
abbrev pub IsRanked : List ℕ → List (List Entry) → Type 0
IsRanked ranks plan =
    (rule alternative place : ℕ) → rule < length plan → alternative < length (plan_at plan rule)
    → place < length (parts_at plan rule alternative)
    → lows (parts_at plan rule alternative) ≤ (part_at (parts_at plan rule alternative) place).low
    → NamesLesser ranks rule (part_at (parts_at plan rule alternative) place).worth

-- what is kept of a rule's plan, and of an alternative
abbrev pub kept_at : List (List Kept) → ℕ → List Kept
kept_at plan rule = slice_index_or plan rule []

abbrev pub kept_entry : List (List Kept) → ℕ → ℕ → Kept
kept_entry plan rule alternative = slice_index_or (kept_at plan rule) alternative (inl 0, 0, [])

-- the bounds are, cut, the values of what is kept of the plan at this length
abbrev pub IsKept : (ℕ → ℕ → ℕ) → List (List Kept) → ℕ → Type 0
IsKept bound plan len =
    (rule : ℕ) → rule < length plan → told (bound rule len) ≡ told (kept_rule_value bound (kept_at plan rule) len)

-- a kept part that can be as long as the rule, since all others can be empty, names a rule of lesser rank
abbrev pub IsKeptRanked : List ℕ → List (List Kept) → Type 0
IsKeptRanked ranks plan =
    (rule alternative place : ℕ) → rule < length plan → alternative < length (kept_at plan rule)
    → place < length (kept_entry plan rule alternative).2
    → (kept_entry plan rule alternative).1 + lows (kept_entry plan rule alternative).2
    ≤ (part_at (kept_entry plan rule alternative).2 place).low
    → NamesLesser ranks rule (part_at (kept_entry plan rule alternative).2 place).worth

-- there are a row and a rank for each plan, whose parts name rows and whose alternatives are as wide as the table
pub record AreFillable (ranked : List ℕ) (table : Table) (plans : Vec RulePlan Global) : Type 0 where
  pub rows : table.rows ≡ vec_len plans
  pub ranks : length ranked ≡ vec_len plans
  pub readable : All (IsRuleReadable (vec_len plans)) plans.items
  pub columns : All (IsRuleWide table.width) plans.items

-- a table and plans as they were, but for the bounds and the rows of alternatives that are written
pub record StayFillable (old : Table) (before : Vec RulePlan Global) (new : Table) (after : Vec RulePlan Global)
    : Type 0 where
  pub rows : new.rows ≡ old.rows
  pub width : new.width ≡ old.width
  pub each : vec_len after ≡ vec_len before
  pub plan : rules_plan after.items ≡ rules_plan before.items
  pub tokens : map plan_tokens after.items ≡ map plan_tokens before.items
  pub readable : All (IsRuleReadable (vec_len before)) after.items
  pub columns : All (IsRuleWide old.width) after.items

-- the table has the bounds at all lesser lengths, cut, and the rows of all alternatives are as far
pub record IsFilledTo (bound : ℕ → ℕ → ℕ) (table : Table) (plans : List RulePlan) (len : ℕ) : Type 0 where
  pub entries : (rule l : ℕ) → rule < length plans → l < len → entry table rule l ≡ told (bound rule l)
  pub spread : All (IsRuleSpread bound len) plans

-- so is it at this length for rules of lesser ranks
pub record IsRankFilled (bound : ℕ → ℕ → ℕ) (ranks : List ℕ) (table : Table) (plans : List RulePlan) (len rank : ℕ)
    : Type 0 where
  pub lower : IsFilledTo bound table plans len
  pub entries : (rule : ℕ) → rule < length plans → slice_index ranks rule < rank
      → entry table rule len ≡ told (bound rule len)
  pub spread : (rule : ℕ) (d : RulePlan) → rule < length plans → slice_index ranks rule < rank
      → IsRuleSpread bound (len + 1) (slice_index_or plans rule d)
