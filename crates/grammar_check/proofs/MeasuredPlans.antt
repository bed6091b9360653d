-- The plans of a checked grammar: bounds are their values, and what they need of rules of the same length has a lesser
-- rank.
use Rattle.std.proofs.Common.{ℕ, ◌+◌, ◌<◌, ◌≤◌, Option, Some, None, IfSome, List, length, slice_index, slice_index_or, subst, arith, ◌↔◌}
use Rattle.std.specs.List.{All, AllByRecursion, Contains}
use Rattle.adp_model.specs.declared.grammar.Arg.{Arg}
use Rattle.adp_model.specs.declared.grammar.Arg.TheVariants.{Rule, Literal, Letter, Run}
use Rattle.adp_model.specs.declared.grammar.Grammar.{Grammar}
use Rattle.adp_model.specs.Parts.{alternatives_of, alternative_at, arguments_of}
use Rattle.adp_model.specs.Sizes.{IsWithinSizes, IsBetween}
use Rattle.adp_model.specs.Checks.{IsChecked}
use Rattle.adp_model.specs.WellFormed.{HasFittingBounds}
use Rattle.grammar_check.specs.declared.measure.Measure.{Measure}
use Rattle.grammar_check.specs.declared.measure.Measure.TheVariants.{Scores, Nodes}
use Rattle.grammar_check.specs.declared.rule_plan.RulePlan.{RulePlan}
use Rattle.grammar_check.specs.declared.table.Table.{Table}
use Rattle.grammar_check.specs.declared.part.Part.{Part}
use Rattle.grammar_check.specs.Plans.{IsReadable, lows}
use Rattle.grammar_check.specs.Alternatives.{AreSpread}
use Rattle.grammar_check.specs.MeasuredBounds.{AreBoundsOf}
use Rattle.grammar_check.specs.GrammarPlans.{own_in, grammar_plan}
use Rattle.grammar_check.specs.Fills.{plan_at, parts_at, IsPlanned, IsRanked, IsFilledTo}
use Rattle.grammar_check.proofs.PartRanges.{IsSound, all_from_contained}
use Rattle.grammar_check.proofs.CheckedSizes.{sizes_in_order}
use Rattle.grammar_check.proofs.PlanMeaning.{plan_ranked, plan_readable-at, scores_planned, nodes_planned}
use Rattle.grammar_check.specs.declared.alternative.Alternative.{Alternative}
use Rattle.grammar_check.specs.declared.alternative.Alternative.TheVariants.{Letters, Linear, Wide}
use Rattle.grammar_check.specs.RuleValues.{IsSpreadTo}
use Rattle.grammar_check.specs.WideAlternatives.{AreWideSpread}
use Rattle.grammar_check.proofs.OwnWays.{FitsOwn}
use Rattle.grammar_check.proofs.Sweeps.{none_spread}
use Rattle.grammar_check.proofs.WideSteps.{none_wide}

-- where rules that are named are there, and runs are in order
pub sound_arguments : (grammar : Grammar) → ((rule alternative other : ℕ) → Contains (arguments_of grammar rule alternative) (Rule other) → other < length grammar.rules) → ((rule alternative class low high : ℕ) → Contains (arguments_of grammar rule alternative) (Run class low (Some high)) → low ≤ high) → (rule alternative : ℕ) → AllByRecursion (IsSound grammar) (arguments_of grammar rule alternative)
sound_arguments grammar known in_order rule alternative = all_from_contained (IsSound grammar) (arguments_of grammar rule alternative) each
  where
    each : (argument : Arg) → Contains (arguments_of grammar rule alternative) argument → IsSound grammar argument
    each (Rule other) stands = known rule alternative other stands
    each (Literal text) stands = tt
    each (Letter class) stands = tt
    each (Run class low None) stands = tt
    each (Run class low (Some high)) stands = in_order rule alternative class low high stands

module _ (grammar : Grammar) (algebra : ℕ) (least : List ℕ) (greatest : List (Option ℕ)) (ranks : List ℕ) (checked : IsChecked grammar algebra least greatest ranks)
    (fitting : (rule alternative : ℕ) → HasFittingBounds (alternative_at grammar rule alternative))
    (between : (rule len : ℕ) → rule < length grammar.rules → IsWithinSizes grammar rule len ↔ IsBetween least greatest rule len)
    (sound : (rule alternative : ℕ) → AllByRecursion (IsSound grammar) (arguments_of grammar rule alternative)) where
  ordered : (rule : ℕ) → rule < length grammar.rules → IfSome (slice_index_or greatest rule None) (λ most. slice_index least rule ≤ most)
  ordered = sizes_in_order grammar algebra least greatest ranks checked fitting

  pub planned : (measure : Measure) → ((rule alternative : ℕ) → alternative < length (alternatives_of grammar rule) → FitsOwn (own_in grammar measure (alternative_at grammar rule alternative).sign) (length (arguments_of grammar rule alternative))) → (most : ℕ) (bound : ℕ → ℕ → ℕ) → AreBoundsOf grammar measure bound → (len : ℕ) → len ≤ most → IsPlanned bound (grammar_plan grammar measure (record { least = least; greatest = greatest; most = most })) len
  planned (Scores other) right most bound table len short = scores_planned grammar other least greatest checked.least_are ordered between sound most right bound table len short
  planned Nodes right most bound table len short = nodes_planned grammar algebra least greatest checked.least_are ordered between sound most bound table len short

  pub ranked : (measure : Measure) (most : ℕ) → IsRanked ranks (grammar_plan grammar measure (record { least = least; greatest = greatest; most = most }))
  ranked measure most = plan_ranked grammar least greatest checked.least_are ordered between sound measure most ranks checked.ranks_fall

  pub readable : (measure : Measure) (most : ℕ) (rule alternative : ℕ) → rule < length grammar.rules → alternative < length (plan_at (grammar_plan grammar measure (record { least = least; greatest = greatest; most = most })) rule) → All (λ (part : Part). IsReadable (length grammar.rules) part.worth) (parts_at (grammar_plan grammar measure (record { least = least; greatest = greatest; most = most })) rule alternative)
  readable measure most = plan_readable-at grammar least greatest checked.least_are ordered between sound measure most

none_to : (bound : ℕ → ℕ → ℕ) (alternative : Alternative) → IsSpreadTo bound 0 alternative
none_to bound (Letters a) = tt
none_to bound (Linear a) = subst (AreSpread bound a) (let n = a.fixed + lows a.parts.items in omega arith) (none_spread bound a)
none_to bound (Wide a) = subst (AreWideSpread bound a) (let n = lows a.parts.items in omega arith) (none_wide bound a)

-- before the first length nothing is filled
pub none_filled : (bound : ℕ → ℕ → ℕ) (table : Table) (plans : List RulePlan) → IsFilledTo bound table plans 0
none_filled bound table plans = record {
  entries = λ rule l inside less. absurd (omega arith);
  spread = λ rule d inside alternative e in_rule. none_to bound (slice_index_or (slice_index_or plans rule d).alternatives.items alternative e);
}
