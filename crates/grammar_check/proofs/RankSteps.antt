-- One rule more of a rank is written.
use Rattle.std.proofs.Common.{◌≡◌, ◌≢◌, ℕ, ◌+◌, ◌-◌, ◌<◌, ◌≤◌, ◌⊎◌, inl, inr, List, [], length, map, slice_index, slice_index_or, slice_set, sym, ap, subst, ◌∙◌, arith}
use Rattle.std.proofs.Math.Seq.{map-set_same}
use Rattle.std.proofs.lemmas.List.{get_or-map, length-map, length-set, get_or-set_other, get_or-set_same, get_or_default}
use Rattle.std.proofs.lemmas.List.Elements.{All-set}
use Rattle.adp_model.specs.LimitFaults.{told}
use Rattle.grammar_check.specs.declared.part.Part.{Part}
use Rattle.grammar_check.specs.declared.part.Worth.{Worth}
use Rattle.grammar_check.specs.declared.part.Worth.TheVariants.{OfRule, OfLetters}
use Rattle.grammar_check.specs.declared.table.Table.{Table}
use Rattle.grammar_check.specs.declared.rule_plan.RulePlan.{RulePlan}
use Rattle.grammar_check.specs.Tables.{entry}
use Rattle.grammar_check.specs.Plans.{IsReadable, ReadsRight, lows, part_at}
use Rattle.grammar_check.specs.Alternatives.{AreRead}
use Rattle.grammar_check.specs.RuleValues.{Kept, kept_rule_value, AreAllRead}
use Rattle.grammar_check.specs.Fills.{kept_plan, plan_tokens, IsRuleReadable, IsRuleSpread, rules_plan, kept_at, kept_entry, IsKept, NamesLesser, IsKeptRanked, IsFilledTo, IsRankFilled}
use Rattle.grammar_check.proofs.RulePlans.{spread_less}
use Rattle.grammar_check.proofs.Sweeps.{low_at}

-- rules of lesser ranks are written, and the rules of this rank before this one
pub record IsPartlyFilled (bound : ℕ → ℕ → ℕ) (ranks : List ℕ) (table : Table) (plans : List RulePlan) (len rank rule : ℕ) : Type 0 where
  pub ranked : IsRankFilled bound ranks table plans len rank
  pub entries : (other : ℕ) → other < length plans → slice_index ranks other ≡ rank → other < rule → entry table other len ≡ told (bound other len)
  pub spread : (other : ℕ) (d : RulePlan) → other < length plans → slice_index ranks other ≡ rank → other < rule → IsRuleSpread bound (len + 1) (slice_index_or plans other d)

pub rules_plan-set : (plans : List RulePlan) (rule : ℕ) (old new : RulePlan) → old ≡ slice_index_or plans rule old → kept_plan new ≡ kept_plan old → rules_plan (slice_set plans rule new) ≡ rules_plan plans
rules_plan-set plans rule old new old_is same = map-set_same kept_plan plans rule new old (same ∙ ap kept_plan old_is)

pub tokens-set : (plans : List RulePlan) (rule : ℕ) (old new : RulePlan) → old ≡ slice_index_or plans rule old → new.tokens ≡ old.tokens → map plan_tokens (slice_set plans rule new) ≡ map plan_tokens plans
tokens-set plans rule old new old_is same = map-set_same plan_tokens plans rule new old (ap (λ v. v.items) same ∙ ap plan_tokens old_is)

pub plan_at-rule : (plans : List RulePlan) (rule : ℕ) (old : RulePlan) → rule < length plans → old ≡ slice_index_or plans rule old → kept_at (rules_plan plans) rule ≡ kept_plan old
plan_at-rule plans rule old inside old_is = get_or-map kept_plan plans rule old [] inside ∙ ap kept_plan (sym old_is)

pub length-rules_plan : (plans : List RulePlan) → length (rules_plan plans) ≡ length plans
length-rules_plan plans = length-map plans kept_plan

less_or_same : (a b : ℕ) → a ≤ b → (a < b) ⊎ (a ≡ b)
less_or_same a b order = grind arith

same_or_not : (a b : ℕ) → (a ≡ b) ⊎ (a ≢ b)
same_or_not a b = grind arith

module _ (bound : ℕ → ℕ → ℕ) (ranks : List ℕ) (table : Table) (plans : List RulePlan) (len rank rule : ℕ) where
  -- what the rule's ways read stands in the table
  pub worth_read : IsRankFilled bound ranks table plans len rank → slice_index ranks rule ≡ rank → (worth : Worth) (l : ℕ) → IsReadable (length plans) worth → (l < len) ⊎ (l ≡ len) → (l ≡ len → NamesLesser ranks rule worth) → ReadsRight bound table worth l
  worth_read filled rank_is (OfLetters weight factor) l known order lesser = tt
  worth_read filled rank_is (OfRule other factor) l known (inl less) lesser = filled.lower.entries other l known less
  worth_read filled rank_is (OfRule other factor) l known (inr same) lesser =
      subst (λ n. entry table other n ≡ told (bound other n)) (sym same) (filled.entries other known (let fall = lesser same in omega arith))

  pub all_read : IsRankFilled bound ranks table plans len rank → slice_index ranks rule ≡ rank → IsKeptRanked ranks (rules_plan plans) → (old : RulePlan) → rule < length plans → old ≡ slice_index_or plans rule old → IsRuleReadable (length plans) old → AreAllRead bound table (kept_plan old) len
  all_read filled rank_is lesser old inside old_is known = λ place d in_plan. read place d in_plan
    where
      plan : List Kept
      plan = kept_plan old

      here : kept_at (rules_plan plans) rule ≡ plan
      here = plan_at-rule plans rule old inside old_is

      read : (k : ℕ) (d : Kept) → k < length plan → (slice_index_or plan k d).1 ≤ len → AreRead bound table (slice_index_or plan k d).2 (len - (slice_index_or plan k d).1)
      read k d in_plan long = λ place l in_parts room.
          let parts : List Part = (slice_index_or plan k d).2 in
          let fixed : ℕ = (slice_index_or plan k d).1 in
          let least = low_at parts place in_parts in
          let same_entry : kept_entry (rules_plan plans) rule k ≡ slice_index_or plan k d = ap (λ (p : List Kept). slice_index_or p k (inl 0, 0, [])) here ∙ get_or_default plan k (inl 0, 0, []) d in_plan in
          worth_read filled rank_is (part_at parts place).worth l (known k d in_plan place (record { worth = OfLetters 0 0; low = 0; room = 0 }) in_parts) (less_or_same l len (omega arith))
          (λ same. subst (λ (e : Kept). NamesLesser ranks rule (part_at e.2 place).worth) same_entry
          (lesser rule k place (omega (arith, length-rules_plan plans)) (subst (λ p. k < length p) (sym here) in_plan) (subst (λ (e : Kept). place < length e.2) (sym same_entry) in_parts)
          (subst (λ (e : Kept). e.1 + lows e.2 ≤ (part_at e.2 place).low) (sym same_entry) (omega arith))))

  pub rank_step : (next : Table) (old new : RulePlan) (value : ℕ) → IsPartlyFilled bound ranks table plans len rank rule → IsKept bound (rules_plan plans) len → IsKeptRanked ranks (rules_plan plans)
      → rule < length plans → slice_index ranks rule ≡ rank → old ≡ slice_index_or plans rule old → IsRuleReadable (length plans) old → len < table.width
      → (AreAllRead bound table (kept_plan old) len → IsRuleSpread bound len old → value ≡ told (kept_rule_value bound (kept_plan old) len))
      → (AreAllRead bound table (kept_plan old) len → IsRuleSpread bound len old → IsRuleSpread bound (len + 1) new)
      → entry next rule len ≡ value
      → ((other : ℕ) → other ≢ len → entry next rule other ≡ entry table rule other)
      → ((other at : ℕ) → other ≢ rule → at < table.width → entry next other at ≡ entry table other at)
      → IsPartlyFilled bound ranks next (slice_set plans rule new) len rank (rule + 1)
  rank_step next old new value partly planned lesser inside rank_is old_is known narrow value_is spread_is here columns rows = record {
    ranked = record {
      lower = record {
        entries = λ other l in_plans less. earlier other l (within other in_plans) less (same_or_not other rule);
        spread = All-set (IsRuleSpread bound len) plans rule new new_less partly.ranked.lower.spread;
      };
      entries = λ other in_plans less. now other (within other in_plans) (same_or_not other rule) (λ differ. partly.ranked.entries other (within other in_plans) less);
      spread = λ other d in_plans less. spread_at other d (within other in_plans) (same_or_not other rule) (λ differ. partly.ranked.spread other d (within other in_plans) less);
    };
    entries = λ other in_plans same before. now other (within other in_plans) (same_or_not other rule) (λ differ. partly.entries other (within other in_plans) same (nearer other before differ));
    spread = λ other d in_plans same before. spread_at other d (within other in_plans) (same_or_not other rule) (λ differ. partly.spread other d (within other in_plans) same (nearer other before differ));
  }
    where
      within : (other : ℕ) → other < length (slice_set plans rule new) → other < length plans
      within other in_plans = omega (arith, length-set plans rule new)

      nearer : (other : ℕ) → other < rule + 1 → other ≢ rule → other < rule
      nearer other before differ = let d = differ in grind arith

      reads : AreAllRead bound table (kept_plan old) len
      reads = all_read partly.ranked rank_is lesser old inside old_is known

      old_spread : IsRuleSpread bound len old
      old_spread = subst (IsRuleSpread bound len) (sym old_is) (partly.ranked.lower.spread rule old inside)

      new_spread : IsRuleSpread bound (len + 1) new
      new_spread = spread_is reads old_spread

      new_less : IsRuleSpread bound len new
      new_less = λ k d in_new. spread_less bound len (slice_index_or new.alternatives.items k d) (new_spread k d in_new)

      earlier : (other l : ℕ) → other < length plans → l < len → (other ≡ rule) ⊎ (other ≢ rule) → entry next other l ≡ told (bound other l)
      earlier other l in_plans less (inl same) =
          subst (λ r. entry next r l ≡ told (bound r l)) (sym same) (columns l (λ e. omega (arith, e)) ∙ partly.ranked.lower.entries rule l inside less)
      earlier other l in_plans less (inr differ) = rows other l differ (omega arith) ∙ partly.ranked.lower.entries other l in_plans less

      here_right : entry next rule len ≡ told (bound rule len)
      here_right =
          here ∙ value_is reads old_spread
          ∙ ap (λ p. told (kept_rule_value bound p len)) (sym (plan_at-rule plans rule old inside old_is))
          ∙ sym (planned rule (omega (arith, length-rules_plan plans)))

      now : (other : ℕ) → other < length plans → (other ≡ rule) ⊎ (other ≢ rule) → (other ≢ rule → entry table other len ≡ told (bound other len)) → entry next other len ≡ told (bound other len)
      now other in_plans (inl same) before = subst (λ r. entry next r len ≡ told (bound r len)) (sym same) here_right
      now other in_plans (inr differ) before = rows other len differ narrow ∙ before differ

      spread_at : (other : ℕ) (d : RulePlan) → other < length plans → (other ≡ rule) ⊎ (other ≢ rule) → (other ≢ rule → IsRuleSpread bound (len + 1) (slice_index_or plans other d)) → IsRuleSpread bound (len + 1) (slice_index_or (slice_set plans rule new) other d)
      spread_at other d in_plans (inl same) before =
          subst (λ r. IsRuleSpread bound (len + 1) (slice_index_or (slice_set plans rule new) r d)) (sym same)
          (subst (IsRuleSpread bound (len + 1)) (sym (get_or-set_same plans rule new d inside)) new_spread)
      spread_at other d in_plans (inr differ) before =
          subst (IsRuleSpread bound (len + 1)) (sym (get_or-set_other plans rule other new d differ)) (before differ)

  -- a rule of another rank is passed over
  pub rank_skip : IsPartlyFilled bound ranks table plans len rank rule → slice_index ranks rule ≢ rank → IsPartlyFilled bound ranks table plans len rank (rule + 1)
  rank_skip partly differ = record {
    ranked = partly.ranked;
    entries = λ other in_plans same before. partly.entries other in_plans same (nearer other same before);
    spread = λ other d in_plans same before. partly.spread other d in_plans same (nearer other same before);
  }
    where
      by : (other : ℕ) → slice_index ranks other ≡ rank → (other < rule) ⊎ (other ≡ rule) → other < rule
      by other same (inl less) = less
      by other same (inr e) = absurd (differ (subst (λ r. slice_index ranks r ≡ rank) e same))

      nearer : (other : ℕ) → slice_index ranks other ≡ rank → other < rule + 1 → other < rule
      nearer other same before = by other same (less_or_same other rule (omega arith))

  -- after the last rule the rank is written
  pub rank_done : length plans ≤ rule → IsPartlyFilled bound ranks table plans len rank rule → IsRankFilled bound ranks table plans len (rank + 1)
  rank_done past partly = record {
    lower = partly.ranked.lower;
    entries = λ other inside less. now other inside (less_or_same (slice_index ranks other) rank (omega arith));
    spread = λ other d inside less. spread_at other d inside (less_or_same (slice_index ranks other) rank (omega arith));
  }
    where
      now : (other : ℕ) → other < length plans → (slice_index ranks other < rank) ⊎ (slice_index ranks other ≡ rank) → entry table other len ≡ told (bound other len)
      now other inside (inl less) = partly.ranked.entries other inside less
      now other inside (inr same) = partly.entries other inside same (omega arith)

      spread_at : (other : ℕ) (d : RulePlan) → other < length plans → (slice_index ranks other < rank) ⊎ (slice_index ranks other ≡ rank) → IsRuleSpread bound (len + 1) (slice_index_or plans other d)
      spread_at other d inside (inl less) = partly.ranked.spread other d inside less
      spread_at other d inside (inr same) = partly.spread other d inside same (omega arith)

-- at the first rank nothing is written for the length
pub length_begun : (bound : ℕ → ℕ → ℕ) (ranks : List ℕ) (table : Table) (plans : List RulePlan) (len : ℕ) → IsFilledTo bound table plans len → IsRankFilled bound ranks table plans len 0
length_begun bound ranks table plans len filled = record {
  lower = filled;
  entries = λ rule inside less. absurd (omega arith);
  spread = λ rule d inside less. absurd (omega arith);
}

-- after the last rank the length is written
pub length_done : (bound : ℕ → ℕ → ℕ) (ranks : List ℕ) (table : Table) (plans : List RulePlan) (len rank : ℕ) → ((rule : ℕ) → rule < length plans → slice_index ranks rule < rank) → IsRankFilled bound ranks table plans len rank → IsFilledTo bound table plans (len + 1)
length_done bound ranks table plans len rank below filled = record {
  entries = λ rule l inside less. by rule l inside (less_or_same l len (omega arith));
  spread = λ rule d inside. filled.spread rule d inside (below rule inside);
}
  where
    by : (rule l : ℕ) → rule < length plans → (l < len) ⊎ (l ≡ len) → entry table rule l ≡ told (bound rule l)
    by rule l inside (inl less) = filled.lower.entries rule l inside less
    by rule l inside (inr same) = subst (λ n. entry table rule n ≡ told (bound rule n)) (sym same) (filled.entries rule inside (below rule inside))
