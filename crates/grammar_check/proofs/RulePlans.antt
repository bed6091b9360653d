-- The plan of a rule, one alternative at a time.
use Rattle.std.proofs.Common.{◌≡◌, ℕ, zero, suc, ◌+◌, ◌<◌, ◌-◌, max, List, [], ◌∷◌, length, take, slice_index_or, slice_set, sym, ap, subst, ◌∙◌, arith}
use Rattle.std.proofs.Math.Seq.{map-set_same}
use Rattle.std.proofs.lemmas.List.{get_or-map, length-map}
use Rattle.adp_model.specs.LimitFaults.{told}
use Rattle.grammar_check.specs.declared.table.Table.{Table}
use Rattle.grammar_check.specs.declared.alternative.Alternative.{Alternative}
use Rattle.grammar_check.specs.declared.alternative.Alternative.TheVariants.{Letters, Linear, Wide}
use Rattle.grammar_check.specs.Plans.{lows}
use Rattle.grammar_check.specs.RuleValues.{Kept, plan_of, kept_of, kept_value, kept_rule_value, AreAllRead, IsReadFor, IsSpreadTo}
use Rattle.grammar_check.proofs.WideSteps.{fewer_spread}

pub plan-set : (alternatives : List Alternative) (place : ℕ) (old new : Alternative) → old ≡ slice_index_or alternatives place old → kept_of new ≡ kept_of old → plan_of (slice_set alternatives place new) ≡ plan_of alternatives
plan-set alternatives place old new old_is same = map-set_same kept_of alternatives place new old (same ∙ ap kept_of old_is)

pub plan_at : (alternatives : List Alternative) (plan : List Kept) (place : ℕ) (old : Alternative) → place < length alternatives → plan_of alternatives ≡ plan → old ≡ slice_index_or alternatives place old → slice_index_or plan place (kept_of old) ≡ kept_of old
plan_at alternatives plan place old inside same old_is =
    ap (λ p. slice_index_or p place (kept_of old)) (sym same) ∙ get_or-map kept_of alternatives place old (kept_of old) inside ∙ ap kept_of (sym old_is)

pub length-plan : (alternatives : List Alternative) → length (plan_of alternatives) ≡ length alternatives
length-plan alternatives = length-map alternatives kept_of

pub kept_rule_value-more : (bound : ℕ → ℕ → ℕ) (plan : List Kept) (place len : ℕ) (d : Kept) → place < length plan → kept_rule_value bound (take (suc place) plan) len ≡ max (kept_rule_value bound (take place plan) len) (kept_value bound (slice_index_or plan place d) len)
kept_rule_value-more bound [] place len d inside = absurd (omega arith)
kept_rule_value-more bound (kept ∷ others) zero len d inside =
    let value = kept_value bound kept len in omega arith
kept_rule_value-more bound (kept ∷ others) (suc place) len d inside =
    let rest = kept_rule_value-more bound others place len d (omega arith) in
    let here = kept_value bound kept len in
    omega arith

-- the value with one alternative more
pub value_step : (bound : ℕ → ℕ → ℕ) (plan : List Kept) (place len best value next : ℕ) (old : Alternative) → place < length plan → slice_index_or plan place (kept_of old) ≡ kept_of old → best ≡ told (kept_rule_value bound (take place plan) len) → value ≡ told (kept_value bound (kept_of old) len) → next ≡ max best value → next ≡ told (kept_rule_value bound (take (place + 1) plan) len)
value_step bound plan place len best value next old inside here best_is value_is next_is =
    let more = kept_rule_value-more bound plan place len (kept_of old) inside in
    let told_here = ap (λ (e : Kept). kept_value bound e len) here in
    let count : place + 1 ≡ suc place = omega arith in
    rw count (omega arith)

pub read_at : (bound : ℕ → ℕ → ℕ) (table : Table) (plan : List Kept) (place len : ℕ) (old : Alternative) → place < length plan → slice_index_or plan place (kept_of old) ≡ kept_of old → AreAllRead bound table plan len → IsReadFor bound table len (kept_of old)
read_at bound table plan place len old inside here reads = subst (IsReadFor bound table len) here (reads place (kept_of old) inside)

-- what is spread for more letters is spread for fewer
pub spread_less : (bound : ℕ → ℕ → ℕ) (len : ℕ) (alternative : Alternative) → IsSpreadTo bound (len + 1) alternative → IsSpreadTo bound len alternative
spread_less bound len (Letters alternative) spread = tt
spread_less bound len (Linear alternative) spread = record {
  rows = λ place column inside less. spread.rows place column inside (omega arith);
}
spread_less bound len (Wide alternative) spread = let l = lows alternative.parts.items in fewer_spread bound alternative (len - l) (len + 1 - l) (omega arith) spread
