use Rattle.std.proofs.Common.{◌≡◌, ◌-◌, ◌^◌, ◌≤◌, map, nat_abs, ◌+◌, drop, ◌+ℤ◌}
use Rattle.adp_model.specs.Terms.{linear_value, weighted_sum, weighted_total}
use Rattle.term_values.proofs.value.linear_value.Given as goal

-- with what is left it makes the value, and it stays in range with what is left
abbrev pub invariant-loop-i : goal.invariant-loop-i
invariant-loop-i l = record {
  exact : (l.total +ℤ weighted_sum (drop l.i l.factors) (drop l.i l.values)) ≡ linear_value l.initial.term l.values;
  bounded : nat_abs l.total + weighted_total (drop l.i l.factors) (map nat_abs (drop l.i l.values)) ≤ 2 ^ 62 - 1;
}
