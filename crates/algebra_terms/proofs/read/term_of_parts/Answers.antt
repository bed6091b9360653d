use Rattle.std.proofs.Common.{◌≡◌, [], ℤ, pos, FitsSigned, w64, Option, None, true, unwrap_or, take, get_or, sym, ap, subst, ◌∙◌}
use Rattle.std.specs.Int.{w128}
use Rattle.std.specs.Ordering.{nat_cmp}
use Rattle.std.specs.Cmp.Lexicographic.{slice_cmp}
use Rattle.std.specs.BTreeMap.{get_by}
use Rattle.std.proofs.lemmas.Int.{to_z-of_z}
use Rattle.std.proofs.lemmas.List.{take_all}
use Rattle.std.proofs.lemmas.Map.Text.{btree_map_updates_str}
use Rattle.job_texts.specs.TermText.{factor_after, factors_after, totals_fit, are_declared}
use Rattle.algebra_terms.specs.Reading.{parts_seen}
use Rattle.algebra_terms.proofs.Ranges.{total_fits}
use Rattle.algebra_terms.proofs.Declared.{HasLeft, taken_is, taken_fits, left_step, factors_more, none_left, some_left, none_behind}
use Rattle.algebra_terms.proofs.Readings.{unknown, made}
use Rattle.algebra_terms.proofs.read.term_of_parts.Goals as goal
use Rattle.algebra_terms.proofs.read.term_of_parts.Goals.{After-unwrap_or-factor}

taken : (c : After-unwrap_or-factor) → c.unwrap_or-factor.result ≡ factor_after (take c.loop-variable.variable-index c.args.vars.now) c.bytes.result.now (parts_seen c.args.parts.now)
taken c =
    rw (c.unwrap_or-factor.ensures, c.remove.ensures.value)
    (ap (λ (found : Option ℤ). unwrap_or found (pos 0)) (c.loop-variable.invariant.left c.bytes.result.now)
    ∙ taken_is (take c.loop-variable.variable-index c.args.vars.now) (parts_seen c.args.parts.now) c.bytes.result.now)

pub overflow_cast-factor : goal.overflow_cast-factor
overflow_cast-factor c =
    let wide : FitsSigned w128 c.unwrap_or-factor.result = record { sfits = c.unwrap_or-factor.type_inv } in
    let fit : totals_fit (parts_seen c.args.parts.now) ≡ true = sym c.totals_fit.ensures ∙ c.if-not-totals_fit.false in
    let own = taken (goal.at.overflow_cast-factor c).After-unwrap_or-factor in
    simp to_z-of_z (rw own (taken_fits (take c.loop-variable.variable-index c.args.vars.now) (parts_seen c.args.parts.now) c.bytes.result.now fit))

pub loop-variable-preserved : goal.loop-variable-preserved
loop-variable-preserved c =
    let i = c.loop-variable.variable-index in
    let parts = parts_seen c.args.parts.now in
    let item = c.variable-item.result in
    let variable = c.bytes.result.now in
    let at : variable ≡ get_or c.args.vars.now i item = c.bytes.ensures.bytes ∙ c.variable-item.is in
    let wide : FitsSigned w128 c.unwrap_or-factor.result = record { sfits = c.unwrap_or-factor.type_inv } in
    let fit : totals_fit parts ≡ true = sym c.totals_fit.ensures ∙ c.if-not-totals_fit.false in
    let own = taken (goal.at.loop-variable-preserved c).After-unwrap_or-factor in
    let narrow : FitsSigned w64 c.unwrap_or-factor.result = rw own (taken_fits (take i c.args.vars.now) parts variable fit) in
    let pushed = simp to_z-of_z at c.in_ok-push.ensures.items in
    record {
      factors = factors_more parts c.args.vars.now i item variable c.loop-variable.factors.items c.push.new.self.items
          c.unwrap_or-factor.result c.loop-variable-test.true at c.loop-variable.invariant.factors own pushed;
      left = left_step (λ name. get_by (λ key. slice_cmp nat_cmp name key.now) c.loop-variable.totals) (λ name. get_by (λ key. slice_cmp nat_cmp name key.now) c.remove.new.self)
          c.args.vars.now i item variable parts c.loop-variable-test.true at c.loop-variable.invariant.left
          (btree_map_updates_str variable c.loop-variable.totals c.remove.new.self _ c.remove.ensures.updates);
    }

pub returns-then-not-is_empty : goal.returns-then-not-is_empty
returns-then-not-is_empty c =
    let parts = parts_seen c.args.parts.now in
    let fit : totals_fit parts ≡ true = sym c.totals_fit.ensures ∙ c.if-not-totals_fit.false in
    let left : HasLeft c.loop-variable.totals c.args.vars.now parts =
    subst (λ taken. HasLeft c.loop-variable.totals taken parts) (take_all c.loop-variable.variable-index c.args.vars.now c.loop-variable-test.false) c.loop-variable.invariant.left in
    unknown parts c.args.vars.now c.requires.names c.requires.numbers fit
    (some_left c.loop-variable.totals c.args.vars.now parts left (λ empty. let is : c.is_empty.result ≡ true = c.is_empty.ensures.1 empty in cc c.if-not-is_empty.true))

pub overflow_cast-result : goal.overflow_cast-result
overflow_cast-result c =
    let parts = parts_seen c.args.parts.now in
    let fit : totals_fit parts ≡ true = sym c.totals_fit.ensures ∙ c.if-not-totals_fit.false in
    let wide : FitsSigned w128 c.constant_of-constant.result = record { sfits = c.constant_of-constant.type_inv } in
    simp to_z-of_z (rw c.constant_of-constant.ensures (total_fits parts None fit))

pub returns : goal.returns
returns c =
    let parts = parts_seen c.args.parts.now in
    let fit : totals_fit parts ≡ true = sym c.totals_fit.ensures ∙ c.if-not-totals_fit.false in
    let wide : FitsSigned w128 c.constant_of-constant.result = record { sfits = c.constant_of-constant.type_inv } in
    let narrow : FitsSigned w64 c.constant_of-constant.result = rw c.constant_of-constant.ensures (total_fits parts None fit) in
    let left : HasLeft c.loop-variable.totals c.args.vars.now parts =
    subst (λ taken. HasLeft c.loop-variable.totals taken parts) (take_all c.loop-variable.variable-index c.args.vars.now c.loop-variable-test.false) c.loop-variable.invariant.left in
    let known : are_declared c.args.vars.now parts ≡ true = none_left c.loop-variable.totals c.args.vars.now parts left (c.is_empty.ensures.0 c.if-not-is_empty.false) in
    let factors : factors_after [] c.args.vars.now parts ≡ c.loop-variable.factors.items =
    none_behind parts c.args.vars.now c.loop-variable.variable-index c.loop-variable.factors.items c.loop-variable-test.false c.loop-variable.invariant.factors in
    simp to_z-of_z
    (made parts c.args.vars.now (record { constant = c.constant_of-constant.result; factors = c.new.result }) c.requires.names c.requires.numbers fit known
    (sym c.constant_of-constant.ensures) (factors ∙ sym c.new.ensures))
