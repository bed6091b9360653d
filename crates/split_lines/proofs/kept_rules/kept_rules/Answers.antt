use Rattle.std.proofs.Common.{◌≡◌, ℕ, ◌+◌, ◌<◌, ◌≤◌, List, length, sym, ap, subst, arith}
use Rattle.adp_model.specs.declared.grammar.Grammar.{Grammar}
use Rattle.adp_model.specs.PosedProblem.{PosedProblem}
use Rattle.split_lines.specs.declared.kept_rules.KeptRule.{KeptRule}
use Rattle.split_lines.specs.declared.kept_rules.Middle.{Middle}
use Rattle.split_lines.specs.Classes.{AreClassWeights}
use Rattle.split_lines.specs.EachWord.{with_word}
use Rattle.split_lines.specs.KeptRules.{AreKeptRules}
use Rattle.split_lines.proofs.KeptLines.{one_rule_more, rules_still}
use Rattle.split_lines.proofs.kept_rules.kept_rules.Goals as goal

rule_within : (rule a b d : ℕ) → rule < a → a ≡ b → b ≡ d → rule < d
rule_within rule a b d l same again = omega arith

all_rules : (rule a b d : ℕ) → a ≤ rule → rule ≤ a → a ≡ b → b ≡ d → rule ≡ d
all_rules rule a b d l m same again = omega arith

pub loop-rule-init : goal.loop-rule-init
loop-rule-init c =
    let no_middles = ap (λ (middles : List Middle). length middles) c.new-middles.ensures.items in
    record {
      middles_are = λ number d l. absurd (omega (arith, l, no_middles));
      rules_are = λ word short. record {
        each = ap (λ (rules : List KeptRule). length rules) c.in_ok-rules.ensures.items;
        are = λ rule d l. absurd (omega (arith, l));
      };
    }

pub loop-rule-preserved : goal.loop-rule-preserved
loop-rule-preserved c =
    let rule = c.loop-rule.rule in
    let old = c.loop-rule.middles.items in
    let new = c.kept_rule.new.middles.items in
    let rules = c.loop-rule.rules.items in
    record {
      middles_are = c.in_ok-kept.ensures.middles;
      rules_are = λ word short.
          let p = with_word c.args.problem.now.grammar c.args.problem.now.algebra word in
          let R : List KeptRule → Type 0 = AreKeptRules p new (rule + 1) in
          subst R (sym {A = List KeptRule} c.in_ok-push.ensures.items)
          (one_rule_more p new rule rules c.in_ok-kept.kept (rules_still p old new rule rules c.in_ok-kept.ensures.longer (c.loop-rule.invariant.rules_are word short)) (c.in_ok-kept.ensures.kept word short));
    }

pub kept_rule-requires-clause-rule : goal.kept_rule-requires-clause-rule
kept_rule-requires-clause-rule c =
    let rules_of : PosedProblem → ℕ = λ p. length p.grammar.rules in
    rule_within c.loop-rule.rule _ _ _ c.loop-rule-test.true (ap length c.as_slice-count.ensures) (ap rules_of c.problem.view_is)

pub returns : goal.returns
returns c =
    let rules_of : PosedProblem → ℕ = λ p. length p.grammar.rules in
    let middles = c.loop-rule.middles.items in
    let rules = c.loop-rule.rules.items in
    let all = all_rules c.loop-rule.rule _ _ _ c.loop-rule-test.false c.loop-rule.auto.rule-end (ap length c.as_slice-count.ensures) (ap rules_of c.problem.view_is) in
    record {
      weights_are = subst (λ (it : Grammar). AreClassWeights it c.in_ok-weights.weights.items) (ap (λ (p : PosedProblem). p.grammar) c.problem.view_is) c.in_ok-weights.ensures;
      middles_are = c.loop-rule.invariant.middles_are;
      rules_are = λ word short.
          let p = with_word c.args.problem.now.grammar c.args.problem.now.algebra word in
          subst (λ n. AreKeptRules p middles n rules) all (c.loop-rule.invariant.rules_are word short);
    }
