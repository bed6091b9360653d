use Rattle.std.proofs.Common.{◌≡◌, ◌+◌, Option, List, length, get_or, sym, ap, subst, ◌∙◌, arith}
use Rattle.std.proofs.lemmas.List.{length_push}
use Rattle.adp_model.specs.declared.grammar.Arg.{Arg}
use Rattle.adp_model.specs.Parts.{alternatives_of, arguments_of}
use Rattle.split_lines.specs.declared.kept.KeptAlternative.{KeptAlternative}
use Rattle.split_lines.specs.declared.kept_rules.KeptLine.{KeptLine}
use Rattle.split_lines.specs.Beginnings.{IsTold, AreTold}
use Rattle.split_lines.specs.EachWord.{with_word}
use Rattle.split_lines.specs.Kept.{first_text}
use Rattle.split_lines.specs.KeptRules.{IsKeptOrNone, IsKeptOf, AreKept}
use Rattle.split_lines.proofs.KeptLines.{has_all-refl, has_all-trans, alternatives_still, one_alternative_more}
use Rattle.split_lines.proofs.Growing.{each_more}
use Rattle.split_lines.proofs.kept_rules.kept_rule.Goals as goal

pub overflow_cast-alt : goal.overflow_cast-alt
overflow_cast-alt c = omega (arith, c.alternatives-count.ensures.few)

pub loop-number-init : goal.loop-number-init
loop-number-init c =
    let none = ap (λ (items : List KeptAlternative). length items) c.in_ok-alternatives.ensures.items in
    record {
      middles_are = c.requires.middles;
      longer = has_all-refl c.args.middles.now.items;
      kept_are = λ word short. record { each = none; are = λ alternative d l. absurd (omega (arith, l)) };
      told = λ alternative d l. absurd (omega (arith, l));
      each = none;
    }

pub loop-number-preserved : goal.loop-number-preserved
loop-number-preserved c =
    let rule = c.args.rule in
    let number = c.loop-number.number in
    let old = c.loop-number.middles.items in
    let new = c.kept_line.new.middles.items in
    let kept = c.loop-number.alternatives.items in
    let one = c.kept_alternative-kept.result in
    let all = c.loop-number.invariant in
    let told = subst (IsTold c.add.new.self number) c.first_text.ensures c.add.ensures.told in
    record {
      middles_are = c.in_ok-line.ensures.middles;
      longer = has_all-trans c.args.middles.now.items old new all.longer c.in_ok-line.ensures.kept;
      kept_are = λ word short.
          let p = with_word c.args.problem.now.grammar c.args.problem.now.algebra word in
          let before = alternatives_still p old new rule number kept c.in_ok-line.ensures.kept (all.kept_are word short) in
          let L : List Arg → Option KeptLine → Type 0 = IsKeptOrNone p new in
          let line : L (arguments_of p.grammar rule number) one.line = subst (L (arguments_of p.grammar rule number)) (sym c.kept_alternative-kept.ensures.line) (subst (λ arguments. L arguments c.in_ok-line.line) c.arguments.ensures.arguments (c.in_ok-line.ensures.line word short)) in
          let now : IsKeptOf p new rule number one = record { line = line; parts = c.kept_alternative-kept.ensures.alternative word short } in
          let K : List KeptAlternative → Type 0 = AreKept p new rule (number + 1) in
          subst K (sym {A = List KeptAlternative} c.in_ok-push.ensures.items) (one_alternative_more p new rule number kept one before now);
      told = subst (λ items. AreTold (number + 1) items c.add.new.self) (sym {A = List KeptAlternative} c.in_ok-push.ensures.items)
          (each_more (λ alternative (it : KeptAlternative). IsTold c.add.new.self alternative (first_text it.front.now)) kept number one all.each
          (λ alternative d l. c.add.ensures.others alternative (first_text (get_or kept alternative d).front.now) (all.told alternative d l)) told);
      each = ap (λ (items : List KeptAlternative). length items) c.in_ok-push.ensures.items ∙ length_push kept one ∙ ap (λ n. n + 1) all.each;
    }

pub returns-clause-kept : goal.returns-clause-kept
returns-clause-kept c = λ word short.
    let p = with_word c.args.problem.now.grammar c.args.problem.now.algebra word in
    let middles = c.loop-number.middles.items in
    let items = c.loop-number.alternatives.items in
    let ended : c.loop-number.number ≡ length (alternatives_of p.grammar c.args.rule) = omega (arith, c.loop-number-test.false, c.loop-number.auto.number-end, ap length c.alternatives-count.ensures.alternatives) in
    record {
      alternatives = subst (λ n. AreKept p middles c.args.rule n items) ended (c.loop-number.invariant.kept_are word short);
      beginnings = subst (λ n. AreTold n items c.loop-number.beginnings) ended c.loop-number.invariant.told;
    }
