use Rattle.std.proofs.Common.{map, refl, sym, ◌∙◌, ap}
use Rattle.std.specs.List.{filter_map}
use Rattle.std.proofs.lemmas.List.{append-nil, take_all}
use Rattle.job_texts.specs.JobText.{declared_rule}
use Rattle.grammar_text.specs.Building.{is_buildable}
use Rattle.grammar_text.specs.Seen.{declaration_seen}
use Rattle.grammar_text.proofs.Built.{all_at, parts_more}
use Rattle.grammar_text.proofs.reader.rules.rules.Goals as goal
use Rattle.grammar_text.proofs.reader.rules.rules.Goals.{in-Some+in_ok-push, in_default}

pub rule_of-requires : goal.rule_of-requires
rule_of-requires c = all_at is_buildable declaration_seen c.args.declared.now c.loop-declaration.declaration-index c.declaration-item.result c.requires c.loop-declaration-test.true c.declaration-item.is

pub loop-declaration-preserved : goal.loop-declaration-preserved
loop-declaration-preserved c = λ all h.
    elim c.match-branch-2.branch [
      | in-Some+in_ok-push w ↦
          parts_more (declared_rule all) declaration_seen c.args.declared.now c.loop-declaration.declaration-index c.declaration-item.result c.loop-declaration.rules.items c.match-branch-2.rules.items c.in_ok-rule.field-0
          c.loop-declaration-test.true c.declaration-item.is (c.loop-declaration.invariant all h) (c.in_ok-rule.ensures all h) (ap (λ v. v.items) w.rules-is ∙ w.in_ok-push.ensures.items ∙ rw w.in-Some.is refl)
      | in_default w ↦
          parts_more (declared_rule all) declaration_seen c.args.declared.now c.loop-declaration.declaration-index c.declaration-item.result c.loop-declaration.rules.items c.match-branch-2.rules.items c.in_ok-rule.field-0
          c.loop-declaration-test.true c.declaration-item.is (c.loop-declaration.invariant all h) (c.in_ok-rule.ensures all h) (ap (λ v. v.items) w.rules-is ∙ rw w.in_default.is (sym (append-nil _)))
    ]

pub returns : goal.returns
returns c = λ all h. c.loop-declaration.invariant all h ∙ ap (λ l. filter_map (declared_rule all) (map declaration_seen l)) (take_all c.loop-declaration.declaration-index c.args.declared.now c.loop-declaration-test.false)
