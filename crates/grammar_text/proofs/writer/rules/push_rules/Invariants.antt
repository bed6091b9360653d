use Rattle.std.proofs.Common.{◌≡◌, ◌++◌, take}
use Rattle.std.specs.List.{flat_map}
use Rattle.job_texts.specs.Spelling.{rule_line}
use Rattle.grammar_text.proofs.writer.rules.push_rules.Given as goal

abbrev pub invariant-loop-rule : goal.invariant-loop-rule
invariant-loop-rule l =
    l.out.items ≡ l.initial.out.items ++ flat_map (rule_line l.grammar) (take l.rule-index l.grammar.rules)
