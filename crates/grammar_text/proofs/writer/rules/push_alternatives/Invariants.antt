use Rattle.std.proofs.Common.{◌≡◌, ◌++◌, take}
use Rattle.std.specs.Prelude.{codes}
use Rattle.std.specs.List.{flat_map}
use Rattle.job_texts.specs.Spelling.{alternative_text}
use Rattle.grammar_text.proofs.writer.rules.push_alternatives.Given as goal

abbrev pub invariant-loop-alternative : goal.invariant-loop-alternative
invariant-loop-alternative l =
    l.out.items ≡ l.initial.out.items ++ flat_map (λ alternative. codes " | " ++ alternative_text l.grammar alternative) (take l.alternative-index l.others)
