use Rattle.std.proofs.Common.{◌≡◌, ◌++◌, take}
use Rattle.std.specs.Prelude.{codes}
use Rattle.std.specs.List.{flat_map}
use Rattle.job_texts.specs.Spelling.{argument_text}
use Rattle.grammar_text.proofs.writer.rules.push_arguments.Given as goal

abbrev pub invariant-loop-argument : goal.invariant-loop-argument
invariant-loop-argument l =
    l.out.items ≡ l.initial.out.items ++ flat_map (λ argument. codes ", " ++ argument_text l.grammar argument) (take l.argument-index l.others)
