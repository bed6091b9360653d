use Rattle.std.proofs.Common.{◌≡◌, ◌++◌, take}
use Rattle.std.specs.Prelude.{codes}
use Rattle.std.specs.List.{flat_map}
use Rattle.job_texts.specs.Spelling.{kind_text}
use Rattle.grammar_text.proofs.writer.signs.push_kinds.Given as goal

abbrev pub invariant-loop-kind : goal.invariant-loop-kind
invariant-loop-kind l =
    l.out.items ≡ l.initial.out.items ++ flat_map (λ kind. codes ", " ++ kind_text kind) (take l.kind-index l.others)
