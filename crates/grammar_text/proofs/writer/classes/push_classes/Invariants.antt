use Rattle.std.proofs.Common.{◌≡◌, ◌++◌, take}
use Rattle.std.specs.List.{flat_map}
use Rattle.job_texts.specs.Spelling.{class_line}
use Rattle.grammar_text.proofs.writer.classes.push_classes.Given as goal

abbrev pub invariant-loop-class : goal.invariant-loop-class
invariant-loop-class l =
    l.out.items ≡ l.initial.out.items ++ flat_map class_line (take l.class-index l.classes)
