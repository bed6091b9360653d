use Rattle.std.proofs.Common.{◌≡◌, ◌++◌, take}
use Rattle.std.specs.List.{flat_map}
use Rattle.job_texts.specs.Spelling.{sign_line}
use Rattle.grammar_text.proofs.writer.signs.push_signs.Given as goal

abbrev pub invariant-loop-sign : goal.invariant-loop-sign
invariant-loop-sign l =
    l.out.items ≡ l.initial.out.items ++ flat_map sign_line (take l.sign-index l.signs)
