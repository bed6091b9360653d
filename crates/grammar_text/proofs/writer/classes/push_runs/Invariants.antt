use Rattle.std.proofs.Common.{◌≡◌, ◌++◌, length}
use Rattle.std.specs.List.{flat_map}
use Rattle.job_texts.specs.Spelling.{run_text, runs_of}
use Rattle.grammar_text.proofs.writer.classes.push_runs.Given as goal

abbrev pub invariant-loop-rest : goal.invariant-loop-rest
invariant-loop-rest l =
    l.out.items ++ flat_map run_text (runs_of l.rest) ≡ l.initial.out.items ++ flat_map run_text (runs_of l.letters)

abbrev pub decreases-loop-rest : goal.decreases-loop-rest
decreases-loop-rest l = length l.rest
