use Rattle.std.proofs.Common.{◌≡◌, List, map, take}
use Rattle.job_texts.specs.Declarations as forms
use Rattle.job_texts.specs.JobText as texts
use Rattle.grammar_text.specs.Names.{AreNames}
use Rattle.grammar_text.specs.Seen.{argument_seen}
use Rattle.grammar_text.proofs.reader.rules.arguments_of.Given as goal

abbrev pub invariant-loop-argument : goal.invariant-loop-argument
invariant-loop-argument l =
    (all : List forms.Declaration) → AreNames l.names all
    → l.args.items ≡ map (texts.argument_of all) (map argument_seen (take l.argument-index l.arguments))
