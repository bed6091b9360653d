use Rattle.std.proofs.Common.{◌≡◌, List, map, take}
use Rattle.std.specs.List.{filter_map}
use Rattle.job_texts.specs.Declarations as forms
use Rattle.job_texts.specs.JobText as texts
use Rattle.grammar_text.specs.Names.{AreNames}
use Rattle.grammar_text.specs.Seen.{declaration_seen}
use Rattle.grammar_text.proofs.reader.rules.rules.Given as goal

abbrev pub invariant-loop-declaration : goal.invariant-loop-declaration
invariant-loop-declaration l =
    (all : List forms.Declaration) → AreNames l.names all
    → l.rules.items ≡ filter_map (texts.declared_rule all) (map declaration_seen (take l.declaration-index l.declared))
