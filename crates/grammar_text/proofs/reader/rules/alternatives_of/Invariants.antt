use Rattle.std.proofs.Common.{◌≡◌, List, map, take}
use Rattle.job_texts.specs.Declarations as forms
use Rattle.job_texts.specs.JobText as texts
use Rattle.grammar_text.specs.Names.{AreNames}
use Rattle.grammar_text.specs.Seen.{alternative_seen}
use Rattle.grammar_text.proofs.reader.rules.alternatives_of.Given as goal

abbrev pub invariant-loop-alternative : goal.invariant-loop-alternative
invariant-loop-alternative l =
    (all : List forms.Declaration) → AreNames l.names all
    → l.alts.items ≡ map (texts.alternative_of all) (map alternative_seen (take l.alternative-index l.alternatives))
