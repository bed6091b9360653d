use Rattle.std.proofs.Common.{◌≡◌, map, take}
use Rattle.std.specs.List.{filter_map}
use Rattle.job_texts.specs.JobText.{declared_class}
use Rattle.grammar_text.specs.Seen.{declaration_seen}
use Rattle.grammar_text.proofs.reader.grammar.classes.Given as goal

abbrev pub invariant-loop-declaration : goal.invariant-loop-declaration
invariant-loop-declaration l = l.classes.items ≡ filter_map declared_class (map declaration_seen (take l.declaration-index l.declared))
