use Rattle.std.proofs.Common.{◌≡◌, map, take}
use Rattle.std.specs.List.{filter_map}
use Rattle.job_texts.specs.JobText.{declared_sign}
use Rattle.grammar_text.specs.Seen.{declaration_seen}
use Rattle.grammar_text.proofs.reader.grammar.signs.Given as goal

abbrev pub invariant-loop-declaration : goal.invariant-loop-declaration
invariant-loop-declaration l = l.signs.items ≡ filter_map declared_sign (map declaration_seen (take l.declaration-index l.declared))
