use Rattle.std.proofs.Common.{◌∷◌, [], map, arith, sym, ◌∙◌}
use Rattle.std.proofs.lemmas.List.{length-map}
use Rattle.grammar_text.specs.Seen.{declaration_seen}
use Rattle.grammar_text.proofs.Weaving.{woven-silent, says_in-append}
use Rattle.grammar_text.proofs.reader.collected.push_silent.Goals as goal

pub returns-clause-seen : goal.returns-clause-seen
returns-clause-seen c =
    rw c.in_ok-push.ensures.items
    (woven-silent c.args.header.now.sorts.items c.args.sort (map declaration_seen c.args.header.now.declared.items) (c.requires.says ∙ sym (length-map c.args.header.now.declared.items declaration_seen)))

pub returns-clause-says : goal.returns-clause-says
returns-clause-says c =
    rw c.in_ok-push.ensures.items
    (omega (arith, says_in-append c.args.header.now.sorts.items (c.args.sort ∷ []), c.requires.says, c.requires.silent))
