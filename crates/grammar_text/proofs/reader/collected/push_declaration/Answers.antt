use Rattle.std.proofs.Common.{◌∷◌, [], map, arith, sym, ◌∙◌, length-append}
use Rattle.std.proofs.lemmas.List.{length-map, map-append}
use Rattle.grammar_text.specs.declared.reader.collected.LineSort.TheVariants.{Says}
use Rattle.grammar_text.specs.Seen.{declaration_seen}
use Rattle.grammar_text.proofs.Weaving.{woven-says, says_in-append}
use Rattle.grammar_text.proofs.reader.collected.push_declaration.Goals as goal

pub returns-clause-seen : goal.returns-clause-seen
returns-clause-seen c =
    rw (c.in_ok-push-2.ensures.items, c.in_ok-push.ensures.items, map-append)
    (woven-says c.args.header.now.sorts.items (map declaration_seen c.args.header.now.declared.items) (declaration_seen c.args.declaration) (c.requires ∙ sym (length-map c.args.header.now.declared.items declaration_seen)))

pub returns-clause-says : goal.returns-clause-says
returns-clause-says c =
    rw (c.in_ok-push-2.ensures.items, c.in_ok-push.ensures.items)
    (omega (arith, says_in-append c.args.header.now.sorts.items (Says ∷ []), length-append c.args.header.now.declared.items (c.args.declaration ∷ []), c.requires))
