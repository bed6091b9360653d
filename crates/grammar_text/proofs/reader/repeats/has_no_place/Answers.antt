use Rattle.std.proofs.Common.{map, take, sym, ◌∙◌, ap}
use Rattle.grammar_text.specs.Names.{has_no_place, has_no_place_behind}
use Rattle.grammar_text.specs.Seen.{declaration_seen}
use Rattle.grammar_text.proofs.Firsts.{seen_more}
use Rattle.grammar_text.proofs.SectionPlaces.{place_more}
use Rattle.grammar_text.proofs.reader.repeats.has_no_place.Goals as goal

pub loop-declaration-preserved : goal.loop-declaration-preserved
loop-declaration-preserved c =
    let i = c.loop-declaration.declaration-index in
    let item = c.declaration-item.result in
    let sign = c.args.sign.now in
    c.has_no_place_behind-misplaced.ensures ∙ ap (λ misplaced. has_no_place_behind misplaced (declaration_seen item) sign) c.loop-declaration.invariant
    ∙ sym (ap (λ above. has_no_place above sign) (seen_more declaration_seen c.args.above.now i item c.loop-declaration-test.true c.declaration-item.is)
    ∙ place_more (map declaration_seen (take i c.args.above.now)) (declaration_seen item) sign)
