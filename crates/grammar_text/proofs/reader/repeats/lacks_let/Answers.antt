use Rattle.std.proofs.Common.{◌≡◌, not, map, sym, ◌∙◌}
use Rattle.std.specs.List.{list_any, list_all}
use Rattle.job_texts.specs.TermText.{is_among}
use Rattle.job_texts.specs.DeclaredNames.{let_signs, section_of, sign_names}
use Rattle.grammar_text.specs.Names.{lacks_sign}
use Rattle.grammar_text.specs.Seen.{declaration_seen}
use Rattle.grammar_text.proofs.Scans.{one_passes, none_passes}
use Rattle.grammar_text.proofs.SectionPlaces.{lacks_one}
use Rattle.grammar_text.proofs.reader.repeats.lacks_let.Goals as goal
use Rattle.grammar_text.proofs.reader.repeats.lacks_let.Goals.{In_ok-signs}

lacks : (c : In_ok-signs) → list_any (lacks_sign c.in_ok-signs.signs) (map declaration_seen c.args.declared.now)
    ≡ not (list_all (is_among (let_signs (section_of (map declaration_seen c.args.below.now)))) (sign_names (map declaration_seen c.args.declared.now)))
lacks c = lacks_one c.in_ok-signs.signs (let_signs (section_of (map declaration_seen c.args.below.now))) c.in_ok-signs.ensures (map declaration_seen c.args.declared.now)

pub returns-then-lacks_sign : goal.returns-then-lacks_sign
returns-then-lacks_sign c =
    sym (sym (lacks (goal.at.returns-then-lacks_sign c).In_ok-signs)
    ∙ one_passes declaration_seen (lacks_sign c.in_ok-signs.signs) c.args.declared.now c.loop-declaration.declaration-index c.declaration-item.result
    c.loop-declaration-test.true c.declaration-item.is (sym c.lacks_sign.ensures ∙ c.if-lacks_sign.true) c.loop-declaration.invariant)

pub returns : goal.returns
returns c =
    sym (sym (lacks (goal.at.returns c).In_ok-signs)
    ∙ none_passes declaration_seen (lacks_sign c.in_ok-signs.signs) c.args.declared.now c.loop-declaration.declaration-index c.loop-declaration-test.false c.loop-declaration.invariant)
