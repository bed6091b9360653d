use Rattle.std.proofs.Common.{◌≡◌, ◌<◌, Some, None, false, map, length, get_or, sym, ◌∙◌, ap}
use Rattle.std.specs.List.{position}
use Rattle.std.specs.Option.{option_copied}
use Rattle.std.proofs.lemmas.List.{length-map, get_or-map}
use Rattle.std.proofs.lemmas.List.Quantifiers.{position-Some}
use Rattle.job_texts.specs.DeclaredNames.{kinds_given}
use Rattle.job_texts.specs.Declarations.{Sign, Words}
use Rattle.grammar_text.specs.Names.{gives_kinds}
use Rattle.grammar_text.specs.Seen.{declaration_seen}
use Rattle.grammar_text.proofs.Firsts.{none_gives, sign_gives, no_sign}
use Rattle.grammar_text.proofs.SeenSigns.{gives_no_kinds}
use Rattle.grammar_text.proofs.reader.names.Names.kinds_of.Goals as goal

pub returns-in_err-place : goal.returns-in_err-place
returns-in_err-place c =
    let all = map declaration_seen c.args.declared.now in
    let sign = c.args.sign.now in
    let none : position (gives_kinds sign) all ≡ None = sym (c.requires.sign_places sign) ∙ sym c.get.ensures.value ∙ ap option_copied c.in_err-place.was in
    rw c.from_residual.ensures (sym (none_gives (kinds_given sign) all none))

pub bounds-declared-place : goal.bounds-declared-place
bounds-declared-place c =
    let all = map declaration_seen c.args.declared.now in
    let sign = c.args.sign.now in
    let found : position (gives_kinds sign) all ≡ Some c.in_ok-place.field-0.now = sym (c.requires.sign_places sign) ∙ sym c.get.ensures.value ∙ ap option_copied c.in_ok-place.was in
    let within : c.in_ok-place.field-0.now < length all = (position-Some (gives_kinds sign) all c.in_ok-place.field-0.now Words found).0 in
    simp length-map at within

pub returns-in-Sign : goal.returns-in-Sign
returns-in-Sign c =
    let all = map declaration_seen c.args.declared.now in
    let sign = c.args.sign.now in
    let place = c.in_ok-place.field-0.now in
    let item = c.index-declared-place.result in
    let found : position (gives_kinds sign) all ≡ Some place = sym (c.requires.sign_places sign) ∙ sym c.get.ensures.value ∙ ap option_copied c.in_ok-place.was in
    let within : place < length c.args.declared.now = (let inside : place < length all = (position-Some (gives_kinds sign) all place Words found).0 in simp length-map at inside) in
    let at : get_or all place (declaration_seen item) ≡ Sign c.in-Sign.name.now c.in-Sign.kinds.items =
    get_or-map declaration_seen c.args.declared.now place item (declaration_seen item) within ∙ ap declaration_seen (sym c.index-declared-place.is) ∙ ap declaration_seen c.in-Sign.is in
    rw c.deref.ensures.value (sym (sign_gives sign all place (declaration_seen item) c.in-Sign.name.now c.in-Sign.kinds.items found at))

pub returns-in_default : goal.returns-in_default
returns-in_default c =
    let all = map declaration_seen c.args.declared.now in
    let sign = c.args.sign.now in
    let place = c.in_ok-place.field-0.now in
    let item = c.index-declared-place.result in
    let found : position (gives_kinds sign) all ≡ Some place = sym (c.requires.sign_places sign) ∙ sym c.get.ensures.value ∙ ap option_copied c.in_ok-place.was in
    let within : place < length c.args.declared.now = (let inside : place < length all = (position-Some (gives_kinds sign) all place Words found).0 in simp length-map at inside) in
    let fails : gives_kinds sign (get_or all place (declaration_seen item)) ≡ false =
    ap (gives_kinds sign) (get_or-map declaration_seen c.args.declared.now place item (declaration_seen item) within ∙ ap declaration_seen (sym c.index-declared-place.is)) ∙ gives_no_kinds sign item c.in_default.not-Sign in
    absurd (no_sign sign all place (declaration_seen item) found fails)
