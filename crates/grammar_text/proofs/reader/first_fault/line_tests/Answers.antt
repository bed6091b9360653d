use Rattle.std.proofs.Common.{ℕ, subst, ◌≡◌, ◌+◌, ◌<◌, Some, List, length, map, take, drop, get_or, refl, sym, ap, ◌∙◌, arith}
use Rattle.std.proofs.lemmas.List.{length-map, get_or-map}
use Rattle.job_texts.specs.Declarations.{Words}
use Rattle.job_texts.specs.DeclaredNames.{form_at, form_of}
use Rattle.grammar_text.specs.declared.reader.collected.LineSort.{LineSort}
use Rattle.grammar_text.specs.declared.reader.collected.LineSort.TheVariants.{Skipped, Says}
use Rattle.grammar_text.specs.declared.reader.declaration.Declaration.{Declaration}
use Rattle.grammar_text.specs.declared.reader.faults.OwnWords.{OwnWords}
use Rattle.grammar_text.specs.declared.reader.faults.OwnWords.TheVariants.{Misnamed, Misnumbered}
use Rattle.job_texts.specs.TextFaults.{misnames, misnumbers}
use Rattle.grammar_text.specs.LineTests.{AreOwnWords, AreFormTests, AreRightWords}
use Rattle.grammar_text.proofs.RightWords.{right_words}
use Rattle.grammar_text.specs.Collecting.{says_in}
use Rattle.grammar_text.specs.Gathering.{text_seen}
use Rattle.grammar_text.specs.Seen.{declaration_seen}
use Rattle.grammar_text.proofs.LineForms.{silent_tests, formed_tests, misnamed_tests, misnumbered_tests}
use Rattle.grammar_text.proofs.Placing.{form_is, above_is, below_is, all_is, place_inside, silent_sort, line_of_sort}
use Rattle.grammar_text.proofs.reader.first_fault.line_tests.Goals as goal

pub returns-in_default : goal.returns-in_default
returns-in_default c =
    let sorts = c.args.text.now.header.sorts.items in
    let declared = map declaration_seen c.args.text.now.header.declared.items in
    let says = c.requires.says ∙ sym (length-map c.args.text.now.header.declared.items declaration_seen) in
    let sort : c.sort_at.result ≡ get_or sorts c.args.index Skipped = c.sort_at.ensures ∙ ap (λ (these : List LineSort). get_or these c.args.index Skipped) c.deref.ensures.value in
    silent_tests (text_seen c.args.text.now) declared (c.args.index + 1) c.tests_alone-alone.result c.tests_alone-alone.ensures (all_is (text_seen c.args.text.now) sorts declared says refl)
    (form_is (text_seen c.args.text.now) c.args.index sorts declared Words says refl
    ∙ silent_sort (get_or sorts c.args.index Skipped) (get_or declared (says_in (take c.args.index sorts)) Words) (λ e. c.in_default.not-Says (sort ∙ e)))

pub index-requires : goal.index-requires
index-requires c =
    let sorts = c.args.text.now.header.sorts.items in
    let sort : c.sort_at.result ≡ get_or sorts c.args.index Skipped = c.sort_at.ensures ∙ ap (λ (these : List LineSort). get_or these c.args.index Skipped) c.deref.ensures.value in
    let inside = place_inside c.args.index sorts (sym sort ∙ c.in-Says.is) in
    omega (arith, inside, c.requires.says, c.requires.place)

pub returns-in-Misnamed : goal.returns-in-Misnamed
returns-in-Misnamed c =
    let sorts = c.args.text.now.header.sorts.items in
    let items = c.args.text.now.header.declared.items in
    let declared = map declaration_seen items in
    let says = c.requires.says ∙ sym (length-map items declaration_seen) in
    let sort : c.sort_at.result ≡ get_or sorts c.args.index Skipped = c.sort_at.ensures ∙ ap (λ (these : List LineSort). get_or these c.args.index Skipped) c.deref.ensures.value in
    let is_says : get_or sorts c.args.index Skipped ≡ Says = sym sort ∙ c.in-Says.is in
    let below_all = place_inside c.args.index sorts is_says in
    let inside : c.args.place < length items = omega (arith, below_all, c.requires.says, c.requires.place) in
    let said : form_at (text_seen c.args.text.now) (c.args.index + 1) ≡ Some (get_or declared c.args.place Words) =
    form_is (text_seen c.args.text.now) c.args.index sorts declared Words says refl
    ∙ ap (λ (s : LineSort). form_of (line_of_sort s (get_or declared (says_in (take c.args.index sorts)) Words))) is_says
    ∙ ap (λ (p : ℕ). Some (get_or declared p Words)) (sym c.requires.place) in
    let at : get_or declared c.args.place Words ≡ declaration_seen c.index.result.now = get_or-map declaration_seen items c.args.place _ Words inside ∙ ap declaration_seen (sym c.index.ensures) in
    let own : AreOwnWords (declaration_seen c.index.result.now) Misnamed = subst (λ (o : OwnWords). AreOwnWords (declaration_seen c.index.result.now) o) c.in-Misnamed.is c.in_ok-own.ensures in
    rw c.misnamed.ensures (misnamed_tests (text_seen c.args.text.now) declared (c.args.index + 1) c.args.place c.tests_alone-alone.result c.tests_alone-alone.ensures said (ap misnames at ∙ own))

pub returns-in-Misnumbered : goal.returns-in-Misnumbered
returns-in-Misnumbered c =
    let sorts = c.args.text.now.header.sorts.items in
    let items = c.args.text.now.header.declared.items in
    let declared = map declaration_seen items in
    let says = c.requires.says ∙ sym (length-map items declaration_seen) in
    let sort : c.sort_at.result ≡ get_or sorts c.args.index Skipped = c.sort_at.ensures ∙ ap (λ (these : List LineSort). get_or these c.args.index Skipped) c.deref.ensures.value in
    let is_says : get_or sorts c.args.index Skipped ≡ Says = sym sort ∙ c.in-Says.is in
    let below_all = place_inside c.args.index sorts is_says in
    let inside : c.args.place < length items = omega (arith, below_all, c.requires.says, c.requires.place) in
    let said : form_at (text_seen c.args.text.now) (c.args.index + 1) ≡ Some (get_or declared c.args.place Words) =
    form_is (text_seen c.args.text.now) c.args.index sorts declared Words says refl
    ∙ ap (λ (s : LineSort). form_of (line_of_sort s (get_or declared (says_in (take c.args.index sorts)) Words))) is_says
    ∙ ap (λ (p : ℕ). Some (get_or declared p Words)) (sym c.requires.place) in
    let at : get_or declared c.args.place Words ≡ declaration_seen c.index.result.now = get_or-map declaration_seen items c.args.place _ Words inside ∙ ap declaration_seen (sym c.index.ensures) in
    let own : AreOwnWords (declaration_seen c.index.result.now) Misnumbered = subst (λ (o : OwnWords). AreOwnWords (declaration_seen c.index.result.now) o) c.in-Misnumbered.is c.in_ok-own.ensures in
    rw c.misnumbered.ensures (misnumbered_tests (text_seen c.args.text.now) declared (c.args.index + 1) c.args.place c.tests_alone-alone.result c.tests_alone-alone.ensures said (ap misnames at ∙ own.0) (ap misnumbers at ∙ own.1))

pub form_tests-requires-clause-inside : goal.form_tests-requires-clause-inside
form_tests-requires-clause-inside c =
    let sorts = c.args.text.now.header.sorts.items in
    let items = c.args.text.now.header.declared.items in
    let declared = map declaration_seen items in
    let says = c.requires.says ∙ sym (length-map items declaration_seen) in
    let sort : c.sort_at.result ≡ get_or sorts c.args.index Skipped = c.sort_at.ensures ∙ ap (λ (these : List LineSort). get_or these c.args.index Skipped) c.deref.ensures.value in
    let is_says : get_or sorts c.args.index Skipped ≡ Says = sym sort ∙ c.in-Says.is in
    let below_all = place_inside c.args.index sorts is_says in
    let inside : c.args.place < length items = omega (arith, below_all, c.requires.says, c.requires.place) in
    omega (arith, inside, ap length c.deref-in_default-2.ensures.value)

pub form_tests-requires-clause-own : goal.form_tests-requires-clause-own
form_tests-requires-clause-own c =
    let sorts = c.args.text.now.header.sorts.items in
    let items = c.args.text.now.header.declared.items in
    let declared = map declaration_seen items in
    let says = c.requires.says ∙ sym (length-map items declaration_seen) in
    let sort : c.sort_at.result ≡ get_or sorts c.args.index Skipped = c.sort_at.ensures ∙ ap (λ (these : List LineSort). get_or these c.args.index Skipped) c.deref.ensures.value in
    let is_says : get_or sorts c.args.index Skipped ≡ Says = sym sort ∙ c.in-Says.is in
    let below_all = place_inside c.args.index sorts is_says in
    let inside : c.args.place < length items = omega (arith, below_all, c.requires.says, c.requires.place) in
    let said : form_at (text_seen c.args.text.now) (c.args.index + 1) ≡ Some (get_or declared c.args.place Words) =
    form_is (text_seen c.args.text.now) c.args.index sorts declared Words says refl
    ∙ ap (λ (s : LineSort). form_of (line_of_sort s (get_or declared (says_in (take c.args.index sorts)) Words))) is_says
    ∙ ap (λ (p : ℕ). Some (get_or declared p Words)) (sym c.requires.place) in
    let at : get_or declared c.args.place Words ≡ declaration_seen c.index.result.now = get_or-map declaration_seen items c.args.place _ Words inside ∙ ap declaration_seen (sym c.index.ensures) in
    let right = right_words (declaration_seen c.index.result.now) c.in_ok-own.own c.in_default-2.not-Misnamed c.in_default-2.not-Misnumbered c.in_ok-own.ensures in
    subst (λ declaration. AreRightWords declaration c.in_ok-own.own) (sym at ∙ ap (λ (these : List Declaration). get_or (map declaration_seen these) c.args.place Words) (sym c.deref-in_default-2.ensures.value)) right.2

pub returns-in_ok-form-in_default-2 : goal.returns-in_ok-form-in_default-2
returns-in_ok-form-in_default-2 c =
    let sorts = c.args.text.now.header.sorts.items in
    let items = c.args.text.now.header.declared.items in
    let declared = map declaration_seen items in
    let says = c.requires.says ∙ sym (length-map items declaration_seen) in
    let sort : c.sort_at.result ≡ get_or sorts c.args.index Skipped = c.sort_at.ensures ∙ ap (λ (these : List LineSort). get_or these c.args.index Skipped) c.deref.ensures.value in
    let is_says : get_or sorts c.args.index Skipped ≡ Says = sym sort ∙ c.in-Says.is in
    let below_all = place_inside c.args.index sorts is_says in
    let inside : c.args.place < length items = omega (arith, below_all, c.requires.says, c.requires.place) in
    let said : form_at (text_seen c.args.text.now) (c.args.index + 1) ≡ Some (get_or declared c.args.place Words) =
    form_is (text_seen c.args.text.now) c.args.index sorts declared Words says refl
    ∙ ap (λ (s : LineSort). form_of (line_of_sort s (get_or declared (says_in (take c.args.index sorts)) Words))) is_says
    ∙ ap (λ (p : ℕ). Some (get_or declared p Words)) (sym c.requires.place) in
    let at : get_or declared c.args.place Words ≡ declaration_seen c.index.result.now = get_or-map declaration_seen items c.args.place _ Words inside ∙ ap declaration_seen (sym c.index.ensures) in
    let own = right_words (declaration_seen c.index.result.now) c.in_ok-own.own c.in_default-2.not-Misnamed c.in_default-2.not-Misnumbered c.in_ok-own.ensures in
    let are = subst (λ (these : List Declaration). AreFormTests (map declaration_seen these) c.args.place c.in_ok-form-in_default-2.form) c.deref-in_default-2.ensures.value c.in_ok-form-in_default-2.ensures in
    rw c.joined.ensures
    (formed_tests (text_seen c.args.text.now) declared (c.args.index + 1) c.args.place c.tests_alone-alone.result c.in_ok-form-in_default-2.form c.tests_alone-alone.ensures (all_is (text_seen c.args.text.now) sorts declared says refl) said
    (above_is (text_seen c.args.text.now) c.args.index sorts declared says refl ∙ ap (λ (p : ℕ). take p declared) (sym c.requires.place))
    (below_is (text_seen c.args.text.now) c.args.index sorts declared says refl is_says ∙ ap (λ (p : ℕ). drop (p + 1) declared) (sym c.requires.place))
    (ap misnames at ∙ own.0) (ap misnumbers at ∙ own.1) are)
