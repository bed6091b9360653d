use Rattle.std.proofs.Common.{◌≡◌, ℕ, ◌+◌, Option, List, map, take, get_or, sym, ap, subst, ◌∙◌}
use Rattle.grammar_text.specs.LineTests.{AreRightWords, passing_leaves}
use Rattle.std.specs.Option.{option_or}
use Rattle.job_texts.specs.TextFaults.{counts_of, is_twice}
use Rattle.grammar_text.specs.Names.{declares_its_variables, first_passing, line_counts}
use Rattle.std.proofs.lemmas.List.{take-map, drop-map, get_or-map}
use Rattle.job_texts.specs.Declarations.{Declaration, Words}
use Rattle.grammar_text.specs.Seen.{declaration_seen}
use Rattle.grammar_text.proofs.RightWords.{all_counts, knows, stands_twice}
use Rattle.grammar_text.proofs.reader.faults.form_tests.Goals as goal

pub returns : goal.returns
returns c =
    let all = c.args.declared.now in
    let place = c.args.place in
    let here : get_or (map declaration_seen all) place Words ≡ declaration_seen c.index-declared-place.result =
    get_or-map declaration_seen all place _ Words c.requires.inside ∙ ap declaration_seen (sym c.index-declared-place.is) in
    let up = take-map declaration_seen place all in
    let right : AreRightWords (declaration_seen c.index-declared-place.result) c.args.own = subst (λ (d : Declaration). AreRightWords d c.args.own) here c.requires.own in
    let below = ap (map declaration_seen) c.behind.ensures ∙ sym (drop-map declaration_seen (place + 1) all) in
    record {
      repeats = rw (here, up) c.in_ok-repeats.ensures;
      misletters = rw here c.in_ok-misletters.ensures;
      is_misplaced = rw (here, up) c.is_misplaced.ensures;
      is_second_axiom = rw (here, up) c.is_second_axiom.ensures;
      uses_unknown = rw here (c.uses_unknown.ensures (map declaration_seen all) c.requires.names);
      misfits = rw here c.misfits.ensures;
      has_crossed_run = rw here c.has_crossed_run.ensures;
      lacks_let = rw (here, sym below) c.in_ok-section_lacks_let.ensures;
      passing_count = λ known.
          c.or.ensures
          ∙ ap (λ (leaves : Option ℕ). option_or leaves c.passing_count.result) c.passing_leaves.ensures
          ∙ ap (option_or (passing_leaves c.args.own)) (c.passing_count.ensures ∙ ap (λ (these : List Declaration). first_passing (line_counts these (declaration_seen c.index-declared-place.result))) (sym up))
          ∙ all_counts (take place (map declaration_seen all)) (declaration_seen c.index-declared-place.result) c.args.own right (sym (ap declares_its_variables here) ∙ known)
          ∙ ap (λ (declaration : Declaration). first_passing (counts_of (take place (map declaration_seen all)) declaration)) (sym here);
      twice = λ known none.
          c.is_twice.ensures
          ∙ stands_twice (declaration_seen c.index-declared-place.result) c.args.own c.passing_count.result right (sym (ap declares_its_variables here) ∙ known)
          (sym (c.or.ensures ∙ ap (λ (leaves : Option ℕ). option_or leaves c.passing_count.result) c.passing_leaves.ensures) ∙ none)
          ∙ ap is_twice (sym here);
    }

pub uses_unknown-requires : goal.uses_unknown-requires
uses_unknown-requires c =
    let all = c.args.declared.now in
    let here : get_or (map declaration_seen all) c.args.place Words ≡ declaration_seen c.index-declared-place.result =
    get_or-map declaration_seen all c.args.place _ Words c.requires.inside ∙ ap declaration_seen (sym c.index-declared-place.is) in
    c.knows_variables.ensures ∙ knows (declaration_seen c.index-declared-place.result) c.args.own (subst (λ (d : Declaration). AreRightWords d c.args.own) here c.requires.own)
