-- The tests of a line, from those of what it declares and those that look at more.
use Rattle.std.proofs.Common.{◌≡◌, ℕ, ◌+◌, Bool, true, false, ◌&&◌, ◌||◌, not, Option, Some, None, List, [], ◌∷◌, ◌++◌, take, drop, get_or, nat_lt, refl, sym, ◌∙◌, ap}
use Rattle.std.specs.List.{list_all, list_any}
use Rattle.std.specs.Option.{option_map_or, option_or}
use Rattle.job_texts.specs.TermText.{is_among}
use Rattle.job_texts.specs.Declarations.{Declaration, Class, Sign, Algebra, Let, Rule, Axiom, Words}
use Rattle.job_texts.specs.LetTerms.{has_variables}
use Rattle.job_texts.specs.DeclaredNames.{TextLines, form_at, above, below, declarations, is_algebra_line, section_of, let_signs, sign_names}
use Rattle.job_texts.specs.TextFaults as faults
use Rattle.grammar_text.specs.Judged as judged
use Rattle.grammar_text.specs.Names.{declares_its_variables, first_passing}
use Rattle.grammar_text.specs.LineKinds.{AreLineTests, AreTestsAlone, word_counts}
use Rattle.grammar_text.specs.LineTests as forms
use Rattle.grammar_text.specs.JoinedTests.{joined}
use Rattle.grammar_text.specs.declared.reader.faults.FormTests.{FormTests}
use Rattle.grammar_text.specs.declared.reader.kinds.LineTests.{LineTests}

first_passing_more : (xs ys : List faults.Counted) → first_passing (xs ++ ys) ≡ option_or (first_passing xs) (first_passing ys)
first_passing_more [] ys = refl
first_passing_more (x ∷ xs) ys = step (nat_lt x.limit x.count) refl (first_passing_more xs ys)
  where
    step : (passes : Bool) → nat_lt x.limit x.count ≡ passes → first_passing (xs ++ ys) ≡ option_or (first_passing xs) (first_passing ys)
        → first_passing (x ∷ (xs ++ ys)) ≡ option_or (first_passing (x ∷ xs)) (first_passing ys)
    step true e others = rw e refl
    step false e others = rw e others

-- the `words` line lacks an axiom or an algebra
last_axiom : (text : TextLines) (all : List Declaration) (line : ℕ) → declarations text ≡ all
    → (faults.is_words_line_number text line && not (list_any faults.is_axiom_line all)) ≡ (faults.is_words_line_number text line && not (list_any faults.is_axiom_line (declarations text)))
last_axiom text all line declared = ap (λ (these : List Declaration). faults.is_words_line_number text line && not (list_any faults.is_axiom_line these)) (sym declared)

last_algebra : (text : TextLines) (all : List Declaration) (line : ℕ) → declarations text ≡ all
    → (faults.is_words_line_number text line && not (list_any is_algebra_line all)) ≡ (faults.is_words_line_number text line && not (list_any is_algebra_line (declarations text)))
last_algebra text all line declared = ap (λ (these : List Declaration). faults.is_words_line_number text line && not (list_any is_algebra_line these)) (sym declared)

-- a line without form
pub silent_tests : (text : TextLines) (all : List Declaration) (line : ℕ) (tests : LineTests) → AreTestsAlone text all line tests → declarations text ≡ all → form_at text line ≡ None
    → AreLineTests text line tests
silent_tests text all line tests alone declared form = record {
  other_first_line = alone.other_first_line;
  unprintable = alone.unprintable;
  no_shape = alone.no_shape;
  no_name = alone.no_name ∙ ap (λ (said : Option Declaration). option_map_or faults.misnames said false) (sym form);
  no_number = λ a. alone.no_number ∙ ap (λ (said : Option Declaration). option_map_or faults.misnumbers said false) (sym form);
  later = λ a b. record {
    unclosed = alone.unclosed;
    repeated = alone.repeated ∙ ap (λ (said : Option Declaration). option_map_or (faults.repeats (above text line)) said false) (sym form);
    no_letters = alone.no_letters ∙ ap (λ (said : Option Declaration). option_map_or faults.misletters said false) (sym form);
    misplaced = alone.misplaced ∙ ap (λ (said : Option Declaration). option_map_or (faults.is_misplaced (above text line)) said false) (sym form);
    no_words_line = alone.no_words_line;
    not_one_axiom = alone.not_one_axiom ∙ last_axiom text all line declared ∙ ap (λ (said : Option Declaration). option_map_or (λ (declaration : Declaration). faults.is_axiom_line declaration && list_any faults.is_axiom_line (above text line)) said false || (faults.is_words_line_number text line && not (list_any faults.is_axiom_line (declarations text)))) (sym form);
    unknown = alone.unknown ∙ ap (λ (said : Option Declaration). option_map_or (faults.uses_unknown (declarations text)) said false) (sym form);
    misfit = alone.misfit ∙ ap (λ (said : Option Declaration). option_map_or (faults.misfits (declarations text)) said false) (sym form);
    crossed = alone.crossed ∙ ap (λ (said : Option Declaration). option_map_or judged.has_crossed_run said false) (sym form);
    lacks_let = alone.lacks_let ∙ last_algebra text all line declared ∙ ap (λ (said : Option Declaration). option_map_or (λ (declaration : Declaration). is_algebra_line declaration && not (list_all (is_among (let_signs (section_of (below text line)))) (sign_names (declarations text)))) said false || (faults.is_words_line_number text line && not (list_any is_algebra_line (declarations text)))) (sym form);
    passing_count = λ known. alone.passing_count ∙ ap (λ (said : Option Declaration). first_passing (option_map_or (faults.counts_of (above text line)) said [] ++ word_counts text line)) (sym form);
    twice = λ known none. alone.twice ∙ ap (λ (said : Option Declaration). option_map_or faults.is_twice said false) (sym form);
  };
}

-- a line without unknown names declares the variables of its term
knows_its_variables : (all : List Declaration) (declaration : Declaration) → faults.uses_unknown all declaration ≡ false → declares_its_variables declaration ≡ true
knows_its_variables all (Let sign variables term) h = both_known (is_among (sign_names all) sign) (has_variables variables term) h
  where
    both_known : (a b : Bool) → not (a && b) ≡ false → b ≡ true
    both_known true true h = refl
    both_known true false h = cc
    both_known false b h = cc
knows_its_variables all (Class name items) h = refl
knows_its_variables all (Sign name kinds) h = refl
knows_its_variables all (Algebra name goal) h = refl
knows_its_variables all (Rule name alternatives) h = refl
knows_its_variables all (Axiom rule) h = refl
knows_its_variables all Words h = refl

first_none : (one other : Option ℕ) → option_or one other ≡ None → one ≡ None
first_none None other h = refl
first_none (Some n) other h = cc

-- a line that declares something whose words are right
pub formed_tests : (text : TextLines) (all : List Declaration) (line place : ℕ) (tests : LineTests) (form : FormTests) → AreTestsAlone text all line tests → declarations text ≡ all
    → form_at text line ≡ Some (get_or all place Words) → above text line ≡ take place all → below text line ≡ drop (place + 1) all
    → faults.misnames (get_or all place Words) ≡ false → faults.misnumbers (get_or all place Words) ≡ false → forms.AreFormTests all place form
    → AreLineTests text line (joined tests form)
formed_tests text all line place tests form alone declared said above_is below_is names numbers are = record {
  other_first_line = alone.other_first_line;
  unprintable = alone.unprintable;
  no_shape = alone.no_shape;
  no_name = alone.no_name ∙ sym names ∙ ap (λ (said : Option Declaration). option_map_or faults.misnames said false) (sym said);
  no_number = λ a. alone.no_number ∙ sym numbers ∙ ap (λ (said : Option Declaration). option_map_or faults.misnumbers said false) (sym said);
  later = λ a b. record {
    unclosed = alone.unclosed;
    repeated = are.repeats ∙ ap (λ (these : List Declaration). faults.repeats these (get_or all place Words)) (sym above_is) ∙ ap (λ (said : Option Declaration). option_map_or (faults.repeats (above text line)) said false) (sym said);
    no_letters = are.misletters ∙ ap (λ (said : Option Declaration). option_map_or faults.misletters said false) (sym said);
    misplaced = are.is_misplaced ∙ ap (λ (these : List Declaration). faults.is_misplaced these (get_or all place Words)) (sym above_is) ∙ ap (λ (said : Option Declaration). option_map_or (faults.is_misplaced (above text line)) said false) (sym said);
    no_words_line = alone.no_words_line;
    not_one_axiom =
        ap (λ (second : Bool). second || tests.not_one_axiom)
        (are.is_second_axiom ∙ ap (λ (these : List Declaration). faults.is_axiom_line (get_or all place Words) && list_any faults.is_axiom_line these) (sym above_is) ∙ ap (λ (said : Option Declaration). option_map_or (λ (declaration : Declaration). faults.is_axiom_line declaration && list_any faults.is_axiom_line (above text line)) said false) (sym said))
        ∙ ap (λ (none : Bool). option_map_or (λ (declaration : Declaration). faults.is_axiom_line declaration && list_any faults.is_axiom_line (above text line)) (form_at text line) false || none) (alone.not_one_axiom ∙ last_axiom text all line declared);
    unknown = are.uses_unknown ∙ ap (λ (these : List Declaration). faults.uses_unknown these (get_or all place Words)) (sym declared) ∙ ap (λ (said : Option Declaration). option_map_or (faults.uses_unknown (declarations text)) said false) (sym said);
    misfit = are.misfits ∙ ap (λ (these : List Declaration). faults.misfits these (get_or all place Words)) (sym declared) ∙ ap (λ (said : Option Declaration). option_map_or (faults.misfits (declarations text)) said false) (sym said);
    crossed = are.has_crossed_run ∙ ap (λ (said : Option Declaration). option_map_or judged.has_crossed_run said false) (sym said);
    lacks_let =
        ap (λ (own : Bool). own || tests.lacks_let)
        (are.lacks_let
        ∙ ap (λ (these : List Declaration). is_algebra_line (get_or all place Words) && not (list_all (is_among (let_signs (section_of these))) (sign_names all))) (sym below_is)
        ∙ ap (λ (these : List Declaration). is_algebra_line (get_or all place Words) && not (list_all (is_among (let_signs (section_of (below text line)))) (sign_names these))) (sym declared)
        ∙ ap (λ (said : Option Declaration). option_map_or (λ (declaration : Declaration). is_algebra_line declaration && not (list_all (is_among (let_signs (section_of (below text line)))) (sign_names (declarations text)))) said false) (sym said))
        ∙ ap (λ (none : Bool). option_map_or (λ (declaration : Declaration). is_algebra_line declaration && not (list_all (is_among (let_signs (section_of (below text line)))) (sign_names (declarations text)))) (form_at text line) false || none) (alone.lacks_let ∙ last_algebra text all line declared);
    passing_count = λ known.
        ap (λ (own : Option ℕ). option_or own tests.passing_count) (are.passing_count (knows_its_variables all (get_or all place Words) (sym are.uses_unknown ∙ known)))
        ∙ ap (λ (words : Option ℕ). option_or (first_passing (faults.counts_of (take place all) (get_or all place Words))) words) alone.passing_count
        ∙ sym (first_passing_more (faults.counts_of (take place all) (get_or all place Words)) (word_counts text line))
        ∙ ap (λ (these : List Declaration). first_passing (faults.counts_of these (get_or all place Words) ++ word_counts text line)) (sym above_is)
        ∙ ap (λ (said : Option Declaration). first_passing (option_map_or (faults.counts_of (above text line)) said [] ++ word_counts text line)) (sym said);
    twice = λ known none.
        are.twice (knows_its_variables all (get_or all place Words) (sym are.uses_unknown ∙ known)) (first_none form.passing_count tests.passing_count none)
        ∙ ap (λ (said : Option Declaration). option_map_or faults.is_twice said false) (sym said);
  };
}

-- a line that has a wrong name
pub misnamed_tests : (text : TextLines) (all : List Declaration) (line place : ℕ) (tests : LineTests) → AreTestsAlone text all line tests
    → form_at text line ≡ Some (get_or all place Words) → faults.misnames (get_or all place Words) ≡ true → AreLineTests text line (record tests { no_name = true })
misnamed_tests text all line place tests alone said names = record {
  other_first_line = alone.other_first_line;
  unprintable = alone.unprintable;
  no_shape = alone.no_shape;
  no_name = sym names ∙ ap (λ (said : Option Declaration). option_map_or faults.misnames said false) (sym said);
  no_number = λ a. cc;
  later = λ a b. absurd (cc);
}

-- a line that has a wrong number
pub misnumbered_tests : (text : TextLines) (all : List Declaration) (line place : ℕ) (tests : LineTests) → AreTestsAlone text all line tests
    → form_at text line ≡ Some (get_or all place Words) → faults.misnames (get_or all place Words) ≡ false → faults.misnumbers (get_or all place Words) ≡ true
    → AreLineTests text line (record tests { no_number = true })
misnumbered_tests text all line place tests alone said names numbers = record {
  other_first_line = alone.other_first_line;
  unprintable = alone.unprintable;
  no_shape = alone.no_shape;
  no_name = alone.no_name ∙ sym names ∙ ap (λ (said : Option Declaration). option_map_or faults.misnames said false) (sym said);
  no_number = λ a. sym numbers ∙ ap (λ (said : Option Declaration). option_map_or faults.misnumbers said false) (sym said);
  later = λ a b. absurd (cc);
}
