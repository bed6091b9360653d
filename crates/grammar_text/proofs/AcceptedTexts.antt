-- A text without a fault makes a job: its grammar is well-formed, and its words are printable and few.
use Rattle.std.proofs.Common.{◌≡◌, ℕ, zero, suc, ◌+◌, ◌-◌, ◌<◌, ◌≤◌, ◌⊎◌, inl, inr, Bool, true, false, cond, ◌&&◌, not, nat_eq, nat_le, nat_lt, IsTrue, Option, Some, None, is_none, Result, Ok, Err, List, [], ◌∷◌, ◌++◌, length, map, drop, slice_index_or, refl, sym, ◌∙◌, ap, subst, arith, length-drop}
use Rattle.std.specs.List.{list_all, list_any, filter_map, cons_option, find, position_or_len, AllByRecursion}
use Rattle.std.specs.Option.{option_map, option_map_or, option_eq}
use Rattle.std.proofs.lemmas.Bool.{and_parts, and_from, or_parts, not-false, lt-ltb, le-leb, ltb-true, ltb-false, eq-eqb, cases_lt}
use Rattle.std.proofs.lemmas.List.{length-map}
use Rattle.adp_model.specs.Printable.{is_printable_byte}
use Rattle.adp_model.specs.declared.grammar.Grammar.{Grammar}
use Rattle.adp_model.specs.declared.job.Job.{Job}
use Rattle.adp_model.specs.declared.fault.TextFault.{TextFault}
use Rattle.adp_model.specs.WellFormed.{is_of_version, is_well_formed}
use Rattle.job_texts.specs.JobLines.{job_lines, is_second_format, line_at, is_words_line, up_to_words_line, header_of, version_of, words_line_of, words_of}
use Rattle.job_texts.specs.Declarations.{Declaration, HeaderLine, Skipped, Unprintable, Unclosed, Shapeless, Says, header_line}
use Rattle.job_texts.specs.DeclaredNames.{TextLines, text_lines, form_of, form_at, declarations, above, is_algebra_line}
use Rattle.job_texts.specs.TextFaults.{is_axiom_line, is_words_line_number, Counted, limited, counts_of, counts_at, is_word_line, words_up_to}
use Rattle.job_texts.specs.JobText.{declared_grammar, first_fault, Accepted, accepted_of, text_verdict, IsText, IsFaultOf}
use Rattle.grammar_text.specs.Building.{are_buildable}
use Rattle.grammar_text.proofs.Nothing.{map_none, not_some, none_of_both, none_passes}
use Rattle.grammar_text.proofs.Faultless.{free, Each, each_faultless, IsFaultless, is_over}
use Rattle.grammar_text.proofs.FormatsKept.{IsOfFormat, declaration_of-formed, of_first, of_second}
use Rattle.grammar_text.proofs.Shapes.{IsShaped, LineKeeps, header_line-keeps, header_line-shaped}
use Rattle.grammar_text.proofs.WellFormedText.{IsSound, AreSound, well_formed, buildable}

-- ---- the header

up_to_short : (lines : List (List ℕ)) → length (up_to_words_line lines) ≤ length lines
up_to_short [] = omega arith
up_to_short (line ∷ lines) = here (is_words_line line) (up_to_short lines)
  where
    here : (b : Bool) → length (up_to_words_line lines) ≤ length lines → length (line ∷ cond b [] (up_to_words_line lines)) ≤ length (line ∷ lines)
    here true h = omega arith
    here false h = omega arith

header_short : (bytes : List ℕ) → length (text_lines bytes).header ≤ length (text_lines bytes).lines + 1
header_short bytes =
    let lines = job_lines bytes in
    let short = up_to_short (drop 1 lines) in
    let counted : length (map (header_line (version_of lines)) (header_of lines)) ≡ length (header_of lines) = length-map (header_of lines) (header_line (version_of lines)) in
    omega (arith, length-drop 1 lines)

-- what each line keeps, what the lines say keeps
module _ (Keeps : Declaration → Type 0) (version : ℕ) (keeps : (line : List ℕ) → LineKeeps Keeps (header_line version line)) where
  kept_form : (line : HeaderLine) (declared : List Declaration) → LineKeeps Keeps line → AllByRecursion Keeps declared → AllByRecursion Keeps (cons_option (form_of line) declared)
  kept_form (Says declaration) declared h k = (h, k)
  kept_form Skipped declared h k = k
  kept_form Unprintable declared h k = k
  kept_form Unclosed declared h k = k
  kept_form Shapeless declared h k = k

  kept_lines : (lines : List (List ℕ)) → AllByRecursion Keeps (filter_map form_of (map (header_line version) lines))
  kept_lines [] = tt
  kept_lines (line ∷ lines) = kept_form (header_line version line) (filter_map form_of (map (header_line version) lines)) (keeps line) (kept_lines lines)

each_sound : (all above below : List Declaration) → Each (IsFaultless all) above below → AllByRecursion IsShaped below → Each (IsSound all) above below
each_sound all above [] h k = tt
each_sound all above (declaration ∷ below) h k = (record { faultless = h.0; shaped = k.0 }, each_sound all (above ++ declaration ∷ []) below h.1 k.1)

-- ---- the `words` line

-- a text has a `words` line of this number
record HasWordsLine (lines : List (List ℕ)) (line : ℕ) : Type 0 where
  pub at : words_line_of lines ≡ Some line
  pub first : 2 ≤ line
  pub last : line ≤ length lines
  pub words : words_of lines ≡ drop (line - 1) (drop 1 lines)

abbrev words_place : List (List ℕ) → ℕ
words_place lines = position_or_len is_words_line (drop 1 lines)

abbrev line_of_place : ℕ → ℕ
line_of_place place = place + 2

words_line_by : (lines : List (List ℕ)) (b : Bool) → nat_lt (words_place lines) (length (drop 1 lines)) ≡ b → is_none (words_line_of lines) ≡ false → (line : ℕ) × HasWordsLine lines line
words_line_by lines true e h =
    let within = ltb-true (words_place lines) (length (drop 1 lines)) e in
    let before : words_place lines + 2 - 1 ≡ words_place lines + 1 = omega arith in (
      words_place lines + 2,
      record {
        at = rw e refl;
        first = omega arith;
        last = omega (arith, length-drop 1 lines);
        words = rw before refl;
      },
    )
words_line_by lines false e h =
    let none : is_none (option_map line_of_place (cond false (Some (words_place lines)) None)) ≡ false = subst (λ b. is_none (option_map line_of_place (cond b (Some (words_place lines)) None)) ≡ false) e h in
    absurd cc

words_line_at : (lines : List (List ℕ)) → is_none (words_line_of lines) ≡ false → (line : ℕ) × HasWordsLine lines line
words_line_at lines h = words_line_by lines (nat_lt (words_place lines) (length (drop 1 lines))) refl h

ended : (text : TextLines) → first_fault text ≡ None → is_none text.words_line ≡ false
ended text h =
    let last = free text (length text.lines + 1) h (omega arith) (omega arith) in
    here (is_none text.words_line) (subst (λ b. (is_none text.words_line && b) ≡ false) (eq-eqb (length text.lines + 1) (length text.lines + 1) refl) last.ended)
  where
    here : (b : Bool) → (b && true) ≡ false → b ≡ false
    here true k = k
    here false k = refl

-- what stands at the `words` line of a text without a fault
at_words_line : (text : TextLines) (line : ℕ) (b : Bool) → text.words_line ≡ Some line → (is_words_line_number text line && not b) ≡ false → b ≡ true
at_words_line text line b e h =
    let here : (nat_eq line line && not b) ≡ false = subst (λ o. (option_eq nat_eq o (Some line) && not b) ≡ false) e h in
    not-false b (subst (λ t. (t && not b) ≡ false) (eq-eqb line line refl) here)

all_faultless : (bytes : List ℕ) → first_fault (text_lines bytes) ≡ None → Each (IsFaultless (declarations (text_lines bytes))) [] (declarations (text_lines bytes))
all_faultless bytes h = each_faultless (text_lines bytes) h (header_short bytes)

are_sound : (bytes : List ℕ) → first_fault (text_lines bytes) ≡ None → AreSound (declarations (text_lines bytes))
are_sound bytes h =
    let text = text_lines bytes in
    let all = declarations text in
    let found = words_line_at (job_lines bytes) (ended text h) in
    let at = free text found.0 h (omega arith) (omega arith) in
    record {
      each = each_sound all [] all (all_faultless bytes h) (kept_lines IsShaped text.version (header_line-shaped text.version) (header_of (job_lines bytes)));
      some_axiom = at_words_line text found.0 (list_any is_axiom_line all) found.1.at (or_parts _ _ at.one_axiom).1;
      some_algebra_line = at_words_line text found.0 (list_any is_algebra_line all) found.1.at (or_parts _ _ at.complete).1;
    }

pub accepted-well_formed : (bytes : List ℕ) → first_fault (text_lines bytes) ≡ None → IsTrue (is_well_formed (declared_grammar (declarations (text_lines bytes))))
accepted-well_formed bytes h = well_formed (declarations (text_lines bytes)) (are_sound bytes h)

-- ---- the format

declared_formed : (bytes : List ℕ) (version : ℕ) → (text_lines bytes).version ≡ version → AllByRecursion (IsOfFormat version) (declarations (text_lines bytes))
declared_formed bytes version e =
    let own = (text_lines bytes).version in
    let keeps = header_line-keeps (IsOfFormat own) own (λ tokens printable. declaration_of-formed own tokens) in
    subst (λ n. AllByRecursion (IsOfFormat n) (declarations (text_lines bytes))) e (kept_lines (IsOfFormat own) own keeps (header_of (job_lines bytes)))

by_format : (bytes : List ℕ) (second : Bool) → (text_lines bytes).version ≡ cond second 2 1 → first_fault (text_lines bytes) ≡ None
    → IsTrue (is_of_version (text_lines bytes).version (declared_grammar (declarations (text_lines bytes))))
by_format bytes true e h =
    let all = declarations (text_lines bytes) in
    subst (λ n. IsTrue (is_of_version n (declared_grammar all))) (sym e) (of_second all (all_faultless bytes h) (declared_formed bytes 2 e))
by_format bytes false e h =
    let all = declarations (text_lines bytes) in
    subst (λ n. IsTrue (is_of_version n (declared_grammar all))) (sym e) (of_first all (all_faultless bytes h) (declared_formed bytes 1 e))

pub accepted-of_version : (bytes : List ℕ) → first_fault (text_lines bytes) ≡ None → IsTrue (is_of_version (text_lines bytes).version (declared_grammar (declarations (text_lines bytes))))
accepted-of_version bytes h = by_format bytes (is_second_format (line_at (job_lines bytes) 1)) refl h

-- the declarations of a text without a fault can be built of
pub accepted-buildable : (bytes : List ℕ) → first_fault (text_lines bytes) ≡ None → are_buildable (declarations (text_lines bytes)) ≡ true
accepted-buildable bytes h = buildable (declarations (text_lines bytes)) (are_sound bytes h)

-- ---- words

all_places : (test : List ℕ → Bool) (xs : List (List ℕ)) → ((k : ℕ) → k < length xs → test (slice_index_or xs k []) ≡ true) → list_all test xs ≡ true
all_places test [] h = refl
all_places test (x ∷ xs) h = and_from (test x) (list_all test xs) (h 0 (omega arith)) (all_places test xs (λ k within. h (suc k) (omega arith)))

all_drop : (test : List ℕ → Bool) (n : ℕ) (xs : List (List ℕ)) → list_all test xs ≡ true → list_all test (drop n xs) ≡ true
all_drop test zero xs h = h
all_drop test (suc n) [] h = h
all_drop test (suc n) (x ∷ xs) h = all_drop test n xs (and_parts (test x) (list_all test xs) h).1

lines_printable : (text : TextLines) → first_fault text ≡ None → list_all (list_all is_printable_byte) text.lines ≡ true
lines_printable text h =
    all_places (list_all is_printable_byte) text.lines
    (λ k within. let at = free text (suc k) h (omega arith) (omega arith) in not-false (list_all is_printable_byte (slice_index_or text.lines k [])) at.printable)

pub accepted-printable : (bytes : List ℕ) → first_fault (text_lines bytes) ≡ None → IsTrue (list_all (list_all is_printable_byte) (text_lines bytes).words)
accepted-printable bytes h =
    let lines = job_lines bytes in
    all_drop (list_all is_printable_byte) (words_place lines + 1) (drop 1 lines) (all_drop (list_all is_printable_byte) 1 lines (lines_printable (text_lines bytes) h))

abbrev words_counted : ℕ → List Counted
words_counted count = limited count 65536 ∷ []

last_count : (text : TextLines) (line : ℕ) → first_fault text ≡ None → text.words_line ≡ Some line → line < length text.lines → length text.lines - line ≤ 65536
last_count text line h e more =
    let end = length text.lines in
    let at = free text end h (omega arith) (omega arith) in
    let none : find is_over (counts_at text end) ≡ None = map_none (λ (counted : Counted). counted.count) (find is_over (counts_at text end)) (not_some (option_map (λ (counted : Counted). counted.count) (find is_over (counts_at text end))) at.counted) in
    let of_words : find is_over (cond (is_word_line text end) (words_counted (words_up_to text end)) []) ≡ None = (none_of_both is_over (option_map_or (counts_of (above text end)) (form_at text end) []) (cond (is_word_line text end) (words_counted (words_up_to text end)) []) none).1 in
    let up_to : words_up_to text end ≡ end - line = ap (λ o. option_map_or (λ (l : ℕ). end - l) o 0) e in
    let counts : is_word_line text end ≡ true = and_from (nat_lt 0 (words_up_to text end)) (nat_le end end) (subst (λ n. nat_lt 0 n ≡ true) (sym up_to) (lt-ltb 0 (end - line) (omega arith))) (le-leb end end (omega arith)) in
    let counted : find is_over (words_counted (words_up_to text end)) ≡ None = subst (λ b. find is_over (cond b (words_counted (words_up_to text end)) []) ≡ None) counts of_words in
    let few = ltb-false 65536 (words_up_to text end) (none_passes is_over (words_counted (words_up_to text end)) 0 (limited 0 0) (omega arith) counted) in
    omega arith

either_count : (text : TextLines) (line : ℕ) → first_fault text ≡ None → text.words_line ≡ Some line → (line < length text.lines) ⊎ (length text.lines ≤ line) → length text.lines - line ≤ 65536
either_count text line h e (inl more) = last_count text line h e more
either_count text line h e (inr past) = omega arith

pub accepted-few : (bytes : List ℕ) → first_fault (text_lines bytes) ≡ None → IsTrue (nat_le (length (text_lines bytes).words) 65536)
accepted-few bytes h =
    let lines = job_lines bytes in
    let found = words_line_at lines (ended (text_lines bytes) h) in
    let few = either_count (text_lines bytes) found.0 h found.1.at (cases_lt found.0 (length lines)) in
    let counted : length (words_of lines) ≡ length lines - 1 - (found.0 - 1) = ap (λ (l : List (List ℕ)). length l) found.1.words ∙ length-drop (found.0 - 1) (drop 1 lines) ∙ ap (λ n. n - (found.0 - 1)) (length-drop 1 lines) in
    le-leb (length (words_of lines)) 65536 (omega arith)

-- ---- verdicts

same_ok : (first second : Accepted) → ◌≡◌ {A = Result Accepted TextFault} (Ok first) (Ok second) → first ≡ second
same_ok first second e = cc

abbrev verdict_of : TextLines → Option TextFault → Result Accepted TextFault
verdict_of text None = Ok (accepted_of text)
verdict_of text (Some fault) = Err fault

verdict_by : (bytes : List ℕ) (fault : Option TextFault) → first_fault (text_lines bytes) ≡ fault → ((job : Job) × IsText bytes job) ⊎ ((fault : TextFault) × IsFaultOf bytes fault)
verdict_by bytes None e =
    let job : Job = record {
      version = (text_lines bytes).version;
      grammar = declared_grammar (declarations (text_lines bytes));
      words = (text_lines bytes).words;
      of_version = accepted-of_version bytes e;
      well_formed = accepted-well_formed bytes e;
      printable_words = accepted-printable bytes e;
      few_words = accepted-few bytes e;
    } in
    inl (job, ap (verdict_of (text_lines bytes)) e)
verdict_by bytes (Some fault) e = inr (fault, ap (verdict_of (text_lines bytes)) e)

pub some_verdict : (bytes : List ℕ) → ((job : Job) × IsText bytes job) ⊎ ((fault : TextFault) × IsFaultOf bytes fault)
some_verdict bytes = verdict_by bytes (first_fault (text_lines bytes)) refl

pub not_both_verdicts : (bytes : List ℕ) (job : Job) (fault : TextFault) → IsText bytes job → IsFaultOf bytes fault → ⊥
not_both_verdicts bytes job fault accepted refused = apart (text_verdict bytes) accepted refused
  where
    apart : (verdict : Result Accepted TextFault) → verdict ≡ Ok (record { version = job.version; grammar = job.grammar; words = job.words }) → verdict ≡ Err fault → ⊥
    apart verdict e f = cc

pub one_job : (bytes : List ℕ) (job other : Job) → IsText bytes job → IsText bytes other → (job.version ≡ other.version) × (job.grammar ≡ other.grammar) × (job.words ≡ other.words)
one_job bytes job other accepted again = same (text_verdict bytes) accepted again
  where
    same : (verdict : Result Accepted TextFault) → verdict ≡ Ok (record { version = job.version; grammar = job.grammar; words = job.words }) → verdict ≡ Ok (record { version = other.version; grammar = other.grammar; words = other.words }) → (job.version ≡ other.version) × (job.grammar ≡ other.grammar) × (job.words ≡ other.words)
    same verdict e f =
        let first : Accepted = record { version = job.version; grammar = job.grammar; words = job.words } in
        let second : Accepted = record { version = other.version; grammar = other.grammar; words = other.words } in
        let both : first ≡ second = same_ok first second (sym e ∙ f) in
        (ap (λ (a : Accepted). a.version) both, ap (λ (a : Accepted). a.grammar) both, ap (λ (a : Accepted). a.words) both)

pub one_fault : (bytes : List ℕ) (fault other : TextFault) → IsFaultOf bytes fault → IsFaultOf bytes other → fault ≡ other
one_fault bytes fault other refused again = same (text_verdict bytes) refused again
  where
    same : (verdict : Result Accepted TextFault) → verdict ≡ Err fault → verdict ≡ Err other → fault ≡ other
    same verdict e f = cc

-- ---- a job that is made of a text

-- the format, the grammar and the words of a text without a fault
pub record IsMade (bytes : List ℕ) (version : ℕ) (grammar : Grammar) (words : List (List ℕ)) : Type 0 where
  pub of_version : IsTrue (is_of_version version grammar)
  pub well_formed : IsTrue (is_well_formed grammar)
  pub printable_words : IsTrue (list_all (list_all is_printable_byte) words)
  pub few_words : IsTrue (nat_le (length words) 65536)
  pub verdict : text_verdict bytes ≡ Ok (record { version = version; grammar = grammar; words = words })

pub made : (bytes : List ℕ) (version : ℕ) (grammar : Grammar) (words : List (List ℕ)) → first_fault (text_lines bytes) ≡ None → version ≡ (text_lines bytes).version → grammar ≡ declared_grammar (declarations (text_lines bytes)) → words ≡ (text_lines bytes).words
    → IsMade bytes version grammar words
made bytes version grammar words h v g w =
    let accepted : ◌≡◌ {A = Accepted} (accepted_of (text_lines bytes)) (record { version = version; grammar = grammar; words = words }) = λ i. record { version = sym v i; grammar = sym g i; words = sym w i } in
    record {
      of_version = subst (λ (n : ℕ). IsTrue (is_of_version n grammar)) (sym v) (subst (λ x. IsTrue (is_of_version (text_lines bytes).version x)) (sym g) (accepted-of_version bytes h));
      well_formed = subst (λ x. IsTrue (is_well_formed x)) (sym g) (accepted-well_formed bytes h);
      printable_words = subst (λ x. IsTrue (list_all (list_all is_printable_byte) x)) (sym w) (accepted-printable bytes h);
      few_words = subst (λ (x : List (List ℕ)). IsTrue (nat_le (length x) 65536)) (sym w) (accepted-few bytes h);
      verdict = ap (verdict_of (text_lines bytes)) h ∙ ap (λ (a : Accepted). Ok a) accepted;
    }
