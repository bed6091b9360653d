-- A text whose declarations are without a fault has none.
use Rattle.std.proofs.Common.{◌≡◌, ℕ, zero, suc, ◌+◌, ◌-◌, ◌≤◌, ◌⊎◌, inl, inr, Bool, true, false, ◌&&◌, not, ◌==◌, nat_lt, nat_le, cond, codes, Option, None, is_some, List, [], ◌∷◌, ◌++◌, length, map, take, drop, get_or, refl, sym, ◌∙◌, ap, subst, append_assoc, append-nil, length-append, arith, leb-true, sub-one}
use Rattle.std.specs.List.{list_all, list_any, find, filter_map, range_with_len}
use Rattle.std.specs.Option.{option_map, option_map_or}
use Rattle.std.proofs.lemmas.Bool.{and_parts, and_right, or_from, le-ltb}
use Rattle.std.proofs.lemmas.List.Folds.{find-append}
use Rattle.adp_model.specs.declared.fault.TextFault.{TextFault}
use Rattle.adp_model.specs.Printable.{is_printable_byte}
use Rattle.job_texts.specs.Declarations.{Declaration, Words, HeaderLine, Skipped, Says}
use Rattle.job_texts.specs.DeclaredNames.{TextLines, header_at, form_of, form_at, declarations, above, below, is_algebra_line}
use Rattle.job_texts.specs.TextFaults as faults
use Rattle.job_texts.specs.TextFaults.{holds_of_form, is_words_line_number, misnames, misnumbers, repeats, misletters, is_misplaced, is_axiom_line, uses_unknown, misfits, is_twice, Counted, limited, counts_of, counts_at, words_up_to, is_word_line, FaultKind, fault_kinds}
use Rattle.job_texts.specs.JobLines.{is_first_line}
use Rattle.job_texts.specs.JobText.{fault_at, first_fault_at, first_fault}
use Rattle.spelled_texts.proofs.HeaderOf.{IsFormat, first_line, framed, framed_text}
use Rattle.spelled_texts.proofs.Faultless.{is_over, crosses, lacks, IsFaultless, AreFaultless}

-- ---- lists

abbrev PassNone : {X : Type 0} → (X → Bool) → List X → Type 0
PassNone test [] = Unit {0}
PassNone test (x ∷ xs) = (test x ≡ false) × PassNone test xs

find_none : {X : Type 0} (test : X → Bool) (xs : List X) → PassNone test xs → find test xs ≡ None
find_none test [] h = refl
find_none test (x ∷ xs) h = rw (h.0, find_none test xs h.1) refl

kept_at : {X : Type 0} (test : X → Bool) (xs : List X) (i : ℕ) (default : X) → list_all test xs ≡ true → test default ≡ true → test (get_or xs i default) ≡ true
kept_at test [] i default h kept = kept
kept_at test (x ∷ xs) zero default h kept = (and_parts (test x) (list_all test xs) h).0
kept_at test (x ∷ xs) (suc i) default h kept = kept_at test xs i default (and_parts (test x) (list_all test xs) h).1 kept

pub forms_said : (declared : List Declaration) → filter_map form_of (map Says declared) ≡ declared
forms_said [] = refl
forms_said (declaration ∷ declared) = ap (λ (others : List Declaration). declaration ∷ others) (forms_said declared)

forms_taken : (k : ℕ) (declared : List Declaration) → filter_map form_of (take k (map Says declared)) ≡ take k declared
forms_taken zero declared = refl
forms_taken (suc k) [] = refl
forms_taken (suc k) (declaration ∷ declared) = ap (λ (others : List Declaration). declaration ∷ others) (forms_taken k declared)

forms_dropped : (k : ℕ) (declared : List Declaration) → filter_map form_of (drop k (map Says declared)) ≡ drop k declared
forms_dropped zero declared = forms_said declared
forms_dropped (suc k) [] = refl
forms_dropped (suc k) (declaration ∷ declared) = forms_dropped k declared

-- ---- what stands at a line

-- the line declares this, and no kind of fault stands at it
record SaysFaultless (all above : List Declaration) (below : List Declaration) (found : HeaderLine) : Type 0 where
  declaration : Declaration
  is : found ≡ Says declaration
  faultless : IsFaultless all above declaration below

-- the line is skipped, or declares something without a fault
abbrev IsGood : List Declaration → List Declaration → List Declaration → HeaderLine → Type 0
IsGood all above below found = (found ≡ Skipped) ⊎ SaysFaultless all above below found

good_at : (all earlier later : List Declaration) → AreFaultless all earlier later [] → (k : ℕ) → IsGood all (earlier ++ take k later) (drop (suc k) later) (get_or (map Says later) k Skipped)
good_at all earlier [] h k = inl refl
good_at all earlier (declaration ∷ later) h zero =
    let alone : IsFaultless all earlier declaration later = subst (λ (l : List Declaration). IsFaultless all earlier declaration l) (append-nil later) h.0 in
    let own : IsFaultless all (earlier ++ []) declaration later = subst (λ (l : List Declaration). IsFaultless all l declaration later) (sym (append-nil earlier)) alone in
    inr (record { declaration = declaration; is = refl; faultless = own })
good_at all earlier (declaration ∷ later) h (suc k) =
    subst (λ (l : List Declaration). IsGood all l (drop (suc k) later) (get_or (map Says later) k Skipped)) (append_assoc earlier (declaration ∷ []) (take k later))
    (good_at all (earlier ++ declaration ∷ []) later h.1 k)

module _ (version : ℕ) (format : IsFormat version) (contents : List (List ℕ)) (declared : List Declaration) (words : List (List ℕ)) (as_many : length contents ≡ length declared)
    (few : length words ≤ 65536)
    (printable : list_all (list_all is_printable_byte) (framed version contents words) ≡ true) (faultless : AreFaultless (declared ++ Words ∷ []) [] (declared ++ Words ∷ []) [])
    (some_axiom : list_any is_axiom_line (declared ++ Words ∷ []) ≡ true) (some_algebra : list_any is_algebra_line (declared ++ Words ∷ []) ≡ true)
  where
    abbrev text : TextLines
    text = framed_text version contents declared words

    abbrev all : List Declaration
    all = declared ++ Words ∷ []

    all_said : declarations text ≡ all
    all_said = forms_said all

    good_line : (line : ℕ) → IsGood all (above text line) (below text line) (header_at text line)
    good_line zero = inl refl
    good_line (suc zero) = inl refl
    good_line (suc (suc k)) =
        let above_is : above text (suc (suc k)) ≡ take k all = rw sub-one (forms_taken k all) in
        let below_is : below text (suc (suc k)) ≡ drop (suc k) all = forms_dropped (suc k) all in
        let found = header_at text (suc (suc k)) in
        subst (λ (l : List Declaration). IsGood all l (below text (suc (suc k))) found) (sym above_is)
        (subst (λ (l : List Declaration). IsGood all (take k all) l found) (sym below_is) (good_at all [] all faultless k))

    -- a test of what a line declares, which nothing without a fault passes
    at_form : (line : ℕ) (test : Declaration → Bool) → ((declaration : Declaration) → IsFaultless all (above text line) declaration (below text line) → test declaration ≡ false)
        → holds_of_form test text line ≡ false
    at_form line test none = step (good_line line)
      where
        step : IsGood all (above text line) (below text line) (header_at text line) → holds_of_form test text line ≡ false
        step (inl skipped) = rw skipped refl
        step (inr says) = rw says.is (none says.declaration says.faultless)

    has_shape : (line : ℕ) → faults.has_no_shape text line ≡ false
    has_shape line = step (good_line line)
      where
        step : IsGood all (above text line) (below text line) (header_at text line) → faults.has_no_shape text line ≡ false
        step (inl skipped) = rw skipped refl
        step (inr says) = rw says.is refl

    is_closed : (line : ℕ) → faults.has_unclosed_quote text line ≡ false
    is_closed line = step (good_line line)
      where
        step : IsGood all (above text line) (below text line) (header_at text line) → faults.has_unclosed_quote text line ≡ false
        step (inl skipped) = rw skipped refl
        step (inr says) = rw says.is refl

    has_one_axiom : (line : ℕ) → faults.has_not_one_axiom text line ≡ false
    has_one_axiom line =
        or_from _ _
        (at_form line (λ declaration. is_axiom_line declaration && list_any is_axiom_line (above text line)) (λ declaration is. is.one_axiom))
        (and_right (is_words_line_number text line) _ (ap (λ (declared : List Declaration). not (list_any is_axiom_line declared)) all_said ∙ ap not some_axiom))

    is_complete : (line : ℕ) → faults.lacks_let text line ≡ false
    is_complete line =
        or_from _ _
        (at_form line (lacks (declarations text) (below text line)) (λ declaration is. ap (λ (known : List Declaration). lacks known (below text line) declaration) all_said ∙ is.complete))
        (and_right (is_words_line_number text line) _ (ap (λ (declared : List Declaration). not (list_any is_algebra_line declared)) all_said ∙ ap not some_algebra))

    -- ---- counts

    few_at_form : (line : ℕ) → find is_over (option_map_or (counts_of (above text line)) (form_at text line) []) ≡ None
    few_at_form line = step (good_line line)
      where
        step : IsGood all (above text line) (below text line) (header_at text line) → find is_over (option_map_or (counts_of (above text line)) (form_at text line) []) ≡ None
        step (inl skipped) = rw skipped refl
        step (inr says) = rw says.is says.faultless.counted

    few_words_at : (line : ℕ) → find is_over (cond (is_word_line text line) (limited (words_up_to text line) 65536 ∷ []) []) ≡ None
    few_words_at line = step (is_word_line text line) refl
      where
        step : (b : Bool) → is_word_line text line ≡ b → find is_over (cond (is_word_line text line) (limited (words_up_to text line) 65536 ∷ []) []) ≡ None
        step false e = rw e refl
        step true e =
            let within : line ≤ length (framed version contents words) = leb-true _ _ (and_parts (nat_lt 0 (words_up_to text line)) (nat_le line (length (framed version contents words))) e).1 in
            let count : line - (length declared + 2) ≤ 65536 = omega (arith, length-append contents (codes "words" ∷ words)) in
            rw (e, le-ltb 65536 (line - (length declared + 2)) count) refl

    is_few : (line : ℕ) → faults.passes_limit text line ≡ false
    is_few line =
        let none : find is_over (counts_at text line) ≡ None =
        find-append is_over (option_map_or (counts_of (above text line)) (form_at text line) []) (cond (is_word_line text line) (limited (words_up_to text line) 65536 ∷ []) [])
        ∙ rw (few_at_form line, few_words_at line) refl in
        ap (λ (found : Option Counted). is_some (option_map (λ (counted : Counted). counted.count) found)) none

    -- ---- all kinds

    no_fault_at : (line : ℕ) → fault_at text line ≡ None
    no_fault_at line =
        let none : find (λ (kind : FaultKind). kind.stands text line) fault_kinds ≡ None =
        find_none (λ (kind : FaultKind). kind.stands text line) fault_kinds (
          and_right (line == 1) (not (is_first_line (first_line version))) (ap not format.first),
          (
            ap not (kept_at (list_all is_printable_byte) ([] ∷ framed version contents words) line [] printable refl),
            (
              has_shape line,
              (
                at_form line misnames (λ declaration is. is.named),
                (
                  at_form line misnumbers (λ declaration is. is.numbered),
                  (
                    is_closed line,
                    (
                      at_form line (repeats (above text line)) (λ declaration is. is.fresh),
                      (
                        at_form line misletters (λ declaration is. is.lettered),
                        (
                          at_form line (is_misplaced (above text line)) (λ declaration is. is.placed),
                          (
                            refl,
                            (
                              has_one_axiom line,
                              (
                                at_form line (uses_unknown (declarations text)) (λ declaration is. ap (λ (known : List Declaration). uses_unknown known declaration) all_said ∙ is.known),
                                (
                                  at_form line (misfits (declarations text)) (λ declaration is. ap (λ (known : List Declaration). misfits known declaration) all_said ∙ is.fit),
                                  (
                                    at_form line crosses (λ declaration is. is.uncrossed),
                                    (
                                      is_complete line,
                                      (
                                        is_few line,
                                        (
                                          at_form line is_twice (λ declaration is. is.once),
                                          tt,
                                        ),
                                      ),
                                    ),
                                  ),
                                ),
                              ),
                            ),
                          ),
                        ),
                      ),
                    ),
                  ),
                ),
              ),
            ),
          ),
        ) in
        ap (option_map (λ (kind : FaultKind). let fault : TextFault = record { line = line; kind = kind.number; count = kind.count text line } in fault)) none

    none_first : (lines : List ℕ) → first_fault_at text lines ≡ None
    none_first [] = refl
    none_first (line ∷ lines) = rw (no_fault_at line) (none_first lines)

    pub no_fault : first_fault text ≡ None
    no_fault = none_first (range_with_len 1 (length text.lines + 1))
