-- What each declaration of a text without a fault keeps, with the declarations above and below it.
use Rattle.std.proofs.Common.{◌≡◌, ℕ, zero, suc, ◌+◌, ◌-◌, ◌<◌, ◌≤◌, Bool, false, ◌&&◌, not, nat_lt, Some, None, List, [], ◌∷◌, ◌++◌, length, take, drop, slice_index_or, refl, ◌∙◌, ap, subst, arith, append_assoc, length-append, cond, lit<}
use Rattle.std.specs.List.{list_all, find, filter_map, range_with_len}
use Rattle.std.specs.Option.{option_map, option_map_or}
use Rattle.std.proofs.lemmas.Bool.{or_parts}
use Rattle.std.proofs.lemmas.List.{append-nil}
use Rattle.std.proofs.lemmas.List.Elements.{filter_map-append}
use Rattle.std.proofs.Math.Seq.{take-append_seam, drop-append-add, get_or-append_seam}
use Rattle.adp_model.specs.declared.fault.TextFault.{TextFault}
use Rattle.job_texts.specs.TermText.{is_among}
use Rattle.job_texts.specs.Declarations.{Declaration, HeaderLine, Skipped, Unprintable, Unclosed, Shapeless, Says}
use Rattle.job_texts.specs.DeclaredNames.{TextLines, form_of, form_at, declarations, above, below, sign_names, section_of, let_signs, is_algebra_line}
use Rattle.job_texts.specs.TextFaults.{has_unprintable_byte, has_no_words_line, has_not_one_axiom, lacks_let, has_no_name, has_no_number, has_repeated_name, has_no_letters, has_misplaced_let, has_unknown_name, has_misfit, has_crossed_run, passes_limit, misnames, misnumbers, repeats, misletters, is_misplaced, uses_unknown, misfits, Counted, counts_of, counts_at, is_word_line, words_up_to, limited, FaultKind, fault_kinds, plain_kind, has_variable_twice, is_twice}
use Rattle.job_texts.specs.JobText.{fault_at, first_fault_at, first_fault}
use Rattle.grammar_text.specs.Judged as judged
use Rattle.grammar_text.proofs.Nothing.{or_none, map_none, not_some, none_passes, none_of_both, told}

-- ---- kinds of faults at a line

-- the kinds of faults that do not stand at a line
pub record IsFreeLine (text : TextLines) (line : ℕ) : Type 0 where
  pub printable : has_unprintable_byte text line ≡ false
  pub named : has_no_name text line ≡ false
  pub numbered : has_no_number text line ≡ false
  pub fresh : has_repeated_name text line ≡ false
  pub lettered : has_no_letters text line ≡ false
  pub placed : has_misplaced_let text line ≡ false
  pub ended : has_no_words_line text line ≡ false
  pub one_axiom : has_not_one_axiom text line ≡ false
  pub known : has_unknown_name text line ≡ false
  pub fit : has_misfit text line ≡ false
  pub uncrossed : has_crossed_run text line ≡ false
  pub complete : lacks_let text line ≡ false
  pub counted : passes_limit text line ≡ false
  pub once : has_variable_twice text line ≡ false

abbrev stands_at : TextLines → ℕ → FaultKind → Bool
stands_at text line kind = kind.stands text line

abbrev any_kind : FaultKind
any_kind = plain_kind 1 has_unprintable_byte

free_line : (text : TextLines) (line : ℕ) → fault_at text line ≡ None → IsFreeLine text line
free_line text line h =
    let none : find (stands_at text line) fault_kinds ≡ None = map_none (λ (kind : FaultKind). let fault : TextFault = record { line = line; kind = kind.number; count = kind.count text line } in fault) (find (stands_at text line) fault_kinds) h in
    record {
      printable = none_passes (stands_at text line) fault_kinds 1 any_kind (lit< tt) none;
      named = none_passes (stands_at text line) fault_kinds 3 any_kind (lit< tt) none;
      numbered = none_passes (stands_at text line) fault_kinds 4 any_kind (lit< tt) none;
      fresh = none_passes (stands_at text line) fault_kinds 6 any_kind (lit< tt) none;
      lettered = none_passes (stands_at text line) fault_kinds 7 any_kind (lit< tt) none;
      placed = none_passes (stands_at text line) fault_kinds 8 any_kind (lit< tt) none;
      ended = none_passes (stands_at text line) fault_kinds 9 any_kind (lit< tt) none;
      one_axiom = none_passes (stands_at text line) fault_kinds 10 any_kind (lit< tt) none;
      known = none_passes (stands_at text line) fault_kinds 11 any_kind (lit< tt) none;
      fit = none_passes (stands_at text line) fault_kinds 12 any_kind (lit< tt) none;
      uncrossed = none_passes (stands_at text line) fault_kinds 13 any_kind (lit< tt) none;
      complete = none_passes (stands_at text line) fault_kinds 14 any_kind (lit< tt) none;
      counted = none_passes (stands_at text line) fault_kinds 15 any_kind (lit< tt) none;
      once = none_passes (stands_at text line) fault_kinds 16 any_kind (lit< tt) none;
    }

no_fault : (text : TextLines) (from n k line : ℕ) → first_fault_at text (range_with_len from n) ≡ None → k < n → from + k ≡ line → fault_at text line ≡ None
no_fault text from zero k line h within e = absurd (omega arith)
no_fault text from (suc n) zero line h within e =
    let same : from ≡ line = omega arith in
    subst (λ m. fault_at text m ≡ None) same (or_none (fault_at text from) (first_fault_at text (range_with_len (from + 1) n)) h).0
no_fault text from (suc n) (suc k) line h within e =
    no_fault text (from + 1) n k line (or_none (fault_at text from) (first_fault_at text (range_with_len (from + 1) n)) h).1 (omega arith) (omega arith)

-- in a text without a fault no line has one
pub free : (text : TextLines) (line : ℕ) → first_fault text ≡ None → 0 < line → line ≤ length text.lines + 1 → IsFreeLine text line
free text zero h from to = absurd (omega arith)
free text (suc k) h from to = free_line text (suc k) (no_fault text 1 (length text.lines + 1) k (suc k) h (omega arith) (omega arith))

-- ---- declarations, each with what is above and below it

abbrev pub Each : (List Declaration → Declaration → List Declaration → Type 0) → List Declaration → List Declaration → Type 0
Each P above [] = Unit {0}
Each P above (declaration ∷ below) = P above declaration below × Each P (above ++ declaration ∷ []) below

pub each_so : (P Q : List Declaration → Declaration → List Declaration → Type 0) → ((above : List Declaration) (declaration : Declaration) (below : List Declaration) → P above declaration below → Q above declaration below) → (above below : List Declaration) → Each P above below → Each Q above below
each_so P Q gives above [] h = tt
each_so P Q gives above (declaration ∷ below) h = (gives above declaration below h.0, each_so P Q gives (above ++ declaration ∷ []) below h.1)

abbrev said : List HeaderLine → List Declaration
said header = filter_map form_of header

-- what a line at each place of a header keeps of its declaration, the declarations keep
each_line : (P : List Declaration → Declaration → List Declaration → Type 0) (header earlier later : List HeaderLine) → earlier ++ later ≡ header
    → ((k : ℕ) (declaration : Declaration) → k < length header → form_of (slice_index_or header k Skipped) ≡ Some declaration → P (said (take k header)) declaration (said (drop (suc k) header)))
    → Each P (said earlier) (said later)
each_line P header earlier [] e at = tt
each_line P header earlier (Skipped ∷ later) e at =
    subst (λ l. Each P l (said later)) (filter_map-append form_of earlier (Skipped ∷ []) ∙ append-nil (said earlier)) (each_line P header (earlier ++ Skipped ∷ []) later (append_assoc earlier (Skipped ∷ []) later ∙ e) at)
each_line P header earlier (Unprintable ∷ later) e at =
    subst (λ l. Each P l (said later)) (filter_map-append form_of earlier (Unprintable ∷ []) ∙ append-nil (said earlier)) (each_line P header (earlier ++ Unprintable ∷ []) later (append_assoc earlier (Unprintable ∷ []) later ∙ e) at)
each_line P header earlier (Unclosed ∷ later) e at =
    subst (λ l. Each P l (said later)) (filter_map-append form_of earlier (Unclosed ∷ []) ∙ append-nil (said earlier)) (each_line P header (earlier ++ Unclosed ∷ []) later (append_assoc earlier (Unclosed ∷ []) later ∙ e) at)
each_line P header earlier (Shapeless ∷ later) e at =
    subst (λ l. Each P l (said later)) (filter_map-append form_of earlier (Shapeless ∷ []) ∙ append-nil (said earlier)) (each_line P header (earlier ++ Shapeless ∷ []) later (append_assoc earlier (Shapeless ∷ []) later ∙ e) at)
each_line P header earlier (Says declaration ∷ later) e at =
    let whole = earlier ++ Says declaration ∷ later in
    let place = length earlier in
    let here : slice_index_or header place Skipped ≡ Says declaration = subst (λ l. slice_index_or l place Skipped ≡ Says declaration) e (get_or-append_seam earlier (Says declaration) later Skipped) in
    let front : take place header ≡ earlier = subst (λ l. take place l ≡ earlier) e (take-append_seam earlier (Says declaration ∷ later)) in
    let one : place + 1 ≡ suc place = omega arith in
    let back : drop (suc place) header ≡ later = subst (λ l. drop (suc place) l ≡ later) e (subst (λ m. drop m whole ≡ later) one (drop-append-add earlier (Says declaration ∷ later) 1)) in
    let within : place < length header = subst (λ l. place < length l) e (simp length-append (omega arith)) in
    let first : P (said (take place header)) declaration (said (drop (suc place) header)) = at place declaration within (ap form_of here) in
    let others : Each P (said (earlier ++ Says declaration ∷ [])) (said later) = each_line P header (earlier ++ Says declaration ∷ []) later (append_assoc earlier (Says declaration ∷ []) later ∙ e) at in
    (subst (λ l. P (said earlier) declaration (said l)) back (subst (λ l. P (said l) declaration (said (drop (suc place) header))) front first), subst (λ l. Each P l (said later)) (filter_map-append form_of earlier (Says declaration ∷ [])) others)

-- ---- what each declaration keeps

abbrev pub is_over : Counted → Bool
is_over counted = nat_lt counted.limit counted.count

-- no kind of fault stands at this declaration, of all of a text
pub record IsFaultless (all above : List Declaration) (declaration : Declaration) (below : List Declaration) : Type 0 where
  pub named : misnames declaration ≡ false
  pub numbered : misnumbers declaration ≡ false
  pub fresh : repeats above declaration ≡ false
  pub lettered : misletters declaration ≡ false
  pub placed : is_misplaced above declaration ≡ false
  pub known : uses_unknown all declaration ≡ false
  pub fit : misfits all declaration ≡ false
  pub uncrossed : judged.has_crossed_run declaration ≡ false
  pub complete : (is_algebra_line declaration && not (list_all (is_among (let_signs (section_of below))) (sign_names all))) ≡ false
  pub counted : find is_over (counts_of above declaration) ≡ None
  pub once : is_twice declaration ≡ false

faultless_at : (text : TextLines) (line : ℕ) (declaration : Declaration) → IsFreeLine text line → form_at text line ≡ Some declaration → IsFaultless (declarations text) (above text line) declaration (below text line)
faultless_at text line declaration free e =
    let none : find is_over (counts_at text line) ≡ None = map_none (λ (counted : Counted). counted.count) (find is_over (counts_at text line)) (not_some (option_map (λ (counted : Counted). counted.count) (find is_over (counts_at text line))) free.counted) in
    let of_form : find is_over (option_map_or (counts_of (above text line)) (form_at text line) []) ≡ None = (none_of_both is_over (option_map_or (counts_of (above text line)) (form_at text line) []) (cond (is_word_line text line) (limited (words_up_to text line) 65536 ∷ []) []) none).0 in
    record {
      named = told misnames (form_at text line) declaration e free.named;
      numbered = told misnumbers (form_at text line) declaration e free.numbered;
      fresh = told (repeats (above text line)) (form_at text line) declaration e free.fresh;
      lettered = told misletters (form_at text line) declaration e free.lettered;
      placed = told (is_misplaced (above text line)) (form_at text line) declaration e free.placed;
      known = told (uses_unknown (declarations text)) (form_at text line) declaration e free.known;
      fit = told (misfits (declarations text)) (form_at text line) declaration e free.fit;
      uncrossed = told judged.has_crossed_run (form_at text line) declaration e free.uncrossed;
      once = told is_twice (form_at text line) declaration e free.once;
      complete = told (λ d. is_algebra_line d && not (list_all (is_among (let_signs (section_of (below text line)))) (sign_names (declarations text)))) (form_at text line) declaration e (or_parts _ _ free.complete).0;
      counted = subst (λ o. find is_over (option_map_or (counts_of (above text line)) o []) ≡ None) e of_form;
    }

-- the declarations of a text without a fault
pub each_faultless : (text : TextLines) → first_fault text ≡ None → length text.header ≤ length text.lines + 1 → Each (IsFaultless (declarations text)) [] (declarations text)
each_faultless text h few =
    each_line (IsFaultless (declarations text)) text.header [] text.header refl
    (λ k declaration within e.
    let line_free = free text (suc k) h (omega arith) (omega arith) in
    let place : suc k - 1 ≡ k = omega arith in
    subst (λ m. IsFaultless (declarations text) (said (take m text.header)) declaration (said (drop (suc k) text.header))) place (faultless_at text (suc k) declaration line_free e))
