-- No line of a right certificate is `job`, and an LF ends each.
use Rattle.std.proofs.Common.{◌≡◌, ℕ, zero, suc, ◌+◌, ◌<◌, ◌≤◌, ◌⊎◌, inl, inr, Some, None, List, [], ◌∷◌, ◌++◌, codes, length, map, take, drop, slice_get, slice_index_or, append_assoc, take-append-drop, refl, sym, ap, subst, ◌∙◌, arith, Contains, length-append, le_refl}
use Rattle.std.specs.Char.{is_newline}
use Rattle.std.specs.List.{count_by}
use Rattle.std.specs.Str.Lines.{lines, lines_of_parts, strip_carriage_return}
use Rattle.std.proofs.lemmas.List.{get_or-map, length-map}
use Rattle.std.proofs.lemmas.List.Elements.{Contains-append_left, Contains-append_right, Contains-append_cases}
use Rattle.adp_model.specs.Ascii.{line_feed}
use Rattle.adp_model.specs.declared.grammar.Grammar.{Grammar}
use Rattle.adp_model.specs.PosedProblem.{PosedProblem}
use Rattle.adp_model.specs.Report.{line}
use Rattle.table_certificate.specs.CertificateLines.{LineForm, Formless, form_of, forms_among, forms_of}
use Rattle.table_certificate.specs.JobSplit.{AreEndedLines, IsSplitAtJob}
use Rattle.table_certificate.specs.LocalCertificate.{IsLocallyRight, IsRight, IsRightInBlock, block_lines, block_number, last_cell}
use Rattle.table_certificate.proofs.SplitLines.{HasEnd, IsWhole, counted_whole, has_end, one_part}
use Rattle.table_certificate.proofs.PlainLines.{line_form}

-- ---- lines without form

some_injective : (a b : LineForm) → Some a ≡ Some b → a ≡ b
some_injective a b e = cc

formless_is_wrong : (problems : List PosedProblem) (forms : List LineForm) (place : ℕ)
    → slice_get forms place ≡ Some Formless → IsRight problems forms place → ⊥
formless_is_wrong problems forms zero is right = cc
formless_is_wrong problems forms (suc place) is (p, form, block, here, right) =
    subst (λ f. IsRightInBlock p (block_lines forms (block_number forms (suc place))) (block_number forms (suc place)) (last_cell None (take (suc place) forms)) f)
    (some_injective form Formless (sym here ∙ is)) right

found_at : (forms : List LineForm) (place : ℕ) (form : LineForm) → place < length forms
    → slice_get forms place ≡ Some (slice_index_or forms place form)
found_at [] place form low = absurd (omega arith)
found_at (first ∷ forms) zero form low = refl
found_at (first ∷ forms) (suc place) form low = found_at forms place form (omega arith)

none_formless : (problems : List PosedProblem) (forms : List LineForm) → IsLocallyRight problems forms
    → Contains forms Formless → ⊥
none_formless problems forms local (place, low, is) =
    formless_is_wrong problems forms place (found_at forms place Formless low ∙ ap (λ form. Some form) is) (local.right place low)

-- ---- no line is `job`

Contains-map : (f : List ℕ → LineForm) (items : List (List ℕ)) (item : List ℕ) → Contains items item
    → Contains (map f items) (f item)
Contains-map f items item (place, low, is) =
    let long : length (map f items) ≡ length items = length-map items f in
    (place, omega arith, get_or-map f items place item (f item) low ∙ ap f is)

job_is_formless : (grammar : Grammar) (text : List ℕ) → Contains (lines text) (codes "job")
    → Contains (forms_of grammar text) Formless
job_is_formless grammar text found =
    by (Contains-append_cases (take ended all) (drop ended all) (codes "job")
    (subst (λ (x : List (List ℕ)). Contains x (codes "job")) (sym (take-append-drop ended all)) found))
  where
    ended : ℕ
    ended = count_by is_newline text

    all : List (List ℕ)
    all = lines text

    by : Contains (take ended all) (codes "job") ⊎ Contains (drop ended all) (codes "job")
        → Contains (forms_of grammar text) Formless
    by (inl here) =
        Contains-append_left (map (form_of grammar) (take ended all)) (map (λ line. Formless) (drop ended all)) Formless (Contains-map (form_of grammar) (take ended all) (codes "job") here)
    by (inr here) =
        Contains-append_right (map (form_of grammar) (take ended all)) (map (λ line. Formless) (drop ended all)) Formless (Contains-map (λ line. Formless) (drop ended all) (codes "job") here)

-- ---- each line is ended

more_lines : (line behind : List ℕ) → AreEndedLines behind → AreEndedLines (line ++ line_feed ∷ behind)
more_lines line behind (inl none) = inr (line, ap (λ (x : List ℕ). line ++ line_feed ∷ x) none)
more_lines line behind (inr (earlier, is)) =
    inr (line ++ line_feed ∷ earlier, ap (λ (x : List ℕ). line ++ line_feed ∷ x) is ∙ sym (append_assoc line (line_feed ∷ earlier) (line_feed ∷ [])))

-- a last line that no LF ends has no form
unended_form : (grammar : Grammar) (text : List ℕ) → 0 < length text → IsWhole text → forms_of grammar text ≡ Formless ∷ []
unended_form grammar text some whole =
    ap (λ n. forms_among grammar n (lines text)) (counted_whole text (length text) (sym whole.at) refl)
    ∙ ap (forms_among grammar 0) (ap lines_of_parts whole.alone ∙ one_part text some)

ended_or_formless : (grammar : Grammar) (bound : ℕ) (text : List ℕ) → length text ≤ bound
    → AreEndedLines text ⊎ Contains (forms_of grammar text) Formless
ended_or_formless grammar bound [] low = inl (inl refl)
ended_or_formless grammar zero (byte ∷ text) low = absurd (omega arith)
ended_or_formless grammar (suc bound) (byte ∷ text) low =
    by (has_end (byte ∷ text)) (λ behind few. ended_or_formless grammar bound behind few)
  where
    whole : List ℕ
    whole = byte ∷ text

    behind_line : (end : HasEnd whole) → AreEndedLines end.behind ⊎ Contains (forms_of grammar end.behind) Formless
        → AreEndedLines whole ⊎ Contains (forms_of grammar whole) Formless
    behind_line end (inl ended) = inl (subst AreEndedLines (sym end.is) (more_lines end.line end.behind ended))
    behind_line end (inr found) =
        let first : LineForm = form_of grammar (strip_carriage_return end.line) in
        let forms : forms_of grammar whole ≡ first ∷ forms_of grammar end.behind =
        ap (forms_of grammar) end.is ∙ line_form grammar end.line end.behind end.alone in
        inr (subst (λ x. Contains x Formless) (sym forms) (Contains-append_right (first ∷ []) (forms_of grammar end.behind) Formless found))

    by : IsWhole whole ⊎ HasEnd whole
        → ((behind : List ℕ) → length behind ≤ bound → AreEndedLines behind ⊎ Contains (forms_of grammar behind) Formless)
        → AreEndedLines whole ⊎ Contains (forms_of grammar whole) Formless
    by (inl alone) further =
        inr (subst (λ x. Contains x Formless) (sym (unended_form grammar whole (omega arith) alone)) (0, omega arith, refl))
    by (inr end) further =
        let long : length whole ≡ length end.line + suc (length end.behind) = ap length end.is ∙ length-append end.line (line_feed ∷ end.behind) in
        behind_line end (further end.behind (omega arith))

-- behind a right certificate the line `job` is the first of its kind
pub parts_at_job : (problems : List PosedProblem) (grammar : Grammar) (text input : List ℕ)
    → IsLocallyRight problems (forms_of grammar text) → IsSplitAtJob (text ++ line (codes "job") ++ input) text input
parts_at_job problems grammar text input local = record {
  ended = line (codes "job");
  parts = refl;
  whole = by (ended_or_formless grammar (length text) text (le_refl (length text)));
  is_job = inl refl;
  first = λ found. none_formless problems (forms_of grammar text) local (job_is_formless grammar text found);
}
  where
    by : AreEndedLines text ⊎ Contains (forms_of grammar text) Formless → AreEndedLines text
    by (inl ended) = ended
    by (inr found) = absurd (none_formless problems (forms_of grammar text) local found)
