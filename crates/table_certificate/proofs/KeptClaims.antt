-- What is kept of what lines say of cells, with one line more.
use Rattle.std.proofs.Common.{◌≡◌, ◌≤◌, ◌⊎◌, inl, inr, ℤ, Bool, true, false, cond, Option, Some, None, IsSome, List, [], ◌∷◌, ◌++◌, refl, sym, ap, subst, ◌∙◌, arith}
use Rattle.std.proofs.lemmas.Bool.Decides.{nat_tests}
use Rattle.std.specs.Option.{is_some}
use Rattle.adp_model.specs.declared.cell.Cell.{Cell}
use Rattle.table_certificate.specs.CertificateLines.{LineForm, CertLine, WordLine, CellLine, Formless}
use Rattle.table_certificate.specs.LocalCertificate.{same_cell, said_of}
use Rattle.table_certificate.specs.Claims.{IsKeptToo, IsShort, Tell, claimed}
use Rattle.table_certificate.specs.declared.claims.Claims.{Claims}
use Rattle.table_certificate.proofs.BlockForms.{same_cell-is}

pub same_cell-self : (a : Cell) → same_cell a a ≡ true
same_cell-self a = grind (arith, nat_tests)

pub same_or_not : (a b : Cell) → (a ≡ b) ⊎ (same_cell a b ≡ false)
same_or_not a b = by (same_cell a b) refl
  where
    by : (same : Bool) → same_cell a b ≡ same → (a ≡ b) ⊎ (same_cell a b ≡ false)
    by true e = inl (same_cell-is a b e)
    by false e = inr e

-- the first of two
abbrev or_else : Option (Option ℤ) → Option (Option ℤ) → Option (Option ℤ)
or_else None other = other
or_else (Some one) other = Some one

said_push : (lines : List LineForm) (form : LineForm) (cell : Cell)
    → said_of (lines ++ form ∷ []) cell ≡ or_else (said_of lines cell) (said_of (form ∷ []) cell)
said_push [] form cell = refl
said_push (CertLine ∷ lines) form cell = said_push lines form cell
said_push (WordLine number cells ∷ lines) form cell = said_push lines form cell
said_push (Formless ∷ lines) form cell = said_push lines form cell
said_push (CellLine other score ∷ lines) form cell = by (same_cell other cell) (said_push lines form cell)
  where
    by : (same : Bool) → said_of (lines ++ form ∷ []) cell ≡ or_else (said_of lines cell) (said_of (form ∷ []) cell)
        → cond same (Some score) (said_of (lines ++ form ∷ []) cell) ≡ or_else (cond same (Some score) (said_of lines cell)) (said_of (form ∷ []) cell)
    by true e = refl
    by false e = e

or_none : (one : Option (Option ℤ)) → or_else one None ≡ one
or_none None = refl
or_none (Some one) = refl

-- a line of another cell, or of none, adds nothing
pub said_kept : (lines : List LineForm) (form : LineForm) (cell : Cell) → said_of (form ∷ []) cell ≡ None
    → said_of (lines ++ form ∷ []) cell ≡ said_of lines cell
said_kept lines form cell none = said_push lines form cell ∙ ap (or_else (said_of lines cell)) none ∙ or_none (said_of lines cell)

pub other_cell : (other cell : Cell) (score : Option ℤ) → same_cell other cell ≡ false
    → said_of (CellLine other score ∷ []) cell ≡ None
other_cell other cell score e = rw e refl

pub same_said : (cell : Cell) (score : Option ℤ) → said_of (CellLine cell score ∷ []) cell ≡ Some score
same_said cell score = rw (same_cell-self cell) refl

-- of a cell that has a line a later one adds nothing
pub said_before : (lines : List LineForm) (form : LineForm) (cell : Cell) → IsSome (said_of lines cell)
    → said_of (lines ++ form ∷ []) cell ≡ said_of lines cell
said_before lines form cell some = said_push lines form cell ∙ by (said_of lines cell) some
  where
    by : (one : Option (Option ℤ)) → IsSome one → or_else one (said_of (form ∷ []) cell) ≡ one
    by None h = let e : false ≡ true = h in cc
    by (Some one) h = refl

-- of one that has none it is the first
pub said_first : (lines : List LineForm) (cell : Cell) (score : Option ℤ) → said_of lines cell ≡ None
    → said_of (lines ++ CellLine cell score ∷ []) cell ≡ Some score
said_first lines cell score none =
    said_push lines (CellLine cell score) cell ∙ ap (λ x. or_else x (said_of (CellLine cell score ∷ []) cell)) none ∙ same_said cell score

-- a cell whose positions are no short numbers is none whose are
pub long_apart : (long cell : Cell) → (65536 ≤ long.from) ⊎ (65536 ≤ long.to) → IsShort cell → same_cell long cell ≡ false
long_apart long cell (inl far) short = by (same_cell long cell) refl
  where
    by : (same : Bool) → same_cell long cell ≡ same → same_cell long cell ≡ false
    by false e = e
    by true e = let is : long ≡ cell = same_cell-is long cell e in
        let starts : long.from ≡ cell.from = ap (λ (x : Cell). x.from) is in absurd (omega (arith, far, starts, short.begins))
long_apart long cell (inr far) short = by (same_cell long cell) refl
  where
    by : (same : Bool) → same_cell long cell ≡ same → same_cell long cell ≡ false
    by false e = e
    by true e = let is : long ≡ cell = same_cell-is long cell e in
        let ends : long.to ≡ cell.to = ap (λ (x : Cell). x.to) is in absurd (omega (arith, far, ends, short.ends))

-- ---- one line more

-- of a cell that has been told of nothing more is kept
pub note_kept : (claims : Claims) (lines : List LineForm) (cell : Cell) (score : Option ℤ) → Tell claims lines → IsShort cell
    → IsSome (claimed claims cell) → Tell claims (lines ++ CellLine cell score ∷ [])
note_kept claims lines cell score told short some = λ other near. told other near ∙ sym (by other (same_or_not cell other))
  where
    by : (other : Cell) → (cell ≡ other) ⊎ (same_cell cell other ≡ false)
        → said_of (lines ++ CellLine cell score ∷ []) other ≡ said_of lines other
    by other (inl same) =
        said_before lines (CellLine cell score) other (subst (λ x. IsSome (said_of lines x)) same (subst (λ (x : Option (Option ℤ)). IsSome x) (told cell short) some))
    by other (inr apart) = said_kept lines (CellLine cell score) other (other_cell cell other score apart)

-- nor of a cell that no word has
pub note_long : (claims : Claims) (lines : List LineForm) (cell : Cell) (score : Option ℤ) → Tell claims lines
    → (65536 ≤ cell.from) ⊎ (65536 ≤ cell.to) → Tell claims (lines ++ CellLine cell score ∷ [])
note_long claims lines cell score told far = λ other near.
    told other near ∙ sym (said_kept lines (CellLine cell score) other (other_cell cell other score (long_apart cell other far near)))

-- of a cell of which nothing was kept it is kept now
pub note_new : (claims after : Claims) (lines : List LineForm) (cell : Cell) (score : Option ℤ) → Tell claims lines → IsShort cell
    → claimed claims cell ≡ None → IsKeptToo claims after cell score → Tell after (lines ++ CellLine cell score ∷ [])
note_new claims after lines cell score told short none kept = λ other near. by other near (same_or_not cell other)
  where
    by : (other : Cell) → IsShort other → (cell ≡ other) ⊎ (same_cell cell other ≡ false)
        → claimed after other ≡ said_of (lines ++ CellLine cell score ∷ []) other
    by other near (inl same) =
        subst (λ x. claimed after x ≡ said_of (lines ++ CellLine cell score ∷ []) x) same
        (kept.there ∙ sym (said_first lines cell score (sym (told cell short) ∙ none)))
    by other near (inr apart) =
        kept.others other near (λ same. differ (sym same))
        ∙ told other near ∙ sym (said_kept lines (CellLine cell score) other (other_cell cell other score apart))
      where
        differ : cell ≡ other → ⊥
        differ same =
            let one : same_cell cell cell ≡ true = same_cell-self cell in
            let two : same_cell cell cell ≡ false = subst (λ x. same_cell cell x ≡ false) (sym same) apart in
            let h : true ≡ false = sym one ∙ two in
            cc

pub none_claimed : {X : Type 0} (said : Option X) → false ≡ is_some said → said ≡ None
none_claimed None e = refl
none_claimed (Some x) e = cc
