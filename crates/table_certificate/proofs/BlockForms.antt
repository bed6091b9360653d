-- Where the lines of blocks stand among all lines.
use Rattle.std.proofs.Common.{◌≡◌, ℕ, zero, suc, ◌<◌, ◌==◌, ◌&&◌, Bool, true, false, ℤ, Option, Some, List, [], ◌∷◌, length, take, cond, slice_get, slice_index_or, refl, ap, arith}
use Rattle.std.proofs.lemmas.Bool.Decides.{nat_tests}
use Rattle.adp_model.specs.declared.cell.Cell.{Cell}
use Rattle.table_certificate.specs.CertificateLines.{LineForm, CertLine, WordLine, CellLine, Formless}
use Rattle.table_certificate.specs.LocalCertificate.{up_to_word_line, head_count, blocks_of, same_cell, said_of}

same_parts : (a b c d e f : ℕ) → (a == b) && (c == d) && (e == f) ≡ true → (a ≡ b) × (c ≡ d) × (e ≡ f)
same_parts a b c d e f h = grind (arith, nat_tests)

pub same_cell-is : (a b : Cell) → same_cell a b ≡ true → a ≡ b
same_cell-is a b e =
    let parts = same_parts a.rule b.rule a.from b.from a.to b.to e in
    λ i. record { rule = parts.0 i; from = parts.1 i; to = parts.2 i }

-- the line of this form stands at a place of the list
abbrev pub StandsIn : List LineForm → LineForm → Type 0
StandsIn lines form = (place : ℕ) × (slice_get lines place ≡ Some form)

-- and has so many heads of blocks up to it
abbrev pub StandsBehind : List LineForm → ℕ → LineForm → Type 0
StandsBehind forms heads form =
    (place : ℕ) × (slice_get forms place ≡ Some form) × (head_count (take (suc place) forms) ≡ heads)

later : (first : LineForm) (lines : List LineForm) (form : LineForm) → StandsIn lines form
    → StandsIn (first ∷ lines) form
later first lines form found = (suc found.0, found.1)

-- what is said of a cell, a line says
pub said_by_line : (lines : List LineForm) (cell : Cell) (score : Option ℤ) → said_of lines cell ≡ Some score
    → StandsIn lines (CellLine cell score)
said_by_line [] cell score e = cc
said_by_line (CertLine ∷ lines) cell score e = later CertLine lines (CellLine cell score) (said_by_line lines cell score e)
said_by_line (WordLine number cells ∷ lines) cell score e = later (WordLine number cells) lines (CellLine cell score) (said_by_line lines cell score e)
said_by_line (Formless ∷ lines) cell score e = later Formless lines (CellLine cell score) (said_by_line lines cell score e)
said_by_line (CellLine other said ∷ lines) cell score e = by (same_cell other cell) refl e (said_by_line lines cell score)
  where
    by : (same : Bool) → same_cell other cell ≡ same → cond same (Some said) (said_of lines cell) ≡ Some score
        → (said_of lines cell ≡ Some score → StandsIn lines (CellLine cell score))
        → StandsIn (CellLine other said ∷ lines) (CellLine cell score)
    by true same here step =
        let cells : other ≡ cell = same_cell-is other cell same in
        let scores : said ≡ score = cc in
        (zero, λ i. Some (CellLine (cells i) (scores i)))
    by false same there step = later (CellLine other said) lines (CellLine cell score) (step there)

-- a line before the next head stands behind no head
before_head : (forms : List LineForm) (place : ℕ) (form : LineForm)
    → slice_get (up_to_word_line forms) place ≡ Some form
    → (slice_get forms place ≡ Some form) × (head_count (take (suc place) forms) ≡ 0)
before_head [] place form e = cc
before_head (WordLine number cells ∷ forms) place form e = cc
before_head (CertLine ∷ forms) zero form e = (e, refl)
before_head (CertLine ∷ forms) (suc place) form e = before_head forms place form e
before_head (CellLine cell score ∷ forms) zero form e = (e, refl)
before_head (CellLine cell score ∷ forms) (suc place) form e = before_head forms place form e
before_head (Formless ∷ forms) zero form e = (e, refl)
before_head (Formless ∷ forms) (suc place) form e = before_head forms place form e

-- a line of a block stands behind the heads up to that of the block
pub in_block : (forms : List LineForm) (number place : ℕ) (form : LineForm)
    → slice_get (slice_index_or (blocks_of forms) number []) place ≡ Some form → StandsBehind forms (suc number) form
in_block [] number place form e = cc
in_block (WordLine said cells ∷ forms) zero place form e =
    let found = before_head forms place form e in
    (suc place, found.0, ap suc found.1)
in_block (WordLine said cells ∷ forms) (suc number) place form e =
    let found = in_block forms number place form e in
    (suc found.0, found.1, ap suc found.2)
in_block (CertLine ∷ forms) number place form e =
    let found = in_block forms number place form e in
    (suc found.0, found.1, found.2)
in_block (CellLine cell score ∷ forms) number place form e =
    let found = in_block forms number place form e in
    (suc found.0, found.1, found.2)
in_block (Formless ∷ forms) number place form e =
    let found = in_block forms number place form e in
    (suc found.0, found.1, found.2)

-- a line that stands in the list stands before its end
pub stands_before_end : (lines : List LineForm) (place : ℕ) (form : LineForm) → slice_get lines place ≡ Some form
    → place < length lines
stands_before_end [] place form e = cc
stands_before_end (first ∷ lines) zero form e = omega arith
stands_before_end (first ∷ lines) (suc place) form e = let h : place < length lines = stands_before_end lines place form e in omega arith
