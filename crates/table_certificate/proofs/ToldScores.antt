-- What a locally right certificate tells of each word is the best score over all candidates.
use Rattle.std.specs.Prelude.{⊤}
use Rattle.std.proofs.Common.{◌≡◌, ℕ, zero, suc, ◌-◌, ◌<◌, ◌≤◌, ◌⊎◌, inl, inr, ◌↔◌, ℤ, Option, Some, None, IfSome, IsTrue, List, [], ◌∷◌, All, length, take, slice_get, slice_index, slice_index_or, refl, sym, subst, ◌∙◌, arith}
use Rattle.adp_model.specs.declared.cell.Answer.{Answer}
use Rattle.adp_model.specs.declared.cell.Cell.{Cell}
use Rattle.adp_model.specs.PosedProblem.{PosedProblem, axiom_cell}
use Rattle.adp_model.specs.Parts.{algebra_of}
use Rattle.adp_model.specs.Tree.{Tree}
use Rattle.adp_model.specs.Derivation.{Derives}
use Rattle.adp_model.specs.Scores.{score_of, IsBetter}
use Rattle.adp_model.specs.Answers.{IsAnswer}
use Rattle.adp_model.specs.Preference.{IsPreferred}
use Rattle.adp_model.specs.Bellman.{Bellman}
use Rattle.adp_model.specs.Checks.{IsChecked}
use Rattle.adp_model.specs.Demand.{IsDemandedChild}
use Rattle.adp_model.specs.Heights.{height_of}
use Rattle.adp_model.specs.ProblemFields.{IsAdmissible}
use Rattle.adp_model.specs.Sizes.{IsWithinSizes, IsBetween}
use Rattle.adp_model.specs.WellFormed.{is_well_formed}
use Rattle.adp_model.specs.declared.grammar.Grammar.{Grammar}
use Rattle.table_certificate.specs.CertificateLines.{LineForm, CertLine, CellLine}
use Rattle.table_certificate.specs.LocalCertificate.{blocks_of, block_number, block_lines, last_cell, problem_of, said_of, IsRightCellLine, IsRightInBlock, IsRight, IsLocallyRight, IsTold, AreTold}
use Rattle.table_certificate.specs.BestScores.{IsBestScore, AreBestScores}
use Rattle.table_certificate.proofs.BlockForms.{said_by_line, in_block, stands_before_end}
use Rattle.table_certificate.proofs.RightScores.{IsAnswerScore, right_scores, first_place, next_place}

some_injective : {X : Type 0} (a b : X) → Some a ≡ Some b → a ≡ b
some_injective a b e = cc

not_some : {X : Type 0} (a : X) → None ≡ Some a → ⊥
not_some a e = cc

not_cert : (said : Option LineForm) (cell : Cell) (score : Option ℤ) → said ≡ Some CertLine
    → said ≡ Some (CellLine cell score) → ⊥
not_cert said cell score e h = cc

one_less : (n : ℕ) → suc n - 1 ≡ n
one_less n = omega arith

none_less : (n : ℕ) → n - 0 ≡ n
none_less n = omega arith

le_or_not : (a b : ℕ) → (a ≤ b) ⊎ (a ≤ b → ⊥)
le_or_not a b = grind arith

-- the laws that this rests on
pub record AreLaws : Type 0 where
  pub bellman : (p : PosedProblem) → IsAdmissible p → Bellman p
  pub falls : (p : PosedProblem) (least : List ℕ) (greatest : List (Option ℕ)) (ranks : List ℕ)
      → IsChecked p.grammar p.algebra least greatest ranks → (cell child : Cell) → IsDemandedChild p cell child
      → height_of p ranks child < height_of p ranks cell
  pub unique : (p : PosedProblem) (cell : Cell) (a b : Answer) → IsTrue (is_well_formed p.grammar) → IsAnswer p cell a
      → IsAnswer p cell b → a ≡ b
  pub best : (p : PosedProblem) (cell : Cell) (t u : Tree) → IsPreferred p cell t → Derives p cell u
      → IsBetter (algebra_of p).goal (score_of p u) (score_of p t) → ⊥
  pub sizes : (grammar : Grammar) (algebra : ℕ) (least : List ℕ) (greatest : List (Option ℕ)) (ranks : List ℕ)
      → IsChecked grammar algebra least greatest ranks → (rule len : ℕ) → rule < length grammar.rules
      → IsWithinSizes grammar rule len ↔ IsBetween least greatest rule len
  pub axiom_known : (grammar : Grammar) → IsTrue (is_well_formed grammar) → grammar.«axiom» < length grammar.rules
  pub within : (p : PosedProblem) (least : List ℕ) (greatest : List (Option ℕ)) (ranks : List ℕ)
      → IsChecked p.grammar p.algebra least greatest ranks → (cell : Cell) (tree : Tree) → Derives p cell tree
      → IsWithinSizes p.grammar cell.rule (cell.to - cell.from)

-- ---- the lines of a block are right

-- a line that is right in its block is right in the block of this number, if that is the block's
moved : (problems : List PosedProblem) (forms : List LineForm) (number block : ℕ) (p q : PosedProblem) (cell : Cell) (score : Option ℤ) (form : LineForm) (earlier : Option Cell)
    → block ≡ suc number → slice_get problems number ≡ Some p → problem_of problems block ≡ Some q
    → form ≡ CellLine cell score → IsRightInBlock q (block_lines forms block) block earlier form
    → IsRightCellLine p (slice_index_or (blocks_of forms) number []) earlier cell score
moved problems forms number block p q cell score form earlier counted belongs owned formed line =
    let owned' : slice_get problems number ≡ Some q = subst (λ n. problem_of problems n ≡ Some q) counted owned in
    let same : q ≡ p = some_injective q p (sym owned' ∙ belongs) in
    let line' = subst (λ f. IsRightInBlock q (block_lines forms block) block earlier f) formed line in
    let there = subst (λ n. IsRightCellLine q (block_lines forms n) earlier cell score) counted line' in
    let place : suc number - 1 ≡ number = one_less number in
    let here = subst (λ n. IsRightCellLine q (slice_index_or (blocks_of forms) n []) earlier cell score) place there in
    subst (λ x. IsRightCellLine x (slice_index_or (blocks_of forms) number []) earlier cell score) same here

right_line : (problems : List PosedProblem) (forms : List LineForm) (number : ℕ) (p : PosedProblem) (cell : Cell) (score : Option ℤ) (place : ℕ)
    → slice_get problems number ≡ Some p → slice_get forms place ≡ Some (CellLine cell score)
    → block_number forms place ≡ suc number → IsRight problems forms place
    → (earlier : Option Cell) × IsRightCellLine p (slice_index_or (blocks_of forms) number []) earlier cell score
right_line problems forms number p cell score zero belongs stands counted right = absurd (not_cert (slice_get forms 0) cell score right stands)
right_line problems forms number p cell score (suc place) belongs stands counted right =
    let formed : right.1 ≡ CellLine cell score = some_injective right.1 (CellLine cell score) (sym right.3 ∙ stands) in (
      last_cell None (take (suc place) forms),
      moved problems forms number (block_number forms (suc place)) p right.0 cell score right.1 (last_cell None (take
          (suc place) forms)) counted belongs right.2 formed right.4,
    )

-- what a block says of a cell it says rightly
right_block : (problems : List PosedProblem) (forms : List LineForm) → IsLocallyRight problems forms
    → (number : ℕ) (p : PosedProblem) → slice_get problems number ≡ Some p → (cell : Cell) (score : Option ℤ)
    → said_of (slice_index_or (blocks_of forms) number []) cell ≡ Some score
    → (earlier : Option Cell) × IsRightCellLine p (slice_index_or (blocks_of forms) number []) earlier cell score
right_block problems forms local number p belongs cell score says =
    let stands = said_by_line (slice_index_or (blocks_of forms) number []) cell score says in
    let found = in_block forms number stands.0 (CellLine cell score) stands.1 in
    right_line problems forms number p cell score found.0 belongs found.1 found.2 (local.right found.0 (stands_before_end forms found.0 (CellLine cell score) found.1))

-- ---- what a block tells

best_of_answer : AreLaws → (p : PosedProblem) (cell : Cell) (score : Option ℤ) → IsAnswerScore p cell score
    → IsBestScore p cell score
best_of_answer laws p cell None none = none
best_of_answer laws p cell (Some score) found =
    let tree : Tree = found.1.0 in
    let same : score ≡ score_of p tree = found.1.2 in (
      (tree, found.1.1.derived, same),
      λ other derived better. laws.best p cell tree other found.1.1 derived (subst (λ x. IsBetter (algebra_of p).goal (score_of p other) x) same better),
    )

between_or_not : (low len : ℕ) (high : Option ℕ)
    → ((low ≤ len) × IfSome high (λ most. len ≤ most)) ⊎ ((low ≤ len) × IfSome high (λ most. len ≤ most) → ⊥)
between_or_not low len None = by (le_or_not low len)
  where
    by : (low ≤ len) ⊎ (low ≤ len → ⊥) → ((low ≤ len) × ⊤) ⊎ ((low ≤ len) × ⊤ → ⊥)
    by (inl h) = inl (h, tt)
    by (inr h) = inr (λ k. h k.0)
between_or_not low len (Some most) = by (le_or_not low len) (le_or_not len most)
  where
    by : (low ≤ len) ⊎ (low ≤ len → ⊥) → (len ≤ most) ⊎ (len ≤ most → ⊥)
        → ((low ≤ len) × (len ≤ most)) ⊎ ((low ≤ len) × (len ≤ most) → ⊥)
    by (inl h) (inl k) = inl (h, k)
    by (inl h) (inr k) = inr (λ both. k both.1)
    by (inr h) other = inr (λ both. h both.0)

told_best : AreLaws → (p : PosedProblem) → IsAdmissible p → (lines : List LineForm)
    → ((cell : Cell) (score : Option ℤ) → said_of lines cell ≡ Some score → (earlier : Option Cell) × IsRightCellLine p lines earlier cell score)
    → (value : Option ℤ) → IsTold p lines value → IsBestScore p (axiom_cell p) value
told_best laws p admissible lines right value told = by (between_or_not (slice_index admissible.least p.grammar.«axiom») (length p.word) (slice_index_or admissible.greatest p.grammar.«axiom» None))
  where
    sizes : IsWithinSizes p.grammar p.grammar.«axiom» (length p.word) ↔ IsBetween admissible.least admissible.greatest p.grammar.«axiom» (length p.word)
    sizes = laws.sizes p.grammar p.algebra admissible.least admissible.greatest admissible.ranks admissible.checked p.grammar.«axiom» (length p.word)
        (laws.axiom_known p.grammar admissible.checked.well_formed)

    best : IsAnswerScore p (axiom_cell p) value → IsBestScore p (axiom_cell p) value
    best = best_of_answer laws p (axiom_cell p) value

    -- no tree of a length outside the axiom's sizes is derived
    none : (IsWithinSizes p.grammar p.grammar.«axiom» (length p.word) → ⊥) → (tree : Tree)
        → Derives p (axiom_cell p) tree → ⊥
    none outside tree derived =
        let whole : length p.word - 0 ≡ length p.word = none_less (length p.word) in
        outside (subst (λ n. IsWithinSizes p.grammar p.grammar.«axiom» n) whole (laws.within p admissible.least admissible.greatest admissible.ranks admissible.checked (axiom_cell p) tree derived))

    by : IsBetween admissible.least admissible.greatest p.grammar.«axiom» (length p.word) ⊎ (IsBetween admissible.least admissible.greatest p.grammar.«axiom» (length p.word) → ⊥)
        → IsBestScore p (axiom_cell p) value
    by (inl between) =
        best (right_scores p (height_of p admissible.ranks) (laws.bellman p admissible)
        (laws.falls p admissible.least admissible.greatest admissible.ranks admissible.checked)
        (λ cell a b. laws.unique p cell a b admissible.checked.well_formed) lines right (axiom_cell p) value (told.said (sizes.1 between)))
    by (inr outside) =
        let without = λ (within : IsWithinSizes p.grammar p.grammar.«axiom» (length p.word)). outside (sizes.0 within) in
        subst (IsBestScore p (axiom_cell p)) (sym (told.outside without)) (none without)

-- ---- what all blocks tell

all_told : AreLaws → (problems : List PosedProblem) (blocks : List (List LineForm)) (values : List (Option ℤ))
    → ((number : ℕ) (p : PosedProblem) → slice_get problems number ≡ Some p → IsAdmissible p)
    → ((number : ℕ) (p : PosedProblem) → slice_get problems number ≡ Some p → (cell : Cell) (score : Option ℤ) → said_of (slice_index_or blocks number []) cell ≡ Some score →
    (earlier : Option Cell) × IsRightCellLine p (slice_index_or blocks number []) earlier cell score)
    → AreTold problems blocks values → AreBestScores problems values
all_told laws [] blocks values admissible right told = told
all_told laws (p ∷ problems) [] values admissible right told = absurd told
all_told laws (p ∷ problems) (lines ∷ blocks) [] admissible right told = absurd told
all_told laws (p ∷ problems) (lines ∷ blocks) (value ∷ values) admissible right told = (
  told_best laws p (admissible zero p refl) lines (right zero p refl) value told.0,
  all_told laws problems blocks values (λ number. admissible (suc number)) (λ number. right (suc number)) told.1,
)

pub admissible_at : (problems : List PosedProblem) → All IsAdmissible problems → (number : ℕ) (p : PosedProblem)
    → slice_get problems number ≡ Some p → IsAdmissible p
admissible_at [] all number p e = absurd (not_some p e)
admissible_at (first ∷ problems) all zero p e = subst IsAdmissible (some_injective first p e) (all zero first (first_place (length problems)))
admissible_at (first ∷ problems) all (suc number) p e = admissible_at problems (λ k d low. all (suc k) d (next_place k (length problems) low)) number p e

pub told_scores_are_best : AreLaws → (problems : List PosedProblem) (forms : List LineForm) (values : List (Option ℤ))
    → All IsAdmissible problems → IsLocallyRight problems forms → AreTold problems (blocks_of forms) values
    → AreBestScores problems values
told_scores_are_best laws problems forms values all local told =
    all_told laws problems (blocks_of forms) values (admissible_at problems all) (right_block problems forms local) told
