-- The lines of a block among all lines of a certificate.
use Rattle.std.proofs.Common.{◌≡◌, ℕ, zero, suc, ◌+◌, ◌-◌, ◌<◌, ◌≤◌, Option, Some, None, List, [], ◌∷◌, ◌++◌, length, take, slice_get, slice_index_or, refl, sym, ap, subst, ◌∙◌, arith}
use Rattle.std.proofs.lemmas.List.{take-append-le}
use Rattle.adp_model.specs.declared.cell.Cell.{Cell}
use Rattle.adp_model.specs.PosedProblem.{PosedProblem}
use Rattle.table_certificate.specs.CertificateLines.{LineForm, CertLine, WordLine, CellLine, Formless}
use Rattle.table_certificate.specs.LocalCertificate.{up_to_word_line, blocks_of, head_count, block_number, block_lines, last_cell, problem_of, IsRight, IsRightInBlock}
use Rattle.table_certificate.proofs.WrittenForms.{take_past, get_past, head_count-append, block_of_head, last_cell-append}

some_form : (a b : LineForm) → Some a ≡ Some b → a ≡ b
some_form a b e = cc

some_problem : (a b : PosedProblem) → Some a ≡ Some b → a ≡ b
some_problem a b e = cc

-- the line at this place stands in this block of a problem, behind an earlier cell
pub record IsLineAt (problems : List PosedProblem) (forms : List LineForm) (place : ℕ) (p : PosedProblem) (lines : List LineForm)
    (block : ℕ) (earlier : Option Cell) (form : LineForm) : Type 0 where
  pub heads : block_number forms place ≡ block
  pub owner : problem_of problems block ≡ Some p
  pub lines_are : block_lines forms block ≡ lines
  pub before : last_cell None (take place forms) ≡ earlier
  pub stands : slice_get forms place ≡ Some form

module _ (problems : List PosedProblem) (forms : List LineForm) (q : ℕ) (p : PosedProblem) (lines : List LineForm)
    (block : ℕ) (earlier : Option Cell) (form : LineForm)
    (line : IsLineAt problems forms (suc q) p lines block earlier form) where
  pub right_at : IsRightInBlock p lines block earlier form → IsRight problems forms (suc q)
  right_at right =
      let here = subst (λ x. IsRightInBlock p x block earlier form) (sym line.lines_are) right in
      let behind = subst (λ e. IsRightInBlock p (block_lines forms block) block e form) (sym line.before) here in (
        p,
        form,
        ap (problem_of problems) line.heads ∙ line.owner,
        line.stands,
        subst (λ n. IsRightInBlock p (block_lines forms n) n (last_cell None (take (suc q) forms)) form) (sym line.heads) behind,
      )

  pub at_right : IsRight problems forms (suc q) → IsRightInBlock p lines block earlier form
  at_right (other, said, owned, stands, right) =
      let same : other ≡ p = some_problem other p (sym owned ∙ ap (problem_of problems) line.heads ∙ line.owner) in
      let formed : said ≡ form = some_form said form (sym stands ∙ line.stands) in
      let here = subst (λ n. IsRightInBlock other (block_lines forms n) n (last_cell None (take (suc q) forms)) said) line.heads right in
      let behind = subst (λ e. IsRightInBlock other (block_lines forms block) block e said) line.before here in
      let in_lines = subst (λ x. IsRightInBlock other x block earlier said) line.lines_are behind in
      let owner = subst (λ x. IsRightInBlock x lines block earlier said) same in_lines in
      subst (λ x. IsRightInBlock p lines block earlier x) formed owner

-- ---- a block behind other lines

tail_same : (x : LineForm) (a b : List LineForm) → x ∷ a ≡ x ∷ b → a ≡ b
tail_same x a b e = cc

none_before : (lines others : List LineForm) → up_to_word_line (lines ++ others) ≡ lines → (k : ℕ) → k ≤ length lines
    → head_count (take k (lines ++ others)) ≡ 0
none_before [] others headless zero low = refl
none_before [] others headless (suc k) low = absurd (omega (arith, low))
none_before (form ∷ lines) others headless zero low = refl
none_before (WordLine number cells ∷ lines) others headless (suc k) low = cc
none_before (CertLine ∷ lines) others headless (suc k) low = none_before lines others (tail_same CertLine _ _ headless) k (omega (arith, low))
none_before (CellLine cell score ∷ lines) others headless (suc k) low = none_before lines others (tail_same (CellLine cell score) _ _ headless) k (omega (arith, low))
none_before (Formless ∷ lines) others headless (suc k) low = none_before lines others (tail_same Formless _ _ headless) k (omega (arith, low))

get_in : (xs ys : List LineForm) (k : ℕ) (form : LineForm) → slice_get xs k ≡ Some form → slice_get (xs ++ ys) k ≡ Some form
get_in [] ys k form e = cc
get_in (x ∷ xs) ys zero form e = e
get_in (x ∷ xs) ys (suc k) form e = get_in xs ys k form e

one_less : (n : ℕ) → suc n - 1 ≡ n
one_less n = omega arith

suc_past : (n k : ℕ) → suc (n + k) ≡ n + suc k
suc_past n k = omega arith

plus_heads : (a b : ℕ) → b ≡ 0 → a + suc b ≡ suc a
plus_heads a b h = omega arith

module _ (problems : List PosedProblem) (passed lines others : List LineForm) (number cells j : ℕ) (p : PosedProblem)
    (headless : up_to_word_line (lines ++ others) ≡ lines) (counted : head_count passed ≡ j)
    (owner : slice_get problems j ≡ Some p) where
  abbrev block_forms : List LineForm
  block_forms = WordLine number cells ∷ (lines ++ others)

  abbrev all_forms : List LineForm
  all_forms = passed ++ block_forms

  heads_here : (k : ℕ) → k ≤ length lines → block_number all_forms (length passed + k) ≡ suc j
  heads_here k low =
      ap (λ n. head_count (take n all_forms)) (suc_past (length passed) k)
      ∙ ap head_count (take_past passed block_forms (suc k))
      ∙ head_count-append passed (take (suc k) block_forms)
      ∙ plus_heads (head_count passed) (head_count (take k (lines ++ others))) (none_before lines others headless k low)
      ∙ ap suc counted

  lines_here : block_lines all_forms (suc j) ≡ lines
  lines_here =
      ap (λ n. slice_index_or (blocks_of all_forms) n []) (one_less j ∙ sym counted)
      ∙ block_of_head passed number cells (lines ++ others) ∙ headless

  -- the head of the block
  pub head_at : IsLineAt problems all_forms (length passed + 0) p lines (suc j) (last_cell None passed) (WordLine number cells)
  head_at = record {
    heads = heads_here 0 (omega arith);
    owner = owner;
    lines_are = lines_here;
    before = ap (last_cell None) (take_past passed block_forms 0) ∙ last_cell-append None passed [];
    stands = get_past passed block_forms 0;
  }

  -- a further line of the block
  pub further_at : (k : ℕ) (form : LineForm) → k < length lines → slice_get lines k ≡ Some form
      → IsLineAt problems all_forms (length passed + suc k) p lines (suc j) (last_cell None (take k lines)) form
  further_at k form low stands = record {
    heads = heads_here (suc k) (omega (arith, low));
    owner = owner;
    lines_are = lines_here;
    before =
        ap (last_cell None) (take_past passed block_forms (suc k))
        ∙ last_cell-append None passed (take (suc k) block_forms)
        ∙ ap (last_cell None) (take-append-le k lines others (omega (arith, low)));
    stands = get_past passed block_forms (suc k) ∙ get_in lines others k form stands;
  }
