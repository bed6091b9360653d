-- Certificates, checked block by block.
use Rattle.std.proofs.Common.{◌≡◌, ℕ, zero, suc, ◌+◌, ◌-◌, ◌<◌, ◌≤◌, ◌⊎◌, inl, inr, ℤ, true, false, Option, Some, None, All, List, [], ◌∷◌, ◌++◌, ◌==◌, length, drop, take, slice_get, slice_index_or, take_all, append_assoc, append-nil, length-append, refl, sym, ap, subst, ◌∙◌, arith}
use Rattle.adp_model.specs.declared.grammar.Grammar.{Grammar}
use Rattle.adp_model.specs.PosedProblem.{PosedProblem}
use Rattle.adp_model.specs.ProblemFields.{IsAdmissible, KeepsLimits}
use Rattle.grammar_check.specs.CheckedGrammar.{CheckedGrammar, PassesChecks}
use Rattle.table_certificate.specs.CertificateLines.{LineForm, CertLine, WordLine, CellLine, Formless, forms_of}
use Rattle.table_certificate.specs.LocalCertificate.{is_word_line, up_to_word_line, blocks_of, head_count, block_number, last_cell, problem_of, IsRight, IsRightWordLine, IsRightInBlock, IsWhole, IsLocallyRight, IsFirstFalse, IsTold, AreTold}
use Rattle.table_certificate.specs.BlockLines.{BeginsBlock, IsAtHead, IsFirstFalseAhead, IsRightBlock, IsRightFurther}
use Rattle.table_certificate.specs.declared.verifying.VerifyError.{VerifyError}
use Rattle.table_certificate.specs.declared.verifying.VerifyError.TheVariants as errors
use Rattle.table_certificate.specs.Verified.{IsBehindCert, IsFalseBegin, IsFalseLine, IsRejection, problems_of}
use Rattle.table_certificate.proofs.BlockOutcomes.{not_at_head}
use Rattle.table_certificate.proofs.NextLines.{ended_form, last_form}
use Rattle.table_certificate.proofs.SplitLines.{HasEnd, IsWhole as IsUnended, has_end, shorter}
use Rattle.std.proofs.lemmas.Bool.Decides.{nat_tests}
use Rattle.std.specs.Char.{is_newline}
use Rattle.std.specs.List.{position_or_len}
use Rattle.std.specs.Str.Lines.{strip_carriage_return}
use Rattle.table_certificate.proofs.PlacedLines.{right_at, at_right, head_at, further_at, IsLineAt}
use Rattle.table_certificate.proofs.WrittenForms.{head_count-append}

le_or_lt : (m k : ℕ) → (m ≤ k) ⊎ (k < m)
le_or_lt m k = grind arith

-- ---- blocks behind one another

pub blocks_of-append : (xs ys : List LineForm) → up_to_word_line ys ≡ [] → blocks_of (xs ++ ys) ≡ blocks_of xs ++ blocks_of ys
blocks_of-append [] ys end = refl
blocks_of-append (WordLine number cells ∷ xs) ys end =
    ap (λ (first : List LineForm). first ∷ blocks_of (xs ++ ys)) (ahead xs)
    ∙ ap (λ (others : List (List LineForm)). up_to_word_line xs ∷ others) (blocks_of-append xs ys end)
  where
    ahead : (xs : List LineForm) → up_to_word_line (xs ++ ys) ≡ up_to_word_line xs
    ahead [] = end
    ahead (WordLine number cells ∷ xs) = refl
    ahead (CertLine ∷ xs) = ap (λ (rest : List LineForm). CertLine ∷ rest) (ahead xs)
    ahead (CellLine cell score ∷ xs) = ap (λ (rest : List LineForm). CellLine cell score ∷ rest) (ahead xs)
    ahead (Formless ∷ xs) = ap (λ (rest : List LineForm). Formless ∷ rest) (ahead xs)
blocks_of-append (CertLine ∷ xs) ys end = blocks_of-append xs ys end
blocks_of-append (CellLine cell score ∷ xs) ys end = blocks_of-append xs ys end
blocks_of-append (Formless ∷ xs) ys end = blocks_of-append xs ys end

AreTold-push : (problems : List PosedProblem) (blocks : List (List LineForm)) (values : List (Option ℤ)) (p : PosedProblem)
    (lines : List LineForm) (value : Option ℤ) → length blocks ≡ length problems → AreTold problems blocks values → IsTold p lines value
    → AreTold (problems ++ p ∷ []) (blocks ++ lines ∷ []) (values ++ value ∷ [])
AreTold-push [] [] values p lines value even told last =
    subst (λ (x : List (Option ℤ)). AreTold (p ∷ []) (lines ∷ []) (x ++ value ∷ [])) (sym told) (last, refl)
AreTold-push [] (block ∷ blocks) values p lines value even told last = absurd (omega (arith, even))
AreTold-push (first ∷ problems) [] values p lines value even told last = absurd told
AreTold-push (first ∷ problems) (block ∷ blocks) [] p lines value even told last = absurd told
AreTold-push (first ∷ problems) (block ∷ blocks) (said ∷ values) p lines value even told last =
    (told.0, AreTold-push problems blocks values p lines value (omega (arith, even)) told.1 last)

length-blocks_of : (forms : List LineForm) → length (blocks_of forms) ≡ head_count forms
length-blocks_of [] = refl
length-blocks_of (WordLine number cells ∷ forms) = ap suc (length-blocks_of forms)
length-blocks_of (CertLine ∷ forms) = length-blocks_of forms
length-blocks_of (CellLine cell score ∷ forms) = length-blocks_of forms
length-blocks_of (Formless ∷ forms) = length-blocks_of forms

-- the lines of one block have one head
no_heads : (lines others : List LineForm) → up_to_word_line (lines ++ others) ≡ lines → (head_count lines ≡ 0) × (blocks_of lines ≡ [])
no_heads [] others headless = (refl, refl)
no_heads (WordLine number cells ∷ lines) others headless = cc
no_heads (CertLine ∷ lines) others headless = no_heads lines others (tail CertLine _ _ headless)
  where
    tail : (x : LineForm) (a b : List LineForm) → x ∷ a ≡ x ∷ b → a ≡ b
    tail x a b e = cc
no_heads (CellLine cell score ∷ lines) others headless = no_heads lines others (tail (CellLine cell score) _ _ headless)
  where
    tail : (x : LineForm) (a b : List LineForm) → x ∷ a ≡ x ∷ b → a ≡ b
    tail x a b e = cc
no_heads (Formless ∷ lines) others headless = no_heads lines others (tail Formless _ _ headless)
  where
    tail : (x : LineForm) (a b : List LineForm) → x ∷ a ≡ x ∷ b → a ≡ b
    tail x a b e = cc

headless_alone : (lines others : List LineForm) → up_to_word_line (lines ++ others) ≡ lines → up_to_word_line lines ≡ lines
headless_alone [] others headless = refl
headless_alone (WordLine number cells ∷ lines) others headless = cc
headless_alone (CertLine ∷ lines) others headless = ap (λ (rest : List LineForm). CertLine ∷ rest) (headless_alone lines others (tail CertLine _ _ headless))
  where
    tail : (x : LineForm) (a b : List LineForm) → x ∷ a ≡ x ∷ b → a ≡ b
    tail x a b e = cc
headless_alone (CellLine cell score ∷ lines) others headless =
    ap (λ (rest : List LineForm). CellLine cell score ∷ rest) (headless_alone lines others (tail (CellLine cell score) _ _ headless))
  where
    tail : (x : LineForm) (a b : List LineForm) → x ∷ a ≡ x ∷ b → a ≡ b
    tail x a b e = cc
headless_alone (Formless ∷ lines) others headless = ap (λ (rest : List LineForm). Formless ∷ rest) (headless_alone lines others (tail Formless _ _ headless))
  where
    tail : (x : LineForm) (a b : List LineForm) → x ∷ a ≡ x ∷ b → a ≡ b
    tail x a b e = cc

-- ---- problems of words

module _ (checked : CheckedGrammar) where
  abbrev pub problem_for : List ℕ → PosedProblem
  problem_for word = record { grammar = checked.grammar; algebra = checked.algebra; word = word }

  pub get_problem : (words : List (List ℕ)) (index : ℕ) (d : List ℕ) → index < length words
      → slice_get (problems_of checked words) index ≡ Some (problem_for (slice_index_or words index d))
  get_problem [] index d low = absurd (omega (arith, low))
  get_problem (word ∷ words) zero d low = refl
  get_problem (word ∷ words) (suc index) d low = get_problem words index d (omega (arith, low))

  pub take_problem : (words : List (List ℕ)) (index : ℕ) (d : List ℕ) → index < length words
      → take (index + 1) (problems_of checked words) ≡ take index (problems_of checked words) ++ problem_for (slice_index_or words index d) ∷ []
  take_problem [] index d low = absurd (omega (arith, low))
  take_problem (word ∷ words) zero d low = refl
  take_problem (word ∷ words) (suc index) d low =
      ap (λ n. take n (problems_of checked (word ∷ words))) (past index)
      ∙ ap (λ (rest : List PosedProblem). problem_for word ∷ rest) (take_problem words index d (omega (arith, low)))
    where
      past : (k : ℕ) → suc k + 1 ≡ suc (k + 1)
      past k = omega arith

  pub length-problems : (words : List (List ℕ)) → length (problems_of checked words) ≡ length words
  length-problems [] = refl
  length-problems (word ∷ words) = ap suc (length-problems words)

  pub all_admissible : (words : List (List ℕ)) → PassesChecks checked
      → All (λ (word : List ℕ). KeepsLimits checked.grammar checked.algebra (length word)) words
      → All IsAdmissible (problems_of checked words)
  all_admissible words passes kept = λ k d low. by words kept k d low
    where
      by : (words : List (List ℕ)) → All (λ (word : List ℕ). KeepsLimits checked.grammar checked.algebra (length word)) words
          → (k : ℕ) (d : PosedProblem) → k < length (problems_of checked words) → IsAdmissible (slice_index_or (problems_of checked words) k d)
      by [] kept k d low = absurd (omega (arith, low))
      by (word ∷ words) kept zero d low = record {
        least = checked.sizes.least;
        greatest = checked.sizes.greatest;
        ranks = checked.ranks;
        checked = passes.found;
        limits = kept 0 word (omega arith);
      }
      by (word ∷ words) kept (suc k) d low = by words (λ j e under. kept (suc j) e (omega (arith, under))) k d (omega (arith, low))

-- ---- block after block

module _ (checked : CheckedGrammar) (words : List (List ℕ)) (bytes : List ℕ) where
  abbrev problems : List PosedProblem
  problems = problems_of checked words

  abbrev forms : List LineForm
  forms = forms_of checked.grammar bytes

  -- so many lines have been passed, and the blocks of so many words; all were right, and told these values
  pub record IsReached (rest : List ℕ) (place index : ℕ) (values : List (Option ℤ)) : Type 0 where
    pub passed : List LineForm
    pub parts : forms ≡ passed ++ forms_of checked.grammar rest
    pub placed : place ≡ length passed
    pub begun : index < place
    pub heads : head_count passed ≡ index
    pub right : (earlier : ℕ) → earlier < place → IsRight problems forms earlier
    pub told : AreTold (take index problems) (blocks_of passed) values
    pub at_head : IsAtHead checked.grammar rest
    pub fewer : place + length rest ≤ length bytes

  pub first_reached : (behind : List ℕ) → IsBehindCert checked.grammar bytes behind → IsReached behind 1 0 []
  first_reached behind cert = record {
    passed = CertLine ∷ [];
    parts = cert.cert;
    placed = refl;
    begun = omega arith;
    heads = refl;
    right = λ earlier low. by earlier low;
    told = refl;
    at_head = cert.at_head;
    fewer = omega (arith, cert.fewer);
  }
    where
      by : (earlier : ℕ) → earlier < 1 → IsRight problems forms earlier
      by zero low = ap (λ (x : List LineForm). slice_get x 0) cert.cert
      by (suc earlier) low = absurd (omega (arith, low))

  pub false_begin : (place : ℕ) → IsFalseBegin checked.grammar bytes place → IsFirstFalse problems forms place
  false_begin place (inl (none, wrong)) =
      subst (IsFirstFalse problems forms) (sym none) (record { right = λ earlier low. absurd (omega (arith, low)); wrong = by forms refl })
    where
      by : (all : List LineForm) → forms ≡ all → ((0 < length forms) × (IsRight problems forms 0 → ⊥)) ⊎ ((0 ≡ length forms) × (IsWhole problems forms → ⊥))
      by [] e =
          let long : length forms ≡ 0 = ap length e in
          inr (sym long, λ whole. absurd (omega (arith, whole.begins, long)))
      by (form ∷ rest) e =
          let long : length forms ≡ suc (length rest) = ap length e in
          inl (omega (arith, long), wrong)
  false_begin place (inr (one, (form, behind, is, none))) =
      subst (IsFirstFalse problems forms) (sym one) (record { right = λ earlier low. by earlier low; wrong = inl (omega (arith, long), λ right. wrong right) })
    where
      long : length forms ≡ suc (suc (length behind))
      long = ap length is

      by : (earlier : ℕ) → earlier < 1 → IsRight problems forms earlier
      by zero low = ap (λ (x : List LineForm). slice_get x 0) is
      by (suc earlier) low = absurd (omega (arith, low))

      no_head : (form : LineForm) → is_word_line form ≡ false → head_count (take 2 (CertLine ∷ form ∷ behind)) ≡ 0
      no_head CertLine e = refl
      no_head (CellLine cell score) e = refl
      no_head Formless e = refl
      no_head (WordLine number cells) e = cc

      wrong : IsRight problems forms 1 → ⊥
      wrong (other, said, owned, stands, right) =
          let zero_block : block_number forms 1 ≡ 0 = ap (λ (x : List LineForm). head_count (take 2 x)) is ∙ no_head form none in
          let h : None ≡ Some other = sym (ap (problem_of problems) zero_block) ∙ owned in
          cc

  module _ (rest : List ℕ) (place index : ℕ) (values : List (Option ℤ)) (reached : IsReached rest place index values) where
    nonzero : (q : ℕ) × (length reached.passed ≡ suc q)
    nonzero = by (length reached.passed) refl
      where
        by : (n : ℕ) → length reached.passed ≡ n → (q : ℕ) × (length reached.passed ≡ suc q)
        by zero e = absurd (omega (arith, e, reached.placed, reached.begun))
        by (suc q) e = (q, e)

    -- a line of the block that begins here, by its place among all
    module _ (p : PosedProblem) (grammar : p.grammar ≡ checked.grammar) (owner : slice_get problems index ≡ Some p)
        (lines behind : List LineForm) (number cells : ℕ) (begins : BeginsBlock p rest lines number cells behind) where
      whole : forms ≡ reached.passed ++ (WordLine number cells ∷ (lines ++ behind))
      whole = reached.parts ∙ ap (λ (g : Grammar). reached.passed ++ forms_of g rest) (sym grammar) ∙ ap (λ (x : List LineForm). reached.passed ++ x) begins.forms

      head_line : (other : ℕ) → other ≡ place
          → IsLineAt problems forms other p lines (suc index) (last_cell None reached.passed) (WordLine number cells)
      head_line other at =
          let here = head_at problems reached.passed lines behind number cells index p begins.headless reached.heads owner in
          let there = subst (λ (x : List LineForm). IsLineAt problems x (length reached.passed + 0) p lines (suc index) (last_cell None reached.passed) (WordLine number cells)) (sym whole) here in
          let same : length reached.passed + 0 ≡ other = omega (arith, at, reached.placed) in
          subst (λ n. IsLineAt problems forms n p lines (suc index) (last_cell None reached.passed) (WordLine number cells)) same there

      further_line : (k : ℕ) (form : LineForm) → k < length lines → slice_get lines k ≡ Some form → (other : ℕ)
          → other ≡ place + (k + 1) → IsLineAt problems forms other p lines (suc index) (last_cell None (take k lines)) form
      further_line k form low stands other at =
          let here = further_at problems reached.passed lines behind number cells index p begins.headless reached.heads owner k form low stands in
          let there = subst (λ (x : List LineForm). IsLineAt problems x (length reached.passed + suc k) p lines (suc index) (last_cell None (take k lines)) form) (sym whole) here in
          let same : length reached.passed + suc k ≡ other = omega (arith, at, reached.placed) in
          subst (λ n. IsLineAt problems forms n p lines (suc index) (last_cell None (take k lines)) form) same there

      right_head : IsRightWordLine p lines (suc index) number cells → IsRight problems forms place
      right_head right =
          let q = nonzero in
          let at : suc q.0 ≡ place = omega (arith, q.1, reached.placed) in
          subst (IsRight problems forms) at
          (right_at problems forms q.0 p lines (suc index) (last_cell None reached.passed) (WordLine number cells) (head_line (suc q.0) at) right)

      head_right : IsRight problems forms place → IsRightWordLine p lines (suc index) number cells
      head_right right =
          let q = nonzero in
          let at : suc q.0 ≡ place = omega (arith, q.1, reached.placed) in
          at_right problems forms q.0 p lines (suc index) (last_cell None reached.passed) (WordLine number cells) (head_line (suc q.0) at)
          (subst (IsRight problems forms) (sym at) right)

      right_further : (k : ℕ) → k < length lines → IsRightFurther p lines k → (other : ℕ) → other ≡ place + (k + 1)
          → IsRight problems forms other
      right_further k low (form, stands, right) zero at = absurd (omega (arith, at))
      right_further k low (form, stands, right) (suc other) at =
          right_at problems forms other p lines (suc index) (last_cell None (take k lines)) form (further_line k form low stands (suc other) at) (right (suc index))

      further_right : (k : ℕ) (form : LineForm) → k < length lines → slice_get lines k ≡ Some form → (other : ℕ)
          → other ≡ place + (k + 1) → IsRight problems forms other
          → IsRightInBlock p lines (suc index) (last_cell None (take k lines)) form
      further_right k form low stands zero at right = absurd (omega (arith, at))
      further_right k form low stands (suc other) at right =
          at_right problems forms other p lines (suc index) (last_cell None (take k lines)) form (further_line k form low stands (suc other) at) right

      -- the lines before one of the block are right, where those of the block are
      right_before : (count : ℕ) → count ≤ length lines → IsRightWordLine p lines (suc index) number cells
          → ((k : ℕ) → k < count → IsRightFurther p lines k) → (earlier : ℕ) → earlier < place + (count + 1)
          → IsRight problems forms earlier
      right_before count few head further earlier low = by (le_or_lt place earlier)
        where
          by : (place ≤ earlier) ⊎ (earlier < place) → IsRight problems forms earlier
          by (inr below) = reached.right earlier below
          by (inl behind) = at (earlier - place) (omega (arith, behind))
            where
              at : (k : ℕ) → earlier ≡ place + k → IsRight problems forms earlier
              at zero e = let same : place ≡ earlier = omega (arith, e) in subst (IsRight problems forms) same (right_head head)
              at (suc k) e = right_further k (omega (arith, e, low, few)) (further k (omega (arith, e, low))) earlier (omega (arith, e))

      all_lines : length forms ≡ place + suc (length lines + length behind)
      all_lines =
          let parts : length (reached.passed ++ (WordLine number cells ∷ (lines ++ behind))) ≡ length reached.passed + length (WordLine number cells ∷ (lines ++ behind)) =
          length-append reached.passed (WordLine number cells ∷ (lines ++ behind)) in
          let more : length (lines ++ behind) ≡ length lines + length behind = length-append lines behind in
          let all : length forms ≡ length (reached.passed ++ (WordLine number cells ∷ (lines ++ behind))) = ap length whole in
          omega (arith, parts, more, all, reached.placed)

    -- no head stands here, where a problem needs one
    pub missing_here : index < length problems → forms_of checked.grammar rest ≡ [] → IsFirstFalse problems forms place
    missing_here more none = record { right = reached.right; wrong = inr (omega (arith, long, reached.placed), λ w. absurd (omega (arith, w.blocks, more, heads, reached.heads))) }
      where
        same : forms ≡ reached.passed
        same = reached.parts ∙ ap (λ (x : List LineForm). reached.passed ++ x) none ∙ append-nil reached.passed

        long : length forms ≡ length reached.passed
        long = ap length same

        heads : head_count forms ≡ head_count reached.passed
        heads = ap head_count same

    -- the first false line ahead is that of all
    pub false_ahead : (p : PosedProblem) → p.grammar ≡ checked.grammar → slice_get problems index ≡ Some p
        → index < length problems → (count : ℕ) → IsFirstFalseAhead p (index + 1) rest count → IsFirstFalse problems forms (place + count)
    false_ahead p grammar owner more count (inl (none, at)) =
        let here : place ≡ place + count = omega (arith, at) in
        subst (IsFirstFalse problems forms) here (missing_here more (ap (λ (g : Grammar). forms_of g rest) (sym grammar) ∙ none))
    false_ahead p grammar owner more count (inr (lines, behind, number, cells, begins, inl (wrong, at))) =
        let here : place ≡ place + count = omega (arith, at) in
        let block : index + 1 ≡ suc index = omega arith in
        subst (IsFirstFalse problems forms) here (record {
          right = reached.right;
          wrong = inl (
            omega (arith, all_lines p grammar owner lines behind number cells begins),
            λ right. wrong (subst (λ n. IsRightWordLine p lines n number cells) (sym block) (head_right p grammar owner lines behind number cells begins right)),
          );
        })
    false_ahead p grammar owner more count (inr (lines, behind, number, cells, begins, inr (head, k, wrong, at))) =
        let here : place + (k + 1) ≡ place + count = omega (arith, at) in
        let block : index + 1 ≡ suc index = omega arith in
        let long = all_lines p grammar owner lines behind number cells begins in
        subst (IsFirstFalse problems forms) here (record {
          right = right_before p grammar owner lines behind number cells begins k (omega (arith, wrong.inside))
              (subst (λ n. IsRightWordLine p lines n number cells) block head) wrong.right;
          wrong = inl (omega (arith, long, wrong.inside), λ right. by (slice_get lines k) refl right);
        })
      where
        none_apart : (form : Option LineForm) → form ≡ None → (n : ℕ) → n < length lines → slice_get lines n ≡ form → ⊥
        none_apart form e n low stands = past lines n low (stands ∙ e)
          where
            past : (xs : List LineForm) (n : ℕ) → n < length xs → slice_get xs n ≡ None → ⊥
            past [] n low is = omega (arith, low)
            past (x ∷ xs) zero low is = cc
            past (x ∷ xs) (suc n) low is = past xs n (omega (arith, low)) is

        by : (said : Option LineForm) → slice_get lines k ≡ said → IsRight problems forms (place + (k + 1)) → ⊥
        by None stands right = none_apart None refl k wrong.inside stands
        by (Some form) stands right =
            wrong.wrong form (suc index) stands (further_right p grammar owner lines behind number cells begins k form wrong.inside stands (place + (k + 1)) refl right)

    -- behind a block that is right the next word is reached
    pub more_reached : (p : PosedProblem) → p.grammar ≡ checked.grammar → slice_get problems index ≡ Some p
        → take (index + 1) problems ≡ take index problems ++ p ∷ [] → index < length problems → (value : Option ℤ) (count : ℕ) (behind : List ℕ)
        → IsRightBlock p (index + 1) rest value count behind → IsReached behind (place + count) (index + 1) (values ++ value ∷ [])
    more_reached p grammar owner front more value count behind block = record {
      passed = reached.passed ++ block_lines;
      parts = whole' ∙ sym (append_assoc reached.passed block_lines (forms_of checked.grammar behind));
      placed = let parts : length (reached.passed ++ block_lines) ≡ length reached.passed + length block_lines = length-append reached.passed block_lines in omega (arith, parts, reached.placed, block.counted);
      begun = omega (arith, reached.begun, block.counted);
      heads = head_count-append reached.passed block_lines ∙ heads_more;
      right = λ earlier low. right_before p grammar owner block.lines (forms_of p.grammar behind) block.number block.cells block.begins (length block.lines) (omega arith)
          (subst (λ n. IsRightWordLine p block.lines n block.number block.cells) one block.head) block.further earlier (omega (arith, low, block.counted));
      told = told_more;
      at_head = ap (λ (g : Grammar). up_to_word_line (forms_of g behind)) (sym grammar) ∙ block.begins.ends;
      fewer = omega (arith, reached.fewer, block.fewer);
    }
      where
        block_lines : List LineForm
        block_lines = WordLine block.number block.cells ∷ block.lines

        one : index + 1 ≡ suc index
        one = omega arith

        whole' : forms ≡ reached.passed ++ ((WordLine block.number block.cells ∷ block.lines) ++ forms_of checked.grammar behind)
        whole' =
            whole p grammar owner block.lines (forms_of p.grammar behind) block.number block.cells block.begins
            ∙ ap (λ (g : Grammar). reached.passed ++ (WordLine block.number block.cells ∷ (block.lines ++ forms_of g behind))) grammar

        none : (head_count block.lines ≡ 0) × (blocks_of block.lines ≡ [])
        none = no_heads block.lines (forms_of p.grammar behind) block.begins.headless

        heads_more : head_count reached.passed + suc (head_count block.lines) ≡ index + 1
        heads_more = omega (arith, none.0, reached.heads)

        blocks_more : blocks_of (reached.passed ++ (WordLine block.number block.cells ∷ block.lines)) ≡ blocks_of reached.passed ++ block.lines ∷ []
        blocks_more =
            blocks_of-append reached.passed (WordLine block.number block.cells ∷ block.lines) refl
            ∙ ap (λ (x : List LineForm). blocks_of reached.passed ++ (x ∷ blocks_of block.lines)) (headless_alone block.lines (forms_of p.grammar behind) block.begins.headless)
            ∙ ap (λ (x : List (List LineForm)). blocks_of reached.passed ++ (block.lines ∷ x)) none.1

        length_taken : (xs : List PosedProblem) (n : ℕ) → n ≤ length xs → length (take n xs) ≡ n
        length_taken [] zero low = refl
        length_taken [] (suc n) low = absurd (omega (arith, low))
        length_taken (x ∷ xs) zero low = refl
        length_taken (x ∷ xs) (suc n) low = ap suc (length_taken xs n (omega (arith, low)))

        even : length (blocks_of reached.passed) ≡ length (take index problems)
        even = length-blocks_of reached.passed ∙ reached.heads ∙ sym (length_taken problems index (omega (arith, more)))

        told_more : AreTold (take (index + 1) problems) (blocks_of (reached.passed ++ (WordLine block.number block.cells ∷ block.lines))) (values ++ value ∷ [])
        told_more =
            subst (λ (x : List PosedProblem). AreTold x (blocks_of (reached.passed ++ (WordLine block.number block.cells ∷ block.lines))) (values ++ value ∷ [])) (sym front)
            (subst (λ (x : List (List LineForm)). AreTold (take index problems ++ p ∷ []) x (values ++ value ∷ [])) (sym blocks_more)
            (AreTold-push (take index problems) (blocks_of reached.passed) values p block.lines value even reached.told block.told))

    -- behind the last block nothing stands
    pub all_right : length problems ≤ index → rest ≡ [] → IsLocallyRight problems forms
    all_right last none = record {
      right = λ other low. reached.right other (omega (arith, low, long, reached.placed));
      whole = record { begins = omega (arith, long, reached.placed, reached.begun); blocks = omega (arith, last, heads, reached.heads) };
    }
      where
        same : forms ≡ reached.passed
        same = reached.parts ∙ ap (λ (x : List ℕ). reached.passed ++ forms_of checked.grammar x) none ∙ append-nil reached.passed

        long : length forms ≡ length reached.passed
        long = ap length same

        heads : head_count forms ≡ head_count reached.passed
        heads = ap head_count same

    pub all_told : length problems ≤ index → rest ≡ [] → AreTold problems (blocks_of forms) values
    all_told last none =
        subst (λ (x : List PosedProblem). AreTold x (blocks_of forms) values) (take_all index problems last)
        (subst (λ (x : List LineForm). AreTold (take index problems) (blocks_of x) values) (sym same) reached.told)
      where
        same : forms ≡ reached.passed
        same = reached.parts ∙ ap (λ (x : List ℕ). reached.passed ++ forms_of checked.grammar x) none ∙ append-nil reached.passed

    -- a line behind the last block stands in no problem's block
    pub one_too_many : length problems ≤ index → (form : LineForm) (behind : List LineForm)
        → forms_of checked.grammar rest ≡ form ∷ behind → is_word_line form ≡ true → IsFirstFalse problems forms place
    one_too_many last form behind is head = record { right = reached.right; wrong = inl (inside, λ right. by place refl right) }
      where
        whole' : forms ≡ reached.passed ++ (form ∷ behind)
        whole' = reached.parts ∙ ap (λ (x : List LineForm). reached.passed ++ x) is

        inside : place < length forms
        inside =
            let all : length forms ≡ length (reached.passed ++ (form ∷ behind)) = ap length whole' in
            let parts : length (reached.passed ++ (form ∷ behind)) ≡ length reached.passed + length (form ∷ behind) = length-append reached.passed (form ∷ behind) in
            omega (arith, all, parts, reached.placed)

        taken : (xs : List LineForm) (x : LineForm) (ys : List LineForm) → take (suc (length xs)) (xs ++ x ∷ ys) ≡ xs ++ x ∷ []
        taken [] x ys = refl
        taken (first ∷ xs) x ys = ap (λ (rest : List LineForm). first ∷ rest) (taken xs x ys)

        one_head : (form : LineForm) → is_word_line form ≡ true → head_count (form ∷ []) ≡ 1
        one_head (WordLine number cells) e = refl
        one_head CertLine e = cc
        one_head (CellLine cell score) e = cc
        one_head Formless e = cc

        heads : block_number forms place ≡ suc index
        heads =
            ap (λ n. head_count (take (suc n) forms)) reached.placed ∙ ap (λ (x : List LineForm). head_count (take (suc (length reached.passed)) x)) whole'
            ∙ ap head_count (taken reached.passed form behind) ∙ head_count-append reached.passed (form ∷ [])
            ∙ (let one : head_count (form ∷ []) ≡ 1 = one_head form head in omega (arith, one, reached.heads))

        past : (xs : List PosedProblem) (n : ℕ) (p : PosedProblem) → length xs ≤ n → slice_get xs n ≡ Some p → ⊥
        past [] n p low e = cc
        past (x ∷ xs) zero p low e = omega (arith, low)
        past (x ∷ xs) (suc n) p low e = past xs n p (omega (arith, low)) e

        by : (n : ℕ) → n ≡ place → IsRight problems forms n → ⊥
        by zero e right = absurd (omega (arith, e, reached.begun))
        by (suc n) e (p, said, owned, stands, right) =
            past problems index p last (sym (ap (problem_of problems) (ap (block_number forms) e ∙ heads)) ∙ owned)

-- ---- what is told

pub rejection : (problems : List PosedProblem) (forms : List LineForm) (place : ℕ) (error : VerifyError) → IsFalseLine place error
    → IsFirstFalse problems forms place → IsRejection problems forms error
rejection problems forms place (errors.Rejected rejected) is first = (place, is, first)
rejection problems forms place errors.Memory is first = tt

pub no_bytes : (text : List ℕ) → true ≡ (length text == 0) → text ≡ []
no_bytes [] e = refl
no_bytes (byte ∷ text) e =
    let h : (length (byte ∷ text) == 0) ≡ false = grind (arith, nat_tests) in
    let k : true ≡ false = e ∙ h in
    cc

-- a line stands where a byte does
record HasNext (grammar : Grammar) (text : List ℕ) : Type 0 where
  form : LineForm
  behind : List ℕ
  is : forms_of grammar text ≡ form ∷ forms_of grammar behind

next_there : (grammar : Grammar) (text : List ℕ) → 0 < length text → HasNext grammar text
next_there grammar text some = by (has_end text)
  where
    by : IsUnended text ⊎ HasEnd text → HasNext grammar text
    by (inl whole) =
        let next = last_form grammar text (length text) some (sym whole.at) refl in
        record { form = next.exact; behind = drop (length text) text; is = next.first }
    by (inr ends) =
        let end : ℕ = position_or_len is_newline text in
        let short : length ends.line < length text = shorter text ends in
        let low : end < length text = omega (arith, short, ends.at) in
        let more : (end ≡ length text) → ⊥ = λ e. omega (arith, e, low) in
        let next = ended_form grammar text (strip_carriage_return (take end text)) end refl more low refl in
        record { form = next.exact; behind = drop (end + 1) text; is = next.first }

head_or_not : (form : LineForm) → (is_word_line form ≡ true) ⊎ (is_word_line form ≡ false)
head_or_not CertLine = inr refl
head_or_not (WordLine number cells) = inl refl
head_or_not (CellLine cell score) = inr refl
head_or_not Formless = inr refl

-- bytes behind the last block are a line that stands in no problem's block
pub bytes_left : (checked : CheckedGrammar) (words : List (List ℕ)) (bytes rest : List ℕ) (place index : ℕ) (values : List (Option ℤ))
    → IsReached checked words bytes rest place index values → length (problems_of checked words) ≤ index → 0 < length rest
    → IsFirstFalse (problems_of checked words) (forms_of checked.grammar bytes) place
bytes_left checked words bytes rest place index values reached last some = by (next_there checked.grammar rest some)
  where
    by : HasNext checked.grammar rest → IsFirstFalse (problems_of checked words) (forms_of checked.grammar bytes) place
    by next = cases (head_or_not next.form)
      where
        cases : (is_word_line next.form ≡ true) ⊎ (is_word_line next.form ≡ false)
            → IsFirstFalse (problems_of checked words) (forms_of checked.grammar bytes) place
        cases (inl head) = one_too_many checked words bytes rest place index values reached last next.form (forms_of checked.grammar next.behind) next.is head
        cases (inr none) = absurd (not_at_head checked.grammar rest next.behind next.form reached.at_head next.is none)
