-- The lines of one block, read and judged one after another.
use Rattle.std.proofs.Common.{◌≡◌, ℕ, ◌+◌, ◌<◌, ◌≤◌, ◌⊎◌, inl, inr, false, true, Option, Some, None, List, [], ◌∷◌, ◌++◌, length, take, slice_get, take_at, append_assoc, append-nil, length-append, refl, sym, ap, subst, ◌∙◌, arith}
use Rattle.adp_model.specs.declared.cell.Cell.{Cell}
use Rattle.adp_model.specs.declared.grammar.Grammar.{Grammar}
use Rattle.adp_model.specs.PosedProblem.{PosedProblem}
use Rattle.table_certificate.specs.declared.claims.Claims.{Claims}
use Rattle.table_certificate.specs.CertificateLines.{LineForm, forms_of}
use Rattle.table_certificate.specs.LocalCertificate.{is_word_line, up_to_word_line, last_cell, IsRightInBlock}
use Rattle.table_certificate.specs.Claims.{Tell}
use Rattle.table_certificate.specs.BlockLines.{AreRightFurther, IsFirstWrong, IsRightFurther, lines_ahead}
use Rattle.table_certificate.proofs.NextLines.{ahead_head, ahead_other}
use Rattle.table_certificate.proofs.WrittenForms.{last_cell-append}

le_or_lt : (m k : ℕ) → (m ≤ k) ⊎ (k < m)
le_or_lt m k = grind arith

some_injective : (a b : LineForm) → Some a ≡ Some b → a ≡ b
some_injective a b e = cc

get_at : (xs : List LineForm) (x : LineForm) (ys : List LineForm) → slice_get (xs ++ x ∷ ys) (length xs) ≡ Some x
get_at [] x ys = refl
get_at (first ∷ xs) x ys = get_at xs x ys

-- the lines ahead, by the next one
pub ahead_of : (grammar : Grammar) (text behind : List ℕ) (form : LineForm) → forms_of grammar text ≡ form ∷ forms_of grammar behind
    → is_word_line form ≡ false → lines_ahead grammar text ≡ form ∷ lines_ahead grammar behind
ahead_of grammar text behind form is none = ap up_to_word_line is ∙ ahead_other form (forms_of grammar behind) none

pub ahead_none : (grammar : Grammar) (text behind : List ℕ) (form : LineForm) → forms_of grammar text ≡ form ∷ forms_of grammar behind
    → is_word_line form ≡ true → lines_ahead grammar text ≡ []
ahead_none grammar text behind form is head = ap up_to_word_line is ∙ ahead_head form (forms_of grammar behind) head

pub ahead_end : (grammar : Grammar) (text : List ℕ) → text ≡ [] → lines_ahead grammar text ≡ []
ahead_end grammar text none = ap (λ (x : List ℕ). lines_ahead grammar x) none

-- ---- reading

-- so many lines have been read, and it is kept what they say
pub record AreRead (grammar : Grammar) (text rest : List ℕ) (claims : Claims) (count : ℕ) : Type 0 where
  pub before : List LineForm
  pub parts : forms_of grammar text ≡ before ++ forms_of grammar rest
  pub ahead : lines_ahead grammar text ≡ before ++ lines_ahead grammar rest
  pub counted : count ≡ length before
  pub told : Tell claims before
  pub fewer : count + length rest ≤ length text

pub none_read : (grammar : Grammar) (text : List ℕ) (claims : Claims) → Tell claims [] → AreRead grammar text text claims 0
none_read grammar text claims told = record {
  before = [];
  parts = refl;
  ahead = refl;
  counted = refl;
  told = told;
  fewer = omega arith;
}

pub one_more_read : (grammar : Grammar) (text rest behind : List ℕ) (claims after : Claims) (count : ℕ) (form : LineForm)
    → (read : AreRead grammar text rest claims count) → forms_of grammar rest ≡ form ∷ forms_of grammar behind
    → length behind < length rest → is_word_line form ≡ false → Tell after (read.before ++ form ∷ [])
    → AreRead grammar text behind after (count + 1)
one_more_read grammar text rest behind claims after count form read is shorter none told = record {
  before = read.before ++ form ∷ [];
  parts = read.parts ∙ ap (λ (x : List LineForm). read.before ++ x) is ∙ sym (append_assoc read.before (form ∷ []) (forms_of grammar behind));
  ahead = read.ahead ∙ ap (λ (x : List LineForm). read.before ++ x) (ahead_of grammar rest behind form is none)
      ∙ sym (append_assoc read.before (form ∷ []) (lines_ahead grammar behind));
  counted = let long : length (read.before ++ form ∷ []) ≡ length read.before + 1 = length-append read.before (form ∷ []) in omega (arith, read.counted, long);
  told = told;
  fewer = omega (arith, read.fewer, shorter);
}

-- where the next head stands here, all lines before it are read
pub all_read : (grammar : Grammar) (text rest : List ℕ) (claims : Claims) (count : ℕ)
    → (read : AreRead grammar text rest claims count) → lines_ahead grammar rest ≡ [] → lines_ahead grammar text ≡ read.before
all_read grammar text rest claims count read end =
    read.ahead ∙ ap (λ (x : List LineForm). read.before ++ x) end ∙ append-nil read.before

-- ---- judging

module _ (p : PosedProblem) (text : List ℕ) where
  abbrev all_lines : List LineForm
  all_lines = lines_ahead p.grammar text

  -- so many lines have been judged, and all were right
  pub record AreJudged (rest : List ℕ) (count : ℕ) (earlier : Option Cell) : Type 0 where
    pub before : List LineForm
    pub ahead : all_lines ≡ before ++ lines_ahead p.grammar rest
    pub counted : count ≡ length before
    pub last : earlier ≡ last_cell None before
    pub right : (place : ℕ) → place < count → IsRightFurther p all_lines place
    pub fewer : count + length rest ≤ length text

  pub none_judged : AreJudged text 0 None
  none_judged = record {
    before = [];
    ahead = refl;
    counted = refl;
    last = refl;
    right = λ place low. absurd (omega (arith, low));
    fewer = omega arith;
  }

  module _ (rest behind : List ℕ) (count : ℕ) (earlier : Option Cell) (form : LineForm)
      (judged : AreJudged rest count earlier) (is : forms_of p.grammar rest ≡ form ∷ forms_of p.grammar behind)
      (none : is_word_line form ≡ false) where
    whole : all_lines ≡ judged.before ++ form ∷ lines_ahead p.grammar behind
    whole = judged.ahead ∙ ap (λ (x : List LineForm). judged.before ++ x) (ahead_of p.grammar rest behind form is none)

    stands : slice_get all_lines count ≡ Some form
    stands =
        ap (λ n. slice_get all_lines n) judged.counted ∙ ap (λ (x : List LineForm). slice_get x (length judged.before)) whole
        ∙ get_at judged.before form (lines_ahead p.grammar behind)

    front : take count all_lines ≡ judged.before
    front = ap (λ (x : List LineForm). take count x) whole ∙ take_at judged.before (form ∷ lines_ahead p.grammar behind) count (sym judged.counted)

    pub last_here : earlier ≡ last_cell None (take count all_lines)
    last_here = judged.last ∙ ap (last_cell None) (sym front)

    inside : count < length all_lines
    inside =
        let long : length all_lines ≡ length (judged.before ++ form ∷ lines_ahead p.grammar behind) = ap length whole in
        let parts : length (judged.before ++ form ∷ lines_ahead p.grammar behind) ≡ length judged.before + length (form ∷ lines_ahead p.grammar behind) =
        length-append judged.before (form ∷ lines_ahead p.grammar behind) in
        omega (arith, judged.counted, long, parts)

    -- the line here is wrong
    pub wrong_here : ((number : ℕ) → IsRightInBlock p all_lines number earlier form → ⊥) → IsFirstWrong p all_lines count
    wrong_here wrong = record {
      inside = inside;
      right = judged.right;
      wrong = λ other number there right.
          let same : other ≡ form = some_injective other form (sym there ∙ stands) in
          let here = subst (λ x. IsRightInBlock p all_lines number (last_cell None (take count all_lines)) x) same right in
          wrong number (subst (λ x. IsRightInBlock p all_lines number x form) (sym last_here) here);
    }

    -- the line here is right
    pub one_more_judged : length behind < length rest → ((number : ℕ) → IsRightInBlock p all_lines number earlier form)
        → AreJudged behind (count + 1) (last_cell earlier (form ∷ []))
    one_more_judged shorter right = record {
      before = judged.before ++ form ∷ [];
      ahead = whole ∙ sym (append_assoc judged.before (form ∷ []) (lines_ahead p.grammar behind));
      counted = let long : length (judged.before ++ form ∷ []) ≡ length judged.before + 1 = length-append judged.before (form ∷ []) in omega (arith, judged.counted, long);
      last = ap (λ x. last_cell x (form ∷ [])) judged.last ∙ sym (last_cell-append None judged.before (form ∷ []));
      right = λ place low. by place low (le_or_lt count place);
      fewer = omega (arith, judged.fewer, shorter);
    }
      where
        by : (place : ℕ) → place < count + 1 → (count ≤ place) ⊎ (place < count) → IsRightFurther p all_lines place
        by place low (inr below) = judged.right place below
        by place low (inl high) =
            let here : count ≡ place = omega (arith, low, high) in
            subst (IsRightFurther p all_lines) here
            (form, stands, λ number. subst (λ x. IsRightInBlock p all_lines number x form) last_here (right number))

  pub all_judged : (rest : List ℕ) (count : ℕ) (earlier : Option Cell) → AreJudged rest count earlier
      → lines_ahead p.grammar rest ≡ [] → AreRightFurther p all_lines
  all_judged rest count earlier judged end = λ place low.
      let whole : all_lines ≡ judged.before = judged.ahead ∙ ap (λ (x : List LineForm). judged.before ++ x) end ∙ append-nil judged.before in
      let long : length all_lines ≡ length judged.before = ap length whole in
      judged.right place (omega (arith, low, long, judged.counted))
