-- Along a line, the boundary tells the cuts behind it.
use Rattle.std.proofs.Common.{◌≡◌, ℕ, zero, suc, ◌-◌, ◌≤◌, List, [], ◌∷◌, ◌++◌, length, take, drop, refl, sym, ap, subst, ◌∙◌, arith, length-take, length-drop}
use Rattle.std.specs.List.{AllByRecursion}
use Rattle.adp_model.specs.declared.grammar.Arg.{Arg}
use Rattle.adp_model.specs.declared.grammar.Arg.TheVariants.{Rule, Literal, Letter, Run}
use Rattle.adp_model.specs.PosedProblem.{PosedProblem, IsSpan}
use Rattle.adp_model.specs.Splits.{place, FitsSpan}
use Rattle.adp_model.specs.Tokens.{letters_between}
use Rattle.viable_splits.specs.Placing.{on_span}
use Rattle.split_lines.specs.Laid.{IsFixed, LineParts, AreBoundaries}
use Rattle.argument_search.proofs.LineSplits.{AreAt, tail_cover}

-- ---- one token

length-letters : (word : List ℕ) (from to : ℕ) → IsSpan word from to → length (letters_between word from to) ≡ to - from
length-letters word from to span = simp (length-take, length-drop) (omega (arith, span.in_order, span.in_word))

pub one_end : (p : PosedProblem) (token : Arg) (from end other : ℕ) → IsFixed token → FitsSpan p (on_span token from end)
    → FitsSpan p (on_span token from other) → end ≡ other
one_end p (Rule rule) from end other fixed fits fits' = absurd fixed
one_end p (Literal text) from end other fixed fits fits' =
    omega (
      arith,
      length-letters p.word from end fits.0,
      length-letters p.word from other fits'.0,
      ap length fits.1,
      ap length fits'.1,
      fits.0.in_order,
      fits'.0.in_order,
    )
one_end p (Letter class) from end other fixed fits fits' =
    omega (
      arith,
      length-letters p.word from end fits.0,
      length-letters p.word from other fits'.0,
      fits.1.0,
      fits'.1.0,
      fits.0.in_order,
      fits'.0.in_order,
    )
one_end p (Run class low high) from end other fixed fits fits' = absurd fixed

-- ---- tokens

all_same : (to : ℕ) (ends others : List ℕ) → length ends ≡ length others → AreAt to ends → AreAt to others
    → ends ≡ others
all_same to [] [] e at at' = refl
all_same to [] (other ∷ others) e at at' = absurd (omega arith)
all_same to (end ∷ ends) [] e at at' = absurd (omega arith)
all_same to (end ∷ ends) (other ∷ others) e at at' =
    let same : end ≡ other = at.0 ∙ sym at'.0 in
    let later = all_same to ends others (omega arith) at.1 at'.1 in
    λ i. same i ∷ later i

-- tokens that begin at one place, up to the last one
same_tail : (p : PosedProblem) (tokens : List Arg) (start to : ℕ) (ends others : List ℕ) → AllByRecursion IsFixed tokens
    → length ends ≡ length others → length tokens ≤ length ends
    → AllByRecursion (FitsSpan p) (place tokens start ends) → AllByRecursion (FitsSpan p) (place tokens start others)
    → AreAt to (drop (length tokens) (start ∷ ends)) → AreAt to (drop (length tokens) (start ∷ others))
    → ends ≡ others
same_tail p [] start to ends others fixed e enough fits fits' closed closed' =
    all_same to ends others e closed.1 closed'.1
same_tail p (token ∷ tokens) start to [] others fixed e enough fits fits' closed closed' = absurd (omega arith)
same_tail p (token ∷ tokens) start to (end ∷ ends) [] fixed e enough fits fits' closed closed' = absurd (omega arith)
same_tail p (token ∷ tokens) start to (end ∷ ends) (other ∷ others) fixed e enough fits fits' closed closed' =
    let same : end ≡ other = one_end p token start end other fixed.0 fits.0 fits'.0 in
    let later = same_tail p tokens end to ends others fixed.1 (omega arith) (omega arith) fits.1
    (subst (λ at. AllByRecursion (FitsSpan p) (place tokens at others)) (sym same) fits'.1) closed
    (subst (λ at. AreAt to (drop (length tokens) (at ∷ others))) (sym same) closed') in
    λ i. same i ∷ later i

module _ (p : PosedProblem) (parts : LineParts) (from to letters last : ℕ) (positions : List ℕ)
    (tail_fixed : AllByRecursion IsFixed parts.tail)
    (boundaries : AreBoundaries p parts from to letters last positions) where
  abbrev back : List Arg
  back = parts.second ∷ parts.tail

  same_back : (start : ℕ) (ends others : List ℕ) → length ends ≡ length others → length back ≤ length ends
      → AllByRecursion (FitsSpan p) (place back start ends) → AllByRecursion (FitsSpan p) (place back start others)
      → AreAt to (drop (length back - 1) ends) → AreAt to (drop (length back - 1) others) → ends ≡ others
  same_back start [] others e enough fits fits' closed closed' = absurd (omega arith)
  same_back start (end ∷ ends) [] e enough fits fits' closed closed' = absurd (omega arith)
  same_back start (end ∷ ends) (other ∷ others) e enough fits fits' closed closed' =
      let cover = tail_cover p parts.second parts.tail start end ends to fits.1 closed enough in
      let cover' = tail_cover p parts.second parts.tail start other others to fits'.1 closed' (omega (arith, e, enough)) in
      let same : end ≡ other = boundaries.one_tail end cover ∙ sym (boundaries.one_tail other cover') in
      let fewer : length back - 1 ≡ length parts.tail = omega arith in
      let later = same_tail p parts.tail end to ends others tail_fixed (omega arith) (omega arith) fits.1
      (subst (λ at. AllByRecursion (FitsSpan p) (place parts.tail at others)) (sym same) fits'.1)
      (subst (λ n. AreAt to (drop n (end ∷ ends))) fewer closed)
      (subst (λ at. AreAt to (drop (length parts.tail) (at ∷ others))) (sym same)
      (subst (λ n. AreAt to (drop n (other ∷ others))) fewer closed')) in
      λ i. same i ∷ later i

  -- the ends behind a boundary
  pub same_behind : (tokens : List Arg) (start : ℕ) (ends others : List ℕ) → AllByRecursion IsFixed tokens
      → length ends ≡ length others → length (tokens ++ back) ≤ length ends
      → AllByRecursion (FitsSpan p) (place (tokens ++ back) start ends)
      → AllByRecursion (FitsSpan p) (place (tokens ++ back) start others)
      → AreAt to (drop (length (tokens ++ back) - 1) ends) → AreAt to (drop (length (tokens ++ back) - 1) others)
      → ends ≡ others
  same_behind [] start ends others fixed e enough fits fits' closed closed' =
      same_back start ends others e enough fits fits' closed closed'
  same_behind (token ∷ tokens) start [] others fixed e enough fits fits' closed closed' = absurd (omega arith)
  same_behind (token ∷ tokens) start (end ∷ ends) [] fixed e enough fits fits' closed closed' = absurd (omega arith)
  same_behind (token ∷ tokens) start (end ∷ ends) (other ∷ others) fixed e enough fits fits' closed closed' =
      let same : end ≡ other = one_end p token start end other fixed.0 fits.0 fits'.0 in
      let one : length (token ∷ tokens ++ back) - 1 ≡ suc (length (tokens ++ back) - 1) = lengths tokens in
      let later = same_behind tokens end ends others fixed.1 (omega arith) (omega arith) fits.1
      (subst (λ at. AllByRecursion (FitsSpan p) (place (tokens ++ back) at others)) (sym same) fits'.1)
      (subst (λ n. AreAt to (drop n (end ∷ ends))) one closed)
      (subst (λ n. AreAt to (drop n (other ∷ others))) one closed') in
      λ i. same i ∷ later i
    where
      lengths : (tokens : List Arg) → length (token ∷ tokens ++ back) - 1 ≡ suc (length (tokens ++ back) - 1)
      lengths [] = omega arith
      lengths (next ∷ tokens) = omega arith

-- ---- lists

pub same_by_parts : (n : ℕ) (xs ys : List ℕ) → take n xs ≡ take n ys → drop n xs ≡ drop n ys → xs ≡ ys
same_by_parts zero xs ys front back = back
same_by_parts (suc n) [] [] front back = refl
same_by_parts (suc n) [] (y ∷ ys) front back = absurd cc
same_by_parts (suc n) (x ∷ xs) [] front back = absurd cc
same_by_parts (suc n) (x ∷ xs) (y ∷ ys) front back =
    let here : x ≡ y = cc in
    let front' : take n xs ≡ take n ys = cc in
    let later = same_by_parts n xs ys front' back in
    λ i. here i ∷ later i

pub same_before : (to : ℕ) (xs ys : List ℕ) → xs ++ to ∷ [] ≡ ys ++ to ∷ [] → xs ≡ ys
same_before to [] [] e = refl
same_before to [] (y ∷ []) e = absurd cc
same_before to [] (y ∷ z ∷ ys) e = absurd cc
same_before to (x ∷ []) [] e = absurd cc
same_before to (x ∷ z ∷ xs) [] e = absurd cc
same_before to (x ∷ xs) (y ∷ ys) e =
    let here : x ≡ y = cc in
    let front : xs ++ to ∷ [] ≡ ys ++ to ∷ [] = cc in
    let later = same_before to xs ys front in
    λ i. here i ∷ later i
