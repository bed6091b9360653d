-- What the splits of a line ask for: the cells of the arguments before the line, which are the same along it, and those
-- of its two arguments with the boundary at one of its positions.
use Rattle.std.proofs.Common.{◌≡◌, ℕ, zero, suc, ◌+◌, ◌-◌, ◌<◌, ◌≤◌, ◌⊎◌, inl, inr, Some, List, [], ◌∷◌, ◌++◌, length, take, drop, slice_get, slice_index, refl, sym, ap, subst, ◌∙◌, arith}
use Rattle.std.specs.List.{AllByRecursion, Contains}
use Rattle.std.proofs.lemmas.Option.{same_Some}
use Rattle.adp_model.specs.declared.grammar.Arg.{Arg}
use Rattle.adp_model.specs.declared.grammar.Arg.TheVariants.{Rule, Literal, Letter, Run}
use Rattle.adp_model.specs.declared.cell.Cell.{Cell}
use Rattle.adp_model.specs.PosedProblem.{PosedProblem}
use Rattle.adp_model.specs.Splits.{Placed, place, FitsSpan}
use Rattle.viable_splits.specs.Placing.{on_span, Cover}
use Rattle.split_lines.specs.Laid.{IsFixed, IsCellOf, LineParts, AreBoundaries}

abbrev pub AreAt : ℕ → List ℕ → Type 0
AreAt to ends = AllByRecursion (λ boundary. boundary ≡ to) ends

abbrev pub IsCell : Cell → Placed
IsCell child = on_span (Rule child.rule) child.from child.to

-- ---- one after the other

pub drop_placed : (n : ℕ) (arguments : List Arg) (from : ℕ) (ends : List ℕ) (k : ℕ) (it : Placed) → n ≤ k
    → slice_get (place arguments from ends) k ≡ Some it
    → slice_get (place (drop n arguments) (slice_index (from ∷ ends) n) (drop n ends)) (k - n) ≡ Some it
drop_placed zero arguments from ends k it l e = let same : k - 0 ≡ k = omega arith in
    subst (λ j. slice_get (place arguments from ends) j ≡ Some it) (sym same) e
drop_placed (suc n) [] from ends k it l e = absurd cc
drop_placed (suc n) (argument ∷ arguments) from [] k it l e = absurd cc
drop_placed (suc n) (argument ∷ arguments) from (to ∷ ends) zero it l e = absurd (omega arith)
drop_placed (suc n) (argument ∷ arguments) from (to ∷ ends) (suc k) it l e =
    let same : suc k - suc n ≡ k - n = omega arith in
    subst (λ j. slice_get (place (drop n arguments) (slice_index (to ∷ ends) n) (drop n ends)) j ≡ Some it) (sym same)
    (drop_placed n arguments to ends k it (omega arith) e)

pub drop_fits : (p : PosedProblem) (n : ℕ) (arguments : List Arg) (from : ℕ) (ends : List ℕ)
    → n ≤ length ends → AllByRecursion (FitsSpan p) (place arguments from ends)
    → AllByRecursion (FitsSpan p) (place (drop n arguments) (slice_index (from ∷ ends) n) (drop n ends))
drop_fits p zero arguments from ends l fits = fits
drop_fits p (suc n) [] from ends l fits = tt
drop_fits p (suc n) (argument ∷ arguments) from [] l fits = absurd (omega arith)
drop_fits p (suc n) (argument ∷ arguments) from (to ∷ ends) l fits =
    drop_fits p n arguments to ends (omega arith) fits.1

-- the arguments before this number stand where the first ends say
pub front_placed : (n : ℕ) (arguments : List Arg) (from : ℕ) (ends others : List ℕ) (k : ℕ) → k < n
    → n ≤ length ends → n ≤ length others → take n ends ≡ take n others
    → slice_get (place arguments from ends) k ≡ slice_get (place arguments from others) k
front_placed zero arguments from ends others k l m m' same = absurd (omega arith)
front_placed (suc n) [] from ends others k l m m' same = refl
front_placed (suc n) (argument ∷ arguments) from [] others k l m m' same = absurd (omega arith)
front_placed (suc n) (argument ∷ arguments) from (to ∷ ends) [] k l m m' same = absurd (omega arith)
front_placed (suc n) (argument ∷ arguments) from (to ∷ ends) (to' ∷ others) zero l m m' same =
    let here : to ≡ to' = cc in
    λ i. Some (on_span argument from (here i))
front_placed (suc n) (argument ∷ arguments) from (to ∷ ends) (to' ∷ others) (suc k) l m m' same =
    let here : to ≡ to' = cc in
    let later : take n ends ≡ take n others = cc in
    front_placed n arguments to ends others k (omega arith) (omega arith) (omega arith) later
    ∙ ap (λ at. slice_get (place arguments at others) k) here

-- where the arguments from this number on begin
pub same_start : (n : ℕ) (from : ℕ) (ends others : List ℕ) → n ≤ length ends → n ≤ length others
    → take n ends ≡ take n others → slice_index (from ∷ ends) n ≡ slice_index (from ∷ others) n
same_start zero from ends others l m same = refl
same_start (suc n) from [] others l m same = absurd (omega arith)
same_start (suc n) from (to ∷ ends) [] l m same = absurd (omega arith)
same_start (suc n) from (to ∷ ends) (to' ∷ others) l m same =
    let here : to ≡ to' = cc in
    let later : take n ends ≡ take n others = cc in
    same_start n to ends others (omega arith) (omega arith) later ∙ ap (λ at. slice_index (at ∷ others) n) here

-- ---- tokens of fixed length ask for nothing

no_rule : (token : Arg) (from to : ℕ) (child : Cell) → IsFixed token
    → Some (on_span token from to) ≡ Some (IsCell child) → ⊥
no_rule (Rule rule) from to child fixed e = fixed
no_rule (Run class low high) from to child fixed e = fixed
no_rule (Literal text) from to child fixed e =
    let same : on_span (Literal text) from to ≡ IsCell child = cc in
    let f : Literal text ≡ Rule child.rule = ap (λ (x : Placed). x.argument) same in
    cc
no_rule (Letter class) from to child fixed e =
    let same : on_span (Letter class) from to ≡ IsCell child = cc in
    let f : Letter class ≡ Rule child.rule = ap (λ (x : Placed). x.argument) same in
    cc

-- where tokens end, with what stands behind them
pub record Behind (p : PosedProblem) (tokens back : List Arg) (start : ℕ) (ends : List ℕ) (to : ℕ) : Type 0 where
  pub begins : ℕ
  pub rest : List ℕ
  pub cover : Cover p tokens start begins
  pub fits : AllByRecursion (FitsSpan p) (place back begins rest)
  pub closed : AreAt to (drop (length back - 1) rest)
  pub enough : length back ≤ length rest
  pub asks : (k : ℕ) (child : Cell) → slice_get (place (tokens ++ back) start ends) k ≡ Some (IsCell child)
      → (j : ℕ) × (slice_get (place back begins rest) j ≡ Some (IsCell child))

pub behind_tokens : (p : PosedProblem) (tokens back : List Arg) (start : ℕ) (ends : List ℕ) (to : ℕ)
    → AllByRecursion IsFixed tokens → 0 < length back
    → AllByRecursion (FitsSpan p) (place (tokens ++ back) start ends)
    → AreAt to (drop (length (tokens ++ back) - 1) ends) → length (tokens ++ back) ≤ length ends
    → Behind p tokens back start ends to
behind_tokens p [] back start ends to fixed some fits closed enough = record {
  begins = start;
  rest = ends;
  cover = refl;
  fits = fits;
  closed = closed;
  enough = enough;
  asks = λ k child e. (k, e);
}
behind_tokens p (token ∷ tokens) back start [] to fixed some fits closed enough = absurd (omega arith)
behind_tokens p (token ∷ tokens) back start (end ∷ ends) to fixed some fits closed enough =
    let more : length (token ∷ tokens ++ back) - 1 ≡ suc (length (tokens ++ back) - 1) = lengths tokens in
    let closed' : AreAt to (drop (length (tokens ++ back) - 1) ends) =
    subst (λ n. AreAt to (drop n (end ∷ ends))) more closed in
    let later = behind_tokens p tokens back end ends to fixed.1 some fits.1 closed' (omega arith) in
    record {
      begins = later.begins;
      rest = later.rest;
      cover = (end, fits.0, later.cover);
      fits = later.fits;
      closed = later.closed;
      enough = later.enough;
      asks = λ k child e. asked later k child e;
    }
  where
    lengths : (tokens : List Arg) → length (token ∷ tokens ++ back) - 1 ≡ suc (length (tokens ++ back) - 1)
    lengths [] = omega arith
    lengths (other ∷ tokens) = omega arith

    asked : (it : Behind p tokens back end ends to) (k : ℕ) (child : Cell)
        → slice_get (place (token ∷ tokens ++ back) start (end ∷ ends)) k ≡ Some (IsCell child)
        → (j : ℕ) × (slice_get (place back it.begins it.rest) j ≡ Some (IsCell child))
    asked it zero child e = absurd (no_rule token start end child fixed.0 e)
    asked it (suc k) child e = it.asks k child e

-- tokens up to the end have their letters, and ask for nothing
pub tail_cover : (p : PosedProblem) (argument : Arg) (tokens : List Arg) (start : ℕ) (end : ℕ) (ends : List ℕ) (to : ℕ)
    → AllByRecursion (FitsSpan p) (place tokens end ends)
    → AreAt to (drop (length (argument ∷ tokens) - 1) (end ∷ ends)) → length (argument ∷ tokens) ≤ length (end ∷ ends)
    → Cover p tokens end to
tail_cover p argument [] start end ends to fits closed enough = closed.0
tail_cover p argument (token ∷ tokens) start end [] to fits closed enough = absurd (omega arith)
tail_cover p argument (token ∷ tokens) start end (next ∷ ends) to fits closed enough =
    let one : length (argument ∷ token ∷ tokens) - 1 ≡ suc (length (token ∷ tokens) - 1) = omega arith in
    let closed' : AreAt to (drop (length (token ∷ tokens) - 1) (next ∷ ends)) =
    subst (λ n. AreAt to (drop n (end ∷ next ∷ ends))) one closed in
    (next, fits.0, tail_cover p token tokens end next ends to fits.1 closed' (omega arith))

pub none_asked : (tokens : List Arg) (start : ℕ) (ends : List ℕ) → AllByRecursion IsFixed tokens
    → (k : ℕ) (child : Cell)
    → slice_get (place tokens start ends) k ≡ Some (IsCell child) → ⊥
none_asked [] start ends fixed k child e = cc
none_asked (token ∷ tokens) start [] fixed k child e = cc
none_asked (token ∷ tokens) start (end ∷ ends) fixed zero child e = no_rule token start end child fixed.0 e
none_asked (token ∷ tokens) start (end ∷ ends) fixed (suc k) child e = none_asked tokens end ends fixed.1 k child e

pub cell_of : (argument : Arg) (from to : ℕ) (child : Cell) → Some (on_span argument from to) ≡ Some (IsCell child)
    → IsCellOf argument from to child
cell_of argument from to child e =
    let same : on_span argument from to ≡ IsCell child = same_Some (on_span argument from to) (IsCell child) e in
    record {
      rule = ap (λ (x : Placed). x.argument) same;
      begins = ap (λ (x : Placed). x.from) same;
      ends = ap (λ (x : Placed). x.to) same;
    }

-- ---- a split of a line

module _ (p : PosedProblem) (parts : LineParts) (from to letters last : ℕ) (positions : List ℕ)
    (middle_fixed : AllByRecursion IsFixed parts.middle) (tail_fixed : AllByRecursion IsFixed parts.tail)
    (boundaries : AreBoundaries p parts from to letters last positions) where
  abbrev line : List Arg
  line = parts.first ∷ parts.middle ++ parts.second ∷ parts.tail

  -- what a split asks for with the boundary at this place
  abbrev Asks : ℕ → Cell → Type 0
  Asks boundary child =
      IsCellOf parts.first from boundary child ⊎ IsCellOf parts.second (boundary + letters) last child

  pub record IsOnLine (boundary : ℕ) (ends : List ℕ) : Type 0 where
    pub there : Contains positions boundary
    pub asks : (k : ℕ) (child : Cell) → slice_get (place line from (boundary ∷ ends)) k ≡ Some (IsCell child)
        → Asks boundary child

  with_second : (boundary : ℕ) (ends : List ℕ) → FitsSpan p (on_span parts.first from boundary)
      → (behind : Behind p parts.middle (parts.second ∷ parts.tail) boundary ends to) → IsOnLine boundary ends
  with_second boundary ends first behind = go behind.begins behind.rest behind.cover behind.fits behind.closed
      behind.enough behind.asks
    where
      go : (begins : ℕ) (rest : List ℕ) → Cover p parts.middle boundary begins
          → AllByRecursion (FitsSpan p) (place (parts.second ∷ parts.tail) begins rest)
          → AreAt to (drop (length (parts.second ∷ parts.tail) - 1) rest)
          → length (parts.second ∷ parts.tail) ≤ length rest
          → ((k : ℕ) (child : Cell)
          → slice_get (place (parts.middle ++ parts.second ∷ parts.tail) boundary ends) k ≡ Some (IsCell child)
          → (j : ℕ) × (slice_get (place (parts.second ∷ parts.tail) begins rest) j ≡ Some (IsCell child)))
          → IsOnLine boundary ends
      go begins [] cover fits closed enough asks = absurd (omega arith)
      go begins (end ∷ rest) cover fits closed enough asks =
          let middle_is : begins ≡ boundary + letters = boundaries.one_middle boundary begins cover in
          let tail = tail_cover p parts.second parts.tail begins end rest to fits.1 closed enough in
          let end_is : end ≡ last = boundaries.one_tail end tail in
          let second : FitsSpan p (on_span parts.second (boundary + letters) last) =
          subst (λ e. FitsSpan p (on_span parts.second (boundary + letters) e)) end_is
          (subst (λ b. FitsSpan p (on_span parts.second b end)) middle_is fits.0) in
          record {
            there = (boundaries.exact boundary).1 (
              first,
              subst (Cover p parts.middle boundary) middle_is cover,
              second,
              subst (λ e. Cover p parts.tail e to) end_is tail,
            );
            asks = λ k child e. asked middle_is end_is k child e;
          }
        where
          behind_first : begins ≡ boundary + letters → end ≡ last → (j : ℕ) (child : Cell)
              → slice_get (place (parts.second ∷ parts.tail) begins (end ∷ rest)) j ≡ Some (IsCell child)
              → Asks boundary child
          behind_first m l zero child e =
              inr (subst (λ b. IsCellOf parts.second b last child) m
              (subst (λ till. IsCellOf parts.second begins till child) l (cell_of parts.second begins end child e)))
          behind_first m l (suc j) child e = absurd (none_asked parts.tail end rest tail_fixed j child e)

          asked : begins ≡ boundary + letters → end ≡ last → (k : ℕ) (child : Cell)
              → slice_get (place line from (boundary ∷ ends)) k ≡ Some (IsCell child) → Asks boundary child
          asked m l zero child e = inl (cell_of parts.first from boundary child e)
          asked m l (suc k) child e = let found = asks k child e in behind_first m l found.0 child found.1

  pub on_line : (boundary : ℕ) (ends : List ℕ) → AllByRecursion (FitsSpan p) (place line from (boundary ∷ ends))
      → AreAt to (drop (length line - 1) (boundary ∷ ends)) → length line ≤ length (boundary ∷ ends)
      → IsOnLine boundary ends
  on_line boundary ends fits closed enough =
      let back = parts.second ∷ parts.tail in
      let one : length line - 1 ≡ suc (length (parts.middle ++ back) - 1) = lengths parts.middle in
      let closed' : AreAt to (drop (length (parts.middle ++ back) - 1) ends) =
      subst (λ n. AreAt to (drop n (boundary ∷ ends))) one closed in
      with_second boundary ends fits.0
      (behind_tokens p parts.middle back boundary ends to middle_fixed (omega arith) fits.1 closed' (omega arith))
    where
      lengths : (tokens : List Arg)
          → length (parts.first ∷ tokens ++ parts.second ∷ parts.tail) - 1
          ≡ suc (length (tokens ++ parts.second ∷ parts.tail) - 1)
      lengths [] = omega arith
      lengths (other ∷ tokens) = omega arith
