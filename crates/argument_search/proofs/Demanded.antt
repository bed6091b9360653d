-- What an alternative's splits ask for is what its arguments demand between the ends of the cell.
use Rattle.std.proofs.Common.{◌≡◌, ℕ, zero, suc, ◌+◌, ◌-◌, ◌≤◌, ◌<◌, inl, inr, Some, List, [], ◌∷◌, ◌++◌, length, drop, slice_get, refl, sym, subst, arith}
use Rattle.std.specs.List.{AllByRecursion, Contains}
use Rattle.adp_model.specs.declared.grammar.Arg.{Arg}
use Rattle.adp_model.specs.declared.grammar.Arg.TheVariants.{Rule, Literal, Letter, Run}
use Rattle.adp_model.specs.declared.cell.Cell.{Cell}
use Rattle.adp_model.specs.PosedProblem.{PosedProblem}
use Rattle.adp_model.specs.Parts.{arguments_of}
use Rattle.adp_model.specs.Splits.{place, ends_by, FitsSpan}
use Rattle.viable_splits.specs.Placing.{on_span, Cover}
use Rattle.split_lines.specs.Laid.{IsFixed, IsCellOf, Demands, LineParts, AreBoundaries}
use Rattle.split_lines.specs.Lines.{HasLine, parts_by}
use Rattle.argument_search.specs.Seeking.{AreAllNoted}
use Rattle.argument_search.specs.Skipping.{AreNotedOn}
use Rattle.argument_search.proofs.LineSplits.{AreAt, IsCell, cell_of}
use Rattle.argument_search.proofs.PlacedArguments.{length_ends}

module _ (p : PosedProblem) where
  -- ---- cuts

  cover_of_cuts : (argument : Arg) (arguments : List Arg) (from to : ℕ) (ends : List ℕ)
      → AllByRecursion (FitsSpan p) (place (argument ∷ arguments) from ends)
      → AreAt to (drop (length arguments) ends) → length arguments < length ends
      → Cover p (argument ∷ arguments) from to
  cover_of_cuts argument arguments from to [] fits closed enough = absurd (omega arith)
  cover_of_cuts argument [] from to (end ∷ ends) fits closed enough = (end, fits.0, closed.0)
  cover_of_cuts argument (next ∷ arguments) from to (end ∷ ends) fits closed enough =
      (end, fits.0, cover_of_cuts next arguments end to ends fits.1 closed (omega arith))

  demands_of_cuts : (argument : Arg) (arguments : List Arg) (from to : ℕ) (ends : List ℕ) (k : ℕ) (child : Cell)
      → AllByRecursion (FitsSpan p) (place (argument ∷ arguments) from ends)
      → AreAt to (drop (length arguments) ends) → length arguments < length ends
      → slice_get (place (argument ∷ arguments) from ends) k ≡ Some (IsCell child)
      → Demands p (argument ∷ arguments) from to child
  demands_of_cuts argument arguments from to [] k child fits closed enough there = absurd (omega arith)
  demands_of_cuts argument [] from to (end ∷ ends) zero child fits closed enough there =
      (end, fits.0, inl (cell_of argument from end child there, closed.0))
  demands_of_cuts argument [] from to (end ∷ ends) (suc k) child fits closed enough there = absurd cc
  demands_of_cuts argument (next ∷ arguments) from to (end ∷ ends) zero child fits closed enough there = (
    end,
    fits.0,
    inl (
      cell_of argument from end child there,
      cover_of_cuts next arguments end to ends fits.1 closed (omega arith),
    ),
  )
  demands_of_cuts argument (next ∷ arguments) from to (end ∷ ends) (suc k) child fits closed enough there =
      (end, fits.0, inr (demands_of_cuts next arguments end to ends k child fits.1 closed (omega arith) there))

  -- what a split asks for its arguments demand
  pub all_noted : (Noted : Cell → Type 0) (cell : Cell) (alternative : ℕ) (arguments : List Arg)
      → arguments_of p.grammar cell.rule alternative ≡ arguments → 1 ≤ length arguments → length arguments ≤ 4
      → AreNotedOn p Noted arguments cell.from cell.to → AreAllNoted p Noted cell alternative
  all_noted Noted cell alternative arguments same some few noted cuts number child asks =
      noted child
      (go arguments some few (subst (λ xs. AllByRecursion (FitsSpan p) (place xs cell.from (ends_by cell cuts))) same asks.viable.fits)
      (subst (λ (xs : List Arg). AreAt cell.to (drop (length xs - 1) (ends_by cell cuts))) same asks.viable.last)
      (subst (λ xs. slice_get (place xs cell.from (ends_by cell cuts)) number ≡ Some (IsCell child)) same asks.there))
    where
      go : (arguments : List Arg) → 1 ≤ length arguments → length arguments ≤ 4
          → AllByRecursion (FitsSpan p) (place arguments cell.from (ends_by cell cuts))
          → AreAt cell.to (drop (length arguments - 1) (ends_by cell cuts))
          → slice_get (place arguments cell.from (ends_by cell cuts)) number ≡ Some (IsCell child)
          → Demands p arguments cell.from cell.to child
      go [] some few fits closed there = absurd (omega arith)
      go (argument ∷ arguments) some few fits closed there =
          let fewer : suc (length arguments) - 1 ≡ length arguments = omega arith in
          demands_of_cuts argument arguments cell.from cell.to (ends_by cell cuts) number child fits
          (subst (λ n. AreAt cell.to (drop n (ends_by cell cuts))) fewer closed)
          (omega (arith, length_ends cuts cell.to, asks.viable.three, few)) there

  -- ---- tokens of fixed length

  pub cover_of_demands : (arguments : List Arg) (from to : ℕ) (child : Cell) → Demands p arguments from to child
      → Cover p arguments from to
  cover_of_demands [] from to child none = absurd none
  cover_of_demands (argument ∷ arguments) from to child (end, fits, inl (is, cover)) = (end, fits, cover)
  cover_of_demands (argument ∷ arguments) from to child (end, fits, inr later) =
      (end, fits, cover_of_demands arguments end to child later)

  pub no_cell : (token : Arg) (from to : ℕ) (child : Cell) → IsFixed token → IsCellOf token from to child → ⊥
  no_cell (Rule rule) from to child fixed is = fixed
  no_cell (Literal text) from to child fixed is = let e = is.rule in absurd cc
  no_cell (Letter class) from to child fixed is = let e = is.rule in absurd cc
  no_cell (Run class low high) from to child fixed is = fixed

  none_demanded : (tokens : List Arg) (from to : ℕ) (child : Cell) → AllByRecursion IsFixed tokens
      → Demands p tokens from to child → ⊥
  none_demanded [] from to child fixed none = none
  none_demanded (token ∷ tokens) from to child fixed (end, fits, inl (is, cover)) =
      no_cell token from end child fixed.0 is
  none_demanded (token ∷ tokens) from to child fixed (end, fits, inr later) =
      none_demanded tokens end to child fixed.1 later

  demands_behind : (tokens back : List Arg) (from to : ℕ) (child : Cell) → AllByRecursion IsFixed tokens
      → Demands p (tokens ++ back) from to child → (middle : ℕ) × Cover p tokens from middle × Demands p back middle to child
  demands_behind [] back from to child fixed demands = (from, refl, demands)
  demands_behind (token ∷ tokens) back from to child fixed (end, fits, inl (is, cover)) =
      absurd (no_cell token from end child fixed.0 is)
  demands_behind (token ∷ tokens) back from to child fixed (end, fits, inr later) =
      let behind = demands_behind tokens back end to child fixed.1 later in
      (behind.0, (end, fits, behind.1), behind.2)

  cover_behind : (tokens back : List Arg) (from to : ℕ) → Cover p (tokens ++ back) from to
      → (middle : ℕ) × Cover p tokens from middle × Cover p back middle to
  cover_behind [] back from to cover = (from, refl, cover)
  cover_behind (token ∷ tokens) back from to (end, fits, cover) =
      let behind = cover_behind tokens back end to cover in
      (behind.0, (end, fits, behind.1), behind.2)

  -- ---- tokens in front

  module _ (Noted : Cell → Type 0) (front others : List Arg) (from to : ℕ) (fixed : AllByRecursion IsFixed front) where
    pub noted_behind : (end : ℕ) → ((other : ℕ) → Cover p front from other → other ≡ end) → AreNotedOn p Noted others end to
        → AreNotedOn p Noted (front ++ others) from to
    noted_behind end only noted child demands =
        let behind = demands_behind front others from to child fixed demands in
        noted child (subst (λ at. Demands p others at to child) (only behind.0 behind.1) behind.2)

  -- ---- the last argument

  pub noted_last : (Noted : Cell → Type 0) (arguments : List Arg) (argument : Arg) (from to : ℕ)
      → arguments ≡ argument ∷ [] → ((child : Cell) → IsCellOf argument from to child → Noted child)
      → AreNotedOn p Noted arguments from to
  noted_last Noted arguments argument from to one noted child demands =
      go (subst (λ xs. Demands p xs from to child) one demands)
    where
      go : Demands p (argument ∷ []) from to child → Noted child
      go (end, fits, inl (is, closed)) = noted child (subst (λ at. IsCellOf argument from at child) closed is)
      go (end, fits, inr none) = absurd none

  -- ---- a line

  module _ (parts : LineParts) (from to letters last : ℕ) (positions : List ℕ)
      (boundaries : AreBoundaries p parts from to letters last positions) where
    position_found : (at : ℕ) → FitsSpan p (on_span parts.first from at) → (middle end : ℕ)
        → Cover p parts.middle at middle → FitsSpan p (on_span parts.second middle end) → Cover p parts.tail end to
        → Contains positions at × (middle ≡ at + letters) × (end ≡ last)
    position_found at first middle end tokens second tail =
        let same = boundaries.one_middle at middle tokens in
        let closed = boundaries.one_tail end tail in
        let moved : FitsSpan p (on_span parts.second (at + letters) last) =
        subst (λ x. FitsSpan p (on_span parts.second x last)) same
        (subst (λ x. FitsSpan p (on_span parts.second middle x)) closed second) in (
          (boundaries.exact at).1 (
            first,
            subst (λ x. Cover p parts.middle at x) same tokens,
            moved,
            subst (λ x. Cover p parts.tail x to) closed tail,
          ),
          same,
          closed,
        )

    position_of_cover : Cover p (parts.first ∷ parts.middle ++ parts.second ∷ parts.tail) from to
        → (place : ℕ) × Contains positions place
    position_of_cover (at, first, cover) =
        let behind = cover_behind parts.middle (parts.second ∷ parts.tail) at to cover in
        (at, (position_found at first behind.0 behind.2.0 behind.1 behind.2.1 behind.2.2).0)

  -- where its arguments are laid, its boundary has a place
  pub line_stands : (arguments : List Arg) (between from to letters last : ℕ) (positions : List ℕ)
      → HasLine arguments between
      → AreBoundaries p (parts_by arguments between) from to letters last positions → Cover p arguments from to
      → (place : ℕ) × Contains positions place
  line_stands arguments between from to letters last positions has boundaries cover =
      position_of_cover (parts_by arguments between) from to letters last positions boundaries
      (subst (λ (xs : List Arg). Cover p xs from to) has.parts.are cover)

  module _ (Noted : Cell → Type 0) (parts : LineParts) (from to letters last : ℕ) (positions : List ℕ)
      (middle_fixed : AllByRecursion IsFixed parts.middle) (tail_fixed : AllByRecursion IsFixed parts.tail)
      (boundaries : AreBoundaries p parts from to letters last positions)
      (first_noted : (place : ℕ) → Contains positions place → (child : Cell) → IsCellOf parts.first from place child
      → Noted child)
      (second_noted : (place : ℕ) → Contains positions place → (child : Cell)
      → IsCellOf parts.second (place + letters) last child → Noted child) where
    pub noted_along : AreNotedOn p Noted (parts.first ∷ parts.middle ++ parts.second ∷ parts.tail) from to
    noted_along child (at, first, inl (is, cover)) =
        let behind = cover_behind parts.middle (parts.second ∷ parts.tail) at to cover in
        let found = position_found parts from to letters last positions boundaries at first behind.0 behind.2.0 behind.1 behind.2.1 behind.2.2 in
        first_noted at found.0 child is
    noted_along child (at, first, inr later) =
        let behind = demands_behind parts.middle (parts.second ∷ parts.tail) at to child middle_fixed later in
        go behind.0 behind.1 behind.2
      where
        go : (middle : ℕ) → Cover p parts.middle at middle → Demands p (parts.second ∷ parts.tail) middle to child
            → Noted child
        go middle tokens (end, second, inl (is, tail)) =
            let found = position_found parts from to letters last positions boundaries at first middle end tokens second tail in
            second_noted at found.0 child
            (subst (λ x. IsCellOf parts.second x last child) found.1
            (subst (λ x. IsCellOf parts.second middle x child) found.2 is))
        go middle tokens (end, second, inr none) =
            absurd (none_demanded parts.tail end to child tail_fixed none)

  pub line_noted : (Noted : Cell → Type 0) (arguments : List Arg) (between from to letters last : ℕ)
      (positions : List ℕ) → HasLine arguments between
      → AreBoundaries p (parts_by arguments between) from to letters last positions
      → ((place : ℕ) → Contains positions place → (child : Cell)
      → IsCellOf (parts_by arguments between).first from place child → Noted child)
      → ((place : ℕ) → Contains positions place → (child : Cell)
      → IsCellOf (parts_by arguments between).second (place + letters) last child → Noted child)
      → AreNotedOn p Noted arguments from to
  line_noted Noted arguments between from to letters last positions has boundaries first second =
      subst (λ (xs : List Arg). AreNotedOn p Noted xs from to) (sym has.parts.are)
      (noted_along Noted (parts_by arguments between) from to letters last positions has.parts.middle_fixed
      has.parts.tail_fixed boundaries first second)
