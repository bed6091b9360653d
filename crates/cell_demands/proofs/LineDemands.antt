-- What arguments demand: with the first of them on a span, along a line, and by alternatives.
use Rattle.std.proofs.Common.{◌≡◌, ◌⊎◌, ◌↔◌, ℕ, ◌+◌, ◌<◌, ◌≤◌, Bool, true, false, not, ◌||◌, IsTrue, List, [], ◌∷◌}
use Rattle.std.proofs.Common.{◌++◌, length, get_or, refl, sym, subst, inl, inr, ⊎_elim, arith}
use Rattle.std.specs.Prelude.{◌==◌}
use Rattle.std.specs.List.{AllByRecursion, Contains}
use Rattle.std.specs.declared.ops.Range.{Range}
use Rattle.std.proofs.lemmas.Bool.{cases_lt, eqb-true, false≢true}
use Rattle.std.proofs.lemmas.List.{get_or_read}
use Rattle.adp_model.specs.declared.grammar.Arg.{Arg}
use Rattle.adp_model.specs.declared.grammar.Arg.TheVariants.{Rule, Literal, Letter, Run}
use Rattle.adp_model.specs.declared.cell.Cell.{Cell}
use Rattle.adp_model.specs.PosedProblem.{PosedProblem}
use Rattle.adp_model.specs.Parts.{alternatives_of, arguments_of}
use Rattle.adp_model.specs.Splits.{Placed, FitsSpan, place, ends_by}
use Rattle.adp_model.specs.Demand.{IsDemandedChild}
use Rattle.viable_splits.specs.Placing.{on_span, Cover, ArePositions}
use Rattle.split_lines.specs.declared.kept.KeptAlternative.{KeptAlternative}
use Rattle.split_lines.specs.Kept.{IsAlternative}
use Rattle.split_lines.specs.Laid.{IsCellOf, Demands, DemandsBy, IsFixed, LineParts, AreBoundaries}
use Rattle.split_lines.specs.Lines.{HasLine, parts_by}
use Rattle.split_lines.specs.Ways.{IsClosed}
use Rattle.cell_tables.specs.Marks.{CellMarks, AreMarkedFrom}
use Rattle.cell_demands.specs.Runs.{CoversBelow, DemandsBelow}
use Rattle.cell_demands.proofs.Splitting.{child_of_demands, demands_of_child, split_of_demands}
use Rattle.cell_demands.proofs.MarkSteps.{marked_like, marked_more}

module _ (p : PosedProblem) where
  -- arguments that demand a cell may have their letters
  pub cover_of_demands : (arguments : List Arg) (from to : ℕ) (cell : Cell) → Demands p arguments from to cell → Cover p arguments from to
  cover_of_demands [] from to cell none = absurd none
  cover_of_demands (argument ∷ arguments) from to cell (end, fits, inl (is, cover)) = (end, fits, cover)
  cover_of_demands (argument ∷ arguments) from to cell (end, fits, inr later) = (end, fits, cover_of_demands arguments end to cell later)

  pub cover_parts : (front back : List Arg) (from to : ℕ) → Cover p (front ++ back) from to → (middle : ℕ) × Cover p front from middle × Cover p back middle to
  cover_parts [] back from to cover = (from, refl, cover)
  cover_parts (argument ∷ front) back from to (end, fits, cover) =
      let parts = cover_parts front back end to cover in
      (parts.0, (end, fits, parts.1), parts.2)

  cover_join : (front back : List Arg) (from middle to : ℕ) → Cover p front from middle → Cover p back middle to → Cover p (front ++ back) from to
  cover_join [] back from middle to here cover = subst (λ at. Cover p back at to) (sym here) cover
  cover_join (argument ∷ front) back from middle to (end, fits, others) cover = (end, fits, cover_join front back end middle to others cover)

  pub no_cell : (argument : Arg) (from to : ℕ) (cell : Cell) → IsFixed argument → IsCellOf argument from to cell → ⊥
  no_cell (Rule rule) from to cell fixed is = fixed
  no_cell (Literal text) from to cell fixed is = let e = is.rule in absurd cc
  no_cell (Letter class) from to cell fixed is = let e = is.rule in absurd cc
  no_cell (Run class low high) from to cell fixed is = fixed

  fixed_demands_none : (tokens : List Arg) (from to : ℕ) (cell : Cell) → AllByRecursion IsFixed tokens → Demands p tokens from to cell → ⊥
  fixed_demands_none [] from to cell fixed none = none
  fixed_demands_none (token ∷ tokens) from to cell fixed (end, fits, inl (is, cover)) = no_cell token from end cell fixed.0 is
  fixed_demands_none (token ∷ tokens) from to cell fixed (end, fits, inr later) = fixed_demands_none tokens end to cell fixed.1 later

  pub demands_behind : (tokens back : List Arg) (from to : ℕ) (cell : Cell) → AllByRecursion IsFixed tokens
      → Demands p (tokens ++ back) from to cell → (middle : ℕ) × Cover p tokens from middle × Demands p back
      middle to cell
  demands_behind [] back from to cell fixed demands = (from, refl, demands)
  demands_behind (token ∷ tokens) back from to cell fixed (end, fits, inl (is, cover)) = absurd (no_cell token from end cell fixed.0 is)
  demands_behind (token ∷ tokens) back from to cell fixed (end, fits, inr later) =
      let parts = demands_behind tokens back end to cell fixed.1 later in
      (parts.0, (end, fits, parts.1), parts.2)

  pub demands_join : (tokens back : List Arg) (from middle to : ℕ) (cell : Cell) → Cover p tokens from middle
      → Demands p back middle to cell → Demands p (tokens ++ back) from to cell
  demands_join [] back from middle to cell here demands = subst (λ at. Demands p back at to cell) (sym here) demands
  demands_join (token ∷ tokens) back from middle to cell (end, fits, others) demands =
      (end, fits, inr (demands_join tokens back end middle to cell others demands))

  module _ (parts : LineParts) (from to letters last : ℕ) (positions : List ℕ)
      (middle_fixed : AllByRecursion IsFixed parts.middle) (tail_fixed : AllByRecursion IsFixed parts.tail)
      (boundaries : AreBoundaries p parts from to letters last positions) where
    abbrev line : List Arg
    line = (parts.first ∷ parts.middle) ++ (parts.second ∷ parts.tail)

    position_found : (place : ℕ) → FitsSpan p (on_span parts.first from place) → (middle end : ℕ)
        → Cover p parts.middle place middle → FitsSpan p (on_span parts.second middle end) → Cover p parts.tail end to
        → Contains positions place × (middle ≡ place + letters) × (end ≡ last)
    position_found place first middle end tokens second tail =
        let same = boundaries.one_middle place middle tokens in
        let at_last = boundaries.one_tail end tail in
        let M : ℕ → Type 0 = λ at. Cover p parts.middle place at in
        let S : ℕ → ℕ → Type 0 = λ at till. FitsSpan p (on_span parts.second at till) in
        let T : ℕ → Type 0 = λ till. Cover p parts.tail till to in
        let moved : S (place + letters) last = subst (λ at. S at last) same (subst (λ till. S middle till) at_last second) in
        ((boundaries.exact place).1 (first, subst M same tokens, moved, subst T at_last tail), same, at_last)

    pub line_cover : Cover p line from to → (place : ℕ) × Contains positions place
    line_cover (place, first, cover) =
        let parts' = cover_parts parts.middle (parts.second ∷ parts.tail) place to cover in
        let found = position_found place first parts'.0 parts'.2.0 parts'.1 parts'.2.1 parts'.2.2 in
        (place, found.0)

    pub cover_line : (place : ℕ) → Contains positions place → Cover p line from to
    cover_line place there =
        let all = (boundaries.exact place).0 there in
        (place, all.0, cover_join parts.middle (parts.second ∷ parts.tail) place (place + letters) to all.1 (last, all.2, all.3))

    -- the cells that a line demands: those of the first argument up to the boundary, and those of the second one behind it
    pub line_demands : (cell : Cell) → Demands p line from to cell
        → ((place : ℕ) × Contains positions place × IsCellOf parts.first from place cell)
        ⊎ ((place : ℕ) × Contains positions place × IsCellOf parts.second (place + letters) last cell)
    line_demands cell (place, first, inl (is, cover)) =
        let parts' = cover_parts parts.middle (parts.second ∷ parts.tail) place to cover in
        let found = position_found place first parts'.0 parts'.2.0 parts'.1 parts'.2.1 parts'.2.2 in
        inl (place, found.0, is)
    line_demands cell (place, first, inr later) =
        let behind = demands_behind parts.middle (parts.second ∷ parts.tail) place to cell middle_fixed later in
        second_demands place first cell behind.0 behind.1 behind.2
      where
        second_demands : (place : ℕ) → FitsSpan p (on_span parts.first from place) → (cell : Cell) (middle : ℕ)
            → Cover p parts.middle place middle → Demands p (parts.second ∷ parts.tail) middle to cell
            → ((place : ℕ) × Contains positions place × IsCellOf parts.first from place cell)
            ⊎ ((place : ℕ) × Contains positions place × IsCellOf parts.second (place + letters) last cell)
        second_demands place first cell middle tokens (end, second, inl (is, tail)) =
            let found = position_found place first middle end tokens second tail in
            let C : ℕ → ℕ → Type 0 = λ at till. IsCellOf parts.second at till cell in
            inr (place, found.0, subst (λ at. C at last) found.1 (subst (λ till. C middle till) found.2 is))
        second_demands place first cell middle tokens (end, second, inr later) = absurd (fixed_demands_none parts.tail end to cell tail_fixed later)

    pub first_demanded : (cell : Cell) (place : ℕ) → Contains positions place → IsCellOf parts.first from place cell → Demands p line from to cell
    first_demanded cell place there is =
        let all = (boundaries.exact place).0 there in
        (place, all.0, inl (is, cover_join parts.middle (parts.second ∷ parts.tail) place (place + letters) to all.1 (last, all.2, all.3)))

    pub second_demanded : (cell : Cell) (place : ℕ) → Contains positions place → IsCellOf parts.second (place + letters) last cell → Demands p line from to cell
    second_demanded cell place there is =
        let all = (boundaries.exact place).0 there in
        (place, all.0, inr (demands_join parts.middle (parts.second ∷ parts.tail) place (place + letters) to cell all.1 (last, all.2, inl (is, all.3))))

-- ---- arguments that begin with the first one of a line

module _ (p : PosedProblem) (arguments : List Arg) (between from to letters last : ℕ) (positions : List ℕ)
    (has : HasLine arguments between)
    (boundaries : AreBoundaries p (parts_by arguments between) from to letters last positions) where
  abbrev parts : LineParts
  parts = parts_by arguments between

  back_to_parts : (P : List Arg → Type 0) → P arguments → P ((parts.first ∷ parts.middle) ++ (parts.second ∷ parts.tail))
  back_to_parts P here = subst P has.parts.are here

  from_parts : (P : List Arg → Type 0) → P ((parts.first ∷ parts.middle) ++ (parts.second ∷ parts.tail)) → P arguments
  from_parts P here = subst P (sym has.parts.are) here

  first_is : (argument : Arg) → argument ≡ get_or arguments 0 argument → argument ≡ parts.first
  first_is argument read = get_or_read arguments 0 argument (omega (arith, has.several)) read (Rule 0)

  second_is : (argument : Arg) → argument ≡ get_or arguments (between + 1) argument → argument ≡ parts.second
  second_is argument read = get_or_read arguments (between + 1) argument has.several read (Rule 0)

  pub demands_first : (argument : Arg) → argument ≡ get_or arguments 0 argument → (cell : Cell) (place : ℕ)
      → Contains positions place → IsCellOf argument from place cell → Demands p arguments from to cell
  demands_first argument read cell place there is =
      from_parts (λ all. Demands p all from to cell)
      (first_demanded p parts from to letters last positions has.parts.middle_fixed has.parts.tail_fixed boundaries cell
      place there (subst (λ it. IsCellOf it from place cell) (first_is argument read) is))

  pub demands_second : (argument : Arg) → argument ≡ get_or arguments (between + 1) argument → (cell : Cell) (place : ℕ)
      → Contains positions place → IsCellOf argument (place + letters) last cell → Demands p arguments from to cell
  demands_second argument read cell place there is =
      from_parts (λ all. Demands p all from to cell)
      (second_demanded p parts from to letters last positions has.parts.middle_fixed has.parts.tail_fixed boundaries
      cell place there (subst (λ it. IsCellOf it (place + letters) last cell) (second_is argument read) is))

  pub demanded_by_line : (first second : Arg) → first ≡ get_or arguments 0 first
      → second ≡ get_or arguments (between + 1) second → (cell : Cell) → Demands p arguments from to cell
      → ((place : ℕ) × Contains positions place × IsCellOf first from place cell)
      ⊎ ((place : ℕ) × Contains positions place × IsCellOf second (place + letters) last cell)
  demanded_by_line first second read read' cell demands =
      ⊎_elim
      (λ (place, there, is). inl (place, there, subst (λ it. IsCellOf it from place cell) (sym (first_is first read)) is))
      (λ (place, there, is). inr (place, there, subst (λ it. IsCellOf it (place + letters) last cell) (sym (second_is second read')) is))
      (line_demands p parts from to letters last positions has.parts.middle_fixed has.parts.tail_fixed boundaries cell
      (back_to_parts (λ all. Demands p all from to cell) demands))

  -- the line may have the letters where the boundary has a place
  pub cover_told : (is_empty : Bool) → is_empty ≡ (length positions == 0) → IsTrue (not is_empty) ↔ Cover p arguments from to
  cover_told true e = (
    λ none. absurd cc,
    λ cover.
        let there = line_cover p parts from to letters last positions has.parts.middle_fixed has.parts.tail_fixed
        boundaries (back_to_parts (λ all. Cover p all from to) cover) in
        let none : length positions ≡ 0 = eqb-true (length positions) 0 (sym e) in
        let at = there.1 in
        absurd (omega (arith, at.1)),
  )
  cover_told false e = (
    λ some. from_parts (λ all. Cover p all from to)
        (cover_line p parts from to letters last positions has.parts.middle_fixed has.parts.tail_fixed boundaries
        (get_or positions 0 0) (some_position positions e)),
    λ cover. refl,
  )
    where
      some_position : (positions : List ℕ) → false ≡ (length positions == 0) → Contains positions (get_or positions 0 0)
      some_position [] e = absurd cc
      some_position (place ∷ positions) e = (0, omega arith, refl)

-- ---- the first argument, end by end

module _ (p : PosedProblem) (argument : Arg) (others : List Arg) (from to low end : ℕ) where
  last_or_before : (high : ℕ) → high < end + 1 → (high < end) ⊎ (high ≡ end)
  last_or_before high l = elim (cases_lt high end) [ inl before ↦ inl before | inr behind ↦ inr (omega arith) ]

  covers_cases : CoversBelow p argument others from to low (end + 1) → CoversBelow p argument others from to low end ⊎ Cover p others end to
  covers_cases (at, l, m, fits, cover) =
      ⊎_elim (λ before. inl (at, l, before, fits, cover)) (λ e. inr (subst (λ x. Cover p others x to) e cover)) (last_or_before at m)

  demands_cases : (cell : Cell) → DemandsBelow p argument others from to low (end + 1) cell
      → DemandsBelow p argument others from to low end cell ⊎ ((IsCellOf argument from end cell × Cover p others end to) ⊎ Demands p others end to cell)
  demands_cases cell (at, l, m, fits, some) =
      ⊎_elim (λ before. inl (at, l, before, fits, some))
      (λ e. inr (subst (λ x. (IsCellOf argument from x cell × Cover p others x to) ⊎ Demands p others x to cell) e some)) (last_or_before at m)

  demands_keep : (cell : Cell) → DemandsBelow p argument others from to low end cell → DemandsBelow p argument others from to low (end + 1) cell
  demands_keep cell (at, l, m, fits, some) = (at, l, omega arith, fits, some)

  module _ (fits : FitsSpan p (on_span argument from end)) (above : low ≤ end) (begin : ℕ)
      (first second third : CellMarks)
      (before : AreMarkedFrom begin first second (DemandsBelow p argument others from to low end))
      (here : AreMarkedFrom begin second third (Demands p others end to)) where
    -- the others may not have the letters behind this end: nothing was marked
    pub marked_none : (Cover p others end to → ⊥) → AreMarkedFrom begin first third (DemandsBelow p argument others from to low (end + 1))
    marked_none none =
        marked_like begin first third (λ cell. DemandsBelow p argument others from to low end cell
        ⊎ Demands p others end to cell) (DemandsBelow p argument others from to low (end + 1))
        (λ cell some. ⊎_elim (demands_keep cell) (λ demands. absurd (none (cover_of_demands p others end to cell demands))) some)
        (λ cell demands. ⊎_elim (λ was. inl was) (λ now. ⊎_elim (λ (is, cover). absurd (none cover)) (λ later. inr later) now) (demands_cases cell demands))
        (marked_more begin first second third (DemandsBelow p argument others from to low end) (Demands p others end to) before here)

    pub marked_some : (fourth : CellMarks) → Cover p others end to
        → AreMarkedFrom begin third fourth (IsCellOf argument from end)
        → AreMarkedFrom begin first fourth (DemandsBelow p argument others from to low (end + 1))
    marked_some fourth cover last =
        marked_like begin first fourth
        (λ cell. (DemandsBelow p argument others from to low end cell ⊎ Demands p others end to cell)
        ⊎ IsCellOf argument from end cell) (DemandsBelow p argument others from to low (end + 1))
        (λ cell some. ⊎_elim (λ early. ⊎_elim (demands_keep cell) (λ later. (end, above, omega arith, fits, inr later))
        early) (λ is. (end, above, omega arith, fits, inl (is, cover))) some)
        (λ cell demands. ⊎_elim (λ was. inl (inl was)) (λ now. ⊎_elim (λ (is, _). inr is) (λ later. inl (inr later)) now) (demands_cases cell demands))
        (marked_more begin first third fourth (λ cell. DemandsBelow p argument others from to low end cell
        ⊎ Demands p others end to cell) (IsCellOf argument from end)
        (marked_more begin first second third (DemandsBelow p argument others from to low end) (Demands p others end to) before here) last)

  pub covers_none : (was : Bool) → IsTrue was ↔ CoversBelow p argument others from to low end
      → (Cover p others end to → ⊥) → IsTrue was ↔ CoversBelow p argument others from to low (end + 1)
  covers_none was told none = (
    λ is. let c = told.0 is in (c.0, c.1, omega (arith, c.2), c.3, c.4),
    λ covers. ⊎_elim (λ early. told.1 early) (λ cover. absurd (none cover)) (covers_cases covers),
  )

-- ---- one range of ends behind another

module _ (p : PosedProblem) (argument : Arg) (others : List Arg) (from to low middle high : ℕ)
    (above : low ≤ middle) (behind : middle ≤ high) where
  abbrev Covers : ℕ → ℕ → Type 0
  Covers = CoversBelow p argument others from to

  abbrev IsDemanded : ℕ → ℕ → Cell → Type 0
  IsDemanded = DemandsBelow p argument others from to

  pub covers_more : (early late : Bool) → IsTrue early ↔ Covers low middle → IsTrue late ↔ Covers middle high
      → IsTrue (early || late) ↔ Covers low high
  covers_more true late before after = (
    λ _. let c = before.0 refl in (c.0, c.1, omega (arith, c.2), c.3, c.4),
    λ _. refl,
  )
  covers_more false late before after = (
    λ is. let c = after.0 is in (c.0, omega (arith, c.1), c.2, c.3, c.4),
    λ (at, l, m, fits, cover). elim (cases_lt at middle) [
      | inl early ↦ absurd (false≢true (before.1 (at, l, early, fits, cover)))
      | inr late ↦ after.1 (at, late, m, fits, cover)
    ],
  )

  pub demands_more : (begin : ℕ) (first second third : CellMarks)
      → AreMarkedFrom begin first second (IsDemanded low middle)
      → AreMarkedFrom begin second third (IsDemanded middle high)
      → AreMarkedFrom begin first third (IsDemanded low high)
  demands_more begin first second third before after =
      marked_like begin first third (λ cell. IsDemanded low middle cell ⊎ IsDemanded middle high cell)
      (IsDemanded low high)
      (λ cell some. ⊎_elim
      (λ (at, l, m, fits, demands). (at, l, omega arith, fits, demands))
      (λ (at, l, m, fits, demands). (at, omega arith, m, fits, demands)) some)
      (λ cell (at, l, m, fits, demands).
      ⊎_elim (λ early. inl (at, l, early, fits, demands)) (λ late. inr (at, late, m, fits, demands))
      (cases_lt at middle))
      (marked_more begin first second third (IsDemanded low middle) (IsDemanded middle high) before after)

-- ---- all ends of the first argument

module _ (p : PosedProblem) (argument : Arg) (others : List Arg) (from to : ℕ) (positions : Range ℕ) (past : ℕ)
    (are : ArePositions p argument others from to positions) (whole : positions.end ≤ past) where
  pub all_covered : (is_laid : Bool) → IsTrue is_laid ↔ CoversBelow p argument others from to positions.start past
      → IsTrue is_laid ↔ Cover p (argument ∷ others) from to
  all_covered is_laid told = (
    λ is. let c = told.0 is in (c.0, c.3, c.4),
    λ (end, fits, cover). let within = are.none_missed end fits cover in told.1 (end, within.0, omega (arith, within.1), fits, cover),
  )

  pub all_marked : (begin : ℕ) (first second : CellMarks)
      → AreMarkedFrom begin first second (DemandsBelow p argument others from to positions.start past)
      → AreMarkedFrom begin first second (Demands p (argument ∷ others) from to)
  all_marked begin first second marked =
      marked_like begin first second (DemandsBelow p argument others from to positions.start past) (Demands p (argument ∷ others) from to)
      (λ cell (end, l, m, fits, some). (end, fits, some))
      (λ cell (end, fits, some).
      let cover = ⊎_elim (λ (is, cover). cover) (λ later. cover_of_demands p others end to cell later) some in
      let within = are.none_missed end fits cover in
      (end, within.0, omega (arith, within.1), fits, some))
      marked

-- ---- alternative by alternative

-- one of the first alternatives of the cell's rule demands the child
abbrev pub DemandsByFirst : PosedProblem → Cell → ℕ → Cell → Type 0
DemandsByFirst p cell count child =
    (alternative : ℕ) × (alternative < count) × DemandsBy p cell alternative child

module _ (p : PosedProblem) (cell : Cell) where
  pub one_more_alternative : (begin count : ℕ) (first second third : CellMarks)
      → AreMarkedFrom begin first second (DemandsByFirst p cell count)
      → AreMarkedFrom begin second third (DemandsBy p cell count)
      → AreMarkedFrom begin first third (DemandsByFirst p cell (count + 1))
  one_more_alternative begin count first second third before here =
      marked_like begin first third (λ child. DemandsByFirst p cell count child ⊎ DemandsBy p cell count child) (DemandsByFirst p cell (count + 1))
      (λ child some. ⊎_elim (λ (alternative, l, demands). (alternative, omega arith, demands)) (λ demands. (count, omega arith, demands)) some)
      (λ child (alternative, l, demands).
      ⊎_elim (λ early. inl (alternative, early, demands))
      (λ same. let e : alternative ≡ count = omega arith in inr (subst (λ n. DemandsBy p cell n child) e demands))
      (cases_lt alternative count))
      (marked_more begin first second third (DemandsByFirst p cell count) (DemandsBy p cell count) before here)

  -- an alternative by which the cell has no split demands nothing
  pub closed_demands : (kept : KeptAlternative) (alternative : ℕ)
      → alternative < length (alternatives_of p.grammar cell.rule)
      → length (arguments_of p.grammar cell.rule alternative) ≤ 4 → IsAlternative p cell.rule alternative kept
      → IsClosed p kept cell
      → (child : Cell) → DemandsBy p cell alternative child → ⊥
  closed_demands kept alternative in_range few is closed child demands =
      let split = split_of_demands p cell alternative child in_range few demands in
      closed alternative split.0 is split.1

  -- alternatives that demand nothing may be passed over
  pub passed_over : (begin count next : ℕ) (first second : CellMarks) → count ≤ next
      → ((alternative : ℕ) → count ≤ alternative → alternative < next → (child : Cell)
      → DemandsBy p cell alternative child → ⊥)
      → AreMarkedFrom begin first second (DemandsByFirst p cell count) → AreMarkedFrom begin first second (DemandsByFirst p cell next)
  passed_over begin count next first second ahead none marked =
      marked_like begin first second (DemandsByFirst p cell count) (DemandsByFirst p cell next)
      (λ child (alternative, l, demands). (alternative, omega arith, demands))
      (λ child (alternative, l, demands).
      ⊎_elim (λ early. (alternative, early, demands))
      (λ late. absurd (none alternative late l child demands))
      (cases_lt alternative count))
      marked

  -- what all alternatives demand are the children
  module _ (few : (alternative : ℕ) → length (arguments_of p.grammar cell.rule alternative) ≤ 4) where
    some_arguments : {it : Placed} (arguments : List Arg) (from : ℕ) (ends : List ℕ) → Contains (place arguments from ends) it → 1 ≤ length arguments
    some_arguments [] from ends (k, l, e) = absurd (omega arith)
    some_arguments (argument ∷ arguments) from ends stands = omega arith

    pub child_of_first : (child : Cell) → DemandsByFirst p cell (length (alternatives_of p.grammar cell.rule)) child → IsDemandedChild p cell child
    child_of_first child (alternative, l, demands) = child_of_demands p cell alternative child l (few alternative) demands

    pub first_of_child : (child : Cell) → IsDemandedChild p cell child → DemandsByFirst p cell (length (alternatives_of p.grammar cell.rule)) child
    first_of_child child (alternative, cuts, viable, stands) = (
      alternative,
      viable.in_range,
      (
        viable.allowed,
        demands_of_child p cell alternative cuts child
            (some_arguments (arguments_of p.grammar cell.rule alternative) cell.from (ends_by cell cuts) stands)
            (few alternative) viable stands,
      ),
    )

    pub all_alternatives : (begin : ℕ) (first second : CellMarks)
        → AreMarkedFrom begin first second (DemandsByFirst p cell (length (alternatives_of p.grammar cell.rule)))
        → AreMarkedFrom begin first second (IsDemandedChild p cell)
    all_alternatives begin first second =
        marked_like begin first second (DemandsByFirst p cell (length (alternatives_of p.grammar cell.rule))) (IsDemandedChild p cell)
        child_of_first first_of_child
