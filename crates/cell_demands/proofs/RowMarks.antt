-- Bits and marks, one after another, and what cells of a row demand, argument by argument.
use Rattle.std.proofs.Common.{◌≡◌, ◌⊎◌, ◌↔◌, ℕ, ◌+◌, ◌<◌, ◌≤◌, Option, Some, None, IfSome, List, [], ◌∷◌, length, refl, sym, ap, subst, ◌∙◌, inl, inr, ⊎_elim, arith}
use Rattle.std.specs.declared.ops.Range.{Range}
use Rattle.std.proofs.lemmas.Bool.{cases_lt, cases_eq}
use Rattle.adp_model.specs.declared.grammar.Arg.{Arg}
use Rattle.adp_model.specs.declared.grammar.Arg.TheVariants.{Rule}
use Rattle.adp_model.specs.declared.cell.Cell.{Cell}
use Rattle.adp_model.specs.PosedProblem.{PosedProblem}
use Rattle.adp_model.specs.Splits.{FitsSpan}
use Rattle.viable_splits.specs.Placing.{AreEnds, on_span}
use Rattle.cell_tables.specs.Bits.{IsBitOf}
use Rattle.cell_tables.specs.Marks.{CellMarks, AreInRows, AreMarkedToo}
use Rattle.cell_demands.specs.declared.rows.Positions.{Positions}
use Rattle.cell_demands.specs.LetterRows.{AreBegun}
use Rattle.cell_demands.specs.PlaceBits.{HasBit, HaveBitsToo, IsLastBit}
use Rattle.cell_demands.specs.Rows.{AreInWord, AreMarkedInRows, DemandsOfRow, GoesOn, IsAmong, IsBetween, IsReachedBy, LeadsOn}
use Rattle.cell_demands.proofs.MarkSteps.{same_rule, too_like, too_more, too_none}
use Rattle.cell_demands.proofs.PlaceBits.{cut_to_set, within_all}

-- ---- bits

pub bits_none : (bits : List ℕ) (Holds : ℕ → Type 0) → ((place : ℕ) → Holds place → ⊥) → HaveBitsToo bits bits Holds
bits_none bits Holds none = record {
  as_many = refl;
  exact = λ place. (λ bit. inl bit, λ some. ⊎_elim (λ bit. bit) (λ holds. absurd (none place holds)) some);
}

pub bits_like : (old new : List ℕ) (Holds Other : ℕ → Type 0) → ((place : ℕ) → Holds place → Other place)
    → ((place : ℕ) → Other place → Holds place) → HaveBitsToo old new Holds → HaveBitsToo old new Other
bits_like old new Holds Other there back bits = record {
  as_many = bits.as_many;
  exact = λ place. (
    λ bit. ⊎_elim (λ was. inl was) (λ holds. inr (there place holds)) ((bits.exact place).0 bit),
    λ some. (bits.exact place).1 (⊎_elim (λ was. inl was) (λ other. inr (back place other)) some),
  );
}

pub bits_more : (first second third : List ℕ) (Holds Other : ℕ → Type 0) → HaveBitsToo first second Holds
    → HaveBitsToo second third Other → HaveBitsToo first third (λ place. Holds place ⊎ Other place)
bits_more first second third Holds Other before after = record {
  as_many = after.as_many ∙ before.as_many;
  exact = λ place. (
    λ bit. ⊎_elim
        (λ was. ⊎_elim (λ early. inl early) (λ holds. inr (inl holds)) ((before.exact place).0 was))
        (λ other. inr (inr other)) ((after.exact place).0 bit),
    λ some. (after.exact place).1 (⊎_elim
        (λ early. inl ((before.exact place).1 (inl early)))
        (λ either. ⊎_elim (λ holds. inl ((before.exact place).1 (inr holds))) (λ other. inr other) either) some),
  );
}

-- ---- marks in rows

pub rows_none : (marks : CellMarks) (Holds : Cell → Type 0) → ((cell : Cell) → Holds cell → ⊥) → AreMarkedInRows marks marks Holds
rows_none marks Holds none = record {
  marked = too_none marks Holds none;
  in_rows = λ cell holds. absurd (none cell holds);
}

pub rows_like : (old new : CellMarks) (Holds Other : Cell → Type 0) → ((cell : Cell) → Holds cell → Other cell)
    → ((cell : Cell) → Other cell → Holds cell) → AreMarkedInRows old new Holds → AreMarkedInRows old new Other
rows_like old new Holds Other there back marks = record {
  marked = too_like old new Holds Other there back marks.marked;
  in_rows = λ cell other. marks.in_rows cell (back cell other);
}

pub rows_more : (first second third : CellMarks) (Holds Other : Cell → Type 0) → AreMarkedInRows first second Holds
    → AreMarkedInRows second third Other → AreMarkedInRows first third (λ cell. Holds cell ⊎ Other cell)
rows_more first second third Holds Other before after = record {
  marked = too_more first second third Holds Other before.marked after.marked;
  in_rows = λ cell some. ⊎_elim (λ holds. after.marked.rows_stay cell (before.in_rows cell holds)) (λ other. after.in_rows cell other) some;
}

-- ---- the ends of an argument, among positions behind it

module _ (p : PosedProblem) (argument : Arg) (from : ℕ) (behind : Positions) (within : AreInWord p behind)
    (ends : Range ℕ) (are : AreEnds p argument from (length p.word) ends) where
  -- an end that the argument may have stands in the range
  end_in_range : (end : ℕ) → FitsSpan p (on_span argument from end) → (ends.start ≤ end) × (end < ends.end)
  end_in_range end fits = (are.exact end fits.0.in_word).0 fits

  pub none_without : ends.end ≤ ends.start → GoesOn p argument (IsAmong behind) from → ⊥
  none_without closed (end, fits, among) = let range = end_in_range end fits in omega (arith, closed, range)

  -- the ends of the range that are among these positions
  module _ (first past : ℕ) (low : (behind.first ≤ first) × (ends.start ≤ first))
      (lowest : (at : ℕ) → behind.first ≤ at → ends.start ≤ at → first ≤ at)
      (high : (past ≤ behind.past) × (past ≤ ends.end))
      (highest : (at : ℕ) → at < behind.past → at < ends.end → at < past) where
    pub end_of_bit : (end : ℕ) → IsBitOf behind.bits.now first past end → FitsSpan p (on_span argument from end) × IsAmong behind end
    end_of_bit end bit = (
      (are.exact end (omega (arith, bit.before, high, within.within))).1 (omega (arith, bit.from_first, low), omega (arith, bit.before, high)),
      record {
        from_first = omega (arith, bit.from_first, low);
        before = omega (arith, bit.before, high);
        bit = bit.bit;
      },
    )

    pub bit_of_end : (end : ℕ) → FitsSpan p (on_span argument from end) → IsAmong behind end → IsBitOf behind.bits.now first past end
    bit_of_end end fits among =
        let range = end_in_range end fits in
        record {
          from_first = lowest end among.from_first range.0;
          before = highest end among.before range.1;
          bit = among.bit;
        }

    module _ (rule : ℕ) (is : argument ≡ Rule rule) (least last : ℕ) (from_first : first ≤ least)
        (none_before : (place : ℕ) → first ≤ place → place < least → HasBit behind.bits.now place → ⊥)
        (most : IsLastBit behind.bits.now first past last) where
      abbrev IsMarkedEnd : Cell → Type 0
      IsMarkedEnd cell = (cell.rule ≡ rule) × (cell.from ≡ from) × IsBitOf behind.bits.now least (last + 1) cell.to

      abbrev IsItsCell : Cell → Type 0
      IsItsCell = IsBetween p argument (λ at. at ≡ from) (IsAmong behind)

      pub its_cell : (cell : Cell) → IsMarkedEnd cell → IsItsCell cell
      its_cell cell (e, e', bit) =
          let end = end_of_bit cell.to (within_all behind.bits.now first past least last from_first none_before most cell.to bit) in
          (from, cell.to, refl, end.0, end.1, record { rule = is ∙ ap Rule (sym e); begins = sym e'; ends = refl })

      marked_end : (cell : Cell) → IsItsCell cell → IsMarkedEnd cell
      marked_end cell (at, end, same, fits, among, its) =
          let F : ℕ → Type 0 = λ k. FitsSpan p (on_span argument k end) in
          let bit = cut_to_set behind.bits.now first past least last from_first none_before most end (bit_of_end end (subst F same fits) among) in
          (same_rule argument rule cell.rule is its.rule, sym its.begins ∙ same, subst (IsBitOf behind.bits.now least (last + 1)) its.ends bit)

      pub ends_marked_in_rows : (old new : CellMarks) → AreMarkedToo old new IsMarkedEnd → AreInRows new IsMarkedEnd
          → AreMarkedInRows old new IsItsCell
      ends_marked_in_rows old new marked rows =
          rows_like old new IsMarkedEnd IsItsCell its_cell marked_end (record { marked = marked; in_rows = rows })

-- an argument that is no rule has no cells
pub no_cells : (p : PosedProblem) (argument : Arg) (IsReached IsBehind : ℕ → Type 0) → ((rule : ℕ) → argument ≡ Rule rule → ⊥)
    → (marks : CellMarks) → AreMarkedInRows marks marks (IsBetween p argument IsReached IsBehind)
no_cells p argument IsReached IsBehind token marks =
    rows_none marks (IsBetween p argument IsReached IsBehind) (λ cell (from, end, reached, fits, behind, its). token cell.rule its.rule)

-- ---- positions that are reached, one after another

-- those before this one
abbrev pub IsBefore : Positions → ℕ → ℕ → Type 0
IsBefore reached from at = IsAmong reached at × (at < from)

-- the argument begins at none of the positions from one on and before another one whose bits are set
abbrev pub BeginsNowhere : PosedProblem → Arg → Positions → ℕ → ℕ → Type 0
BeginsNowhere p argument reached from next =
    (place : ℕ) → from ≤ place → place < next → HasBit reached.bits.now place
    → (end : ℕ) → FitsSpan p (on_span argument place end) → ⊥

-- the bits of those at which it may begin are told
pub begins_nowhere : {B : Type 0} (bits_of : B → List ℕ) (p : PosedProblem) (argument : Arg) (reached : Positions) (from next : ℕ)
    (begins : Option B) → IfSome begins (λ bits. AreBegun p argument (bits_of bits))
    → ((place : ℕ) → from ≤ place → place < next → HasBit reached.bits.now place → IfSome begins (λ bits. HasBit (bits_of bits) place) → ⊥)
    → BeginsNowhere p argument reached from next
begins_nowhere bits_of p argument reached from next None begun none place low high has end fits = none place low high has tt
begins_nowhere bits_of p argument reached from next (Some bits) begun none place low high has end fits =
    none place low high has (begun place end fits)

module _ (reached : Positions) where
  -- up to the first of them it ends nowhere
  pub none_first : (p : PosedProblem) (argument : Arg) (first : ℕ) → BeginsNowhere p argument reached reached.first first
      → (at end : ℕ) → IsBefore reached first at → FitsSpan p (on_span argument at end) → ⊥
  none_first p argument first none at end (among, before) fits = none at among.from_first before among.bit end fits

  -- and behind the last one all are before
  pub all_before : (from : ℕ) → reached.past ≤ from → (at : ℕ) → IsAmong reached at → IsBefore reached from at
  all_before from past at among = (among, omega (arith, past, among.before))

  module _ (p : PosedProblem) (argument : Arg) (from next : ℕ) (here : IsAmong reached from) (behind : from + 1 ≤ next)
      (none : BeginsNowhere p argument reached (from + 1) next) where
    pub before_or_here : (at end : ℕ) → FitsSpan p (on_span argument at end) → IsBefore reached next at
        → IsBefore reached from at ⊎ (at ≡ from)
    before_or_here at end fits (among, before) = elim (cases_lt at from) [
      | inl early ↦ inl (among, early)
      | inr late ↦ elim (cases_eq at from) [
        | inl same ↦ inr same
        | inr other ↦ absurd (none at (omega (arith, late, other)) before among.bit end fits)
      ]
    ]

    pub still_before : (at : ℕ) → IsBefore reached from at → IsBefore reached next at
    still_before at (among, before) = (among, omega (arith, before, behind))

    pub here_before : (at : ℕ) → at ≡ from → IsBefore reached next at
    here_before at same = (subst (IsAmong reached) (sym same) here, omega (arith, same, behind))

    module _ (IsBehind : ℕ → Type 0) where
      abbrev Between : (ℕ → Type 0) → Cell → Type 0
      Between IsReached = IsBetween p argument IsReached IsBehind

      pub between_more : (first second third : CellMarks)
          → AreMarkedInRows first second (Between (IsBefore reached from)) → AreMarkedInRows second third (Between (λ at. at ≡ from))
          → AreMarkedInRows first third (Between (IsBefore reached next))
      between_more first second third before after =
          rows_like first third (λ cell. Between (IsBefore reached from) cell ⊎ Between (λ at. at ≡ from) cell) (Between (IsBefore reached next))
          (λ cell some. ⊎_elim
          (λ (at, end, early, fits, on, its). (at, end, still_before at early, fits, on, its))
          (λ (at, end, same, fits, on, its). (at, end, here_before at same, fits, on, its)) some)
          (λ cell (at, end, is, fits, on, its). ⊎_elim
          (λ early. inl (at, end, early, fits, on, its))
          (λ same. inr (at, end, same, fits, on, its)) (before_or_here at end fits is))
          (rows_more first second third (Between (IsBefore reached from)) (Between (λ at. at ≡ from)) before after)

      abbrev Leads : ℕ → ℕ → Type 0
      Leads before at = IsBefore reached before at × GoesOn p argument IsBehind at

      pub leads_more : GoesOn p argument IsBehind from → (first second third : List ℕ) → HaveBitsToo first second (Leads from)
          → HaveBitsToo second third (λ at. at ≡ from) → HaveBitsToo first third (Leads next)
      leads_more goes first second third before after =
          bits_like first third (λ at. Leads from at ⊎ (at ≡ from)) (Leads next)
          (λ at some. ⊎_elim
          (λ (early, on). (still_before at early, on))
          (λ same. (here_before at same, subst (GoesOn p argument IsBehind) (sym same) goes)) some)
          (λ at (is, on). ⊎_elim (λ early. inl (early, on)) (λ same. inr same) (before_or_here at on.0 on.1 is))
          (bits_more first second third (Leads from) (λ at. at ≡ from) before after)

      pub leads_past : (GoesOn p argument IsBehind from → ⊥) → (first second : List ℕ) → HaveBitsToo first second (Leads from)
          → HaveBitsToo first second (Leads next)
      leads_past stops first second before =
          bits_like first second (Leads from) (Leads next)
          (λ at (early, on). (still_before at early, on))
          (λ at (is, on). ⊎_elim (λ early. (early, on)) (λ same. absurd (stops (subst (GoesOn p argument IsBehind) same on))) (before_or_here at on.0 on.1 is))
          before

    abbrev Ends : ℕ → ℕ → Type 0
    Ends before = IsReachedBy p argument (IsBefore reached before)

    pub reached_more : (first second third : List ℕ) → HaveBitsToo first second (Ends from)
        → HaveBitsToo second third (λ end. FitsSpan p (on_span argument from end)) → HaveBitsToo first third (Ends next)
    reached_more first second third before after =
        bits_like first third (λ end. Ends from end ⊎ FitsSpan p (on_span argument from end)) (Ends next)
        (λ end some. ⊎_elim
        (λ (at, early, fits). (at, still_before at early, fits))
        (λ fits. (from, here_before from refl, fits)) some)
        (λ end (at, is, fits). ⊎_elim
        (λ early. inl (at, early, fits))
        (λ same. inr (subst (λ k. FitsSpan p (on_span argument k end)) same fits)) (before_or_here at end fits is))
        (bits_more first second third (Ends from) (λ end. FitsSpan p (on_span argument from end)) before after)

    pub reached_past : ((end : ℕ) → FitsSpan p (on_span argument from end) → ⊥) → (first second : List ℕ)
        → HaveBitsToo first second (Ends from) → HaveBitsToo first second (Ends next)
    reached_past stops first second before =
        bits_like first second (Ends from) (Ends next)
        (λ end (at, early, fits). (at, still_before at early, fits))
        (λ end (at, is, fits). ⊎_elim
        (λ early. (at, early, fits))
        (λ same. absurd (stops end (subst (λ k. FitsSpan p (on_span argument k end)) same fits))) (before_or_here at end fits is))
        before

  -- when the last one is passed
  module _ (p : PosedProblem) (argument : Arg) (from : ℕ) (past : reached.past ≤ from) where
    pub all_between : (IsBehind : ℕ → Type 0) (old new : CellMarks)
        → AreMarkedInRows old new (IsBetween p argument (IsBefore reached from) IsBehind)
        → AreMarkedInRows old new (IsBetween p argument (IsAmong reached) IsBehind)
    all_between IsBehind old new =
        rows_like old new (IsBetween p argument (IsBefore reached from) IsBehind) (IsBetween p argument (IsAmong reached) IsBehind)
        (λ cell (at, end, before, fits, on, its). (at, end, before.0, fits, on, its))
        (λ cell (at, end, among, fits, on, its). (at, end, all_before from past at among, fits, on, its))

    pub all_lead : (IsBehind : ℕ → Type 0) (old new : List ℕ)
        → HaveBitsToo old new (λ at. IsBefore reached from at × GoesOn p argument IsBehind at)
        → HaveBitsToo old new (λ at. IsAmong reached at × GoesOn p argument IsBehind at)
    all_lead IsBehind old new =
        bits_like old new (λ at. IsBefore reached from at × GoesOn p argument IsBehind at)
        (λ at. IsAmong reached at × GoesOn p argument IsBehind at)
        (λ at (before, on). (before.0, on)) (λ at (among, on). (all_before from past at among, on))

    pub all_reached : (old new : List ℕ) → HaveBitsToo old new (IsReachedBy p argument (IsBefore reached from))
        → HaveBitsToo old new (IsReachedBy p argument (IsAmong reached))
    all_reached old new =
        bits_like old new (IsReachedBy p argument (IsBefore reached from)) (IsReachedBy p argument (IsAmong reached))
        (λ end (at, before, fits). (at, before.0, fits)) (λ end (at, among, fits). (at, all_before from past at among, fits))

-- ---- one argument, and all of them

module _ (p : PosedProblem) (argument : Arg) (IsReached IsWanted : ℕ → Type 0) where
  -- the last one
  pub last_leads : (old new : List ℕ) → HaveBitsToo old new (λ at. IsReached at × GoesOn p argument IsWanted at)
      → HaveBitsToo old new (λ at. IsReached at × LeadsOn p (argument ∷ []) IsWanted at)
  last_leads old new =
      bits_like old new (λ at. IsReached at × GoesOn p argument IsWanted at) (λ at. IsReached at × LeadsOn p (argument ∷ []) IsWanted at)
      (λ at (reached, (end, fits, wanted)). (reached, (end, wanted, (end, fits, refl))))
      (λ at (reached, (to, wanted, (end, fits, same))). (reached, (end, fits, subst IsWanted (sym same) wanted)))

  pub last_there : (cell : Cell) → IsBetween p argument IsReached IsWanted cell → DemandsOfRow p (argument ∷ []) IsReached IsWanted cell
  last_there cell (from, end, reached, fits, wanted, its) = (from, end, reached, wanted, (end, fits, inl (its, refl)))

  last_back : (cell : Cell) → DemandsOfRow p (argument ∷ []) IsReached IsWanted cell → IsBetween p argument IsReached IsWanted cell
  last_back cell (from, to, reached, wanted, (end, fits, inl (its, same))) = (from, end, reached, fits, subst IsWanted (sym same) wanted, its)
  last_back cell (from, to, reached, wanted, (end, fits, inr none)) = absurd none

  pub last_demands : (old new : CellMarks) → AreMarkedInRows old new (IsBetween p argument IsReached IsWanted)
      → AreMarkedInRows old new (DemandsOfRow p (argument ∷ []) IsReached IsWanted)
  last_demands old new = rows_like old new (IsBetween p argument IsReached IsWanted) (DemandsOfRow p (argument ∷ []) IsReached IsWanted) last_there last_back

  -- what others demand behind it
  pub demands_behind_it : (others : List Arg) (IsEnd : ℕ → Type 0) → ((end : ℕ) → IsEnd end → IsReachedBy p argument IsReached end) → (cell : Cell)
      → DemandsOfRow p others IsEnd IsWanted cell → DemandsOfRow p (argument ∷ others) IsReached IsWanted cell
  demands_behind_it others IsEnd reached cell (end, to, is, wanted, demands) =
      let from = reached end is in
      (from.0, to, from.1, wanted, (end, from.2, inr demands))

  -- one with others behind it, by the positions that it reaches and those of them from which the others lead on
  module _ (others : List Arg) (IsEnd IsBehind : ℕ → Type 0)
      (end_reached : (end : ℕ) → IsEnd end → IsReachedBy p argument IsReached end)
      (reached_end : (end : ℕ) → IsReachedBy p argument IsReached end → IsEnd end)
      (behind_leads : (end : ℕ) → IsBehind end → IsEnd end × LeadsOn p others IsWanted end)
      (leads_behind : (end : ℕ) → IsEnd end → LeadsOn p others IsWanted end → IsBehind end) where
    pub through_leads : (old new : List ℕ) → HaveBitsToo old new (λ at. IsReached at × GoesOn p argument IsBehind at)
        → HaveBitsToo old new (λ at. IsReached at × LeadsOn p (argument ∷ others) IsWanted at)
    through_leads old new =
        bits_like old new (λ at. IsReached at × GoesOn p argument IsBehind at) (λ at. IsReached at × LeadsOn p (argument ∷ others) IsWanted at)
        (λ at (reached, (end, fits, behind)). let on = (behind_leads end behind).1 in (reached, (on.0, on.1, (end, fits, on.2))))
        (λ at (reached, (to, wanted, (end, fits, cover))).
        (reached, (end, fits, leads_behind end (reached_end end (at, reached, fits)) (to, wanted, cover))))

    pub through_there : (cell : Cell)
        → DemandsOfRow p others IsEnd IsWanted cell ⊎ IsBetween p argument IsReached IsBehind cell
        → DemandsOfRow p (argument ∷ others) IsReached IsWanted cell
    through_there cell (inl later) = demands_behind_it others IsEnd end_reached cell later
    through_there cell (inr (from, end, reached, fits, behind, its)) =
        let on = (behind_leads end behind).1 in
        (from, on.0, reached, on.1, (end, fits, inl (its, on.2)))

    through_back : (cell : Cell) → DemandsOfRow p (argument ∷ others) IsReached IsWanted cell
        → DemandsOfRow p others IsEnd IsWanted cell ⊎ IsBetween p argument IsReached IsBehind cell
    through_back cell (from, to, reached, wanted, (end, fits, inl (its, cover))) =
        inr (from, end, reached, fits, leads_behind end (reached_end end (from, reached, fits)) (to, wanted, cover), its)
    through_back cell (from, to, reached, wanted, (end, fits, inr demands)) = inl (end, to, reached_end end (from, reached, fits), wanted, demands)

    pub through_demands : (first second third : CellMarks) → AreMarkedInRows first second (DemandsOfRow p others IsEnd IsWanted)
        → AreMarkedInRows second third (IsBetween p argument IsReached IsBehind)
        → AreMarkedInRows first third (DemandsOfRow p (argument ∷ others) IsReached IsWanted)
    through_demands first second third before after =
        rows_like first third (λ cell. DemandsOfRow p others IsEnd IsWanted cell ⊎ IsBetween p argument IsReached IsBehind cell)
        (DemandsOfRow p (argument ∷ others) IsReached IsWanted) through_there through_back
        (rows_more first second third (DemandsOfRow p others IsEnd IsWanted) (IsBetween p argument IsReached IsBehind) before after)

  -- where it reaches none
  module _ (others : List Arg) (none : (end : ℕ) → IsReachedBy p argument IsReached end → ⊥) where
    pub none_lead : (bits : List ℕ) → HaveBitsToo bits bits (λ at. IsReached at × LeadsOn p (argument ∷ others) IsWanted at)
    none_lead bits =
        bits_none bits (λ at. IsReached at × LeadsOn p (argument ∷ others) IsWanted at)
        (λ at (reached, (to, wanted, (end, fits, cover))). none end (at, reached, fits))

    pub none_demanded : (marks : CellMarks) → AreMarkedInRows marks marks (DemandsOfRow p (argument ∷ others) IsReached IsWanted)
    none_demanded marks =
        rows_none marks (DemandsOfRow p (argument ∷ others) IsReached IsWanted)
        (λ cell (from, to, reached, wanted, (end, fits, either)). none end (from, reached, fits))

-- ---- the boundary behind an argument

module _ (p : PosedProblem) (argument : Arg) (reached next : Positions) (first : next.first ≡ reached.first)
    (past : next.past ≡ length p.word + 1)
    (exact : (end : ℕ) → HasBit next.bits.now end ↔ IsReachedBy p argument (IsAmong reached) end) where
  pub end_reached : (end : ℕ) → IsAmong next end → IsReachedBy p argument (IsAmong reached) end
  end_reached end among = (exact end).0 among.bit

  pub reached_end : (end : ℕ) → IsReachedBy p argument (IsAmong reached) end → IsAmong next end
  reached_end end (from, among, fits) = record {
    from_first = omega (arith, first, among.from_first, fits.0.in_order);
    before = omega (arith, past, fits.0.in_word);
    bit = (exact end).1 (from, among, fits);
  }

  -- where none of its bits is set
  pub none_reached : ((place : ℕ) → next.first ≤ place → place < next.past → HasBit next.bits.now place → ⊥)
      → (end : ℕ) → IsReachedBy p argument (IsAmong reached) end → ⊥
  none_reached none end is = let among = reached_end end is in none end among.from_first among.before among.bit

  -- the positions of it from which others lead on
  module _ (others : List Arg) (IsWanted : ℕ → Type 0) (behind : Positions) (same_first : behind.first ≡ next.first)
      (same_past : behind.past ≡ next.past) (clear : List ℕ) (none : (place : ℕ) → HasBit clear place → ⊥)
      (leads : HaveBitsToo clear behind.bits.now (λ at. IsAmong next at × LeadsOn p others IsWanted at)) where
    pub behind_leads : (end : ℕ) → IsAmong behind end → IsAmong next end × LeadsOn p others IsWanted end
    behind_leads end among = ⊎_elim (λ was. absurd (none end was)) (λ both. both) ((leads.exact end).0 among.bit)

    pub leads_behind : (end : ℕ) → IsAmong next end → LeadsOn p others IsWanted end → IsAmong behind end
    leads_behind end among on = record {
      from_first = omega (arith, same_first, among.from_first);
      before = omega (arith, same_past, among.before);
      bit = (leads.exact end).1 (inr (among, on));
    }
