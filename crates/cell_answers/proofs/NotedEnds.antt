-- Totals at the ends of a first argument, by its entries and by what is noted of the others.
use Rattle.std.proofs.Common.{◌≡◌, ℕ, ◌+◌, ◌-◌, ◌<◌, ◌≤◌, ◌⊎◌, ℤ, ◌+ℤ◌, ◌*ℤ◌, Option, Some, None, MatchOption, IfSome}
use Rattle.std.proofs.Common.{List, ◌∷◌, length, map, get_or, FitsSigned, w64, slice_get, sym, ap, subst, ◌∙◌}
use Rattle.std.specs.Option.{option_map}
use Rattle.std.proofs.lemmas.Option.{slice_get-map, slice_get-get_or}
use Rattle.adp_model.specs.declared.grammar.Arg.{Arg}
use Rattle.adp_model.specs.declared.cell.Cell.{Cell}
use Rattle.adp_model.specs.declared.cell.Answer.TheVariants.{NoCandidate}
use Rattle.adp_model.specs.PosedProblem.{PosedProblem}
use Rattle.adp_model.specs.Answers.{IsAnswer}
use Rattle.adp_model.specs.Splits.{AtRule, FitsSpan}
use Rattle.adp_model.specs.FirstSplit.{IsValue}
use Rattle.adp_model.specs.Bellman.{HasBestScore}
use Rattle.viable_splits.specs.Placing.{on_span}
use Rattle.cell_tables.specs.Tables.{Table}
use Rattle.score_numbers.specs.Entries.{score_of_entry}
use Rattle.score_numbers.specs.Greatest.{IsGreatestOf}
use Rattle.cell_answers.specs.declared.filling.Owner.{Owner}
use Rattle.cell_answers.specs.declared.noted_ends.LaidArguments.{LaidArguments}
use Rattle.cell_answers.specs.declared.noted_ends.SideBySide.{SideBySide}
use Rattle.cell_answers.specs.declared.tails.Tail.{Tail}
use Rattle.cell_answers.specs.Entries.{HasEntry, IsEntry}
use Rattle.cell_answers.specs.NotedEnds.{AreEntriesOf, AreLaidOut, FitBetween, HasTotalBefore, IsSideBySide}
use Rattle.cell_answers.specs.Tails.{IsOwner, IsTail, IsTailTotal, tail_with}
use Rattle.cell_answers.specs.Totals.{HasTotal}
use Rattle.cell_answers.proofs.FirstEnds.{AreLaid, AreSound, found_more, unvalued_more, untotalled_more}
use Rattle.cell_answers.proofs.Soundness.{parts_fit}

pub laid_first : (p : PosedProblem) (table : Table ℤ) (laid : LaidArguments) → AreLaidOut p table laid → AreLaid p table (laid.first.now ∷ laid.others.now)
    (laid.factor ∷ laid.factors.now) laid.from laid.to
laid_first p table laid out = record { weighted = out.weighted; span = out.span; scored = out.scored; low = out.low }

-- the entry that a number stands for, at its place
pub number_told : {N : Type 0} (f : N → ℤ) (numbers : List N) (k at : ℕ) (number : N) (entry : ℤ) → k < length numbers
    → number ≡ get_or numbers k number → entry ≡ f number
    → k ≡ at → slice_get (map f numbers) at ≡ Some entry
number_told f numbers k at number entry within is told same =
    ap (slice_get (map f numbers)) (sym same) ∙ slice_get-map f numbers k
    ∙ ap (option_map f) (slice_get-get_or numbers k number within ∙ ap (λ it. Some it) (sym is)) ∙ ap (λ it. Some it) (sym told)

none_or_best : (p : PosedProblem) (cell : Cell) (score : Option ℤ) → MatchOption score (IsAnswer p cell NoCandidate) (HasBestScore p cell) → MatchOption score
    ((value : ℤ) → HasBestScore p cell value → ⊥) (HasBestScore p cell)
none_or_best p cell None none = λ value has. none has.1.0 has.1.1.derived
none_or_best p cell (Some score) has = has

-- the first argument may end here, from `first` on and before `past`, and this is its entry
pub record IsEndOf (p : PosedProblem) (table : Table ℤ) (laid : LaidArguments) (first past : ℕ) (entries : List ℤ)
    (end : ℕ) (entry : ℤ) : Type 0 where
  pub same : table.problem ≡ p
  pub out : AreLaidOut p table laid
  pub are : AreEntriesOf table laid first past entries
  pub from_first : first ≤ end
  pub before : end < past
  pub fits : FitsSpan p (on_span laid.first.now laid.from end)
  pub there : slice_get entries (end - first) ≡ Some entry

module _ {p : PosedProblem} {table : Table ℤ} {laid : LaidArguments} {first past : ℕ} {entries : List ℤ} {end : ℕ}
    {entry : ℤ} (here : IsEndOf p table laid first past entries end entry) where
  abbrev IsHere : ℤ → Type 0
  IsHere value = IsValue p (HasBestScore p) (on_span laid.first.now laid.from end) value

  abbrev HasEntryHere : Type 0
  HasEntryHere = AtRule (HasEntry table) (on_span laid.first.now laid.from end)

  abbrev cell : Cell
  cell = record { rule = here.are.rule; from = laid.from; to = end }

  abbrev Before : ℕ → ℤ → Type 0
  Before = HasTotalBefore p laid

  rule_told : HasEntry table cell → MatchOption (score_of_entry entry) ((value : ℤ) → HasBestScore p cell value → ⊥)
      (HasBestScore p cell)
  rule_told has =
      let read = here.are.values end here.from_first here.before in
      let stands = has.in_row in
      let there = here.there in
      let e : has.entry ≡ entry = cc in
      none_or_best p cell (score_of_entry entry)
      (subst (λ q. IsEntry q cell entry) here.same (subst (IsEntry table.problem cell) e has.is_entry))

  -- what the entry tells of the value of the first argument
  value_told : HasEntryHere → MatchOption (score_of_entry entry) ((value : ℤ) → IsHere value → ⊥) IsHere
  value_told =
      let V : Arg → Type 0 = λ argument. AtRule (HasEntry table) (on_span argument laid.from end)
      → MatchOption (score_of_entry entry)
      ((value : ℤ) → IsValue p (HasBestScore p) (on_span argument laid.from end) value → ⊥)
      (IsValue p (HasBestScore p) (on_span argument laid.from end)) in
      subst V (sym here.are.is_rule) rule_told

  value_is : (value : ℤ) → score_of_entry entry ≡ Some value → HasEntryHere → IsHere value
  value_is value is has =
      let M : Option ℤ → Type 0 = λ found. MatchOption found ((value : ℤ) → IsHere value → ⊥) IsHere in
      subst M is (value_told has)

  value_none : score_of_entry entry ≡ None → HasEntryHere → (value : ℤ) → IsHere value → ⊥
  value_none is has =
      let M : Option ℤ → Type 0 = λ found. MatchOption found ((value : ℤ) → IsHere value → ⊥) IsHere in
      subst M is (value_told has)

  -- without a value the end adds no total
  pub end_unvalued : score_of_entry entry ≡ None → (greatest : Option ℤ) → IsGreatestOf (Before end) greatest
      → IsGreatestOf (Before (end + 1)) greatest
  end_unvalued is greatest reached =
      unvalued_more p table laid.first.now laid.others.now laid.factor laid.factors.now laid.from laid.to
      (laid_first p table laid here.out) end here.fits (value_none is) greatest reached

  module _ (tail : Tail) (is_tail : IsTail p tail laid.others.now laid.factors.now) (total : Option ℤ)
      (noted : IsTailTotal p tail end laid.to total) where
    abbrev IsRest : Option ℤ → Type 0
    IsRest = IsGreatestOf (HasTotal p (HasBestScore p) laid.others.now laid.factors.now end laid.to)

    rest_is : IsRest total
    rest_is = noted laid.others.now laid.factors.now is_tail

    -- nor does it where the others have none
    pub end_without : total ≡ None → (greatest : Option ℤ) → IsGreatestOf (Before end) greatest
        → IsGreatestOf (Before (end + 1)) greatest
    end_without is greatest reached =
        untotalled_more p table laid.first.now laid.others.now laid.factor laid.factors.now laid.from laid.to
        (laid_first p table laid here.out) end here.fits (subst IsRest is rest_is) greatest reached

    module _ (sound : AreSound p) (value rest : ℤ) (is_value : score_of_entry entry ≡ Some value)
        (is_rest : total ≡ Some rest) where
      greatest_rest : IsRest (Some rest)
      greatest_rest = subst IsRest is_rest rest_is

      pub end_fits : FitsSigned w64 (laid.factor *ℤ value) × FitsSigned w64 rest
          × FitsSigned w64 ((laid.factor *ℤ value) +ℤ rest)
      end_fits =
          parts_fit p table laid.first.now laid.others.now laid.factor laid.factors.now laid.from laid.to
          (laid_first p table laid here.out) end here.fits sound value (value_is value is_value) rest greatest_rest.0

      pub end_total : (greatest both : Option ℤ) → IsGreatestOf (Before end) greatest → IsGreatestOf
          (λ number. (greatest ≡ Some number) ⊎ (Some ((laid.factor *ℤ value) +ℤ rest) ≡ Some number)) both
          → IsGreatestOf (Before (end + 1)) both
      end_total greatest both reached either =
          found_more p table laid.first.now laid.others.now laid.factor laid.factors.now laid.from laid.to
          (laid_first p table laid here.out) end here.fits sound value rest (value_is value is_value) greatest_rest
          greatest both reached either

-- the tail of an owner, if one is told, is the others
pub owned_tail : (p : PosedProblem) (owner : Option Owner) (others : List Arg) (factors : List ℤ) (tail : Option Tail) → tail ≡ option_map
    (λ it. tail_with it (length others)) owner → IsOwner p owner others factors → IfSome tail (λ it. IsTail p it others factors)
owned_tail p None others factors tail same is = subst (λ told. IfSome told (λ it. IsTail p it others factors)) (sym same) tt
owned_tail p (Some owner) others factors tail same is = subst (λ told. IfSome told (λ it. IsTail p it others factors)) (sym same) is

-- the first argument may end where its entries are
pub sides_fit : (p : PosedProblem) (table : Table ℤ) (laid : LaidArguments) (first past : ℕ) (sides : Option SideBySide)
    → IfSome sides (IsSideBySide table laid first past)
    → FitBetween p laid first past → IfSome sides (λ it. FitBetween p laid it.entries.first past)
sides_fit p table laid first past None are fit = tt
sides_fit p table laid first past (Some sides) are fit = subst (λ begin. FitBetween p laid begin past) (sym are.begins) fit

-- the same with another factor
pub laid_out : (p : PosedProblem) (table : Table ℤ) (laid : LaidArguments) (factor : ℤ) → factor ≡ laid.factor
    → AreLaid p table (laid.first.now ∷ laid.others.now)
    (factor ∷ laid.factors.now) laid.from laid.to → AreLaidOut p table laid
laid_out p table laid factor same are =
    let it = subst (λ f. AreLaid p table (laid.first.now ∷ laid.others.now) (f ∷ laid.factors.now) laid.from laid.to) same are in
    record { weighted = it.weighted; span = it.span; scored = it.scored; low = it.low }
