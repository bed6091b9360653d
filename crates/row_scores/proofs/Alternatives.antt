-- The row of a start with one alternative more.
use Rattle.std.proofs.Common.{◌≡◌, ◌⊎◌, ℕ, ◌+◌, ◌-◌, ◌<◌, ◌≤◌, min, ℤ, pos, ◌+ℤ◌, ◌≤ℤ◌, nat_abs, Some, List, length, get_or, slice_get, refl, sym, ap, subst, ◌∙◌, inl, inr, arith}
use Rattle.std.proofs.lemmas.Bool.{cases_lt}
use Rattle.std.proofs.lemmas.Int.{ints}
use Rattle.std.proofs.lemmas.Option.{slice_get-get_or}
use Rattle.adp_model.specs.declared.cell.Cell.{Cell}
use Rattle.adp_model.specs.PosedProblem.{PosedProblem}
use Rattle.adp_model.specs.Cells.{IsCounted}
use Rattle.adp_model.specs.Bellman.{HasBestScore}
use Rattle.adp_model.specs.Demand.{IsDemanded}
use Rattle.adp_model.specs.Lengths.{AllowsLength}
use Rattle.adp_model.specs.Parts.{algebra_of, alternative_at, alternatives_of, arguments_of, term_of}
use Rattle.adp_model.specs.ProblemFields.{most_letters}
use Rattle.adp_model.specs.Terms.{term_value, weighted_sum}
use Rattle.split_lines.specs.Kept.{HasLengths, IsScoredBy}
use Rattle.split_lines.specs.declared.kept.Lengths.{Lengths}
use Rattle.cell_answers.specs.Totals.{HasTurnedScore, HaveValues, IsWithinBound}
use Rattle.cell_answers.proofs.Bounding.{AreTermLaws}
use Rattle.cell_answers.proofs.Totalling.{nat_abs-sum, sum_low, values_kept, values_length}
use Rattle.score_numbers.specs.Packing.{Width}
use Rattle.score_numbers.specs.Turned.{turned}
use Rattle.score_rows.specs.Numbers.{StandsFor, least}
use Rattle.score_rows.specs.Raised.{AreHighest}
use Rattle.score_rows.specs.Windows.{IsOutside}
use Rattle.score_rows.specs.declared.totals.Window.{Window}
use Rattle.score_rows.proofs.Highest.{stands_more}
use Rattle.score_rows.proofs.Positions.{some_position}
use Rattle.row_scores.specs.Ready.{Front, HasFront, HasWhole, IsLowProblem, IsWanted}
use Rattle.row_scores.specs.RowRules.{GivesBefore, IsRowOf}
use Rattle.row_scores.proofs.Starting.{at_start, low_total}

stands_same : (width : Width) (Holds Other : ℤ → Type 0) → ((number : ℤ) → Holds number → Other number)
    → ((number : ℤ) → Other number → Holds number) → (number : ℤ) → StandsFor width Holds number → StandsFor width Other number
stands_same width Holds Other to back number (inl (dead, none)) = inl (dead, λ other has. none other (back other has))
stands_same width Holds Other to back number (inr (live, (has, all))) = inr (live, (to number has, λ other has'. all other (back other has')))

-- the ends between these two are those of which the alternative allows the length
pub record AreAllowedEnds (p : PosedProblem) (rule number from : ℕ) (window : Window) : Type 0 where
  pub inside : (end : ℕ) → from ≤ end → end ≤ length p.word → window.first ≤ end → end < window.past
      → AllowsLength (alternative_at p.grammar rule number) (end - from)
  pub all : (end : ℕ) → from ≤ end → end ≤ length p.word → AllowsLength (alternative_at p.grammar rule number) (end - from)
      → (window.first ≤ end) × (end < window.past)

pub allowed_ends : (p : PosedProblem) (rule number from letters : ℕ) (lengths : Lengths) (window : Window)
    → HasLengths (alternative_at p.grammar rule number) lengths
    → length p.word ≤ most_letters → from + letters ≡ length p.word → window.first ≡ from + min lengths.least (letters + 1)
    → window.past ≡ from + min lengths.most letters + 1 → AreAllowedEnds p rule number from window
allowed_ends p rule number from letters lengths window has few word first_is past_is = record {
  inside = λ end after in_word low high.
      (has (end - from) (omega (arith, few, in_word))).1
      (omega (arith, first_is, word, after, in_word, low), omega (arith, past_is, word, after, in_word, high));
  all = λ end after in_word allowed.
      let it = (has (end - from) (omega (arith, few, in_word))).0 allowed in
      (omega (arith, first_is, word, after, in_word, it.0), omega (arith, past_is, word, after, in_word, it.1));
}

module _ (p : PosedProblem) (width : Width) (laws : AreTermLaws) (bounds : IsLowProblem p width)
    (counted : (cell : Cell) → IsDemanded p cell → IsCounted p.grammar (length p.word) cell) (rule number from : ℕ) (constant : ℤ) (factors : List ℤ)
    (scored : IsScoredBy p rule number constant factors) (in_range : number < length (alternatives_of p.grammar rule))
    (known : rule < length p.grammar.rules) where
  abbrev Start : Front
  Start = at_start p width laws bounds counted rule number from constant factors scored in_range known

  abbrev To : ℕ → Cell
  To end = record { rule = rule; from = from; to = end }

  abbrev Whole : ℕ → ℤ → Type 0
  Whole = HasWhole p (HasFront p Start) (arguments_of p.grammar rule number) factors

  score_of : (end : ℕ) (values : List ℤ) → HaveValues p (HasBestScore p) (arguments_of p.grammar rule number) from end values
      → turned (algebra_of p).goal (term_value (term_of p rule number) values) ≡ (constant +ℤ weighted_sum factors values)
  score_of end values have = scored.value values (values_length p (HasBestScore p) (arguments_of p.grammar rule number) from end values have)

  gives_whole : (end : ℕ) (score : ℤ) → AllowsLength (alternative_at p.grammar rule number) (end - from) → Whole end score
      → HasTurnedScore p (To end) number score
  gives_whole end score allowed (position, before, total, (here, before_is), (values, have, total_is), whole_is) =
      let have' : HaveValues p (HasBestScore p) (arguments_of p.grammar rule number) from end values =
      subst (λ k. HaveValues p (HasBestScore p) (arguments_of p.grammar rule number) k end values) here have in
      let sum : score ≡ (constant +ℤ weighted_sum factors values) = omega (arith, ints, whole_is, before_is, total_is) in
      (allowed, (values, have', sum ∙ sym (score_of end values have')))

  whole_gives : (end : ℕ) (score : ℤ) → HasTurnedScore p (To end) number score → Whole end score
  whole_gives end score (allowed, (values, have, is)) =
      (from, constant, weighted_sum factors values, (refl, refl), (values, have, refl), is ∙ score_of end values have)

  whole_low : ((cell : Cell) (score : ℤ) → HasBestScore p cell score → IsWithinBound p cell score) → (end : ℕ) (score : ℤ) → IsDemanded p (To end)
      → Whole end score → least width ≤ℤ score
  whole_low within end score demanded (position, before, total, (here, before_is), (values, have, total_is), whole_is) =
      let have' : HaveValues p (HasBestScore p) (arguments_of p.grammar rule number) from end values =
      subst (λ k. HaveValues p (HasBestScore p) (arguments_of p.grammar rule number) k end values) here have in
      let low = low_total p width laws bounds counted rule number from constant factors scored in_range known end values demanded
      (values_kept p (HasBestScore p) (IsWithinBound p) within (arguments_of p.grammar rule number) from end values have') in
      let sum : score ≡ (constant +ℤ weighted_sum factors values) = omega (arith, ints, whole_is, before_is, total_is) in
      let parts = sum_low factors values in
      let all = nat_abs-sum constant (weighted_sum factors values) in
      let same = ap nat_abs sum in
      let magnitude : nat_abs score ≤ width.limit = omega (arith, low, parts, all, same) in
      omega (arith, ints, magnitude)

  gives_more : (cell : Cell) (score : ℤ) → GivesBefore p cell number score ⊎ HasTurnedScore p cell number score → GivesBefore p cell (number + 1) score
  gives_more cell score (inl (other, l, has)) = (other, omega (arith, l), has)
  gives_more cell score (inr has) = (number, omega arith, has)

  more_gives : (cell : Cell) (score : ℤ) → GivesBefore p cell (number + 1) score → GivesBefore p cell number score ⊎ HasTurnedScore p cell number score
  more_gives cell score (other, l, has) = elim (cases_lt other number) [
    | inl l' ↦ inl (other, l', has)
    | inr m ↦ inr (subst (λ n. HasTurnedScore p cell n score) (omega (arith, l, m)) has)
  ]

  -- the row stands for what one alternative more gives too
  pub row_more : ((cell : Cell) (score : ℤ) → HasBestScore p cell score → IsWithinBound p cell score)
      → (window : Window) → AreAllowedEnds p rule number from window → (old new : List ℤ) → IsRowOf p width rule from number old
      → AreHighest width (HasWhole p (HasFront p (at_start p width laws bounds counted rule number from constant factors scored in_range known))
      (arguments_of p.grammar rule number) factors)
      (IsWanted p (at_start p width laws bounds counted rule number from constant factors scored in_range known)) old new
      → AreHighest width (λ k score. ⊥) (IsOutside window) old new
      → IsRowOf p width rule from (number + 1) new
  row_more within window ends old new row raised others = record { long = raised.as_many ∙ row.long; stand = stand }
    where
      stand : (to : ℕ) (score : ℤ) → IsDemanded p (To to) → slice_get new to ≡ Some score → StandsFor width (GivesBefore p (To to) (number + 1)) score
      stand to score demanded there = elim (cases_lt to window.first) [
        | inl l ↦ out (inl l)
        | inr m ↦ elim (cases_lt to window.past) [
          | inl l' ↦ inside m l'
          | inr m' ↦ out (inr m')
        ]
      ]
        where
          it : IsCounted p.grammar (length p.word) (To to)
          it = counted (To to) demanded

          was : ℤ
          was = get_or old to (pos 0)

          was_there : slice_get old to ≡ Some was
          was_there = slice_get-get_or old to (pos 0) (omega (arith, raised.as_many, some_position new to score there))

          here : (after : ℤ) → slice_get new to ≡ Some after → StandsFor width (GivesBefore p (To to) (number + 1)) after
              → StandsFor width (GivesBefore p (To to) (number + 1)) score
          here after there' stands = let same : after ≡ score = cc in subst (StandsFor width (GivesBefore p (To to) (number + 1))) same stands

          out : IsOutside window to → StandsFor width (GivesBefore p (To to) (number + 1)) score
          out outside =
              let one = others.each to was was_there outside in
              here one.0 one.1
              (stands_same width (λ other. GivesBefore p (To to) number other ⊎ ⊥) (GivesBefore p (To to) (number + 1))
              (λ other has. elim has [ inl has' ↦ gives_more (To to) other (inl has') | inr none ↦ absurd none ])
              (λ other has. elim (more_gives (To to) other has) [
                | inl has' ↦ inl has'
                | inr has' ↦
                    let in_it = ends.all to it.in_order it.in_word has'.0 in
                    absurd (elim outside [ inl l ↦ omega (arith, in_it.0, l) | inr m ↦ omega (arith, in_it.1, m) ])
              ])
              one.0
              (stands_more width (GivesBefore p (To to) number) (λ other. ⊥) was one.0 (row.stand to was demanded was_there) one.2
              (λ other none. absurd none)))

          inside : window.first ≤ to → to < window.past → StandsFor width (GivesBefore p (To to) (number + 1)) score
          inside after before =
              let allowed = ends.inside to it.in_order it.in_word after before in
              let one = raised.each to was was_there (record { demanded = demanded; allowed = allowed }) in
              here one.0 one.1
              (stands_same width (λ other. GivesBefore p (To to) number other ⊎ Whole to other) (GivesBefore p (To to) (number + 1))
              (λ other has. elim has [
                | inl has' ↦ gives_more (To to) other (inl has')
                | inr has' ↦ gives_more (To to) other (inr (gives_whole to other allowed has'))
              ])
              (λ other has. elim (more_gives (To to) other has) [
                | inl has' ↦ inl has'
                | inr has' ↦ inr (whole_gives to other has')
              ])
              one.0
              (stands_more width (GivesBefore p (To to) number) (Whole to) was one.0 (row.stand to was demanded was_there) one.2
              (λ other has. whole_low within to other demanded has)))
