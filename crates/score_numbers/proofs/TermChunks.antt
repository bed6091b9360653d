-- What a wide term comes to at as many positions as a lane has numbers.
use Rattle.std.proofs.Common.{◌≡◌, ◌⊎◌, ℕ, ◌+◌, ◌-◌, ◌*◌, ◌<◌, ◌≤◌, ℤ, nat_abs, Option, Some, List, length, get_or, slice_get, sym, ap, subst, ◌∙◌, inl, inr, arith}
use Rattle.std.proofs.lemmas.Bool.{cases_lt}
use Rattle.std.proofs.lemmas.Int.{ints}
use Rattle.std.proofs.lemmas.List.{get_or_default}
use Rattle.std.proofs.lemmas.List.Elements.{Contains-get_or}
use Rattle.adp_model.specs.declared.grammar.Goal.{Goal}
use Rattle.adp_model.specs.declared.grammar.Goal.TheVariants.{Least, Greatest}
use Rattle.adp_model.specs.declared.grammar.Term.TheVariants as terms
use Rattle.adp_model.specs.Terms.{wide_value}
use Rattle.adp_model.specs.WideTerms.{form_of}
use Rattle.score_numbers.specs.declared.sums.Positions.{Positions}
use Rattle.score_numbers.specs.declared.term_lines.TermLine.{TermLine}
use Rattle.score_numbers.specs.Greatest.{IsGreatestOf}
use Rattle.score_numbers.specs.Lanes.{AreTurned}
use Rattle.score_numbers.specs.Packing.{Width}
use Rattle.score_numbers.specs.Sums.{HaveNumbers, number_at}
use Rattle.score_numbers.specs.TermLines.{AreLowLive, AreLowValues, AreNumbersFrom, HasLive, HasTermValue, HasTermValueAt, HasTermValueFrom, HoldsValues, values_at}
use Rattle.score_numbers.specs.Turned.{turned}
use Rattle.score_numbers.proofs.Greatest.{HasBefore, greatest_either, greatest_same}
use Rattle.score_numbers.proofs.LaneValues.{AreWithin}
use Rattle.score_numbers.proofs.LargestSums.{some_position}

turned_abs : (goal : Goal) (number : ℤ) → nat_abs (turned goal number) ≡ nat_abs number
turned_abs Least number = omega (arith, ints)
turned_abs Greatest number = omega arith

pub have_alone : (positions : Positions) (firsts seconds : List ℤ) → HaveNumbers positions firsts seconds → HaveNumbers positions firsts firsts
have_alone positions firsts seconds have = record { from_first = have.from_first; before = have.before; behind = have.before }

pub have_behind : (positions : Positions) (firsts seconds : List ℤ) → HaveNumbers positions firsts seconds → HaveNumbers positions seconds seconds
have_behind positions firsts seconds have = record { from_first = have.from_first; before = have.behind; behind = have.behind }

module _ (within : AreWithin) (width : Width) (line : TermLine) (positions : Positions) (befores behinds : List ℤ) (low : AreLowValues width line positions befores behinds) (begin : ℕ)
    (befores' behinds' values values' : List ℤ) (before_loaded : AreNumbersFrom width.mark positions befores begin befores') (behind_loaded : AreNumbersFrom width.mark positions behinds begin behinds')
    (filled : HoldsValues width.limit line (form_of line.term.now) befores' behinds' values) (turned_all : AreTurned width.limit line.goal values values') where
  abbrev position : ℕ → ℕ
  position k = get_or positions.at.now (begin + k) 0

  -- at a position the lane has what the term comes to
  lane_at : (k : ℕ) → k < 64 → begin + k < length positions.at.now → (number : ℤ) (it : HasTermValue width line befores behinds (number_at positions (position k)) number)
      → (slice_get values' k ≡ Some number) × (nat_abs number ≤ width.limit)
  lane_at k l m number it =
      let small = low (position k) number (Contains-get_or positions.at.now (begin + k) 0 m) it in
      let all = values_at line it.before it.behind in
      let value = wide_value (form_of line.term.now) all in
      let bound : nat_abs value ≤ width.limit = omega (arith, small, within (terms.Wide (form_of line.term.now)) all) in
      let there = filled k it.before it.behind (before_loaded.at k l m ∙ it.before_there) (behind_loaded.at k l m ∙ it.behind_there) small in (
        turned_all k value there bound ∙ ap Some (sym it.is),
        subst (λ n. nat_abs n ≤ width.limit) (sym it.is) (omega (arith, bound, turned_abs line.goal value)),
      )

  value_here : (k : ℕ) (number : ℤ) → (it : HasLive width befores' behinds' values' k number) → (k < 64) × (begin + k < length positions.at.now)
  value_here k number it =
      let l = some_position befores' k it.before it.before_there in (
        omega (arith, l, before_loaded.as_many),
        elim (cases_lt (begin + k) (length positions.at.now)) [
          | inl m ↦ m
          | inr m ↦ absurd (it.before_scores (before_loaded.behind k it.before m it.before_there))
        ],
      )

  pub live_value : (k : ℕ) (number : ℤ) → HasLive width befores' behinds' values' k number → HasTermValueFrom width line positions befores behinds begin number
  live_value k number it =
      let here = value_here k number it in
      let value = turned line.goal (wide_value (form_of line.term.now) (values_at line it.before it.behind)) in
      let has : HasTermValue width line befores behinds (number_at positions (position k)) value = record {
        before = it.before;
        behind = it.behind;
        before_there = sym (before_loaded.at k here.0 here.1) ∙ it.before_there;
        behind_there = sym (behind_loaded.at k here.0 here.1) ∙ it.behind_there;
        before_scores = it.before_scores;
        behind_scores = it.behind_scores;
        is = (λ i. value);
      } in
      let there = (lane_at k here.0 here.1 value has).0 in
      let same : value ≡ number = (let e = it.there in cc) in
      (k, here.0, here.1, subst (HasTermValue width line befores behinds (number_at positions (position k))) same has)

  value_live : (number : ℤ) → HasTermValueFrom width line positions befores behinds begin number → (k : ℕ) × HasLive width befores' behinds' values' k number
  value_live number (k, l, m, it) = (
    k,
    record {
      before = it.before;
      behind = it.behind;
      before_there = before_loaded.at k l m ∙ it.before_there;
      behind_there = behind_loaded.at k l m ∙ it.behind_there;
      before_scores = it.before_scores;
      behind_scores = it.behind_scores;
      there = (lane_at k l m number it).0;
    },
  )

  pub live_low : AreLowLive width befores' behinds' values'
  live_low k number it =
      let (k', l, m, has) = live_value k number it in
      (lane_at k' l m number has).1

  pub greatest_here : (greatest : Option ℤ) → IsGreatestOf (λ number. (k : ℕ) × HasLive width befores' behinds' values' k number) greatest → IsGreatestOf (HasTermValueFrom width line positions befores behinds begin) greatest
  greatest_here greatest =
      greatest_same (λ number. (k : ℕ) × HasLive width befores' behinds' values' k number) (HasTermValueFrom width line positions befores behinds begin) greatest
      (λ number h. live_value h.0 number h.1) value_live

module _ (width : Width) (line : TermLine) (positions : Positions) (befores behinds : List ℤ) where
  -- at the position of this number the term comes to it
  abbrev pub AtNumber : ℕ → ℤ → Type 0
  AtNumber k number = (k < length positions.at.now) × HasTermValue width line befores behinds (number_at positions (get_or positions.at.now k 0)) number

  -- a lane more
  pub lane_more : (count : ℕ) (before here both : Option ℤ) → IsGreatestOf (HasBefore AtNumber (count * 64)) before → IsGreatestOf (HasTermValueFrom width line positions befores behinds (count * 64)) here
      → IsGreatestOf (λ number. (before ≡ Some number) ⊎ (here ≡ Some number)) both → IsGreatestOf (HasBefore AtNumber ((count + 1) * 64)) both
  lane_more count before here both is is_here either =
      greatest_same (λ number. HasBefore AtNumber (count * 64) number ⊎ HasTermValueFrom width line positions befores behinds (count * 64) number) (HasBefore AtNumber ((count + 1) * 64)) both
      (λ number h. elim h [ inl it ↦ (it.0, omega (arith, it.1), it.2) | inr it ↦ (count * 64 + it.0, omega (arith, it.1), (it.2, it.3)) ])
      (λ number h. elim (cases_lt h.0 (count * 64)) [
        | inl l ↦ inl (h.0, l, h.2)
        | inr l ↦
            let same : h.0 ≡ count * 64 + (h.0 - count * 64) = omega (arith, l) in
            inr (
              h.0 - count * 64,
              omega (arith, h.1, l),
              omega (arith, h.2.0, l),
              subst (λ k. HasTermValue width line befores behinds (number_at positions (get_or positions.at.now k 0)) number) same h.2.1,
            )
      ])
      (greatest_either (HasBefore AtNumber (count * 64)) (HasTermValueFrom width line positions befores behinds (count * 64)) before here both is is_here either)

  pub none_before : (number : ℤ) → HasBefore AtNumber 0 number → ⊥
  none_before number it = omega (arith, it.1)

  pub all_lanes : (count : ℕ) (greatest : Option ℤ) → length positions.at.now ≤ count * 64 → IsGreatestOf (HasBefore AtNumber (count * 64)) greatest → IsGreatestOf (HasTermValueAt width line positions befores behinds) greatest
  all_lanes count greatest all =
      greatest_same (HasBefore AtNumber (count * 64)) (HasTermValueAt width line positions befores behinds) greatest
      (λ number h. (get_or positions.at.now h.0 0, Contains-get_or positions.at.now h.0 0 h.2.0, h.2.1))
      (λ number h.
      let at : get_or positions.at.now h.1.0 0 ≡ h.0 = get_or_default positions.at.now h.1.0 0 h.0 h.1.1 ∙ h.1.2 in
      (h.1.0, omega (arith, h.1.1, all), (h.1.1, subst (λ position. HasTermValue width line befores behinds (number_at positions position) number) (sym at) h.2)))
