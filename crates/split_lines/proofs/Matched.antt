-- The positions at which tokens match, as they are found one by one.
use Rattle.std.proofs.Common.{◌↔◌, ℕ, ◌+◌, ◌<◌, ◌≤◌, List, [], ◌∷◌, ◌++◌, length, get_or, sym, subst, inl, inr, arith}
use Rattle.std.specs.List.{AllAdjacentBelow, Contains}
use Rattle.std.proofs.lemmas.Bool.{cases_lt, cases_eq}
use Rattle.std.proofs.lemmas.List.{get_or_default, get_or_append_left, get_or_push, length_push}
use Rattle.std.proofs.lemmas.List.Elements.{Contains-append_left, Contains-push, Contains-push_cases}
use Rattle.adp_model.specs.declared.grammar.Arg.{Arg}
use Rattle.adp_model.specs.PosedProblem.{PosedProblem}
use Rattle.viable_splits.specs.Placing.{Cover}
use Rattle.split_lines.specs.Matching.{AreMatchPositions, AreCounts}

-- ---- counts

pub no_counts : AreCounts [] []
no_counts = record { few = λ position l. absurd (omega arith); told = λ position number l m. absurd (omega arith) }

-- one more count, where all positions come before
pub one_count_more : (positions before : List ℕ) → AreCounts positions before → ((number : ℕ) → number < length positions → get_or positions number 0 < length before) → AreCounts positions (before ++ length positions ∷ [])
one_count_more positions before counts below = record {
  few = λ position l. few position (omega (arith, l, length_push before (length positions)));
  told = λ position number l m. told position number (omega (arith, l, length_push before (length positions))) m;
}
  where
    few : (position : ℕ) → position < length before + 1 → get_or (before ++ length positions ∷ []) position 0 ≤ length positions
    few position l =
        elim (cases_lt position (length before)) [
          | inl inside ↦ omega (arith, get_or_append_left before (length positions ∷ []) 0 position inside, counts.few position inside)
          | inr last ↦ omega (arith, get_or_push before (length positions) 0 position (omega arith))
        ]

    told : (position number : ℕ) → position < length before + 1 → number < length positions → (get_or positions number 0 < position) ↔ (number < get_or (before ++ length positions ∷ []) position 0)
    told position number l m =
        elim (cases_lt position (length before)) [
          | inl inside ↦
              let read = get_or_append_left before (length positions ∷ []) 0 position inside in
              let old = counts.told position number inside m in
              (λ h. omega (arith, read, old.0 h), λ h. old.1 (omega (arith, read, h)))
          | inr last ↦
              let read = get_or_push before (length positions) 0 position (omega arith) in
              (λ h. omega (arith, read, m), λ h. omega (arith, below number m, last))
        ]

-- one more position, which comes before none that is counted for
pub one_position_more : (positions before : List ℕ) (new : ℕ) → AreCounts positions before → length before ≤ new + 1 → AreCounts (positions ++ new ∷ []) before
one_position_more positions before new counts past = record {
  few = λ position l. omega (arith, counts.few position l, length_push positions new);
  told = λ position number l m. told position number l (omega (arith, m, length_push positions new));
}
  where
    told : (position number : ℕ) → position < length before → number < length positions + 1 → (get_or (positions ++ new ∷ []) number 0 < position) ↔ (number < get_or before position 0)
    told position number l m =
        elim (cases_lt number (length positions)) [
          | inl inside ↦
              let read = get_or_append_left positions (new ∷ []) 0 number inside in
              let old = counts.told position number l inside in
              (λ h. old.0 (omega (arith, read, h)), λ h. omega (arith, read, old.1 h))
          | inr last ↦
              let read = get_or_push positions new 0 number (omega arith) in
              let few = counts.few position l in
              (λ h. absurd (omega (arith, read, h, l, past)), λ h. absurd (omega (arith, few, h, last)))
        ]

-- ---- positions

module _ (p : PosedProblem) (tokens : List Arg) (letters : ℕ) where
  pub no_positions : AreMatchPositions p tokens letters 0 []
  no_positions = record {
    exact = λ position. (λ (k, l, e). absurd (omega (arith, l)), λ (l, h). absurd (omega (arith, l)));
    rising = λ k d l. absurd (omega arith);
  }

  pub positions_below : (past : ℕ) (positions : List ℕ) → AreMatchPositions p tokens letters past positions → (number d : ℕ) → number < length positions → get_or positions number d < past
  positions_below past positions are number d l =
      let at = get_or_default positions number (get_or positions number d) d l in
      ((are.exact (get_or positions number d)).0 (number, l, at)).0

  -- one more position where they match
  pub one_match_more : (position : ℕ) (positions : List ℕ) → AreMatchPositions p tokens letters position positions → Cover p tokens position (position + letters) → AreMatchPositions p tokens letters (position + 1) (positions ++ position ∷ [])
  one_match_more position positions are cover = record { exact = λ other. (there other, back other); rising = rising }
    where
      there : (other : ℕ) → Contains (positions ++ position ∷ []) other → (other < position + 1) × Cover p tokens other (other + letters)
      there other contains =
          elim (Contains-push_cases positions position other contains) [
            | inl old ↦ let it = (are.exact other).0 old in (omega (arith, it.0), it.1)
            | inr e ↦ (omega (arith, e), let P : ℕ → Type 0 = λ n. Cover p tokens n (n + letters) in subst P e cover)
          ]

      back : (other : ℕ) → (other < position + 1) × Cover p tokens other (other + letters) → Contains (positions ++ position ∷ []) other
      back other (l, h) =
          elim (cases_eq other position) [
            | inl same ↦ let P : ℕ → Type 0 = Contains (positions ++ position ∷ []) in subst P (sym same) (Contains-push positions position)
            | inr differ ↦ Contains-append_left positions (position ∷ []) other ((are.exact other).1 (omega arith, h))
          ]

      rising : AllAdjacentBelow (λ (a b : ℕ). a < b) (positions ++ position ∷ []) (length (positions ++ position ∷ []))
      rising k d l =
          let more = length_push positions position in
          let first = get_or_append_left positions (position ∷ []) d k (omega (arith, l, more)) in
          elim (cases_lt (k + 1) (length positions)) [
            | inl inside ↦ omega (arith, first, get_or_append_left positions (position ∷ []) d (k + 1) inside, are.rising k d inside)
            | inr last ↦
                let second = get_or_push positions position d (k + 1) (omega (arith, l, more)) in
                omega (arith, first, second, positions_below position positions are k d (omega (arith, l, more)))
          ]

  -- one more position where they don't
  pub no_match_there : (position : ℕ) (positions : List ℕ) → AreMatchPositions p tokens letters position positions → (Cover p tokens position (position + letters) → ⊥) → AreMatchPositions p tokens letters (position + 1) positions
  no_match_there position positions are none = record { exact = λ other. (there other, back other); rising = are.rising }
    where
      there : (other : ℕ) → Contains positions other → (other < position + 1) × Cover p tokens other (other + letters)
      there other contains = let it = (are.exact other).0 contains in (omega (arith, it.0), it.1)

      back : (other : ℕ) → (other < position + 1) × Cover p tokens other (other + letters) → Contains positions other
      back other (l, h) =
          elim (cases_eq other position) [
            | inl same ↦ absurd (none (let P : ℕ → Type 0 = λ n. Cover p tokens n (n + letters) in subst P same h))
            | inr differ ↦ (are.exact other).1 (omega arith, h)
          ]
