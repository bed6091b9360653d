-- Where the tokens between the two arguments of a line match next.
use Rattle.std.proofs.Common.{◌≡◌, ◌↔◌, ℕ, zero, suc, ◌+◌, ◌<◌, ◌≤◌, List, ◌∷◌, ◌++◌, length, drop, get_or, sym, ap, subst, ◌∙◌, arith}
use Rattle.std.specs.List.{Contains}
use Rattle.std.proofs.lemmas.List.{drop-drop, get_or_default}
use Rattle.adp_model.specs.declared.grammar.Arg.{Arg}
use Rattle.adp_model.specs.PosedProblem.{PosedProblem}
use Rattle.viable_splits.specs.Placing.{Cover, CoverNone, IsNextPosition}
use Rattle.split_lines.specs.declared.matches.Matches.{Matches}
use Rattle.split_lines.specs.Matching.{AreMatches}
use Rattle.split_lines.specs.Lines.{HasLine, parts_by}
use Rattle.split_lines.proofs.Dividing.{cover_parts}
use Rattle.split_lines.proofs.LineFacts.{parts_join}
use Rattle.split_lines.proofs.MatchLists.{AreRising}

-- of positions in order the first is the least
first_least : (positions : List ℕ) → AreRising positions → (n : ℕ) → n < length positions → get_or positions 0 0 ≤ get_or positions n 0
first_least positions rising zero l = omega arith
first_least positions rising (suc n) l =
    let more : n + 1 ≡ suc n = omega arith in
    let before = first_least positions rising n (omega arith) in
    let step = rising n 0 (omega arith) in
    let at = ap (λ k. get_or positions k 0) more in
    omega (arith, before, step, at)

-- the arguments behind the first of a line begin where the tokens between the two match
begins_at_match : (p : PosedProblem) (all : List Arg) (first number between : ℕ) (matches : Matches) → number ≡ first + 1 → HasLine (drop first all) between → AreMatches p (parts_by (drop first all) between).middle matches → (from to : ℕ) → from < length p.word + 1 → Cover p (drop number all) from to → Contains matches.positions.items from
begins_at_match p all first number between matches number_is line are from to within cover =
    let arguments = drop first all in
    let parts = parts_by arguments between in
    let behind : drop number all ≡ parts.middle ++ parts.second ∷ parts.tail =
    ap (λ n. drop n all) number_is ∙ sym (drop-drop 1 first all) ∙ ap (drop 1) (parts_join arguments between line.several) in
    let C : List Arg → Type 0 = λ them. Cover p them from to in
    let split = cover_parts p parts.middle (parts.second ∷ parts.tail) from to (subst C behind cover) in
    let end_is = are.letters from split.0 split.1 in
    let M : ℕ → Type 0 = Cover p parts.middle from in
    (are.positions.exact from).1 (within, subst M end_is split.1)

module _ (p : PosedProblem) (all : List Arg) (first number between : ℕ) (matches : Matches) (number_is : number ≡ first + 1) (line : HasLine (drop first all) between)
    (are : AreMatches p (parts_by (drop first all) between).middle matches) (start end : ℕ) (in_word : end ≤ length p.word + 1) (found : List ℕ)
    (exact : (position : ℕ) → Contains found position ↔ (Contains matches.positions.items position × (start ≤ position) × (position < end))) (rising : AreRising found) where
  -- an argument that begins in the range begins at one of its matches
  found_there : (from to : ℕ) → start ≤ from → from < end → Cover p (drop number all) from to → Contains found from
  found_there from to low high cover =
      (exact from).1 (begins_at_match p all first number between matches number_is line are from to (omega (arith, in_word, high)) cover, low, high)

  -- there is none
  pub none_next : length found ≡ 0 → CoverNone p (drop number all) start end
  none_next none from to low high cover =
      let there = found_there from to low high cover in
      omega (arith, there.1, none)

  -- there is one, and the first of them is the next position
  pub first_next : (position : ℕ) → 0 < length found → position ≡ get_or found 0 0 → IsNextPosition p (drop number all) start end position
  first_next position some is =
      let inside = (exact position).0 (0, some, get_or_default found 0 position 0 some ∙ sym is) in
      record {
        low = inside.1;
        high = inside.2;
        none_before = λ from to low high cover.
            let there = found_there from to low (omega (arith, high, inside.2)) cover in
            let least = first_least found rising there.0 there.1 in
            let at_from : get_or found there.0 0 ≡ from = get_or_default found there.0 0 from there.1 ∙ there.2 in
            omega (arith, least, at_from, is, high);
      }
