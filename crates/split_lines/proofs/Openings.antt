-- Whether a cell has a split by an alternative, as its length and the tokens in front tell.
use Rattle.std.proofs.Common.{◌≡◌, ℕ, suc, ◌-◌, ◌<◌, ◌≤◌, Option, Some, None, List, [], ◌∷◌, ◌++◌, length, drop, refl, sym, ap, subst, ◌∙◌, arith, length-append}
use Rattle.std.specs.Prelude.{MatchOption}
use Rattle.std.specs.List.{AllByRecursion}
use Rattle.adp_model.specs.declared.cell.Cell.{Cell}
use Rattle.adp_model.specs.declared.grammar.Arg.{Arg}
use Rattle.adp_model.specs.PosedProblem.{PosedProblem}
use Rattle.adp_model.specs.Parts.{alternatives_of, arguments_of}
use Rattle.adp_model.specs.Splits.{ends_by, place, FitsSpan, IsViable}
use Rattle.viable_splits.specs.Placing.{Cover}
use Rattle.split_lines.specs.declared.kept.KeptAlternative.{KeptAlternative}
use Rattle.split_lines.specs.Beginnings.{StandsAt}
use Rattle.split_lines.specs.Ends.{IsFrontTold}
use Rattle.split_lines.specs.Kept.{AreInFront, IsAlternative, first_text}
use Rattle.split_lines.specs.Ways.{MaySpan, IsClosed, IsOpening}
use Rattle.split_lines.proofs.Dividing.{cover_forward, cover_parts}
use Rattle.split_lines.proofs.Lists.{empty_without}
use Rattle.split_lines.proofs.MakingReady.{text_stands}

-- ---- the arguments of a viable split have the letters of the cell

module _ (p : PosedProblem) where
  cover_of_ends : (argument : Arg) (arguments : List Arg) (from to : ℕ) (ends : List ℕ) → AllByRecursion (FitsSpan p) (place (argument ∷ arguments) from ends)
      → AllByRecursion (λ boundary. boundary ≡ to) (drop (length arguments) ends) → length arguments < length ends → Cover p (argument ∷ arguments) from to
  cover_of_ends argument arguments from to [] fits closed enough = absurd (omega arith)
  cover_of_ends argument [] from to (end ∷ ends) fits closed enough = (end, fits.0, closed.0)
  cover_of_ends argument (next ∷ arguments) from to (end ∷ ends) fits closed enough =
      (end, fits.0, cover_of_ends next arguments end to ends fits.1 closed (omega arith))

  cover_of_viable : (cell : Cell) (alternative : ℕ) (cuts : List ℕ) (arguments : List Arg) → arguments_of p.grammar cell.rule alternative ≡ arguments → 1 ≤ length arguments → length arguments ≤ 4
      → IsViable p cell alternative cuts → Cover p arguments cell.from cell.to
  cover_of_viable cell alternative cuts arguments same some few viable =
      by arguments some few (subst (λ (them : List Arg). AllByRecursion (FitsSpan p) (place them cell.from (ends_by cell cuts))) same viable.fits)
      (subst (λ (them : List Arg). AllByRecursion (λ boundary. boundary ≡ cell.to) (drop (length them - 1) (ends_by cell cuts))) same viable.last)
    where
      by : (arguments : List Arg) → 1 ≤ length arguments → length arguments ≤ 4 → AllByRecursion (FitsSpan p) (place arguments cell.from (ends_by cell cuts))
          → AllByRecursion (λ boundary. boundary ≡ cell.to) (drop (length arguments - 1) (ends_by cell cuts)) → Cover p arguments cell.from cell.to
      by [] some few fits closed = absurd (omega arith)
      by (argument ∷ arguments) some few fits closed =
          let fewer : suc (length arguments) - 1 ≡ length arguments = omega arith in
          cover_of_ends argument arguments cell.from cell.to (ends_by cell cuts) fits
          (subst (λ n. AllByRecursion (λ boundary. boundary ≡ cell.to) (drop n (ends_by cell cuts))) fewer closed)
          (omega (arith, length-append cuts (cell.to ∷ []), viable.three, few))

module _ (p : PosedProblem) (kept : KeptAlternative) (in_front : AreInFront p kept) (cell : Cell)
    (some : (alternative : ℕ) → alternative < length (alternatives_of p.grammar cell.rule) → 1 ≤ length (arguments_of p.grammar cell.rule alternative)) where
  cover_here : (alternative : ℕ) (cuts : List ℕ) → IsAlternative p cell.rule alternative kept → IsViable p cell alternative cuts → Cover p (kept.front.now ++ kept.others.now) cell.from cell.to
  cover_here alternative cuts is viable =
      let count = ap length is.arguments in
      let first = some alternative viable.in_range in
      cover_of_viable p cell alternative cuts (kept.front.now ++ kept.others.now) is.arguments
      (omega (arith, count, first)) (omega (arith, length-append kept.front.now kept.others.now, is.few)) viable

  closed_without : (Cover p (kept.front.now ++ kept.others.now) cell.from cell.to → ⊥) → IsClosed p kept cell
  closed_without none alternative cuts is viable = none (cover_here alternative cuts is viable)

  -- an alternative has no length but those that it allows, and arguments of fixed length have no other length
  pub closed_at_other_lengths : cell.to ≤ 4000 → (MaySpan kept cell.from cell.to → ⊥) → IsClosed p kept cell
  closed_at_other_lengths short other alternative cuts is viable =
      let few : cell.to - cell.from ≤ 4000 = omega arith in
      let parts = cover_parts p kept.front.now kept.others.now cell.from cell.to (cover_here alternative cuts is viable) in
      other (
        (is.lengths (cell.to - cell.from) few).0 viable.allowed,
        λ none.
            let last : parts.0 ≡ cell.to = subst (λ others. Cover p others parts.0 cell.to) (empty_without kept.others.now none) parts.2 in
            sym last ∙ in_front.letters cell.from parts.0 parts.1,
      )

  -- where the letters don't stand with which the tokens in front begin, they don't match
  pub closed_at_other_letters : (StandsAt p.word cell.from (first_text kept.front.now) → ⊥) → IsClosed p kept cell
  closed_at_other_letters other =
      closed_without (λ cover.
      let parts = cover_parts p kept.front.now kept.others.now cell.from cell.to cover in
      other (text_stands p kept.front.now cell.from parts.0 parts.1))

  -- where the tokens in front end tells the rest
  pub opened_by_front : cell.to ≤ 4000 → MaySpan kept cell.from cell.to → (found : Option ℕ) → IsFrontTold p kept.front.now cell.from cell.to found → MatchOption found (IsClosed p kept cell) (IsOpening p kept cell)
  opened_by_front short may None told =
      closed_without (λ cover.
      let parts = cover_parts p kept.front.now kept.others.now cell.from cell.to cover in
      let e = (told parts.0).1 (cover_forward p kept.others.now parts.0 cell.to parts.2, parts.1) in
      absurd cc)
  opened_by_front short may (Some end) told =
      let there = (told end).0 refl in
      let letters = in_front.letters cell.from end there.1 in
      record {
        allowed = λ alternative is. let few : cell.to - cell.from ≤ 4000 = omega arith in (is.lengths (cell.to - cell.from) few).1 may.0;
        within = there.0;
        covers = there.1;
        only = λ other covers. in_front.letters cell.from other covers ∙ sym letters;
        whole = λ none. letters ∙ sym (may.1 none);
      }
