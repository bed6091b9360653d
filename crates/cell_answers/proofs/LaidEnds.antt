-- Arguments laid by ends that are given: one end before others, totals with them, and the first of them.
use Rattle.std.proofs.Common.{◌≡◌, ℕ, zero, suc, ◌+◌, ◌<◌, ◌≤◌, ℤ, pos, ◌+ℤ◌, ◌*ℤ◌, Some, None, List, [], ◌∷◌, length}
use Rattle.std.proofs.Common.{get_or, take, refl, sym, ap, subst, ◌∙◌, inl, inr, arith}
use Rattle.std.specs.List.{AllByRecursion}
use Rattle.std.specs.declared.ops.Range.{Range}
use Rattle.std.proofs.lemmas.Bool.{cases_lt}
use Rattle.std.proofs.lemmas.Int.{ints}
use Rattle.adp_model.specs.declared.grammar.Arg.{Arg}
use Rattle.adp_model.specs.PosedProblem.{PosedProblem}
use Rattle.adp_model.specs.Preference.{LexicographicallyLess}
use Rattle.adp_model.specs.Terms.{weighted_sum}
use Rattle.adp_model.specs.Splits.{AtRule, FitsSpan}
use Rattle.adp_model.specs.FirstSplit.{IsValue}
use Rattle.adp_model.specs.Bellman.{HasBestScore}
use Rattle.viable_splits.specs.Placing.{on_span, ArePositions, Cover}
use Rattle.cell_tables.specs.Tables.{Table}
use Rattle.score_numbers.specs.Greatest.{IsGreatestOf}
use Rattle.cell_answers.specs.Entries.{HasEntry}
use Rattle.cell_answers.specs.LaidBy.{HasTotalBy, AreFirstEnds, IsFirstEnd}
use Rattle.cell_answers.specs.Through.{HasTotalAt}
use Rattle.cell_answers.specs.Totals.{HasTotal}
use Rattle.cell_answers.proofs.FirstEnds.{AreLaid, AreSound, first_known_entry}
use Rattle.cell_answers.proofs.Totalling.{value_unique, values_cover, total_at, at_total}

pub weighted_none : (factors : List ℤ) → weighted_sum factors [] ≡ pos 0
weighted_none [] = refl
weighted_none (factor ∷ factors) = refl

-- ---- ends that all stand at one position

pub none_less : (to : ℕ) (xs ys : List ℕ) → AllByRecursion (λ end. end ≡ to) xs → AllByRecursion (λ end. end ≡ to) ys → LexicographicallyLess xs ys → ⊥
none_less to [] ys all all' less = less
none_less to (x ∷ xs) [] all all' less = less
none_less to (x ∷ xs) (y ∷ ys) all all' (inl less) = absurd (omega (arith, all.0, all'.0))
none_less to (x ∷ xs) (y ∷ ys) all all' (inr (same, less)) = none_less to xs ys all.1 all'.1 less

pub all_there : (to room : ℕ) → AllByRecursion (λ end. end ≡ to) (take room (to ∷ to ∷ to ∷ to ∷ []))
all_there to zero = tt
all_there to (suc zero) = (refl, tt)
all_there to (suc (suc zero)) = (refl, (refl, tt))
all_there to (suc (suc (suc zero))) = (refl, (refl, (refl, tt)))
all_there to (suc (suc (suc (suc zero)))) = (refl, (refl, (refl, (refl, tt))))
all_there to (suc (suc (suc (suc (suc room))))) = (refl, (refl, (refl, (refl, tt))))

-- no arguments
pub none_laid : (p : PosedProblem) (factors : List ℤ) (from to : ℕ) (total : ℤ) (ends : List ℕ)
    → HasTotal p (HasBestScore p) [] factors from to total → AllByRecursion (λ end. end ≡ to) ends
    → AreFirstEnds p [] factors from to total ends
none_laid p factors from to total ends ([], have, is) all = record {
  have = (have, all, is ∙ weighted_none factors);
  first = λ others has less. none_less to others ends has.1 all less;
}
none_laid p factors from to total ends (value ∷ values, have, is) all = absurd have

pub none_here : (p : PosedProblem) (arguments : List Arg) (factors : List ℤ) (from to : ℕ) (total : ℤ) (room : ℕ)
    → length arguments ≡ 0 → HasTotal p (HasBestScore p) arguments factors from to total
    → AreFirstEnds p arguments factors from to total (take room (to ∷ to ∷ to ∷ to ∷ []))
none_here p [] factors from to total room none has = none_laid p factors from to total (take room (to ∷ to ∷ to ∷ to ∷ [])) has (all_there to room)
none_here p (argument ∷ arguments) factors from to total room none has = absurd (omega (arith, none))

-- ---- one end before others

pub total_by : (p : PosedProblem) (arguments : List Arg) (factors : List ℤ) (from to : ℕ) (total : ℤ) (ends : List ℕ)
    → HasTotalBy p (HasBestScore p) arguments factors from to total ends
    → HasTotal p (HasBestScore p) arguments factors from to total
total_by p [] factors from to total ends (here, closed, none) = ([], here, none ∙ sym (weighted_none factors))
total_by p (argument ∷ arguments) [] from to total ends has = absurd has
total_by p (argument ∷ arguments) (factor ∷ factors) from to total [] has = absurd has
total_by p (argument ∷ arguments) (factor ∷ factors) from to total (end ∷ ends) (value, rest, fits, is_value, has, is) =
    let later = total_by p arguments factors end to rest ends has in
    (value ∷ later.0, (end, fits, is_value, later.1), is ∙ ap (λ (r : ℤ). (factor *ℤ value) +ℤ r) later.2)

module _ (p : PosedProblem) (sound : AreSound p) (argument : Arg) (others : List Arg) (factor : ℤ) (factors : List ℤ) (from to : ℕ) (total : ℤ) where
  abbrev At : ℕ → Type 0
  At end = HasTotalAt p (HasBestScore p) argument others factor factors from end to total

  at_by : (end : ℕ) (ends : List ℕ) → HasTotalBy p (HasBestScore p) (argument ∷ others) (factor ∷ factors) from to total (end ∷ ends) → At end
  at_by end ends (value, rest, fits, is_value, has, is) =
      record { fits = fits; value = value; is_value = is_value; others = rest; have_others = total_by p others factors end to rest ends has; is = is }

  module _ (end : ℕ) (there : At end) (value rest : ℤ)
      (is_value : IsValue p (HasBestScore p) (on_span argument from end) value)
      (is : total ≡ ((factor *ℤ value) +ℤ rest)) where
    same_value : (other : ℤ) → IsValue p (HasBestScore p) (on_span argument from end) other → (factor *ℤ other) ≡ (factor *ℤ value)
    same_value other is_other = ap (λ v. factor *ℤ v) (value_unique p (HasBestScore p) sound.one argument from end other value is_other is_value)

    rest_is : (it : At end) → it.others ≡ rest
    rest_is it =
        let product = same_value it.value it.is_value in
        let e = it.is in
        omega (arith, ints)

    -- what is left for the others is their greatest total
    pub rest_greatest : IsGreatestOf (HasTotal p (HasBestScore p) (argument ∷ others) (factor ∷ factors) from to)
        (Some total) → IsGreatestOf (HasTotal p (HasBestScore p) others factors end to) (Some rest)
    rest_greatest greatest = (
      subst (HasTotal p (HasBestScore p) others factors end to) (rest_is there) there.have_others,
      λ number has.
          let more : HasTotalAt p (HasBestScore p) argument others factor factors from end to
          ((factor *ℤ value) +ℤ number) = record {
            fits = there.fits;
            value = value;
            is_value = is_value;
            others = number;
            have_others = has;
            is = refl;
          } in
          let l = greatest.1 ((factor *ℤ value) +ℤ number)
          (at_total p (HasBestScore p) argument others factor factors from to end
          ((factor *ℤ value) +ℤ number) more) in
          omega (arith, ints),
    )

    -- the first end with the first ends of the others
    pub first_more : ((other : ℕ) → At other → end ≤ other) → (ends : List ℕ)
        → AreFirstEnds p others factors end to rest ends → AreFirstEnds p (argument ∷ others) (factor ∷ factors) from to
        total (end ∷ ends)
    first_more none_before ends later = record { have = (value, rest, there.fits, is_value, later.have, is); first = first }
      where
        first : (found : List ℕ) → HasTotalBy p (HasBestScore p) (argument ∷ others) (factor ∷ factors) from to total
            found → LexicographicallyLess found (end ∷ ends) → ⊥
        first [] has less = has
        first (other ∷ found) has (inl before) = let l = none_before other (at_by other found has) in absurd (omega arith)
        first (other ∷ found) (value', rest', fits', is_value', has', is') (inr (same, less)) =
            let product = same_value value' (subst (λ n. IsValue p (HasBestScore p) (on_span argument from n) value') same is_value') in
            let left : rest' ≡ rest = omega (arith, ints) in
            let T : ℕ → ℤ → Type 0 = λ at rest. HasTotalBy p (HasBestScore p) others factors at to rest found in
            later.first found (subst (λ at. T at rest) same (subst (λ r. T other r) left has')) less

-- ---- ends tried one after another

-- no end before the bound gives the total
abbrev pub HasTotalNowhere : PosedProblem → Arg → List Arg → ℤ → List ℤ → ℕ → ℕ → ℤ → ℕ → Type 0
HasTotalNowhere p argument others factor factors from to total bound =
    (end : ℕ) → end < bound → HasTotalAt p (HasBestScore p) argument others factor factors from end to total → ⊥

module _ (p : PosedProblem) (table : Table ℤ) (sound : AreSound p) (argument : Arg) (others : List Arg) (factor : ℤ)
    (factors : List ℤ) (from to : ℕ) (total : ℤ)
    (laid : AreLaid p table (argument ∷ others) (factor ∷ factors) from to)
    (greatest : IsGreatestOf (HasTotal p (HasBestScore p) (argument ∷ others) (factor ∷ factors) from to)
    (Some total)) where
  abbrev HasNoneBefore : ℕ → Type 0
  HasNoneBefore = HasTotalNowhere p argument others factor factors from to total

  one_more : (bound : ℕ) → HasNoneBefore bound
      → (HasTotalAt p (HasBestScore p) argument others factor factors from bound to total → ⊥)
      → HasNoneBefore (bound + 1)
  one_more bound before none end l it =
      elim (cases_lt end bound) [
        | inl less ↦ before end less it
        | inr more ↦
            let same : end ≡ bound = omega arith in
            none (subst (λ at. HasTotalAt p (HasBestScore p) argument others factor factors from at to total) same it)
      ]

  module _ (bound : ℕ) (before : HasNoneBefore bound) (fits : FitsSpan p (on_span argument from bound)) where
    pub none_valued : (AtRule (HasEntry table) (on_span argument from bound) → (value : ℤ)
        → IsValue p (HasBestScore p) (on_span argument from bound) value → ⊥) → HasNoneBefore (bound + 1)
    none_valued none =
        one_more bound before
        (λ it. none (first_known_entry p table argument others factor factors from to laid bound fits
        (values_cover p (HasBestScore p) others bound to it.have_others.0 it.have_others.1)) it.value it.is_value)

    pub none_totalled : IsGreatestOf (HasTotal p (HasBestScore p) others factors bound to) None → HasNoneBefore (bound + 1)
    none_totalled none = one_more bound before (λ it. none it.others it.have_others)

    module _ (value rest : ℤ) (told : AtRule (HasEntry table) (on_span argument from bound)
        → IsValue p (HasBestScore p) (on_span argument from bound) value)
        (is_rest : IsGreatestOf (HasTotal p (HasBestScore p) others factors bound to) (Some rest)) where
      is_value : IsValue p (HasBestScore p) (on_span argument from bound) value
      is_value =
          told (first_known_entry p table argument others factor factors from to laid bound fits
          (values_cover p (HasBestScore p) others bound to is_rest.0.0 is_rest.0.1))

      here : HasTotalAt p (HasBestScore p) argument others factor factors from bound to ((factor *ℤ value) +ℤ rest)
      here = record { fits = fits; value = value; is_value = is_value; others = rest; have_others = is_rest.0; is = refl }

      pub none_so_great : (((factor *ℤ value) +ℤ rest) ≡ total → ⊥) → HasNoneBefore (bound + 1)
      none_so_great differs =
          one_more bound before
          (λ it.
          let product : (factor *ℤ it.value) ≡ (factor *ℤ value) = ap (λ v. factor *ℤ v)
          (value_unique p (HasBestScore p) sound.one argument from bound it.value value it.is_value is_value) in
          let l = is_rest.1 it.others it.have_others in
          let m = greatest.1 ((factor *ℤ value) +ℤ rest)
          (at_total p (HasBestScore p) argument others factor factors from to bound
          ((factor *ℤ value) +ℤ rest) here) in
          let e = it.is in
          differs (omega (arith, ints)))

      pub found_here : ((factor *ℤ value) +ℤ rest) ≡ total → IsFirstEnd p (argument ∷ others) (factor ∷ factors) from to total bound
      found_here same = record {
        argument = argument;
        others = others;
        factor = factor;
        more = factors;
        arguments_are = refl;
        factors_are = refl;
        there = subst (HasTotalAt p (HasBestScore p) argument others factor factors from bound to) same here;
        first = λ other it. elim (cases_lt other bound) [ inl less ↦ absurd (before other less it) | inr more ↦ more ];
      }

  module _ (positions : Range ℕ) (are : ArePositions p argument others from to positions) where
    pub none_at_first : HasNoneBefore positions.start
    none_at_first end l it =
        let missed = are.none_missed end it.fits (values_cover p (HasBestScore p) others end to it.have_others.0 it.have_others.1) in
        omega (arith, missed.0)

    -- where all ends were tried one was found
    pub not_all_tried : (bound : ℕ) → positions.end ≤ bound → HasNoneBefore bound → ⊥
    not_all_tried bound l none =
        let it = total_at p (HasBestScore p) argument others factor factors from to total greatest.0 in
        let missed = are.none_missed it.0 it.1.fits (values_cover p (HasBestScore p) others it.0 to it.1.have_others.0 it.1.have_others.1) in
        none it.0 (omega (arith, missed.1)) it.1

-- ---- an end without a choice

-- arguments that have a total, where lengths leave the first one no other end, have it with that end first
pub only_first : (p : PosedProblem) (arguments : List Arg) (factors : List ℤ) (argument : Arg) (others : List Arg)
    (from to : ℕ) (total : ℤ) (only : ℕ) → arguments ≡ argument ∷ others → length factors ≡ length arguments
    → HasTotal p (HasBestScore p) arguments factors from to total
    → ((end : ℕ) → FitsSpan p (on_span argument from end) → Cover p others end to → end ≡ only)
    → IsFirstEnd p arguments factors from to total only
only_first p arguments [] argument others from to total only are each has one = absurd (omega (arith, each, ap length are))
only_first p arguments (factor ∷ factors) argument others from to total only are each has one =
    subst (λ them. IsFirstEnd p them (factor ∷ factors) from to total only) (sym are) (record {
      argument = argument;
      others = others;
      factor = factor;
      more = factors;
      arguments_are = refl;
      factors_are = refl;
      there = subst (λ at. HasTotalAt p (HasBestScore p) argument others factor factors from at to total) (stands it.0 it.1) it.1;
      first = λ end at. omega (arith, stands end at);
    })
  where
    stands : (end : ℕ) → HasTotalAt p (HasBestScore p) argument others factor factors from end to total → end ≡ only
    stands end at = one end at.fits (values_cover p (HasBestScore p) others end to at.have_others.0 at.have_others.1)

    it : (end : ℕ) × HasTotalAt p (HasBestScore p) argument others factor factors from end to total
    it =
        total_at p (HasBestScore p) argument others factor factors from to total
        (subst (λ them. HasTotal p (HasBestScore p) them (factor ∷ factors) from to total) are has)

-- and they are laid somehow
pub laid_of_total : (p : PosedProblem) (arguments : List Arg) (factors : List ℤ) (argument : Arg) (others : List Arg)
    (from to : ℕ) (total : ℤ) → arguments ≡ argument ∷ others → length factors ≡ length arguments
    → HasTotal p (HasBestScore p) arguments factors from to total
    → (end : ℕ) × FitsSpan p (on_span argument from end) × Cover p others end to
laid_of_total p arguments [] argument others from to total are each has = absurd (omega (arith, each, ap length are))
laid_of_total p arguments (factor ∷ factors) argument others from to total are each has =
    let it = total_at p (HasBestScore p) argument others factor factors from to total
    (subst (λ them. HasTotal p (HasBestScore p) them (factor ∷ factors) from to total) are has) in
    (it.0, it.1.fits, values_cover p (HasBestScore p) others it.0 to it.1.have_others.0 it.1.have_others.1)

-- ---- of the arguments as they are split

-- the first argument ends there, and nowhere before
pub record IsFirstEndOf (p : PosedProblem) (argument : Arg) (others : List Arg) (factor : ℤ) (more : List ℤ) (from to : ℕ) (total : ℤ) (end : ℕ) : Type 0 where
  pub there : HasTotalAt p (HasBestScore p) argument others factor more from end to total
  pub first : (other : ℕ) → HasTotalAt p (HasBestScore p) argument others factor more from other to total → end ≤ other

pub end_of_first : (p : PosedProblem) (arguments : List Arg) (factors : List ℤ) (argument : Arg) (others : List Arg)
    (factor : ℤ) (more : List ℤ) (from to : ℕ) (total : ℤ) (end : ℕ) → arguments ≡ argument ∷ others
    → factors ≡ factor ∷ more
    → IsFirstEnd p arguments factors from to total end → IsFirstEndOf p argument others factor more from to total end
end_of_first p arguments factors argument others factor more from to total end are factors_are it =
    let given = it.arguments_are in
    let given' = it.factors_are in
    let a : it.argument ≡ argument = cc in
    let o : it.others ≡ others = cc in
    let f : it.factor ≡ factor = cc in
    let m : it.more ≡ more = cc in
    let T : Arg → List Arg → ℤ → List ℤ → Type 0 = λ a o f m. IsFirstEndOf p a o f m from to total end in
    subst (λ x. T x others factor more) a
    (subst (λ x. T it.argument x factor more) o
    (subst (λ x. T it.argument it.others x more) f (subst (λ x. T it.argument it.others it.factor x) m
    (record { there = it.there; first = it.first }))))

-- the first of four ends, as they are read
pub front_same : (xs : List ℕ) (room : ℕ) → length xs ≡ 4 → room ≤ 3 → take room (get_or xs 0 0 ∷ get_or xs 1 0 ∷ get_or xs 2 0 ∷ []) ≡ take room xs
front_same [] room four few = absurd cc
front_same (a ∷ []) room four few = absurd (omega (arith, four))
front_same (a ∷ b ∷ []) room four few = absurd (omega (arith, four))
front_same (a ∷ b ∷ c ∷ []) room four few = absurd (omega (arith, four))
front_same (a ∷ b ∷ c ∷ d ∷ xs) zero four few = refl
front_same (a ∷ b ∷ c ∷ d ∷ xs) (suc zero) four few = refl
front_same (a ∷ b ∷ c ∷ d ∷ xs) (suc (suc zero)) four few = refl
front_same (a ∷ b ∷ c ∷ d ∷ xs) (suc (suc (suc zero))) four few = refl
front_same (a ∷ b ∷ c ∷ d ∷ xs) (suc (suc (suc (suc room)))) four few = absurd (omega arith)

pub four_read : (xs : List ℕ) → length xs ≡ 4 → take 4 xs ≡ (get_or xs 0 0 ∷ get_or xs 1 0 ∷ get_or xs 2 0 ∷ get_or xs 3 0 ∷ [])
four_read [] four = absurd cc
four_read (a ∷ []) four = absurd (omega (arith, four))
four_read (a ∷ b ∷ []) four = absurd (omega (arith, four))
four_read (a ∷ b ∷ c ∷ []) four = absurd (omega (arith, four))
four_read (a ∷ b ∷ c ∷ d ∷ xs) four = refl
