-- What the arguments of a split come to, and whether all have values.
use Rattle.std.proofs.Common.{◌≡◌, ℕ, zero, suc, ◌≤◌, ◌⊎◌, inl, inr, ℤ, Option, Some, None, IsSome, List, [], ◌∷◌, ◌++◌, length, Contains, append_assoc, append-nil, refl, sym, ap, subst, ◌∙◌, arith}
use Rattle.std.specs.List.{AllByRecursion}
use Rattle.adp_model.specs.declared.grammar.Arg.{Arg}
use Rattle.adp_model.specs.declared.grammar.Arg.TheVariants.{Rule, Literal, Letter, Run}
use Rattle.adp_model.specs.declared.cell.Cell.{Cell}
use Rattle.adp_model.specs.PosedProblem.{PosedProblem}
use Rattle.adp_model.specs.Splits.{Placed, FitsSpan}
use Rattle.adp_model.specs.FirstSplit.{IsValue, AreArgumentValues}
use Rattle.viable_splits.specs.Placing.{on_span}
use Rattle.table_certificate.specs.SplitVerdicts.{Worths, Untold, Scoreless, Values, worth_of, joined, all_joined}

module _ (p : PosedProblem) (said : Cell → Option (Option ℤ)) where
  -- the cell is said to have this score
  abbrev pub HasSaid : Cell → ℤ → Type 0
  HasSaid cell score = said cell ≡ Some (Some score)

  pub worth_of_value : (argument : Arg) (from to : ℕ) (value : ℤ) → IsValue p HasSaid (on_span argument from to) value
      → worth_of p said (on_span argument from to) ≡ Some (Some value)
  worth_of_value (Rule rule) from to value is = is
  worth_of_value (Literal text) from to value is = ap (λ v. Some (Some v)) (sym is)
  worth_of_value (Letter class) from to value is = ap (λ v. Some (Some v)) (sym is)
  worth_of_value (Run class low high) from to value is = ap (λ v. Some (Some v)) (sym is)

  value_of_worth : (argument : Arg) (from to : ℕ) (value : ℤ) → worth_of p said (on_span argument from to) ≡ Some (Some value)
      → IsValue p HasSaid (on_span argument from to) value
  value_of_worth (Rule rule) from to value is = is
  value_of_worth (Literal text) from to value is = sym (inner _ value is)
    where
      inner : (a b : ℤ) → Some (Some a) ≡ Some (Some b) → a ≡ b
      inner a b e = cc
  value_of_worth (Letter class) from to value is = sym (inner _ value is)
    where
      inner : (a b : ℤ) → Some (Some a) ≡ Some (Some b) → a ≡ b
      inner a b e = cc
  value_of_worth (Run class low high) from to value is = sym (inner _ value is)
    where
      inner : (a b : ℤ) → Some (Some a) ≡ Some (Some b) → a ≡ b
      inner a b e = cc

  pub untold_stays : (items : List Placed) → all_joined p said Untold items ≡ Untold
  untold_stays [] = refl
  untold_stays (item ∷ items) = untold_stays items

  joined_none : (front : Worths) → joined front None ≡ Untold
  joined_none Untold = refl
  joined_none Scoreless = refl
  joined_none (Values values) = refl

  some_worth : (worth : Option (Option ℤ)) → (worth ≡ None → ⊥) → IsSome worth
  some_worth None some = absurd (some refl)
  some_worth (Some worth) some = refl

  -- where none is untold, each argument's cell is told of
  pub all_told : (front : Worths) (items : List Placed) → (all_joined p said front items ≡ Untold → ⊥) → (item : Placed)
      → Contains items item → IsSome (worth_of p said item)
  all_told front [] told item found = absurd (omega (arith, found.1))
  all_told front (first ∷ items) told item (zero, low, is) =
      subst (λ x. IsSome (worth_of p said x)) is (some_worth (worth_of p said first) (λ none. told (ap (λ w. all_joined p said (joined front w) items) none
      ∙ ap (λ f. all_joined p said f items) (joined_none front) ∙ untold_stays items)))
  all_told front (first ∷ items) told item (suc place, low, is) =
      all_told (joined front (worth_of p said first)) items told item (place, omega (arith, low), is)

  -- where one is untold, one argument's cell is not told of
  pub record HasUntold (items : List Placed) : Type 0 where
    pub item : Placed
    pub found : Contains items item
    pub untold : worth_of p said item ≡ None

  later_untold : (first : Placed) (items : List Placed) → HasUntold items → HasUntold (first ∷ items)
  later_untold first items it = record { item = it.item; found = (suc it.found.0, omega (arith, it.found.1), it.found.2); untold = it.untold }

  untold_joined : (front : Worths) (worth : Option (Option ℤ)) → (front ≡ Untold → ⊥) → joined front worth ≡ Untold
      → worth ≡ None
  untold_joined Untold worth told e = absurd (told refl)
  untold_joined Scoreless None told e = refl
  untold_joined Scoreless (Some worth) told e = cc
  untold_joined (Values values) None told e = refl
  untold_joined (Values values) (Some None) told e = cc
  untold_joined (Values values) (Some (Some value)) told e = cc

  untold_or_not : (front : Worths) → (front ≡ Untold) ⊎ (front ≡ Untold → ⊥)
  untold_or_not Untold = inl refl
  untold_or_not Scoreless = inr (λ e. cc)
  untold_or_not (Values values) = inr (λ e. cc)

  pub one_untold : (front : Worths) (items : List Placed) → (front ≡ Untold → ⊥) → all_joined p said front items ≡ Untold
      → HasUntold items
  one_untold front [] told e = absurd (told e)
  one_untold front (first ∷ items) told e =
      by (untold_or_not (joined front (worth_of p said first))) (λ not. one_untold (joined front (worth_of p said first)) items not e)
    where
      by : (joined front (worth_of p said first) ≡ Untold) ⊎ (joined front (worth_of p said first) ≡ Untold → ⊥)
          → ((joined front (worth_of p said first) ≡ Untold → ⊥) → HasUntold items) → HasUntold (first ∷ items)
      by (inl here) later = record { item = first; found = (zero, omega arith, refl); untold = untold_joined front (worth_of p said first) told here }
      by (inr not) later = later_untold first items (later not)

  -- arguments with values come to these
  pub joined_values : (front : List ℤ) (items : List Placed) (values : List ℤ) → AreArgumentValues p HasSaid items values
      → all_joined p said (Values front) items ≡ Values (front ++ values)
  joined_values front [] [] are = ap Values (sym (append-nil front))
  joined_values front [] (value ∷ values) are = absurd are
  joined_values front (item ∷ items) [] are = absurd are
  joined_values front (item ∷ items) (value ∷ values) are =
      ap (λ w. all_joined p said (joined (Values front) w) items) (worth_of_value item.argument item.from item.to value are.0)
      ∙ joined_values (front ++ value ∷ []) items values are.1 ∙ ap Values (append_assoc front (value ∷ []) values)

  -- and where they come to values, they have them
  pub record HasValues (front : List ℤ) (items : List Placed) (all : List ℤ) : Type 0 where
    pub values : List ℤ
    pub are : AreArgumentValues p HasSaid items values
    pub same : all ≡ front ++ values

  scoreless_apart : (items : List Placed) (all : List ℤ) → all_joined p said Scoreless items ≡ Values all → ⊥
  scoreless_apart [] all e = cc
  scoreless_apart (item ∷ items) all e = by (worth_of p said item) e (λ h. scoreless_apart items all h)
    where
      untold : all_joined p said Untold items ≡ Values all → ⊥
      untold h = let k : Untold ≡ Values all = sym (untold_stays items) ∙ h in cc

      by : (worth : Option (Option ℤ)) → all_joined p said (joined Scoreless worth) items ≡ Values all
          → (all_joined p said Scoreless items ≡ Values all → ⊥) → ⊥
      by None h later = untold h
      by (Some worth) h later = later h

  pub values_joined : (front : List ℤ) (items : List Placed) (all : List ℤ)
      → all_joined p said (Values front) items ≡ Values all → HasValues front items all
  values_joined front [] all e = record { values = []; are = tt; same = inner all front (sym e) ∙ sym (append-nil front) }
    where
      inner : (a b : List ℤ) → Values a ≡ Values b → a ≡ b
      inner a b h = cc
  values_joined front (item ∷ items) all e =
      by (worth_of p said item) refl e (λ value h. values_joined (front ++ value ∷ []) items all h)
    where
      by : (worth : Option (Option ℤ)) → worth_of p said item ≡ worth
          → all_joined p said (joined (Values front) worth) items ≡ Values all
          → ((value : ℤ) → all_joined p said (Values (front ++ value ∷ [])) items ≡ Values all → HasValues (front ++ value ∷ []) items all)
          → HasValues front (item ∷ items) all
      by None is h later = absurd (let k : Untold ≡ Values all = sym (untold_stays items) ∙ h in cc)
      by (Some None) is h later = absurd (scoreless_apart items all h)
      by (Some (Some value)) is h later =
          let others = later value h in
          record {
            values = value ∷ others.values;
            are = (value_of_worth item.argument item.from item.to value is, others.are);
            same = others.same ∙ append_assoc front (value ∷ []) others.values;
          }

-- what is said alike of the cells of spans in the word comes to the same
pub same_worths : (p : PosedProblem) (said other : Cell → Option (Option ℤ))
    → ((cell : Cell) → cell.from ≤ length p.word → cell.to ≤ length p.word → said cell ≡ other cell) → (front : Worths) (items : List Placed)
    → AllByRecursion (FitsSpan p) items → all_joined p said front items ≡ all_joined p other front items
same_worths p said other alike front [] fits = refl
same_worths p said other alike front (item ∷ items) fits =
    ap (λ w. all_joined p said (joined front w) items) (here item.argument item.from item.to (omega (arith, fits.0.0.in_order, fits.0.0.in_word)) fits.0.0.in_word)
    ∙ same_worths p said other alike (joined front (worth_of p other item)) items fits.1
  where
    here : (argument : Arg) (from to : ℕ) → from ≤ length p.word → to ≤ length p.word
        → worth_of p said (on_span argument from to) ≡ worth_of p other (on_span argument from to)
    here (Rule rule) from to begins ends = alike (record { rule = rule; from = from; to = to }) begins ends
    here (Literal text) from to begins ends = refl
    here (Letter class) from to begins ends = refl
    here (Run class low high) from to begins ends = refl
