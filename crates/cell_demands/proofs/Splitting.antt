-- Between the viable splits of an alternative and its arguments, laid one behind the other.
use Rattle.std.proofs.Common.{◌≡◌, ℕ, zero, suc, ◌+◌, ◌-◌, ◌<◌, ◌≤◌, replicate, List, [], ◌∷◌, ◌++◌, length, drop, refl, sym, ap, subst, ◌∙◌, inl, inr, arith}
use Rattle.std.specs.List.{AllByRecursion, Contains}
use Rattle.std.proofs.lemmas.List.{length-replicate}
use Rattle.adp_model.specs.declared.grammar.Arg.{Arg}
use Rattle.adp_model.specs.declared.grammar.Arg.TheVariants.{Rule}
use Rattle.adp_model.specs.declared.cell.Cell.{Cell}
use Rattle.adp_model.specs.PosedProblem.{PosedProblem}
use Rattle.adp_model.specs.Lengths.{AllowsLength}
use Rattle.adp_model.specs.Parts.{alternatives_of, alternative_at, arguments_of}
use Rattle.adp_model.specs.Splits.{Placed, place, placed, FitsSpan, IsViable}
use Rattle.adp_model.specs.Demand.{IsDemandedChild}
use Rattle.viable_splits.specs.Placing.{on_span, Cover}
use Rattle.split_lines.specs.Laid.{IsCellOf, Demands, DemandsBy}

-- cuts lay the arguments from `from` to `to`, so that it holds of what is laid
pub record HasCuts (p : PosedProblem) (arguments : List Arg) (from to room : ℕ) (Holds : List Placed → Type 0) : Type 0 where
  pub cuts : List ℕ
  pub counted : length cuts ≡ room
  pub fits : AllByRecursion (FitsSpan p) (place arguments from (cuts ++ to ∷ []))
  pub closed : AllByRecursion (λ boundary. boundary ≡ to) (drop (length arguments - 1) (cuts ++ to ∷ []))
  pub holds : Holds (place arguments from (cuts ++ to ∷ []))

closed_at : (to room : ℕ) → AllByRecursion (λ boundary. boundary ≡ to) (replicate room to ++ to ∷ [])
closed_at to zero = (refl, tt)
closed_at to (suc room) = (refl, closed_at to room)

module _ (p : PosedProblem) where
  pub lay_last : (argument : Arg) (from to room : ℕ) (Holds : List Placed → Type 0)
      → FitsSpan p (on_span argument from to) → Holds (on_span argument from to ∷ [])
      → HasCuts p (argument ∷ []) from to room Holds
  lay_last argument from to zero Holds fits holds = record { cuts = []; counted = refl; fits = (fits, tt); closed = (refl, tt); holds = holds }
  lay_last argument from to (suc room) Holds fits holds = record {
    cuts = replicate (suc room) to;
    counted = length-replicate (suc room) to;
    fits = (fits, tt);
    closed = closed_at to (suc room);
    holds = holds;
  }

  closed_later : (next : Arg) (arguments : List Arg) (end to : ℕ) (cuts : List ℕ)
      → AllByRecursion (λ boundary. boundary ≡ to) (drop (length (next ∷ arguments) - 1) (cuts ++ to ∷ []))
      → (argument : Arg) → AllByRecursion (λ boundary. boundary ≡ to) (drop (length (argument ∷ next ∷ arguments) - 1) ((end ∷ cuts) ++ to ∷ []))
  closed_later next arguments end to cuts closed argument =
      let more : suc (suc (length arguments)) - 1 ≡ suc (length arguments) = omega arith in
      let fewer : suc (length arguments) - 1 ≡ length arguments = omega arith in
      let C : List ℕ → Type 0 = AllByRecursion (λ boundary. boundary ≡ to) in
      subst C (ap (λ n. drop n (cuts ++ to ∷ [])) fewer ∙ sym (ap (λ n. drop n (end ∷ (cuts ++ to ∷ []))) more)) closed

  pub lay : (argument next : Arg) (arguments : List Arg) (from end to room : ℕ) (Before Holds : List Placed → Type 0) → FitsSpan p (on_span argument from end)
      → ((others : List Placed) → Before others → Holds (on_span argument from end ∷ others))
      → HasCuts p (next ∷ arguments) end to room Before
      → HasCuts p (argument ∷ next ∷ arguments) from to (suc room) Holds
  lay argument next arguments from end to room Before Holds fits more others = record {
    cuts = end ∷ others.cuts;
    counted = ap suc others.counted;
    fits = (fits, others.fits);
    closed = closed_later next arguments end to others.cuts others.closed argument;
    holds = more _ others.holds;
  }

  cuts_of_cover : (argument : Arg) (arguments : List Arg) (from to room : ℕ) → length arguments ≤ room
      → Cover p (argument ∷ arguments) from to → HasCuts p (argument ∷ arguments) from to room (λ _. Unit {0})
  cuts_of_cover argument [] from to room few cover =
      let F : ℕ → Type 0 = λ end. FitsSpan p (on_span argument from end) in
      lay_last argument from to room (λ _. Unit {0}) (subst F cover.2 cover.1) tt
  cuts_of_cover argument (next ∷ arguments) from to zero few cover = absurd (omega arith)
  cuts_of_cover argument (next ∷ arguments) from to (suc room) few cover =
      lay argument next arguments from cover.0 to room (λ _. Unit {0}) (λ _. Unit {0}) cover.1 (λ others h. tt)
      (cuts_of_cover next arguments cover.0 to room (omega arith) cover.2)

  abbrev pub Stands : Cell → List Placed → Type 0
  Stands cell placed = Contains placed (on_span (Rule cell.rule) cell.from cell.to)

  stands_first : (argument : Arg) (from end : ℕ) (cell : Cell) (others : List Placed) → IsCellOf argument from end cell
      → Stands cell (on_span argument from end ∷ others)
  stands_first argument from end cell others is = (0, omega arith, λ i. on_span (is.rule i) (is.begins i) (is.ends i))

  stands_later : (first : Placed) (cell : Cell) (others : List Placed) → Stands cell others → Stands cell (first ∷ others)
  stands_later first cell others (at, within, is) = (suc at, omega arith, is)

  cuts_of_demand : (argument : Arg) (arguments : List Arg) (from to room : ℕ) (cell : Cell) → length arguments ≤ room
      → Demands p (argument ∷ arguments) from to cell → HasCuts p (argument ∷ arguments) from to room (Stands cell)
  cuts_of_demand argument [] from to room cell few (end, fits, inl (is, e)) =
      let F : ℕ → Type 0 = λ it. FitsSpan p (on_span argument from it) in
      let S : ℕ → Type 0 = λ it. Stands cell (on_span argument from it ∷ []) in
      lay_last argument from to room (Stands cell) (subst F e fits) (subst S e (stands_first argument from end cell [] is))
  cuts_of_demand argument [] from to room cell few (end, fits, inr none) = absurd none
  cuts_of_demand argument (next ∷ arguments) from to zero cell few demand = absurd (omega arith)
  cuts_of_demand argument (next ∷ arguments) from to (suc room) cell few (end, fits, inl (is, cover)) =
      lay argument next arguments from end to room (λ _. Unit {0}) (Stands cell) fits
      (λ others h. stands_first argument from end cell others is)
      (cuts_of_cover next arguments end to room (omega arith) cover)
  cuts_of_demand argument (next ∷ arguments) from to (suc room) cell few (end, fits, inr later) =
      lay argument next arguments from end to room (Stands cell) (Stands cell) fits
      (stands_later (on_span argument from end) cell)
      (cuts_of_demand next arguments end to room cell (omega arith) later)

  -- what cuts lay of a whole alternative is a viable split
  pub split_of_cuts : (cell : Cell) (alternative : ℕ) (Holds : List Placed → Type 0)
      → alternative < length (alternatives_of p.grammar cell.rule)
      → AllowsLength (alternative_at p.grammar cell.rule alternative) (cell.to - cell.from)
      → HasCuts p (arguments_of p.grammar cell.rule alternative) cell.from cell.to 3 Holds
      → (cuts : List ℕ) × IsViable p cell alternative cuts × Holds (placed p cell alternative cuts)
  split_of_cuts cell alternative Holds in_range allowed has =
      (has.cuts, record { in_range = in_range; allowed = allowed; three = has.counted; last = has.closed; fits = has.fits }, has.holds)

  -- where an alternative's arguments demand a cell on the cell's span, a viable split has it
  pub split_of_demands : (cell : Cell) (alternative : ℕ) (child : Cell)
      → alternative < length (alternatives_of p.grammar cell.rule)
      → length (arguments_of p.grammar cell.rule alternative) ≤ 4
      → DemandsBy p cell alternative child → (cuts : List ℕ) × IsViable p cell alternative cuts × Stands child (placed p cell alternative cuts)
  split_of_demands cell alternative child in_range few demands =
      split_of_cuts cell alternative (Stands child) in_range demands.0 (by (arguments_of p.grammar cell.rule alternative) few demands.1)
    where
      by : (arguments : List Arg) → length arguments ≤ 4 → Demands p arguments cell.from cell.to child → HasCuts p arguments cell.from cell.to 3 (Stands child)
      by [] few demands = absurd demands
      by (argument ∷ arguments) few demands = cuts_of_demand argument arguments cell.from cell.to 3 child (omega arith) demands

  -- so it is a demanded child
  pub child_of_demands : (cell : Cell) (alternative : ℕ) (child : Cell)
      → alternative < length (alternatives_of p.grammar cell.rule)
      → length (arguments_of p.grammar cell.rule alternative) ≤ 4
      → DemandsBy p cell alternative child → IsDemandedChild p cell child
  child_of_demands cell alternative child in_range few demands =
      let it = split_of_demands cell alternative child in_range few demands in
      (alternative, it.0, it.1, it.2)

  -- ---- and back

  pub length_ends : (cuts : List ℕ) (to : ℕ) → length (cuts ++ to ∷ []) ≡ length cuts + 1
  length_ends [] to = refl
  length_ends (cut ∷ cuts) to = omega (arith, length_ends cuts to)

  cover_of_cuts : (argument : Arg) (arguments : List Arg) (from to : ℕ) (ends : List ℕ) → AllByRecursion (FitsSpan p) (place (argument ∷ arguments) from ends)
      → AllByRecursion (λ boundary. boundary ≡ to) (drop (length arguments) ends) → length arguments + 1 ≤ length ends → Cover p (argument ∷ arguments) from to
  cover_of_cuts argument arguments from to [] fits closed few = absurd (omega arith)
  cover_of_cuts argument [] from to (end ∷ ends) fits closed few = (end, fits.0, closed.0)
  cover_of_cuts argument (next ∷ arguments) from to (end ∷ ends) fits closed few =
      (end, fits.0, cover_of_cuts next arguments end to ends fits.1 closed (omega arith))

  cell_of : (argument : Arg) (from end : ℕ) (cell : Cell)
      → on_span argument from end ≡ on_span (Rule cell.rule) cell.from cell.to → IsCellOf argument from end cell
  cell_of argument from end cell is = record {
    rule = ap (λ (placed : Placed). placed.argument) is;
    begins = ap (λ (placed : Placed). placed.from) is;
    ends = ap (λ (placed : Placed). placed.to) is;
  }

  demand_of_cuts : (argument : Arg) (arguments : List Arg) (from to : ℕ) (ends : List ℕ) (cell : Cell)
      → AllByRecursion (FitsSpan p) (place (argument ∷ arguments) from ends)
      → AllByRecursion (λ boundary. boundary ≡ to) (drop (length arguments) ends)
      → Stands cell (place (argument ∷ arguments) from ends) → length arguments + 1 ≤ length ends
      → Demands p (argument ∷ arguments) from to cell
  demand_of_cuts argument arguments from to [] cell fits closed stands few = absurd (omega arith)
  demand_of_cuts argument [] from to (end ∷ ends) cell fits closed (zero, within, is) few = (end, fits.0, inl (cell_of argument from end cell is, closed.0))
  demand_of_cuts argument [] from to (end ∷ ends) cell fits closed (suc at, within, is) few = absurd (omega arith)
  demand_of_cuts argument (next ∷ arguments) from to (end ∷ ends) cell fits closed (zero, within, is) few =
      (end, fits.0, inl (cell_of argument from end cell is, cover_of_cuts next arguments end to ends fits.1 closed (omega arith)))
  demand_of_cuts argument (next ∷ arguments) from to (end ∷ ends) cell fits closed (suc at, within, is) few =
      (end, fits.0, inr (demand_of_cuts next arguments end to ends cell fits.1 closed (at, omega arith, is) (omega arith)))

  pub demands_of_child : (cell : Cell) (alternative : ℕ) (cuts : List ℕ) (child : Cell)
      → 1 ≤ length (arguments_of p.grammar cell.rule alternative)
      → length (arguments_of p.grammar cell.rule alternative) ≤ 4
      → IsViable p cell alternative cuts
      → Contains (placed p cell alternative cuts) (on_span (Rule child.rule) child.from child.to)
      → Demands p (arguments_of p.grammar cell.rule alternative) cell.from cell.to child
  demands_of_child cell alternative cuts child some few viable stands =
      by (arguments_of p.grammar cell.rule alternative) some few viable.fits viable.last stands
    where
      by : (arguments : List Arg) → 1 ≤ length arguments → length arguments ≤ 4
          → AllByRecursion (FitsSpan p) (place arguments cell.from (cuts ++ cell.to ∷ []))
          → AllByRecursion (λ boundary. boundary ≡ cell.to) (drop (length arguments - 1) (cuts ++ cell.to ∷ []))
          → Stands child (place arguments cell.from (cuts ++ cell.to ∷ [])) → Demands p arguments cell.from cell.to child
      by [] some few fits last stands = absurd (omega arith)
      by (argument ∷ arguments) some few fits last stands =
          let fewer : suc (length arguments) - 1 ≡ length arguments = omega arith in
          let C : ℕ → Type 0 = λ n. AllByRecursion (λ boundary. boundary ≡ cell.to) (drop n (cuts ++ cell.to ∷ [])) in
          demand_of_cuts argument arguments cell.from cell.to (cuts ++ cell.to ∷ []) child fits (subst C fewer last)
          stands (omega (arith, length_ends cuts cell.to, viable.three))
