-- Between the viable splits of an alternative and its arguments, laid one behind the other by ends.
use Rattle.std.proofs.Common.{◌≡◌, ℕ, zero, suc, ◌+◌, ◌-◌, ◌<◌, ◌≤◌, replicate, List, [], ◌∷◌, ◌++◌, length, drop, refl, sym, ap, subst, ◌∙◌, arith}
use Rattle.std.specs.List.{AllByRecursion}
use Rattle.std.proofs.lemmas.List.{length-replicate}
use Rattle.adp_model.specs.declared.grammar.Arg.{Arg}
use Rattle.adp_model.specs.declared.cell.Cell.{Cell}
use Rattle.adp_model.specs.PosedProblem.{PosedProblem}
use Rattle.adp_model.specs.Lengths.{AllowsLength}
use Rattle.adp_model.specs.Parts.{alternative_at, alternatives_of, arguments_of}
use Rattle.adp_model.specs.Splits.{Placed, place, placed, FitsSpan, IsViable}
use Rattle.viable_splits.specs.Placing.{on_span}
use Rattle.table_certificate.specs.SplitVerdicts.{AreLaid}

-- cuts lay the arguments from `from` to `to` as these ends do
record HasCuts (p : PosedProblem) (arguments : List Arg) (from to room : ℕ) (items : List Placed) : Type 0 where
  cuts : List ℕ
  counted : length cuts ≡ room
  fits : AllByRecursion (FitsSpan p) (place arguments from (cuts ++ to ∷ []))
  closed : AllByRecursion (λ boundary. boundary ≡ to) (drop (length arguments - 1) (cuts ++ to ∷ []))
  same : place arguments from (cuts ++ to ∷ []) ≡ items

closed_at : (to room : ℕ) → AllByRecursion (λ boundary. boundary ≡ to) (replicate room to ++ to ∷ [])
closed_at to zero = (refl, tt)
closed_at to (suc room) = (refl, closed_at to room)

lay_last : (p : PosedProblem) (argument : Arg) (from to room : ℕ) → FitsSpan p (on_span argument from to)
    → HasCuts p (argument ∷ []) from to room (on_span argument from to ∷ [])
lay_last p argument from to zero fits = record { cuts = []; counted = refl; fits = (fits, tt); closed = (refl, tt); same = refl }
lay_last p argument from to (suc room) fits = record {
  cuts = replicate (suc room) to;
  counted = length-replicate (suc room) to;
  fits = (fits, tt);
  closed = closed_at to (suc room);
  same = refl;
}

closed_later : (next : Arg) (arguments : List Arg) (end to : ℕ) (cuts : List ℕ)
    → AllByRecursion (λ boundary. boundary ≡ to) (drop (length (next ∷ arguments) - 1) (cuts ++ to ∷ [])) → (argument : Arg)
    → AllByRecursion (λ boundary. boundary ≡ to) (drop (length (argument ∷ next ∷ arguments) - 1) ((end ∷ cuts) ++ to ∷ []))
closed_later next arguments end to cuts closed argument =
    let more : suc (suc (length arguments)) - 1 ≡ suc (length arguments) = omega arith in
    let fewer : suc (length arguments) - 1 ≡ length arguments = omega arith in
    let C : List ℕ → Type 0 = AllByRecursion (λ boundary. boundary ≡ to) in
    subst C (ap (λ n. drop n (cuts ++ to ∷ [])) fewer ∙ sym (ap (λ n. drop n (end ∷ (cuts ++ to ∷ []))) more)) closed

lay : (p : PosedProblem) (argument next : Arg) (arguments : List Arg) (from end to room : ℕ) (items : List Placed)
    → FitsSpan p (on_span argument from end) → HasCuts p (next ∷ arguments) end to room items
    → HasCuts p (argument ∷ next ∷ arguments) from to (suc room) (on_span argument from end ∷ items)
lay p argument next arguments from end to room items fits others = record {
  cuts = end ∷ others.cuts;
  counted = ap suc others.counted;
  fits = (fits, others.fits);
  closed = closed_later next arguments end to others.cuts others.closed argument;
  same = ap (λ (rest : List Placed). on_span argument from end ∷ rest) others.same;
}

cuts_of_laid : (p : PosedProblem) (argument : Arg) (arguments : List Arg) (from to room : ℕ) (ends : List ℕ)
    → length arguments ≤ room → AreLaid p (argument ∷ arguments) from to ends
    → HasCuts p (argument ∷ arguments) from to room (place (argument ∷ arguments) from ends)
cuts_of_laid p argument arguments from to room [] few laid = absurd laid
cuts_of_laid p argument [] from to room (end ∷ []) few laid =
    subst (λ x. HasCuts p (argument ∷ []) from to room (on_span argument from x ∷ [])) (sym laid.1)
    (lay_last p argument from to room (subst (λ x. FitsSpan p (on_span argument from x)) laid.1 laid.0))
cuts_of_laid p argument [] from to room (end ∷ other ∷ ends) few laid = absurd laid.1
cuts_of_laid p argument (next ∷ arguments) from to zero (end ∷ ends) few laid = absurd (omega arith)
cuts_of_laid p argument (next ∷ arguments) from to (suc room) (end ∷ ends) few laid =
    lay p argument next arguments from end to room (place (next ∷ arguments) end ends) laid.0
    (cuts_of_laid p next arguments end to room ends (omega arith) laid.1)

-- ends lay the arguments as these do, which may be more
record HasEnds (p : PosedProblem) (arguments : List Arg) (from to : ℕ) (items : List Placed) : Type 0 where
  ends : List ℕ
  laid : AreLaid p arguments from to ends
  same : place arguments from ends ≡ items

ends_of_cuts : (p : PosedProblem) (argument : Arg) (arguments : List Arg) (from to : ℕ) (ends : List ℕ)
    → length arguments < length ends → AllByRecursion (FitsSpan p) (place (argument ∷ arguments) from ends)
    → AllByRecursion (λ boundary. boundary ≡ to) (drop (length arguments) ends)
    → HasEnds p (argument ∷ arguments) from to (place (argument ∷ arguments) from ends)
ends_of_cuts p argument arguments from to [] many fits closed = absurd (omega arith)
ends_of_cuts p argument [] from to (end ∷ ends) many fits closed = record {
  ends = end ∷ [];
  laid = (fits.0, closed.0);
  same = refl;
}
ends_of_cuts p argument (next ∷ arguments) from to (end ∷ ends) many fits closed =
    let others = ends_of_cuts p next arguments end to ends (omega arith) fits.1 closed in
    record {
      ends = end ∷ others.ends;
      laid = (fits.0, others.laid);
      same = ap (λ (rest : List Placed). on_span argument from end ∷ rest) others.same;
    }

-- ---- splits of a cell

module _ (p : PosedProblem) (cell : Cell) (alternative : ℕ) where
  -- a split of the cell, as arguments laid by ends
  pub record IsLaidSplit (items : List Placed) : Type 0 where
    pub ends : List ℕ
    pub laid : AreLaid p (arguments_of p.grammar cell.rule alternative) cell.from cell.to ends
    pub same : place (arguments_of p.grammar cell.rule alternative) cell.from ends ≡ items

  pub laid_split : (cuts : List ℕ) → 1 ≤ length (arguments_of p.grammar cell.rule alternative)
      → length (arguments_of p.grammar cell.rule alternative) ≤ 4 → IsViable p cell alternative cuts
      → IsLaidSplit (placed p cell alternative cuts)
  laid_split cuts some few viable = by (arguments_of p.grammar cell.rule alternative) refl
    where
      ends : List ℕ
      ends = cuts ++ cell.to ∷ []

      long : (cuts : List ℕ) (to : ℕ) → length (cuts ++ to ∷ []) ≡ length cuts + 1
      long [] to = refl
      long (cut ∷ cuts) to = let inner : length (cuts ++ to ∷ []) ≡ length cuts + 1 = long cuts to in omega arith

      by : (arguments : List Arg) → arguments_of p.grammar cell.rule alternative ≡ arguments
          → IsLaidSplit (placed p cell alternative cuts)
      by [] e = absurd (omega (arith, ap length e, some))
      by (argument ∷ arguments) e =
          let fewer : length (arguments_of p.grammar cell.rule alternative) - 1 ≡ length arguments = omega (arith, ap length e) in
          let closed = subst (λ n. AllByRecursion (λ boundary. boundary ≡ cell.to) (drop n ends)) fewer viable.last in
          let fits = subst (λ them. AllByRecursion (FitsSpan p) (place them cell.from ends)) e viable.fits in
          let found = ends_of_cuts p argument arguments cell.from cell.to ends (omega (arith, few, ap length e, viable.three, long cuts cell.to)) fits closed in
          record {
            ends = found.ends;
            laid = subst (λ them. AreLaid p them cell.from cell.to found.ends) (sym e) found.laid;
            same = ap (λ them. place them cell.from found.ends) e ∙ found.same ∙ ap (λ them. place them cell.from ends) (sym e);
          }

  -- and back
  pub record IsCutSplit (items : List Placed) : Type 0 where
    pub cuts : List ℕ
    pub viable : IsViable p cell alternative cuts
    pub same : placed p cell alternative cuts ≡ items

  pub cut_split : (ends : List ℕ) → alternative < length (alternatives_of p.grammar cell.rule)
      → AllowsLength (alternative_at p.grammar cell.rule alternative) (cell.to - cell.from)
      → 1 ≤ length (arguments_of p.grammar cell.rule alternative)
      → length (arguments_of p.grammar cell.rule alternative) ≤ 4
      → AreLaid p (arguments_of p.grammar cell.rule alternative) cell.from cell.to ends
      → IsCutSplit (place (arguments_of p.grammar cell.rule alternative) cell.from ends)
  cut_split ends in_range allowed some few laid = by (arguments_of p.grammar cell.rule alternative) refl
    where
      by : (arguments : List Arg) → arguments_of p.grammar cell.rule alternative ≡ arguments
          → IsCutSplit (place (arguments_of p.grammar cell.rule alternative) cell.from ends)
      by [] e = absurd (omega (arith, ap length e, some))
      by (argument ∷ arguments) e =
          let found = cuts_of_laid p argument arguments cell.from cell.to 3 ends (omega (arith, few, ap length e)) (subst (λ them. AreLaid p them cell.from cell.to ends) e laid) in
          let all : List ℕ = found.cuts ++ cell.to ∷ [] in
          let count : length (argument ∷ arguments) - 1 ≡ length (arguments_of p.grammar cell.rule alternative) - 1 = ap (λ them. length them - 1) (sym e) in
          record {
            cuts = found.cuts;
            viable = record {
              in_range = in_range;
              allowed = allowed;
              three = found.counted;
              last = subst (λ n. AllByRecursion (λ boundary. boundary ≡ cell.to) (drop n all)) count found.closed;
              fits = subst (λ them. AllByRecursion (FitsSpan p) (place them cell.from all)) (sym e) found.fits;
            };
            same = ap (λ them. place them cell.from all) e ∙ found.same ∙ ap (λ them. place them cell.from ends) (sym e);
          }
