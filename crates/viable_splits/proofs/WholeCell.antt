-- Cuts that divide a whole cell are its viable splits.
use Rattle.std.proofs.Common.{◌≡◌, ℕ, zero, suc, ◌-◌, ◌<◌, List, [], ◌∷◌, ◌++◌, length, drop, refl, sym, ap, subst, ◌∙◌, arith}
use Rattle.std.specs.List.{AllByRecursion}
use Rattle.adp_model.specs.declared.grammar.Arg.{Arg}
use Rattle.adp_model.specs.declared.cell.Cell.{Cell}
use Rattle.adp_model.specs.PosedProblem.{PosedProblem}
use Rattle.adp_model.specs.Lengths.{AllowsLength}
use Rattle.adp_model.specs.Parts.{alternatives_of, alternative_at, arguments_of}
use Rattle.adp_model.specs.Splits.{FitsSpan, place, IsViable}
use Rattle.adp_model.specs.Walk.{IsFirstVisited, IsNextVisited, IsLastVisited}
use Rattle.viable_splits.specs.declared.cuts.Cuts.{Cuts}
use Rattle.viable_splits.specs.Placing.{Divide, HasNoneBehind, IsFirstBehind, IsNextFrom, IsLastFrom}

all_front : (P : ℕ → Type 0) (xs : List ℕ) (y : ℕ) → AllByRecursion P (xs ++ y ∷ []) → AllByRecursion P xs
all_front P [] y h = tt
all_front P (x ∷ xs) y h = (h.0, all_front P xs y h.1)

all_push : (P : ℕ → Type 0) (xs : List ℕ) (y : ℕ) → AllByRecursion P xs → P y → AllByRecursion P (xs ++ y ∷ [])
all_push P [] y h last = (last, tt)
all_push P (x ∷ xs) y h last = (h.0, all_push P xs y h.1 last)

all_none : (P : ℕ → Type 0) (n : ℕ) → AllByRecursion P (drop n [])
all_none P zero = tt
all_none P (suc n) = tt

-- the boundaries behind the last argument's start stand at the end
abbrev AreClosed : List Arg → ℕ → List ℕ → Type 0
AreClosed arguments to cuts = AllByRecursion (λ boundary. boundary ≡ to) (drop (length arguments - 1) (cuts ++ to ∷ []))

abbrev AllFit : PosedProblem → List Arg → ℕ → ℕ → List ℕ → Type 0
AllFit p arguments from to cuts = AllByRecursion (FitsSpan p) (place arguments from (cuts ++ to ∷ []))

closed_later : (argument next : Arg) (arguments : List Arg) (to cut : ℕ) (cuts : List ℕ) → drop (length (argument ∷ next ∷ arguments) - 1) ((cut ∷ cuts) ++ to ∷ []) ≡ drop (length (next ∷ arguments) - 1) (cuts ++ to ∷ [])
closed_later argument next arguments to cut cuts =
    let more : suc (suc (length arguments)) - 1 ≡ suc (length arguments) = omega arith in
    let fewer : suc (length arguments) - 1 ≡ length arguments = omega arith in
    ap (λ n. drop n (cut ∷ (cuts ++ to ∷ []))) more ∙ ap (λ n. drop n (cuts ++ to ∷ [])) (sym fewer)

fitted_divide : (p : PosedProblem) (arguments : List Arg) (from to : ℕ) (cuts : List ℕ) → AreClosed arguments to cuts → AllFit p arguments from to cuts → Divide p arguments from to cuts
fitted_divide p [] from to cuts closed fits = all_front (λ boundary. boundary ≡ to) cuts to closed
fitted_divide p (argument ∷ []) from to [] closed fits = (fits.0, tt)
fitted_divide p (argument ∷ []) from to (cut ∷ cuts) closed fits =
    (subst (λ c. FitsSpan p (record { argument = argument; from = from; to = c })) closed.0 fits.0, all_front (λ boundary. boundary ≡ to) (cut ∷ cuts) to closed)
fitted_divide p (argument ∷ next ∷ arguments) from to [] closed fits = fits.0
fitted_divide p (argument ∷ next ∷ arguments) from to (cut ∷ cuts) closed fits =
    (fits.0, fitted_divide p (next ∷ arguments) cut to cuts (subst (AllByRecursion (λ boundary. boundary ≡ to)) (closed_later argument next arguments to cut cuts) closed) fits.1)

divide_closed : (p : PosedProblem) (arguments : List Arg) (from to : ℕ) (cuts : List ℕ) → Divide p arguments from to cuts → AreClosed arguments to cuts
divide_closed p [] from to cuts h = all_push (λ boundary. boundary ≡ to) cuts to h refl
divide_closed p (argument ∷ []) from to cuts h = all_push (λ boundary. boundary ≡ to) cuts to h.1 refl
divide_closed p (argument ∷ next ∷ arguments) from to [] h =
    let more : suc (suc (length arguments)) - 1 ≡ suc (length arguments) = omega arith in
    subst (λ n. AllByRecursion (λ boundary. boundary ≡ to) (drop n (to ∷ []))) (sym more) (all_none (λ boundary. boundary ≡ to) (length arguments))
divide_closed p (argument ∷ next ∷ arguments) from to (cut ∷ cuts) h =
    subst (AllByRecursion (λ boundary. boundary ≡ to)) (sym (closed_later argument next arguments to cut cuts)) (divide_closed p (next ∷ arguments) cut to cuts h.1)

divide_fitted : (p : PosedProblem) (arguments : List Arg) (from to : ℕ) (cuts : List ℕ) → Divide p arguments from to cuts → AllFit p arguments from to cuts
divide_fitted p [] from to cuts h = tt
divide_fitted p (argument ∷ []) from to [] h = (h.0, tt)
divide_fitted p (argument ∷ []) from to (cut ∷ cuts) h =
    (subst (λ c. FitsSpan p (record { argument = argument; from = from; to = c })) (sym h.1.0) h.0, tt)
divide_fitted p (argument ∷ next ∷ arguments) from to [] h = (h, tt)
divide_fitted p (argument ∷ next ∷ arguments) from to (cut ∷ cuts) h = (h.0, divide_fitted p (next ∷ arguments) cut to cuts h.1)

pub viable_divides : (p : PosedProblem) (cell : Cell) (alternative : ℕ) (cuts : List ℕ) → IsViable p cell alternative cuts → Divide p (arguments_of p.grammar cell.rule alternative) cell.from cell.to cuts
viable_divides p cell alternative cuts viable =
    fitted_divide p (arguments_of p.grammar cell.rule alternative) cell.from cell.to cuts viable.last viable.fits

pub divides_viable : (p : PosedProblem) (cell : Cell) (alternative : ℕ) (cuts : List ℕ) → alternative < length (alternatives_of p.grammar cell.rule) → AllowsLength (alternative_at p.grammar cell.rule alternative) (cell.to - cell.from) → length cuts ≡ 3 → Divide p (arguments_of p.grammar cell.rule alternative) cell.from cell.to cuts → IsViable p cell alternative cuts
divides_viable p cell alternative cuts in_range allowed three h =
    record {
      in_range = in_range;
      allowed = allowed;
      three = three;
      last = divide_closed p (arguments_of p.grammar cell.rule alternative) cell.from cell.to cuts h;
      fits = divide_fitted p (arguments_of p.grammar cell.rule alternative) cell.from cell.to cuts h;
    }

module _ (p : PosedProblem) (cell : Cell) (alternative : ℕ) (in_range : alternative < length (alternatives_of p.grammar cell.rule)) (allowed : AllowsLength (alternative_at p.grammar cell.rule alternative) (cell.to - cell.from)) (cuts : Cuts) where
  pub first_visited : (found : Cuts) → IsFirstBehind p cell (arguments_of p.grammar cell.rule alternative) cell.from 0 0 cuts found → IsFirstVisited p cell alternative cuts.turns found.at
  first_visited found first =
      record {
        viable = divides_viable p cell alternative found.at in_range allowed first.continues.three first.continues.divides;
        first = λ others viable before. first.first others (omega (arith, viable.three)) (viable_divides p cell alternative others viable) (omega arith) before;
      }

  pub none_visited : HasNoneBehind p cell (arguments_of p.grammar cell.rule alternative) cell.from 0 0 cuts.turns → (others : List ℕ) → IsViable p cell alternative others → ⊥
  none_visited none others viable = none others (omega (arith, viable.three)) (viable_divides p cell alternative others viable) (omega arith)

  pub next_visited : (found : Cuts) → IsNextFrom p cell (arguments_of p.grammar cell.rule alternative) cell.from 0 cuts found → IsNextVisited p cell alternative cuts.turns cuts.at found.at
  next_visited found there =
      record {
        viable = divides_viable p cell alternative found.at in_range allowed there.continues.three there.continues.divides;
        behind = there.behind;
        next = λ others viable behind before. there.next others (omega (arith, viable.three)) (viable_divides p cell alternative others viable) behind before;
      }

  pub last_visited : IsLastFrom p cell (arguments_of p.grammar cell.rule alternative) cell.from 0 cuts → IsLastVisited p cell alternative cuts.turns cuts.at
  last_visited last others viable behind = last others (omega (arith, viable.three)) (viable_divides p cell alternative others viable) behind
