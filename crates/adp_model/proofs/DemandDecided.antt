-- Which cells are demanded is decided, and so they have a number.
use Rattle.std.proofs.Common.{◌≡◌, ◌↔◌, ℕ, zero, suc, ◌+◌, ◌*◌, ◌-◌, ◌<◌, ◌≤◌, ◌⊎◌, inl, inr, Bool, true, false, Option, List, [], ◌∷◌, length, drop, map, get_or, slice_index, refl, sym, ap, subst, ◌∙◌, arith}
use Rattle.std.specs.List.{AllByRecursion, Contains}
use Rattle.std.proofs.lemmas.List.{length-map, get_or-map, get_or_default}
use Rattle.std.proofs.lemmas.List.Elements.{Contains-get_or}
use Rattle.adp_model.specs.declared.grammar.Arg.{Arg}
use Rattle.adp_model.specs.declared.grammar.Arg.TheVariants.{Rule, Literal, Letter, Run}
use Rattle.adp_model.specs.declared.cell.Cell.{Cell}
use Rattle.adp_model.specs.PosedProblem.{PosedProblem, axiom_cell}
use Rattle.adp_model.specs.Parts.{alternatives_of, arguments_of}
use Rattle.adp_model.specs.Sizes.{IsWithinSizes}
use Rattle.adp_model.specs.Splits.{Placed, place, placed, ends_by, FitsSpan, IsViable}
use Rattle.adp_model.specs.Cells.{AreAll, IsCounted}
use Rattle.adp_model.specs.Demand.{IsDemandedChild, IsDemanded, IsDemandedCount, Axiom, Child}
use Rattle.adp_model.specs.Checks.{IsChecked}
use Rattle.adp_model.proofs.Decisions.{Decided, both, same_number}
use Rattle.adp_model.proofs.CellLists.{same_cell}
use Rattle.adp_model.proofs.MarkedCells.{marks_count}
use Rattle.adp_model.proofs.Premises.{IsSolvable}
use Rattle.adp_model.proofs.Deciding.{viable_or_not}
use Rattle.adp_model.proofs.Falling.{below_demanded, contained}
use Rattle.adp_model.proofs.KnownRules.{rule_known-within}
use Rattle.adp_model.proofs.Demanded.{demanded_counted}
use Rattle.adp_model.proofs.Checked.{measure, measure_falls, shorter, IsSolvable-checked}

-- ---- searches

pub same_decided : {A B : Type 0} → (A → B) → (B → A) → Decided A → Decided B
same_decided to back (inl a) = inl (to a)
same_decided to back (inr wrong) = inr (λ b. wrong (back b))

-- the second may be decided where the first holds
both_then : {A B : Type 0} → Decided A → (A → Decided B) → Decided (A × B)
both_then (inl a) next = go a (next a)
  where
    go : {A B : Type 0} → A → Decided B → Decided (A × B)
    go a (inl b) = inl (a, b)
    go a (inr wrong) = inr (λ h. wrong h.1)
both_then (inr wrong) next = inr (λ h. wrong h.0)

neither : {A B : Type 0} → (A → ⊥) → (B → ⊥) → A ⊎ B → ⊥
neither wrong wrong' (inl a) = wrong a
neither wrong wrong' (inr b) = wrong' b

either : {A B : Type 0} → Decided A → Decided B → Decided (A ⊎ B)
either (inl a) b = inl (inl a)
either (inr wrong) (inl b) = inl (inr b)
either (inr wrong) (inr wrong') = inr (neither wrong wrong')

-- it holds at some number below a bound, or at none
some_below : (P : ℕ → Type 0) (n : ℕ) → ((i : ℕ) → i < n → Decided (P i)) → Decided ((i : ℕ) × (i < n) × P i)
some_below P zero each = inr (λ h. let k : h.0 < 0 = h.1 in omega arith)
some_below P (suc n) each = go (each n (omega arith)) (some_below P n (λ i k. each i (omega arith)))
  where
    at_or_below : (i : ℕ) → i < suc n → (i < n) ⊎ (i ≡ n)
    at_or_below i k = grind arith

    neither : (P n → ⊥) → ((i : ℕ) × (i < n) × P i → ⊥) → (i : ℕ) → P i → (i < n) ⊎ (i ≡ n) → ⊥
    neither wrong wrong' i h (inl k) = wrong' (i, k, h)
    neither wrong wrong' i h (inr e) = wrong (subst P e h)

    go : Decided (P n) → Decided ((i : ℕ) × (i < n) × P i) → Decided ((i : ℕ) × (i < suc n) × P i)
    go (inl here) rest = inl (n, omega arith, here)
    go (inr wrong) (inl found) = inl (found.0, (let k : found.0 < n = found.1 in omega arith), found.2)
    go (inr wrong) (inr wrong') = inr (λ h. neither wrong wrong' h.0 h.2 (at_or_below h.0 h.1))

-- ---- demanded children

abbrev placed_at : Arg → ℕ → ℕ → Placed
placed_at argument from to = record { argument = argument; from = from; to = to }

-- the argument on the span is the rule on this one
is_placed : (rule from to : ℕ) (argument : Arg) (from' to' : ℕ) → Decided (placed_at argument from' to' ≡ placed_at (Rule rule) from to)
is_placed rule from to (Rule other) from' to' = same_decided joined parted (both (same_number other rule) (both (same_number from' from) (same_number to' to)))
  where
    joined : (other ≡ rule) × ((from' ≡ from) × (to' ≡ to)) → placed_at (Rule other) from' to' ≡ placed_at (Rule rule) from to
    joined h = λ i. record { argument = Rule (h.0 i); from = h.1.0 i; to = h.1.1 i }

    parted : placed_at (Rule other) from' to' ≡ placed_at (Rule rule) from to → (other ≡ rule) × ((from' ≡ from) × (to' ≡ to))
    parted e = (same_rule (ap (λ (x : Placed). x.argument) e), (ap (λ (x : Placed). x.from) e, ap (λ (x : Placed). x.to) e))
      where
        same_rule : Rule other ≡ Rule rule → other ≡ rule
        same_rule f = cc
is_placed rule from to (Literal text) from' to' = inr (λ e. let f : Literal text ≡ Rule rule = ap (λ (x : Placed). x.argument) e in cc)
is_placed rule from to (Letter class) from' to' = inr (λ e. let f : Letter class ≡ Rule rule = ap (λ (x : Placed). x.argument) e in cc)
is_placed rule from to (Run class low high) from' to' = inr (λ e. let f : Run class low high ≡ Rule rule = ap (λ (x : Placed). x.argument) e in cc)

same_placed : (rule from to : ℕ) (other : Placed) → Decided (other ≡ placed_at (Rule rule) from to)
same_placed rule from to other = is_placed rule from to other.argument other.from other.to

contains_or_not : (laid : List Placed) (rule from to : ℕ) → Decided (Contains laid (placed_at (Rule rule) from to))
contains_or_not laid rule from to =
    some_below (λ i. get_or laid i (placed_at (Rule rule) from to) ≡ placed_at (Rule rule) from to) (length laid)
    (λ i below. same_placed rule from to (get_or laid i (placed_at (Rule rule) from to)))

-- the ends of viable splits lie in the word
all_at : (most to : ℕ) → to ≤ most → (ends : List ℕ) → AllByRecursion (λ boundary. boundary ≡ to) ends → AllByRecursion (λ end. end ≤ most) ends
all_at most to within [] h = tt
all_at most to within (end ∷ ends) h = ((let e : end ≡ to = h.0 in omega arith), all_at most to within ends h.1)

pub ends_within : (p : PosedProblem) (to : ℕ) → to ≤ length p.word → (arguments : List Arg) (before from : ℕ) (ends : List ℕ) → before ≡ length arguments - 1
    → AllByRecursion (λ boundary. boundary ≡ to) (drop before ends) → AllByRecursion (FitsSpan p) (place arguments from ends) → AllByRecursion (λ end. end ≤ length p.word) ends
ends_within p to within arguments zero from ends e last fits = all_at (length p.word) to within ends last
ends_within p to within arguments (suc before) from [] e last fits = tt
ends_within p to within [] (suc before) from (end ∷ ends) e last fits = absurd (omega arith)
ends_within p to within (argument ∷ arguments) (suc before) from (end ∷ ends) e last fits =
    (fits.0.0.in_word, ends_within p to within arguments before end ends (omega arith) last fits.1)

-- the split has these cuts, and the child is one of its arguments' cells
abbrev HasChild : PosedProblem → Cell → Cell → ℕ → List ℕ → Type 0
HasChild p cell child alternative cuts =
    IsViable p cell alternative cuts × Contains (placed p cell alternative cuts) (record { argument = Rule child.rule; from = child.from; to = child.to })

abbrev IsSearched : PosedProblem → Cell → Cell → Type 0
IsSearched p cell child =
    (alternative : ℕ) × (alternative < length (alternatives_of p.grammar cell.rule))
    × ((a : ℕ) × (a < suc (length p.word)) × ((b : ℕ) × (b < suc (length p.word)) × ((c : ℕ) × (c < suc (length p.word)) × HasChild p cell child alternative (a ∷ b ∷ c ∷ []))))

among_three : (p : PosedProblem) (cell child : Cell) (alternative : ℕ) (cuts : List ℕ) → alternative < length (alternatives_of p.grammar cell.rule) → length cuts ≡ 3
    → AllByRecursion (λ end. end ≤ length p.word) (ends_by cell cuts) → HasChild p cell child alternative cuts → IsSearched p cell child
among_three p cell child alternative [] known three bounded h = absurd (omega arith)
among_three p cell child alternative (a ∷ []) known three bounded h = absurd (omega arith)
among_three p cell child alternative (a ∷ b ∷ []) known three bounded h = absurd (omega arith)
among_three p cell child alternative (a ∷ b ∷ c ∷ []) known three bounded h =
    let k : a ≤ length p.word = bounded.0 in
    let l : b ≤ length p.word = bounded.1.0 in
    let m : c ≤ length p.word = bounded.1.1.0 in
    (alternative, known, (a, omega arith, (b, omega arith, (c, omega arith, h))))
among_three p cell child alternative (a ∷ b ∷ c ∷ d ∷ cuts) known three bounded h = absurd (omega arith)

child_or_not : (p : PosedProblem) (measure : Cell → ℕ) → IsSolvable p measure → (cell child : Cell) → cell.to ≤ length p.word → Decided (IsDemandedChild p cell child)
child_or_not p measure solvable cell child within = same_decided found searched search_all
  where
    found : IsSearched p cell child → IsDemandedChild p cell child
    found (alternative, known, (a, i, (b, j, (c, k, h)))) = (alternative, a ∷ b ∷ c ∷ [], h.0, h.1)

    searched : IsDemandedChild p cell child → IsSearched p cell child
    searched h =
        let viable = h.2 in
        among_three p cell child h.0 h.1 viable.in_range viable.three
        (ends_within p cell.to within (arguments_of p.grammar cell.rule h.0) (length (arguments_of p.grammar cell.rule h.0) - 1) cell.from (ends_by cell h.1) refl viable.last viable.fits)
        (viable, h.3)

    here : (alternative : ℕ) → alternative < length (alternatives_of p.grammar cell.rule) → (a b c : ℕ) → Decided (HasChild p cell child alternative (a ∷ b ∷ c ∷ []))
    here alternative known a b c =
        both (viable_or_not p measure solvable cell alternative (a ∷ b ∷ c ∷ []) known refl)
        (contains_or_not (placed p cell alternative (a ∷ b ∷ c ∷ [])) child.rule child.from child.to)

    search_all : Decided (IsSearched p cell child)
    search_all =
        some_below (λ alternative. (a : ℕ) × (a < suc (length p.word)) × ((b : ℕ) × (b < suc (length p.word)) × ((c : ℕ) × (c < suc (length p.word)) × HasChild p cell child alternative (a ∷ b ∷ c ∷ []))))
        (length (alternatives_of p.grammar cell.rule))
        (λ alternative known.
        some_below (λ a. (b : ℕ) × (b < suc (length p.word)) × ((c : ℕ) × (c < suc (length p.word)) × HasChild p cell child alternative (a ∷ b ∷ c ∷ []))) (suc (length p.word))
        (λ a i.
        some_below (λ b. (c : ℕ) × (c < suc (length p.word)) × HasChild p cell child alternative (a ∷ b ∷ c ∷ [])) (suc (length p.word))
        (λ b j.
        some_below (λ c. HasChild p cell child alternative (a ∷ b ∷ c ∷ [])) (suc (length p.word))
        (λ c k. here alternative known a b c))))

-- ---- demanded cells

pub same_cell_decided : (a b : Cell) → Decided (a ≡ b)
same_cell_decided a b =
    same_decided (λ (h : (a.rule ≡ b.rule) × ((a.from ≡ b.from) × (a.to ≡ b.to))). same_cell a b h.0 h.1.0 h.1.1)
    (λ e. (ap (λ (x : Cell). x.rule) e, (ap (λ (x : Cell). x.from) e, ap (λ (x : Cell). x.to) e)))
    (both (same_number a.rule b.rule) (both (same_number a.from b.from) (same_number a.to b.to)))

-- the cell is the axiom's, or a demanded cell's child
abbrev IsLedTo : PosedProblem → Cell → Type 0
IsLedTo p cell =
    ((cell ≡ axiom_cell p) × IsWithinSizes p.grammar p.grammar.axiom (length p.word))
    ⊎ ((parent : Cell) × IsDemanded p parent × IsDemandedChild p parent cell)

led_to : (p : PosedProblem) (cell : Cell) → IsDemanded p cell → IsLedTo p cell
led_to p _ (Axiom within) = inl (refl, within)
led_to p _ (Child cell child demanded h) = inr (cell, demanded, h)

demanded_from : (p : PosedProblem) (cell : Cell) → IsLedTo p cell → IsDemanded p cell
demanded_from p cell (inl h) = subst (IsDemanded p) (sym h.0) (Axiom h.1)
demanded_from p cell (inr h) = Child h.0 cell h.1 h.2

told : {A : Type 0} → Decided A → Bool
told (inl a) = true
told (inr wrong) = false

told_true : {A : Type 0} (d : Decided A) → told d ≡ true ↔ A
unfolding told
told_true (inl a) = (λ e. a, λ h. refl)
told_true (inr wrong) = (λ e. cc, λ h. absurd (wrong h))

module _ (p : PosedProblem) (least : List ℕ) (greatest : List (Option ℕ)) (ranks : List ℕ) (checked : IsChecked p.grammar p.algebra least greatest ranks) (short : length p.word ≤ 4000)
    (cells : List Cell) (all : AreAll (IsCounted p.grammar (length p.word)) cells) where
  abbrev height : Cell → ℕ
  height = measure (length p.grammar.rules) ranks

  counted : (cell : Cell) → IsDemanded p cell → IsCounted p.grammar (length p.word) cell
  counted = demanded_counted p checked.well_formed

  top : ℕ
  top = suc (length p.word) * length p.grammar.rules + 0

  below_top : (cell : Cell) → IsDemanded p cell → height cell < top
  unfolding top
  below_top cell demanded =
      let h = counted cell demanded in
      let k : cell.to ≤ length p.word = h.in_word in
      shorter (length p.grammar.rules) (cell.to - cell.from) (suc (length p.word)) (slice_index ranks cell.rule) 0 (omega arith) (checked.ranks_fit cell.rule h.rule)

  rises : (parent cell : Cell) → IsDemandedChild p parent cell → height cell < height parent
  rises parent cell h =
      let fits = contained (FitsSpan p) (placed p parent h.0 h.1) (record { argument = Rule cell.rule; from = cell.from; to = cell.to }) h.2.fits h.3 in
      measure_falls (length p.grammar.rules) ranks cell parent (checked.ranks_fit cell.rule (rule_known-within p.grammar cell.rule (cell.to - cell.from) fits.1)) (below_demanded p least greatest ranks checked parent cell h)

  -- the parent is one of the counted cells
  abbrev HasParent : Cell → Type 0
  HasParent cell = (i : ℕ) × (i < length cells) × (IsDemandedChild p (get_or cells i cell) cell × IsDemanded p (get_or cells i cell))

  parent_listed : (cell : Cell) → (parent : Cell) × IsDemanded p parent × IsDemandedChild p parent cell → HasParent cell
  parent_listed cell h =
      let place = all.all h.0 (counted h.0 h.1) in
      let e : get_or cells place.0 cell ≡ h.0 = get_or_default cells place.0 cell h.0 place.1 ∙ place.2 in
      (place.0, place.1, (subst (λ x. IsDemandedChild p x cell) (sym e) h.2, subst (IsDemanded p) (sym e) h.1))

  by_axiom : (cell : Cell) → Decided ((cell ≡ axiom_cell p) × IsWithinSizes p.grammar p.grammar.axiom (length p.word))
  by_axiom cell = both (same_cell_decided cell (axiom_cell p)) ((IsSolvable-checked p least greatest ranks checked short).decided p.grammar.axiom (length p.word))

  listed_parent : (cell : Cell) → HasParent cell → (parent : Cell) × IsDemanded p parent × IsDemandedChild p parent cell
  listed_parent cell h = (get_or cells h.0 cell, h.2.1, h.2.0)

  parent_or_not : (cell : Cell) → ((parent : Cell) → IsDemandedChild p parent cell → Decided (IsDemanded p parent)) → Decided ((parent : Cell) × IsDemanded p parent × IsDemandedChild p parent cell)
  parent_or_not cell above =
      same_decided (listed_parent cell) (parent_listed cell)
      (some_below (λ i. IsDemandedChild p (get_or cells i cell) cell × IsDemanded p (get_or cells i cell)) (length cells)
      (λ i below.
      both_then (child_or_not p height (IsSolvable-checked p least greatest ranks checked short) (get_or cells i cell) cell (all.each (get_or cells i cell) (Contains-get_or cells i cell below)).in_word)
      (above (get_or cells i cell))))

  demanded_or_not : (fuel : ℕ) (cell : Cell) → top ≤ height cell + fuel → Decided (IsDemanded p cell)
  demanded_or_not zero cell enough = inr (λ demanded. let k : height cell < top = below_top cell demanded in let m : top ≤ height cell + 0 = enough in omega arith)
  demanded_or_not (suc fuel) cell enough =
      same_decided (demanded_from p cell) (led_to p cell) (either (by_axiom cell)
      (parent_or_not cell (λ parent h.
      let k : height cell < height parent = rises parent cell h in
      let m : top ≤ height cell + suc fuel = enough in
      demanded_or_not fuel parent (omega arith))))

  is_demanded : Cell → Bool
  is_demanded cell = told (demanded_or_not top cell (omega arith))

  is_demanded-true : (cell : Cell) → is_demanded cell ≡ true ↔ IsDemanded p cell
  unfolding is_demanded
  is_demanded-true cell = told_true (demanded_or_not top cell (omega arith))

  pub number_exists : (count : ℕ) × IsDemandedCount p count
  number_exists =
      (_, marks_count (IsDemanded p) (IsCounted p.grammar (length p.word)) cells all (map is_demanded cells) (length-map cells is_demanded) marked (axiom_cell p) counted)
    where
      marked : (i : ℕ) (d : Cell) → i < length cells → get_or (map is_demanded cells) i false ≡ true ↔ IsDemanded p (get_or cells i d)
      marked i d below =
          subst (λ mark. mark ≡ true ↔ IsDemanded p (get_or cells i d)) (sym (get_or-map is_demanded cells i d false below)) (is_demanded-true (get_or cells i d))
