-- What is left of the rule of a table when it is closed.
use Rattle.std.proofs.Common.{◌≡◌, ℕ, zero, suc, ◌+◌, ◌-◌, ◌<◌, ◌≤◌, ◌==◌, ◌⊎◌, inl, inr, if◌then◌else◌, List, [], ◌∷◌, Contains, sum_by, refl, sym, ap, subst, ◌∙◌, arith}
use mathlib.Core.Logic.{dite}
use native.Mathlib.Decide.{ℕ_discrete, dec_le}
use mathlib.Core.Option.{some, some-injective, some-ne-none}
use lib.ListN.{get_elem?}
use Rattle.std.proofs.lemmas.List.Elements.{All-contains}
use Rattle.std.proofs.lemmas.List.Sums.{sum_by-cons}
use Rattle.adp_model.specs.declared.cell.Cell.{Cell}
use Rattle.adp_model.specs.PosedProblem.{PosedProblem, axiom_cell}
use Rattle.adp_model.specs.Demand.{IsDemanded, IsDemandedChild, Axiom, Child}
use Rattle.memo_words.specs.declared.view.View.{View}
use Rattle.memo_words.specs.Codes.{HasCellCode, cell_code}
use Rattle.memo_words.specs.Layout.{Plan, slots_of, records_of, key, counter}
use Rattle.memo_words.specs.Kept.{IsPublished, name, filled, wins_of}
use Rattle.memo_words.specs.Steps.{IsClosing}
use Rattle.memo_table.specs.ClosedTables.{ClosedTable, IsSettled, IsHeldOnce}
use Rattle.memo_table.proofs.Counting.{one_if, tally_at}

-- every demanded cell, from the axiom's cell on
reaches : (p : PosedProblem) (Published : Cell → Type 0) → Published (axiom_cell p)
    → ((cell child : Cell) → Published cell → IsDemandedChild p cell child → Published child)
    → (cell : Cell) → IsDemanded p cell → Published cell
reaches p Published first closed _ (Axiom within) = first
reaches p Published first closed _ (Child cell child demanded is) =
    closed cell child (reaches p Published first closed cell demanded) is

-- the sum of one view's and of noughts
only_one : (f : View → ℕ) (views : List View) (at : ℕ) (v : View) → get_elem? views at ≡ some v
    → ((i : ℕ) (w : View) → get_elem? views i ≡ some w → (i ≡ at → ⊥) → f w ≡ 0) → sum_by f views ≡ f v
only_one f [] at v mine others = absurd (some-ne-none v (sym mine))
only_one f (x ∷ xs) zero v mine others =
    let s = sum_by-cons f x xs in
    let here : f x ≡ f v = ap f (some-injective x v mine) in
    let rest = none_of f xs (λ i w is. others (suc i) w is (λ e. let z : suc i ≡ zero = e in omega arith)) in
    omega (arith, s, here, rest)
  where
    none_of : (f : View → ℕ) (xs : List View) → ((i : ℕ) (w : View) → get_elem? xs i ≡ some w → f w ≡ 0)
        → sum_by f xs ≡ 0
    none_of f [] h = refl
    none_of f (x ∷ xs) h =
        let s = sum_by-cons f x xs in
        let a = h zero x refl in
        let b = none_of f xs (λ i w is. h (suc i) w is) in
        omega (arith, s, a, b)
only_one f (x ∷ xs) (suc at) v mine others =
    let s = sum_by-cons f x xs in
    let first = others zero x refl (λ e. let z : zero ≡ suc at = e in omega arith) in
    let rest = only_one f xs at v mine (λ i w is other. others (suc i) w is
    (λ e. other (let z : suc i ≡ suc at = e in omega arith))) in
    omega (arith, s, first, rest)

module _ (plan : Plan) (v : View) (words : List ℕ)
    (tell : (a b : Cell) → HasCellCode a → HasCellCode b → cell_code a ≡ cell_code b → a ≡ b) where
  module _ (closing : IsClosing plan v words) where
    few : (position : ℕ) → position < slots_of plan → name plan closing.state.words position ≤ records_of plan
    few position inside =
        dite (ℕ_discrete (name plan closing.state.words position) 0)
        (λ none. omega (arith, none))
        (λ some.
        let number = name plan closing.state.words position - 1 in
        dite (dec_le (suc number) (counter closing.state.words))
        (λ low. let room = closing.kept.room in omega (arith, low, room, some))
        (λ high.
        let past : counter closing.state.words ≤ number = omega (arith, high) in
        let free = closing.kept.free number past in
        let here : name plan closing.state.words position ≡ number + 1 =
        let n : (name plan closing.state.words position ≡ 0) → ⊥ = some in omega (arith, n) in
        let one = one_if (name plan closing.state.words position) (number + 1) here in
        let some_name = tally_at (λ q. if name plan closing.state.words q == number + 1 then 1 else 0) position
        (slots_of plan) inside in
        absurd (omega (arith, free, one, some_name))))

    demanded_if : (cell : Cell) → IsPublished plan closing.state.words cell → IsDemanded plan.problem cell
    demanded_if cell (position, answer, held) =
        let full : 0 < key closing.state.words position = let c = held.key_is.same in omega (arith, c) in
        let stands = closing.kept.keys position held.inside full in
        let same : stands.cell ≡ cell =
        tell stands.cell cell stands.code.coded held.key_is.coded (sym stands.code.same ∙ held.key_is.same) in
        subst (IsDemanded plan.problem) same stands.demanded

    published_if : (Contains v.known (axiom_cell plan.problem)) ⊎ ((cell : Cell) → IsDemanded plan.problem cell → ⊥)
        → (cell : Cell) → IsDemanded plan.problem cell → IsPublished plan closing.state.words cell
    published_if (inl knows) cell demanded =
        reaches plan.problem (IsPublished plan closing.state.words)
        (All-contains (IsPublished plan closing.state.words) v.known (axiom_cell plan.problem)
        (closing.kept.each closing.at v closing.mine).known knows)
        closing.kept.closed cell demanded
    published_if (inr none) cell demanded = absurd (none cell demanded)

    settled_state : (Contains v.known (axiom_cell plan.problem)) ⊎ ((cell : Cell) → IsDemanded plan.problem cell → ⊥)
        → IsSettled plan closing.state.words
    settled_state start = record {
      keys = closing.kept.keys;
      apart = closing.kept.apart;
      named = few;
      answered = closing.kept.answered;
      published = λ cell. (demanded_if cell, published_if start cell);
    }

    wins_state : v.wins ≡ filled plan closing.state.words
    wins_state =
        sym (only_one wins_of closing.state.views closing.at v closing.mine
        (λ i w is other.
        let fits = closing.kept.each i w is in
        dite (ℕ_discrete w.weight 0) (λ none. (fits.spent none).1)
        (λ some. let full : 0 < w.weight = let n : (w.weight ≡ 0) → ⊥ = some in omega (arith, n) in absurd
        (other (closing.alone i w is full)))))
        ∙ closing.kept.wins

  pub settled : IsClosing plan v words
      → (Contains v.known (axiom_cell plan.problem)) ⊎ ((cell : Cell) → IsDemanded plan.problem cell → ⊥)
      → IsSettled plan words
  settled closing start =
      subst (IsSettled plan) closing.here
      (settled_state closing start)

  pub won : IsClosing plan v words → v.wins ≡ filled plan words
  won closing =
      wins_state closing ∙ ap (filled plan) closing.here

-- one place for each cell
pub held_once : (closed : ClosedTable) → IsSettled closed.plan closed.words → IsHeldOnce closed
held_once closed settled i j cell a b first second =
    let full : 0 < key closed.words i = let c = first.key_is.same in omega (arith, c) in
    settled.apart i j first.inside second.inside full (first.key_is.same ∙ sym second.key_is.same)
