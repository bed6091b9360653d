-- What is told of machines while they step.
use Rattle.std.proofs.Common.{◌≡◌, ℕ, ◌+◌, ◌-◌, ◌^◌, ◌<◌, min, ⊎_elim, Bool, false, cond, Option, Some, None, IfSome, List, [], ◌∷◌, ◌++◌, map, set, get_or, length, nat_eq, if◌then◌else◌, refl, sym, ap, ◌∙◌, subst, arith}
use Rattle.std.proofs.lemmas.Bool.{eq-eqb}
use Rattle.std.proofs.lemmas.List.Sums.{sum_by_push}
use Rattle.evaluators.specs.Schedules.{entries_of, KeepsEntries}
use Rattle.evaluators.specs.Playing.{AllFrom}
use Rattle.evaluators.specs.Watching.{GrowsByStep, HasToldMoves, IsToldOn}
use Rattle.evaluators.proofs.Playing.{item_of, item_put, other_number}

-- ---- one step

own_more : (number : ℕ) (told : List ℕ) → entries_of number (told ++ number ∷ []) ≡ entries_of number told + 1
own_more number told =
    sum_by_push (λ n. cond (nat_eq number n) 1 0) told number
    ∙ ap (λ same. entries_of number told + cond same 1 0) (eq-eqb number number refl)

other_more : (other number : ℕ) (told : List ℕ) → (other ≡ number → ⊥)
    → entries_of other (told ++ number ∷ []) ≡ entries_of other told
other_more other number told apart =
    let none : entries_of other told + 0 ≡ entries_of other told = omega arith in
    sum_by_push (λ n. cond (nat_eq other n) 1 0) told number
    ∙ ap (λ same. entries_of other told + cond same 1 0) (other_number other number (nat_eq other number) refl apart)
    ∙ none

own_told : (number moves moves' : ℕ) (before after : Option (List ℕ)) → GrowsByStep number before after
    → moves' ≡ min (moves + 1) (2 ^ 64 - 1) → HasToldMoves before number moves → HasToldMoves after number moves'
own_told number moves moves' None after grows moved was =
    subst (λ told. HasToldMoves told number moves') (sym grows) tt
own_told number moves moves' (Some told) None grows moved was = tt
own_told number moves moves' (Some told) (Some more) grows moved was =
    let count : entries_of number more ≡ entries_of number told + 1 =
    ap (entries_of number) grows ∙ own_more number told in
    omega (arith, count, moved, was)

others_told : (number other still : ℕ) (before after : Option (List ℕ)) → GrowsByStep number before after
    → (other ≡ number → ⊥) → HasToldMoves before other still → HasToldMoves after other still
others_told number other still None after grows apart was =
    subst (λ told. HasToldMoves told other still) (sym grows) tt
others_told number other still (Some told) None grows apart was = tt
others_told number other still (Some told) (Some more) grows apart was =
    let count : entries_of other more ≡ entries_of other told =
    ap (entries_of other) grows ∙ other_more other number told apart in
    omega (arith, count, was)

-- a machine that has not ended moves once
pub moved : (ended : Bool) (moves moves' : ℕ) → moves' ≡ (if ended then moves else min (moves + 1) (2 ^ 64 - 1))
    → ended ≡ false → moves' ≡ min (moves + 1) (2 ^ 64 - 1)
moved ended moves moves' is going = is ∙ ap (λ (e : Bool). if e then moves else min (moves + 1) (2 ^ 64 - 1)) going

pub told_once : (number moves moves' : ℕ) (before after : Option (List ℕ)) → GrowsByStep number before after
    → moves' ≡ min (moves + 1) (2 ^ 64 - 1) → IsToldOn number before after moves moves'
told_once number moves moves' before after grows moved = record {
  own = own_told number moves moves' before after grows moved;
  others = λ other still apart was. others_told number other still before after grows apart was;
}

pub told_nothing : (number moves : ℕ) (told : Option (List ℕ)) → IsToldOn number told told moves moves
told_nothing number moves told = record { own = λ was. was; others = λ other still apart was. was }

pub told_further : (number moves between moves' : ℕ) (before middle after : Option (List ℕ))
    → IsToldOn number before middle moves between → IsToldOn number middle after between moves'
    → IsToldOn number before after moves moves'
told_further number moves between moves' before middle after first next = record {
  own = λ was. next.own (first.own was);
  others = λ other still apart was. next.others other still apart (first.others other still apart was);
}

-- ---- all machines

-- a machine without entries made no step
pub unmoved : {wins moves : ℕ} {ended : Bool} → KeepsEntries 0 wins moves ended → moves ≡ 0
unmoved kept = ⊎_elim (λ here. here) (λ fewer. omega (arith, fewer.0)) kept.steps

-- nothing is told of a machine that made no step
pub told_none : (number moves : ℕ) (told : Option (List ℕ)) → IfSome told (λ numbers. numbers ≡ []) → moves ≡ 0
    → HasToldMoves told number moves
told_none number moves None fresh still = tt
told_none number moves (Some told) fresh still =
    let none : entries_of number told ≡ 0 = ap (entries_of number) fresh in
    omega (arith, none, still)

module _ {A : Type 0} (moves : A → ℕ) where
  -- the machine of this number is stepped
  pub told_by : (number : ℕ) (before after : Option (List ℕ)) (items : List A) (one d : A) → number < length items
      → IsToldOn number before after (moves (get_or items number d)) (moves one)
      → AllFrom (λ n item. HasToldMoves before n (moves item)) 0 items
      → AllFrom (λ n item. HasToldMoves after n (moves item)) 0 (set items number one)
  told_by number before after items one d inside told all =
      item_put (λ n item. HasToldMoves before n (moves item)) (λ n item. HasToldMoves after n (moves item)) number
      (λ n item apart was. told.others n (moves item) apart was) one
      (told.own (item_of (λ n item. HasToldMoves before n (moves item)) 0 number number items d (omega arith) inside
      all)) 0 number items (omega arith) all

pub all_mapped : {A B : Type 0} (P : ℕ → B → Type 0) (f : A → B) (n : ℕ) (items : List A)
    → AllFrom (λ number item. P number (f item)) n items → AllFrom P n (map f items)
all_mapped P f n [] all = tt
all_mapped P f n (item ∷ items) all = (all.0, all_mapped P f (n + 1) items all.1)
