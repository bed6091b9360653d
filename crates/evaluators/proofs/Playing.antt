-- Workers that are stepped by the entries of a schedule.
use Rattle.std.proofs.Common.{◌≡◌, ℕ, zero, suc, ◌+◌, ◌-◌, ◌^◌, ◌<◌, ◌≤◌, Bool, true, false, List, [], ◌∷◌, length, map, take, set, get_or, All, nat_eq, refl, sym, subst, arith}
use Rattle.std.proofs.lemmas.Bool.{eq-eqb, eqb-true}
use Rattle.std.proofs.lemmas.List.{length-take-le}
use Rattle.std.proofs.lemmas.List.Elements.{All-nil, All-cons, All-head, All-tail}
use Rattle.std.proofs.lemmas.List.Sums.{count_by-le-length, count_by_more_no, count_by_more_yes}
use Rattle.memo_words.specs.declared.words.Words.{Words}
use Rattle.memo_table.specs.declared.probe.Probe.{Probe}
use Rattle.cell_core.specs.MachineViews.{MachineView}
use Rattle.evaluators.specs.Runs.{HasFirstEnded, wins_of, moves_of, ended_of}
use Rattle.evaluators.specs.Working.{TableWorker, IsReady, IsDone}
use Rattle.evaluators.specs.Schedules.{entries_of, KeepEntriesFrom}
use Rattle.evaluators.specs.Playing.{HasKeptEntries, HaveKeptSchedule, AllFrom, IsPlayed}

-- ---- numbered items

module _ {A : Type 0} where
  pub from_all : (P : A → Type 0) (Q : ℕ → A → Type 0) → ((n : ℕ) (x : A) → P x → Q n x) → (n : ℕ) (xs : List A)
      → All P xs → AllFrom Q n xs
  from_all P Q goes n [] all = tt
  from_all P Q goes n (x ∷ xs) all =
      (goes n x (All-head P x xs all), from_all P Q goes (n + 1) xs (All-tail P x xs all))

  pub to_all : (P : A → Type 0) (Q : ℕ → A → Type 0) → ((n : ℕ) (x : A) → Q n x → P x) → (n : ℕ) (xs : List A)
      → AllFrom Q n xs → All P xs
  to_all P Q goes n [] all = All-nil P
  to_all P Q goes n (x ∷ xs) all = All-cons P x xs (goes n x all.0) (to_all P Q goes (n + 1) xs all.1)

  pub item_of : (Q : ℕ → A → Type 0) (n i k : ℕ) (xs : List A) (d : A) → n + i ≡ k → i < length xs → AllFrom Q n xs
      → Q k (get_or xs i d)
  item_of Q n i k [] d e inside all = absurd (omega (arith, inside))
  item_of Q n zero k (x ∷ xs) d e inside all =
      let same : n ≡ k = omega (arith, e) in subst (λ m. Q m x) same all.0
  item_of Q n (suc i) k (x ∷ xs) d e inside all =
      item_of Q (n + 1) i k xs d (omega (arith, e)) (omega (arith, inside)) all.1

  module _ (P Q : ℕ → A → Type 0) (k : ℕ) (goes : (n : ℕ) (x : A) → (n ≡ k → ⊥) → P n x → Q n x) where
    -- no item is of this number
    pub others_go : (n : ℕ) (xs : List A) → ((m : ℕ) → n ≤ m → m < n + length xs → m ≡ k → ⊥) → AllFrom P n xs
        → AllFrom Q n xs
    others_go n [] other all = tt
    others_go n (x ∷ xs) other all = (
      goes n x (other n (omega arith) (omega arith)) all.0,
      others_go (n + 1) xs (λ m above below. other m (omega (arith, above)) (omega (arith, below))) all.1,
    )

    -- there is a new item of this number
    pub item_put : (y : A) → Q k y → (n i : ℕ) (xs : List A) → n + i ≡ k → AllFrom P n xs → AllFrom Q n (set xs i y)
    item_put y here n i [] e all = tt
    item_put y here n zero (x ∷ xs) e all = (
      subst (λ m. Q m y) (omega (arith, e)) here,
      others_go (n + 1) xs (λ m above below same. omega (arith, e, above, same)) all.1,
    )
    item_put y here n (suc i) (x ∷ xs) e all = (
      goes n x (λ same. omega (arith, e, same)) all.0,
      item_put y here (n + 1) i xs (omega (arith, e)) all.1,
    )

-- ---- entries

entry_here : (number : ℕ) (schedule : List ℕ) (at : ℕ) → at < length schedule → number ≡ get_or schedule at 0
    → entries_of number (take (at + 1) schedule) ≡ entries_of number (take at schedule) + 1
entry_here number schedule at inside e =
    count_by_more_yes (nat_eq number) schedule at 0 inside (eq-eqb number (get_or schedule at 0) e)

pub other_number : (a b : ℕ) (same : Bool) → nat_eq a b ≡ same → (a ≡ b → ⊥) → nat_eq a b ≡ false
other_number a b true is other = absurd (other (eqb-true a b is))
other_number a b false is other = is

entry_elsewhere : (number : ℕ) (schedule : List ℕ) (at : ℕ) → at < length schedule
    → (number ≡ get_or schedule at 0 → ⊥)
    → entries_of number (take (at + 1) schedule) ≡ entries_of number (take at schedule)
entry_elsewhere number schedule at inside other =
    count_by_more_no (nat_eq number) schedule at 0 inside
    (other_number number (get_or schedule at 0) (nat_eq number (get_or schedule at 0)) refl other)

few_entries : (number : ℕ) (schedule : List ℕ) (at : ℕ) → at ≤ length schedule
    → entries_of number (take at schedule) ≤ at
few_entries number schedule at inside =
    let count = count_by-le-length (nat_eq number) (take at schedule) in
    let length_is = length-take-le at schedule inside in
    omega (arith, count, length_is)

module _ {A : Type 0} (worker_of : A → TableWorker) (words : Words) (schedule : List ℕ) (at : ℕ)
    (inside : at < length schedule) where
  played_elsewhere : (n : ℕ) (one : A) → (n ≡ get_or schedule at 0 → ⊥)
      → IsPlayed words (take at schedule) n (worker_of one)
      → IsPlayed words (take (at + 1) schedule) n (worker_of one)
  played_elsewhere n one other was =
      record {
        ready = was.ready;
        kept = subst (λ k. HasKeptEntries k (worker_of one).machine) (sym (entry_elsewhere n schedule at inside other))
            was.kept;
      }

  -- the entry is the number of no worker
  pub played_by_none : (workers : List A) → length workers ≤ get_or schedule at 0
      → AllFrom (λ number one. IsPlayed words (take at schedule) number (worker_of one)) 0 workers
      → AllFrom (λ number one. IsPlayed words (take (at + 1) schedule) number (worker_of one)) 0 workers
  played_by_none workers beyond =
      others_go (λ number one. IsPlayed words (take at schedule) number (worker_of one))
      (λ number one. IsPlayed words (take (at + 1) schedule) number (worker_of one)) (get_or schedule at 0)
      played_elsewhere 0 workers (λ m above below same. omega (arith, beyond, below, same))

  -- the worker of this number is stepped
  pub played_by : (number : ℕ) (workers : List A) (one : A) (before : TableWorker) → number ≡ get_or schedule at 0
      → at < 2 ^ 64 - 1 → HasKeptEntries (entries_of number (take at schedule)) before.machine
      → IsReady words (worker_of one)
      → ((entries : ℕ) → entries < 2 ^ 64 - 1 → HasKeptEntries entries before.machine
      → HasKeptEntries (entries + 1) (worker_of one).machine)
      → AllFrom (λ number one. IsPlayed words (take at schedule) number (worker_of one)) 0 workers
      → AllFrom (λ number one. IsPlayed words (take (at + 1) schedule) number (worker_of one)) 0
      (set workers number one)
  played_by number workers one before is few was ready stepped =
      let count = few_entries number schedule at (omega (arith, inside)) in
      let here : IsPlayed words (take (at + 1) schedule) number (worker_of one) =
      record {
        ready = ready;
        kept = subst (λ k. HasKeptEntries k (worker_of one).machine) (sym (entry_here number schedule at inside is))
            (stepped (entries_of number (take at schedule)) (omega (arith, count, few)) was);
      } in
      item_put (λ number one. IsPlayed words (take at schedule) number (worker_of one))
      (λ number one. IsPlayed words (take (at + 1) schedule) number (worker_of one)) (get_or schedule at 0)
      played_elsewhere one (subst (λ m. IsPlayed words (take (at + 1) schedule) m (worker_of one)) is here) 0 number
      workers (omega (arith, is))

-- ---- machines that kept to a schedule

module _ {A : Type 0} (worker_of : A → TableWorker) (words : Words) (schedule : List ℕ) where
  kept_from : (n : ℕ) (workers : List A)
      → AllFrom (λ number one. IsPlayed words schedule number (worker_of one)) n workers
      → KeepEntriesFrom schedule n (map wins_of (map (λ one. (worker_of one).machine) workers))
      (map moves_of (map (λ one. (worker_of one).machine) workers))
      (map ended_of (map (λ one. (worker_of one).machine) workers))
  kept_from n [] all = tt
  kept_from n (one ∷ ones) all = (all.0.kept, kept_from (n + 1) ones all.1)

  -- the first one is run to its end
  pub kept_schedule : (workers : List A) (first : A) → 0 < length workers → IsDone words (worker_of first)
      → AllFrom (λ number one. IsPlayed words schedule number (worker_of one)) 0 workers
      → HaveKeptSchedule schedule (map (λ one. (worker_of one).machine) (set workers 0 first))
  kept_schedule [] first some done all = absurd (omega (arith, some))
  kept_schedule (one ∷ ones) first some done all = (done.ended, kept_from 1 ones all.1)

pub first_of_schedule : (schedule : List ℕ) (machines : List (MachineView Probe)) → HaveKeptSchedule schedule machines
    → HasFirstEnded machines
first_of_schedule schedule [] kept = kept
first_of_schedule schedule (machine ∷ machines) kept = kept.0
