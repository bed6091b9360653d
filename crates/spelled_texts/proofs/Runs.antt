-- The runs of a class's letters, and the items that spell them.
use Rattle.std.proofs.Common.{◌≡◌, ℕ, suc, ◌^◌, ◌<◌, ℤ, pos, negsuc, Bool, true, false, Some, List, [], ◌∷◌, map, refl, sym, ◌∙◌, ap, arith}
use Rattle.std.specs.List.{list_all, flat_map, AllByRecursion}
use Rattle.std.specs.Ordering.{int_eq}
use Rattle.std.proofs.lemmas.Bool.{and_parts}
use Rattle.std.proofs.lemmas.Bool.Decides.{Decides-int_eq}
use Rattle.adp_model.specs.Printable.{is_printable_byte}
use Rattle.adp_model.specs.WellFormed.{is_in_range, is_entry}
use Rattle.job_texts.specs.Spelling.{join_run, runs_of}
use Rattle.job_texts.specs.TextFaults.{weight_of, class_letters}
use Rattle.spelled_texts.proofs.Numbers.{number_of_decimal}
use Rattle.spelled_texts.proofs.Contents.{run_item}

-- what is known of a run
pub record IsRun (run : List ℕ × ℤ) : Type 0 where
  pub in_range : is_in_range run.1 ≡ true
  pub printable : list_all is_printable_byte run.0 ≡ true

join_good : (entry : ℕ × ℤ) (runs : List (List ℕ × ℤ)) → is_entry entry ≡ true → AllByRecursion IsRun runs → AllByRecursion IsRun (join_run entry runs)
join_good entry [] h good =
    let parts = and_parts (is_printable_byte entry.0) (is_in_range entry.1) h in
    (record { in_range = parts.1; printable = rw (parts.0) refl }, tt)
join_good entry (run ∷ runs) h good = step (int_eq entry.1 run.1) refl
  where
    step : (same : Bool) → int_eq entry.1 run.1 ≡ same → AllByRecursion IsRun (join_run entry (run ∷ runs))
    step true e =
        let parts = and_parts (is_printable_byte entry.0) (is_in_range entry.1) h in
        rw e (record { in_range = good.0.in_range; printable = rw (parts.0, good.0.printable) refl }, good.1)
    step false e =
        let parts = and_parts (is_printable_byte entry.0) (is_in_range entry.1) h in
        rw e (record { in_range = parts.1; printable = rw (parts.0) refl }, (good.0, good.1))

pub good_runs : (letters : List (ℕ × ℤ)) → list_all is_entry letters ≡ true → AllByRecursion IsRun (runs_of letters)
good_runs [] h = tt
good_runs (entry ∷ letters) h =
    let parts = and_parts (is_entry entry) (list_all is_entry letters) h in
    join_good entry (runs_of letters) parts.0 (good_runs letters parts.1)

-- the letters of a run, each with its weight
abbrev run_letters : List ℕ × ℤ → List (ℕ × ℤ)
run_letters run = map (λ letter. (letter, run.1)) run.0

join_letters : (entry : ℕ × ℤ) (runs : List (List ℕ × ℤ)) → flat_map run_letters (join_run entry runs) ≡ entry ∷ flat_map run_letters runs
join_letters entry [] = refl
join_letters entry (run ∷ runs) = step (int_eq entry.1 run.1) refl
  where
    step : (same : Bool) → int_eq entry.1 run.1 ≡ same → flat_map run_letters (join_run entry (run ∷ runs)) ≡ entry ∷ flat_map run_letters (run ∷ runs)
    step true e =
        let weight : entry.1 ≡ run.1 = (Decides-int_eq entry.1 run.1).0 e in
        rw e (ap (λ (other : ℤ). (entry.0, other) ∷ flat_map run_letters (run ∷ runs)) (sym weight))
    step false e = rw e refl

letters_of_runs : (letters : List (ℕ × ℤ)) → flat_map run_letters (runs_of letters) ≡ letters
letters_of_runs [] = refl
letters_of_runs (entry ∷ letters) = join_letters entry (runs_of letters) ∙ ap (λ (others : List (ℕ × ℤ)). entry ∷ others) (letters_of_runs letters)

pub weight_of_run : (letters : List ℕ) (weight : ℤ) → is_in_range weight ≡ true → weight_of (run_item (letters, weight)) ≡ Some weight
weight_of_run letters (pos n) h =
    let below : n < 2 ^ 62 = grind (arith, h) in
    rw (number_of_decimal n below) refl
weight_of_run letters (negsuc n) h =
    let below : suc n < 2 ^ 62 = grind (arith, h) in
    rw (number_of_decimal (suc n) below) refl

items_letters : (runs : List (List ℕ × ℤ)) → AllByRecursion IsRun runs → class_letters (map run_item runs) ≡ flat_map run_letters runs
items_letters [] good = refl
items_letters (run ∷ runs) good = rw (weight_of_run run.0 run.1 good.0.in_range, items_letters runs good.1) refl

-- the items that spell letters have these letters
pub letters_back : (letters : List (ℕ × ℤ)) → list_all is_entry letters ≡ true → class_letters (map run_item (runs_of letters)) ≡ letters
letters_back letters h = items_letters (runs_of letters) (good_runs letters h) ∙ letters_of_runs letters

-- some letters have some run
pub record SomeRuns (runs : List (List ℕ × ℤ)) : Type 0 where
  pub first : List ℕ × ℤ
  pub others : List (List ℕ × ℤ)
  pub are : runs ≡ first ∷ others

pub some_runs : (entry : ℕ × ℤ) (runs : List (List ℕ × ℤ)) → SomeRuns (join_run entry runs)
some_runs entry [] = record { first = (entry.0 ∷ [], entry.1); others = []; are = refl }
some_runs entry (run ∷ runs) = step (int_eq entry.1 run.1) refl
  where
    step : (same : Bool) → int_eq entry.1 run.1 ≡ same → SomeRuns (join_run entry (run ∷ runs))
    step true e = record { first = (entry.0 ∷ run.0, run.1); others = runs; are = rw e refl }
    step false e = record { first = (entry.0 ∷ [], entry.1); others = run ∷ runs; are = rw e refl }
