-- Records at their places, and what a new one changes.
use Rattle.std.proofs.Common.{◌≡◌, ℕ, pos, negsuc, zero, suc, ◌+◌, ◌<◌, ◌⊎◌, inl, inr, Bool, Option, Some, None, List, [], ◌∷◌, length, slice_get, slice_set, replicate, refl, sym, ap, subst, ◌∙◌, arith}
use Rattle.std.proofs.lemmas.List.{length-replicate}
use Rattle.std.proofs.lemmas.Option.{same_Some}
use Rattle.adp_model.specs.declared.cell.Answer.{Answer}
use Rattle.adp_model.specs.declared.cell.Answer.TheVariants.{NoCandidate, Best}
use Rattle.adp_model.specs.declared.cell.Cell.{Cell}
use Rattle.adp_model.specs.declared.grammar.Grammar.{Grammar}
use Rattle.adp_model.specs.PosedProblem.{PosedProblem}
use Rattle.adp_model.specs.Answers.{IsAnswer}
use Rattle.adp_model.specs.Cells.{IsCounted, IsCellBound, IsPlaceOf}
use Rattle.cell_core.specs.declared.plain_memo.Record.{Record}
use Rattle.memo_model.specs.Memos.{IsOnRecordWord, IsScoreOf}
use Rattle.history_table.specs.declared.history.Deed.{Deed}
use Rattle.history_table.specs.declared.history.Event.{Event}
use Rattle.history_table.specs.History.{event}
use Rattle.cell_core.specs.PlainScores.{score_in}
use Rattle.cell_core.specs.PlainMemos.{PlainState, AreRecords, HasRecord, FoundAt, record_count, value_of, deed_of, step_of, plain_meaning}

set_same : {X : Type 0} (xs : List X) (k : ℕ) (x : X) → k < length xs → slice_get (slice_set xs k x) k ≡ Some x
set_same [] k x inside = absurd (omega arith)
set_same (y ∷ ys) zero x inside = refl
set_same (y ∷ ys) (suc k) x inside = set_same ys k x (omega arith)

set_other : {X : Type 0} (xs : List X) (k j : ℕ) (x : X) → (j ≡ k → ⊥) → slice_get (slice_set xs k x) j ≡ slice_get xs j
set_other [] k j x differ = refl
set_other (y ∷ ys) zero zero x differ = absurd (differ refl)
set_other (y ∷ ys) zero (suc j) x differ = refl
set_other (y ∷ ys) (suc k) zero x differ = refl
set_other (y ∷ ys) (suc k) (suc j) x differ = set_other ys k j x (λ e. differ (ap suc e))

length_set : {X : Type 0} (xs : List X) (k : ℕ) (x : X) → length (slice_set xs k x) ≡ length xs
length_set [] k x = refl
length_set (y ∷ ys) zero x = refl
length_set (y ∷ ys) (suc k) x = ap suc (length_set ys k x)

-- one more is there
pub count_set : (records : List (Option Record)) (k : ℕ) (it : Record) → slice_get records k ≡ Some None
    → record_count (slice_set records k (Some it)) ≡ record_count records + 1
count_set [] k it e = absurd cc
count_set (None ∷ records) zero it e = refl
count_set (Some other ∷ records) zero it e = absurd (let f : Some (Some other) ≡ Some None = e in cc)
count_set (None ∷ records) (suc k) it e = count_set records k it e
count_set (Some other ∷ records) (suc k) it e = ap (λ n. n + 1) (count_set records k it e)

same_or_not : (m n : ℕ) → (m ≡ n) ⊎ (m ≡ n → ⊥)
same_or_not m n = grind arith

-- the new record, or one that was there
pub set_cases : (records : List (Option Record)) (k : ℕ) (it : Record) → k < length records → (j : ℕ) (other : Record)
    → slice_get (slice_set records k (Some it)) j ≡ Some (Some other)
    → ((j ≡ k) × (it ≡ other)) ⊎ (slice_get records j ≡ Some (Some other))
set_cases records k it inside j other e = go (same_or_not j k)
  where
    one : (a b : Record) → Some (Some a) ≡ Some (Some b) → a ≡ b
    one a b f = cc

    go : (j ≡ k) ⊎ (j ≡ k → ⊥) → ((j ≡ k) × (it ≡ other)) ⊎ (slice_get records j ≡ Some (Some other))
    go (inl same) =
        let f : slice_get (slice_set records k (Some it)) k ≡ Some (Some other) =
        subst (λ i. slice_get (slice_set records k (Some it)) i ≡ Some (Some other)) same e in
        inl (same, one it other (sym (set_same records k (Some it) inside) ∙ f))
    go (inr differ) = inr (sym (set_other records k j (Some it) differ) ∙ e)

module _ (p : PosedProblem) (records : List (Option Record)) (k : ℕ) (it : Record) (are : AreRecords p records)
    (inside : k < length records) (counted : IsCounted p.grammar (length p.word) it.cell)
    (place : IsPlaceOf p.grammar (length p.word) it.cell k) (right : IsAnswer p it.cell it.answer) where
  each : (P : ℕ → Record → Type 0) → P k it
      → ((j : ℕ) (other : Record) → slice_get records j ≡ Some (Some other) → P j other)
      → (j : ℕ) (other : Record) → slice_get (slice_set records k (Some it)) j ≡ Some (Some other) → P j other
  each P here before j other e = go (set_cases records k it inside j other e)
    where
      go : ((j ≡ k) × (it ≡ other)) ⊎ (slice_get records j ≡ Some (Some other)) → P j other
      go (inl same) = subst (λ i. P i other) (sym same.0) (subst (P k) same.1 here)
      go (inr there) = before j other there

  pub are_put : AreRecords p (slice_set records k (Some it))
  are_put = record {
    each_place = subst (IsCellBound p.grammar (length p.word)) (sym (length_set records k (Some it))) are.each_place;
    counted = each (λ j other. IsCounted p.grammar (length p.word) other.cell) counted are.counted;
    in_place = each (λ j other. IsPlaceOf p.grammar (length p.word) other.cell j) place are.in_place;
    right = each (λ j other. IsAnswer p other.cell other.answer) right are.right;
  }

-- a record that was there is there
pub known_kept : (records : List (Option Record)) (k : ℕ) (it : Record) → slice_get records k ≡ Some None
    → (cell : Cell) → HasRecord records cell → HasRecord (slice_set records k (Some it)) cell
known_kept records k it none cell (j, other, e, same) = (j, other, set_other records k j (Some it) differ ∙ e, same)
  where
    differ : j ≡ k → ⊥
    differ f =
        let g : slice_get records k ≡ Some (Some other) = subst (λ i. slice_get records i ≡ Some (Some other)) f e in
        let h : Some None ≡ Some (Some other) = sym none ∙ g in
        cc

pub known_put : (records : List (Option Record)) (k : ℕ) (it : Record) → k < length records
    → HasRecord (slice_set records k (Some it)) it.cell
known_put records k it inside = (k, it, set_same records k (Some it) inside, refl)

pub known_only : (records : List (Option Record)) (k : ℕ) (it : Record) → k < length records → (cell : Cell)
    → HasRecord (slice_set records k (Some it)) cell → (cell ≡ it.cell → ⊥) → HasRecord records cell
known_only records k it inside cell (j, other, e, same) differ = go (set_cases records k it inside j other e)
  where
    go : ((j ≡ k) × (it ≡ other)) ⊎ (slice_get records j ≡ Some (Some other)) → HasRecord records cell
    go (inl found) = absurd (differ (sym same ∙ ap (λ (x : Record). x.cell) (sym found.1)))
    go (inr there) = (j, other, there, same)

-- ---- what a step tells

-- the pass's last step was at the cell's place
pub on_record : (p : PosedProblem) (pass : PlainState) (cell : Cell) (place : ℕ) (exchanges : Bool)
    (found : Option Answer) → pass.problem ≡ p → IsPlaceOf p.grammar (length p.word) cell place
    → pass.last ≡ Some (record { place = place; exchanges = exchanges; found = found })
    → IsOnRecordWord plain_meaning pass cell (deed_of exchanges) (value_of found)
on_record p pass cell place exchanges found same at last = (
  place,
  subst (λ (q : PosedProblem). IsPlaceOf q.grammar (length q.word) cell place)
      (sym same) at,
  ap step_of last,
)

-- what the last step found is the answer that was found
pub value_is : (pass : PlainState) (cell : Cell) (place : ℕ) (exchanges : Bool) (deed : Deed) (value : ℕ)
    (found : Option Answer) → pass.last ≡ Some (record { place = place; exchanges = exchanges; found = found })
    → IsOnRecordWord plain_meaning pass cell deed value → value ≡ value_of found
value_is pass cell place exchanges deed value found last (word, at, step) =
    let it : Event = event word deed value in
    let other : Event = event place (deed_of exchanges) (value_of found) in
    let f : it ≡ other = same_Some it other (sym step ∙ ap step_of last) in
    ap (λ (x : Event). x.found) f

pub some_value : (answer : Answer) → 0 < value_of (Some answer)
some_value NoCandidate = omega arith
some_value (Best (pos n) choice) = omega arith
some_value (Best (negsuc n) choice) = omega arith

module _ (p : PosedProblem) (records : List (Option Record)) (are : AreRecords p records) (cell : Cell)
    (counted : IsCounted p.grammar (length p.word) cell) (k : ℕ)
    (place : IsPlaceOf p.grammar (length p.word) cell k) where
  -- where no record is found, the cell has none
  pub none_found : ((grammar : Grammar) (len : ℕ) (cell : Cell) (a b : ℕ) → IsPlaceOf grammar len cell a
      → IsPlaceOf grammar len cell b → a ≡ b)
      → FoundAt records k None → HasRecord records cell → ⊥
  none_found unique found (j, it, e, same) =
      let at : IsPlaceOf p.grammar (length p.word) cell j =
      subst (λ c. IsPlaceOf p.grammar (length p.word) c j) same (are.in_place j it e) in
      let f : j ≡ k = unique p.grammar (length p.word) cell j k at place in
      let g : slice_get records k ≡ Some (Some it) = subst (λ i. slice_get records i ≡ Some (Some it)) f e in
      let h : Some None ≡ Some (Some it) = sym found ∙ g in
      cc

  -- a record that is found is the cell's
  module _ (apart : (grammar : Grammar) (len : ℕ) (a b : Cell) (q : ℕ) → IsCounted grammar len a
      → IsCounted grammar len b → IsPlaceOf grammar len a q → IsPlaceOf grammar len b q → a ≡ b)
      (answer : Answer) (found : FoundAt records k (Some answer)) where
    its_cell : found.0.cell ≡ cell
    its_cell =
        apart p.grammar (length p.word) found.0.cell cell k (are.counted k found.0 found.1) counted
        (are.in_place k found.0 found.1) place

    pub is_known : HasRecord records cell
    is_known = (k, found.0, found.1, its_cell)

    is_answer : IsAnswer p cell answer
    is_answer =
        subst (λ c. IsAnswer p c answer) its_cell
        (subst (IsAnswer p found.0.cell) found.2 (are.right k found.0 found.1))

    pub is_score : IsScoreOf p cell (score_in answer)
    is_score = scored answer is_answer
      where
        scored : (answer : Answer) → IsAnswer p cell answer → IsScoreOf p cell (score_in answer)
        scored NoCandidate h = h
        scored (Best score choice) h = (choice, h)

-- the cell bound of one problem
pub same_bound : (p q : PosedProblem) (n : ℕ) → p ≡ q → IsCellBound p.grammar (length p.word) n
    → IsCellBound q.grammar (length q.word) n
same_bound p q n same = subst (λ (r : PosedProblem). IsCellBound r.grammar (length r.word) n) same

-- ---- no records

pub none_there : (n place : ℕ) (it : Record) → slice_get (replicate n None) place ≡ Some (Some it) → ⊥
none_there zero place it e = cc
none_there (suc n) zero it e = cc
none_there (suc n) (suc place) it e = none_there n place it e

pub no_records : (p : PosedProblem) (n : ℕ) → IsCellBound p.grammar (length p.word) n → AreRecords p (replicate n None)
no_records p n bound = record {
  each_place = subst (IsCellBound p.grammar (length p.word)) (sym (length-replicate n None)) bound;
  counted = λ place it e. absurd (none_there n place it e);
  in_place = λ place it e. absurd (none_there n place it e);
  right = λ place it e. absurd (none_there n place it e);
}

pub none_counted : (n : ℕ) → record_count (replicate n None) ≡ 0
none_counted zero = refl
none_counted (suc n) = none_counted n
