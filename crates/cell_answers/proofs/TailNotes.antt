-- Rows of notes, as they are made and put.
use Rattle.std.proofs.Common.{◌≡◌, ℕ, ℤ, zero, suc, Bool, true, false, ◌&&◌, eqb, Option, Some, List, [], ◌∷◌, ◌++◌}
use Rattle.std.proofs.Common.{◌⊎◌, ⊎_elim, inl, inr, get_or, refl, sym, ap, subst, ◌∙◌}
use Rattle.std.specs.Prelude.{slice_get, slice_set}
use Rattle.std.proofs.lemmas.Option.{get_or_from_slice_get}
use Rattle.std.proofs.lemmas.Bool.{eqb-true, false≢true}
use Rattle.adp_model.specs.PosedProblem.{PosedProblem}
use Rattle.cell_answers.specs.declared.tails.Note.{Note}
use Rattle.cell_answers.specs.declared.tails.Note.TheVariants.{Open}
use Rattle.cell_answers.specs.declared.tails.Tail.{Tail}
use Rattle.cell_answers.specs.declared.tails.TailRow.{TailRow}
use Rattle.cell_answers.specs.Tails.{IsTailTotal}
use Rattle.cell_answers.specs.TailRows.{AreEmpty, AreTrueRows, IsNoted, IsTrueRow, Tells}

and_parts : (s t : Bool) → (s && t) ≡ true → (s ≡ true) × (t ≡ true)
and_parts true t e = (refl, e)
and_parts false t e = absurd (false≢true e)

pub same_tail : (a b : Tail) → (eqb a.rule b.rule && (eqb a.alt b.alt && eqb a.count b.count)) ≡ true → a ≡ b
same_tail a b e =
    let first = and_parts (eqb a.rule b.rule) (eqb a.alt b.alt && eqb a.count b.count) e in
    let later = and_parts (eqb a.alt b.alt) (eqb a.count b.count) first.1 in
    let rule = eqb-true a.rule b.rule first.0 in
    let alt = eqb-true a.alt b.alt later.0 in
    let count = eqb-true a.count b.count later.1 in
    λ i. record { rule = rule i; alt = alt i; count = count i }

pub empty_pushed : (rows : List TailRow) (row : TailRow) → AreEmpty rows → row.notes.items ≡ [] → AreEmpty (rows ++ row ∷ [])
empty_pushed [] row empty none zero it there = let same : row ≡ it = cc in subst (λ (it : TailRow). it.notes.items ≡ []) same none
empty_pushed [] row empty none (suc place) it there = absurd cc
empty_pushed (first ∷ rows) row empty none zero it there = empty zero it there
empty_pushed (first ∷ rows) row empty none (suc place) it there = empty_pushed rows row (λ place it there. empty (suc place) it there) none place it there

pub true_empty : (p : PosedProblem) (rows : List TailRow) → AreEmpty rows → AreTrueRows p rows
true_empty p rows empty place row there at from to note total here tells =
    let none : slice_get [] at ≡ Some note = subst (λ (notes : List Note). slice_get notes at ≡ Some note) (empty place row there) here in
    absurd cc

pub empty_none : AreEmpty []
empty_none place row there = absurd cc

-- one element is put in the place of another
set_cases : {A : Type 0} (xs : List A) (i j : ℕ) (v x : A) → slice_get (slice_set xs i v) j ≡ Some x → ((j ≡ i) × (x ≡ v)) ⊎ (slice_get xs j ≡ Some x)
set_cases [] i j v x e = inr e
set_cases (y ∷ xs) zero zero v x e = inl (refl, cc)
set_cases (y ∷ xs) zero (suc j) v x e = inr e
set_cases (y ∷ xs) (suc i) zero v x e = inr e
set_cases (y ∷ xs) (suc i) (suc j) v x e = ⊎_elim (λ (same, is). inl (ap (λ n. suc n) same, is)) (λ was. inr was) (set_cases xs i j v x e)

module _ (p : PosedProblem) (tail : Tail) (from to : ℕ) (total : Option ℤ) (note : Note)
    (tells : (start end : ℕ) (said : Option ℤ) → Tells note start end said
    → (start ≡ from) × (end ≡ to) × (said ≡ total)) (told : IsTailTotal p tail from to total) (old new : TailRow)
    (same : old.tail ≡ tail) (noted : IsNoted old new note) where
  -- what is noted now is true
  note_true : (start end : ℕ) (said : Option ℤ) → Tells note start end said → IsTailTotal p new.tail start end said
  note_true start end said says =
      let (start_is, end_is, said_is) = tells start end said says in
      let T : Tail → Type 0 = λ tail. IsTailTotal p tail start end said in
      let A : ℕ → Type 0 = λ start. IsTailTotal p tail start end said in
      let E : ℕ → Type 0 = λ end. IsTailTotal p tail from end said in
      let S : Option ℤ → Type 0 = λ said. IsTailTotal p tail from to said in
      subst T (sym (noted.tail ∙ same)) (subst A (sym start_is) (subst E (sym end_is) (subst S (sym said_is) told)))

  row_true : IsTrueRow p old → IsTrueRow p new
  row_true holds place start end it said here says =
      let T : Tail → Type 0 = λ tail. IsTailTotal p tail start end said in
      let N : Note → Type 0 = λ it. Tells it start end said in
      ⊎_elim
      (λ nothing. let none : N Open = subst N nothing says in absurd none)
      (λ more. ⊎_elim
      (λ is. note_true start end said (subst N is says))
      (λ was. subst T (sym noted.tail) (holds place start end it said was says)) more)
      (noted.notes place it here)

  pub put_true : (rows : List TailRow) (place : ℕ) → slice_get rows place ≡ Some old → AreTrueRows p rows → AreTrueRows p (slice_set rows place new)
  put_true rows place stands holds at row there =
      let R : TailRow → Type 0 = IsTrueRow p in
      ⊎_elim (λ (here, is). subst R (sym is) (row_true (holds place old stands))) (λ was. holds at row was) (set_cases rows place at new row there)

-- what is read at the place of a row is this row
pub read_row : (rows : List TailRow) (place : ℕ) (row read : TailRow) → slice_get rows place ≡ Some row → read ≡ get_or rows place read → read ≡ row
read_row rows place row read there is = is ∙ get_or_from_slice_get rows place row read there
