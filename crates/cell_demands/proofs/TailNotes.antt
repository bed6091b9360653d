-- Rows of notes of tails, as they are made and put.
use Rattle.std.proofs.Common.{◌≡◌, ◌%◌, ℕ, zero, suc, Bool, true, false, ◌&&◌, eqb, Option, Some, None, List, [], ◌∷◌}
use Rattle.std.proofs.Common.{◌++◌, ◌⊎◌, ⊎_elim, inl, inr, get_or, refl, sym, ap, subst, ◌∙◌, arith}
use Rattle.std.specs.Prelude.{IfSome, slice_get, slice_set}
use Rattle.std.proofs.lemmas.Bool.{eqb-true, false≢true}
use Rattle.std.proofs.lemmas.Nat.Bits.{bit_at-zero}
use Rattle.std.proofs.lemmas.Option.{get_or_from_slice_get}
use Rattle.adp_model.specs.declared.grammar.Arg.{Arg}
use Rattle.adp_model.specs.PosedProblem.{PosedProblem}
use Rattle.cell_tables.specs.Marks.{CellMarks}
use Rattle.cell_demands.specs.declared.tails.EndNotes.{EndNotes}
use Rattle.cell_demands.specs.declared.tails.Tail.{Tail}
use Rattle.cell_demands.specs.declared.tails.TailRow.{TailRow}
use Rattle.cell_demands.specs.declared.tails.TailRows.{TailRows}
use Rattle.cell_demands.specs.declared.tails.Tails.{Tails}
use Rattle.cell_demands.specs.PlaceBits.{HasBit}
use Rattle.cell_demands.specs.Tails.{IsTail, IsTrueNote}
use Rattle.cell_demands.specs.TailNotes.{AreEmpty, AreToldOf, AreTrue, AreTrueRows, AreTrueTo, HasNote, HaveNoNotes}
use Rattle.cell_demands.specs.TailNotes.{IsNote, IsNoted, IsPlaceOf, IsPut, IsTrueRow}

-- ---- notes as bits

-- where there are no bits nothing is noted
pub no_notes : (end : EndNotes) → end.known.items ≡ [] → end.laid.items ≡ [] → (from : ℕ) (note : Bool)
    → IsNote end from note → ⊥
no_notes end unknown none from true one =
    let there : HasBit [] from = subst (λ bits. HasBit bits from) none one in
    omega (arith, bit_at-zero (from % 64), there)
no_notes end unknown none from false (known, _) =
    let there : HasBit [] from = subst (λ bits. HasBit bits from) unknown known in
    omega (arith, bit_at-zero (from % 64), there)

-- what bits tell of arguments
pub told_by_bits : (p : PosedProblem) (marks : CellMarks) (tail : Tail) (arguments : List Arg) (to : ℕ)
    (end : EndNotes) → IsTail p tail arguments → AreTrueTo p marks tail to end → AreToldOf p marks arguments to end
told_by_bits p marks tail arguments to end is holds = record {
  laid = λ from one. holds from true one arguments is;
  missed = λ from known none. holds from false (known, none) arguments is;
}

-- what holds where there is something else holds too
pub some_like : {A : Type 0} (found : Option A) (P Q : A → Type 0) → ((it : A) → P it → Q it) → IfSome found P
    → IfSome found Q
some_like None P Q like is = tt
some_like (Some it) P Q like is = like it is

-- ---- rows

and_parts : (s t : Bool) → (s && t) ≡ true → (s ≡ true) × (t ≡ true)
and_parts true t e = (refl, e)
and_parts false t e = absurd (false≢true e)

pub same_tail : (a b : Tail) → (eqb a.rule b.rule && (eqb a.alt b.alt && eqb a.count b.count)) ≡ true → a ≡ b
same_tail a b e =
    let first = and_parts (eqb a.rule b.rule) (eqb a.alt b.alt && eqb a.count b.count) e in
    let later = and_parts (eqb a.alt b.alt) (eqb a.count b.count) first.1 in
    let rule = eqb-true a.rule b.rule first.0 in
    let alt = eqb-true a.alt b.alt later.0 in
    let count = eqb-true a.count b.count later.1 in
    λ i. record { rule = rule i; alt = alt i; count = count i }

pub empty_pushed : (rows : List TailRow) (row : TailRow) → AreEmpty rows → row.ends.items ≡ [] → AreEmpty (rows ++ row ∷ [])
empty_pushed [] row empty none zero it there = let same : row ≡ it = cc in subst (λ (it : TailRow). it.ends.items ≡ []) same none
empty_pushed [] row empty none (suc place) it there = absurd cc
empty_pushed (first ∷ rows) row empty none zero it there = empty zero it there
empty_pushed (first ∷ rows) row empty none (suc place) it there = empty_pushed rows row (λ place it there. empty (suc place) it there) none place it there

pub none_pushed : (ends : List EndNotes) (end : EndNotes) → HaveNoNotes ends
    → ((from : ℕ) (note : Bool) → IsNote end from note → ⊥) → HaveNoNotes (ends ++ end ∷ [])
none_pushed [] end empty none zero it there =
    let same : end ≡ it = cc in
    subst (λ (it : EndNotes). (from : ℕ) (note : Bool) → IsNote it from note → ⊥) same none
none_pushed [] end empty none (suc place) it there = absurd cc
none_pushed (first ∷ ends) end empty none zero it there = empty zero it there
none_pushed (first ∷ ends) end empty none (suc place) it there = none_pushed ends end (λ place it there. empty (suc place) it there) none place it there

-- one element is put in the place of another
set_cases : {A : Type 0} (xs : List A) (i j : ℕ) (v x : A) → slice_get (slice_set xs i v) j ≡ Some x → ((j ≡ i) × (x ≡ v)) ⊎ (slice_get xs j ≡ Some x)
set_cases [] i j v x e = inr e
set_cases (y ∷ xs) zero zero v x e = inl (refl, cc)
set_cases (y ∷ xs) zero (suc j) v x e = inr e
set_cases (y ∷ xs) (suc i) zero v x e = inr e
set_cases (y ∷ xs) (suc i) (suc j) v x e = ⊎_elim (λ (same, is). inl (ap (λ n. suc n) same, is)) (λ was. inr was) (set_cases xs i j v x e)

-- a note of one end is one of the row
pub put_noted : (old new : TailRow) (from to : ℕ) (note : Bool) (end next : EndNotes) → new.tail ≡ old.tail
    → slice_get old.ends.items to ≡ Some end → new.ends.items ≡ slice_set old.ends.items to next
    → IsPut end next from note → IsNoted old new from to note
put_noted old new from to note end next tail there are put = record { tail = tail; notes = notes }
  where
    notes : (at till : ℕ) (it : Bool) → HasNote new at till it
        → ((at ≡ from) × (till ≡ to) × (it ≡ note)) ⊎ HasNote old at till it
    notes at till it has =
        ⊎_elim
        (λ (here, is).
        ⊎_elim
        (λ (same, told). inl (same, here, told))
        (λ was. inr (record {
          end = end;
          ends = subst (λ at. slice_get old.ends.items at ≡ Some end) (sym here) there;
          notes = was;
        }))
        (put at it (subst (λ (end : EndNotes). IsNote end at it) is has.notes)))
        (λ was. inr (record { end = has.end; ends = was; notes = has.notes }))
        (set_cases old.ends.items to till next has.end (subst (λ ends. slice_get ends till ≡ Some has.end) are has.ends))

-- notes that were there before the row's ends were made
abbrev HasNoMore : TailRow → TailRow → Type 0
HasNoMore first old = (at till : ℕ) (it : Bool) → HasNote old at till it → HasNote first at till it

pub noted_after : (first old new : TailRow) (from to : ℕ) (note : Bool) → old.tail ≡ first.tail → HasNoMore first old
    → IsNoted old new from to note → IsNoted first new from to note
noted_after first old new from to note tail less noted = record {
  tail = noted.tail ∙ tail;
  notes = λ at till it has. ⊎_elim (λ here. inl here) (λ was. inr (less at till it was)) (noted.notes at till it has);
}

module _ (p : PosedProblem) (marks : CellMarks) (tail : Tail) (from to : ℕ) (note : Bool)
    (told : IsTrueNote p marks tail from to note) (old new : TailRow) (same : old.tail ≡ tail)
    (noted : IsNoted old new from to note) where
  row_true : IsTrueRow p marks old → IsTrueRow p marks new
  row_true holds at till it has =
      let T : Tail → Type 0 = λ tail. IsTrueNote p marks tail at till it in
      ⊎_elim
      (λ (here, there, is).
      subst (λ tail. IsTrueNote p marks tail at till it) (sym (noted.tail ∙ same))
      (subst (λ at. IsTrueNote p marks tail at till it) (sym here)
      (subst (λ till. IsTrueNote p marks tail from till it) (sym there)
      (subst (λ it. IsTrueNote p marks tail from to it) (sym is) told))))
      (λ was. subst T (sym noted.tail) (holds at till it was))
      (noted.notes at till it has)

  pub put_true : (rows : List TailRow) (place : ℕ) → slice_get rows place ≡ Some old → AreTrueRows p marks rows → AreTrueRows p marks (slice_set rows place new)
  put_true rows place stands holds at row there =
      let R : TailRow → Type 0 = IsTrueRow p marks in
      ⊎_elim (λ (here, is). subst R (sym is) (row_true (holds place old stands))) (λ was. holds at row was) (set_cases rows place at new row there)

-- what is read at the place of a row is this row
pub read_row : {A : Type 0} (rows : List A) (place : ℕ) (row read : A) → slice_get rows place ≡ Some row → read ≡ get_or rows place read → read ≡ row
read_row rows place row read there is = is ∙ get_or_from_slice_get rows place row read there

-- ---- by the place of a tail

module _ (p : PosedProblem) (marks : CellMarks) (tails : Tails) (kept : TailRows) (is : tails.kept ≡ Some kept)
    (tail : Tail) (place : ℕ) (at : IsPlaceOf kept tail place) (read : TailRow)
    (reads : read ≡ get_or kept.rows.items place read) (to : ℕ) where
  abbrev K : Option TailRows → Type 0
  K kept = IfSome kept (λ kept. AreTrueRows p marks kept.rows.items)

  -- what is noted up to an end is true
  pub looked_up : AreTrue p marks tails → (end : EndNotes) → slice_get read.ends.items to ≡ Some end
      → AreTrueTo p marks tail to end
  looked_up all end there from note noted =
      let holds : AreTrueRows p marks kept.rows.items = subst K is all in
      let same = read_row kept.rows.items place at.row read at.there reads in
      let stands = subst (λ (row : TailRow). slice_get row.ends.items to ≡ Some end) same there in
      subst (λ tail. IsTrueNote p marks tail from to note) at.same
      (holds place at.row at.there from to note (record { end = end; ends = stands; notes = noted }))

  pub noted_at : (from : ℕ) (note : Bool) → AreTrue p marks tails → IsTrueNote p marks tail from to note
      → (new : TailRow) → IsNoted read new from to note → AreTrueRows p marks (slice_set kept.rows.items place new)
  noted_at from note all told new noted =
      let holds : AreTrueRows p marks kept.rows.items = subst K is all in
      let same = read_row kept.rows.items place at.row read at.there reads in
      put_true p marks tail from to note told at.row new at.same
      (subst (λ row. IsNoted row new from to note) same noted) kept.rows.items place at.there holds
