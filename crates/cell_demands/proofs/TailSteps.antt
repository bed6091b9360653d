-- Tails of alternatives, and what is noted of them while more cells are marked.
use Rattle.std.proofs.Common.{◌≡◌, ◌↔◌, ◌≤◌, ℕ, Bool, true, false, IsTrue, Option, Some, None, List, [], ◌∷◌, ◌++◌}
use Rattle.std.proofs.Common.{length, option_map, refl, sym, ap, subst, inl, inr, ◌∙◌, arith, append_assoc}
use Rattle.std.proofs.Common.{length-append}
use Rattle.std.specs.Prelude.{IfSome}
use Rattle.std.proofs.lemmas.Bool.{false≢true}
use Rattle.adp_model.specs.declared.grammar.Arg.{Arg}
use Rattle.adp_model.specs.declared.cell.Cell.{Cell}
use Rattle.adp_model.specs.PosedProblem.{PosedProblem}
use Rattle.viable_splits.specs.Placing.{Cover}
use Rattle.split_lines.specs.Laid.{Demands}
use Rattle.cell_tables.specs.Marks.{CellMarks, AreMarkedFrom, AreMarkedToo, IsMarked}
use Rattle.cell_demands.specs.declared.tails.Owner.{Owner}
use Rattle.cell_demands.specs.declared.tails.Tail.{Tail}
use Rattle.cell_demands.specs.declared.tails.TailRows.{TailRows}
use Rattle.cell_demands.specs.declared.tails.Tails.{Tails}
use Rattle.cell_demands.specs.Tails.{AreMarkedOn, IsOwner, IsTail, IsTrueNote, tail_with}
use Rattle.cell_demands.specs.TailNotes.{AreTrue, AreTrueRows}

-- ---- a tail has one list of arguments

same_ends : (before after before' after' : List Arg) → before ++ after ≡ before' ++ after' → length after ≡ length after' → after ≡ after'
same_ends [] after [] after' same each = same
same_ends [] after (x ∷ before') after' same each = absurd (omega (arith, each, ap length same, length-append before' after'))
same_ends (x ∷ before) after [] after' same each = absurd (omega (arith, each, ap length same, length-append before after))
same_ends (x ∷ before) after (y ∷ before') after' same each = same_ends before after before' after' (cc) each

same_arguments : (p : PosedProblem) (tail : Tail) (arguments others : List Arg) → IsTail p tail arguments → IsTail p tail others → arguments ≡ others
same_arguments p tail arguments others is other =
    same_ends is.before arguments other.before others (sym is.arguments_are ∙ other.arguments_are) (is.count ∙ sym other.count)

shorter_tail : (p : PosedProblem) (rule alt : ℕ) (argument : Arg) (others : List Arg)
    → IsTail p (record { rule = rule; alt = alt; count = length (argument ∷ others) }) (argument ∷ others)
    → IsTail p (record { rule = rule; alt = alt; count = length others }) others
shorter_tail p rule alt argument others is = record {
  before = is.before ++ argument ∷ [];
  arguments_are = is.arguments_are ∙ sym (append_assoc is.before (argument ∷ []) others);
  count = refl;
}

pub shorter_owner : (p : PosedProblem) (owner : Option Owner) (argument : Arg) (others : List Arg)
    → IsOwner p owner (argument ∷ others) → IsOwner p owner others
shorter_owner p None argument others is = tt
shorter_owner p (Some it) argument others is = shorter_tail p it.rule it.alt argument others is

pub owner_tail : (p : PosedProblem) (owner : Option Owner) (arguments : List Arg) (tail : Tail)
    → Some tail ≡ option_map (λ it. tail_with it (length arguments)) owner → IsOwner p owner arguments
    → IsTail p tail arguments
owner_tail p None arguments tail same is = absurd cc
owner_tail p (Some it) arguments tail same is =
    let e : tail_with it (length arguments) ≡ tail = cc in
    subst (λ tail. IsTail p tail arguments) e is

-- ---- what is noted stays true while more cells are marked

module _ (p : PosedProblem) (old new : CellMarks) (stay : (cell : Cell) → IsMarked old cell → IsMarked new cell) where
  note_stays : (tail : Tail) (from to : ℕ) (note : Bool) → IsTrueNote p old tail from to note
      → IsTrueNote p new tail from to note
  note_stays tail from to false is = is
  note_stays tail from to true is = λ arguments it.
      let was = is arguments it in
      record { laid = was.laid; marked = λ cell demands. stay cell (was.marked cell demands) }

  kept_stays : (kept : Option TailRows) → IfSome kept (λ kept. AreTrueRows p old kept.rows.items) → IfSome kept (λ kept. AreTrueRows p new kept.rows.items)
  kept_stays None is = tt
  kept_stays (Some kept) is = λ place row there from to note has. note_stays row.tail from to note (is place row there from to note has)

  pub notes_stay : (tails : Tails) → AreTrue p old tails → AreTrue p new tails
  notes_stay tails is = kept_stays tails.kept is

pub true_later : (p : PosedProblem) (old new : CellMarks) (Holds : Cell → Type 0) → AreMarkedToo old new Holds
    → (tails : Tails) → AreTrue p old tails → AreTrue p new tails
true_later p old new Holds marked tails is = notes_stay p old new (λ cell was. (marked.exact cell).1 (inl was)) tails is

pub true_from : (p : PosedProblem) (begin : ℕ) (old new : CellMarks) (Holds : Cell → Type 0)
    → AreMarkedFrom begin old new Holds → (tails : Tails) → AreTrue p old tails → AreTrue p new tails
true_from p begin old new Holds marked tails is = true_later p old new Holds marked.marked tails is

-- ---- what is found

pub begins_behind : (p : PosedProblem) (arguments : List Arg) (from to : ℕ) (cell : Cell)
    → Demands p arguments from to cell → from ≤ cell.from
begins_behind p [] from to cell none = absurd none
begins_behind p (argument ∷ arguments) from to cell (end, fits, inl (is, cover)) = let e = is.begins in omega (arith, e)
begins_behind p (argument ∷ arguments) from to cell (end, fits, inr later) =
    let l = begins_behind p arguments end to cell later in
    let m = fits.0.in_order in
    omega (arith, l, m)

module _ (p : PosedProblem) (begin : ℕ) (marks : CellMarks) (tail : Tail) (arguments : List Arg) (from to : ℕ) (is : IsTail p tail arguments) where
  -- what is noted once the arguments are gone through
  pub found_true : (old : CellMarks) (is_laid : Bool) → IsTrue is_laid ↔ Cover p arguments from to
      → AreMarkedFrom begin old marks (Demands p arguments from to) → IsTrueNote p marks tail from to is_laid
  found_true old true laid marked = λ others other.
      let same = same_arguments p tail arguments others is other in
      subst (λ others. AreMarkedOn p marks others from to) same
      (record { laid = laid.0 refl; marked = λ cell demands. (marked.marked.exact cell).1 (inr demands) })
  found_true old false laid marked = λ others other cover.
      let same = same_arguments p tail arguments others is other in
      false≢true (laid.1 (subst (λ others. Cover p others from to) (sym same) cover))
