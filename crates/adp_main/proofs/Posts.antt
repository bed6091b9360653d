-- Words of a group: their slots, and what is told of them.
use Rattle.std.proofs.Common.{◌≡◌, ℕ, zero, suc, ◌+◌, ◌<◌, Option, None, Some, IfSome, Result, inl, List, [], ◌∷◌, ◌++◌, length, map, take, get_or, All, refl, sym, ap, subst, ◌∙◌, arith}
use Rattle.std.specs.List.{AllZip}
use Rattle.std.proofs.lemmas.List.{take_more, map-append}
use Rattle.std.proofs.lemmas.List.Elements.{All-head, All-tail}
use Rattle.adp_model.specs.PosedProblem.{PosedProblem}
use Rattle.verdicts.specs.Command.{Command}
use Rattle.adp_main.specs.declared.lex.Compiled.{Compiled}
use Rattle.adp_main.specs.declared.slot.Told.{Told}
use Rattle.evaluators.specs.declared.finished.RunNote.{RunNote}
use Rattle.report.specs.declared.fault.Fault.{Fault}
use Rattle.adp_main.specs.Groups.{AreTold, IsGrouped, IsNotedOf, IsPosted, IsSolvedFor, IsTold, IsWrittenAs, Post, notes_of, posts_from}
use Rattle.adp_main.specs.RunNotes.{IsRunOf}
use Rattle.verdicts.specs.Verdict.{IsReportWith}
use Rattle.adp_main.specs.Writing.{IsWordEnding}
use Rattle.adp_main.proofs.FirstWords.{solved_word, zip_length}
use Rattle.adp_main.proofs.Noting.{CountsAgree, run_noted}
use Rattle.adp_main.proofs.Running.{ending_of}

-- one item more that is mapped to the next one of a list
pub map_next : {A B : Type 0} (f : A → B) (xs : List A) (ys : List B) (x : A) (k : ℕ) → k < length ys
    → map f xs ≡ take k ys → f x ≡ get_or ys k (f x) → map f (xs ++ x ∷ []) ≡ take (k + 1) ys
map_next f xs ys x k inside same here =
    map-append f xs (x ∷ []) ∙ ap (λ zs. zs ++ f x ∷ []) same ∙ ap (λ y. take k ys ++ y ∷ []) here
    ∙ sym (take_more ys k (f x) inside)

pub zip_push : {A B C : Type 0} (f : A → B) (R : B → C → Type 0) (xs : List A) (ys : List C) (x : A) (y : C)
    → AllZip R (map f xs) ys → R (f x) y → AllZip R (map f (xs ++ x ∷ [])) (ys ++ y ∷ [])
zip_push f R [] [] x y all one = (one, tt)
zip_push f R [] (b ∷ ys) x y all one = absurd all
zip_push f R (a ∷ xs) [] x y all one = absurd all
zip_push f R (a ∷ xs) (b ∷ ys) x y all one = (all.0, zip_push f R xs ys x y all.1 one)

pub all_between : {A : Type 0} (P : A → Type 0) (xs ys : List A) (x : A) → All P (xs ++ x ∷ ys) → P x
all_between P [] ys x all = All-head P x ys all
all_between P (a ∷ xs) ys x all = all_between P xs ys x (All-tail P a (xs ++ x ∷ ys) all)

-- ---- posts

module _ (command : Command) (made : Option Compiled) where
  pub posts_length : (number : ℕ) (ps : List PosedProblem) → length (posts_from command made number ps) ≡ length ps
  posts_length number [] = refl
  posts_length number (p ∷ ps) = ap suc (posts_length (suc number) ps)

  -- the post of the problem at a place
  pub post_at : (number : ℕ) (ps : List PosedProblem) (k : ℕ) (p : PosedProblem) (n : ℕ) → k < length ps
      → p ≡ get_or ps k p → n ≡ number + k → (d : Post)
      → get_or (posts_from command made number ps) k d
      ≡ record { command = command; made = made; number = n; problem = p }
  post_at number [] k p n inside is numbered d = absurd (omega (arith, inside))
  post_at number (q ∷ ps) zero p n inside is numbered d =
      let same : number ≡ n = omega (arith, numbered) in
      λ i. record { command = command; made = made; number = same i; problem = sym is i }
  post_at number (q ∷ ps) (suc k) p n inside is numbered d =
      post_at (suc number) ps k p n (omega (arith, inside)) is (omega (arith, numbered)) d

  posted_at : IsGrouped command.mode → (number : ℕ) (asked ps : List PosedProblem)
      → AllZip (IsSolvedFor command made) asked ps → (k : ℕ) (d : Post)
      → k < length (posts_from command made number ps) → IsPosted (get_or (posts_from command made number ps) k d)
  posted_at mode number [] [] solved k d inside = absurd (omega (arith, inside))
  posted_at mode number [] (p ∷ ps) solved k d inside = absurd solved
  posted_at mode number (a ∷ asked) [] solved k d inside = absurd solved
  posted_at mode number (a ∷ asked) (p ∷ ps) solved zero d inside = (mode, a, solved.0)
  posted_at mode number (a ∷ asked) (p ∷ ps) solved (suc k) d inside =
      posted_at mode (suc number) asked ps solved.1 k d (omega (arith, inside))

  -- each is of a problem that is solved for a word
  pub posted : IsGrouped command.mode → (number : ℕ) (asked ps : List PosedProblem)
      → AllZip (IsSolvedFor command made) asked ps → All IsPosted (posts_from command made number ps)
  posted mode number asked ps solved k d inside = posted_at mode number asked ps solved k d inside

unmapped : {A B : Type 0} (f : A → B) (P : B → Type 0) (xs : List A) → All P (map f xs) → All (λ x. P (f x)) xs
unmapped f P [] all k d inside = absurd (omega (arith, inside))
unmapped f P (x ∷ xs) all zero d inside = All-head P (f x) (map f xs) all
unmapped f P (x ∷ xs) all (suc k) d inside =
    unmapped f P xs (All-tail P (f x) (map f xs) all) k d (omega (arith, inside))

-- what holds of each image holds of each item's image
pub all_mapped : {A B : Type 0} (f : A → B) (P : B → Type 0) (xs : List A) (ys : List B) → map f xs ≡ ys → All P ys
    → All (λ x. P (f x)) xs
all_mapped f P xs ys same all = unmapped f P xs (subst (All P) (sym same) all)

-- ---- lists

-- what stands behind others
pub behind_inside : {A : Type 0} (xs ys : List A) (x : A) → length xs < length (xs ++ x ∷ ys)
behind_inside [] ys x = omega arith
behind_inside (a ∷ xs) ys x = let more = behind_inside xs ys x in omega (arith, more)

-- ---- what is told of words

module _ (command : Command) (made : Option Compiled) where
  told_in : (number : ℕ) (asked ps : List PosedProblem) (all : List (Option Told)) → AllZip (IsSolvedFor command made) asked ps
      → AllZip (λ post told. IfSome told (IsTold post)) (posts_from command made number ps) all → (k : ℕ) (it : Told)
      → k < length all → Some it ≡ get_or all k (Some it) → (n : ℕ) → n ≡ number + k
      → (p : PosedProblem) × (q : PosedProblem) × (k < length asked) × (p ≡ get_or asked k p)
      × IsSolvedFor command made p q
      × IsTold (record { command = command; made = made; number = n; problem = q }) it
  told_in number [] [] [] solved told k it inside is n numbered = absurd (omega (arith, inside))
  told_in number [] [] (w ∷ all) solved told k it inside is n numbered = absurd told
  told_in number [] (q ∷ ps) all solved told k it inside is n numbered = absurd solved
  told_in number (p ∷ asked) [] all solved told k it inside is n numbered = absurd solved
  told_in number (p ∷ asked) (q ∷ ps) [] solved told k it inside is n numbered = absurd told
  told_in number (p ∷ asked) (q ∷ ps) (w ∷ all) solved told zero it inside is n numbered =
      let same : number ≡ n = omega (arith, numbered) in (
        p,
        q,
        omega arith,
        refl,
        solved.0,
        subst (λ (m : ℕ). IsTold (record { command = command; made = made; number = m; problem = q }) it) same
            (subst (λ (w : Option Told). IfSome w
            (IsTold (record { command = command; made = made; number = number; problem = q }))) (sym is) told.0),
      )
  told_in number (p ∷ asked) (q ∷ ps) (w ∷ all) solved told (suc k) it inside is n numbered =
      let at = told_in (suc number) asked ps all solved.1 told.1 k it (omega (arith, inside)) is n (omega (arith, numbered)) in
      (at.0, at.1, omega (arith, at.2), at.3, at.4, at.5)

module _ (agree : CountsAgree) (command : Command) (made : Option Compiled) (number : ℕ) (p q : PosedProblem)
    (solved : IsSolvedFor command made p q) (report wins : List ℕ)
    (is : IsReportWith command.mode command None number p wins report)
    (result : Result (Unit {0}) Fault) (old new : Option (List RunNote)) (held held' : Option (List ℕ)) where
  -- a word ended as its report was written, with what is noted of it
  told_ending : (note : Option RunNote)
      → IsNotedOf (record { command = command; made = made; number = number; problem = q }) wins note
      → IsWordEnding (λ bytes noted. (bytes ≡ report) × (noted ≡ notes_of note)) result old new held held'
      → IsWordEnding (IsRunOf command None number p) result old new held held'
  told_ending None (serial, none) ending =
      ending_of (λ (bytes : List ℕ) (noted : List RunNote) (w : (bytes ≡ report) × (noted ≡ [])). inl (
        inl serial,
        w.1,
        subst (λ (it : List ℕ × List ℕ). IsReportWith command.mode command None number p it.0 it.1)
            (λ i. (none i, sym w.0 i)) is,
      )) result old new held held' ending
  told_ending (Some note) (mode, finished, run, is_note, wins_are) ending =
      solved_word command number p q finished report report mode
      (subst (λ (it : List ℕ). IsReportWith command.mode command None number p it report) wins_are is) refl result old new
      held held' made solved
      (ending_of (run_noted agree command q finished run report note is_note) result old new held held' ending)

module _ (agree : CountsAgree) (command : Command) (number : ℕ) (asked : List PosedProblem) (all : List (Option Told))
    (told : AreTold command number asked all) where
  pub told_length : length all ≡ length asked
  told_length =
      sym (zip_length (λ post it. IfSome it (IsTold post)) (posts_from command told.made number told.problems) all told.told)
      ∙ posts_length command told.made number told.problems
      ∙ sym (zip_length (IsSolvedFor command told.made) asked told.problems told.solved)

  -- the word at a place ended as what is told of it was written
  pub told_word : (k : ℕ) (it : Told) → k < length all → Some it ≡ get_or all k (Some it)
      → (result : Result (Unit {0}) Fault) (old new : Option (List RunNote)) (held held' : Option (List ℕ))
      → IsWordEnding (IsWrittenAs it) result old new held held'
      → (p : PosedProblem) × (k < length asked) × (p ≡ get_or asked k p)
      × IsWordEnding (IsRunOf command None (number + k) p) result old new held held'
  told_word k it inside is result old new held held' ending =
      let at = told_in command told.made number asked told.problems all told.solved told.told k it inside is (number + k) refl in
      let its = at.5 in (
        at.0,
        at.2,
        at.3,
        told_ending agree command told.made (number + k) at.0 at.1 at.4 it.report.items its.wins (its.report at.0 at.4)
            result old new held held' it.note its.noted ending,
      )
