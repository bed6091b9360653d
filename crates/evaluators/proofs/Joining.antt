-- Workers, the first of which has done its work: their passes are joined one by one, and their machines are kept in
-- order.
use Rattle.std.proofs.Common.{◌≡◌, ℕ, zero, suc, ◌+◌, ◌⊎◌, inl, inr, ⊎_elim, true, List, [], ◌∷◌, ◌++◌, length, reverse, map, sum, drop, get_or, All, Contains, vec_len, refl, sym, ap, ◌∙◌, subst, arith}
use Rattle.std.proofs.lemmas.List.{map-append, reverse-append, length-append, length-reverse, length-map, append_assoc, append-nil}
use Rattle.std.proofs.lemmas.List.Elements.{All-pop, Contains-append_left, Contains-append_right}
use Rattle.std.proofs.lemmas.List.Sums.{sum_by_push, sum_by-cons}
use Rattle.std.specs.declared.option.Option.TheVariants.{Some}
use Rattle.adp_model.specs.declared.cell.Cell.{Cell}
use Rattle.adp_model.specs.PosedProblem.{PosedProblem, axiom_cell}
use Rattle.adp_model.specs.Demand.{IsDemanded, Axiom, Child}
use Rattle.memo_words.specs.declared.pass.Pass.{Pass}
use Rattle.memo_words.specs.declared.view.View.{View}
use Rattle.memo_words.specs.declared.words.Words.{Words}
use Rattle.memo_words.specs.Views.{joined}
use Rattle.memo_words.specs.Passes.{IsPassOf, view_of, marks_of, plan_of, problem_of}
use Rattle.memo_table.specs.declared.probe.Probe.{Probe}
use Rattle.memo_table.specs.Meanings.{table_meaning, knows}
use Rattle.cell_core.specs.MachineViews.{MachineView}
use Rattle.evaluators.specs.Posts.{Post, post, posts_of}
use Rattle.history_table.specs.declared.history.Mark.{Mark}
use Rattle.memo_words.specs.Layout.{slots_of}
use Rattle.evaluators.specs.Steps.{AreStepsOfEach, together}
use Rattle.evaluators.specs.Working.{TableWorker, IsAtWork, IsOf, post_of}
use Rattle.evaluators.specs.Runs.{AreMachinesFrom, HasFirstEnded, wins_of, ended_of}
use Rattle.evaluators.specs.Joined.{IsJoined}
use Rattle.evaluators.specs.declared.crew.Leavings.{Leavings}

-- ---- lists with one item more

at_end : {A : Type 0} (xs ys : List A) (x y : A) → xs ++ x ∷ [] ≡ ys ++ y ∷ [] → (xs ≡ ys) × (x ≡ y)
at_end [] [] x y e = (refl, ap (λ l. get_or l 0 x) e)
at_end [] (z ∷ zs) x y e =
    let lengths : length (x ∷ []) ≡ length (z ∷ zs ++ y ∷ []) = ap length e in
    let more = length-append zs (y ∷ []) in
    absurd (omega (arith, lengths, more))
at_end (w ∷ ws) [] x y e =
    let lengths : length (w ∷ ws ++ x ∷ []) ≡ length (y ∷ []) = ap length e in
    let more = length-append ws (x ∷ []) in
    absurd (omega (arith, lengths, more))
at_end (w ∷ ws) (z ∷ zs) x y e =
    let rest = at_end ws zs x y (ap (drop 1) e) in
    let first : w ≡ z = ap (λ l. get_or l 0 w) e in
    ((λ i. first i ∷ rest.0 i), rest.1)

pub reverse_pushed : {A : Type 0} (xs ys : List A) (x : A) → ys ≡ xs ++ x ∷ [] → reverse ys ≡ x ∷ reverse xs
reverse_pushed xs ys x e = ap reverse e ∙ reverse-append xs (x ∷ [])

reverse_map : {A B : Type 0} (f : A → B) (xs : List A) → reverse (map f xs) ≡ map f (reverse xs)
reverse_map f [] = refl
reverse_map f (x ∷ xs) =
    reverse-append (f x ∷ []) (map f xs) ∙ (λ i. reverse_map f xs i ++ f x ∷ [])
    ∙ sym (map-append f (reverse xs) (x ∷ [])) ∙ ap (map f) (sym (reverse-append (x ∷ []) xs))

-- values that stand for items do so in reverse
pub map_reversed : {A B : Type 0} (f : A → B) (xs xs' : List A) (ys ys' : List B) → ys ≡ map f xs → ys' ≡ reverse ys
    → xs' ≡ reverse xs → ys' ≡ map f xs'
map_reversed f xs xs' ys ys' are ys_are xs_are =
    ys_are ∙ ap reverse are ∙ reverse_map f xs ∙ ap (map f) (sym xs_are)

pub sum_reversed : (xs : List ℕ) → sum (reverse xs) ≡ sum xs
sum_reversed [] = refl
sum_reversed (x ∷ xs) =
    let behind : sum (reverse (x ∷ xs)) ≡ sum (reverse xs ++ x ∷ []) = ap sum (reverse-append (x ∷ []) xs) in
    let pushed : sum (reverse xs ++ x ∷ []) ≡ sum (reverse xs) + x = sum_by_push (λ (n : ℕ). n) (reverse xs) x in
    let front : sum (x ∷ xs) ≡ x + sum xs = sum_by-cons (λ (n : ℕ). n) x xs in
    let rest = sum_reversed xs in
    omega (arith, behind, pushed, front, rest)

-- ---- posts

pub posts_count : (p : PosedProblem) (seed count : ℕ) → length (posts_of p seed count) ≡ count
posts_count p seed zero = refl
posts_count p seed (suc count) =
    let pushed = length-append (posts_of p seed count) (post p seed count ∷ []) in
    let front = posts_count p seed count in
    omega (arith, pushed, front)

pub posts_length : {A : Type 0} (f : A → Post) (p : PosedProblem) (seed count : ℕ) (xs : List A)
    → map f xs ≡ posts_of p seed count → count ≡ length xs
posts_length f p seed count xs posts =
    sym (posts_count p seed count) ∙ ap length (sym posts) ∙ length-map xs f

-- the last of some workers whose posts are known, and those before it
pub record IsLast {A : Type 0} (f : A → Post) (p : PosedProblem) (seed : ℕ) (xs : List A) (x : A) : Type 0 where
  pub front : map f xs ≡ posts_of p seed (length xs)
  pub here : f x ≡ post p seed (length xs)

pub last_post : {A : Type 0} (f : A → Post) (p : PosedProblem) (seed count : ℕ) (xs ys : List A) (x : A)
    → ys ≡ xs ++ x ∷ [] → map f ys ≡ posts_of p seed count → count ≡ length ys → IsLast f p seed xs x
last_post f p seed count xs ys x e posts counted =
    let longer = length-append xs (x ∷ []) in
    let same : length ys ≡ length (xs ++ x ∷ []) = ap length e in
    let one : count ≡ suc (length xs) = omega (arith, longer, same, counted) in
    let whole : map f xs ++ f x ∷ [] ≡ posts_of p seed (length xs) ++ post p seed (length xs) ∷ [] =
    sym (map-append f xs (x ∷ [])) ∙ ap (map f) (sym e) ∙ posts ∙ ap (posts_of p seed) one in
    let both = at_end (map f xs) (posts_of p seed (length xs)) (f x) (post p seed (length xs)) whole in
    record { front = both.0; here = both.1 }

-- ---- a worker

pub weight_is : (worker : TableWorker) (p : PosedProblem) (seed number : ℕ) → post_of worker ≡ post p seed number
    → (view_of worker.pass).weight ≡ 1
weight_is worker p seed number e = ap (λ (it : Post). get_or it.share 0 0) e

pub spare_is : (worker : TableWorker) (p : PosedProblem) (seed number : ℕ) → post_of worker ≡ post p seed number
    → (view_of worker.pass).spare ≡ 0
spare_is worker p seed number e = ap (λ (it : Post). get_or it.share 1 0) e

pub is_of_post : (words : Words) (worker : TableWorker) (p : PosedProblem) (seed number : ℕ) → IsAtWork words worker
    → post_of worker ≡ post p seed number → IsOf (problem_of words) seed number worker.machine
is_of_post words worker p seed number at_work e =
    subst (λ (it : ℕ × ℕ). IsOf (problem_of words) it.0 it.1 worker.machine)
    (λ i. ((e i).seed, (e i).number)) at_work.is_of

none_from : (p : PosedProblem) → (IsDemanded p (axiom_cell p) → ⊥) → (cell : Cell) → IsDemanded p cell → ⊥
none_from p none cell (Axiom within) = none (Axiom within)
none_from p none cell (Child parent child demanded reached) = none_from p none parent demanded

abbrev pub IsWhole : PosedProblem → Pass → Type 0
IsWhole p pass = knows pass (axiom_cell p) ⊎ ((cell : Cell) → IsDemanded p cell → ⊥)

-- where its machine has ended, its pass knows the axiom's cell, or no cell is demanded
pub whole_when_ended : (words : Words) (worker : TableWorker) → IsAtWork words worker
    → ended_of worker.machine ≡ true → IsWhole (problem_of words) worker.pass
whole_when_ended words worker at_work ended =
    let p = problem_of words in
    let at_end = at_work.machine.at_end ended in
    let same = at_work.is_of.problem in
    let known : IsDemanded p (axiom_cell p) → knows worker.pass (axiom_cell p) =
    λ demanded. subst (λ (q : PosedProblem). knows worker.pass (axiom_cell q)) same
    (at_end.known (subst (λ (q : PosedProblem). IsDemanded q (axiom_cell q)) (sym same) demanded)).0 in
    ⊎_elim inl (λ other. inr (none_from p (λ demanded. other (known demanded))))
    (table_meaning.known_or_not worker.pass (axiom_cell p))

-- a pass that took in another one
pub whole_when_joined : (p : PosedProblem) (into other now : Pass) → view_of now ≡ joined (view_of into) (view_of other)
    → IsWhole p into ⊎ IsWhole p other → IsWhole p now
whole_when_joined p into other now e (inl whole) =
    ⊎_elim (λ known. inl (subst (λ (v : View). Contains v.known (axiom_cell p)) (sym e)
    (Contains-append_left (view_of into).known (view_of other).known (axiom_cell p) known))) inr whole
whole_when_joined p into other now e (inr whole) =
    ⊎_elim (λ known. inl (subst (λ (v : View). Contains v.known (axiom_cell p)) (sym e)
    (Contains-append_right (view_of into).known (view_of other).known (axiom_cell p) known))) inr whole

-- the first of some items is that of those before the last one, or the last one
first_or_last : {A : Type 0} (f : A → MachineView Probe) (xs : List A) (x : A) → HasFirstEnded (map f (xs ++ x ∷ []))
    → HasFirstEnded (map f xs) ⊎ (ended_of (f x) ≡ true)
first_or_last f [] x first = inr first
first_or_last f (y ∷ ys) x first = inl first

whole_of_none : {A Whole : Type 0} (f : A → MachineView Probe) (xs : List A) → xs ≡ []
    → HasFirstEnded (map f xs) ⊎ Whole → Whole
whole_of_none f xs none (inl first) = absurd (subst (λ ones. HasFirstEnded (map f ones)) none first)
whole_of_none f xs none (inr whole) = whole

-- ---- what is kept of workers while their passes are joined

-- those that are left, and the pass, the wins and the machines of the others, the last of which come first
pub record IsGathered {A : Type 0} (worker_of : A → TableWorker) (words : Words) (seed count : ℕ)
    (workers left : List A) (pass : Pass) (won : List ℕ) (machines : List (MachineView Probe)) : Type 0 where
  pub own : IsPassOf words pass
  pub spare : (view_of pass).spare ≡ 0
  pub weight : (view_of pass).weight ≡ length machines
  pub at_work : All (λ one. IsAtWork words (worker_of one)) left
  pub posts : map (λ one. post_of (worker_of one)) left ≡ posts_of (problem_of words) seed (length left)
  pub number : length left + length machines ≡ count
  pub machines_are : AreMachinesFrom (problem_of words) seed (length left) (reverse machines)
  pub wins : (view_of pass).wins ≡ sum won
  pub wins_are : won ≡ map wins_of machines
  pub lists : List (List Mark)
  pub steps : AreStepsOfEach (slots_of (plan_of words)) (reverse machines) lists
  pub marks : marks_of pass ≡ together lists
  pub kept : map (λ one. (worker_of one).machine) left ++ reverse machines
      ≡ map (λ one. (worker_of one).machine) workers
  -- the first worker is left, or the pass is whole
  pub whole : HasFirstEnded (map (λ one. (worker_of one).machine) left) ⊎ IsWhole (problem_of words) pass

-- one more is taken from those that are left
pub record IsTaken {A : Type 0} (worker_of : A → TableWorker) (all left : List A) (last : A) (won won' : List ℕ)
    (machines machines' : List (MachineView Probe)) : Type 0 where
  pub all_are : all ≡ left ++ last ∷ []
  pub won_are : won' ≡ won ++ wins_of (worker_of last).machine ∷ []
  pub machines_are : machines' ≡ machines ++ (worker_of last).machine ∷ []

module _ {A : Type 0} (worker_of : A → TableWorker) (words : Words) (seed : ℕ) (all left : List A) (last : A)
    (won won' : List ℕ) (machines machines' : List (MachineView Probe))
    (taken : IsTaken worker_of all left last won won' machines machines')
    (at_work : All (λ one. IsAtWork words (worker_of one)) all)
    (posts : map (λ one. post_of (worker_of one)) all ≡ posts_of (problem_of words) seed (length all)) where
  both_at_work : All (λ one. IsAtWork words (worker_of one)) left × IsAtWork words (worker_of last)
  both_at_work = All-pop (λ one. IsAtWork words (worker_of one)) all left (Some last) taken.all_are at_work

  last_is : IsLast (λ one. post_of (worker_of one)) (problem_of words) seed left last
  last_is =
      last_post (λ one. post_of (worker_of one)) (problem_of words) seed (length all) left all last taken.all_are
      posts refl

  one_weight : (view_of (worker_of last).pass).weight ≡ 1
  one_weight = weight_is (worker_of last) (problem_of words) seed (length left) last_is.here

  no_spare : (view_of (worker_of last).pass).spare ≡ 0
  no_spare = spare_is (worker_of last) (problem_of words) seed (length left) last_is.here

  shorter : length all ≡ length left + 1
  shorter =
      let pushed = length-append left (last ∷ []) in
      let same : length all ≡ length (left ++ last ∷ []) = ap length taken.all_are in
      omega (arith, pushed, same)

  longer : length machines' ≡ length machines + 1
  longer =
      let pushed = length-append machines ((worker_of last).machine ∷ []) in
      let same : length machines' ≡ length (machines ++ (worker_of last).machine ∷ []) = ap length taken.machines_are in
      omega (arith, pushed, same)

  machines_from : AreMachinesFrom (problem_of words) seed (length all) (reverse machines)
      → AreMachinesFrom (problem_of words) seed (length left) (reverse machines')
  machines_from behind =
      let next : length all ≡ suc (length left) = omega (arith, shorter) in
      subst (AreMachinesFrom (problem_of words) seed (length left))
      (sym (reverse_pushed machines machines' (worker_of last).machine taken.machines_are)) (
        is_of_post words (worker_of last) (problem_of words) seed (length left) both_at_work.1 last_is.here,
        subst (λ n. AreMachinesFrom (problem_of words) seed n (reverse machines)) next behind,
      )

  steps_from : (lists : List (List Mark)) → AreStepsOfEach (slots_of (plan_of words)) (reverse machines) lists
      → AreStepsOfEach (slots_of (plan_of words)) (reverse machines') (marks_of (worker_of last).pass ∷ lists)
  steps_from lists behind =
      subst (λ ms. AreStepsOfEach (slots_of (plan_of words)) ms (marks_of (worker_of last).pass ∷ lists))
      (sym (reverse_pushed machines machines' (worker_of last).machine taken.machines_are))
      (both_at_work.1.steps, behind)

  more_wins : sum won' ≡ sum won + (view_of (worker_of last).pass).wins
  more_wins =
      let same : sum won' ≡ sum (won ++ wins_of (worker_of last).machine ∷ []) = ap sum taken.won_are in
      let pushed : sum (won ++ wins_of (worker_of last).machine ∷ []) ≡ sum won + wins_of (worker_of last).machine =
      sum_by_push (λ (n : ℕ). n) won (wins_of (worker_of last).machine) in
      same ∙ pushed ∙ ap (λ n. sum won + n) (sym both_at_work.1.wins)

  wins_map : won ≡ map wins_of machines → won' ≡ map wins_of machines'
  wins_map are =
      taken.won_are ∙ (λ i. are i ++ wins_of (worker_of last).machine ∷ [])
      ∙ sym (map-append wins_of machines ((worker_of last).machine ∷ [])) ∙ ap (map wins_of) (sym taken.machines_are)

  abbrev pub machines_of : List A → List (MachineView Probe)
  machines_of ones = map (λ one. (worker_of one).machine) ones

  kept_on : machines_of left ++ reverse machines' ≡ machines_of all ++ reverse machines
  kept_on =
      let pushed = reverse_pushed machines machines' (worker_of last).machine taken.machines_are in
      let mapped : machines_of all ≡ machines_of left ++ (worker_of last).machine ∷ [] =
      ap machines_of taken.all_are ∙ map-append (λ one. (worker_of one).machine) left (last ∷ []) in
      ap (λ ms. machines_of left ++ ms) pushed
      ∙ sym (append_assoc (machines_of left) ((worker_of last).machine ∷ []) (reverse machines))
      ∙ ap (λ ms. ms ++ reverse machines) (sym mapped)

  -- the one that was taken is the first, or the first one is left
  first_on : HasFirstEnded (machines_of all)
      → HasFirstEnded (machines_of left) ⊎ IsWhole (problem_of words) (worker_of last).pass
  first_on first =
      ⊎_elim inl (λ ended. inr (whole_when_ended words (worker_of last) both_at_work.1 ended))
      (first_or_last (λ one. (worker_of one).machine) left last (subst (λ ones. HasFirstEnded (machines_of ones))
      taken.all_are first))

  whole_on : (pass pass' : Pass) → view_of pass' ≡ joined (view_of pass) (view_of (worker_of last).pass)
      → HasFirstEnded (machines_of all) ⊎ IsWhole (problem_of words) pass
      → HasFirstEnded (machines_of left) ⊎ IsWhole (problem_of words) pass'
  whole_on pass pass' e (inl first) =
      ⊎_elim inl
      (λ whole. inr (whole_when_joined (problem_of words) pass (worker_of last).pass pass' e (inr whole)))
      (first_on first)
  whole_on pass pass' e (inr whole) =
      inr (whole_when_joined (problem_of words) pass (worker_of last).pass pass' e (inl whole))

  -- the first worker that is taken
  pub gathered_first : (count : ℕ) → count ≡ length all → HasFirstEnded (machines_of all) → won ≡ [] → machines ≡ []
      → IsGathered worker_of words seed count all left (worker_of last).pass won' machines'
  gathered_first count counted first no_wins no_machines =
      let none : length machines ≡ 0 = ap length no_machines in
      let nothing : sum won ≡ 0 = ap sum no_wins in
      record {
        own = both_at_work.1.own;
        spare = no_spare;
        weight = omega (arith, one_weight, longer, none);
        at_work = both_at_work.0;
        posts = last_is.front;
        number = omega (arith, counted, shorter, longer, none);
        machines_are = machines_from
            (subst (λ ms. AreMachinesFrom (problem_of words) seed (length all) (reverse ms)) (sym no_machines) tt);
        wins = omega (arith, more_wins, nothing);
        wins_are = wins_map (no_wins ∙ ap (map wins_of) (sym no_machines));
        lists = marks_of (worker_of last).pass ∷ [];
        steps = steps_from []
            (subst (λ ms. AreStepsOfEach (slots_of (plan_of words)) (reverse ms) []) (sym no_machines) tt);
        marks = refl;
        kept = kept_on ∙ ap (λ ms. machines_of all ++ reverse ms) no_machines ∙ append-nil (machines_of all);
        whole = first_on first;
      }

  -- a further one
  pub gathered_next : (count : ℕ) (workers : List A) (pass pass' : Pass)
      → IsGathered worker_of words seed count workers all pass won machines → IsPassOf words pass'
      → view_of pass' ≡ joined (view_of pass) (view_of (worker_of last).pass)
      → marks_of pass' ≡ marks_of pass ++ marks_of (worker_of last).pass
      → IsGathered worker_of words seed count workers left pass' won' machines'
  gathered_next count workers pass pass' was own e marks =
      let spare : (view_of pass').spare ≡ (view_of pass).spare + (view_of (worker_of last).pass).spare =
      ap (λ (v : View). v.spare) e in
      let weight : (view_of pass').weight ≡ (view_of pass).weight + (view_of (worker_of last).pass).weight =
      ap (λ (v : View). v.weight) e in
      let wins : (view_of pass').wins ≡ (view_of pass).wins + (view_of (worker_of last).pass).wins =
      ap (λ (v : View). v.wins) e in
      let weight_was = was.weight in
      let spare_was = was.spare in
      let number_was = was.number in
      record {
        own = own;
        spare = omega (arith, spare, no_spare, spare_was);
        weight = omega (arith, weight, weight_was, one_weight, longer);
        at_work = both_at_work.0;
        posts = last_is.front;
        number = omega (arith, number_was, shorter, longer);
        machines_are = machines_from was.machines_are;
        wins = wins ∙ ap (λ n. n + (view_of (worker_of last).pass).wins) was.wins ∙ sym more_wins;
        wins_are = wins_map was.wins_are;
        lists = marks_of (worker_of last).pass ∷ was.lists;
        steps = steps_from was.lists was.steps;
        marks = marks ∙ ap (λ ms. ms ++ marks_of (worker_of last).pass) was.marks;
        kept = kept_on ∙ was.kept;
        whole = whole_on pass pass' e was.whole;
      }

-- nobody is left: the machines are those of all workers
pub all_kept : {A : Type 0} (worker_of : A → TableWorker) (words : Words) (seed count : ℕ) (workers left : List A)
    (pass : Pass) (won : List ℕ) (machines : List (MachineView Probe))
    → IsGathered worker_of words seed count workers left pass won machines → left ≡ []
    → reverse machines ≡ map (λ one. (worker_of one).machine) workers
all_kept worker_of words seed count workers left pass won machines was none =
    ap (λ ones. map (λ one. (worker_of one).machine) ones ++ reverse machines) (sym none) ∙ was.kept

pub all_joined : {A : Type 0} (worker_of : A → TableWorker) (words : Words) (seed count : ℕ) (workers left : List A)
    (pass : Pass) (won : List ℕ) (machines : List (MachineView Probe)) (leavings : Leavings)
    → IsGathered worker_of words seed count workers left pass won machines
    → HasFirstEnded (map (λ one. (worker_of one).machine) workers) → left ≡ [] → leavings.pass ≡ pass
    → leavings.wins.items ≡ reverse won → leavings.machines.items ≡ reverse machines
    → vec_len leavings.machines ≡ length leavings.machines.items → IsJoined words seed count leavings
all_joined worker_of words seed count workers left pass won machines leavings was first none pass_is won_are
    machines_are len_is =
    let p = problem_of words in
    let nobody : length left ≡ 0 = ap length none in
    let number_was = was.number in
    let weight_was = was.weight in
    let length_is : length leavings.machines.items ≡ length machines =
    ap length machines_are ∙ length-reverse machines in
    let weight : (view_of pass).weight ≡ count = omega (arith, weight_was, number_was, nobody) in
    record {
      own = subst (IsPassOf words) (sym pass_is) was.own;
      weight = ap (λ (it : Pass). (view_of it).weight) pass_is ∙ weight;
      spare = ap (λ (it : Pass). (view_of it).spare) pass_is ∙ was.spare;
      wins = ap (λ (it : Pass). (view_of it).wins) pass_is ∙ was.wins ∙ sym (sum_reversed won) ∙ ap sum (sym won_are);
      wins_are = map_reversed wins_of machines leavings.machines.items won leavings.wins.items was.wins_are won_are
          machines_are;
      lists = was.lists;
      steps = subst (λ ms. AreStepsOfEach (slots_of (plan_of words)) ms was.lists) (sym machines_are) was.steps;
      marks = ap (λ (it : Pass). marks_of it) pass_is ∙ was.marks;
      machines = subst (λ (it : ℕ × List (MachineView Probe)). AreMachinesFrom p seed it.0 it.1)
          (λ i. (nobody i, sym machines_are i)) was.machines_are;
      number = omega (arith, len_is, length_is, number_was, nobody);
      first = subst HasFirstEnded
          (sym (machines_are ∙ all_kept worker_of words seed count workers left pass won machines was none)) first;
      whole = subst (IsWhole p) (sym pass_is) (whole_of_none (λ one. (worker_of one).machine) left none was.whole);
    }
