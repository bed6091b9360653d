-- The front run of a class's letters, and the runs behind it.
use Rattle.std.proofs.Common.{◌≡◌, ℕ, ℤ, pos, suc, ◌+◌, ◌<◌, ◌≤◌, Bool, true, false, List, [], ◌∷◌, ◌++◌, length, take, drop, map, get_or, refl, ap, ◌∙◌, arith}
use Rattle.std.specs.List.{flat_map, prefix_len}
use Rattle.std.specs.Ordering.{int_eq}
use Rattle.std.proofs.lemmas.Bool.Decides.{Decides-int_eq}
use Rattle.std.proofs.lemmas.Cmp.{int_eq_equiv}
use Rattle.std.proofs.lemmas.List.Sums.{prefix_len-le-length}
use Rattle.job_texts.specs.Spelling.{runs_of, run_text}
use Rattle.grammar_text.proofs.Appends.{appended}

-- how many letters from the front on have this weight
abbrev pub front_length : ℤ → List (ℕ × ℤ) → ℕ
front_length weight letters = prefix_len (λ (entry : ℕ × ℤ). int_eq entry.1 weight) letters

abbrev pub letters_of : List (ℕ × ℤ) → List ℕ
letters_of entries = map (λ (entry : ℕ × ℤ). entry.0) entries

-- the run of a letter and the letters after it that go with it, and then the other runs
abbrev pub front_first : ℕ × ℤ → List (ℕ × ℤ) → List (List ℕ × ℤ)
front_first entry entries =
    (entry.0 ∷ letters_of (take (front_length entry.1 entries) entries), entry.1) ∷ runs_of (drop (front_length entry.1 entries) entries)

int_eq-same : (y z : ℤ) → y ≡ z → int_eq y z ≡ true
int_eq-same y z e = (Decides-int_eq y z).1 e

one_more : (k : ℕ) → 1 + k ≡ suc k
one_more k = omega arith

joined : (entry next : ℕ × ℤ) (entries : List (ℕ × ℤ)) (b : Bool) → int_eq next.1 entry.1 ≡ b → int_eq entry.1 next.1 ≡ b
    → runs_of (next ∷ entries) ≡ front_first next entries → runs_of (entry ∷ next ∷ entries) ≡ front_first entry (next ∷ entries)
joined entry next entries true h g ih =
    let e : next.1 ≡ entry.1 = (Decides-int_eq next.1 entry.1).0 h in
    let k : front_length next.1 entries ≡ front_length entry.1 entries = ap (λ w. front_length w entries) e in
    rw (ih, g, h, one_more) (rw (k, e) refl)
joined entry next entries false h g ih = rw (ih, g, h, ih) refl

int_eq-swap : (y z : ℤ) → int_eq y z ≡ int_eq z y
int_eq-swap y z = int_eq_equiv.symm y z

pub runs_of-cons : (entry : ℕ × ℤ) (entries : List (ℕ × ℤ)) → runs_of (entry ∷ entries) ≡ front_first entry entries
runs_of-cons entry [] = refl
runs_of-cons entry (next ∷ entries) =
    joined entry next entries (int_eq next.1 entry.1) refl (int_eq-swap entry.1 next.1) (runs_of-cons next entries)

-- the front run of some letters, as the code cuts it off
pub record IsFrontRun (letters : List (ℕ × ℤ)) (n : ℕ) : Type 0 where
  pub not_empty : 0 < n
  pub within : n ≤ length letters
  pub text : flat_map run_text (runs_of letters)
      ≡ run_text (letters_of (take n letters), (get_or (take n letters) 0 (0, pos 0)).1) ++ flat_map run_text (runs_of (drop n letters))

front_of_cons : (entry : ℕ × ℤ) (entries : List (ℕ × ℤ)) (n : ℕ) → n ≡ suc (front_length entry.1 entries) → IsFrontRun (entry ∷ entries) n
front_of_cons entry entries n e = record {
  not_empty = omega arith;
  within = omega (arith, prefix_len-le-length (λ (other : ℕ × ℤ). int_eq other.1 entry.1) entries);
  text = rw (e, runs_of-cons) refl;
}

pub front_run : (letters : List (ℕ × ℤ)) (n : ℕ) → 0 < length letters → n ≡ front_length (get_or letters 0 (0, pos 0)).1 letters → IsFrontRun letters n
front_run [] n some e = absurd (omega (arith, some))
front_run (entry ∷ entries) n some e =
    let same : int_eq entry.1 entry.1 ≡ true = int_eq-same entry.1 entry.1 refl in
    let length_is : front_length entry.1 (entry ∷ entries) ≡ suc (front_length entry.1 entries) = rw (same, one_more) refl in
    front_of_cons entry entries n (e ∙ length_is)

pub next_run : (old new : List ℕ) (rest run others : List (ℕ × ℤ)) (n : ℕ) (total : List ℕ) → 0 < length rest → n ≡ front_length (get_or rest 0 (0, pos 0)).1 rest
    → run ≡ take n rest → others ≡ drop n rest → new ≡ old ++ run_text (letters_of run, (get_or run 0 (0, pos 0)).1)
    → old ++ flat_map run_text (runs_of rest) ≡ total → new ++ flat_map run_text (runs_of others) ≡ total
next_run old new rest run others n total some e run_is others_is new_is so_far =
    let front = front_run rest n some e in
    let text : flat_map run_text (runs_of rest) ≡ run_text (letters_of run, (get_or run 0 (0, pos 0)).1) ++ flat_map run_text (runs_of others) = rw (run_is, others_is) front.text in
    appended old new (run_text (letters_of run, (get_or run 0 (0, pos 0)).1)) (flat_map run_text (runs_of rest)) (flat_map run_text (runs_of others)) total new_is text so_far
