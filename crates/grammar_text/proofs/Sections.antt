-- The section of an algebra in what the reader has in its hands, and the term of a sign in it.
use Rattle.std.proofs.Common.{◌≡◌, ℕ, zero, suc, ◌+◌, ◌<◌, ◌≤◌, true, false, cond, not, List, [], ◌∷◌, length, map, take, drop, get_or, length-drop, ◌-◌, refl, sym, ◌∙◌, ap, arith}
use Rattle.std.specs.List.{position_or_len}
use Rattle.std.proofs.lemmas.Bool.{and_parts}
use Rattle.std.proofs.lemmas.List.{take_all, drop_more, length-map}
use Rattle.job_texts.specs.DeclaredNames.{is_algebra_line, section_of}
use Rattle.grammar_text.specs.declared.reader.declaration.Declaration.{Declaration}
use Rattle.grammar_text.specs.declared.reader.declaration.Declaration.TheVariants as code
use Rattle.std.specs.Borrow.{Bor}
use Rattle.adp_model.specs.declared.grammar.Goal.{Goal}
use Rattle.grammar_text.specs.Seen.{declaration_seen}
use Rattle.grammar_text.specs.Building.{is_buildable, are_buildable}
use Rattle.grammar_text.proofs.Built.{all_front}

taken : (below : List Declaration) (n : ℕ) → map declaration_seen (take n below) ≡ take n (map declaration_seen below)
taken below zero = refl
taken [] (suc n) = refl
taken (declaration ∷ below) (suc n) = ap (λ l. declaration_seen declaration ∷ l) (taken below n)

-- where the first algebra line is, if it is none of the first of these, so many
abbrev pub IsEnd : List Declaration → ℕ → Type 0
IsEnd below i = position_or_len is_algebra_line (map declaration_seen below) ≡ i + position_or_len is_algebra_line (map declaration_seen (drop i below))

place_left : (below : List Declaration) (i : ℕ) (declaration : Declaration) → i < length below → declaration ≡ get_or below i declaration
    → position_or_len is_algebra_line (map declaration_seen (drop i below)) ≡ cond (not (is_algebra_line (declaration_seen declaration))) (1 + position_or_len is_algebra_line (map declaration_seen (drop (i + 1) below))) 0
place_left below i declaration within e =
    ap (λ l. position_or_len is_algebra_line (map declaration_seen l)) (drop_more below i declaration within)
    ∙ ap (λ d. cond (not (is_algebra_line (declaration_seen d))) (1 + position_or_len is_algebra_line (map declaration_seen (drop (i + 1) below))) 0) (sym e)

pub end_here : (below : List Declaration) (i : ℕ) (declaration : Declaration) → i < length below → declaration ≡ get_or below i declaration → IsEnd below i → is_algebra_line (declaration_seen declaration) ≡ true
    → map declaration_seen (take i below) ≡ section_of (map declaration_seen below)
end_here below i declaration within e h ends =
    let none : position_or_len is_algebra_line (map declaration_seen (drop i below)) ≡ 0 = place_left below i declaration within e ∙ rw ends refl in
    let place : position_or_len is_algebra_line (map declaration_seen below) ≡ i = omega arith in
    taken below i ∙ ap (λ n. take n (map declaration_seen below)) (sym place)

pub end_later : (below : List Declaration) (i : ℕ) (declaration : Declaration) → i < length below → declaration ≡ get_or below i declaration → IsEnd below i → is_algebra_line (declaration_seen declaration) ≡ false
    → IsEnd below (i + 1)
end_later below i declaration within e h other =
    let one : position_or_len is_algebra_line (map declaration_seen (drop i below)) ≡ 1 + position_or_len is_algebra_line (map declaration_seen (drop (i + 1) below)) = place_left below i declaration within e ∙ rw other refl in
    omega arith

pub no_end : (below : List Declaration) (i : ℕ) → length below ≤ i → IsEnd below i → map declaration_seen below ≡ section_of (map declaration_seen below)
no_end below i past h =
    let all : length (map declaration_seen below) ≤ position_or_len is_algebra_line (map declaration_seen below) = rw length-map (omega arith) in
    sym (take_all (position_or_len is_algebra_line (map declaration_seen below)) (map declaration_seen below) all)

pub all_behind : {X : Type 0} (xs : List X) → take (length xs - 1) (drop 1 xs) ≡ drop 1 xs
all_behind xs = take_all (length xs - 1) (drop 1 xs) (omega (arith, length-drop 1 xs))

pub no_algebra : (declaration : Declaration) → ((name : Bor (List ℕ)) (goal : Goal) → declaration ≡ code.Algebra name goal → ⊥) → is_algebra_line (declaration_seen declaration) ≡ false
no_algebra (code.Algebra name goal) h = absurd (h name goal refl)
no_algebra (code.Class name items) h = refl
no_algebra (code.Sign name kinds) h = refl
no_algebra (code.Let sign variables term) h = refl
no_algebra (code.Rule name alternatives) h = refl
no_algebra (code.Axiom rule) h = refl
no_algebra code.Words h = refl

-- the section below the first of buildable declarations is buildable
pub section_buildable : (rest : List Declaration) → are_buildable (map declaration_seen rest) ≡ true → are_buildable (section_of (map declaration_seen (drop 1 rest))) ≡ true
section_buildable [] h = refl
section_buildable (declaration ∷ rest) h =
    all_front is_buildable (position_or_len is_algebra_line (map declaration_seen rest)) (map declaration_seen rest) (and_parts (is_buildable (declaration_seen declaration)) (are_buildable (map declaration_seen rest)) h).1
