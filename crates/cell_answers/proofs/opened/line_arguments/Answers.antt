use Rattle.std.proofs.Common.{◌≡◌, ℕ, suc, ℤ, pos, ◌+◌, ◌-◌, ◌<◌, ◌≤◌, List, [], ◌∷◌, ◌++◌, length, take, drop, get_or}
use Rattle.std.proofs.Common.{FitsSigned, w64, sym, ap, ◌∙◌, arith, rules, add-one}
use Rattle.std.proofs.lemmas.Int.{to_z-of_z}
use Rattle.std.proofs.lemmas.List.{take-append-drop, drop_more, take_all, length-drop}
use Rattle.cell_answers.proofs.opened.line_arguments.Goals as goal

-- a list by its first item, some more, the one behind these, and the rest
parted : (xs : List ℤ) (n : ℕ) (d : ℤ) → n + 1 < length xs → xs ≡ get_or xs 0 d ∷ (take n (drop 1 xs) ++ get_or xs (suc n) d ∷ drop (suc (suc n)) xs)
parted [] n d l = absurd (omega arith)
parted (x ∷ ys) n d l =
    let rest : ys ≡ take n ys ++ get_or ys n d ∷ drop (n + 1) ys = sym (take-append-drop n ys) ∙ ap (λ zs. take n ys ++ zs) (drop_more ys n d (omega arith)) in
    let next : drop (n + 1) ys ≡ drop (suc n) ys = ap (λ m. drop m ys) (add-one n) in
    ap (λ zs. x ∷ zs) (rest ∙ ap (λ zs. take n ys ++ get_or ys n d ∷ zs) next)

-- as the code cuts it
cut : (xs : List ℤ) (n : ℕ) → n + 1 < length xs
    → xs ≡ get_or xs 0 (pos 0) ∷ (take (n + 1 - 1) (drop 1 xs) ++ get_or xs (n + 1) (pos 0)
    ∷ take (length xs - (n + 1 + 1)) (drop (n + 1 + 1) xs))
cut xs n l =
    let fewer : n ≡ n + 1 - 1 = omega arith in
    let more : suc n ≡ n + 1 = sym (add-one n) in
    let most : suc (suc n) ≡ n + 1 + 1 = omega arith in
    let long : length (drop (n + 1 + 1) xs) ≤ length xs - (n + 1 + 1) = omega (arith, length-drop (n + 1 + 1) xs) in
    parted xs n (pos 0) l
    ∙ (λ i. get_or xs 0 (pos 0) ∷ (take (fewer i) (drop 1 xs) ++ get_or xs (more i) (pos 0) ∷ drop (most i) xs))
    ∙ ap (λ zs. get_or xs 0 (pos 0) ∷ (take (n + 1 - 1) (drop 1 xs) ++ get_or xs (n + 1) (pos 0) ∷ zs))
    (sym (take_all (length xs - (n + 1 + 1)) (drop (n + 1 + 1) xs) long))

pub returns-clause-factors : goal.returns-clause-factors
returns-clause-factors c =
    let xs = c.args.factors.now in
    let l : c.args.between + 1 < length xs = omega (arith, c.requires.line.several, c.requires.each) in
    let first : FitsSigned w64 (get_or xs 0 (pos 0)) = search rules in
    let second : FitsSigned w64 (get_or xs (c.args.between + 1) (pos 0)) = search rules in
    simp to_z-of_z (cut xs c.args.between l)
