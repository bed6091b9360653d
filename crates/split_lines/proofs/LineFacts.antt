-- The line of arguments: the last two of open length, and what stands between them and behind.
use Rattle.std.proofs.Common.{◌≡◌, ℕ, suc, ◌+◌, ◌-◌, ◌<◌, List, [], ◌∷◌, ◌++◌, length, take, drop, get_or, sym, ap, subst, ◌∙◌, inl, inr, arith, length-take, length-drop}
use Rattle.std.specs.List.{AllByRecursion}
use Rattle.std.proofs.lemmas.Bool.{cases_lt}
use Rattle.std.proofs.lemmas.List.{get_or-take, get_or-drop, drop_more, take_rest, drop-drop, drop-take, take-append-drop}
use Rattle.std.proofs.lemmas.List.Elements.{All-from_recursion}
use Rattle.adp_model.specs.declared.grammar.Arg.{Arg}
use Rattle.adp_model.specs.declared.grammar.Arg.TheVariants.{Rule}
use Rattle.split_lines.specs.Laid.{IsFixed}
use Rattle.split_lines.specs.Lines.{parts_by, IsLastOpen, HasLine}

-- an argument among fixed ones
pub fixed_at : (arguments : List Arg) (k : ℕ) (d : Arg) → AllByRecursion IsFixed arguments → k < length arguments → IsFixed (get_or arguments k d)
fixed_at arguments k d fixed l = All-from_recursion IsFixed arguments fixed k d l

-- the parts make up the arguments
pub parts_join : (arguments : List Arg) (between : ℕ) → between + 1 < length arguments → arguments ≡ (parts_by arguments between).first ∷ (parts_by arguments between).middle ++ (parts_by arguments between).second ∷ (parts_by arguments between).tail
parts_join [] between l = absurd (omega arith)
parts_join (argument ∷ arguments) between l =
    let next : between + 1 ≡ suc between = omega arith in
    let there : drop between arguments ≡ get_or arguments between (Rule 0) ∷ drop (between + 1) arguments = drop_more arguments between (Rule 0) (omega (arith, l)) in
    let second : get_or (argument ∷ arguments) (between + 1) (Rule 0) ≡ get_or arguments between (Rule 0) = ap (λ n. get_or (argument ∷ arguments) n (Rule 0)) next in
    let after : between + 2 ≡ suc (between + 1) = omega arith in
    let tail : drop (between + 2) (argument ∷ arguments) ≡ drop (between + 1) arguments = ap (λ n. drop n (argument ∷ arguments)) after in
    let whole : arguments ≡ take between arguments ++ (get_or (argument ∷ arguments) (between + 1) (Rule 0) ∷ drop (between + 2) (argument ∷ arguments)) =
    sym (take-append-drop between arguments) ∙ ap (λ xs. take between arguments ++ xs) (there ∙ ap (λ x. x ∷ drop (between + 1) arguments) (sym second) ∙ ap (λ xs. get_or (argument ∷ arguments) (between + 1) (Rule 0) ∷ xs) (sym tail)) in
    ap (λ xs. argument ∷ xs) whole

-- the last argument of open length, and the last one before it, are those of the line
pub line_there : (all : List Arg) (first second : ℕ) → IsLastOpen all second → IsLastOpen (take second all) first → HasLine (drop first all) (second - first - 1)
line_there all first second last before =
    let l : first < second = omega (arith, before.within, length-take second all) in
    let between = second - first - 1 in
    let first_is : get_or (drop first all) 0 (Rule 0) ≡ get_or (take second all) first (Rule 0) =
    get_or-drop first all 0 (Rule 0) ∙ ap (λ n. get_or all n (Rule 0)) (omega arith) ∙ sym (get_or-take second all first (Rule 0) l) in
    let second_is : get_or (drop first all) (between + 1) (Rule 0) ≡ get_or all second (Rule 0) =
    get_or-drop first all (between + 1) (Rule 0) ∙ ap (λ n. get_or all n (Rule 0)) (omega arith) in
    let cut : second ≡ first + 1 + between = omega arith in
    let middle_is : take between (drop 1 (drop first all)) ≡ drop (first + 1) (take second all) =
    ap (take between) (drop-drop 1 first all) ∙ sym (drop-take (first + 1) between all) ∙ ap (λ n. drop (first + 1) (take n all)) (sym cut) in
    let tail_is : drop (between + 2) (drop first all) ≡ drop (second + 1) all = drop-drop (between + 2) first all ∙ ap (λ n. drop n all) (omega arith) in
    let several : between + 1 < length (drop first all) = omega (arith, length-drop first all, last.within) in
    record {
      several = several;
      parts = record {
        are = parts_join (drop first all) between several;
        middle_fixed = subst (AllByRecursion IsFixed) (sym middle_is) before.fixed_behind;
        tail_fixed = subst (AllByRecursion IsFixed) (sym tail_is) last.fixed_behind;
      };
      first_open = λ h. before.open_there (Rule 0) (subst IsFixed first_is h);
      second_open = λ h. last.open_there (Rule 0) (subst IsFixed second_is h);
    }

-- the first argument of a line is of open length
pub first_there : (all : List Arg) (first between : ℕ) → HasLine (drop first all) between → IsFixed (get_or all first (Rule 0)) → ⊥
first_there all first between line fixed =
    let at : get_or (drop first all) 0 (Rule 0) ≡ get_or all first (Rule 0) = get_or-drop first all 0 (Rule 0) ∙ ap (λ n. get_or all n (Rule 0)) (omega arith) in
    line.first_open (subst IsFixed (sym at) fixed)

-- and none where one is
pub no_line_of_one : (all : List Arg) (second : ℕ) → IsLastOpen all second → AllByRecursion IsFixed (take second all) → (first between : ℕ) → HasLine (drop first all) between → ⊥
no_line_of_one all second last fixed first between line =
    let l : first + between + 1 < length all = omega (arith, line.several, length-drop first all) in
    elim (cases_lt first second) [
      | inl before ↦
          let inside : first < length (take second all) = omega (arith, length-take second all, before, last.within) in
          let at = get_or-take second all first (Rule 0) before in
          first_there all first between line (subst IsFixed at (fixed_at (take second all) first (Rule 0) fixed inside))
      | inr behind ↦
          let k = first + between - second in
          let inside : k < length (drop (second + 1) all) = omega (arith, length-drop (second + 1) all, l, behind) in
          let at : get_or (drop (second + 1) all) k (Rule 0) ≡ get_or (drop first all) (between + 1) (Rule 0) =
          get_or-drop (second + 1) all k (Rule 0) ∙ ap (λ n. get_or all n (Rule 0)) (omega arith) ∙ sym (get_or-drop first all (between + 1) (Rule 0)) in
          line.second_open (subst IsFixed at (fixed_at (drop (second + 1) all) k (Rule 0) last.fixed_behind inside))
    ]

-- ---- the parts, as slices of the arguments are taken

pub middle_taken : (all : List Arg) (first between : ℕ) → take (first + between + 1 - (first + 1)) (drop (first + 1) all) ≡ take between (drop 1 (drop first all))
middle_taken all first between =
    let width : first + between + 1 - (first + 1) ≡ between = omega arith in
    ap (λ n. take n (drop (first + 1) all)) width ∙ ap (take between) (sym (drop-drop 1 first all))

pub rest_taken : (all : List Arg) (from between : ℕ) → from ≡ between + 2 → take (length all - from) (drop from all) ≡ drop (between + 2) all
rest_taken all from between e = take_rest all from ∙ ap (λ n. drop n all) e

pub tail_taken : (all : List Arg) (first between : ℕ) → take (length all - (first + between + 1 + 1)) (drop (first + between + 1 + 1) all) ≡ drop (between + 2) (drop first all)
tail_taken all first between =
    let at : first + between + 1 + 1 ≡ first + (between + 2) = omega arith in
    take_rest all (first + between + 1 + 1) ∙ ap (λ n. drop n all) at ∙ sym (drop-drop (between + 2) first all)
