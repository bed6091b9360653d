-- The variables of a term, one after the other, as a loop writes them.
use Rattle.std.proofs.Common.{◌≡◌, ℕ, zero, suc, ◌+◌, ◌<◌, cond, eqb, List, ◌∷◌, ◌++◌, length, get_or, drop, refl, add-one}
use Rattle.std.proofs.lemmas.List.{drop_more}
use Rattle.std.proofs.Math.Dec.{eqb-suc-zero}
use Rattle.std.specs.Prelude.{codes}
use Rattle.std.specs.Fmt.{decimal}
use Rattle.std.specs.List.{flat_map}
use Rattle.adp_model.specs.declared.grammar.Kind.{Kind}
use Rattle.adp_model.specs.declared.grammar.Kind.TheVariants.{Score}
use Rattle.job_texts.specs.Spelling.{separated, variables}
use Rattle.grammar_text.proofs.Appends.{appended}

-- what comes after the variables of so many kinds
abbrev pub further_variables : ℕ → List Kind → List ℕ
further_variables zero kinds = separated (λ name. name) (codes ", ") (variables 1 kinds)
further_variables (suc n) kinds = flat_map (λ name. codes ", " ++ name) (variables (suc n + 1) kinds)

further_variables-cons : (n : ℕ) (kind : Kind) (kinds : List Kind) → further_variables n (kind ∷ kinds)
    ≡ cond (eqb n 0) (codes "x") (codes ", x") ++ (decimal (n + 1) ++ further_variables (n + 1) kinds)
further_variables-cons zero kind kinds = refl
further_variables-cons (suc n) kind kinds = rw (add-one (suc n), eqb-suc-zero) refl

further_variables-drop : (n : ℕ) (kinds : List Kind) → n < length kinds → further_variables n (drop n kinds)
    ≡ cond (eqb n 0) (codes "x") (codes ", x") ++ (decimal (n + 1) ++ further_variables (n + 1) (drop (n + 1) kinds))
further_variables-drop n kinds lt = rw (drop_more kinds n Score lt) (further_variables-cons n (get_or kinds n Score) (drop (n + 1) kinds))

pub next_variable : (old mid new before : List ℕ) (n : ℕ) (kinds : List Kind) (total : List ℕ) → n < length kinds → before ≡ cond (eqb n 0) (codes "x") (codes ", x")
    → mid ≡ old ++ before → new ≡ mid ++ decimal (n + 1) → old ++ further_variables n (drop n kinds) ≡ total → new ++ further_variables (n + 1) (drop (n + 1) kinds) ≡ total
next_variable old mid new before n kinds total lt before_is mid_is new_is so_far =
    let rest = further_variables (n + 1) (drop (n + 1) kinds) in
    let left : further_variables n (drop n kinds) ≡ before ++ (decimal (n + 1) ++ rest) = rw (before_is) (further_variables-drop n kinds lt) in
    appended mid new (decimal (n + 1)) (decimal (n + 1) ++ rest) rest total new_is refl
    (appended old mid before (further_variables n (drop n kinds)) (decimal (n + 1) ++ rest) total mid_is left so_far)
