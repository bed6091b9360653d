-- Where each sign's term is proved not negative, no derived tree has a negative score.
use Rattle.std.proofs.Common.{◌≡◌, ℕ, zero, suc, sym, subst, slice_index_or, ◌<◌, ℤ, pos, ◌≤ℤ◌, Bool, true, false, nat_eq, cond, Option, Some, None, IsTrue, List, [], ◌∷◌, length, refl, arith}
use Rattle.std.specs.List.{list_all}
use Rattle.std.specs.Prelude.{int_le}
use Rattle.std.proofs.lemmas.Int.{ints}
use Rattle.adp_model.specs.declared.grammar.Arg.{Arg}
use Rattle.adp_model.specs.declared.grammar.Arg.TheVariants.{Rule, Literal, Letter, Run}
use Rattle.adp_model.specs.declared.grammar.Class.{Class}
use Rattle.adp_model.specs.declared.grammar.Grammar.{Grammar}
use Rattle.adp_model.specs.declared.grammar.Kind.{Kind}
use Rattle.adp_model.specs.declared.grammar.Kind.TheVariants.{Score, Token}
use Rattle.adp_model.specs.declared.grammar.Sign.{Sign}
use Rattle.adp_model.specs.declared.grammar.Term.{Term}
use Rattle.adp_model.specs.declared.cell.Cell.{Cell}
use Rattle.adp_model.specs.PosedProblem.{PosedProblem}
use Rattle.adp_model.specs.Parts.{letters_of, alternative_at, arguments_of, sign_at, term_of}
use Rattle.adp_model.specs.Tokens.{letters_between, Matches, weight_of, total_weight, token_value}
use Rattle.adp_model.specs.Terms.{AreValues}
use Rattle.adp_model.specs.TermSigns.{known_by, HasKnownSign, is_not_negative}
use Rattle.adp_model.specs.GrammarSigns.{has_no_negative_weight, has_no_negative_score, CanHave}
use Rattle.adp_model.specs.Tree.{Tree, Leaf, Node, Trees, Nil, Cons, start_of, end_of}
use Rattle.adp_model.specs.Derivation.{Derives, DeriveArguments}
use Rattle.adp_model.specs.Scores.{score_of, values_of}
use Rattle.adp_model.specs.WellFormed.{is_well_formed}
use Rattle.adp_model.proofs.WellFormedParts.{and_first, and_second, IsSigned-at}
use Rattle.adp_model.proofs.FittingTerms.{pair_passes-formed}
use Rattle.adp_model.proofs.Monotone.{AreFit, others_fit}
use Rattle.adp_model.proofs.TermOrders.{term_not_negative}

-- ---- tokens

abbrev from_zero : ℕ × ℤ → Bool
from_zero entry = int_le (pos 0) entry.1

weights_at : (classes : List Class) (class : ℕ) → list_all (λ (one : Class). list_all from_zero one.letters) classes ≡ true → list_all from_zero (slice_index_or classes class (record { name = []; letters = [] })).letters ≡ true
weights_at [] class all = refl
weights_at (one ∷ classes) zero all = and_first (list_all from_zero one.letters) _ all
weights_at (one ∷ classes) (suc class) all = weights_at classes class (and_second (list_all from_zero one.letters) _ all)

weight_from_zero : (class : List (ℕ × ℤ)) (letter : ℕ) (weight : ℤ) → list_all from_zero class ≡ true → weight_of class letter ≡ Some weight → pos 0 ≤ℤ weight
weight_from_zero [] letter weight all e = absurd cc
weight_from_zero (entry ∷ entries) letter weight all e = by (nat_eq entry.0 letter) e (weight_from_zero entries letter weight (and_second (from_zero entry) _ all))
  where
    by : (same : Bool) → cond same (Some entry.1) (weight_of entries letter) ≡ Some weight → (weight_of entries letter ≡ Some weight → pos 0 ≤ℤ weight) → pos 0 ≤ℤ weight
    by true h others =
        let one : entry.1 ≡ weight = cc in
        let first : int_le (pos 0) entry.1 ≡ true = and_first (from_zero entry) _ all in
        subst (λ w. pos 0 ≤ℤ w) one (omega (arith, ints, first))
    by false h others = others h

total_from_zero : (class : List (ℕ × ℤ)) (letters : List ℕ) → list_all from_zero class ≡ true → pos 0 ≤ℤ total_weight class letters
total_from_zero class [] all = omega (arith, ints)
total_from_zero class (letter ∷ letters) all = by (weight_of class letter) refl (total_from_zero class letters all)
  where
    by : (found : Option ℤ) → weight_of class letter ≡ found → pos 0 ≤ℤ total_weight class letters → pos 0 ≤ℤ total_weight class (letter ∷ letters)
    by None e rest = rw e (omega (arith, ints, rest))
    by (Some weight) e rest = rw e (omega (arith, ints, rest, weight_from_zero class letter weight all e))

pub token_from_zero : (grammar : Grammar) → has_no_negative_weight grammar ≡ true → (token : Arg) (letters : List ℕ) → pos 0 ≤ℤ token_value grammar token letters
token_from_zero grammar all (Rule rule) letters = omega (arith, ints)
token_from_zero grammar all (Literal text) letters = omega (arith, ints)
token_from_zero grammar all (Letter class) letters = total_from_zero (letters_of grammar class) letters (weights_at grammar.classes class all)
token_from_zero grammar all (Run class low high) letters = total_from_zero (letters_of grammar class) letters (weights_at grammar.classes class all)

-- ---- scores

module _ (p : PosedProblem) (formed : IsTrue (is_well_formed p.grammar)) (inside : p.algebra < length p.grammar.algebras) (scores : has_no_negative_score p.grammar p.algebra ≡ true) where
  mutual
    pub score_from_zero : (cell : Cell) (tree : Tree) → Derives p cell tree → pos 0 ≤ℤ score_of p tree
    score_from_zero cell (Leaf from to) derived = absurd derived
    score_from_zero cell (Node rule alternative from to children) derived =
        let signed = IsSigned-at p.grammar formed cell.rule alternative derived.4 in
        let kinds = (sign_at p.grammar (alternative_at p.grammar cell.rule alternative).sign).kinds in
        subst (λ r. pos 0 ≤ℤ score_of p (Node r alternative from to children)) (sym derived.0)
        (term_not_negative (known_by (has_no_negative_weight p.grammar) true) (term_of p cell.rule alternative) kinds (pair_passes-formed p.grammar formed (λ (entry : Sign × Term). is_not_negative (known_by (has_no_negative_weight p.grammar) true) entry.0.kinds entry.1) p.algebra (alternative_at p.grammar cell.rule alternative).sign inside signed.known scores)
        (values_of p (arguments_of p.grammar cell.rule alternative) children)
        (values_from_zero kinds (arguments_of p.grammar cell.rule alternative) cell.from cell.to children (record { count = signed.count; fit = signed.fit }) derived.5))

    values_from_zero : (kinds : List Kind) (arguments : List Arg) (from to : ℕ) (children : Trees) → AreFit p.grammar kinds arguments → DeriveArguments p arguments from to children → AreValues (HasKnownSign (known_by (has_no_negative_weight p.grammar) true)) kinds (values_of p arguments children)
    values_from_zero [] [] from to children fit h = tt
    values_from_zero (kind ∷ kinds) [] from to children fit h = let count = fit.count in absurd (omega arith)
    values_from_zero [] (argument ∷ arguments) from to children fit h = let count = fit.count in absurd (omega arith)
    values_from_zero (kind ∷ kinds) (argument ∷ arguments) from to Nil fit h = absurd h
    values_from_zero (Score ∷ kinds) (Rule rule ∷ arguments) from to (Cons first others) fit h =
        (λ assumed. score_from_zero (record { rule = rule; from = from; to = end_of first }) first h.0, values_from_zero kinds arguments (end_of first) to others (others_fit p.grammar Score kinds (Rule rule) arguments fit) h.1)
    values_from_zero (Score ∷ kinds) (Literal text ∷ arguments) from to (Cons first others) fit h = let e = fit.fit in absurd (cc)
    values_from_zero (Score ∷ kinds) (Letter class ∷ arguments) from to (Cons first others) fit h = let e = fit.fit in absurd (cc)
    values_from_zero (Score ∷ kinds) (Run class low high ∷ arguments) from to (Cons first others) fit h = let e = fit.fit in absurd (cc)
    values_from_zero (Token ∷ kinds) (Rule rule ∷ arguments) from to (Cons first others) fit h = let e = fit.fit in absurd (cc)
    values_from_zero (Token ∷ kinds) (Literal text ∷ arguments) from to (Cons first others) fit h =
        (λ all. token_from_zero p.grammar all (Literal text) (letters_between p.word (start_of first) (end_of first)), values_from_zero kinds arguments (end_of first) to others (others_fit p.grammar Token kinds (Literal text) arguments fit) h.1)
    values_from_zero (Token ∷ kinds) (Letter class ∷ arguments) from to (Cons first others) fit h =
        (λ all. token_from_zero p.grammar all (Letter class) (letters_between p.word (start_of first) (end_of first)), values_from_zero kinds arguments (end_of first) to others (others_fit p.grammar Token kinds (Letter class) arguments fit) h.1)
    values_from_zero (Token ∷ kinds) (Run class low high ∷ arguments) from to (Cons first others) fit h =
        (λ all. token_from_zero p.grammar all (Run class low high) (letters_between p.word (start_of first) (end_of first)), values_from_zero kinds arguments (end_of first) to others (others_fit p.grammar Token kinds (Run class low high) arguments fit) h.1)

-- scores and tokens that are known not to be negative are not
pub score_can : (p : PosedProblem) → IsTrue (is_well_formed p.grammar) → p.algebra < length p.grammar.algebras → (cell : Cell) (tree : Tree) → Derives p cell tree → CanHave p.grammar p.algebra Score (score_of p tree)
score_can p formed inside cell tree derived scores = score_from_zero p formed inside scores cell tree derived

pub token_can : (p : PosedProblem) (token : Arg) (letters : List ℕ) → Matches p.grammar token letters → CanHave p.grammar p.algebra Token (token_value p.grammar token letters)
token_can p token letters matches all = token_from_zero p.grammar all token letters
