-- Terms of a grammar that passes the checks: children whose scores are no greater give a score that is no greater.
use Rattle.std.proofs.Common.{None, Option, Some, ◌≡◌, ◌<◌, ◌&&◌, ◌==◌, ℕ, zero, suc, ℤ, pos, ◌≤ℤ◌, Bool, true, false}
use Rattle.std.proofs.Common.{cond, nat_eq, nat_lt, nat_le, IsTrue, List, [], ◌∷◌, length, slice_index_or, refl, sym, ap, subst, arith, eqb-true}
use Rattle.std.specs.Prelude.{int_le}
use Rattle.std.proofs.lemmas.Int.{ints}
use Rattle.std.specs.List.{list_all, zip}
use Rattle.adp_model.specs.declared.grammar.Class.{Class}
use Rattle.adp_model.specs.declared.grammar.Kind.{Kind}
use Rattle.adp_model.specs.declared.grammar.Kind.TheVariants.{Score, Token}
use Rattle.adp_model.specs.declared.grammar.Goal.{Goal}
use Rattle.adp_model.specs.declared.grammar.Goal.TheVariants.{Least, Greatest}
use Rattle.adp_model.specs.declared.grammar.Arg.{Arg}
use Rattle.adp_model.specs.declared.grammar.Arg.TheVariants.{Rule, Literal, Letter, Run}
use Rattle.adp_model.specs.declared.grammar.Term.{Term}
use Rattle.adp_model.specs.declared.grammar.Grammar.{Grammar}
use Rattle.adp_model.specs.declared.cell.Cell.{Cell}
use Rattle.adp_model.specs.PosedProblem.{PosedProblem}
use Rattle.adp_model.specs.Parts.{algebra_of, letters_of, sign_at, rule_at, alternatives_of, alternative_at, arguments_of, term_of}
use Rattle.adp_model.specs.Tokens.{letters_between, weight_of, total_weight, token_value}
use Rattle.adp_model.specs.Terms.{term_value, AreAtMost, AreValues, KeepsOrder}
use Rattle.adp_model.specs.GrammarSigns.{has_no_negative_weight, has_no_negative_score, CanHave}
use Rattle.adp_model.specs.Tree.{Tree, Node, Trees, Nil, Cons, start_of, end_of}
use Rattle.adp_model.specs.Derivation.{Derives, DeriveArguments}
use Rattle.adp_model.specs.Scores.{score_of, values_of}
use Rattle.adp_model.specs.Checks.{IsChecked}
use Rattle.adp_model.specs.WellFormed.{is_name, is_class, is_sign, is_algebra, is_argument, is_size, is_alternative, is_rule, counts_fit, names_differ, parts_fit, is_well_formed}

-- ---- arguments fit the kinds of their sign

and_first : (a b : Bool) → (a && b) ≡ true → a ≡ true
and_first true b h = refl
and_first false b h = h

and_second : (a b : Bool) → (a && b) ≡ true → b ≡ true
and_second true b h = h
and_second false b h = absurd cc

all_test : {X : Type 0} (test : X → Bool) (xs : List X) (i : ℕ) (default : X) → list_all test xs ≡ true → i < length xs
    → test (slice_index_or xs i default) ≡ true
all_test test [] i default h inside = absurd (omega arith)
all_test test (x ∷ xs) zero default h inside = and_first (test x) (list_all test xs) h
all_test test (x ∷ xs) (suc i) default h inside =
    all_test test xs i default (and_second (test x) (list_all test xs) h) (omega arith)

-- kinds that arguments fit
record AreFit (grammar : Grammar) (kinds : List Kind) (arguments : List Arg) : Type 0 where
  count : length arguments ≡ length kinds
  fit : list_all (is_argument grammar) (zip kinds arguments) ≡ true

others_fit : (grammar : Grammar) (kind : Kind) (kinds : List Kind) (argument : Arg) (arguments : List Arg)
    → AreFit grammar (kind ∷ kinds) (argument ∷ arguments) → AreFit grammar kinds arguments
others_fit grammar kind kinds argument arguments h =
    let count = h.count in
    record {
      count = omega arith;
      fit = and_second (is_argument grammar (kind, argument)) (list_all (is_argument grammar) (zip kinds arguments)) h.fit;
    }

-- the arguments of each alternative
arguments_fit : (grammar : Grammar) → IsTrue (is_well_formed grammar) → (rule alternative : ℕ)
    → rule < length grammar.rules → alternative < length (alternatives_of grammar rule)
    → AreFit grammar (sign_at grammar (alternative_at grammar rule alternative).sign).kinds
    (arguments_of grammar rule alternative)
arguments_fit grammar formed rule alternative known inside =
    let all_but =
    list_all is_class grammar.classes && list_all is_sign grammar.signs
    && list_all (is_algebra grammar.signs) grammar.algebras in
    let each =
    and_second all_but (list_all (is_rule grammar) grammar.rules)
    (and_second (counts_fit grammar && names_differ grammar) (parts_fit grammar) formed) in
    let own = rule_at grammar rule in
    let formed_rule = all_test (is_rule grammar) grammar.rules rule (record { name = []; alts = [] }) each known in
    let alternatives =
    and_second (is_name own.name && nat_le 1 (length own.alts) && nat_le (length own.alts) 64)
    (list_all (is_alternative grammar) own.alts) formed_rule in
    let one = alternative_at grammar rule alternative in
    let formed_one =
    all_test (is_alternative grammar) own.alts alternative (record { sign = 0; args = []; size = None }) alternatives inside in
    let kinds = (sign_at grammar one.sign).kinds in
    let in_signs = is_size one.size && nat_lt one.sign (length grammar.signs) in
    let counted = length one.args == length kinds in
    let fit = list_all (is_argument grammar) (zip kinds one.args) in
    record {
      count = eqb-true _ _ (and_second in_signs counted (and_first (in_signs && counted) fit formed_one));
      fit = and_second (in_signs && counted) fit formed_one;
    }

-- ---- values

abbrev from_zero : ℕ × ℤ → Bool
from_zero entry = int_le (pos 0) entry.1

weights_at : (classes : List Class) (class : ℕ)
    → list_all (λ (one : Class). list_all from_zero one.letters) classes ≡ true
    → list_all from_zero (slice_index_or classes class (record { name = []; letters = [] })).letters ≡ true
weights_at [] class all = refl
weights_at (one ∷ classes) zero all = and_first (list_all from_zero one.letters) _ all
weights_at (one ∷ classes) (suc class) all = weights_at classes class (and_second (list_all from_zero one.letters) _ all)

weight_from_zero : (class : List (ℕ × ℤ)) (letter : ℕ) (weight : ℤ) → list_all from_zero class ≡ true
    → weight_of class letter ≡ Some weight → pos 0 ≤ℤ weight
weight_from_zero [] letter weight all e = absurd cc
weight_from_zero (entry ∷ entries) letter weight all e =
    by (nat_eq entry.0 letter) e (weight_from_zero entries letter weight (and_second (from_zero entry) _ all))
  where
    by : (same : Bool) → cond same (Some entry.1) (weight_of entries letter) ≡ Some weight
        → (weight_of entries letter ≡ Some weight → pos 0 ≤ℤ weight) → pos 0 ≤ℤ weight
    by true h others =
        let one : entry.1 ≡ weight = cc in
        let first : int_le (pos 0) entry.1 ≡ true = and_first (from_zero entry) _ all in
        subst (λ w. pos 0 ≤ℤ w) one (omega (arith, ints, first))
    by false h others = others h

total_from_zero : (class : List (ℕ × ℤ)) (letters : List ℕ) → list_all from_zero class ≡ true
    → pos 0 ≤ℤ total_weight class letters
total_from_zero class [] all = omega (arith, ints)
total_from_zero class (letter ∷ letters) all = by (weight_of class letter) refl (total_from_zero class letters all)
  where
    by : (found : Option ℤ) → weight_of class letter ≡ found → pos 0 ≤ℤ total_weight class letters
        → pos 0 ≤ℤ total_weight class (letter ∷ letters)
    by None e rest = rw e (omega (arith, ints, rest))
    by (Some weight) e rest = rw e (omega (arith, ints, rest, weight_from_zero class letter weight all e))

token_from_zero : (grammar : Grammar) → has_no_negative_weight grammar ≡ true → (token : Arg) (letters : List ℕ)
    → pos 0 ≤ℤ token_value grammar token letters
token_from_zero grammar all (Rule rule) letters = omega (arith, ints)
token_from_zero grammar all (Literal text) letters = omega (arith, ints)
token_from_zero grammar all (Letter class) letters =
    total_from_zero (letters_of grammar class) letters (weights_at grammar.classes class all)
token_from_zero grammar all (Run class low high) letters =
    total_from_zero (letters_of grammar class) letters (weights_at grammar.classes class all)

-- ---- children that are no worse

abbrev pub IsAsGood : Goal → ℤ → ℤ → Type 0
IsAsGood Least a b = a ≤ℤ b
IsAsGood Greatest a b = b ≤ℤ a

-- of the arguments' children, those of rules have scores that are as good, the others are the same
abbrev pub AreAsGood : PosedProblem → Goal → List Arg → Trees → Trees → Type 0
AreAsGood p goal [] ts us = Unit {0}
AreAsGood p goal (argument ∷ arguments) Nil us = ⊥
AreAsGood p goal (argument ∷ arguments) (Cons t ts) Nil = ⊥
AreAsGood p goal (Rule rule ∷ arguments) (Cons t ts) (Cons u us) =
    IsAsGood goal (score_of p t) (score_of p u) × AreAsGood p goal arguments ts us
AreAsGood p goal (token ∷ arguments) (Cons t ts) (Cons u us) = (t ≡ u) × AreAsGood p goal arguments ts us

module _ (p : PosedProblem) (scores : IsTrue (has_no_negative_score p.grammar p.algebra) → (cell : Cell) (tree : Tree)
    → Derives p cell tree → pos 0 ≤ℤ score_of p tree) where
  -- the values of derived children are ones that their arguments can have
  children_can_have : (kinds : List Kind) (arguments : List Arg) (from to : ℕ) (children : Trees)
      → AreFit p.grammar kinds arguments → DeriveArguments p arguments from to children
      → AreValues (CanHave p.grammar p.algebra) kinds (values_of p arguments children)
  children_can_have [] [] from to children fit h = tt
  children_can_have (kind ∷ kinds) [] from to children fit h = let count = fit.count in absurd (omega arith)
  children_can_have [] (argument ∷ arguments) from to children fit h = let count = fit.count in absurd (omega arith)
  children_can_have (kind ∷ kinds) (argument ∷ arguments) from to Nil fit h = absurd h
  children_can_have (Score ∷ kinds) (Rule rule ∷ arguments) from to (Cons first others) fit h = (
    (λ known. scores known (record { rule = rule; from = from; to = end_of first }) first h.0),
    children_can_have kinds arguments (end_of first) to others (others_fit p.grammar Score kinds (Rule rule) arguments fit) h.1,
  )
  children_can_have (Score ∷ kinds) (Literal text ∷ arguments) from to (Cons first others) fit h =
      let e = fit.fit in absurd (cc)
  children_can_have (Score ∷ kinds) (Letter class ∷ arguments) from to (Cons first others) fit h =
      let e = fit.fit in absurd (cc)
  children_can_have (Score ∷ kinds) (Run class low high ∷ arguments) from to (Cons first others) fit h =
      let e = fit.fit in absurd (cc)
  children_can_have (Token ∷ kinds) (Rule rule ∷ arguments) from to (Cons first others) fit h =
      let e = fit.fit in absurd (cc)
  children_can_have (Token ∷ kinds) (token ∷ arguments) from to (Cons first others) fit h = (
    (λ known. token_from_zero p.grammar known token (letters_between p.word (start_of first) (end_of first))),
    children_can_have kinds arguments (end_of first) to others (others_fit p.grammar Token kinds token arguments fit) h.1,
  )

  turned : (arguments : List Arg) (ts us : Trees) → AreAsGood p Greatest arguments ts us → AreAsGood p Least arguments us ts
  turned [] ts us h = tt
  turned (argument ∷ arguments) Nil us h = absurd h
  turned (argument ∷ arguments) (Cons t ts) Nil h = absurd h
  turned (Rule rule ∷ arguments) (Cons t ts) (Cons u us) h = (h.0, turned arguments ts us h.1)
  turned (token ∷ arguments) (Cons t ts) (Cons u us) h = (sym h.0, turned arguments ts us h.1)

  values_at_most : (kinds : List Kind) (arguments : List Arg) (ts us : Trees) → AreFit p.grammar kinds arguments
      → AreAsGood p Least arguments ts us → AreAtMost kinds (values_of p arguments ts) (values_of p arguments us)
  values_at_most [] [] ts us fit h = tt
  values_at_most (kind ∷ kinds) [] ts us fit h = let count = fit.count in absurd (omega arith)
  values_at_most [] (argument ∷ arguments) ts us fit h = let count = fit.count in absurd (omega arith)
  values_at_most (kind ∷ kinds) (argument ∷ arguments) Nil us fit h = absurd h
  values_at_most (kind ∷ kinds) (argument ∷ arguments) (Cons t ts) Nil fit h = absurd h
  values_at_most (Score ∷ kinds) (Rule rule ∷ arguments) (Cons t ts) (Cons u us) fit h =
      (h.0, values_at_most kinds arguments ts us (others_fit p.grammar Score kinds (Rule rule) arguments fit) h.1)
  values_at_most (Score ∷ kinds) (Literal text ∷ arguments) (Cons t ts) (Cons u us) fit h =
      let e = fit.fit in absurd (cc)
  values_at_most (Score ∷ kinds) (Letter class ∷ arguments) (Cons t ts) (Cons u us) fit h =
      let e = fit.fit in absurd (cc)
  values_at_most (Score ∷ kinds) (Run class low high ∷ arguments) (Cons t ts) (Cons u us) fit h =
      let e = fit.fit in absurd (cc)
  values_at_most (Token ∷ kinds) (Rule rule ∷ arguments) (Cons t ts) (Cons u us) fit h =
      let e = fit.fit in absurd (cc)
  values_at_most (Token ∷ kinds) (token ∷ arguments) (Cons t ts) (Cons u us) fit h = (
    ap (λ x. token_value p.grammar token (letters_between p.word (start_of x) (end_of x))) h.0,
    values_at_most kinds arguments ts us (others_fit p.grammar Token kinds token arguments fit) h.1,
  )

  term_orderly : (term : Term) (kinds : List Kind) (arguments : List Arg)
      → KeepsOrder (CanHave p.grammar p.algebra) term kinds → AreFit p.grammar kinds arguments
      → (goal : Goal) (from to : ℕ) (ts us : Trees) → DeriveArguments p arguments from to ts
      → DeriveArguments p arguments from to us → AreAsGood p goal arguments ts us
      → IsAsGood goal (term_value term (values_of p arguments ts)) (term_value term (values_of p arguments us))
  term_orderly term kinds arguments keeps fit Least from to ts us h k good =
      keeps (values_of p arguments ts) (values_of p arguments us) (children_can_have kinds arguments from to ts fit h)
      (children_can_have kinds arguments from to us fit k) (values_at_most kinds arguments ts us fit good)
  term_orderly term kinds arguments keeps fit Greatest from to ts us h k good =
      keeps (values_of p arguments us) (values_of p arguments ts) (children_can_have kinds arguments from to us fit k)
      (children_can_have kinds arguments from to ts fit h)
      (values_at_most kinds arguments us ts fit (turned arguments ts us good))

-- children that are as good make a tree that is
abbrev pub IsOrderly : PosedProblem → Type 0
IsOrderly p =
    (rule alternative from to : ℕ) (ts us : Trees) → alternative < length (alternatives_of p.grammar rule)
    → DeriveArguments p (arguments_of p.grammar rule alternative) from to ts
    → DeriveArguments p (arguments_of p.grammar rule alternative) from to us
    → AreAsGood p (algebra_of p).goal (arguments_of p.grammar rule alternative) ts us
    → IsAsGood (algebra_of p).goal (score_of p (Node rule alternative from to ts))
    (score_of p (Node rule alternative from to us))

pub orderly_checked : (p : PosedProblem) (least : List ℕ) (greatest : List (Option ℕ)) (ranks : List ℕ)
    → IsChecked p.grammar p.algebra least greatest ranks
    → (IsTrue (has_no_negative_score p.grammar p.algebra) → (cell : Cell) (tree : Tree) → Derives p cell tree
    → pos 0 ≤ℤ score_of p tree)
    → ((rule alternative : ℕ) → alternative < length (alternatives_of p.grammar rule) → rule < length p.grammar.rules)
    → ((rule alternative : ℕ) → alternative < length (alternatives_of p.grammar rule)
    → (alternative_at p.grammar rule alternative).sign < length p.grammar.signs) → IsOrderly p
orderly_checked p least greatest ranks checked scores rules signs =
    λ rule alternative from to ts us inside h k good.
    let sign = (alternative_at p.grammar rule alternative).sign in
    term_orderly p scores (term_of p rule alternative) (sign_at p.grammar sign).kinds (arguments_of p.grammar rule alternative)
    (checked.orderly sign (signs rule alternative inside))
    (arguments_fit p.grammar checked.well_formed rule alternative (rules rule alternative inside) inside)
    (algebra_of p).goal from to ts us h k good
