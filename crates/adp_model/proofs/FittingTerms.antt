-- The terms of a well-formed grammar's algebras fit their signs.
use Rattle.std.proofs.Common.{◌≡◌, ℕ, zero, suc, ℤ, ◌<◌, ◌≤◌, Bool, true, ◌&&◌, ◌==◌, IsTrue, pos, nat_abs, List, [], ◌∷◌, length, slice_index_or, arith, sym, subst, eqb-true, ltb-true, leb-true}
use Rattle.std.specs.Prelude.{int_le, nat_le}
use Rattle.std.specs.List.{list_all, zip, AllByRecursion}
use Rattle.std.proofs.lemmas.Int.{ints}
use Rattle.adp_model.specs.declared.grammar.Sign.{Sign}
use Rattle.adp_model.specs.declared.grammar.Goal.TheVariants.{Least}
use Rattle.adp_model.specs.declared.grammar.Linear as linear
use Rattle.adp_model.specs.WideForm as wide
use Rattle.adp_model.specs.WideForm.{Number, Value, Sum, Difference, Product, Greater, Lesser}
use Rattle.adp_model.specs.declared.grammar.Term.{Term}
use Rattle.adp_model.specs.declared.grammar.Term.TheVariants.{Linear, Wide}
use Rattle.adp_model.specs.Terms.{leaves}
use Rattle.adp_model.specs.TermForms.{IsLinearFor, IsLeafFor, IsTermFor}
use Rattle.adp_model.specs.declared.grammar.Grammar.{Grammar}
use Rattle.adp_model.specs.Parts.{sign_at, algebra_at, alternatives_of, alternative_at, arguments_of, term_for, term_at}
use Rattle.adp_model.specs.ProblemFields.{greatest_score}
use Rattle.adp_model.specs.WellFormed.{is_name, is_in_range, is_class, is_sign, is_term, is_term_for, is_linear, is_leaf, has_no_value_twice, most_leaves, is_algebra, is_rule, counts_fit, names_differ, parts_fit, is_well_formed}
use Rattle.adp_model.proofs.WellFormedParts.{and_first, and_second, kept_in, IsSigned-at}

algebras-formed : (grammar : Grammar) → IsTrue (is_well_formed grammar) → list_all (is_algebra grammar.signs) grammar.algebras ≡ true
algebras-formed grammar h =
    let parts = and_second (counts_fit grammar && names_differ grammar) (parts_fit grammar) h in
    let some_parts = and_first (list_all is_class grammar.classes && list_all is_sign grammar.signs && list_all (is_algebra grammar.signs) grammar.algebras) (list_all (is_rule grammar) grammar.rules) parts in
    and_second (list_all is_class grammar.classes && list_all is_sign grammar.signs) (list_all (is_algebra grammar.signs) grammar.algebras) some_parts

-- what signs and their terms pass together, each sign and its term pass
pub pair_passes : (test : Sign × Term → Bool) (signs : List Sign) (terms : List Term) (i : ℕ) (d : Sign) (e : Term) → i < length signs → i < length terms → list_all test (zip signs terms) ≡ true → test (slice_index_or signs i d, slice_index_or terms i e) ≡ true
pair_passes test [] terms i d e inside inside' h = absurd (omega arith)
pair_passes test (sign ∷ signs) [] i d e inside inside' h = absurd (omega arith)
pair_passes test (sign ∷ signs) (term ∷ terms) zero d e inside inside' h = and_first (test (sign, term)) (list_all test (zip signs terms)) h
pair_passes test (sign ∷ signs) (term ∷ terms) (suc i) d e inside inside' h =
    pair_passes test signs terms i d e (omega arith) (omega arith) (and_second (test (sign, term)) (list_all test (zip signs terms)) h)

pub algebra-formed : (grammar : Grammar) → IsTrue (is_well_formed grammar) → (algebra : ℕ) → algebra < length grammar.algebras → is_algebra grammar.signs (algebra_at grammar algebra) ≡ true
algebra-formed grammar h algebra inside =
    kept_in (is_algebra grammar.signs) grammar.algebras algebra (record { name = []; goal = Least; terms = [] }) (algebras-formed grammar h) inside

-- an algebra has a term for each sign
pub terms-formed : (grammar : Grammar) → IsTrue (is_well_formed grammar) → (algebra : ℕ) → algebra < length grammar.algebras → length (algebra_at grammar algebra).terms ≡ length grammar.signs
terms-formed grammar h algebra inside =
    let a = algebra_at grammar algebra in
    eqb-true _ _ (and_second (is_name a.name) (length a.terms == length grammar.signs)
    (and_first (is_name a.name && length a.terms == length grammar.signs) (list_all is_term (zip grammar.signs a.terms)) (algebra-formed grammar h algebra inside)))

-- what all signs and their terms pass together, each does
pub pair_passes-formed : (grammar : Grammar) → IsTrue (is_well_formed grammar) → (test : Sign × Term → Bool) (algebra sign : ℕ) → algebra < length grammar.algebras → sign < length grammar.signs → list_all test (zip grammar.signs (algebra_at grammar algebra).terms) ≡ true → test (sign_at grammar sign, term_for grammar algebra sign) ≡ true
pair_passes-formed grammar h test algebra sign inside known all =
    let count = terms-formed grammar h algebra inside in
    pair_passes test grammar.signs (algebra_at grammar algebra).terms sign (record { name = []; kinds = [] }) (Linear (record { constant = pos 0; factors = [] })) known (omega arith) all

-- a term is one for the kinds of its sign
pub term-fits : (grammar : Grammar) → IsTrue (is_well_formed grammar) → (algebra sign : ℕ) → algebra < length grammar.algebras → sign < length grammar.signs → is_term_for (length (sign_at grammar sign).kinds) (term_for grammar algebra sign) ≡ true
term-fits grammar h algebra sign inside known =
    let a = algebra_at grammar algebra in
    pair_passes-formed grammar h is_term algebra sign inside known
    (and_second (is_name a.name && length a.terms == length grammar.signs) (list_all is_term (zip grammar.signs a.terms)) (algebra-formed grammar h algebra inside))

-- ---- what is tested is so

in_range-low : (number : ℤ) → is_in_range number ≡ true → nat_abs number ≤ greatest_score
in_range-low number h = let l : nat_abs number < 4611686018427387904 = ltb-true _ _ h in omega arith

linear-tested : (count : ℕ) (term : linear.Linear) → is_linear count term ≡ true → IsLinearFor count term
linear-tested count term h =
    let numbers = is_in_range term.constant && list_all is_in_range term.factors in
    let in_range = and_first numbers (length term.factors == count) h in
    record {
      factors = eqb-true _ _ (and_second numbers (length term.factors == count) h);
      low_constant = in_range-low term.constant (and_first (is_in_range term.constant) (list_all is_in_range term.factors) in_range);
      low_factors = λ k below. in_range-low (slice_index_or term.factors k (pos 0)) (kept_in is_in_range term.factors k (pos 0) (and_second (is_in_range term.constant) (list_all is_in_range term.factors) in_range) below);
    }

leaf-tested : (count : ℕ) (leaf : wide.WideForm) → is_leaf count leaf ≡ true → IsLeafFor count leaf
leaf-tested count (Number number) h =
    let from_zero : int_le (pos 0) number ≡ true = and_first (int_le (pos 0) number) (is_in_range number) h in
    (omega (arith, ints, from_zero), in_range-low number (and_second (int_le (pos 0) number) (is_in_range number) h))
leaf-tested count (Value place) h = ltb-true _ _ h
leaf-tested count (Sum left right) h = absurd cc
leaf-tested count (Difference left right) h = absurd cc
leaf-tested count (Product left right) h = absurd cc
leaf-tested count (Greater left right) h = absurd cc
leaf-tested count (Lesser left right) h = absurd cc

leaves-tested : (count : ℕ) (all : List wide.WideForm) → list_all (is_leaf count) all ≡ true → AllByRecursion (IsLeafFor count) all
leaves-tested count [] h = tt
leaves-tested count (leaf ∷ others) h = (leaf-tested count leaf (and_first (is_leaf count leaf) (list_all (is_leaf count) others) h), leaves-tested count others (and_second (is_leaf count leaf) (list_all (is_leaf count) others) h))

pub term-tested : (count : ℕ) (term : Term) → IsTrue (is_term_for count term) → IsTermFor count term
term-tested count (Linear term) h = linear-tested count term h
term-tested count (Wide term) h =
    let few = nat_le (length (leaves term)) most_leaves in
    let right = list_all (is_leaf count) (leaves term) in
    record {
      few = leb-true _ _ (and_first few right (and_first (few && right) (has_no_value_twice (leaves term)) h));
      right = leaves-tested count (leaves term) (and_second few right (and_first (few && right) (has_no_value_twice (leaves term)) h));
      once = and_second (few && right) (has_no_value_twice (leaves term)) h;
    }

pub IsTermFor-sign : (grammar : Grammar) → IsTrue (is_well_formed grammar) → (algebra sign : ℕ) → algebra < length grammar.algebras → sign < length grammar.signs → IsTermFor (length (sign_at grammar sign).kinds) (term_for grammar algebra sign)
IsTermFor-sign grammar h algebra sign inside known =
    term-tested (length (sign_at grammar sign).kinds) (term_for grammar algebra sign) (term-fits grammar h algebra sign inside known)

-- ---- terms of alternatives

-- the term of an alternative is there
pub term-there : (grammar : Grammar) → IsTrue (is_well_formed grammar) → (algebra rule alternative : ℕ)
    → algebra < length grammar.algebras → alternative < length (alternatives_of grammar rule)
    → (alternative_at grammar rule alternative).sign < length (algebra_at grammar algebra).terms
term-there grammar h algebra rule alternative inside in_range =
    omega (arith, (IsSigned-at grammar h rule alternative in_range).known, terms-formed grammar h algebra inside)

-- it is one for the arguments
pub IsTermFor-alternative : (grammar : Grammar) → IsTrue (is_well_formed grammar) → (algebra rule alternative : ℕ)
    → algebra < length grammar.algebras → alternative < length (alternatives_of grammar rule)
    → IsTermFor (length (arguments_of grammar rule alternative)) (term_at grammar algebra rule alternative)
IsTermFor-alternative grammar h algebra rule alternative inside in_range =
    let signed = IsSigned-at grammar h rule alternative in_range in
    subst (λ n. IsTermFor n (term_at grammar algebra rule alternative)) (sym signed.count)
    (IsTermFor-sign grammar h algebra (alternative_at grammar rule alternative).sign inside signed.known)
