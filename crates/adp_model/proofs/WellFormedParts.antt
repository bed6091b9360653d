-- What a well-formed grammar keeps of its parts.
use Rattle.std.proofs.Common.{Option, None, IfSome, ◌≡◌, ℕ, zero, suc, ◌<◌, ◌≤◌, Bool, true, false, ◌&&◌, nat_le, nat_lt, ◌==◌, IsTrue, Some, List, [], ◌∷◌, length, slice_index_or, refl, sym, subst, arith, ltb-true, leb-true, eqb-true}
use Rattle.std.specs.List.{list_all, zip, Contains}
use Rattle.adp_model.specs.declared.grammar.Kind.{Kind}
use Rattle.adp_model.specs.declared.grammar.Kind.TheVariants.{Score, Token}
use Rattle.adp_model.specs.declared.grammar.Arg.{Arg}
use Rattle.adp_model.specs.declared.grammar.Arg.TheVariants.{Rule, Run}
use Rattle.adp_model.specs.declared.grammar.Sign.{Sign}
use Rattle.adp_model.specs.declared.grammar.Alt.{Alt}
use Rattle.adp_model.specs.declared.grammar.Size.{Size}
use Rattle.adp_model.specs.declared.grammar.Rule as rules
use Rattle.adp_model.specs.declared.grammar.Grammar.{Grammar}
use Rattle.adp_model.specs.Lengths.{low_of, high_of}
use Rattle.adp_model.specs.Parts.{sign_at, rule_at, alternatives_of, alternative_at, arguments_of}
use Rattle.adp_model.specs.WellFormed.{is_name, is_class, is_sign, is_algebra, HasFittingBounds, is_high_bound, is_argument, is_size, is_alternative, is_rule, counts_fit, names_differ, parts_fit, is_well_formed}
use Rattle.adp_model.proofs.Derived.{HasFewArguments}

pub and_first : (a b : Bool) → (a && b) ≡ true → a ≡ true
and_first true b h = refl
and_first false b h = h

pub and_second : (a b : Bool) → (a && b) ≡ true → b ≡ true
and_second true b h = h
and_second false b h = absurd cc

-- what the items and the default keep, the item at each index keeps
pub kept_at : {X : Type 0} (test : X → Bool) (Keeps : X → Type 0) → ((x : X) → test x ≡ true → Keeps x) → (xs : List X) (i : ℕ) (default : X) → list_all test xs ≡ true → Keeps default → Keeps (slice_index_or xs i default)
kept_at test Keeps keeps [] i default h kept = kept
kept_at test Keeps keeps (x ∷ xs) zero default h kept = keeps x (and_first (test x) (list_all test xs) h)
kept_at test Keeps keeps (x ∷ xs) (suc i) default h kept = kept_at test Keeps keeps xs i default (and_second (test x) (list_all test xs) h) kept

pub signs-formed : (grammar : Grammar) → IsTrue (is_well_formed grammar) → list_all is_sign grammar.signs ≡ true
signs-formed grammar h =
    let parts = and_second (counts_fit grammar && names_differ grammar) (parts_fit grammar) h in
    let some_parts = and_first (list_all is_class grammar.classes && list_all is_sign grammar.signs && list_all (is_algebra grammar.signs) grammar.algebras) (list_all (is_rule grammar) grammar.rules) parts in
    let fewer_parts = and_first (list_all is_class grammar.classes && list_all is_sign grammar.signs) (list_all (is_algebra grammar.signs) grammar.algebras) some_parts in
    and_second (list_all is_class grammar.classes) (list_all is_sign grammar.signs) fewer_parts

pub rules-formed : (grammar : Grammar) → IsTrue (is_well_formed grammar) → list_all (is_rule grammar) grammar.rules ≡ true
rules-formed grammar h =
    and_second (list_all is_class grammar.classes && list_all is_sign grammar.signs && list_all (is_algebra grammar.signs) grammar.algebras) (list_all (is_rule grammar) grammar.rules)
    (and_second (counts_fit grammar && names_differ grammar) (parts_fit grammar) h)

pub kinds-formed : (sign : Sign) → is_sign sign ≡ true → length sign.kinds ≤ 4
kinds-formed sign h = leb-true _ _ (and_second (is_name sign.name && nat_le 1 (length sign.kinds)) (nat_le (length sign.kinds) 4) h)

-- each sign has at most four arguments
pub kinds-few : (grammar : Grammar) → IsTrue (is_well_formed grammar) → (sign : ℕ) → length (sign_at grammar sign).kinds ≤ 4
kinds-few grammar h sign = kept_at is_sign (λ s. length s.kinds ≤ 4) kinds-formed grammar.signs sign (record { name = []; kinds = [] }) (signs-formed grammar h) (omega arith)

-- the alternatives of each rule are well-formed
pub alternatives-formed : (grammar : Grammar) → IsTrue (is_well_formed grammar) → (rule : ℕ) → list_all (is_alternative grammar) (alternatives_of grammar rule) ≡ true
alternatives-formed grammar h rule =
    kept_at (is_rule grammar) (λ r. list_all (is_alternative grammar) r.alts ≡ true)
    (λ (r : rules.Rule) k. and_second (is_name r.name && nat_le 1 (length r.alts) && nat_le (length r.alts) 64) (list_all (is_alternative grammar) r.alts) k)
    grammar.rules rule (record { name = []; alts = [] }) (rules-formed grammar h) refl

arguments-formed : (grammar : Grammar) → IsTrue (is_well_formed grammar) → (alternative : Alt) → is_alternative grammar alternative ≡ true → length alternative.args ≤ 4
arguments-formed grammar h alternative k =
    let in_signs = is_size alternative.size && nat_lt alternative.sign (length grammar.signs) in
    let counted = length alternative.args == length (sign_at grammar alternative.sign).kinds in
    let same = eqb-true _ _ (and_second in_signs counted (and_first (in_signs && counted) (list_all (is_argument grammar) (zip (sign_at grammar alternative.sign).kinds alternative.args)) k)) in
    omega (arith, kinds-few grammar h alternative.sign)

-- a well-formed grammar's alternatives have at most four arguments
pub HasFewArguments-formed : (grammar : Grammar) → IsTrue (is_well_formed grammar) → HasFewArguments grammar
HasFewArguments-formed grammar h rule alternative =
    kept_at (is_alternative grammar) (λ a. length a.args ≤ 4) (arguments-formed grammar h) (alternatives_of grammar rule) alternative (record { sign = 0; args = []; size = None }) (alternatives-formed grammar h rule) (omega arith)

-- ---- numbers

pub axiom-formed : (grammar : Grammar) → IsTrue (is_well_formed grammar) → grammar.axiom < length grammar.rules
axiom-formed grammar h =
    let counts = and_first (counts_fit grammar) (names_differ grammar) (and_first (counts_fit grammar && names_differ grammar) (parts_fit grammar) h) in
    ltb-true _ _ (and_second (nat_le (length grammar.classes) 64 && nat_le (length grammar.signs) 256 && nat_le 1 (length grammar.algebras) && nat_le (length grammar.algebras) 16 && nat_le (length grammar.rules) 128) (nat_lt grammar.axiom (length grammar.rules)) counts)

pub rules-few : (grammar : Grammar) → IsTrue (is_well_formed grammar) → length grammar.rules ≤ 128
rules-few grammar h =
    let counts = and_first (counts_fit grammar) (names_differ grammar) (and_first (counts_fit grammar && names_differ grammar) (parts_fit grammar) h) in
    leb-true _ _ (and_second (nat_le (length grammar.classes) 64 && nat_le (length grammar.signs) 256 && nat_le 1 (length grammar.algebras) && nat_le (length grammar.algebras) 16) (nat_le (length grammar.rules) 128)
    (and_first (nat_le (length grammar.classes) 64 && nat_le (length grammar.signs) 256 && nat_le 1 (length grammar.algebras) && nat_le (length grammar.algebras) 16 && nat_le (length grammar.rules) 128) (nat_lt grammar.axiom (length grammar.rules)) counts))

-- each argument fits a kind
fitting : (grammar : Grammar) (kinds : List Kind) (arguments : List Arg) (k : ℕ) (default : Arg) → length arguments ≡ length kinds → list_all (is_argument grammar) (zip kinds arguments) ≡ true → k < length arguments → (kind : Kind) × (is_argument grammar (kind, slice_index_or arguments k default) ≡ true)
fitting grammar kinds [] k default e h l = absurd (omega arith)
fitting grammar [] (argument ∷ arguments) k default e h l = absurd (omega arith)
fitting grammar (kind ∷ kinds) (argument ∷ arguments) zero default e h l = (kind, and_first (is_argument grammar (kind, argument)) (list_all (is_argument grammar) (zip kinds arguments)) h)
fitting grammar (kind ∷ kinds) (argument ∷ arguments) (suc k) default e h l =
    fitting grammar kinds arguments k default (omega arith) (and_second (is_argument grammar (kind, argument)) (list_all (is_argument grammar) (zip kinds arguments)) h) (omega arith)

-- an argument of an alternative of a well-formed grammar fits a kind
fitting_argument : (grammar : Grammar) (alternative : Alt) (argument : Arg) → is_alternative grammar alternative ≡ true → Contains alternative.args argument → (kind : Kind) × (is_argument grammar (kind, argument) ≡ true)
fitting_argument grammar alternative argument k contained =
    let in_signs = is_size alternative.size && nat_lt alternative.sign (length grammar.signs) in
    let counted = length alternative.args == length (sign_at grammar alternative.sign).kinds in
    let fit = list_all (is_argument grammar) (zip (sign_at grammar alternative.sign).kinds alternative.args) in
    let same = eqb-true _ _ (and_second in_signs counted (and_first (in_signs && counted) fit k)) in
    let it = fitting grammar (sign_at grammar alternative.sign).kinds alternative.args contained.0 argument same (and_second (in_signs && counted) fit k) contained.1 in
    let P : Arg → Type 0 = λ a. is_argument grammar (it.0, a) ≡ true in
    (it.0, subst P contained.2 it.1)

rule_in_range : (grammar : Grammar) (kind : Kind) (other : ℕ) → is_argument grammar (kind, Rule other) ≡ true → other < length grammar.rules
rule_in_range grammar Score other h = ltb-true _ _ h
rule_in_range grammar Token other h = absurd cc

run_in_order : (grammar : Grammar) (kind : Kind) (class low high : ℕ) → is_argument grammar (kind, Run class low (Some high)) ≡ true → low ≤ high
run_in_order grammar Score class low high h = absurd cc
run_in_order grammar Token class low high h =
    leb-true _ _ (and_first (nat_le low high) (nat_le high 1000000) (and_second (nat_lt class (length grammar.classes) && nat_le low 1000000) (is_high_bound low (Some high)) h))

-- each rule that an argument names is in the grammar
pub named-formed : (grammar : Grammar) → IsTrue (is_well_formed grammar) → (rule alternative other : ℕ) → Contains (arguments_of grammar rule alternative) (Rule other) → other < length grammar.rules
named-formed grammar h rule alternative other =
    kept_at (is_alternative grammar) (λ a. Contains a.args (Rule other) → other < length grammar.rules)
    (λ (a : Alt) k contained. let it = fitting_argument grammar a (Rule other) k contained in rule_in_range grammar it.0 other it.1)
    (alternatives_of grammar rule) alternative (record { sign = 0; args = []; size = None }) (alternatives-formed grammar h rule) (λ contained. absurd (omega (arith, contained.1)))

-- a run's low bound is at most its high bound
pub runs-formed : (grammar : Grammar) → IsTrue (is_well_formed grammar) → (rule alternative class low high : ℕ) → Contains (arguments_of grammar rule alternative) (Run class low (Some high)) → low ≤ high
runs-formed grammar h rule alternative class low high =
    kept_at (is_alternative grammar) (λ a. Contains a.args (Run class low (Some high)) → low ≤ high)
    (λ (a : Alt) k contained. let it = fitting_argument grammar a (Run class low (Some high)) k contained in run_in_order grammar it.0 class low high it.1)
    (alternatives_of grammar rule) alternative (record { sign = 0; args = []; size = None }) (alternatives-formed grammar h rule) (λ contained. absurd (omega (arith, contained.1)))

bounds-fit : (alternative : Alt) (size : Option Size) → alternative.size ≡ size → is_size size ≡ true → HasFittingBounds alternative
bounds-fit alternative None is h = subst (λ (s : Option Size). (low_of s ≤ 1000000) × IfSome (high_of s) (λ high. (low_of s ≤ high) × (high ≤ 1000000))) (sym is) (omega arith, tt)
bounds-fit alternative (Some size) is h =
    let low = leb-true size.low 1000000 (and_first (nat_le size.low 1000000) (is_high_bound size.low size.high) h) in
    let high = high_fits size.low size.high (and_second (nat_le size.low 1000000) (is_high_bound size.low size.high) h) in
    subst (λ (s : Option Size). (low_of s ≤ 1000000) × IfSome (high_of s) (λ high. (low_of s ≤ high) × (high ≤ 1000000))) (sym is) (low, high)
  where
    high_fits : (low : ℕ) (high : Option ℕ) → is_high_bound low high ≡ true → IfSome high (λ most. (low ≤ most) × (most ≤ 1000000))
    high_fits low None h = tt
    high_fits low (Some most) h = (leb-true _ _ (and_first (nat_le low most) (nat_le most 1000000) h), leb-true _ _ (and_second (nat_le low most) (nat_le most 1000000) h))

-- the bounds of an alternative's size are in order
pub bounds-formed : (grammar : Grammar) → IsTrue (is_well_formed grammar) → (rule alternative : ℕ) → HasFittingBounds (alternative_at grammar rule alternative)
bounds-formed grammar h rule alternative =
    kept_at (is_alternative grammar) HasFittingBounds
    (λ (a : Alt) k.
    let in_signs = is_size a.size && nat_lt a.sign (length grammar.signs) in
    let counted = length a.args == length (sign_at grammar a.sign).kinds in
    let fit = list_all (is_argument grammar) (zip (sign_at grammar a.sign).kinds a.args) in
    bounds-fit a a.size refl (and_first (is_size a.size) (nat_lt a.sign (length grammar.signs)) (and_first in_signs counted (and_first (in_signs && counted) fit k))))
    (alternatives_of grammar rule) alternative (record { sign = 0; args = []; size = None }) (alternatives-formed grammar h rule) (omega arith, tt)

-- ---- signs of alternatives

-- what all items keep, the item at an index below the length keeps
pub kept_in : {X : Type 0} (test : X → Bool) (xs : List X) (i : ℕ) (default : X) → list_all test xs ≡ true → i < length xs → test (slice_index_or xs i default) ≡ true
kept_in test [] i default h inside = absurd (omega arith)
kept_in test (x ∷ xs) zero default h inside = and_first (test x) (list_all test xs) h
kept_in test (x ∷ xs) (suc i) default h inside = kept_in test xs i default (and_second (test x) (list_all test xs) h) (omega arith)

-- the sign of an alternative is one of the grammar's, and its kinds are those of the arguments
pub record IsSigned (grammar : Grammar) (alternative : Alt) : Type 0 where
  pub known : alternative.sign < length grammar.signs
  pub count : length alternative.args ≡ length (sign_at grammar alternative.sign).kinds
  pub fit : list_all (is_argument grammar) (zip (sign_at grammar alternative.sign).kinds alternative.args) ≡ true

IsSigned-formed : (grammar : Grammar) (alternative : Alt) → is_alternative grammar alternative ≡ true → IsSigned grammar alternative
IsSigned-formed grammar alternative h =
    let in_signs = is_size alternative.size && nat_lt alternative.sign (length grammar.signs) in
    let counted = length alternative.args == length (sign_at grammar alternative.sign).kinds in
    let fit = list_all (is_argument grammar) (zip (sign_at grammar alternative.sign).kinds alternative.args) in
    record {
      known = ltb-true _ _ (and_second (is_size alternative.size) (nat_lt alternative.sign (length grammar.signs)) (and_first in_signs counted (and_first (in_signs && counted) fit h)));
      count = eqb-true _ _ (and_second in_signs counted (and_first (in_signs && counted) fit h));
      fit = and_second (in_signs && counted) fit h;
    }

pub IsSigned-at : (grammar : Grammar) → IsTrue (is_well_formed grammar) → (rule alternative : ℕ) → alternative < length (alternatives_of grammar rule) → IsSigned grammar (alternative_at grammar rule alternative)
IsSigned-at grammar h rule alternative in_range =
    IsSigned-formed grammar (alternative_at grammar rule alternative) (kept_in (is_alternative grammar) (alternatives_of grammar rule) alternative (record { sign = 0; args = []; size = None }) (alternatives-formed grammar h rule) in_range)

-- a well-formed grammar's alternatives have at least one argument
pub some_arguments-formed : (grammar : Grammar) → IsTrue (is_well_formed grammar) → (rule alternative : ℕ) → alternative < length (alternatives_of grammar rule) → 1 ≤ length (arguments_of grammar rule alternative)
some_arguments-formed grammar h rule alternative in_range =
    let signed = IsSigned-at grammar h rule alternative in_range in
    let sign = sign_at grammar (alternative_at grammar rule alternative).sign in
    let k : is_sign sign ≡ true = kept_in is_sign grammar.signs (alternative_at grammar rule alternative).sign (record { name = []; kinds = [] }) (signs-formed grammar h) signed.known in
    let some : 1 ≤ length sign.kinds = leb-true _ _ (and_second (is_name sign.name) (nat_le 1 (length sign.kinds)) (and_first (is_name sign.name && nat_le 1 (length sign.kinds)) (nat_le (length sign.kinds) 4) k)) in
    let count = signed.count in
    omega arith

-- ---- counts of alternatives

counts-formed : (grammar : Grammar) (r : rules.Rule) → is_rule grammar r ≡ true → (1 ≤ length r.alts) × (length r.alts ≤ 64)
counts-formed grammar r h =
    let some = nat_le 1 (length r.alts) in
    let few = nat_le (length r.alts) 64 in
    let counts = and_first (is_name r.name && some && few) (list_all (is_alternative grammar) r.alts) h in
    (leb-true _ _ (and_second (is_name r.name) some (and_first (is_name r.name && some) few counts)), leb-true _ _ (and_second (is_name r.name && some) few counts))

-- a rule has at least one alternative
pub alternatives-some : (grammar : Grammar) → IsTrue (is_well_formed grammar) → (rule : ℕ) → rule < length grammar.rules → 1 ≤ length (alternatives_of grammar rule)
alternatives-some grammar h rule known =
    (counts-formed grammar (rule_at grammar rule) (kept_in (is_rule grammar) grammar.rules rule (record { name = []; alts = [] }) (rules-formed grammar h) known)).0

-- a rule has at most 64 alternatives
pub alternatives-few : (grammar : Grammar) → IsTrue (is_well_formed grammar) → (rule : ℕ) → length (alternatives_of grammar rule) ≤ 64
alternatives-few grammar h rule =
    kept_at (is_rule grammar) (λ r. length r.alts ≤ 64) (λ (r : rules.Rule) k. (counts-formed grammar r k).1) grammar.rules rule (record { name = []; alts = [] }) (rules-formed grammar h) (omega arith)

-- the sign of an alternative is there
pub sign-known : (grammar : Grammar) → IsTrue (is_well_formed grammar) → (rule alternative : ℕ) → alternative < length (alternatives_of grammar rule) → (alternative_at grammar rule alternative).sign < length grammar.signs
sign-known grammar h rule alternative in_range = (IsSigned-at grammar h rule alternative in_range).known
