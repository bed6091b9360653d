-- What the tests of arguments tell, and tables of tests.
use Rattle.std.proofs.Common.{◌≡◌, ℕ, zero, suc, ◌+◌, ◌<◌, ◌≤◌, inl, inr, Bool, true, false, ◌&&◌, Option, Some, None, IfSome, List, [], ◌∷◌, ◌++◌, length, get_or, map, take, ap₂, refl, sym, ap, subst, ◌∙◌, arith}
use Rattle.std.specs.Prelude.{slice_get}
use Rattle.std.specs.List.{Contains, AllByRecursion, list_all, list_any, range_with_len}
use Rattle.std.proofs.lemmas.Bool.{false≢true, eqb-true, eq-eqb, and_parts, and_from, or_cases, or_left, or_right}
use Rattle.std.proofs.lemmas.List.{get_or-map, length-map, map_more, take_all}
use Rattle.std.proofs.lemmas.List.FromFn.{length-map-range_with_len, get_or-map-range_with_len}
use Rattle.adp_model.specs.declared.grammar.Arg.{Arg}
use Rattle.adp_model.specs.declared.grammar.Arg.TheVariants.{Rule, Literal, Letter, Run}
use Rattle.adp_model.specs.declared.grammar.Alt.{Alt}
use Rattle.adp_model.specs.declared.grammar.Rule as rules
use Rattle.adp_model.specs.declared.grammar.Grammar.{Grammar}
use Rattle.adp_model.specs.Parts.{alternatives_of, arguments_of}
use Rattle.adp_model.specs.Lengths.{HasLength, ByAlternative}
use Rattle.adp_model.specs.Sizes.{Names}
use Rattle.yield_sizes.specs.References.{Reaches, AtOnce, Through}
use Rattle.adp_model.specs.Loops.{CanBeEmpty, AreEmptyBut, IsEdge, IsEdgePath, Edge, Onward}
use Rattle.yield_sizes.specs.declared.rule_sizes.Sizes.{Sizes}
use Rattle.yield_sizes.specs.GrammarSizes.{AreSizes}
use Rattle.yield_sizes.specs.Relations.{IsRelated, IsSquare, IsTableOf, Leads}
use Rattle.yield_sizes.specs.Relations as leads
use Rattle.yield_sizes.specs.ArgumentTests.{is_zero, is_rule, has_rule, can_be_empty, is_empty_but, is_edge}
use Rattle.yield_sizes.proofs.Searching.{contains_later}
use Rattle.yield_sizes.proofs.LeastLengths.{in_range}
use Rattle.yield_sizes.proofs.Closures.{related_within}

-- ---- any of a list

-- a test of some item holds
pub any_at : {X : Type 0} (test : X → Bool) (xs : List X) (k : ℕ) (default : X) → k < length xs → test (get_or xs k default) ≡ true → list_any test xs ≡ true
any_at test [] k default l h = absurd (omega arith)
any_at test (x ∷ xs) zero default l h = or_left (test x) (list_any test xs) h
any_at test (x ∷ xs) (suc k) default l h = or_right (test x) (list_any test xs) (any_at test xs k default (omega arith) h)

pub at_any : {X : Type 0} (test : X → Bool) (xs : List X) (default : X) → list_any test xs ≡ true → (k : ℕ) × (k < length xs) × (test (get_or xs k default) ≡ true)
at_any test [] default h = absurd (false≢true h)
at_any test (x ∷ xs) default h = elim (or_cases (test x) (list_any test xs) h) [
  | inl here ↦ (0, omega arith, here)
  | inr there ↦ let it = at_any test xs default there in (suc it.0, omega (arith, it.1), it.2)
]

-- ---- rules

pub rule_is : (rule : ℕ) (argument : Arg) → is_rule rule argument ≡ true → argument ≡ Rule rule
rule_is rule (Rule other) h = ap Rule (eqb-true other rule h)
rule_is rule (Literal text) h = absurd (false≢true h)
rule_is rule (Letter class) h = absurd (false≢true h)
rule_is rule (Run class low high) h = absurd (false≢true h)

pub is_the_rule : (rule : ℕ) (argument : Arg) → argument ≡ Rule rule → is_rule rule argument ≡ true
is_the_rule rule argument e = ap (is_rule rule) e ∙ eq-eqb rule rule refl

pub rule_contained : (rule : ℕ) (arguments : List Arg) → list_any (is_rule rule) arguments ≡ true → Contains arguments (Rule rule)
rule_contained rule arguments h =
    let it = at_any (is_rule rule) arguments (Rule rule) h in
    (it.0, it.1, rule_is rule (get_or arguments it.0 (Rule rule)) it.2)

pub contained_rule : (rule : ℕ) (arguments : List Arg) → Contains arguments (Rule rule) → list_any (is_rule rule) arguments ≡ true
contained_rule rule arguments contained =
    any_at (is_rule rule) arguments contained.0 (Rule rule) contained.1 (is_the_rule rule (get_or arguments contained.0 (Rule rule)) contained.2)

abbrev nothing : Alt
nothing = record { sign = 0; args = []; size = None }

pub names_rule : (grammar : Grammar) (rule other : ℕ) → list_any (has_rule other) (alternatives_of grammar rule) ≡ true → Names grammar rule other
names_rule grammar rule other h =
    let it = at_any (has_rule other) (alternatives_of grammar rule) nothing h in
    (it.0, it.1, rule_contained other (arguments_of grammar rule it.0) it.2)

pub rule_names : (grammar : Grammar) (rule other : ℕ) → Names grammar rule other → list_any (has_rule other) (alternatives_of grammar rule) ≡ true
rule_names grammar rule other names =
    any_at (has_rule other) (alternatives_of grammar rule) names.0 nothing names.1 (contained_rule other (arguments_of grammar rule names.0) names.2)

-- ---- what can be empty

zero_is : (size : Option ℕ) → is_zero size ≡ true → size ≡ Some 0
zero_is None h = absurd (false≢true h)
zero_is (Some size) h = ap Some (eqb-true size 0 h)

got : (xs : List ℕ) (k x : ℕ) → slice_get xs k ≡ Some x → (k < length xs) × (get_or xs k 0 ≡ x)
got [] k x e = absurd (cc)
got (y ∷ ys) zero x e = (omega arith, cc)
got (y ∷ ys) (suc k) x e = let it = got ys k x e in (omega (arith, it.0), it.1)

get : (xs : List ℕ) (k : ℕ) → k < length xs → slice_get xs k ≡ Some (get_or xs k 0)
get [] k l = absurd (omega arith)
get (y ∷ ys) zero l = refl
get (y ∷ ys) (suc k) l = get ys k (omega arith)

at_most_any : (high : Option ℕ) → IfSome high (λ most. 0 ≤ most)
at_most_any None = tt
at_most_any (Some most) = omega arith

pub empty_argument : (grammar : Grammar) (sizes : Sizes) → AreSizes grammar sizes → (argument : Arg) → can_be_empty sizes.least argument ≡ true → CanBeEmpty grammar argument
empty_argument grammar sizes are (Rule rule) h =
    let it = got sizes.least rule 0 (zero_is (slice_get sizes.least rule) h) in
    let least = are.least_are rule (omega (arith, it.0, are.least_each)) in
    let none : least.0 ≡ 0 = omega (arith, it.1, least.3) in
    subst (HasLength grammar rule) none least.1
empty_argument grammar sizes are (Literal text) h = sym (eqb-true (length text) 0 h)
empty_argument grammar sizes are (Letter class) h = absurd (false≢true h)
empty_argument grammar sizes are (Run class low high) h = (omega (arith, eqb-true low 0 h), at_most_any high)

has_range : (grammar : Grammar) (rule len : ℕ) → HasLength grammar rule len → rule < length grammar.rules
has_range grammar _ _ (ByAlternative rule alternative sum len l have within is) = in_range grammar rule alternative l

pub argument_empty : (grammar : Grammar) (sizes : Sizes) → AreSizes grammar sizes → (argument : Arg) → CanBeEmpty grammar argument → can_be_empty sizes.least argument ≡ true
argument_empty grammar sizes are (Rule rule) h =
    let inside = has_range grammar rule 0 h in
    let least = are.least_are rule inside in
    let none : get_or sizes.least rule 0 ≡ 0 = omega (arith, least.2 0 h, least.3) in
    ap is_zero (get sizes.least rule (omega (arith, are.least_each)) ∙ ap Some none)
argument_empty grammar sizes are (Literal text) h = eq-eqb (length text) 0 (sym h)
argument_empty grammar sizes are (Letter class) h = absurd (omega arith)
argument_empty grammar sizes are (Run class low high) h = eq-eqb low 0 (omega (arith, h.0))

empty_all : (grammar : Grammar) (sizes : Sizes) → AreSizes grammar sizes → (arguments : List Arg) → list_all (can_be_empty sizes.least) arguments ≡ true → AllByRecursion (CanBeEmpty grammar) arguments
empty_all grammar sizes are [] h = tt
empty_all grammar sizes are (argument ∷ arguments) h =
    let parts = and_parts (can_be_empty sizes.least argument) (list_all (can_be_empty sizes.least) arguments) h in
    (empty_argument grammar sizes are argument parts.0, empty_all grammar sizes are arguments parts.1)

all_empty : (grammar : Grammar) (sizes : Sizes) → AreSizes grammar sizes → (arguments : List Arg) → AllByRecursion (CanBeEmpty grammar) arguments → list_all (can_be_empty sizes.least) arguments ≡ true
all_empty grammar sizes are [] h = refl
all_empty grammar sizes are (argument ∷ arguments) h =
    and_from (can_be_empty sizes.least argument) (list_all (can_be_empty sizes.least) arguments) (argument_empty grammar sizes are argument h.0) (all_empty grammar sizes are arguments h.1)

-- ---- edges

empty_but : (grammar : Grammar) (sizes : Sizes) → AreSizes grammar sizes → (rule : ℕ) (arguments : List Arg) → is_empty_but sizes.least rule arguments ≡ true → AreEmptyBut grammar rule arguments
empty_but grammar sizes are rule [] h = absurd (false≢true h)
empty_but grammar sizes are rule (argument ∷ arguments) h =
    elim (or_cases (is_rule rule argument && list_all (can_be_empty sizes.least) arguments) (can_be_empty sizes.least argument && is_empty_but sizes.least rule arguments) h) [
      | inl here ↦
          let parts = and_parts (is_rule rule argument) (list_all (can_be_empty sizes.least) arguments) here in
          inl (rule_is rule argument parts.0, empty_all grammar sizes are arguments parts.1)
      | inr there ↦
          let parts = and_parts (can_be_empty sizes.least argument) (is_empty_but sizes.least rule arguments) there in
          inr (empty_argument grammar sizes are argument parts.0, empty_but grammar sizes are rule arguments parts.1)
    ]

but_empty : (grammar : Grammar) (sizes : Sizes) → AreSizes grammar sizes → (rule : ℕ) (arguments : List Arg) → AreEmptyBut grammar rule arguments → is_empty_but sizes.least rule arguments ≡ true
but_empty grammar sizes are rule [] h = absurd h
but_empty grammar sizes are rule (argument ∷ arguments) (inl here) =
    or_left (is_rule rule argument && list_all (can_be_empty sizes.least) arguments) (can_be_empty sizes.least argument && is_empty_but sizes.least rule arguments)
    (and_from (is_rule rule argument) (list_all (can_be_empty sizes.least) arguments) (is_the_rule rule argument here.0) (all_empty grammar sizes are arguments here.1))
but_empty grammar sizes are rule (argument ∷ arguments) (inr there) =
    or_right (is_rule rule argument && list_all (can_be_empty sizes.least) arguments) (can_be_empty sizes.least argument && is_empty_but sizes.least rule arguments)
    (and_from (can_be_empty sizes.least argument) (is_empty_but sizes.least rule arguments) (argument_empty grammar sizes are argument there.0) (but_empty grammar sizes are rule arguments there.1))

but_contains : (grammar : Grammar) (rule : ℕ) (arguments : List Arg) → AreEmptyBut grammar rule arguments → Contains arguments (Rule rule)
but_contains grammar rule [] h = absurd h
but_contains grammar rule (argument ∷ arguments) (inl here) = (0, omega arith, here.0)
but_contains grammar rule (argument ∷ arguments) (inr there) = contains_later argument (Rule rule) arguments (but_contains grammar rule arguments there.1)

pub edge_is : (grammar : Grammar) (sizes : Sizes) → AreSizes grammar sizes → (rule other : ℕ) → list_any (is_edge sizes.least other) (alternatives_of grammar rule) ≡ true → IsEdge grammar rule other
edge_is grammar sizes are rule other h =
    let it = at_any (is_edge sizes.least other) (alternatives_of grammar rule) nothing h in
    (it.0, it.1, empty_but grammar sizes are other (arguments_of grammar rule it.0) it.2)

pub is_the_edge : (grammar : Grammar) (sizes : Sizes) → AreSizes grammar sizes → (rule other : ℕ) → IsEdge grammar rule other → list_any (is_edge sizes.least other) (alternatives_of grammar rule) ≡ true
is_the_edge grammar sizes are rule other edge =
    any_at (is_edge sizes.least other) (alternatives_of grammar rule) edge.0 nothing edge.1 (but_empty grammar sizes are other (arguments_of grammar rule edge.0) edge.2)

pub edge_names : (grammar : Grammar) (rule other : ℕ) → IsEdge grammar rule other → Names grammar rule other
edge_names grammar rule other edge = (edge.0, edge.1, but_contains grammar other (arguments_of grammar rule edge.0) edge.2)

-- ---- tables of tests

-- a row of answers for each rule's alternatives
abbrev pub answers_of : (ℕ → List Alt → Bool) → ℕ → List rules.Rule → List (List Bool)
answers_of test size items = map (λ (rule : rules.Rule). map (λ other. test other rule.alts) (range_with_len 0 size)) items

answer_is : (test : ℕ → List Alt → Bool) (grammar : Grammar) (size from to : ℕ) → from < length grammar.rules → to < size → get_or (get_or (answers_of test size grammar.rules) from []) to false ≡ test to (alternatives_of grammar from)
answer_is test grammar size from to l k =
    ap (λ (row : List Bool). get_or row to false) (get_or-map (λ (rule : rules.Rule). map (λ other. test other rule.alts) (range_with_len 0 size)) grammar.rules from (record { name = []; alts = [] }) [] l)
    ∙ get_or-map-range_with_len (λ other. test other (alternatives_of grammar from)) 0 size to to false k (omega arith)

answers_square : (test : ℕ → List Alt → Bool) (grammar : Grammar) → IsSquare (length grammar.rules) (answers_of test (length grammar.rules) grammar.rules)
answers_square test grammar = record {
  rows_are = length-map grammar.rules (λ (rule : rules.Rule). map (λ other. test other rule.alts) (range_with_len 0 (length grammar.rules)));
  each = λ from l.
      ap length (get_or-map (λ (rule : rules.Rule). map (λ other. test other rule.alts) (range_with_len 0 (length grammar.rules))) grammar.rules from (record { name = []; alts = [] }) [] l)
      ∙ length-map-range_with_len (λ other. test other (alternatives_of grammar from)) 0 (length grammar.rules);
}

-- a test that tells of a relation, makes a table of it
pub table_of : (test : ℕ → List Alt → Bool) (grammar : Grammar) (Related : ℕ → ℕ → Type 0) → ((from to : ℕ) → test to (alternatives_of grammar from) ≡ true → Related from to) → ((from to : ℕ) → Related from to → (from < length grammar.rules) × (to < length grammar.rules) × (test to (alternatives_of grammar from) ≡ true)) → IsTableOf (length grammar.rules) Related (answers_of test (length grammar.rules) grammar.rules)
table_of test grammar Related says told =
    let size = length grammar.rules in
    record {
      square = answers_square test grammar;
      marked = λ from to related.
          let within = related_within size (answers_of test size grammar.rules) (answers_square test grammar) from to related in
          says from to (sym (answer_is test grammar size from to within.0 within.1) ∙ related);
      all = λ from to related. let it = told from to related in answer_is test grammar size from to it.0 it.1 ∙ it.2;
    }

-- the rules that an argument names are in the grammar
abbrev pub AllNamedKnown : Grammar → Type 0
AllNamedKnown grammar = (rule alternative other : ℕ) → Contains (arguments_of grammar rule alternative) (Rule other) → other < length grammar.rules

pub names_within : (grammar : Grammar) → AllNamedKnown grammar → (rule other : ℕ) → Names grammar rule other → (rule < length grammar.rules) × (other < length grammar.rules)
names_within grammar named rule other names = (in_range grammar rule names.0 names.1, named rule names.0 other names.2)

pub references_table : (grammar : Grammar) → AllNamedKnown grammar → IsTableOf (length grammar.rules) (Names grammar) (answers_of (λ other alternatives. list_any (has_rule other) alternatives) (length grammar.rules) grammar.rules)
references_table grammar named =
    table_of (λ other alternatives. list_any (has_rule other) alternatives) grammar (Names grammar) (names_rule grammar)
    (λ from to names. let within = names_within grammar named from to names in (within.0, within.1, rule_names grammar from to names))

pub edges_table : (grammar : Grammar) (sizes : Sizes) → AllNamedKnown grammar → AreSizes grammar sizes → IsTableOf (length grammar.rules) (IsEdge grammar) (answers_of (λ other alternatives. list_any (is_edge sizes.least other) alternatives) (length grammar.rules) grammar.rules)
edges_table grammar sizes named are =
    table_of (λ other alternatives. list_any (is_edge sizes.least other) alternatives) grammar (IsEdge grammar) (edge_is grammar sizes are)
    (λ from to edge. let within = names_within grammar named from to (edge_names grammar from to edge) in (within.0, within.1, is_the_edge grammar sizes are from to edge))

-- ---- where the tables lead

pub reaches_push : (grammar : Grammar) (rule between other : ℕ) → Reaches grammar rule between → Names grammar between other → Reaches grammar rule other
reaches_push grammar _ _ other (AtOnce rule between names) next = Through rule between other names (AtOnce between other next)
reaches_push grammar _ _ other (Through rule first between names reaches) next = Through rule first other names (reaches_push grammar first between other reaches next)

leads_reach : (grammar : Grammar) (size : ℕ) (rows : List (List Bool)) → IsTableOf size (Names grammar) rows → (from to : ℕ) → Leads rows from to → Reaches grammar from to
leads_reach grammar size rows table _ _ (leads.AtOnce from to related) = AtOnce from to (table.marked from to related)
leads_reach grammar size rows table _ _ (leads.Onward from between to related onward) = Through from between to (table.marked from between related) (leads_reach grammar size rows table between to onward)

reach_leads : (grammar : Grammar) (size : ℕ) (rows : List (List Bool)) → IsTableOf size (Names grammar) rows → (from to : ℕ) → Reaches grammar from to → Leads rows from to
reach_leads grammar size rows table _ _ (AtOnce from to names) = leads.AtOnce from to (table.all from to names)
reach_leads grammar size rows table _ _ (Through from between to names onward) = leads.Onward from between to (table.all from between names) (reach_leads grammar size rows table between to onward)

pub reached_table : (grammar : Grammar) (size : ℕ) (rows closed : List (List Bool)) → IsTableOf size (Names grammar) rows → IsTableOf (length rows) (Leads rows) closed → IsTableOf size (Reaches grammar) closed
reached_table grammar size rows closed table closure = record {
  square = let P : ℕ → Type 0 = λ n. IsSquare n closed in subst P table.square.rows_are closure.square;
  marked = λ from to related. leads_reach grammar size rows table from to (closure.marked from to related);
  all = λ from to reaches. closure.all from to (reach_leads grammar size rows table from to reaches);
}

leads_path : (grammar : Grammar) (size : ℕ) (rows : List (List Bool)) → IsTableOf size (IsEdge grammar) rows → (from to : ℕ) → Leads rows from to → IsEdgePath grammar from to
leads_path grammar size rows table _ _ (leads.AtOnce from to related) = Edge from to (table.marked from to related)
leads_path grammar size rows table _ _ (leads.Onward from between to related onward) = Onward from between to (table.marked from between related) (leads_path grammar size rows table between to onward)

path_leads : (grammar : Grammar) (size : ℕ) (rows : List (List Bool)) → IsTableOf size (IsEdge grammar) rows → (from to : ℕ) → IsEdgePath grammar from to → Leads rows from to
path_leads grammar size rows table _ _ (Edge from to edge) = leads.AtOnce from to (table.all from to edge)
path_leads grammar size rows table _ _ (Onward from between to edge onward) = leads.Onward from between to (table.all from between edge) (path_leads grammar size rows table between to onward)

pub paths_table : (grammar : Grammar) (size : ℕ) (rows closed : List (List Bool)) → IsTableOf size (IsEdge grammar) rows → IsTableOf (length rows) (Leads rows) closed → IsTableOf size (IsEdgePath grammar) closed
paths_table grammar size rows closed table closure = record {
  square = let P : ℕ → Type 0 = λ n. IsSquare n closed in subst P table.square.rows_are closure.square;
  marked = λ from to related. leads_path grammar size rows table from to (closure.marked from to related);
  all = λ from to path. closure.all from to (path_leads grammar size rows table from to path);
}

-- one more row
pub answers_more : (test : ℕ → List Alt → Bool) (size i : ℕ) (items : List rules.Rule) (rows : List (List Bool)) (rule : rules.Rule) (alternatives : List Alt) (row : List Bool) → rows ≡ answers_of test size (take i items) → i < length items → rule ≡ get_or items i rule → alternatives ≡ rule.alts → row ≡ map (λ other. test other alternatives) (range_with_len 0 size) → rows ++ row ∷ [] ≡ answers_of test size (take (i + 1) items)
answers_more test size i items rows rule alternatives row so_far l is read made =
    let f : rules.Rule → List Bool = λ it. map (λ other. test other it.alts) (range_with_len 0 size) in
    let last : row ≡ f (get_or items i rule) = made ∙ ap (λ (alts : List Alt). map (λ other. test other alts) (range_with_len 0 size)) read ∙ ap f is in
    ap₂ (λ (a : List (List Bool)) (b : List Bool). a ++ b ∷ []) so_far last ∙ sym (map_more f items i rule l)

pub answers_whole : (test : ℕ → List Alt → Bool) (grammar : Grammar) (items : List rules.Rule) (i : ℕ) (rows : List (List Bool)) → items ≡ grammar.rules → rows ≡ answers_of test (length items) (take i items) → length items ≤ i → rows ≡ answers_of test (length grammar.rules) grammar.rules
answers_whole test grammar items i rows same so_far l =
    so_far ∙ ap (answers_of test (length items)) (take_all i items l) ∙ ap (λ (xs : List rules.Rule). answers_of test (length xs) xs) same
