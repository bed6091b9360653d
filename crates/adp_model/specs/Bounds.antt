-- Bounds on scores and on numbers of nodes: how great they can become, by rule and length, letters ignored.
use Rattle.std.specs.Prelude.{◌≡◌, ℕ, ◌+◌, ◌*◌, ◌<◌, ◌≤◌, max, ◌⊎◌, ℤ, nat_abs, List, [], ◌∷◌, length, sum}
use Rattle.std.specs.List.{Contains}
use Rattle.adp_model.specs.declared.grammar.Arg.{Arg}
use Rattle.adp_model.specs.declared.grammar.Arg.TheVariants.{Rule, Literal, Letter, Run}
use Rattle.adp_model.specs.declared.grammar.Grammar.{Grammar}
use Rattle.adp_model.specs.Parts.{letters_of, alternatives_of, arguments_of, term_at}
use Rattle.adp_model.specs.Terms.{magnitude}
use Rattle.adp_model.specs.Lengths.{AdmitsLength}
use Rattle.adp_model.specs.Sizes.{IsWithinSizes}

-- a length in the argument's range: between a rule's sizes, or one that the token admits
abbrev pub IsInRange : Grammar → Arg → ℕ → Type 0
IsInRange grammar (Rule rule) len = IsWithinSizes grammar rule len
IsInRange grammar token len = AdmitsLength token len

-- a length for each argument, each in its range
abbrev pub AreInRange : Grammar → List Arg → List ℕ → Type 0
AreInRange grammar [] [] = Unit {0}
AreInRange grammar [] (len ∷ lengths) = ⊥
AreInRange grammar (argument ∷ arguments) [] = ⊥
AreInRange grammar (argument ∷ arguments) (len ∷ lengths) =
    IsInRange grammar argument len × AreInRange grammar arguments lengths

-- a way to give a length to a rule: an alternative, and lengths of its arguments that add up to it
pub record IsWay (grammar : Grammar) (rule len alternative : ℕ) (lengths : List ℕ) : Type 0 where
  pub in_range : alternative < length (alternatives_of grammar rule)
  pub fit : AreInRange grammar (arguments_of grammar rule alternative) lengths
  pub sum_is : sum lengths ≡ len

-- the greatest weight of a class in absolute value
abbrev pub greatest_weight : List (ℕ × ℤ) → ℕ
greatest_weight [] = 0
greatest_weight (entry ∷ entries) = max (nat_abs entry.1) (greatest_weight entries)

-- how great the value of a token of this length can become in absolute value
abbrev pub token_bound : Grammar → Arg → ℕ → ℕ
token_bound grammar (Rule rule) len = 0
token_bound grammar (Literal text) len = 0
token_bound grammar (Letter class) len = greatest_weight (letters_of grammar class) * len
token_bound grammar (Run class low high) len = greatest_weight (letters_of grammar class) * len

-- the bounds of arguments at their lengths, where each rule has these bounds by length
abbrev pub argument_bounds : Grammar → (ℕ → ℕ → ℕ) → List Arg → List ℕ → List ℕ
argument_bounds grammar bound [] lengths = []
argument_bounds grammar bound (argument ∷ arguments) [] = []
argument_bounds grammar bound (Rule rule ∷ arguments) (len ∷ lengths) =
    bound rule len ∷ argument_bounds grammar bound arguments lengths
argument_bounds grammar bound (token ∷ arguments) (len ∷ lengths) =
    token_bound grammar token len ∷ argument_bounds grammar bound arguments lengths

-- the greatest number of which it holds, or 0 where it holds of none
abbrev pub IsGreatest : (ℕ → Type 0) → ℕ → Type 0
IsGreatest Holds number =
    (Holds number × ((other : ℕ) → Holds other → other ≤ number)) ⊎ ((number ≡ 0) × ((other : ℕ) → Holds other → ⊥))

-- the magnitude of a term over a way to give this length to the rule
abbrev pub IsMagnitude : Grammar → ℕ → (ℕ → ℕ → ℕ) → ℕ → ℕ → ℕ → Type 0
IsMagnitude grammar algebra bound rule len number =
    (alternative : ℕ) × (lengths : List ℕ) × IsWay grammar rule len alternative lengths
    × (number ≡ magnitude (term_at grammar algebra rule alternative)
    (argument_bounds grammar bound (arguments_of grammar rule alternative) lengths))

-- the score bound of each rule at each length: the greatest magnitude over all ways, at the bounds of the arguments
abbrev pub AreScoreBounds : Grammar → ℕ → (ℕ → ℕ → ℕ) → Type 0
AreScoreBounds grammar algebra bound =
    (rule len : ℕ) → IsGreatest (IsMagnitude grammar algebra bound rule len) (bound rule len)

-- the nodes of the rule arguments at their lengths, added up
abbrev pub nodes_within : (ℕ → ℕ → ℕ) → List Arg → List ℕ → ℕ
nodes_within nodes [] lengths = 0
nodes_within nodes (argument ∷ arguments) [] = 0
nodes_within nodes (Rule rule ∷ arguments) (len ∷ lengths) = nodes rule len + nodes_within nodes arguments lengths
nodes_within nodes (token ∷ arguments) (len ∷ lengths) = nodes_within nodes arguments lengths

-- one node, and those of the arguments, over a way to give this length to the rule
abbrev pub IsNodeNumber : Grammar → (ℕ → ℕ → ℕ) → ℕ → ℕ → ℕ → Type 0
IsNodeNumber grammar nodes rule len number =
    (alternative : ℕ) × (lengths : List ℕ) × IsWay grammar rule len alternative lengths
    × (number ≡ 1 + nodes_within nodes (arguments_of grammar rule alternative) lengths)

-- the node bound of each rule at each length
abbrev pub AreNodeBounds : Grammar → (ℕ → ℕ → ℕ) → Type 0
AreNodeBounds grammar nodes = (rule len : ℕ) → IsGreatest (IsNodeNumber grammar nodes rule len) (nodes rule len)

-- the bound of some rule at a length up to this one
abbrev pub IsRuleBound : Grammar → (ℕ → ℕ → ℕ) → ℕ → ℕ → Type 0
IsRuleBound grammar bound most number =
    (rule : ℕ) × (len : ℕ) × (rule < length grammar.rules) × (len ≤ most) × (number ≡ bound rule len)

-- the bound of some token argument at a length up to this one that it admits
abbrev pub IsTokenBound : Grammar → ℕ → ℕ → Type 0
IsTokenBound grammar most number =
    (rule : ℕ) × (alternative : ℕ) × (token : Arg) × (len : ℕ) × Contains (arguments_of grammar rule alternative) token
    × AdmitsLength token len × (len ≤ most) × (number ≡ token_bound grammar token len)

-- the score bound of words of this length: the greatest bound of all rules and token arguments
abbrev pub IsScoreBound : Grammar → ℕ → ℕ → ℕ → Type 0
IsScoreBound grammar algebra len number =
    (bound : ℕ → ℕ → ℕ) × AreScoreBounds grammar algebra bound
    × IsGreatest (λ other. IsRuleBound grammar bound len other ⊎ IsTokenBound grammar len other) number

-- the node bound of words of this length: that of the axiom
abbrev pub IsNodeBound : Grammar → ℕ → ℕ → Type 0
IsNodeBound grammar len number =
    (nodes : ℕ → ℕ → ℕ) × AreNodeBounds grammar nodes × (number ≡ nodes grammar.axiom len)
