-- The node bound and the score bound of the grammar of pairs: a node for each letter and one more, and a point for two
-- letters.
use Rattle.std.proofs.Common.{◌≡◌, ℕ, zero, suc, ◌+◌, ◌/◌, ◌≤◌, ◌⊎◌, inl, inr, List, [], ◌∷◌, refl, subst, arith}
use Rattle.adp_model.specs.declared.grammar.Arg.{Arg}
use Rattle.adp_model.specs.declared.grammar.Arg.TheVariants.{Rule, Literal, Letter, Run}
use Rattle.adp_model.specs.Parts.{letters_of, arguments_of, term_at}
use Rattle.adp_model.specs.Terms.{magnitude}
use Rattle.adp_model.specs.Bounds.{IsWay, argument_bounds, nodes_within, token_bound, greatest_weight, IsNodeNumber, AreNodeBounds, IsNodeBound, IsMagnitude, AreScoreBounds, IsRuleBound, IsTokenBound, IsScoreBound}
use Rattle.adp_model.specs.BigReport.{pairs_grammar}
use Rattle.big_problems.proofs.PairWays.{nil_way, skip_way, pair_way, no_way, each_way}

-- ---- nodes

abbrev pair_nodes : ℕ → ℕ → ℕ
pair_nodes zero len = suc len
pair_nodes (suc rule) len = 0

abbrev FewNodes : ℕ → ℕ → List ℕ → Type 0
FewNodes len alternative lengths =
    1 + nodes_within pair_nodes (arguments_of pairs_grammar 0 alternative) lengths ≤ suc len

few_nodes : (len alternative : ℕ) (lengths : List ℕ) → IsWay pairs_grammar 0 len alternative lengths
    → FewNodes len alternative lengths
few_nodes =
    each_way FewNodes (omega arith) (λ b. omega arith) (λ b d. omega arith) (λ b d. omega arith)

nodes_reached : (len : ℕ) → IsNodeNumber pairs_grammar pair_nodes 0 len (suc len)
nodes_reached zero = (0, 0 ∷ [], nil_way, refl)
nodes_reached (suc len) = (1, 1 ∷ len ∷ [], skip_way len, omega arith)

node_bounds : AreNodeBounds pairs_grammar pair_nodes
node_bounds zero len = inl (nodes_reached len, λ other h. omega (arith, h.3, few_nodes len h.0 h.1 h.2))
node_bounds (suc rule) len = inr (refl, λ other h. no_way rule len h.0 h.1 h.2)

pub node_bound : (len : ℕ) → IsNodeBound pairs_grammar len (suc len)
node_bound len = (pair_nodes, node_bounds, refl)

-- ---- scores

abbrev pair_scores : ℕ → ℕ → ℕ
pair_scores zero len = len / 2
pair_scores (suc rule) len = 0

abbrev points : ℕ → List ℕ → ℕ
points alternative lengths =
    magnitude (term_at pairs_grammar 0 0 alternative)
    (argument_bounds pairs_grammar pair_scores (arguments_of pairs_grammar 0 alternative) lengths)

abbrev FewPoints : ℕ → ℕ → List ℕ → Type 0
FewPoints len alternative lengths = points alternative lengths ≤ len / 2

few_points : (len alternative : ℕ) (lengths : List ℕ) → IsWay pairs_grammar 0 len alternative lengths
    → FewPoints len alternative lengths
few_points =
    each_way FewPoints (omega arith) (λ b. omega arith) (λ b d. omega arith) (λ b d. omega arith)

points_reached : (len : ℕ) → IsMagnitude pairs_grammar 0 pair_scores 0 len (len / 2)
points_reached zero = (0, 0 ∷ [], nil_way, refl)
points_reached (suc zero) = (1, 1 ∷ 0 ∷ [], skip_way 0, refl)
points_reached (suc (suc len)) =
    let inside : 0 + len ≡ len = omega arith in
    let way : IsWay pairs_grammar 0 (suc (suc len)) 2 (1 ∷ 0 ∷ 1 ∷ len ∷ []) =
    subst (λ n. IsWay pairs_grammar 0 (suc (suc n)) 2 (1 ∷ 0 ∷ 1 ∷ len ∷ [])) inside (pair_way 0 len) in
    (2, 1 ∷ 0 ∷ 1 ∷ len ∷ [], way, omega arith)

score_bounds : AreScoreBounds pairs_grammar 0 pair_scores
score_bounds zero len = inl (points_reached len, λ other h. omega (arith, h.3, few_points len h.0 h.1 h.2))
score_bounds (suc rule) len = inr (refl, λ other h. no_way rule len h.0 h.1 h.2)

no_weight : (class : ℕ) → greatest_weight (letters_of pairs_grammar class) ≡ 0
no_weight zero = refl
no_weight (suc class) = refl

tokens_worthless : (token : Arg) (len : ℕ) → token_bound pairs_grammar token len ≡ 0
tokens_worthless (Rule rule) len = refl
tokens_worthless (Literal text) len = refl
tokens_worthless (Letter class) len = rw (no_weight class) (omega arith)
tokens_worthless (Run class low high) len = rw (no_weight class) (omega arith)

rules_within : (len other : ℕ) → IsRuleBound pairs_grammar pair_scores len other → other ≤ len / 2
rules_within len other (zero, shorter, below, short, same) = omega (arith, same)
rules_within len other (suc rule, shorter, below, short, same) = omega (arith, below)

pub score_bound : (len : ℕ) → IsScoreBound pairs_grammar 0 len (len / 2)
score_bound len = (pair_scores, score_bounds, inl (inl (0, len, omega arith, omega arith, refl), within))
  where
    within : (other : ℕ) → IsRuleBound pairs_grammar pair_scores len other ⊎ IsTokenBound pairs_grammar len other
        → other ≤ len / 2
    within other (inl rule) = rules_within len other rule
    within other (inr token) = omega (arith, token.7, tokens_worthless token.2 token.3)
