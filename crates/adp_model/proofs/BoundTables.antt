-- In a checked grammar there is exactly one table of score bounds, one of node bounds, and one score bound and one node
-- bound of words of each length.
use Rattle.std.proofs.Common.{None, ◌≡◌, ℕ, suc, ◌+◌, ◌<◌, ◌≤◌, max, Option, List, [], ◌∷◌, length, slice_index_or, ◌⊎◌, inl, inr, refl, subst, sym, ap, ap₂, ◌∙◌, arith}
use Rattle.std.specs.List.{Contains}
use Rattle.std.proofs.lemmas.List.{get_or_past, get_or_default}
use Rattle.adp_model.specs.declared.grammar.Arg.{Arg}
use Rattle.adp_model.specs.declared.grammar.Arg.TheVariants.{Rule}
use Rattle.adp_model.specs.declared.grammar.Grammar.{Grammar}
use Rattle.adp_model.specs.Parts.{alternatives_of, arguments_of, term_at}
use Rattle.adp_model.specs.Lengths.{AdmitsLength}
use Rattle.adp_model.specs.Terms.{magnitude}
use Rattle.adp_model.specs.Checks.{IsChecked}
use Rattle.adp_model.specs.Bounds.{IsInRange, token_bound, argument_bounds, nodes_within, AreScoreBounds, AreNodeBounds, IsRuleBound, IsTokenBound, IsScoreBound, IsNodeBound}
use Rattle.adp_model.proofs.Greatest.{greatest_unique, greatest_same, greatest_either, HasGreatest, HasGreatest-same, HasGreatest-none, IsSomewhere, HasGreatest-below}
use Rattle.adp_model.proofs.Ways.{AreRangesDecided, Valuation, AgreeBelow, IsLocal, table_unique, table_exists}
use Rattle.adp_model.proofs.KnownRules.{rule_known}
use Rattle.adp_model.proofs.LesserWays.{AreLesser, ranges_decided, measure_of, lesser_way}

-- ---- values of ways

abbrev pub score_value : Grammar → ℕ → Valuation
score_value grammar algebra bound rule alternative lengths =
    magnitude (term_at grammar algebra rule alternative) (argument_bounds grammar bound (arguments_of grammar rule alternative) lengths)

abbrev pub node_value : Grammar → Valuation
node_value grammar nodes rule alternative lengths = 1 + nodes_within nodes (arguments_of grammar rule alternative) lengths

bounds_agree : (grammar : Grammar) (measure bound other : ℕ → ℕ → ℕ) (limit : ℕ) → AgreeBelow measure bound other limit → (arguments : List Arg) (lengths : List ℕ) → AreLesser measure limit arguments lengths → argument_bounds grammar bound arguments lengths ≡ argument_bounds grammar other arguments lengths
bounds_agree grammar measure bound other limit agree [] lengths lesser = refl
bounds_agree grammar measure bound other limit agree (argument ∷ arguments) [] lesser = refl
bounds_agree grammar measure bound other limit agree (Rule rule ∷ arguments) (len ∷ lengths) lesser =
    ap₂ (λ first others. first ∷ others) (agree rule len lesser.0) (bounds_agree grammar measure bound other limit agree arguments lengths lesser.1)
bounds_agree grammar measure bound other limit agree (token ∷ arguments) (len ∷ lengths) lesser =
    ap (λ others. token_bound grammar token len ∷ others) (bounds_agree grammar measure bound other limit agree arguments lengths lesser)

nodes_agree : (measure nodes other : ℕ → ℕ → ℕ) (limit : ℕ) → AgreeBelow measure nodes other limit → (arguments : List Arg) (lengths : List ℕ) → AreLesser measure limit arguments lengths → nodes_within nodes arguments lengths ≡ nodes_within other arguments lengths
nodes_agree measure nodes other limit agree [] lengths lesser = refl
nodes_agree measure nodes other limit agree (argument ∷ arguments) [] lesser = refl
nodes_agree measure nodes other limit agree (Rule rule ∷ arguments) (len ∷ lengths) lesser =
    ap₂ (λ first others. first + others) (agree rule len lesser.0) (nodes_agree measure nodes other limit agree arguments lengths lesser.1)
nodes_agree measure nodes other limit agree (token ∷ arguments) (len ∷ lengths) lesser = nodes_agree measure nodes other limit agree arguments lengths lesser

-- ---- tables

module _ (grammar : Grammar) (algebra : ℕ) (least : List ℕ) (greatest : List (Option ℕ)) (ranks : List ℕ) (checked : IsChecked grammar algebra least greatest ranks) where
  measure : ℕ → ℕ → ℕ
  measure = measure_of grammar algebra least greatest ranks checked

  scores_local : IsLocal grammar (score_value grammar algebra) measure
  unfolding measure
  scores_local bound other rule len alternative lengths way agree =
      ap (magnitude (term_at grammar algebra rule alternative))
      (bounds_agree grammar measure bound other (measure rule len) agree (arguments_of grammar rule alternative) lengths (lesser_way grammar algebra least greatest ranks checked rule len alternative lengths way))

  nodes_local : IsLocal grammar (node_value grammar) measure
  unfolding measure
  nodes_local bound other rule len alternative lengths way agree =
      ap (λ n. 1 + n)
      (nodes_agree measure bound other (measure rule len) agree (arguments_of grammar rule alternative) lengths (lesser_way grammar algebra least greatest ranks checked rule len alternative lengths way))

  pub score_bounds_exist : (bound : ℕ → ℕ → ℕ) × AreScoreBounds grammar algebra bound
  score_bounds_exist = table_exists grammar (score_value grammar algebra) measure scores_local (ranges_decided grammar algebra least greatest ranks checked)

  pub score_bounds_unique : (bound other : ℕ → ℕ → ℕ) → AreScoreBounds grammar algebra bound → AreScoreBounds grammar algebra other → (rule len : ℕ) → bound rule len ≡ other rule len
  score_bounds_unique bound other table table' = table_unique grammar (score_value grammar algebra) measure scores_local bound other table table'

  pub node_bounds_exist : (nodes : ℕ → ℕ → ℕ) × AreNodeBounds grammar nodes
  node_bounds_exist = table_exists grammar (node_value grammar) measure nodes_local (ranges_decided grammar algebra least greatest ranks checked)

  pub node_bounds_unique : (nodes other : ℕ → ℕ → ℕ) → AreNodeBounds grammar nodes → AreNodeBounds grammar other → (rule len : ℕ) → nodes rule len ≡ other rule len
  node_bounds_unique nodes other table table' = table_unique grammar (node_value grammar) measure nodes_local nodes other table table'

-- ---- the greatest bound of rules

HasGreatest-one : (number : ℕ) → HasGreatest (λ n. n ≡ number)
HasGreatest-one number = (number, inl (refl, λ n same. omega (arith, same)))

HasGreatest-rules : (grammar : Grammar) (bound : ℕ → ℕ → ℕ) (most : ℕ) → HasGreatest (IsRuleBound grammar bound most)
HasGreatest-rules grammar bound most =
    HasGreatest-same (IsSomewhere (λ rule. IsSomewhere (λ len n. n ≡ bound rule len) (suc most)) (length grammar.rules)) (IsRuleBound grammar bound most)
    (λ n h. (h.place, h.holds.place, h.below, omega (arith, h.holds.below), h.holds.holds))
    (λ n h. record { place = h.0; below = h.2; holds = record { place = h.1; below = omega (arith, h.3); holds = h.4 } })
    (HasGreatest-below (λ rule. IsSomewhere (λ len n. n ≡ bound rule len) (suc most)) (length grammar.rules)
    (λ rule below. HasGreatest-below (λ len n. n ≡ bound rule len) (suc most) (λ len low. HasGreatest-one (bound rule len))))

rule_bounds_same : (grammar : Grammar) (bound other : ℕ → ℕ → ℕ) (most : ℕ) → ((rule len : ℕ) → bound rule len ≡ other rule len) → (n : ℕ) → IsRuleBound grammar bound most n → IsRuleBound grammar other most n
rule_bounds_same grammar bound other most same n h = (h.0, h.1, h.2, h.3, h.4 ∙ same h.0 h.1)

-- ---- the greatest bound of tokens

-- an argument by its place
argument_at : List Arg → ℕ → Arg
argument_at arguments place = slice_index_or arguments place (Rule 0)

record IsBoundOf (grammar : Grammar) (token : Arg) (len number : ℕ) : Type 0 where
  admits : AdmitsLength token len
  number_is : number ≡ token_bound grammar token len

HasGreatest-token : (grammar : Grammar) → AreRangesDecided grammar → (token : Arg) (len : ℕ) → HasGreatest (IsBoundOf grammar token len)
HasGreatest-token grammar decided (Rule rule) len = HasGreatest-none (IsBoundOf grammar (Rule rule) len) (λ n h. h.admits)
HasGreatest-token grammar decided token len = by (decided token len)
  where
    by : IsInRange grammar token len ⊎ (IsInRange grammar token len → ⊥) → HasGreatest (IsBoundOf grammar token len)
    by (inl admits) =
        HasGreatest-same (λ n. n ≡ token_bound grammar token len) (IsBoundOf grammar token len)
        (λ n same. record { admits = admits; number_is = same }) (λ n h. h.number_is) (HasGreatest-one (token_bound grammar token len))
    by (inr wrong) = HasGreatest-none (IsBoundOf grammar token len) (λ n h. wrong h.admits)

-- an argument stands in a rule and an alternative that are there
argument_stands : (grammar : Grammar) (rule alternative : ℕ) (token : Arg) → Contains (arguments_of grammar rule alternative) token → (rule < length grammar.rules) × (alternative < length (alternatives_of grammar rule))
argument_stands grammar rule alternative token h = (by_rule, by_alternative)
  where
    by_alternative : alternative < length (alternatives_of grammar rule)
    by_alternative = by (at_most (suc alternative) (length (alternatives_of grammar rule)))
      where
        at_most : (m n : ℕ) → (m ≤ n) ⊎ ((m ≤ n) → ⊥)
        at_most m n = grind arith

        by : (suc alternative ≤ length (alternatives_of grammar rule)) ⊎ ((suc alternative ≤ length (alternatives_of grammar rule)) → ⊥) → alternative < length (alternatives_of grammar rule)
        by (inl below) = below
        by (inr past) =
            let far : length (alternatives_of grammar rule) ≤ alternative = (let wrong = past in grind arith) in
            let none : length (arguments_of grammar rule alternative) ≡ 0 = ap (λ a. length a.args) (get_or_past (alternatives_of grammar rule) alternative (record { sign = 0; args = []; size = None }) far) in
            absurd (omega (arith, none, h.1))

    by_rule : rule < length grammar.rules
    by_rule = rule_known grammar rule alternative by_alternative

-- the bound of the token at some place of the arguments, at some length
TokenAt : Grammar → ℕ → List Arg → ℕ → Type 0
TokenAt grammar most arguments = IsSomewhere (λ place. IsSomewhere (IsBoundOf grammar (argument_at arguments place)) (suc most)) (length arguments)

HasGreatest-tokens : (grammar : Grammar) → AreRangesDecided grammar → (most : ℕ) → HasGreatest (IsTokenBound grammar most)
unfolding TokenAt argument_at
HasGreatest-tokens grammar decided most =
    HasGreatest-same (IsSomewhere (λ rule. IsSomewhere (λ alternative. TokenAt grammar most (arguments_of grammar rule alternative)) (length (alternatives_of grammar rule))) (length grammar.rules)) (IsTokenBound grammar most)
    to from
    (HasGreatest-below (λ rule. IsSomewhere (λ alternative. TokenAt grammar most (arguments_of grammar rule alternative)) (length (alternatives_of grammar rule))) (length grammar.rules)
    (λ rule below. HasGreatest-below (λ alternative. TokenAt grammar most (arguments_of grammar rule alternative)) (length (alternatives_of grammar rule))
    (λ alternative low. HasGreatest-below (λ place. IsSomewhere (IsBoundOf grammar (argument_at (arguments_of grammar rule alternative) place)) (suc most)) (length (arguments_of grammar rule alternative))
    (λ place here. HasGreatest-below (IsBoundOf grammar (argument_at (arguments_of grammar rule alternative) place)) (suc most)
    (λ len short. HasGreatest-token grammar decided (argument_at (arguments_of grammar rule alternative) place) len)))))
  where
    to : (n : ℕ) → IsSomewhere (λ rule. IsSomewhere (λ alternative. TokenAt grammar most (arguments_of grammar rule alternative)) (length (alternatives_of grammar rule))) (length grammar.rules) n → IsTokenBound grammar most n
    to n h =
        let rule = h.place in
        let alternative = h.holds.place in
        let at = h.holds.holds in
        let arguments = arguments_of grammar rule alternative in
        let token = argument_at arguments at.place in
        (rule, alternative, token, at.holds.place, (at.place, at.below, get_or_default arguments at.place token (Rule 0) at.below), at.holds.holds.admits, omega (arith, at.holds.below), at.holds.holds.number_is)

    from : (n : ℕ) → IsTokenBound grammar most n → IsSomewhere (λ rule. IsSomewhere (λ alternative. TokenAt grammar most (arguments_of grammar rule alternative)) (length (alternatives_of grammar rule))) (length grammar.rules) n
    from n h =
        let rule = h.0 in
        let alternative = h.1 in
        let token = h.2 in
        let len = h.3 in
        let stands = argument_stands grammar rule alternative token h.4 in
        let arguments = arguments_of grammar rule alternative in
        let here : argument_at arguments h.4.0 ≡ token = get_or_default arguments h.4.0 (Rule 0) token h.4.1 ∙ h.4.2 in
        record {
          place = rule;
          below = stands.0;
          holds = record {
            place = alternative;
            below = stands.1;
            holds = record {
              place = h.4.0;
              below = h.4.1;
              holds = record {
                place = len;
                below = omega (arith, h.6);
                holds = subst (λ t. IsBoundOf grammar t len n) (sym here) (record { admits = h.5; number_is = h.7 });
              };
            };
          };
        }

-- ---- the bounds of words

module _ (grammar : Grammar) (algebra : ℕ) (least : List ℕ) (greatest : List (Option ℕ)) (ranks : List ℕ) (checked : IsChecked grammar algebra least greatest ranks) where
  pub score_bound_exists : (len : ℕ) → (number : ℕ) × IsScoreBound grammar algebra len number
  score_bound_exists len =
      let table = score_bounds_exist grammar algebra least greatest ranks checked in
      let rules = HasGreatest-rules grammar table.0 len in
      let tokens = HasGreatest-tokens grammar (ranges_decided grammar algebra least greatest ranks checked) len in
      (max rules.0 tokens.0, (table.0, table.1, greatest_either (IsRuleBound grammar table.0 len) (IsTokenBound grammar len) rules.0 tokens.0 rules.1 tokens.1))

  pub score_bound_unique : (len a b : ℕ) → IsScoreBound grammar algebra len a → IsScoreBound grammar algebra len b → a ≡ b
  score_bound_unique len a b h k =
      greatest_unique (λ other. IsRuleBound grammar k.0 len other ⊎ IsTokenBound grammar len other) a b
      (greatest_same (λ other. IsRuleBound grammar h.0 len other ⊎ IsTokenBound grammar len other) (λ other. IsRuleBound grammar k.0 len other ⊎ IsTokenBound grammar len other)
      (λ n e. elim e [ inl one ↦ inl (rule_bounds_same grammar h.0 k.0 len same n one) | inr two ↦ inr two ])
      (λ n e. elim e [ inl one ↦ inl (rule_bounds_same grammar k.0 h.0 len (λ rule l. sym (same rule l)) n one) | inr two ↦ inr two ]) a h.2) k.2
    where
      same : (rule l : ℕ) → h.0 rule l ≡ k.0 rule l
      same = score_bounds_unique grammar algebra least greatest ranks checked h.0 k.0 h.1 k.1

  pub node_bound_exists : (len : ℕ) → (number : ℕ) × IsNodeBound grammar len number
  node_bound_exists len =
      let table = node_bounds_exist grammar algebra least greatest ranks checked in
      (table.0 grammar.axiom len, (table.0, table.1, refl))

  pub node_bound_unique : (len a b : ℕ) → IsNodeBound grammar len a → IsNodeBound grammar len b → a ≡ b
  node_bound_unique len a b h k = h.2 ∙ node_bounds_unique grammar algebra least greatest ranks checked h.0 k.0 h.1 k.1 grammar.axiom len ∙ sym k.2
