-- Where each hidden rule has a length, alternatives have patterns, and only one list of them each.
use Rattle.std.proofs.Common.{◌≡◌, ℕ, zero, suc, slice_index_or, ◌<◌, ◌≤◌, ◌&&◌, nat_lt, nat_le, ◌+◌, Bool, true, false, IsTrue, Option, List, [], ◌∷◌, length, refl, sym, ap, ap₂, subst, ◌∙◌, arith, ltb-true, leb-true}
use Rattle.adp_model.specs.declared.grammar.Arg.{Arg}
use Rattle.adp_model.specs.declared.grammar.Arg.TheVariants.{Rule, Literal, Letter, Run}
use Rattle.adp_model.specs.declared.grammar.Grammar.{Grammar}
use Rattle.adp_model.specs.PosedProblem.{PosedProblem}
use Rattle.adp_model.specs.Parts.{alternative_at, arguments_of}
use Rattle.adp_model.specs.Checks.{IsChecked}
use Rattle.adp_model.specs.Lengths.{HasLength, ByAlternative, HaveLength, NoArguments, FirstRule, FirstToken, IsProductive}
use Rattle.nested_trees.specs.HiddenRules.{is_hidden, AreNestedAlternatives}
use Rattle.nested_trees.specs.Patterns.{Pattern, Plain, Nested, Patterns, NoPatterns, FirstPattern, NamesNoHidden, LeadsTo, Straight, Over, IsPatternOf, ArePatternsOf, HidesRules}
use Rattle.nested_trees.proofs.Erasing.{only_alternative}

-- ---- there are patterns

module _ (g : Grammar) (hidden : ℕ) (alone : AreNestedAlternatives g hidden) where
  abbrev HasPattern : Arg → Type 0
  HasPattern argument = (pattern : Pattern) × IsPatternOf g hidden argument pattern

  abbrev HavePatterns : List Arg → Type 0
  HavePatterns arguments = (ps : Patterns) × ArePatternsOf g hidden arguments ps

  joined : (argument : Arg) (arguments : List Arg) → HasPattern argument → HavePatterns arguments
      → HavePatterns (argument ∷ arguments)
  joined argument arguments one others = (FirstPattern one.0 others.0, (one.1, others.1))

  rule_pattern : (test : Bool) (rule : ℕ) → is_hidden g hidden rule ≡ test
      → (IsTrue (is_hidden g hidden rule) → HavePatterns (arguments_of g rule 0)) → HasPattern (Rule rule)
  rule_pattern true rule is below =
      let found = below is in (Nested (alternative_at g rule 0).sign found.0, (is, refl, found.1))
  rule_pattern false rule is below = (Plain (Rule rule), (refl, is))

  mutual
    patterns_of_rule : (rule len : ℕ) → HasLength g rule len → IsTrue (is_hidden g hidden rule)
        → HavePatterns (arguments_of g rule 0)
    patterns_of_rule _ _ (ByAlternative rule alternative sum len inside have within total) is =
        subst (λ a. HavePatterns (arguments_of g rule a))
        (only_alternative g hidden alone rule alternative is inside)
        (patterns_by_lengths (arguments_of g rule alternative) sum have)

    patterns_by_lengths : (arguments : List Arg) (sum : ℕ) → HaveLength g arguments sum → HavePatterns arguments
    patterns_by_lengths _ _ NoArguments = (NoPatterns, tt)
    patterns_by_lengths _ _ (FirstRule rule len arguments others has have) =
        joined (Rule rule) arguments (rule_pattern (is_hidden g hidden rule) rule refl
        (patterns_of_rule rule len has)) (patterns_by_lengths arguments others have)
    patterns_by_lengths _ _ (FirstToken (Rule rule) len arguments others admits have) = absurd admits
    patterns_by_lengths _ _ (FirstToken (Literal text) len arguments others admits have) =
        joined (Literal text) arguments (Plain (Literal text), (refl, tt)) (patterns_by_lengths arguments others have)
    patterns_by_lengths _ _ (FirstToken (Letter class) len arguments others admits have) =
        joined (Letter class) arguments (Plain (Letter class), (refl, tt)) (patterns_by_lengths arguments others have)
    patterns_by_lengths _ _ (FirstToken (Run class low high) len arguments others admits have) =
        joined (Run class low high) arguments (Plain (Run class low high), (refl, tt))
        (patterns_by_lengths arguments others have)

  argument_pattern : ((rule : ℕ) → IsTrue (is_hidden g hidden rule) → IsProductive g rule) → (argument : Arg)
      → HasPattern argument
  argument_pattern has (Rule rule) =
      rule_pattern (is_hidden g hidden rule) rule refl
      (λ is. let length = has rule is in patterns_of_rule rule length.0 length.1 is)
  argument_pattern has (Literal text) = (Plain (Literal text), (refl, tt))
  argument_pattern has (Letter class) = (Plain (Letter class), (refl, tt))
  argument_pattern has (Run class low high) = (Plain (Run class low high), (refl, tt))

  patterns_there : ((rule : ℕ) → IsTrue (is_hidden g hidden rule) → IsProductive g rule) → (arguments : List Arg)
      → HavePatterns arguments
  patterns_there has [] = (NoPatterns, tt)
  patterns_there has (argument ∷ arguments) =
      joined argument arguments (argument_pattern has argument) (patterns_there has arguments)

pub nested_there : (p : PosedProblem) (hidden : ℕ) → AreNestedAlternatives p.grammar hidden
    → ((rule : ℕ) → IsTrue (is_hidden p.grammar hidden rule) → IsProductive p.grammar rule)
    → (patterns : ℕ → ℕ → Patterns) × HidesRules (record { plain = p; patterns = patterns }) hidden
nested_there p hidden alone has = (
  (λ rule alternative. (patterns_there p.grammar hidden alone has (arguments_of p.grammar rule alternative)).0),
  (λ rule alternative. (patterns_there p.grammar hidden alone has (arguments_of p.grammar rule alternative)).1),
)

both_true : (a b : Bool) → (a && b) ≡ true → (a ≡ true) × (b ≡ true)
both_true true b h = (refl, h)
both_true false b h = absurd (cc)

hidden_known : (g : Grammar) (hidden rule : ℕ) → IsTrue (is_hidden g hidden rule) → rule < length g.rules
hidden_known g hidden rule is =
    ltb-true rule (length g.rules) (both_true (nat_lt rule (length g.rules))
    (nat_le (length g.rules) (rule + hidden)) is).0

hidden_last : (g : Grammar) (hidden rule : ℕ) → IsTrue (is_hidden g hidden rule) → length g.rules ≤ rule + hidden
hidden_last g hidden rule is =
    leb-true (length g.rules) (rule + hidden)
    (both_true (nat_lt rule (length g.rules)) (nat_le (length g.rules) (rule + hidden)) is).1

-- the checks find a length of each rule
pub productive-checked : (g : Grammar) (algebra : ℕ) (least : List ℕ) (greatest : List (Option ℕ)) (ranks : List ℕ)
    → IsChecked g algebra least greatest ranks
    → (hidden rule : ℕ) → IsTrue (is_hidden g hidden rule) → IsProductive g rule
productive-checked g algebra least greatest ranks checked hidden rule is =
    let found = checked.least_are rule (hidden_known g hidden rule is) in (found.0, found.1)

-- ---- there are no others

mutual
  pattern_one : (g : Grammar) (hidden : ℕ) (argument : Arg) (a b : Pattern) → IsPatternOf g hidden argument a
      → IsPatternOf g hidden argument b → a ≡ b
  pattern_one g hidden argument (Plain given) (Plain given') is is' = ap Plain (is.0 ∙ sym is'.0)
  pattern_one g hidden (Rule rule) (Plain given) (Nested sign inner) is is' = absurd (cc (is.1, is'.0))
  pattern_one g hidden (Literal text) (Plain given) (Nested sign inner) is is' = absurd is'
  pattern_one g hidden (Letter class) (Plain given) (Nested sign inner) is is' = absurd is'
  pattern_one g hidden (Run class low high) (Plain given) (Nested sign inner) is is' = absurd is'
  pattern_one g hidden (Rule rule) (Nested sign inner) (Plain given) is is' = absurd (cc (is.0, is'.1))
  pattern_one g hidden (Rule rule) (Nested sign inner) (Nested sign' inner') is is' =
      ap₂ (λ s ps. Nested s ps) (is.1 ∙ sym is'.1)
      (patterns_one g hidden (arguments_of g rule 0) inner inner' is.2 is'.2)
  pattern_one g hidden (Literal text) (Nested sign inner) b is is' = absurd is
  pattern_one g hidden (Letter class) (Nested sign inner) b is is' = absurd is
  pattern_one g hidden (Run class low high) (Nested sign inner) b is is' = absurd is

  pub patterns_one : (g : Grammar) (hidden : ℕ) (arguments : List Arg) (xs ys : Patterns)
      → ArePatternsOf g hidden arguments xs → ArePatternsOf g hidden arguments ys → xs ≡ ys
  patterns_one g hidden [] NoPatterns NoPatterns are are' = refl
  patterns_one g hidden [] NoPatterns (FirstPattern b ys) are are' = absurd are'
  patterns_one g hidden [] (FirstPattern a xs) ys are are' = absurd are
  patterns_one g hidden (argument ∷ arguments) NoPatterns ys are are' = absurd are
  patterns_one g hidden (argument ∷ arguments) (FirstPattern a xs) NoPatterns are are' = absurd are'
  patterns_one g hidden (argument ∷ arguments) (FirstPattern a xs) (FirstPattern b ys) are are' =
      ap₂ (λ z zs. FirstPattern z zs) (pattern_one g hidden argument a b are.0 are'.0)
      (patterns_one g hidden arguments xs ys are.1 are'.1)

-- ---- none of a rule that leads back to itself

abbrev mutual
  -- the signs in a pattern
  signs_in : Pattern → ℕ
  signs_in (Plain argument) = 0
  signs_in (Nested sign inner) = 1 + all_signs_in inner

  all_signs_in : Patterns → ℕ
  all_signs_in NoPatterns = 0
  all_signs_in (FirstPattern first others) = signs_in first + all_signs_in others

-- patterns of the rule's only alternative, which have fewer signs than so many
abbrev HasLesser : Grammar → ℕ → ℕ → ℕ → Type 0
HasLesser g hidden rule count =
    (inner : Patterns) × ArePatternsOf g hidden (arguments_of g rule 0) inner × (all_signs_in inner < count)

lesser_first : (g : Grammar) (hidden : ℕ) (argument : Arg) (rule : ℕ) (first : Pattern) (others : Patterns)
    → argument ≡ Rule rule → IsTrue (is_hidden g hidden rule) → IsPatternOf g hidden argument first
    → HasLesser g hidden rule (signs_in first + all_signs_in others)
lesser_first g hidden argument rule (Plain given) others same is pattern =
    absurd (cc (is, subst (NamesNoHidden g hidden) same pattern.1))
lesser_first g hidden argument rule (Nested sign inner) others same is pattern =
    let own : IsPatternOf g hidden (Rule rule) (Nested sign inner) =
    subst (λ a. IsPatternOf g hidden a (Nested sign inner)) same pattern in
    (inner, own.2, omega arith)

lesser_at : (g : Grammar) (hidden : ℕ) (arguments : List Arg) (rule place : ℕ) (ps : Patterns)
    → place < length arguments → slice_index_or arguments place (Rule rule) ≡ Rule rule
    → IsTrue (is_hidden g hidden rule) → ArePatternsOf g hidden arguments ps
    → HasLesser g hidden rule (all_signs_in ps)
lesser_at g hidden [] rule place ps inside named is are = absurd (omega arith)
lesser_at g hidden (argument ∷ arguments) rule place NoPatterns inside named is are = absurd are
lesser_at g hidden (argument ∷ arguments) rule zero (FirstPattern first others) inside named is are =
    lesser_first g hidden argument rule first others named is are.0
lesser_at g hidden (argument ∷ arguments) rule (suc place) (FirstPattern first others) inside named is are =
    let found = lesser_at g hidden arguments rule place others (omega arith) named is are.1 in
    (found.0, found.1, omega arith)

lesser_led : (g : Grammar) (hidden rule other : ℕ) → LeadsTo g hidden rule other → (ps : Patterns)
    → ArePatternsOf g hidden (arguments_of g rule 0) ps → HasLesser g hidden other (all_signs_in ps)
lesser_led g hidden _ _ (Straight rule other is named) ps are =
    lesser_at g hidden (arguments_of g rule 0) other named.0 ps named.1 named.2 is are
lesser_led g hidden _ _ (Over rule next other is named leads) ps are =
    let found = lesser_at g hidden (arguments_of g rule 0) next named.0 ps named.1 named.2 is are in
    let further = lesser_led g hidden next other leads found.0 found.1 in
    (further.0, further.1, omega arith)

pub patterns_endless : (g : Grammar) (hidden rule : ℕ) → LeadsTo g hidden rule rule → (ps : Patterns)
    → ArePatternsOf g hidden (arguments_of g rule 0) ps → ⊥
patterns_endless g hidden rule leads ps are =
    let found = lesser_led g hidden rule rule leads ps are in
    let same : all_signs_in found.0 ≡ all_signs_in ps =
    ap all_signs_in (patterns_one g hidden (arguments_of g rule 0) found.0 ps found.1 are) in
    omega arith

-- ---- where no rule is hidden

pub none_hidden : (g : Grammar) → AreNestedAlternatives g 0
none_hidden g = record { one = λ rule is. absurd (none rule is); unsized = λ rule is. absurd (none rule is) }
  where
    none : (rule : ℕ) → IsTrue (is_hidden g 0 rule) → ⊥
    none rule is = let known = hidden_known g 0 rule is in let last = hidden_last g 0 rule is in omega arith
