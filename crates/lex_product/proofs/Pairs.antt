-- The second grammar of a pair passes the checks that the first one passed, and a pair's faults by their names.
use Rattle.std.proofs.Common.{◌≡◌, ◌<◌, ℕ, ℤ, pos, Bool, Option, List, [], ◌∷◌, length, slice_index_or, sym, ap, subst, ◌∙◌, arith}
use Rattle.std.proofs.lemmas.Int.{ints}
use Rattle.adp_model.specs.declared.fault.GrammarFault.{GrammarFault}
use Rattle.adp_model.specs.declared.grammar.Grammar.{Grammar}
use Rattle.adp_model.specs.declared.grammar.Kind.{Kind}
use Rattle.adp_model.specs.declared.grammar.Kind.TheVariants.{Score, Token}
use Rattle.adp_model.specs.declared.grammar.Sign.{Sign}
use Rattle.adp_model.specs.declared.grammar.Term.{Term}
use Rattle.adp_model.specs.declared.grammar.Term.TheVariants.{Linear, Wide}
use Rattle.adp_model.specs.Parts.{sign_at, term_for}
use Rattle.adp_model.specs.Terms.{KeepsOrder}
use Rattle.adp_model.specs.TermSigns.{HasKnownSign, IsMonotone, ScoreFactorsFrom}
use Rattle.adp_model.specs.GrammarSigns.{known_signs}
use Rattle.adp_model.specs.Checks.{IsChecked}
use Rattle.adp_model.specs.GrammarFaults.{IsNamed, IsFirstFaulty}
use Rattle.grammar_check.specs.CheckedGrammar.{CheckedGrammar, PassesChecks}
use Rattle.lex_product.specs.PairFaults.{HaveUnitScores, IsAdding, AllAddScores, BothAddScores, HasOtherFactor, IsPairFault, NoAlgebra, OtherFactor}
use Rattle.lex_product.specs.PairAnswers.{IsPair}

-- a factor 1 is not negative
pub units_monotone : (factors : List ℤ) (kinds : List Kind) → HaveUnitScores factors kinds → ScoreFactorsFrom (pos 0) factors kinds
units_monotone [] kinds h = tt
units_monotone (factor ∷ factors) [] h = tt
units_monotone (factor ∷ factors) (Score ∷ kinds) h = (omega (arith, ints, h.0), units_monotone factors kinds h.1)
units_monotone (factor ∷ factors) (Token ∷ kinds) h = units_monotone factors kinds h

-- so a term that adds scores as they are is monotone, whatever is known of signs
adding_monotone : (known : Kind → Bool) (term : Term) (kinds : List Kind) → IsAdding term kinds → IsMonotone known term kinds
adding_monotone known (Linear term) kinds h = units_monotone term.factors kinds h
adding_monotone known (Wide term) kinds h = absurd h

-- what the law on monotone terms says
abbrev pub MonotoneKeeps : Type 0
MonotoneKeeps = (known : Kind → Bool) (term : Term) (kinds : List Kind) → IsMonotone known term kinds → KeepsOrder (HasKnownSign known) term kinds

-- what the checks find is the same under the other algebra
pub IsChecked-other : (grammar : Grammar) (first second : ℕ) (least : List ℕ) (greatest : List (Option ℕ)) (ranks : List ℕ)
    → IsChecked grammar first least greatest ranks → second < length grammar.algebras
    → MonotoneKeeps
    → AllAddScores grammar first second → IsChecked grammar second least greatest ranks
IsChecked-other grammar first second least greatest ranks found known keeps adding = record {
  well_formed = found.well_formed;
  algebra_known = known;
  least_each = found.least_each;
  greatest_each = found.greatest_each;
  ranks_each = found.ranks_each;
  least_are = found.least_are;
  greatest_are = found.greatest_are;
  ranks_fall = found.ranks_fall;
  ranks_fit = found.ranks_fit;
  possible = found.possible;
  orderly = λ sign inside. keeps (known_signs grammar second) (term_for grammar second sign) (sign_at grammar sign).kinds
      (adding_monotone (known_signs grammar second) (term_for grammar second sign) (sign_at grammar sign).kinds (adding sign inside).1);
}

-- the checks under the other algebra
pub PassesChecks-other : (first : CheckedGrammar) (copy : Grammar) (algebra : ℕ) → PassesChecks first → copy ≡ first.grammar → algebra < length first.grammar.algebras
    → MonotoneKeeps
    → AllAddScores first.grammar first.algebra algebra → PassesChecks (record first { grammar = copy; algebra = algebra })
PassesChecks-other first copy algebra passes same known keeps adding =
    subst (λ g. PassesChecks (record first { grammar = g; algebra = algebra })) (sym same) (record {
      found = IsChecked-other first.grammar first.algebra algebra _ _ _ passes.found known keeps adding;
      anchored = passes.anchored;
    })

pub unknown_fault : (grammar : Grammar) (first : ℕ) (name : List ℕ) (fault : GrammarFault) → ((algebra : ℕ) → IsNamed grammar name algebra → ⊥) → fault ≡ record { kind = 1; name = name }
    → IsPairFault grammar first name fault
unknown_fault grammar first name fault none is = subst (IsPairFault grammar first name) (sym is) (NoAlgebra none)

pub factor_fault : (grammar : Grammar) (first : ℕ) (name : List ℕ) (second sign : ℕ) (text : List ℕ) (fault : GrammarFault) → IsNamed grammar name second
    → IsFirstFaulty (HasOtherFactor grammar first second) (BothAddScores grammar first second) (length grammar.signs) sign
    → text ≡ (sign_at grammar sign).name → fault ≡ record { kind = 6; name = text } → IsPairFault grammar first name fault
factor_fault grammar first name second sign text fault named faulty same is =
    subst (IsPairFault grammar first name) (sym (is ∙ ap (λ n. record { kind = 6; name = n }) same)) (OtherFactor second sign named faulty)

-- ---- what the code answers, where it reads the grammar and the algebra of the first

module _ (first : CheckedGrammar) (grammar : Grammar) (own : ℕ) (grammar_is : grammar ≡ first.grammar) (own_is : own ≡ first.algebra) where
  pub no_algebra : (name : List ℕ) (fault : GrammarFault) → ((algebra : ℕ) → IsNamed grammar name algebra → ⊥) → fault ≡ record { kind = 1; name = name }
      → IsPairFault first.grammar first.algebra name fault
  no_algebra name fault none is = unknown_fault first.grammar first.algebra name fault (subst (λ g. (algebra : ℕ) → IsNamed g name algebra → ⊥) grammar_is none) is

  pub other_factor : (name : List ℕ) (second sign : ℕ) (signs : List Sign) (text : List ℕ) (fault : GrammarFault) → IsNamed grammar name second
      → IsFirstFaulty (HasOtherFactor grammar own second) (BothAddScores grammar own second) (length grammar.signs) sign
      → signs ≡ grammar.signs → text ≡ (slice_index_or signs sign
      (record { name = []; kinds = [] })).name → fault ≡ record { kind = 6; name = text } → IsPairFault first.grammar first.algebra name fault
  other_factor name second sign signs text fault named faulty signs_are text_is is =
      factor_fault first.grammar first.algebra name second sign text fault (subst (λ g. IsNamed g name second) grammar_is named)
      (subst (λ a. IsFirstFaulty (HasOtherFactor first.grammar a second) (BothAddScores first.grammar a second) (length first.grammar.signs) sign) own_is
      (subst (λ g. IsFirstFaulty (HasOtherFactor g own second) (BothAddScores g own second) (length g.signs) sign) grammar_is faulty))
      (text_is ∙ ap (λ (ss : List Sign). (slice_index_or ss sign (record { name = []; kinds = [] })).name) (signs_are ∙ ap (λ (g : Grammar). g.signs) grammar_is))
      is

  pub all_add : (second : ℕ) → AllAddScores grammar own second → AllAddScores first.grammar first.algebra second
  all_add second adding = subst (λ a. AllAddScores first.grammar a second) own_is (subst (λ g. AllAddScores g own second) grammar_is adding)

  pub named_so : (name : List ℕ) (second : ℕ) → IsNamed grammar name second → IsNamed first.grammar name second
  named_so name second named = subst (λ g. IsNamed g name second) grammar_is named

-- the pair that is made
pub made_pair : (first second : CheckedGrammar) (copy : Grammar) (algebra : ℕ) (name : List ℕ) → copy ≡ first.grammar → second ≡ record first { grammar = copy; algebra = algebra }
    → IsNamed first.grammar name algebra → AllAddScores first.grammar first.algebra algebra → IsNamed first.grammar name second.algebra × IsPair first second
made_pair first second copy algebra name same is named adding =
    let known : second.algebra ≡ algebra = ap (λ (k : CheckedGrammar). k.algebra) is in
    let whole : second ≡ record first { algebra = algebra } = is ∙ ap (λ g. record first { grammar = g; algebra = algebra }) same in (
      subst (IsNamed first.grammar name) (sym known) named,
      record {
        other = whole ∙ ap (λ a. record first { algebra = a }) (sym known);
        adding = subst (AllAddScores first.grammar first.algebra) (sym known) adding;
      },
    )
