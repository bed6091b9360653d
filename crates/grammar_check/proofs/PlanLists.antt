-- The plan of a grammar, one item at a time.
use Rattle.std.proofs.Common.{None, ◌≡◌, ℕ, ◌+◌, ◌<◌, List, [], ◌∷◌, length, slice_index_or, refl, sym, ap, subst, ◌∙◌, ◌≤◌, arith}
use Rattle.std.proofs.lemmas.List.{get_or_read, get_or_default}
use Rattle.adp_model.specs.declared.grammar.Alt.{Alt}
use Rattle.adp_model.specs.declared.grammar.Rule as rules
use Rattle.adp_model.specs.Parts.{alternatives_of, alternative_at, arguments_of}
use Rattle.adp_model.specs.declared.grammar.Arg.{Arg}
use Rattle.adp_model.specs.declared.grammar.Grammar.{Grammar}
use Rattle.grammar_check.specs.declared.measure.Measure.{Measure}
use Rattle.grammar_check.specs.GrammarPlans.{Lengths, HasFewLeaves, wide_in, parts_in}

pub length-parts : (grammar : Grammar) (measure : Measure) (lengths : Lengths) (sign place : ℕ) (arguments : List Arg) → length (parts_in grammar measure lengths sign place arguments) ≡ length arguments
length-parts grammar measure lengths sign place [] = refl
length-parts grammar measure lengths sign place (argument ∷ arguments) =
    let rest = length-parts grammar measure lengths sign (place + 1) arguments in omega arith

-- the alternatives of a rule have few arguments, where all of the grammar do
pub few_at : (grammar : Grammar) → ((rule alternative : ℕ) → length (arguments_of grammar rule alternative) ≤ 4) → (number : ℕ) (rule : rules.Rule) (alternatives : List Alt) → number < length grammar.rules → rule ≡ slice_index_or grammar.rules number rule → alternatives ≡ rule.alts → (k : ℕ) (d : Alt) → k < length alternatives → length (slice_index_or alternatives k d).args ≤ 4
few_at grammar few number rule alternatives inside rule_is alternatives_are k d in_range =
    let at : rule ≡ slice_index_or grammar.rules number (record { name = []; alts = [] }) = get_or_read grammar.rules number rule inside rule_is (record { name = []; alts = [] }) in
    let same : alternatives ≡ (slice_index_or grammar.rules number (record { name = []; alts = [] })).alts = alternatives_are ∙ ap (λ (r : rules.Rule). r.alts) at in
    subst (λ (a : Alt). length a.args ≤ 4) (get_or_default alternatives k (record { sign = 0; args = []; size = None }) d in_range)
    (subst (λ (alts : List Alt). length (slice_index_or alts k (record { sign = 0; args = []; size = None })).args ≤ 4) (sym same) (few number k))

-- so have they few leaves in their terms
pub leaves_at : (grammar : Grammar) (measure : Measure) → ((rule alternative : ℕ) → alternative < length (alternatives_of grammar rule) → HasFewLeaves (wide_in grammar measure (alternative_at grammar rule alternative).sign)) → (number : ℕ) (rule : rules.Rule) (alternatives : List Alt) → number < length grammar.rules → rule ≡ slice_index_or grammar.rules number rule → alternatives ≡ rule.alts → (k : ℕ) (d : Alt) → k < length alternatives → HasFewLeaves (wide_in grammar measure (slice_index_or alternatives k d).sign)
leaves_at grammar measure few number rule alternatives inside rule_is alternatives_are k d in_range =
    let at : rule ≡ slice_index_or grammar.rules number (record { name = []; alts = [] }) = get_or_read grammar.rules number rule inside rule_is (record { name = []; alts = [] }) in
    let same : alternatives ≡ (slice_index_or grammar.rules number (record { name = []; alts = [] })).alts = alternatives_are ∙ ap (λ (r : rules.Rule). r.alts) at in
    subst (λ (a : Alt). HasFewLeaves (wide_in grammar measure a.sign)) (get_or_default alternatives k (record { sign = 0; args = []; size = None }) d in_range)
    (subst (λ (alts : List Alt). HasFewLeaves (wide_in grammar measure (slice_index_or alts k (record { sign = 0; args = []; size = None })).sign)) (sym same) (few number k (subst (λ (alts : List Alt). k < length alts) same in_range)))
