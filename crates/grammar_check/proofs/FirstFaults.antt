-- Which fault a grammar has, from what the checks answered.
use Rattle.std.proofs.Common.{◌≡◌, ℕ, ◌<◌, Bool, MatchBool, Option, Some, None, Err, List, [], length, slice_index_or, refl, sym, ap, subst, ◌∙◌, arith}
use Rattle.std.proofs.lemmas.List.{get_or_default}
use Rattle.adp_model.specs.declared.grammar.Sign.{Sign}
use Rattle.adp_model.specs.declared.grammar.Rule as rules
use Rattle.adp_model.specs.declared.grammar.Grammar.{Grammar}
use Rattle.adp_model.specs.Parts.{sign_at}
use Rattle.adp_model.specs.Lengths.{IsProductive}
use Rattle.adp_model.specs.GrammarSigns.{HasMonotoneTerm}
use Rattle.adp_model.specs.GrammarFaults.{rule_name, IsNamed, IsFirstFaulty, IsUnproductive, HasOtherTerm, IsGrammarFault, NoAlgebra, Unproductive, Loop, NotMonotone}
use Rattle.yield_sizes.specs.KnownLengths.{AreProductive}
use Rattle.yield_sizes.specs.LoopAnswers.{IsLoopFree, IsFirstOnLoop}
use Rattle.grammar_check.specs.declared.error.CheckError.{CheckError}
use Rattle.grammar_check.specs.declared.error.CheckError.TheVariants.{Fault, Memory}
use Rattle.grammar_check.specs.CheckAnswers.{IsFirstFalse, IsFirstUnproductive, IsRefusal, MatchFaultless}

-- the refusal of a name that is known by another term
pub faulty : (grammar : Grammar) (asked : List ℕ) (kind : ℕ) (name name' : List ℕ) (error : CheckError) → name ≡ name' → IsRefusal kind name error → IsGrammarFault grammar asked (record { kind = kind; name = name' }) → MatchFaultless grammar asked (Err error)
faulty grammar asked kind name name' (Fault fault) same is h = subst (IsGrammarFault grammar asked) (sym (is ∙ ap (λ n. record { kind = kind; name = n }) same)) h
faulty grammar asked kind name name' Memory same is h = tt

pub no_algebra : (grammar : Grammar) (name : List ℕ) (error : CheckError) → ((algebra : ℕ) → IsNamed grammar name algebra → ⊥) → IsRefusal 1 name error → MatchFaultless grammar name (Err error)
no_algebra grammar name error none is = faulty grammar name 1 name name error refl is (NoAlgebra none)

pub rule_read : (grammar : Grammar) (rules' : List rules.Rule) (rule : ℕ) (read : rules.Rule) → rules' ≡ grammar.rules → rule < length grammar.rules → (slice_index_or rules' rule read).name ≡ rule_name grammar rule
rule_read grammar rules' rule read same inside =
    ap (λ (rs : List rules.Rule). (slice_index_or rs rule read).name) same ∙ ap (λ (r : rules.Rule). r.name) (get_or_default grammar.rules rule read (record { name = []; alts = [] }) inside)

pub sign_read : (grammar : Grammar) (signs : List Sign) (sign : ℕ) (read : Sign) → signs ≡ grammar.signs → sign < length grammar.signs → (slice_index_or signs sign read).name ≡ (sign_at grammar sign).name
sign_read grammar signs sign read same inside =
    ap (λ (ss : List Sign). (slice_index_or ss sign read).name) same ∙ ap (λ (s : Sign). s.name) (get_or_default grammar.signs sign read (record { name = []; kinds = [] }) inside)

pub unproductive_told : (grammar : Grammar) (flags : List Bool) (found : Option ℕ) → AreProductive grammar flags → IsFirstFalse flags found → IsFirstUnproductive grammar found
unproductive_told grammar flags None told none = λ rule inside.
    subst (λ b. MatchBool b (IsProductive grammar rule) (IsProductive grammar rule → ⊥)) (none rule (let e = told.each in omega arith)) (told.told rule inside)
unproductive_told grammar flags (Some rule) told first =
    let inside : rule < length grammar.rules = (let e = told.each in omega (arith, first.0)) in
    record {
      in_range = inside;
      faulty = subst (λ b. MatchBool b (IsProductive grammar rule) (IsProductive grammar rule → ⊥)) first.1 (told.told rule inside);
      before = λ other less. subst (λ b. MatchBool b (IsProductive grammar other) (IsProductive grammar other → ⊥)) (first.2 other less) (told.told other (omega arith));
    }

pub unproductive_fault : (grammar : Grammar) (asked : List ℕ) (algebra rule : ℕ) (name : List ℕ) (error : CheckError) → IsNamed grammar asked algebra → IsFirstFaulty (IsUnproductive grammar) (IsProductive grammar) (length grammar.rules) rule → name ≡ rule_name grammar rule → IsRefusal 2 name error → MatchFaultless grammar asked (Err error)
unproductive_fault grammar asked algebra rule name error named first same is = faulty grammar asked 2 name (rule_name grammar rule) error same is (Unproductive algebra rule named first)

pub loop_fault : (grammar : Grammar) (asked : List ℕ) (algebra rule : ℕ) (name : List ℕ) (error : CheckError) → IsNamed grammar asked algebra → ((other : ℕ) → other < length grammar.rules → IsProductive grammar other) → IsFirstOnLoop grammar rule → name ≡ rule_name grammar rule → IsRefusal 3 name error → MatchFaultless grammar asked (Err error)
loop_fault grammar asked algebra rule name error named productive first same is =
    faulty grammar asked 3 name (rule_name grammar rule) error same is (Loop algebra rule named productive (record { in_range = first.in_range; faulty = first.on_loop; before = first.first }))

pub term_fault : (grammar : Grammar) (asked : List ℕ) (algebra sign : ℕ) (name : List ℕ) (error : CheckError) → IsNamed grammar asked algebra → ((other : ℕ) → other < length grammar.rules → IsProductive grammar other) → IsLoopFree grammar → IsFirstFaulty (HasOtherTerm grammar algebra) (HasMonotoneTerm grammar algebra) (length grammar.signs) sign → name ≡ (sign_at grammar sign).name → IsRefusal 4 name error → MatchFaultless grammar asked (Err error)
term_fault grammar asked algebra sign name error named productive free first same is =
    faulty grammar asked 4 name (sign_at grammar sign).name error same is (NotMonotone algebra sign named productive (λ rule inside. free rule) first)
