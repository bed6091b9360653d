-- The arguments of a well-formed grammar name rules and classes that are there.
use Rattle.std.proofs.Common.{None, ◌≡◌, ℕ, true, ◌&&◌, nat_le, nat_lt, ◌==◌, IsTrue, List, [], ◌∷◌, length, arith, ltb-true, eqb-true}
use Rattle.std.specs.List.{AllByRecursion, list_all, zip}
use Rattle.adp_model.specs.declared.grammar.Kind.{Kind}
use Rattle.adp_model.specs.declared.grammar.Kind.TheVariants.{Score, Token}
use Rattle.adp_model.specs.declared.grammar.Arg.{Arg}
use Rattle.adp_model.specs.declared.grammar.Arg.TheVariants.{Rule, Literal, Letter, Run}
use Rattle.adp_model.specs.declared.grammar.Alt.{Alt}
use Rattle.adp_model.specs.declared.grammar.Grammar.{Grammar}
use Rattle.adp_model.specs.Parts.{sign_at, alternatives_of, arguments_of}
use Rattle.adp_model.specs.WellFormed.{IsKnown, is_argument, is_size, is_alternative, is_high_bound, is_well_formed}
use Rattle.adp_model.proofs.WellFormedParts.{and_first, and_second, kept_at, alternatives-formed}

known_argument : (grammar : Grammar) (kind : Kind) (argument : Arg) → is_argument grammar (kind, argument) ≡ true → IsKnown grammar argument
known_argument grammar Score (Rule rule) h = ltb-true _ _ h
known_argument grammar Score (Literal text) h = tt
known_argument grammar Score (Letter class) h = absurd cc
known_argument grammar Score (Run class low high) h = absurd cc
known_argument grammar Token (Rule rule) h = absurd cc
known_argument grammar Token (Literal text) h = tt
known_argument grammar Token (Letter class) h = ltb-true _ _ h
known_argument grammar Token (Run class low high) h =
    ltb-true _ _ (and_first (nat_lt class (length grammar.classes)) (nat_le low 1000000) (and_first (nat_lt class (length grammar.classes) && nat_le low 1000000) (is_high_bound low high) h))

known_arguments : (grammar : Grammar) (kinds : List Kind) (arguments : List Arg) → length arguments ≡ length kinds → list_all (is_argument grammar) (zip kinds arguments) ≡ true → AllByRecursion (IsKnown grammar) arguments
known_arguments grammar kinds [] e h = tt
known_arguments grammar [] (argument ∷ arguments) e h = absurd (omega arith)
known_arguments grammar (kind ∷ kinds) (argument ∷ arguments) e h =
    let first = is_argument grammar (kind, argument) in
    let others = list_all (is_argument grammar) (zip kinds arguments) in
    (known_argument grammar kind argument (and_first first others h), known_arguments grammar kinds arguments (omega arith) (and_second first others h))

known_alternative : (grammar : Grammar) (alternative : Alt) → is_alternative grammar alternative ≡ true → AllByRecursion (IsKnown grammar) alternative.args
known_alternative grammar alternative k =
    let kinds = (sign_at grammar alternative.sign).kinds in
    let in_signs = is_size alternative.size && nat_lt alternative.sign (length grammar.signs) in
    let counted = length alternative.args == length kinds in
    let fit = list_all (is_argument grammar) (zip kinds alternative.args) in
    known_arguments grammar kinds alternative.args (eqb-true _ _ (and_second in_signs counted (and_first (in_signs && counted) fit k))) (and_second (in_signs && counted) fit k)

-- each argument of an alternative is known
pub known_in_alternatives : (grammar : Grammar) → IsTrue (is_well_formed grammar) → (rule alternative : ℕ) → AllByRecursion (IsKnown grammar) (arguments_of grammar rule alternative)
known_in_alternatives grammar h rule alternative =
    kept_at (is_alternative grammar) (λ a. AllByRecursion (IsKnown grammar) a.args) (known_alternative grammar) (alternatives_of grammar rule) alternative (record { sign = 0; args = []; size = None }) (alternatives-formed grammar h rule) tt
