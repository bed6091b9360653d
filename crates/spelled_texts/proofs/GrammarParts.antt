-- What a well-formed grammar keeps, part by part.
use Rattle.std.proofs.Common.{◌≡◌, ℕ, zero, suc, ◌<◌, ◌≤◌, Bool, true, ◌&&◌, nat_le, nat_lt, ◌==◌, Option, Some, None, List, [], ◌∷◌, length, map, get_or, arith, ltb-true, leb-true, eqb-true}
use Rattle.std.specs.List.{list_all, zip, AllByRecursion}
use Rattle.std.proofs.lemmas.Bool.{and_parts}
use Rattle.adp_model.specs.declared.grammar.Class.{Class}
use Rattle.adp_model.specs.declared.grammar.Kind.{Kind}
use Rattle.adp_model.specs.declared.grammar.Kind.TheVariants as kinds
use Rattle.adp_model.specs.declared.grammar.Sign.{Sign}
use Rattle.adp_model.specs.declared.grammar.Algebra.{Algebra}
use Rattle.adp_model.specs.declared.grammar.Arg.{Arg}
use Rattle.adp_model.specs.declared.grammar.Arg.TheVariants as args
use Rattle.adp_model.specs.declared.grammar.Alt.{Alt}
use Rattle.adp_model.specs.declared.grammar.Size.{Size}
use Rattle.adp_model.specs.declared.grammar.Rule as rules
use Rattle.adp_model.specs.declared.grammar.Grammar.{Grammar}
use Rattle.adp_model.specs.Printable.{is_printable_byte}
use Rattle.adp_model.specs.Parts.{class_at, sign_at, rule_at}
use Rattle.job_texts.specs.Spelling.{class_name, rule_name}
use Rattle.adp_model.specs.WellFormed.{is_name, are_distinct, is_class, is_sign, is_algebra, is_term, is_argument, is_alternative, is_rule, is_high_bound, is_size, counts_fit, names_differ, parts_fit, is_well_formed}
use Rattle.spelled_texts.proofs.ClassLines.{class_parts}
use Rattle.spelled_texts.proofs.SignLines.{sign_parts}
use Rattle.spelled_texts.proofs.Terms.{is_of_form}
use Rattle.spelled_texts.proofs.RuleLines.{IsHigh, IsSize, IsSpellable, IsAlternative, IsRule}

abbrev pub name_of_class : Class → List ℕ
name_of_class class = class.name

abbrev pub name_of_sign : Sign → List ℕ
name_of_sign sign = sign.name

abbrev pub name_of_algebra : Algebra → List ℕ
name_of_algebra algebra = algebra.name

abbrev pub name_of_rule : rules.Rule → List ℕ
name_of_rule rule = rule.name

-- the facts of a well-formed grammar
pub record IsFormed (grammar : Grammar) : Type 0 where
  pub few_classes : length grammar.classes ≤ 64
  pub few_signs : length grammar.signs ≤ 256
  pub some_algebras : 1 ≤ length grammar.algebras
  pub few_algebras : length grammar.algebras ≤ 16
  pub few_rules : length grammar.rules ≤ 128
  pub axiom_known : grammar.axiom < length grammar.rules
  pub class_names : are_distinct (map name_of_class grammar.classes) ≡ true
  pub sign_names : are_distinct (map name_of_sign grammar.signs) ≡ true
  pub algebra_names : are_distinct (map name_of_algebra grammar.algebras) ≡ true
  pub rule_names : are_distinct (map name_of_rule grammar.rules) ≡ true
  pub classes : list_all is_class grammar.classes ≡ true
  pub signs : list_all is_sign grammar.signs ≡ true
  pub algebras : list_all (is_algebra grammar.signs) grammar.algebras ≡ true
  pub rules : list_all (is_rule grammar) grammar.rules ≡ true

pub formed : (grammar : Grammar) → is_well_formed grammar ≡ true → IsFormed grammar
formed grammar h =
    let whole = and_parts (counts_fit grammar && names_differ grammar) (parts_fit grammar) h in
    let front = and_parts (counts_fit grammar) (names_differ grammar) whole.0 in
    let classes_few = nat_le (length grammar.classes) 64 in
    let signs_few = nat_le (length grammar.signs) 256 in
    let some_algebra = nat_le 1 (length grammar.algebras) in
    let algebras_few = nat_le (length grammar.algebras) 16 in
    let rules_few = nat_le (length grammar.rules) 128 in
    let c5 = and_parts (classes_few && signs_few && some_algebra && algebras_few && rules_few) (nat_lt grammar.axiom (length grammar.rules)) front.0 in
    let c4 = and_parts (classes_few && signs_few && some_algebra && algebras_few) rules_few c5.0 in
    let c3 = and_parts (classes_few && signs_few && some_algebra) algebras_few c4.0 in
    let c2 = and_parts (classes_few && signs_few) some_algebra c3.0 in
    let c1 = and_parts classes_few signs_few c2.0 in
    let class_names = are_distinct (map name_of_class grammar.classes) in
    let sign_names = are_distinct (map name_of_sign grammar.signs) in
    let algebra_names = are_distinct (map name_of_algebra grammar.algebras) in
    let n3 = and_parts (class_names && sign_names && algebra_names) (are_distinct (map name_of_rule grammar.rules)) front.1 in
    let n2 = and_parts (class_names && sign_names) algebra_names n3.0 in
    let n1 = and_parts class_names sign_names n2.0 in
    let class_fit = list_all is_class grammar.classes in
    let sign_fit = list_all is_sign grammar.signs in
    let algebra_fit = list_all (is_algebra grammar.signs) grammar.algebras in
    let p3 = and_parts (class_fit && sign_fit && algebra_fit) (list_all (is_rule grammar) grammar.rules) whole.1 in
    let p2 = and_parts (class_fit && sign_fit) algebra_fit p3.0 in
    let p1 = and_parts class_fit sign_fit p2.0 in
    record {
      few_classes = leb-true _ _ c1.0;
      few_signs = leb-true _ _ c1.1;
      some_algebras = leb-true _ _ c2.1;
      few_algebras = leb-true _ _ c3.1;
      few_rules = leb-true _ _ c4.1;
      axiom_known = ltb-true _ _ c5.1;
      class_names = n1.0;
      sign_names = n1.1;
      algebra_names = n2.1;
      rule_names = n3.1;
      classes = p1.0;
      signs = p1.1;
      algebras = p2.1;
      rules = p3.1;
    }

-- what all items keep, the item at a place keeps
pub kept_in : {X : Type 0} (test : X → Bool) (xs : List X) (i : ℕ) (default : X) → list_all test xs ≡ true → i < length xs → test (get_or xs i default) ≡ true
kept_in test [] i default h inside = absurd (omega arith)
kept_in test (x ∷ xs) zero default h inside = (and_parts (test x) (list_all test xs) h).0
kept_in test (x ∷ xs) (suc i) default h inside = kept_in test xs i default (and_parts (test x) (list_all test xs) h).1 (omega arith)

-- ---- algebras

-- an algebra of these signs
pub record IsAlgebra (signs : List Sign) (algebra : Algebra) : Type 0 where
  pub named : is_name algebra.name ≡ true
  pub counted : length algebra.terms ≡ length signs
  pub terms : list_all is_term (zip signs algebra.terms) ≡ true

-- all terms of an algebra have the form of those of this format
abbrev pub has_form : ℕ → Algebra → Bool
has_form version algebra = list_all (is_of_form version) algebra.terms

pub algebra_parts : (signs : List Sign) (algebra : Algebra) → is_algebra signs algebra ≡ true → IsAlgebra signs algebra
algebra_parts signs algebra h =
    let last = and_parts (is_name algebra.name && length algebra.terms == length signs) (list_all is_term (zip signs algebra.terms)) h in
    let first = and_parts (is_name algebra.name) (length algebra.terms == length signs) last.0 in
    record { named = first.0; counted = eqb-true _ _ first.1; terms = last.1 }

-- ---- rules

-- what is known of an argument
abbrev pub IsArgument : Grammar → Arg → Type 0
IsArgument grammar (args.Rule rule) = rule < length grammar.rules
IsArgument grammar (args.Literal text) = list_all is_printable_byte text ≡ true
IsArgument grammar (args.Letter class) = class < length grammar.classes
IsArgument grammar (args.Run class low high) = (class < length grammar.classes) × (low ≤ 1000000) × IsHigh low high

high_fits : (low : ℕ) (high : Option ℕ) → is_high_bound low high ≡ true → IsHigh low high
high_fits low None h = tt
high_fits low (Some high) h =
    let parts = and_parts (nat_le low high) (nat_le high 1000000) h in
    (leb-true _ _ parts.0, leb-true _ _ parts.1)

size_fits : (size : Option Size) → is_size size ≡ true → IsSize size
size_fits None h = tt
size_fits (Some size) h =
    let parts = and_parts (nat_le size.low 1000000) (is_high_bound size.low size.high) h in
    (leb-true _ _ parts.0, high_fits size.low size.high parts.1)

argument_fits : (grammar : Grammar) (kind : Kind) (argument : Arg) → is_argument grammar (kind, argument) ≡ true → IsArgument grammar argument
argument_fits grammar kinds.Score (args.Rule rule) h = ltb-true _ _ h
argument_fits grammar kinds.Score (args.Literal text) h = absurd cc
argument_fits grammar kinds.Score (args.Letter class) h = absurd cc
argument_fits grammar kinds.Score (args.Run class low high) h = absurd cc
argument_fits grammar kinds.Token (args.Rule rule) h = absurd cc
argument_fits grammar kinds.Token (args.Literal text) h = h
argument_fits grammar kinds.Token (args.Letter class) h = ltb-true _ _ h
argument_fits grammar kinds.Token (args.Run class low high) h =
    let last = and_parts (nat_lt class (length grammar.classes) && nat_le low 1000000) (is_high_bound low high) h in
    let first = and_parts (nat_lt class (length grammar.classes)) (nat_le low 1000000) last.0 in
    (ltb-true _ _ first.0, leb-true _ _ first.1, high_fits low high last.1)

arguments_fit : (grammar : Grammar) (kinds : List Kind) (arguments : List Arg) → length arguments ≡ length kinds → list_all (is_argument grammar) (zip kinds arguments) ≡ true
    → AllByRecursion (IsArgument grammar) arguments
arguments_fit grammar kinds [] counted h = tt
arguments_fit grammar [] (argument ∷ arguments) counted h = absurd (omega arith)
arguments_fit grammar (kind ∷ kinds) (argument ∷ arguments) counted h =
    let parts = and_parts (is_argument grammar (kind, argument)) (list_all (is_argument grammar) (zip kinds arguments)) h in
    (argument_fits grammar kind argument parts.0, arguments_fit grammar kinds arguments (omega arith) parts.1)

-- what is known of an alternative
pub record Fits (grammar : Grammar) (alternative : Alt) : Type 0 where
  pub bounded : IsSize alternative.size
  pub known : alternative.sign < length grammar.signs
  pub counted : length alternative.args ≡ length (sign_at grammar alternative.sign).kinds
  pub fit : list_all (is_argument grammar) (zip (sign_at grammar alternative.sign).kinds alternative.args) ≡ true
  pub arguments : AllByRecursion (IsArgument grammar) alternative.args

alternative_fits : (grammar : Grammar) (alternative : Alt) → is_alternative grammar alternative ≡ true → Fits grammar alternative
alternative_fits grammar alternative h =
    let in_signs = nat_lt alternative.sign (length grammar.signs) in
    let kinds = (sign_at grammar alternative.sign).kinds in
    let last = and_parts (is_size alternative.size && in_signs && length alternative.args == length kinds) (list_all (is_argument grammar) (zip kinds alternative.args)) h in
    let second = and_parts (is_size alternative.size && in_signs) (length alternative.args == length kinds) last.0 in
    let first = and_parts (is_size alternative.size) in_signs second.0 in
    let counted : length alternative.args ≡ length kinds = eqb-true _ _ second.1 in
    record {
      bounded = size_fits alternative.size first.0;
      known = ltb-true _ _ first.1;
      counted = counted;
      fit = last.1;
      arguments = arguments_fit grammar kinds alternative.args counted last.1;
    }

alternatives_fit : (grammar : Grammar) (alternatives : List Alt) → list_all (is_alternative grammar) alternatives ≡ true → AllByRecursion (Fits grammar) alternatives
alternatives_fit grammar [] h = tt
alternatives_fit grammar (alternative ∷ alternatives) h =
    let parts = and_parts (is_alternative grammar alternative) (list_all (is_alternative grammar) alternatives) h in
    (alternative_fits grammar alternative parts.0, alternatives_fit grammar alternatives parts.1)

-- what is known of a rule
pub record FitsRule (grammar : Grammar) (rule : rules.Rule) : Type 0 where
  pub named : is_name rule.name ≡ true
  pub some : 1 ≤ length rule.alts
  pub few : length rule.alts ≤ 64
  pub each : AllByRecursion (Fits grammar) rule.alts

pub rule_fits : (grammar : Grammar) (rule : rules.Rule) → is_rule grammar rule ≡ true → FitsRule grammar rule
rule_fits grammar rule h =
    let last = and_parts (is_name rule.name && nat_le 1 (length rule.alts) && nat_le (length rule.alts) 64) (list_all (is_alternative grammar) rule.alts) h in
    let third = and_parts (is_name rule.name && nat_le 1 (length rule.alts)) (nat_le (length rule.alts) 64) last.0 in
    let first = and_parts (is_name rule.name) (nat_le 1 (length rule.alts)) third.0 in
    record { named = first.0; some = leb-true _ _ first.1; few = leb-true _ _ third.1; each = alternatives_fit grammar rule.alts last.1 }

-- ---- the names that arguments and alternatives are spelled with

module _ (grammar : Grammar) (formed : IsFormed grammar) where
  pub rule_named : (rule : ℕ) → rule < length grammar.rules → is_name (rule_name grammar rule) ≡ true
  rule_named rule known = (rule_fits grammar (rule_at grammar rule) (kept_in (is_rule grammar) grammar.rules rule (record { name = []; alts = [] }) formed.rules known)).named

  pub class_named : (class : ℕ) → class < length grammar.classes → is_name (class_name grammar class) ≡ true
  class_named class known = (class_parts (class_at grammar class) (kept_in is_class grammar.classes class (record { name = []; letters = [] }) formed.classes known)).named

  spellable_argument : (argument : Arg) → IsArgument grammar argument → IsSpellable grammar argument
  spellable_argument (args.Rule rule) is = rule_named rule is
  spellable_argument (args.Literal text) is = is
  spellable_argument (args.Letter class) is = class_named class is
  spellable_argument (args.Run class low high) is = (class_named class is.0, is.1, is.2)

  spellable_arguments : (arguments : List Arg) → AllByRecursion (IsArgument grammar) arguments → AllByRecursion (IsSpellable grammar) arguments
  spellable_arguments [] are = tt
  spellable_arguments (argument ∷ arguments) are = (spellable_argument argument are.0, spellable_arguments arguments are.1)

  spellable_alternative : (alternative : Alt) → Fits grammar alternative → IsAlternative grammar alternative
  spellable_alternative alternative is =
      let sign = sign_parts (sign_at grammar alternative.sign) (kept_in is_sign grammar.signs alternative.sign (record { name = []; kinds = [] }) formed.signs is.known) in
      let some = sign.some in
      let counted = is.counted in
      record { named = sign.named; some = omega arith; spellable = spellable_arguments alternative.args is.arguments; bounded = is.bounded }

  spellable_alternatives : (alternatives : List Alt) → AllByRecursion (Fits grammar) alternatives → AllByRecursion (IsAlternative grammar) alternatives
  spellable_alternatives [] are = tt
  spellable_alternatives (alternative ∷ alternatives) are = (spellable_alternative alternative are.0, spellable_alternatives alternatives are.1)

  pub spellable_rule : (rule : rules.Rule) → FitsRule grammar rule → IsRule grammar rule
  spellable_rule rule is = record { named = is.named; some = is.some; each = spellable_alternatives rule.alts is.each }
