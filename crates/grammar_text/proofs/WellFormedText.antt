-- The grammar that the lines of a text without a fault declare is well-formed.
use Rattle.std.proofs.Common.{◌≡◌, ℕ, ◌+◌, ◌<◌, ◌≤◌, true, false, ◌&&◌, not, nat_le, nat_lt, Some, None, is_some, List, [], length, map, slice_index_or, refl, sym, ◌∙◌, ap, subst, arith, lit<}
use Rattle.std.specs.List.{list_all, list_any, filter_map, find, flat_map, AllByRecursion}
use Rattle.std.specs.Option.{option_map}
use Rattle.std.proofs.lemmas.Bool.{and_parts, and_from, not-false, lt-ltb, le-leb, ltb-false}
use Rattle.std.proofs.lemmas.Option.{same_Some}
use Rattle.std.proofs.lemmas.List.{length-map}
use Rattle.adp_model.specs.declared.grammar.Class as classes
use Rattle.adp_model.specs.declared.grammar.Sign as signs
use Rattle.adp_model.specs.declared.grammar.Algebra as algebras
use Rattle.adp_model.specs.declared.grammar.Rule as rules
use Rattle.adp_model.specs.WellFormed.{is_name, is_class, is_sign, is_algebra, is_alternative, is_rule, are_distinct, counts_fit, most_leaves, names_differ, parts_fit, is_well_formed}
use Rattle.job_texts.specs.LetTerms as terms
use Rattle.job_texts.specs.TermText.{is_among}
use Rattle.adp_model.specs.declared.grammar.Grammar.{Grammar}
use Rattle.job_texts.specs.Declarations.{Alternative, Declaration, Class, Sign, Algebra, Let, Rule, Axiom, Words}
use Rattle.job_texts.specs.DeclaredNames.{class_name_of, sign_name_of, algebra_name_of, rule_name_of, class_names, sign_names, algebra_names, rule_names, is_algebra_line}
use Rattle.job_texts.specs.TextFaults.{misnames, repeats, alternative_names, is_axiom_line, uses_unknown, fits_sign, Counted, limited, counts_of, class_letters}
use Rattle.job_texts.specs.JobText.{declared_class, declared_sign, declared_rule, declared_algebras, alternative_of, declared_grammar}
use Rattle.grammar_text.specs.Building.{is_printable_alternative, is_buildable, are_buildable}
use Rattle.grammar_text.proofs.Nothing.{none_passes}
use Rattle.grammar_text.proofs.Faultless.{Each, each_so, IsFaultless, is_over}
use Rattle.grammar_text.proofs.Shapes.{IsShaped}
use Rattle.grammar_text.proofs.Sorts.{each_all, each_part, all_true, each_distinct, each_counted, names_of_parts, number_place, number_within}
use Rattle.grammar_text.proofs.SignKinds.{has_kinds, each_has_kinds, HasOwnKinds}
use Rattle.grammar_text.proofs.AlgebrasKept.{algebras_fit, algebra_names_kept, some_algebra}
use Rattle.grammar_text.proofs.RulesKept.{HasNames, alternatives_fit, axiom_known}
use Rattle.grammar_text.proofs.ClassesKept.{class_fits}

-- no kind of fault stands at the declaration, and its line had its shape
pub record IsSound (all above : List Declaration) (declaration : Declaration) (below : List Declaration) : Type 0 where
  pub faultless : IsFaultless all above declaration below
  pub shaped : IsShaped declaration

-- the declarations of a text without a fault
pub record AreSound (all : List Declaration) : Type 0 where
  pub each : Each (IsSound all) [] all
  pub some_axiom : list_any is_axiom_line all ≡ true
  pub some_algebra_line : list_any is_algebra_line all ≡ true

-- ---- names of parts

abbrev class_name : classes.Class → List ℕ
class_name class = class.name

abbrev pub sign_name : signs.Sign → List ℕ
sign_name sign = sign.name

abbrev rule_name : rules.Rule → List ℕ
rule_name rule = rule.name

class_name_same : (d : Declaration) → option_map class_name (declared_class d) ≡ class_name_of d
class_name_same (Class name items) = refl
class_name_same (Sign name kinds) = refl
class_name_same (Algebra name goal) = refl
class_name_same (Let name variables term) = refl
class_name_same (Rule name alternatives) = refl
class_name_same (Axiom rule) = refl
class_name_same Words = refl

sign_name_same : (d : Declaration) → option_map sign_name (declared_sign d) ≡ sign_name_of d
sign_name_same (Class name items) = refl
sign_name_same (Sign name kinds) = refl
sign_name_same (Algebra name goal) = refl
sign_name_same (Let name variables term) = refl
sign_name_same (Rule name alternatives) = refl
sign_name_same (Axiom rule) = refl
sign_name_same Words = refl

rule_name_same : (all : List Declaration) (d : Declaration) → option_map rule_name (declared_rule all d) ≡ rule_name_of d
rule_name_same all (Class name items) = refl
rule_name_same all (Sign name kinds) = refl
rule_name_same all (Algebra name goal) = refl
rule_name_same all (Let name variables term) = refl
rule_name_same all (Rule name alternatives) = refl
rule_name_same all (Axiom rule) = refl
rule_name_same all Words = refl

class_names_same : (all : List Declaration) → map class_name (filter_map declared_class all) ≡ class_names all
class_names_same all = names_of_parts declared_class class_name class_name_of class_name_same all

pub sign_names_same : (all : List Declaration) → map sign_name (filter_map declared_sign all) ≡ sign_names all
sign_names_same all = names_of_parts declared_sign sign_name sign_name_of sign_name_same all

rule_names_same : (all : List Declaration) → map rule_name (filter_map (declared_rule all) all) ≡ rule_names all
rule_names_same all = names_of_parts (declared_rule all) rule_name rule_name_of (rule_name_same all) all

counted_like : {X : Type 0} (xs : List X) (name : X → List ℕ) (names : List (List ℕ)) → map name xs ≡ names → length xs ≡ length names
counted_like xs name names e = sym (length-map xs name) ∙ ap length e

-- ---- names differ

class_fresh : (all above : List Declaration) (d : Declaration) (below : List Declaration) → IsSound all above d below → (n : List ℕ) → class_name_of d ≡ Some n → is_among (class_names above) n ≡ false
class_fresh all above (Class name items) below h n e = subst (λ m. is_among (class_names above) m ≡ false) (same_Some name n e) h.faultless.fresh
class_fresh all above (Sign name kinds) below h n e = absurd cc
class_fresh all above (Algebra name goal) below h n e = absurd cc
class_fresh all above (Let name variables term) below h n e = absurd cc
class_fresh all above (Rule name alternatives) below h n e = absurd cc
class_fresh all above (Axiom rule) below h n e = absurd cc
class_fresh all above Words below h n e = absurd cc

sign_fresh : (all above : List Declaration) (d : Declaration) (below : List Declaration) → IsSound all above d below → (n : List ℕ) → sign_name_of d ≡ Some n → is_among (sign_names above) n ≡ false
sign_fresh all above (Class name items) below h n e = absurd cc
sign_fresh all above (Sign name kinds) below h n e = subst (λ m. is_among (sign_names above) m ≡ false) (same_Some name n e) h.faultless.fresh
sign_fresh all above (Algebra name goal) below h n e = absurd cc
sign_fresh all above (Let name variables term) below h n e = absurd cc
sign_fresh all above (Rule name alternatives) below h n e = absurd cc
sign_fresh all above (Axiom rule) below h n e = absurd cc
sign_fresh all above Words below h n e = absurd cc

algebra_fresh : (all above : List Declaration) (d : Declaration) (below : List Declaration) → IsSound all above d below → (n : List ℕ) → algebra_name_of d ≡ Some n → is_among (algebra_names above) n ≡ false
algebra_fresh all above (Class name items) below h n e = absurd cc
algebra_fresh all above (Sign name kinds) below h n e = absurd cc
algebra_fresh all above (Algebra name goal) below h n e = subst (λ m. is_among (algebra_names above) m ≡ false) (same_Some name n e) h.faultless.fresh
algebra_fresh all above (Let name variables term) below h n e = absurd cc
algebra_fresh all above (Rule name alternatives) below h n e = absurd cc
algebra_fresh all above (Axiom rule) below h n e = absurd cc
algebra_fresh all above Words below h n e = absurd cc

rule_fresh : (all above : List Declaration) (d : Declaration) (below : List Declaration) → IsSound all above d below → (n : List ℕ) → rule_name_of d ≡ Some n → is_among (rule_names above) n ≡ false
rule_fresh all above (Class name items) below h n e = absurd cc
rule_fresh all above (Sign name kinds) below h n e = absurd cc
rule_fresh all above (Algebra name goal) below h n e = absurd cc
rule_fresh all above (Let name variables term) below h n e = absurd cc
rule_fresh all above (Rule name alternatives) below h n e = subst (λ m. is_among (rule_names above) m ≡ false) (same_Some name n e) h.faultless.fresh
rule_fresh all above (Axiom rule) below h n e = absurd cc
rule_fresh all above Words below h n e = absurd cc

distinct_names : (all : List Declaration) → AreSound all → names_differ (declared_grammar all) ≡ true
distinct_names all h =
    let class_distinct : are_distinct (class_names all) ≡ true = each_distinct class_name_of [] all (each_so (IsSound all) (λ a d b. (n : List ℕ) → class_name_of d ≡ Some n → is_among (class_names a) n ≡ false) (class_fresh all) [] all h.each) refl in
    let sign_distinct : are_distinct (sign_names all) ≡ true = each_distinct sign_name_of [] all (each_so (IsSound all) (λ a d b. (n : List ℕ) → sign_name_of d ≡ Some n → is_among (sign_names a) n ≡ false) (sign_fresh all) [] all h.each) refl in
    let algebra_distinct : are_distinct (algebra_names all) ≡ true = each_distinct algebra_name_of [] all (each_so (IsSound all) (λ a d b. (n : List ℕ) → algebra_name_of d ≡ Some n → is_among (algebra_names a) n ≡ false) (algebra_fresh all) [] all h.each) refl in
    let rule_distinct : are_distinct (rule_names all) ≡ true = each_distinct rule_name_of [] all (each_so (IsSound all) (λ a d b. (n : List ℕ) → rule_name_of d ≡ Some n → is_among (rule_names a) n ≡ false) (rule_fresh all) [] all h.each) refl in
    let class_part : are_distinct (map class_name (filter_map declared_class all)) ≡ true = subst (λ l. are_distinct l ≡ true) (sym (class_names_same all)) class_distinct in
    let sign_part : are_distinct (map sign_name (filter_map declared_sign all)) ≡ true = subst (λ l. are_distinct l ≡ true) (sym (sign_names_same all)) sign_distinct in
    let algebra_part : are_distinct (map (λ (a : algebras.Algebra). a.name) (declared_algebras (sign_names all) all)) ≡ true = subst (λ l. are_distinct l ≡ true) (sym (algebra_names_kept (sign_names all) all)) algebra_distinct in
    let rule_part : are_distinct (map rule_name (filter_map (declared_rule all) all)) ≡ true = subst (λ l. are_distinct l ≡ true) (sym (rule_names_same all)) rule_distinct in
    and_from _ _ (and_from _ _ (and_from _ _ class_part sign_part) algebra_part) rule_part

-- ---- counts

within : (counts : List Counted) (k : ℕ) (default : Counted) → find is_over counts ≡ None → k < length counts → nat_lt (slice_index_or counts k default).limit (slice_index_or counts k default).count ≡ false
within counts k default h l = none_passes is_over counts k default l h

class_counted : (all above : List Declaration) (d : Declaration) (below : List Declaration) → IsSound all above d below → is_some (class_name_of d) ≡ true → length (class_names above) + 1 ≤ 64
class_counted all above (Class name items) below h e = ltb-false 64 (length (class_names above) + 1) (within (counts_of above (Class name items)) 0 (limited 0 0) h.faultless.counted (lit< tt))
class_counted all above (Sign name kinds) below h e = absurd cc
class_counted all above (Algebra name goal) below h e = absurd cc
class_counted all above (Let name variables term) below h e = absurd cc
class_counted all above (Rule name alternatives) below h e = absurd cc
class_counted all above (Axiom rule) below h e = absurd cc
class_counted all above Words below h e = absurd cc

sign_counted : (all above : List Declaration) (d : Declaration) (below : List Declaration) → IsSound all above d below → is_some (sign_name_of d) ≡ true → length (sign_names above) + 1 ≤ 256
sign_counted all above (Sign name kinds) below h e = ltb-false 256 (length (sign_names above) + 1) (within (counts_of above (Sign name kinds)) 0 (limited 0 0) h.faultless.counted (lit< tt))
sign_counted all above (Class name items) below h e = absurd cc
sign_counted all above (Algebra name goal) below h e = absurd cc
sign_counted all above (Let name variables term) below h e = absurd cc
sign_counted all above (Rule name alternatives) below h e = absurd cc
sign_counted all above (Axiom rule) below h e = absurd cc
sign_counted all above Words below h e = absurd cc

algebra_counted : (all above : List Declaration) (d : Declaration) (below : List Declaration) → IsSound all above d below → is_some (algebra_name_of d) ≡ true → length (algebra_names above) + 1 ≤ 16
algebra_counted all above (Algebra name goal) below h e = ltb-false 16 (length (algebra_names above) + 1) (within (counts_of above (Algebra name goal)) 0 (limited 0 0) h.faultless.counted (lit< tt))
algebra_counted all above (Class name items) below h e = absurd cc
algebra_counted all above (Sign name kinds) below h e = absurd cc
algebra_counted all above (Let name variables term) below h e = absurd cc
algebra_counted all above (Rule name alternatives) below h e = absurd cc
algebra_counted all above (Axiom rule) below h e = absurd cc
algebra_counted all above Words below h e = absurd cc

rule_counted : (all above : List Declaration) (d : Declaration) (below : List Declaration) → IsSound all above d below → is_some (rule_name_of d) ≡ true → length (rule_names above) + 1 ≤ 128
rule_counted all above (Rule name alternatives) below h e = ltb-false 128 (length (rule_names above) + 1) (within (counts_of above (Rule name alternatives)) 0 (limited 0 0) h.faultless.counted (lit< tt))
rule_counted all above (Class name items) below h e = absurd cc
rule_counted all above (Sign name kinds) below h e = absurd cc
rule_counted all above (Algebra name goal) below h e = absurd cc
rule_counted all above (Let name variables term) below h e = absurd cc
rule_counted all above (Axiom rule) below h e = absurd cc
rule_counted all above Words below h e = absurd cc

few : {X : Type 0} (parts : List X) (names : List (List ℕ)) (limit : ℕ) → length parts ≡ length names → length names ≤ limit → nat_le (length parts) limit ≡ true
few parts names limit e h = le-leb (length parts) limit (omega arith)

some : {X : Type 0} (parts : List X) (names : List (List ℕ)) → length parts ≡ length names → 1 ≤ length names → nat_le 1 (length parts) ≡ true
some parts names e h = le-leb 1 (length parts) (omega arith)

below_count : {X : Type 0} (parts : List X) (names : List (List ℕ)) (n : ℕ) → length parts ≡ length names → n < length names → nat_lt n (length parts) ≡ true
below_count parts names n e h = lt-ltb n (length parts) (omega arith)

classes_counted : (all : List Declaration) → length (filter_map declared_class all) ≡ length (class_names all)
classes_counted all = counted_like (filter_map declared_class all) class_name (class_names all) (class_names_same all)

signs_counted : (all : List Declaration) → length (filter_map declared_sign all) ≡ length (sign_names all)
signs_counted all = counted_like (filter_map declared_sign all) sign_name (sign_names all) (sign_names_same all)

algebras_counted : (all : List Declaration) → length (declared_algebras (sign_names all) all) ≡ length (algebra_names all)
algebras_counted all = counted_like (declared_algebras (sign_names all) all) (λ (a : algebras.Algebra). a.name) (algebra_names all) (algebra_names_kept (sign_names all) all)

rules_counted : (all : List Declaration) → length (filter_map (declared_rule all) all) ≡ length (rule_names all)
rules_counted all = counted_like (filter_map (declared_rule all) all) rule_name (rule_names all) (rule_names_same all)

kept_counts : (all : List Declaration) → AreSound all → counts_fit (declared_grammar all) ≡ true
kept_counts all h =
    let class_few : length (class_names all) ≤ 64 = each_counted class_name_of 64 [] all (each_so (IsSound all) (λ a d b. is_some (class_name_of d) ≡ true → length (class_names a) + 1 ≤ 64) (class_counted all) [] all h.each) (omega arith) in
    let sign_few : length (sign_names all) ≤ 256 = each_counted sign_name_of 256 [] all (each_so (IsSound all) (λ a d b. is_some (sign_name_of d) ≡ true → length (sign_names a) + 1 ≤ 256) (sign_counted all) [] all h.each) (omega arith) in
    let algebra_few : length (algebra_names all) ≤ 16 = each_counted algebra_name_of 16 [] all (each_so (IsSound all) (λ a d b. is_some (algebra_name_of d) ≡ true → length (algebra_names a) + 1 ≤ 16) (algebra_counted all) [] all h.each) (omega arith) in
    let rule_few : length (rule_names all) ≤ 128 = each_counted rule_name_of 128 [] all (each_so (IsSound all) (λ a d b. is_some (rule_name_of d) ≡ true → length (rule_names a) + 1 ≤ 128) (rule_counted all) [] all h.each) (omega arith) in
    let known = axiom_known all all (each_all (IsSound all) (λ d. uses_unknown all d ≡ false) (λ a d b s. s.faultless.known) [] all h.each) h.some_axiom in
    and_from _ _ (and_from _ _ (and_from _ _ (and_from _ _ (and_from _ _
    (few (filter_map declared_class all) (class_names all) 64 (classes_counted all) class_few)
    (few (filter_map declared_sign all) (sign_names all) 256 (signs_counted all) sign_few))
    (some (declared_algebras (sign_names all) all) (algebra_names all) (algebras_counted all) (some_algebra all h.some_algebra_line)))
    (few (declared_algebras (sign_names all) all) (algebra_names all) 16 (algebras_counted all) algebra_few))
    (few (filter_map (declared_rule all) all) (rule_names all) 128 (rules_counted all) rule_few))
    (below_count (filter_map (declared_rule all) all) (rule_names all) (declared_grammar all).axiom (rules_counted all) (number_within (rule_names all) _ known))

-- ---- parts

one_name : (name : List ℕ) → not ((is_name name && true) && true) ≡ false → is_name name ≡ true
one_name name h = (and_parts (is_name name) true (and_parts (is_name name && true) true (not-false ((is_name name && true) && true) h)).0).0

class_sound : (all above : List Declaration) (d : Declaration) (below : List Declaration) → IsSound all above d below → (x : classes.Class) → declared_class d ≡ Some x → is_class x ≡ true
class_sound all above (Class name items) below h x e =
    let it : classes.Class = record { name = name; letters = class_letters items } in
    subst (λ c. is_class c ≡ true) (same_Some it x e) (class_fits name items h.faultless.named h.faultless.lettered h.shaped)
class_sound all above (Sign name kinds) below h x e = absurd cc
class_sound all above (Algebra name goal) below h x e = absurd cc
class_sound all above (Let name variables term) below h x e = absurd cc
class_sound all above (Rule name alternatives) below h x e = absurd cc
class_sound all above (Axiom rule) below h x e = absurd cc
class_sound all above Words below h x e = absurd cc

sign_sound : (all above : List Declaration) (d : Declaration) (below : List Declaration) → IsSound all above d below → (x : signs.Sign) → declared_sign d ≡ Some x → is_sign x ≡ true
sign_sound all above (Sign name kinds) below h x e =
    let it : signs.Sign = record { name = name; kinds = kinds } in
    let four : length kinds ≤ 4 = ltb-false 4 (length kinds) (within (counts_of above (Sign name kinds)) 1 (limited 0 0) h.faultless.counted (lit< tt)) in
    subst (λ s. is_sign s ≡ true) (same_Some it x e)
    (and_from (is_name name && nat_le 1 (length kinds)) (nat_le (length kinds) 4)
    (and_from (is_name name) (nat_le 1 (length kinds)) (one_name name h.faultless.named) (le-leb 1 (length kinds) h.shaped)) (le-leb (length kinds) 4 four))
sign_sound all above (Class name items) below h x e = absurd cc
sign_sound all above (Algebra name goal) below h x e = absurd cc
sign_sound all above (Let name variables term) below h x e = absurd cc
sign_sound all above (Rule name alternatives) below h x e = absurd cc
sign_sound all above (Axiom rule) below h x e = absurd cc
sign_sound all above Words below h x e = absurd cc

has_names : (all : List Declaration) → HasNames all (declared_grammar all)
has_names all = record {
  classes = classes_counted all;
  signs = signs_counted all;
  rules = rules_counted all;
  sign_kinds = λ name h.
      let found = has_kinds all name (record { name = []; kinds = [] }) h in
      (found.kinds, found.by_name, rw (number_place (sign_names all) name h) found.by_place);
}

rule_named : (name : List ℕ) (alternatives : List Alternative) → misnames (Rule name alternatives) ≡ false → is_name name ≡ true
rule_named name alternatives h =
    let others = list_all is_name (flat_map alternative_names alternatives) in
    (and_parts (is_name name) others (and_parts (is_name name && others) true (not-false ((is_name name && others) && true) h)).0).0

rule_sound : (all above : List Declaration) (d : Declaration) (below : List Declaration) → IsSound all above d below → (x : rules.Rule) → declared_rule all d ≡ Some x → is_rule (declared_grammar all) x ≡ true
rule_sound all above (Rule name alternatives) below h x e =
    let alts = map (alternative_of all) alternatives in
    let it : rules.Rule = record { name = name; alts = alts } in
    let counted : length alts ≡ length alternatives = length-map alternatives (alternative_of all) in
    let some_alternative : 1 ≤ length alternatives = h.shaped.0 in
    let most : length alternatives ≤ 64 = ltb-false 64 (length alternatives) (within (counts_of above (Rule name alternatives)) 1 (limited 0 0) h.faultless.counted (lit< tt)) in
    let named : is_name name ≡ true = rule_named name alternatives h.faultless.named in
    let fits : list_all (is_alternative (declared_grammar all)) alts ≡ true =
    alternatives_fit all (declared_grammar all) (has_names all) alternatives h.faultless.known (not-false (list_all (fits_sign all) alternatives) h.faultless.fit) h.faultless.uncrossed h.shaped.1 in
    subst (λ r. is_rule (declared_grammar all) r ≡ true) (same_Some it x e)
    (and_from (is_name name && nat_le 1 (length alts) && nat_le (length alts) 64) (list_all (is_alternative (declared_grammar all)) alts)
    (and_from (is_name name && nat_le 1 (length alts)) (nat_le (length alts) 64)
    (and_from (is_name name) (nat_le 1 (length alts)) named (le-leb 1 (length alts) (omega arith))) (le-leb (length alts) 64 (omega arith))) fits)
rule_sound all above (Class name items) below h x e = absurd cc
rule_sound all above (Sign name kinds) below h x e = absurd cc
rule_sound all above (Algebra name goal) below h x e = absurd cc
rule_sound all above (Let name variables term) below h x e = absurd cc
rule_sound all above (Axiom rule) below h x e = absurd cc
rule_sound all above Words below h x e = absurd cc

kept_algebras : (all : List Declaration) → AreSound all → list_all (is_algebra (filter_map declared_sign all)) (declared_algebras (sign_names all) all) ≡ true
kept_algebras all h =
    let of = filter_map declared_sign all in
    let own : AllByRecursion (HasOwnKinds all) of = each_has_kinds all (each_so (IsSound all) (λ a d b. repeats a d ≡ false) (λ a d b s. s.faultless.fresh) [] all h.each) in
    let fit : list_all (is_algebra of) (declared_algebras (map sign_name of) all) ≡ true = algebras_fit all [] all of (each_so (IsSound all) (IsFaultless all) (λ a d b s. s.faultless) [] all h.each) (sym (sign_names_same all)) own in
    subst (λ l. list_all (is_algebra of) (declared_algebras l all) ≡ true) (sign_names_same all) fit

kept_parts : (all : List Declaration) → AreSound all → parts_fit (declared_grammar all) ≡ true
kept_parts all h =
    let class_part : list_all is_class (filter_map declared_class all) ≡ true =
    all_true is_class (filter_map declared_class all) (each_part declared_class (λ x. is_class x ≡ true) [] all (each_so (IsSound all) (λ a d b. (x : classes.Class) → declared_class d ≡ Some x → is_class x ≡ true) (class_sound all) [] all h.each)) in
    let sign_part : list_all is_sign (filter_map declared_sign all) ≡ true =
    all_true is_sign (filter_map declared_sign all) (each_part declared_sign (λ x. is_sign x ≡ true) [] all (each_so (IsSound all) (λ a d b. (x : signs.Sign) → declared_sign d ≡ Some x → is_sign x ≡ true) (sign_sound all) [] all h.each)) in
    let rule_part : list_all (is_rule (declared_grammar all)) (filter_map (declared_rule all) all) ≡ true =
    all_true (is_rule (declared_grammar all)) (filter_map (declared_rule all) all) (each_part (declared_rule all) (λ x. is_rule (declared_grammar all) x ≡ true) [] all (each_so (IsSound all) (λ a d b. (x : rules.Rule) → declared_rule all d ≡ Some x → is_rule (declared_grammar all) x ≡ true) (rule_sound all) [] all h.each)) in
    and_from _ _ (and_from _ _ (and_from _ _ class_part sign_part) (kept_algebras all h)) rule_part

pub well_formed : (all : List Declaration) → AreSound all → is_well_formed (declared_grammar all) ≡ true
well_formed all h = and_from _ _ (and_from _ _ (kept_counts all h) (distinct_names all h)) (kept_parts all h)

-- ---- building

all_named : (sign : List ℕ) (variables : List (List ℕ)) (term : terms.LetTerm) → misnames (Let sign variables term) ≡ false → (list_all is_name variables && terms.has_names term) ≡ true
all_named sign variables term h =
    let named = list_all is_name variables in
    let parts = and_parts (is_name sign && named) (terms.has_names term) (not-false ((is_name sign && named) && terms.has_names term) h) in
    and_from named (terms.has_names term) (and_parts (is_name sign) named parts.0).1 parts.1

sound_buildable : (all above : List Declaration) (d : Declaration) (below : List Declaration) → IsSound all above d below → is_buildable d ≡ true
sound_buildable all above (Class name items) below h = one_name name h.faultless.named
sound_buildable all above (Sign name kinds) below h = one_name name h.faultless.named
sound_buildable all above (Algebra name goal) below h = one_name name h.faultless.named
sound_buildable all above (Let sign variables term) below h =
    let numbers = terms.has_numbers term in
    let named = list_all is_name variables && terms.has_names term in
    let known = and_parts (is_among (sign_names all) sign) (terms.has_variables variables term) (not-false (is_among (sign_names all) sign && terms.has_variables variables term) h.faultless.known) in
    let few = le-leb (terms.counted_leaves term) most_leaves (ltb-false most_leaves (terms.counted_leaves term) (within (counts_of above (Let sign variables term)) 0 (limited 0 0) h.faultless.counted (lit< tt))) in
    let once : not (terms.names_twice term) ≡ true = ap not h.faultless.once in
    and_from _ _ (and_from _ _ (and_from (named && numbers) (terms.has_variables variables term) (and_from named numbers (all_named sign variables term h.faultless.named) (not-false numbers h.faultless.numbered)) known.1) few) once
sound_buildable all above (Rule name alternatives) below h = and_from (is_name name) (list_all is_printable_alternative alternatives) (rule_named name alternatives h.faultless.named) h.shaped.1
sound_buildable all above (Axiom rule) below h = refl
sound_buildable all above Words below h = refl

pub buildable : (all : List Declaration) → AreSound all → are_buildable all ≡ true
buildable all h = all_true is_buildable all (each_all (IsSound all) (λ d. is_buildable d ≡ true) (sound_buildable all) [] all h.each)

-- a grammar of the parts that lines declare
pub grammar_is : (all : List Declaration) (of_classes : List classes.Class) (of_signs : List signs.Sign) (of_algebras : List algebras.Algebra) (of_rules : List rules.Rule) (number : ℕ)
    → of_classes ≡ filter_map declared_class all → of_signs ≡ filter_map declared_sign all → of_algebras ≡ declared_algebras (map sign_name of_signs) all → of_rules ≡ filter_map (declared_rule all) all
    → number ≡ (declared_grammar all).axiom → ◌≡◌ {A = Grammar} (record { classes = of_classes; signs = of_signs; algebras = of_algebras; rules = of_rules; «axiom» = number }) (declared_grammar all)
grammar_is all of_classes of_signs of_algebras of_rules number c s a r n =
    let names : map sign_name of_signs ≡ sign_names all = ap (λ l. map sign_name l) s ∙ sign_names_same all in
    let same : of_algebras ≡ declared_algebras (sign_names all) all = a ∙ ap (λ l. declared_algebras l all) names in
    λ i. record { classes = c i; signs = s i; algebras = same i; rules = r i; «axiom» = n i }
