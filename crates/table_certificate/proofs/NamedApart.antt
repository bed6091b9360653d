-- Rules of a well-formed grammar are found by their names, which are plain words.
use Rattle.std.proofs.Common.{◌≡◌, ℕ, zero, suc, ◌<◌, ◌&&◌, ◌||◌, Bool, true, false, not, nat_eq, nat_le, IsTrue, Some, List, [], ◌∷◌, length, map, slice_index_or, refl, sym, ap, ◌∙◌, arith}
use Rattle.std.specs.List.{list_all, list_any}
use Rattle.std.proofs.lemmas.Bool.{and_parts, not-true}
use Rattle.std.proofs.lemmas.Bool.Decides.{nat_tests}
use Rattle.std.proofs.lemmas.List.{get_or-map, length-map}
use Rattle.std.proofs.lemmas.List.Elements.{All-cons, All-nil}
use lib.Pointwise.{pointwise, bytes_decides}
use Rattle.adp_model.specs.declared.grammar.Algebra.{Algebra}
use Rattle.adp_model.specs.declared.grammar.Class.{Class}
use Rattle.adp_model.specs.declared.grammar.Grammar.{Grammar}
use Rattle.adp_model.specs.declared.grammar.Rule as rules
use Rattle.adp_model.specs.declared.grammar.Sign.{Sign}
use Rattle.adp_model.specs.Parts.{rule_at}
use Rattle.adp_model.specs.WellFormed.{are_distinct, counts_fit, is_letter_byte, is_name, is_well_formed, is_word_byte, names_differ, parts_fit}
use Rattle.table_certificate.specs.CertificateLines.{is_text, rule_named}
use Rattle.table_certificate.proofs.NamedRules.{named_here}
use Rattle.table_certificate.proofs.PlainLines.{IsWord}

-- ---- names differ

abbrev name_of : rules.Rule → List ℕ
name_of rule = rule.name

rule_names_differ : (grammar : Grammar) → IsTrue (is_well_formed grammar) → are_distinct (map name_of grammar.rules) ≡ true
rule_names_differ grammar formed =
    let names = (and_parts (counts_fit grammar) (names_differ grammar) (and_parts (counts_fit grammar && names_differ grammar) (parts_fit grammar) formed).0).1 in
    (and_parts (are_distinct (map (λ (class : Class). class.name) grammar.classes)
    && are_distinct (map (λ (sign : Sign). sign.name) grammar.signs)
    && are_distinct (map (λ (algebra : Algebra). algebra.name) grammar.algebras))
    (are_distinct (map (λ (rule : rules.Rule). rule.name) grammar.rules)) names).1

neither : (a b : Bool) → (a || b) ≡ false → (a ≡ false) × (b ≡ false)
neither true b e = absurd cc
neither false b e = (refl, e)

none_like : (first : List ℕ) (names : List (List ℕ)) (i : ℕ) → list_any (pointwise nat_eq first) names ≡ false
    → i < length names → pointwise nat_eq first (slice_index_or names i []) ≡ false
none_like first [] i none low = absurd (omega arith)
none_like first (name ∷ names) zero none low =
    (neither (pointwise nat_eq first name) (list_any (pointwise nat_eq first) names) none).0
none_like first (name ∷ names) (suc i) none low =
    none_like first names i (neither (pointwise nat_eq first name) (list_any (pointwise nat_eq first) names) none).1 (omega arith)

differ : (names : List (List ℕ)) (i j : ℕ) → are_distinct names ≡ true → i < j → j < length names
    → pointwise nat_eq (slice_index_or names i []) (slice_index_or names j []) ≡ false
differ [] i j distinct below low = absurd (omega arith)
differ (first ∷ names) i zero distinct below low = absurd (omega arith)
differ (first ∷ names) zero (suc j) distinct below low =
    none_like first names j (not-true (list_any (pointwise nat_eq first) names) (and_parts (not (list_any (pointwise nat_eq first) names)) (are_distinct names) distinct).0) (omega arith)
differ (first ∷ names) (suc i) (suc j) distinct below low =
    differ names i j (and_parts (not (list_any (pointwise nat_eq first) names)) (are_distinct names) distinct).1 (omega arith) (omega arith)

name_at : (grammar : Grammar) (rule : ℕ) → rule < length grammar.rules
    → slice_index_or (map name_of grammar.rules) rule [] ≡ (rule_at grammar rule).name
name_at grammar rule low = get_or-map name_of grammar.rules rule (record { name = []; alts = [] }) [] low

other_name : (grammar : Grammar) → IsTrue (is_well_formed grammar) → (other rule : ℕ) → other < rule
    → rule < length grammar.rules → is_text (rule_at grammar other).name (rule_at grammar rule).name ≡ false
other_name grammar formed other rule below low =
    ap (λ name. is_text name (rule_at grammar rule).name) (sym (name_at grammar other (omega arith)))
    ∙ ap (is_text (slice_index_or (map name_of grammar.rules) other [])) (sym (name_at grammar rule low))
    ∙ differ (map name_of grammar.rules) other rule (rule_names_differ grammar formed) below
    (let long : length (map name_of grammar.rules) ≡ length grammar.rules = length-map grammar.rules name_of in omega arith)

-- the rule of a rule's name is that rule
pub named_itself : (grammar : Grammar) → IsTrue (is_well_formed grammar) → (rule : ℕ) → rule < length grammar.rules
    → rule_named grammar (rule_at grammar rule).name ≡ Some rule
named_itself grammar formed rule low =
    let name : List ℕ = (rule_at grammar rule).name in
    sym (named_here grammar name rule low (λ other below. other_name grammar formed other rule below low) ((bytes_decides name name).1 refl))

-- ---- names are words

word_byte_is_high : (byte : ℕ) → is_word_byte byte ≡ true → 32 < byte
word_byte_is_high byte h = grind (arith, nat_tests)

letter_is_high : (byte : ℕ) → is_letter_byte byte ≡ true → 32 < byte
letter_is_high byte h = grind (arith, nat_tests)

high_bytes : (word : List ℕ) → list_all is_word_byte word ≡ true → IsWord word
high_bytes [] h = All-nil (λ byte. 32 < byte)
high_bytes (byte ∷ word) h =
    let parts = and_parts (is_word_byte byte) (list_all is_word_byte word) h in
    All-cons (λ byte. 32 < byte) byte word (word_byte_is_high byte parts.0) (high_bytes word parts.1)

pub name_is_word : (name : List ℕ) → IsTrue (is_name name) → IsWord name
name_is_word [] h = absurd cc
name_is_word (first ∷ others) h =
    let bytes = (and_parts (is_letter_byte first && list_all is_word_byte others) (nat_le (length others) 31) h).0 in
    let parts = and_parts (is_letter_byte first) (list_all is_word_byte others) bytes in
    All-cons (λ byte. 32 < byte) first others (letter_is_high first parts.0) (high_bytes others parts.1)
