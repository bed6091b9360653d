-- Names are short and printable, and the parts of a well-formed grammar have names.
use Rattle.std.proofs.Common.{◌≡◌, ℕ, ◌<◌, ◌≤◌, true, ◌&&◌, ◌==◌, nat_le, IsTrue, List, [], ◌∷◌, length, refl, arith, leb-true}
use Rattle.std.specs.List.{list_all, zip}
use Rattle.std.proofs.lemmas.Bool.Decides.{nat_tests}
use Rattle.adp_model.specs.declared.grammar.Grammar.{Grammar}
use Rattle.adp_model.specs.Printable.{is_printable_byte, IsPrintable}
use Rattle.adp_model.specs.Parts.{sign_at, algebra_at, rule_at}
use Rattle.adp_model.specs.WellFormed.{is_letter_byte, is_word_byte, is_name, is_sign, is_term, is_rule, is_alternative, is_well_formed}
use Rattle.adp_model.proofs.WellFormedParts.{and_first, and_second, kept_in, signs-formed, rules-formed}
use Rattle.adp_model.proofs.FittingTerms.{algebra-formed}

word_byte_is_printable : (byte : ℕ) → is_word_byte byte ≡ true → is_printable_byte byte ≡ true
word_byte_is_printable byte h = grind (arith, nat_tests)

letter_is_word_byte : (byte : ℕ) → is_letter_byte byte ≡ true → is_word_byte byte ≡ true
letter_is_word_byte byte h = rw h refl

word_is_printable : (word : List ℕ) → list_all is_word_byte word ≡ true → list_all is_printable_byte word ≡ true
word_is_printable [] h = refl
word_is_printable (byte ∷ word) h =
    let here = word_byte_is_printable byte (and_first (is_word_byte byte) (list_all is_word_byte word) h) in
    let behind = word_is_printable word (and_second (is_word_byte byte) (list_all is_word_byte word) h) in
    rw (here, behind) refl

name_bytes : (first : ℕ) (others : List ℕ) → IsTrue (is_name (first ∷ others)) → (is_letter_byte first && list_all is_word_byte others) ≡ true
name_bytes first others h = and_first (is_letter_byte first && list_all is_word_byte others) (nat_le (length others) 31) h

pub name_is_printable : (name : List ℕ) → IsTrue (is_name name) → IsPrintable name
name_is_printable [] h = absurd cc
name_is_printable (first ∷ others) h =
    let bytes = name_bytes first others h in
    let letter = and_first (is_letter_byte first) (list_all is_word_byte others) bytes in
    let here = word_byte_is_printable first (letter_is_word_byte first letter) in
    let behind = word_is_printable others (and_second (is_letter_byte first) (list_all is_word_byte others) bytes) in
    rw (here, behind) refl

pub name_is_short : (name : List ℕ) → IsTrue (is_name name) → length name ≤ 32
name_is_short [] h = absurd cc
name_is_short (first ∷ others) h =
    let few = leb-true _ _ (and_second (is_letter_byte first && list_all is_word_byte others) (nat_le (length others) 31) h) in
    omega (arith, few)

pub sign_has_name : (grammar : Grammar) → IsTrue (is_well_formed grammar) → (sign : ℕ) → sign < length grammar.signs → IsTrue (is_name (sign_at grammar sign).name)
sign_has_name grammar h sign inside =
    let s = sign_at grammar sign in
    let formed : is_sign s ≡ true = kept_in is_sign grammar.signs sign (record { name = []; kinds = [] }) (signs-formed grammar h) inside in
    and_first (is_name s.name) (nat_le 1 (length s.kinds)) (and_first (is_name s.name && nat_le 1 (length s.kinds)) (nat_le (length s.kinds) 4) formed)

pub algebra_has_name : (grammar : Grammar) → IsTrue (is_well_formed grammar) → (algebra : ℕ) → algebra < length grammar.algebras → IsTrue (is_name (algebra_at grammar algebra).name)
algebra_has_name grammar h algebra inside =
    let a = algebra_at grammar algebra in
    let counted = length a.terms == length grammar.signs in
    and_first (is_name a.name) counted (and_first (is_name a.name && counted) (list_all is_term (zip grammar.signs a.terms)) (algebra-formed grammar h algebra inside))

pub rule_has_name : (grammar : Grammar) → IsTrue (is_well_formed grammar) → (rule : ℕ) → rule < length grammar.rules → IsTrue (is_name (rule_at grammar rule).name)
rule_has_name grammar h rule inside =
    let r = rule_at grammar rule in
    let some = nat_le 1 (length r.alts) in
    let few = nat_le (length r.alts) 64 in
    let formed : is_rule grammar r ≡ true = kept_in (is_rule grammar) grammar.rules rule (record { name = []; alts = [] }) (rules-formed grammar h) inside in
    and_first (is_name r.name) some (and_first (is_name r.name && some) few (and_first (is_name r.name && some && few) (list_all (is_alternative grammar) r.alts) formed))
