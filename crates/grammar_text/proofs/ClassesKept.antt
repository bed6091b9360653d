-- The classes of a text without a fault: a name, and distinct printable letters, at least one, with weights in range.
use Rattle.std.proofs.Common.{◌≡◌, ℕ, zero, suc, ℤ, pos, true, false, ◌&&◌, not, nat_le, ◌==◌, unwrap_or, List, [], ◌∷◌, length, map, refl, ◌∙◌, arith}
use Rattle.std.specs.List.{list_all}
use Rattle.std.proofs.lemmas.Bool.{and_parts, and_from, or_parts, not-false, le-leb}
use Rattle.std.proofs.lemmas.List.Folds.{list_all-append}
use Rattle.adp_model.specs.Printable.{is_printable_byte}
use Rattle.adp_model.specs.WellFormed.{is_name, is_in_range, is_entry, is_class, letters_are_distinct}
use Rattle.job_texts.specs.Declarations.{Item, Class}
use Rattle.job_texts.specs.TextFaults.{weight_of, item_letters, class_letters, misnames, misletters}
use Rattle.grammar_text.proofs.Shapes.{is_printable_item}
use Rattle.grammar_text.proofs.TermsInRange.{weight_in_range}

letters_fit : (weight : ℤ) (letters : List ℕ) → is_in_range weight ≡ true → list_all is_printable_byte letters ≡ true → list_all is_entry (map (λ letter. (letter, weight)) letters) ≡ true
letters_fit weight [] h k = refl
letters_fit weight (letter ∷ letters) h k =
    let parts = and_parts (is_printable_byte letter) (list_all is_printable_byte letters) k in
    and_from (is_entry (letter, weight)) (list_all is_entry (map (λ l. (l, weight)) letters)) (and_from (is_printable_byte letter) (is_in_range weight) parts.0 h) (letters_fit weight letters h parts.1)

items_fit : (items : List Item) → list_all is_printable_item items ≡ true → list_all is_entry (class_letters items) ≡ true
items_fit [] h = refl
items_fit (item ∷ items) h =
    let parts = and_parts (is_printable_item item) (list_all is_printable_item items) h in
    list_all-append is_entry (item_letters item) (class_letters items)
    ∙ and_from (list_all is_entry (item_letters item)) (list_all is_entry (class_letters items)) (letters_fit (unwrap_or (weight_of item) (pos 0)) item.letters (weight_in_range item) parts.0) (items_fit items parts.1)

some_letter : (n : ℕ) → (n == 0) ≡ false → nat_le 1 n ≡ true
some_letter zero h = absurd cc
some_letter (suc n) h = le-leb 1 (suc n) (omega arith)

pub class_fits : (name : List ℕ) (items : List Item) → misnames (Class name items) ≡ false → misletters (Class name items) ≡ false → list_all is_printable_item items ≡ true
    → is_class (record { name = name; letters = class_letters items }) ≡ true
class_fits name items named lettered printable =
    let letters = class_letters items in
    let name_fits : is_name name ≡ true = (and_parts (is_name name) true (and_parts (is_name name && true) true (not-false ((is_name name && true) && true) named)).0).0 in
    let parts = or_parts (length letters == 0) (not (letters_are_distinct letters)) lettered in
    and_from (is_name name && nat_le 1 (length letters) && list_all is_entry letters) (letters_are_distinct letters)
    (and_from (is_name name && nat_le 1 (length letters)) (list_all is_entry letters)
    (and_from (is_name name) (nat_le 1 (length letters)) name_fits (some_letter (length letters) parts.0)) (items_fit items printable))
    (not-false (letters_are_distinct letters) parts.1)
