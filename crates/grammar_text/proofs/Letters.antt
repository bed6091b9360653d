-- The letters of a quoted text, byte by byte.
use Rattle.std.proofs.Common.{◌≡◌, ℕ, ◌+◌, ◌<◌, ℤ, pos, Option, unwrap_or, List, [], ◌∷◌, ◌++◌, length, map, take, get_or, refl, sym, ◌∙◌, append-nil}
use Rattle.std.proofs.lemmas.List.{take_more, map_push}
use Rattle.std.proofs.lemmas.List.Concat.{flat_map-append}
use Rattle.job_texts.specs.Declarations as forms
use Rattle.job_texts.specs.TextFaults.{weight_of, item_letters, class_letters}
use Rattle.algebra_terms.specs.Tokens.{letters_behind}
use Rattle.grammar_text.specs.declared.reader.declaration.Item.{Item}
use Rattle.grammar_text.specs.Seen.{item_seen}
use Rattle.std.specs.Option.{option_map}
use Rattle.job_texts.specs.LineTokens.{QuotedRest}

-- these letters, then those of the rest of a quoted text
abbrev pub letters_first : List ℕ → Option QuotedRest → Option (List ℕ)
letters_first front rest = option_map (λ (quoted : QuotedRest). front ++ quoted.letters) rest

class_push : (items : List forms.Item) (item : forms.Item) → class_letters (items ++ item ∷ []) ≡ class_letters items ++ item_letters item
class_push items item =
    flat_map-append item_letters items (item ∷ []) ∙ rw append-nil refl

-- the letters of one item more
pub class_more : (items : List Item) (i : ℕ) (d : Item) (class new : List (ℕ × ℤ)) (letters : List ℕ) (weight : ℤ) → i < length items
    → class ≡ class_letters (map item_seen (take i items))
    → new ≡ class ++ map (λ letter. (letter, weight)) letters
    → letters ≡ letters_behind (get_or items i d).letters.now
    → weight ≡ unwrap_or (weight_of (item_seen (get_or items i d))) (pos 0)
    → new ≡ class_letters (map item_seen (take (i + 1) items))
class_more items i d class new letters weight inside is_class is_new is_letters is_weight =
    rw (is_new, is_class, is_letters, is_weight, take_more items i d inside, map_push item_seen (take i items) (get_or items i d))
    (sym (class_push (map item_seen (take i items)) (item_seen (get_or items i d))))
