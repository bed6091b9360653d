-- Parts that are read one after the other.
use Rattle.std.proofs.Common.{◌≡◌, Option, Some, None, is_some, List, [], ◌∷◌, ◌++◌, map, refl, sym, ◌∙◌, ap, append_assoc}
use Rattle.std.specs.Option.{option_map}
use Rattle.std.proofs.lemmas.List.{append-nil, map_push}
use Rattle.job_texts.specs.TermText.{Part, with_part}
use Rattle.algebra_terms.specs.declared.part.Part as code_parts
use Rattle.algebra_terms.specs.Reading.{part_of}

-- what was read before, and what is still read
abbrev pub with_front : List Part → Option (List Part) → Option (List Part)
with_front front parts = option_map (λ others. front ++ others) parts

regroup : (front : List Part) (part : Part) (parts : Option (List Part)) → with_front front (with_part part parts) ≡ with_front (front ++ part ∷ []) parts
regroup front part None = refl
regroup front part (Some others) = ap (λ (parts : List Part). Some parts) (simp append_assoc)

pub begins : (first : code_parts.Part) (items : List code_parts.Part) (parts all : Option (List Part)) → items ≡ first ∷ [] → all ≡ with_part (part_of first) parts
    → with_front (map part_of items) parts ≡ all
begins first items None all is given = sym given
begins first items (Some others) all is given = rw is (sym given)

pub goes_on : (front items : List code_parts.Part) (part : code_parts.Part) (before after all : Option (List Part)) → items ≡ front ++ part ∷ []
    → before ≡ with_part (part_of part) after → with_front (map part_of front) before ≡ all → with_front (map part_of items) after ≡ all
goes_on front items part before after all is given so_far =
    let more : map part_of items ≡ map part_of front ++ part_of part ∷ [] = rw is (map_push part_of front part) in
    rw more (sym (regroup (map part_of front) (part_of part) after) ∙ rw given at so_far)

pub ends : (front : List code_parts.Part) (before all : Option (List Part)) → before ≡ Some [] → with_front (map part_of front) before ≡ all → all ≡ Some (map part_of front)
ends front before all given so_far = sym so_far ∙ rw given (ap (λ (parts : List Part). Some parts) (append-nil (map part_of front)))

pub some_with_part : (part : Part) (parts : Option (List Part)) → is_some (with_part part parts) ≡ is_some parts
some_with_part part None = refl
some_with_part part (Some others) = refl
