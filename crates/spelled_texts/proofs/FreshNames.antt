-- Names of a sort that are still to come: none of them stands above, and they are few enough.
use Rattle.std.proofs.Common.{◌≡◌, ℕ, ◌+◌, ◌≤◌, true, false, Option, Some, List, [], ◌∷◌, ◌++◌, length, refl, ◌∙◌, ap, append_assoc, length-append, arith}
use Rattle.std.specs.List.{filter_map}
use Rattle.std.proofs.lemmas.List.Elements.{filter_map-append}
use Rattle.adp_model.specs.WellFormed.{are_distinct}
use Rattle.job_texts.specs.TermText.{is_among}
use Rattle.job_texts.specs.Declarations.{Declaration}
use Rattle.spelled_texts.proofs.Names.{not_before}

-- later names beside earlier ones
pub record AreFresh (earlier later : List (List ℕ)) (limit : ℕ) : Type 0 where
  pub distinct : are_distinct (earlier ++ later) ≡ true
  pub few : length earlier + length later ≤ limit

-- of the first of them
pub record IsFresh (earlier : List (List ℕ)) (name : List ℕ) (limit : ℕ) : Type 0 where
  pub other : is_among earlier name ≡ false
  pub few : length earlier + 1 ≤ limit

pub first_fresh : (earlier : List (List ℕ)) (name : List ℕ) (later : List (List ℕ)) (limit : ℕ) → AreFresh earlier (name ∷ later) limit → IsFresh earlier name limit
first_fresh earlier name later limit are =
    let few = are.few in
    record { other = not_before earlier name later are.distinct; few = omega arith }

-- of the others, where the first stands above with the names of this sort
pub others_fresh : (name_of : Declaration → Option (List ℕ)) (above : List Declaration) (declaration : Declaration) (name : List ℕ) (later : List (List ℕ)) (limit : ℕ)
    → name_of declaration ≡ Some name
    → AreFresh (filter_map name_of above) (name ∷ later) limit → AreFresh (filter_map name_of (above ++ declaration ∷ [])) later limit
others_fresh name_of above declaration name later limit named are =
    let more : filter_map name_of (above ++ declaration ∷ []) ≡ filter_map name_of above ++ name ∷ [] = filter_map-append name_of above (declaration ∷ []) ∙ rw named refl in
    let few = are.few in
    rw more (record { distinct = ap are_distinct (append_assoc (filter_map name_of above) (name ∷ []) later) ∙ are.distinct; few = simp length-append (omega arith) })
