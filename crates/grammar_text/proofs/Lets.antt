-- The lines of an algebra's terms, one after the other, as a loop over signs and terms writes them.
use Rattle.std.proofs.Common.{◌≡◌, ℕ, ◌+◌, ◌<◌, min, List, [], ◌∷◌, ◌++◌, length, get_or, take, ◌∙◌, append_assoc, arith}
use Rattle.std.proofs.lemmas.List.{take_more, take_all, append-nil}
use Rattle.std.proofs.lemmas.List.Concat.{flat_map-append}
use Rattle.std.proofs.lemmas.Slice.Zip.{length-zip, get_or-zip}
use Rattle.std.specs.List.{flat_map, zip}
use Rattle.adp_model.specs.declared.grammar.Sign.{Sign}
use Rattle.adp_model.specs.declared.grammar.Term.{Term}
use Rattle.job_texts.specs.Spelling.{let_line}

pub lets_more : (before out new : List ℕ) (signs : List Sign) (terms : List Term) (n : ℕ) (sign : Sign) (term : Term) → n < length signs → n < length terms
    → sign ≡ get_or signs n sign → term ≡ get_or terms n term → out ≡ before ++ flat_map let_line (take n (zip signs terms)) → new ≡ out ++ let_line (sign, term)
    → new ≡ before ++ flat_map let_line (take (n + 1) (zip signs terms))
lets_more before out new signs terms n sign term in_signs in_terms sign_is term_is so_far more =
    let in_zip : n < length (zip signs terms) = omega (arith, length-zip signs terms) in
    let pair : get_or (zip signs terms) n (sign, term) ≡ (sign, term) = get_or-zip signs terms n (sign, term) in_signs in_terms ∙ cc in
    let last : flat_map let_line ((sign, term) ∷ []) ≡ let_line (sign, term) = append-nil (let_line (sign, term)) in
    rw (more, so_far, take_more (zip signs terms) n (sign, term) in_zip, pair, flat_map-append, last) (append_assoc before (flat_map let_line (take n (zip signs terms))) (let_line (sign, term)))

pub lets_all : (signs : List Sign) (terms : List Term) (n : ℕ) → n ≡ min (length signs) (length terms) → take n (zip signs terms) ≡ zip signs terms
lets_all signs terms n e = take_all n (zip signs terms) (omega (arith, length-zip signs terms))
