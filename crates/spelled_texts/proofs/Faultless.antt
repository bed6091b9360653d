-- No kind of fault stands at a declaration, by what stands above and below it.
use Rattle.std.proofs.Common.{◌≡◌, Bool, false, ◌&&◌, not, nat_lt, None, List, [], ◌∷◌, ◌++◌, sym, append_assoc, append-nil, subst}
use Rattle.std.specs.List.{list_all, list_any, find}
use Rattle.job_texts.specs.TermText.{is_among}
use Rattle.job_texts.specs.Declarations.{Declaration, Rule}
use Rattle.job_texts.specs.DeclaredNames.{sign_names, is_algebra_line, section_of, let_signs}
use Rattle.job_texts.specs.TextFaults.{misnames, misnumbers, repeats, misletters, is_misplaced, is_axiom_line, uses_unknown, misfits, is_crossed_alternative, is_twice, Counted, counts_of}

abbrev pub is_over : Counted → Bool
is_over counted = nat_lt counted.limit counted.count

-- a run or a size of the declaration has a high bound below its low one
abbrev pub crosses : Declaration → Bool
crosses (Rule name alternatives) = list_any is_crossed_alternative alternatives
crosses declaration = false

-- the section of an algebra lacks a sign
abbrev pub lacks : List Declaration → List Declaration → Declaration → Bool
lacks all below declaration = is_algebra_line declaration && not (list_all (is_among (let_signs (section_of below))) (sign_names all))

pub record IsFaultless (all above : List Declaration) (declaration : Declaration) (below : List Declaration) : Type 0 where
  pub named : misnames declaration ≡ false
  pub numbered : misnumbers declaration ≡ false
  pub fresh : repeats above declaration ≡ false
  pub lettered : misletters declaration ≡ false
  pub placed : is_misplaced above declaration ≡ false
  pub one_axiom : (is_axiom_line declaration && list_any is_axiom_line above) ≡ false
  pub known : uses_unknown all declaration ≡ false
  pub fit : misfits all declaration ≡ false
  pub uncrossed : crosses declaration ≡ false
  pub complete : lacks all below declaration ≡ false
  pub counted : find is_over (counts_of above declaration) ≡ None
  pub once : is_twice declaration ≡ false

-- no kind of fault stands at any of these declarations, which stand below some and above others
abbrev pub AreFaultless : List Declaration → List Declaration → List Declaration → List Declaration → Type 0
AreFaultless all above [] tail = Unit {0}
AreFaultless all above (declaration ∷ declared) tail =
    IsFaultless all above declaration (declared ++ tail) × AreFaultless all (above ++ declaration ∷ []) declared tail

pub faultless-append : (all above declared others tail : List Declaration) → AreFaultless all above declared (others ++ tail) → AreFaultless all (above ++ declared) others tail
    → AreFaultless all above (declared ++ others) tail
faultless-append all above [] others tail h h' = subst (λ (l : List Declaration). AreFaultless all l others tail) (append-nil above) h'
faultless-append all above (declaration ∷ declared) others tail h h' = (
  subst (λ (l : List Declaration). IsFaultless all above declaration l) (sym (append_assoc declared others tail)) h.0,
  faultless-append all (above ++ declaration ∷ []) declared others tail h.1
      (subst (λ (l : List Declaration). AreFaultless all l others tail) (sym (append_assoc above (declaration ∷ []) declared)) h'),
)
