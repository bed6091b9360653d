-- No kind of fault stands at the spelled lines of signs.
use Rattle.std.proofs.Common.{◌≡◌, ◌+◌, true, List, [], ◌∷◌, ◌++◌, length, map, refl}
use Rattle.std.specs.List.{list_all}
use Rattle.std.proofs.lemmas.Bool.{and_parts, le-ltb}
use Rattle.adp_model.specs.declared.grammar.Sign.{Sign}
use Rattle.adp_model.specs.WellFormed.{is_sign}
use Rattle.job_texts.specs.Declarations.{Declaration}
use Rattle.job_texts.specs.DeclaredNames.{sign_name_of, sign_names}
use Rattle.spelled_texts.proofs.Contents.{sign_declaration}
use Rattle.spelled_texts.proofs.SignLines.{sign_parts}
use Rattle.spelled_texts.proofs.GrammarParts.{name_of_sign}
use Rattle.spelled_texts.proofs.Faultless.{IsFaultless, AreFaultless}
use Rattle.spelled_texts.proofs.FreshNames.{IsFresh, AreFresh, first_fresh, others_fresh}

sign_faultless : (all above below : List Declaration) (sign : Sign) → is_sign sign ≡ true → IsFresh (sign_names above) sign.name 256 → IsFaultless all above (sign_declaration sign) below
sign_faultless all above below sign h fresh =
    let is = sign_parts sign h in
    record {
      named = rw is.named refl;
      numbered = refl;
      fresh = fresh.other;
      lettered = refl;
      placed = refl;
      one_axiom = refl;
      known = refl;
      fit = refl;
      uncrossed = refl;
      complete = refl;
      counted = rw (le-ltb 256 (length (sign_names above) + 1) fresh.few, le-ltb 4 (length sign.kinds) is.few) refl;
      once = refl;
    }

pub signs_faultless : (all above : List Declaration) (signs : List Sign) (tail : List Declaration) → list_all is_sign signs ≡ true
    → AreFresh (sign_names above) (map name_of_sign signs) 256 → AreFaultless all above (map sign_declaration signs) tail
signs_faultless all above [] tail h fresh = tt
signs_faultless all above (sign ∷ signs) tail h fresh =
    let parts = and_parts (is_sign sign) (list_all is_sign signs) h in
    let own = first_fresh (sign_names above) sign.name (map name_of_sign signs) 256 fresh in (
      sign_faultless all above (map sign_declaration signs ++ tail) sign parts.0 own,
      signs_faultless all (above ++ sign_declaration sign ∷ []) signs tail parts.1
          (others_fresh sign_name_of above (sign_declaration sign) sign.name (map name_of_sign signs) 256 refl fresh),
    )
