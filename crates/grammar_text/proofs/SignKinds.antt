-- The kinds of declared signs: by name, and at the sign's number.
use Rattle.std.proofs.Common.{◌≡◌, ℕ, suc, ◌+◌, Bool, true, false, nat_eq, Some, List, [], ◌∷◌, ◌++◌, slice_index_or, refl, ◌∙◌, subst, arith}
use Rattle.std.specs.List.{filter_map, AllByRecursion}
use Rattle.std.proofs.lemmas.Bool.{or_parts}
use Rattle.std.proofs.lemmas.Option.{same_Some}
use Rattle.std.proofs.lemmas.List.Elements.{filter_map-append}
use lib.Pointwise.{pointwise}
use Rattle.adp_model.specs.declared.grammar.Kind.{Kind}
use Rattle.adp_model.specs.declared.grammar.Sign as signs
use Rattle.job_texts.specs.TermText.{is_among}
use Rattle.job_texts.specs.Declarations.{Declaration, Class, Sign, Algebra, Let, Rule, Axiom, Words}
use Rattle.job_texts.specs.DeclaredNames.{sign_names, kinds_given, kinds_of_sign}
use Rattle.job_texts.specs.TextFaults.{repeats}
use Rattle.job_texts.specs.JobText.{declared_sign}
use Rattle.grammar_text.proofs.Faultless.{Each, each_so}
use Rattle.grammar_text.proofs.Sorts.{own_text, either_order, each_whole, each_part, place_of}

-- ---- kinds by name and by place

-- the kinds of the sign of this name, and that the sign at the name's place has them
pub record HasKinds (declared : List Declaration) (name : List ℕ) (default : signs.Sign) : Type 0 where
  pub kinds : List Kind
  pub by_name : kinds_of_sign declared name ≡ Some kinds
  pub by_place : (slice_index_or (filter_map declared_sign declared) (place_of (sign_names declared) name) default).kinds ≡ kinds

first_has : (declared : List Declaration) (first name : List ℕ) (kinds : List Kind) (default : signs.Sign) (same : Bool) → pointwise nat_eq name first ≡ same
    → is_among (first ∷ sign_names declared) name ≡ true → (is_among (sign_names declared) name ≡ true → HasKinds declared name default) → HasKinds (Sign first kinds ∷ declared) name default
first_has declared first name kinds default true e h others = record {
  kinds = kinds;
  by_name = rw e refl;
  by_place = rw e refl;
}
first_has declared first name kinds default false e h others =
    let apart : pointwise nat_eq first name ≡ false = either_order first name ∙ e in
    let later : is_among (sign_names declared) name ≡ true = rw apart at h in
    let found = others later in
    let next : 1 + place_of (sign_names declared) name ≡ suc (place_of (sign_names declared) name) = omega arith in
    record {
      kinds = found.kinds;
      by_name = rw e found.by_name;
      by_place = rw (e, next) found.by_place;
    }

pub has_kinds : (declared : List Declaration) (name : List ℕ) (default : signs.Sign) → is_among (sign_names declared) name ≡ true → HasKinds declared name default
has_kinds [] name default h = absurd cc
has_kinds (Sign first kinds ∷ declared) name default h = first_has declared first name kinds default (pointwise nat_eq name first) refl h (has_kinds declared name default)
has_kinds (Class first items ∷ declared) name default h = let found = has_kinds declared name default h in record { kinds = found.kinds; by_name = found.by_name; by_place = found.by_place }
has_kinds (Algebra first goal ∷ declared) name default h = let found = has_kinds declared name default h in record { kinds = found.kinds; by_name = found.by_name; by_place = found.by_place }
has_kinds (Let sign variables term ∷ declared) name default h = let found = has_kinds declared name default h in record { kinds = found.kinds; by_name = found.by_name; by_place = found.by_place }
has_kinds (Rule first alternatives ∷ declared) name default h = let found = has_kinds declared name default h in record { kinds = found.kinds; by_name = found.by_name; by_place = found.by_place }
has_kinds (Axiom rule ∷ declared) name default h = let found = has_kinds declared name default h in record { kinds = found.kinds; by_name = found.by_name; by_place = found.by_place }
has_kinds (Words ∷ declared) name default h = let found = has_kinds declared name default h in record { kinds = found.kinds; by_name = found.by_name; by_place = found.by_place }

-- ---- the kinds of each sign by its own name

none_given : (declared : List Declaration) (name : List ℕ) → is_among (sign_names declared) name ≡ false → filter_map (kinds_given name) declared ≡ []
none_given [] name h = refl
none_given (Sign first kinds ∷ declared) name h =
    let parts = or_parts (pointwise nat_eq first name) (is_among (sign_names declared) name) h in
    let apart : pointwise nat_eq name first ≡ false = either_order name first ∙ parts.0 in
    rw apart (none_given declared name parts.1)
none_given (Class first items ∷ declared) name h = none_given declared name h
none_given (Algebra first goal ∷ declared) name h = none_given declared name h
none_given (Let sign variables term ∷ declared) name h = none_given declared name h
none_given (Rule first alternatives ∷ declared) name h = none_given declared name h
none_given (Axiom rule ∷ declared) name h = none_given declared name h
none_given (Words ∷ declared) name h = none_given declared name h

own_kinds : (above below : List Declaration) (name : List ℕ) (kinds : List Kind) → is_among (sign_names above) name ≡ false → kinds_of_sign (above ++ Sign name kinds ∷ below) name ≡ Some kinds
own_kinds above below name kinds h =
    rw (filter_map-append (kinds_given name) above (Sign name kinds ∷ below), none_given above name h, own_text name) refl

abbrev pub HasOwnKinds : List Declaration → signs.Sign → Type 0
HasOwnKinds all sign = kinds_of_sign all sign.name ≡ Some sign.kinds

sign_has : (all above below : List Declaration) (declaration : Declaration) → repeats above declaration ≡ false → above ++ declaration ∷ below ≡ all → (sign : signs.Sign) → declared_sign declaration ≡ Some sign → HasOwnKinds all sign
sign_has all above below (Sign name kinds) fresh e sign s =
    let it : signs.Sign = record { name = name; kinds = kinds } in
    subst (HasOwnKinds all) (same_Some it sign s) (subst (λ l. kinds_of_sign l name ≡ Some kinds) e (own_kinds above below name kinds fresh))
sign_has all above below (Class name items) fresh e sign s = absurd cc
sign_has all above below (Algebra name goal) fresh e sign s = absurd cc
sign_has all above below (Let name variables term) fresh e sign s = absurd cc
sign_has all above below (Rule name alternatives) fresh e sign s = absurd cc
sign_has all above below (Axiom rule) fresh e sign s = absurd cc
sign_has all above below Words fresh e sign s = absurd cc

pub each_has_kinds : (all : List Declaration) → Each (λ a d b. repeats a d ≡ false) [] all → AllByRecursion (HasOwnKinds all) (filter_map declared_sign all)
each_has_kinds all h =
    each_part declared_sign (HasOwnKinds all) [] all
    (each_so (λ a d b. (repeats a d ≡ false) × (a ++ d ∷ b ≡ all)) (λ a d b. (sign : signs.Sign) → declared_sign d ≡ Some sign → HasOwnKinds all sign)
    (λ a d b k. sign_has all a b d k.0 k.1) [] all (each_whole (λ a d b. repeats a d ≡ false) all [] all refl h))
