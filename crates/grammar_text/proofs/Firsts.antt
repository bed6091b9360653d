-- The first of some items that passes a test, and maps that keep its place by the name that it is asked for.
use Rattle.std.proofs.Common.{◌≡◌, ℕ, zero, suc, ◌+◌, ◌<◌, ◌≤◌, Bool, true, false, ◌||◌, nat_eq, cond, Option, Some, None, is_some, List, [], ◌∷◌, ◌++◌, length, map, take, get_or, refl, sym, ◌∙◌, ap, ap₂, arith, length-take}
use Rattle.std.specs.List.{list_any, filter_map, position}
use Rattle.std.specs.Option.{option_map, option_or, option_copied}
use Rattle.std.specs.Borrow.{Bor}
use Rattle.std.proofs.lemmas.List.{take_more, map_push, length-map}
use Rattle.std.proofs.Math.Nat.{min-eq_left}
use lib.Pointwise.{pointwise}
use Rattle.job_texts.specs.TermText.{is_among}
use Rattle.adp_model.specs.declared.grammar.Kind.{Kind}
use Rattle.job_texts.specs.Declarations.{Declaration, Class, Sign, Algebra, Let, Rule, Axiom, Words}
use Rattle.job_texts.specs.DeclaredNames.{first_of_list, kinds_given, kinds_of_sign, sign_name_of}
use Rattle.std.specs.BTreeMap.{BTreeMap}
use Rattle.grammar_text.specs.Names.{gives_kinds, number_in, HasFirst}
use Rattle.std.proofs.lemmas.List.Quantifiers.{position-Some}
use Rattle.grammar_text.proofs.Sorts.{same_text, either_order}

pub first_yes : {X : Type 0} (p : X → Bool) (x : X) (xs : List X) → p x ≡ true → position p (x ∷ xs) ≡ Some 0
first_yes p x xs h = grind (arith, h)

pub first_no : {X : Type 0} (p : X → Bool) (x : X) (xs : List X) → p x ≡ false → position p (x ∷ xs) ≡ option_map (λ n. suc n) (position p xs)
first_no p x xs h = grind (arith, h)

later : (found : Option ℕ) (passes : Bool) (n : ℕ)
    → option_map (λ n. suc n) (option_or found (cond passes (Some n) None)) ≡ option_or (option_map (λ n. suc n) found) (cond passes (Some (suc n)) None)
later None true n = refl
later None false n = refl
later (Some k) passes n = refl

-- one more item behind the others
pub first_of_more : {X : Type 0} (p : X → Bool) (xs : List X) (y : X) → position p (xs ++ y ∷ []) ≡ option_or (position p xs) (cond (p y) (Some (length xs)) None)
first_of_more p [] y = step (p y) refl
  where
    step : (b : Bool) → p y ≡ b → position p (y ∷ []) ≡ option_or (position p []) (cond (p y) (Some 0) None)
    step true h = first_yes p y [] h ∙ rw h refl
    step false h = first_no p y [] h ∙ rw h refl
first_of_more p (x ∷ xs) y = step (p x) refl (first_of_more p xs y)
  where
    step : (b : Bool) → p x ≡ b → position p (xs ++ y ∷ []) ≡ option_or (position p xs) (cond (p y) (Some (length xs)) None)
        → position p (x ∷ (xs ++ y ∷ [])) ≡ option_or (position p (x ∷ xs)) (cond (p y) (Some (suc (length xs))) None)
    step true h others = first_yes p x (xs ++ y ∷ []) h ∙ ap (λ found. option_or found (cond (p y) (Some (suc (length xs))) None)) (sym (first_yes p x xs h))
    step false h others =
        first_no p x (xs ++ y ∷ []) h ∙ ap (λ found. option_map (λ n. suc n) found) others ∙ later (position p xs) (p y) (length xs)
        ∙ ap (λ found. option_or found (cond (p y) (Some (suc (length xs))) None)) (sym (first_no p x xs h))

is_some_later : (found : Option ℕ) → is_some (option_map (λ n. suc n) found) ≡ is_some found
is_some_later None = refl
is_some_later (Some n) = refl

-- one passes exactly where there is a first
pub any_first : {X : Type 0} (p : X → Bool) (xs : List X) → is_some (position p xs) ≡ list_any p xs
any_first p [] = refl
any_first p (x ∷ xs) = step (p x) refl (any_first p xs)
  where
    step : (b : Bool) → p x ≡ b → is_some (position p xs) ≡ list_any p xs → is_some (position p (x ∷ xs)) ≡ (p x || list_any p xs)
    step true h others = rw (first_yes p x xs h, h) refl
    step false h others = rw (first_no p x xs h, h) (is_some_later (position p xs) ∙ others)

in_order : (names : List (List ℕ)) (name : List ℕ) → list_any (pointwise nat_eq name) names ≡ is_among names name
in_order [] name = refl
in_order (first ∷ names) name = ap₂ (λ a b. a || b) (either_order name first) (in_order names name)

pub among_first : (names : List (List ℕ)) (name : List ℕ) → is_some (position (pointwise nat_eq name) names) ≡ is_among names name
among_first names name = any_first (pointwise nat_eq name) names ∙ in_order names name

-- ---- what the first gives

pub none_gives : {A B : Type 0} (give : A → Option B) (xs : List A) → position (λ x. is_some (give x)) xs ≡ None → first_of_list (filter_map give xs) ≡ None
none_gives give [] h = refl
none_gives {B = B} give (x ∷ xs) h = step (give x) refl (none_gives give xs)
  where
    no_later : (found : Option ℕ) → option_map (λ n. suc n) found ≡ None → found ≡ None
    no_later None h = refl
    no_later (Some n) h = absurd cc

    step : (given : Option B) → give x ≡ given → (position (λ x. is_some (give x)) xs ≡ None → first_of_list (filter_map give xs) ≡ None)
        → first_of_list (filter_map give (x ∷ xs)) ≡ None
    step None e others =
        let fails : is_some (give x) ≡ false = rw e refl in
        rw e (others (no_later (position (λ x. is_some (give x)) xs) (sym (first_no (λ x. is_some (give x)) x xs fails) ∙ h)))
    step (Some y) e others =
        let passes : is_some (give x) ≡ true = rw e refl in
        absurd (let is = sym (first_yes (λ x. is_some (give x)) x xs passes) ∙ h in cc)

pub one_gives : {A B : Type 0} (give : A → Option B) (xs : List A) (i : ℕ) (d : A) → position (λ x. is_some (give x)) xs ≡ Some i → first_of_list (filter_map give xs) ≡ give (get_or xs i d)
one_gives give [] i d h = absurd cc
one_gives {A = A} {B = B} give (x ∷ xs) i d h = step (give x) refl (one_gives give xs)
  where
    behind : (found : Option ℕ) (i : ℕ) → option_map (λ n. suc n) found ≡ Some i → (j : ℕ) × (found ≡ Some j) × (suc j ≡ i)
    behind None i h = absurd cc
    behind (Some j) i h = (j, refl, cc)

    step : (given : Option B) → give x ≡ given → ((j : ℕ) (d : A) → position (λ x. is_some (give x)) xs ≡ Some j → first_of_list (filter_map give xs) ≡ give (get_or xs j d))
        → first_of_list (filter_map give (x ∷ xs)) ≡ give (get_or (x ∷ xs) i d)
    step None e others =
        let fails : is_some (give x) ≡ false = rw e refl in
        let before = behind (position (λ x. is_some (give x)) xs) i (sym (first_no (λ x. is_some (give x)) x xs fails) ∙ h) in
        rw e (rw (sym before.2) (others before.0 d before.1))
    step (Some y) e others =
        let passes : is_some (give x) ≡ true = rw e refl in
        let first : zero ≡ i = (let is : Some 0 ≡ Some i = sym (first_yes (λ x. is_some (give x)) x xs passes) ∙ h in cc) in
        rw (sym first) (rw e refl)

-- ---- maps that keep the first

or_nothing : (found : Option ℕ) → option_or found None ≡ found
or_nothing None = refl
or_nothing (Some n) = refl

-- a name that a map has not yet gets a number
pub put_new : (key : List ℕ) (number : ℕ) (old new : List ℕ → Option ℕ) → old key ≡ None
    → ((name : List ℕ) → new name ≡ cond (pointwise nat_eq key name) (Some number) (old name))
    → (asked : List ℕ) → new asked ≡ option_or (old asked) (cond (pointwise nat_eq asked key) (Some number) None)
put_new key number old new none changed asked = changed asked ∙ step (pointwise nat_eq key asked) refl
  where
    step : (b : Bool) → pointwise nat_eq key asked ≡ b → cond (pointwise nat_eq key asked) (Some number) (old asked) ≡ option_or (old asked) (cond (pointwise nat_eq asked key) (Some number) None)
    step true e =
        let nothing : old asked ≡ None = ap old (sym (same_text key asked e)) ∙ none in
        rw (nothing, either_order asked key, e) refl
    step false e = rw (either_order asked key, e) (sym (or_nothing (old asked)))

-- one that it has gets its own number back
pub put_back : (key : List ℕ) (number before : ℕ) (old mid new : List ℕ → Option ℕ) → old key ≡ Some before
    → ((name : List ℕ) → mid name ≡ cond (pointwise nat_eq key name) (Some number) (old name))
    → ((name : List ℕ) → new name ≡ cond (pointwise nat_eq key name) (Some before) (mid name))
    → (asked : List ℕ) → new asked ≡ option_or (old asked) (cond (pointwise nat_eq asked key) (Some number) None)
put_back key number before old mid new had changed again asked = again asked ∙ step (pointwise nat_eq key asked) refl
  where
    step : (b : Bool) → pointwise nat_eq key asked ≡ b → cond (pointwise nat_eq key asked) (Some before) (mid asked) ≡ option_or (old asked) (cond (pointwise nat_eq asked key) (Some number) None)
    step true e =
        let its : old asked ≡ Some before = ap old (sym (same_text key asked e)) ∙ had in
        rw (its, e) refl
    step false e = rw (changed asked, either_order asked key, e) (sym (or_nothing (old asked)))

-- one more item, whose name has its place unless an item before has the name
pub first_more : {X : Type 0} (test : List ℕ → X → Bool) (old new : BTreeMap (Bor (List ℕ)) ℕ) (xs : List X) (x : X) (name : List ℕ) (number : ℕ)
    → ((asked : List ℕ) → number_in old asked ≡ position (test asked) xs) → ((asked : List ℕ) → test asked x ≡ pointwise nat_eq asked name) → number ≡ length xs
    → HasFirst old new name number → (asked : List ℕ) → number_in new asked ≡ position (test asked) (xs ++ x ∷ [])
first_more test old new xs x name number are is count put asked =
    let last : cond (pointwise nat_eq asked name) (Some number) None ≡ cond (test asked x) (Some (length xs)) None = rw (is asked, count) refl in
    put asked ∙ ap₂ (λ found other. option_or found other) (are asked) last ∙ sym (first_of_more (test asked) xs x)

-- one more item is seen
pub seen_more : {A B : Type 0} (seen : A → B) (xs : List A) (i : ℕ) (item : A) → i < length xs → item ≡ get_or xs i item → map seen (take (i + 1) xs) ≡ map seen (take i xs) ++ seen item ∷ []
seen_more seen xs i item inside is = ap (map seen) (take_more xs i item inside ∙ ap (λ last. take i xs ++ last ∷ []) (sym is)) ∙ map_push seen (take i xs) item

-- ---- what the reader asks

pub some_copied : {X : Type 0} (found : Option (Bor X)) → is_some found ≡ is_some (option_copied found)
some_copied None = refl
some_copied (Some n) = refl

-- a name is found in a map exactly where it is among the names whose numbers the map has
pub known : (result : Bool) (found : Option (Bor ℕ)) (number : Option ℕ) (names : List (List ℕ)) (name : List ℕ) → result ≡ is_some found → option_copied found ≡ number
    → number ≡ position (pointwise nat_eq name) names → result ≡ is_among names name
known result found number names name is copied has = is ∙ some_copied found ∙ ap is_some (copied ∙ has) ∙ among_first names name

-- the first declaration of a sign gives its kinds
pub sign_gives : (sign : List ℕ) (all : List Declaration) (i : ℕ) (d : Declaration) (name : List ℕ) (kinds : List Kind) → position (gives_kinds sign) all ≡ Some i → get_or all i d ≡ Sign name kinds
    → kinds_of_sign all sign ≡ Some kinds
sign_gives sign all i d name kinds found at = one_gives (kinds_given sign) all i d found ∙ rw at (step (pointwise nat_eq sign name) refl)
  where
    passes : gives_kinds sign (Sign name kinds) ≡ true
    passes = rw at at (position-Some (gives_kinds sign) all i d found).1

    step : (b : Bool) → pointwise nat_eq sign name ≡ b → kinds_given sign (Sign name kinds) ≡ Some kinds
    step true e = rw e refl
    step false e = absurd (let no = rw e at passes in cc)

-- where another declaration stands none is found
pub no_sign : (sign : List ℕ) (all : List Declaration) (i : ℕ) (d : Declaration) → position (gives_kinds sign) all ≡ Some i → gives_kinds sign (get_or all i d) ≡ false → ⊥
no_sign sign all i d found fails = let passes = (position-Some (gives_kinds sign) all i d found).1 in cc

-- the same, read with a default
pub seen_more_at : {A B : Type 0} (seen : A → B) (xs : List A) (i : ℕ) (d : A) → i < length xs → map seen (take (i + 1) xs) ≡ map seen (take i xs) ++ seen (get_or xs i d) ∷ []
seen_more_at seen xs i d inside = ap (map seen) (take_more xs i d inside) ∙ map_push seen (take i xs) (get_or xs i d)

pub seen_so_far : {A B : Type 0} (seen : A → B) (xs : List A) (i : ℕ) → i < length xs → i ≡ length (map seen (take i xs))
seen_so_far seen xs i inside = let few : i ≤ length xs = omega arith in sym (length-map (take i xs) seen ∙ length-take i xs ∙ min-eq_left few)

-- a line gives kinds to the sign that it declares, and to no other
pub gives_by_name : (d : Declaration) (key : List ℕ) → Some key ≡ sign_name_of d → (name : List ℕ) → gives_kinds name d ≡ pointwise nat_eq name key
gives_by_name (Class n items) key h name = absurd cc
gives_by_name (Sign n kinds) key h name = let same : n ≡ key = cc in rw (sym same) (step (pointwise nat_eq name n) refl)
  where
    step : (b : Bool) → pointwise nat_eq name n ≡ b → gives_kinds name (Sign n kinds) ≡ pointwise nat_eq name n
    step true e = rw e refl
    step false e = rw e refl
gives_by_name (Algebra n goal) key h name = absurd cc
gives_by_name (Let sign variables term) key h name = absurd cc
gives_by_name (Rule n alternatives) key h name = absurd cc
gives_by_name (Axiom rule) key h name = absurd cc
gives_by_name Words key h name = absurd cc
