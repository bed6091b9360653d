-- The alternatives that stand as arguments, from the last token of a rule on.
use Rattle.std.proofs.Common.{◌≡◌, ℕ, suc, ◌+◌, ◌-◌, ◌<◌, ◌≤◌, ◌⊎◌, inl, inr, List, [], ◌∷◌, length, drop, refl, sym, ◌∙◌, ap, subst, arith}
use Rattle.std.specs.List.{slice_range, AllByRecursion}
use Rattle.std.proofs.lemmas.List.{nil_from_length}
use Rattle.job_texts.specs.LineTokens.{Token, OpenBracket, CloseBracket, PlacedToken}
use Rattle.nested_texts.specs.NestedRules.{Nested, ends_at, ends_of, nested_at, nested_behind, with_nested}
use Rattle.nested_jobs.proofs.Sides.{Outside, bar_of}
use Rattle.nested_jobs.proofs.Chains.{side_at, bars_at, Chain, said}
use Rattle.nested_jobs.proofs.Shapes.{AreLevel, open_before, ends_open}

-- ---- what is kept

-- a closing bracket outside of quoted texts ends here
pub record IsEndAt (line : List ℕ) (to : ℕ) : Type 0 where
  pub before : ℕ
  pub next : to ≡ before + 1
  pub side : side_at line before ≡ Outside
  pub behind : side_at line to ≡ Outside
  pub bars : bars_at line before ≡ bars_at line to
  pub last : slice_range line before to ≡ 41 ∷ []

-- an alternative from here to a closing bracket, with no `|` in it
pub record IsNestedAt (line : List ℕ) (nested : Nested) : Type 0 where
  pub begins : side_at line nested.from ≡ Outside
  pub ends : IsEndAt line nested.to
  pub level : bars_at line nested.from ≡ bars_at line nested.to
  pub long : nested.from < nested.to

-- those that begin first and lie in more alternatives than so many end before this end, with no `|` between
abbrev pub EndBefore : List ℕ → ℕ → ℕ → List Nested → Type 0
EndBefore line depth to [] = Unit {0}
EndBefore line depth to (nested ∷ others) =
    depth < nested.depth → (nested.to < to) ×
    (bars_at line nested.from ≡ bars_at line to) × EndBefore line depth to others

-- each of them, and those that lie in it
abbrev pub AreNestedAt : List ℕ → List Nested → Type 0
AreNestedAt line [] = Unit {0}
AreNestedAt line (nested ∷ others) =
    IsNestedAt line nested × EndBefore line nested.depth nested.to others × AreNestedAt line others

-- the same at the ends of open alternatives that lie in others
abbrev EndInside : List ℕ → List ℕ → List Nested → Type 0
EndInside line [] nested = Unit {0}
EndInside line (to ∷ []) nested = Unit {0}
EndInside line (to ∷ outer ∷ further) nested =
    EndBefore line (suc (length further)) to nested × EndInside line (outer ∷ further) nested

abbrev Ascend : ℕ → List ℕ → Type 0
Ascend place [] = Unit {0}
Ascend place (to ∷ ends) = (place < to) × Ascend to ends

-- the first lies in no more alternatives than are open, and in one at least
abbrev IsShallow : ℕ → List Nested → Type 0
IsShallow count [] = Unit {0}
IsShallow count (nested ∷ others) = nested.depth ≤ 1 + (count - 1)

record IsScanned (line : List ℕ) (place base : ℕ) (ends : List ℕ) (nested : List Nested) : Type 0 where
  ascend : Ascend place ends
  level : AllByRecursion (λ (to : ℕ). bars_at line to ≡ base) ends
  ended : AllByRecursion (IsEndAt line) ends
  shallow : IsShallow (length ends) nested
  inside : EndInside line ends nested
  found : AreNestedAt line nested

-- ---- steps

from_lower : (place place' : ℕ) (ends : List ℕ) → place' ≤ place → Ascend place ends → Ascend place' ends
from_lower place place' [] h ascend = tt
from_lower place place' (to ∷ ends) h ascend = (omega (arith, ascend.0), ascend.1)

shallower : (count count' : ℕ) (nested : List Nested) → count - 1 ≤ count' - 1 → IsShallow count nested
    → IsShallow count' nested
shallower count count' [] h shallow = tt
shallower count count' (nested ∷ others) h shallow = omega (arith, shallow)

-- one more that ends before these ends
inside_more : (line : List ℕ) (base : ℕ) (nested : Nested) (others : List Nested) (ends : List ℕ)
    → bars_at line nested.from ≡ base → Ascend nested.to ends
    → AllByRecursion (λ (to : ℕ). bars_at line to ≡ base) ends → EndInside line ends others
    → EndInside line ends (nested ∷ others)
inside_more line base nested others [] from ascend level inside = tt
inside_more line base nested others (to ∷ []) from ascend level inside = tt
inside_more line base nested others (to ∷ outer ∷ further) from ascend level inside = (
  λ deep. (ascend.0, from ∙ sym level.0, inside.0),
  inside_more line base nested others (outer ∷ further) from
      (omega (arith, ascend.0, ascend.1.0), ascend.1.1) level.1 inside.1,
)

opened : (line : List ℕ) (place place' from base : ℕ) (ends : List ℕ) (nested : List Nested) → from ≤ place
    → place < place' → side_at line from ≡ Outside
    → ((drop 1 ends ≡ [] → ⊥) → bars_at line from ≡ base) → IsScanned line place' base ends nested
    → IsScanned line place base (drop 1 ends) (with_nested from ends nested)
opened line place place' from base [] nested h h' side bars scan = record {
  ascend = tt;
  level = tt;
  ended = tt;
  shallow = scan.shallow;
  inside = tt;
  found = scan.found;
}
opened line place place' from base (to ∷ []) nested h h' side bars scan = record {
  ascend = tt;
  level = tt;
  ended = tt;
  shallow = shallower 1 0 nested (omega arith) scan.shallow;
  inside = tt;
  found = scan.found;
}
opened line place place' from base (to ∷ outer ∷ further) nested h h' side bars scan =
    let same : bars_at line from ≡ base = bars (λ none. cc) in
    let own : Nested = record { depth = suc (length further); from = from; to = to } in
    record {
      ascend = (omega (arith, scan.ascend.0, scan.ascend.1.0), scan.ascend.1.1);
      level = scan.level.1;
      ended = scan.ended.1;
      shallow = omega arith;
      inside = inside_more line base own nested (outer ∷ further) same scan.ascend.1 scan.level.1 scan.inside.1;
      found = (
        record {
          begins = side;
          ends = scan.ended.0;
          level = same
              ∙ sym scan.level.0;
          long = omega (arith, scan.ascend.0);
        },
        scan.inside.0,
        scan.found,
      );
    }

-- those that begin behind an alternative don't lie in it
none_inside : (line : List ℕ) (count to : ℕ) (nested : List Nested) → IsShallow (suc count) nested
    → EndBefore line (suc count) to nested
none_inside line count to [] shallow = tt
none_inside line count to (nested ∷ others) shallow = λ deep. absurd (omega (arith, shallow, deep))

closed : (line : List ℕ) (place place' base : ℕ) (ends : List ℕ) (nested : List Nested) → place < place'
    → IsEndAt line place' → bars_at line place' ≡ base
    → IsScanned line place' base ends nested → IsScanned line place base (place' ∷ ends) nested
closed line place place' base [] nested h end bars scan = record {
  ascend = (h, tt);
  level = (bars, tt);
  ended = (end, tt);
  shallow = shallower 0 1 nested (omega arith) scan.shallow;
  inside = tt;
  found = scan.found;
}
closed line place place' base (outer ∷ further) nested h end bars scan = record {
  ascend = (h, scan.ascend);
  level = (bars, scan.level);
  ended = (end, scan.ended);
  shallow = shallower (suc (length further)) (suc (suc (length further))) nested (omega arith) scan.shallow;
  inside = (
    none_inside line (length further) place' nested
        (shallower (suc (length further)) (suc (length further)) nested (omega arith) scan.shallow),
    scan.inside,
  );
  found = scan.found;
}

kept : (line : List ℕ) (place place' base base' : ℕ) (ends : List ℕ) (nested : List Nested) → place ≤ place'
    → (base' ≡ base) ⊎ (ends ≡ [])
    → IsScanned line place' base' ends nested → IsScanned line place base ends nested
kept line place place' base base' ends nested h (inl same) scan = record {
  ascend = from_lower place' place ends h scan.ascend;
  level = subst (λ (base : ℕ). AllByRecursion (λ (to : ℕ). bars_at line to ≡ base) ends) same scan.level;
  ended = scan.ended;
  shallow = scan.shallow;
  inside = scan.inside;
  found = scan.found;
}
kept line place place' base base' ends nested h (inr none) scan = record {
  ascend = subst (Ascend place) (sym none) tt;
  level = subst (AllByRecursion (λ (to : ℕ). bars_at line to ≡ base)) (sym none) tt;
  ended = scan.ended;
  shallow = scan.shallow;
  inside = scan.inside;
  found = scan.found;
}

-- ---- token by token

level_or_none : (base : ℕ) (token : PlacedToken) (tokens : List PlacedToken)
    → (bar_of token.token ≡ 0) ⊎ (open_before (said tokens) ≡ 0)
    → (base + bar_of token.token ≡ base) ⊎ (ends_of tokens ≡ [])
level_or_none base token tokens (inl none) = inl (omega (arith, none))
level_or_none base token tokens (inr none) = inr (nil_from_length (ends_of tokens) (ends_open tokens ∙ none))

scanned : (line : List ℕ) (place base from : ℕ) (tokens : List PlacedToken) → Chain line place base tokens
    → AreLevel (said tokens) → from ≤ place
    → side_at line from ≡ Outside → ((ends_of tokens ≡ [] → ⊥) → bars_at line from ≡ base)
    → IsScanned line place base (ends_of tokens) (nested_behind from tokens)
scanned line place base from [] chain level h side bars =
    record { ascend = tt; level = tt; ended = tt; shallow = tt; inside = tt; found = tt }
scanned line place base from (token ∷ tokens) chain level h side bars =
    step token.token refl bars
    (kept line token.to token.to base (base + bar_of token.token) (ends_of tokens) (nested_behind token.from tokens)
    (omega arith) among
    (scanned line token.to (base + bar_of token.token) token.from tokens chain.2 level.1
    (omega (arith, chain.1.long)) chain.1.begins (behind among)))
  where
    among : (base + bar_of token.token ≡ base) ⊎ (ends_of tokens ≡ [])
    among = level_or_none base token tokens level.0

    behind : (base + bar_of token.token ≡ base) ⊎ (ends_of tokens ≡ []) → (ends_of tokens ≡ [] → ⊥)
        → bars_at line token.from ≡ base + bar_of token.token
    behind (inl same) some = chain.1.before ∙ sym same
    behind (inr none) some = absurd (some none)

    step : (sort : Token) → token.token ≡ sort
        → ((ends_at sort token.to (ends_of tokens) ≡ [] → ⊥) → bars_at line from ≡ base)
        → IsScanned line token.to base (ends_of tokens) (nested_behind token.from tokens)
        → IsScanned line place base (ends_at sort token.to (ends_of tokens))
        (nested_at sort from (ends_of tokens) (nested_behind token.from tokens))
    step OpenBracket e bars rest =
        opened line place token.to from base (ends_of tokens) (nested_behind token.from tokens) h
        (omega (arith, chain.0, chain.1.long)) side bars rest
    step CloseBracket e bars rest =
        let closes = chain.1.closes e in
        let none : bar_of token.token ≡ 0 = ap bar_of e in
        let counted : bars_at line token.to ≡ base = omega (arith, chain.1.behind, none) in
        let end : IsEndAt line token.to = record {
          before = token.from;
          next = closes.0;
          side = chain.1.begins;
          behind = chain.1.ends;
          bars = chain.1.before ∙ sym counted;
          last = closes.1;
        } in
        closed line place token.to base (ends_of tokens) (nested_behind token.from tokens)
        (omega (arith, chain.0, chain.1.long)) end counted rest
    step sort e bars rest =
        kept line place token.to base base (ends_of tokens) (nested_behind token.from tokens)
        (omega (arith, chain.0, chain.1.long)) (inl refl) rest

-- none begins before the token before
later_more : (from from' : ℕ) (nested : List Nested) → from ≤ from'
    → AllByRecursion (λ (nested : Nested). from' ≤ nested.from) nested
    → AllByRecursion (λ (nested : Nested). from ≤ nested.from) nested
later_more from from' [] h later = tt
later_more from from' (nested ∷ others) h later = (omega (arith, later.0), later_more from from' others h later.1)

later_with : (from : ℕ) (ends : List ℕ) (others : List Nested)
    → AllByRecursion (λ (nested : Nested). from ≤ nested.from) others
    → AllByRecursion (λ (nested : Nested). from ≤ nested.from) (with_nested from ends others)
later_with from [] others later = later
later_with from (to ∷ []) others later = later
later_with from (to ∷ outer ∷ further) others later = (omega arith, later)

later_at : (token : Token) (from : ℕ) (ends : List ℕ) (others : List Nested)
    → AllByRecursion (λ (nested : Nested). from ≤ nested.from) others
    → AllByRecursion (λ (nested : Nested). from ≤ nested.from) (nested_at token from ends others)
later_at OpenBracket from ends others later = later_with from ends others later
later_at token from ends others later = later

pub begin_later : (line : List ℕ) (place base from : ℕ) (tokens : List PlacedToken) → Chain line place base tokens
    → from ≤ place
    → AllByRecursion (λ (nested : Nested). from ≤ nested.from) (nested_behind from tokens)
begin_later line place base from [] chain h = tt
begin_later line place base from (token ∷ tokens) chain h =
    let rest =
    begin_later line token.to (base + bar_of token.token) token.from tokens chain.2 (omega (arith, chain.1.long)) in
    later_at token.token from (ends_of tokens) (nested_behind token.from tokens)
    (later_more from token.from (nested_behind token.from tokens) (omega (arith, chain.0)) rest)

-- the alternatives of a rule
pub found_behind : (line : List ℕ) (tokens : List PlacedToken) → Chain line 0 0 tokens → AreLevel (said tokens)
    → AreNestedAt line (nested_behind 0 tokens)
found_behind line tokens chain level = (scanned line 0 0 0 tokens chain level (omega arith) refl (λ some. refl)).found
