-- Signs of terms: when a term is proved not negative, when it keeps the order of scores by its form, and when it keeps it
-- strictly.
use Rattle.std.specs.Prelude.{◌≡◌, ℕ, ◌<◌, ℤ, pos, ◌≤ℤ◌, int_le, Bool, false, ◌&&◌, ◌||◌, IsTrue, ◌⊎◌, List, [], ◌∷◌, length, slice_index_or}
use Rattle.adp_model.specs.declared.grammar.Kind.{Kind}
use Rattle.adp_model.specs.declared.grammar.Kind.TheVariants.{Score, Token}
use Rattle.adp_model.specs.WideForm as wide
use Rattle.adp_model.specs.WideForm.{Number, Value, Sum, Difference, Product, Greater, Lesser}
use Rattle.adp_model.specs.declared.grammar.Term.{Term}
use Rattle.adp_model.specs.declared.grammar.Term.TheVariants.{Linear, Wide}

-- ---- linear terms

-- each score argument has at least this factor; token arguments may have any
abbrev pub ScoreFactorsFrom : ℤ → List ℤ → List Kind → Type 0
ScoreFactorsFrom least [] kinds = Unit {0}
ScoreFactorsFrom least (factor ∷ factors) [] = Unit {0}
ScoreFactorsFrom least (factor ∷ factors) (Score ∷ kinds) = (least ≤ℤ factor) × ScoreFactorsFrom least factors kinds
ScoreFactorsFrom least (factor ∷ factors) (Token ∷ kinds) = ScoreFactorsFrom least factors kinds

-- ---- wide terms

-- the kind of the argument at a place
abbrev pub kind_at : List Kind → ℕ → Kind
kind_at kinds place = slice_index_or kinds place Token

-- no score stands in the term
abbrev pub NamesNoScore : List Kind → wide.WideForm → Type 0
NamesNoScore kinds (Number number) = Unit {0}
NamesNoScore kinds (Value place) = kind_at kinds place ≡ Token
NamesNoScore kinds (Sum left right) = NamesNoScore kinds left × NamesNoScore kinds right
NamesNoScore kinds (Difference left right) = NamesNoScore kinds left × NamesNoScore kinds right
NamesNoScore kinds (Product left right) = NamesNoScore kinds left × NamesNoScore kinds right
NamesNoScore kinds (Greater left right) = NamesNoScore kinds left × NamesNoScore kinds right
NamesNoScore kinds (Lesser left right) = NamesNoScore kinds left × NamesNoScore kinds right

-- the kinds of arguments that are known to have no negative value: tokens, scores, both or none
abbrev pub known_by : Bool → Bool → Kind → Bool
known_by tokens scores Score = scores
known_by tokens scores Token = tokens

-- whether the term is proved not negative, where arguments of some kinds are known to have no negative value: it is a
-- number, of which none is negative, or the value of such an argument; a sum, a product or the lesser of two that are
-- proved so; or the greater of two of which one is
abbrev pub is_proved_not_negative : (Kind → Bool) → List Kind → wide.WideForm → Bool
is_proved_not_negative known kinds (Number number) = int_le (pos 0) number
is_proved_not_negative known kinds (Value place) = known (kind_at kinds place)
is_proved_not_negative known kinds (Sum left right) =
    is_proved_not_negative known kinds left && is_proved_not_negative known kinds right
is_proved_not_negative known kinds (Difference left right) = false
is_proved_not_negative known kinds (Product left right) =
    is_proved_not_negative known kinds left && is_proved_not_negative known kinds right
is_proved_not_negative known kinds (Greater left right) =
    is_proved_not_negative known kinds left || is_proved_not_negative known kinds right
is_proved_not_negative known kinds (Lesser left right) =
    is_proved_not_negative known kinds left && is_proved_not_negative known kinds right

-- no score stands in the term, and it is proved not negative
abbrev pub IsFactor : (Kind → Bool) → List Kind → wide.WideForm → Type 0
IsFactor known kinds term = NamesNoScore kinds term × IsTrue (is_proved_not_negative known kinds term)

-- greater scores make the term no lesser by its form: what is taken away names no score; of a product no side names one,
-- or one side is a factor and the other rises, or both sides rise and are proved not negative
abbrev pub Rises : (Kind → Bool) → List Kind → wide.WideForm → Type 0
Rises known kinds (Number number) = Unit {0}
Rises known kinds (Value place) = Unit {0}
Rises known kinds (Sum left right) = Rises known kinds left × Rises known kinds right
Rises known kinds (Difference left right) = Rises known kinds left × NamesNoScore kinds right
Rises known kinds (Product left right) =
    (NamesNoScore kinds left × NamesNoScore kinds right)
    ⊎ ((IsFactor known kinds left × Rises known kinds right)
    ⊎ ((Rises known kinds left × IsFactor known kinds right)
    ⊎ (Rises known kinds left × Rises known kinds right
    × IsTrue (is_proved_not_negative known kinds left) × IsTrue (is_proved_not_negative known kinds right))))
Rises known kinds (Greater left right) = Rises known kinds left × Rises known kinds right
Rises known kinds (Lesser left right) = Rises known kinds left × Rises known kinds right

-- the term is a number of at least 1
abbrev pub IsPositiveNumber : wide.WideForm → Type 0
IsPositiveNumber (Number number) = pos 1 ≤ℤ number
IsPositiveNumber term = ⊥

-- each node on the way to the value of the argument at this place is a sum, a difference with it on the left, or a
-- product whose other side is a number of at least 1
abbrev pub RisesWith : ℕ → wide.WideForm → Type 0
RisesWith place (Number number) = ⊥
RisesWith place (Value other) = place ≡ other
RisesWith place (Sum left right) = RisesWith place left ⊎ RisesWith place right
RisesWith place (Difference left right) = RisesWith place left
RisesWith place (Product left right) =
    (RisesWith place left × IsPositiveNumber right) ⊎ (IsPositiveNumber left × RisesWith place right)
RisesWith place (Greater left right) = ⊥
RisesWith place (Lesser left right) = ⊥

-- ---- terms

-- a value that an argument of this kind can have, where arguments of some kinds are known to have no negative one
abbrev pub HasKnownSign : (Kind → Bool) → Kind → ℤ → Type 0
HasKnownSign known kind value = IsTrue (known kind) → pos 0 ≤ℤ value

-- whether the term is proved not negative; a linear one never is
abbrev pub is_not_negative : (Kind → Bool) → List Kind → Term → Bool
is_not_negative known kinds (Linear term) = false
is_not_negative known kinds (Wide term) = is_proved_not_negative known kinds term

-- the term is monotone: no score has a negative factor, or it rises by its form, where arguments of some kinds are known
-- to have no negative value
abbrev pub IsMonotone : (Kind → Bool) → Term → List Kind → Type 0
IsMonotone known (Linear term) kinds = ScoreFactorsFrom (pos 0) term.factors kinds
IsMonotone known (Wide term) kinds = Rises known kinds term

-- the term is strict: each score has at least the factor 1, or it rises with each score by its form
abbrev pub IsStrict : Term → List Kind → Type 0
IsStrict (Linear term) kinds = ScoreFactorsFrom (pos 1) term.factors kinds
IsStrict (Wide term) kinds =
    (place : ℕ) → place < length kinds → kind_at kinds place ≡ Score → RisesWith place term
