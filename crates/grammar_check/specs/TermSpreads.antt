-- What a wide term can come to over all ways to spread spare letters over an alternative's parts, which are its
-- arguments by their places. The magnitude rises with each side, and a value stands in one leaf, so the greatest over
-- all ways of a term with two sides goes by the greatest of each side.
use Rattle.std.specs.Prelude.{◌≡◌, ℕ, ◌+◌, ◌-◌, ◌*◌, max, min, Bool, false, ◌||◌, nat_eq, nat_abs, if◌then◌else◌, List, [], ◌∷◌}
use Rattle.adp_model.specs.WideForm as wide
use Rattle.adp_model.specs.WideForm.{Number, Value, Sum, Difference, Product, Greater, Lesser}
use Rattle.grammar_check.specs.declared.node.Operation.{Operation}
use Rattle.grammar_check.specs.declared.node.Operation.TheVariants as operations
use Rattle.grammar_check.specs.declared.part.Part.{Part}
use Rattle.grammar_check.specs.Plans.{worth_of, greatest_from, part_at}

-- what the magnitudes of two sides come to
abbrev pub put : Operation → ℕ → ℕ → ℕ
put operations.Sum left right = left + right
put operations.Product left right = max 1 left * max 1 right
put operations.Greater left right = max left right

-- the term has these two sides, whose magnitudes come to its own so
abbrev pub IsNode : Operation → wide.WideForm → wide.WideForm → wide.WideForm → Type 0
IsNode operation left right (Number number) = ⊥
IsNode operation left right (Value place) = ⊥
IsNode operation left right (Sum one other) = (operation ≡ operations.Sum) × (left ≡ one) × (right ≡ other)
IsNode operation left right (Difference one other) = (operation ≡ operations.Sum) × (left ≡ one) × (right ≡ other)
IsNode operation left right (Product one other) = (operation ≡ operations.Product) × (left ≡ one) × (right ≡ other)
IsNode operation left right (Greater one other) = (operation ≡ operations.Greater) × (left ≡ one) × (right ≡ other)
IsNode operation left right (Lesser one other) = (operation ≡ operations.Greater) × (left ≡ one) × (right ≡ other)

-- it has no sides
abbrev pub IsLeaf : wide.WideForm → Type 0
IsLeaf (Number number) = Unit {0}
IsLeaf (Value place) = Unit {0}
IsLeaf term = ⊥

-- the numbers of the arguments that the term names, added up
abbrev pub taken : (ℕ → ℕ) → wide.WideForm → ℕ
taken number (Number constant) = 0
taken number (Value place) = number place
taken number (Sum left right) = taken number left + taken number right
taken number (Difference left right) = taken number left + taken number right
taken number (Product left right) = taken number left + taken number right
taken number (Greater left right) = taken number left + taken number right
taken number (Lesser left right) = taken number left + taken number right

-- how many spare letters the arguments that it names can take
abbrev pub term_room : List Part → wide.WideForm → ℕ
term_room parts term = taken (λ place. (part_at parts place).room) term

-- the term names the argument at this place
abbrev pub names : wide.WideForm → ℕ → Bool
names (Number number) place = false
names (Value at) place = nat_eq at place
names (Sum left right) place = names left place || names right place
names (Difference left right) place = names left place || names right place
names (Product left right) place = names left place || names right place
names (Greater left right) place = names left place || names right place
names (Lesser left right) place = names left place || names right place

-- how many spare letters the arguments can take that it does not name, from this place on
abbrev pub idle_room : wide.WideForm → ℕ → List Part → ℕ
idle_room term place [] = 0
idle_room term place (part ∷ parts) = (if names term place then 0 else part.room) + idle_room term (place + 1) parts

-- the greatest that two sides come to over all ways to share so many spare letters, by what each can come to
abbrev pub joined : Operation → (ℕ → ℕ) → ℕ → (ℕ → ℕ) → ℕ → ℕ → ℕ
joined operation left left_room right right_room spare =
    greatest_from (λ more. put operation (left more) (right (spare - more)))
    (spare - right_room) (min spare left_room + 1 - (spare - right_room))

-- the greatest that the term comes to over all ways to spread so many spare letters over the arguments that it names
abbrev pub term_spread : (ℕ → ℕ → ℕ) → List Part → wide.WideForm → ℕ → ℕ
term_spread bound parts (Number number) spare = nat_abs number
term_spread bound parts (Value place) spare =
    worth_of bound (part_at parts place).worth ((part_at parts place).low + spare)
term_spread bound parts (Sum left right) spare =
    joined operations.Sum (term_spread bound parts left) (term_room parts left) (term_spread bound parts right)
    (term_room parts right) spare
term_spread bound parts (Difference left right) spare =
    joined operations.Sum (term_spread bound parts left) (term_room parts left) (term_spread bound parts right)
    (term_room parts right) spare
term_spread bound parts (Product left right) spare =
    joined operations.Product (term_spread bound parts left) (term_room parts left) (term_spread bound parts right)
    (term_room parts right) spare
term_spread bound parts (Greater left right) spare =
    joined operations.Greater (term_spread bound parts left) (term_room parts left) (term_spread bound parts right)
    (term_room parts right) spare
term_spread bound parts (Lesser left right) spare =
    joined operations.Greater (term_spread bound parts left) (term_room parts left) (term_spread bound parts right)
    (term_room parts right) spare

-- the same over all parts, where those that the term does not name take letters and add nothing
abbrev pub wide_spread : (ℕ → ℕ → ℕ) → List Part → wide.WideForm → ℕ → ℕ
wide_spread bound parts term spare =
    greatest_from (term_spread bound parts term) (spare - idle_room term 0 parts)
    (min spare (term_room parts term) + 1 - (spare - idle_room term 0 parts))
