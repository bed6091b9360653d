-- The reading of a wide term token by token is that of its grammar.
use Rattle.std.proofs.Common.{◌≡◌, ℕ, zero, suc, ◌+◌, ◌*◌, ◌<◌, ◌≤◌, Option, Some, None, List, [], ◌∷◌, ◌++◌, length, refl, ◌∙◌, ap, append_assoc, arith}
use Rattle.std.specs.Option.{option_and_then, option_map}
use Rattle.job_texts.specs.LineTokens as lines
use Rattle.job_texts.specs.LineTokens.{Token}
use Rattle.job_texts.specs.WideText.{Operation, Sum, Difference, Product, TermTree, Join, Piece, atom_at, closed, function_of, further_product, further_sum, nought, product_at, second_side, sum_at, tree_of, whole}
use Rattle.algebra_terms.specs.declared.wide_steps.Open.{Open}
use Rattle.algebra_terms.specs.declared.wide_steps.Open.TheVariants as opens
use Rattle.algebra_terms.specs.declared.wide_steps.Next.TheVariants as next
use Rattle.algebra_terms.specs.WideSteps.{Step, Join', Reading, at_start, behind_atom, operation_in, read_on, reading, steps_of}

-- ---- what stands open, and what stands next

-- nothing is open but a bracket or a side of a function
abbrev IsBase : List Open → Type 0
IsBase (opens.Plus ∷ open') = ⊥
IsBase (opens.Minus ∷ open') = ⊥
IsBase (opens.Times ∷ open') = ⊥
IsBase open' = Unit {0}

-- no product waits for an atom
abbrev HasNoTimes : List Open → Type 0
HasNoTimes (opens.Times ∷ open') = ⊥
HasNoTimes open' = Unit {0}

base_has_no_times : (open' : List Open) → IsBase open' → HasNoTimes open'
base_has_no_times (opens.Times ∷ open') base = base
base_has_no_times open' base = tt

-- no `*` stands next
abbrev EndsProduct : List Token → Type 0
EndsProduct (lines.Times ∷ tokens) = ⊥
EndsProduct tokens = Unit {0}

-- no operation stands next
abbrev EndsSum : List Token → Type 0
EndsSum (lines.Times ∷ tokens) = ⊥
EndsSum (lines.Plus ∷ tokens) = ⊥
EndsSum (lines.Minus ∷ tokens) = ⊥
EndsSum tokens = Unit {0}

abbrev Anything : List Token → Type 0
Anything tokens = Unit {0}

-- ---- what a piece of the grammar reads

-- the reading comes behind the piece with the steps of its tree
record Reads (after : List Step → Reading) (steps : List Step) (value : Option (List Step)) (bound : ℕ) (Ends : List Token → Type 0) (found : Piece) : Type 0 where
  reads : value ≡ read_on (after (steps ++ steps_of found.tree)) found.behind
  shorter : length found.behind < bound
  ends : Ends found.behind

abbrev ReadsAs : (List Step → Reading) → List Step → Option (List Step) → ℕ → (List Token → Type 0) → Option Piece → Type 0
ReadsAs after steps value bound Ends None = value ≡ None
ReadsAs after steps value bound Ends (Some found) = Reads after steps value bound Ends found

carried : (after : List Step → Reading) (steps : List Step) (value value' : Option (List Step)) (bound bound' : ℕ) (Ends : List Token → Type 0) (found : Option Piece) → value ≡ value' → bound' ≤ bound
    → ReadsAs after steps value' bound' Ends found → ReadsAs after steps value bound Ends found
carried after steps value value' bound bound' Ends None same less h = same ∙ h
carried after steps value value' bound bound' Ends (Some found) same less h = record { reads = same ∙ h.reads; shorter = omega (arith, h.shorter); ends = h.ends }

record Follows (n : ℕ) : Type 0 where
  sum : (open' : List Open) (steps : List Step) (tokens : List Token) → IsBase open' → 5 * length tokens + 4 ≤ n
      → ReadsAs (reading next.Behind open') steps (read_on (reading next.Sum open' steps) tokens) (length tokens) EndsSum (sum_at n tokens)
  more_sum : (open' : List Open) (steps : List Step) (left : TermTree) (tokens : List Token) → IsBase open' → EndsProduct tokens → 5 * length tokens + 1 ≤ n
      → ReadsAs (reading next.Behind open') steps (read_on (reading next.Behind open' (steps ++ steps_of left)) tokens) (length tokens + 1) EndsSum (further_sum n left tokens)
  product : (open' : List Open) (steps : List Step) (tokens : List Token) → HasNoTimes open' → 5 * length tokens + 3 ≤ n
      → ReadsAs (reading next.Behind open') steps (read_on (reading next.Atom open' steps) tokens) (length tokens) EndsProduct (product_at n tokens)
  more_product : (open' : List Open) (steps : List Step) (left : TermTree) (tokens : List Token) → HasNoTimes open' → 5 * length tokens + 1 ≤ n
      → ReadsAs (reading next.Behind open') steps (read_on (reading next.Behind open' (steps ++ steps_of left)) tokens) (length tokens + 1) EndsProduct (further_product n left tokens)
  atom : (open' : List Open) (steps : List Step) (tokens : List Token) → 5 * length tokens + 2 ≤ n
      → ReadsAs (behind_atom open') steps (read_on (reading next.Atom open' steps) tokens) (length tokens) Anything (atom_at n tokens)
  second : (open' : List Open) (steps : List Step) (operation : Operation) (tree : TermTree) (behind : List Token) → EndsSum behind → 5 * length behind + 1 ≤ n
      → ReadsAs (behind_atom open') steps (read_on (reading next.Behind (opens.First (operation_in operation) ∷ open') (steps ++ steps_of tree)) behind) (length behind) Anything
      (second_side n operation (record { tree = tree; behind = behind }))

-- ---- operations

pub join_steps : (steps left right : List Step) (last : List Step) → ((steps ++ left) ++ right) ++ last ≡ steps ++ ((left ++ right) ++ last)
join_steps steps left right last = simp append_assoc

plus_opens : (open' : List Open) (steps : List Step) (tokens : List Token) → IsBase open'
    → read_on (reading next.Behind open' steps) (lines.Plus ∷ tokens) ≡ read_on (reading next.Atom (opens.Plus ∷ open') steps) tokens
plus_opens [] steps tokens base = refl
plus_opens (opens.Bracket ∷ open') steps tokens base = refl
plus_opens (opens.First operation ∷ open') steps tokens base = refl
plus_opens (opens.Second operation ∷ open') steps tokens base = refl
plus_opens (open' ∷ others) steps tokens base = absurd base

minus_opens : (open' : List Open) (steps : List Step) (tokens : List Token) → IsBase open'
    → read_on (reading next.Behind open' steps) (lines.Minus ∷ tokens) ≡ read_on (reading next.Atom (opens.Minus ∷ open') steps) tokens
minus_opens [] steps tokens base = refl
minus_opens (opens.Bracket ∷ open') steps tokens base = refl
minus_opens (opens.First operation ∷ open') steps tokens base = refl
minus_opens (opens.Second operation ∷ open') steps tokens base = refl
minus_opens (open' ∷ others) steps tokens base = absurd base

plus_done : (open' : List Open) (steps : List Step) (tokens : List Token) → IsBase open' → EndsProduct tokens
    → read_on (reading next.Behind (opens.Plus ∷ open') steps) tokens ≡ read_on (reading next.Behind open' (steps ++ Join' (operation_in Sum) ∷ [])) tokens
plus_done open' steps (lines.Times ∷ tokens) base ends = absurd ends
plus_done [] steps tokens base ends = refl
plus_done (opens.Bracket ∷ open') steps tokens base ends = refl
plus_done (opens.First operation ∷ open') steps tokens base ends = refl
plus_done (opens.Second operation ∷ open') steps tokens base ends = refl
plus_done (open' ∷ others) steps tokens base ends = absurd base

minus_done : (open' : List Open) (steps : List Step) (tokens : List Token) → IsBase open' → EndsProduct tokens
    → read_on (reading next.Behind (opens.Minus ∷ open') steps) tokens ≡ read_on (reading next.Behind open' (steps ++ Join' (operation_in Difference) ∷ [])) tokens
minus_done open' steps (lines.Times ∷ tokens) base ends = absurd ends
minus_done [] steps tokens base ends = refl
minus_done (opens.Bracket ∷ open') steps tokens base ends = refl
minus_done (opens.First operation ∷ open') steps tokens base ends = refl
minus_done (opens.Second operation ∷ open') steps tokens base ends = refl
minus_done (open' ∷ others) steps tokens base ends = absurd base

-- behind an operation of which the left side is done
abbrev joining : List Open → Operation → List Step → Reading
joining open' operation steps = reading next.Behind open' (steps ++ Join' (operation_in operation) ∷ [])

plus_joins : (open' : List Open) (steps : List Step) (value : Option (List Step)) (bound : ℕ) (found : Option Piece) → IsBase open'
    → ReadsAs (reading next.Behind (opens.Plus ∷ open')) steps value bound EndsProduct found → ReadsAs (joining open' Sum) steps value bound EndsProduct found
plus_joins open' steps value bound None base h = h
plus_joins open' steps value bound (Some found) base h =
    record { reads = h.reads ∙ plus_done open' (steps ++ steps_of found.tree) found.behind base h.ends; shorter = h.shorter; ends = h.ends }

minus_joins : (open' : List Open) (steps : List Step) (value : Option (List Step)) (bound : ℕ) (found : Option Piece) → IsBase open'
    → ReadsAs (reading next.Behind (opens.Minus ∷ open')) steps value bound EndsProduct found → ReadsAs (joining open' Difference) steps value bound EndsProduct found
minus_joins open' steps value bound None base h = h
minus_joins open' steps value bound (Some found) base h =
    record { reads = h.reads ∙ minus_done open' (steps ++ steps_of found.tree) found.behind base h.ends; shorter = h.shorter; ends = h.ends }

-- ---- one step more

module _ (n : ℕ) (follows : Follows n) where
  sum_goes_on : (open' : List Open) (steps : List Step) (value : Option (List Step)) (bound : ℕ) (found : Option Piece) → IsBase open' → 5 * bound ≤ n + 4
      → ReadsAs (reading next.Behind open') steps value bound EndsProduct found
      → ReadsAs (reading next.Behind open') steps value bound EndsSum (option_and_then (λ (first : Piece). further_sum n first.tree first.behind) found)
  sum_goes_on open' steps value bound None base enough h = h
  sum_goes_on open' steps value bound (Some found) base enough h =
      carried (reading next.Behind open') steps value _ bound _ EndsSum _ h.reads (omega (arith, h.shorter))
      (follows.more_sum open' steps found.tree found.behind base h.ends (omega (arith, h.shorter)))

  sum_joins : (open' : List Open) (steps : List Step) (operation : Operation) (left : TermTree) (value : Option (List Step)) (bound : ℕ) (found : Option Piece) → IsBase open' → 5 * bound ≤ n + 4
      → ReadsAs (joining open' operation) (steps ++ steps_of left) value bound EndsProduct found
      → ReadsAs (reading next.Behind open') steps value bound EndsSum (option_and_then (λ (right : Piece). further_sum n (Join operation left right.tree) right.behind) found)
  sum_joins open' steps operation left value bound None base enough h = h
  sum_joins open' steps operation left value bound (Some found) base enough h =
      carried (reading next.Behind open') steps value _ bound _ EndsSum _
      (h.reads ∙ ap (λ (all : List Step). read_on (reading next.Behind open' all) found.behind) (join_steps steps (steps_of left) (steps_of found.tree) (Join' (operation_in operation) ∷ [])))
      (omega (arith, h.shorter))
      (follows.more_sum open' steps (Join operation left found.tree) found.behind base h.ends (omega (arith, h.shorter)))

  product_goes_on : (open' : List Open) (steps : List Step) (value : Option (List Step)) (bound : ℕ) (found : Option Piece) → HasNoTimes open' → 5 * bound ≤ n + 4
      → ReadsAs (reading next.Behind open') steps value bound Anything found
      → ReadsAs (reading next.Behind open') steps value bound EndsProduct (option_and_then (λ (first : Piece). further_product n first.tree first.behind) found)
  product_goes_on open' steps value bound None none enough h = h
  product_goes_on open' steps value bound (Some found) none enough h =
      carried (reading next.Behind open') steps value _ bound _ EndsProduct _ h.reads (omega (arith, h.shorter))
      (follows.more_product open' steps found.tree found.behind none (omega (arith, h.shorter)))

  product_joins : (open' : List Open) (steps : List Step) (left : TermTree) (value : Option (List Step)) (bound : ℕ) (found : Option Piece) → HasNoTimes open' → 5 * bound ≤ n + 4
      → ReadsAs (joining open' Product) (steps ++ steps_of left) value bound Anything found
      → ReadsAs (reading next.Behind open') steps value bound EndsProduct (option_and_then (λ (right : Piece). further_product n (Join Product left right.tree) right.behind) found)
  product_joins open' steps left value bound None none enough h = h
  product_joins open' steps left value bound (Some found) none enough h =
      carried (reading next.Behind open') steps value _ bound _ EndsProduct _
      (h.reads ∙ ap (λ (all : List Step). read_on (reading next.Behind open' all) found.behind) (join_steps steps (steps_of left) (steps_of found.tree) (Join' (operation_in Product) ∷ [])))
      (omega (arith, h.shorter))
      (follows.more_product open' steps (Join Product left found.tree) found.behind none (omega (arith, h.shorter)))

  sum_more : (open' : List Open) (steps : List Step) (tokens : List Token) → IsBase open' → 5 * length tokens + 4 ≤ suc n
      → ReadsAs (reading next.Behind open') steps (read_on (reading next.Sum open' steps) tokens) (length tokens) EndsSum (sum_at (suc n) tokens)
  sum_more open' steps (lines.Minus ∷ tokens) base enough =
      carried (reading next.Behind open') steps _ _ (length (lines.Minus ∷ tokens)) (length tokens) EndsSum _ refl (omega arith)
      (sum_joins open' steps Difference nought _ (length tokens) _ base (omega arith)
      (minus_joins open' (steps ++ steps_of nought) _ (length tokens) _ base (follows.product (opens.Minus ∷ open') (steps ++ steps_of nought) tokens tt (omega arith))))
  sum_more open' steps tokens base enough =
      sum_goes_on open' steps _ (length tokens) _ base (omega arith) (follows.product open' steps tokens (base_has_no_times open' base) (omega arith))

  more_sum_more : (open' : List Open) (steps : List Step) (left : TermTree) (tokens : List Token) → IsBase open' → EndsProduct tokens → 5 * length tokens + 1 ≤ suc n
      → ReadsAs (reading next.Behind open') steps (read_on (reading next.Behind open' (steps ++ steps_of left)) tokens) (length tokens + 1) EndsSum (further_sum (suc n) left tokens)
  more_sum_more open' steps left (lines.Times ∷ tokens) base ends enough = absurd ends
  more_sum_more open' steps left (lines.Plus ∷ tokens) base ends enough =
      carried (reading next.Behind open') steps _ _ (length (lines.Plus ∷ tokens) + 1) (length tokens) EndsSum _ (plus_opens open' (steps ++ steps_of left) tokens base) (omega arith)
      (sum_joins open' steps Sum left _ (length tokens) _ base (omega arith)
      (plus_joins open' (steps ++ steps_of left) _ (length tokens) _ base (follows.product (opens.Plus ∷ open') (steps ++ steps_of left) tokens tt (omega arith))))
  more_sum_more open' steps left (lines.Minus ∷ tokens) base ends enough =
      carried (reading next.Behind open') steps _ _ (length (lines.Minus ∷ tokens) + 1) (length tokens) EndsSum _ (minus_opens open' (steps ++ steps_of left) tokens base) (omega arith)
      (sum_joins open' steps Difference left _ (length tokens) _ base (omega arith)
      (minus_joins open' (steps ++ steps_of left) _ (length tokens) _ base (follows.product (opens.Minus ∷ open') (steps ++ steps_of left) tokens tt (omega arith))))
  more_sum_more open' steps left tokens base ends enough = record { reads = refl; shorter = omega arith; ends = tt }

  product_more : (open' : List Open) (steps : List Step) (tokens : List Token) → HasNoTimes open' → 5 * length tokens + 3 ≤ suc n
      → ReadsAs (reading next.Behind open') steps (read_on (reading next.Atom open' steps) tokens) (length tokens) EndsProduct (product_at (suc n) tokens)
  product_more (opens.Times ∷ open') steps tokens none enough = absurd none
  product_more open' steps tokens none enough =
      product_goes_on open' steps _ (length tokens) _ none (omega arith) (follows.atom open' steps tokens (omega arith))

  more_product_more : (open' : List Open) (steps : List Step) (left : TermTree) (tokens : List Token) → HasNoTimes open' → 5 * length tokens + 1 ≤ suc n
      → ReadsAs (reading next.Behind open') steps (read_on (reading next.Behind open' (steps ++ steps_of left)) tokens) (length tokens + 1) EndsProduct (further_product (suc n) left tokens)
  more_product_more open' steps left (lines.Times ∷ tokens) none enough =
      carried (reading next.Behind open') steps _ _ (length (lines.Times ∷ tokens) + 1) (length tokens) EndsProduct _ refl (omega arith)
      (product_joins open' steps left _ (length tokens) _ none (omega arith) (follows.atom (opens.Times ∷ open') (steps ++ steps_of left) tokens (omega arith)))
  more_product_more open' steps left tokens none enough = record { reads = refl; shorter = omega arith; ends = tt }

  -- ---- brackets and functions

  bracket_closes : (open' : List Open) (steps : List Step) (value : Option (List Step)) (bound : ℕ) (tree : TermTree) (behind : List Token)
      → value ≡ read_on (reading next.Behind (opens.Bracket ∷ open') (steps ++ steps_of tree)) behind → length behind < bound → EndsSum behind
      → ReadsAs (behind_atom open') steps value bound Anything (closed tree behind)
  bracket_closes open' steps value bound tree (lines.CloseBracket ∷ behind) h shorter ends = record { reads = h; shorter = omega arith; ends = tt }
  bracket_closes open' steps value bound tree (lines.Times ∷ behind) h shorter ends = absurd ends
  bracket_closes open' steps value bound tree (lines.Plus ∷ behind) h shorter ends = absurd ends
  bracket_closes open' steps value bound tree (lines.Minus ∷ behind) h shorter ends = absurd ends
  bracket_closes open' steps value bound tree behind h shorter ends = h

  bracket_ends : (open' : List Open) (steps : List Step) (value : Option (List Step)) (bound : ℕ) (found : Option Piece)
      → ReadsAs (reading next.Behind (opens.Bracket ∷ open')) steps value bound EndsSum found
      → ReadsAs (behind_atom open') steps value bound Anything (option_and_then (λ (inner : Piece). closed inner.tree inner.behind) found)
  bracket_ends open' steps value bound None h = h
  bracket_ends open' steps value bound (Some found) h = bracket_closes open' steps value bound found.tree found.behind h.reads h.shorter h.ends

  second_closes : (open' : List Open) (steps : List Step) (operation : Operation) (left : TermTree) (value : Option (List Step)) (bound : ℕ) (tree : TermTree) (behind : List Token)
      → value ≡ read_on (reading next.Behind (opens.Second (operation_in operation) ∷ open') ((steps ++ steps_of left) ++ steps_of tree)) behind → length behind < bound → EndsSum behind
      → ReadsAs (behind_atom open') steps value bound Anything (closed (Join operation left tree) behind)
  second_closes open' steps operation left value bound tree (lines.CloseBracket ∷ behind) h shorter ends =
      record {
        reads = h ∙ ap (λ (all : List Step). read_on (behind_atom open' all) behind) (join_steps steps (steps_of left) (steps_of tree) (Join' (operation_in operation) ∷ []));
        shorter = omega arith;
        ends = tt;
      }
  second_closes open' steps operation left value bound tree (lines.Times ∷ behind) h shorter ends = absurd ends
  second_closes open' steps operation left value bound tree (lines.Plus ∷ behind) h shorter ends = absurd ends
  second_closes open' steps operation left value bound tree (lines.Minus ∷ behind) h shorter ends = absurd ends
  second_closes open' steps operation left value bound tree behind h shorter ends = h

  second_ends : (open' : List Open) (steps : List Step) (operation : Operation) (left : TermTree) (value : Option (List Step)) (bound : ℕ) (found : Option Piece)
      → ReadsAs (reading next.Behind (opens.Second (operation_in operation) ∷ open')) (steps ++ steps_of left) value bound EndsSum found
      → ReadsAs (behind_atom open') steps value bound Anything (option_and_then (λ (right : Piece). closed (Join operation left right.tree) right.behind) found)
  second_ends open' steps operation left value bound None h = h
  second_ends open' steps operation left value bound (Some found) h = second_closes open' steps operation left value bound found.tree found.behind h.reads h.shorter h.ends

  second_more : (open' : List Open) (steps : List Step) (operation : Operation) (tree : TermTree) (behind : List Token) → EndsSum behind → 5 * length behind + 1 ≤ suc n
      → ReadsAs (behind_atom open') steps (read_on (reading next.Behind (opens.First (operation_in operation) ∷ open') (steps ++ steps_of tree)) behind) (length behind) Anything
      (second_side (suc n) operation (record { tree = tree; behind = behind }))
  second_more open' steps operation tree (lines.Comma ∷ behind) ends enough =
      carried (behind_atom open') steps _ _ (length (lines.Comma ∷ behind)) (length behind) Anything _ refl (omega arith)
      (second_ends open' steps operation tree _ (length behind) _ (follows.sum (opens.Second (operation_in operation) ∷ open') (steps ++ steps_of tree) behind tt (omega arith)))
  second_more open' steps operation tree (lines.Times ∷ behind) ends enough = absurd ends
  second_more open' steps operation tree (lines.Plus ∷ behind) ends enough = absurd ends
  second_more open' steps operation tree (lines.Minus ∷ behind) ends enough = absurd ends
  second_more open' steps operation tree behind ends enough = refl

  first_ends : (open' : List Open) (steps : List Step) (operation : Operation) (value : Option (List Step)) (bound : ℕ) (found : Option Piece) → 5 * bound ≤ n
      → ReadsAs (reading next.Behind (opens.First (operation_in operation) ∷ open')) steps value bound EndsSum found
      → ReadsAs (behind_atom open') steps value bound Anything (option_and_then (λ (left : Piece). second_side n operation left) found)
  first_ends open' steps operation value bound None enough h = h
  first_ends open' steps operation value bound (Some found) enough h =
      carried (behind_atom open') steps value _ bound _ Anything _ h.reads (omega (arith, h.shorter))
      (follows.second open' steps operation found.tree found.behind h.ends (omega (arith, h.shorter)))

  function_more : (open' : List Open) (steps : List Step) (tokens : List Token) (bound : ℕ) (found : Option Operation) → 5 * length tokens + 4 ≤ n → length tokens ≤ bound
      → ReadsAs (behind_atom open') steps
      (option_and_then (λ (behind : Reading). read_on behind (lines.OpenBracket ∷ tokens))
      (option_map (λ operation. reading next.Bracket (opens.First (operation_in operation) ∷ open') steps) found)) bound
      Anything (option_and_then (λ operation. option_and_then (λ (left : Piece). second_side n operation left) (sum_at n tokens)) found)
  function_more open' steps tokens bound None enough less = refl
  function_more open' steps tokens bound (Some operation) enough less =
      carried (behind_atom open') steps _ _ bound (length tokens) Anything _ refl less
      (first_ends open' steps operation _ (length tokens) _ (omega arith) (follows.sum (opens.First (operation_in operation) ∷ open') steps tokens tt (omega arith)))

  atom_more : (open' : List Open) (steps : List Step) (tokens : List Token) → 5 * length tokens + 2 ≤ suc n
      → ReadsAs (behind_atom open') steps (read_on (reading next.Atom open' steps) tokens) (length tokens) Anything (atom_at (suc n) tokens)
  atom_more open' steps (lines.OpenBracket ∷ tokens) enough =
      carried (behind_atom open') steps _ _ (length (lines.OpenBracket ∷ tokens)) (length tokens) Anything _ refl (omega arith)
      (bracket_ends open' steps _ (length tokens) _ (follows.sum (opens.Bracket ∷ open') steps tokens tt (omega arith)))
  atom_more open' steps (lines.Word word ∷ lines.OpenBracket ∷ tokens) enough =
      function_more open' steps tokens (length (lines.Word word ∷ lines.OpenBracket ∷ tokens)) (function_of word) (omega arith) (omega arith)
  atom_more open' steps (lines.Word word ∷ tokens) enough = record { reads = refl; shorter = omega arith; ends = tt }
  atom_more open' steps tokens enough = refl

follows_all : (n : ℕ) → Follows n
follows_all zero = record {
  sum = λ open' steps tokens base enough. absurd (omega arith);
  more_sum = λ open' steps left tokens base ends enough. absurd (omega arith);
  product = λ open' steps tokens none enough. absurd (omega arith);
  more_product = λ open' steps left tokens none enough. absurd (omega arith);
  atom = λ open' steps tokens enough. absurd (omega arith);
  second = λ open' steps operation tree behind ends enough. absurd (omega arith);
}
follows_all (suc n) = let follows = follows_all n in record {
  sum = sum_more n follows;
  more_sum = more_sum_more n follows;
  product = product_more n follows;
  more_product = more_product_more n follows;
  atom = atom_more n follows;
  second = second_more n follows;
}

-- ---- the whole term

whole_term : (value : Option (List Step)) (tree : TermTree) (behind : List Token) → value ≡ read_on (reading next.Behind [] (steps_of tree)) behind → EndsSum behind
    → value ≡ option_map steps_of (whole (record { tree = tree; behind = behind }))
whole_term value tree [] h ends = h
whole_term value tree (lines.Times ∷ behind) h ends = absurd ends
whole_term value tree (lines.Plus ∷ behind) h ends = absurd ends
whole_term value tree (lines.Minus ∷ behind) h ends = absurd ends
whole_term value tree behind h ends = h

whole_found : (value : Option (List Step)) (bound : ℕ) (found : Option Piece) → ReadsAs (reading next.Behind []) [] value bound EndsSum found
    → value ≡ option_map steps_of (option_and_then whole found)
whole_found value bound None h = h
whole_found value bound (Some found) h = whole_term value found.tree found.behind h.reads h.ends

-- the steps that are read are those of the grammar's tree
pub reading_is_grammar : (tokens : List Token) → read_on at_start tokens ≡ option_map steps_of (tree_of tokens)
reading_is_grammar tokens =
    whole_found (read_on at_start tokens) (length tokens) (sum_at (5 * length tokens + 5) tokens)
    ((follows_all (5 * length tokens + 5)).sum [] [] tokens tt (omega arith))
