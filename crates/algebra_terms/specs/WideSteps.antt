-- The reading of a wide term token by token: what is open, and the steps that build what was read.
use Rattle.std.specs.Prelude.{◌≡◌, ℕ, Bool, true, false, Option, Some, None, List, [], ◌∷◌, ◌++◌, codes, map}
use Rattle.std.specs.Option.{option_and_then, option_map}
use Rattle.job_texts.specs.LineTokens as lines
use Rattle.job_texts.specs.LineTokens.{Token}
use Rattle.job_texts.specs.WideText as texts
use Rattle.job_texts.specs.WideText.{TermTree, Leaf, Join, function_of}
use Rattle.algebra_terms.specs.declared.wide_steps.Operation.{Operation}
use Rattle.algebra_terms.specs.declared.wide_steps.Operation.TheVariants as operations
use Rattle.algebra_terms.specs.declared.wide_steps.Open.{Open}
use Rattle.algebra_terms.specs.declared.wide_steps.Open.TheVariants as opens
use Rattle.algebra_terms.specs.declared.wide_steps.Next.{Next}
use Rattle.algebra_terms.specs.declared.wide_steps.Next.TheVariants as next
use Rattle.algebra_terms.specs.declared.wide_steps.Step as code_steps
use Rattle.algebra_terms.specs.declared.wide_steps.Step.TheVariants as code_step
use Rattle.algebra_terms.specs.declared.wide_steps.Reader.{Reader}

-- ---- steps

-- a leaf to put on a pile of terms, or the two topmost to join
pub data Step : Type 0 where
  Leaf' : (word : List ℕ) → Step
  Join' : (operation : Operation) → Step

abbrev pub operation_of : Operation → texts.Operation
operation_of operations.Sum = texts.Sum
operation_of operations.Difference = texts.Difference
operation_of operations.Product = texts.Product
operation_of operations.Greater = texts.Greater
operation_of operations.Lesser = texts.Lesser

abbrev pub operation_in : texts.Operation → Operation
operation_in texts.Sum = operations.Sum
operation_in texts.Difference = operations.Difference
operation_in texts.Product = operations.Product
operation_in texts.Greater = operations.Greater
operation_in texts.Lesser = operations.Lesser

-- the steps that build a tree: those of its sides, and then its own
abbrev pub steps_of : TermTree → List Step
steps_of (Leaf word) = Leaf' word ∷ []
steps_of (Join operation left right) = steps_of left ++ steps_of right ++ Join' (operation_in operation) ∷ []

-- a step, without where its word lies in memory
abbrev pub step_seen : code_steps.Step → Step
step_seen (code_step.Leaf word) = Leaf' word.now
step_seen (code_step.Join operation) = Join' operation

abbrev pub steps_seen : List code_steps.Step → List Step
steps_seen steps = map step_seen steps

-- ---- token by token

-- what may stand next, what is open, the last opened first, and the steps so far
pub record Reading : Type 0 where
  pub next : Next
  pub open' : List Open
  pub steps : List Step

abbrev pub reading : Next → List Open → List Step → Reading
reading next open' steps = record { next = next; open' = open'; steps = steps }

abbrev pub reading_seen : Reader → Reading
reading_seen reader = record { next = reader.next; open' = reader.open_joins; steps = steps_seen reader.steps.items }

-- with one more step
abbrev pub joined_by : Operation → Reading → Reading
joined_by operation found = reading found.next found.open' (found.steps ++ Join' operation ∷ [])

abbrev pub with_leaf : List ℕ → Reading → Reading
with_leaf word found = reading found.next found.open' (found.steps ++ Leaf' word ∷ [])

-- behind an atom: a product that waits for it is done
abbrev pub behind_atom : List Open → List Step → Reading
behind_atom (opens.Times ∷ open') steps = reading next.Behind open' (steps ++ Join' operations.Product ∷ [])
behind_atom open' steps = reading next.Behind open' steps

-- behind a product: a sum that waits for it is done
abbrev pub behind_product : List Open → List Step → Reading
behind_product (opens.Plus ∷ open') steps = reading next.Behind open' (steps ++ Join' operations.Sum ∷ [])
behind_product (opens.Minus ∷ open') steps = reading next.Behind open' (steps ++ Join' operations.Difference ∷ [])
behind_product open' steps = reading next.Behind open' steps

-- an operation is opened
abbrev pub opened : Open → Reading → Reading
opened mark found = reading next.Atom (mark ∷ found.open') found.steps

-- a closing bracket behind a sum
abbrev pub closed : List Open → List Step → Option Reading
closed (opens.Bracket ∷ open') steps = Some (behind_atom open' steps)
closed (opens.Second operation ∷ open') steps = Some (behind_atom open' (steps ++ Join' operation ∷ []))
closed open' steps = None

-- a comma behind a sum
abbrev pub parted : List Open → List Step → Option Reading
parted (opens.First operation ∷ open') steps = Some (reading next.Sum (opens.Second operation ∷ open') steps)
parted open' steps = None

-- a function whose bracket stands next
abbrev pub called : List Open → List Step → List ℕ → Option Reading
called open' steps word =
    option_map (λ operation. reading next.Bracket (opens.First (operation_in operation) ∷ open') steps) (function_of word)

abbrev pub at_atom : List Open → List Step → Token → Bool → Option Reading
at_atom open' steps lines.OpenBracket opens' = Some (reading next.Sum (opens.Bracket ∷ open') steps)
at_atom open' steps (lines.Word word) true = called open' steps word
at_atom open' steps (lines.Word word) false = Some (behind_atom open' (steps ++ Leaf' word ∷ []))
at_atom open' steps token opens' = None

abbrev pub at_sum : List Open → List Step → Token → Bool → Option Reading
at_sum open' steps lines.Minus opens' = Some (reading next.Atom (opens.Minus ∷ open') (steps ++ Leaf' (codes "0") ∷ []))
at_sum open' steps token opens' = at_atom open' steps token opens'

abbrev pub at_bracket : List Open → List Step → Token → Option Reading
at_bracket open' steps lines.OpenBracket = Some (reading next.Sum open' steps)
at_bracket open' steps token = None

abbrev pub at_behind : List Open → List Step → Token → Option Reading
at_behind open' steps lines.Times = Some (reading next.Atom (opens.Times ∷ open') steps)
at_behind open' steps lines.Plus = Some (opened opens.Plus (behind_product open' steps))
at_behind open' steps lines.Minus = Some (opened opens.Minus (behind_product open' steps))
at_behind open' steps lines.CloseBracket = closed (behind_product open' steps).open' (behind_product open' steps).steps
at_behind open' steps lines.Comma = parted (behind_product open' steps).open' (behind_product open' steps).steps
at_behind open' steps token = None

-- the reading behind a token, before an opening bracket or not; none where the token can't stand there
abbrev pub taken : Reading → Token → Bool → Option Reading
taken found token opens' = by_next found.next
  where
    by_next : Next → Option Reading
    by_next next.Sum = at_sum found.open' found.steps token opens'
    by_next next.Atom = at_atom found.open' found.steps token opens'
    by_next next.Bracket = at_bracket found.open' found.steps token
    by_next next.Behind = at_behind found.open' found.steps token

-- the first of these tokens is an opening bracket
abbrev pub begins_bracket : List Token → Bool
begins_bracket (lines.OpenBracket ∷ tokens) = true
begins_bracket tokens = false

-- the steps of a term that ends here
abbrev pub ended : Reading → Option (List Step)
ended found = by_next found.next
  where
    all_done : Reading → Option (List Step)
    all_done done = by_open done.open'
      where
        by_open : List Open → Option (List Step)
        by_open [] = Some done.steps
        by_open open' = None

    by_next : Next → Option (List Step)
    by_next next.Behind = all_done (behind_product found.open' found.steps)
    by_next other = None

-- the steps of a term, from its tokens behind a reading
abbrev pub read_on : Reading → List Token → Option (List Step)
read_on found [] = ended found
read_on found (token ∷ tokens) = option_and_then (λ behind. read_on behind tokens) (taken found token (begins_bracket tokens))

-- before any token
abbrev pub at_start : Reading
at_start = reading next.Sum [] []

-- a token was taken, or can't stand there
abbrev pub Takes : Option Reading → Bool → Reading → Type 0
Takes found true after = found ≡ Some after
Takes found false after = found ≡ None
