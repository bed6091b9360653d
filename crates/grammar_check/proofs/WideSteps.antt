-- Rows of a wide alternative: what they have with fewer letters, at a node, and in another table.
use Rattle.std.proofs.Common.{◌≡◌, ◌≢◌, ℕ, zero, suc, ◌+◌, ◌-◌, ◌^◌, ◌<◌, ◌≤◌, min, max, ◌⊎◌, inl, inr, List, [], ◌∷◌, ◌++◌, ◌*◌, length, nat_cmp, sym, ap, ap₂, subst, ◌∙◌, arith}
use Rattle.std.specs.List.{All}
use Rattle.std.specs.Ordering.{ord_max}
use Rattle.std.proofs.lemmas.List.{get_or_past}
use Rattle.adp_model.specs.LimitFaults.{told}
use Rattle.adp_model.specs.Terms.{leaves}
use Rattle.adp_model.specs.WideForm as wide
use Rattle.adp_model.specs.WideForm.{Number, Value, Sum, Difference, Product, Greater, Lesser}
use Rattle.grammar_check.specs.declared.part.Part.{Part}
use Rattle.grammar_check.specs.declared.table.Table.{Table}
use Rattle.grammar_check.specs.declared.wide_alternative.WideAlternative.{WideAlternative}
use Rattle.grammar_check.specs.declared.node.Operation.{Operation}
use Rattle.grammar_check.specs.Tables.{entry}
use Rattle.grammar_check.specs.declared.part.Worth.TheVariants.{OfLetters}
use Rattle.grammar_check.specs.Plans.{IsReadable, ReadsRight, greatest_from, lows, part_at}
use Rattle.grammar_check.specs.Alternatives.{AreRead}
use Rattle.grammar_check.specs.TermSpreads.{IsNode, joined, put, term_room, term_spread}
use Rattle.grammar_check.specs.WideRows.{AreAllReadable, AreReadAt, HaveRows, AreTermRows, rows_of}
use Rattle.grammar_check.specs.WideAlternatives.{AreWideSpread}
use Rattle.grammar_check.proofs.CutNumbers.{told-max}
use Rattle.grammar_check.proofs.Spreads.{ord_max-numbers}

module _ (bound : ℕ → ℕ → ℕ) (parts : List Part) (table : Table) (n m : ℕ) (fewer : n ≤ m) where
  fewer_own : (left right : wide.WideForm) (row : ℕ) → HaveRows bound parts table left right row m → HaveRows bound parts table left right row n
  fewer_own left right row own = (λ column less. own.0 column (omega (arith, fewer)), λ column less. own.1 column (omega (arith, fewer)))

  pub fewer_rows : (term : wide.WideForm) (first : ℕ) → AreTermRows bound parts table term first m → AreTermRows bound parts table term first n
  fewer_rows (Number number) first rows = tt
  fewer_rows (Value place) first rows = tt
  fewer_rows (Sum left right) first rows =
      (fewer_rows left first rows.0, fewer_rows right (first + rows_of left) rows.1, fewer_own left right (first + rows_of left + rows_of right) rows.2)
  fewer_rows (Difference left right) first rows =
      (fewer_rows left first rows.0, fewer_rows right (first + rows_of left) rows.1, fewer_own left right (first + rows_of left + rows_of right) rows.2)
  fewer_rows (Product left right) first rows =
      (fewer_rows left first rows.0, fewer_rows right (first + rows_of left) rows.1, fewer_own left right (first + rows_of left + rows_of right) rows.2)
  fewer_rows (Greater left right) first rows =
      (fewer_rows left first rows.0, fewer_rows right (first + rows_of left) rows.1, fewer_own left right (first + rows_of left + rows_of right) rows.2)
  fewer_rows (Lesser left right) first rows =
      (fewer_rows left first rows.0, fewer_rows right (first + rows_of left) rows.1, fewer_own left right (first + rows_of left + rows_of right) rows.2)

pub fewer_spread : (bound : ℕ → ℕ → ℕ) (alternative : WideAlternative) (n m : ℕ) → n ≤ m → AreWideSpread bound alternative m → AreWideSpread bound alternative n
fewer_spread bound alternative n m fewer spread = record {
  whole = λ column less. spread.whole column (omega (arith, fewer));
  sides = fewer_rows bound alternative.parts.items alternative.rows n m fewer alternative.term.now 1 spread.sides;
}

-- no row has fewer spare letters than none
module _ (bound : ℕ → ℕ → ℕ) (parts : List Part) (table : Table) where
  none_own : (left right : wide.WideForm) (row : ℕ) → HaveRows bound parts table left right row 0
  none_own left right row = (λ column less. absurd (omega arith), λ column less. absurd (omega arith))

  none_rows : (term : wide.WideForm) (first : ℕ) → AreTermRows bound parts table term first 0
  none_rows (Number number) first = tt
  none_rows (Value place) first = tt
  none_rows (Sum left right) first =
      (none_rows left first, none_rows right (first + rows_of left), none_own left right (first + rows_of left + rows_of right))
  none_rows (Difference left right) first =
      (none_rows left first, none_rows right (first + rows_of left), none_own left right (first + rows_of left + rows_of right))
  none_rows (Product left right) first =
      (none_rows left first, none_rows right (first + rows_of left), none_own left right (first + rows_of left + rows_of right))
  none_rows (Greater left right) first =
      (none_rows left first, none_rows right (first + rows_of left), none_own left right (first + rows_of left + rows_of right))
  none_rows (Lesser left right) first =
      (none_rows left first, none_rows right (first + rows_of left), none_own left right (first + rows_of left + rows_of right))

pub none_wide : (bound : ℕ → ℕ → ℕ) (alternative : WideAlternative) → AreWideSpread bound alternative 0
none_wide bound alternative = record {
  whole = λ column less. absurd (omega arith);
  sides = none_rows bound alternative.parts.items alternative.rows alternative.term.now 1;
}

-- ---- nodes

-- what is so of a term with these sides
pub node_rows : (operation : Operation) (left right term : wide.WideForm) → IsNode operation left right term → rows_of term ≡ rows_of left + rows_of right + 2
node_rows operation left right (Number number) h = absurd h
node_rows operation left right (Value place) h = absurd h
node_rows operation left right (Sum one other) h = ap₂ (λ a b. rows_of a + rows_of b + 2) (sym h.1) (sym h.2)
node_rows operation left right (Difference one other) h = ap₂ (λ a b. rows_of a + rows_of b + 2) (sym h.1) (sym h.2)
node_rows operation left right (Product one other) h = ap₂ (λ a b. rows_of a + rows_of b + 2) (sym h.1) (sym h.2)
node_rows operation left right (Greater one other) h = ap₂ (λ a b. rows_of a + rows_of b + 2) (sym h.1) (sym h.2)
node_rows operation left right (Lesser one other) h = ap₂ (λ a b. rows_of a + rows_of b + 2) (sym h.1) (sym h.2)

pub node_spread : (bound : ℕ → ℕ → ℕ) (parts : List Part) (operation : Operation) (left right term : wide.WideForm) (spare : ℕ) → IsNode operation left right term
    → term_spread bound parts term spare ≡ joined operation (term_spread bound parts left) (term_room parts left) (term_spread bound parts right) (term_room parts right) spare
node_spread bound parts operation left right (Number number) spare h = absurd h
node_spread bound parts operation left right (Value place) spare h = absurd h
node_spread bound parts operation left right (Sum one other) spare h = λ i.
    joined (sym h.0 i) (term_spread bound parts (sym h.1 i)) (term_room parts (sym h.1 i)) (term_spread bound parts (sym h.2 i)) (term_room parts (sym h.2 i)) spare
node_spread bound parts operation left right (Difference one other) spare h = λ i.
    joined (sym h.0 i) (term_spread bound parts (sym h.1 i)) (term_room parts (sym h.1 i)) (term_spread bound parts (sym h.2 i)) (term_room parts (sym h.2 i)) spare
node_spread bound parts operation left right (Product one other) spare h = λ i.
    joined (sym h.0 i) (term_spread bound parts (sym h.1 i)) (term_room parts (sym h.1 i)) (term_spread bound parts (sym h.2 i)) (term_room parts (sym h.2 i)) spare
node_spread bound parts operation left right (Greater one other) spare h = λ i.
    joined (sym h.0 i) (term_spread bound parts (sym h.1 i)) (term_room parts (sym h.1 i)) (term_spread bound parts (sym h.2 i)) (term_room parts (sym h.2 i)) spare
node_spread bound parts operation left right (Lesser one other) spare h = λ i.
    joined (sym h.0 i) (term_spread bound parts (sym h.1 i)) (term_room parts (sym h.1 i)) (term_spread bound parts (sym h.2 i)) (term_room parts (sym h.2 i)) spare

-- what the rows of a node have
abbrev pub AreNodeRows : (ℕ → ℕ → ℕ) → List Part → Table → wide.WideForm → wide.WideForm → ℕ → ℕ → Type 0
AreNodeRows bound parts table left right first count =
    AreTermRows bound parts table left first count × AreTermRows bound parts table right (first + rows_of left) count
    × HaveRows bound parts table left right (first + rows_of left + rows_of right) count

pub rows_at_node : (bound : ℕ → ℕ → ℕ) (parts : List Part) (table : Table) (operation : Operation) (left right term : wide.WideForm) (first count : ℕ) → IsNode operation left right term → AreTermRows bound parts table term first count ≡ AreNodeRows bound parts table left right first count
rows_at_node bound parts table operation left right (Number number) first count h = absurd h
rows_at_node bound parts table operation left right (Value place) first count h = absurd h
rows_at_node bound parts table operation left right (Sum one other) first count h = ap₂ (λ a b. AreNodeRows bound parts table a b first count) (sym h.1) (sym h.2)
rows_at_node bound parts table operation left right (Difference one other) first count h = ap₂ (λ a b. AreNodeRows bound parts table a b first count) (sym h.1) (sym h.2)
rows_at_node bound parts table operation left right (Product one other) first count h = ap₂ (λ a b. AreNodeRows bound parts table a b first count) (sym h.1) (sym h.2)
rows_at_node bound parts table operation left right (Greater one other) first count h = ap₂ (λ a b. AreNodeRows bound parts table a b first count) (sym h.1) (sym h.2)
rows_at_node bound parts table operation left right (Lesser one other) first count h = ap₂ (λ a b. AreNodeRows bound parts table a b first count) (sym h.1) (sym h.2)

-- both tables have the same in these rows and so many columns
abbrev pub SameRows : Table → Table → ℕ → ℕ → ℕ → Type 0
SameRows old new count first last = (row column : ℕ) → first ≤ row → row < last → column < count → entry new row column ≡ entry old row column

-- rows that two tables share have the same
module _ (bound : ℕ → ℕ → ℕ) (parts : List Part) (old new : Table) (count : ℕ) where
  same_own : (left right : wide.WideForm) (row : ℕ) → SameRows old new count row (row + 2) → HaveRows bound parts old left right row count → HaveRows bound parts new left right row count
  same_own left right row same own = (
    λ column less. same row column (omega arith) (omega arith) less ∙ own.0 column less,
    λ column less. same (row + 1) column (omega arith) (omega arith) less ∙ own.1 column less,
  )

  same_node : (left right : wide.WideForm) (first : ℕ) → SameRows old new count first (first + (rows_of left + rows_of right + 2)) → (SameRows old new count first (first + rows_of left) → AreTermRows bound parts old left first count → AreTermRows bound parts new left first count)
      → (SameRows old new count (first + rows_of left) (first + rows_of left + rows_of right) → AreTermRows bound parts old right (first + rows_of left) count → AreTermRows bound parts new right (first + rows_of left) count)
      → AreNodeRows bound parts old left right first count → AreNodeRows bound parts new left right first count
  same_node left right first same one other rows = (
    one (λ row column from to less. same row column from (omega (arith, to)) less) rows.0,
    other (λ row column from to less. same row column (omega (arith, from)) (omega (arith, to)) less) rows.1,
    same_own left right (first + rows_of left + rows_of right) (λ row column from to less. same row column (omega (arith, from)) (omega (arith, to)) less) rows.2,
  )

  pub same_rows : (term : wide.WideForm) (first : ℕ) → SameRows old new count first (first + rows_of term) → AreTermRows bound parts old term first count → AreTermRows bound parts new term first count
  same_rows (Number number) first same rows = tt
  same_rows (Value place) first same rows = tt
  same_rows (Sum left right) first same rows = same_node left right first same (same_rows left first) (same_rows right (first + rows_of left)) rows
  same_rows (Difference left right) first same rows = same_node left right first same (same_rows left first) (same_rows right (first + rows_of left)) rows
  same_rows (Product left right) first same rows = same_node left right first same (same_rows left first) (same_rows right (first + rows_of left)) rows
  same_rows (Greater left right) first same rows = same_node left right first same (same_rows left first) (same_rows right (first + rows_of left)) rows
  same_rows (Lesser left right) first same rows = same_node left right first same (same_rows left first) (same_rows right (first + rows_of left)) rows

-- ---- a node's rows are written

-- in this column alone, and in these rows, another table may have something else
pub record Writes (old new : Table) (first last spare width : ℕ) : Type 0 where
  pub columns : (row column : ℕ) → column ≢ spare → column < width → entry new row column ≡ entry old row column
  pub lower : (row : ℕ) → row < first → entry new row spare ≡ entry old row spare
  pub further : (row : ℕ) → last ≤ row → entry new row spare ≡ entry old row spare

pub same_or_not : (a b : ℕ) → (a ≡ b) ⊎ (a ≢ b)
same_or_not a b = grind arith

-- rows that lie before those or behind them
outside_same : (old new : Table) (first last spare width : ℕ) → Writes old new first last spare width → (count from to : ℕ) → count ≤ width → (to ≤ first) ⊎ (last ≤ from) → SameRows old new count from to
outside_same old new first last spare width writes count from to narrow outside row column low high less = by (same_or_not column spare) outside
  where
    by : (column ≡ spare) ⊎ (column ≢ spare) → (to ≤ first) ⊎ (last ≤ from) → entry new row column ≡ entry old row column
    by (inr differ) apart = writes.columns row column differ (omega (arith, less, narrow))
    by (inl same) (inl before) = subst (λ n. entry new row n ≡ entry old row n) (sym same) (writes.lower row (omega (arith, high, before)))
    by (inl same) (inr behind) = subst (λ n. entry new row n ≡ entry old row n) (sym same) (writes.further row (omega (arith, low, behind)))

-- columns of fewer letters
older_same : (old new : Table) (first last spare width : ℕ) → Writes old new first last spare width → (count from to : ℕ) → count ≤ spare → spare < width → SameRows old new count from to
older_same old new first last spare width writes count from to fewer narrow row column low high less =
    writes.columns row column (λ e. omega (arith, e, less, fewer)) (omega (arith, less, fewer, narrow))

-- what is written for a node: the rows of the left side, so many, those of the right side, and one for each
pub record IsNodeStep (bound : ℕ → ℕ → ℕ) (parts : List Part) (left right : wide.WideForm) (m n first spare width left_value right_value : ℕ) (old one two three new : Table) : Type 0 where
  pub narrow : spare < width
  pub left_writes : Writes old one first (first + m) spare width
  pub right_writes : Writes one two (first + m) (first + m + n) spare width
  pub own_writes : Writes two three (first + m + n) (first + m + n + 1) spare width
  pub next_writes : Writes three new (first + m + n + 1) (first + m + n + 1 + 1) spare width
  pub own_is : entry three (first + m + n) spare ≡ left_value
  pub next_is : entry new (first + m + n + 1) spare ≡ right_value
  pub left_is : AreTermRows bound parts old left first spare → left_value ≡ told (term_spread bound parts left spare)
  pub right_is : AreTermRows bound parts one right (first + m) spare → right_value ≡ told (term_spread bound parts right spare)
  pub left_rows : AreTermRows bound parts old left first spare → AreTermRows bound parts one left first (spare + 1)
  pub right_rows : AreTermRows bound parts one right (first + m) spare → AreTermRows bound parts two right (first + m) (spare + 1)

pub less_before : (n spare : ℕ) → n ≢ spare → n < spare + 1 → n < spare
less_before n spare apart within = let a = apart in grind (arith, within, a)

module _ (bound : ℕ → ℕ → ℕ) (parts : List Part) (left right : wide.WideForm) (first spare width left_value right_value : ℕ) (old one two three new : Table) where
  module _ (step : IsNodeStep bound parts left right (rows_of left) (rows_of right) first spare width left_value right_value old one two three new) (rows : AreNodeRows bound parts old left right first spare) where
    abbrev middle : ℕ
    middle = first + rows_of left

    abbrev own : ℕ
    own = first + rows_of left + rows_of right

    right_older : AreTermRows bound parts one right middle spare
    right_older = same_rows bound parts old one spare right middle (older_same old one first middle spare width step.left_writes spare middle (middle + rows_of right) (omega arith) step.narrow) rows.1

    -- the two rows of the node
    own_at : (column : ℕ) → column < spare + 1 → (column ≡ spare) ⊎ (column ≢ spare) → entry new own column ≡ told (term_spread bound parts left column)
    own_at column less (inl same) =
        subst (λ n. entry new own n ≡ told (term_spread bound parts left n)) (sym same)
        (step.next_writes.lower own (omega arith) ∙ step.own_is ∙ step.left_is rows.0)
    own_at column less (inr differ) =
        let in_table : column < width = omega (arith, less, step.narrow) in
        step.next_writes.columns own column differ in_table ∙ step.own_writes.columns own column differ in_table ∙ step.right_writes.columns own column differ in_table
        ∙ step.left_writes.columns own column differ in_table ∙ rows.2.0 column (less_before column spare differ less)

    next_at : (column : ℕ) → column < spare + 1 → (column ≡ spare) ⊎ (column ≢ spare) → entry new (own + 1) column ≡ told (term_spread bound parts right column)
    next_at column less (inl same) =
        subst (λ n. entry new (own + 1) n ≡ told (term_spread bound parts right n)) (sym same)
        (step.next_is ∙ step.right_is right_older)
    next_at column less (inr differ) =
        let in_table : column < width = omega (arith, less, step.narrow) in
        step.next_writes.columns (own + 1) column differ in_table ∙ step.own_writes.columns (own + 1) column differ in_table ∙ step.right_writes.columns (own + 1) column differ in_table
        ∙ step.left_writes.columns (own + 1) column differ in_table ∙ rows.2.1 column (less_before column spare differ less)

    left_new : AreTermRows bound parts new left first (spare + 1)
    left_new =
        let narrow = step.narrow in
        same_rows bound parts three new (spare + 1) left first (outside_same three new (own + 1) (own + 1 + 1) spare width step.next_writes (spare + 1) first middle (omega (arith, narrow)) (inl (omega arith)))
        (same_rows bound parts two three (spare + 1) left first (outside_same two three own (own + 1) spare width step.own_writes (spare + 1) first middle (omega (arith, narrow)) (inl (omega arith)))
        (same_rows bound parts one two (spare + 1) left first (outside_same one two middle own spare width step.right_writes (spare + 1) first middle (omega (arith, narrow)) (inl (omega arith)))
        (step.left_rows rows.0)))

    right_new : AreTermRows bound parts new right middle (spare + 1)
    right_new =
        let narrow = step.narrow in
        same_rows bound parts three new (spare + 1) right middle (outside_same three new (own + 1) (own + 1 + 1) spare width step.next_writes (spare + 1) middle (middle + rows_of right) (omega (arith, narrow)) (inl (omega arith)))
        (same_rows bound parts two three (spare + 1) right middle (outside_same two three own (own + 1) spare width step.own_writes (spare + 1) middle (middle + rows_of right) (omega (arith, narrow)) (inl (omega arith)))
        (step.right_rows right_older))

    written : AreNodeRows bound parts new left right first (spare + 1)
    written = (left_new, right_new, (λ column less. own_at column less (same_or_not column spare), λ column less. next_at column less (same_or_not column spare)))

  pub node_written : (m n : ℕ) → m ≡ rows_of left → n ≡ rows_of right → IsNodeStep bound parts left right m n first spare width left_value right_value old one two three new → AreNodeRows bound parts old left right first spare → AreNodeRows bound parts new left right first (spare + 1)
  node_written m n one_is other_is step rows =
      written (subst (λ k. IsNodeStep bound parts left right (rows_of left) k first spare width left_value right_value old one two three new) other_is
      (subst (λ k. IsNodeStep bound parts left right k n first spare width left_value right_value old one two three new) one_is step)) rows

-- one number is written
pub set_writes : (old new : Table) (at spare width : ℕ) → width ≤ old.width → spare < width → ((other : ℕ) → other ≢ spare → entry new at other ≡ entry old at other) → ((other column : ℕ) → other ≢ at → column < old.width → entry new other column ≡ entry old other column) → Writes old new at (at + 1) spare width
set_writes old new at spare width narrow inside columns rows = record {
  columns = λ row column differ less. by row column differ less (same_or_not row at);
  lower = λ row less. rows row spare (λ e. omega (arith, e, less)) (omega (arith, narrow, inside));
  further = λ row more. rows row spare (λ e. omega (arith, e, more)) (omega (arith, narrow, inside));
}
  where
    by : (row column : ℕ) → column ≢ spare → column < width → (row ≡ at) ⊎ (row ≢ at) → entry new row column ≡ entry old row column
    by row column differ less (inl same) = subst (λ r. entry new r column ≡ entry old r column) (sym same) (columns column differ)
    by row column differ less (inr apart) = rows row column apart (omega (arith, narrow, less))

-- ---- how many rows there are

length-both : {X : Type 0} (xs ys : List X) → length (xs ++ ys) ≡ length xs + length ys
length-both [] ys = omega arith
length-both (x ∷ xs) ys = let rest = length-both xs ys in omega (arith, rest)

both_leaves : (left right : wide.WideForm) → rows_of left + 2 ≡ 2 * length (leaves left) → rows_of right + 2 ≡ 2 * length (leaves right) → rows_of left + rows_of right + 2 + 2 ≡ 2 * length (leaves left ++ leaves right)
both_leaves left right one other = let both = length-both (leaves left) (leaves right) in omega (arith, both, one, other)

pub rows_leaves : (term : wide.WideForm) → rows_of term + 2 ≡ 2 * length (leaves term)
rows_leaves (Number number) = omega arith
rows_leaves (Value place) = omega arith
rows_leaves (Sum left right) = both_leaves left right (rows_leaves left) (rows_leaves right)
rows_leaves (Difference left right) = both_leaves left right (rows_leaves left) (rows_leaves right)
rows_leaves (Product left right) = both_leaves left right (rows_leaves left) (rows_leaves right)
rows_leaves (Greater left right) = both_leaves left right (rows_leaves left) (rows_leaves right)
rows_leaves (Lesser left right) = both_leaves left right (rows_leaves left) (rows_leaves right)

-- ---- two rows

pub join_step : (number : ℕ → ℕ) (first more best sum next value : ℕ) → first ≤ more → best ≡ told (greatest_from number first (more - first)) → number more ≡ value → sum ≡ told value → next ≡ ord_max nat_cmp best sum → next ≡ told (greatest_from number first (more + 1 - first))
join_step number first more best sum next value order best_is number_is sum_is next_is =
    let count : more + 1 - first ≡ suc (more - first) = omega arith in
    let place : first + (more - first) ≡ more = omega arith in
    let last : number (first + (more - first)) ≡ value = ap number place ∙ number_is in
    let greater : next ≡ max best sum = next_is ∙ ord_max-numbers best sum in
    rw count
    (greater ∙ ap₂ (λ x y. max x y) best_is sum_is ∙ told-max (greatest_from number first (more - first)) value
    ∙ ap (λ x. told (max (greatest_from number first (more - first)) x)) (sym last))

-- rooms that are cut above all spare letters share them in the same ways
pub joined_cut : (operation : Operation) (left : ℕ → ℕ) (left_room : ℕ) (right : ℕ → ℕ) (right_room spare cut cut' : ℕ) → spare < 2 ^ 32 → cut ≡ min left_room (2 ^ 64 - 1) → cut' ≡ min right_room (2 ^ 64 - 1)
    → joined operation left cut right cut' spare ≡ joined operation left left_room right right_room spare
joined_cut operation left left_room right right_room spare cut cut' short one other =
    let number : ℕ → ℕ = λ more. put operation (left more) (right (spare - more)) in
    let first : spare - cut' ≡ spare - right_room = omega arith in
    let last : min spare cut + 1 - (spare - cut') ≡ min spare left_room + 1 - (spare - right_room) = omega arith in
    ap₂ (greatest_from number) first last

-- the greatest of cut numbers
pub greatest_told : (row number : ℕ → ℕ) (first count : ℕ) → ((k : ℕ) → k < first + count → row k ≡ told (number k)) → greatest_from row first count ≡ told (greatest_from number first count)
greatest_told row number first zero same = omega arith
greatest_told row number first (suc count) same =
    let rest = greatest_told row number first count (λ k less. same k (omega arith)) in
    let last = same (first + count) (omega arith) in
    ap₂ max rest last ∙ told-max (greatest_from number first count) (number (first + count))

-- ---- what a table of bounds has for ways

pub read_all : (bound : ℕ → ℕ → ℕ) (table : Table) (parts : List Part) (len : ℕ) → lows parts ≤ len → AreRead bound table parts len → AreReadAt bound table parts (len - lows parts)
read_all bound table parts len long reads place = by (order place (length parts))
  where
    order : (m n : ℕ) → (m < n) ⊎ (n ≤ m)
    order m n = grind arith

    by : (place < length parts) ⊎ (length parts ≤ place) → ReadsRight bound table (part_at parts place).worth ((part_at parts place).low + (len - lows parts))
    by (inl inside) = reads place ((part_at parts place).low + (len - lows parts)) inside (omega (arith, long))
    by (inr past) =
        let none = get_or_past parts place (record { worth = OfLetters 0 0; low = 0; room = 0 }) past in
        subst (λ (p : Part). ReadsRight bound table p.worth (p.low + (len - lows parts))) (sym none) tt

pub readable_all : (rules : ℕ) (parts : List Part) → All (λ (part : Part). IsReadable rules part.worth) parts → AreAllReadable rules parts
readable_all rules parts all place = by (order place (length parts))
  where
    order : (m n : ℕ) → (m < n) ⊎ (n ≤ m)
    order m n = grind arith

    by : (place < length parts) ⊎ (length parts ≤ place) → IsReadable rules (part_at parts place).worth
    by (inl inside) = all place (record { worth = OfLetters 0 0; low = 0; room = 0 }) inside
    by (inr past) = subst (λ (p : Part). IsReadable rules p.worth) (sym (get_or_past parts place (record { worth = OfLetters 0 0; low = 0; room = 0 }) past)) tt

pub lows_all : (parts : List Part) (place : ℕ) → (part_at parts place).low ≤ lows parts
lows_all [] place = omega arith
lows_all (part ∷ parts) zero = omega arith
lows_all (part ∷ parts) (suc place) = let rest = lows_all parts place in omega (arith, rest)
