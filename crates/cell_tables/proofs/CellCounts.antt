-- Numbers of cells: how those of cells in order add up, and how many cells have their bits set in a number.
use Rattle.std.proofs.Common.{◌≡◌, ◌↔◌, ℕ, zero, suc, ◌+◌, ◌-◌, ◌%◌, ◌*◌, ◌^◌, ◌<◌, ◌≤◌, ◌⊎◌, inl, inr, ⊎_elim, List, [], ◌∷◌, ◌++◌, length, get_or, refl, sym, ap, subst, ◌∙◌, arith, length-append}
use Rattle.std.specs.Prelude.{count_ones}
use Rattle.std.specs.Int.{bit_at}
use Rattle.std.specs.List.{Contains, AllAdjacentBelow}
use Rattle.std.specs.Int.Count.{ones-ones}
use Rattle.std.proofs.lemmas.Bool.{cases_lt, cases_eq}
use Rattle.std.proofs.lemmas.List.{get_or_append_left, get_or-append_right}
use Rattle.std.proofs.lemmas.List.Elements.{Contains-get_or, Contains-append_left, Contains-append_right, Contains-append_cases}
use Rattle.std.proofs.lemmas.Nat.{mod-pow-add, mod_below, pow_pos, ones_cat}
use Rattle.std.proofs.lemmas.Nat.Bits.{bit_at-lt}
use Rattle.adp_model.specs.declared.cell.Cell.{Cell}
use Rattle.adp_model.specs.Cells.{CellPrecedes, AreAll, IsCountOf}
use Rattle.cell_tables.specs.Bits.{IsBitIn}

-- ---- lists of cells, one behind the other

pub same_count : (P Q : Cell → Type 0) → ((cell : Cell) → P cell ↔ Q cell) → (a : ℕ) → IsCountOf P a → IsCountOf Q a
same_count P Q same a (cells, all, count) = (
  cells,
  record {
    in_order = all.in_order;
    each = λ cell there. (same cell).0 (all.each cell there);
    all = λ cell holds. all.all cell ((same cell).1 holds);
  },
  count,
)

pub no_cells : (P : Cell → Type 0) → ((cell : Cell) → P cell → ⊥) → IsCountOf P 0
no_cells P none = ([], record { in_order = λ k d below. absurd (omega arith); each = λ cell there. absurd (omega (arith, there.1)); all = λ cell holds. absurd (none cell holds) }, refl)

pub one_cell : (cell : Cell) → IsCountOf (λ other. other ≡ cell) 1
one_cell cell = (cell ∷ [], record { in_order = λ k d below. absurd (omega arith); each = here; all = λ other e. (0, omega arith, sym e) }, refl)
  where
    here : (other : Cell) → Contains (cell ∷ []) other → other ≡ cell
    here other (zero, below, e) = sym e
    here other (suc k, below, e) = absurd (omega arith)

module _ (P Q R : Cell → Type 0) (before : (a b : Cell) → P a → Q b → CellPrecedes a b) (told : (cell : Cell) → R cell ↔ (P cell ⊎ Q cell)) where
  joined_in_order : (xs ys : List Cell) → AreAll P xs → AreAll Q ys → AllAdjacentBelow CellPrecedes (xs ++ ys) (length (xs ++ ys))
  joined_in_order xs ys first second k d below =
      let n = length xs in
      let long = length-append xs ys in
      let R : Cell → Cell → Type 0 = λ a b. CellPrecedes a b in
      elim (cases_lt (k + 1) n) [
        | inl inside ↦
            let here = get_or_append_left xs ys d k (omega arith) in
            let next = get_or_append_left xs ys d (k + 1) inside in
            subst (λ a. R a (get_or (xs ++ ys) (k + 1) d)) (sym here) (subst (λ b. R (get_or xs k d) b) (sym next) (first.in_order k d inside))
        | inr outside ↦
            let next = get_or-append_right xs ys n (k + 1) d refl outside in
            elim (cases_lt k n) [
              | inl last ↦
                  let here = get_or_append_left xs ys d k last in
                  let precedes = before (get_or xs k d) (get_or ys (k + 1 - n) d) (first.each _ (Contains-get_or xs k d last)) (second.each _ (Contains-get_or ys (k + 1 - n) d (omega arith))) in
                  subst (λ a. R a (get_or (xs ++ ys) (k + 1) d)) (sym here) (subst (λ b. R (get_or xs k d) b) (sym next) precedes)
              | inr past ↦
                  let here = get_or-append_right xs ys n k d refl past in
                  let index : k - n + 1 ≡ k + 1 - n = omega arith in
                  let precedes = subst (λ i. R (get_or ys (k - n) d) (get_or ys i d)) index (second.in_order (k - n) d (omega arith)) in
                  subst (λ a. R a (get_or (xs ++ ys) (k + 1) d)) (sym here) (subst (λ b. R (get_or ys (k - n) d) b) (sym next) precedes)
            ]
      ]

  pub joined_count : (a b : ℕ) → IsCountOf P a → IsCountOf Q b → IsCountOf R (a + b)
  joined_count a b (xs, first, few) (ys, second, few') = (
    xs ++ ys,
    record {
      in_order = joined_in_order xs ys first second;
      each = λ cell there. (told cell).1 (⊎_elim (λ l. inl (first.each cell l)) (λ r. inr (second.each cell r)) (Contains-append_cases xs ys cell there));
      all = λ cell holds. ⊎_elim (λ p. Contains-append_left xs ys cell (first.all cell p)) (λ q. Contains-append_right xs ys cell (second.all cell q)) ((told cell).0 holds);
    },
    omega (arith, length-append xs ys),
  )

-- ---- cells by starts and by rules

module _ (Holds : Cell → Type 0) where
  pub next_start : (rule from a b : ℕ) → IsCountOf (λ cell. Holds cell × (cell.rule ≡ rule) × (cell.from < from)) a → IsCountOf (λ cell. Holds cell × (cell.rule ≡ rule) × (cell.from ≡ from)) b
      → IsCountOf (λ cell. Holds cell × (cell.rule ≡ rule) × (cell.from < from + 1)) (a + b)
  next_start rule from =
      joined_count (λ cell. Holds cell × (cell.rule ≡ rule) × (cell.from < from)) (λ cell. Holds cell × (cell.rule ≡ rule) × (cell.from ≡ from)) (λ cell. Holds cell × (cell.rule ≡ rule) × (cell.from < from + 1))
      (λ a b (h, r, f) (h', r', f'). inr (r ∙ sym r', inl (omega arith)))
      (λ cell. (
        λ (h, r, f). elim (cases_lt cell.from from) [
          | inl low ↦ inl (h, r, low)
          | inr high ↦ inr (h, r, omega arith)
        ],
        λ either. elim either [
          | inl (h, r, f) ↦ (h, r, omega arith)
          | inr (h, r, f) ↦ (h, r, omega arith)
        ],
      ))

  pub next_rule : (rule a b : ℕ) → IsCountOf (λ cell. Holds cell × (cell.rule < rule)) a → IsCountOf (λ cell. Holds cell × (cell.rule ≡ rule)) b
      → IsCountOf (λ cell. Holds cell × (cell.rule < rule + 1)) (a + b)
  next_rule rule =
      joined_count (λ cell. Holds cell × (cell.rule < rule)) (λ cell. Holds cell × (cell.rule ≡ rule)) (λ cell. Holds cell × (cell.rule < rule + 1))
      (λ a b (h, r) (h', r'). inl (omega arith))
      (λ cell. (
        λ (h, r). elim (cases_lt cell.rule rule) [
          | inl low ↦ inl (h, low)
          | inr high ↦ inr (h, omega arith)
        ],
        λ either. elim either [
          | inl (h, r) ↦ (h, omega arith)
          | inr (h, r) ↦ (h, omega arith)
        ],
      ))

-- ---- cells whose bits are set in a number

-- the cell has this rule and start, and the bit of its end is set in the number
abbrev pub IsCellIn : ℕ → ℕ → ℕ → ℕ → Cell → Type 0
IsCellIn word number rule from cell = (cell.rule ≡ rule) × (cell.from ≡ from) × IsBitIn word number cell.to

-- one more bit counts where it is set
ones-suc : (word k : ℕ) → count_ones (word % 2 ^ suc k) ≡ count_ones (word % 2 ^ k) + bit_at word k
ones-suc word k =
    let bit = bit_at word k in
    let low = bit_at-lt word k in
    let width : suc k ≡ 1 + k = omega arith in
    let cut : word % 2 ^ suc k ≡ bit * 2 ^ k + word % 2 ^ k = ap (λ n. word % 2 ^ n) width ∙ mod-pow-add word 1 k in
    let parts = ones_cat k bit (word % 2 ^ k) (mod_below word (2 ^ k) (pow_pos k)) in
    let itself : count_ones bit ≡ bit = elim (cases_eq bit 0) [
      | inl clear ↦ ap count_ones clear ∙ ones-ones 0 ∙ sym clear
      | inr some ↦ let set : bit ≡ 1 = omega arith in ap count_ones set ∙ ones-ones 1 ∙ sym set
    ] in
    ap count_ones cut ∙ parts ∙ omega (arith, itself)

module _ (word number rule from : ℕ) where
  abbrev IsFirst : ℕ → Cell → Type 0
  IsFirst k cell = IsCellIn word number rule from cell × (cell.to % 64 < k)

  same_cell : (a b : Cell) → a.rule ≡ b.rule → a.from ≡ b.from → a.to ≡ b.to → a ≡ b
  same_cell a b r f t = λ i. record { rule = r i; from = f i; to = t i }

  next_bit : (k : ℕ) → k < 64 → IsCountOf (λ cell. IsCellIn word number rule from cell × (cell.to % 64 ≡ k)) (bit_at word k)
  next_bit k inside =
      let next : Cell = record { rule = rule; from = from; to = 64 * number + k } in
      let place : (64 * number + k) % 64 ≡ k = omega arith in
      let low = bit_at-lt word k in
      elim (cases_eq (bit_at word k) 1) [
        | inl set ↦
            let one = same_count (λ cell. cell ≡ next) (λ cell. IsCellIn word number rule from cell × (cell.to % 64 ≡ k)) (λ cell. (
              λ e.
                  let to : cell.to ≡ 64 * number + k = ap (λ (c : Cell). c.to) e in
                  let at : cell.to % 64 ≡ k = omega arith in
                  ((ap (λ (c : Cell). c.rule) e, ap (λ (c : Cell). c.from) e, record { number_is = omega arith; bit = ap (bit_at word) at ∙ set }), at),
              λ ((r, f, bit), at). same_cell cell next r f (omega (arith, bit.number_is)),
            )) 1 (one_cell next) in
            subst (IsCountOf (λ cell. IsCellIn word number rule from cell × (cell.to % 64 ≡ k))) (sym set) one
        | inr clear ↦
            let none = no_cells (λ cell. IsCellIn word number rule from cell × (cell.to % 64 ≡ k)) (λ cell ((r, f, bit), at). clear (ap (bit_at word) (sym at) ∙ bit.bit)) in
            subst (IsCountOf (λ cell. IsCellIn word number rule from cell × (cell.to % 64 ≡ k))) (omega arith) none
      ]

  first_bits : (k : ℕ) → k ≤ 64 → IsCountOf (IsFirst k) (count_ones (word % 2 ^ k))
  first_bits zero within =
      let rest : word % 2 ^ 0 ≡ 0 = omega arith in
      let none : count_ones (word % 2 ^ 0) ≡ 0 = ap count_ones rest ∙ ones-ones 0 in
      subst (IsCountOf (IsFirst 0)) (sym none) (no_cells (IsFirst 0) (λ cell (is, low). omega arith))
  first_bits (suc k) within =
      let more = joined_count (IsFirst k) (λ cell. IsCellIn word number rule from cell × (cell.to % 64 ≡ k)) (IsFirst (suc k))
      (λ a b ((r, f, bit), low) ((r', f', bit'), at). inr (r ∙ sym r', inr (f ∙ sym f', omega (arith, bit.number_is, bit'.number_is))))
      (λ cell. (
        λ (is, low). elim (cases_lt (cell.to % 64) k) [
          | inl below ↦ inl (is, below)
          | inr high ↦ inr (is, omega arith)
        ],
        λ either. elim either [
          | inl (is, low) ↦ (is, omega arith)
          | inr (is, at) ↦ (is, omega arith)
        ],
      )) (count_ones (word % 2 ^ k)) (bit_at word k) (first_bits k (omega arith)) (next_bit k (omega arith)) in
      subst (IsCountOf (IsFirst (suc k))) (sym (ones-suc word k)) more

  -- as many cells as bits are set in a number
  pub word_cells : word < 2 ^ 64 → IsCountOf (IsCellIn word number rule from) (count_ones word)
  word_cells fits =
      let whole : word % 2 ^ 64 ≡ word = omega arith in
      let all = same_count (IsFirst 64) (IsCellIn word number rule from) (λ cell. (λ (is, low). is, λ is. (is, omega arith))) (count_ones (word % 2 ^ 64)) (first_bits 64 (omega arith)) in
      subst (λ n. IsCountOf (IsCellIn word number rule from) (count_ones n)) whole all
