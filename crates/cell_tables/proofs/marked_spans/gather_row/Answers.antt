use Rattle.std.proofs.Common.{Bool, IsTrue, ◌↔◌, ◌⊎◌, ℕ, ◌+◌, ◌*◌, ◌/◌, ◌<◌, ◌≤◌, refl, subst, sym, inl, inr, arith}
use Rattle.std.specs.Prelude.{IsSome}
use Rattle.std.proofs.lemmas.Bool.{cases_lt}
use Rattle.cell_tables.specs.Spans.{Spans, value_at}
use Rattle.cell_tables.specs.Bits.{AreSetToo, IsBitIn, IsSet}
use Rattle.cell_tables.proofs.Tables.{same_some}
use Rattle.cell_tables.proofs.SetBits.{no_bit, some_bit}
use Rattle.cell_tables.proofs.SetSpans.{none_set_too, set_like, set_more_too}
use Rattle.cell_tables.proofs.marked_spans.gather_row.Goals as goal
use Rattle.cell_tables.proofs.marked_spans.gather_row.Goals.{then-bits-ne0, else-bits-ne0}

-- the ends of the first numbers that are set in the columns
abbrev IsEarly : Spans ℕ → ℕ → ℕ → ℕ → ℕ → ℕ → ℕ → Type 0
IsEarly columns rule from first past number to = (first ≤ to) × (to < past) × (to / 64 < number) × IsSet columns rule to from

pub set_word-requires : goal.set_word-requires
set_word-requires c =
    let bit = some_bit c.turned_bits-bits.result c.loop-number.number (omega arith) (omega arith) in
    let is = (c.turned_bits-bits.ensures bit.0).0 bit.1 in
    let there = c.requires.there bit.0 (omega (arith, is.0)) (omega (arith, is.1)) in
    let here = subst (λ number. IsSome (value_at c.args.rows.now c.args.rule c.args.from number)) bit.1.number_is there in
    same_some c.args.rows.now c.loop-number.rows c.loop-number.invariant.set.same c.args.rule c.args.from c.loop-number.number here

pub loop-number-preserved : goal.loop-number-preserved
loop-number-preserved c =
    let old = c.args.rows.now in
    let columns = c.args.columns.now in
    let rule = c.args.rule in
    let from = c.args.from in
    let first = c.args.first in
    let past = c.args.past in
    let number = c.loop-number.number in
    let bits = c.turned_bits-bits.result in
    let Was = IsEarly columns rule from first past number in
    let Is = IsEarly columns rule from first past (number + 1) in
    let told : (to : ℕ) → Is to ↔ (Was to ⊎ IsBitIn bits number to) = λ to. (
      λ (low, high, early, set). elim (cases_lt (to / 64) number) [
        | inl before ↦ inl (low, high, before, set)
        | inr here ↦ inr ((c.turned_bits-bits.ensures to).1 (omega arith, omega arith, set))
      ],
      λ either. elim either [
        | inl (low, high, early, set) ↦ (low, high, omega arith, set)
        | inr bit ↦ let is = (c.turned_bits-bits.ensures to).0 bit in (omega (arith, is.0), omega (arith, is.1), omega (arith, bit.number_is), is.2)
      ],
    ) in
    let S : Spans ℕ → Type 0 = λ rows. AreSetToo old rows rule from Is in
    let A : Bool → Type 0 = λ any. IsTrue any ↔ ((to : ℕ) × Is to) in
    elim c.if-bits-ne0.branch [
      | then-bits-ne0 w ↦ record {
        set = subst S (sym w.rows-is) (set_more_too old c.loop-number.rows w.set_word.new.self rule from Was (IsBitIn bits number) Is told c.loop-number.invariant.set w.set_word.ensures);
        any = let bit = some_bit bits number (omega arith) (omega arith) in subst A (sym w.any-is) (λ _. (bit.0, (told bit.0).1 (inr bit.1)), λ _. refl);
      }
      | else-bits-ne0 w ↦
          let none : (to : ℕ) → IsBitIn bits number to → ⊥ = λ to bit. no_bit number to (subst (λ n. IsBitIn n number to) w.if-bits-ne0.false bit) in
          record {
            set = subst S (sym w.rows-is) (set_more_too old c.loop-number.rows c.loop-number.rows rule from Was (IsBitIn bits number) Is told c.loop-number.invariant.set (none_set_too c.loop-number.rows rule from (IsBitIn bits number) none));
            any = subst A (sym w.any-is) (
              λ any. let was = c.loop-number.invariant.any.0 any in (was.0, (told was.0).1 (inl was.1)),
              λ (to, is). elim ((told to).0 is) [
                | inl was ↦ c.loop-number.invariant.any.1 (to, was)
                | inr bit ↦ absurd (none to bit)
              ],
            );
          }
    ]

pub returns-clause-set : goal.returns-clause-set
returns-clause-set c =
    let columns = c.args.columns.now in
    let rule = c.args.rule in
    let from = c.args.from in
    let first = c.args.first in
    let past = c.args.past in
    let number = c.loop-number.number in
    let end : past ≤ 64 * number = omega (arith, c.loop-number-test.false, c.div_ceil-number-end.ensures) in
    set_like c.args.rows.now c.loop-number.rows rule from (IsEarly columns rule from first past number) (λ to. (first ≤ to) × (to < past) × IsSet columns rule to from)
    (λ to. (λ (low, high, early, set). (low, high, set), λ (low, high, set). (low, high, omega arith, set))) c.loop-number.invariant.set

pub returns-clause-any : goal.returns-clause-any
returns-clause-any c = (
  λ any. let it = c.loop-number.invariant.any.0 any in (it.0, (it.1.0, it.1.1, it.1.3)),
  λ (to, (low, high, set)).
      c.loop-number.invariant.any.1 (to, (low, high, omega (arith, low, high, c.loop-number-test.false, c.div_ceil-number-end.ensures), set)),
)
