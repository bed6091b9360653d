use Rattle.std.proofs.Common.{◌≡◌, sym, subst, inl, inr, arith}
use Rattle.std.proofs.lemmas.Bool.{cases_lt}
use Rattle.cell_tables.specs.Bits.{IsSet}
use Rattle.cell_tables.proofs.SetBits.{either_bits, flag_is, one_bit}
use Rattle.cell_tables.proofs.marked_spans.turned_bits.Goals as goal

pub loop-to-preserved : goal.loop-to-preserved
loop-to-preserved c = λ to.
    let columns = c.args.columns.now in
    let rule = c.args.rule in
    let from = c.args.from in
    let number = c.args.number in
    let here = c.loop-to.to in
    let before = c.loop-to.invariant to in
    let flag = flag_is c.is_set.result c.from.result c.from.ensures in
    let one = one_bit c.from.result number here to flag.0 (omega arith) in
    let either = either_bits c.loop-to.bits _ number to in (
      λ bit. elim (either.0 bit) [
        | inl was ↦ let is = before.0 was in (is.0, omega (arith, is.1), is.2)
        | inr now ↦
            let is = one.0 now in
            let set = c.is_set.ensures.0 (flag.1.0 is.1) in
            (omega (arith, is.0), omega (arith, is.0), subst (λ n. IsSet columns rule n from) (sym is.0) set)
      ],
      λ (low, high, set). either.1 (elim (cases_lt to here) [
        | inl early ↦ inl (before.1 (low, early, set))
        | inr late ↦
            let same : to ≡ here = omega arith in
            inr (one.1 (same, flag.1.1 (c.is_set.ensures.1 (subst (λ n. IsSet columns rule n from) same set))))
      ]),
    )

pub returns : goal.returns
returns c = λ to. (
  λ bit. let is = (c.loop-to.invariant to).0 bit in (is.0, omega (arith, is.1), is.2),
  λ (low, high, set). (c.loop-to.invariant to).1 (low, omega arith, set),
)
