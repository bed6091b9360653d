use Rattle.std.proofs.Common.{◌≡◌, ◌↔◌, ◌+◌, ◌<◌, ◌≤◌, ℕ, List, sym, subst, inl, inr, ⊎_elim, ◌∙◌, arith}
use Rattle.std.proofs.lemmas.Bool.{cases_lt, false≢true}
use Rattle.cell_tables.specs.Marks.{IsMarkedInRow}
use Rattle.cell_demands.specs.PlaceBits.{HasBit}
use Rattle.cell_demands.proofs.rows.find_ends.Goals as goal
use Rattle.cell_demands.proofs.rows.find_ends.Goals.{then-is_marked_in_row, else-is_marked_in_row}

pub loop-to-preserved : goal.loop-to-preserved
loop-to-preserved c =
    let here = c.loop-to.to in
    let start = c.args.range.start in
    let before = c.loop-to.invariant.exact in
    let M : ℕ → Type 0 = λ to. IsMarkedInRow c.args.marks.now (record { rule = c.args.rule; from = c.args.from; to = to }) in
    let E : List ℕ → Type 0 = λ ends. (to : ℕ) → HasBit ends to ↔ ((start ≤ to) × (to < here + 1) × M to) in
    record {
      as_many = omega (arith, c.if-is_marked_in_row.auto, c.loop-to.invariant.as_many);
      exact = elim c.if-is_marked_in_row.branch [
        | then-is_marked_in_row w ↦ subst E (sym w.ends-is) (λ to. (
          λ bit. ⊎_elim
              (λ was. let b = (before to).0 was in (b.0, omega (arith, b.1), b.2))
              (λ same. (omega (arith, same, c.loop-to.auto), omega (arith, same), subst M (sym same) (c.is_marked_in_row.ensures.0 w.if-is_marked_in_row.true)))
              ((w.set_bit.ensures.exact to).0 bit),
          λ (l, m, marked). (w.set_bit.ensures.exact to).1 (⊎_elim
              (λ early. inl ((before to).1 (l, early, marked)))
              (λ late. inr (omega (arith, m, late))) (cases_lt to here)),
        ))
        | else-is_marked_in_row w ↦ subst E (sym w.ends-is) (λ to. (
          λ was. let b = (before to).0 was in (b.0, omega (arith, b.1), b.2),
          λ (l, m, marked). ⊎_elim
              (λ early. (before to).1 (l, early, marked))
              (λ late.
              let same : to ≡ here = omega (arith, m, late) in
              absurd (false≢true (sym w.if-is_marked_in_row.false ∙ c.is_marked_in_row.ensures.1 (subst M same marked)))) (cases_lt to here),
        ))
      ];
    }

pub returns-clause-exact : goal.returns-clause-exact
returns-clause-exact c = λ to.
    let all = c.loop-to.invariant.exact to in (
      λ bit. let b = all.0 bit in (b.0, omega (arith, b.0, b.1, c.loop-to.auto, c.loop-to-test.false), b.2),
      λ (l, m, marked). all.1 (l, omega (arith, m, c.loop-to-test.false), marked),
    )
