use Rattle.std.proofs.Common.{◌≡◌, ◌<◌, ◌^◌, ℤ, Option, inl, inr, None, IsSome, OnOk, Result, Ok, Err, sym, subst, ◌∙◌, arith}
use Rattle.adp_model.specs.declared.cell.Cell.{Cell}
use Rattle.table_certificate.specs.KeptForms.{kept}
use Rattle.table_certificate.specs.Claims.{IsKeptToo, IsShort, claimed}
use Rattle.table_certificate.proofs.KeptClaims.{none_claimed, note_kept, note_long, note_new}
use Rattle.table_certificate.proofs.KeptNumbers.{kept_long, kept_short}
use Rattle.table_certificate.proofs.claims.Claims.note.Goals as goal
use Rattle.table_certificate.proofs.claims.Claims.note.Goals.{After-said, then-from-ge65536-via-then-from-ge65536, then-from-ge65536-via-else-from-ge65536+then-to-ge65536}

pub returns-then-from-ge65536 : goal.returns-then-from-ge65536
returns-then-from-ge65536 c = λ lines cell rule from to told.
    note_long c.args.self.now lines cell c.args.score told (elim c.then-from-ge65536.branch [
      | then-from-ge65536-via-then-from-ge65536 w ↦ inl (kept_long cell.from c.args.from from w.if-from-ge65536.true)
      | then-from-ge65536-via-else-from-ge65536+then-to-ge65536 w ↦ inr (kept_long cell.to c.args.to to w.if-to-ge65536.true)
    ])

short : (c : After-said) (cell : Cell) → c.args.from ≡ kept cell.from → c.args.to ≡ kept cell.to → IsShort cell
short c cell from to = record {
  begins = subst (λ n. n < 2 ^ 16) (kept_short cell.from c.args.from from (omega (arith, c.if-from-ge65536.false))) (omega (arith, c.if-from-ge65536.false));
  ends = subst (λ n. n < 2 ^ 16) (kept_short cell.to c.args.to to (omega (arith, c.if-to-ge65536.false))) (omega (arith, c.if-to-ge65536.false));
}

cell_is : (c : After-said) (cell : Cell) → c.args.rule ≡ cell.rule → c.args.from ≡ kept cell.from → c.args.to ≡ kept cell.to
    → record { rule = c.args.rule; from = c.args.from; to = c.args.to } ≡ cell
cell_is c cell rule from to =
    let begins = kept_short cell.from c.args.from from (omega (arith, c.if-from-ge65536.false)) in
    let ends = kept_short cell.to c.args.to to (omega (arith, c.if-to-ge65536.false)) in
    λ i. record { rule = rule i; from = begins i; to = ends i }

pub returns-then-is_some : goal.returns-then-is_some
returns-then-is_some c = λ lines cell rule from to told.
    let at = (goal.at.returns-then-is_some c).After-said in
    note_kept c.args.self.now lines cell c.args.score told (short at cell from to)
    (subst (λ (x : Cell). IsSome (claimed c.args.self.now x)) (cell_is at cell rule from to)
    (subst (λ (x : Option (Option ℤ)). IsSome x) c.said.ensures (sym c.if-is_some.ensures)))

-- what a cell's keeping tells of the claims
on_ok : {E P Q : Type 0} (result : Result (Unit {0}) E) → (P → Q) → OnOk result P → OnOk result Q
on_ok (Ok done) goes here = goes here
on_ok (Err e) goes here = tt

pub returns : goal.returns
returns c = on_ok c.keep.result (λ kept lines cell rule from to told.
    let at = (goal.at.returns c).After-said in
    let is = cell_is at cell rule from to in
    note_new c.args.self.now c.keep.new.self lines cell c.args.score told (short at cell from to)
    (subst (λ (x : Cell). claimed c.args.self.now x ≡ None) is
    (sym c.said.ensures ∙ none_claimed c.said.result c.if-is_some.ensures))
    (subst (λ (x : Cell). IsKeptToo c.args.self.now c.keep.new.self x c.args.score) is kept)) c.keep.ensures
