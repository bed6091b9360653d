use Rattle.std.proofs.Common.{◌≡◌, ℕ, ◌+◌, ◌-◌, ◌<◌, ◌≤◌, inl, inr, min, slice_index, sym, ap, ap₂, subst, ◌∙◌, arith}
use Rattle.adp_model.specs.LimitFaults.{told}
use Rattle.grammar_check.specs.Plans.{greatest_from, lows, part_at}
use Rattle.grammar_check.specs.Tables.{entry}
use Rattle.grammar_check.specs.TermSpreads.{idle_room, term_room, term_spread}
use Rattle.grammar_check.specs.WideRows.{AreReadAt, AreTermRows}
use Rattle.grammar_check.specs.WideAlternatives.{AreWideSpread}
use Rattle.grammar_check.proofs.OwnWays.{wide_long}
use Rattle.grammar_check.proofs.WideSteps.{read_all, lows_all, greatest_told, same_or_not, less_before, same_rows, fewer_rows}
use Rattle.grammar_check.proofs.wide_alternative.WideAlternative.extend.Goals as goal

pub extend_term-value-requires-clause-within : goal.extend_term-value-requires-clause-within
extend_term-value-requires-clause-within c = λ place.
    let before = c.args.self.now in
    subst (λ ps. (part_at ps place).low + (c.args.len - before.low) < c.args.bounds.now.width) (sym c.deref.ensures.value)
    (let low = lows_all before.parts.items place in omega (arith, low, before.least, c.if-len-self.false, c.requires.within, c.requires.short))

pub returns-clause-value : goal.returns-clause-value
returns-clause-value c = λ bound reads spreads.
    let before = c.args.self.now in
    let parts = before.parts.items in
    let term = before.term.now in
    let spare = c.args.len - before.low in
    let low_is : before.low ≡ lows parts = omega (arith, before.least, c.if-len-self.false, c.requires.short) in
    let long : lows parts ≤ c.args.len = omega (arith, low_is, c.if-len-self.false) in
    let spare_is : c.args.len - lows parts ≡ spare = omega (arith, low_is) in
    let spread : AreWideSpread bound before spare = subst (AreWideSpread bound before) spare_is spreads in
    let read : AreReadAt bound c.args.bounds.now parts spare = subst (AreReadAt bound c.args.bounds.now parts) spare_is (read_all bound c.args.bounds.now parts c.args.len long reads) in
    let ext = c.extend_term-value.new.rows in
    let value : c.extend_term-value.result ≡ told (term_spread bound parts term spare) =
    subst (λ ps. AreReadAt bound c.args.bounds.now ps spare → AreTermRows bound ps before.rows term 1 spare → c.extend_term-value.result ≡ told (term_spread bound ps term spare)) c.deref.ensures.value
    (rw c.root.ensures at (c.extend_term-value.ensures.value bound)) read spread.sides in
    let narrow : spare < before.rows.width = omega (arith, c.requires.within, c.requires.columns) in
    let row : (column : ℕ) → column < spare + 1 → entry c.set.new.self 0 column ≡ told (term_spread bound parts term column) = λ column less. elim (same_or_not column spare) [
      | inl same ↦ subst (λ n. entry c.set.new.self 0 n ≡ told (term_spread bound parts term n)) (sym same) (c.set.ensures.here ∙ value)
      | inr differ ↦ c.set.ensures.other_columns column differ ∙ c.extend_term-value.ensures.other_columns 0 column differ (omega (arith, less, narrow)) ∙ spread.whole column (less_before column spare differ less)
    ] in
    let first = c.saturating_sub.result in
    let last = c.min.result in
    let first_is : first ≡ (c.args.len - lows parts) - idle_room term 0 parts = omega (arith, c.saturating_sub.ensures, before.idle_is, low_is, c.requires.short) in
    let count_is : last + 1 - first ≡ min (c.args.len - lows parts) (term_room parts term) + 1 - ((c.args.len - lows parts) - idle_room term 0 parts) = omega (arith, first_is, c.min.ensures, before.room_is, low_is, c.requires.short) in
    c.greatest.ensures
    ∙ greatest_told (slice_index c.row.result.now) (term_spread bound parts term) first (last + 1 - first)
    (λ k less. let few : k < spare + 1 = omega (arith, less, c.saturating_sub.ensures, c.min.ensures) in c.row.ensures.entries k (omega (arith, few, narrow, c.extend_term-value.ensures.width, c.set.ensures.width)) ∙ row k few)
    ∙ ap₂ (λ a b. told (greatest_from (term_spread bound parts term) a b)) first_is count_is
    ∙ ap told (sym (wide_long bound term parts c.args.len long))

pub returns-clause-spread : goal.returns-clause-spread
returns-clause-spread c = λ bound reads spreads.
    let before = c.args.self.now in
    let parts = before.parts.items in
    let term = before.term.now in
    let spare = c.args.len - before.low in
    let low_is : before.low ≡ lows parts = omega (arith, before.least, c.if-len-self.false, c.requires.short) in
    let long : lows parts ≤ c.args.len = omega (arith, low_is, c.if-len-self.false) in
    let spare_is : c.args.len - lows parts ≡ spare = omega (arith, low_is) in
    let spread : AreWideSpread bound before spare = subst (AreWideSpread bound before) spare_is spreads in
    let read : AreReadAt bound c.args.bounds.now parts spare = subst (AreReadAt bound c.args.bounds.now parts) spare_is (read_all bound c.args.bounds.now parts c.args.len long reads) in
    let ext = c.extend_term-value.new.rows in
    let value : c.extend_term-value.result ≡ told (term_spread bound parts term spare) =
    subst (λ ps. AreReadAt bound c.args.bounds.now ps spare → AreTermRows bound ps before.rows term 1 spare → c.extend_term-value.result ≡ told (term_spread bound ps term spare)) c.deref.ensures.value
    (rw c.root.ensures at (c.extend_term-value.ensures.value bound)) read spread.sides in
    let sides : AreTermRows bound parts ext term 1 (spare + 1) =
    subst (λ ps. AreReadAt bound c.args.bounds.now ps spare → AreTermRows bound ps before.rows term 1 spare → AreTermRows bound ps ext term 1 (spare + 1)) c.deref.ensures.value
    (rw c.root.ensures at (c.extend_term-value.ensures.spread bound)) read spread.sides in
    let narrow : spare < before.rows.width = omega (arith, c.requires.within, c.requires.columns) in
    let next : c.args.len + 1 - lows parts ≤ spare + 1 = omega (arith, low_is) in
    record {
      whole = λ column less. elim (same_or_not column spare) [
        | inl same ↦ subst (λ n. entry c.set.new.self 0 n ≡ told (term_spread bound parts term n)) (sym same) (c.set.ensures.here ∙ value)
        | inr differ ↦ c.set.ensures.other_columns column differ ∙ c.extend_term-value.ensures.other_columns 0 column differ (omega (arith, less, next, narrow)) ∙ spread.whole column (less_before column spare differ (omega (arith, less, next)))
      ];
      sides = fewer_rows bound parts c.set.new.self (c.args.len + 1 - lows parts) (spare + 1) next term 1
          (same_rows bound parts ext c.set.new.self (spare + 1) term 1
          (λ row column from to less. c.set.ensures.other_rows row column (λ e. omega (arith, e, from)) (omega (arith, less, narrow, c.extend_term-value.ensures.width))) sides);
    }
