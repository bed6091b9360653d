use Rattle.std.proofs.Common.{◌≡◌, ◌+◌, ◌<◌, ℕ, Bool, Option, None, List, length, get_or, set, sym, ap, subst, ◌∙◌, arith, lit<}
use Rattle.std.proofs.lemmas.Bool.{not-true, not-false, true≢false}
use Rattle.adp_model.specs.Parts.{alternatives_of}
use Rattle.yield_sizes.specs.KnownLengths.{lesser, rule_least}
use Rattle.yield_sizes.proofs.LeastLengths.{IsRound, all_below, round_same, round_fell}
use Rattle.yield_sizes.proofs.GrammarReads.{alternatives_read, same_length, length_same}
use Rattle.yield_sizes.proofs.least_lengths.improve.Goals as goal
use Rattle.yield_sizes.proofs.least_lengths.improve.Goals.{then-ne, else-ne}

pub loop-number-preserved : goal.loop-number-preserved
loop-number-preserved c =
    let grammar = c.args.grammar.now in
    let most : ℕ = 4294967295 in
    let old = c.args.known.now in
    let known = c.loop-number.known in
    let number = c.loop-number.number in
    let items = c.as_slice-rule-items.result.now in
    let inside : number < length items = omega arith in
    let within : number < length grammar.rules = omega (arith, ap length c.as_slice-rule-items.ensures) in
    let alternatives : c.as_slice.result.now ≡ alternatives_of grammar number = c.as_slice.ensures ∙ alternatives_read grammar items number c.rule-item.result c.as_slice-rule-items.ensures inside c.rule-item.is in
    let found : c.rule_least.result ≡ rule_least most known (alternatives_of grammar number) = c.rule_least.ensures ∙ ap (rule_least most known) alternatives in
    let least : c.lesser-least.result ≡ lesser (get_or known number None) (rule_least most known (alternatives_of grammar number)) = c.lesser-least.ensures ∙ ap (lesser (get_or known number None)) found in
    elim c.if-ne.branch [
      | then-ne w ↦
          let new : c.if-ne.known ≡ set known number (lesser (get_or known number None) (rule_least most known (alternatives_of grammar number))) = w.known-is ∙ ap (set known number) least in
          let unequal = not-true _ (sym c.ne.ensures ∙ w.if-ne.true) in
          let P : List (Option ℕ) → Type 0 = λ it. IsRound grammar most old it (number + 1) c.if-ne.fell in
          let S : Bool → Type 0 = IsRound grammar most old (set known number (lesser (get_or known number None) (rule_least most known (alternatives_of grammar number)))) (number + 1) in
          subst P (sym new) (subst S (sym w.fell-is) (round_fell grammar most old known number c.loop-number.fell (c.numbers_fit_together.ensures.runs_in_order grammar c.requires.well_formed) (all_below grammar most (lit< tt) (c.numbers_fit_together.ensures.sizes_fit grammar c.requires.well_formed)) c.loop-number.invariant within
          (λ same. true≢false (sym (length_same c.lesser-least.result (get_or known number None) (least ∙ same)) ∙ unequal))))
      | else-ne w ↦
          let equal = not-false _ (sym c.ne.ensures ∙ w.if-ne.false) in
          let P : List (Option ℕ) → Type 0 = λ it. IsRound grammar most old it (number + 1) c.if-ne.fell in
          let S : Bool → Type 0 = IsRound grammar most old known (number + 1) in
          subst P (sym w.known-is) (subst S (sym w.fell-is) (round_same grammar most old known number c.loop-number.fell c.loop-number.invariant (sym least ∙ same_length c.lesser-least.result (get_or known number None) equal)))
    ]
