use Rattle.std.proofs.Common.{◌≡◌, ℕ, [], sym, ap, subst, ◌∙◌, arith}
use Rattle.memo_words.specs.Layout.{Plan, IsPlanned, word_count, slots_of, records_of}
use Rattle.memo_words.proofs.Moves.{opens}
use Rattle.memo_words.proofs.Planned.{plan_with, is_planned}
use Rattle.memo_words.proofs.words.Words.new.Goals as goal

pub table_of_zeros-requires : goal.table_of_zeros-requires
table_of_zeros-requires c =
    let plan = plan_with c.problem.inside c.of.result.value c.of-2.result.value c.bits_for-bits.result c.args.seats in
    opens plan c.word_count.result [] (c.word_count.ensures
    ∙ ap (λ (s : ℕ). word_count s (records_of plan)) c.slots_of-slots.ensures.slots) c.requires.0

pub invariant_of-words : goal.invariant_of-words
invariant_of-words c =
    let plan = plan_with c.problem.inside c.of.result.value c.of-2.result.value c.bits_for-bits.result c.args.seats in
    let made = c.in_ok-table.ensures.table in
    let same : plan ≡ c.in_ok-table.table.table.shared.key = sym made.2 in
    let slots = c.slots_of-slots.ensures in let few = c.problem.invariant.few_cells in let seats = c.requires in
    let planned = is_planned c.problem.inside c.of.result.value c.of-2.result.value c.bits_for-bits.result
    c.args.seats c.problem.invariant c.of.ensures c.of-2.ensures c.bits_for-bits.ensures.bits c.requires.0
    c.requires.1 in
    record {
      bits_are = ap (λ (p : Plan). p.bits) same;
      slots_are = slots.slots ∙ ap slots_of same;
      records_are = ap records_of same;
      few_slots = slots.few;
      few_records = omega arith;
      wide = made.0 ∙ c.word_count.ensures;
      no_slots = made.1;
      planned = ∣ subst IsPlanned same planned ∣₁;
    }
