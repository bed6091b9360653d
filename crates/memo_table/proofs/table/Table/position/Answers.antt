use Rattle.std.proofs.Common.{◌≤◌, ℕ, ap, subst, sym, ◌∙◌}
use Rattle.memo_words.specs.Passes.{plan_of}
use Rattle.memo_words.specs.declared.words.Words.{Words}
use Rattle.memo_table.proofs.Places.{bits_fit}
use Rattle.memo_table.proofs.table.Table.position.Goals as goal

pub nth_position-requires : goal.nth_position-requires
nth_position-requires c =
    let same = c.bits.ensures ∙ ap (λ (w : Words). (plan_of w).bits) c.self.view_is in
    subst (λ (n : ℕ). (1 ≤ n) × (n ≤ 22)) (sym same) (bits_fit (plan_of c.args.self.now) c.planned.ensures.planned)
