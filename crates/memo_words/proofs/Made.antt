-- A pass's last step is the one that was told.
use Rattle.std.proofs.Common.{◌≡◌, ℕ, Option, Some, sym, subst}
use Rattle.atomic_table.specs.Table.{Me}
use Rattle.memo_words.specs.declared.view.View.{View}
use Rattle.memo_words.specs.declared.word_step.WordStep.{WordStep}
use Rattle.memo_words.specs.Layout.{Plan}
use Rattle.memo_words.specs.Made.{last_of, IsLast}
use Rattle.memo_words.proofs.Moves.{for_plan}

-- where the view after a step is this one
pub is_last : (plan : Plan) (made : Option WordStep) (me after : Me ℕ View) → me ≡ after → after.0.plan ≡ Some plan
    → after.0.last ≡ last_of plan made → IsLast made me.0
is_last plan made me after told mine last =
    subst (λ (m : Me ℕ View). IsLast made m.0) (sym told)
    (for_plan plan after.0 mine (λ p. after.0.last ≡ last_of p made) last)
