use Rattle.std.proofs.Common.{ℕ, ◌+◌, ◌<◌, ◌≤◌, List, length, get_or, sym, subst, arith}
use Rattle.split_lines.proofs.ClassFacts.{IsFirstOf, is_in, not_in, first_kept, first_anew}
use Rattle.split_lines.proofs.Growing.{holds_more}
use Rattle.split_lines.proofs.classes.behind.Goals as goal
use Rattle.split_lines.proofs.classes.behind.Goals.{then-is_none, else-is_none}

pub loop-position-preserved : goal.loop-position-preserved
loop-position-preserved c =
    let class = c.args.class.class.now in
    let word = c.args.word.now in
    let position = c.loop-position.position in
    let behind = c.loop-position.behind.items in
    let within : position < length word = omega arith in
    let F : ℕ → ℕ → Type 0 = IsFirstOf class word in
    let now : F (position + 1) c.if-is_none.first =
    elim c.if-is_none.branch [
      | then-is_none w ↦ subst (F (position + 1)) (sym w.first-is) (first_anew class word position within (not_in class (get_or word position 0) c.weight_of.result c.weight_of.ensures w.if-is_none.ensures))
      | else-is_none w ↦ subst (F (position + 1)) (sym w.first-is) (first_kept class word position c.loop-position.first within c.loop-position.invariant.now (is_in class (get_or word position 0) c.weight_of.result c.weight_of.ensures w.if-is_none.ensures))
    ] in
    let T : List ℕ → Type 0 = λ items. (to : ℕ) → to ≤ position + 1 → F to (get_or items to 0) in
    record {
      each = omega (arith, c.in_ok-push-2.ensures.len, c.loop-position.invariant.each);
      now = now;
      told = subst T (sym {A = List ℕ} c.in_ok-push-2.ensures.items) (holds_more F behind position c.if-is_none.first 0 c.loop-position.invariant.each c.loop-position.invariant.told now);
    }
