use Rattle.std.proofs.Common.{◌≡◌, ℕ, ◌+◌, ◌-◌, ◌<◌, ◌≤◌, length, get_or, ap, sym, subst, ◌∙◌, arith, length-set}
use Rattle.std.specs.Option.{is_some}
use Rattle.std.proofs.lemmas.List.{get_or_read}
use Rattle.split_lines.proofs.ClassFacts.{IsLastOf, is_in, not_in, last_kept, last_anew}
use Rattle.split_lines.proofs.Growing.{holds_before}
use Rattle.split_lines.proofs.classes.ahead.Goals as goal
use Rattle.split_lines.proofs.classes.ahead.Goals.{in-Some, in-None}

pub loop-position-preserved : goal.loop-position-preserved
loop-position-preserved c =
    let class = c.args.class.class.now in
    let word = c.args.word.now in
    let position = c.loop-position.position - 1 in
    let ahead = c.loop-position.ahead.items in
    let within : position < length word = omega arith in
    let L : ℕ → ℕ → Type 0 = IsLastOf class word in
    let behind : (from : ℕ) → position + 1 ≤ from → from ≤ length word → L from (get_or ahead from 0) = λ from l h. c.loop-position.invariant.told from (omega (arith, l)) h in
    let now : L position c.match-weight_of.last =
    elim c.match-weight_of.branch [
      | in-Some w ↦
          let read = get_or_read ahead (position + 1) w.index.result.now (omega (arith, c.loop-position.invariant.each)) w.index.ensures 0 in
          let last : c.match-weight_of.last ≡ get_or ahead (position + 1) 0 = w.last-is ∙ read in
          subst (L position) (sym last) (last_kept class word position (get_or ahead (position + 1) 0) within (behind (position + 1) (omega arith) (omega arith)) (is_in class (get_or word position 0) c.weight_of.result c.weight_of.ensures (ap is_some w.in-Some.is)))
      | in-None w ↦ subst (L position) (sym w.last-is) (last_anew class word position within (not_in class (get_or word position 0) c.weight_of.result c.weight_of.ensures (ap is_some w.in-None.is)))
    ] in
    record {
      each = length-set ahead position c.match-weight_of.last ∙ c.loop-position.invariant.each;
      told = holds_before L ahead position c.match-weight_of.last (length word) (omega (arith, c.loop-position.invariant.each)) behind now;
    }
