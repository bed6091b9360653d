use Rattle.std.proofs.Common.{rules, arith, ap, ◌+◌, ℕ, Option, sym, subst, ◌∙◌}
use Rattle.atomic_table.specs.Table.{Me}
use Rattle.history_table.specs.declared.history.WithMarks.{WithMarks}
use Rattle.memo_words.specs.declared.view.View.{View}
use Rattle.memo_words.specs.Views.{IsSound}
use Rattle.history_table.specs.History.{bare_me}
use Rattle.memo_words.specs.Passes.{plan_of}
use Rattle.memo_words.proofs.Made.{is_last}
use Rattle.memo_words.proofs.Moves.{joins}
use Rattle.memo_words.proofs.Soundness.{sound_joined}
use Rattle.memo_words.proofs.words.Words.join.Goals as goal

pub join_seat-requires : goal.join_seat-requires
join_seat-requires c = record {
  table = search rules;
  slots = search rules;
  words = search rules;
  live = (let p = c.args.into.now.parts in let s = c.args.into.now.sound.1 in omega arith);
  rule = joins _ _ _ _ _ c.args.into.now.sound.1;
}

pub invariant_of-into : goal.invariant_of-into
invariant_of-into c =
    let into = c.args.into.now in let other = c.args.other in
    let same = ap bare_me c.join_seat.ensures.2 in
    let sound = sound_joined into.hand other.hand (bare_me into.seat.me) (bare_me other.seat.me) into.sound other.sound
    (c.requires.into.plan ∙ sym c.requires.other.plan) in
    record {
      sound = subst (λ (h : Option ℕ). IsSound h (bare_me c.join_seat.new.seat.me)) (sym c.hand_of_both-into.ensures)
          (subst (IsSound _) (sym same) sound);
      parts = ap (λ (m : Me ℕ (WithMarks View)). m.0.parts) c.join_seat.ensures.2
          ∙ ((let a = into.parts in let b = other.parts in omega arith)
          ∙ sym (ap (λ (m : Me ℕ View). m.0.weight + m.0.spare) same));
      last = is_last (plan_of c.args.self.now) into.made _ _ same c.requires.into.plan
          (into.last _ c.requires.into.plan);
    }
