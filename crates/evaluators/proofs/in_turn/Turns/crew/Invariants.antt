use Rattle.std.proofs.Common.{◌≡◌, ◌+◌, [], All, map}
use Rattle.std.specs.Arc.{arc_value}
use Rattle.memo_words.specs.Passes.{IsPassOf, view_of, marks_of}
use Rattle.evaluators.specs.Posts.{posts_of}
use Rattle.evaluators.specs.Working.{IsDone, post_of}
use Rattle.evaluators.proofs.in_turn.Turns.crew.Given as goal

abbrev pub invariant-loop-number : goal.invariant-loop-number
invariant-loop-number g l = record {
  own : IsPassOf l.self.table.now l.pass;
  weight : (view_of l.pass).weight ≡ 1;
  spare : (view_of l.pass).spare + l.number + 1 ≡ l.count;
  wins : (view_of l.pass).wins ≡ 0;
  unmarked : marks_of l.pass ≡ [];
  done : All (λ gated. IsDone l.self.table.now gated.worker) l.crew.items;
  posts : map (λ gated. post_of gated.worker) l.crew.items ≡ posts_of (arc_value l.self.prepared.now) l.self.seed l.number;
}
