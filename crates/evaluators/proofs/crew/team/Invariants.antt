use Rattle.std.proofs.Common.{◌≡◌, ◌+◌, [], All, map}
use Rattle.std.specs.Arc.{arc_value}
use Rattle.memo_words.specs.Passes.{IsPassOf, view_of, marks_of}
use Rattle.evaluators.specs.Posts.{posts_of}
use Rattle.evaluators.specs.Working.{IsReady, post_of}
use Rattle.evaluators.specs.Playing.{HasKeptEntries}
use Rattle.evaluators.proofs.crew.team.Given as goal

abbrev pub invariant-loop-number : goal.invariant-loop-number
invariant-loop-number g l = record {
  own : IsPassOf l.table l.pass;
  weight : (view_of l.pass).weight ≡ 1;
  spare : (view_of l.pass).spare + l.number + 1 ≡ l.count;
  wins : (view_of l.pass).wins ≡ 0;
  unmarked : marks_of l.pass ≡ [];
  ready : All (λ gated. IsReady l.table gated.worker) l.team.items;
  unmoved : All (λ gated. HasKeptEntries 0 gated.worker.machine) l.team.items;
  posts : map (λ gated. post_of gated.worker) l.team.items ≡ posts_of (arc_value l.prepared) l.seed l.number;
}
