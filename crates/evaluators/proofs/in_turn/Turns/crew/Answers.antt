use Rattle.std.proofs.Common.{◌≡◌, ◌+◌, ◌-◌, ◌∷◌, [], map, refl, ap, ◌∙◌, subst, arith}
use Rattle.std.specs.Arc.{arc_value}
use Rattle.memo_words.specs.declared.view.View.{View}
use Rattle.memo_words.specs.Passes.{view_of}
use Rattle.evaluators.specs.Posts.{post, posts_of}
use Rattle.evaluators.specs.Working.{TableWorker, IsDone, post_of}
use Rattle.evaluators.specs.declared.gated.GatedWorker.{GatedWorker}
use Rattle.evaluators.proofs.Teams.{posts_pushed, all_pushed}
use Rattle.evaluators.proofs.in_turn.Turns.crew.Goals as goal

pub loop-number-preserved : goal.loop-number-preserved
loop-number-preserved g c =
    let inv = c.loop-number.invariant in
    let split = c.split-other.ensures in
    let made = c.in_ok-serve.ensures {u = tt} in
    let p = arc_value c.args.self.now.prepared.now in
    let seed = c.args.self.now.seed in
    let number = c.loop-number.number in
    let left : (view_of c.split-other.new.pass).spare ≡ (view_of c.loop-number.pass).spare - 1 =
    ap (λ (v : View). v.spare) split.old_view in
    let here : post_of made.one.worker ≡ post p seed number =
    made.post ∙ (λ i. record {
      problem = p;
      seed = seed;
      number = number;
      share = (split.new_view i).weight ∷ (split.new_view i).spare ∷ [];
    }) in
    record {
      own = split.old_own;
      weight = ap (λ (v : View). v.weight) split.old_view ∙ inv.weight;
      spare = let few = inv.spare in let more = c.loop-number-test.true in omega (arith, left, few, more);
      wins = ap (λ (v : View). v.wins) split.old_view ∙ inv.wins;
      unmarked = split.old_marks ∙ inv.unmarked;
      done = all_pushed (λ (gated : GatedWorker TableWorker _). IsDone c.args.self.now.table.now gated.worker)
          c.loop-number.crew.items c.serve.new.crew.items _ made.grown inv.done made.done;
      posts = posts_pushed (λ (gated : GatedWorker TableWorker _). post_of gated.worker) p seed number
          c.loop-number.crew.items c.serve.new.crew.items _ made.grown inv.posts here (number + 1) refl;
    }

pub returns-clause-done : goal.returns-clause-done
returns-clause-done g c =
    let made = c.in_ok-serve-2.ensures {u = tt} in
    all_pushed (λ (gated : GatedWorker TableWorker _). IsDone c.args.self.now.table.now gated.worker)
    c.loop-number.crew.items c.serve-2.new.crew.items _ made.grown c.loop-number.invariant.done made.done

pub returns-clause-posts : goal.returns-clause-posts
returns-clause-posts g c =
    let inv = c.loop-number.invariant in
    let made = c.in_ok-serve-2.ensures {u = tt} in
    let p = arc_value c.args.self.now.prepared.now in
    let seed = c.args.self.now.seed in
    let few = inv.spare in
    let over = c.loop-number-test.false in
    let end = c.loop-number.auto.number-end in
    let last : c.loop-number.number ≡ c.args.count - 1 = omega (arith, over, end, few, c.requires.some) in
    let none : (view_of c.loop-number.pass).spare ≡ 0 = omega (arith, few, last, c.requires.some) in
    let here : post_of made.one.worker ≡ post p seed (c.args.count - 1) =
    made.post ∙ (λ i. record {
      problem = p;
      seed = seed;
      number = c.args.count - 1;
      share = inv.weight i ∷ none i ∷ [];
    }) in
    posts_pushed (λ (gated : GatedWorker TableWorker _). post_of gated.worker) p seed (c.args.count - 1)
    c.loop-number.crew.items c.serve-2.new.crew.items _ made.grown
    (subst
    (λ k. map (λ (gated : GatedWorker TableWorker _). post_of gated.worker) c.loop-number.crew.items ≡ posts_of p seed k)
    last inv.posts)
    here c.args.count (omega (arith, c.requires.some))
