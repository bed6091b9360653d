use Rattle.std.proofs.Common.{◌≡◌, ◌+◌, ◌-◌, map, refl, sym, ap, ◌∙◌, subst, arith}
use Rattle.std.specs.Arc.{arc_value}
use Rattle.memo_words.specs.declared.view.View.{View}
use Rattle.memo_words.specs.declared.pass.Pass.{Pass}
use Rattle.memo_words.specs.Passes.{IsPassOf, view_of, marks_of}
use Rattle.evaluators.specs.Posts.{posts_of}
use Rattle.evaluators.specs.Working.{TableWorker, IsReady, first_orders, post_of}
use Rattle.evaluators.specs.Playing.{HasKeptEntries}
use Rattle.evaluators.specs.declared.gated.GatedWorker.{GatedWorker}
use Rattle.evaluators.proofs.Teams.{ready_worker, unmoved_when_fresh, post_is, posts_pushed, all_pushed}
use Rattle.evaluators.proofs.crew.team.Goals as goal

pub loop-number-preserved : goal.loop-number-preserved
loop-number-preserved g c =
    let inv = c.loop-number.invariant in
    let split = c.split-other.ensures in
    let made = c.in_ok-hire.ensures {u = tt} in
    let it = made.one.worker in
    let p = arc_value c.args.prepared.now in
    let number = c.loop-number.number in
    let words = c.args.table.now in
    let left : (view_of c.split-other.new.pass).spare ≡ (view_of c.loop-number.pass).spare - 1 =
    ap (λ (v : View). v.spare) split.old_view in
    let weight : (view_of it.pass).weight ≡ 1 =
    ap (λ (pass : Pass). (view_of pass).weight) made.pass ∙ ap (λ (v : View). v.weight) split.new_view in
    let spare : (view_of it.pass).spare ≡ 0 =
    ap (λ (pass : Pass). (view_of pass).spare) made.pass ∙ ap (λ (v : View). v.spare) split.new_view in
    let wins : (view_of it.pass).wins ≡ 0 =
    ap (λ (pass : Pass). (view_of pass).wins) made.pass ∙ ap (λ (v : View). v.wins) split.new_view in
    let own = subst (λ (pass : Pass). IsPassOf words pass) (sym made.pass) split.new_own in
    let ready = ready_worker words it p c.args.seed number c.requires.same c.requires.admissible own made.fresh
    (made.machine it.pass) (made.bound it.pass) made.seed_is made.number_is wins
    (ap (λ (pass : Pass). marks_of pass) made.pass ∙ split.new_marks) in
    let here = post_is it p c.args.seed number (first_orders c.args.seed number) made.fresh made.seed_is made.number_is
    weight spare in
    record {
      own = split.old_own;
      weight = ap (λ (v : View). v.weight) split.old_view ∙ inv.weight;
      spare = let few = inv.spare in let more = c.loop-number-test.true in omega (arith, left, few, more);
      wins = ap (λ (v : View). v.wins) split.old_view ∙ inv.wins;
      unmarked = split.old_marks ∙ inv.unmarked;
      ready = all_pushed (λ (gated : GatedWorker TableWorker _). IsReady words gated.worker) c.loop-number.team.items
          c.hire.new.team.items _ made.grown inv.ready ready;
      unmoved = all_pushed (λ (gated : GatedWorker TableWorker _). HasKeptEntries 0 gated.worker.machine)
          c.loop-number.team.items c.hire.new.team.items _ made.grown inv.unmoved
          (unmoved_when_fresh p (first_orders c.args.seed number) it.machine made.fresh);
      posts = posts_pushed (λ (gated : GatedWorker TableWorker _). post_of gated.worker) p c.args.seed number
          c.loop-number.team.items c.hire.new.team.items _ made.grown inv.posts here (number + 1) refl;
    }

pub returns-clause-ready : goal.returns-clause-ready
returns-clause-ready g c =
    let inv = c.loop-number.invariant in
    let made = c.in_ok-hire-2.ensures {u = tt} in
    let it = made.one.worker in
    let words = c.args.table.now in
    let wins : (view_of it.pass).wins ≡ 0 = ap (λ (pass : Pass). (view_of pass).wins) made.pass ∙ inv.wins in
    let own = subst (λ (pass : Pass). IsPassOf words pass) (sym made.pass) inv.own in
    let ready = ready_worker words it (arc_value c.args.prepared.now) c.args.seed (c.args.count - 1) c.requires.same
    c.requires.admissible own made.fresh (made.machine it.pass) (made.bound it.pass) made.seed_is made.number_is wins
    (ap (λ (pass : Pass). marks_of pass) made.pass ∙ inv.unmarked) in
    all_pushed (λ (gated : GatedWorker TableWorker _). IsReady words gated.worker) c.loop-number.team.items
    c.hire-2.new.team.items _ made.grown inv.ready ready

pub returns-clause-posts : goal.returns-clause-posts
returns-clause-posts g c =
    let inv = c.loop-number.invariant in
    let made = c.in_ok-hire-2.ensures {u = tt} in
    let it = made.one.worker in
    let p = arc_value c.args.prepared.now in
    let seed = c.args.seed in
    let few = inv.spare in
    let over = c.loop-number-test.false in
    let end = c.loop-number.auto.number-end in
    let last : c.loop-number.number ≡ c.args.count - 1 = omega (arith, over, end, few, c.requires.some) in
    let weight : (view_of it.pass).weight ≡ 1 = ap (λ (pass : Pass). (view_of pass).weight) made.pass ∙ inv.weight in
    let none : (view_of c.loop-number.pass).spare ≡ 0 = omega (arith, few, last, c.requires.some) in
    let spare : (view_of it.pass).spare ≡ 0 = ap (λ (pass : Pass). (view_of pass).spare) made.pass ∙ none in
    let here = post_is it p seed (c.args.count - 1) (first_orders seed (c.args.count - 1)) made.fresh made.seed_is
    made.number_is weight spare in
    posts_pushed (λ (gated : GatedWorker TableWorker _). post_of gated.worker) p seed (c.args.count - 1)
    c.loop-number.team.items
    c.hire-2.new.team.items _ made.grown
    (subst
    (λ k. map (λ (gated : GatedWorker TableWorker _). post_of gated.worker) c.loop-number.team.items
    ≡ posts_of p seed k)
    last inv.posts)
    here c.args.count (omega (arith, c.requires.some))

pub returns-clause-unmoved : goal.returns-clause-unmoved
returns-clause-unmoved g c =
    let made = c.in_ok-hire-2.ensures {u = tt} in
    let it = made.one.worker in
    all_pushed (λ (gated : GatedWorker TableWorker _). HasKeptEntries 0 gated.worker.machine) c.loop-number.team.items
    c.hire-2.new.team.items _ made.grown c.loop-number.invariant.unmoved
    (unmoved_when_fresh (arc_value c.args.prepared.now) (first_orders c.args.seed (c.args.count - 1)) it.machine
    made.fresh)
