-- Machines and passes that go on by steps.
use Rattle.std.proofs.Common.{◌≡◌, ℕ, zero, suc, ◌+◌, ◌-◌, ◌^◌, ◌<◌, ◌≤◌, min, List, length, refl, sym, ap, ◌∙◌, subst, arith}
use Rattle.adp_model.specs.ProblemFields.{IsAdmissible}
use Rattle.memo_model.specs.Memos.{Meaning}
use Rattle.memo_model.specs.Machines.{IsMachine}
use Rattle.adp_model.specs.PosedProblem.{PosedProblem}
use Rattle.adp_model.specs.Demand.{IsDemandedCount}
use Rattle.adp_model.specs.SplitArguments.{SplitArgument, AreRuleArguments}
use Rattle.memo_model.specs.StepBound.{step_bound, remaining_bound}
use Rattle.memo_words.specs.declared.pass.Pass.{Pass as TablePass}
use Rattle.memo_words.specs.declared.words.Words.{Words}
use Rattle.memo_words.specs.Passes.{IsPassOf, marks_of}
use Rattle.memo_table.specs.declared.probe.Probe.{Probe as TableProbe}
use Rattle.memo_table.specs.Meanings.{table_meaning, StepsOn}
use Rattle.cell_core.specs.FrameChanges.{standing, ChangesFrames, GainsWins}
use Rattle.cell_core.specs.MachineViews.{MachineView, IsNotedIn}
use Rattle.evaluators.specs.Driving.{AreStepsApart, CanGoOn, HasGoneOn}
use Rattle.evaluators.specs.Working.{TableWorker, IsAtWork, IsReady, first_orders, post_of}
use Rattle.evaluators.proofs.Pacing.{TurnsAdvance, DrawsAdd, pace_kept}
use Rattle.evaluators.proofs.Steps.{grown}

-- so many steps, and then so many more
further : {Pass : Type 0} (goes_on : Pass → Pass → Type 0) (m n : ℕ) (first between last : Pass)
    → AreStepsApart goes_on m first between → AreStepsApart goes_on n between last
    → (k : ℕ) × (k ≡ m + n) × AreStepsApart goes_on k first last
further goes_on m zero first between last so_far same =
    (m, omega arith, subst (AreStepsApart goes_on m first) (sym same) so_far)
further goes_on m (suc n) first between last so_far (one, next, on) =
    let r = further goes_on m n first between one so_far next in
    let sum = r.1 in
    (suc r.0, omega (arith, sum), (one, r.2, on))

-- a count that stands still at the greatest number
counted_once : (made moves moves' : ℕ) → moves ≡ min made (2 ^ 64 - 1) → moves' ≡ min (moves + 1) (2 ^ 64 - 1)
    → moves' ≡ min (made + 1) (2 ^ 64 - 1)
counted_once made moves moves' was now = omega (arith, was, now)

module _ {Pass Probe : Type 0} (memo : Meaning Pass Probe) (IsOwn : Pass → Type 0)
    (goes_on : Pass → Pass → Type 0) where
  pub at_first : (machine : MachineView Probe) (pass : Pass) → CanGoOn memo IsOwn machine pass
      → HasGoneOn memo IsOwn goes_on machine machine pass pass
  at_first machine pass ready = record {
    own = ready.own;
    share = refl;
    problem = refl;
    sound = ready.sound;
    pace = λ first h. h;
    wins = λ h. h;
    steps = 0;
    apart = refl;
    moves = λ made h. h ∙ ap (λ n. min n (2 ^ 64 - 1)) (let same : made ≡ made + 0 = omega arith in same);
  }

  pub after_step : TurnsAdvance → DrawsAdd → (before after : MachineView Probe) (pass pass' : Pass) → IsOwn pass'
      → memo.share pass' ≡ memo.share pass → after.machine.problem ≡ before.machine.problem
      → IsMachine memo IsNotedIn after.machine pass'
      → GainsWins memo pass pass' before.machine.wins after.machine.wins
      → ChangesFrames memo before.machine.problem pass pass'
      (standing before.machine.frames before.machine.opened before.orders)
      (standing after.machine.frames after.machine.opened after.orders)
      → goes_on pass pass' → after.machine.moves ≡ min (before.machine.moves + 1) (2 ^ 64 - 1)
      → HasGoneOn memo IsOwn goes_on before after pass pass'
  after_step turns sum before after pass pass' own share problem machine gains frames on moved = record {
    own = own;
    share = share;
    problem = problem;
    sound = machine;
    pace = λ first h.
        pace_kept memo turns sum before.machine.problem pass pass'
        (standing before.machine.frames before.machine.opened before.orders)
        (standing after.machine.frames after.machine.opened after.orders) frames first h;
    wins = λ h. omega (arith, h, gains.2, gains.3);
    steps = 1;
    apart = (pass, refl, on);
    moves = λ made h. counted_once made before.machine.moves after.machine.moves h moved;
  }

  pub gone_further : (before between after : MachineView Probe) (pass pass' pass'' : Pass)
      → HasGoneOn memo IsOwn goes_on before between pass pass' → HasGoneOn memo IsOwn goes_on between after pass' pass''
      → HasGoneOn memo IsOwn goes_on before after pass pass''
  gone_further before between after pass pass' pass'' so_far next =
      let both = further goes_on so_far.steps next.steps pass pass' pass'' so_far.apart next.apart in
      record {
        own = next.own;
        share = next.share ∙ so_far.share;
        problem = next.problem ∙ so_far.problem;
        sound = next.sound;
        pace = λ first h. next.pace first (so_far.pace first h);
        wins = λ h. next.wins (so_far.wins h);
        steps = both.0;
        apart = both.2;
        moves = λ made h.
            let sum = both.1 in
            next.moves (made + so_far.steps) (so_far.moves made h)
            ∙ ap (λ n. min n (2 ^ 64 - 1)) (let same : made + so_far.steps + next.steps ≡ made + both.0 = omega (arith, sum) in same);
      }

-- ---- workers

pub can_go_on : (words : Words) (worker : TableWorker) → IsReady words worker
    → CanGoOn table_meaning (IsPassOf words) worker.machine worker.pass
can_go_on words worker ready = record {
  admissible = subst IsAdmissible (sym ready.at_work.is_of.problem) ready.at_work.admissible;
  own = ready.at_work.own;
  sound = ready.at_work.machine;
  bound = ready.bound;
}

-- a worker whose machine and pass went on
module _ (words : Words) (worker : TableWorker) (machine : MachineView TableProbe) (pass : TablePass)
    (on : HasGoneOn table_meaning (IsPassOf words) StepsOn worker.machine machine worker.pass pass) where
  abbrev pub with_both : TableWorker
  with_both = record { machine = machine; pass = pass; number = worker.number; seed = worker.seed }

  pub still_at_work : IsAtWork words worker → IsAtWork words with_both
  still_at_work was =
      let more = grown words on.steps worker.pass pass was.own on.apart in
      let long = more.long in
      let won = more.won in
      let wins_were = was.wins in
      let won_were = was.steps.wins in
      let wins_are = on.wins was.wins in
      record {
        admissible = was.admissible;
        own = on.own;
        machine = on.sound;
        is_of = record {
          problem = on.problem ∙ was.is_of.problem;
          orders = on.pace (first_orders worker.seed worker.number) was.is_of.orders;
        };
        wins = on.wins was.wins;
        steps = record {
          moves = on.moves (length (marks_of worker.pass)) was.steps.moves ∙ ap (λ n. min n (2 ^ 64 - 1)) (sym long);
          wins = omega (arith, won, wins_were, won_were, wins_are);
        };
      }

  pub same_post : post_of with_both ≡ post_of worker
  same_post = λ i. record {
    problem = on.problem i;
    seed = worker.seed;
    number = worker.number;
    share = on.share i;
  }

  -- a machine that makes steps has no more left
  pub still_ready : IsReady words worker → ((m : ℕ) (arguments : List SplitArgument)
      → IsDemandedCount worker.machine.machine.problem m → AreRuleArguments worker.machine.machine.problem arguments
      → remaining_bound table_meaning m arguments machine.machine pass
      < remaining_bound table_meaning m arguments worker.machine.machine worker.pass) → IsReady words with_both
  still_ready was falls = record {
    at_work = still_at_work was.at_work;
    bound = λ m arguments count all.
        let count_was = subst (λ (p : PosedProblem). IsDemandedCount p m) on.problem count in
        let all_was = subst (λ (p : PosedProblem). AreRuleArguments p arguments) on.problem all in
        let fewer = falls m arguments count_was all_was in
        let most : remaining_bound table_meaning m arguments worker.machine.machine worker.pass
        ≤ step_bound m (length arguments) = was.bound m arguments count_was all_was in
        omega (arith, fewer, most);
  }
