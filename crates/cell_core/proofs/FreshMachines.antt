-- What holds of a fresh machine.
use Rattle.std.proofs.Common.{◌≡◌, ℕ, ◌-◌, ◌≤◌, Bool, true, false, Option, None, List, [], length, refl, sym, subst, ap, arith}
use Rattle.std.proofs.lemmas.Option.{none-some}
use Rattle.adp_model.specs.declared.cell.Cell.{Cell}
use Rattle.adp_model.specs.PosedProblem.{PosedProblem, axiom_cell}
use Rattle.adp_model.specs.Cells.{IsCounted}
use Rattle.adp_model.specs.Sizes.{IsWithinSizes}
use Rattle.adp_model.specs.Demand.{IsDemanded}
use Rattle.adp_model.specs.SplitArguments.{SplitArgument}
use Rattle.memo_model.specs.Memos.{Meaning}
use Rattle.memo_model.specs.Machines.{IsGoing, IsUnderWay, IsMachine}
use Rattle.memo_model.specs.StepBound.{step_bound, steps_left, remaining_bound}
use Rattle.cell_tables.specs.Noted.{Notes}
use Rattle.cell_core.specs.declared.work.Work.{Work}
use Rattle.cell_core.specs.Working.{frames_of, IsFreshWork}
use Rattle.cell_core.specs.MachineViews.{state_of, IsNotedIn}
use Rattle.cell_core.proofs.StepsFall.{fresh_within}

-- where the axiom's cell is demanded, the word's length lies between the axiom's sizes
pub axiom_within : (p : PosedProblem)
    → ((cell : Cell) → IsDemanded p cell → IsCounted p.grammar (length p.word) cell) → IsDemanded p (axiom_cell p)
    → IsWithinSizes p.grammar p.grammar.axiom (length p.word)
axiom_within p counted demanded =
    let same : length p.word - 0 ≡ length p.word = omega arith in
    subst (IsWithinSizes p.grammar p.grammar.axiom) same (counted (axiom_cell p) demanded).size

module _ {Pass Probe : Type 0} (memo : Meaning Pass Probe) (p : PosedProblem) (notes : Option Notes) (work : Work Probe) (fresh : IsFreshWork p work) where
  no_frames : frames_of work.top work.below.items ≡ []
  no_frames = ap (λ t. frames_of t work.below.items) fresh.top

  pub fresh_machine : ((cell : Cell) → IsNotedIn notes cell → ⊥) → (pass : Pass) → IsMachine memo IsNotedIn (state_of p notes work) pass
  fresh_machine nothing pass = record {
    going = λ e.
        subst (λ hand. IsGoing memo p (IsNotedIn notes) hand (frames_of work.top work.below.items) work.ready pass) (sym fresh.hand)
        (subst (λ xs. IsGoing memo p (IsNotedIn notes) None xs work.ready pass) (sym no_frames)
        (subst (λ ready. IsGoing memo p (IsNotedIn notes) None [] ready pass) (sym fresh.ready)
        (record {
          demanded = fresh.going e;
          visits = λ child f. absurd (none-some child f);
          in_hand = λ it f. absurd (none-some it f);
          probes = tt;
          ready_is = tt;
        })));
    at_end = λ e. record {
      no_hand = fresh.hand;
      no_frame = no_frames;
      known = λ demanded. absurd (fresh.at_end e demanded);
      none = λ absent. fresh.score;
    };
    under_way =
        subst (λ hand. IsUnderWay hand work.ready (frames_of work.top work.below.items)) (sym fresh.hand)
        (subst (λ ready. IsUnderWay None ready (frames_of work.top work.below.items)) (sym fresh.ready) no_frames);
    noted = λ cell noted. absurd (nothing cell noted);
    few_opened = λ cells all. let o = fresh.opened in omega arith;
    few_wins = λ cells all. let w = fresh.wins in omega arith;
  }

  pub fresh_bound : (pass : Pass) (m : ℕ) (arguments : List SplitArgument)
      → remaining_bound memo m arguments (state_of p notes work) pass ≤ step_bound m (length arguments)
  fresh_bound pass m arguments = go work.ended refl
    where
      go : (ended : Bool) → work.ended ≡ ended → steps_left memo p m arguments work.ended work.hand (frames_of work.top work.below.items) pass ≤ step_bound m (length arguments)
      go true e =
          let f : steps_left memo p m arguments work.ended work.hand (frames_of work.top work.below.items) pass
          ≡ steps_left memo p m arguments true work.hand (frames_of work.top work.below.items) pass =
          λ i. steps_left memo p m arguments (e i) work.hand (frames_of work.top work.below.items) pass in
          omega arith
      go false e =
          let f : steps_left memo p m arguments work.ended work.hand (frames_of work.top work.below.items) pass ≡ steps_left memo p m arguments false None [] pass =
          λ i. steps_left memo p m arguments (e i) (fresh.hand i) (no_frames i) pass in
          let l = fresh_within memo p m arguments pass in
          omega arith
