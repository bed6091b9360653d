use Rattle.std.proofs.Common.{Option, Some, ap, arith, refl, rules, subst, sym, ℕ, ◌+◌, ◌∙◌}
use Rattle.atomic_table.specs.Table.{Me}
use Rattle.memo_words.specs.declared.view.View.{View}
use Rattle.memo_words.specs.Views.{IsSound, hands}
use Rattle.memo_words.proofs.Plays.{adds_counter}
use Rattle.memo_words.proofs.Soundness.{sound_added}
use Rattle.history_table.specs.History.{bare_me}
use Rattle.memo_words.specs.Passes.{plan_of}
use Rattle.memo_words.specs.declared.word_step.Place.TheVariants as places
use Rattle.memo_words.specs.declared.word_step.Action.TheVariants as actions
use Rattle.memo_words.specs.Made.{step_on}
use Rattle.memo_words.proofs.Made.{is_last}
use Rattle.memo_words.proofs.Wins.{nothing_won}
use Rattle.memo_words.proofs.words.Words.counter_add_step.Goals as goal

pub fetch_add-found-requires : goal.fetch_add-found-requires
fetch_add-found-requires g c =
    let few = c.args.pass.now.sound.3 in let empty = ap hands c.requires.empty_handed in record {
      table = search rules;
      inside = search rules;
      live = (let p = c.args.pass.now.parts in let s = c.args.pass.now.sound.1 in omega arith);
      allows = adds_counter _ _ _ _ c.keys_fit.ensures c.args.pass.now.sound.1 (omega arith)
          (let a = c.args.self.now.records_are in let b = c.args.self.now.few_records in omega arith);
    }

pub invariant_of-pass : goal.invariant_of-pass
invariant_of-pass g c = let told = c.fetch_add-found.ensures.then _ c.requires.own.plan in
    record {
      sound = subst (IsSound (Some c.fetch_add-found.result)) (sym told.0)
          (sound_added _ (bare_me c.args.pass.now.seat.me) c.fetch_add-found.result c.requires.own.plan told.1
          (subst (λ (h : Option ℕ). IsSound h (bare_me c.args.pass.now.seat.me)) c.requires.empty_handed c.args.pass.now.sound));
      parts = c.fetch_add-found.ensures.marked.3 ∙ (c.args.pass.now.parts ∙ sym (ap (λ (m : Me ℕ View). m.0.weight + m.0.spare) (told.0)));
      last = is_last (plan_of c.args.self.now) (step_on places.Counter actions.Add c.fetch_add-found.result) _ _ told.0 c.requires.own.plan refl;
    }

pub returns-clause-told : goal.returns-clause-told
returns-clause-told g c = record {
  plan = plan_of c.args.self.now;
  plan_is = ap (λ (m : Me ℕ View). m.0.plan) (c.fetch_add-found.ensures.then _ c.requires.own.plan).0 ∙ c.requires.own.plan;
  step = record { place = places.Counter; action = actions.Add; value = c.fetch_add-found.result };
  made = refl;
  found = c.fetch_add-found.result;
  found_is = refl;
  stepped = search rules;
  won = ap (λ (m : Me ℕ View). m.0.wins) (c.fetch_add-found.ensures.then _ c.requires.own.plan).0 ∙ nothing_won _;
}
