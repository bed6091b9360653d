use Rattle.std.proofs.Common.{ap, arith, refl, rules, subst, sym, ℕ, ◌+◌, ◌∙◌}
use Rattle.atomic_table.specs.Table.{Me}
use Rattle.memo_words.specs.declared.view.View.{View}
use Rattle.memo_words.specs.Layout.{record_place}
use Rattle.memo_words.specs.Views.{IsSound}
use Rattle.memo_words.proofs.Plays.{loads_record_at}
use Rattle.memo_words.proofs.Soundness.{sound_loaded}
use Rattle.history_table.specs.History.{bare_me}
use Rattle.memo_words.specs.Passes.{plan_of}
use Rattle.memo_words.specs.declared.word_step.Place.TheVariants as places
use Rattle.memo_words.specs.declared.word_step.Action.TheVariants as actions
use Rattle.memo_words.specs.Made.{step_on}
use Rattle.memo_words.proofs.Made.{is_last}
use Rattle.memo_words.proofs.Wins.{nothing_won}
use Rattle.memo_words.proofs.words.Words.record_load_step.Goals as goal

pub load-name-requires : goal.load-name-requires
load-name-requires g c = record {
  table = search rules;
  inside = search rules;
  live = (let p = c.args.pass.now.parts in let s = c.args.pass.now.sound.1 in omega arith);
  allows = loads_record_at _ _ _ c.args.position _ _ (c.record_place.ensures
      ∙ ap (λ (s : ℕ). record_place s c.args.position) c.args.self.now.slots_are) c.requires.inside
      c.args.pass.now.sound.1 c.requires.seen;
}

pub invariant_of-pass : goal.invariant_of-pass
invariant_of-pass g c = let told = c.load-name.ensures.then _ _ c.requires.own.plan (c.record_place.ensures
    ∙ ap (λ (s : ℕ). record_place s c.args.position) c.args.self.now.slots_are) in
    record {
      sound = subst (IsSound c.args.pass.now.hand) (sym told.0)
          (sound_loaded _ c.args.pass.now.hand (bare_me c.args.pass.now.seat.me) c.args.position c.load-name.result c.requires.own.plan
          told.2 c.args.pass.now.sound);
      parts = c.load-name.ensures.marked.3 ∙ (c.args.pass.now.parts ∙ sym (ap (λ (m : Me ℕ View). m.0.weight + m.0.spare) (told.0)));
      last = is_last (plan_of c.args.self.now) (step_on (places.RecordWord c.args.position) actions.Load c.load-name.result) _ _ told.0 c.requires.own.plan refl;
    }

pub returns-clause-own : goal.returns-clause-own
returns-clause-own g c = let told = c.load-name.ensures.then _ _ c.requires.own.plan (c.record_place.ensures
    ∙ ap (λ (s : ℕ). record_place s c.args.position) c.args.self.now.slots_are) in
    record {
      same = c.load-name.ensures.table.0 ∙ c.requires.own.same;
      plan = ap (λ (m : Me ℕ View). m.0.plan) told.0
          ∙ c.requires.own.plan;
    }

pub returns-clause-marked : goal.returns-clause-marked
returns-clause-marked g c = search rules

pub returns-clause-view : goal.returns-clause-view
returns-clause-view g c = ap (λ (m : Me ℕ View). m.0) (c.load-name.ensures.then _ _ c.requires.own.plan
    (c.record_place.ensures ∙ ap (λ (s : ℕ). record_place s c.args.position) c.args.self.now.slots_are)).0

pub returns-clause-known : goal.returns-clause-known
returns-clause-known g c = (c.load-name.ensures.then _ _ c.requires.own.plan (c.record_place.ensures
    ∙ ap (λ (s : ℕ). record_place s c.args.position) c.args.self.now.slots_are)).1

pub returns-clause-few : goal.returns-clause-few
returns-clause-few g c = (c.load-name.ensures.then _ _ c.requires.own.plan (c.record_place.ensures
    ∙ ap (λ (s : ℕ). record_place s c.args.position) c.args.self.now.slots_are)).2

pub returns-clause-stays : goal.returns-clause-stays
returns-clause-stays g c = (c.load-name.ensures.then _ _ c.requires.own.plan (c.record_place.ensures
    ∙ ap (λ (s : ℕ). record_place s c.args.position) c.args.self.now.slots_are)).3

pub returns-clause-told : goal.returns-clause-told
returns-clause-told g c = record {
  plan = plan_of c.args.self.now;
  plan_is = (returns-clause-own g c).plan;
  step = record { place = places.RecordWord c.args.position; action = actions.Load; value = c.load-name.result };
  made = refl;
  found = c.load-name.result;
  found_is = refl;
  stepped = search rules;
  won = ap (λ (v : View). v.wins) (returns-clause-view g c) ∙ nothing_won _;
}
