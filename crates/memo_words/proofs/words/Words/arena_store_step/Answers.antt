use Rattle.std.proofs.Common.{ap, arith, refl, rules, subst, sym, ℕ, ◌+◌, ◌∙◌}
use Rattle.atomic_table.specs.Table.{Me}
use Rattle.memo_words.specs.declared.view.View.{View}
use Rattle.memo_words.specs.Layout.{arena_place}
use Rattle.history_table.specs.History.{bare_me}
use Rattle.memo_words.specs.Passes.{plan_of}
use Rattle.memo_words.specs.Views.{IsSound}
use Rattle.memo_words.proofs.Frame.{arena_ahead}
use Rattle.memo_words.proofs.Plays.{stores_arena_at}
use Rattle.memo_words.proofs.Soundness.{sound_stored}
use Rattle.memo_words.specs.declared.word_step.Place.TheVariants as places
use Rattle.memo_words.specs.declared.word_step.Action.TheVariants as actions
use Rattle.memo_words.specs.Made.{step_on}
use Rattle.memo_words.proofs.Made.{is_last}
use Rattle.memo_words.proofs.Wins.{nothing_won}
use Rattle.memo_words.proofs.words.Words.arena_store_step.Goals as goal

pub store-requires : goal.store-requires
store-requires g c = let low = c.args.pass.now.sound.4 _ c.args.number c.requires.own.plan c.requires.owner in
    let r = c.args.self.now.records_are in let ahead
    = arena_ahead c.args.self.now.slots c.args.self.now.records c.args.part c.args.number (omega arith) in
    let wide = c.args.self.now.wide in let is = c.arena_place.ensures in record {
      table = search rules;
      inside = omega arith;
      live = (let p = c.args.pass.now.parts in let s = c.args.pass.now.sound.1 in omega arith);
      allows = stores_arena_at _ _ _ c.args.number c.args.code _ c.args.part _ (c.arena_place.ensures
          ∙ (λ i. arena_place (c.args.self.now.slots_are i)
          (c.args.self.now.records_are i) c.args.part c.args.number)) c.args.pass.now.sound.1 c.requires.owner low;
    }

pub invariant_of-pass : goal.invariant_of-pass
invariant_of-pass g c = let low = c.args.pass.now.sound.4 _ c.args.number c.requires.own.plan c.requires.owner in
    let told = c.store.ensures.then _ c.args.part c.args.number c.requires.own.plan low (c.arena_place.ensures
    ∙ (λ i. arena_place (c.args.self.now.slots_are i) (c.args.self.now.records_are i) c.args.part c.args.number)) in
    record {
      sound = subst (IsSound c.args.pass.now.hand) (sym told) (sound_stored
          (plan_of c.args.self.now) c.args.pass.now.hand (bare_me c.args.pass.now.seat.me) c.args.part c.args.number c.args.code
          c.args.pass.now.sound);
      parts = c.store.ensures.marked.1.3 ∙ (c.args.pass.now.parts ∙ sym (ap (λ (m : Me ℕ View). m.0.weight + m.0.spare) (told)));
      last = is_last (plan_of c.args.self.now) (step_on (places.Record c.args.part c.args.number) actions.Store c.args.code) _ _ told c.requires.own.plan refl;
    }

pub returns-clause-own : goal.returns-clause-own
returns-clause-own g c = let low = c.args.pass.now.sound.4 _ c.args.number c.requires.own.plan c.requires.owner in
    let told = c.store.ensures.then _ c.args.part c.args.number c.requires.own.plan low (c.arena_place.ensures
    ∙ (λ i. arena_place (c.args.self.now.slots_are i) (c.args.self.now.records_are i) c.args.part c.args.number)) in
    record {
      same = c.store.ensures.table.0 ∙ c.requires.own.same;
      plan = ap (λ (m : Me ℕ View). m.0.plan) told
          ∙ c.requires.own.plan;
    }

pub returns-clause-view : goal.returns-clause-view
returns-clause-view g c = let low = c.args.pass.now.sound.4 _ c.args.number c.requires.own.plan c.requires.owner in
    ap (λ (m : Me ℕ View). m.0) (c.store.ensures.then _ c.args.part c.args.number c.requires.own.plan low
    (c.arena_place.ensures ∙ (λ i. arena_place (c.args.self.now.slots_are i)
    (c.args.self.now.records_are i) c.args.part c.args.number)))

pub returns-clause-told : goal.returns-clause-told
returns-clause-told g c = record {
  plan = plan_of c.args.self.now;
  plan_is = (returns-clause-own g c).plan;
  step = record { place = places.Record c.args.part c.args.number; action = actions.Store; value = c.args.code };
  made = refl;
  found = c.store.ensures.marked.0;
  found_is = tt;
  stepped = search rules;
  won = ap (λ (v : View). v.wins) (returns-clause-view g c) ∙ nothing_won _;
}
