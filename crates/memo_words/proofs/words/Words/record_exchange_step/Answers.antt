use Rattle.std.proofs.Common.{Option, ap, arith, refl, rules, subst, sym, ℕ, ◌+◌, ◌<◌, ◌∙◌}
use Rattle.atomic_table.specs.Table.{Me}
use Rattle.memo_words.specs.declared.view.View.{View}
use Rattle.memo_words.specs.Layout.{record_place, slots_of}
use Rattle.memo_words.specs.Views.{IsSound, owns}
use Rattle.history_table.specs.History.{bare_me}
use Rattle.memo_words.specs.Passes.{view_of, plan_of}
use Rattle.memo_words.proofs.Records.{owns_some}
use Rattle.memo_words.proofs.Plays.{puts_record_at}
use Rattle.memo_words.proofs.Soundness.{sound_named}
use Rattle.memo_words.specs.declared.word_step.Place.TheVariants as places
use Rattle.memo_words.specs.declared.word_step.Action.TheVariants as actions
use Rattle.memo_words.specs.Made.{step_on}
use Rattle.memo_words.proofs.Made.{is_last}
use Rattle.memo_words.proofs.Wins.{record_wins}
use Rattle.memo_words.proofs.words.Words.record_exchange_step.Goals as goal

pub compare_exchange-found-requires : goal.compare_exchange-found-requires
compare_exchange-found-requires g c = record {
  table = search rules;
  inside = search rules;
  live = (let p = c.args.pass.now.parts in let s = c.args.pass.now.sound.1 in omega arith);
  allows = puts_record_at _ _ _ c.args.position _ c.args.number _ c.requires.ready (c.record_place.ensures
      ∙ ap (λ (s : ℕ). record_place s c.args.position) c.args.self.now.slots_are) c.requires.inside
      c.args.pass.now.sound.1;
}

pub invariant_of-pass : goal.invariant_of-pass
invariant_of-pass g c = let told = c.compare_exchange-found.ensures.then _ c.args.position c.args.number
    c.requires.own.plan (c.record_place.ensures
    ∙ ap (λ (s : ℕ). record_place s c.args.position) c.args.self.now.slots_are) refl in
    let ready = c.requires.ready in let mine = owns_some c.args.pass.now.seat.me.0.view.owned ready.owned ready.mine in
    let owner : 0 < owns c.args.number c.args.pass.now.seat.me.0.view.owned = subst
    (λ (n : ℕ). 0 < owns n c.args.pass.now.seat.me.0.view.owned) ready.number_is mine in
    let sound = sound_named (plan_of c.args.self.now) c.args.pass.now.hand (bare_me c.args.pass.now.seat.me) c.args.position
    c.args.number c.compare_exchange-found.result owner c.args.pass.now.sound in
    record {
      sound = subst (λ (h : Option ℕ). IsSound h (bare_me c.compare_exchange-found.new.seat.me))
          (sym c.hand_after-pass.ensures) (subst (IsSound _) (sym told.0) sound);
      parts = c.compare_exchange-found.ensures.marked.3 ∙ (c.args.pass.now.parts ∙ sym (ap (λ (m : Me ℕ View). m.0.weight + m.0.spare) (told.0)));
      last = is_last (plan_of c.args.self.now) (step_on (places.RecordWord c.args.position) (actions.Exchange (c.args.number + 1)) c.compare_exchange-found.result) _ _ told.0 c.requires.own.plan refl;
    }

pub returns-clause-own : goal.returns-clause-own
returns-clause-own g c = let told = c.compare_exchange-found.ensures.then _ c.args.position c.args.number
    c.requires.own.plan (c.record_place.ensures
    ∙ ap (λ (s : ℕ). record_place s c.args.position) c.args.self.now.slots_are) refl in
    record {
      same = c.compare_exchange-found.ensures.table.0
          ∙ c.requires.own.same;
      plan = ap (λ (m : Me ℕ View). m.0.plan) told.0 ∙ c.requires.own.plan;
    }

pub returns-clause-view : goal.returns-clause-view
returns-clause-view g c = ap (λ (m : Me ℕ View). m.0)
    (c.compare_exchange-found.ensures.then _ c.args.position c.args.number c.requires.own.plan (c.record_place.ensures
    ∙ ap (λ (s : ℕ). record_place s c.args.position) c.args.self.now.slots_are) refl).0

pub returns-clause-known : goal.returns-clause-known
returns-clause-known g c = (c.compare_exchange-found.ensures.then _ c.args.position c.args.number c.requires.own.plan
    (c.record_place.ensures ∙ ap (λ (s : ℕ). record_place s c.args.position) c.args.self.now.slots_are) refl).1

pub returns-clause-given_up : goal.returns-clause-given_up
returns-clause-given_up g c = (c.compare_exchange-found.ensures.then _ c.args.position c.args.number c.requires.own.plan
    (c.record_place.ensures ∙ ap (λ (s : ℕ). record_place s c.args.position) c.args.self.now.slots_are) refl).2

pub returns-clause-told : goal.returns-clause-told
returns-clause-told g c = record {
  plan = plan_of c.args.self.now;
  plan_is = (returns-clause-own g c).plan;
  step = record { place = places.RecordWord c.args.position; action = actions.Exchange (c.args.number + 1); value = c.compare_exchange-found.result };
  made = refl;
  found = c.compare_exchange-found.result;
  found_is = refl;
  stepped = search rules;
  won = ap (λ (v : View). v.wins) (returns-clause-view g c)
      ∙ record_wins (slots_of (plan_of c.args.self.now)) c.args.position 0 (c.args.number + 1)
      c.compare_exchange-found.result (view_of c.args.pass.now).wins c.requires.inside;
}
