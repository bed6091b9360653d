use Rattle.std.proofs.Common.{ap, arith, refl, rules, subst, sym, ℕ, ◌+◌, ◌<◌, ◌∙◌}
use Rattle.atomic_table.specs.Table.{Me}
use Rattle.memo_words.specs.declared.view.View.{View}
use Rattle.memo_words.specs.Layout.{arena_place, records_of}
use Rattle.memo_words.specs.Passes.{plan_of}
use Rattle.memo_words.specs.Views.{IsSound}
use Rattle.memo_words.proofs.Frame.{arena_ahead}
use Rattle.memo_words.proofs.Plays.{loads_arena_at}
use Rattle.memo_words.specs.declared.word_step.Place.TheVariants as places
use Rattle.memo_words.specs.declared.word_step.Action.TheVariants as actions
use Rattle.memo_words.specs.Made.{step_on}
use Rattle.memo_words.proofs.Made.{is_last}
use Rattle.memo_words.proofs.Wins.{nothing_won}
use Rattle.memo_words.proofs.words.Words.arena_load_step.Goals as goal

pub load-found-requires : goal.load-found-requires
load-found-requires g c = let named = c.requires.named in let few = c.args.pass.now.sound.5 _ named.0 c.requires.own.plan in
    let is = named.1 in let low : c.args.number < records_of (plan_of c.args.self.now) = omega arith in
    let r = c.args.self.now.records_are in let ahead
    = arena_ahead c.args.self.now.slots c.args.self.now.records c.args.part c.args.number (omega arith) in
    let wide = c.args.self.now.wide in let is = c.arena_place.ensures in record {
      table = search rules;
      inside = omega arith;
      live = (let p = c.args.pass.now.parts in let s = c.args.pass.now.sound.1 in omega arith);
      allows = loads_arena_at _ _ _ c.args.number _ c.args.part _ (c.arena_place.ensures
          ∙ (λ i. arena_place (c.args.self.now.slots_are i)
          (c.args.self.now.records_are i) c.args.part c.args.number)) c.args.pass.now.sound.1 low;
    }

pub invariant_of-pass : goal.invariant_of-pass
invariant_of-pass g c = let named = c.requires.named in
    let few = c.args.pass.now.sound.5 _ named.0 c.requires.own.plan in let is = named.1 in
    let low : c.args.number < records_of (plan_of c.args.self.now) = omega arith in
    let told = c.load-found.ensures.then _ c.args.part c.args.number c.requires.own.plan low (c.arena_place.ensures
    ∙ (λ i. arena_place (c.args.self.now.slots_are i) (c.args.self.now.records_are i) c.args.part c.args.number)) in
    record {
      sound = subst (IsSound c.args.pass.now.hand) (sym told.0) c.args.pass.now.sound;
      parts = c.load-found.ensures.marked.3 ∙ (c.args.pass.now.parts ∙ sym (ap (λ (m : Me ℕ View). m.0.weight + m.0.spare) (told.0)));
      last = is_last (plan_of c.args.self.now) (step_on (places.Record c.args.part c.args.number) actions.Load c.load-found.result) _ _ told.0 c.requires.own.plan refl;
    }

pub returns-clause-own : goal.returns-clause-own
returns-clause-own g c = let named = c.requires.named in
    let few = c.args.pass.now.sound.5 _ named.0 c.requires.own.plan in let is = named.1 in
    let low : c.args.number < records_of (plan_of c.args.self.now) = omega arith in
    let told = c.load-found.ensures.then _ c.args.part c.args.number c.requires.own.plan low (c.arena_place.ensures
    ∙ (λ i. arena_place (c.args.self.now.slots_are i) (c.args.self.now.records_are i) c.args.part c.args.number)) in
    record {
      same = c.load-found.ensures.table.0 ∙ c.requires.own.same;
      plan = ap (λ (m : Me ℕ View). m.0.plan) told.0
          ∙ c.requires.own.plan;
    }

pub returns-clause-view : goal.returns-clause-view
returns-clause-view g c = let named = c.requires.named in
    let few = c.args.pass.now.sound.5 _ named.0 c.requires.own.plan in let is = named.1 in
    let low : c.args.number < records_of (plan_of c.args.self.now) = omega arith in
    ap (λ (m : Me ℕ View). m.0) (c.load-found.ensures.then _ c.args.part c.args.number c.requires.own.plan low
    (c.arena_place.ensures ∙ (λ i. arena_place (c.args.self.now.slots_are i)
    (c.args.self.now.records_are i) c.args.part c.args.number))).0

pub returns-clause-answer : goal.returns-clause-answer
returns-clause-answer g c = let named = c.requires.named in
    let few = c.args.pass.now.sound.5 _ named.0 c.requires.own.plan in let is = named.1 in
    let low : c.args.number < records_of (plan_of c.args.self.now) = omega arith in
    (c.load-found.ensures.then _ c.args.part c.args.number c.requires.own.plan low (c.arena_place.ensures
    ∙ (λ i. arena_place (c.args.self.now.slots_are i) (c.args.self.now.records_are i) c.args.part c.args.number))).1

pub returns-clause-told : goal.returns-clause-told
returns-clause-told g c = record {
  plan = plan_of c.args.self.now;
  plan_is = (returns-clause-own g c).plan;
  step = record { place = places.Record c.args.part c.args.number; action = actions.Load; value = c.load-found.result };
  made = refl;
  found = c.load-found.result;
  found_is = refl;
  stepped = search rules;
  won = ap (λ (v : View). v.wins) (returns-clause-view g c) ∙ nothing_won _;
}
