use Rattle.std.proofs.Common.{ap, arith, refl, rules, subst, sym, ℕ, ◌+◌, ◌∙◌}
use Rattle.atomic_table.specs.Table.{Me}
use Rattle.memo_words.specs.declared.view.View.{View}
use Rattle.memo_words.specs.Codes.{cell_code}
use Rattle.memo_words.specs.Layout.{slots_of}
use Rattle.memo_words.specs.Views.{IsSound, key_exchanged}
use Rattle.memo_words.proofs.Plays.{puts_key_at}
use Rattle.memo_words.specs.Passes.{view_of, plan_of}
use Rattle.memo_words.specs.declared.word_step.Place.TheVariants as places
use Rattle.memo_words.specs.declared.word_step.Action.TheVariants as actions
use Rattle.memo_words.specs.Made.{step_on}
use Rattle.memo_words.proofs.Made.{is_last}
use Rattle.memo_words.proofs.Wins.{nothing_won, key_wins_nothing}
use Rattle.memo_words.proofs.words.Words.key_exchange_step.Goals as goal

pub compare_exchange-found-requires : goal.compare_exchange-found-requires
compare_exchange-found-requires g c = let asked = c.requires in let behind = asked.behind in record {
  table = search rules;
  inside = search rules;
  live = (let p = c.args.pass.now.parts in let s = c.args.pass.now.sound.1 in omega arith);
  allows = puts_key_at _ _ _ c.args.position _ (cell_code c.args.cell) behind.turn _ c.args.cell _ c.key_place.ensures
      c.cell_code-code.ensures asked.inside c.args.pass.now.sound.1
      record {
        coded = c.demanded_cells_have_codes.ensures c.args.cell asked.demanded;
        same
            = refl;
      } asked.demanded behind.here behind.others;
}

pub invariant_of-pass : goal.invariant_of-pass
invariant_of-pass g c = let told = c.compare_exchange-found.ensures.then _ _ c.requires.own.plan c.key_place.ensures in
    record {
      sound = subst (IsSound c.args.pass.now.hand) (sym told.0) c.args.pass.now.sound;
      parts = c.compare_exchange-found.ensures.marked.3 ∙ (c.args.pass.now.parts ∙ sym (ap (λ (m : Me ℕ View). m.0.weight + m.0.spare) (told.0)));
      last = is_last (plan_of c.args.self.now) (step_on (places.Key c.args.position) (actions.Exchange c.cell_code-code.result) c.compare_exchange-found.result) _ _ told.0 c.requires.own.plan refl;
    }

pub returns-clause-own : goal.returns-clause-own
returns-clause-own g c = let told = c.compare_exchange-found.ensures.then _ _ c.requires.own.plan c.key_place.ensures in
    record {
      same = c.compare_exchange-found.ensures.table.0 ∙ c.requires.own.same;
      plan = ap (λ (m : Me ℕ View). m.0.plan) told.0
          ∙ c.requires.own.plan;
    }

pub returns-clause-view : goal.returns-clause-view
returns-clause-view g c = ap (λ (m : Me ℕ View). m.0)
    (c.compare_exchange-found.ensures.then _ _ c.requires.own.plan c.key_place.ensures).0
    ∙ ap (λ (code : ℕ). key_exchanged c.args.position code c.compare_exchange-found.result c.args.pass.now.seat.me.0.view)
    c.cell_code-code.ensures

pub returns-clause-keys : goal.returns-clause-keys
returns-clause-keys g c = (c.compare_exchange-found.ensures.then _ _ c.requires.own.plan c.key_place.ensures).1

pub returns-clause-stays : goal.returns-clause-stays
returns-clause-stays g c = (c.compare_exchange-found.ensures.then _ _ c.requires.own.plan c.key_place.ensures).2

pub returns-clause-told : goal.returns-clause-told
returns-clause-told g c = record {
  plan = plan_of c.args.self.now;
  plan_is = (returns-clause-own g c).plan;
  step = record { place = places.Key c.args.position; action = actions.Exchange c.cell_code-code.result; value = c.compare_exchange-found.result };
  made = refl;
  found = c.compare_exchange-found.result;
  found_is = refl;
  stepped = search rules;
  won = ap (λ (v : View). v.wins) (returns-clause-view g c)
      ∙ (nothing_won (view_of c.args.pass.now).wins
      ∙ ap (λ (n : ℕ). (view_of c.args.pass.now).wins + n)
      (sym (key_wins_nothing (slots_of (plan_of c.args.self.now)) c.args.position 0 c.cell_code-code.result c.compare_exchange-found.result c.requires.inside)));
}
