-- A pass that makes steps has as many marks more, and its wins rise by those that are wins.
use Rattle.std.proofs.Common.{◌≡◌, ℕ, zero, suc, ◌+◌, [], ◌∷◌, ◌++◌, length, length-append, Some, refl, sym, ap, ◌∙◌, subst, arith}
use Rattle.std.proofs.lemmas.List.Sums.{sum_by_push}
use Rattle.history_table.specs.declared.history.Mark.{Mark}
use Rattle.history_table.specs.History.{mark}
use Rattle.memo_words.specs.declared.pass.Pass.{Pass}
use Rattle.memo_words.specs.declared.words.Words.{Words}
use Rattle.memo_words.specs.Layout.{Plan, slots_of}
use Rattle.memo_words.specs.Made.{word_of}
use Rattle.memo_words.specs.Passes.{IsPassOf, view_of, marks_of, plan_of, deed_of, won_by, won_in}
use Rattle.memo_table.specs.Meanings.{StepsOn}
use Rattle.evaluators.specs.Driving.{AreStepsApart}

same_plan : (a b : Plan) → Some a ≡ Some b → a ≡ b
same_plan a b e = cc

module _ (words : Words) where
  pub record HasGrown (steps : ℕ) (first last : Pass) : Type 0 where
    pub own : IsPassOf words last
    pub long : length (marks_of last) ≡ length (marks_of first) + steps
    pub won : won_in (slots_of (plan_of words)) (marks_of last) + (view_of first).wins
        ≡ won_in (slots_of (plan_of words)) (marks_of first) + (view_of last).wins

  unmoved : (pass : Pass) → IsPassOf words pass → HasGrown 0 pass pass
  unmoved pass own = record { own = own; long = omega arith; won = refl }

  pub grown : (steps : ℕ) (first last : Pass) → IsPassOf words first → AreStepsApart StepsOn steps first last
      → HasGrown steps first last
  grown zero first last own same = subst (HasGrown 0 first) (sym same) (unmoved first own)
  grown (suc n) first last own (between, before, on) =
      let told = on.1 in
      let so_far = grown n first between own before in
      let own_now = on.0.own words so_far.own in
      let plan : told.plan ≡ plan_of words = same_plan told.plan (plan_of words) (sym told.plan_is ∙ own_now.plan) in
      let it : Mark = mark told.stepped.0 (word_of told.plan told.step.place) (deed_of told.step.action told.step.value) told.found in
      let marks : marks_of last ≡ marks_of between ++ it ∷ [] = told.stepped.1 in
      let slots = slots_of (plan_of words) in
      let longer = ap length marks in
      let one = length-append (marks_of between) (it ∷ []) in
      let long = so_far.long in
      let sum = ap (won_in slots) marks in
      let more = sum_by_push (λ (m : Mark). won_by slots m.event) (marks_of between) it in
      let wins : (view_of last).wins ≡ (view_of between).wins + won_by slots it.event =
      subst (λ (p : Plan). (view_of last).wins ≡ (view_of between).wins + won_by (slots_of p) it.event) plan told.won in
      let won = so_far.won in
      record {
        own = own_now;
        long = omega (arith, longer, one, long);
        won = omega (arith, sum, more, wins, won);
      }
