use Rattle.std.proofs.Common.{◌≡◌, ℕ, ◌+◌, List, [], ◌∷◌, ◌++◌, get_or, refl, sym, ap, subst, ◌∙◌, arith}
use Rattle.std.proofs.lemmas.List.{get_or_read}
use Rattle.split_lines.specs.declared.kept_rules.Middle.{Middle}
use Rattle.split_lines.specs.declared.matches.Matches.{Matches}
use Rattle.split_lines.specs.Found.{AreFoundIn, HasNowhere}
use Rattle.split_lines.specs.Matching.{AreMatches, MatchNowhere}
use Rattle.split_lines.proofs.FoundLists.{found_more, list_of_last, list_still}
use Rattle.split_lines.proofs.found.Found.new.Goals as goal

pub loop-middle-init : goal.loop-middle-init
loop-middle-init c =
    let p = c.args.tables.now in
    let N : List Matches → Type 0 = HasNowhere p in
    let F : List ℕ → Type 0 = AreFoundIn p c.args.middles.now 0 c.push.new.self.items in
    let only : List Matches = c.in_ok-nowhere.nowhere ∷ [] in
    let lists_are = c.in_ok-push.ensures.items ∙ ap (λ (before : List Matches). before ++ only) c.new-lists.ensures.items in
    record {
      nowhere_is = subst N (sym {A = List Matches} lists_are) (λ tokens none. list_of_last p [] tokens 0 c.in_ok-nowhere.nowhere refl (subst (λ p. AreMatches p tokens c.in_ok-nowhere.nowhere) c.problem.ensures (c.in_ok-nowhere.ensures tokens (subst (λ p. MatchNowhere p tokens) (sym c.problem.ensures) none))));
      found_are = subst F (sym {A = List ℕ} c.in_ok-numbers.ensures.items) (record { each = refl; are = λ number d l. absurd (omega (arith, l)) });
    }

pub loop-middle-preserved : goal.loop-middle-preserved
loop-middle-preserved c =
    let p = c.args.tables.now in
    let count = c.loop-middle.middle-index in
    let old = c.loop-middle.lists.items in
    let new = c.list_of.new.lists.items in
    let numbers = c.loop-middle.numbers.items in
    let all = c.loop-middle.invariant in
    let here : (d : Middle) → get_or c.args.middles.now count d ≡ c.middle-item.result = λ d. sym (get_or_read c.args.middles.now count c.middle-item.result (omega arith) c.middle-item.is d) in
    let F : List ℕ → Type 0 = AreFoundIn p c.args.middles.now (count + 1) new in
    record {
      nowhere_is = λ tokens none. list_still p old new tokens 0 c.in_ok-number.ensures.longer (all.nowhere_is tokens none);
      found_are = subst F (sym {A = List ℕ} c.in_ok-push-2.ensures.items) (found_more p c.args.middles.now count old new numbers c.in_ok-number.number c.middle-item.result c.in_ok-number.ensures.longer all.found_are here c.in_ok-number.ensures.number);
    }
