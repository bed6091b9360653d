use Rattle.std.proofs.Common.{◌≡◌, Bool, Option, ℕ, List, map, sym, subst}
use Rattle.std.specs.Prelude.{is_some}
use Rattle.yield_sizes.specs.KnownLengths.{AreProductive}
use Rattle.yield_sizes.proofs.Searching.{if_ok_weaker}
use Rattle.yield_sizes.proofs.LeastLengths.{productive_told}
use Rattle.yield_sizes.proofs.productive_rules.productive.Goals as goal

pub returns : goal.returns
returns c =
    let grammar = c.args.grammar.now in
    let known = c.in_ok-known.known.items in
    let P : List Bool → Type 0 = AreProductive grammar in
    let told : AreProductive grammar (map is_some c.deref.result.now) = subst (λ (it : List (Option ℕ)). AreProductive grammar (map is_some it)) (sym c.deref.ensures.value) (productive_told grammar known c.in_ok-known.ensures) in
    if_ok_weaker c.known_ones.result (λ flags. flags.items ≡ map is_some c.deref.result.now) (λ flags. P flags.items) (λ flags e. subst P (sym e) told) c.known_ones.ensures
