use Rattle.std.proofs.Common.{◌≡◌, List, [], ◌∷◌, ◌++◌, sym, ap₂, ◌∙◌, arith}
use Rattle.std.proofs.lemmas.List.FromFn.{map-range_with_len_more}
use Rattle.yield_sizes.specs.declared.places.Place.{Place}
use Rattle.yield_sizes.specs.Places.{places_naming}
use Rattle.yield_sizes.proofs.places.naming_rows.Goals as goal

pub loop-rule-preserved : goal.loop-rule-preserved
loop-rule-preserved c =
    let row : c.new.result ≡ places_naming c.args.grammar.now c.args.places.now c.loop-rule.rule = c.new.ensures ∙ c.in_ok-naming.ensures in
    ◌∙◌ {A = List (List Place)} c.in_ok-push.ensures.items
    (◌∙◌ {A = List (List Place)} (ap₂ (λ (rows : List (List Place)) (it : List Place). rows ++ it ∷ []) c.loop-rule.invariant row)
    (sym (map-range_with_len_more (places_naming c.args.grammar.now c.args.places.now) 0 c.loop-rule.rule c.loop-rule.rule (omega arith))))
