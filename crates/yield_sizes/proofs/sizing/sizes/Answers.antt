use Rattle.std.proofs.Common.{◌≡◌, ◌<◌, ℕ, List, length, map, get_or, sym, ap, subst, ◌∙◌}
use Rattle.std.proofs.lemmas.List.{length-map}
use Rattle.adp_model.specs.Sizes.{IsLeastSize, AreGreatestSizes}
use Rattle.yield_sizes.proofs.LeastLengths.{or_zero, least_told}
use Rattle.yield_sizes.proofs.sizing.sizes.Goals as goal

pub returns : goal.returns
returns c =
    let grammar = c.args.grammar.now in
    let known = c.in_ok-least.least.items in
    let least : c.new.result ≡ map or_zero known = c.new.ensures ∙ c.in_ok-or_zero.ensures ∙ ap (map or_zero) c.deref.ensures.value in
    let greatest : c.new-2.result ≡ c.in_ok-greatest.greatest.items = c.new-2.ensures in
    let P : List ℕ → Type 0 = λ sizes. (rule : ℕ) → rule < length grammar.rules → IsLeastSize grammar rule (get_or sizes rule 0) in
    record {
      least_each = ap length least ∙ length-map known or_zero ∙ c.in_ok-least.ensures.each;
      least_are = subst P (sym least) (least_told grammar known c.in_ok-least.ensures c.requires.productive);
      greatest_are = subst (AreGreatestSizes grammar) (sym greatest) c.in_ok-greatest.ensures;
    }
