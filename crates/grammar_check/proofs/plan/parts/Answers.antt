use Rattle.std.proofs.Common.{◌≡◌, ℕ, ◌+◌, ◌<◌, ◌≤◌, Option, List, [], ◌∷◌, ◌++◌, length, drop, slice_index_or, append_assoc, append-nil, sym, ap, ◌∙◌}
use Rattle.std.proofs.lemmas.List.{at_drop_more, at_drop_all}
use Rattle.adp_model.specs.declared.grammar.Arg.{Arg}
use Rattle.adp_model.specs.declared.grammar.Grammar.{Grammar}
use Rattle.grammar_check.specs.declared.measure.Measure.{Measure}
use Rattle.grammar_check.specs.declared.part.Part.{Part}
use Rattle.grammar_check.specs.declared.part.Worth.{Worth}
use Rattle.grammar_check.specs.GrammarPlans.{Lengths, factor_in, worth_in, low_in, high_in, ranged, part_in, parts_in, lengths_of}
use Rattle.grammar_check.proofs.plan.parts.Goals as goal

part_read : (grammar : Grammar) (measure : Measure) (lengths : Lengths) (sign place factor low : ℕ) (high : Option ℕ) (worth : Worth) (argument : Arg) (part : Part) → factor ≡ factor_in grammar measure sign place → worth ≡ worth_in grammar measure factor argument → low ≡ low_in lengths.least argument → high ≡ high_in lengths.greatest argument → part ≡ ranged lengths.most low high worth → part ≡ part_in grammar measure lengths sign place argument
part_read grammar measure lengths sign place factor low high worth argument part factor_is worth_is low_is high_is part_is =
    part_is ∙ (λ i. ranged lengths.most (low_is i) (high_is i) ((worth_is ∙ ap (λ f. worth_in grammar measure f argument) factor_is) i))

parts_more : (grammar : Grammar) (measure : Measure) (lengths : Lengths) (sign place : ℕ) (arguments : List Arg) (argument : Arg) (parts new whole : List Part) (part : Part) → place < length arguments → argument ≡ slice_index_or arguments place argument → part ≡ part_in grammar measure lengths sign place argument → new ≡ parts ++ part ∷ [] → parts ++ parts_in grammar measure lengths sign place (drop place arguments) ≡ whole → new ++ parts_in grammar measure lengths sign (place + 1) (drop (place + 1) arguments) ≡ whole
parts_more grammar measure lengths sign place arguments argument parts new whole part inside argument_is part_is new_is before =
    let rest = parts_in grammar measure lengths sign (place + 1) (drop (place + 1) arguments) in
    ap (λ ps. ps ++ rest) new_is ∙ append_assoc parts (part ∷ []) rest ∙ ap (λ p. parts ++ p ∷ rest) (part_is ∙ ap (part_in grammar measure lengths sign place) argument_is)
    ∙ sym (at_drop_more (λ as'. parts ++ parts_in grammar measure lengths sign place as') arguments place argument inside) ∙ before

parts_done : (grammar : Grammar) (measure : Measure) (lengths : Lengths) (sign place : ℕ) (arguments : List Arg) (parts whole : List Part) → length arguments ≤ place → parts ++ parts_in grammar measure lengths sign place (drop place arguments) ≡ whole → parts ≡ whole
parts_done grammar measure lengths sign place arguments parts whole past before =
    sym (append-nil parts) ∙ sym (at_drop_all (λ as'. parts ++ parts_in grammar measure lengths sign place as') arguments place past) ∙ before

pub loop-place-preserved : goal.loop-place-preserved
loop-place-preserved c =
    let lengths = lengths_of c.args.sizes.now c.args.most in
    parts_more c.args.grammar.now c.args.measure lengths c.args.sign c.loop-place.place c.args.arguments.now c.index-arguments-place.result c.loop-place.parts.items c.push.new.self.items _ c.ranged.result c.loop-place-test.true c.index-arguments-place.is
    (part_read c.args.grammar.now c.args.measure lengths c.args.sign c.loop-place.place c.factor-factor.result c.low.result c.high.result c.worth-worth.result c.index-arguments-place.result c.ranged.result c.factor-factor.ensures c.worth-worth.ensures c.low.ensures c.high.ensures c.ranged.ensures)
    c.in_ok-push.ensures.items c.loop-place.invariant

pub returns : goal.returns
returns c = parts_done c.args.grammar.now c.args.measure (lengths_of c.args.sizes.now c.args.most) c.args.sign c.loop-place.place c.args.arguments.now c.loop-place.parts.items _ c.loop-place-test.false c.loop-place.invariant
