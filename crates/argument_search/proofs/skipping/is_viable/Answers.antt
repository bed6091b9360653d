use Rattle.std.proofs.Common.{◌≡◌, ℕ, List, ◌+◌, ◌≤◌, ◌∷◌, length, slice_index, slice_index_or, inl, inr, subst, ap, ◌∙◌, arith, rules}
use Rattle.std.proofs.lemmas.Bool.{cases_lt}
use Rattle.std.proofs.lemmas.List.{get_or_read}
use Rattle.adp_model.specs.PosedProblem.{PosedProblem}
use Rattle.adp_model.specs.declared.grammar.Arg.{Arg}
use Rattle.adp_model.specs.declared.grammar.Arg.TheVariants.{Rule}
use Rattle.memo_model.specs.declared.visit.Position.{Position}
use Rattle.adp_model.specs.Parts.{arguments_of}
use Rattle.adp_model.specs.Splits.{ends_by, FitsSpan, Placed}
use Rattle.viable_splits.specs.Placing.{on_span}
use Rattle.argument_search.proofs.LineHere.{at_moved}
use Rattle.argument_search.proofs.ViableCuts.{line_fits, line_closed}
use Rattle.argument_search.proofs.skipping.is_viable.Goals as goal

pub returns : goal.returns
returns c =
    let p = c.args.problem.now in
    let cell = c.args.cell in
    let viable = c.requires.viable in
    let arguments : List Arg = arguments_of p.grammar cell.rule c.args.at.alternative in
    let same : c.arguments-arguments.result.now ≡ arguments = c.arguments-arguments.ensures.arguments in
    let counted = ap length same in
    let few = c.arguments-arguments.ensures.few in
    let cuts : List ℕ = c.args.cuts in
    let three : length cuts ≡ 3 = search rules in
    let n = c.args.line.first in
    let m = c.args.line.first + c.args.line.between + 1 in
    let behind : (k : ℕ) → m ≤ k → slice_index cuts k ≡ slice_index c.args.at.cuts k =
    λ k low. c.requires.behind k (omega (arith, low)) in
    let there = at_moved c.at_number-behind.result c.first_of-moved.result c.args.at.alternative cuts m
    c.at_number-behind.ensures c.first_of-moved.ensures in
    let begins = ap (λ (b : Position). slice_index (cell.from ∷ ends_by cell b.cuts) b.number) there in
    let ends = ap (λ (b : Position). slice_index (ends_by cell b.cuts) b.number) there in
    record {
      in_range = viable.in_range;
      allowed = viable.allowed;
      three = three;
      last = line_closed p arguments cell cuts c.args.at.cuts (Rule 0) n m (slice_index cuts n + c.args.pair.letters)
          c.args.pair.last three viable.three (omega arith) c.requires.within (omega (arith, few, counted))
          c.requires.front behind viable.last;
      fits = line_fits p arguments cell cuts c.args.at.cuts (Rule 0) n m (slice_index cuts n + c.args.pair.letters)
          c.args.pair.last three viable.three (omega arith) c.requires.within (omega (arith, few, counted))
          c.requires.front behind viable.fits c.requires.first c.requires.second
          (omega (arith, c.start_of.ensures, begins, c.if-start_of-start.false))
          (omega (arith, c.end_of.ensures, ends, c.if-end_of-pair.false))
          (λ k low high. subst
          (λ (xs : List Arg). FitsSpan p (on_span (slice_index_or xs k (Rule 0))
          (slice_index (cell.from ∷ ends_by cell cuts) k) (slice_index (ends_by cell cuts) k))) same
          (c.loop-number.invariant.fit k low (omega (arith, high, c.loop-number-test.false))));
    }

pub loop-number-preserved : goal.loop-number-preserved
loop-number-preserved c =
    let p = c.args.problem.now in
    let cell = c.args.cell in
    let cuts : List ℕ = c.args.cuts in
    let number = c.loop-number.number in
    let arguments : List Arg = c.arguments-arguments.result.now in
    let counted = ap length c.arguments-arguments.ensures.arguments in
    let there = at_moved c.at_number-token.result c.first_of-moved.result c.args.at.alternative cuts number
    c.at_number-token.ensures c.first_of-moved.ensures in
    let begins : c.start_of-from.result ≡ slice_index (cell.from ∷ ends_by cell cuts) number =
    c.start_of-from.ensures ∙ ap (λ (b : Position). slice_index (cell.from ∷ ends_by cell b.cuts) b.number) there in
    let ends : c.end_of-to.result ≡ slice_index (ends_by cell cuts) number =
    c.end_of-to.ensures ∙ ap (λ (b : Position). slice_index (ends_by cell b.cuts) b.number) there in
    let read : c.index-arguments-number.result ≡ slice_index_or arguments number (Rule 0) =
    get_or_read arguments number c.index-arguments-number.result
    (omega (arith, c.loop-number-test.true, c.requires.within, counted)) c.index-arguments-number.is (Rule 0) in
    let fits = subst (λ (q : PosedProblem). FitsSpan q
    (on_span c.index-arguments-number.result c.start_of-from.result c.end_of-to.result)) c.requires.same
    (c.fits.ensures.0 c.if-not-fits.false) in
    let here = subst (λ (x : Placed). FitsSpan p x) (λ i. on_span (read i) (begins i) (ends i)) fits in
    record {
      fit = λ k low high. elim (cases_lt k number) [
        | inl earlier ↦ c.loop-number.invariant.fit k low earlier
        | inr not ↦
            let same : number ≡ k = omega (arith, high, not) in
            subst
            (λ j. FitsSpan p (on_span (slice_index_or arguments j (Rule 0))
            (slice_index (cell.from ∷ ends_by cell cuts) j) (slice_index (ends_by cell cuts) j))) same here
      ];
    }
