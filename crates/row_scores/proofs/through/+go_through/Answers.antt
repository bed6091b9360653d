use Rattle.std.proofs.Common.{◌≡◌, ◌⊎◌, ℤ, FitsSigned, w64, rules, List, [], ◌∷◌, length, refl, sym, subst, ◌∙◌, inl, inr, arith}
use Rattle.std.specs.List.{AllByRecursion}
use Rattle.std.proofs.lemmas.Int.{to_z-of_z}
use Rattle.adp_model.specs.declared.grammar.Arg.{Arg}
use Rattle.adp_model.specs.WellFormed.{IsKnown}
use Rattle.score_rows.specs.Raised.{AreHighest, HasScore, IsAnywhere}
use Rattle.score_rows.specs.Windows.{IsOutside}
use Rattle.score_rows.proofs.Highest.{rows_same}
use Rattle.row_scores.specs.Ready.{AreLong, AreReady, HasFront, HasWhole, IsWanted, passed_too}
use Rattle.row_scores.specs.RowNumbers.{IsInRow}
use Rattle.row_scores.specs.Steps.{AreLowStepsFrom, HasStepFrom, IsLowToken}
use Rattle.row_scores.proofs.Stepping.{ready_next, whole_first, whole_last}
use Rattle.row_scores.proofs.through.+go_through.Goals as goal
use Rattle.row_scores.proofs.through.+go_through.Goals.{in_default-via-in-Some+in_default, in_default-via-in_default}

both_empty : (arguments : List Arg) (factors : List ℤ) → length factors ≡ length arguments → (length arguments ≡ 0) ⊎ (length factors ≡ 0)
    → (arguments ≡ []) × (factors ≡ [])
both_empty [] [] each one = (refl, refl)
both_empty [] (factor ∷ factors) each one = absurd (omega (arith, each))
both_empty (argument ∷ arguments) [] each one = absurd (omega (arith, each))
both_empty (argument ∷ arguments) (factor ∷ factors) each (inl none) = absurd (omega (arith, none))
both_empty (argument ∷ arguments) (factor ∷ factors) each (inr none) = absurd (omega (arith, none))

pub returns-in_default-clause-raised : goal.returns-in_default-clause-raised
returns-in_default-clause-raised g t c front within ready =
    let p = c.args.known.now.lines.now in
    let width = g.N.RowNumber.width in
    let InRow = IsInRow g.N.RowNumber.value c.args.known.now.table.now in
    let First = HasFront p front in
    let Wanted = IsWanted p front in
    let reached = c.args.reached.now in
    let empty : (length c.args.arguments.now ≡ 0) ⊎ (length c.args.factors.now ≡ 0) = elim c.in_default.branch [
      | in_default-via-in-Some+in_default w ↦ inr w.in_default.ensures'.cases
      | in_default-via-in_default w ↦ inl w.in_default.ensures.cases
    ] in
    let both = both_empty c.args.arguments.now c.args.factors.now ready.each empty in
    let R : List Arg → List ℤ → Type 0 = λ arguments factors. AreReady p width InRow First Wanted arguments factors reached in
    let W : List Arg → List ℤ → Type 0 = λ arguments factors.
    AreHighest width (HasWhole p First arguments factors) Wanted c.args.row.now c.raise_between.new.self in
    subst (λ arguments. W arguments c.args.factors.now) (sym both.0)
    (subst (λ factors. W [] factors) (sym both.1)
    (whole_last p width InRow First Wanted reached c.args.ends.first c.args.ends.past
    (subst (λ factors. R [] factors) both.1 (subst (λ arguments. R arguments c.args.factors.now) both.0 ready))
    within c.args.row.now c.raise_between.new.self c.raise_between.ensures))

pub returns-in_default-clause-others : goal.returns-in_default-clause-others
returns-in_default-clause-others g t c =
    let width = g.N.RowNumber.width in
    let ends = c.args.ends in
    rows_same width (HasScore width ends.first ends.past c.args.reached.now) (λ k number. ⊥) IsAnywhere (IsOutside ends) c.args.row.now c.raise_between.new.self
    (λ k number outside ((after, before, there), live). elim outside [ inl l ↦ omega (arith, l, after) | inr m ↦ omega (arith, m, before) ])
    (λ k number outside none. absurd none)
    (λ k outside. tt) c.raise_between.ensures

pub go_through-requires : goal.go_through-requires
go_through-requires g t c κs within =
    let p = c.args.known.now.lines.now in
    let is = c.in-Some-Some.ensures.cases.0 in
    let known = subst (AllByRecursion (IsKnown p.grammar)) is c.requires.arguments in
    let low = subst (AllByRecursion (IsLowToken p)) is c.requires.low in
    let long = c.requires.long in
    let long' : AreLong p c.step.new.next c.clear-2.new.self c.args.row.now = record {
      reached_long = c.step.ensures.as_many ∙ long.next_long;
      next_long = c.clear-2.ensures.as_many ∙ long.reached_long;
      row_long = long.row_long;
    } in
    (search rules, (within, (c.requires.known, (c.requires.rows, (known.1, (low.1, (long', c.clear-2.ensures.none)))))))

pub returns-clause-raised : goal.returns-clause-raised
returns-clause-raised g t c front within ready =
    let p = c.args.known.now.lines.now in
    let width = g.N.RowNumber.width in
    let InRow = IsInRow g.N.RowNumber.value c.args.known.now.table.now in
    let First = HasFront p front in
    let Wanted = IsWanted p front in
    let reached = c.args.reached.now in
    let argument = c.in-Some-Some.argument.now in
    let others = c.in-Some-Some.others.now in
    let factor = c.in-Some-Some.factor.now in
    let factors = c.in-Some-Some.factors.now in
    let arguments_are = c.in-Some-Some.ensures.cases.0 in
    let factors_are = c.in-Some-Some.ensures'.cases.0 in
    let R : List Arg → List ℤ → Type 0 = λ arguments factors. AreReady p width InRow First Wanted arguments factors reached in
    let W : List Arg → List ℤ → Type 0 = λ arguments factors.
    AreHighest width (HasWhole p First arguments factors) Wanted c.args.row.now c.go_through.new.row in
    let ready' : R (argument ∷ others) (factor ∷ factors) =
    subst (λ xs. R xs (factor ∷ factors)) arguments_are (subst (λ ys. R c.args.arguments.now ys) factors_are ready) in
    let fits : FitsSigned w64 factor = search rules in
    let S : ℤ → Type 0 = λ factor. AreHighest width (HasStepFrom p width InRow argument factor reached)
    (AreLowStepsFrom p width InRow argument factor reached) c.args.next.now c.step.new.next in
    let stepped : S factor = subst S (to_z-of_z w64 factor fits) c.step.ensures in
    let next = ready_next p width InRow c.requires.rows First Wanted argument others factor factors reached ready' c.args.next.now c.step.new.next
    c.requires.long.next_long c.requires.clear stepped in
    let through = c.go_through.ensures.raised (passed_too front argument factor) within next in
    subst (λ xs. W xs c.args.factors.now) (sym arguments_are)
    (subst (λ ys. W (argument ∷ others) ys) (sym factors_are)
    (whole_first p width InRow First Wanted argument others factor factors reached c.requires.rows ready' c.args.row.now c.go_through.new.row through))
