-- What the splits of arguments come to, by where the first argument ends.
use Rattle.std.proofs.Common.{◌≡◌, ℕ, ◌+◌, ◌<◌, ◌≤◌, ℤ, Option, Some, None, List, [], ◌∷◌, length, refl, subst, arith}
use Rattle.std.specs.declared.ops.Range.{Range}
use Rattle.adp_model.specs.declared.cell.Cell.{Cell}
use Rattle.adp_model.specs.declared.grammar.Arg.{Arg}
use Rattle.adp_model.specs.declared.grammar.Goal.{Goal}
use Rattle.adp_model.specs.declared.grammar.Term.{Term}
use Rattle.adp_model.specs.PosedProblem.{PosedProblem}
use Rattle.adp_model.specs.Splits.{FitsSpan}
use Rattle.viable_splits.specs.Placing.{on_span, ArePositions, Cover}
use Rattle.term_values.specs.Values.{HasValues}
use Rattle.table_certificate.specs.declared.splits.Front.{Front}
use Rattle.table_certificate.specs.declared.splits.Front.TheVariants as fronts
use Rattle.table_certificate.specs.SplitVerdicts.{Verdict, Worths, AreLaid, HasRoom, HasSpace, HasVerdict, IsJudged, joined, told_verdict, verdict_of, worth_of}
use Rattle.table_certificate.proofs.Judging.{HasAmong, judged_none, judged_one, judged_same}

module _ (p : PosedProblem) (said : Cell → Option (Option ℤ)) (term : Term) (front : Worths) where
  -- no arguments are left
  pub none_left : (goal : Goal) (arguments : List Arg) (from to : ℕ) → length arguments ≡ 0 → (from ≡ to → ⊥)
      → IsJudged goal (HasVerdict p said term front arguments from to) (Some None)
  none_left goal [] from to none apart = judged_none goal (HasVerdict p said term front [] from to) (λ verdict has. by verdict has)
    where
      by : (verdict : Verdict) → HasVerdict p said term front [] from to verdict → ⊥
      by verdict ([], laid, is) = apart laid
      by verdict (end ∷ ends, laid, is) = laid
  none_left goal (argument ∷ arguments) from to none apart = absurd (omega (arith, none))

  pub all_left : (goal : Goal) (arguments : List Arg) (from to : ℕ) → length arguments ≡ 0 → from ≡ to
      → IsJudged goal (HasVerdict p said term front arguments from to) (told_verdict (verdict_of term front))
  all_left goal [] from to none same =
      judged_one goal (HasVerdict p said term front [] from to) (verdict_of term front) ([], same, refl) (λ other has. by other has)
    where
      by : (other : Verdict) → HasVerdict p said term front [] from to other → other ≡ verdict_of term front
      by other ([], laid, is) = is
      by other (end ∷ ends, laid, is) = absurd laid
  all_left goal (argument ∷ arguments) from to none same = absurd (omega (arith, none))

  module _ (argument : Arg) (others : List Arg) (from to : ℕ) where
    -- the first argument ends here
    abbrev pub HasVerdictAt : ℕ → Verdict → Type 0
    HasVerdictAt end verdict =
        FitsSpan p (on_span argument from end)
        × HasVerdict p said term (joined front (worth_of p said (on_span argument from end))) others end to verdict

    pub at_verdict : (end : ℕ) (verdict : Verdict) → HasVerdictAt end verdict → HasVerdict p said term front (argument ∷ others) from to verdict
    at_verdict end verdict (fits, (ends, laid, is)) = (end ∷ ends, (fits, laid), is)

    covers : (arguments : List Arg) (from to : ℕ) (ends : List ℕ) → AreLaid p arguments from to ends → Cover p arguments from to
    covers [] from to [] laid = laid
    covers [] from to (end ∷ ends) laid = absurd laid
    covers (argument ∷ arguments) from to [] laid = absurd laid
    covers (argument ∷ arguments) from to (end ∷ ends) laid = (end, laid.0, covers arguments end to ends laid.1)

    among_all : (positions : Range ℕ) → ArePositions p argument others from to positions → (verdict : Verdict)
        → HasVerdict p said term front (argument ∷ others) from to verdict
        → HasAmong HasVerdictAt positions.start positions.end verdict
    among_all positions are verdict ([], laid, is) = absurd laid
    among_all positions are verdict (end ∷ ends, laid, is) =
        let within = are.none_missed end laid.0 (covers others end to ends laid.1) in
        (end, within.0, within.1, (laid.0, (ends, laid.1, is)))

    -- all positions have been passed
    pub all_ends : (goal : Goal) (positions : Range ℕ) → ArePositions p argument others from to positions → (last : ℕ)
        → positions.end ≤ last → (best : Option ℤ) → IsJudged goal (HasAmong HasVerdictAt positions.start last) (Some best)
        → IsJudged goal (HasVerdict p said term front (argument ∷ others) from to) (Some best)
    all_ends goal positions are last behind best judged =
        judged_same goal (HasAmong HasVerdictAt positions.start last) (HasVerdict p said term front (argument ∷ others) from to) (Some best) judged
        (λ verdict has. at_verdict has.0 verdict has.3)
        (λ verdict has. let it = among_all positions are verdict has in (it.0, it.1, omega (arith, it.2, behind), it.3))

    -- what comes of one position, where the first argument fits there
    pub here_judged : (goal : Goal) (end : ℕ) → FitsSpan p (on_span argument from end) → (worths : Worths)
        → worths ≡ joined front (worth_of p said (on_span argument from end)) → (result : Option (Option ℤ))
        → IsJudged goal (HasVerdict p said term worths others end to) result → IsJudged goal (HasVerdictAt end) result
    here_judged goal end fits worths is result judged =
        let here = subst (λ w. IsJudged goal (HasVerdict p said term w others end to) result) is judged in
        judged_same goal (HasVerdict p said term (joined front (worth_of p said (on_span argument from end))) others end to) (HasVerdictAt end) result here
        (λ verdict has. (fits, has)) (λ verdict has. has.1)

-- ---- room for values

pub space_of_room : (term : Term) (front : Front) (more : ℕ) → HasRoom term front more → 0 < more → HasSpace front
space_of_room term (fronts.Untold) more room some = tt
space_of_room term (fronts.Scoreless) more room some = tt
space_of_room term (fronts.Values values) more room some = omega (arith, room.0, some)

pub room_behind : (term : Term) (before after more : ℕ) → after ≡ before + 1
    → (before + (more + 1) ≤ 4) × HasValues (before + (more + 1)) term → (after + more ≤ 4) × HasValues (after + more) term
room_behind term before after more is room =
    let same : before + (more + 1) ≡ after + more = omega (arith, is) in
    (omega (arith, room.0, same), subst (λ n. HasValues n term) same room.1)
