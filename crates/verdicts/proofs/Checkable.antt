-- An input is checkable: it can't be that it isn't.
use Rattle.std.proofs.Common.{◌≡◌, ℕ, inl, inr, IsTrue, List, sym, subst, ◌∙◌}
use Rattle.adp_model.specs.declared.grammar.Grammar.{Grammar}
use Rattle.adp_model.specs.declared.job.Job.{Job}
use Rattle.adp_model.specs.GrammarFaults.{IsFaultless}
use Rattle.adp_model.specs.WellFormed.{is_well_formed}
use Rattle.faultless_grammars.specs.Irrefutable.{HasSizesAndRanks, IsIrrefutable}
use Rattle.table_certificate.specs.JobSplit.{IsSplitAtJob}
use Rattle.verdicts.specs.CheckableJobs.{IsCheckableInput, IsJobPart}
use Rattle.verdicts.specs.Verdict.{AsksUnder}

-- what is known of faultless grammars, and of what words and bytes ask about
pub record CheckLaws : Type 0 where
  pub faultless : (grammar : Grammar) (name : List ℕ) (algebra : ℕ) → IsTrue (is_well_formed grammar)
      → IsFaultless grammar name algebra → IsIrrefutable (HasSizesAndRanks grammar algebra)
  pub one_grammar : (words : List (List ℕ)) (bytes : List ℕ) (a b : Job) (m n : ℕ) → AsksUnder words bytes a m
      → AsksUnder words bytes b n → a.grammar ≡ b.grammar
  pub one_algebra : (words : List (List ℕ)) (bytes : List ℕ) (a b : Job) (m n : ℕ) → AsksUnder words bytes a m
      → AsksUnder words bytes b n → m ≡ n
  pub once : (bytes before behind other rest : List ℕ) → IsSplitAtJob bytes before behind
      → IsSplitAtJob bytes other rest → (before ≡ other) × (behind ≡ rest)

module _ (laws : CheckLaws) (words : List (List ℕ)) (bytes : List ℕ) where
  one_part : (text other : List ℕ) → IsJobPart words bytes text → IsJobPart words bytes other → text ≡ other
  one_part text other (inl h) (inl k) = h.1 ∙ sym k.1
  one_part text other (inl h) (inr k) = absurd (h.0 k.0)
  one_part text other (inr h) (inl k) = absurd (k.0 h.0)
  one_part text other (inr h) (inr k) = (laws.once bytes h.1 text k.1 other h.2 k.2).1

  -- sizes and ranks of the grammar that is asked about once are those of what is asked about at all
  all_have : (text : List ℕ) (job : Job) (algebra : ℕ) → IsJobPart words bytes text → AsksUnder words text job algebra
      → HasSizesAndRanks job.grammar algebra → IsCheckableInput words bytes
  all_have text job algebra part asked found other part' job' algebra' asked' =
      let here : AsksUnder words text job' algebra' =
      subst (λ it. AsksUnder words it job' algebra') (one_part other text part' part) asked' in
      subst (λ (it : Grammar × ℕ). HasSizesAndRanks it.0 it.1)
      (λ i. (
        laws.one_grammar words text job job' algebra algebra' asked here i,
        laws.one_algebra words text job job' algebra algebra' asked here i,
      )) found

  pub checkable : IsIrrefutable (IsCheckableInput words bytes)
  checkable refuted =
      refuted (λ text part job algebra asked.
      absurd (laws.faultless job.grammar _ algebra job.well_formed asked.faultless (λ found.
      refuted (all_have text job algebra part asked found))))
