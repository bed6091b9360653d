-- A certificate and its job have one verdict, and so have all words and bytes.
use Rattle.std.proofs.Common.{◌≡◌, ℕ, ◌+◌, ◌<◌, ◌≤◌, ◌⊎◌, inl, inr, List, ◌++◌, append-nil, codes, length, Contains, refl, sym, ap, subst, ◌∙◌}
use Rattle.std.specs.Str.Lines.{lines}
use Rattle.adp_model.specs.declared.grammar.Grammar.{Grammar}
use Rattle.adp_model.specs.PosedProblem.{PosedProblem}
use Rattle.table_certificate.specs.CertificateLines.{LineForm}
use Rattle.table_certificate.specs.JobSplit.{IsSplitAtJob}
use Rattle.table_certificate.specs.LocalCertificate.{IsFirstFalse, IsLocallyRight}
use Rattle.nested_jobs.specs.NestedJob.{hidden_in}
use Rattle.verdicts.specs.declared.command.Mode.TheVariants.{Verify}
use Rattle.verdicts.specs.Command.{Command, AsksToVerify}
use Rattle.verdicts.specs.Certificates.{behind_reports, IsFalseFor, IsRightFor, IsWithoutJob}
use Rattle.verdicts.specs.CheckableJobs.{AreCheckable, IsCheckableInput}
use Rattle.verdicts.specs.Verdict.{greatest_length, AreReports, AreOfWins, AsksWithin, IsLimit, IsReports, IsJobVerdict, IsCertificateVerdict, IsVerdict, Verdict, Usage, TooLong, Text, Grammar as OfGrammar, Limit, Rejected, Reports}
use Rattle.verdicts.proofs.OneVerdict.{ModelLaws, command_unique, one_verdict, only_reports, only_within, same_algebra, same_grammar, same_words, too_long}

-- what is known of inputs that are parted, and of first false lines
pub record SplitLaws : Type 0 where
  pub once : (bytes before behind other rest : List ℕ) → IsSplitAtJob bytes before behind
      → IsSplitAtJob bytes other rest → (before ≡ other) × (behind ≡ rest)
  pub there : (bytes before behind : List ℕ) → IsSplitAtJob bytes before behind → Contains (lines bytes) (codes "job")
  pub one_line : (problems : List PosedProblem) (forms : List LineForm) (a b : ℕ) → IsFirstFalse problems forms a
      → IsFirstFalse problems forms b → a ≡ b
  pub no_line : (problems : List PosedProblem) (forms : List LineForm) (place : ℕ) → IsLocallyRight problems forms
      → IsFirstFalse problems forms place → ⊥

-- ---- where the input is parted

module _ (words : List (List ℕ)) (before behind : List ℕ) where
  -- the verdict is a fault of the job; or the first false line; or the certificate is right
  data Within (verdict : Verdict) : Type 0 where
    OfJob : IsJobVerdict words behind verdict → (IsReports verdict → ⊥) → Within verdict
    False : (line : ℕ) (asks : AsksWithin words behind)
        → IsFalseFor asks.job.grammar asks.algebra asks.job.words before line → verdict ≡ Rejected line → Within verdict
    Right : (reports : List (List ℕ)) (asks : AsksWithin words behind)
        → IsRightFor asks.job.grammar asks.algebra asks.job.words before
        → AreReports asks.asked.command (hidden_in behind) asks.job.grammar asks.algebra 1 asks.job.words reports
        → verdict ≡ Reports reports → Within verdict

-- the verdict is that the input is too long, that it has no line `job`, or what stands before and behind that
data Whole (words : List (List ℕ)) (bytes : List ℕ) (verdict : Verdict) : Type 0 where
  Long : greatest_length < length bytes → verdict ≡ TooLong → Whole words bytes verdict
  Without : length bytes ≤ greatest_length → (line : ℕ) → IsWithoutJob bytes line → verdict ≡ Rejected line
      → Whole words bytes verdict
  Parted : length bytes ≤ greatest_length → (before behind : List ℕ) → IsSplitAtJob bytes before behind
      → Within words before behind verdict → Whole words bytes verdict

whole_of : (words : List (List ℕ)) (bytes : List ℕ) (verdict : Verdict) → IsCertificateVerdict words bytes verdict
    → Whole words bytes verdict
whole_of words bytes Usage h = absurd h
whole_of words bytes TooLong h = Long h refl
whole_of words bytes (Text fault) (short, before, behind, parted, is) =
    Parted short before behind parted (OfJob is (λ reports. reports))
whole_of words bytes (OfGrammar fault) (short, before, behind, parted, is) =
    Parted short before behind parted (OfJob is (λ reports. reports))
whole_of words bytes (Limit word fault) (short, before, behind, parted, is) =
    Parted short before behind parted (OfJob is (λ reports. reports))
whole_of words bytes (Rejected line) (short, inl none) = Without short line none refl
whole_of words bytes (Rejected line) (short, inr (before, behind, parted, asks, first)) =
    Parted short before behind parted (False line asks first refl)
whole_of words bytes (Reports reports) (short, before, behind, parted, asks, right, are) =
    Parted short before behind parted (Right reports asks right are refl)

module _ (laws : ModelLaws) (splits : SplitLaws) (words : List (List ℕ)) (verifies : AsksToVerify words)
    (before behind : List ℕ) where
  -- two that ask about the words of one job ask about the same
  first_of : (h k : AsksWithin words behind) (line : ℕ)
      → IsFalseFor k.job.grammar k.algebra k.job.words before line
      → IsFalseFor h.job.grammar h.algebra h.job.words before line
  first_of h k line is =
      subst (λ (it : Grammar × ℕ × List (List ℕ)). IsFalseFor it.0 it.1 it.2 before line)
      (λ i. (
        same_grammar laws.texts behind k.job h.job k.asked.asks.is_text h.asked.asks.is_text i,
        same_algebra laws.texts words behind h.job k.job h.algebra k.algebra h.asked k.asked i,
        same_words laws.texts behind k.job h.job k.asked.asks.is_text h.asked.asks.is_text i,
      )) is

  right_or_false : (h k : AsksWithin words behind) (line : ℕ)
      → IsRightFor h.job.grammar h.algebra h.job.words before
      → IsFalseFor k.job.grammar k.algebra k.job.words before line → ⊥
  right_or_false h k line right is =
      let first = first_of h k line is in
      splits.no_line _ _ first.0 right first.2

  as_job : (reports : List (List ℕ)) (h : AsksWithin words behind)
      → AreReports h.asked.command (hidden_in behind) h.job.grammar h.algebra 1 h.job.words reports
      → IsJobVerdict words behind (Reports reports)
  as_job reports h are =
      let verify : Verify ≡ h.asked.command.mode =
      sym verifies.2 ∙ ap (λ (c : Command). c.mode)
      (command_unique words verifies.0 h.asked.command verifies.1 h.asked.asks.is_command) in
      inl (
        h.job,
        h.algebra,
        h.asked,
        h.limits,
        reports,
        are,
        subst (λ mode. reports ≡ reports ++ behind_reports mode (length h.job.words) behind) verify (sym (append-nil reports)),
      )

  one_within : AreCheckable words behind → (a b : Verdict) → Within words before behind a → Within words before behind b
      → (a ≡ b) ⊎ AreOfWins words a b
  one_within checks a b (OfJob h none) (OfJob k none') = one_verdict laws words behind checks a b h k
  one_within checks a b (OfJob h none) (False line asks first is) =
      absurd (none (only_within laws words behind asks a h (λ limit. checks)))
  one_within checks a b (OfJob h none) (Right reports asks right are is) =
      absurd (none (only_within laws words behind asks a h (λ limit. checks)))
  one_within checks a b (False line asks first is) (OfJob k none) =
      absurd (none (only_within laws words behind asks b k (λ limit. checks)))
  one_within checks a b (Right reports asks right are is) (OfJob k none) =
      absurd (none (only_within laws words behind asks b k (λ limit. checks)))
  one_within checks a b (False line asks first is) (False line' asks' first' is') =
      let other = first_of asks asks' line' first' in
      let places = splits.one_line _ _ first.0 other.0 first.2 other.2 in
      inl (is ∙ ap Rejected (first.1 ∙ ap (λ n. n + 1) places ∙ sym other.1) ∙ sym is')
  one_within checks a b (False line asks first is) (Right reports asks' right are is') =
      absurd (right_or_false asks' asks line right first)
  one_within checks a b (Right reports asks right are is) (False line asks' first is') =
      absurd (right_or_false asks asks' line right first)
  one_within checks a b (Right reports asks right are is) (Right reports' asks' right' are' is') =
      subst (λ (it : Verdict × Verdict). (it.0 ≡ it.1) ⊎ AreOfWins words it.0 it.1) (λ i. (sym is i, sym is' i))
      (one_verdict laws words behind checks (Reports reports) (Reports reports') (as_job reports asks are)
      (as_job reports' asks' are'))

  only_right : (h : AsksWithin words behind) → IsRightFor h.job.grammar h.algebra h.job.words before
      → (verdict : Verdict) → Within words before behind verdict → (IsLimit verdict → AreCheckable words behind)
      → IsReports verdict
  only_right h right verdict (OfJob k none) checks = only_within laws words behind h verdict k checks
  only_right h right verdict (False line asks first is) checks = absurd (right_or_false h asks line right first)
  only_right h right verdict (Right reports asks right' are is) checks = subst IsReports (sym is) tt

module _ (laws : ModelLaws) (splits : SplitLaws) (words : List (List ℕ)) (bytes : List ℕ)
    (verifies : AsksToVerify words) where
  part_of : (before behind : List ℕ) → IsSplitAtJob bytes before behind → IsCheckableInput words bytes
      → AreCheckable words behind
  part_of before behind parted checks = checks behind (inr (verifies, before, parted))

  -- what stands at one parting stands at the other
  parted_same : (before behind other rest : List ℕ) → IsSplitAtJob bytes before behind → IsSplitAtJob bytes other rest
      → (verdict : Verdict) → Within words other rest verdict → Within words before behind verdict
  parted_same before behind other rest h k verdict =
      let same = splits.once bytes other rest before behind k h in
      subst (λ (it : List ℕ × List ℕ). Within words it.0 it.1 verdict) (λ i. (same.0 i, same.1 i))

  one_whole : IsCheckableInput words bytes → (a b : Verdict) → Whole words bytes a → Whole words bytes b
      → (a ≡ b) ⊎ AreOfWins words a b
  one_whole checks a b (Long long is) (Long long' is') = inl (is ∙ sym is')
  one_whole checks a b (Long long is) (Without short line none is') = absurd (too_long laws words bytes long short)
  one_whole checks a b (Long long is) (Parted short before behind parted within) =
      absurd (too_long laws words bytes long short)
  one_whole checks a b (Without short line none is) (Long long is') = absurd (too_long laws words bytes long short)
  one_whole checks a b (Without short line none is) (Without short' line' none' is') =
      inl (is ∙ ap Rejected (none.1 ∙ sym none'.1) ∙ sym is')
  one_whole checks a b (Without short line none is) (Parted short' before behind parted within) =
      absurd (none.0 (splits.there bytes before behind parted))
  one_whole checks a b (Parted short before behind parted within) (Long long is') =
      absurd (too_long laws words bytes long short)
  one_whole checks a b (Parted short before behind parted within) (Without short' line none is') =
      absurd (none.0 (splits.there bytes before behind parted))
  one_whole checks a b (Parted short before behind parted within) (Parted short' other rest parted' within') =
      one_within laws splits words verifies before behind (part_of before behind parted checks) a b within
      (parted_same before behind other rest parted parted' b within')

  only_whole : (before behind : List ℕ) → length bytes ≤ greatest_length → IsSplitAtJob bytes before behind
      → (h : AsksWithin words behind) → IsRightFor h.job.grammar h.algebra h.job.words before → (verdict : Verdict)
      → Whole words bytes verdict → (IsLimit verdict → IsCheckableInput words bytes) → IsReports verdict
  only_whole before behind short parted h right verdict (Long long is) checks =
      absurd (too_long laws words bytes long short)
  only_whole before behind short parted h right verdict (Without short' line none is) checks =
      absurd (none.0 (splits.there bytes before behind parted))
  only_whole before behind short parted h right verdict (Parted short' other rest parted' within) checks =
      only_right laws splits words verifies before behind h right verdict
      (parted_same before behind other rest parted parted' verdict within)
      (λ limit. part_of before behind parted (checks limit))

-- ---- all words and bytes

pub one_of_both : ModelLaws → SplitLaws → (words : List (List ℕ)) (bytes : List ℕ) → IsCheckableInput words bytes
    → (a b : Verdict) → IsVerdict words bytes a → IsVerdict words bytes b → (a ≡ b) ⊎ AreOfWins words a b
one_of_both laws splits words bytes checks a b (inl (other, h)) (inl (other', k)) =
    one_verdict laws words bytes (checks bytes (inl (other, refl))) a b h k
one_of_both laws splits words bytes checks a b (inl (other, h)) (inr (verifies, k)) = absurd (other verifies)
one_of_both laws splits words bytes checks a b (inr (verifies, h)) (inl (other, k)) = absurd (other verifies)
one_of_both laws splits words bytes checks a b (inr (verifies, h)) (inr (verifies', k)) =
    one_whole laws splits words bytes verifies checks a b (whole_of words bytes a h) (whole_of words bytes b k)

pub only_of_both : ModelLaws → SplitLaws → (words : List (List ℕ)) (bytes : List ℕ) (reports : List (List ℕ))
    (verdict : Verdict) → IsVerdict words bytes (Reports reports) → IsVerdict words bytes verdict
    → (IsLimit verdict → IsCheckableInput words bytes) → IsReports verdict
only_of_both laws splits words bytes reports verdict (inl (other, h)) (inl (other', k)) checks =
    only_reports laws words bytes reports verdict h k (λ limit. checks limit bytes (inl (other, refl)))
only_of_both laws splits words bytes reports verdict (inl (other, h)) (inr (verifies, k)) checks =
    absurd (other verifies)
only_of_both laws splits words bytes reports verdict (inr (verifies, h)) (inl (other, k)) checks =
    absurd (other verifies)
only_of_both laws splits words bytes reports verdict (inr (verifies, (short, before, behind, parted, asks, right, are))) (inr (verifies', k)) checks =
    only_whole laws splits words bytes verifies before behind short parted asks right verdict (whole_of words bytes verdict k) checks
