-- What is written as a certificate with its job is accepted.
use Rattle.std.proofs.Common.{◌≡◌, ℕ, ◌+◌, ◌^◌, ◌<◌, ◌≤◌, ◌==◌, inl, inr, Bool, false, if◌then◌else◌, IsNone, IsSome, Option, None, Some, List, [], ◌∷◌, ◌++◌, codes, length, refl, sym, ap, subst, ◌∙◌, arith}
use Rattle.std.specs.List.{All, concat}
use Rattle.std.proofs.lemmas.List.{append-nil, append_assoc, length-append, length-map}
use Rattle.std.proofs.lemmas.List.Elements.{All-cons, All-nil}
use Rattle.std.proofs.lemmas.List.Folds.{concat-append}
use Rattle.std.proofs.lemmas.Bool.Decides.{nat_tests}
use Rattle.adp_model.specs.Checks.{IsChecked}
use Rattle.adp_model.specs.GrammarFaults.{IsFaultless}
use Rattle.adp_model.specs.PosedProblem.{PosedProblem}
use Rattle.adp_model.specs.ProblemFields.{IsAdmissible, KeepsLimits}
use Rattle.adp_model.specs.Report.{line}
use Rattle.adp_model.specs.declared.grammar.Grammar.{Grammar}
use Rattle.adp_model.specs.declared.job.Job.{Job}
use Rattle.nested_jobs.specs.NestedJob.{IsNestedText, hidden_in}
use Rattle.table_certificate.specs.CertificateLines.{forms_of}
use Rattle.table_certificate.specs.JobSplit.{IsSplitAtJob}
use Rattle.table_certificate.specs.LocalCertificate.{IsLocallyRight}
use Rattle.table_certificate.specs.WrittenCertificate.{AreCertificates, IsCertifiedJob, IsWritten}
use Rattle.verdicts.specs.declared.command.Mode.TheVariants.{Lex, Cert, Verify}
use Rattle.verdicts.specs.Certificates.{before_block, behind_blocks, behind_reports, IsBlockReport, IsRightFor}
use Rattle.verdicts.specs.CheckableJobs.{IsCheckableInput}
use Rattle.verdicts.specs.Command.{Command, IsCommand, ReadsJob, AsksToVerify}
use Rattle.verdicts.specs.OneAlgebra.{NameOneAlgebra}
use Rattle.verdicts.specs.Posed.{posed_word, posed_words}
use Rattle.verdicts.specs.SecondAlgebra.{IsAdmissibleWith, KeepsLimitsWith, MakesPairWith}
use Rattle.verdicts.specs.WordReport.{HidesAlternatives}
use Rattle.verdicts.specs.Verdict.{AreReports, AskForReports, AsksUnder, AsksWithin, asked_name, greatest_length, IsReportIn, IsReportWith, IsVerdict, Reports}
use Rattle.verdicts.specs.WordLimits.{KeepLimits}
use Rattle.verdicts.proofs.OneVerdict.{command_unique, no_second, no_trees, some_workers}

-- what is known of certificates and reports
pub record AcceptLaws : Type 0 where
  pub right : (grammar : Grammar) (algebra : ℕ) (words : List (List ℕ)) (text : List ℕ)
      → All IsAdmissible (posed_words grammar algebra words) → length words < 2 ^ 64
      → IsWritten (posed_words grammar algebra words) text
      → IsLocallyRight (posed_words grammar algebra words) (forms_of grammar text)
  pub long : (problems : List PosedProblem) (text : List ℕ) → IsWritten problems text → length problems < length text
  pub split : (problems : List PosedProblem) (grammar : Grammar) (text job : List ℕ)
      → IsLocallyRight problems (forms_of grammar text) → IsSplitAtJob (text ++ line (codes "job") ++ job) text job
  pub reports : (command : Command) (hidden : Option ℕ) (number : ℕ) (p : PosedProblem) → ReadsJob command.mode
      → (command.mode ≡ Lex → IsSome command.second) → 1 ≤ command.workers → IsAdmissibleWith command.second p
      → HidesAlternatives hidden p.grammar → (report : List ℕ) × IsReportIn command hidden number p report
  pub hides : (bytes : List ℕ) (job : Job) → IsNestedText bytes job → HidesAlternatives (hidden_in bytes) job.grammar

-- ---- the blocks that are written

no_line : (number : ℕ) → 2 ≤ number → before_block number ≡ []
no_line number many =
    let other : (number == 1) ≡ false = grind (arith, nat_tests) in
    ap (λ (is : Bool). if is then line (codes "cert") else []) other

module _ (command : Command) (certifies : command.mode ≡ Cert) (hidden : Option ℕ) (grammar : Grammar) (algebra : ℕ) where
  block_of : (number : ℕ) (word report : List ℕ) → IsReportIn command hidden number (posed_word grammar algebra word) report
      → IsBlockReport number (posed_word grammar algebra word) report
  block_of number word report (wins, each, is) =
      subst (λ mode. IsReportWith mode command hidden number (posed_word grammar algebra word) wins report) certifies is

  blocks_from : (number : ℕ) → 2 ≤ number → (words reports : List (List ℕ))
      → AreReports command hidden grammar algebra number words reports
      → AreCertificates number (posed_words grammar algebra words) (concat reports)
  blocks_from number many [] [] h = refl
  blocks_from number many [] (report ∷ reports) h = absurd h
  blocks_from number many (word ∷ words) [] h = absurd h
  blocks_from number many (word ∷ words) (report ∷ reports) (first, others) =
      let here = block_of number word report first in (
        here.0,
        concat reports,
        here.1,
        blocks_from (number + 1) (omega arith) words reports others,
        ap (λ (text : List ℕ). text ++ concat reports) (here.2 ∙ ap (λ (text : List ℕ). text ++ here.0) (no_line number many)),
      )

  certified : (bytes : List ℕ) (words reports : List (List ℕ)) → AreReports command hidden grammar algebra 1 words reports
      → IsCertifiedJob (posed_words grammar algebra words) bytes (concat (reports ++ behind_blocks (length words) bytes))
  certified bytes [] [] h = (
    line (codes "cert") ++ [],
    ([], refl, refl),
    ap (λ (text : List ℕ). line (codes "cert") ++ (line (codes "job") ++ text)) (append-nil bytes),
  )
  certified bytes [] (report ∷ reports) h = absurd h
  certified bytes (word ∷ words) [] h = absurd h
  certified bytes (word ∷ words) (report ∷ reports) (first, others) =
      let here = block_of 1 word report first in
      let rest = blocks_from (1 + 1) (omega arith) words reports others in
      let behind : concat (reports ++ (line (codes "job") ++ bytes) ∷ []) ≡ concat reports ++ (line (codes "job") ++ bytes) =
      concat-append reports ((line (codes "job") ++ bytes) ∷ [])
      ∙ ap (λ (text : List ℕ). concat reports ++ text) (append-nil (line (codes "job") ++ bytes)) in
      let start : report ≡ line (codes "cert") ++ here.0 = here.2 in (
        line (codes "cert") ++ (here.0 ++ concat reports),
        (here.0 ++ concat reports, (here.0, concat reports, here.1, rest, refl), refl),
        ap (λ (text : List ℕ). text ++ concat (reports ++ (line (codes "job") ++ bytes) ∷ [])) start
            ∙ ap (λ (text : List ℕ). (line (codes "cert") ++ here.0) ++ text) behind
            ∙ regroup (line (codes "cert")) here.0 (concat reports) (line (codes "job")) bytes,
      )
    where
      regroup : (a b c d e : List ℕ) → (a ++ b) ++ (c ++ (d ++ e)) ≡ ((a ++ (b ++ c)) ++ d) ++ e
      regroup a b c d e = simp append_assoc refl

-- ---- the words of the job

-- all of these words keep the limits of their own algebra
abbrev KeepOwn : Grammar → ℕ → List (List ℕ) → Type 0
KeepOwn grammar algebra [] = Unit {0}
KeepOwn grammar algebra (word ∷ words) = KeepsLimits grammar algebra (length word) × KeepOwn grammar algebra words

own_of : (command : Command) → command.second ≡ None → (grammar : Grammar) (algebra : ℕ) (words : List (List ℕ))
    → KeepLimits command grammar algebra words → KeepOwn grammar algebra words
own_of command single grammar algebra [] kept = tt
own_of command single grammar algebra (word ∷ words) (first, others) = (
  subst (λ second. KeepsLimitsWith second grammar algebra (length word)) single first.0,
  own_of command single grammar algebra words others,
)

-- they keep those of a command that asks for no second algebra and no first candidates
of_own : (command : Command) → command.second ≡ None → command.best ≡ 0 → (grammar : Grammar) (algebra : ℕ)
    (words : List (List ℕ)) → KeepOwn grammar algebra words → KeepLimits command grammar algebra words
of_own command single unlisted grammar algebra [] kept = tt
of_own command single unlisted grammar algebra (word ∷ words) (first, others) = (
  (
    subst (λ second. KeepsLimitsWith second grammar algebra (length word)) (sym single) first,
    λ some. absurd (omega (arith, unlisted, some)),
  ),
  of_own command single unlisted grammar algebra words others,
)

module _ (grammar : Grammar) (algebra : ℕ) (least : List ℕ) (greatest : List (Option ℕ)) (ranks : List ℕ)
    (checked : IsChecked grammar algebra least greatest ranks) where
  all_admissible : (words : List (List ℕ)) → KeepOwn grammar algebra words
      → All IsAdmissible (posed_words grammar algebra words)
  all_admissible [] kept = All-nil IsAdmissible
  all_admissible (word ∷ words) kept =
      All-cons IsAdmissible (posed_word grammar algebra word) (posed_words grammar algebra words)
      (record { least = least; greatest = greatest; ranks = ranks; checked = checked; limits = kept.0 })
      (all_admissible words kept.1)

  scores_there : AcceptLaws → (command : Command) → ReadsJob command.mode → (command.mode ≡ Lex → IsSome command.second)
      → 1 ≤ command.workers → command.second ≡ None → (hidden : Option ℕ) → HidesAlternatives hidden grammar
      → (number : ℕ) (words : List (List ℕ)) → KeepOwn grammar algebra words
      → (reports : List (List ℕ)) × AreReports command hidden grammar algebra number words reports
  scores_there laws command reads paired some alone hidden hides number [] kept = ([], tt)
  scores_there laws command reads paired some alone hidden hides number (word ∷ words) kept =
      let p = posed_word grammar algebra word in
      let is : IsAdmissible p =
      record { least = least; greatest = greatest; ranks = ranks; checked = checked; limits = kept.0 } in
      let first = laws.reports command hidden number p reads paired some
      (subst (λ second. IsAdmissibleWith second p) (sym alone) is) hides in
      let others = scores_there laws command reads paired some alone hidden hides (number + 1) words kept.1 in
      (first.0 ∷ others.0, (first.1, others.1))

none_is : (name : Option (List ℕ)) → IsNone name → name ≡ None
none_is None is = refl
none_is (Some name) is = cc

-- ---- accepted

module _ (laws : AcceptLaws) (words others : List (List ℕ)) (bytes : List ℕ) (pieces : List (List ℕ))
    (command other : Command) (is : IsCommand words command) (certifies : command.mode ≡ Cert)
    (other_is : IsCommand others other) (verifies : other.mode ≡ Verify)
    (one_algebra : NameOneAlgebra command other (concat pieces))
    (checks : IsCheckableInput words bytes) (short : length (concat pieces) ≤ greatest_length) where
  alone : other.second ≡ None
  alone = none_is other.second (no_second others other other_is (λ lex. (let e = sym verifies ∙ lex in cc)))

  unlisted : other.best ≡ 0
  unlisted = no_trees others other other_is (λ kbest. (let e = sym verifies ∙ kbest in cc))

  no_verify : AsksToVerify words → ⊥
  no_verify (found, found_is, verified) =
      let e = sym (ap (λ (c : Command). c.mode) (command_unique words found command found_is is) ∙ certifies) ∙ verified in cc

  of_job : AskForReports words bytes pieces
      → (reports : List (List ℕ)) × IsVerdict others (concat pieces) (Reports reports)
  of_job (job, algebra, asked, kept, reports, are, pieces_are) =
      let same : asked.command ≡ command = command_unique words asked.command command asked.asks.is_command is in
      let mode : asked.command.mode ≡ Cert = ap (λ (c : Command). c.mode) same ∙ certifies in
      let single : asked.command.second ≡ None =
      none_is asked.command.second
      (no_second words asked.command asked.asks.is_command (λ lex. (let e = sym mode ∙ lex in cc))) in
      let limits : KeepOwn job.grammar algebra job.words =
      own_of asked.command single job.grammar algebra job.words kept in
      let found = checks bytes (inl (no_verify, refl)) job algebra asked in
      let whole : concat pieces ≡ concat (reports ++ behind_blocks (length job.words) bytes) =
      ap concat (pieces_are ∙ ap (λ m. reports ++ behind_reports m (length job.words) bytes) mode) in
      let made = certified asked.command mode (hidden_in bytes) job.grammar algebra bytes job.words reports are in
      let text : List ℕ = made.0 in
      let total : concat pieces ≡ text ++ line (codes "job") ++ bytes = whole ∙ made.2 in
      let all = all_admissible job.grammar algebra found.0 found.1 found.2 found.3 job.words limits in
      let long : length (posed_words job.grammar algebra job.words) < length text = laws.long _ text made.1 in
      let few : length job.words < 2 ^ 64 = omega (
        arith,
        long,
        short,
        length-map job.words (posed_word job.grammar algebra),
        ap length total,
        length-append (text ++ line (codes "job")) bytes,
        length-append text (line (codes "job")),
      ) in
      let right : IsRightFor job.grammar algebra job.words text =
      laws.right job.grammar algebra job.words text all few made.1 in
      let parted : IsSplitAtJob (concat pieces) text bytes =
      subst (λ (input : List ℕ). IsSplitAtJob input text bytes) (sym total)
      (laws.split (posed_words job.grammar algebra job.words) job.grammar text bytes right) in
      let name : asked_name asked.command job.grammar ≡ asked_name other job.grammar =
      ap (λ (c : Command). asked_name c job.grammar) same ∙ one_algebra text bytes job parted asked.asks.is_text in
      let reads : ReadsJob other.mode = λ big. (let e = sym verifies ∙ big in cc) in
      let under : AsksUnder others bytes job algebra = record {
        command = other;
        asks = record {
          is_command = other_is;
          reads = reads;
          short_enough = asked.asks.short_enough;
          is_text = asked.asks.is_text;
        };
        faultless = subst (λ (named : List ℕ). IsFaultless job.grammar named algebra) name asked.faultless;
        pair = subst (λ second. MakesPairWith second job.grammar algebra) (sym alone) tt;
      } in
      let within : AsksWithin others bytes = record {
        job = job;
        algebra = algebra;
        asked = under;
        limits = of_own other alone unlisted job.grammar algebra job.words limits;
      } in
      let scores = scores_there job.grammar algebra found.0 found.1 found.2 found.3 laws other reads other_is.paired
      (some_workers others other other_is) alone (hidden_in bytes) (laws.hides bytes job asked.asks.is_text) 1 job.words
      limits in
      (scores.0, inr ((other, other_is, verifies), (short, text, bytes, parted, within, right, scores.1)))

  pub accepted : IsVerdict words bytes (Reports pieces)
      → (reports : List (List ℕ)) × IsVerdict others (concat pieces) (Reports reports)
  accepted (inl (finds, inl asks)) = of_job asks
  accepted (inl (finds, inr (made, made_is, makes, report, big, one))) =
      let e = sym (ap (λ (c : Command). c.mode) (command_unique words made command made_is is) ∙ certifies) ∙ makes in
      absurd cc
  accepted (inr (verifies, certificate)) = absurd (no_verify verifies)
