-- What was written as a certificate is accepted.
use Rattle.std.proofs.Common.{◌≡◌, ℕ, ◌≤◌, Option, Some, List, ◌++◌, length, refl, sym, ap, subst, ◌∙◌}
use Rattle.std.proofs.lemmas.List.{append_cancel_left}
use Rattle.std.specs.List.{concat}
use Rattle.std.specs.Io.KnownBytes.{Appends}
use Rattle.verdicts.specs.declared.command.Mode.TheVariants.{Cert, Verify}
use Rattle.verdicts.specs.CheckableJobs.{IsCheckableInput}
use Rattle.verdicts.specs.Command.{Command, IsCommand}
use Rattle.verdicts.specs.OneAlgebra.{NameOneAlgebra}
use Rattle.verdicts.specs.Verdict.{Verdict, IsVerdict, greatest_length}
use Rattle.verdicts.specs.Verdict as verdicts
use Rattle.adp_main.specs.declared.status.Status.{Status}
use Rattle.adp_main.specs.declared.status.Status.TheVariants.{Done}
use Rattle.adp_main.specs.Certified.{WritesAccepted}
use Rattle.adp_main.specs.Ending.{IsOfVerdict, ShowsVerdict, verdict_reports, verdict_status}

-- the law on certificates that are written
abbrev pub WrittenAreAccepted : Type 0
WrittenAreAccepted = (words others : List (List ℕ)) (bytes : List ℕ) (pieces : List (List ℕ)) (command other : Command)
    → IsCommand words command → command.mode ≡ Cert → IsCommand others other → other.mode ≡ Verify
    → NameOneAlgebra command other (concat pieces) → IsCheckableInput words bytes
    → length (concat pieces) ≤ greatest_length
    → IsVerdict words bytes (verdicts.Reports pieces)
    → (reports : List (List ℕ)) × IsVerdict others (concat pieces) (verdicts.Reports reports)

abbrev pub OneCommand : Type 0
OneCommand = (words : List (List ℕ)) (a b : Command) → IsCommand words a → IsCommand words b → a ≡ b

-- a run that is done has reports
reports_of : (verdict : Verdict) → Done ≡ verdict_status verdict → verdict ≡ verdicts.Reports (verdict_reports verdict)
reports_of verdicts.Usage e = cc
reports_of verdicts.TooLong e = cc
reports_of (verdicts.Text fault) e = cc
reports_of (verdicts.Grammar fault) e = cc
reports_of (verdicts.Limit word fault) e = cc
reports_of (verdicts.Rejected line) e = cc
reports_of (verdicts.Reports reports) e = refl

written_accepted : WrittenAreAccepted → (words : List (List ℕ)) (bytes : List ℕ) → IsCheckableInput words bytes
    → (old new : Option (List ℕ)) → ShowsVerdict words bytes Done old new → WritesAccepted words old new
written_accepted law words bytes checks old new shows = λ command before text is certifies began ended short others other other_is verifies one.
    let pieces : List (List ℕ) = verdict_reports shows.verdict in
    let grown : Appends (Some before) (Some (before ++ text)) (concat pieces) =
    subst (λ (held : Option (List ℕ) × Option (List ℕ)). Appends held.0 held.1 (concat pieces))
    (λ i. (began i, ended i)) shows.written in
    let whole : text ≡ concat pieces = append_cancel_left before text (concat pieces) grown in
    let found = law words others bytes pieces command other is certifies other_is verifies
    (subst (NameOneAlgebra command other) whole one) checks
    (subst (λ (x : List ℕ). length x ≤ greatest_length) whole short)
    (subst (IsVerdict words bytes) (reports_of shows.verdict shows.status_is) shows.is_verdict) in
    (found.0, subst (λ (x : List ℕ). IsVerdict others x (verdicts.Reports found.0)) (sym whole) found.1)

-- so it is with a run whose status is that of a verdict
pub done_accepted : WrittenAreAccepted → (words : List (List ℕ)) (bytes : List ℕ) → IsCheckableInput words bytes
    → (status : Status) → status ≡ Done → (old new : Option (List ℕ))
    → (IsOfVerdict status → ShowsVerdict words bytes status old new) → WritesAccepted words old new
done_accepted law words bytes checks status done old new shows =
    written_accepted law words bytes checks old new
    (subst (λ (s : Status). ShowsVerdict words bytes s old new) done (shows (subst IsOfVerdict (sym done) tt)))

-- words that ask for another mode ask for no certificate
pub no_certificate : OneCommand → (words : List (List ℕ)) (command : Command) → IsCommand words command
    → (command.mode ≡ Cert → ⊥) → (old new : Option (List ℕ)) → WritesAccepted words old new
no_certificate one words command is other old new = λ asked before text asks certifies.
    absurd (other (ap (λ (c : Command). c.mode) (one words command asked is asks) ∙ certifies))
