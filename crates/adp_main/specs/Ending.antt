-- How a run ends: its status, and what it did to the input, the output and the error output.
use Rattle.std.specs.Prelude.{◌≡◌, ◌↔◌, ◌⊎◌, ℕ, ◌+◌, List, [], length, take, Option, Some, IfSome}
use Rattle.std.specs.List.{concat}
use Rattle.std.specs.Io.KnownBytes.{Appends, IsAtEnd}
use Rattle.adp_io.specs.Causes.{RisesWhere, Rose, next_count}
use Rattle.adp_io.specs.Streams.{AppendsProperPrefix, AsksForAtMost, CallsAtMost, LosesAtMost, SameTold, job_limit, piece_limit}
use Rattle.verdicts.specs.Command.{HasCommand, AsksForJob}
use Rattle.verdicts.specs.Verdict.{Verdict, IsVerdict}
use Rattle.verdicts.specs.Verdict as verdicts
use Rattle.report.specs.declared.fault.Fault.{Fault}
use Rattle.adp_main.specs.declared.status.Status.{Status}
use Rattle.adp_main.specs.declared.status.Status.TheVariants.{Done, Usage, ReadFault, WriteFault, Text, Grammar, Limit, Memory, Rejected}
use Rattle.report.specs.Faults.{fault_line}
use Rattle.adp_main.specs.Faults.{status_of, fault_verdict}
use Rattle.evaluators.specs.declared.finished.RunNote.{RunNote}
use Rattle.adp_main.specs.RunNotes.{ShowsRuns}

-- the bytes that the input of a run on these words tells; where the words ask for no job none are read, so all will do
abbrev pub IsInput : List (List ℕ) → Option (List ℕ) → List ℕ → Type 0
IsInput words told bytes = (told ≡ Some bytes) ⊎ (AsksForJob words → ⊥)

-- the status of a run that comes to this verdict
abbrev pub verdict_status : Verdict → Status
verdict_status verdicts.Usage = Usage
verdict_status verdicts.TooLong = Text
verdict_status (verdicts.Text fault) = Text
verdict_status (verdicts.Grammar fault) = Grammar
verdict_status (verdicts.Limit word fault) = Limit
verdict_status (verdicts.Rejected line) = Rejected
verdict_status (verdicts.Reports reports) = Done

-- the reports of a verdict, in order of words: a fault has none
abbrev pub verdict_reports : Verdict → List (List ℕ)
verdict_reports verdicts.Usage = []
verdict_reports verdicts.TooLong = []
verdict_reports (verdicts.Text fault) = []
verdict_reports (verdicts.Grammar fault) = []
verdict_reports (verdicts.Limit word fault) = []
verdict_reports (verdicts.Rejected line) = []
verdict_reports (verdicts.Reports reports) = reports

-- a run with this status came to a verdict: no read or write failed, and there was memory enough
abbrev pub IsOfVerdict : Status → Type 0
IsOfVerdict Done = Unit {0}
IsOfVerdict Usage = Unit {0}
IsOfVerdict Text = Unit {0}
IsOfVerdict Grammar = Unit {0}
IsOfVerdict Limit = Unit {0}
IsOfVerdict Rejected = Unit {0}
IsOfVerdict ReadFault = ⊥
IsOfVerdict WriteFault = ⊥
IsOfVerdict Memory = ⊥

-- a run with this status ended before it began to write
abbrev pub IsBeforeWriting : Status → Type 0
IsBeforeWriting Usage = Unit {0}
IsBeforeWriting ReadFault = Unit {0}
IsBeforeWriting Text = Unit {0}
IsBeforeWriting Grammar = Unit {0}
IsBeforeWriting Limit = Unit {0}
IsBeforeWriting Rejected = Unit {0}
IsBeforeWriting Done = ⊥
IsBeforeWriting WriteFault = ⊥
IsBeforeWriting Memory = ⊥

-- the status is that of the verdict on the words and the bytes, and told bytes grew by its reports, one after another
pub record ShowsVerdict (words : List (List ℕ)) (bytes : List ℕ) (status : Status) (old new : Option (List ℕ))
    : Type 0 where
  pub verdict : Verdict
  pub is_verdict : IsVerdict words bytes verdict
  pub status_is : status ≡ verdict_status verdict
  pub written : Appends old new (concat (verdict_reports verdict))

-- the verdict on the words and the bytes are reports, and told bytes grew by a part of them that is not the whole
pub record ShowsPart (words : List (List ℕ)) (bytes : List ℕ) (old new : Option (List ℕ)) : Type 0 where
  pub reports : List (List ℕ)
  pub is_verdict : IsVerdict words bytes (verdicts.Reports reports)
  pub written : AppendsProperPrefix old new (concat reports)

-- told bytes grew by nothing, or by the first of the reports that are the verdict on the words and the bytes
abbrev pub ShowsFirst : List (List ℕ) → List ℕ → Option (List ℕ) → Option (List ℕ) → Type 0
ShowsFirst words bytes old new =
    Appends old new []
    ⊎ ((reports : List (List ℕ)) × (count : ℕ) × IsVerdict words bytes (verdicts.Reports reports)
    × Appends old new (concat (take count reports)))

-- what a run on these words with this status did to its input, of which its bytes left, its count of faults, its calls
-- and the most that it was asked for are seen
pub record InputAfter {S : Type 0} (left : S → Option (List ℕ)) (faults : S → ℕ) (calls asked : S → Option ℕ)
    (words : List (List ℕ)) (old new : S) (status : Status) : Type 0 where
  -- its count rose by one at ReadFault, and stood still otherwise
  pub read_fault : RisesWhere (faults old) (faults new) (status ≡ ReadFault)
  pub told : SameTold (left old) (left new)
  -- what was taken at most, and at most where a read failed
  pub taken : LosesAtMost (left old) (left new) (job_limit + 1)
  pub taken_at_fault : status ≡ ReadFault → LosesAtMost (left old) (left new) job_limit
  pub read_to_end : status ≡ Done → AsksForJob words → IsAtEnd (left new)
  pub nothing_read : (AsksForJob words → ⊥) → new ≡ old
  -- it was called no more often than `read_job` calls it: once for each byte, and once at the end
  pub few_calls : CallsAtMost (calls old) (calls new) (job_limit + 1)
  pub told_calls : IfSome (left old) (λ bytes. CallsAtMost (calls old) (calls new) (length bytes + 1))
  pub asked_little : AsksForAtMost (asked old) (asked new) piece_limit

-- what a run with this status did to its output, of which the bytes that it holds and its count of faults are seen
pub record OutputAfter {K : Type 0} (held : K → Option (List ℕ)) (faults : K → ℕ) (old new : K) (status : Status)
    : Type 0 where
  -- its count rose by one at WriteFault, and stood still otherwise
  pub write_fault : RisesWhere (faults old) (faults new) (status ≡ WriteFault)
  pub told : SameTold (held old) (held new)
  pub grew : (bytes : List ℕ) × Appends (held old) (held new) bytes
  pub untouched : IsBeforeWriting status → new ≡ old

-- how a run on these words ended with this status
pub record Ending {S K G : Type 0} (left : S → Option (List ℕ)) (read_faults : S → ℕ) (calls asked : S → Option ℕ)
    (held : K → Option (List ℕ)) (write_faults : K → ℕ) (runs : G → Option (List RunNote)) (words : List (List ℕ))
    (input input' : S) (out out' : K) (gate gate' : G) (status : Status) : Type 0 where
  pub usage : (status ≡ Usage) ↔ (HasCommand words → ⊥)
  pub reading : InputAfter left read_faults calls asked words input input' status
  pub writing : OutputAfter held write_faults out out' status
  -- where the input tells its bytes: the status and the reports are those of the verdict on them
  pub verdict : IsOfVerdict status → (bytes : List ℕ) → IsInput words (left input) bytes
      → ShowsVerdict words bytes status (held out) (held out')
  pub part : status ≡ WriteFault → (bytes : List ℕ) → IsInput words (left input) bytes
      → ShowsPart words bytes (held out) (held out')
  pub first : status ≡ Memory → (bytes : List ℕ) → IsInput words (left input) bytes
      → ShowsFirst words bytes (held out) (held out')
  -- what evaluators ran for is what was written
  pub noted : ShowsRuns words (left input) status (runs gate) (runs gate') (held out) (held out')
  -- where no count rose, the run comes to a verdict, unless memory runs out
  pub complete : (Rose (read_faults input) (read_faults input') → ⊥)
      → (Rose (write_faults out) (write_faults out') → ⊥) → IsOfVerdict status ⊎ (status ≡ Memory)
  -- and where the verdict are reports it is done then
  pub accepted : (bytes : List ℕ) → IsInput words (left input) bytes → (reports : List (List ℕ))
      → IsVerdict words bytes (verdicts.Reports reports) → (Rose (read_faults input) (read_faults input') → ⊥)
      → (Rose (write_faults out) (write_faults out') → ⊥) → (status ≡ Done) ⊎ (status ≡ Memory)

-- a text was written whole, or a proper prefix of it where a write failed
abbrev pub WritesText : Option (List ℕ) → Option (List ℕ) → ℕ → ℕ → List ℕ → Type 0
WritesText old new before now text =
    (Appends old new text × (now ≡ before)) ⊎ (AppendsProperPrefix old new text × (now ≡ next_count before))

-- the fault of a run with this status: where it tells a verdict, that is the verdict on the words and the bytes, and
-- its line was written
pub record ShowsFault (left : Option (List ℕ)) (words : List (List ℕ)) (status : Status) (old new : Option (List ℕ))
    (before now : ℕ) : Type 0 where
  pub fault : Fault
  pub status_is : status ≡ status_of fault
  pub is_verdict : IfSome (fault_verdict fault) (λ verdict. (bytes : List ℕ) → IsInput words left bytes
      → IsVerdict words bytes verdict)
  pub written : WritesText old new before now (fault_line fault)
