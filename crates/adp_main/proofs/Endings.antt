-- How runs end: from what was read and what was written to the record of the whole run.
use Rattle.std.proofs.Common.{◌≡◌, ℕ, ◌+◌, ◌≤◌, List, [], ◌++◌, length, Option, Some, None, IfSome, Result, Ok, Err, OnOk, OnErr, IfErr, ◌⊎◌, inl, inr, refl, sym, ap, ◌∙◌, subst, arith, IsErrOf, IsErr, ◌<◌}
use Rattle.std.specs.Io.KnownBytes.{Appends, Consumes, IsAtEnd}
use Rattle.std.proofs.KnownBytes.{Appends-nil, Consumes-nil}
use Rattle.std.proofs.lemmas.List.{append-nil}
use Rattle.adp_io.specs.declared.job.JobFault.{JobFault}
use Rattle.adp_io.specs.declared.job.JobFault.TheVariants as job_faults
use Rattle.adp_io.specs.declared.whole.WriteFault.{WriteFault as Unwritten}
use Rattle.adp_io.specs.Causes.{RisesWhere, Rose}
use Rattle.adp_io.specs.Streams.{AppendsProperPrefix, AsksForAtMost, CallsAtMost, LosesAtMost, SameTold, job_limit, piece_limit}
use Rattle.verdicts.specs.declared.command.Mode.{Mode}
use Rattle.verdicts.specs.declared.command.Mode.TheVariants.{Verify, Big}
use Rattle.verdicts.specs.Command.{Command, IsCommand, HasCommand, AsksForJob, AsksToVerify}
use Rattle.verdicts.specs.Verdict.{Verdict, IsReports, IsVerdict, greatest_length}
use Rattle.evaluators.specs.declared.finished.RunNote.{RunNote}
use Rattle.adp_main.specs.RunNotes.{IsBigRun, ShowsRuns}
use Rattle.adp_main.specs.Writing.{IsWordEnding}
use Rattle.adp_main.proofs.Made.{made_ending}
use Rattle.verdicts.specs.Verdict as verdicts
use Rattle.report.specs.declared.fault.Fault.{Fault}
use Rattle.report.specs.declared.fault.Fault.TheVariants as faults
use Rattle.adp_main.specs.declared.status.Status.{Status}
use Rattle.adp_main.specs.declared.status.Status.TheVariants.{Done, Usage, ReadFault, WriteFault, Text, Grammar, Limit, Memory, Rejected}
use Rattle.adp_main.specs.Faults.{fault_verdict, reading_fault, status_after, status_of}
use Rattle.adp_main.specs.Ending.{Ending, InputAfter, IsInput, IsOfVerdict, OutputAfter, ShowsFirst, ShowsPart, ShowsVerdict, WritesText, verdict_status}

-- a verdict on words and bytes whose reports are one is reports
abbrev pub OnlyReports : Type 0
OnlyReports = (words : List (List ℕ)) (bytes : List ℕ) (reports : List (List ℕ)) (verdict : Verdict)
    → IsVerdict words bytes (verdicts.Reports reports) → IsVerdict words bytes verdict → IsReports verdict

-- what holds of all values holds of the one that there may be
always : {A : Type 0} (value : Option A) (P : A → Type 0) → ((x : A) → P x) → IfSome value P
always None P holds = tt
always (Some x) P holds = holds x

-- the bytes that an input tells, where a job is read
told_input : (words : List (List ℕ)) (left : Option (List ℕ)) (bytes : List ℕ) → AsksForJob words
    → IsInput words left bytes → left ≡ Some bytes
told_input words left bytes asks (inl is) = is
told_input words left bytes asks (inr none) = absurd (none asks)

of_told : (left : Option (List ℕ)) (bytes : List ℕ) (P : List ℕ → Type 0) → IfSome left P → left ≡ Some bytes → P bytes
of_told left bytes P holds is = subst (λ it. IfSome it P) is holds

done_of : (status : Status) (verdict : Verdict) → IsReports verdict → status ≡ verdict_status verdict → status ≡ Done
done_of status (verdicts.Reports reports) is same = same
done_of status verdicts.Usage is same = absurd is
done_of status verdicts.TooLong is same = absurd is
done_of status (verdicts.Text fault) is same = absurd is
done_of status (verdicts.Grammar fault) is same = absurd is
done_of status (verdicts.Limit word fault) is same = absurd is
done_of status (verdicts.Rejected line) is same = absurd is

-- where the verdict are reports, a run that comes to a verdict is done
is_done : OnlyReports → (words : List (List ℕ)) (bytes : List ℕ) (status : Status) (held held' : Option (List ℕ))
    (reports : List (List ℕ)) → IsVerdict words bytes (verdicts.Reports reports)
    → ShowsVerdict words bytes status held held' → status ≡ Done
is_done only words bytes status held held' reports is shown =
    done_of status shown.verdict (only words bytes reports shown.verdict is shown.is_verdict) shown.status_is

-- a count over a call that did not fail
stood : (count : ℕ) (failed : Type 0) → (failed → ⊥) → RisesWhere count count failed
stood count failed not_failed = record { later = omega arith; rises = λ h. absurd (not_failed h); stands = λ _. refl }

-- a source that was not called
calls_none : (calls : Option ℕ) (limit : ℕ) → CallsAtMost calls calls limit
calls_none None limit = tt
calls_none (Some x) limit = omega arith

asked_none : (asked : Option ℕ) → AsksForAtMost asked asked piece_limit
asked_none None = tt
asked_none (Some x) = (omega arith, omega arith)

-- how often a source was called and asked for how much while a job was read
pub record IsRead {S : Type 0} (left : S → Option (List ℕ)) (calls asked : S → Option ℕ) (old new : S) : Type 0 where
  pub few_calls : CallsAtMost (calls old) (calls new) (job_limit + 1)
  pub told_calls : IfSome (left old) (λ bytes. CallsAtMost (calls old) (calls new) (length bytes + 1))
  pub asked_little : AsksForAtMost (asked old) (asked new) piece_limit

-- nothing was written
pub unwritten : {K : Type 0} (held : K → Option (List ℕ)) (write_faults : K → ℕ) (out : K) (status : Status) → (status ≡ WriteFault → ⊥)
    → OutputAfter held write_faults out out status
unwritten held write_faults out status no_write = record { write_fault = stood _ _ no_write; told = refl; grew = ([], Appends-nil _); untouched = λ _. refl }

-- nothing was read
not_read_at_all : {S : Type 0} (left : S → Option (List ℕ)) (read_faults : S → ℕ) (calls asked : S → Option ℕ)
    (words : List (List ℕ)) (input : S) (status : Status) → (AsksForJob words → ⊥) → (status ≡ ReadFault → ⊥)
    → InputAfter left read_faults calls asked words input input status
not_read_at_all left read_faults calls asked words input status none unread = record {
  read_fault = stood _ _ unread;
  told = refl;
  taken = ([], Consumes-nil _, omega arith);
  taken_at_fault = λ e. absurd (unread e);
  read_to_end = λ _ asks. absurd (none asks);
  nothing_read = λ _. refl;
  few_calls = calls_none (calls input) (job_limit + 1);
  told_calls = always (left input) (λ bytes. CallsAtMost (calls input) (calls input) (length bytes + 1))
      (λ bytes. calls_none (calls input) (length bytes + 1));
  asked_little = asked_none (asked input);
}

-- ---- the verdict on a job, and on a certificate

abbrev pub OneCommand : Type 0
OneCommand = (words : List (List ℕ)) (a b : Command) → IsCommand words a → IsCommand words b → a ≡ b

-- words that are a command in another mode ask to check no certificate
pub finds_answers : OneCommand → (words : List (List ℕ)) (command : Command) → IsCommand words command
    → (command.mode ≡ Verify → ⊥) → AsksToVerify words → ⊥
finds_answers one words command is other (found, found_is, verifies) =
    other (ap (λ (c : Command). c.mode) (one words command found is found_is) ∙ verifies)

verify_or_not : (mode : Mode) → (mode ≡ Verify) ⊎ (mode ≡ Verify → ⊥)
verify_or_not Verify = inl refl
verify_or_not mode = inr (λ e. cc)

usage_verdict : (words : List (List ℕ)) (bytes : List ℕ) → (HasCommand words → ⊥)
    → IsVerdict words bytes verdicts.Usage
usage_verdict words bytes none = inl (λ verifies. none (verifies.0, verifies.1), none)

too_long_verdict : OneCommand → (words : List (List ℕ)) (bytes : List ℕ) → AsksForJob words
    → greatest_length < length bytes → IsVerdict words bytes verdicts.TooLong
too_long_verdict one words bytes asks long = by (verify_or_not asks.0.mode)
  where
    by : (asks.0.mode ≡ Verify) ⊎ (asks.0.mode ≡ Verify → ⊥) → IsVerdict words bytes verdicts.TooLong
    by (inl verifies) = inr ((asks.0, asks.1, verifies), long)
    by (inr other) = inl (finds_answers one words asks.0 asks.1 other, (asks, long))

-- the words are no command
pub ends_usage : {S K G : Type 0} (left : S → Option (List ℕ)) (read_faults : S → ℕ) (calls asked : S → Option ℕ)
    (held : K → Option (List ℕ)) (write_faults : K → ℕ) (runs : G → Option (List RunNote))
    (words : List (List ℕ)) (input : S) (out : K) (gate : G) → OnlyReports → (HasCommand words → ⊥)
    → Ending left read_faults calls asked held write_faults runs words input input out out gate gate Usage
ends_usage left read_faults calls asked held write_faults runs words input out gate only no_command = record {
  usage = (λ _. no_command, λ _. refl);
  reading = not_read_at_all left read_faults calls asked words input Usage
      (λ asks. no_command (asks.0, asks.1)) (λ e. cc);
  writing = unwritten held write_faults out Usage (λ e. cc);
  verdict = λ _ bytes _. record {
    verdict = verdicts.Usage;
    is_verdict = usage_verdict words bytes no_command;
    status_is = refl;
    written = Appends-nil _;
  };
  part = λ e. cc;
  first = λ e. cc;
  noted = inl (refl, λ e. absurd cc);
  complete = λ _ _. inl tt;
  accepted = λ bytes _ reports is _ _. absurd (only words bytes reports verdicts.Usage is (usage_verdict words bytes no_command));
}

-- the input is not read whole
pub ends_unread : {S K G T : Type 0} (left : S → Option (List ℕ)) (read_faults : S → ℕ) (calls asked : S → Option ℕ)
    (held : K → Option (List ℕ)) (write_faults : K → ℕ) (runs : G → Option (List RunNote))
    (words : List (List ℕ)) (input input' : S) (out : K) (gate : G) (fault : JobFault) → OnlyReports → OneCommand → AsksForJob words
    → RisesWhere (read_faults input) (read_faults input') (IsErrOf {T = T} (Err fault) job_faults.ReadFault)
    → SameTold (left input) (left input') → LosesAtMost (left input) (left input') (job_limit + 1)
    → (IsErrOf {T = T} (Err fault) job_faults.ReadFault → LosesAtMost (left input) (left input') job_limit)
    → (IsErrOf {T = T} (Err fault) job_faults.TooLong → IfSome (left input) (λ bytes. job_limit < length bytes))
    → IsRead left calls asked input input'
    → Ending left read_faults calls asked held write_faults runs words input input' out out gate gate (status_of (reading_fault fault))
ends_unread left read_faults calls asked held write_faults runs words input input' out gate job_faults.ReadFault only one asks counted same lost within long read = record {
  usage = (λ e. cc, λ no_command. absurd (no_command (asks.0, asks.1)));
  reading = record {
    read_fault = record { later = counted.later; rises = λ _. counted.rises refl; stands = λ no. absurd (no refl) };
    told = same;
    taken = lost;
    taken_at_fault = λ _. within refl;
    read_to_end = λ e. cc;
    nothing_read = λ none. absurd (none asks);
    few_calls = read.few_calls;
    told_calls = read.told_calls;
    asked_little = read.asked_little;
  };
  writing = unwritten held write_faults out ReadFault (λ e. cc);
  verdict = λ of. absurd of;
  part = λ e. cc;
  first = λ e. cc;
  noted = inl (refl, λ e. absurd cc);
  complete = λ not_rose _. absurd (not_rose (omega (arith, counted.rises refl)));
  accepted = λ _ _ _ _ not_rose _. absurd (not_rose (omega (arith, counted.rises refl)));
}
ends_unread left read_faults calls asked held write_faults runs words input input' out gate job_faults.TooLong only one asks counted same lost within long read = record {
  usage = (λ e. cc, λ no_command. absurd (no_command (asks.0, asks.1)));
  reading = record {
    read_fault = record { later = counted.later; rises = λ e. cc; stands = λ _. counted.stands (λ e. cc) };
    told = same;
    taken = lost;
    taken_at_fault = λ e. cc;
    read_to_end = λ e. cc;
    nothing_read = λ none. absurd (none asks);
    few_calls = read.few_calls;
    told_calls = read.told_calls;
    asked_little = read.asked_little;
  };
  writing = unwritten held write_faults out Text (λ e. cc);
  verdict = λ _ bytes input_is. record {
    verdict = verdicts.TooLong;
    is_verdict = too_long_verdict one words bytes asks
        (of_told (left input) bytes (λ bytes. job_limit < length bytes) (long refl)
        (told_input words (left input) bytes asks input_is));
    status_is = refl;
    written = Appends-nil _;
  };
  part = λ e. cc;
  first = λ e. cc;
  noted = inl (refl, λ e. absurd cc);
  complete = λ _ _. inl tt;
  accepted = λ bytes input_is reports is _ _. absurd (only words bytes reports verdicts.TooLong is
      (too_long_verdict one words bytes asks
      (of_told (left input) bytes (λ bytes. job_limit < length bytes) (long refl)
      (told_input words (left input) bytes asks input_is))));
}
ends_unread left read_faults calls asked held write_faults runs words input input' out gate job_faults.Memory only one asks counted same lost within long read = record {
  usage = (λ e. cc, λ no_command. absurd (no_command (asks.0, asks.1)));
  reading = record {
    read_fault = record { later = counted.later; rises = λ e. cc; stands = λ _. counted.stands (λ e. cc) };
    told = same;
    taken = lost;
    taken_at_fault = λ e. cc;
    read_to_end = λ e. cc;
    nothing_read = λ none. absurd (none asks);
    few_calls = read.few_calls;
    told_calls = read.told_calls;
    asked_little = read.asked_little;
  };
  writing = unwritten held write_faults out Memory (λ e. cc);
  verdict = λ of. absurd of;
  part = λ e. cc;
  first = λ _ bytes _. inl (Appends-nil _);
  noted = inl (refl, λ e. absurd cc);
  complete = λ _ _. inr refl;
  accepted = λ _ _ _ _ _ _. inr refl;
}

-- the verdict that the fault of an input tells that is not read whole
pub unread_fault : {T : Type 0} (left : Option (List ℕ)) (words : List (List ℕ)) (fault : JobFault) → OneCommand
    → AsksForJob words
    → (IsErrOf {T = T} (Err fault) job_faults.TooLong → IfSome left (λ bytes. job_limit < length bytes))
    → IfSome (fault_verdict (reading_fault fault)) (λ verdict. (bytes : List ℕ) → IsInput words left bytes
    → IsVerdict words bytes verdict)
unread_fault left words job_faults.ReadFault one asks long = tt
unread_fault left words job_faults.Memory one asks long = tt
unread_fault left words job_faults.TooLong one asks long = λ bytes input_is.
    too_long_verdict one words bytes asks
    (of_told left bytes (λ bytes. job_limit < length bytes) (long refl) (told_input words left bytes asks input_is))

-- an input that was read to its end lost all its bytes
consumes_all : (old new : Option (List ℕ)) (bytes : List ℕ) → SameTold old new → IfSome old (λ left. bytes ≡ left) → IsAtEnd new → Consumes old new bytes
consumes_all None new bytes same whole end = tt
consumes_all (Some xs) None bytes same whole end = cc
consumes_all (Some xs) (Some ys) bytes same whole end = sym whole ∙ sym (append-nil bytes) ∙ ap (λ rest. bytes ++ rest) (sym end)

-- a run that read its input to the end
reads_all : {S : Type 0} (left : S → Option (List ℕ)) (read_faults : S → ℕ) (calls asked : S → Option ℕ) (words : List (List ℕ)) (old new : S) (status : Status) (bytes : List ℕ)
    → read_faults new ≡ read_faults old → SameTold (left old) (left new) → IfSome (left old) (λ left. bytes ≡ left) → IsAtEnd (left new) → length bytes ≤ job_limit
    → AsksForJob words → (status ≡ ReadFault → ⊥) → IsRead left calls asked old new → InputAfter left read_faults calls asked words old new status
reads_all left read_faults calls asked words old new status bytes stands same whole end fits asks no_read read =
    let all = consumes_all (left old) (left new) bytes same whole end in
    record {
      read_fault = record { later = omega arith; rises = λ e. absurd (no_read e); stands = λ _. stands };
      told = same;
      taken = (bytes, all, omega arith);
      taken_at_fault = λ e. absurd (no_read e);
      read_to_end = λ _ _. end;
      nothing_read = λ none. absurd (none asks);
      few_calls = read.few_calls;
      told_calls = read.told_calls;
      asked_little = read.asked_little;
    }

-- a run in which no count rose comes to a verdict, or lacks memory
completes : (status : Status) (before now : ℕ) → (status ≡ ReadFault → ⊥) → RisesWhere before now (status ≡ WriteFault) → (Rose before now → ⊥) → IsOfVerdict status ⊎ (status ≡ Memory)
completes Done before now no_read counted not_rose = inl tt
completes Usage before now no_read counted not_rose = inl tt
completes Text before now no_read counted not_rose = inl tt
completes Grammar before now no_read counted not_rose = inl tt
completes Limit before now no_read counted not_rose = inl tt
completes Rejected before now no_read counted not_rose = inl tt
completes Memory before now no_read counted not_rose = inr refl
completes ReadFault before now no_read counted not_rose = absurd (no_read refl)
completes WriteFault before now no_read counted not_rose = absurd (not_rose (omega (arith, counted.rises refl)))

accepted_by : {status : Status} → IsOfVerdict status ⊎ (status ≡ Memory) → (IsOfVerdict status → status ≡ Done)
    → (status ≡ Done) ⊎ (status ≡ Memory)
accepted_by (inl of) done = inl (done of)
accepted_by (inr memory) done = inr memory

not_usage : (result : Result (Unit {0}) Fault) → (IsErrOf result faults.Usage → ⊥) → status_after result ≡ Usage → ⊥
not_usage (Ok x) refuses e = cc
not_usage (Err faults.Usage) refuses e = refuses refl
not_usage (Err faults.Read) refuses e = cc
not_usage (Err faults.Write) refuses e = cc
not_usage (Err faults.TooLong) refuses e = cc
not_usage (Err (faults.Text fault)) refuses e = cc
not_usage (Err (faults.Grammar fault)) refuses e = cc
not_usage (Err (faults.Limit word fault)) refuses e = cc
not_usage (Err (faults.Rejected line)) refuses e = cc
not_usage (Err faults.Memory) refuses e = cc

not_read : (result : Result (Unit {0}) Fault) → (IsErrOf result faults.Read → ⊥) → status_after result ≡ ReadFault → ⊥
not_read (Ok x) refuses e = cc
not_read (Err faults.Usage) refuses e = cc
not_read (Err faults.Read) refuses e = refuses refl
not_read (Err faults.Write) refuses e = cc
not_read (Err faults.TooLong) refuses e = cc
not_read (Err (faults.Text fault)) refuses e = cc
not_read (Err (faults.Grammar fault)) refuses e = cc
not_read (Err (faults.Limit word fault)) refuses e = cc
not_read (Err (faults.Rejected line)) refuses e = cc
not_read (Err faults.Memory) refuses e = cc

by_write : (result : Result (Unit {0}) Fault) → status_after result ≡ WriteFault → IsErrOf result faults.Write
by_write (Ok x) e = cc
by_write (Err faults.Usage) e = cc
by_write (Err faults.Read) e = cc
by_write (Err faults.Write) e = refl
by_write (Err faults.TooLong) e = cc
by_write (Err (faults.Text fault)) e = cc
by_write (Err (faults.Grammar fault)) e = cc
by_write (Err (faults.Limit word fault)) e = cc
by_write (Err (faults.Rejected line)) e = cc
by_write (Err faults.Memory) e = cc

by_memory : (result : Result (Unit {0}) Fault) → status_after result ≡ Memory → IsErrOf result faults.Memory
by_memory (Ok x) e = cc
by_memory (Err faults.Usage) e = cc
by_memory (Err faults.Read) e = cc
by_memory (Err faults.Write) e = cc
by_memory (Err faults.TooLong) e = cc
by_memory (Err (faults.Text fault)) e = cc
by_memory (Err (faults.Grammar fault)) e = cc
by_memory (Err (faults.Limit word fault)) e = cc
by_memory (Err (faults.Rejected line)) e = cc
by_memory (Err faults.Memory) e = refl

-- notes beside the bytes that came, which are those that an input tells
runs_left : (words : List (List ℕ)) (left : Option (List ℕ)) (came bytes : List ℕ) (status : Status)
    (old new : Option (List RunNote)) (held held' : Option (List ℕ)) → IfSome left (λ left. came ≡ left) → bytes ≡ came
    → ShowsRuns words (Some bytes) status old new held held' → ShowsRuns words left status old new held held'
runs_left words left came bytes status old new held held' whole same (inl none) = inl none
runs_left words left came bytes status old new held held' whole same (inr (inr made)) = inr (inr made)
runs_left words None came bytes status old new held held' whole same (inr (inl (finds, all, is, runs))) =
    inr (inl (finds, all, tt, runs))
runs_left words (Some told) came bytes status old new held held' whole same (inr (inl (finds, all, is, runs))) =
    inr (inl (finds, all, is ∙ same ∙ whole, runs))

-- the words are taken, the input is read, and then the reports are written
pub ends : {S K G : Type 0} (left : S → Option (List ℕ)) (read_faults : S → ℕ) (calls asked : S → Option ℕ)
    (held : K → Option (List ℕ)) (write_faults : K → ℕ) (runs : G → Option (List RunNote))
    (words : List (List ℕ)) (came bytes : List ℕ) (input input' : S) (out out' : K) (gate gate' : G)
    (result : Result (Unit {0}) Fault)
    → OnlyReports → AsksForJob words → bytes ≡ came
    → read_faults input' ≡ read_faults input → SameTold (left input) (left input')
    → IfSome (left input) (λ left. came ≡ left) → IsAtEnd (left input') → length came ≤ job_limit
    → IsRead left calls asked input input'
    → (IsErrOf result faults.Usage → ⊥) → (IsErrOf result faults.Read → ⊥)
    → OutputAfter held write_faults out out' (status_after result)
    → (IsOfVerdict (status_after result)
    → ShowsVerdict words bytes (status_after result) (held out) (held out'))
    → (IsErrOf result faults.Write → ShowsPart words bytes (held out) (held out'))
    → (IsErrOf result faults.Memory → ShowsFirst words bytes (held out) (held out'))
    → ShowsRuns words (Some bytes) (status_after result) (runs gate) (runs gate') (held out) (held out')
    → Ending left read_faults calls asked held write_faults runs words input input' out out' gate gate' (status_after result)
ends left read_faults calls asked held write_faults runs words came bytes input input' out out' gate gate' result only asks same stands same_told whole end fits read
    no_usage no_read writing verdict part first noted =
    let status = status_after result in
    let usage : status ≡ Usage → ⊥ = not_usage result no_usage in
    let unread : status ≡ ReadFault → ⊥ = not_read result no_read in
    let here : (other : List ℕ) → IsInput words (left input) other → bytes ≡ other =
    λ other is. same ∙ of_told (left input) other (λ it. came ≡ it) whole (told_input words (left input) other asks is) in
    let shown : IsOfVerdict status → (other : List ℕ) → IsInput words (left input) other
    → ShowsVerdict words other status (held out) (held out') =
    λ of other is. subst (λ it. ShowsVerdict words it status (held out) (held out')) (here other is) (verdict of) in
    record {
      usage = (λ e. absurd (usage e), λ no_command. absurd (no_command (asks.0, asks.1)));
      reading = reads_all left read_faults calls asked words input input' status came stands same_told whole end fits asks
          unread read;
      writing = writing;
      verdict = shown;
      part = λ e other is. subst (λ it. ShowsPart words it (held out) (held out')) (here other is)
          (part (by_write result e));
      first = λ e other is. subst (λ it. ShowsFirst words it (held out) (held out')) (here other is)
          (first (by_memory result e));
      noted = runs_left words (left input) came bytes status (runs gate) (runs gate') (held out) (held out') whole same
          noted;
      complete = λ _ not_rose. completes status (write_faults out) (write_faults out') unread writing.write_fault not_rose;
      accepted = λ other is reports reported _ not_rose. accepted_by
          (completes status (write_faults out) (write_faults out') unread writing.write_fault not_rose)
          (λ of. is_done only words other status (held out) (held out') reports reported (shown of other is));
    }

-- words that ask for a word to be made ask for no job
pub makes_no_job : ((words : List (List ℕ)) (a b : Command) → IsCommand words a → IsCommand words b → a ≡ b)
    → (words : List (List ℕ)) (command : Command) → IsCommand words command → command.mode ≡ Big → AsksForJob words → ⊥
makes_no_job one words command is makes (other, other_is, reads) =
    reads (ap (λ (c : Command). c.mode) (one words other command other_is is) ∙ makes)

-- a word is made and reported
pub ends_made : {S K G : Type 0} (left : S → Option (List ℕ)) (read_faults : S → ℕ) (calls asked : S → Option ℕ)
    (held : K → Option (List ℕ)) (write_faults : K → ℕ) (runs : G → Option (List RunNote))
    (words : List (List ℕ)) (input : S) (out out' : K) (gate gate' : G) (command : Command)
    (result : Result (Unit {0}) Fault)
    → OnlyReports → IsCommand words command → command.mode ≡ Big → (AsksForJob words → ⊥)
    → SameTold (held out) (held out')
    → RisesWhere (write_faults out) (write_faults out') (status_after result ≡ WriteFault)
    → IsWordEnding (IsBigRun command) result (runs gate) (runs gate') (held out) (held out')
    → Ending left read_faults calls asked held write_faults runs words input input out out' gate gate' (status_after result)
ends_made left read_faults calls asked held write_faults runs words input out out' gate gate' command result only is makes none same counted ending =
    let made = made_ending words command is makes
    (λ verifies. none (verifies.0, verifies.1, λ big. (let e = sym verifies.2 ∙ big in cc))) result (runs gate) (runs gate') (held out) (held out') ending in
    let unread : status_after result ≡ ReadFault → ⊥ = made.not_read in
    record {
      usage = (λ e. absurd (made.not_usage e), λ no_command. absurd (no_command (command, is)));
      reading = not_read_at_all left read_faults calls asked words input (status_after result) none unread;
      writing = record {
        write_fault = counted;
        told = same;
        grew = made.grew;
        untouched = λ before. absurd (made.writes before);
      };
      verdict = λ of bytes _. made.verdict of bytes;
      part = λ e bytes _. made.part e bytes;
      first = λ e bytes _. made.first e bytes;
      noted = made.noted (left input);
      complete = λ _ not_rose. completes (status_after result) (write_faults out) (write_faults out') unread counted
          not_rose;
      accepted = λ bytes _ reports reported _ not_rose. accepted_by
          (completes (status_after result) (write_faults out) (write_faults out') unread counted not_rose)
          (λ of. is_done only words bytes (status_after result) (held out) (held out') reports reported
          (made.verdict of bytes));
    }

-- a verdict on the bytes that came is one on those that an input tells
pub verdict_left : (left : Option (List ℕ)) (words : List (List ℕ)) (came bytes : List ℕ) (verdict : Option Verdict)
    → AsksForJob words → IfSome left (λ left. came ≡ left) → bytes ≡ came
    → IfSome verdict (λ verdict. IsVerdict words bytes verdict)
    → IfSome verdict (λ verdict. (other : List ℕ) → IsInput words left other → IsVerdict words other verdict)
verdict_left left words came bytes None asks whole same is = tt
verdict_left left words came bytes (Some verdict) asks whole same is = λ other input.
    subst (λ it. IsVerdict words it verdict)
    (same ∙ of_told left other (λ it. came ≡ it) whole (told_input words left other asks input)) is

pub fault_left : (left : Option (List ℕ)) (words : List (List ℕ)) (came bytes : List ℕ)
    (result : Result (Unit {0}) Fault) → AsksForJob words → IfSome left (λ left. came ≡ left) → bytes ≡ came
    → IfErr result (λ fault. IfSome (fault_verdict fault) (λ verdict. IsVerdict words bytes verdict))
    → IfErr result (λ fault. IfSome (fault_verdict fault)
    (λ verdict. (other : List ℕ) → IsInput words left other → IsVerdict words other verdict))
fault_left left words came bytes (Ok x) asks whole same is = tt
fault_left left words came bytes (Err fault) asks whole same is =
    verdict_left left words came bytes (fault_verdict fault) asks whole same is

-- ---- the error output

-- what a call that writes a line leaves
pub line_written : (result : Result (Unit {0}) Unwritten) (old new : Option (List ℕ)) (before now : ℕ) (text line : List ℕ) → text ≡ line
    → OnOk result (Appends old new text) → OnErr result (AppendsProperPrefix old new text) → RisesWhere before now (IsErr result) → WritesText old new before now line
line_written (Ok x) old new before now text line same whole part counted = inl (subst (Appends old new) same whole, counted.stands (λ e. cc))
line_written (Err fault) old new before now text line same whole part counted = inr (subst (AppendsProperPrefix old new) same part, counted.rises refl)
