-- The faults of a run: the status of each, the verdict that it tells, and what it comes from.
use Rattle.std.specs.Prelude.{Option, Some, None, Result, Ok, Err}
use Rattle.adp_io.specs.declared.job.JobFault.{JobFault}
use Rattle.adp_io.specs.declared.job.JobFault.TheVariants as job_faults
use Rattle.verdicts.specs.Verdict.{Verdict}
use Rattle.verdicts.specs.Verdict as verdicts
use Rattle.report.specs.declared.fault.Fault.{Fault}
use Rattle.report.specs.declared.fault.Fault.TheVariants.{Usage, Read, Write, TooLong, Text, Grammar, Limit, Rejected, Memory}
use Rattle.adp_main.specs.declared.status.Status.{Status}
use Rattle.adp_main.specs.declared.status.Status.TheVariants as statuses

abbrev pub status_of : Fault → Status
status_of Usage = statuses.Usage
status_of Read = statuses.ReadFault
status_of Write = statuses.WriteFault
status_of TooLong = statuses.Text
status_of (Text fault) = statuses.Text
status_of (Grammar fault) = statuses.Grammar
status_of (Limit word fault) = statuses.Limit
status_of (Rejected line) = statuses.Rejected
status_of Memory = statuses.Memory

-- the status that a run ends with after this result
abbrev pub status_after : Result (Unit {0}) Fault → Status
status_after (Ok written) = statuses.Done
status_after (Err fault) = status_of fault

-- the verdict that a fault tells: want of memory and faults of streams tell none
abbrev pub fault_verdict : Fault → Option Verdict
fault_verdict Usage = Some verdicts.Usage
fault_verdict Read = None
fault_verdict Write = None
fault_verdict TooLong = Some verdicts.TooLong
fault_verdict (Text fault) = Some (verdicts.Text fault)
fault_verdict (Grammar fault) = Some (verdicts.Grammar fault)
fault_verdict (Limit word fault) = Some (verdicts.Limit word fault)
fault_verdict (Rejected line) = Some (verdicts.Rejected line)
fault_verdict Memory = None

-- the fault of an input that was not read
abbrev pub reading_fault : JobFault → Fault
reading_fault job_faults.ReadFault = Read
reading_fault job_faults.TooLong = TooLong
reading_fault job_faults.Memory = Memory
