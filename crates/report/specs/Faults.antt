-- The lines of faults.
use Rattle.std.specs.Prelude.{ℕ, ◌≤◌, length, List, [], ◌++◌, codes, ◌==◌, if◌then◌else◌}
use Rattle.std.specs.Fmt.{decimal}
use Rattle.adp_model.specs.declared.fault.TextFault.{TextFault}
use Rattle.adp_model.specs.Report.{line}
use Rattle.report.specs.declared.fault.Fault.{Fault}
use Rattle.report.specs.declared.fault.Fault.TheVariants.{Usage, Read, Write, TooLong, Text, Grammar, Limit, Rejected, Memory}

-- the count of a fault of kind 16, which passes a limit
abbrev pub count_text : TextFault → List ℕ
count_text fault = if fault.kind == 16 then codes " count " ++ decimal fault.count else []

-- the line that names a fault, with its end
abbrev pub fault_line : Fault → List ℕ
fault_line Usage = line (codes "fault usage")
fault_line Read = line (codes "fault read")
fault_line Write = line (codes "fault write")
fault_line TooLong = line (codes "fault text long")
fault_line (Text fault) =
    line (codes "fault text line " ++ decimal fault.line ++ codes " kind " ++ decimal fault.kind ++ count_text fault)
fault_line (Grammar fault) = line (codes "fault grammar kind " ++ decimal fault.kind ++ codes " name " ++ fault.name)
fault_line (Limit word fault) =
    line (codes "fault limit word " ++ decimal word ++ codes " kind " ++ decimal fault.kind ++ codes " number "
    ++ decimal fault.number)
fault_line (Rejected number) = line (codes "fault certificate line " ++ decimal number)
fault_line Memory = line (codes "fault memory")

-- a name in the fault has at most 32 bytes
abbrev pub HasShortName : Fault → Type 0
HasShortName Usage = Unit {0}
HasShortName Read = Unit {0}
HasShortName Write = Unit {0}
HasShortName TooLong = Unit {0}
HasShortName (Text fault) = Unit {0}
HasShortName (Grammar fault) = length fault.name ≤ 32
HasShortName (Limit word fault) = Unit {0}
HasShortName (Rejected number) = Unit {0}
HasShortName Memory = Unit {0}
