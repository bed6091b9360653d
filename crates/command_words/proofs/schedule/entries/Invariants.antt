use Rattle.std.proofs.Common.{◌≡◌, take}
use Rattle.verdicts.specs.ScheduleText.{machines_of}
use Rattle.command_words.proofs.schedule.entries.Given as goal

abbrev pub invariant-loop-byte : goal.invariant-loop-byte
invariant-loop-byte l = l.entries.items ≡ machines_of (take l.byte-index l.bytes)
