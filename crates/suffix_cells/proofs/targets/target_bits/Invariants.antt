use Rattle.std.proofs.Common.{ℕ, ◌<◌}
use Rattle.suffix_cells.specs.Targets.{LeadsBy}
use Rattle.suffix_cells.proofs.targets.target_bits.Given as goal

abbrev pub invariant-loop-alt : goal.invariant-loop-alt
invariant-loop-alt l = (alternative : ℕ) → alternative < l.alt → LeadsBy l.lines l.visits.order l.rule alternative l.bits
