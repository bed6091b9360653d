-- The numbers of the statuses, as the program ends with them.
use Rattle.std.specs.Prelude.{ℕ}
use Rattle.adp_main.specs.declared.status.Status.{Status}
use Rattle.adp_main.specs.declared.status.Status.TheVariants.{Done, Usage, ReadFault, WriteFault, Text, Grammar, Limit, Memory, Rejected}

abbrev pub number_of : Status → ℕ
number_of Done = 0
number_of Usage = 2
number_of ReadFault = 3
number_of WriteFault = 4
number_of Text = 5
number_of Grammar = 6
number_of Limit = 7
number_of Memory = 8
number_of Rejected = 10
