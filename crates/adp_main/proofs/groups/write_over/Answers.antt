use Rattle.std.proofs.Common.{arith}
use Rattle.std.specs.Option.{option_copied}
use Rattle.adp_main.proofs.FirstWords.{none_reported}
use Rattle.adp_main.proofs.groups.write_over.Goals as goal

pub returns-in-Ok-clause-ending : goal.returns-in-Ok-clause-ending
returns-in-Ok-clause-ending g c =
    λ asked solved. c.write_told.ensures.ending c.args.command.now c.args.number asked (record {
      mode = c.requires.mode;
      made = option_copied c.args.made;
      problems = c.args.problems.now;
      solved = solved;
      told = c.in-Ok.ensures;
    })

pub returns-in-Err-clause-ending : goal.returns-in-Err-clause-ending
returns-in-Err-clause-ending g c =
    λ asked solved. (
      omega arith,
      none_reported c.args.command.now c.args.number (g.G.Gate.runs c.args.gate.now) (g.K.Sink.held c.args.out.now),
    )
