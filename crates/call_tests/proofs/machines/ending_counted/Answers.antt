use Rattle.call_tests.proofs.machines.ending_counted.Goals as goal

pub run-turn-requires-clause-machine : goal.run-turn-requires-clause-machine
run-turn-requires-clause-machine g c = c.in_ok-machine.ensures.machine c.args.pass.now
