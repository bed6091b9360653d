use Rattle.evaluators.proofs.crew.hire.Goals as goal

pub returns : goal.returns
returns g c =
    let made = c.in_ok-worker.ensures in
    record {
      one = record { worker = c.in_ok-worker.worker; gate = c.args.gate };
      grown = c.in_ok-push.ensures.items;
      fresh = made.fresh;
      machine = made.machine;
      bound = made.bound;
      pass = made.pass;
      number_is = made.number;
      seed_is = made.seed;
    }
