use Rattle.memo_words.proofs.Positions.{home_below, home_below_22, home_first}
use Rattle.std.proofs.Common.{◌<◌, ◌≤◌, ◌^◌, arith}
use Rattle.memo_words.specs.Probes.{home}
use Rattle.memo_words.proofs.homes.home.Goals as goal

pub overflow_cast-result-2 : goal.overflow_cast-result-2
unfolding home
overflow_cast-result-2 c =
    let below : home c.args.code c.args.bits < 2 ^ 22 = home_below_22 c.args.code c.args.bits c.requires.1 in
    omega arith

pub returns-clause-below : goal.returns-clause-below
unfolding home
returns-clause-below c =
    let few : c.args.bits ≤ 64 = let most = c.requires.1 in omega arith in
    home_below c.args.code c.args.bits few

pub returns-clause-first : goal.returns-clause-first
unfolding home
returns-clause-first c = home_first c.args.code c.args.bits c.requires.1
