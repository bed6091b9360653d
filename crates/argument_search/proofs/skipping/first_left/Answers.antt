use Rattle.std.proofs.Common.{inl, inr, arith}
use Rattle.std.proofs.lemmas.Bool.{cases_lt}
use Rattle.argument_search.specs.Skipping.{AreNotedBetween}
use Rattle.argument_search.proofs.skipping.first_left.Goals as goal

pub returns-in-Some : goal.returns-in-Some
returns-in-Some g c =
    let it = c.in-Some.ensures in
    record {
      stands = it.stands;
      low = omega (arith, it.low, c.both_noted-stop.ensures.low);
      high = it.high;
      noted = λ position contains low high. elim (cases_lt position c.both_noted-stop.result) [
        | inl less ↦ c.both_noted-stop.ensures.noted position contains low less
        | inr not ↦ absurd (omega (arith, it.first position contains not, high))
      ];
      whole = tt;
    }

pub returns-in-Some-last_between : goal.returns-in-Some-last_between
returns-in-Some-last_between g c =
    let it = c.in-Some-last_between.ensures in
    let all : AreNotedBetween (g.N.NotedCells.is_noted c.args.noted.now) c.args.pair c.args.begin c.args.past =
    λ position contains low high. elim (cases_lt position c.both_noted-stop.result) [
      | inl less ↦ c.both_noted-stop.ensures.noted position contains low less
      | inr not ↦ absurd (c.in-None.ensures position contains not high)
    ] in
    record {
      stands = it.0;
      low = it.1;
      high = it.2;
      noted = λ position contains low high. all position contains low (omega (arith, high, it.2));
      whole = all;
    }
