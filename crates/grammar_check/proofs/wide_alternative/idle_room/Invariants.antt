use Rattle.std.proofs.Common.{◌≡◌, ◌+◌, ◌-◌, ◌^◌, ◌<◌, min, drop}
use Rattle.adp_model.specs.WideTerms.{form_of}
use Rattle.grammar_check.specs.TermSpreads.{idle_room}
use Rattle.grammar_check.proofs.wide_alternative.idle_room.Given as goal

abbrev pub invariant-loop-place : goal.invariant-loop-place
invariant-loop-place l = record {
  fits : l.total < 2 ^ 64;
  total : min (l.total + idle_room (form_of l.term) l.place (drop l.place l.parts)) (2 ^ 64 - 1) ≡ min (idle_room (form_of l.term) 0 l.parts) (2 ^ 64 - 1);
}
