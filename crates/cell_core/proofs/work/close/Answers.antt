use Rattle.std.proofs.Common.{inl, inr, refl}
use Rattle.cell_core.proofs.Changes.{popped, popped_end}
use Rattle.cell_core.proofs.work.close.Goals as goal

pub returns-in-Some-clause-closed : goal.returns-in-Some-clause-closed
returns-in-Some-clause-closed g c = record {
  hand = refl;
  ready = refl;
  capacity = c.in-Some.ensures.capacity;
  opened = refl;
  wins = refl;
  moves = refl;
  next = inl (c.in-Some.next, refl, popped _ _ c.in-Some.next c.in-Some.ensures.items, refl);
}

pub returns-in-None-clause-closed : goal.returns-in-None-clause-closed
returns-in-None-clause-closed g c = record {
  hand = refl;
  ready = refl;
  capacity = c.in-None.ensures.capacity;
  opened = refl;
  wins = refl;
  moves = refl;
  next = inr (refl, popped_end _ _ _ c.in-None.ensures.items c.in-None.ensures.cases.0 c.in-None.ensures.rest, refl, refl);
}
