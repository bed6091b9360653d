use Rattle.cell_answers.proofs.along.scales_of.Goals as goal

pub returns-then-add_nothing : goal.returns-then-add_nothing
returns-then-add_nothing c = record {
  worthless = c.add_nothing.ensures.0 c.if-add_nothing.true;
  before = c.in-Some.ensures.before;
  behind = c.in-Some.ensures.behind;
}
