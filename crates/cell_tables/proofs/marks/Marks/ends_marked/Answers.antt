use Rattle.std.proofs.Common.{arith}
use Rattle.cell_tables.proofs.SpanWalks.{no_start, one_more_start, all_starts}
use Rattle.cell_tables.proofs.marks.Marks.ends_marked.Goals as goal

pub loop-from-init : goal.loop-from-init
loop-from-init c = record {
  no_start = λ none. omega arith;
  told = no_start c.args.self.now c.args.rules.now c.args.first c.args.number;
}

pub loop-from-preserved : goal.loop-from-preserved
loop-from-preserved c = record {
  no_start = λ none. absurd (omega arith);
  told = one_more_start c.args.self.now c.args.rules.now c.args.first c.args.number c.loop-from.from c.loop-from.bits c.any_marked-bits.result c.loop-from.auto.from c.loop-from.invariant.told c.any_marked-bits.ensures;
}

pub returns : goal.returns
returns c = all_starts c.args.self.now c.args.rules.now c.args.first c.args.number c.args.past c.loop-from.from c.loop-from.bits c.loop-from-test.false c.loop-from.auto.from-end c.loop-from.invariant.no_start c.loop-from.invariant.told
