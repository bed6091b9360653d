use Rattle.std.proofs.Common.{◌+◌, ℕ, List, sym, subst, ◌∙◌, arith}
use Rattle.std.proofs.lemmas.Bool.{false≢true}
use Rattle.cell_demands.specs.PlaceBits.{HaveBitsToo}
use Rattle.cell_demands.specs.Rows.{GoesOn, IsAmong, IsBetween}
use Rattle.cell_demands.proofs.RowMarks.{IsBefore, all_between, begins_nowhere, between_more, bits_none, leads_more, leads_past, none_first, rows_none}
use Rattle.cell_demands.proofs.rows.mark_between.Goals as goal
use Rattle.cell_demands.proofs.rows.mark_between.Goals.{then-mark_ends, else-mark_ends}

pub mark_ends-requires-clause-counted : goal.mark_ends-requires-clause-counted
mark_ends-requires-clause-counted c = λ cell (at, end, same, fits, among, its).
    c.requires.counted cell (
      at,
      end,
      subst (IsAmong c.args.reached) (sym same) (record {
        from_first = c.loop-from.invariant.from_first;
        before = omega (arith, c.loop-from-test.true);
        bit = c.loop-from.invariant.set (omega (arith, c.loop-from-test.true));
      }),
      fits,
      among,
      its,
    )

pub loop-from-init : goal.loop-from-init
loop-from-init c =
    let p = c.args.lines.now in
    let argument = c.args.argument.now in
    let reached = c.args.reached in
    let next = c.next_begun-from in
    let behind = IsAmong c.args.behind in
    let nowhere = begins_nowhere (λ bits. bits.now) p argument reached reached.first next.result c.begins-begins.result c.begins-begins.ensures.begun next.ensures.none_before in
    record {
      from_first = next.ensures.from_first;
      within = next.ensures.within;
      set = next.ensures.set;
      leads = bits_none c.args.leads.now (λ at. IsBefore reached next.result at × GoesOn p argument behind at)
          (λ at (before, on). none_first reached p argument next.result nowhere at on.0 before on.1);
      marked = rows_none c.args.marks.now (IsBetween p argument (IsBefore reached next.result) behind)
          (λ cell (at, end, before, fits, on, its). none_first reached p argument next.result nowhere at end before fits);
    }

pub loop-from-preserved : goal.loop-from-preserved
loop-from-preserved c =
    let p = c.args.lines.now in
    let argument = c.args.argument.now in
    let reached = c.args.reached in
    let from = c.loop-from.from in
    let next = c.next_begun-from-in-loop-from in
    let nowhere = begins_nowhere (λ bits. bits.now) p argument reached (from + 1) next.result c.begins-begins.result c.begins-begins.ensures.begun next.ensures.none_before in
    let behind = IsAmong c.args.behind in
    let here : IsAmong reached from = record {
      from_first = c.loop-from.invariant.from_first;
      before = omega (arith, c.loop-from-test.true);
      bit = c.loop-from.invariant.set (omega (arith, c.loop-from-test.true));
    } in
    let L : List ℕ → Type 0 = λ leads. HaveBitsToo c.args.leads.now leads (λ at. IsBefore reached next.result at × GoesOn p argument behind at) in
    record {
      from_first = omega (arith, next.ensures.from_first, c.loop-from.invariant.from_first);
      within = next.ensures.within;
      set = next.ensures.set;
      leads = elim c.if-mark_ends.branch [
        | then-mark_ends w ↦ subst L (sym w.leads-is)
            (leads_more reached p argument from next.result here next.ensures.from_first nowhere behind
            (c.mark_ends.ensures.goes_on.0 w.if-mark_ends.true) c.args.leads.now c.loop-from.leads w.set_bit.new.bits
            c.loop-from.invariant.leads w.set_bit.ensures)
        | else-mark_ends w ↦ subst L (sym w.leads-is)
            (leads_past reached p argument from next.result here next.ensures.from_first nowhere behind
            (λ on. false≢true (sym w.if-mark_ends.false ∙ c.mark_ends.ensures.goes_on.1 on)) c.args.leads.now c.loop-from.leads c.loop-from.invariant.leads)
      ];
      marked = between_more reached p argument from next.result here next.ensures.from_first nowhere behind
          c.args.marks.now c.loop-from.marks c.mark_ends.new.marks c.loop-from.invariant.marked c.mark_ends.ensures.marked;
    }

pub returns-clause-marked : goal.returns-clause-marked
returns-clause-marked c =
    all_between c.args.reached c.args.lines.now c.args.argument.now c.loop-from.from (omega (arith, c.loop-from-test.false))
    (IsAmong c.args.behind) c.args.marks.now c.loop-from.marks c.loop-from.invariant.marked
