use Rattle.std.proofs.Common.{◌≡◌, sym, subst, ◌∙◌, arith}
use Rattle.memo_words.specs.declared.words.Words.{Words}
use Rattle.memo_words.specs.Passes.{problem_of, IsPassOf}
use Rattle.adp_model.specs.Demand.{IsDemanded}
use Rattle.memo_table.proofs.table.TableMemo.probe.Goals as goal

pub returns-clause-follows : goal.returns-clause-follows
returns-clause-follows c pass =
    let same : c.of.result.value ≡ c.args.self.now = c.of.ensures ∙ c.self.view_is in (
      λ own. record {
        own = subst (λ (w : Words). IsPassOf w pass) (sym same) own;
        demanded = subst (λ (w : Words). IsDemanded (problem_of w) c.args.cell) (sym same) c.requires;
        coded =
            c.demanded_cells_have_codes.ensures (problem_of c.args.self.now) c.planned.ensures.admissible c.args.cell
            c.requires;
        due = λ j before. absurd (omega arith);
      },
      λ follows. subst (λ (w : Words). IsPassOf w pass) same follows.own,
    )
