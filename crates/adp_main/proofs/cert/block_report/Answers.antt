use Rattle.std.proofs.Common.{List, ℕ, ◌++◌, ◌∙◌, sym, ap, ap₂}
use Rattle.std.proofs.lemmas.Result.{IfOk-weaker}
use Rattle.adp_main.proofs.Blocks.{before_first, before_later}
use Rattle.adp_main.proofs.cert.block_report.Goals as goal

pub certificate-requires : goal.certificate-requires
certificate-requires c = c.requires.1.closed

pub returns-then-number-eq1 : goal.returns-then-number-eq1
returns-then-number-eq1 c =
    IfOk-weaker c.behind_line.result _ _ (λ whole is. (
      c.in_ok-block.block.items,
      c.in_ok-block.ensures,
      is ∙ ap₂ (λ (first : List ℕ) (block : List ℕ). first ++ block) (before_first c.args.number c.if-number-eq1.true)
          c.deref.ensures.value,
    )) c.behind_line.ensures

pub returns-else-number-eq1 : goal.returns-else-number-eq1
returns-else-number-eq1 c = (
  c.in_ok-block.block.items,
  c.in_ok-block.ensures,
  ap (λ (first : List ℕ). first ++ c.in_ok-block.block.items) (sym (before_later c.args.number c.if-number-eq1.false)),
)
