use Rattle.std.proofs.Common.{◌≡◌, sym, ◌∙◌, arith}
use Rattle.std.proofs.lemmas.Grind.{common_steps}
use Rattle.grammar_text.specs.Seen.{words_seen}
use Rattle.grammar_text.proofs.AllNames.{name_at}
use Rattle.grammar_text.proofs.Judging.{judged_linear, judged_wide}
use Rattle.grammar_text.proofs.reader.judge.read_let.Goals as goal

pub text_of-requires : goal.text_of-requires
text_of-requires c = name_at c.args.variables.now c.loop-variable.variable-index _ c.loop-variable-test.true c.requires

pub returns-then-is_second : goal.returns-then-is_second
returns-then-is_second c =
    let names : c.deref.result.now ≡ words_seen c.args.variables.now = grind (arith, common_steps) in
    judged_wide c.args.term.now.version c.args.term.now.bytes.now (words_seen c.args.variables.now) c.deref.result.now c.args.term.now.spelled names c.read_second.result (sym c.is_second.ensures ∙ c.if-is_second.true) c.read_second.ensures

pub returns : goal.returns
returns c =
    let names : c.deref-else-is_second.result.now ≡ words_seen c.args.variables.now = grind (arith, common_steps) in
    judged_linear c.args.term.now.version c.args.term.now.bytes.now (words_seen c.args.variables.now) c.deref-else-is_second.result.now c.args.term.now.spelled names c.read_first.result (sym c.is_second.ensures ∙ c.if-is_second.false) c.read_first.ensures
