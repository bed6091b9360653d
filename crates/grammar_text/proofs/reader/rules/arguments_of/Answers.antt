use Rattle.std.proofs.Common.{[], map, get_or, ap, ◌∙◌}
use Rattle.std.proofs.lemmas.List.{take_all}
use Rattle.job_texts.specs.JobText as texts
use Rattle.grammar_text.specs.declared.reader.declaration.Argument.{Argument}
use Rattle.grammar_text.specs.declared.reader.declaration.Argument.TheVariants.{Named}
use Rattle.grammar_text.specs.Building.{is_printable_argument}
use Rattle.grammar_text.specs.Seen.{argument_seen}
use Rattle.grammar_text.proofs.Built.{all_at, made_more, read_again}
use Rattle.grammar_text.proofs.reader.rules.arguments_of.Goals as goal

abbrev past : Argument
past = Named (record { ref_ptr = (0, 0); now = [] })

pub argument_of-requires : goal.argument_of-requires
argument_of-requires c =
    let arguments = c.args.arguments.now in
    let i = c.loop-argument.argument-index in
    all_at is_printable_argument argument_seen arguments i (get_or arguments i past) c.requires c.loop-argument-test.true (read_again arguments i past c.loop-argument-test.true)

pub loop-argument-preserved : goal.loop-argument-preserved
loop-argument-preserved c = λ all h.
    let arguments = c.args.arguments.now in
    let i = c.loop-argument.argument-index in
    made_more (texts.argument_of all) argument_seen arguments i (get_or arguments i past) c.loop-argument.args.items c.push.new.self.items c.in_ok-argument_of.field-0
    c.loop-argument-test.true (read_again arguments i past c.loop-argument-test.true) (c.loop-argument.invariant all h) (c.in_ok-argument_of.ensures all h) c.in_ok-push.ensures.items

pub returns : goal.returns
returns c = λ all h. c.loop-argument.invariant all h ∙ ap (λ l. map (texts.argument_of all) (map argument_seen l)) (take_all c.loop-argument.argument-index c.args.arguments.now c.loop-argument-test.false)
