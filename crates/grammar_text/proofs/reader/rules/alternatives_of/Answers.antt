use Rattle.job_texts.specs.JobText as texts
use Rattle.grammar_text.specs.Building.{is_printable_alternative}
use Rattle.grammar_text.specs.Seen.{alternative_seen}
use Rattle.grammar_text.proofs.Built.{all_at, made_more}
use Rattle.grammar_text.proofs.reader.rules.alternatives_of.Goals as goal

pub alternative_of-requires : goal.alternative_of-requires
alternative_of-requires c = all_at is_printable_alternative alternative_seen c.args.alternatives.now c.loop-alternative.alternative-index c.alternative-item.result c.requires c.loop-alternative-test.true c.alternative-item.is

pub loop-alternative-preserved : goal.loop-alternative-preserved
loop-alternative-preserved c = λ all h.
    made_more (texts.alternative_of all) alternative_seen c.args.alternatives.now c.loop-alternative.alternative-index c.alternative-item.result c.loop-alternative.alts.items c.push.new.self.items c.in_ok-alternative_of.field-0
    c.loop-alternative-test.true c.alternative-item.is (c.loop-alternative.invariant all h) (c.in_ok-alternative_of.ensures all h) c.in_ok-push.ensures.items
