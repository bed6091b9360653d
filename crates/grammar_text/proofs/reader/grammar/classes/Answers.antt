use Rattle.std.proofs.Common.{refl, sym, ◌∙◌, ap}
use Rattle.std.proofs.lemmas.List.{append-nil}
use Rattle.job_texts.specs.JobText.{declared_class}
use Rattle.grammar_text.specs.Building.{is_buildable}
use Rattle.grammar_text.specs.Seen.{declaration_seen}
use Rattle.grammar_text.proofs.Built.{all_at, parts_more}
use Rattle.grammar_text.proofs.reader.grammar.classes.Goals as goal
use Rattle.grammar_text.proofs.reader.grammar.classes.Goals.{in-Some+in_ok-push, in_default}

pub class_of-requires : goal.class_of-requires
class_of-requires c = all_at is_buildable declaration_seen c.args.declared.now c.loop-declaration.declaration-index c.declaration-item.result c.requires c.loop-declaration-test.true c.declaration-item.is

pub loop-declaration-preserved : goal.loop-declaration-preserved
loop-declaration-preserved c =
    elim c.match-branch-2.branch [
      | in-Some+in_ok-push w ↦
          parts_more declared_class declaration_seen c.args.declared.now c.loop-declaration.declaration-index c.declaration-item.result c.loop-declaration.classes.items c.match-branch-2.classes.items c.in_ok-class.field-0
          c.loop-declaration-test.true c.declaration-item.is c.loop-declaration.invariant c.in_ok-class.ensures (ap (λ v. v.items) w.classes-is ∙ w.in_ok-push.ensures.items ∙ rw w.in-Some.is refl)
      | in_default w ↦
          parts_more declared_class declaration_seen c.args.declared.now c.loop-declaration.declaration-index c.declaration-item.result c.loop-declaration.classes.items c.match-branch-2.classes.items c.in_ok-class.field-0
          c.loop-declaration-test.true c.declaration-item.is c.loop-declaration.invariant c.in_ok-class.ensures (ap (λ v. v.items) w.classes-is ∙ rw w.in_default.is (sym (append-nil _)))
    ]
