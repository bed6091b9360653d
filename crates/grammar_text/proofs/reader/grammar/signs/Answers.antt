use Rattle.std.proofs.Common.{refl, sym, ◌∙◌, ap}
use Rattle.std.proofs.lemmas.List.{append-nil}
use Rattle.job_texts.specs.JobText.{declared_sign}
use Rattle.grammar_text.specs.Building.{is_buildable}
use Rattle.grammar_text.specs.Seen.{declaration_seen}
use Rattle.grammar_text.proofs.Built.{all_at, parts_more}
use Rattle.grammar_text.proofs.reader.grammar.signs.Goals as goal
use Rattle.grammar_text.proofs.reader.grammar.signs.Goals.{in-Some+in_ok-push, in_default}

pub sign_of-requires : goal.sign_of-requires
sign_of-requires c = all_at is_buildable declaration_seen c.args.declared.now c.loop-declaration.declaration-index c.declaration-item.result c.requires c.loop-declaration-test.true c.declaration-item.is

pub loop-declaration-preserved : goal.loop-declaration-preserved
loop-declaration-preserved c =
    elim c.match-branch-2.branch [
      | in-Some+in_ok-push w ↦
          parts_more declared_sign declaration_seen c.args.declared.now c.loop-declaration.declaration-index c.declaration-item.result c.loop-declaration.signs.items c.match-branch-2.signs.items c.in_ok-sign.field-0
          c.loop-declaration-test.true c.declaration-item.is c.loop-declaration.invariant c.in_ok-sign.ensures (ap (λ v. v.items) w.signs-is ∙ w.in_ok-push.ensures.items ∙ rw w.in-Some.is refl)
      | in_default w ↦
          parts_more declared_sign declaration_seen c.args.declared.now c.loop-declaration.declaration-index c.declaration-item.result c.loop-declaration.signs.items c.match-branch-2.signs.items c.in_ok-sign.field-0
          c.loop-declaration-test.true c.declaration-item.is c.loop-declaration.invariant c.in_ok-sign.ensures (ap (λ v. v.items) w.signs-is ∙ rw w.in_default.is (sym (append-nil _)))
    ]
