-- What a slot holds may go to another thread with it.
use denote.RattleType.{RattleType}
use denote.Param.Send.{IsSend, IsSync, sendable, view_sync}
use denote.Param.SendFields.{declared_send, declared_sync}
use denote.Ref.{NamedLft}
use Rattle.std.proofs.Crossing.{crosses}
use Rattle.adp_model.proofs.sequence.Sequence.TheSendSync as sequence
use Rattle.cell_core.proofs.SharedGrammars.{grammar_sync}
use Rattle.grammar_check.specs.contracts.checked.Checked as Checked
use Rattle.grammar_check.specs.contracts.checked.Checked.TheInside as CheckedInside
use Rattle.verdicts.specs.contracts.command.Command as Command
use Rattle.verdicts.specs.contracts.command.Command.TheInside as CommandInside
use Rattle.verdicts.proofs.command.Mode.TheSendSync as mode
use Rattle.yield_sizes.proofs.rule_sizes.Sizes.TheSendSync as sizes
use Rattle.yield_sizes.proofs.rule_anchors.Anchors.TheSendSync as anchors
use Rattle.adp_main.specs.contracts.lex.Compiled as Compiled
use Rattle.adp_main.specs.contracts.slot.Slot as Slot
use Rattle.adp_main.proofs.slot.Told.TheSendSync as told
use Rattle.adp_main.proofs.SharedParts.{sharing_send}

command_sync : (a : NamedLft) → IsSync (Command.the_row a)
command_sync a =
    view_sync (CommandInside.the_row a) _ _ _ _
    (declared_sync (CommandInside.the_type a) (
      mode.the_sync,
      (
        search (sendable, crosses) depth 40 fits 20000,
        (
          search (sendable, crosses) depth 40 fits 20000,
          (
            search (sendable, crosses) depth 40 fits 20000,
            (
              search (sendable, crosses) depth 40 fits 20000,
              (
                search (sendable, crosses) depth 40 fits 20000,
                (search (sendable, crosses) depth 40 fits 20000, (search (sendable, crosses) depth 40 fits 20000, tt)),
              ),
            ),
          ),
        ),
      ),
    ))

checked_sync : IsSync Checked.the_row
checked_sync =
    view_sync CheckedInside.the_row _ _ _ _
    (declared_sync CheckedInside.the_type (
      grammar_sync,
      (
        search (sendable, crosses) depth 40 fits 20000,
        (sizes.the_sync, (anchors.the_sync, (search (sendable, crosses, sequence.the_sync) depth 40 fits 20000, tt))),
      ),
    ))

compiled_sync : IsSync Compiled.the_row
compiled_sync =
    declared_sync Compiled.the_type (
      checked_sync,
      (
        search (sendable, crosses) depth 40 fits 20000,
        (search (sendable, crosses) depth 40 fits 20000, (search (sendable, crosses) depth 40 fits 20000, tt)),
      ),
    )

pub slot_send : (a b : NamedLft) (G : RattleType) → IsSync G → IsSend (Slot.the_row a b G)
slot_send a b G shared =
    let command = command_sync a in
    declared_send (Slot.the_type a b G) (
      search (sendable, crosses) depth 40 fits 20000,
      (
        search (sendable, crosses) depth 40 fits 20000,
        (
          search (sendable, crosses, compiled_sync) depth 40 fits 20000,
          (
            search (sendable, crosses) depth 40 fits 20000,
            (
              search (sendable, crosses, sharing_send) depth 60 fits 100000,
              (
                search (sendable, crosses) depth 60 fits 100000,
                (search (sendable, crosses, told.the_send) depth 60 fits 100000, tt),
              ),
            ),
          ),
        ),
      ),
    )
