-- What words of one grammar share may be read by several threads.
use denote.Param.Send.{IsSend, IsSync, sendable, view_sync}
use denote.Param.SendFields.{declared_sync}
use denote.Ref.{NamedLft}
use Rattle.std.proofs.Crossing.{crosses}
use Rattle.cell_layouts.proofs.laid_out.LaidOut.TheSendSync as laid_out
use Rattle.split_lines.specs.contracts.shared.Shared as Shared
use Rattle.split_lines.specs.contracts.shared.Shared.TheInside as SharedInside
use Rattle.split_lines.specs.contracts.shared.Sharing as Sharing
use Rattle.cell_core.proofs.SharedGrammars.{grammar_sync}
use Rattle.cell_core.proofs.SharedParts.{problem_sync, rules_sync}

shared_sync : (a : NamedLft) → IsSync (Shared.the_row a)
shared_sync a =
    let rules = rules_sync a in
    view_sync (SharedInside.the_row a) _ _ _ _
    (declared_sync (SharedInside.the_type a)
    (search (sendable, crosses, grammar_sync) depth 40 fits 20000, (search (sendable, crosses) depth 40 fits 20000, (search (sendable, crosses) depth 40 fits 20000, (search (sendable, crosses) depth 40 fits 20000, (laid_out.the_sync, tt))))))

pub sharing_send : (a : NamedLft) → IsSend (Sharing.the_row a)
sharing_send a =
    let shared = shared_sync a in
    let problem = problem_sync a in
    search (sendable, crosses) depth 40 fits 20000
