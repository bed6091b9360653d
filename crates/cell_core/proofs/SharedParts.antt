-- What an evaluator holds of its word may go to another thread with it.
use denote.RattleType.{RattleType}
use denote.Hole.{as_row}
use denote.Ref.{NamedLft}
use denote.Param.Send.{IsSend, IsSync, sendable, view_send, view_sync}
use denote.Param.SendFields.{declared_send, declared_sync, variants_send, variants_sync, as_row_send}
use Rattle.std.proofs.Crossing.{crosses}
use Rattle.adp_model.proofs.text.Text.TheSendSync as text
use Rattle.adp_model.proofs.grammar.Arg.TheSendSync as arg
use Rattle.adp_model.proofs.sequence.Sequence.TheSendSync as sequence
use Rattle.adp_model.specs.contracts.problem.Problem as Problem
use Rattle.split_lines.specs.contracts.kept.Scoring as Scoring
use Rattle.split_lines.specs.contracts.kept.KeptAlternative as Alternative
use Rattle.split_lines.specs.contracts.kept_rules.Kept as Kept
use Rattle.split_lines.specs.contracts.kept_rules.KeptRule as KeptRule
use Rattle.split_lines.specs.contracts.kept_rules.KeptRules as KeptRules
use Rattle.split_lines.specs.contracts.kept_rules.Middle as Middle
use Rattle.split_lines.specs.contracts.lines.Lines as Lines
use Rattle.split_lines.specs.contracts.prepared.Prepared as Prepared
use Rattle.split_lines.proofs.found.Found.TheSendSync as found
use Rattle.split_lines.proofs.kept.WeightedSum.TheSendSync as weighted
use Rattle.split_lines.proofs.kept.Lengths.TheSendSync as lengths
use Rattle.cell_tables.specs.contracts.noted.Noted as Noted
use Rattle.cell_answers.specs.contracts.scores.Scores as Scores
use Rattle.cell_answers.specs.contracts.tails.Tails as Tails
use Rattle.cell_answers.proofs.tails.TailRows.TheSendSync as rows
use Rattle.random_orders.specs.contracts.orders.Orders as Orders
use Rattle.random_orders.proofs.orders.Orders.TheSendSync as orders
use Rattle.memo_model.specs.declared.memo.Memo.{Ghosts}
use Rattle.std.specs.contracts.option.Option as Option
use Rattle.cell_core.specs.contracts.cell_notes.CellNotes as Notes
use Rattle.cell_core.specs.contracts.machine.Machine as Machine
use Rattle.cell_core.specs.contracts.machine.Machine.TheInside as Inside
use Rattle.cell_core.proofs.work.Work.TheSendSync as work
use Rattle.cell_core.proofs.SharedGrammars.{grammar_sync, term_sync}
use Rattle.split_lines.specs.contracts.classes.ClassTables as Tables
use Rattle.split_lines.specs.contracts.lines.Lines.TheInside as LinesInside

pub problem_sync : (a : NamedLft) → IsSync (Problem.the_row a)
problem_sync a = search (sendable, crosses, grammar_sync, text.the_sync, sequence.the_sync) depth 30

scoring_send : (a : NamedLft) → IsSend (Scoring.the_field a).row
scoring_send a = search (sendable, crosses, term_sync, weighted.the_field_send) depth 30 fits 20000

scoring_sync : (a : NamedLft) → IsSync (Scoring.the_field a).row
scoring_sync a = search (sendable, crosses, term_sync, weighted.the_field_sync) depth 30 fits 20000

alternative_send : (a : NamedLft) → IsSend (Alternative.the_row a)
alternative_send a = let scoring = scoring_send a in search (sendable, crosses, arg.the_sync, lengths.the_field_send) depth 90 fits 20000

alternative_sync : (a : NamedLft) → IsSync (Alternative.the_row a)
alternative_sync a = let scoring = scoring_sync a in search (sendable, crosses, arg.the_sync, lengths.the_field_sync) depth 90 fits 20000

rule_send : (a : NamedLft) → IsSend (KeptRule.the_row a)
rule_send a = let alternative = alternative_send a in search (sendable, crosses) depth 40 fits 20000

rule_sync : (a : NamedLft) → IsSync (KeptRule.the_row a)
rule_sync a = let alternative = alternative_sync a in search (sendable, crosses) depth 40 fits 20000

middle_send : (a : NamedLft) → IsSend (Middle.the_field a).row
middle_send a = search (sendable, crosses, arg.the_sync) depth 40 fits 20000

middle_sync : (a : NamedLft) → IsSync (Middle.the_field a).row
middle_sync a = search (sendable, crosses, arg.the_sync) depth 40 fits 20000

rules_send : (a : NamedLft) → IsSend (KeptRules.the_row a)
rules_send a =
    let rule = rule_send a in
    let middle = middle_send a in
    search (sendable, crosses) depth 40 fits 20000

pub rules_sync : (a : NamedLft) → IsSync (KeptRules.the_row a)
rules_sync a =
    let rule = rule_sync a in
    let middle = middle_sync a in
    search (sendable, crosses) depth 40 fits 20000

kept_send : (a : NamedLft) → IsSend (Kept.the_row a)
kept_send a =
    let sent = rules_send a in
    let shared = rules_sync a in
    variants_send (Kept.enum a) ((search (sendable, crosses) depth 40 fits 20000, tt), ((search (sendable, crosses) depth 40 fits 20000, tt), tt))

kept_sync : (a : NamedLft) → IsSync (Kept.the_row a)
kept_sync a =
    let shared = rules_sync a in
    variants_sync (Kept.enum a) ((search (sendable, crosses) depth 40 fits 20000, tt), ((search (sendable, crosses) depth 40 fits 20000, tt), tt))

tables_send : (a : NamedLft) → IsSend (Tables.the_row a)
tables_send a = let problem = problem_sync a in search (sendable, crosses) depth 40 fits 20000

tables_sync : (a : NamedLft) → IsSync (Tables.the_row a)
tables_sync a = let problem = problem_sync a in search (sendable, crosses) depth 40 fits 20000

lines_send : (a : NamedLft) → IsSend (Lines.the_row a)
lines_send a = view_send (LinesInside.the_row a) _ _ _ _ (declared_send (LinesInside.the_type a) (tables_send a, (kept_send a, (found.the_send, tt))))

lines_sync : (a : NamedLft) → IsSync (Lines.the_row a)
lines_sync a = view_sync (LinesInside.the_row a) _ _ _ _ (declared_sync (LinesInside.the_type a) (tables_sync a, (kept_sync a, (found.the_sync, tt))))

prepared_send : (a : NamedLft) → IsSend (Prepared.the_row a)
prepared_send a =
    let lines = lines_send a in
    search (sendable, crosses, grammar_sync, text.the_sync, sequence.the_sync) depth 40 fits 20000

prepared_sync : (a : NamedLft) → IsSync (Prepared.the_row a)
prepared_sync a =
    let lines = lines_sync a in
    search (sendable, crosses, grammar_sync, text.the_sync, sequence.the_sync) depth 40 fits 20000

noted_send : (a : NamedLft) → IsSend (Noted.the_row a)
noted_send a = let problem = problem_sync a in search (sendable, crosses) depth 40 fits 20000

scores_send : (a : NamedLft) → IsSend (Scores.the_row a)
scores_send a = let problem = problem_sync a in search (sendable, crosses) depth 40 fits 20000

tails_send : (a : NamedLft) → IsSend (Tails.the_row a)
tails_send a = let problem = problem_sync a in search (sendable, crosses, rows.the_send) depth 40 fits 20000

pub notes_send : (a : NamedLft) → IsSend (Notes.the_row a)
notes_send a =
    let sent = prepared_send a in
    let shared = prepared_sync a in
    let noted = noted_send a in
    let scores = scores_send a in
    let tails = tails_send a in
    search (sendable, crosses) depth 40 fits 20000

notes_field : (a : NamedLft) → IsSend (as_row (Option.the_field (Notes.the_row a)))
notes_field a = let notes = notes_send a in search (sendable, crosses) depth 40 fits 20000

-- a machine may go to another thread where what it holds of a publication may
pub machine_send : (a : NamedLft) (M Q P : RattleType) (g : Ghosts M.Denot Q.Denot P.Denot) → IsSend P → IsSend (Machine.the_row a M Q P g)
machine_send a M Q P g sent = view_send (Inside.the_row a M Q P g) _ _ _ _
    (declared_send (Inside.the_type a M Q P g)
    (search (sendable, crosses, problem_sync), (as_row_send Orders.the_field orders.the_send, (notes_field a, (notes_field a, (work.the_send P sent, tt))))))
