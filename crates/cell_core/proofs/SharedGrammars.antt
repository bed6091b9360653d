-- Threads may share a grammar: a wide term holds terms, so its law goes by the layers of a type that holds itself.
use denote.RattleType.{RattleType}
use denote.Struct.Field.{row_field, i64-field, u32-field}
use denote.Hole.{as_row}
use denote.Enum.Declared as E
use denote.Hole.Fix.{holes}
use denote.Hole.FixSend.{Syncs, fix_sync}
use denote.Param.Send.{IsSync, sendable, view_sync}
use denote.Param.SendFields.{variants_sync, declared_sync, as_row_sync}
use Rattle.std.proofs.Crossing.{Box-sync}
use Rattle.std.specs.contracts.alloc.Global
use Rattle.std.specs.contracts.boxed.Box
use Rattle.std.specs.contracts.impls.GlobalAllocator.TheImpl
use Rattle.adp_model.specs.contracts.grammar.Wide as Wide
use Rattle.adp_model.specs.contracts.grammar.Wide.TheKnot.{ring, member-Wide, type-Wide, hole-Wide}
use Rattle.adp_model.specs.contracts.grammar.WideTerm as WideTerm
use Rattle.adp_model.specs.contracts.grammar.WideTerm.TheInside as Inside
use Rattle.adp_model.specs.contracts.grammar.Algebra as Algebra
use Rattle.adp_model.specs.contracts.grammar.Class as Class
use Rattle.adp_model.specs.contracts.grammar.Sign as Sign
use Rattle.adp_model.specs.contracts.grammar.Rule as Rule
use Rattle.adp_model.specs.contracts.sequence.Sequence as Sequence
use Rattle.adp_model.specs.contracts.text.Text as Text
use Rattle.adp_model.proofs.grammar.Linear.TheSendSync as linear
use Rattle.adp_model.proofs.grammar.Goal.TheSendSync as goal
use Rattle.adp_model.proofs.grammar.Class.TheSendSync as class
use Rattle.adp_model.proofs.grammar.Sign.TheSendSync as sign
use Rattle.adp_model.proofs.grammar.Rule.TheSendSync as rule
use Rattle.adp_model.proofs.text.Text.TheSendSync as text
use Rattle.adp_model.proofs.sequence.Sequence.TheSendSync as sequence
use Rattle.adp_model.specs.contracts.grammar.Term as Term
use Rattle.adp_model.specs.contracts.grammar.Grammar as Grammar

number_sync : IsSync (as_row i64-field)
number_sync = as_row_sync i64-field (search sendable depth 20)

place_sync : IsSync (as_row u32-field)
place_sync = as_row_sync u32-field (search sendable depth 20)

module _ (R : RattleType) (shared : IsSync R) where
  side_sync : IsSync (as_row (row_field (Box.the_row R Global.the_row TheImpl.ghosts)))
  side_sync = as_row_sync (row_field (Box.the_row R Global.the_row TheImpl.ghosts)) (Box-sync R shared)

  layer_sync : IsSync (E.row (E.declared (type-Wide R R R R R R R R R R)))
  layer_sync = variants_sync (type-Wide R R R R R R R R R R) (
    (as_row_sync (row_field (as_row i64-field)) number_sync, tt),
    (
      (as_row_sync (row_field (as_row u32-field)) place_sync, tt),
      (
        (side_sync, (side_sync, tt)),
        (
          (side_sync, (side_sync, tt)),
          (
            (side_sync, (side_sync, tt)),
            ((side_sync, (side_sync, tt)), ((side_sync, (side_sync, tt)), tt)),
          ),
        ),
      ),
    ),
  )

tied_sync : IsSync (holes ring member-Wide)
tied_sync = fix_sync ring (Wide.by_members (λ i. Syncs ring i) (record { sync = λ h all. layer_sync (h member-Wide) (all member-Wide) })) member-Wide

hole_sync : IsSync hole-Wide
hole_sync = record { shared = tied_sync.shared }

pub wide_sync : IsSync Wide.the_row
wide_sync =
    let side = Box-sync hole-Wide hole_sync in
    variants_sync Wide.enum (
      (number_sync, tt),
      (
        (place_sync, tt),
        ((side, (side, tt)), ((side, (side, tt)), ((side, (side, tt)), ((side, (side, tt)), ((side, (side, tt)), tt))))),
      ),
    )

pub wide_term_sync : IsSync WideTerm.the_row
wide_term_sync = view_sync Inside.the_row _ _ _ _ (declared_sync Inside.the_type (wide_sync, tt))

pub term_sync : IsSync Term.the_row
term_sync = variants_sync Term.enum ((linear.the_sync, tt), ((as_row_sync WideTerm.the_field wide_term_sync, tt), tt))

terms_sync : IsSync (Sequence.the_row Term.the_row)
terms_sync = sequence.the_sync Term.the_row term_sync

pub algebra_sync : IsSync Algebra.the_row
algebra_sync = declared_sync Algebra.the_type (as_row_sync Text.the_field text.the_sync, (goal.the_sync, (as_row_sync (Sequence.the_field Term.the_row) terms_sync, tt)))

pub grammar_sync : IsSync Grammar.the_row
grammar_sync = declared_sync Grammar.the_type (
  as_row_sync (Sequence.the_field Class.the_row) (sequence.the_sync Class.the_row class.the_sync),
  (
    as_row_sync (Sequence.the_field Sign.the_row) (sequence.the_sync Sign.the_row sign.the_sync),
    (
      as_row_sync (Sequence.the_field Algebra.the_row) (sequence.the_sync Algebra.the_row algebra_sync),
      (
        as_row_sync (Sequence.the_field Rule.the_row) (sequence.the_sync Rule.the_row rule.the_sync),
        (search sendable depth 20, tt),
      ),
    ),
  ),
)
