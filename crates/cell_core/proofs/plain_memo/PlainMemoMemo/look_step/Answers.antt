use Rattle.std.proofs.Common.{◌≡◌, None, Some, false, refl, sym, ap, subst, ◌∙◌, arith}
use Rattle.memo_model.specs.declared.probe.Look.TheVariants as looks
use Rattle.memo_model.specs.Memos.{HasLoaded, IsScoreOf}
use Rattle.history_table.specs.declared.history.Deed.TheVariants as deeds
use Rattle.cell_core.specs.PlainMemos.{HasRecord, FoundAt, value_of, plain_meaning}
use Rattle.cell_core.proofs.PlainRecords.{on_record, value_is, some_value, none_found, is_known, is_score}
use Rattle.cell_core.proofs.plain_memo.PlainMemoMemo.look_step.Goals as goal

pub returns-in-None-clause-look : goal.returns-in-None-clause-look
returns-in-None-clause-look g c =
    let found : FoundAt c.args.pass.now.records c.place-place.result None =
    subst (FoundAt c.args.pass.now.records c.place-place.result) c.in-None.is c.find.ensures.found in (
      refl,
      λ cell known. subst (λ records. HasRecord records cell) c.find.ensures.records known,
      none_found c.args.self.now c.args.pass.now.records c.place-place.ensures.records c.args.probe.now.cell
          c.place-place.ensures.counted c.place-place.result c.place-place.ensures.place c.places_are_unique.ensures.place
          found,
    )

pub returns-in-None-clause-loads : goal.returns-in-None-clause-loads
returns-in-None-clause-loads g c = (
  λ e. (
    value_of c.find.result,
    on_record c.args.self.now c.find.new.self c.args.probe.now.cell c.place-place.result false
        c.find.result (c.find.ensures.problem ∙ c.requires.own) c.place-place.ensures.place c.find.ensures.last,
  ),
  λ h. refl,
)

pub returns-in-None-clause-unpublished : goal.returns-in-None-clause-unpublished
returns-in-None-clause-unpublished g c = (
  λ e. subst (λ o. HasLoaded plain_meaning c.find.new.self c.args.probe.now.cell (value_of o)) c.in-None.is
      (on_record c.args.self.now c.find.new.self c.args.probe.now.cell c.place-place.result false c.find.result
      (c.find.ensures.problem ∙ c.requires.own) c.place-place.ensures.place c.find.ensures.last),
  λ h. refl,
)

pub returns-in-Some-clause-look : goal.returns-in-Some-clause-look
returns-in-Some-clause-look g c =
    let found : FoundAt c.args.pass.now.records c.place-place.result (Some c.in-Some.answer) =
    subst (FoundAt c.args.pass.now.records c.place-place.result) c.in-Some.is c.find.ensures.found in
    let known =
    is_known c.args.self.now c.args.pass.now.records c.place-place.ensures.records c.args.probe.now.cell
    c.place-place.ensures.counted c.place-place.result c.place-place.ensures.place
    c.places_tell_cells_apart.ensures c.in-Some.answer found in
    let scored =
    is_score c.args.self.now c.args.pass.now.records c.place-place.ensures.records c.args.probe.now.cell
    c.place-place.ensures.counted c.place-place.result c.place-place.ensures.place
    c.places_tell_cells_apart.ensures c.in-Some.answer found in (
      refl,
      record {
        known = subst (λ records. HasRecord records c.args.probe.now.cell) (sym c.find.ensures.records) known;
        only = λ other now differ. subst (λ records. HasRecord records other) c.find.ensures.records now;
      },
      subst (IsScoreOf c.args.self.now c.args.probe.now.cell) (sym c.score.ensures) scored,
    )

pub returns-in-Some-clause-loads : goal.returns-in-Some-clause-loads
returns-in-Some-clause-loads g c = (
  λ e. (
    value_of c.find.result,
    on_record c.args.self.now c.find.new.self c.args.probe.now.cell c.place-place.result false
        c.find.result (c.find.ensures.problem ∙ c.requires.own) c.place-place.ensures.place c.find.ensures.last,
  ),
  λ h. refl,
)

pub returns-in-Some-clause-unpublished : goal.returns-in-Some-clause-unpublished
returns-in-Some-clause-unpublished g c = (
  λ e. absurd (let f : looks.Found c.score.result ≡ looks.Unpublished = e in cc),
  λ h. absurd (
      let zero_is =
      value_is c.find.new.self c.args.probe.now.cell c.place-place.result false deeds.Load 0 c.find.result c.find.ensures.last h in
      let some = some_value c.in-Some.answer in
      let same = ap value_of c.in-Some.is in
      omega (arith, zero_is, some, same)),
)

pub returns-in-Some-clause-four_left : goal.returns-in-Some-clause-four_left
returns-in-Some-clause-four_left g c = λ m counted e. absurd (let f : looks.Found c.score.result ≡ looks.Unpublished = e in cc)
