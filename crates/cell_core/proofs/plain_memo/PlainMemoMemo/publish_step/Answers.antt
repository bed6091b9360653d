use Rattle.std.proofs.Common.{◌≡◌, ◌<◌, ℕ, List, Option, None, Some, slice_set, true, refl, sym, ap, subst, ◌∙◌, arith}
use Rattle.memo_model.specs.declared.probe.Publish.TheVariants as publishes
use Rattle.memo_model.specs.Memos.{HasExchanged}
use Rattle.history_table.specs.declared.history.Deed.TheVariants as deeds
use Rattle.cell_core.specs.declared.plain_memo.Record.{Record}
use Rattle.cell_core.specs.PlainMemos.{HasRecord, FoundAt, record_count, value_of, plain_meaning}
use Rattle.cell_core.proofs.PlainRecords.{on_record, value_is, some_value, is_known, known_kept, known_put, known_only, count_set}
use Rattle.cell_core.proofs.plain_memo.PlainMemoMemo.publish_step.Goals as goal

-- the records behind a load and the new one
records_are : (before loaded after : List (Option Record)) (k : ℕ) (it : Record) → loaded ≡ before
    → after ≡ slice_set loaded k (Some it) → after ≡ slice_set before k (Some it)
records_are before loaded after k it same put = put ∙ ap (λ records. slice_set records k (Some it)) same

pub returns-in-Some-clause-publish : goal.returns-in-Some-clause-publish
returns-in-Some-clause-publish g c =
    let found : FoundAt c.args.pass.now.records c.place-place.result (Some c.in-Some.field-0) =
    subst (FoundAt c.args.pass.now.records c.place-place.result) c.in-Some.is c.find.ensures.found in
    let known =
    is_known c.args.self.now c.args.pass.now.records c.place-place.ensures.records c.args.probe.now.cell
    c.place-place.ensures.counted c.place-place.result c.place-place.ensures.place
    c.places_tell_cells_apart.ensures c.in-Some.field-0 found in (
      refl,
      record {
        known = subst (λ records. HasRecord records c.args.probe.now.cell) (sym c.find.ensures.records) known;
        only = λ other now differ. subst (λ records. HasRecord records other) c.find.ensures.records now;
      },
      ap record_count c.find.ensures.records,
    )

pub returns-in-Some-clause-won : goal.returns-in-Some-clause-won
returns-in-Some-clause-won g c = (
  λ e. absurd (let f : publishes.Lost ≡ publishes.Won = e in cc),
  λ h. absurd (
      let zero_is =
      value_is c.find.new.self c.args.probe.now.cell c.place-place.result true
      (deeds.Exchange 0 h.0) 0 c.find.result c.find.ensures.last h.1 in
      let some = some_value c.in-Some.field-0 in
      let same = ap value_of c.in-Some.is in
      omega (arith, zero_is, some, same)),
)

pub returns-in-Some-clause-lost : goal.returns-in-Some-clause-lost
returns-in-Some-clause-lost g c =
    let some : 0 < value_of c.find.result = subst (λ o. 0 < value_of o) (sym c.in-Some.is)
    (some_value c.in-Some.field-0) in (
      λ e. (
        value_of c.find.result,
        some,
        (
          1,
          on_record c.args.self.now c.find.new.self c.args.probe.now.cell
              c.place-place.result true c.find.result
              (c.find.ensures.problem ∙ c.requires.own) c.place-place.ensures.place c.find.ensures.last,
        ),
      ),
      λ h. refl,
    )

pub returns-in-None-clause-known : goal.returns-in-None-clause-known
returns-in-None-clause-known g c = λ cell known.
    let none : FoundAt c.args.pass.now.records c.place-place.result None =
    subst (FoundAt c.args.pass.now.records c.place-place.result) c.in-None.is c.find.ensures.found in
    let kept = known_kept c.args.pass.now.records c.place-place.result
    (record { cell = c.args.probe.now.cell; answer = c.args.answer }) none cell known in
    subst (λ records. HasRecord records cell)
    (sym (records_are c.args.pass.now.records c.find.new.self.records c.put.new.self.records c.place-place.result
    (record { cell = c.args.probe.now.cell; answer = c.args.answer }) c.find.ensures.records
    c.put.ensures.records)) kept

pub returns-in-None-clause-publish : goal.returns-in-None-clause-publish
returns-in-None-clause-publish g c =
    let it : Record = record { cell = c.args.probe.now.cell; answer = c.args.answer } in
    let none : FoundAt c.args.pass.now.records c.place-place.result None =
    subst (FoundAt c.args.pass.now.records c.place-place.result) c.in-None.is c.find.ensures.found in
    let now = records_are c.args.pass.now.records c.find.new.self.records c.put.new.self.records c.place-place.result
    (record { cell = c.args.probe.now.cell; answer = c.args.answer }) c.find.ensures.records c.put.ensures.records
    in (
      refl,
      record {
        known = subst (λ records. HasRecord records c.args.probe.now.cell) (sym now)
            (known_put c.args.pass.now.records c.place-place.result it c.place-place.ensures.inside);
        only =
            λ other h differ. known_only c.args.pass.now.records c.place-place.result it c.place-place.ensures.inside
            other (subst (λ records. HasRecord records other) now h) differ;
      },
      ap record_count now ∙ count_set c.args.pass.now.records c.place-place.result it none,
    )

pub returns-in-None-clause-won : goal.returns-in-None-clause-won
returns-in-None-clause-won g c =
    let last = c.put.ensures.last ∙ c.find.ensures.last in
    let on = on_record c.args.self.now c.put.new.self c.args.probe.now.cell c.place-place.result true c.find.result
    (c.put.ensures.problem ∙ c.find.ensures.problem ∙ c.requires.own) c.place-place.ensures.place last in (
      λ e. subst (λ o. HasExchanged plain_meaning c.put.new.self c.args.probe.now.cell (value_of o)) c.in-None.is (1, on),
      λ h. refl,
    )

pub returns-in-None-clause-lost : goal.returns-in-None-clause-lost
returns-in-None-clause-lost g c =
    let last = c.put.ensures.last ∙ c.find.ensures.last in (
      λ e. absurd (let f : publishes.Won ≡ publishes.Lost = e in cc),
      λ h. absurd (
          let value = value_is c.put.new.self c.args.probe.now.cell c.place-place.result true
          (deeds.Exchange 0 h.2.0) h.0 c.find.result last h.2.1 in
          let none = ap value_of c.in-None.is in
          omega (arith, value, none, h.1)),
    )
