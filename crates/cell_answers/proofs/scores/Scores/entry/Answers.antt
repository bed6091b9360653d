use Rattle.std.proofs.Common.{◌≡◌, ℤ, refl, Option, Some, None, FitsSigned, to_z, of_z, w16, w32, w64, sym, ap, ◌∙◌, rules}
use Rattle.std.proofs.lemmas.Int.{to_z-of_z}
use Rattle.std.specs.Option.{option_map}
use Rattle.adp_model.specs.declared.cell.Cell.{Cell}
use Rattle.cell_answers.specs.declared.scores.Packed.{Packed}
use Rattle.cell_answers.specs.declared.scores.Packed.TheVariants.{Short, Medium, Long, Whole}
use Rattle.cell_answers.specs.declared.scores.Scores.TheInside.{Inside}
use Rattle.cell_tables.specs.Tables.{Table, in_row}
use Rattle.score_numbers.specs.Packing.{Width, short, medium, long, told}
use Rattle.cell_answers.specs.PackedTables.{told_table}
use Rattle.cell_answers.specs.ScoresFields.{scores_table, table_of}
use Rattle.cell_answers.proofs.Told.{value_told}
use Rattle.cell_answers.proofs.scores.Scores.entry.Goals as goal

-- the entry in a row, by the table within
row_is : (inside : Inside) (packed : Packed) (now : Table ℤ) (cell : Cell) → scores_table inside ≡ now
    → inside.packed ≡ packed → in_row (table_of inside.goal packed) cell ≡ in_row now cell
row_is inside packed now cell view is = sym (ap (λ p. in_row (table_of inside.goal p) cell) is) ∙ ap (λ (table : Table ℤ). in_row table cell) view

module _ (width : Width) (inside : Inside) (packed : Packed) (now : Table ℤ) (cell : Cell) (table : Table ℤ) (found : Option ℤ)
    (view : scores_table inside ≡ now) (is : inside.packed ≡ packed)
    (told_is : table_of inside.goal packed ≡ told_table width inside.goal table)
    (read : found ≡ in_row table cell) where
  row_told : option_map (told width inside.goal) found ≡ in_row now cell
  row_told =
      ap (option_map (told width inside.goal)) read
      ∙ sym (value_told width inside.goal table.rows cell.rule cell.from cell.to)
      ∙ sym (ap (λ (t : Table ℤ). in_row t cell) told_is)
      ∙ row_is inside packed now cell view is

  none_there : (result : Option ℤ) → found ≡ None → result ≡ None → result ≡ in_row now cell
  none_there result none is_none = is_none ∙ sym (ap (option_map (told width inside.goal)) none) ∙ row_told

  some_there : (number read_number entry : ℤ) → found ≡ Some number → read_number ≡ number → FitsSigned w64 entry
      → entry ≡ told width inside.goal read_number → Some (to_z w64 (of_z w64 entry)) ≡ in_row now cell
  some_there number read_number entry some same fits e =
      ap (λ (z : ℤ). Some z) (to_z-of_z w64 entry fits ∙ e ∙ ap (told width inside.goal) same) ∙ sym (ap (option_map (told width inside.goal)) some) ∙ row_told

pub returns-in_err-value-in-Short : goal.returns-in_err-value-in-Short
returns-in_err-value-in-Short c =
    none_there short c.self.inside (Short c.in-Short.table) c.args.self.now c.args.cell c.in-Short.table c.value.result
    c.self.view_is c.in-Short.is refl c.value.ensures c.from_residual.result c.in_err-value-in-Short.was
    c.from_residual.ensures

pub returns-in_ok-value-in-Short : goal.returns-in_ok-value-in-Short
returns-in_ok-value-in-Short c =
    some_there short c.self.inside (Short c.in-Short.table) c.args.self.now c.args.cell c.in-Short.table c.value.result
    c.self.view_is c.in-Short.is refl c.value.ensures c.in_ok-value-in-Short.field-0
    (to_z w16 (of_z w16 c.in_ok-value-in-Short.field-0)) c.short_entry.result c.in_ok-value-in-Short.was
    (to_z-of_z w16 c.in_ok-value-in-Short.field-0 (search rules)) (search rules) c.short_entry.ensures

pub returns-in_err-value-in-Medium : goal.returns-in_err-value-in-Medium
returns-in_err-value-in-Medium c =
    none_there medium c.self.inside (Medium c.in-Medium.table) c.args.self.now c.args.cell c.in-Medium.table
    c.value-in-Medium.result c.self.view_is c.in-Medium.is refl c.value-in-Medium.ensures
    c.from_residual-in_err-value-in-Medium.result c.in_err-value-in-Medium.was
    c.from_residual-in_err-value-in-Medium.ensures

pub returns-in_ok-value-in-Medium : goal.returns-in_ok-value-in-Medium
returns-in_ok-value-in-Medium c =
    some_there medium c.self.inside (Medium c.in-Medium.table) c.args.self.now c.args.cell c.in-Medium.table
    c.value-in-Medium.result c.self.view_is c.in-Medium.is refl c.value-in-Medium.ensures
    c.in_ok-value-in-Medium.field-0 (to_z w32 (of_z w32 c.in_ok-value-in-Medium.field-0)) c.medium_entry.result
    c.in_ok-value-in-Medium.was (to_z-of_z w32 c.in_ok-value-in-Medium.field-0 (search rules)) (search rules)
    c.medium_entry.ensures

pub returns-in_err-value-in-Long : goal.returns-in_err-value-in-Long
returns-in_err-value-in-Long c =
    none_there long c.self.inside (Long c.in-Long.table) c.args.self.now c.args.cell c.in-Long.table
    c.value-in-Long.result c.self.view_is c.in-Long.is refl c.value-in-Long.ensures
    c.from_residual-in_err-value-in-Long.result c.in_err-value-in-Long.was
    c.from_residual-in_err-value-in-Long.ensures

pub returns-in_ok-value-in-Long : goal.returns-in_ok-value-in-Long
returns-in_ok-value-in-Long c =
    some_there long c.self.inside (Long c.in-Long.table) c.args.self.now c.args.cell c.in-Long.table
    c.value-in-Long.result c.self.view_is c.in-Long.is refl c.value-in-Long.ensures c.in_ok-value-in-Long.field-0
    (to_z w64 (of_z w64 c.in_ok-value-in-Long.field-0)) c.long_entry.result c.in_ok-value-in-Long.was
    (to_z-of_z w64 c.in_ok-value-in-Long.field-0 (search rules)) (search rules) c.long_entry.ensures

pub returns-in-Whole : goal.returns-in-Whole
returns-in-Whole c = c.value-in-Whole.ensures ∙ row_is c.self.inside (Whole c.in-Whole.table) c.args.self.now c.args.cell c.self.view_is c.in-Whole.is
