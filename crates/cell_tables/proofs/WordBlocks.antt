-- Grids of numbers that hold a bit for each counted cell: the bits are there, and none is set at first.
use Rattle.std.proofs.Common.{◌≡◌, ℕ, ◌+◌, ◌*◌, ◌/◌, ◌%◌, ◌<◌, Some, List, length, get_or, slice_get, Result, Ok, Err, sym, ap, subst, ◌∙◌, arith}
use Rattle.std.specs.Prelude.{IfOk, IsSome}
use Rattle.std.specs.Int.{bit_at}
use Rattle.std.proofs.lemmas.Nat.Bits.{bit_at-zero}
use Rattle.std.proofs.lemmas.Option.{same_Some}
use Rattle.adp_model.specs.declared.grammar.Grammar.{Grammar}
use Rattle.adp_model.specs.Cells.{IsCounted}
use Rattle.cell_layouts.specs.declared.layout.Block.{Block}
use Rattle.cell_layouts.specs.declared.layout.Side.{Side}
use Rattle.cell_layouts.specs.Layout.{cell_at, block_in, AreCountedWords, AreLaid}
use Rattle.cell_tables.specs.Spans.{Spans, Stands, AreBlocks, block_at, place_of, value_at}
use Rattle.cell_tables.specs.Bits.{IsSet}
use Rattle.cell_tables.proofs.Values.{nothing, value_standing, standing_has, place_within}
use Rattle.cell_tables.proofs.CountedSpans.{near_within}
use Rattle.cell_tables.proofs.SpanBits.{set_stands}

word_there : (grammar : Grammar) (len : ℕ) (side : Side) (spans : Spans ℕ) → spans.positions ≡ len + 1 → AreCountedWords grammar len side (length spans.values) spans.blocks
    → (rule near far : ℕ) → IsCounted grammar len (cell_at side rule near far) → IsSome (value_at spans rule near (far / 64))
word_there grammar len side spans positions words rule near far cell =
    let within = near_within grammar len side rule near far cell in
    let number = words.there rule near far cell in
    let is : block_at spans rule near ≡ block_in spans.blocks len rule near = ap (λ n. get_or spans.blocks (rule * n + near) nothing) positions in
    let s : Stands spans rule near (far / 64) = record {
      near_in = omega (arith, within.1, positions);
      low = omega (arith, number.0, ap (λ (b : Block). b.first) is);
      high = omega (arith, number.1, ap (λ (b : Block). b.past) is);
    } in
    standing_has spans rule near (far / 64) words.laid s

-- no bit is set where all numbers are 0
pub none_set_in : (spans : Spans ℕ) → AreBlocks spans → ((place : ℕ) → place < length spans.values → slice_get spans.values place ≡ Some 0) → (rule near far : ℕ) → IsSet spans rule near far → ⊥
none_set_in spans laid zeros rule near far is =
    let s = set_stands spans rule near far is in
    let read = value_standing spans rule near (far / 64) s ∙ zeros (place_of spans rule near (far / 64)) (place_within spans rule near (far / 64) laid s) in
    let zero_word : is.word ≡ 0 = same_Some is.word 0 (sym is.there ∙ read) in
    let zero_bit = ap (λ word. bit_at word (far % 64)) zero_word ∙ bit_at-zero (far % 64) in
    omega (arith, zero_bit, is.bit)

-- ---- what a new grid has

pub words_there : {E : Type 0} (made : Result (Spans ℕ) E) (positions total : ℕ) (words : List Block) (grammar : Grammar) (len : ℕ) (side : Side) → AreCountedWords grammar len side total words → positions ≡ len + 1
    → IfOk made (λ grid. grid.positions ≡ positions) → IfOk made (λ grid. grid.blocks ≡ words) → IfOk made (λ grid. length grid.values ≡ total)
    → IfOk made (λ grid. (rule near far : ℕ) → IsCounted grammar len (cell_at side rule near far) → IsSome (value_at grid rule near (far / 64)))
words_there (Ok grid) positions total words grammar len side are known each blocks many =
    word_there grammar len side grid (each ∙ known) (subst (λ n. AreCountedWords grammar len side n grid.blocks) (sym many) (subst (AreCountedWords grammar len side total) (sym blocks) are))
words_there (Err e) positions total words grammar len side are known each blocks many = tt

pub words_empty : {E : Type 0} (made : Result (Spans ℕ) E) (total : ℕ) (words : List Block) → AreLaid words total → IfOk made (λ grid. grid.blocks ≡ words) → IfOk made (λ grid. length grid.values ≡ total)
    → IfOk made (λ grid. (place : ℕ) → place < total → slice_get grid.values place ≡ Some 0) → IfOk made (λ grid. (rule near far : ℕ) → IsSet grid rule near far → ⊥)
words_empty (Ok grid) total words laid blocks many values =
    none_set_in grid (subst (AreLaid grid.blocks) (sym many) (subst (λ bs. AreLaid bs total) (sym blocks) laid)) (λ place l. values place (omega (arith, l, many)))
words_empty (Err e) total words laid blocks many values = tt
