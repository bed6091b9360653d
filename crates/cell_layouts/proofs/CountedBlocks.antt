-- The blocks of first rules and near ends: one more, and all counted in another way.
use Rattle.std.proofs.Common.{◌≡◌, ℕ, ◌+◌, ◌*◌, ◌<◌, ◌≤◌, get_or, inl, inr, List, [], ◌∷◌, ◌++◌, length, sym, ap, subst, ◌∙◌, arith}
use Rattle.std.specs.Prelude.{sum_by}
use Rattle.std.proofs.lemmas.Bool.{cases_lt}
use Rattle.std.proofs.lemmas.Nat.{mul-add-lt, same_from_place}
use Rattle.std.proofs.lemmas.List.{length_push, get_or_append_left, get_or_push, get_or_read}
use Rattle.std.proofs.lemmas.List.Sums.{sum_by_push}
use Rattle.std.proofs.Math.Seq.{take-append-le}
use Rattle.std.proofs.Math.Seq.{take_all}
use Rattle.adp_model.specs.declared.grammar.Grammar.{Grammar}
use Rattle.cell_layouts.specs.declared.layout.Block.{Block}
use Rattle.cell_layouts.specs.declared.layout.Side.{Side}
use Rattle.cell_layouts.specs.Layout.{block_in, size_of, IsCountedBlock, AreCountedBlocks, AreFirstBlocks, AreLaid}

abbrev pub nothing : Block
nothing = record { place = 0; first = 0; past = 0 }

-- one more block
pub one_more_laid : (blocks : List Block) (count : ℕ) (block : Block) → AreLaid blocks count → block.place ≡ count → AreLaid (blocks ++ block ∷ []) (count + size_of block)
one_more_laid blocks count block laid here = record {
  placed = λ number d l. elim (cases_lt number (length blocks)) [
    | inl before ↦
        ap (λ (b : Block). b.place) (get_or_append_left blocks (block ∷ []) d number before)
        ∙ laid.placed number d before
        ∙ ap (sum_by size_of) (sym (take-append-le number blocks (block ∷ []) (omega arith)))
    | inr last ↦
        let same : number ≡ length blocks = omega (arith, length_push blocks block) in
        ap (λ (b : Block). b.place) (get_or_push blocks block d number (sym same))
        ∙ here ∙ laid.all
        ∙ ap (sum_by size_of) (sym (take_all number blocks (omega arith)) ∙ sym (take-append-le number blocks (block ∷ []) (omega arith)))
  ];
  all = ap (λ n. n + size_of block) laid.all ∙ sym (sum_by_push size_of blocks block);
}

-- the block of one more near end of a rule
pub one_more_block : (grammar : Grammar) (len : ℕ) (side : Side) (rule near count : ℕ) (blocks : List Block) (block : Block) → near ≤ len
    → AreFirstBlocks grammar len side (rule * (len + 1) + near) count blocks → block.place ≡ count → IsCountedBlock grammar len side rule near block
    → AreFirstBlocks grammar len side (rule * (len + 1) + (near + 1)) (count + size_of block) (blocks ++ block ∷ [])
one_more_block grammar len side rule near count blocks block within kept here new = record {
  each = omega (arith, length_push blocks block, kept.each);
  laid = one_more_laid blocks count block kept.laid here;
  are = λ rule' near' within' below.
      let index = rule' * (len + 1) + near' in
      elim (cases_lt index (rule * (len + 1) + near)) [
        | inl before ↦
            let read = get_or_append_left blocks (block ∷ []) nothing index (omega (arith, kept.each)) in
            subst (IsCountedBlock grammar len side rule' near') (sym read) (kept.are rule' near' within' before)
        | inr last ↦
            let same_index : rule' * (len + 1) + near' ≡ rule * (len + 1) + near = omega arith in
            let same = same_from_place rule' near' rule near (len + 1) (omega arith) (omega arith) same_index in
            let read : block_in (blocks ++ block ∷ []) len rule' near' ≡ block = get_or_push blocks block nothing index (omega (arith, kept.each)) in
            let P : ℕ → ℕ → Type 0 = λ r f. IsCountedBlock grammar len side r f block in
            let moved : IsCountedBlock grammar len side rule' near' block = subst (λ r. P r near') (sym same.0) (subst (λ f. P rule f) (sym same.1) new) in
            subst (IsCountedBlock grammar len side rule' near') (sym read) moved
      ];
}

-- the same blocks, counted in another way
pub blocks_recounted : (grammar : Grammar) (len : ℕ) (side : Side) (a b count : ℕ) (blocks : List Block) → a ≡ b → AreFirstBlocks grammar len side a count blocks → AreFirstBlocks grammar len side b count blocks
blocks_recounted grammar len side a b count blocks same kept = subst (λ number. AreFirstBlocks grammar len side number count blocks) same kept

-- the number of a rule and a near end is that of a block
pub number_below : (grammar : Grammar) (len rule near : ℕ) → rule < length grammar.rules → near ≤ len → rule * (len + 1) + near < length grammar.rules * (len + 1)
number_below grammar len rule near known within = omega (arith, mul-add-lt rule (len + 1) near (length grammar.rules) known (omega arith))

-- the block of a rule and a near end is the one that is read
pub block_is : (grammar : Grammar) (len rule near number : ℕ) (blocks : List Block) (block : Block) → length blocks ≡ length grammar.rules * (len + 1) → rule < length grammar.rules → near ≤ len → number ≡ rule * (len + 1) + near
    → block ≡ get_or blocks number block → block_in blocks len rule near ≡ block
block_is grammar len rule near number blocks block each known within index is =
    let below = number_below grammar len rule near known within in
    ap (λ n. get_or blocks n nothing) (sym index) ∙ sym (get_or_read blocks number block (omega (arith, index, each, below)) is nothing)

-- so it is that of the counted cells there
pub block_read : (grammar : Grammar) (len : ℕ) (side : Side) (rule near count number : ℕ) (blocks : List Block) (block : Block) → AreCountedBlocks grammar len side count blocks → rule < length grammar.rules → near ≤ len → number ≡ rule * (len + 1) + near
    → block ≡ get_or blocks number block → IsCountedBlock grammar len side rule near block
block_read grammar len side rule near count number blocks block are known within index is =
    subst (IsCountedBlock grammar len side rule near) (block_is grammar len rule near number blocks block are.each known within index is)
    (are.are rule near within (number_below grammar len rule near known within))
