-- The blocks of counted cells in rows stand at the places of the cells.
use Rattle.std.proofs.Common.{◌≡◌, ℕ, zero, suc, ◌+◌, ◌-◌, ◌*◌, ◌<◌, ◌≤◌, get_or, List, length, take, sym, ap, subst, ◌∙◌, arith}
use Rattle.std.specs.Prelude.{sum_by}
use Rattle.std.proofs.lemmas.Nat.{mul-add-lt}
use Rattle.std.proofs.lemmas.List.Sums.{sum_by_more}
use Rattle.std.proofs.Math.Seq.{take_all}
use Rattle.adp_model.specs.declared.grammar.Grammar.{Grammar}
use Rattle.adp_model.specs.Cells.{AreCountedEnds, IsCellBound, IsPlaceOf}
use Rattle.cell_layouts.specs.declared.layout.Block.{Block}
use Rattle.cell_layouts.specs.declared.layout.Side.TheVariants.{Rows}
use Rattle.cell_layouts.specs.Layout.{block_in, size_of, AreCountedBlocks}
use Rattle.cell_layouts.proofs.CountedBlocks.{nothing}

module _ (grammar : Grammar) (len : ℕ) (blocks : List Block) (count : ℕ) (are : AreCountedBlocks grammar len Rows count blocks) (starts : (rule from first past k : ℕ) → AreCountedEnds grammar len rule from first past → first ≤ past → IsPlaceOf grammar len (record { rule = rule; from = from; to = 0 }) k → IsPlaceOf grammar len (record { rule = rule; from = from + 1; to = 0 }) (k + (past - first))) (rules : (rule k : ℕ) → IsPlaceOf grammar len (record { rule = rule; from = len + 1; to = 0 }) k → IsPlaceOf grammar len (record { rule = rule + 1; from = 0; to = 0 }) k) (begin : IsPlaceOf grammar len (record { rule = 0; from = 0; to = 0 }) 0) where
  abbrev StandsBefore : ℕ → ℕ → ℕ → Type 0
  StandsBefore rule from number = IsPlaceOf grammar len (record { rule = rule; from = from; to = 0 }) (sum_by size_of (take number blocks))

  start_placed : (rule : ℕ) → rule < length grammar.rules → StandsBefore rule 0 (rule * (len + 1)) → (from : ℕ) → from ≤ len + 1 → StandsBefore rule from (rule * (len + 1) + from)
  start_placed rule known base zero within = let same : rule * (len + 1) ≡ rule * (len + 1) + 0 = omega arith in subst (StandsBefore rule 0) same base
  start_placed rule known base (suc from) within =
      let number = rule * (len + 1) + from in
      let inside : number < (len + 1) * length grammar.rules = mul-add-lt rule (len + 1) from (length grammar.rules) known (omega arith) in
      let below : number < length grammar.rules * (len + 1) = omega (arith, inside) in
      let there = are.are rule from (omega arith) below in
      let more = sum_by_more size_of blocks number nothing (omega (arith, are.each, below)) in
      let next : number + 1 ≡ rule * (len + 1) + suc from = omega arith in
      let later : from + 1 ≡ suc from = omega arith in
      let moved = starts rule from (get_or blocks number nothing).first (get_or blocks number nothing).past (sum_by size_of (take number blocks)) there.fars there.in_order (start_placed rule known base from (omega arith)) in
      let P : ℕ → Type 0 = λ k. IsPlaceOf grammar len (record { rule = rule; from = from + 1; to = 0 }) k in
      subst (StandsBefore rule (suc from)) next (subst (λ f. StandsBefore rule f (number + 1)) later (subst P (sym more) moved))

  rule_placed : (rule : ℕ) → rule ≤ length grammar.rules → StandsBefore rule 0 (rule * (len + 1))
  rule_placed zero within = let none : 0 ≡ 0 * (len + 1) = omega arith in subst (StandsBefore 0 0) none begin
  rule_placed (suc rule) within =
      let whole = start_placed rule (omega arith) (rule_placed rule (omega arith)) (len + 1) (omega arith) in
      let next = rules rule (sum_by size_of (take (rule * (len + 1) + (len + 1)) blocks)) whole in
      let later : rule + 1 ≡ suc rule = omega arith in
      let number : rule * (len + 1) + (len + 1) ≡ suc rule * (len + 1) = omega arith in
      subst (StandsBefore (suc rule) 0) number (subst (λ r. StandsBefore r 0 (rule * (len + 1) + (len + 1))) later next)

  -- the block of a rule and a start stands where the rule's counted cells from the start on begin
  pub block_placed : (rule from : ℕ) → rule < length grammar.rules → from ≤ len → IsPlaceOf grammar len (record { rule = rule; from = from; to = 0 }) (block_in blocks len rule from).place
  block_placed rule from known within =
      let number = rule * (len + 1) + from in
      let inside : number < (len + 1) * length grammar.rules = mul-add-lt rule (len + 1) from (length grammar.rules) known (omega arith) in
      let there = are.laid.placed number nothing (omega (arith, are.each, inside)) in
      let P : ℕ → Type 0 = λ k. IsPlaceOf grammar len (record { rule = rule; from = from; to = 0 }) k in
      subst P (sym there) (start_placed rule known (rule_placed rule (omega arith)) from (omega arith))

  pub all_counted : ((k : ℕ) → IsPlaceOf grammar len (record { rule = length grammar.rules; from = 0; to = 0 }) k → IsCellBound grammar len k) → IsCellBound grammar len count
  all_counted bound =
      let all = take_all (length grammar.rules * (len + 1)) blocks (omega (arith, are.each)) in
      let same = ap (sum_by size_of) all ∙ sym are.laid.all in
      subst (IsCellBound grammar len) same (bound (sum_by size_of (take (length grammar.rules * (len + 1)) blocks)) (rule_placed (length grammar.rules) (omega arith)))
