-- A faultless grammar has sizes and ranks: it can't be that it has none.
use Rattle.std.proofs.Common.{ℕ, suc, ◌<◌, inl, inr, Bool, IsTrue, min, Option, List, [], ◌∷◌, length, Contains, refl, arith}
use Rattle.adp_model.specs.declared.grammar.Arg.{Arg}
use Rattle.adp_model.specs.declared.grammar.Arg.TheVariants.{Rule}
use Rattle.adp_model.specs.declared.grammar.Grammar.{Grammar}
use Rattle.adp_model.specs.declared.grammar.Kind.{Kind}
use Rattle.adp_model.specs.declared.grammar.Term.{Term}
use Rattle.adp_model.specs.Parts.{alternatives_of, arguments_of, sign_at, term_for}
use Rattle.adp_model.specs.Terms.{KeepsOrder}
use Rattle.adp_model.specs.TermSigns.{HasKnownSign, IsMonotone}
use Rattle.adp_model.specs.GrammarSigns.{known_signs}
use Rattle.adp_model.specs.Lengths.{HasLength}
use Rattle.adp_model.specs.Sizes.{greatest_kept, IsLeastSize, AreGreatestSizes}
use Rattle.adp_model.specs.Loops.{AreEmptyBut, IsEdge, IsEdgePath, Edge, Onward}
use Rattle.adp_model.specs.GrammarFaults.{IsFaultless}
use Rattle.adp_model.specs.Checks.{IsChecked}
use Rattle.adp_model.specs.WellFormed.{is_well_formed}
use Rattle.faultless_grammars.specs.Irrefutable.{HasSizesAndRanks, IsIrrefutable}
use Rattle.faultless_grammars.proofs.Deciding.{AreListed, all_listed, and_then, it_holds, least_there}
use Rattle.faultless_grammars.proofs.Counting.{Counts, count_below, count_grows, counted}
use Rattle.faultless_grammars.proofs.GreatestLengths.{greatest_sizes}

-- what is known of terms and of parts of grammars
pub record CheckLaws : Type 0 where
  pub orderly : (known : Kind → Bool) (term : Term) (kinds : List Kind) → IsMonotone known term kinds
      → KeepsOrder (HasKnownSign known) term kinds
  pub rule_there : (grammar : Grammar) (rule alternative : ℕ) → alternative < length (alternatives_of grammar rule)
      → rule < length grammar.rules
  pub named_known : (grammar : Grammar) → IsTrue (is_well_formed grammar) → (rule alternative other : ℕ)
      → Contains (arguments_of grammar rule alternative) (Rule other) → other < length grammar.rules

-- an edge leads to a rule that an argument names
contains_later : (argument other : Arg) (arguments : List Arg) → Contains arguments other
    → Contains (argument ∷ arguments) other
contains_later argument other arguments (place, inside, is) = (suc place, omega (arith, inside), is)

edge_named : (grammar : Grammar) (other : ℕ) (arguments : List Arg) → AreEmptyBut grammar other arguments
    → Contains arguments (Rule other)
edge_named grammar other [] h = absurd h
edge_named grammar other (argument ∷ arguments) (inl (is, rest)) = (0, omega arith, is)
edge_named grammar other (argument ∷ arguments) (inr (empty, later)) =
    contains_later argument (Rule other) arguments (edge_named grammar other arguments later)

module _ (laws : CheckLaws) (grammar : Grammar) (formed : IsTrue (is_well_formed grammar)) (name : List ℕ)
    (algebra : ℕ) (sound : IsFaultless grammar name algebra) where
  abbrev count : ℕ
  count = length grammar.rules

  -- a rule's rank is the number of rules that edges lead to from it
  abbrev IsRank : ℕ → ℕ → Type 0
  IsRank rule rank = Counts (IsEdgePath grammar rule) count rank

  edge_inside : (rule other : ℕ) → IsEdge grammar rule other → (rule < count) × (other < count)
  edge_inside rule other edge = (
    laws.rule_there grammar rule edge.0 edge.1,
    laws.named_known grammar formed rule edge.0 other (edge_named grammar other (arguments_of grammar rule edge.0) edge.2),
  )

  rank_falls : (rule other high low : ℕ) → IsRank rule high → IsRank other low → IsEdge grammar rule other → low < high
  rank_falls rule other high low h k edge =
      let inside = (edge_inside rule other edge).1 in
      count_grows (IsEdgePath grammar other) (IsEdgePath grammar rule) (λ n path. Onward rule other n edge path) other
      (sound.no_loop other inside) (Edge rule other edge) count low high inside k h

  least_size : (rule : ℕ) → rule < count → IsIrrefutable ((size : ℕ) × IsLeastSize grammar rule size)
  least_size rule inside =
      let found = sound.productive rule inside in
      and_then _ _ (least_there (HasLength grammar rule) found.0 found.1) (λ least.
      it_holds _ (min least.0 greatest_kept, (least.0, least.1, least.2, refl)))

  checked : (least : List ℕ) (greatest : List (Option ℕ)) (ranks : List ℕ)
      → AreListed ℕ (IsLeastSize grammar) 0 count least → AreGreatestSizes grammar greatest
      → AreListed ℕ IsRank 0 count ranks → IsChecked grammar algebra least greatest ranks
  checked least greatest ranks sizes are ranked = record {
    well_formed = formed;
    algebra_known = sound.named.in_range;
    least_each = sizes.0;
    greatest_each = are.are.each;
    ranks_each = ranked.0;
    least_are = sizes.1;
    greatest_are = λ rule inside. (greatest, are, inside, refl);
    ranks_fall = λ rule other edge.
        let inside = edge_inside rule other edge in
        rank_falls rule other _ _ (ranked.1 rule inside.0) (ranked.1 other inside.1) edge;
    ranks_fit = λ rule inside.
        count_below (IsEdgePath grammar rule) rule count _ (sound.no_loop rule inside) inside (ranked.1 rule inside);
    possible = λ rule alternative there.
        sound.possible rule (laws.rule_there grammar rule alternative there) least greatest
        (record { least_each = sizes.0; least_are = sizes.1; greatest_are = are }) alternative there;
    orderly = λ sign inside.
        laws.orderly (known_signs grammar algebra) (term_for grammar algebra sign) (sign_at grammar sign).kinds
        (sound.monotone sign inside);
  }

  pub sizes_and_ranks : IsIrrefutable (HasSizesAndRanks grammar algebra)
  sizes_and_ranks =
      let greatest = greatest_sizes grammar in
      and_then _ _ (all_listed ℕ 0 count (IsLeastSize grammar) least_size) (λ least.
      and_then _ _ (all_listed ℕ 0 count IsRank (λ rule inside. counted (IsEdgePath grammar rule) count)) (λ ranks.
      it_holds _ (least.0, greatest.0, ranks.0, checked least.0 greatest.0 ranks.0 least.1 greatest.1 ranks.1)))
