-- Values of spans: which spans have one, where it stands, and what a write of one changes.
use Rattle.std.proofs.Common.{◌≡◌, ℕ, zero, suc, ◌+◌, ◌-◌, ◌*◌, ◌<◌, ◌≤◌, ◌⊎◌, true, ◌&&◌, cond, leb, ltb, Decides, Option, Some, None, List, [], ◌∷◌, length, get_or, set, slice_get, sym, ap, refl, subst, inl, inr, ⊎_elim, ◌∙◌, arith}
use Rattle.std.specs.Prelude.{IsSome, is_some}
use Rattle.std.proofs.lemmas.Bool.{cases_lt, cases_eq, cases_Bool, leb-true, le-leb}
use Rattle.std.proofs.lemmas.Bool.Decides.{Decides-and, Decides-ltb}
use Rattle.std.proofs.lemmas.Nat.{same_from_place}
use Rattle.std.proofs.lemmas.List.{get_or_past, length-set}
use Rattle.std.proofs.lemmas.Option.{slice_get_read}
use Rattle.cell_layouts.specs.declared.layout.Block.{Block}
use Rattle.cell_tables.specs.Spans.{Spans, AreBlocks, IsWritten, AreWritten, AreSet, Stands, block_at, place_of, value_at}
use Rattle.cell_tables.proofs.BlockPlaces.{value_within, other_place}

abbrev pub nothing : Block
nothing = record { place = 0; first = 0; past = 0 }

-- the number of a block
abbrev pub number_of : {V : Type 0} → Spans V → ℕ → ℕ → ℕ
number_of spans rule near = rule * spans.positions + near

pub is_some_at : {V : Type 0} (values : List V) (place : ℕ) → place < length values → is_some (slice_get values place) ≡ true
is_some_at [] place l = absurd (omega arith)
is_some_at (value ∷ values) zero l = refl
is_some_at (value ∷ values) (suc place) l = is_some_at values place (omega arith)

module _ {V : Type 0} (spans : Spans V) (rule near far : ℕ) where
  stands_told : Decides (ltb near spans.positions && (leb (block_at spans rule near).first far && ltb far (block_at spans rule near).past)) ((near < spans.positions) × (((block_at spans rule near).first ≤ far) × (far < (block_at spans rule near).past)))
  stands_told =
      let low = (block_at spans rule near).first in
      let high = (block_at spans rule near).past in
      let both : Decides (leb low far && ltb far high) ((low ≤ far) × (far < high)) = Decides-and _ _ (leb-true low far, le-leb low far) (Decides-ltb far high) in
      Decides-and _ _ (Decides-ltb near spans.positions) both

  pub value_standing : Stands spans rule near far → value_at spans rule near far ≡ slice_get spans.values (place_of spans rule near far)
  value_standing s =
      let true_test = stands_told.1 (s.near_in, (s.low, s.high)) in
      ap (λ b. cond b (slice_get spans.values (place_of spans rule near far)) None) true_test

  pub standing_value : (value : V) → value_at spans rule near far ≡ Some value → Stands spans rule near far
  standing_value value e =
      elim (cases_Bool (ltb near spans.positions && (leb (block_at spans rule near).first far && ltb far (block_at spans rule near).past))) [
        | inl there ↦ let all = stands_told.0 there in record { near_in = all.0; low = all.1.0; high = all.1.1 }
        | inr missing ↦ let none = ap (λ b. cond b (slice_get spans.values (place_of spans rule near far)) None) missing in absurd cc
      ]

  pub number_in : Stands spans rule near far → number_of spans rule near < length spans.blocks
  number_in s =
      elim (cases_lt (number_of spans rule near) (length spans.blocks)) [
        | inl l ↦ l
        | inr past ↦
            let empty : (block_at spans rule near).past ≡ 0 = ap (λ block. block.past) (get_or_past spans.blocks (number_of spans rule near) nothing past) in
            absurd (omega (arith, s.high, empty))
      ]

  pub place_within : AreBlocks spans → Stands spans rule near far → place_of spans rule near far < length spans.values
  place_within laid s = value_within spans.blocks (length spans.values) laid (number_of spans rule near) far nothing (number_in s) s.low s.high

  pub standing_has : AreBlocks spans → Stands spans rule near far → IsSome (value_at spans rule near far)
  standing_has laid s = ap is_some (value_standing s) ∙ is_some_at spans.values (place_of spans rule near far) (place_within laid s)

  pub stands_where_some : IsSome (value_at spans rule near far) → Stands spans rule near far
  stands_where_some some = go (value_at spans rule near far) refl some
    where
      go : (found : Option V) → value_at spans rule near far ≡ found → IsSome found → Stands spans rule near far
      go None e some = absurd cc
      go (Some value) e some = standing_value value e

  pub none_standing : (Stands spans rule near far → ⊥) → value_at spans rule near far ≡ None
  none_standing apart =
      elim (cases_Bool (ltb near spans.positions && (leb (block_at spans rule near).first far && ltb far (block_at spans rule near).past))) [
        | inl there ↦ let all = stands_told.0 there in absurd (apart (record { near_in = all.0; low = all.1.0; high = all.1.1 }))
        | inr missing ↦ ap (λ b. cond b (slice_get spans.values (place_of spans rule near far)) None) missing
      ]

  -- the block of a value begins at the value's far end or before
  pub block_low : (block : Block) → block ≡ block_at spans rule near → IsSome (value_at spans rule near far) → block.first ≤ far
  block_low block is some = let firsts = ap (λ (b : Block). b.first) is in omega (arith, (stands_where_some some).low, firsts)

-- a value between two that stand stands too
pub stands_between : {V : Type 0} (spans : Spans V) (rule near first last far : ℕ) → Stands spans rule near first → Stands spans rule near last → first ≤ far → far ≤ last → Stands spans rule near far
stands_between spans rule near first last far s t l m = record { near_in = s.near_in; low = omega (arith, s.low); high = omega (arith, t.high) }

-- ---- what a write changes

pub slice_get-set_same : {V : Type 0} (values : List V) (place : ℕ) (value : V) → place < length values → slice_get (set values place value) place ≡ Some value
slice_get-set_same [] place value l = absurd (omega arith)
slice_get-set_same (first ∷ values) zero value l = refl
slice_get-set_same (first ∷ values) (suc place) value l = slice_get-set_same values place value (omega arith)

pub slice_get-set_other : {V : Type 0} (values : List V) (place other : ℕ) (value : V) → (place ≡ other → ⊥) → slice_get (set values place value) other ≡ slice_get values other
slice_get-set_other [] place other value apart = refl
slice_get-set_other (first ∷ values) zero zero value apart = absurd (apart refl)
slice_get-set_other (first ∷ values) zero (suc other) value apart = refl
slice_get-set_other (first ∷ values) (suc place) zero value apart = refl
slice_get-set_other (first ∷ values) (suc place) (suc other) value apart = slice_get-set_other values place other value (λ e. apart (ap suc e))

-- the spans with other values
abbrev pub with_values : {V : Type 0} → Spans V → List V → Spans V
with_values spans values = record { positions = spans.positions; blocks = spans.blocks; values = values }

module _ {V : Type 0} (old : Spans V) (laid : AreBlocks old) (rule near : ℕ) where
  -- two spans whose values stand at one place are one
  pub same_span : (other_rule other_near far other_far : ℕ) → Stands old rule near far → Stands old other_rule other_near other_far → place_of old rule near far ≡ place_of old other_rule other_near other_far
      → (other_rule ≡ rule) × (other_near ≡ near) × (other_far ≡ far)
  same_span other_rule other_near far other_far s t same =
      elim (cases_eq (number_of old rule near) (number_of old other_rule other_near)) [
        | inl one ↦
            let rows = same_from_place rule near other_rule other_near old.positions s.near_in t.near_in one in
            let blocks : block_at old other_rule other_near ≡ block_at old rule near = ap (λ number. get_or old.blocks number nothing) (sym one) in
            let places = ap (λ (block : Block). block.place) blocks in
            let firsts = ap (λ (block : Block). block.first) blocks in
            (sym rows.0, sym rows.1, omega (arith, same, places, firsts, s.low, t.low))
        | inr apart ↦
            absurd (other_place old.blocks (length old.values) laid (number_of old rule near) (number_of old other_rule other_near) far other_far nothing (number_in old rule near far s) (number_in old other_rule other_near other_far t) apart s.low s.high t.low t.high same)
      ]

  module _ (values : List V) (IsFar : ℕ → Type 0) (value : V) (each : (far : ℕ) → IsFar far → Stands old rule near far) (set_there : AreSet old.values values (λ place. (far : ℕ) × IsFar far × (place ≡ place_of old rule near far)) value) where
    others_kept : (other_rule other_near other_far : ℕ) → ((other_rule ≡ rule) × (other_near ≡ near) × IsFar other_far → ⊥) → value_at (with_values old values) other_rule other_near other_far ≡ value_at old other_rule other_near other_far
    others_kept other_rule other_near other_far apart =
        elim (cases_Bool (ltb other_near old.positions && (leb (block_at old other_rule other_near).first other_far && ltb other_far (block_at old other_rule other_near).past))) [
          | inl there ↦
              let all = (stands_told old other_rule other_near other_far).0 there in
              let s : Stands old other_rule other_near other_far = record { near_in = all.0; low = all.1.0; high = all.1.1 } in
              let s' : Stands (with_values old values) other_rule other_near other_far = record { near_in = all.0; low = all.1.0; high = all.1.1 } in
              value_standing (with_values old values) other_rule other_near other_far s'
              ∙ set_there.others (place_of old other_rule other_near other_far) (λ (far, is, e).
              let same = same_span other_rule other_near far other_far (each far is) s (sym e) in
              apart (same.0, same.1, subst IsFar (sym same.2) is))
              ∙ sym (value_standing old other_rule other_near other_far s)
          | inr missing ↦
              ap (λ b. cond b (slice_get values (place_of old other_rule other_near other_far)) None) missing
              ∙ sym (ap (λ b. cond b (slice_get old.values (place_of old other_rule other_near other_far)) None) missing)
        ]

    there_now : (far : ℕ) → IsFar far → value_at (with_values old values) rule near far ≡ Some value
    there_now far is =
        let s = each far is in
        let s' : Stands (with_values old values) rule near far = record { near_in = s.near_in; low = s.low; high = s.high } in
        value_standing (with_values old values) rule near far s'
        ∙ set_there.there (place_of old rule near far) (far, is, refl) (place_within old rule near far laid s)

    pub are_written : AreWritten old (with_values old values) rule near IsFar value
    are_written = record {
      same = record { positions = refl; blocks = refl; as_many = set_there.as_many };
      there = there_now;
      others = others_kept;
    }

-- ---- what a grid reads and writes

pub stands_in : {V : Type 0} (spans : Spans V) (rule near far : ℕ) (block : Block) → near < spans.positions → block ≡ block_at spans rule near → block.first ≤ far → far < block.past → Stands spans rule near far
stands_in spans rule near far block near_in is_block low high =
    let firsts = ap (λ (b : Block). b.first) is_block in
    let pasts = ap (λ (b : Block). b.past) is_block in
    record { near_in = near_in; low = omega (arith, low, firsts); high = omega (arith, high, pasts) }

module _ {V : Type 0} (spans : Spans V) (laid : AreBlocks spans) (rule near : ℕ) (block : Block) (is_block : block ≡ block_at spans rule near) where
  pub low_in : (far : ℕ) → Stands spans rule near far → block.first ≤ far
  low_in far s = let firsts = ap (λ (b : Block). b.first) is_block in omega (arith, s.low, firsts)

  pub place_is : (far : ℕ) → Stands spans rule near far → place_of spans rule near far ≡ block.place + (far - block.first)
  place_is far s =
      let places = ap (λ (b : Block). b.place) is_block in
      let firsts = ap (λ (b : Block). b.first) is_block in
      omega (arith, places, firsts, s.low)

  pub index_within : (far : ℕ) → Stands spans rule near far → block.place + (far - block.first) < length spans.values
  index_within far s = omega (arith, place_is far s, place_within spans rule near far laid s)

  pub read_value : (far : ℕ) (value : V) → Stands spans rule near far → value ≡ get_or spans.values (block.place + (far - block.first)) value → value_at spans rule near far ≡ Some value
  read_value far value s read =
      value_standing spans rule near far s ∙ ap (slice_get spans.values) (place_is far s)
      ∙ slice_get_read spans.values (length spans.values) (block.place + (far - block.first)) value refl (index_within far s) read

  pub written_value : (far : ℕ) (value : V) → Stands spans rule near far → IsWritten spans (with_values spans (set spans.values (block.place + (far - block.first)) value)) rule near far value
  written_value far value s =
      let at = place_of spans rule near far in
      let placed : AreSet spans.values (set spans.values at value) (λ place. (other : ℕ) × (other ≡ far) × (place ≡ place_of spans rule near other)) value = record {
        as_many = length-set spans.values at value;
        there = λ place (other, e, p) l.
            let same : place ≡ at = p ∙ ap (λ x. place_of spans rule near x) e in
            subst (λ x. slice_get (set spans.values at value) x ≡ Some value) (sym same) (slice_get-set_same spans.values at value (omega (arith, same)));
        others = λ place apart. slice_get-set_other spans.values at place value (λ e. apart (far, refl, sym e));
      } in
      let each : (other : ℕ) → other ≡ far → Stands spans rule near other = λ other e. subst (λ x. Stands spans rule near x) (sym e) s in
      let written = are_written spans laid rule near (set spans.values at value) (λ other. other ≡ far) value each placed in
      subst (λ place. IsWritten spans (with_values spans (set spans.values place value)) rule near far value) (place_is far s)
      (record { same = written.same; there = written.there far refl; others = written.others })

  -- values of spans at a row are those from a place on
  pub values_between : (first past : ℕ) → Stands spans rule near first → Stands spans rule near (past - 1) → first < past
      → (block.place + (first - block.first) + (past - first) ≤ length spans.values)
      × ((k : ℕ) → k < past - first → slice_get spans.values (block.place + (first - block.first) + k) ≡ value_at spans rule near (first + k))
  values_between first past s t l =
      let last = index_within (past - 1) t in
      let low = low_in first s in (
        omega (arith, last, low),
        λ k m.
            let u : Stands spans rule near (first + k) = stands_between spans rule near first (past - 1) (first + k) s t (omega arith) (omega arith) in
            let same : block.place + (first - block.first) + k ≡ place_of spans rule near (first + k) = omega (arith, place_is (first + k) u, low) in
            ap (slice_get spans.values) same ∙ sym (value_standing spans rule near (first + k) u),
      )

-- one more value is set
pub set_more : {V : Type 0} (old now : List V) (Before After : ℕ → Type 0) (place : ℕ) (value : V) → place < length old → AreSet old now Before value
    → ((at : ℕ) → After at → Before at ⊎ (at ≡ place)) → ((at : ℕ) → Before at → After at) → After place → AreSet old (set now place value) After value
set_more old now Before After place value l before cases keeps here = record {
  as_many = length-set now place value ∙ before.as_many;
  there = λ at after m. elim (cases_eq place at) [
    | inl e ↦ subst (λ x. slice_get (set now place value) x ≡ Some value) e (slice_get-set_same now place value (omega (arith, before.as_many)))
    | inr apart ↦ slice_get-set_other now place at value apart ∙ ⊎_elim (λ was. before.there at was m) (λ e. absurd (apart (sym e))) (cases at after)
  ];
  others = λ at none.
      slice_get-set_other now place at value (λ e. none (subst After e here))
      ∙ before.others at (λ was. none (keeps at was));
}

pub set_like : {V : Type 0} (old new : List V) (Here There : ℕ → Type 0) (value : V) → ((at : ℕ) → There at → Here at) → ((at : ℕ) → Here at → There at) → AreSet old new Here value → AreSet old new There value
set_like old new Here There value to from set_here = record {
  as_many = set_here.as_many;
  there = λ at is. set_here.there at (to at is);
  others = λ at apart. set_here.others at (λ is. apart (from at is));
}
