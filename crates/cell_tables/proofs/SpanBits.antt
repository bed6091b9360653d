-- Bits of spans: where they stand, and what a write of numbers sets.
use Rattle.std.proofs.Common.{◌≡◌, ◌⊎◌, ◌↔◌, ℕ, ◌+◌, ◌-◌, ◌/◌, ◌%◌, Some, List, get_or, slice_get, sym, ap, refl, subst, inl, inr, ⊎_elim, ◌∙◌, arith}
use Rattle.std.specs.Int.{bit_at}
use Rattle.std.specs.Prelude.{bit_or}
use Rattle.std.proofs.lemmas.Bool.{cases_eq}
use Rattle.std.proofs.lemmas.Option.{same_Some, slice_get-get_or, get_or_from_slice_get}
use Rattle.cell_layouts.specs.declared.layout.Block.{Block}
use Rattle.cell_tables.specs.Spans.{Spans, Stands, AreBlocks, IsWritten, block_at, place_of, value_at}
use Rattle.cell_layouts.specs.Layout.{AreLaid}
use Rattle.cell_tables.specs.Bits.{AreSetToo, IsBitIn, IsSet}
use Rattle.cell_tables.specs.WordBits.{AreBitsSet, IsBitOfFar}
use Rattle.cell_tables.proofs.NumberBits.{or_bit, bits_like}
use Rattle.cell_tables.proofs.Values.{value_standing, standing_value, place_within, place_is, same_span, with_values}

pub set_stands : (spans : Spans ℕ) (rule near far : ℕ) → IsSet spans rule near far → Stands spans rule near (far / 64)
set_stands spans rule near far is = standing_value spans rule near (far / 64) is.word is.there

-- whether the bit of a span is set, by the number where it stands
module _ (spans : Spans ℕ) (laid : AreBlocks spans) (rule near far : ℕ) (stands : Stands spans rule near (far / 64)) where
  pub set_read : IsSet spans rule near far → bit_at (get_or spans.values (place_of spans rule near (far / 64)) 0) (far % 64) ≡ 1
  set_read is =
      let place = place_of spans rule near (far / 64) in
      let read : slice_get spans.values place ≡ Some is.word = sym (value_standing spans rule near (far / 64) stands) ∙ is.there in
      ap (λ word. bit_at word (far % 64)) (get_or_from_slice_get spans.values place is.word 0 read) ∙ is.bit

  pub read_set : bit_at (get_or spans.values (place_of spans rule near (far / 64)) 0) (far % 64) ≡ 1 → IsSet spans rule near far
  read_set one =
      let place = place_of spans rule near (far / 64) in record {
        word = get_or spans.values place 0;
        there = value_standing spans rule near (far / 64) stands ∙ slice_get-get_or spans.values place 0 (place_within spans rule near (far / 64) laid stands);
        bit = one;
      }

-- bits are set among the values
module _ (old : Spans ℕ) (laid : AreBlocks old) (rule near : ℕ) (values : List ℕ) (IsFar : ℕ → Type 0) (each : (far : ℕ) → IsFar far → Stands old rule near (far / 64))
    (bits : AreBitsSet old.values values (λ number place. (far : ℕ) × IsFar far × (number ≡ place_of old rule near (far / 64)) × (place ≡ far % 64))) where
  new_laid : AreBlocks (with_values old values)
  new_laid = subst (AreLaid old.blocks) (sym bits.as_many) laid

  standing_new : (r n f : ℕ) → Stands old r n f → Stands (with_values old values) r n f
  standing_new r n f s = record { near_in = s.near_in; low = s.low; high = s.high }

  standing_old : (r n f : ℕ) → Stands (with_values old values) r n f → Stands old r n f
  standing_old r n f s = record { near_in = s.near_in; low = s.low; high = s.high }

  same_far : (far other : ℕ) → other / 64 ≡ far / 64 → other % 64 ≡ far % 64 → other ≡ far
  same_far far other number place = omega arith

  set_then : (r n f : ℕ) → IsSet (with_values old values) r n f → IsSet old r n f ⊎ ((r ≡ rule) × (n ≡ near) × IsFar f)
  set_then r n f is =
      let new : Spans ℕ = with_values old values in
      let s' = set_stands new r n f is in
      let s = standing_old r n (f / 64) s' in
      ⊎_elim
      (λ was. inl (read_set old laid r n f s was))
      (λ (far, is_far, number, place).
      let same = same_span old laid rule near r n (far / 64) (f / 64) (each far is_far) s (sym number) in
      inr (same.0, same.1, subst IsFar (sym (same_far far f same.2 place)) is_far))
      ((bits.exact (place_of old r n (f / 64)) (f % 64) (omega arith)).0 (set_read new new_laid r n f s' is))

  set_now : (r n f : ℕ) → IsSet old r n f ⊎ ((r ≡ rule) × (n ≡ near) × IsFar f) → IsSet (with_values old values) r n f
  set_now r n f either =
      let new : Spans ℕ = with_values old values in
      let exact = (bits.exact (place_of old r n (f / 64)) (f % 64) (omega arith)).1 in
      ⊎_elim
      (λ was.
      let s = set_stands old r n f was in
      read_set new new_laid r n f (standing_new r n (f / 64) s) (exact (inl (set_read old laid r n f s was))))
      (λ (e, e', is_far).
      let here = each f is_far in
      let s : Stands old r n (f / 64) = subst (λ x. Stands old x n (f / 64)) (sym e) (subst (λ x. Stands old rule x (f / 64)) (sym e') here) in
      let place : place_of old r n (f / 64) ≡ place_of old rule near (f / 64) = λ k. place_of old (e k) (e' k) (f / 64) in
      read_set new new_laid r n f (standing_new r n (f / 64) s) (exact (inr (f, is_far, place, refl)))) either

  pub bits_written : AreSetToo old (with_values old values) rule near IsFar
  bits_written = record {
    same = record { positions = refl; blocks = refl; as_many = bits.as_many };
    exact = λ r n f. (set_then r n f, set_now r n f);
  }

-- bits are set among the numbers of a block
pub block_bits_written : (spans : Spans ℕ) (laid : AreBlocks spans) (rule near : ℕ) (block : Block) → block ≡ block_at spans rule near → (start low : ℕ) (values : List ℕ) (IsFar : ℕ → Type 0) → ((far : ℕ) → IsFar far → Stands spans rule near (far / 64))
    → ((far : ℕ) → IsFar far → start + (far / 64 - low) ≡ block.place + (far / 64 - block.first)) → AreBitsSet spans.values values (IsBitOfFar start low IsFar) → AreSetToo spans (with_values spans values) rule near IsFar
block_bits_written spans laid rule near block is_block start low values IsFar each same bits =
    bits_written spans laid rule near values IsFar each
    (bits_like spans.values values (IsBitOfFar start low IsFar) (λ number place. (far : ℕ) × IsFar far × (number ≡ place_of spans rule near (far / 64)) × (place ≡ far % 64))
    (λ number place below (far, is, e, p). (far, is, e ∙ same far is ∙ sym (place_is spans laid rule near block is_block (far / 64) (each far is)), p))
    (λ number place below (far, is, e, p). (far, is, e ∙ place_is spans laid rule near block is_block (far / 64) (each far is) ∙ sym (same far is), p)) bits)

-- no bit is set where there is no far end
pub none_set : (spans : Spans ℕ) (rule near : ℕ) (IsFar : ℕ → Type 0) → ((far : ℕ) → IsFar far → ⊥) → AreSetToo spans spans rule near IsFar
none_set spans rule near IsFar none = record {
  same = record { positions = refl; blocks = refl; as_many = refl };
  exact = λ r n f. (λ is. inl is, λ either. ⊎_elim (λ was. was) (λ here. absurd (none f here.2)) either);
}

-- the number of 64 far ends has more bits
pub word_written : (old new : Spans ℕ) (rule near number was word : ℕ) → value_at old rule near number ≡ Some was → IsWritten old new rule near number (bit_or was word) → AreSetToo old new rule near (IsBitIn word number)
word_written old new rule near number was word read written = record {
  same = written.same;
  exact = λ r n f.
      elim (cases_eq r rule) [
        | inr apart ↦ elsewhere r n f (λ all. apart all.0)
        | inl e ↦
            elim (cases_eq n near) [
              | inr apart ↦ elsewhere r n f (λ all. apart all.1)
              | inl e' ↦
                  elim (cases_eq (f / 64) number) [
                    | inr apart ↦ elsewhere r n f (λ all. apart all.2)
                    | inl e'' ↦ here r n f e e' e''
                  ]
            ]
      ];
}
  where
    elsewhere : (r n f : ℕ) → ((r ≡ rule) × (n ≡ near) × (f / 64 ≡ number) → ⊥) → IsSet new r n f ↔ (IsSet old r n f ⊎ ((r ≡ rule) × (n ≡ near) × IsBitIn word number f))
    elsewhere r n f apart =
        let kept = written.others r n (f / 64) apart in (
          λ is. inl (record { word = is.word; there = sym kept ∙ is.there; bit = is.bit }),
          λ either. ⊎_elim
              (λ is. record { word = is.word; there = kept ∙ is.there; bit = is.bit })
              (λ (e, e', is). absurd (apart (e, e', is.number_is))) either,
        )

    here : (r n f : ℕ) → r ≡ rule → n ≡ near → f / 64 ≡ number → IsSet new r n f ↔ (IsSet old r n f ⊎ ((r ≡ rule) × (n ≡ near) × IsBitIn word number f))
    here r n f e e' e'' =
        let told = or_bit was word (f % 64) in
        let before : value_at old r n (f / 64) ≡ Some was = (λ k. value_at old (e k) (e' k) (e'' k)) ∙ read in
        let after : value_at new r n (f / 64) ≡ Some (bit_or was word) = (λ k. value_at new (e k) (e' k) (e'' k)) ∙ written.there in (
          λ is.
              let same = same_Some is.word (bit_or was word) (sym is.there ∙ after) in
              ⊎_elim
              (λ bit. inl (record { word = was; there = before; bit = bit }))
              (λ bit. inr (e, e', record { number_is = e''; bit = bit }))
              (told.0 (ap (λ w. bit_at w (f % 64)) (sym same) ∙ is.bit)),
          λ either. record {
            word = bit_or was word;
            there = after;
            bit = told.1 (⊎_elim
                (λ is. let same = same_Some is.word was (sym is.there ∙ before) in inl (ap (λ w. bit_at w (f % 64)) (sym same) ∙ is.bit))
                (λ here. inr here.2.bit) either);
          },
        )

-- the same bits, told in another way
pub set_like : (old new : Spans ℕ) (rule near : ℕ) (Here There : ℕ → Type 0) → ((far : ℕ) → Here far → There far) → ((far : ℕ) → There far → Here far) → AreSetToo old new rule near Here → AreSetToo old new rule near There
set_like old new rule near Here There to from too = record {
  same = too.same;
  exact = λ r n f. (
    λ is. ⊎_elim (λ was. inl was) (λ (e, e', h). inr (e, e', to f h)) ((too.exact r n f).0 is),
    λ either. (too.exact r n f).1 (⊎_elim (λ was. inl was) (λ (e, e', h). inr (e, e', from f h)) either),
  );
}
