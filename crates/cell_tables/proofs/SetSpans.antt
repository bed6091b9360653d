-- Bits of spans: in which number they stand, and how sets of bits go on.
use Rattle.std.proofs.Common.{◌≡◌, ◌↔◌, ◌⊎◌, ℕ, ◌/◌, ◌%◌, Option, Some, None, List, take, length, get_or, ◌+◌, ◌<◌, refl, sym, ap, subst, inl, inr, ⊎_elim, ◌∙◌, arith}
use Rattle.std.specs.Prelude.{unwrap_or, bit_or}
use Rattle.std.specs.List.{Contains}
use Rattle.std.specs.Int.{bit_at}
use Rattle.std.proofs.lemmas.List.{length-take}
use Rattle.cell_tables.specs.Spans.{Spans, value_at}
use Rattle.cell_tables.specs.Bits.{AreSetToo, IsBitIn, IsSet}
use Rattle.cell_tables.proofs.Lists.{contained_later, contained_now, contained_cases}
use Rattle.cell_tables.proofs.SetBits.{either_bits, no_bit}

-- the bits of a number, or of 0 where there is none
abbrev pub word_at : Spans ℕ → ℕ → ℕ → ℕ → ℕ
word_at spans rule near number = unwrap_or (value_at spans rule near number) 0

pub set_in_word : (spans : Spans ℕ) (rule near number far : ℕ) → IsBitIn (word_at spans rule near number) number far ↔ ((far / 64 ≡ number) × IsSet spans rule near far)
set_in_word spans rule near number far = (
  λ bit. (bit.number_is, found (value_at spans rule near number) refl bit),
  λ (same, set).
      let there : value_at spans rule near number ≡ Some set.word = ap (value_at spans rule near) (sym same) ∙ set.there in
      let word : word_at spans rule near number ≡ set.word = ap (λ value. unwrap_or value 0) there in
      record { number_is = same; bit = ap (λ n. bit_at n (far % 64)) word ∙ set.bit },
)
  where
    found : (value : Option ℕ) → value_at spans rule near number ≡ value → IsBitIn (word_at spans rule near number) number far → IsSet spans rule near far
    found None e bit =
        let none : word_at spans rule near number ≡ 0 = ap (λ value. unwrap_or value 0) e in
        absurd (no_bit number far (subst (λ word. IsBitIn word number far) none bit))
    found (Some word) e bit =
        let some : word_at spans rule near number ≡ word = ap (λ value. unwrap_or value 0) e in
        record { word = word; there = ap (value_at spans rule near) bit.number_is ∙ e; bit = ap (λ n. bit_at n (far % 64)) (sym some) ∙ bit.bit }

-- a span is set at one of the rules
abbrev pub IsSetAtOne : Spans ℕ → List ℕ → ℕ → ℕ → Type 0
IsSetAtOne spans rules near far = (rule : ℕ) × Contains rules rule × IsSet spans rule near far

module _ (spans : Spans ℕ) (near number : ℕ) where
  abbrev pub AreAnySet : List ℕ → ℕ → Type 0
  AreAnySet rules bits = (far : ℕ) → IsBitIn bits number far ↔ ((far / 64 ≡ number) × IsSetAtOne spans rules near far)

  pub none_set : (rules : List ℕ) → AreAnySet (take 0 rules) 0
  none_set rules far = (λ bit. absurd (no_bit number far bit), λ (same, (rule, (k, below, e), set)). absurd (omega (arith, length-take 0 rules)))

  pub one_more_rule : (rules : List ℕ) (i rule bits : ℕ) → i < length rules → rule ≡ get_or rules i rule → AreAnySet (take i rules) bits → AreAnySet (take (i + 1) rules) (bit_or bits (word_at spans rule near number))
  one_more_rule rules i rule bits inside here before far =
      let word = word_at spans rule near number in
      let both = either_bits bits word number far in
      let told = set_in_word spans rule near number far in (
        λ bit. elim (both.0 bit) [
          | inl was ↦ let (same, (other, there, set)) = (before far).0 was in (same, (other, contained_later rules i rule other inside there, set))
          | inr now ↦ let is = told.0 now in (is.0, (rule, subst (λ r. Contains (take (i + 1) rules) r) (sym here) (contained_now rules i rule inside), is.1))
        ],
        λ (same, (other, there, set)). both.1 (elim (contained_cases rules i rule other inside there) [
          | inl was ↦ inl ((before far).1 (same, (other, was, set)))
          | inr e ↦ inr (told.1 (same, subst (λ r. IsSet spans r near far) (sym (here ∙ e)) set))
        ]),
      )

-- ---- sets of bits, one after another

pub set_like : (old new : Spans ℕ) (rule near : ℕ) (Is Other : ℕ → Type 0) → ((far : ℕ) → Is far ↔ Other far) → AreSetToo old new rule near Is → AreSetToo old new rule near Other
set_like old new rule near Is Other told now = record {
  same = now.same;
  exact = λ r n far. (
    λ set. ⊎_elim (λ was. inl was) (λ (e, e', is). inr (e, e', (told far).0 is)) ((now.exact r n far).0 set),
    λ set. (now.exact r n far).1 (⊎_elim (λ was. inl was) (λ (e, e', is). inr (e, e', (told far).1 is)) set),
  );
}

pub none_set_too : (spans : Spans ℕ) (rule near : ℕ) (Is : ℕ → Type 0) → ((far : ℕ) → Is far → ⊥) → AreSetToo spans spans rule near Is
none_set_too spans rule near Is none = record {
  same = record { positions = refl; blocks = refl; as_many = refl };
  exact = λ r n far. (λ set. inl set, λ set. ⊎_elim (λ was. was) (λ (e, e', is). absurd (none far is)) set);
}

pub set_more_too : (first second third : Spans ℕ) (rule near : ℕ) (Is Other Both : ℕ → Type 0) → ((far : ℕ) → Both far ↔ (Is far ⊎ Other far)) → AreSetToo first second rule near Is → AreSetToo second third rule near Other → AreSetToo first third rule near Both
set_more_too first second third rule near Is Other Both told before after = record {
  same = record { positions = after.same.positions ∙ before.same.positions; blocks = after.same.blocks ∙ before.same.blocks; as_many = after.same.as_many ∙ before.same.as_many };
  exact = λ r n far. (
    λ set. elim ((after.exact r n far).0 set) [
      | inl was ↦ ⊎_elim (λ early. inl early) (λ (e, e', is). inr (e, e', (told far).1 (inl is))) ((before.exact r n far).0 was)
      | inr (e, e', is) ↦ inr (e, e', (told far).1 (inr is))
    ],
    λ set. (after.exact r n far).1 (elim set [
      | inl early ↦ inl ((before.exact r n far).1 (inl early))
      | inr (e, e', is) ↦ ⊎_elim (λ one. inl ((before.exact r n far).1 (inr (e, e', one)))) (λ one. inr (e, e', one)) ((told far).0 is)
    ]),
  );
}
