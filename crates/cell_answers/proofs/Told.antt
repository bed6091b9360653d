-- Entries that numbers of a width stand for: where they stand, and what a write of one changes.
use Rattle.std.proofs.Common.{◌≡◌, ◌⊎◌, ℕ, ◌&&◌, cond, ltb, leb, ℤ, Option, Some, None, refl, sym, ap, subst, inl, inr, ◌∙◌, if◌then◌else◌, slice_get}
use Rattle.std.specs.Prelude.{IsSome}
use Rattle.std.specs.Option.{option_map}
use Rattle.std.specs.Ordering.{int_eq}
use Rattle.std.proofs.lemmas.Bool.{cases_Bool, cases_eq}
use Rattle.std.proofs.lemmas.Bool.Decides.{Decides-int_eq}
use Rattle.std.proofs.lemmas.List.{length-map}
use Rattle.std.proofs.lemmas.Option.{slice_get-map}
use Rattle.adp_model.specs.declared.grammar.Goal.{Goal}
use Rattle.cell_tables.specs.Spans.{Spans, IsWritten, block_at, place_of, value_at}
use Rattle.score_numbers.specs.Entries.{no_candidate}
use Rattle.score_numbers.specs.Turned.{turned}
use Rattle.score_numbers.specs.Packing.{Width, IsProper, told, told_list}
use Rattle.cell_answers.specs.PackedTables.{AreProperSpans, told_spans}

pub told_some : (f : ℤ → ℤ) (found : Option ℤ) → IsSome (option_map f found) → IsSome found
told_some f None some = absurd cc
told_some f (Some number) some = refl

-- an entry is that of a number
pub told_from : (f : ℤ → ℤ) (found : Option ℤ) (entry : ℤ) → option_map f found ≡ Some entry → (number : ℤ) × (found ≡ Some number) × (entry ≡ f number)
told_from f None entry e = absurd cc
told_from f (Some number) entry e = (number, refl, let same : f number ≡ entry = cc in sym same)

module _ (width : Width) (goal : Goal) where
  pub told_mark : (number : ℤ) → number ≡ width.mark → told width goal number ≡ no_candidate
  told_mark number e = ap (λ b. if b then no_candidate else turned goal number) ((Decides-int_eq number width.mark).1 e)

  pub told_score : (number : ℤ) → (number ≡ width.mark → ⊥) → told width goal number ≡ turned goal number
  told_score number apart =
      elim (cases_Bool (int_eq number width.mark)) [
        | inl there ↦ absurd (apart ((Decides-int_eq number width.mark).0 there))
        | inr missing ↦ ap (λ b. if b then no_candidate else turned goal number) missing
      ]

  pub value_told : (spans : Spans ℤ) (rule near far : ℕ) → value_at (told_spans width goal spans) rule near far
      ≡ option_map (told width goal) (value_at spans rule near far)
  value_told spans rule near far =
      elim (cases_Bool (ltb near spans.positions && (leb (block_at spans rule near).first far && ltb far (block_at spans rule near).past))) [
        | inl there ↦
            ap (λ b. cond b (slice_get (told_list width goal spans.values) (place_of spans rule near far)) None) there
            ∙ slice_get-map (told width goal) spans.values (place_of spans rule near far)
            ∙ sym (ap (λ b. option_map (told width goal) (cond b (slice_get spans.values (place_of spans rule near far)) None)) there)
        | inr missing ↦
            ap (λ b. cond b (slice_get (told_list width goal spans.values) (place_of spans rule near far)) None) missing
            ∙ sym (ap (λ b. option_map (told width goal) (cond b (slice_get spans.values (place_of spans rule near far)) None)) missing)
      ]

  pub told_written : (old new : Spans ℤ) (rule near far : ℕ) (number : ℤ) → IsWritten old new rule near far number
      → IsWritten (told_spans width goal old) (told_spans width goal new) rule near far (told width goal number)
  told_written old new rule near far number written = record {
    same = record {
      positions = written.same.positions;
      blocks = written.same.blocks;
      as_many = length-map new.values (told width goal) ∙ written.same.as_many ∙ sym (length-map old.values (told width goal));
    };
    there = value_told new rule near far ∙ ap (option_map (told width goal)) written.there;
    others = λ rule' near' far' apart. value_told new rule' near' far' ∙ ap (option_map (told width goal))
        (written.others rule' near' far' apart) ∙ sym (value_told old rule' near' far');
  }

pub proper_written : (width : Width) (old new : Spans ℤ) (rule near far : ℕ) (number : ℤ)
    → IsWritten old new rule near far number → IsProper width number → AreProperSpans width old
    → AreProperSpans width new
proper_written width old new rule near far number written proper each rule' near' far' number' there =
    go (cases_eq rule' rule) (cases_eq near' near) (cases_eq far' far)
  where
    kept : ((rule' ≡ rule) × (near' ≡ near) × (far' ≡ far) → ⊥) → IsProper width number'
    kept apart = each rule' near' far' number' (sym (written.others rule' near' far' apart) ∙ there)

    go : ((rule' ≡ rule) ⊎ (rule' ≡ rule → ⊥)) → ((near' ≡ near) ⊎ (near' ≡ near → ⊥)) → ((far' ≡ far) ⊎ (far' ≡ far → ⊥)) → IsProper width number'
    go (inl e) (inl e') (inl e'') =
        let here : value_at new rule near far ≡ Some number' = (λ i. value_at new (sym e i) (sym e' i) (sym e'' i)) ∙ there in
        let now : value_at new rule near far ≡ Some number = written.there in
        let same : number ≡ number' = cc in
        subst (IsProper width) same proper
    go (inr apart) near far = kept (λ all. apart all.0)
    go (inl e) (inr apart) far = kept (λ all. apart all.1)
    go (inl e) (inl e') (inr apart) = kept (λ all. apart all.2)
