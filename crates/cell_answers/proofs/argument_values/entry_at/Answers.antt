use Rattle.std.proofs.Common.{◌≡◌, ℕ, zero, suc, ◌-◌, ◌<◌, ℤ, pos, IsSome, Some, List, [], ◌∷◌, map, length, get_or}
use Rattle.std.proofs.Common.{slice_get, FitsSigned, to_z, of_z, w16, w32, w64, sym, ap, subst, ◌∙◌, arith, rules}
use Rattle.std.proofs.lemmas.Int.{to_z-of_z}
use Rattle.std.proofs.lemmas.Option.{slice_get-map, slice_get-get_or}
use Rattle.std.specs.Option.{option_map}
use Rattle.cell_answers.specs.declared.argument_values.Entries.{Entries}
use Rattle.cell_answers.specs.declared.argument_values.Numbers.{Numbers}
use Rattle.cell_answers.specs.declared.argument_values.Numbers.TheVariants.{Short, Medium, Long, Whole}
use Rattle.score_numbers.specs.Packing.{short, medium, long, told}
use Rattle.cell_answers.specs.ArgumentEntries.{told_numbers, entries_of}
use Rattle.cell_answers.proofs.Lists.{some_within}
use Rattle.cell_answers.proofs.argument_values.entry_at.Goals as goal

within_told : (f : ℤ → ℤ) (numbers : List ℤ) (k : ℕ) → IsSome (slice_get (map f numbers) k) → k < length numbers
within_told f [] k some = absurd cc
within_told f (number ∷ numbers) zero some = omega arith
within_told f (number ∷ numbers) (suc k) some = omega (arith, within_told f numbers k some)

there : (entries : Entries) (numbers : Numbers) (k : ℕ) → entries.numbers ≡ numbers
    → IsSome (slice_get (entries_of entries) k) → IsSome (slice_get (told_numbers entries.goal numbers) k)
there entries numbers k is some = subst (λ n. IsSome (slice_get (told_numbers entries.goal n) k)) is some

read_told : (f : ℤ → ℤ) (numbers : List ℤ) (k : ℕ) (number entry : ℤ) → k < length numbers
    → number ≡ get_or numbers k (pos 0) → entry ≡ f number → FitsSigned w64 entry
    → slice_get (map f numbers) k ≡ Some (to_z w64 (of_z w64 entry))
read_told f numbers k number entry within same e fits =
    slice_get-map f numbers k ∙ ap (option_map f) (slice_get-get_or numbers k (pos 0) within)
    ∙ ap (λ (z : ℤ). Some z) (ap f (sym same) ∙ sym e ∙ sym (to_z-of_z w64 entry fits))

pub bounds-numbers-number : goal.bounds-numbers-number
bounds-numbers-number c =
    within_told (told short c.args.entries.goal) c.in-Short.numbers.now (c.args.position - c.args.entries.first)
    (there c.args.entries (Short c.in-Short.numbers) (c.args.position - c.args.entries.first) c.in-Short.is
    c.requires.there)

pub returns-in-Short : goal.returns-in-Short
returns-in-Short c =
    let k = (c.args.position - c.args.entries.first) in
    let number = get_or c.in-Short.numbers.now k (pos 0) in
    ap (λ (numbers : Numbers). slice_get (told_numbers c.args.entries.goal numbers) k) c.in-Short.is
    ∙ read_told (told short c.args.entries.goal) c.in-Short.numbers.now k (to_z w16 (of_z w16 number)) c.short_entry.result
    (within_told (told short c.args.entries.goal) c.in-Short.numbers.now k (there c.args.entries (Short c.in-Short.numbers) k c.in-Short.is c.requires.there))
    (to_z-of_z w16 number (search rules)) c.short_entry.ensures (search rules)

pub bounds-numbers-number-in-Medium : goal.bounds-numbers-number-in-Medium
bounds-numbers-number-in-Medium c =
    within_told (told medium c.args.entries.goal) c.in-Medium.numbers.now (c.args.position - c.args.entries.first)
    (there c.args.entries (Medium c.in-Medium.numbers) (c.args.position - c.args.entries.first) c.in-Medium.is
    c.requires.there)

pub returns-in-Medium : goal.returns-in-Medium
returns-in-Medium c =
    let k = (c.args.position - c.args.entries.first) in
    let number = get_or c.in-Medium.numbers.now k (pos 0) in
    ap (λ (numbers : Numbers). slice_get (told_numbers c.args.entries.goal numbers) k) c.in-Medium.is
    ∙ read_told (told medium c.args.entries.goal) c.in-Medium.numbers.now k (to_z w32 (of_z w32 number)) c.medium_entry.result
    (within_told (told medium c.args.entries.goal) c.in-Medium.numbers.now k
    (there c.args.entries (Medium c.in-Medium.numbers) k c.in-Medium.is c.requires.there))
    (to_z-of_z w32 number (search rules)) c.medium_entry.ensures (search rules)

pub bounds-numbers-number-in-Long : goal.bounds-numbers-number-in-Long
bounds-numbers-number-in-Long c =
    within_told (told long c.args.entries.goal) c.in-Long.numbers.now (c.args.position - c.args.entries.first)
    (there c.args.entries (Long c.in-Long.numbers) (c.args.position - c.args.entries.first) c.in-Long.is
    c.requires.there)

pub returns-in-Long : goal.returns-in-Long
returns-in-Long c =
    let k = (c.args.position - c.args.entries.first) in
    let number = get_or c.in-Long.numbers.now k (pos 0) in
    ap (λ (numbers : Numbers). slice_get (told_numbers c.args.entries.goal numbers) k) c.in-Long.is
    ∙ read_told (told long c.args.entries.goal) c.in-Long.numbers.now k (to_z w64 (of_z w64 number)) c.long_entry.result
    (within_told (told long c.args.entries.goal) c.in-Long.numbers.now k (there c.args.entries (Long c.in-Long.numbers) k c.in-Long.is c.requires.there))
    (to_z-of_z w64 number (search rules)) c.long_entry.ensures (search rules)

pub bounds-numbers-number-in-Whole : goal.bounds-numbers-number-in-Whole
bounds-numbers-number-in-Whole c =
    some_within c.in-Whole.numbers.now (c.args.position - c.args.entries.first)
    (there c.args.entries (Whole c.in-Whole.numbers) (c.args.position - c.args.entries.first) c.in-Whole.is
    c.requires.there)

pub returns-in-Whole : goal.returns-in-Whole
returns-in-Whole c =
    let k = (c.args.position - c.args.entries.first) in
    let numbers = c.in-Whole.numbers.now in
    let number = get_or numbers k (pos 0) in
    ap (λ (n : Numbers). slice_get (told_numbers c.args.entries.goal n) k) c.in-Whole.is
    ∙ slice_get-get_or numbers k (pos 0) (some_within numbers k (there c.args.entries (Whole c.in-Whole.numbers) k c.in-Whole.is c.requires.there))
    ∙ ap (λ (z : ℤ). Some z) (sym (to_z-of_z w64 number (search rules)))
