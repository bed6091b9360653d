use Rattle.std.proofs.Common.{◌≡◌, ◌^◌, ◌<◌, ◌≤◌, ℕ, zero, suc, ℤ, pos, negsuc, ◌-ℤ◌, ◌*ℤ◌, ◌<ℤ◌, nat_abs, Bool, true, false, FitsSigned, w64, to_z, of_z, refl, sym, ap, subst, ◌∙◌, arith}
use mir.Syntax.{w128}
use Rattle.std.proofs.lemmas.Int.{ints, to_z-of_z, fits_signed_from_abs}
use Rattle.lex_product.specs.CompiledTerms.{IsJoinedFrom}
use Rattle.lex_product.proofs.Joined.{apart, IsApart, part_of}
use Rattle.lex_product.proofs.joining.pair_of.Goals as goal
use Rattle.lex_product.proofs.joining.pair_of.Goals.{then-same, else-same}

fits_wide : (z : ℤ) → nat_abs z < 2 ^ 127 → FitsSigned w128 z
fits_wide z low = fits_signed_from_abs w128 z low

-- what the code takes off the score
abbrev rest_of : ℤ → ℤ → ℤ → ℤ
rest_of s f m = to_z w128 (of_z w128 s) -ℤ to_z w128 (of_z w128 (to_z w128 (of_z w128 f) *ℤ to_z w128 (of_z w128 m)))

rest_is : (m : ℕ) (same : Bool) (score : ℤ) (pair : ℤ × ℤ) (s f w : ℤ) → IsApart m same score pair → nat_abs score ≤ 2 ^ 63 → m < 2 ^ 64
    → s ≡ score → f ≡ pair.0 → w ≡ pos m → rest_of s f w ≡ part_of same pair.1
rest_is m same score pair s f w parts low low' s_is f_is w_is =
    let is = parts.is in let part = parts.part in let whole = parts.whole in
    let product : f *ℤ w ≡ pair.0 *ℤ pos m = ap (λ z. z *ℤ w) f_is ∙ ap (λ z. pair.0 *ℤ z) w_is in
    let s_fits : FitsSigned w128 s = fits_wide s (omega (arith, ints)) in
    let f_fits : FitsSigned w128 f = fits_wide f (omega (arith, ints)) in
    let w_fits : FitsSigned w128 w = fits_wide w (omega (arith, ints)) in
    let product_fits : FitsSigned w128 (f *ℤ w) = fits_wide (f *ℤ w) (omega (arith, ints)) in
    simp to_z-of_z (omega (arith, ints))

kept : (r part b : ℤ) → r ≡ part → nat_abs part < 2 ^ 64 → part ≡ b → to_z w128 (of_z w128 r) ≡ b
kept r part b is low same =
    let fits : FitsSigned w128 r = fits_wide r (omega (arith, ints)) in
    to_z-of_z w128 r fits ∙ is ∙ same

turned : (r part b : ℤ) → r ≡ part → nat_abs part < 2 ^ 64 → pos 0 -ℤ part ≡ b → to_z w128 (of_z w128 (pos 0 -ℤ to_z w128 (of_z w128 r))) ≡ b
turned r part b is low same =
    let fits : FitsSigned w128 r = fits_wide r (omega (arith, ints)) in
    let fits' : FitsSigned w128 (pos 0 -ℤ r) = fits_wide (pos 0 -ℤ r) (omega (arith, ints)) in
    simp to_z-of_z (omega (arith, ints))

both : (a b : ℤ) (pair : ℤ × ℤ) → a ≡ pair.0 → b ≡ pair.1 → ◌≡◌ {A = ℤ × ℤ} (a, b) pair
both a b pair e f = ap (λ x. (x, b)) e ∙ ap (λ y. (pair.0, y)) f

wide_turned : (r part : ℤ) → r ≡ part → nat_abs part < 2 ^ 64 → FitsSigned w128 (pos 0 -ℤ to_z w128 (of_z w128 r))
wide_turned r part is low =
    let fits : FitsSigned w128 r = fits_wide r (omega (arith, ints)) in
    let fits' : FitsSigned w128 (pos 0 -ℤ r) = fits_wide (pos 0 -ℤ r) (omega (arith, ints)) in
    simp to_z-of_z fits'

part_true : (same : Bool) (b : ℤ) → same ≡ true → part_of same b ≡ b
part_true true b e = refl
part_true false b e = absurd (cc)

part_false : (same : Bool) (b : ℤ) → same ≡ false → pos 0 -ℤ part_of same b ≡ b
part_false true b e = absurd (cc)
part_false false b e = omega (arith, ints)

fits_first : (a s : ℤ) → nat_abs a ≤ nat_abs s → (pos 0 <ℤ a → pos 0 <ℤ s) → FitsSigned w64 s → FitsSigned w64 a
fits_first (pos zero) s low sign fits = fits_signed_from_abs w64 (pos 0) (omega arith)
fits_first (pos (suc a)) (pos s) low sign fits = let h = fits.sfits in record { sfits = omega (arith, h) }
fits_first (pos (suc a)) (negsuc s) low sign fits = let h = sign (omega (arith, ints)) in absurd h.lt
fits_first (negsuc a) (pos s) low sign fits = let h = fits.sfits in record { sfits = omega (arith, h) }
fits_first (negsuc a) (negsuc s) low sign fits = let h = fits.sfits in record { sfits = omega (arith, h) }

-- what is computed where the score is this pair's
module _ (c : goal.Joined-same) (pair : ℤ × ℤ) (is : IsJoinedFrom c.args.m c.args.same c.args.score pair) where
  parts : IsApart c.args.m c.args.same c.args.score pair
  parts = apart c.args.m c.args.same c.args.score pair is

  first_is : c.nearest-first.result ≡ pair.0
  first_is = c.nearest-first.ensures c.args.same pair (subst (λ s. IsJoinedFrom c.args.m c.args.same s pair) (sym (to_z-of_z w64 c.args.score c.ranges.score)) is)

  score_is : c.from.result ≡ c.args.score
  score_is = c.from.ensures ∙ to_z-of_z w64 c.args.score c.ranges.score

  rest_is_part : rest_of c.from.result c.nearest-first.result c.from-2.result ≡ part_of c.args.same pair.1
  rest_is_part =
      let range : FitsSigned w64 c.args.score = c.ranges.score in
      rest_is c.args.m c.args.same c.args.score pair c.from.result c.nearest-first.result c.from-2.result parts (omega (arith, ints, range.sfits))
      (omega (arith, c.ranges.m.fits)) score_is first_is c.from-2.ensures

  low_part : nat_abs (part_of c.args.same pair.1) < 2 ^ 64
  low_part = omega (arith, parts.part, c.ranges.m.fits)

  second_is : to_z w128 c.if-same.second-bits ≡ pair.1
  second_is = elim c.if-same.branch [
    | then-same w ↦ w.second-is ∙ kept (rest_of c.from.result c.nearest-first.result c.from-2.result) (part_of c.args.same pair.1) pair.1 rest_is_part low_part
        (part_true c.args.same pair.1 w.if-same.true)
    | else-same w ↦ w.second-is ∙ turned (rest_of c.from.result c.nearest-first.result c.from-2.result) (part_of c.args.same pair.1) pair.1 rest_is_part low_part
        (part_false c.args.same pair.1 w.if-same.false)
  ]

  first_fits : FitsSigned w64 pair.0
  first_fits = fits_first pair.0 c.args.score parts.whole parts.sign c.ranges.score

  second_fits : FitsSigned w64 pair.1
  second_fits = fits_signed_from_abs w64 pair.1 (omega (arith, is.small, c.ranges.m.fits))

  first_wide : to_z w128 (of_z w128 c.nearest-first.result) ≡ pair.0
  first_wide = let fits : FitsSigned w128 c.nearest-first.result = record { sfits = c.nearest-first.type_inv } in to_z-of_z w128 c.nearest-first.result fits ∙ first_is

pub overflow_sub-second : goal.overflow_sub-second
overflow_sub-second c =
    let pair = c.requires.0 in
    let parts' = apart c.args.m c.args.same c.args.score pair c.requires.1 in
    let range : FitsSigned w64 c.args.score = c.ranges.score in
    let first : c.nearest-first.result ≡ pair.0 = c.nearest-first.ensures c.args.same pair
    (subst (λ s. IsJoinedFrom c.args.m c.args.same s pair) (sym (to_z-of_z w64 c.args.score range)) c.requires.1) in
    let score : c.from.result ≡ c.args.score = c.from.ensures ∙ to_z-of_z w64 c.args.score range in
    let rest = rest_is c.args.m c.args.same c.args.score pair c.from.result c.nearest-first.result c.from-2.result parts' (omega (arith, ints, range.sfits))
    (omega (arith, c.ranges.m.fits)) score first c.from-2.ensures in
    wide_turned (rest_of c.from.result c.nearest-first.result c.from-2.result) (part_of c.args.same pair.1) rest (omega (arith, parts'.part, c.ranges.m.fits))

pub overflow_cast-result : goal.overflow_cast-result
overflow_cast-result c = subst (FitsSigned w64) (sym (first_wide c c.requires.0 c.requires.1)) (first_fits c c.requires.0 c.requires.1)

pub overflow_cast-result-2 : goal.overflow_cast-result-2
overflow_cast-result-2 c = subst (FitsSigned w64) (sym (second_is c c.requires.0 c.requires.1)) (second_fits c c.requires.0 c.requires.1)

pub returns : goal.returns
returns c pair is =
    let first : to_z w64 (of_z w64 (to_z w128 (of_z w128 c.nearest-first.result))) ≡ pair.0 =
    ap (λ z. to_z w64 (of_z w64 z)) (first_wide c pair is) ∙ to_z-of_z w64 pair.0 (first_fits c pair is) in
    let second : to_z w64 (of_z w64 (to_z w128 c.if-same.second-bits)) ≡ pair.1 =
    ap (λ z. to_z w64 (of_z w64 z)) (second_is c pair is) ∙ to_z-of_z w64 pair.1 (second_fits c pair is) in
    both _ _ pair first second
