-- What was seen stays seen.
use Rattle.std.proofs.Common.{◌≡◌, ◌≢◌, ℕ, List, ◌==◌, if◌then◌else◌, Bool, refl, ap, ◌∙◌, eq-eqb, ne_eqb}
use Rattle.memo_words.specs.declared.view.Seen.{Seen}
use Rattle.memo_words.specs.Views.{seen_at, seen_too, seen_unless_0}

pub if_equal : {A : Type 0} (m n : ℕ) (x y : A) → m ≡ n → (if m == n then x else y) ≡ x
if_equal m n x y e = ap (λ (b : Bool). if b then x else y) (eq-eqb m n e)

pub if_other : {A : Type 0} (m n : ℕ) (x y : A) → m ≢ n → (if m == n then x else y) ≡ y
if_other m n x y e = ap (λ (b : Bool). if b then x else y) (ne_eqb m n e)

pub seen_here : (position value : ℕ) (seen : List Seen) → seen_at (seen_too position value seen) position ≡ value
seen_here position value seen = if_equal position position value (seen_at seen position) refl

pub unless_here : (position value : ℕ) (seen : List Seen) → value ≢ 0
    → seen_at (seen_unless_0 position value seen) position ≡ value
unless_here position value seen some =
    ap (λ (s : List Seen). seen_at s position) (if_other value 0 seen (seen_too position value seen) some)
    ∙ seen_here position value seen
