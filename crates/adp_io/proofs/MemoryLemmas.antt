-- What a read from memory gives and leaves.
use Rattle.std.proofs.Common.{◌≡◌, ℕ, ◌+◌, ◌-◌, List, ◌++◌, min, length, take, drop, ap, sym, ◌∙◌, arith, length-take, length-take-le}
use Rattle.std.proofs.lemmas.List.{drop-drop, take-append-drop}
use Rattle.std.proofs.Math.Seq.{take-append_seam}
use lib.Seq.{take-take}

-- the bytes left are those that were copied to the front of a slice, and the bytes behind them
pub given_front : (left bytes seen copied behind : List ℕ) (at count most : ℕ) → left ≡ drop at bytes → seen ≡ bytes
    → count ≡ min most (length (take (length seen - at) (drop at seen))) → copied ≡ take count (take (length seen - at) (drop at seen))
    → left ≡ take count (copied ++ behind) ++ drop (at + count) bytes
given_front left bytes seen copied behind at count most is_left is_seen least same =
    let size = length-take (length seen - at) (drop at seen) in
    let given : copied ≡ take count (drop at bytes) = same ∙ take-take count (length seen - at) (drop at seen) (omega arith) ∙ ap (λ s. take count (drop at s)) is_seen in
    let length_is : length copied ≡ count = ap length given ∙ length-take-le count (drop at bytes) (let e = ap (λ s. length (drop at s)) is_seen in omega arith) in
    let front : take count (copied ++ behind) ≡ take count (drop at bytes) =
    ap (λ n. take n (copied ++ behind)) (sym length_is) ∙ take-append_seam copied behind ∙ given in
    is_left ∙ sym (take-append-drop count (drop at bytes)) ∙ ap (λ l. l ++ drop count (drop at bytes)) (sym front)
    ∙ ap (λ l. take count (copied ++ behind) ++ l) (drop-drop count at bytes)
