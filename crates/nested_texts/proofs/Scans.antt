-- What is open and what was found, token by token from the last one on.
use Rattle.std.proofs.Common.{◌≡◌, ℕ, zero, suc, ◌+◌, ◌-◌, ◌<◌, ◌≤◌, List, [], ◌∷◌, length, map, take, drop, get_or, refl, arith}
use Rattle.std.specs.List.{All}
use Rattle.std.proofs.lemmas.List.{drop_more}
use Rattle.std.proofs.lemmas.List.Elements.{All-nil, All-cons, All-head, All-tail}
use Rattle.algebra_terms.specs.declared.lexer.Token as spans
use Rattle.algebra_terms.specs.Tokens.{IsIn, placed, said}
use Rattle.nested_texts.specs.declared.nested.Close.{Close}
use Rattle.nested_texts.specs.declared.nested.Nested.{Nested}
use Rattle.nested_texts.specs.NestedRules.{ends_at, ends_of, nested_at, nested_behind}
use Rattle.nested_texts.specs.Seen.{from_before, AreDeeper, IsScan, IsScanOf, IsWithin}

-- one more was found that lies in all that are open
deeper_more : (closes : List Close) (found : List Nested) (nested : Nested) → length closes ≤ nested.depth
    → AreDeeper closes found → AreDeeper closes (nested ∷ found)
deeper_more [] found nested h deeper = tt
deeper_more (close ∷ closes) found nested h deeper =
    let size : suc (length found) - close.behind ≡ suc (length found - close.behind) = omega (arith, deeper.0) in
    let more = All-cons (λ (other : Nested). length closes < other.depth) nested (take (length found - close.behind) found) (omega arith) deeper.1 in
    (omega (arith, deeper.0), rw size more, deeper_more closes found nested (omega arith) deeper.2)

-- behind an opening bracket the alternative is found
pub opened : (closes : List Close) (found : List Nested) (close : Close) (nested : Nested)
    → nested.depth ≡ length closes → nested.inside ≡ length found - close.behind
    → IsScan (close ∷ closes) found → IsScan closes (nested ∷ found)
opened closes found close nested depth inside scan = record {
  deeper = deeper_more closes found nested (omega arith) scan.deeper.2;
  inside = (omega (arith, inside), rw (depth, inside) scan.deeper.1, scan.inside);
}

-- before a closing bracket an alternative is open
pub closed : (closes : List Close) (found : List Nested) (close : Close) → close.behind ≡ length found
    → IsScan closes found → IsScan (close ∷ closes) found
closed closes found close behind scan =
    let none : length found - close.behind ≡ 0 = omega (arith, behind) in
    record {
      deeper = (omega (arith, behind), rw none (All-nil (λ (other : Nested). length closes < other.depth)), scan.deeper);
      inside = scan.inside;
    }

pub opened_in : (line : List ℕ) (closes : List Close) (found : List Nested) (close : Close) (nested : Nested)
    → nested.from ≤ length line → nested.to ≡ close.to → 0 < nested.depth
    → IsScanOf line (close ∷ closes) found → IsScanOf line closes (nested ∷ found)
opened_in line closes found close nested begins to deep scan =
    let P : Close → Type 0 = λ (close : Close). close.to ≤ length line in
    let ends = All-head P close closes scan.ends in
    let within : IsWithin line nested = record { begins = begins; ends = omega (arith, to, ends); deep = deep } in
    record { ends = All-tail P close closes scan.ends; within = All-cons (IsWithin line) nested found within scan.within }

-- where the token before begins, when that one is taken
pub from_taken : (tokens : List spans.Token) (place at : ℕ) (token : spans.Token) → place + 1 ≡ at → place < length tokens
    → from_before tokens at ≡ (get_or tokens place token).from
from_taken tokens place zero token next h = absurd (omega arith)
from_taken tokens place (suc at) token next h =
    let same : at ≡ place = omega arith in
    rw (same, drop_more tokens place token h) refl

-- it lies in the line
pub from_within : (line : List ℕ) (tokens : List spans.Token) (at : ℕ) → at ≤ length tokens → All (IsIn line) tokens → from_before tokens at ≤ length line
from_within line tokens zero h inside = omega arith
from_within line [] (suc at) h inside = absurd (omega arith)
from_within line (token ∷ tokens) (suc zero) h inside =
    let is_in = All-head (IsIn line) token tokens inside in
    omega (arith, is_in.nonempty, is_in.inside)
from_within line (token ∷ tokens) (suc (suc at)) h inside =
    from_within line tokens (suc at) (omega arith) (All-tail (IsIn line) token tokens inside)

-- one token more
pub ends_more : (line : List ℕ) (tokens : List spans.Token) (place at : ℕ) (token : spans.Token) → place + 1 ≡ at → place < length tokens
    → ends_of (map (placed line) (drop place tokens))
    ≡ ends_at (said line (get_or tokens place token)) (get_or tokens place token).to (ends_of (map (placed line) (drop at tokens)))
ends_more line tokens place at token next h = rw (← next, drop_more tokens place token h) refl

pub nested_more : (line : List ℕ) (tokens : List spans.Token) (place at from : ℕ) (token : spans.Token) → place + 1 ≡ at → place < length tokens
    → nested_behind from (map (placed line) (drop place tokens))
    ≡ nested_at (said line (get_or tokens place token)) from (ends_of (map (placed line) (drop at tokens)))
    (nested_behind (get_or tokens place token).from (map (placed line) (drop at tokens)))
nested_more line tokens place at from token next h = rw (← next, drop_more tokens place token h) refl
