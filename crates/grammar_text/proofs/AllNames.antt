-- Where all words are names, so is the word at each place.
use Rattle.std.proofs.Common.{◌≡◌, ℕ, zero, suc, ◌<◌, length, get_or, List, [], ◌∷◌, Bool, true, false, ◌&&◌, refl, arith}
use Rattle.std.specs.Borrow.{Bor}
use Rattle.std.specs.List.{list_all}
use Rattle.adp_model.specs.WellFormed.{is_name}
use Rattle.grammar_text.specs.Seen.{words_seen}

both_true : (a b : Bool) → (a && b) ≡ true → (a ≡ true) × (b ≡ true)
both_true true true h = (refl, refl)
both_true true false h = cc
both_true false b h = cc

pub name_at : (words : List (Bor (List ℕ))) (i : ℕ) (d : Bor (List ℕ)) → i < length words → list_all is_name (words_seen words) ≡ true → is_name (get_or words i d).now ≡ true
name_at [] i d inside h = absurd (omega arith)
name_at (word ∷ words) zero d inside h = (both_true (is_name word.now) (list_all is_name (words_seen words)) h).0
name_at (word ∷ words) (suc i) d inside h = name_at words i d (omega arith) (both_true (is_name word.now) (list_all is_name (words_seen words)) h).1
