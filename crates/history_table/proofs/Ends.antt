-- The table at the start and at the end.
use Rattle.std.proofs.Common.{◌≡◌, ℕ, List, [], length, sym, refl, ap, ◌∙◌, subst, arith}
use Rattle.std.proofs.lemmas.List.Elements.{All-nil}
use Rattle.std.proofs.lemmas.List.Sums.{sum_by-cons}
use Rattle.atomic_table.specs.Table.{State, opening, Seen, Final}
use Rattle.atomic_table.proofs.Lists.{at_map}
use Rattle.history_table.specs.declared.history.WithMarks.{WithMarks}
use Rattle.history_table.specs.History.{Replays, zeros, times, IsTrueMark, parts_of, times_of, HasTrueMarks, first_marked, bare, bare_state, IsHistoryOf, KeptWithHistory}
use Rattle.history_table.proofs.Lists.{sum_of_one, only_one}

module _ {S V : Type 0} (holds : State S V → Type 0) (seats : ℕ) where
  pub opens : (words : List ℕ) (v : V) → words ≡ zeros (length words) → holds (opening words [] v)
      → KeptWithHistory holds seats (opening words [] (first_marked seats v))
  opens words v none h = record {
    kept = h;
    history = [];
    replays = sym none;
    each = only_one (HasTrueMarks []) (first_marked seats v) (record { marks_are = All-nil (IsTrueMark []); idle = λ _. refl });
    once = λ t. refl;
    whole = (let c = sum_by-cons parts_of (first_marked seats v) [] in omega arith);
  }

  pub tells_whole : (words : List ℕ) (slots : List S) (id : ℕ) (v : WithMarks V)
      → Final (Seen (KeptWithHistory holds seats) id v) words slots → v.parts ≡ seats → IsHistoryOf v.marks words
  tells_whole words slots id v f all =
      let s = f.0 in let k = f.1.0 in let at = f.1.1 in let same : s.words ≡ words = f.2 in record {
        history = k.history;
        replays = subst (λ (ws : List ℕ). Replays (zeros (length ws)) k.history ws) same k.replays;
        marks_are = (k.each id v at).marks_are;
        once = λ t. sym (sum_of_one parts_of (times_of t) s.views id v at (k.whole ∙ sym all) (λ j u there none.
            ap (times t) ((k.each j u there).idle none))) ∙ k.once t;
      }

  pub tells_bare : (words : List ℕ) (slots : List S) (id : ℕ) (v : WithMarks V)
      → Final (Seen (KeptWithHistory holds seats) id v) words slots → Final (Seen holds id v.view) words slots
  tells_bare words slots id v f = (bare_state f.0, (f.1.0.kept, at_map bare f.0.views id v f.1.1), f.2, f.3, f.4)
