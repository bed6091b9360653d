-- What goes on to hold where the words that were not 0 stay.
use Rattle.std.proofs.Common.{◌≡◌, ℕ, ◌+◌, ◌-◌, ◌*◌, ◌<◌, List, [], length, get_or, set, sym, ap, ◌∙◌, subst, All, arith}
use mathlib.Core.Option.{some}
use lib.ListN.{get_elem?}
use lib.Seq.{set-get_or}
use Rattle.atomic_table.specs.Table.{State, keeps, stepped}
use Rattle.adp_model.specs.declared.cell.Cell.{Cell}
use Rattle.adp_model.specs.declared.cell.Answer.{Answer}
use Rattle.memo_words.specs.declared.part.Part.{Part}
use Rattle.memo_words.specs.declared.part.Part.TheVariants.{Score, Choice}
use Rattle.memo_words.specs.declared.view.Owned.{Owned}
use Rattle.memo_words.specs.declared.view.View.{View}
use Rattle.memo_words.specs.CodedCells.{IsCodeOf}
use Rattle.memo_words.specs.Layout.{Plan, slots_of, probed, arena_place, key}
use Rattle.memo_words.specs.Views.{owns}
use Rattle.memo_words.specs.Kept.{Kept, Fits, StandsAt, IsPublished, IsHeldAt, IsStored, name, arena, share, wins_of, count_owned}
use Rattle.memo_words.specs.Probes.{home}
use Rattle.memo_words.proofs.Lists.{sum_set, each_set}
use Rattle.std.proofs.lemmas.Nat.{pow_pos}
use Rattle.std.proofs.Math.Nat.{mod-lt}

abbrev pub St : Type 0
St = State ℕ View

abbrev pub owned_of : ℕ → View → ℕ
owned_of number v = owns number v.owned

-- two words of records are one only where part and number are the same
pub arena_apart : (slots records : ℕ) (a b : Part) (m n : ℕ) → m < records → n < records
    → arena_place slots records a m ≡ arena_place slots records b n → (a ≡ b) × (m ≡ n)
arena_apart slots records Score Score m n l k e = (λ i. Score, omega arith)
arena_apart slots records Score Choice m n l k e = absurd (omega arith)
arena_apart slots records Choice Score m n l k e = absurd (omega arith)
arena_apart slots records Choice Choice m n l k e = (λ i. Choice, omega arith)

-- and none is a key word or a record word
pub arena_behind : (slots records : ℕ) (part : Part) (n : ℕ) → 2 * slots < arena_place slots records part n
arena_behind slots records Score n = omega arith
arena_behind slots records Choice n = omega arith

pub arena_ahead : (slots records : ℕ) (part : Part) (n : ℕ) → n < records
    → arena_place slots records part n < 1 + 2 * slots + 2 * records
arena_ahead slots records Score n l = omega arith
arena_ahead slots records Choice n l = omega arith

module _ (plan : Plan) where
  -- a key or record word that is not 0 stays, and so do the words of named records
  pub record Grows (ws us : List ℕ) : Type 0 where
    pub keys : (x : ℕ) → x < slots_of plan → 0 < key ws x → key us x ≡ key ws x
    pub names : (x : ℕ) → x < slots_of plan → 0 < name plan ws x → name plan us x ≡ name plan ws x
    pub codes : (part : Part) (x : ℕ) → x < slots_of plan → 0 < name plan ws x
        → arena plan us part (name plan ws x - 1) ≡ arena plan ws part (name plan ws x - 1)

  pub held_on : (ws us : List ℕ) → Grows ws us → (x : ℕ) (cell : Cell) (answer : Answer)
      → IsHeldAt plan ws x cell answer → IsHeldAt plan us x cell answer
  held_on ws us grows x cell answer h =
      let same = grows.names x h.inside h.named in
      let full = h.named in
      record {
        inside = h.inside;
        key_is = subst (IsCodeOf cell) (sym (grows.keys x h.inside (let is = h.key_is.same in omega arith))) h.key_is;
        named = omega arith;
        codes = λ part. ap (λ (n : ℕ). arena plan us part (n - 1)) same ∙ (grows.codes part x h.inside h.named
            ∙ h.codes part);
      }

  pub published_on : (ws us : List ℕ) → Grows ws us → (cell : Cell) → IsPublished plan ws cell
      → IsPublished plan us cell
  published_on ws us grows cell h = (h.0, h.1, held_on ws us grows h.0 cell h.1 h.2)

  pub fits_on : (ws us : List ℕ) → Grows ws us → (v : View) → All (IsStored plan us) v.owned → Fits plan ws v
      → Fits plan us v
  fits_on ws us grows v stored f = record {
    plan_is = f.plan_is;
    spent = f.spent;
    keys = λ x h. let t = f.keys x h in let is = t.1 in (t.0, grows.keys x t.0 (omega arith) ∙ is);
    names = λ x h. let t = f.names x h in let is = t.1 in (t.0, grows.names x t.0 (omega arith) ∙ is);
    known = λ k d lt. published_on ws us grows _ (f.known k d lt);
    stored = stored;
    few = f.few;
  }

  pub stored_on : (ws us : List ℕ) → ((part : Part) (n : ℕ) → arena plan us part n ≡ arena plan ws part n)
      → (owned : List Owned)
      → All (IsStored plan ws) owned → All (IsStored plan us) owned
  stored_on ws us arenas owned h k d lt part = arenas part _ ∙ h k d lt part

  -- a turn of a probe sequence is a position
  pub probed_low : (code turn : ℕ) → probed plan code turn < slots_of plan
  probed_low code turn = mod-lt (home code plan.bits + turn) (pow_pos plan.bits)

  pub stands_on : (ws us : List ℕ) → Grows ws us → (x : ℕ) → x < slots_of plan → 0 < key ws x → StandsAt plan ws x
      → StandsAt plan us x
  stands_on ws us grows x lt full st = let e = grows.keys x lt full in record {
    cell = st.cell;
    code = subst (IsCodeOf st.cell) (sym e) st.code;
    demanded = st.demanded;
    turn = st.turn;
    here = subst (λ (k : ℕ). probed plan k st.turn ≡ x) (sym e) st.here;
    before = λ j l. subst (λ (k : ℕ). 0 < key us (probed plan k j)) (sym e)
        (let y : ℕ = probed plan (key ws x) j in let old : 0 < key ws y = st.before j l in
        let same = grows.keys y (probed_low (key ws x) j) old in omega arith);
  }

  -- a step of one view that changes no word
  pub looked : (s : St) (r : Kept plan s) (i id : ℕ) (v w : View) → get_elem? s.views id ≡ some v → share w ≡ share v
      → w.wins ≡ v.wins → w.owned ≡ v.owned → Fits plan s.words w
      → Kept plan (stepped s i (get_or s.words i 0) id [] w keeps)
  looked s r i id v w at shares wins owned fits = subst
      (λ (ws : List ℕ). Kept plan record { words = ws; homes = s.homes; views = set s.views id w }) (sym
      (set-get_or s.words i 0)) record {
        wide = r.wide;
        keys = r.keys;
        apart = r.apart;
        held = λ n lt. let t = sum_set (owned_of n) s.views id v w at in let e = ap (owns n) owned in
            let h = r.held n lt in omega arith;
        free = λ n le. let t = sum_set (owned_of n) s.views id v w at in let e = ap (owns n) owned in
            let h = r.free n le in omega arith;
        counted = let t = sum_set count_owned s.views id v w at in let e = ap (λ (o : List Owned). length o) owned in
            let h = r.counted in omega arith;
        keyed = r.keyed;
        answered = r.answered;
        room = r.room;
        past = r.past;
        closed = r.closed;
        shares = let t = sum_set share s.views id v w at in let e = r.shares in omega arith;
        wins = let t = sum_set wins_of s.views id v w at in let e = r.wins in omega arith;
        each = each_set (Fits plan s.words) s.views id w fits r.each;
      }
