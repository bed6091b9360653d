use Rattle.std.proofs.Common.{◌≡◌, ℕ, List, ◌+◌, Some, None, nat_eq, [], ◌∷◌, ◌++◌, length, map, take, refl, sym, ◌∙◌, ap, arith, length-append}
use Rattle.std.specs.List.{cons_option}
use Rattle.std.specs.Option.{option_copied}
use Rattle.std.proofs.lemmas.List.{append-nil}
use lib.Pointwise.{pointwise}
use Rattle.grammar_text.specs.Names.{name_as, names_as}
use Rattle.grammar_text.specs.Seen.{declaration_seen}
use Rattle.grammar_text.proofs.Firsts.{first_more}
use Rattle.grammar_text.proofs.Scans.{given_more}
use Rattle.grammar_text.proofs.reader.names.numbered.Goals as goal
use Rattle.grammar_text.proofs.reader.names.numbered.Goals.{in-Some+in_ok-put_first, in_default}

pub loop-declaration-preserved : goal.loop-declaration-preserved
loop-declaration-preserved c =
    let item = c.declaration-item.result in
    let i = c.loop-declaration.declaration-index in
    let front = names_as c.args.sort (map declaration_seen (take i c.args.declared.now)) in
    let more = given_more (name_as c.args.sort) declaration_seen c.args.declared.now i item c.loop-declaration-test.true c.declaration-item.is in
    elim c.match-name_as.branch [
      | in-Some+in_ok-put_first w ↦
          let name = w.in-Some.name.now in
          let gives : name_as c.args.sort (declaration_seen item) ≡ Some name = sym c.name_as.ensures ∙ ap option_copied w.in-Some.is in
          let grown : names_as c.args.sort (map declaration_seen (take (i + 1) c.args.declared.now)) ≡ front ++ name ∷ [] = more ∙ ap (λ given. front ++ cons_option given []) gives in
          record {
            numbers = rw (w.numbers-is, grown)
                (first_more (λ (one : List ℕ) (other : List ℕ). pointwise nat_eq one other) c.loop-declaration.numbers w.put_first.new.numbers front name name c.loop-declaration.count
                c.loop-declaration.invariant.numbers (λ asked. refl) c.loop-declaration.invariant.count w.in_ok-put_first.ensures);
            count = w.count-is ∙ ap (λ n. n + 1) c.loop-declaration.invariant.count ∙ sym (ap length grown ∙ length-append front (name ∷ []));
            small = omega (arith, w.count-is, c.loop-declaration.invariant.small);
          }
      | in_default w ↦
          let gives : name_as c.args.sort (declaration_seen item) ≡ None = sym c.name_as.ensures ∙ ap option_copied w.in_default.is in
          let same : names_as c.args.sort (map declaration_seen (take (i + 1) c.args.declared.now)) ≡ front = more ∙ ap (λ given. front ++ cons_option given []) gives ∙ append-nil front in
          record {
            numbers = rw (w.numbers-is, same) c.loop-declaration.invariant.numbers;
            count = w.count-is ∙ c.loop-declaration.invariant.count ∙ sym (ap length same);
            small = omega (arith, w.count-is, c.loop-declaration.invariant.small);
          }
    ]
