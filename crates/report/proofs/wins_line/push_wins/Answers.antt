use Rattle.std.proofs.Common.{◌≡◌, ◌++◌, [], drop, sym, ap, ◌∙◌, arith, append_assoc, append-nil}
use Rattle.std.proofs.lemmas.List.{drop_all}
use Rattle.adp_model.specs.Report.{spaced}
use Rattle.report.proofs.wins_line.push_wins.Goals as goal

pub returns : goal.returns
returns c =
    let wins = c.args.wins.now in
    let written = c.loop-number.out.items in
    let none_left : drop c.loop-number.number-index wins ≡ [] = drop_all c.loop-number.number-index wins (omega arith) in
    let all : written ≡ c.extend_from_slice.new.self.items ++ spaced wins =
    sym (ap (λ x. written ++ spaced x) none_left ∙ append-nil written) ∙ c.loop-number.invariant in
    rw (c.in_ok-push-2.ensures.items, all, c.in_ok-extend_from_slice.ensures.items) (simp append_assoc)
