use Rattle.std.proofs.Common.{◌≡◌, ◌∙◌, ℕ, List, Option, Some, IfSome, IsTrue, sym, ap, subst}
use Rattle.adp_model.specs.WellFormed.{is_name}
use Rattle.verdicts.specs.Command.{Command}
use Rattle.adp_main.proofs.CheckedJobs.{pair_unmade}
use Rattle.adp_main.proofs.checking.second_checked.Goals as goal

pub returns-clause-fault : goal.returns-clause-fault
returns-clause-fault c =
    let first = c.args.first.now in
    let text = c.in-Some.name.now in
    let asked : c.args.command.now.second ≡ Some text =
    sym (rw c.in-Some.is at (ap (λ (it : Command). it.second) c.command.view_is)) in
    let formed = c.passes.ensures.found.well_formed in
    pair_unmade c.args.command.now.second first c.new-name.result text c.in-Err.error c.pair_refusal.result asked
    (c.new-name.ensures ∙ c.in_ok-from_slice-in-Some.ensures.items ∙ c.as_bytes.ensures.value)
    (subst (λ (o : Option (List ℕ)). IfSome o (λ name. IsTrue (is_name name))) asked c.in_range.ensures.second_name)
    (record {
      short = c.names_are_short_and_printable.ensures.short;
      rules = c.parts_have_names.ensures.rules first.grammar formed;
      signs = c.parts_have_names.ensures.signs first.grammar formed;
    }) c.in-Err.ensures c.pair_refusal.ensures
