use Rattle.std.proofs.Common.{◌≡◌, ℕ, true, [], ap}
use Rattle.adp_model.specs.Parts.{algebra_of}
use Rattle.first_trees.specs.Entries.{Entry}
use Rattle.first_trees.specs.RankedSplits.{IsRankedSplit}
use Rattle.k_best.specs.Growing.{IsHeaded}
use Rattle.k_best.specs.GrowingLists.{no_ranks}
use Rattle.k_best.specs.Heads.{AreHeadedBy}
use Rattle.k_best.specs.Settled.{IsSettled}
use Rattle.k_best.proofs.Laying.{if_ok}
use Rattle.k_best.proofs.Told.{headed_kept}
use Rattle.k_best.proofs.heads.meet_heads.Goals as goal

pub returns-clause-kept : goal.returns-clause-kept
returns-clause-kept c =
    let p = c.args.basis.now.lines.now in
    let k = c.args.basis.now.k in
    let cell = c.args.cell in
    let old = c.args.found.now.items in
    let new = c.meet_laid.new.found.items in
    if_ok c.meet_laid.result
    (λ known. (entry : Entry) → IsSettled (algebra_of p).goal k old entry → IsSettled (algebra_of p).goal k new entry)
    (λ known. (entry : Entry) → IsHeaded p k cell no_ranks old entry → IsHeaded p k cell no_ranks new entry)
    (λ known kept entry headed. headed_kept p k cell no_ranks old new kept entry headed)
    c.meet_laid.ensures.kept

pub returns-clause-met : goal.returns-clause-met
returns-clause-met c =
    let p = c.args.basis.now.lines.now in
    let k = c.args.basis.now.k in
    let cell = c.args.cell in
    let new = c.meet_laid.new.found.items in
    if_ok c.meet_laid.result
    (λ is_known. is_known ≡ true → AreHeadedBy p k cell c.args.alt [] new)
    (λ is_known. is_known ≡ true → (entry : Entry) → IsRankedSplit p k cell entry → entry.choice.alt ≡ c.args.alt
    → IsHeaded p k cell no_ranks new entry)
    (λ is_known met known entry is by. met known entry.choice.cuts entry is
    (ap (λ (alt : ℕ). record { alt = alt; cuts = entry.choice.cuts }) by))
    c.meet_laid.ensures.met
