use Rattle.adp_main.proofs.admitting.admitted.Goals as goal

pub unreachable-requires : goal.unreachable-requires
unreachable-requires c =
    c.limits_are_kept_or_passed.ensures.kept _ _ _ _ _ c.passes.ensures.found _ c.in-Err.field-0 c.requires.limits c.in-Err.ensures
