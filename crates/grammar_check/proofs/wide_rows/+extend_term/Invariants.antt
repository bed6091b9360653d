use Rattle.adp_model.specs.WideTerms.{form_of}
use Rattle.grammar_check.specs.WideRows.{rows_of}
use Rattle.grammar_check.proofs.wide_rows.+extend_term.Given as goal

abbrev pub decreases-extend_term : goal.decreases-extend_term
decreases-extend_term l = rows_of (form_of l.term.now)
