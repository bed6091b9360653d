-- Wide terms that rise by their form.
use Rattle.std.proofs.Common.{Bool, inl, inr}
use Rattle.adp_model.specs.declared.grammar.Kind.{Kind}
use Rattle.adp_model.specs.WideForm as wide
use Rattle.adp_model.specs.WideForm.{Number, Value, Sum, Difference, Product, Greater, Lesser}
use Rattle.adp_model.specs.TermSigns.{NamesNoScore, Rises}
use Rattle.std.proofs.Common.{List}

module _ (known : Kind → Bool) (kinds : List Kind) where
  -- a term that names no score rises
  rises_unnamed : (term : wide.WideForm) → NamesNoScore kinds term → Rises known kinds term
  rises_unnamed (Number number) h = tt
  rises_unnamed (Value place) h = tt
  rises_unnamed (Sum left right) h = (rises_unnamed left h.0, rises_unnamed right h.1)
  rises_unnamed (Difference left right) h = (rises_unnamed left h.0, h.1)
  rises_unnamed (Product left right) h = inl h
  rises_unnamed (Greater left right) h = (rises_unnamed left h.0, rises_unnamed right h.1)
  rises_unnamed (Lesser left right) h = (rises_unnamed left h.0, rises_unnamed right h.1)

  -- both sides of a product that rises do
  pub sides_rise : (left right : wide.WideForm) → Rises known kinds (Product left right) → Rises known kinds left × Rises known kinds right
  sides_rise left right (inl h) = (rises_unnamed left h.0, rises_unnamed right h.1)
  sides_rise left right (inr (inl h)) = (rises_unnamed left h.0.0, h.1)
  sides_rise left right (inr (inr (inl h))) = (h.0, rises_unnamed right h.1.0)
  sides_rise left right (inr (inr (inr h))) = (h.0, h.1)
