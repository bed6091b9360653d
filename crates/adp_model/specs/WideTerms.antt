-- A wide term as code holds it, seen as its form.
use Rattle.adp_model.specs.WideForm as forms
use Rattle.adp_model.specs.declared.grammar.Wide.{Wide}
use Rattle.adp_model.specs.declared.grammar.Wide.TheVariants.{Number, Value, Sum', Difference', Product', Greater', Lesser'}

-- the form of a term, without where its sides lie
abbrev pub form_of : Wide → forms.WideForm
form_of (Number number) = forms.Number number
form_of (Value place) = forms.Value place
form_of (Sum' p left q right) = forms.Sum (form_of left) (form_of right)
form_of (Difference' p left q right) = forms.Difference (form_of left) (form_of right)
form_of (Product' p left q right) = forms.Product (form_of left) (form_of right)
form_of (Greater' p left q right) = forms.Greater (form_of left) (form_of right)
form_of (Lesser' p left q right) = forms.Lesser (form_of left) (form_of right)
