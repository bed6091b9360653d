-- Wide terms by their form alone, without where in memory their sides lie.
use Rattle.std.specs.Prelude.{◌≡◌, ℕ, zero, suc, ℤ, pos, nat_abs, List, [], ◌∷◌, ◌++◌, refl}
use Rattle.std.specs.Coded.{Coded, code_by, coded×, coded_ℕ, coded_ℤ, coded_list}
use Rattle.std.proofs.Common.{append_assoc, append-nil, ap, sym, ◌∙◌}

pub data WideForm : Type 0 where
  Number : (number : ℤ) → WideForm
  Value : (place : ℕ) → WideForm
  Sum : (left : WideForm) → (right : WideForm) → WideForm
  Difference : (left : WideForm) → (right : WideForm) → WideForm
  Product : (left : WideForm) → (right : WideForm) → WideForm
  Greater : (left : WideForm) → (right : WideForm) → WideForm
  Lesser : (left : WideForm) → (right : WideForm) → WideForm

-- ---- a form is stored as a list, each node before its sides

abbrev stored : WideForm → List (ℕ × ℤ)
stored (Number number) = (0, number) ∷ []
stored (Value place) = (1, pos place) ∷ []
stored (Sum left right) = (2, pos 0) ∷ stored left ++ stored right
stored (Difference left right) = (3, pos 0) ∷ stored left ++ stored right
stored (Product left right) = (4, pos 0) ∷ stored left ++ stored right
stored (Greater left right) = (5, pos 0) ∷ stored left ++ stored right
stored (Lesser left right) = (6, pos 0) ∷ stored left ++ stored right

-- a node before forms, of which it takes its sides
abbrev node : ℕ → ℤ → List WideForm → List WideForm
node zero number forms = Number number ∷ forms
node (suc zero) number forms = Value (nat_abs number) ∷ forms
node (suc (suc zero)) number (left ∷ right ∷ forms) = Sum left right ∷ forms
node (suc (suc (suc zero))) number (left ∷ right ∷ forms) = Difference left right ∷ forms
node (suc (suc (suc (suc zero)))) number (left ∷ right ∷ forms) = Product left right ∷ forms
node (suc (suc (suc (suc (suc zero))))) number (left ∷ right ∷ forms) = Greater left right ∷ forms
node (suc (suc (suc (suc (suc (suc zero)))))) number (left ∷ right ∷ forms) = Lesser left right ∷ forms
node kind number forms = forms

abbrev restored : List (ℕ × ℤ) → List WideForm
restored [] = []
restored (entry ∷ entries) = node entry.0 entry.1 (restored entries)

abbrev first_form : List WideForm → WideForm
first_form [] = Number (pos 0)
first_form (form ∷ forms) = form

restored_sides : (left right : WideForm) (others : List (ℕ × ℤ))
    → restored (stored left ++ (stored right ++ others)) ≡ left ∷ restored (stored right ++ others)
    → restored (stored right ++ others) ≡ right ∷ restored others
    → restored ((stored left ++ stored right) ++ others) ≡ left ∷ right ∷ restored others
restored_sides left right others first second =
    ap restored (append_assoc (stored left) (stored right) others) ∙ first ∙ ap (λ (forms : List WideForm). left ∷ forms) second

restored_before : (form : WideForm) (others : List (ℕ × ℤ)) → restored (stored form ++ others) ≡ form ∷ restored others
restored_before (Number number) others = refl
restored_before (Value place) others = refl
restored_before (Sum left right) others =
    ap (node 2 (pos 0)) (restored_sides left right others (restored_before left (stored right ++ others)) (restored_before right others))
restored_before (Difference left right) others =
    ap (node 3 (pos 0)) (restored_sides left right others (restored_before left (stored right ++ others)) (restored_before right others))
restored_before (Product left right) others =
    ap (node 4 (pos 0)) (restored_sides left right others (restored_before left (stored right ++ others)) (restored_before right others))
restored_before (Greater left right) others =
    ap (node 5 (pos 0)) (restored_sides left right others (restored_before left (stored right ++ others)) (restored_before right others))
restored_before (Lesser left right) others =
    ap (node 6 (pos 0)) (restored_sides left right others (restored_before left (stored right ++ others)) (restored_before right others))

pub restored_alone : (form : WideForm) → first_form (restored (stored form)) ≡ form
restored_alone form =
    ap (λ (entries : List (ℕ × ℤ)). first_form (restored entries)) (sym (append-nil (stored form)))
    ∙ ap first_form (restored_before form [])

abbrev pub form_code : Coded WideForm
form_code = code_by (List (ℕ × ℤ)) (coded_list (coded× coded_ℕ coded_ℤ)) stored (λ entries. first_form (restored entries)) restored_alone
