-- Which labels are variables.
use Rattle.std.proofs.Common.{◌≡◌, ◌≢◌, ℕ, Option, Some, None, refl, sym, ap, ◌∙◌}
use Rattle.nts_model.specs.declared.labels.VariableKind.{VariableKind}
use Rattle.nts_model.specs.declared.labels.VariableKind.TheVariants as kind
use Rattle.nts_model.specs.declared.labels.Label.{Label}
use Rattle.nts_model.specs.Terms.Trees.{infer_number, infer_of, variable_of}

pub infer_number_some : (k : VariableKind) (n : ℕ) → k ≢ kind.Region → infer_number k n ≡ Some n
infer_number_some kind.Ty n h = refl
infer_number_some kind.Int n h = refl
infer_number_some kind.Float n h = refl
infer_number_some kind.Const n h = refl
infer_number_some kind.Region n h = absurd (h refl)

-- a variable of another kind than region
pub infer_of_variable_label : (l : Label) (k : VariableKind) (n : ℕ) → variable_of l ≡ Some (k, n) → k ≢ kind.Region → infer_of l ≡ Some n
infer_of_variable_label l k n e h = rw e (infer_number_some k n h)

pub infer_of_none : (l : Label) → variable_of l ≡ None → infer_of l ≡ None
infer_of_none l e = rw e refl

pub infer_of_region : (l : Label) (n : ℕ) → variable_of l ≡ Some (kind.Region, n) → infer_of l ≡ None
infer_of_region l n e = rw e refl

-- what has the number of an inference variable is one
pub record IsInferLabel (l : Label) (n : ℕ) : Type 0 where
  pub of_kind : VariableKind
  pub is : variable_of l ≡ Some (of_kind, n)
  pub no_region : of_kind ≢ kind.Region

number_is : (k : VariableKind) (m n : ℕ) → infer_number k m ≡ Some n → (m ≡ n) × (k ≢ kind.Region)
number_is kind.Ty m n e = (cc, λ q. cc)
number_is kind.Int m n e = (cc, λ q. cc)
number_is kind.Float m n e = (cc, λ q. cc)
number_is kind.Const m n e = (cc, λ q. cc)
number_is kind.Region m n e = cc

pub infer_label : (l : Label) (n : ℕ) → infer_of l ≡ Some n → IsInferLabel l n
infer_label l n e = by_case (variable_of l) refl
  where
    by_case : (o : Option (VariableKind × ℕ)) → variable_of l ≡ o → IsInferLabel l n
    by_case None q = let z : None ≡ Some n = sym (infer_of_none l q) ∙ e in cc
    by_case (Some v) q =
        let z : infer_number v.0 v.1 ≡ Some n = rw q at e in
        let r = number_is v.0 v.1 n z in
        record { of_kind = v.0; is = q ∙ ap (λ m. Some (v.0, m)) r.0; no_region = r.1 }
