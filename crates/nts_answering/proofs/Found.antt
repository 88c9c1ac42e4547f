-- From the parts of what was found out to all of it.
use Rattle.std.proofs.Common.{◌≡◌, ℕ, List, map, ap, ◌∙◌}
use Rattle.nts_model.specs.Terms.Trees.{Tree}
use Rattle.nts_model.specs.declared.labels.Leaf.{Leaf}
use Rattle.nts_model.specs.Tables.Contents.{Content}
use Rattle.nts_model.specs.Derivations.Handlers.{hidden_by, premise_by}
use Rattle.nts_model.specs.Answers.Responses.{Findings, Response as Form, recorded_by, findings_by, positioned, own_leaves, answer_kinds, greatest, response_of}
use Rattle.nts_store.specs.Growth.{Extends}
use Rattle.nts_terms.specs.Handles.{HoldsArg}
use Rattle.nts_response.specs.nts_candidates.specs.Offered.{hidden_of}
use Rattle.nts_response.specs.nts_canonical.specs.declared.types.Canonical.{Canonical}
use Rattle.nts_response.specs.nts_canonical.specs.Forms.{kind_of_var, IsHidden}
use Rattle.nts_response.specs.declared.types.Response.{Response}
use Rattle.nts_response.specs.Forms.{StoreHoldsConstraint, HoldsOpen, HoldsResponse, recorded_at, premise_at, findings_at, response_at}
use Rattle.nts_response.specs.Replacing.{ReplacesEach, argument_value}
use Rattle.nts_response.proofs.Each.{values_kept, constraints_kept, hidden_kept, goals_kept, replaced_later}

equal_findings : (x y : Findings) → x.values ≡ y.values → x.constraints ≡ y.constraints → x.hidden ≡ y.hidden → x.open_goals ≡ y.open_goals → x ≡ y
equal_findings x y p q r s = λ j. record { values = p j; constraints = q j; hidden = r j; open_goals = s j }

-- the values were replaced first, then the constraints, the hidden types and the goals, while the store grew
pub record ReplacesParts (f : Tree → Tree) (a b c d e : List Tree) (x y : Response) : Type 0 where
  pub values : ReplacesEach HoldsArg argument_value f a b x.var_values.items y.var_values.items
  pub constraints : ReplacesEach StoreHoldsConstraint recorded_at (recorded_by f) b c x.external_constraints.region_constraints.items y.external_constraints.region_constraints.items
  pub hidden : ReplacesEach IsHidden hidden_of (hidden_by f) c d x.external_constraints.opaque_types.items y.external_constraints.opaque_types.items
  pub open_goals : ReplacesEach HoldsOpen premise_at (premise_by f) d e x.external_constraints.normalization_nested_goals.items y.external_constraints.normalization_nested_goals.items
  pub first : Extends a b
  pub second : Extends a c
  pub third : Extends a d
  pub after_values : Extends b e
  pub after_constraints : Extends c e
  pub after_hidden : Extends d e
  pub all : Extends e e

pub all_replaced : (f : Tree → Tree) (a b c d e : List Tree) (x y : Response) → HoldsResponse a x → Extends a a → ReplacesParts f a b c d e x y → findings_at e y ≡ findings_by f (findings_at a x)
all_replaced f a b c d e x y h same r =
    let values = replaced_later HoldsArg argument_value f values_kept a a b e _ _ same r.after_values h.values r.values in
    let constraints = replaced_later StoreHoldsConstraint recorded_at (recorded_by f) constraints_kept a b c e _ _ r.first r.after_constraints h.constraints r.constraints in
    let hidden = replaced_later IsHidden hidden_of (hidden_by f) hidden_kept a c d e _ _ r.second r.after_hidden h.hidden r.hidden in
    let goals = replaced_later HoldsOpen premise_at (premise_by f) goals_kept a d e e _ _ r.third r.all h.open_goals r.open_goals in
    equal_findings (findings_at e y) (findings_by f (findings_at a x)) values.views constraints.views hidden.views goals.views

equal_responses : (x y : Form) → x.findings ≡ y.findings → x.kinds ≡ y.kinds → x.max_universe ≡ y.max_universe → x ≡ y
equal_responses x y p q r = λ j. record { findings = p j; kinds = q j; max_universe = r j }

-- what was found out over the positions of its own leaves, with their kinds, is the response
pub made_response : (ts : List Tree) (r : Canonical Response) (c : Content) (root : ℕ → ℕ) (m : ℕ) (x : Findings) (s : List Leaf) → s ≡ own_leaves x → findings_at ts r.value ≡ findings_by (positioned s) x
    → map kind_of_var r.var_kinds.items ≡ answer_kinds c root m s → r.max_universe ≡ greatest (map kind_of_var r.var_kinds.items) → response_at ts r ≡ response_of c root m x
made_response ts r c root m x s is found kinds most =
    let named : map kind_of_var r.var_kinds.items ≡ answer_kinds c root m (own_leaves x) = kinds ∙ ap (answer_kinds c root m) is in
    equal_responses (response_at ts r) (response_of c root m x) (found ∙ ap (λ z. findings_by (positioned z) x) is) named (most ∙ ap greatest named)
