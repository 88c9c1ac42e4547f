-- What a test of a state says.
use Rattle.std.proofs.Common.{◌≡◌, ◌≤◌, List, ◌++◌, length, drop, sym, ap, subst, ◌∙◌, arith}
use Rattle.std.specs.Prelude.{◌↔◌, All, Bool, IsTrue}
use Rattle.std.proofs.lemmas.List.{drop-map, map-append, length-map}
use Rattle.nts_model.specs.declared.labels.Sort.{Sort}
use Rattle.nts_model.specs.Terms.Trees.{Tree}
use Rattle.nts_terms.specs.declared.handles.GenericArg.{GenericArg}
use Rattle.nts_canonical.specs.declared.types.Canonical.{Canonical}
use Rattle.nts_canonical.specs.Forms.{kind_of_var, trees_of}
use Rattle.nts_response.specs.declared.types.State.{State}
use Rattle.nts_response.specs.Applicable.{IsKindFor}
use Rattle.nts_response.specs.OverSorts.{IsArgIn}
use Rattle.nts_response.specs.Instantiated.{missing, state_sorts, IsInstantiable}
use Rattle.nts_response.specs.Replacing.{argument_value}

pub missing_trees : (ts : List Tree) (os vs : List GenericArg) → missing (trees_of ts os) (trees_of ts vs) ≡ trees_of ts (drop (length os) vs)
missing_trees ts os vs = ap (λ n. drop n (trees_of ts vs)) (length-map os (argument_value ts)) ∙ drop-map (argument_value ts) (length os) vs

-- whether a state fits, once its values do
pub state_fitting : {T : Type 0} (ts : List Tree) (os all : List GenericArg) (s : Canonical (State T)) (ss : List Sort) (b : Bool) → ss ≡ state_sorts s → all ≡ os ++ drop (length os) s.value.var_values.items → length os ≤ length s.value.var_values.items → All (IsArgIn ts ss) s.value.var_values.items
    → (IsTrue b ↔ All (λ k. IsKindFor s.max_universe (trees_of ts all) (kind_of_var k)) s.var_kinds.items) → IsTrue b ↔ IsInstantiable ts (trees_of ts os) s
state_fitting ts os all s ss b e q long fit i =
    let vs = s.value.var_values.items in
    let trees : trees_of ts all ≡ trees_of ts os ++ missing (trees_of ts os) (trees_of ts vs) = ap (trees_of ts) q ∙ map-append (argument_value ts) os (drop (length os) vs) ∙ ap (λ z. trees_of ts os ++ z) (sym (missing_trees ts os vs)) in
    let m = length-map os (argument_value ts) in
    let over = subst (λ z. All (IsArgIn ts z) vs) e fit in (
      λ t. record { held = λ k d l. (over k d l).0; kinds = subst (λ z. All (λ k. IsKindFor s.max_universe z (kind_of_var k)) s.var_kinds.items) trees (i.0 t); values = λ k d l. (over k d l).1; long = omega (arith, m, long) },
      λ h. i.1 (subst (λ z. All (λ k. IsKindFor s.max_universe z (kind_of_var k)) s.var_kinds.items) (sym trees) h.kinds),
    )
