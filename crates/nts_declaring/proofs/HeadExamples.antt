-- Clauses whose heads fit, and clauses of which one does not.
use Rattle.std.proofs.Common.{◌≡◌, ℕ, zero, suc, [], ◌∷◌, All, sym, subst}
use Rattle.std.proofs.lemmas.List.Elements.{All-nil, All-push, All-head}
use Rattle.nts_terms.specs.declared.cx.Cx.{Cx}
use Rattle.nts_terms.specs.Signatures.{nothing_declared}
use Rattle.nts_delegate.specs.Clauses.{clauses_of}
use Rattle.nts_delegate.specs.declared.clauses.Clause.{Clause}
use Rattle.nts_delegate.specs.declared.clauses.Clauses.{Clauses}
use Rattle.nts_wording.specs.Fitting.{HeadFits}
use Rattle.nts_declaring.specs.Heads.{HeadsFit}

-- one clause, with the arguments that are declared for its trait
one_fits : (x : Cx) (h : Clauses) (c : Clause) → clauses_of h 0 ≡ c ∷ [] → ((i : ℕ) → clauses_of h (suc i) ≡ []) → HeadFits x.declarations x.nodes 0 c → HeadsFit x h
one_fits x h c one none fits zero =
    subst (All (HeadFits x.declarations x.nodes 0)) (sym one) (All-push (HeadFits x.declarations x.nodes 0) [] c (All-nil (HeadFits x.declarations x.nodes 0)) fits)
one_fits x h c one none fits (suc i) = subst (All (HeadFits x.declarations x.nodes (suc i))) (sym (none i)) (All-nil (HeadFits x.declarations x.nodes (suc i)))

-- a clause of a trait that is not declared
undeclared : (x : Cx) (h : Clauses) (c : Clause) → x.declarations ≡ nothing_declared → clauses_of h 0 ≡ c ∷ [] → HeadsFit x h → ⊥
undeclared x h c none one fit =
    let first : HeadFits x.declarations x.nodes 0 c = All-head (HeadFits x.declarations x.nodes 0) c [] (subst (All (HeadFits x.declarations x.nodes 0)) one (fit 0)) in
    let there : HeadFits nothing_declared x.nodes 0 c = subst (λ d. HeadFits d x.nodes 0 c) none first in
    let given = there.given in given.declared
