-- What holds of a store holds of one that it grew into.
use Rattle.std.proofs.Common.{◌≡◌, List, Option, Some, None, refl, ◌∙◌}
use Rattle.nts_model.specs.Terms.Trees.{Tree, Place, is, any_term, any_argument, a_type, a_region, a_const, a_result, FitsPlace, kind_of, NodeKind, of_sort, arguments, environment, bound_predicate, statement, sort_list, one_sort}
use Rattle.nts_store.specs.declared.nodes.NodeId.{NodeId}
use Rattle.nts_terms.specs.declared.handles.Binder.{Binder}
use Rattle.nts_terms.specs.declared.kinds.TyKind.{TyKind}
use Rattle.nts_terms.specs.declared.kinds.TyKind.TheVariants as ty
use Rattle.nts_terms.specs.declared.kinds.ConstKind.{ConstKind}
use Rattle.nts_terms.specs.declared.kinds.ConstKind.TheVariants as konst
use Rattle.nts_terms.specs.declared.kinds.ClauseKind.{ClauseKind}
use Rattle.nts_terms.specs.declared.kinds.ClauseKind.TheVariants as clause
use Rattle.nts_terms.specs.declared.kinds.PredicateKind.{PredicateKind}
use Rattle.nts_terms.specs.declared.kinds.PredicateKind.TheVariants as predicate
use Rattle.nts_terms.specs.declared.cx.Cx.{Cx}
use Rattle.nts_store.specs.Growth.{tree_at, IsIn, Extends}
use Rattle.nts_terms.specs.Handles.{Holds, alias_head}
use Rattle.nts_terms.specs.Kinds.{one, two, tree_of_ty, TyFits, tree_of_const, ConstFits, tree_of_clause, ClauseFits, tree_of_statement, StatementFits, tree_of_predicate, PredicateFits}
use Rattle.nts_terms.specs.Signatures.{Declared, AreDeclared}
use Rattle.nts_terms.specs.declared.handles.DefId.{DefId}
use Rattle.nts_terms.specs.Rest.{KeepsRest}
use Rattle.nts_store.proofs.Growing.{Extends-refl, Extends-trans, IsIn-extended}

pub KeepsRest-refl : (c : Cx) → KeepsRest c c
KeepsRest-refl c = record { declarations = refl; limit = refl; steps = refl; rounds = refl; division = refl; fast_paths = refl }

pub KeepsRest-trans : {a b c : Cx} → KeepsRest a b → KeepsRest b c → KeepsRest a c
KeepsRest-trans h k =
    record { declarations = k.declarations ∙ h.declarations; limit = k.limit ∙ h.limit; steps = k.steps ∙ h.steps; rounds = k.rounds ∙ h.rounds; division = k.division ∙ h.division; fast_paths = k.fast_paths ∙ h.fast_paths }

pub Holds-extended : {a b : List Tree} (p : Place) (n : NodeId) → Extends a b → Holds p a n → Holds p b n
Holds-extended p n e h =
    let kept = e.kept n h.within in
    record { within = IsIn-extended e n h.within; fits = rw kept h.fits }

pub ruleset growth = (Extends-trans, KeepsRest-trans, Holds-extended)
