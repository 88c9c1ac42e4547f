-- What a growing store keeps of arguments, and of queries as folders see them.
use Rattle.std.specs.Prelude.{◌≡◌, suc, List, [], ◌∷◌, All, map, refl}
use Rattle.std.proofs.Common.{arith}
use Rattle.nts_model.specs.Terms.Trees.{Tree, any_argument, arguments, environment, bound_predicate, is, a_type}
use Rattle.nts_model.specs.Derivations.Related.{pair}
use Rattle.nts_terms.specs.declared.handles.GenericArg.{GenericArg}
use Rattle.nts_terms.specs.declared.handles.AliasTerm.{AliasTerm}
use Rattle.nts_terms.specs.declared.handles.Ty.{Ty}
use Rattle.nts_store.specs.Growth.{tree_at, Extends}
use Rattle.nts_terms.specs.Handles.{HoldsArg}
use Rattle.nts_folding.specs.FoldLaws.{Holds-kept, list_holds, same_pair, same_statement}
use Rattle.nts_folding.specs.Folding.{tree_of_alias_args, tree_of_list}
use Rattle.nts_canonical.specs.declared.types.QueryInput.{QueryInput}
use Rattle.nts_canonical.specs.Forms.{trees_of, IsHidden, AreHidden, HoldsQuery}

pub AreHeld-kept : (a b : List Tree) (xs : List GenericArg) → All (HoldsArg a) xs → Extends a b → All (HoldsArg b) xs
AreHeld-kept a b xs h e = list_holds (HoldsArg a) (HoldsArg b) (λ x k. Holds-kept any_argument a b x.node k e) xs h

all_first : (P : GenericArg → Type 0) (x : GenericArg) (xs : List GenericArg) → All P (x ∷ xs) → P x
all_first P x xs h = h 0 x (omega arith)

all_rest : (P : GenericArg → Type 0) (x : GenericArg) (xs : List GenericArg) → All P (x ∷ xs) → All P xs
all_rest P x xs h = λ k d l. h (suc k) d (omega arith)

pub trees_of-kept : (a b : List Tree) (xs : List GenericArg) → All (HoldsArg a) xs → Extends a b → trees_of b xs ≡ trees_of a xs
trees_of-kept a b [] h e = refl
trees_of-kept a b (x ∷ xs) h e =
    cc (e.kept x.node (all_first (HoldsArg a) x xs h).within, trees_of-kept a b xs (all_rest (HoldsArg a) x xs h) e)

-- a query as a folder sees it: its goal, and the list of its hidden types, each behind the arguments of its alias
abbrev pub tree_of_hidden : List Tree → AliasTerm × Ty → Tree
tree_of_hidden ts h = pair (tree_of_alias_args ts h.0) (tree_at ts h.1.node)

abbrev pub tree_of_query : List Tree → QueryInput → Tree
tree_of_query ts q =
    pair (pair (tree_at ts q.goal.param_env.node) (tree_at ts q.goal.predicate.node)) (tree_of_list (map (tree_of_hidden ts) q.predefined_opaques_in_body.items))

IsHidden-kept : (a b : List Tree) (h : AliasTerm × Ty) → IsHidden a h → Extends a b → IsHidden b h
IsHidden-kept a b h i e =
    record { of_types = i.of_types; args = Holds-kept (is arguments) a b h.0.args.node i.args e; hidden_type = Holds-kept a_type a b h.1.node i.hidden_type e }

pub AreHidden-kept : (a b : List Tree) (hs : List (AliasTerm × Ty)) → AreHidden a hs → Extends a b → AreHidden b hs
AreHidden-kept a b [] h e = tt
AreHidden-kept a b (x ∷ xs) h e = (IsHidden-kept a b x h.0 e, AreHidden-kept a b xs h.1 e)

pub tree_of_hidden-kept : (a b : List Tree) (hs : List (AliasTerm × Ty)) → AreHidden a hs → Extends a b → tree_of_list (map (tree_of_hidden b) hs) ≡ tree_of_list (map (tree_of_hidden a) hs)
tree_of_hidden-kept a b [] h e = refl
tree_of_hidden-kept a b (x ∷ xs) h e =
    let one : tree_of_hidden b x ≡ tree_of_hidden a x = same_pair (same_statement (e.kept x.0.args.node h.0.args.within)) (e.kept x.1.node h.0.hidden_type.within) in
    cc (one, tree_of_hidden-kept a b xs h.1 e)

pub HoldsQuery-kept : (a b : List Tree) (q : QueryInput) → HoldsQuery a q → Extends a b → HoldsQuery b q
HoldsQuery-kept a b q h e =
    record {
      environment = Holds-kept (is environment) a b q.goal.param_env.node h.environment e;
      predicate = Holds-kept (is bound_predicate) a b q.goal.predicate.node h.predicate e;
      hidden = AreHidden-kept a b q.predefined_opaques_in_body.items h.hidden e;
    }

pub tree_of_query-kept : (a b : List Tree) (q : QueryInput) → HoldsQuery a q → Extends a b → tree_of_query b q ≡ tree_of_query a q
tree_of_query-kept a b q h e =
    same_pair (same_pair (e.kept q.goal.param_env.node h.environment.within) (e.kept q.goal.predicate.node h.predicate.within)) (tree_of_hidden-kept a b q.predefined_opaques_in_body.items h.hidden e)
