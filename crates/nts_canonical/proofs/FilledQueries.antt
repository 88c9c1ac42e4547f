-- A query by its folded tree: what has values, and what it is with them.
use Rattle.std.proofs.Common.{◌≡◌, List, [], ◌∷◌, map, sym, ◌∙◌, refl}
use Rattle.nts_model.specs.declared.labels.ClauseHead.TheVariants as clause
use Rattle.nts_model.specs.declared.labels.Label.TheVariants as label
use Rattle.nts_model.specs.Terms.Trees.{Tree, empty, more, node}
use Rattle.nts_model.specs.Terms.Substitutions.{filled}
use Rattle.nts_model.specs.Derivations.Related.{alias_label}
use Rattle.nts_terms.specs.declared.handles.AliasTerm.{AliasTerm}
use Rattle.nts_terms.specs.declared.handles.Ty.{Ty}
use Rattle.nts_terms.specs.Handles.{alias_head}
use Rattle.nts_terms.specs.Kinds.{tree_of_alias}
use Rattle.nts_store.specs.Growth.{tree_at}
use Rattle.nts_store.specs.Filled.{HasValues}
use Rattle.nts_folding.specs.Folding.{tree_of_list}
use Rattle.nts_canonical.specs.declared.types.QueryInput.{QueryInput}
use Rattle.nts_canonical.specs.Forms.{hidden_pairs, query_tree}
use Rattle.nts_canonical.specs.Folds.{tree_of_hidden, tree_of_query}
use Rattle.nts_canonical.proofs.PairLists.{label_filled}
use Rattle.nts_canonical.proofs.Filled.{three}

hidden_has : (ts vs : List Tree) (hs : List (AliasTerm × Ty)) → HasValues vs (hidden_pairs ts hs) → HasValues vs (tree_of_list (map (tree_of_hidden ts) hs))
hidden_has ts vs [] h = tt
hidden_has ts vs (x ∷ xs) h = (((tt, (h.0.1.0, tt)), (h.1.0, tt)), hidden_has ts vs xs h.1.1)

-- the folded tree has values where the query has them
pub query_has : (ts vs : List Tree) (q : QueryInput) → HasValues vs (query_tree ts q) → HasValues vs (tree_of_query ts q)
query_has ts vs q h = ((h.0, (h.1.0, tt)), (hidden_has ts vs q.predefined_opaques_in_body.items h.1.1.0, tt))

hidden_filled : (vs a b : List Tree) (xs ys : List (AliasTerm × Ty)) → tree_of_list (map (tree_of_hidden b) ys) ≡ filled vs (tree_of_list (map (tree_of_hidden a) xs)) → hidden_pairs b ys ≡ filled vs (hidden_pairs a xs)
hidden_filled vs a b [] [] e = refl
hidden_filled vs a b [] (y ∷ ys) e = let q : more (tree_of_hidden b y) (tree_of_list (map (tree_of_hidden b) ys)) ≡ empty = e in cc
hidden_filled vs a b (x ∷ xs) [] e = let q : empty ≡ more (filled vs (tree_of_hidden a x)) (filled vs (tree_of_list (map (tree_of_hidden a) xs))) = e in cc
hidden_filled vs a b (x ∷ xs) (y ∷ ys) e =
    let q : more (tree_of_hidden b y) (tree_of_list (map (tree_of_hidden b) ys)) ≡ more (filled vs (tree_of_hidden a x)) (filled vs (tree_of_list (map (tree_of_hidden a) xs))) = e in
    let one : tree_of_hidden b y ≡ filled vs (tree_of_hidden a x) = cc in
    let rest : tree_of_list (map (tree_of_hidden b) ys) ≡ filled vs (tree_of_list (map (tree_of_hidden a) xs)) = cc in
    pushed x y one (hidden_filled vs a b xs ys rest)
  where
    pushed : (x y : AliasTerm × Ty) → tree_of_hidden b y ≡ filled vs (tree_of_hidden a x) → hidden_pairs b ys ≡ filled vs (hidden_pairs a xs) → hidden_pairs b (y ∷ ys) ≡ filled vs (hidden_pairs a (x ∷ xs))
    pushed x y one rest =
        let parts : more (node (label.Clause (clause.Projection (alias_head y.0.def_id))) (more (tree_at b y.0.args.node) empty)) (more (tree_at b y.1.node) empty) ≡ more (node (label.Clause (clause.Projection (alias_head x.0.def_id))) (more (filled vs (tree_at a x.0.args.node)) empty)) (more (filled vs (tree_at a x.1.node)) empty) = one in
        let head : alias_head y.0.def_id ≡ alias_head x.0.def_id = cc in
        let args : tree_at b y.0.args.node ≡ filled vs (tree_at a x.0.args.node) = cc in
        let type : tree_at b y.1.node ≡ filled vs (tree_at a x.1.node) = cc in
        let alias : tree_of_alias b y.0 ≡ filled vs (tree_of_alias a x.0) = (λ i. node (alias_label (head i)) (more (args i) empty)) ∙ sym (label_filled vs x.0.def_id (more (tree_at a x.0.args.node) empty)) in
        cc (alias, type, rest)

-- what a fold makes of a query is the query with the values
pub query_filled : (vs a b : List Tree) (q r : QueryInput) → tree_of_query b r ≡ filled vs (tree_of_query a q) → query_tree b r ≡ filled vs (query_tree a q)
query_filled vs a b q r e =
    let parts : more (more (tree_at b r.goal.param_env.node) (more (tree_at b r.goal.predicate.node) empty)) (more (tree_of_list (map (tree_of_hidden b) r.predefined_opaques_in_body.items)) empty) ≡ more (more (filled vs (tree_at a q.goal.param_env.node)) (more (filled vs (tree_at a q.goal.predicate.node)) empty)) (more (filled vs (tree_of_list (map (tree_of_hidden a) q.predefined_opaques_in_body.items))) empty) = e in
    let env : tree_at b r.goal.param_env.node ≡ filled vs (tree_at a q.goal.param_env.node) = cc in
    let predicate : tree_at b r.goal.predicate.node ≡ filled vs (tree_at a q.goal.predicate.node) = cc in
    let hidden : tree_of_list (map (tree_of_hidden b) r.predefined_opaques_in_body.items) ≡ filled vs (tree_of_list (map (tree_of_hidden a) q.predefined_opaques_in_body.items)) = cc in
    three env predicate (hidden_filled vs a b q.predefined_opaques_in_body.items r.predefined_opaques_in_body.items hidden)
