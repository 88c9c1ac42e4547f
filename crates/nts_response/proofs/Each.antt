-- Lists whose trees are replaced, one by one.
use Rattle.std.proofs.Common.{◌≡◌, ℕ, suc, ◌+◌, ◌<◌, List, [], ◌∷◌, ◌++◌, map, length, take, get_or, subst, refl, sym, ap, ◌∙◌, arith}
use Rattle.std.specs.Prelude.{All}
use Rattle.std.proofs.lemmas.List.{take_more}
use Rattle.std.proofs.lemmas.List.Elements.{All-push}
use Rattle.nts_model.specs.Terms.Trees.{Tree}
use Rattle.nts_store.specs.Growth.{Extends}
use Rattle.nts_canonical.specs.nts_folding.specs.FoldLaws.{list_holds}
use Rattle.nts_terms.specs.Handles.{HoldsArg}
use Rattle.nts_canonical.proofs.PairLists.{holds_kept, is_hidden-kept, alias-kept}
use Rattle.nts_canonical.proofs.VarLists.{map-push}
use Rattle.nts_response.specs.Replacing.{ReplacesEach, argument_value}
use Rattle.nts_response.specs.declared.types.Response.{Response}
use Rattle.nts_response.specs.Forms.{StoreHoldsConstraint, HoldsOpen, HoldsResponse, recorded_at, premise_at}
use Rattle.nts_canonical.specs.Forms.{IsHidden}
use Rattle.nts_candidates.specs.Offered.{hidden_of}

-- a store that grows keeps what a value of it stands for
pub record IsKept {X V : Type 0} (holds : List Tree → X → Type 0) (view : List Tree → X → V) : Type 0 where
  pub held : (a b : List Tree) (x : X) → holds a x → Extends a b → holds b x
  pub same : (a b : List Tree) (x : X) → holds a x → Extends a b → view b x ≡ view a x

pub same_views : {X V : Type 0} (holds : List Tree → X → Type 0) (view : List Tree → X → V) → IsKept holds view → (a b : List Tree) (xs : List X) → All (holds a) xs → Extends a b → map (view b) xs ≡ map (view a) xs
same_views holds view k a b [] h e = refl
same_views holds view k a b (x ∷ xs) h e = cc (k.same a b x (h 0 x (omega arith)) e, same_views holds view k a b xs (λ j d l. h (suc j) d (omega arith)) e)

-- one more
pub replaced_more : {X V : Type 0} (holds : List Tree → X → Type 0) (view : List Tree → X → V) (image : V → V) → IsKept holds view → (a b c : List Tree) (xs ys zs : List X) (i : ℕ) (d r : X)
    → Extends a b → Extends b c → All (holds a) xs → i < length xs → ReplacesEach holds view image a b (take i xs) ys → holds c r → view c r ≡ image (view b (get_or xs i d)) → zs ≡ ys ++ r ∷ []
    → ReplacesEach holds view image a c (take (i + 1) xs) zs
replaced_more holds view image k a b c xs ys zs i d r up more h l so held is e =
    let x = get_or xs i d in
    let at : view c r ≡ image (view a x) = is ∙ ap image (k.same a b x (h i d l) up) in
    let left : map (view c) zs ≡ map image (map (view a) (take i xs)) ++ image (view a x) ∷ [] =
    ap (map (view c)) e ∙ map-push (view c) ys r ∙ ap (λ vs. vs ++ view c r ∷ []) (same_views holds view k b c ys so.held more ∙ so.views) ∙ ap (λ v. map image (map (view a) (take i xs)) ++ v ∷ []) at in
    let right : map image (map (view a) (take (i + 1) xs)) ≡ map image (map (view a) (take i xs)) ++ image (view a x) ∷ [] =
    ap (λ us. map image (map (view a) us)) (take_more xs i d l) ∙ ap (map image) (map-push (view a) (take i xs) x) ∙ map-push image (map (view a) (take i xs)) (view a x) in
    record {
      views = left ∙ sym right;
      held = subst (All (holds c)) (sym e) (All-push (holds c) ys r (list_holds (holds b) (holds c) (λ y q. k.held b c y q more) ys so.held) held);
    }

-- values, constraints, hidden types and goals are kept
pub values_kept : IsKept HoldsArg argument_value
values_kept = record { held = λ a b x h e. holds_kept _ a b x.node h e; same = λ a b x h e. e.kept x.node h.within }

pub constraints_kept : IsKept StoreHoldsConstraint recorded_at
constraints_kept = record {
  held = λ a b x h e. record { left = holds_kept _ a b x.0.left.node h.left e; right = holds_kept _ a b x.0.right.node h.right e };
  same = λ a b x h e. cc (e.kept x.0.left.node (let q = h.left in q.within), e.kept x.0.right.node (let q = h.right in q.within));
}

pub hidden_kept : IsKept IsHidden hidden_of
hidden_kept = record {
  held = λ a b x h e. is_hidden-kept a b x h e;
  same = λ a b x h e. cc (alias-kept a b x.0 (let q = h.args in q.within) e, e.kept x.1.node (let q = h.hidden_type in q.within));
}

pub goals_kept : IsKept HoldsOpen premise_at
goals_kept = record {
  held = λ a b x h e. record { goal = (let g = h.goal in record { env = holds_kept _ a b x.1.param_env.node g.env e; predicate = holds_kept _ a b x.1.predicate.node g.predicate e }) };
  same = λ a b x h e. (let g = h.goal in cc (e.kept x.1.param_env.node (let q = g.env in q.within), e.kept x.1.predicate.node (let q = g.predicate in q.within)));
}

-- .. of what stood in an older store, in a newer one
pub replaced_later : {X V : Type 0} (holds : List Tree → X → Type 0) (view : List Tree → X → V) (image : V → V) → IsKept holds view → (a b c d : List Tree) (xs ys : List X)
    → Extends a b → Extends c d → All (holds a) xs → ReplacesEach holds view image b c xs ys → ReplacesEach holds view image a d xs ys
replaced_later holds view image k a b c d xs ys up more h r = record {
  views = same_views holds view k c d ys r.held more ∙ r.views ∙ ap (map image) (same_views holds view k a b xs h up);
  held = list_holds (holds c) (holds d) (λ y q. k.held c d y q more) ys r.held;
}

-- a response in a store that has grown
pub response_kept : (a b : List Tree) (r : Response) → Extends a b → HoldsResponse a r → HoldsResponse b r
response_kept a b r e h =
    let v = values_kept in
    let c = constraints_kept in
    let p = hidden_kept in
    let g = goals_kept in
    record {
      values = list_holds (HoldsArg a) (HoldsArg b) (λ x q. v.held a b x q e) r.var_values.items h.values;
      constraints = list_holds (StoreHoldsConstraint a) (StoreHoldsConstraint b) (λ x q. c.held a b x q e) r.external_constraints.region_constraints.items h.constraints;
      hidden = list_holds (IsHidden a) (IsHidden b) (λ x q. p.held a b x q e) r.external_constraints.opaque_types.items h.hidden;
      open_goals = list_holds (HoldsOpen a) (HoldsOpen b) (λ x q. g.held a b x q e) r.external_constraints.normalization_nested_goals.items h.open_goals;
    }
