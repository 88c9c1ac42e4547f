-- The goals of a candidate, added one by one.
use Rattle.std.proofs.Common.{◌≡◌, inl, inr, ℕ, zero, suc, ◌+◌, ◌<◌, List, [], ◌∷◌, ◌++◌, map, length, get_or, take, refl, sym, ap, ◌∙◌, arith}
use Rattle.std.proofs.lemmas.List.{map-append, take_more}
use Rattle.std.proofs.lemmas.List.Elements.{All-push}
use Rattle.nts_model.specs.Terms.Trees.{Tree}
use Rattle.nts_model.specs.Lists.{Among}
use Rattle.nts_model.specs.Tables.Passing.{TreePasses}
use Rattle.nts_model.specs.Terms.Substitutions.{filled}
use Rattle.nts_model.specs.Derivations.Handlers.{premise_by}
use Rattle.nts_model.specs.declared.labels.Sort.{Sort}
use Rattle.nts_certainty.specs.declared.sources.GoalSource.{GoalSource}
use Rattle.nts_store.specs.declared.nodes.NodeId.{NodeId}
use Rattle.nts_store.specs.Growth.{tree_at, IsIn, AllIn, Extends}
use Rattle.nts_store.specs.Kept.{map-kept}
use Rattle.nts_terms.specs.declared.handles.Goal.{Goal}
use Rattle.nts_terms.specs.declared.cx.Cx.{Cx}
use Rattle.nts_terms.specs.Rest.{Grows}
use Rattle.nts_store.proofs.Growing.{Extends-trans}
use Rattle.nts_terms.proofs.Moved.{KeepsRest-trans}
use Rattle.nts_table.specs.Tables.{Table}
use Rattle.nts_candidates.specs.declared.data.CandidateGoal.{CandidateGoal}
use Rattle.nts_delegate.specs.Candidates.{AreNested}
use Rattle.nts_candidates.specs.Offered.{premise_of, source_of}
use Rattle.nts_response.specs.Forms.{premise_at}
use Rattle.nts_meaning.specs.Evaluation.{IsPosed, AreValues, asked_terms, AsksOnly, goals_at}
use Rattle.nts_trying.specs.Instances.{IsGoalInstance}
use Rattle.nts_theory.specs.RelatingCandidates.{goals_with}
use Rattle.nts_trying.specs.Stepping.{ArePosed, terms_of}
use Rattle.nts_trying.specs.Adding.{AreAdded}
use Rattle.nts_meaning.proofs.Evaluating.{Goes-extends, IsPosed-later, nested_at}

-- a store that grows twice
pub grown_more : {a b d : Cx} → Grows a b → Grows b d → Grows a d
grown_more g h = record { extends = Extends-trans g.extends h.extends; rest = KeepsRest-trans g.rest h.rest }

-- goals that are posed are so in a store that has grown
pub posed_kept : (b d : List Tree) (t : Table) (gs : List (GoalSource × Goal)) → Extends b d → ArePosed b t gs → ArePosed d t gs
posed_kept b d t gs e h = λ k x l.
    let p = h k x l in
    IsPosed-later (Goes-extends p.table e) p

-- .. and are the same goals there
pub goals_kept : (b d : List Tree) (t : Table) (gs : List (GoalSource × Goal)) → Extends b d → ArePosed b t gs → goals_at d gs ≡ goals_at b gs
goals_kept b d t [] e h = refl
goals_kept b d t (g ∷ gs) e h =
    let p = h zero g (omega arith) in
    let env = e.kept g.1.param_env.node p.holds.env.within in
    let predicate = e.kept g.1.predicate.node p.holds.predicate.within in
    let rest = goals_kept b d t gs e (λ k x l. h (suc k) x (omega (arith, l))) in
    λ i. record { source = source_of g.0; environment = env i; predicate = predicate i } ∷ rest i

-- what is so of the terms of goals, and of the terms of one more, is so of all of them
pub terms_more : (Q : Tree → Type 0) (b d : List Tree) (t : Table) (gs : List (GoalSource × Goal)) (x : GoalSource × Goal) → Extends b d → ArePosed b t gs → ((y : Tree) → Among (terms_of b gs) y → Q y) → ((y : Tree) → Among (asked_terms d x.1) y → Q y)
    → (y : Tree) → Among (terms_of d (gs ++ x ∷ [])) y → Q y
terms_more Q b d t [] x e h all one y i = one y i
terms_more Q b d t (g ∷ gs) x e h all one y (inl q) =
    let p = h zero g (omega arith) in
    rw (q, e.kept g.1.param_env.node p.holds.env.within) (all _ (inl refl))
terms_more Q b d t (g ∷ gs) x e h all one y (inr (inl q)) =
    let p = h zero g (omega arith) in
    rw (q, e.kept g.1.predicate.node p.holds.predicate.within) (all _ (inr (inl refl)))
terms_more Q b d t (g ∷ gs) x e h all one y (inr (inr i)) =
    terms_more Q b d t gs x e (λ k z l. h (suc k) z (omega (arith, l))) (λ z j. all z (inr (inr j))) one y i

-- a goal with the values in place of its positions
one_goal : (a b d : List Tree) (vs : List NodeId) (h : CandidateGoal) (k : Goal) → Extends a b → AllIn a vs → IsIn a h.goal.param_env.node → IsIn a h.goal.predicate.node → IsGoalInstance b d vs h.goal k
    → premise_at d (h.source, k) ≡ premise_by (filled (map (tree_at a) vs)) (premise_of a h)
one_goal a b d vs h k e w l r m =
    let env : tree_at d k.param_env.node ≡ filled (map (tree_at a) vs) (tree_at a h.goal.param_env.node) = rw (map-kept a b vs w e, e.kept h.goal.param_env.node l) at m.env in
    let predicate : tree_at d k.predicate.node ≡ filled (map (tree_at a) vs) (tree_at a h.goal.predicate.node) = rw (map-kept a b vs w e, e.kept h.goal.predicate.node r) at m.predicate in
    λ i. record { source = source_of h.source; environment = env i; predicate = predicate i }

-- goals, and one more
goals_more : (a d : List Tree) (xs : List Tree) (hs : List CandidateGoal) (h : CandidateGoal) (gs : List (GoalSource × Goal)) (x : GoalSource × Goal) → goals_at d gs ≡ goals_with xs (map (premise_of a) hs) → premise_at d x ≡ premise_by (filled xs) (premise_of a h)
    → goals_at d (gs ++ x ∷ []) ≡ goals_with xs (map (premise_of a) (hs ++ h ∷ []))
goals_more a d xs hs h gs x all one =
    let left : goals_at d (gs ++ x ∷ []) ≡ goals_at d gs ++ premise_at d x ∷ [] = map-append (premise_at d) gs (x ∷ []) in
    let inner : map (premise_of a) (hs ++ h ∷ []) ≡ map (premise_of a) hs ++ premise_of a h ∷ [] = map-append (premise_of a) hs (h ∷ []) in
    let right : goals_with xs (map (premise_of a) hs ++ premise_of a h ∷ []) ≡ goals_with xs (map (premise_of a) hs) ++ premise_by (filled xs) (premise_of a h) ∷ [] = map-append (premise_by (filled xs)) (map (premise_of a) hs) (premise_of a h ∷ []) in
    left ∙ (λ i. all i ++ one i ∷ []) ∙ sym right ∙ sym (ap (goals_with xs) inner)

-- no goals are added
pub added_none : (a b : List Tree) (t : Table) (g : Goal) (vs : List NodeId) → AreAdded a b t g vs [] []
added_none a b t g vs =
    record { posed = λ k x l. absurd (omega (arith, l)); goals = refl; labels = λ P q m x i. absurd i }

-- .. and one more
pub added_more : {a b d : List Tree} {t : Table} (g : Goal) (fresh : List Sort) (vs : List NodeId) (hs : List CandidateGoal) (i : ℕ) (h : CandidateGoal) (gs zs : List (GoalSource × Goal)) (k : Goal) → i < length hs → IsPosed a t g → AreNested a fresh g hs → AreValues a t fresh vs → Extends a b → Extends b d
    → AreAdded a b t g vs (take i hs) gs → IsPosed d t k → IsGoalInstance b d vs (get_or hs i h).goal k → AsksOnly b d g k → zs ≡ gs ++ ((get_or hs i h).source, k) ∷ [] → AreAdded a d t g vs (take (i + 1) hs) zs
added_more {a} {b} {d} {t} g fresh vs hs i h gs zs k l p n v ab bd all posed instance only same =
    let item = get_or hs i h in
    let one = nested_at a fresh g hs i h n l in
    let before : goals_at d gs ≡ goals_with (map (tree_at a) vs) (map (premise_of a) (take i hs)) = goals_kept b d t gs bd all.posed ∙ all.goals in
    let more = goals_more a d (map (tree_at a) vs) (take i hs) item gs (item.source, k) before (one_goal a b d vs item k ab v.within one.env.within one.predicate.within instance) in
    rw (take_more hs i h l, same) (record {
      posed = All-push (λ x. IsPosed d t x.1) gs (item.source, k) (posed_kept b d t gs bd all.posed) posed;
      goals = more;
      labels = λ P q m. terms_more (TreePasses P) b d t gs (item.source, k) bd all.posed (all.labels P q m) (only.labels P q (λ x j. m x (rw (ab.kept g.param_env.node p.holds.env.within, ab.kept g.predicate.node p.holds.predicate.within) at j)));
    })
