-- The pairs that a call met, as keys.
use Rattle.std.proofs.Common.{◌≡◌, inl, inr, Bool, true, false, List, [], ◌∷◌, ◌++◌, refl, rules, Ok, Err}
use Rattle.std.specs.Prelude.{IsTrue, ◌↔◌, ◌&&◌, Result, OnOk}
use Rattle.std.specs.List.{list_any}
use Rattle.indexmap.specs.IndexSet.{insert_key}
use Rattle.nts_model.specs.declared.labels.Variance.{Variance}
use Rattle.nts_model.specs.contracts.labels.VariancePartialEq.TheImpl as variance_eq
use Rattle.nts_model.specs.Terms.Trees.{Tree}
use Rattle.nts_model.specs.Lists.{Among}
use Rattle.nts_store.specs.contracts.nodes.NodeIdPartialEq.TheImpl as id_eq
use Rattle.nts_variance.specs.declared.along.Relating.{Relating}
use Rattle.nts_variance.specs.contracts.along.RelatingPartialEq.TheImpl as goal_eq
use Rattle.nts_variance.specs.Terms.{pair_at, pairs_at}
use Rattle.nts_store.specs.Equal.{same_id}

same_variance : (a b : Variance) → IsTrue (variance_eq.ghosts.eq a b) ↔ (a ≡ b)
same_variance a b = search rules

-- `==` on pairs is equality
same_goal : (p q : Relating) → goal_eq.ghosts.eq p q ≡ true → p ≡ q
same_goal p q h = all (variance_eq.ghosts.eq p.variance q.variance) (id_eq.ghosts.eq p.left q.left) (id_eq.ghosts.eq p.right q.right) (same_variance p.variance q.variance).0 (same_id p.left q.left).0 (same_id p.right q.right).0 h
  where
    all : (x y z : Bool) → (IsTrue x → p.variance ≡ q.variance) → (IsTrue y → p.left ≡ q.left) → (IsTrue z → p.right ≡ q.right) → (x && (y && z)) ≡ true → p ≡ q
    all true true true f g k h = let v = f refl in let l = g refl in let r = k refl in λ i. record { variance = v i; left = l i; right = r i }
    all true true false f g k h = cc
    all true false z f g k h = cc
    all false y z f g k h = cc

pub met_among : (ts : List Tree) (ms : List Relating) (p : Relating) → list_any (goal_eq.ghosts.eq p) ms ≡ true → Among (pairs_at ts ms) (pair_at ts p)
met_among ts [] p h = cc
met_among ts (q ∷ ms) p h = by_case (goal_eq.ghosts.eq p q) refl (λ e. met_among ts ms p (rw e at h))
  where
    by_case : (x : Bool) → goal_eq.ghosts.eq p q ≡ x → (goal_eq.ghosts.eq p q ≡ false → Among (pairs_at ts ms) (pair_at ts p)) → Among (pairs_at ts (q ∷ ms)) (pair_at ts p)
    by_case true e rest = inl (let same = same_goal p q e in λ i. pair_at ts (same i))
    by_case false e rest = inr (rest e)

pub met_keys : (ms : List Relating) (p : Relating) → list_any (goal_eq.ghosts.eq p) ms ≡ true → insert_key goal_eq.ghosts.eq ms p ≡ ms
met_keys ms p h = rw h refl

pub new_keys : (ms : List Relating) (p : Relating) → list_any (goal_eq.ghosts.eq p) ms ≡ false → insert_key goal_eq.ghosts.eq ms p ≡ ms ++ p ∷ []
new_keys ms p h = rw h refl

pub map_ok : {T E A B : Type 0} (r : Result T E) → (A → B) → OnOk r A → OnOk r B
map_ok (Ok x) f h = f h
map_ok (Err e) f h = h
