-- Recording a candidate's constraints, one by one.
use Rattle.std.proofs.Common.{Result, Ok, Err, ◌≢◌, ◌≡◌, ◌⊎◌, inl, inr, ℕ, ◌+◌, ◌<◌, List, [], ◌∷◌, ◌++◌, map, get_or, take, length, refl, sym, ap, ◌∙◌, subst, true}
use Rattle.std.specs.Prelude.{IsOkUnless}
use Rattle.nts_store.specs.declared.fault.EvalError.{EvalError}
use Rattle.nts_store.specs.declared.fault.EvalError.TheVariants as error
use Rattle.std.proofs.lemmas.List.{take_more}
use Rattle.nts_model.specs.declared.labels.Relation.{Relation}
use Rattle.nts_model.specs.declared.labels.Relation.TheVariants as relation
use Rattle.nts_model.specs.Terms.Trees.{Tree}
use Rattle.nts_model.specs.Tables.Contents.{Content, with_constraint}
use Rattle.nts_model.specs.Tables.Equations.{AreRelated}
use Rattle.nts_model.specs.Derivations.Related.{Constraint}
use Rattle.nts_model.specs.Terms.Substitutions.{filled}
use Rattle.nts_model.specs.Derivations.Handlers.{constraint_by}
use Rattle.nts_model.specs.Refutation.Forcing.{seen_as, Adds, AddsBy, AddsAll}
use Rattle.nts_store.specs.declared.nodes.NodeId.{NodeId}
use Rattle.nts_store.specs.Growth.{tree_at, IsIn, AllIn, Extends}
use Rattle.nts_store.specs.Kept.{map-kept}
use Rattle.nts_unify.specs.Entries.{Entries}
use Rattle.nts_unify.specs.Recording.{Records}
use Rattle.nts_unify.specs.Reading.{content_of}
use Rattle.nts_unify.specs.Lawful.{content_of-constrained}
use Rattle.nts_candidates.specs.declared.data.RegionConstraint.{RegionConstraint}
use Rattle.nts_candidates.specs.Offered.{constraint_of}
use Rattle.nts_meaning.specs.Running.{constraint_between}
use Rattle.nts_meaning.proofs.Running.{constraint-kept}

-- a recorded constraint, which the leak check sees
pub added_entry : (ts : List Tree) (e f : Entries) (r : Relation) (y z : NodeId) → Records ts e f (record { relation = r; left = y; right = z; is_visible = true }) → (tree_at ts y ≡ tree_at ts z) × (content_of ts f ≡ content_of ts e) ⊎ (content_of ts f ≡ with_constraint (content_of ts e) (seen_as (constraint_between r (tree_at ts y) (tree_at ts z))))
added_entry ts e f r y z (inl h) = inl (h.0, ap (content_of ts) h.1)
added_entry ts e f r y z (inr h) = inr (ap (content_of ts) h.1 ∙ content_of-constrained ts e (record { relation = r; left = y; right = z; is_visible = true }))

-- an equality that was related
pub added_equal : (x : Constraint) (c d : Content) → x.relation ≡ relation.Equal → AreRelated c d x.left x.right → Adds x c d
added_equal x c d q h = subst (λ r. AddsBy r x c d) (sym q) h

-- one constraint more
adds_push : (a : List Tree) (xs : List Tree) (ks : List RegionConstraint) (k : RegionConstraint) (c d e : Content) → AddsAll xs (map (constraint_of a) ks) c d → Adds (constraint_by (filled xs) (constraint_of a k)) d e → AddsAll xs (map (constraint_of a) (ks ++ k ∷ [])) c e
adds_push a xs [] k c d e h r = (e, subst (λ z. Adds (constraint_by (filled xs) (constraint_of a k)) z e) h r, refl)
adds_push a xs (x ∷ ks) k c d e (m, y, rest) r = (m, y, adds_push a xs ks k m d e rest r)

pub adds_more : (a b : List Tree) (k : RegionConstraint) (vs : List NodeId) (ks : List RegionConstraint) (i : ℕ) (c d e : Content) → i < length ks → Extends a b → AllIn a vs → IsIn a (get_or ks i k).left.node → IsIn a (get_or ks i k).right.node → AddsAll (map (tree_at a) vs) (map (constraint_of a) (take i ks)) c d
    → Adds (constraint_by (filled (map (tree_at b) vs)) (constraint_of b (get_or ks i k))) d e → AddsAll (map (tree_at a) vs) (map (constraint_of a) (take (i + 1) ks)) c e
adds_more a b k vs ks i c d e l x w y z h r =
    let item = get_or ks i k in
    let here : Adds (constraint_by (filled (map (tree_at a) vs)) (constraint_of b item)) d e = rw (map-kept a b vs w x) at r in
    rw (take_more ks i k l) (adds_push a (map (tree_at a) vs) (take i ks) item c d e h (subst (λ q. Adds (constraint_by (filled (map (tree_at a) vs)) q) d e) (constraint-kept {a = a} {b = b} item x y z) here))

-- an equality of regions is never refused
pub never_refused : (r : Result (Unit {0}) EvalError) → (r ≡ Err error.NoSolution → ⊥) → r ≢ Err error.Full → IsOkUnless r error.Memory
never_refused (Ok x) n f = tt
never_refused (Err error.NoSolution) n f = absurd (n refl)
never_refused (Err error.Memory) n f = refl
never_refused (Err error.Full) n f = absurd (f refl)
