-- The region constraints of a response, one after another.
use Rattle.std.proofs.Common.{◌≡◌, ℕ, ◌+◌, ◌<◌, Bool, List, [], ◌∷◌, ◌++◌, map, length, take, get_or, refl, sym, ap, subst, ◌∙◌, arith}
use Rattle.std.specs.Prelude.{All}
use Rattle.std.proofs.lemmas.List.{take_more, length-map, get_or-map}
use Rattle.nts_model.specs.Terms.Trees.{Tree, IsClosed}
use Rattle.nts_model.specs.Tables.Contents.{Content, Recorded}
use Rattle.nts_model.specs.Terms.Regions.{IsRegion}
use Rattle.nts_model.specs.Answers.Applying.{IsRecordedIn, Records}
use Rattle.nts_model.specs.Answers.Responses.{recorded_by}
use Rattle.nts_model.specs.Terms.Substitutions.{filled}
use Rattle.nts_store.specs.declared.nodes.NodeId.{NodeId}
use Rattle.nts_store.specs.Growth.{tree_at, AllIn}
use Rattle.nts_terms.specs.declared.cx.Cx.{Cx}
use Rattle.nts_terms.specs.declared.modes.VisibleForLeakCheck.{VisibleForLeakCheck}
use Rattle.nts_candidates.specs.declared.data.RegionConstraint.{RegionConstraint}
use Rattle.nts_unify.specs.Reading.{content_of}
use Rattle.nts_table.specs.Tables.{Table}
use Rattle.nts_response.specs.Forms.{recorded_at}
use Rattle.nts_response.specs.Applied.{StepKeeps}
use Rattle.nts_response.specs.Recorded.{IsLeftSide, IsRecordable, AddsSeen, AddsAllSeen, seen_if}
use Rattle.nts_response.proofs.EqualLemmas.{fillable_later, filled_same}

-- one more
records_push : (xs : List Tree) (rs : List Recorded) (r : Recorded) (c d e : Content) → Records xs rs c d → IsRecordedIn d e (recorded_by (filled xs) r) → Records xs (rs ++ r ∷ []) c e
records_push xs [] r c d e h k = (e, subst (λ z. IsRecordedIn z e (recorded_by (filled xs) r)) h k, refl)
records_push xs (y ∷ ys) r c d e (m, one, rest) k = (m, one, records_push xs ys r m d e rest k)

seen_push : (v : Bool) (rs : List Recorded) (r : Recorded) (xs ys zs : List Recorded) → AddsAllSeen v rs xs ys → AddsSeen (seen_if v r) ys zs → AddsAllSeen v (rs ++ r ∷ []) xs zs
seen_push v [] r xs ys zs h k = (zs, subst (λ q. AddsSeen (seen_if v r) q zs) h k, refl)
seen_push v (p ∷ ps) r xs ys zs (m, one, rest) k = (m, one, seen_push v ps r m ys zs rest k)

-- .. of the constraints of a response
pub constraint_in : (ts : List Tree) (cs : List (RegionConstraint × VisibleForLeakCheck)) (i : ℕ) (d : RegionConstraint × VisibleForLeakCheck) → i < length cs → take (i + 1) (map (recorded_at ts) cs) ≡ take i (map (recorded_at ts) cs) ++ recorded_at ts (get_or cs i d) ∷ []
constraint_in ts cs i d l =
    take_more (map (recorded_at ts) cs) i (recorded_at ts d) (let n = length-map cs (recorded_at ts) in omega (arith, l, n))
    ∙ ap (λ (z : Recorded). take i (map (recorded_at ts) cs) ++ z ∷ []) (get_or-map (recorded_at ts) cs i d (recorded_at ts d) l)

module _ (a b : Cx) (t u : Table) (chosen : List NodeId) (s : StepKeeps a b t u) (w : AllIn a.nodes chosen) where
  -- a constraint of a store that has grown
  recorded_same : (x : RegionConstraint × VisibleForLeakCheck) → IsRecordable a.nodes (content_of a.nodes t.entries) (map (tree_at a.nodes) chosen) x → recorded_by (filled (map (tree_at b.nodes) chosen)) (recorded_at b.nodes x) ≡ recorded_by (filled (map (tree_at a.nodes) chosen)) (recorded_at a.nodes x)
  recorded_same x h =
      let left = filled_same a b t u chosen x.0.left.node s w h.left in
      let right = filled_same a b t u chosen x.0.right.node s w h.right in
      rw (left, right) refl

  pub recordable_later : (x : RegionConstraint × VisibleForLeakCheck) → IsRecordable a.nodes (content_of a.nodes t.entries) (map (tree_at a.nodes) chosen) x → IsRecordable b.nodes (content_of b.nodes u.entries) (map (tree_at b.nodes) chosen) x
  recordable_later x h =
      record {
        left = fillable_later a b t u chosen x.0.left.node s w h.left;
        right = fillable_later a b t u chosen x.0.right.node s w h.right;
        left_side = subst (IsLeftSide x.0.relation) (sym (filled_same a b t u chosen x.0.left.node s w h.left)) h.left_side;
        right_side = subst IsRegion (sym (filled_same a b t u chosen x.0.right.node s w h.right)) h.right_side;
        left_closed = subst IsClosed (sym (filled_same a b t u chosen x.0.left.node s w h.left)) h.left_closed;
      }

  pub records_next : (cs : List (RegionConstraint × VisibleForLeakCheck)) (i : ℕ) (d : RegionConstraint × VisibleForLeakCheck) (e : Content) → i < length cs → All (IsRecordable a.nodes (content_of a.nodes t.entries) (map (tree_at a.nodes) chosen)) cs
      → Records (map (tree_at a.nodes) chosen) (take i (map (recorded_at a.nodes) cs)) (content_of a.nodes t.entries) (content_of b.nodes u.entries)
      → IsRecordedIn (content_of b.nodes u.entries) e (recorded_by (filled (map (tree_at b.nodes) chosen)) (recorded_at b.nodes (get_or cs i d)))
      → Records (map (tree_at a.nodes) chosen) (take (i + 1) (map (recorded_at a.nodes) cs)) (content_of a.nodes t.entries) e
  records_next cs i d e l all h k =
      subst (λ z. Records (map (tree_at a.nodes) chosen) z (content_of a.nodes t.entries) e) (sym (constraint_in a.nodes cs i d l))
      (records_push (map (tree_at a.nodes) chosen) (take i (map (recorded_at a.nodes) cs)) (recorded_at a.nodes (get_or cs i d)) (content_of a.nodes t.entries) (content_of b.nodes u.entries) e h
      (subst (IsRecordedIn (content_of b.nodes u.entries) e) (recorded_same (get_or cs i d) (all i d l)) k))

  pub seen_next : (v : Bool) (cs : List (RegionConstraint × VisibleForLeakCheck)) (i : ℕ) (d : RegionConstraint × VisibleForLeakCheck) (xs ys zs : List Recorded) → i < length cs
      → AddsAllSeen v (take i (map (recorded_at a.nodes) cs)) xs ys → AddsSeen (seen_if v (recorded_at b.nodes (get_or cs i d))) ys zs
      → AddsAllSeen v (take (i + 1) (map (recorded_at a.nodes) cs)) xs zs
  seen_next v cs i d xs ys zs l h k =
      subst (λ z. AddsAllSeen v z xs zs) (sym (constraint_in a.nodes cs i d l)) (seen_push v (take i (map (recorded_at a.nodes) cs)) (recorded_at a.nodes (get_or cs i d)) xs ys zs h k)
