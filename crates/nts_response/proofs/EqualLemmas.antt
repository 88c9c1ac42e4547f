-- Originals made equal to their values, one by one.
use Rattle.std.proofs.Common.{◌≡◌, ℕ, zero, suc, ◌+◌, ◌<◌, ◌≤◌, List, [], ◌∷◌, ◌++◌, map, length, take, get_or, inl, inr, refl, sym, ap, subst, ◌∙◌, arith}
use Rattle.std.specs.Prelude.{All}
use Rattle.std.proofs.lemmas.List.{take_all, take_more, length-map, get_or-map}
use Rattle.nts_model.specs.Terms.Trees.{Tree, empty}
use Rattle.nts_model.specs.Tables.Contents.{Content}
use Rattle.nts_model.specs.Terms.Substitutions.{filled}
use Rattle.nts_model.specs.Tables.Equations.{AreRelated, AreUnrelated}
use Rattle.nts_model.specs.Answers.Applying.{IsProperContent, MakesEqual}
use Rattle.nts_candidates.specs.nts_theory.proofs.Responses.Applied.{FailsToEqual}
use Rattle.nts_model.proofs.Tables.Slots.{Knows-kept}
use Rattle.nts_store.specs.declared.nodes.NodeId.{NodeId}
use Rattle.nts_store.specs.Growth.{tree_at, AllIn}
use Rattle.nts_store.specs.Kept.{map-kept}
use Rattle.nts_store.proofs.Growing.{IsIn-extended}
use Rattle.nts_terms.specs.declared.cx.Cx.{Cx}
use Rattle.nts_terms.specs.declared.handles.GenericArg.{GenericArg}
use Rattle.nts_canonical.specs.nts_unify.specs.Reading.{content_of}
use Rattle.nts_canonical.specs.nts_table.specs.Tables.{Table}
use Rattle.nts_canonical.specs.Forms.{trees_of}
use Rattle.nts_canonical.specs.Building.{IsArgOf}
use Rattle.nts_response.specs.Applied.{StepKeeps, IsFillable}

-- one more
equal_push : (xs vs os : List Tree) (v o : Tree) (c d e : Content) → MakesEqual xs vs os c d → AreRelated d e (filled xs v) o → IsProperContent e → MakesEqual xs (vs ++ v ∷ []) (os ++ o ∷ []) c e
equal_push xs [] [] v o c d e h r p = (e, subst (λ z. AreRelated z e (filled xs v) o) h r, p, refl)
equal_push xs [] (y ∷ os) v o c d e h r p = absurd h
equal_push xs (x ∷ vs) [] v o c d e h r p = absurd h
equal_push xs (x ∷ vs) (y ∷ os) v o c d e (m, one, proper, rest) r p = (m, one, proper, equal_push xs vs os v o m d e rest r p)

pub equal_more : (xs vs os : List Tree) (i : ℕ) (c d e : Content) → i < length vs → length os ≡ length vs → MakesEqual xs (take i vs) (take i os) c d → AreRelated d e (filled xs (get_or vs i empty)) (get_or os i empty) → IsProperContent e → MakesEqual xs (take (i + 1) vs) (take (i + 1) os) c e
equal_more xs vs os i c d e l q h r p = rw (take_more vs i empty l, take_more os i empty (omega (arith, l, q))) (equal_push xs (take i vs) (take i os) (get_or vs i empty) (get_or os i empty) c d e h r p)

-- the first that cannot be
pub equal_fails : (xs vs os : List Tree) (i : ℕ) (c d : Content) → i < length vs → length os ≡ length vs → MakesEqual xs (take i vs) (take i os) c d → AreUnrelated d (filled xs (get_or vs i empty)) (get_or os i empty) → FailsToEqual xs vs os c
equal_fails xs [] os i c d l q h r = absurd (omega (arith, l))
equal_fails xs (v ∷ vs) [] i c d l q h r = absurd (omega (arith, q))
equal_fails xs (v ∷ vs) (o ∷ os) zero c d l q h r = inl (subst (λ z. AreUnrelated z (filled xs v) o) h r)
equal_fails xs (v ∷ vs) (o ∷ os) (suc i) c d l q (m, one, proper, rest) r = inr (m, one, proper, equal_fails xs vs os i m d (omega (arith, l)) (omega (arith, q)) rest r)

-- a term that can be filled is one later
pub fillable_later : (a b : Cx) (t u : Table) (chosen : List NodeId) (x : NodeId) → StepKeeps a b t u → AllIn a.nodes chosen → IsFillable a.nodes (content_of a.nodes t.entries) (map (tree_at a.nodes) chosen) x → IsFillable b.nodes (content_of b.nodes u.entries) (map (tree_at b.nodes) chosen) x
fillable_later a b t u chosen x s w h =
    let g = s.grows in
    let e = g.extends in
    let xs = map-kept a.nodes b.nodes chosen w e in
    let tree = e.kept x h.within in
    record {
      within = IsIn-extended e x h.within;
      positions = rw (xs, tree) h.positions;
      knows = rw (xs, tree) (Knows-kept (content_of a.nodes t.entries) (content_of b.nodes u.entries) (filled (map (tree_at a.nodes) chosen) (tree_at a.nodes x)) s.kinds h.knows);
    }

pub tree_in : (ts : List Tree) (xs : List GenericArg) (i : ℕ) (d : GenericArg) → i < length xs → get_or (trees_of ts xs) i empty ≡ tree_at ts (get_or xs i d).node
tree_in ts xs i d l = get_or-map (λ (x : GenericArg). tree_at ts x.node) xs i d empty l

-- of arguments of a store that has grown
pub filled_same : (a b : Cx) (t u : Table) (chosen : List NodeId) (x : NodeId) → StepKeeps a b t u → AllIn a.nodes chosen → IsFillable a.nodes (content_of a.nodes t.entries) (map (tree_at a.nodes) chosen) x → filled (map (tree_at b.nodes) chosen) (tree_at b.nodes x) ≡ filled (map (tree_at a.nodes) chosen) (tree_at a.nodes x)
filled_same a b t u chosen x s w h = (let g = s.grows in let e = g.extends in rw (map-kept a.nodes b.nodes chosen w e, e.kept x h.within) refl)

pub equal_next : (a b : Cx) (t u : Table) (chosen : List NodeId) (values originals : List GenericArg) (i : ℕ) (d f : GenericArg) (e : Content) → i < length values → length originals ≡ length values → StepKeeps a b t u → AllIn a.nodes chosen
    → All (λ v. IsFillable a.nodes (content_of a.nodes t.entries) (map (tree_at a.nodes) chosen) v.node) values → All (IsArgOf a.nodes t.entries) originals → MakesEqual (map (tree_at a.nodes) chosen) (take i (trees_of a.nodes values)) (take i (trees_of a.nodes originals)) (content_of a.nodes t.entries) (content_of b.nodes u.entries)
    → AreRelated (content_of b.nodes u.entries) e (filled (map (tree_at b.nodes) chosen) (tree_at b.nodes (get_or values i d).node)) (tree_at b.nodes (get_or originals i f).node) → IsProperContent e
    → MakesEqual (map (tree_at a.nodes) chosen) (take (i + 1) (trees_of a.nodes values)) (take (i + 1) (trees_of a.nodes originals)) (content_of a.nodes t.entries) e
equal_next a b t u chosen values originals i d f e l q s w fillable args h r p =
    let g = s.grows in
    let x = g.extends in
    let m : i < length originals = omega (arith, l, q) in
    let arg = args i f m in
    let held = arg.holds in
    let first = filled_same a b t u chosen (get_or values i d).node s w (fillable i d l) ∙ ap (filled (map (tree_at a.nodes) chosen)) (sym (tree_in a.nodes values i d l)) in
    let second = x.kept (get_or originals i f).node held.within ∙ sym (tree_in a.nodes originals i f m) in
    equal_more (map (tree_at a.nodes) chosen) (trees_of a.nodes values) (trees_of a.nodes originals) i (content_of a.nodes t.entries) (content_of b.nodes u.entries) e (let n = length-map values (λ (y : GenericArg). tree_at a.nodes y.node) in omega (arith, l, n)) (length-map originals (λ (y : GenericArg). tree_at a.nodes y.node) ∙ q ∙ sym (length-map values (λ (y : GenericArg). tree_at a.nodes y.node))) h (subst (λ y. AreRelated (content_of b.nodes u.entries) e y (get_or (trees_of a.nodes originals) i empty)) first (subst (AreRelated (content_of b.nodes u.entries) e (filled (map (tree_at b.nodes) chosen) (tree_at b.nodes (get_or values i d).node))) second r)) p

pub equal_fault : (a b : Cx) (t u : Table) (chosen : List NodeId) (values originals : List GenericArg) (i : ℕ) (d f : GenericArg) → i < length values → length originals ≡ length values → StepKeeps a b t u → AllIn a.nodes chosen
    → All (λ v. IsFillable a.nodes (content_of a.nodes t.entries) (map (tree_at a.nodes) chosen) v.node) values → All (IsArgOf a.nodes t.entries) originals → MakesEqual (map (tree_at a.nodes) chosen) (take i (trees_of a.nodes values)) (take i (trees_of a.nodes originals)) (content_of a.nodes t.entries) (content_of b.nodes u.entries)
    → AreUnrelated (content_of b.nodes u.entries) (filled (map (tree_at b.nodes) chosen) (tree_at b.nodes (get_or values i d).node)) (tree_at b.nodes (get_or originals i f).node)
    → FailsToEqual (map (tree_at a.nodes) chosen) (trees_of a.nodes values) (trees_of a.nodes originals) (content_of a.nodes t.entries)
equal_fault a b t u chosen values originals i d f l q s w fillable args h r =
    let g = s.grows in
    let x = g.extends in
    let m : i < length originals = omega (arith, l, q) in
    let arg = args i f m in
    let held = arg.holds in
    let first = filled_same a b t u chosen (get_or values i d).node s w (fillable i d l) ∙ ap (filled (map (tree_at a.nodes) chosen)) (sym (tree_in a.nodes values i d l)) in
    let second = x.kept (get_or originals i f).node held.within ∙ sym (tree_in a.nodes originals i f m) in
    equal_fails (map (tree_at a.nodes) chosen) (trees_of a.nodes values) (trees_of a.nodes originals) i (content_of a.nodes t.entries) (content_of b.nodes u.entries) (let n = length-map values (λ (y : GenericArg). tree_at a.nodes y.node) in omega (arith, l, n)) (length-map originals (λ (y : GenericArg). tree_at a.nodes y.node) ∙ q ∙ sym (length-map values (λ (y : GenericArg). tree_at a.nodes y.node))) h (subst (λ y. AreUnrelated (content_of b.nodes u.entries) y (get_or (trees_of a.nodes originals) i empty)) first (subst (AreUnrelated (content_of b.nodes u.entries) (filled (map (tree_at b.nodes) chosen) (tree_at b.nodes (get_or values i d).node))) second r))

pub equal_all : (ts : List Tree) (chosen : List NodeId) (values originals : List GenericArg) (i : ℕ) (c d : Content) → length values ≤ i → length originals ≡ length values → MakesEqual (map (tree_at ts) chosen) (take i (trees_of ts values)) (take i (trees_of ts originals)) c d → MakesEqual (map (tree_at ts) chosen) (trees_of ts values) (trees_of ts originals) c d
equal_all ts chosen values originals i c d l q h =
    let n = length-map values (λ (y : GenericArg). tree_at ts y.node) in
    let m = length-map originals (λ (y : GenericArg). tree_at ts y.node) in
    subst (λ z. MakesEqual (map (tree_at ts) chosen) z (trees_of ts originals) c d) (take_all i (trees_of ts values) (omega (arith, l, n)))
    (subst (λ z. MakesEqual (map (tree_at ts) chosen) (take i (trees_of ts values)) z c d) (take_all i (trees_of ts originals) (omega (arith, l, q, m))) h)
