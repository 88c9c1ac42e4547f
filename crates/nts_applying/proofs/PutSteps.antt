-- What a response found out is put into a table, step by step.
use Rattle.std.proofs.Common.{◌≡◌, List, [], ◌∷◌, map, refl, sym, subst, ◌∙◌}
use Rattle.std.specs.Prelude.{All}
use Rattle.nts_model.specs.Terms.Trees.{Tree}
use Rattle.nts_model.specs.Tables.Resolving.{Knows}
use Rattle.nts_model.specs.Terms.Substitutions.{filled}
use Rattle.nts_model.specs.Derivations.Handlers.{hidden_by}
use Rattle.nts_model.specs.Tables.Contents.{Content}
use Rattle.nts_model.specs.Derivations.Sequents.{Premise}
use Rattle.nts_model.proofs.Tables.Slots.{KeepsKinds, Knows-kept}
use Rattle.nts_store.specs.declared.nodes.NodeId.{NodeId}
use Rattle.nts_store.specs.Growth.{tree_at, AllIn, Extends}
use Rattle.nts_store.specs.Kept.{map-kept}
use Rattle.nts_terms.specs.declared.cx.Cx.{Cx}
use Rattle.nts_terms.specs.declared.handles.AliasTerm.{AliasTerm}
use Rattle.nts_terms.specs.declared.handles.Ty.{Ty}
use Rattle.nts_unify.specs.Reading.{content_of, IsHiddenType}
use Rattle.nts_table.specs.Tables.{Table}
use Rattle.nts_candidates.specs.Offered.{hidden_of}
use Rattle.nts_canonical.specs.Building.{stored_hidden}
use Rattle.nts_canonical.specs.Forms.{hidden_pairs}
use Rattle.nts_canonical.specs.Replaced.{AreImages}
use Rattle.nts_canonical.proofs.PairLists.{are_hidden-kept, hidden_row-kept, GoesInside, AreImages-row, AreImages-held, alias-kept}
use Rattle.nts_canonical.proofs.Registered.{hidden-of-row}
use Rattle.nts_response.specs.Applied.{StepKeeps}
use Rattle.nts_response.specs.Applicable.{AreRegistrable, AreKnownPremises}

-- values in place of positions go into rows
goes_inside : (xs : List Tree) → GoesInside (filled xs)
goes_inside xs = record { of_empty = refl; of_more = λ s t. refl }

-- hidden types in a store that has grown
pub registrable_later : (a b : Cx) (t u : Table) (chosen : List NodeId) (hs : List (AliasTerm × Ty)) → StepKeeps a b t u → AllIn a.nodes chosen → AreRegistrable a.nodes (content_of a.nodes t.entries) (map (tree_at a.nodes) chosen) hs
    → AreRegistrable b.nodes (content_of b.nodes u.entries) (map (tree_at b.nodes) chosen) hs
registrable_later a b t u chosen hs s w h =
    let g = s.grows in
    let e = g.extends in
    let xs = map-kept a.nodes b.nodes chosen w e in
    let row = hidden_row-kept a.nodes b.nodes hs h.held e in
    record {
      held = are_hidden-kept a.nodes b.nodes hs h.held e;
      positions = rw (xs, row) h.positions;
      knows = rw (xs, row) (Knows-kept (content_of a.nodes t.entries) (content_of b.nodes u.entries) (filled (map (tree_at a.nodes) chosen) (hidden_pairs a.nodes hs)) s.kinds h.knows);
    }

-- once they are filled, they are hidden types of the table
pub registered_ready : (a b : Cx) (c : List Tree) (t u : Table) (chosen : List NodeId) (hs rs : List (AliasTerm × Ty)) → StepKeeps a b t u → AllIn a.nodes chosen → Extends a.nodes c → Extends c b.nodes
    → AreRegistrable a.nodes (content_of a.nodes t.entries) (map (tree_at a.nodes) chosen) hs → AreImages (filled (map (tree_at a.nodes) chosen)) a.nodes c hs rs
    → All (λ h. IsHiddenType b.nodes (content_of b.nodes u.entries) (stored_hidden h)) rs
registered_ready a b c t u chosen hs rs s w up on h m =
    let held = AreImages-held (filled (map (tree_at a.nodes) chosen)) a.nodes c hs rs m in
    let row = hidden_row-kept c b.nodes rs held on ∙ AreImages-row (filled (map (tree_at a.nodes) chosen)) (goes_inside (map (tree_at a.nodes) chosen)) a.nodes c hs rs m in
    hidden-of-row b.nodes (content_of b.nodes u.entries) rs (are_hidden-kept c b.nodes rs held on)
    (subst (Knows (content_of b.nodes u.entries)) (sym row) (Knows-kept (content_of a.nodes t.entries) (content_of b.nodes u.entries) (filled (map (tree_at a.nodes) chosen) (hidden_pairs a.nodes hs)) s.kinds h.knows))

-- .. in the terms of the field
pub images_views : (f : Tree → Tree) (a b c : List Tree) (hs rs : List (AliasTerm × Ty)) → Extends b c → AreImages f a b hs rs → map (hidden_of c) rs ≡ map (hidden_by f) (map (hidden_of a) hs)
images_views f a b c [] [] e m = refl
images_views f a b c [] (r ∷ rs) e m = absurd m
images_views f a b c (h ∷ hs) [] e m = absurd m
images_views f a b c (h ∷ hs) (r ∷ rs) e m =
    let k = m.0 in
    let held = k.held in
    let args = held.args in
    let ty = held.hidden_type in
    cc (alias-kept b c r.0 args.within e ∙ k.alias, e.kept r.1.node ty.within ∙ k.hidden_type, images_views f a b c hs rs e m.1)

-- goals of the table are of a later one
pub premises_later : (c d : Content) (ps : List Premise) → KeepsKinds c d → AreKnownPremises c ps → AreKnownPremises d ps
premises_later c d [] k h = tt
premises_later c d (p ∷ ps) k h = (Knows-kept c d p.environment k h.0, Knows-kept c d p.predicate k h.1, premises_later c d ps k h.2)
