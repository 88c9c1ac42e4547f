-- Goals that may be asked, as the store grows.
use Rattle.std.proofs.Common.{◌≡◌, ◌∙◌, Bool, true, false, List, refl, sym}
use Rattle.std.specs.Prelude.{not}
use Rattle.nts_model.specs.Terms.Trees.{Tree, Place, any_label, is_alias}
use Rattle.nts_model.specs.Tables.Resolving.{Knows, resolved}
use Rattle.nts_store.specs.declared.nodes.NodeId.{NodeId}
use Rattle.nts_store.specs.Growth.{tree_at, Extends}
use Rattle.nts_terms.proofs.Moved.{Holds-extended}
use Rattle.nts_terms.specs.Handles.{Holds}
use Rattle.nts_unify.specs.Reading.{content_of}
use Rattle.nts_unify.specs.Lawful.{content_of-extended}
use Rattle.nts_table.specs.Tables.{Table, IsTable, IsPlainSide}
use Rattle.nts_store.proofs.Growing.{Extends-trans, Extends-refl}
use Rattle.nts_table.specs.TableLaws.{IsTable-extended}
use Rattle.nts_delegate.specs.ClausesKept.{AreClausesReady-kept}
use Rattle.nts_asking.proofs.Asking.{IsAdmitted-extended}
use Rattle.nts_meaning.proofs.Evaluating.{IsPosed-admitted}

-- a side stays one
pub plain_kept : {a b : List Tree} {t : Table} {p : Place} {x : NodeId} → Extends a b → IsTable a t → IsPlainSide p a t x → IsPlainSide p b t x
plain_kept {a} {b} {t} {p} {x} e w s =
    let h = s.holds in
    let same = content_of-extended e w.now in
    let kept = e.kept x h.within in
    record { holds = Holds-extended p x e h; known = rw (same, kept) s.known; plain = rw (same, kept) s.plain }

not_true : (y : Bool) → not y ≡ true → y ≡ false
not_true true e = cc
not_true false e = refl

pub plain_now : {a b : List Tree} {t : Table} {p : Place} {x : NodeId} (y : Bool) → Extends a b → IsTable a t → Holds p a x → Knows (content_of a t.entries) (tree_at a x) → y ≡ any_label is_alias (resolved (content_of a t.entries) (tree_at a x)) → not y ≡ true → IsPlainSide p b t x
plain_now y e w h k is n = plain_kept e w (record { holds = h; known = k; plain = sym is ∙ not_true y n })

pub ruleset asked = (plain_kept, Extends-trans, Extends-refl, AreClausesReady-kept, IsTable-extended, IsAdmitted-extended, IsPosed-admitted)
