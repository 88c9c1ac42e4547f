-- The steps of applying, one after another.
use Rattle.std.proofs.Common.{◌≡◌, List, refl, sym, subst, ◌∙◌}
use Rattle.nts_model.specs.Terms.Trees.{Tree}
use Rattle.nts_model.specs.Tables.SubUnifying.{JoinsSubRoots}
use Rattle.nts_model.proofs.Tables.SubUnified.{JoinsSubRoots-trans}
use Rattle.nts_model.proofs.Tables.Slots.{KeepsKinds, KeepsKinds-refl, KeepsKinds-trans, Knows-kept}
use Rattle.nts_store.specs.Growth.{tree_at, Extends}
use Rattle.nts_store.proofs.Growing.{Extends-refl, Extends-trans}
use Rattle.nts_terms.specs.declared.cx.Cx.{Cx}
use Rattle.nts_terms.specs.Rest.{Grows}
use Rattle.nts_terms.proofs.Moved.{KeepsRest-refl, KeepsRest-trans}
use Rattle.nts_unify.specs.Reading.{content_of}
use Rattle.nts_unify.specs.Lawful.{content_of-extended}
use Rattle.nts_unify.specs.Changing.{IsLater}
use Rattle.nts_unify.proofs.Keeping.{IsLater-refl}
use Rattle.nts_table.specs.Frames.{ChangesVariables}
use Rattle.nts_table.specs.Tables.{Table, IsTable, RelatingKeeps}
use Rattle.nts_table.specs.TableLaws.{IsTable-extended}
use Rattle.nts_canonical.proofs.PairLists.{holds_kept}
use Rattle.nts_canonical.specs.Building.{IsArgOf}
use Rattle.nts_terms.specs.declared.handles.GenericArg.{GenericArg}
use Rattle.nts_response.specs.Applied.{StepKeeps, KeepsFrame}

pub step_none : (a : Cx) (t : Table) → IsTable a.nodes t → StepKeeps a a t t
step_none a t h = record {
  grows = record { extends = Extends-refl a.nodes; rest = KeepsRest-refl a };
  table = h;
  kinds = KeepsKinds-refl (content_of a.nodes t.entries);
  saved = refl;
  mode = refl;
  universe = refl;
  hidden = refl;
}

-- the store alone grew
pub step_grows : (a b : Cx) (t u : Table) → IsTable a.nodes t → Grows a b → u ≡ t → StepKeeps a b t u
step_grows a b t u h g e =
    let same = content_of-extended g.extends h.now in
    rw e (record {
      grows = g;
      table = IsTable-extended g.extends h;
      kinds = rw same (KeepsKinds-refl (content_of a.nodes t.entries));
      saved = refl;
      mode = refl;
      universe = refl;
      hidden = refl;
    })

pub step_then : {a b c : Cx} {t u v : Table} → StepKeeps a b t u → StepKeeps b c u v → StepKeeps a c t v
step_then {a} {b} {c} {t} {u} {v} x y =
    let p = x.grows in
    let q = y.grows in
    record {
      grows = record { extends = Extends-trans p.extends q.extends; rest = KeepsRest-trans p.rest q.rest };
      table = y.table;
      kinds = KeepsKinds-trans x.kinds y.kinds;
      saved = y.saved ∙ x.saved;
      mode = y.mode ∙ x.mode;
      universe = y.universe ∙ x.universe;
      hidden = y.hidden ∙ x.hidden;
    }

-- what a step keeps is a frame, and one frame goes after another

pub frame_of : {a b : Cx} {t u : Table} → StepKeeps a b t u → KeepsFrame a b t u
frame_of s = record { grows = s.grows; table = s.table; saved = s.saved; mode = s.mode }

pub frame_then : {a b c : Cx} {t u v : Table} → KeepsFrame a b t u → KeepsFrame b c u v → KeepsFrame a c t v
frame_then x y =
    let p = x.grows in
    let q = y.grows in
    record {
      grows = record { extends = Extends-trans p.extends q.extends; rest = KeepsRest-trans p.rest q.rest };
      table = y.table;
      saved = y.saved ∙ x.saved;
      mode = y.mode ∙ x.mode;
    }

-- the store alone grew then
pub frame_grows : {a b c : Cx} {t u : Table} → KeepsFrame a b t u → Grows b c → KeepsFrame a c t u
frame_grows x q =
    let p = x.grows in
    record {
      grows = record { extends = Extends-trans p.extends q.extends; rest = KeepsRest-trans p.rest q.rest };
      table = IsTable-extended q.extends x.table;
      saved = x.saved;
      mode = x.mode;
    }

-- an argument of the table is one later
pub arg_later : {a b : Cx} {t u : Table} {x : GenericArg} → StepKeeps a b t u → IsArgOf a.nodes t.entries x → IsArgOf b.nodes u.entries x
arg_later {a} {b} {t} {u} {x} k h =
    let held = h.holds in
    let g = k.grows in
    let e = g.extends in
    record {
      holds = holds_kept _ a.nodes b.nodes x.node held e;
      known = rw (e.kept x.node held.within) (Knows-kept (content_of a.nodes t.entries) (content_of b.nodes u.entries) (tree_at a.nodes x.node) k.kinds h.known);
    }

-- the nodes grew, and terms of them were made equal
pub nodes_grown : (a : Cx) (ns : List Tree) (t : Table) → IsTable a.nodes t → Extends a.nodes ns → StepKeeps a (record a { nodes = ns }) t t
nodes_grown a ns t h e = step_grows a (record a { nodes = ns }) t t h (record { extends = e; rest = record { declarations = refl; limit = refl; steps = refl; rounds = refl; division = refl; fast_paths = refl } }) refl

pub nodes_related : (a : Cx) (ns ms : List Tree) (t u : Table) → IsTable a.nodes t → Extends a.nodes ns → Extends ns ms → IsTable ms u → ChangesVariables t u → IsLater (content_of ns t.entries) (content_of ms u.entries) → StepKeeps a (record a { nodes = ms }) t u
nodes_related a ns ms t u h e f i c l = record {
  grows = record { extends = Extends-trans e f; rest = record { declarations = refl; limit = refl; steps = refl; rounds = refl; division = refl; fast_paths = refl } };
  table = i;
  kinds = subst (λ z. KeepsKinds z (content_of ms u.entries)) (content_of-extended e h.now) (record { grows = l.grows; kinds = l.kinds });
  saved = c.saved;
  mode = c.mode;
  universe = c.universe;
  hidden = c.hidden;
}

-- the store grew, and then the table alone changed
pub nodes_recorded : (a : Cx) (ns : List Tree) (t u : Table) → IsTable a.nodes t → Extends a.nodes ns → IsTable ns u → ChangesVariables t u → KeepsKinds (content_of ns t.entries) (content_of ns u.entries) → StepKeeps a (record a { nodes = ns }) t u
nodes_recorded a ns t u h e i c k = record {
  grows = record { extends = e; rest = record { declarations = refl; limit = refl; steps = refl; rounds = refl; division = refl; fast_paths = refl } };
  table = i;
  kinds = subst (λ z. KeepsKinds z (content_of ns u.entries)) (content_of-extended e h.now) k;
  saved = c.saved;
  mode = c.mode;
  universe = c.universe;
  hidden = c.hidden;
}

-- classes of sub-unification joined in two steps
pub joins_next : {a b c : Cx} {t u v : Table} → StepKeeps a b t u → JoinsSubRoots (content_of a.nodes t.entries) (content_of b.nodes u.entries) → StepKeeps b c u v → JoinsSubRoots (content_of b.nodes u.entries) (content_of c.nodes v.entries)
    → JoinsSubRoots (content_of a.nodes t.entries) (content_of c.nodes v.entries)
joins_next {a} {b} {c} {t} {u} {v} x h y k = (let kinds = y.kinds in JoinsSubRoots-trans (content_of a.nodes t.entries) (content_of b.nodes u.entries) (content_of c.nodes v.entries) kinds.kinds h k)

-- the store alone grew
pub later_grown : (a : List Tree) (b : List Tree) (t : Table) → IsTable a t → Extends a b → IsLater (content_of a t.entries) (content_of b t.entries)
later_grown a b t h e = subst (IsLater (content_of a t.entries)) (sym (content_of-extended e h.now)) (IsLater-refl (content_of a t.entries))
