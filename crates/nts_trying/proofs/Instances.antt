-- Terms of a candidate with values in place of its fresh variables.
use Rattle.nts_store.specs.Growth.{AllIn, Extends, IsIn, tree_at}
use Rattle.nts_meaning.proofs.Evaluating.{CanFill}
use Rattle.nts_table.specs.Tables.{IsTable, IsTermIn, Table}
use Rattle.nts_trying.specs.Instances.{HoldsValues, IsTermInstance}
use Rattle.nts_store.specs.Kept.{AllIn-kept, map-kept}
use Rattle.nts_unify.specs.Lawful.{content_of-extended}
use Rattle.nts_model.specs.Terms.Trees.{Tree, kind_of}
use Rattle.nts_model.specs.Terms.Substitutions.{filled}
use Rattle.nts_meaning.specs.Evaluation.{AreValues}
use Rattle.nts_store.specs.Formed.{AreFormed}
use Rattle.nts_store.proofs.Growing.{IsIn-extended}
use Rattle.std.proofs.Common.{List, map, refl, ap, ◌∙◌, ◌≡◌}
use Rattle.nts_model.specs.declared.labels.Sort.{Sort}
use Rattle.nts_store.specs.declared.nodes.NodeId.{NodeId}

-- a filled tree, in a store that has grown
filled-kept : {a b : List Tree} (vs : List NodeId) (x : NodeId) → AllIn a vs → IsIn a x → Extends a b → filled (map (tree_at b) vs) (tree_at b x) ≡ filled (map (tree_at a) vs) (tree_at a x)
filled-kept {a} {b} vs x w i e = rw (map-kept a b vs w e, e.kept x i) refl

-- values that stand for variables are terms of their sorts
pub held_values : {a : List Tree} {t : Table} {fresh : List Sort} {vs : List NodeId} → AreValues a t fresh vs → HoldsValues a fresh vs
held_values h = record { within = h.within; sorts = h.sorts }

pub HoldsValues-extended : {a b : List Tree} {fresh : List Sort} {vs : List NodeId} → Extends a b → HoldsValues a fresh vs → HoldsValues b fresh vs
HoldsValues-extended {a} {b} {fresh} {vs} e h =
    record { within = AllIn-kept a b vs h.within e; sorts = rw (map-kept a b vs h.within e) h.sorts }

-- an instance of a term is a term of the table, and it is one in a store that grows later or has grown before
pub instance_term : {a b : List Tree} {t : Table} {vs : List NodeId} {x y : NodeId} → IsTable a t → CanFill a t vs x → Extends a b → IsTermInstance a b vs x y → IsTermIn b t y
instance_term {a} {b} {t} {vs} {x} {y} h f e q =
    let same = content_of-extended e h.now in
    record { within = q.within; knows = rw (q.tree, same) f.knows }

pub IsInstance-later : {a b d : List Tree} {vs : List NodeId} {x y : NodeId} → Extends b d → AreFormed d → IsTermInstance a b vs x y → IsTermInstance a d vs x y
IsInstance-later {a} {b} {d} {vs} {x} {y} e f q =
    let kept = e.kept y q.within in
    record { formed = f; within = IsIn-extended e y q.within; kind = ap kind_of kept ∙ q.kind; tree = kept ∙ q.tree }

pub IsInstance-earlier : {a b d : List Tree} {vs : List NodeId} {x y : NodeId} → AllIn a vs → IsIn a x → Extends a b → IsTermInstance b d vs x y → IsTermInstance a d vs x y
IsInstance-earlier {a} {b} {d} {vs} {x} {y} w i e q =
    record { formed = q.formed; within = q.within; kind = q.kind ∙ ap kind_of (e.kept x i); tree = q.tree ∙ filled-kept vs x w i e }
