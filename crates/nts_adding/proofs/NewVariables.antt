-- New variables of a table, as a list of arguments.
use Rattle.std.proofs.Common.{◌≡◌, ℕ, suc, List, [], ◌∷◌, length, Some, map, refl, sym, ap, ◌∙◌, subst, arith, length-append}
use Rattle.nts_model.specs.declared.labels.Sort.{Sort}
use Rattle.nts_model.specs.declared.labels.Sort.TheVariants as sort
use Rattle.nts_model.specs.declared.labels.AliasHead.{AliasHead}
use Rattle.nts_model.specs.declared.labels.AliasHead.TheVariants as alias_of
use Rattle.nts_model.specs.Terms.Trees.{Tree, empty, more, node, children, kind_of, of_sort, variable_tree}
use Rattle.nts_model.specs.Derivations.Related.{alias_label}
use Rattle.nts_model.specs.Tables.Contents.{with_slot, kind_at}
use Rattle.nts_model.specs.Tables.Resolving.{Knows, IsSound}
use Rattle.nts_model.specs.Tables.Holding.{Continues}
use Rattle.nts_model.proofs.Tables.Held.{Continues-refl, Continues-trans, Continues-with_slot}
use Rattle.nts_model.proofs.Tables.Slots.{KeepsKinds, KeepsKinds-with_slot, KeepsKinds-refl, KeepsKinds-trans, field-with_slot_new}
use Rattle.nts_model.proofs.Tables.Sound.{IsSound-with_slot}
use Rattle.nts_store.specs.declared.nodes.NodeId.{NodeId}
use Rattle.nts_store.specs.Growth.{tree_at, Extends}
use Rattle.nts_store.proofs.Growing.{Extends-trans}
use Rattle.nts_terms.specs.declared.cx.Cx.{Cx}
use Rattle.nts_terms.specs.declared.handles.AliasDefId.{AliasDefId}
use Rattle.nts_terms.specs.declared.handles.DefId.TheVariants as def
use Rattle.nts_terms.specs.Rest.{Grows}
use Rattle.nts_terms.specs.Signatures.{Declared, HaveSorts, AreArgumentsOfSorts, AreDeclared}
use Rattle.nts_unify.specs.declared.contents.Variable.{Variable}
use Rattle.nts_unify.specs.Entries.{Entries, added}
use Rattle.nts_unify.specs.Reading.{content_of, slot_of, recorded_of, IsLawful}
use Rattle.nts_unify.specs.Lawful.{content_of-extended, content_of-added, IsLawful-added}
use Rattle.nts_unify.specs.Changing.{HasClosedSides}
use Rattle.nts_unify.proofs.Changes.{length-slots}
use Rattle.nts_unify.proofs.Keeping.{closed_same}
use Rattle.nts_table.specs.Tables.{Table, IsTable}
use Rattle.nts_table.specs.Making.{new_variable}
use Rattle.nts_table.specs.Fresh.{variable_kind, with_fresh, fresh_row}
use Rattle.nts_table.specs.Frames.{ChangesEntries}
use Rattle.nts_meaning.specs.Evaluation.{Goes, Runs}
use Rattle.nts_meaning.proofs.Evaluating.{Runs-trans, Runs-extends}
use Rattle.nts_adding.specs.Rigid.{TakesSorts, new_arguments, new_alias}

kinds_added : (ts : List Tree) (e : Entries) (v : Variable) → KeepsKinds (content_of ts e) (content_of ts (added e v))
kinds_added ts e v = rw (content_of-added ts e v) (KeepsKinds-with_slot (content_of ts e) (slot_of ts v))

pub kinds_new : (ts : List Tree) (e : Entries) (ss : List Sort) → KeepsKinds (content_of ts e) (content_of ts (with_fresh e ss))
kinds_new ts e [] = KeepsKinds-refl (content_of ts e)
kinds_new ts e (s ∷ ss) =
    let v = new_variable e (variable_kind s) in
    KeepsKinds-trans (kinds_added ts e v) (kinds_new ts (added e v) ss)

kind_added : (ts : List Tree) (e : Entries) (v : Variable) → kind_at (content_of ts (added e v)) (length e.variables) ≡ Some v.kind
kind_added ts e v =
    let next = with_slot (content_of ts e) (slot_of ts v) in
    ap (λ d. kind_at d (length e.variables)) (content_of-added ts e v) ∙ ap (kind_at next) (sym (length-slots ts e.variables)) ∙ field-with_slot_new (λ x. x.kind) (content_of ts e) (slot_of ts v)

-- the table knows its new variables
knows_row : (ts : List Tree) (e : Entries) (ss : List Sort) → Knows (content_of ts (with_fresh e ss)) (fresh_row (length e.variables) ss)
knows_row ts e [] = tt
knows_row ts e (s ∷ ss) =
    let v = new_variable e (variable_kind s) in
    let next = added e v in
    let longer : length next.variables ≡ suc (length e.variables) = omega (arith, length-append e.variables (v ∷ [])) in
    let is : kind_at (content_of ts (with_fresh next ss)) (length e.variables) ≡ Some (variable_kind s) = (kinds_new ts next ss).kinds (length e.variables) (variable_kind s) (kind_added ts e v) in
    (((is, tt, refl), tt, tt), rw longer at (knows_row ts next ss))

pub knows_new : (ts : List Tree) (e : Entries) (ss : List Sort) → Knows (content_of ts (with_fresh e ss)) (new_arguments (length e.variables) ss)
knows_new ts e ss = ((tt, tt, refl), knows_row ts e ss, tt)

pub knows_alias : (ts : List Tree) (e : Entries) (h : AliasHead) (ss : List Sort) → Knows (content_of ts (with_fresh e ss)) (new_alias h (length e.variables) ss)
knows_alias ts e (alias_of.Ty i) ss = ((tt, tt, refl), (knows_new ts e ss, tt), tt)
knows_alias ts e (alias_of.Const i) ss = ((tt, tt, refl), (knows_new ts e ss, tt), tt)

-- a table with new variables is one of the store
pub lawful_new : (ts : List Tree) (e : Entries) (ss : List Sort) → IsLawful ts e → IsLawful ts (with_fresh e ss)
lawful_new ts e [] h = h
lawful_new ts e (s ∷ ss) h =
    let v = new_variable e (variable_kind s) in
    lawful_new ts (added e v) ss (IsLawful-added ts e v h (record { state = refl; universe = omega arith; sub_link = λ m q. cc }))

-- they are of their sorts
kind_of-new : (s : Sort) (n : ℕ) → kind_of (variable_tree (variable_kind s) n) ≡ Some (of_sort s)
kind_of-new sort.Ty n = refl
kind_of-new sort.Region n = refl
kind_of-new sort.Const n = refl

pub sorts_new : (n : ℕ) (ss : List Sort) → HaveSorts ss (fresh_row n ss)
sorts_new n [] = tt
sorts_new n (s ∷ ss) = (kind_of-new s n, sorts_new (suc n) ss)

pub declared_new : (d e : Declared) (a : AliasDefId) (n : ℕ) (ss : List Sort) (t : Tree) → e ≡ d → TakesSorts d a ss → t ≡ new_arguments n ss → AreDeclared e (def.Alias a) t
declared_new d e a n ss t same takes is =
    subst (λ x. AreDeclared x (def.Alias a) t) (sym same) (subst (λ o. AreArgumentsOfSorts o t) (sym takes) (subst (λ z. HaveSorts ss (children z)) (sym is) (sorts_new n ss)))

-- what stands in a store that has the alias over them
pub content-new : {a b d : List Tree} (e f : Entries) (ss : List Sort) → IsLawful a e → Extends a b → Extends b d → f ≡ with_fresh e ss → content_of d f ≡ content_of a (with_fresh e ss)
content-new {a = a} {d = d} e f ss h g n is = ap (content_of d) is ∙ content_of-extended (Extends-trans g n) (lawful_new a e ss h)

pub alias-new : (ts us : List Tree) (h : AliasHead) (n : ℕ) (ss : List Sort) (x y : NodeId) → tree_at us y ≡ node (alias_label h) (more (tree_at ts x) empty) → tree_at ts x ≡ new_arguments n ss → tree_at us y ≡ new_alias h n ss
alias-new ts us h n ss x y e is = e ∙ ap (λ t. node (alias_label h) (more t empty)) is

-- what else the table has stays
continues_new : (ts : List Tree) (e : Entries) (ss : List Sort) → IsSound (content_of ts e) → Continues (content_of ts e) (content_of ts (with_fresh e ss))
continues_new ts e [] h = Continues-refl (content_of ts e) h
continues_new ts e (s ∷ ss) h =
    let v = new_variable e (variable_kind s) in
    let next = added e v in
    let same = content_of-added ts e v in
    let sound : IsSound (content_of ts next) = rw same (IsSound-with_slot (content_of ts e) (slot_of ts v) h refl) in
    let one : Continues (content_of ts e) (content_of ts next) = rw same (Continues-with_slot (content_of ts e) (slot_of ts v) refl h) in
    Continues-trans (content_of ts e) (content_of ts next) (content_of ts (with_fresh next ss)) h one (continues_new ts next ss sound)

hidden-new : (e : Entries) (ss : List Sort) → (with_fresh e ss).hidden ≡ e.hidden
hidden-new e [] = refl
hidden-new e (s ∷ ss) = hidden-new (added e (new_variable e (variable_kind s))) ss

constraints-new : (e : Entries) (ss : List Sort) → (with_fresh e ss).constraints ≡ e.constraints
constraints-new e [] = refl
constraints-new e (s ∷ ss) = constraints-new (added e (new_variable e (variable_kind s))) ss

closed_new : (ts : List Tree) (e : Entries) (ss : List Sort) → HasClosedSides (content_of ts e) → HasClosedSides (content_of ts (with_fresh e ss))
closed_new ts e ss h = closed_same (ap (map (recorded_of ts)) (constraints-new e ss)) h

-- the table went on
pub goes_new : {a b : List Tree} {t u : Table} (ss : List Sort) → IsTable a t → Extends a b → IsTable b u → u.entries ≡ with_fresh t.entries ss → u.saved ≡ t.saved → u.mode ≡ t.mode → Goes a b t u
goes_new {a} {b} {t} {u} ss h e k q s m =
    let same = content_of-extended e h.now in
    record {
      sound = h.now.sound;
      extends = e;
      table = k;
      continues = rw (q, ← same) (continues_new b t.entries ss (rw same h.now.sound));
      saved = s;
      mode = m;
      hidden = ap (λ (z : Entries). z.hidden) q ∙ hidden-new t.entries ss;
      sides = rw (q, ← same) (closed_new b t.entries ss);
    }

-- .. and the store that has the alias over the variables too
pub runs_new : {a b d : Cx} {t u : Table} (ss : List Sort) → IsTable a.nodes t → Grows a b → IsTable b.nodes u → u.entries ≡ with_fresh t.entries ss → ChangesEntries t u → Grows b d → Runs a d t u
runs_new ss h g k e m n = Runs-trans (record { goes = goes_new ss h g.extends k e m.saved m.mode; rest = g.rest }) (Runs-extends k n.extends n.rest)
