-- What evaluations keep, composed.
use Rattle.std.proofs.Math.Seq.{take-append_seam}
use Rattle.std.proofs.Common.{◌≡◌, ◌-◌, inl, inr, ℕ, zero, suc, ◌<◌, List, [], ◌∷◌, ◌++◌, length, map, get_or, Option, Some, None, refl, sym, ap, ◌∙◌, arith, length-append}
use Rattle.std.specs.Prelude.{Bool, slice_get, Result, Ok, Err, IfOk, OnOk, OnErr}
use Rattle.nts_model.specs.Tables.Equations.{AreRelated}
use Rattle.nts_model.specs.declared.labels.Sort.{Sort}
use Rattle.nts_model.specs.declared.labels.Relation.TheVariants as relation
use Rattle.nts_model.specs.declared.labels.Label.{Label}
use Rattle.nts_model.specs.Terms.Trees.{Tree, empty, more, node, kind_of, kind_of_label, of_sort, NodeKind, environment, bound_predicate, IsClosed, variable_tree}
use Rattle.nts_model.specs.Tables.Contents.{Content, with_slot, kind_at}
use Rattle.nts_model.specs.Tables.Resolving.{Knows, deeply_resolved}
use Rattle.nts_store.specs.declared.nodes.NodeId.{NodeId}
use Rattle.nts_terms.specs.declared.handles.Goal.{Goal}
use Rattle.nts_store.specs.Growth.{tree_at, trees_at, IsIn, AllIn, Extends}
use Rattle.nts_terms.specs.Handles.{Holds}
use Rattle.nts_store.specs.Kept.{AllIn-kept, map-kept}
use Rattle.nts_store.specs.Filled.{HasValue, HasValues}
use Rattle.nts_model.specs.Derivations.Rules.{Mode}
use Rattle.nts_model.specs.Lists.{Among}
use Rattle.nts_model.specs.Tables.Passing.{TreePasses, PassesQueries}
use Rattle.nts_model.specs.Terms.Substitutions.{filled, position_of}
use Rattle.nts_model.specs.Derivations.Handlers.{Handler, IsValueOfSort, AreValuesOf, IsOfSort, NamesAt, NamesFresh}
use Rattle.nts_model.specs.Terms.Regions.{of_variable}
use Rattle.nts_store.proofs.Growing.{Extends-trans, Extends-refl, IsIn-extended}
use Rattle.nts_unify.specs.Entries.{front, Entries, added, constrained}
use Rattle.nts_table.specs.Tables.{Table}
use Rattle.nts_unify.specs.declared.contents.Constraint.{Constraint}
use Rattle.nts_model.proofs.Tables.Kept.{kind_of-deeply_resolved}
use Rattle.nts_model.proofs.Tables.Open.{Knows-deeply_resolved}
use Rattle.nts_model.specs.Tables.Resolving.{IsSound}
use Rattle.nts_model.specs.Tables.Holding.{Continues}
use Rattle.nts_model.proofs.Tables.Held.{Continues-refl, Continues-trans, Continues-with_slot, Continues-with_constraint}
use Rattle.nts_model.proofs.Tables.Sound.{IsSound-with_slot}
use Rattle.nts_model.proofs.Tables.Slots.{KeepsKinds, KeepsKinds-with_slot, field-with_slot_new, KeepsKinds-refl, KeepsKinds-trans, Knows-kept}
use Rattle.nts_unify.proofs.SavedLemmas.{push_inj}
use Rattle.nts_table.proofs.GoingBack.{back_to}
use Rattle.nts_table.proofs.Filling.{knows-filled}
use Rattle.nts_candidates.specs.declared.data.CandidateData.{CandidateData}
use Rattle.nts_candidates.specs.declared.data.RegionConstraint.{RegionConstraint}
use Rattle.nts_candidates.specs.declared.data.CandidateGoal.{CandidateGoal}
use Rattle.nts_unify.specs.Recording.{Records}
use Rattle.nts_model.specs.Tables.Recording.{left_kind}
use Rattle.nts_unify.specs.Reading.{content_of, slot_of, recorded_of, IsConstraint}
use Rattle.nts_table.specs.Tables.{IsTable}
use Rattle.nts_unify.specs.Lawful.{content_of-extended, content_of-constrained, content_of-added}
use Rattle.nts_table.specs.TableLaws.{IsTable-extended, IsTable-opened, IsTable-constrained}
use Rattle.nts_unify.specs.Proper.{outlives_sides}
use Rattle.nts_unify.specs.Changing.{HasClosedSides, IsLater}
use Rattle.nts_unify.proofs.Keeping.{closed_later, closed_same, closed_constrained}
use Rattle.nts_table.specs.Fresh.{variable_kind, with_fresh, fresh_row}
use Rattle.nts_table.specs.Making.{new_variable}
use Rattle.nts_unify.specs.declared.contents.Variable.{Variable}
use Rattle.nts_terms.specs.declared.cx.Cx.{Cx}
use Rattle.nts_terms.specs.Rest.{KeepsRest, Grows}
use Rattle.nts_terms.specs.Signatures.{variances_in}
use Rattle.nts_candidates.specs.declared.data.Equation.{Equation}
use Rattle.nts_model.specs.declared.labels.Sort.TheVariants as sort
use Rattle.nts_delegate.specs.Candidates.{IsEquation, AreEquations, IsRegionConstraint, AreRegionConstraints, IsNestedIn, AreNested, IsCandidate, AreCandidates, IsOverIn}
use Rattle.nts_delegate.proofs.Over.{over_knows}
use Rattle.nts_terms.specs.Handles.{HoldsGoal}
use Rattle.nts_store.specs.Formed.{AreFormed}
use Rattle.nts_terms.proofs.Moved.{KeepsRest-refl, KeepsRest-trans}
use Rattle.nts_meaning.specs.Meant.{Since, offers_of}
use Rattle.nts_meaning.specs.Evaluation.{Goes, Runs, IsAdmitted, IsPosed, AllKnown, AreOfSorts, AreValues}
use Rattle.nts_table.specs.Tables.{IsTermIn}
use Rattle.nts_unify.proofs.Changes.{length-slots}

pub Goes-trans : {a b c : List Tree} {t u v : Table} → Goes a b t u → Goes b c u v → Goes a c t v
Goes-trans {a} {b} {c} {t} {u} {v} g h =
    record {
      sound = g.sound;
      extends = Extends-trans g.extends h.extends;
      table = h.table;
      continues = Continues-trans (content_of a t.entries) (content_of b u.entries) (content_of c v.entries) g.sound g.continues h.continues;
      saved = h.saved ∙ g.saved;
      mode = h.mode ∙ g.mode;
      hidden = h.hidden ∙ g.hidden;
      sides = λ k. h.sides (g.sides k);
    }

-- a store that grows beside the table
pub Goes-extends : {a b : List Tree} {t : Table} → IsTable a t → Extends a b → Goes a b t t
Goes-extends {a} {b} {t} h e =
    let same = content_of-extended e h.now in
    record {
      sound = h.now.sound;
      extends = e;
      table = IsTable-extended e h;
      continues = rw same (Continues-refl (content_of a t.entries) h.now.sound);
      saved = refl;
      mode = refl;
      hidden = refl;
      sides = λ k. rw same k;
    }

-- what the table knew it knows
pub Knows-goes : {a b : List Tree} {t u : Table} (x : Tree) → Goes a b t u → Knows (content_of a t.entries) x → Knows (content_of b u.entries) x
Knows-goes {a} {b} {t} {u} x g h =
    let k = g.continues in
    Knows-kept (content_of a t.entries) (content_of b u.entries) x (record { grows = k.grows; kinds = k.kinds }) h

Holds-extended : {a b : List Tree} {p : _} {n : NodeId} → Extends a b → Holds p a n → Holds p b n
Holds-extended {a} {b} {p} {n} e h = record { within = IsIn-extended e n h.within; fits = rw (e.kept n h.within) h.fits }

pub HoldsGoal-extended : {a b : List Tree} {g : Goal} → Extends a b → HoldsGoal a g → HoldsGoal b g
HoldsGoal-extended e h = record { env = Holds-extended e h.env; predicate = Holds-extended e h.predicate }

pub IsTermIn-later : {a b : List Tree} {t u : Table} {x : NodeId} → Goes a b t u → IsTermIn a t x → IsTermIn b u x
IsTermIn-later {a} {b} {t} {u} {x} g h =
    record { within = IsIn-extended g.extends x h.within; knows = rw (g.extends.kept x h.within) (Knows-goes (tree_at a x) g h.knows) }

pub IsPosed-later : {a b : List Tree} {t u : Table} {g : Goal} → Goes a b t u → IsPosed a t g → IsPosed b u g
IsPosed-later {a} {b} {t} {u} {g} s p =
    record {
      table = s.table;
      holds = HoldsGoal-extended s.extends p.holds;
      knows = record {
        env = rw (s.extends.kept g.param_env.node p.holds.env.within) (Knows-goes (tree_at a g.param_env.node) s p.knows.env);
        predicate = rw (s.extends.kept g.predicate.node p.holds.predicate.within) (Knows-goes (tree_at a g.predicate.node) s p.knows.predicate);
      };
    }

AllKnown-later : (c d : Content) (ts : List Tree) → ((x : Tree) → Knows c x → Knows d x) → AllKnown c ts → AllKnown d ts
AllKnown-later c d [] h k = tt
AllKnown-later c d (t ∷ ts) h k = (h t k.0, AllKnown-later c d ts h k.1)

pub AreValues-later : {a b : List Tree} {t u : Table} {fresh : List Sort} {vs : List NodeId} → Goes a b t u → AreValues a t fresh vs → AreValues b u fresh vs
AreValues-later {a} {b} {t} {u} {fresh} {vs} s h =
    let same = map-kept a b vs h.within s.extends in
    record {
      within = AllIn-kept a b vs h.within s.extends;
      sorts = rw same h.sorts;
      values = rw same h.values;
      known = rw same (AllKnown-later (content_of a t.entries) (content_of b u.entries) (map (tree_at a) vs) (λ x k. Knows-goes x s k) h.known);
      labels = λ P q v i. h.labels P q v (rw same at i);
    }

pub IsOverIn-extended : {a b : List Tree} {fresh : List Sort} {g : Goal} {x : NodeId} → Extends a b → HoldsGoal a g → IsOverIn a fresh g x → IsOverIn b fresh g x
IsOverIn-extended {a} {b} {fresh} {g} {x} e p h =
    let same = e.kept x h.within in
    let env = e.kept g.param_env.node p.env.within in
    let predicate = e.kept g.predicate.node p.predicate.within in
    record {
      within = IsIn-extended e x h.within;
      names = rw same h.names;
      leaves = λ l i. rw (env, predicate) (h.leaves l (rw same at i));
      closed = rw same h.closed;
      well_bound = rw same h.well_bound;
    }

-- values of the sorts of the fresh variables serve every position
value-there : (fresh : List Sort) (ts : List Tree) (i : ℕ) (l : Label) → AreOfSorts fresh ts → IsOfSort (slice_get fresh i) (kind_of_label l) → (i < length ts) × (kind_of (get_or ts i empty) ≡ Some (kind_of_label l))
value-there [] ts i l h k = absurd k
value-there (s ∷ ss) [] i l h k = absurd h
value-there (s ∷ ss) (t ∷ ts) zero l h k = (omega arith, h.0 ∙ ap Some (sym k))
value-there (s ∷ ss) (t ∷ ts) (suc i) l h k = let w = value-there ss ts i l h.1 k in (omega (arith, w.0), w.1)

has-value : (fresh : List Sort) (ts : List Tree) (o : Option ℕ) (l : Label) → AreOfSorts fresh ts → NamesAt fresh o l → HasValue o ts l
has-value fresh ts None l h k = tt
has-value fresh ts (Some i) l h k = value-there fresh ts i l h k

pub has-values : (fresh : List Sort) (ts : List Tree) (t : Tree) → AreOfSorts fresh ts → NamesFresh fresh t → HasValues ts t
has-values fresh ts empty h k = tt
has-values fresh ts (more a b) h k = (has-values fresh ts a h k.0, has-values fresh ts b h k.1)
has-values fresh ts (node l c) h k = (has-value fresh ts (position_of l) l h k.0, has-values fresh ts c h k.1)

known-there : (c : Content) (ts : List Tree) (i : ℕ) → AllKnown c ts → Knows c (get_or ts i empty)
known-there c [] i h = tt
known-there c (t ∷ ts) zero h = h.0
known-there c (t ∷ ts) (suc i) h = known-there c ts i h.1

closed-there : (fresh : List Sort) (ts : List Tree) (i : ℕ) → AreValuesOf fresh ts → IsClosed (get_or ts i empty)
closed-there [] [] i h = tt
closed-there [] (t ∷ ts) i h = absurd h
closed-there (s ∷ ss) [] i h = absurd h
closed-there (s ∷ ss) (t ∷ ts) zero h = (let v = h.0 in v.closed)
closed-there (s ∷ ss) (t ∷ ts) (suc i) h = closed-there ss ts i h.1

-- what filling asks for, and what it gives
pub record CanFill (a : List Tree) (t : Table) (vs : List NodeId) (x : NodeId) : Type 0 where
  pub within : IsIn a x
  pub values : AllIn a vs
  pub positions : HasValues (map (tree_at a) vs) (tree_at a x)
  pub knows : Knows (content_of a t.entries) (filled (map (tree_at a) vs) (tree_at a x))

pub can_fill : {a : List Tree} {t : Table} {g : Goal} {fresh : List Sort} {vs : List NodeId} {x : NodeId} → IsPosed a t g → IsOverIn a fresh g x → AreValues a t fresh vs → CanFill a t vs x
can_fill {a} {t} {g} {fresh} {vs} {x} p o v =
    record {
      within = o.within;
      values = v.within;
      positions = has-values fresh (map (tree_at a) vs) (tree_at a x) v.sorts o.names;
      knows = knows-filled (content_of a t.entries) (map (tree_at a) vs) (tree_at a x) (λ i. known-there (content_of a t.entries) (map (tree_at a) vs) i v.known) (λ i. closed-there fresh (map (tree_at a) vs) i v.values) (over_knows o (content_of a t.entries) p.knows) o.well_bound;
    }

-- a goal of two terms of the right kinds
pub goal_posed : {b : List Tree} {t : Table} {e p : NodeId} → IsTable b t → IsTermIn b t e → kind_of (tree_at b e) ≡ Some environment → IsTermIn b t p → kind_of (tree_at b p) ≡ Some bound_predicate → IsPosed b t (record { param_env = record { node = e }; predicate = record { node = p } })
goal_posed {b} {t} {e} {p} h k i l j =
    record {
      table = h;
      holds = record {
        env = record { within = k.within; fits = i };
        predicate = record { within = l.within; fits = j };
      };
      knows = record { env = k.knows; predicate = l.knows };
    }

-- the parts of a goal that is posed
pub env_term : {a : List Tree} {t : Table} {g : Goal} → IsPosed a t g → IsTermIn a t g.param_env.node
env_term p = record { within = p.holds.env.within; knows = p.knows.env }

pub predicate_term : {a : List Tree} {t : Table} {g : Goal} → IsPosed a t g → IsTermIn a t g.predicate.node
predicate_term p = record { within = p.holds.predicate.within; knows = p.knows.predicate }

-- the kind of a term stays
pub kind-extended : {a b : List Tree} {x : NodeId} {k : Option NodeKind} → Extends a b → IsIn a x → kind_of (tree_at a x) ≡ k → kind_of (tree_at b x) ≡ k
kind-extended {a} {b} {x} {k} e w h = ap kind_of (e.kept x w) ∙ h

-- a goal whose parts were replaced one after the other, the store growing
pub goal_made : {a b d : List Tree} {t : Table} {g : Goal} {e p : NodeId} → IsTable a t → HoldsGoal a g → Extends a b → Extends b d → IsTermIn b t e → kind_of (tree_at b e) ≡ kind_of (tree_at a g.param_env.node) → IsTermIn d t p → kind_of (tree_at d p) ≡ kind_of (tree_at b g.predicate.node) → IsPosed d t (record { param_env = record { node = e }; predicate = record { node = p } })
goal_made {a} {b} {d} {t} {g} {e} {p} h q ab bd k i l j =
    let later = Goes-extends (IsTable-extended ab h) bd in
    goal_posed later.table (IsTermIn-later later k) (kind-extended bd k.within (i ∙ q.env.fits)) l (j ∙ kind-extended ab q.predicate.within q.predicate.fits)

-- the equation at a place
pub equation_at : (ts : List Tree) (fresh : List Sort) (g : Goal) (qs : List Equation) (k : ℕ) (d : Equation) → AreEquations ts fresh g qs → k < length qs → IsEquation ts fresh g (get_or qs k d)
equation_at ts fresh g [] k d h l = absurd (omega arith)
equation_at ts fresh g (q ∷ qs) zero d h l = h.0
equation_at ts fresh g (q ∷ qs) (suc k) d h l = equation_at ts fresh g qs k d h.1 (omega arith)

-- new variables are values of their sorts
kind_of-fresh : (s : Sort) (n : ℕ) → kind_of (variable_tree (variable_kind s) n) ≡ Some (of_sort s)
kind_of-fresh sort.Ty n = refl
kind_of-fresh sort.Region n = refl
kind_of-fresh sort.Const n = refl

sorts-fresh : (ts : List Tree) (vs : List NodeId) (n : ℕ) (ss : List Sort) → trees_at ts vs ≡ fresh_row n ss → AreOfSorts ss (map (tree_at ts) vs)
sorts-fresh ts [] n [] e = tt
sorts-fresh ts [] n (s ∷ ss) e = cc
sorts-fresh ts (v ∷ vs) n [] e = cc
sorts-fresh ts (v ∷ vs) n (s ∷ ss) e =
    let first : tree_at ts v ≡ variable_tree (variable_kind s) n = cc in
    let rest : trees_at ts vs ≡ fresh_row (suc n) ss = cc in
    (ap kind_of first ∙ kind_of-fresh s n, sorts-fresh ts vs (suc n) ss rest)

value-fresh : (s : Sort) (n : ℕ) → IsValueOfSort s (variable_tree (variable_kind s) n)
value-fresh sort.Ty n = record { fits = refl; formed = (tt, tt); closed = (tt, tt) }
value-fresh sort.Region n = record { fits = (of_variable n, refl); formed = (tt, tt); closed = (tt, tt) }
value-fresh sort.Const n = record { fits = refl; formed = (tt, tt); closed = (tt, tt) }

values-fresh : (ts : List Tree) (vs : List NodeId) (n : ℕ) (ss : List Sort) → trees_at ts vs ≡ fresh_row n ss → AreValuesOf ss (map (tree_at ts) vs)
values-fresh ts [] n [] e = tt
values-fresh ts [] n (s ∷ ss) e = cc
values-fresh ts (v ∷ vs) n [] e = cc
values-fresh ts (v ∷ vs) n (s ∷ ss) e =
    let first : tree_at ts v ≡ variable_tree (variable_kind s) n = cc in
    let rest : trees_at ts vs ≡ fresh_row (suc n) ss = cc in
    (rw first (value-fresh s n), values-fresh ts vs (suc n) ss rest)

labels-fresh : (ts : List Tree) (vs : List NodeId) (n : ℕ) (ss : List Sort) → trees_at ts vs ≡ fresh_row n ss → (P : Label → Bool) → PassesQueries P → (v : Tree) → Among (map (tree_at ts) vs) v → TreePasses P v
labels-fresh ts [] n ss e P q v i = absurd i
labels-fresh ts (w ∷ vs) n [] e P q v i = cc
labels-fresh ts (w ∷ vs) n (s ∷ ss) e P q v (inl j) =
    let first : tree_at ts w ≡ variable_tree (variable_kind s) n = cc in
    rw (j, first) (q _ tt, tt)
labels-fresh ts (w ∷ vs) n (s ∷ ss) e P q v (inr j) =
    let rest : trees_at ts vs ≡ fresh_row (suc n) ss = cc in
    labels-fresh ts vs (suc n) ss rest P q v j

kinds-added : (ts : List Tree) (e : Entries) (v : Variable) → KeepsKinds (content_of ts e) (content_of ts (added e v))
kinds-added ts e v = rw (content_of-added ts e v) (KeepsKinds-with_slot (content_of ts e) (slot_of ts v))

kinds-fresh : (ts : List Tree) (e : Entries) (ss : List Sort) → KeepsKinds (content_of ts e) (content_of ts (with_fresh e ss))
kinds-fresh ts e [] = KeepsKinds-refl (content_of ts e)
kinds-fresh ts e (s ∷ ss) =
    let next = added e (new_variable e (variable_kind s)) in
    KeepsKinds-trans (kinds-added ts e (new_variable e (variable_kind s))) (kinds-fresh ts next ss)

kind-new : (ts : List Tree) (e : Entries) (v : Variable) → kind_at (content_of ts (added e v)) (length e.variables) ≡ Some v.kind
kind-new ts e v =
    let at = field-with_slot_new (λ x. x.kind) (content_of ts e) (slot_of ts v) in
    let long = length-slots ts e.variables in
    let next = with_slot (content_of ts e) (slot_of ts v) in
    ap (λ d. kind_at d (length e.variables)) (content_of-added ts e v) ∙ ap (kind_at next) (sym long) ∙ at

known-fresh : (ts us : List Tree) (vs : List NodeId) (e : Entries) (ss : List Sort) → trees_at us vs ≡ fresh_row (length e.variables) ss → AllKnown (content_of ts (with_fresh e ss)) (map (tree_at us) vs)
known-fresh ts us [] e ss h = tt
known-fresh ts us (v ∷ vs) e [] h = cc
known-fresh ts us (v ∷ vs) e (s ∷ ss) h =
    let k = variable_kind s in
    let next = added e (new_variable e k) in
    let first : tree_at us v ≡ variable_tree k (length e.variables) = cc in
    let more_vars : length next.variables ≡ suc (length e.variables) = omega (arith, length-append e.variables (new_variable e k ∷ [])) in
    let rest : trees_at us vs ≡ fresh_row (length next.variables) ss = rw more_vars cc in
    let is : kind_at (content_of ts (with_fresh next ss)) (length e.variables) ≡ Some k = (kinds-fresh ts next ss).kinds (length e.variables) k (kind-new ts e (new_variable e k)) in
    (rw first ((is, tt, refl), tt, tt), known-fresh ts us vs next ss rest)

continues-fresh : (ts : List Tree) (e : Entries) (ss : List Sort) → IsSound (content_of ts e) → Continues (content_of ts e) (content_of ts (with_fresh e ss))
continues-fresh ts e [] h = Continues-refl (content_of ts e) h
continues-fresh ts e (s ∷ ss) h =
    let v = new_variable e (variable_kind s) in
    let next = added e v in
    let same = content_of-added ts e v in
    let sound : IsSound (content_of ts next) = rw same (IsSound-with_slot (content_of ts e) (slot_of ts v) h refl) in
    let one : Continues (content_of ts e) (content_of ts next) = rw same (Continues-with_slot (content_of ts e) (slot_of ts v) refl h) in
    Continues-trans (content_of ts e) (content_of ts next) (content_of ts (with_fresh next ss)) h one (continues-fresh ts next ss sound)

-- new variables leave the hidden types
hidden-with_fresh : (e : Entries) (ss : List Sort) → (with_fresh e ss).hidden ≡ e.hidden
hidden-with_fresh e [] = refl
hidden-with_fresh e (s ∷ ss) = hidden-with_fresh (added e (new_variable e (variable_kind s))) ss

-- what a table has after new variables
pub record GaveFresh (a b : List Tree) (t u : Table) (fresh : List Sort) (vs : List NodeId) : Type 0 where
  pub goes : Goes a b t u
  pub values : AreValues b u fresh vs

constraints-with_fresh : (e : Entries) (ss : List Sort) → (with_fresh e ss).constraints ≡ e.constraints
constraints-with_fresh e [] = refl
constraints-with_fresh e (s ∷ ss) = constraints-with_fresh (added e (new_variable e (variable_kind s))) ss

-- new variables record nothing
closed_fresh : (ts : List Tree) (e : Entries) (ss : List Sort) → HasClosedSides (content_of ts e) → HasClosedSides (content_of ts (with_fresh e ss))
closed_fresh ts e ss h = closed_same (ap (map (recorded_of ts)) (constraints-with_fresh e ss)) h

pub gave_fresh : {a b : List Tree} {t u : Table} (fresh : List Sort) (vs : List NodeId) → IsTable a t → Extends a b → IsTable b u → u.entries ≡ with_fresh t.entries fresh → u.saved ≡ t.saved → u.mode ≡ t.mode → AllIn b vs → trees_at b vs ≡ fresh_row (length t.entries.variables) fresh → GaveFresh a b t u fresh vs
gave_fresh {a} {b} {t} {u} fresh vs h e k q s m w r =
    let same = content_of-extended e h.now in
    let kinds = kinds-fresh b t.entries fresh in
    record {
      goes = record {
        sound = h.now.sound;
        extends = e;
        table = k;
        continues = rw (q, ← same) (continues-fresh b t.entries fresh (rw same h.now.sound));
        saved = s;
        mode = m;
        hidden = ap (λ (z : Entries). z.hidden) q ∙ hidden-with_fresh t.entries fresh;
        sides = rw (q, ← same) (closed_fresh b t.entries fresh);
      };
      values = record {
        within = w;
        sorts = sorts-fresh b vs (length t.entries.variables) fresh r;
        values = values-fresh b vs (length t.entries.variables) fresh r;
        known = rw q (known-fresh b b vs t.entries fresh r);
        labels = λ P p v i. labels-fresh b vs (length t.entries.variables) fresh r P p v i;
      };
    }

pub Runs-trans : {a b c : Cx} {t u v : Table} → Runs a b t u → Runs b c u v → Runs a c t v
Runs-trans g h = record { goes = Goes-trans g.goes h.goes; rest = KeepsRest-trans g.rest h.rest }

-- the store grows beside the table
pub Runs-extends : {a b : Cx} {t : Table} → IsTable a.nodes t → Extends a.nodes b.nodes → KeepsRest a b → Runs a b t t
Runs-extends h e r = record { goes = Goes-extends h e; rest = r }

-- .. and what was done to the table was undone
pub runs-back : {a b : Cx} {t u : Table} → IsTable a.nodes t → Extends a.nodes b.nodes → KeepsRest a b → u ≡ t → Runs a b t u
runs-back {a} {b} {t} {u} h e r q = record { goes = rw q (Goes-extends h e); rest = r }

pub Runs-refl : {a : Cx} {t : Table} → IsTable a.nodes t → Runs a a t t
Runs-refl {a} h = record { goes = Goes-extends h (Extends-refl a.nodes); rest = KeepsRest-refl a }

-- what a handler was ready for earlier, while the store grows
abbrev pub Since-later : {ready : List Tree → Type 0} {a b : Cx} → Grows a b → Since ready a → Since ready b
Since-later g s =
    record {
      base = s.base;
      formed = s.formed;
      extends = Extends-trans s.extends g.extends;
      is_ready = s.is_ready;
      variances = s.variances;
      declared = s.declared ∙ sym (ap (λ d. variances_in d) g.rest.declarations);
    }

-- now, in a store that is formed
abbrev pub Since-now : {ready : List Tree → Type 0} {a : Cx} → AreFormed a.nodes → ready a.nodes → Since ready a
Since-now {ready} {a} f r =
    record { base = a.nodes; formed = f; extends = Extends-refl a.nodes; is_ready = r; variances = variances_in a.declarations; declared = refl }

-- what is offered for a goal stays, while the store grows
pub offers-kept : {a b : List Tree} {g : Goal} (h : Handler) (mode : Mode) → Extends a b → HoldsGoal a g → offers_of h mode b g ≡ offers_of h mode a g
offers-kept {a} {b} {g} h mode e p =
    ap (λ x. h.offers mode x (tree_at b g.predicate.node)) (e.kept g.param_env.node p.env.within) ∙ ap (h.offers mode (tree_at a g.param_env.node)) (e.kept g.predicate.node p.predicate.within)

-- a call on the store and the table
pub goes : {a b : List Tree} {t u : Table} → IsTable a t → Extends a b → IsTable b u → Continues (content_of a t.entries) (content_of b u.entries) → u.saved ≡ t.saved → u.mode ≡ t.mode → u.entries.hidden ≡ t.entries.hidden → (HasClosedSides (content_of a t.entries) → HasClosedSides (content_of b u.entries)) → Goes a b t u
goes {a} {b} {t} {u} w e h n s m d k = record { sound = w.now.sound; continues = n; extends = e; table = h; saved = s; mode = m; hidden = d; sides = k }

-- a goal after a snapshot was opened
pub IsPosed-opened : {a : List Tree} {t u : Table} {g : Goal} → IsPosed a t g → u.entries ≡ t.entries → u.saved ≡ t.saved ++ t.entries ∷ [] → IsPosed a u g
IsPosed-opened {a} {t} {u} {g} p e s =
    record {
      table = IsTable-opened p.table e s;
      holds = p.holds;
      knows = record { env = rw e p.knows.env; predicate = rw e p.knows.predicate };
    }

-- a constraint whose sides are terms of the table
pub goes-constrained : {a : List Tree} {t u : Table} (x : Constraint) → IsTable a t → IsTermIn a t x.left → IsTermIn a t x.right → kind_of (tree_at a x.left) ≡ Some (left_kind x.relation) → kind_of (tree_at a x.right) ≡ Some (of_sort sort.Region) → (x.relation ≡ relation.Equal → ⊥) → IsClosed (tree_at a x.left) → IsClosed (tree_at a x.right) → u.entries ≡ constrained t.entries x → u.saved ≡ t.saved → u.mode ≡ t.mode → Goes a a t u
goes-constrained {a} {t} {u} x h l r k j n cl cr e s m =
    let is : IsConstraint a (content_of a t.entries) x = record {
      left_in = l.within;
      right_in = r.within;
      left_known = l.knows;
      right_known = r.knows;
      left_sort = k;
      right_sort = j;
      regions = outlives_sides x.relation (tree_at a x.left) (tree_at a x.right) n;
    } in
    let same = content_of-constrained a t.entries x in
    record {
      sound = h.now.sound;
      extends = Extends-refl a;
      table = IsTable-constrained h is e s;
      continues = rw (e, same) (Continues-with_constraint (content_of a t.entries) (recorded_of a x) h.now.sound);
      saved = s;
      mode = m;
      hidden = ap (λ (z : Entries). z.hidden) e;
      sides = rw (e, same) (closed_constrained (content_of a t.entries) (recorded_of a x) cl cr);
    }

-- .. that is recorded unless its sides are one tree
same_table : {t u : Table} → u.entries ≡ t.entries → u.saved ≡ t.saved → u.mode ≡ t.mode → u ≡ t
same_table e s m = λ i. record { entries = e i; saved = s i; mode = m i }

goes-recorded : {a : List Tree} {t u : Table} (x : Constraint) → IsTable a t → IsTermIn a t x.left → IsTermIn a t x.right → kind_of (tree_at a x.left) ≡ Some (left_kind x.relation) → kind_of (tree_at a x.right) ≡ Some (of_sort sort.Region) → (x.relation ≡ relation.Equal → ⊥) → IsClosed (tree_at a x.left) → IsClosed (tree_at a x.right) → Records a t.entries u.entries x → u.saved ≡ t.saved → u.mode ≡ t.mode → Goes a a t u
goes-recorded x h l r k j n cl cr (inl e) s m = rw (same_table e.1 s m) (Goes-extends h (Extends-refl _))
goes-recorded x h l r k j n cl cr (inr e) s m = goes-constrained x h l r k j n cl cr e.1 s m

pub recorded_goes : {a : List Tree} {t u : Table} {E : Type 0} (x : Constraint) (o : Result (Unit {0}) E) → IsTable a t → IsTermIn a t x.left → IsTermIn a t x.right → kind_of (tree_at a x.left) ≡ Some (left_kind x.relation) → kind_of (tree_at a x.right) ≡ Some (of_sort sort.Region) → (x.relation ≡ relation.Equal → ⊥) → IsClosed (tree_at a x.left) → IsClosed (tree_at a x.right) → OnOk o (Records a t.entries u.entries x) → u.saved ≡ t.saved → u.mode ≡ t.mode → OnErr o (u ≡ t) → Goes a a t u
recorded_goes x (Ok z) h l r k j n cl cr e s m q = goes-recorded x h l r k j n cl cr e s m
recorded_goes x (Err z) h l r k j n cl cr e s m q = rw q (Goes-extends h (Extends-refl _))

-- all was undone
pub goes-back : {a b : List Tree} {t u : Table} → IsTable a t → Extends a b → u ≡ t → Goes a b t u
goes-back {a} {b} {t} {u} h e q = rw q (Goes-extends h e)

-- .. that makes two trees equal, or leaves the table
pub related_goes : {a b : List Tree} {t u : Table} {E : Type 0} (x y : Tree) (r : Result (Unit {0}) E) → IsTable a t → Extends a b → IsTable b u → u.saved ≡ t.saved → u.mode ≡ t.mode → u.entries.hidden ≡ t.entries.hidden → OnOk r (AreRelated (content_of a t.entries) (content_of b u.entries) x y) → OnErr r (u ≡ t) → IsLater (content_of a t.entries) (content_of b u.entries) → Goes a b t u
related_goes x y (Ok z) w e h s m d n q l = goes w e h n.continues s m d (λ k. closed_later l k)
related_goes x y (Err z) w e h s m d n q l = goes-back w e q

-- after a snapshot, a step, and its rollback the table is as it was
pub rolled_back : {a b : List Tree} {t s u v : Table} → s.saved ≡ t.saved ++ t.entries ∷ [] → Goes a b s u → u.saved ≡ v.saved ++ v.entries ∷ [] → s.mode ≡ t.mode → v.mode ≡ u.mode → v ≡ t
rolled_back {a} {b} {t} {s} {u} {v} opened step back first last = back_to t v u.saved (step.saved ∙ opened) back (last ∙ step.mode ∙ first)

-- after a snapshot, a step, and its end by a result, the step stays where it succeeded, and else the table is as it was
front-push : {A : Type 0} (xs : List A) (x : A) → front (xs ++ x ∷ []) ≡ xs
front-push xs x = (let n : length (xs ++ x ∷ []) - 1 ≡ length xs = omega (arith, length-append xs (x ∷ [])) in rw n (take-append_seam xs (x ∷ [])))

pub ended : {a b : List Tree} {t s u v : Table} {T E : Type 0} (r : Result T E) → s.entries ≡ t.entries → s.saved ≡ t.saved ++ t.entries ∷ [] → IsTable a t → Goes a b s u → OnOk r (v.entries ≡ u.entries) → OnErr r (u.saved ≡ v.saved ++ v.entries ∷ []) → v.saved ≡ front u.saved → s.mode ≡ t.mode → v.mode ≡ u.mode → Goes a b t v
ended {a} {b} {t} {s} {u} {v} (Ok x) same opened h step kept undone closed first last =
    let ends : v.saved ≡ t.saved = closed ∙ ap front (step.saved ∙ opened) ∙ front-push t.saved t.entries in
    record {
      sound = h.now.sound;
      continues = rw kept (rw same at step.continues);
      extends = step.extends;
      table = record { now = rw kept step.table.now; saved = rw ends (IsTable-extended step.extends h).saved };
      saved = ends;
      mode = last ∙ step.mode ∙ first;
      hidden = ap (λ (z : Entries). z.hidden) kept ∙ step.hidden ∙ ap (λ (z : Entries). z.hidden) same;
      sides = rw kept (rw same at step.sides);
    }
ended {a} {b} {t} {s} {u} {v} (Err x) same opened h step kept undone closed first last =
    goes-back h step.extends (rolled_back opened step undone first last)

-- .. and after its commit the step stays
pub committed : {a b : List Tree} {t s u v : Table} (e : Entries) → s.entries ≡ t.entries → s.saved ≡ t.saved ++ t.entries ∷ [] → IsTable a t → Goes a b s u → v.entries ≡ u.entries → u.saved ≡ v.saved ++ e ∷ [] → s.mode ≡ t.mode → v.mode ≡ u.mode → Goes a b t v
committed {a} {b} {t} {s} {u} {v} e same opened h step kept closed first last =
    let ends = push_inj v.saved t.saved e t.entries (sym closed ∙ step.saved ∙ opened) in
    record {
      sound = h.now.sound;
      continues = rw kept (rw same at step.continues);
      extends = step.extends;
      table = record { now = rw kept step.table.now; saved = rw ends.0 (IsTable-extended step.extends h).saved };
      saved = ends.0;
      mode = last ∙ step.mode ∙ first;
      hidden = ap (λ (z : Entries). z.hidden) kept ∙ step.hidden ∙ ap (λ (z : Entries). z.hidden) same;
      sides = rw kept (rw same at step.sides);
    }

pub candidate_at : (ts : List Tree) (g : Goal) (cs : List CandidateData) (k : ℕ) (d : CandidateData) → AreCandidates ts g cs → k < length cs → IsCandidate ts g (get_or cs k d)
candidate_at ts g [] k d h l = absurd (omega arith)
candidate_at ts g (c ∷ cs) zero d h l = h.0
candidate_at ts g (c ∷ cs) (suc k) d h l = candidate_at ts g cs k d h.1 (omega arith)

pub constraint_at : (ts : List Tree) (fresh : List Sort) (g : Goal) (xs : List RegionConstraint) (k : ℕ) (d : RegionConstraint) → AreRegionConstraints ts fresh g xs → k < length xs → IsRegionConstraint ts fresh g (get_or xs k d)
constraint_at ts fresh g [] k d h l = absurd (omega arith)
constraint_at ts fresh g (x ∷ xs) zero d h l = h.0
constraint_at ts fresh g (x ∷ xs) (suc k) d h l = constraint_at ts fresh g xs k d h.1 (omega arith)

pub nested_at : (ts : List Tree) (fresh : List Sort) (g : Goal) (hs : List CandidateGoal) (k : ℕ) (d : CandidateGoal) → AreNested ts fresh g hs → k < length hs → IsNestedIn ts fresh g (get_or hs k d).goal
nested_at ts fresh g [] k d h l = absurd (omega arith)
nested_at ts fresh g (x ∷ xs) zero d h l = h.0
nested_at ts fresh g (x ∷ xs) (suc k) d h l = nested_at ts fresh g xs k d h.1 (omega arith)

-- candidates in a store that has grown
pub IsEquation-extended : {a b : List Tree} {fresh : List Sort} {g : Goal} {q : Equation} → Extends a b → HoldsGoal a g → IsEquation a fresh g q → IsEquation b fresh g q
IsEquation-extended {a} {b} {fresh} {g} {q} e p h =
    record {
      lhs = IsOverIn-extended e p h.lhs;
      rhs = IsOverIn-extended e p h.rhs;
      argument = rw (e.kept q.lhs.node h.lhs.within) h.argument;
    }

equations-extended : {a b : List Tree} (fresh : List Sort) (g : Goal) (qs : List Equation) → Extends a b → HoldsGoal a g → AreEquations a fresh g qs → AreEquations b fresh g qs
equations-extended fresh g [] e p h = tt
equations-extended fresh g (q ∷ qs) e p h = (IsEquation-extended e p h.0, equations-extended fresh g qs e p h.1)

pub IsRegionConstraint-extended : {a b : List Tree} {fresh : List Sort} {g : Goal} {x : RegionConstraint} → Extends a b → HoldsGoal a g → IsRegionConstraint a fresh g x → IsRegionConstraint b fresh g x
IsRegionConstraint-extended {a} {b} {fresh} {g} {x} e p h =
    record {
      left = IsOverIn-extended e p h.left;
      right = IsOverIn-extended e p h.right;
      left_sort = kind-extended e h.left.within h.left_sort;
      right_sort = kind-extended e h.right.within h.right_sort;
    }

constraints-extended : {a b : List Tree} (fresh : List Sort) (g : Goal) (xs : List RegionConstraint) → Extends a b → HoldsGoal a g → AreRegionConstraints a fresh g xs → AreRegionConstraints b fresh g xs
constraints-extended fresh g [] e p h = tt
constraints-extended fresh g (x ∷ xs) e p h = (IsRegionConstraint-extended e p h.0, constraints-extended fresh g xs e p h.1)

pub IsNestedIn-extended : {a b : List Tree} {fresh : List Sort} {g h : Goal} → Extends a b → HoldsGoal a g → IsNestedIn a fresh g h → IsNestedIn b fresh g h
IsNestedIn-extended e p h =
    record { environment = h.environment; holds = HoldsGoal-extended e h.holds; env = IsOverIn-extended e p h.env; predicate = IsOverIn-extended e p h.predicate }

nested-extended : {a b : List Tree} (fresh : List Sort) (g : Goal) (hs : List CandidateGoal) → Extends a b → HoldsGoal a g → AreNested a fresh g hs → AreNested b fresh g hs
nested-extended fresh g [] e p h = tt
nested-extended fresh g (x ∷ xs) e p h =
    (record { environment = h.0.environment; holds = HoldsGoal-extended e h.0.holds; env = IsOverIn-extended e p h.0.env; predicate = IsOverIn-extended e p h.0.predicate }, nested-extended fresh g xs e p h.1)

pub IsCandidate-extended : {a b : List Tree} {g : Goal} {c : CandidateData} → Extends a b → HoldsGoal a g → IsCandidate a g c → IsCandidate b g c
IsCandidate-extended {a} {b} {g} {c} e p h =
    record {
      hidden = h.hidden;
      accesses = h.accesses;
      equations = equations-extended c.fresh.items g c.equations.items e p h.equations;
      constraints = constraints-extended c.fresh.items g c.region_constraints.items e p h.constraints;
      goals = nested-extended c.fresh.items g c.goals.items e p h.goals;
    }

pub AreCandidates-extended : {a b : List Tree} {g : Goal} (cs : List CandidateData) → Extends a b → HoldsGoal a g → AreCandidates a g cs → AreCandidates b g cs
AreCandidates-extended [] e p h = tt
AreCandidates-extended (c ∷ cs) e p h = (IsCandidate-extended e p h.0, AreCandidates-extended cs e p h.1)

-- a term that was resolved
pub record IsResolved (a b : List Tree) (t : Table) (x y : NodeId) : Type 0 where
  pub term : IsTermIn b t y
  pub kind : kind_of (tree_at b y) ≡ kind_of (tree_at a x)

pub is_resolved : {a b : List Tree} {t : Table} {x y : NodeId} → IsTable a t → IsTermIn a t x → Extends a b → IsIn b y → tree_at b y ≡ deeply_resolved (content_of a t.entries) (tree_at a x) → IsResolved a b t x y
is_resolved {a} {b} {t} {x} {y} h k e w q =
    let same = content_of-extended e h.now in
    let c = content_of a t.entries in
    record {
      term = record { within = w; knows = rw (same, q) (Knows-deeply_resolved c (tree_at a x) h.now.sound k.knows) };
      kind = ap kind_of q ∙ kind_of-deeply_resolved c (tree_at a x) h.now.sound k.knows;
    }

-- a goal that may be asked is one of the store and the table
pub IsPosed-admitted : {a : List Tree} {t : Table} {g : Goal} → IsTable a t → IsAdmitted a t g → IsPosed a t g
IsPosed-admitted h k = record { table = h; holds = k.holds; knows = record { env = k.env.knows; predicate = k.predicate.knows } }

-- what holds of a result for each s, where it is Ok
pub each_of : {T E S : Type 0} {P : S → T → Type 0} {Q : T → Type 0} (r : Result T E) → ((s : S) → IfOk r (P s)) → ((a : T) → ((s : S) → P s a) → Q a) → IfOk r Q
each_of (Ok a) p f = f a p
each_of (Err z) p f = tt
