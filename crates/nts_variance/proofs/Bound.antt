-- A variable that is made one with what stands for a term.
use Rattle.nts_model.proofs.Terms.Substituting.{no_children}
use Rattle.std.proofs.Common.{◌≡◌, ◌≢◌, ℕ, ◌+◌, ◌≤◌, ◌<◌, Bool, true, false, List, [], ◌∷◌, length, Option, Some, None, refl, sym, ap, ◌∙◌, subst, arith}
use Rattle.nts_model.specs.declared.labels.Variance.{Variance}
use Rattle.nts_model.specs.declared.labels.VariableKind.{VariableKind}
use Rattle.nts_model.specs.declared.labels.VariableKind.TheVariants as kind
use Rattle.nts_model.specs.declared.labels.Leaf.TheVariants as leaf
use Rattle.nts_model.specs.declared.labels.BoundVarIndexKind.TheVariants as index
use Rattle.nts_model.specs.declared.labels.Label.{Label}
use Rattle.nts_model.specs.declared.labels.Label.TheVariants as label
use Rattle.nts_model.specs.Terms.Trees.{Tree, empty, more, node, binders, IsBoundBelow, IsClosed, IsClosedUnder, IsFormed, variable_of, variable_tree}
use Rattle.nts_model.specs.Tables.Contents.{Content, unset, universe_of, kind_at}
use Rattle.nts_model.specs.Tables.Resolving.{number_of, IsInfer, Knows, IsSound, deeply_resolved}
use Rattle.nts_model.specs.Tables.Worlds.{World, renamed, placed, inst}
use Rattle.nts_model.specs.Tables.Holding.{Continues}
use Rattle.nts_model.specs.Derivations.Related.{IsAlias}
use Rattle.nts_variance_model.specs.Variances.AnsweredGoals.{AllAnswered}
use Rattle.nts_model.specs.Tables.Measuring.{closed_aliases}
use Rattle.nts_variance_model.specs.Variances.Leaving.{judging_of, Refuses}
use Rattle.nts_model.proofs.Tables.Held.{Continues-trans}
use Rattle.nts_model.proofs.Tables.Slots.{Knows-kept, field_below}
use Rattle.nts_model.proofs.Tables.Kept.{variable_label}
use Rattle.nts_model.proofs.Tables.Fitting.{binders-renamed}
use Rattle.nts_variance_model.proofs.Variances.SettleRows.{settles_closed}
use Rattle.nts_store.specs.declared.nodes.NodeId.{NodeId}
use Rattle.nts_store.specs.Growth.{tree_at, Extends}
use Rattle.nts_store.specs.TypeFlags.{escaping}
use Rattle.std.specs.Option.{is_some}
use Rattle.nts_unify.specs.declared.contents.State.{State}
use Rattle.nts_unify.specs.declared.contents.State.TheVariants.{Unset, Link, Known}
use Rattle.nts_unify.specs.Entries.{Entries}
use Rattle.nts_unify.specs.Reading.{state_with, content_of, IsLawful}
use Rattle.nts_unify.specs.Joining.{IsBindable}
use Rattle.nts_unify.proofs.Changes.{length-slots}
use Rattle.nts_unify.proofs.Leading.{state_of-entry, kind_at-entry, entry_at}
use Rattle.nts_relating.specs.Relating.{IsClosedHead, IsSet, Forbids}
use Rattle.nts_variance.specs.declared.along.Relating.{Relating}
use Rattle.nts_variance.specs.Steps.{ended}
use Rattle.nts_variance.specs.Walking.{StandsBy, OwedBy, RelatedSides, sides, IsTableGrown}
use Rattle.nts_variance.specs.Terms.{pairs_at}
use Rattle.nts_variance.specs.Varying.{IsVaried, IsKept}
use Rattle.nts_variance.specs.Pairs.{IsBound}
use Rattle.nts_variance.proofs.Growing.{Knows-grown, grown_later, grown_trans}
use Rattle.nts_variance.proofs.Founding.{founds_tied}
use Rattle.nts_variance.proofs.PlainTerms.{stays_then}
use Rattle.nts_variance.proofs.Runs.{unentered}
use Rattle.nts_variance.proofs.Pairs.{ended_at, sides_settle, walk_leaves, walk_refuses}
use Rattle.nts_variance.proofs.VaryTurns.{fits_later, known_pairs, pairs_kept, goals_later}
use Rattle.nts_variance.specs.Parts.{none_escapes}
use Rattle.nts_variance.proofs.Dues.{dues_later}
use Rattle.nts_variance.proofs.Leaves.{kept_kinds}
use Rattle.nts_variance.proofs.Looks.{open_tree, closed_tree}
use Rattle.nts_variance.proofs.Pieces.{varied_fits}

-- a variable without a value
pub bindable_kind : (ts : List Tree) (e : Entries) (x : ℕ) (b : IsBindable e x) → kind_at (content_of ts e) x ≡ Some b.of_kind
bindable_kind ts e x b = (let f = b.free in kind_at-entry ts e x f.variable f.at ∙ ap Some f.of_kind)

pub bindable_below : (ts : List Tree) (e : Entries) (x : ℕ) → IsBindable e x → x < length e.variables
bindable_below ts e x b = (let below : x < length (content_of ts e).slots = field_below (λ s. s.kind) (content_of ts e) x b.of_kind (bindable_kind ts e x b) in omega (arith, below, length-slots ts e.variables))

pub bindable_no_region : (ts : List Tree) (e : Entries) (x : ℕ) → IsBindable e x → kind_at (content_of ts e) x ≢ Some kind.Region
bindable_no_region ts e x b = λ q. (let same : Some b.of_kind ≡ Some kind.Region = sym (bindable_kind ts e x b) ∙ q in b.no_region cc)

pub universe_low : (ts : List Tree) (e : Entries) (x u : ℕ) → IsLawful ts e → universe_of (content_of ts e) x ≡ Some u → u ≤ e.universe
universe_low ts e x u lawful q = (let c = lawful.proper.current in c.universes x u q)

unset_state : (us : List Tree) (s : State) → state_with us s ≡ unset → s ≡ Unset
unset_state us Unset e = refl
unset_state us (Link m) e = cc
unset_state us (Known t) e = cc

pub still_bindable : (ts us : List Tree) (e f : Entries) (x : ℕ) → IsBindable e x → IsKept (content_of ts e) (content_of us f) x → IsTableGrown (content_of ts e) (content_of us f) → IsBindable f x
still_bindable ts us e f x b kept grown =
    let old = b.free in
    let below : x < length f.variables = (let low = bindable_below ts e x b in omega (arith, low, grown.more, length-slots ts e.variables, length-slots us f.variables)) in
    let v = entry_at f.variables x below in
    let state : Some (state_with us v.0.state) ≡ Some unset = sym (state_of-entry us f x v.0 v.1) ∙ kept.state ∙ state_of-entry ts e x old.variable old.at ∙ ap (λ s. Some (state_with ts s)) old.state in
    let kinds : Some v.0.kind ≡ Some b.of_kind = sym (kind_at-entry us f x v.0 v.1) ∙ grown.kinds x b.of_kind (bindable_kind ts e x b) in
    record { of_kind = b.of_kind; no_region = b.no_region; free = record { variable = v.0; at = v.1; of_kind = cc; state = unset_state us v.0.state cc } }

-- what was made is no variable
pub varied_head : (declared : ℕ → List Variance) (z : Bool) (u x : ℕ) (ts us : List Tree) (e f : Entries) (v : Variance) (t r : NodeId) (gs : List Relating) → IsVaried declared z u x ts us e f v t r gs → (IsInfer (tree_at ts t) → ⊥) → (IsAlias (tree_at ts t) → ⊥)
    → IsClosedHead (content_of us f) (tree_at us r) (tree_at us r)
varied_head declared z u x ts us e f v t r gs h fixed rigid =
    let m = varied_fits declared z u x ts us e f v t r gs h in
    record { knows = m.knows; no_variable = m.apart fixed rigid; labels = λ P p q. q; same = refl; worlds = λ w s. refl }

-- the variable is what was made, under each later table
bound_exact : (declared : ℕ → List Variance) (z : Bool) (u x : ℕ) (ts us ws : List Tree) (e f g : Entries) (v : Variance) (k : VariableKind) (t r : NodeId) (gs : List Relating) → IsVaried declared z u x ts us e f v t r gs
    → universe_of (content_of ts e) x ≡ Some u → kind_at (content_of ts e) x ≡ Some k → IsSet (content_of us f) (content_of ws g) x (tree_at us r) → deeply_resolved (content_of ws g) (variable_tree k x) ≡ deeply_resolved (content_of ws g) (tree_at us r)
bound_exact declared z u x ts us ws e f g v k t r gs h universe has set = (let walks = h.walks in set.exact u k (h.kept.universe ∙ universe) (walks.later.kinds x k has) h.clean)

-- the variable is related with the term where the goals are answered
bound_related : (declared : ℕ → List Variance) (z : Bool) (u x : ℕ) (ts us ws : List Tree) (e f g : Entries) (v : Variance) (k : VariableKind) (t r : NodeId) (gs : List Relating) → IsVaried declared z u x ts us e f v t r gs → IsSound (content_of ws g)
    → universe_of (content_of ts e) x ≡ Some u → kind_at (content_of ts e) x ≡ Some k → IsSet (content_of us f) (content_of ws g) x (tree_at us r)
    → (d : Content) → IsSound d → Continues (content_of ws g) d → (ks : List Tree) → AllAnswered d ks (pairs_at us gs) → RelatedSides z declared d ks v (deeply_resolved d (variable_tree k x)) (deeply_resolved d (tree_at ts t))
bound_related declared z u x ts us ws e f g v k t r gs h sound universe has set d sound_later on ks answered =
    let b = content_of us f in
    let c = content_of ws g in
    let walks = h.walks in
    let made = tree_at us r in
    let own = variable_tree k x in
    let m = varied_fits declared z u x ts us e f v t r gs h in
    let has_there : kind_at b x ≡ Some k = walks.later.kinds x k has in
    let runs = walks.stands d sound_later (Continues-trans b c d h.lawful.sound set.continues on) ks answered (deeply_resolved d made) ended in
    let a = unentered (StandsBy z declared d ks) (OwedBy z declared d ks) v false (deeply_resolved d (tree_at ts t)) [] [] (deeply_resolved d made) runs in
    let same : a.made ≡ deeply_resolved d made = ended_at a.made refl refl a.runs in
    let exact = bound_exact declared z u x ts us ws e f g v k t r gs h universe has set in
    let knows_own : Knows b own = ((has_there, tt, refl), tt, tt) in
    let one : deeply_resolved d made ≡ deeply_resolved d own = sym (on.values made (Knows-kept b c made (kept_kinds b c set.continues) m.knows)) ∙ ap (deeply_resolved d) (sym exact) ∙ on.values own (Knows-kept b c own (kept_kinds b c set.continues) knows_own) in
    subst (λ y. RelatedSides z declared d ks v y (deeply_resolved d (tree_at ts t))) (same ∙ one) (a.fits refl)

pub bound_along : (declared : ℕ → List Variance) (z : Bool) (u x : ℕ) (ts us ws : List Tree) (e f g : Entries) (v : Variance) (k : VariableKind) (t r : NodeId) (gs : List Relating) → IsVaried declared z u x ts us e f v t r gs → Extends us ws → IsLawful ts e → IsLawful ws g
    → universe_of (content_of ts e) x ≡ Some u → kind_at (content_of ts e) x ≡ Some k → IsSet (content_of us f) (content_of ws g) x (tree_at us r) → IsBound declared z ts ws e g v k x t gs
bound_along declared z u x ts us ws e f g v k t r gs h ext before lawful universe has set =
    let b = content_of us f in
    let c = content_of ws g in
    let walks = h.walks in
    let goals : pairs_at ws gs ≡ pairs_at us gs = pairs_kept b gs ext h.known in
    let known = goals_later gs ext (grown_later set.later) h.known in
    let all = known_pairs us b gs h.known in
    let left = walk_leaves declared z u (content_of ts e) b c x k v (tree_at ts t) (tree_at us r) (pairs_at us gs) walks universe has lawful.sound (record { continues = set.continues; alike = set.alike k (walks.later.kinds x k has); sound = set.sound; complete = set.complete }) set.ties all in
    record {
      lawful = lawful;
      known = known;
      later = grown_trans walks.later (grown_later set.later);
      continues = Continues-trans (content_of ts e) b c before.sound walks.continues set.continues;
      value = tree_at us r;
      made = fits_later (grown_later set.later) (varied_fits declared z u x ts us e f v t r gs h);
      same = bound_exact declared z u x ts us ws e f g v k t r gs h universe has set;
      related = λ d s on ks answered. bound_related declared z u x ts us ws e f g v k t r gs h lawful.sound universe has set d s on ks (rw goals at answered);
      leaves = rw goals left;
      are_goals = rw goals h.are_goals;
      due = λ d le q. rw goals (dues_later d (pairs_at us gs) (grown_later set.later) set.continues all (h.due d le q));
      fewer = λ q. (let few = h.few q in let less = set.fewer in omega (arith, few, less));
      aliases = λ q a k. set.aliases (h.none q) a (Knows-grown a walks.later k) ∙ ap closed_aliases (h.trees a k);
      plain = λ h.
          (let x = walks.plain (h, tt) tt in
          let made = x.2 in
          let s = set.later in
          stays_then (content_of ts e) b c walks.later (grown_later s) set.continues x.0 (record { keeps = set.plain made.0; founds = founds_tied b c s.kinds set.ties }));
      passes = λ P p q i.
          (let y = walks.passes P p q (i, tt) tt tt in
          let brings = set.brings in
          let tree = y.2 in
          (brings.labels P (p.variables) y.0 tree.0 tt, rw goals y.3));
    }

-- no solution relates the two
pub bound_refuses : (declared : ℕ → List Variance) (z : Bool) (u x : ℕ) (ts us : List Tree) (e f : Entries) (v : Variance) (k : VariableKind) (t r : NodeId) (gs : List Relating) → IsVaried declared z u x ts us e f v t r gs
    → universe_of (content_of ts e) x ≡ Some u → kind_at (content_of ts e) x ≡ Some k → Forbids (content_of us f) x (tree_at us r) → Refuses declared (content_of ts e) (sides z v (variable_tree k x) (tree_at ts t) ∷ [])
bound_refuses declared z u x ts us e f v k t r gs h universe has forbids =
    walk_refuses declared z u (content_of ts e) (content_of us f) x k v (tree_at ts t) (tree_at us r) (pairs_at us gs) h.walks universe has (record { none = λ w s q. forbids.none w s q })

-- where bound variables escape from the instance, they escape from the tree
open_label : (w : World) (b : ℕ) (l : Label) → variable_of l ≡ None → IsBoundBelow b (renamed w l) → IsBoundBelow b l
open_label w b (label.Leaf x) e h = tt
open_label w b (label.Bound s (index.Bound d) n) e h = h
open_label w b (label.Bound s index.Canonical n) e h = tt
open_label w b (label.Ty x) e h = tt
open_label w b (label.Const x) e h = tt
open_label w b (label.Clause x) e h = tt
open_label w b (label.Predicate x) e h = tt
open_label w b (label.List x) e h = tt

placed_back : (w : World) (b : ℕ) (l : Label) (c : Tree) (o : Option (VariableKind × ℕ)) → variable_of l ≡ o → IsFormed (node l c) → (IsClosedUnder (b + binders l) (inst w c) → IsClosedUnder (b + binders l) c) → IsClosedUnder b (placed w (number_of o) l (inst w c)) → IsClosedUnder b (node l c)
placed_back w b l c None e f under h = (open_label w b l e h.0, under (subst (λ n. IsClosedUnder (b + n) (inst w c)) (binders-renamed w l) h.1))
placed_back w b l c (Some v) e f under h =
    let is : l ≡ label.Leaf (leaf.Variable v.0 v.1) = variable_label l v.0 v.1 e in
    let g : IsFormed (node (label.Leaf (leaf.Variable v.0 v.1)) c) = subst (λ m. IsFormed (node m c)) is f in
    let alone : c ≡ empty = no_children c g.0 in
    rw (is, alone) (tt, tt)

pub closed_back : (w : World) (b : ℕ) (t : Tree) → IsFormed t → IsClosedUnder b (inst w t) → IsClosedUnder b t
closed_back w b empty f h = tt
closed_back w b (more x y) f h = (closed_back w b x f.0 h.0, closed_back w b y f.1 h.1)
closed_back w b (node l c) f h = placed_back w b l c (variable_of l) refl f (closed_back w (b + binders l) c f.1) h

-- a variable's tree is closed, so a term that is not settles with none
pub open_refuses : (declared : ℕ → List Variance) (z : Bool) (c : Content) (x : ℕ) (k : VariableKind) (v : Variance) (t : Tree) → kind_at c x ≡ Some k → IsFormed t → (IsClosed t → ⊥) → Refuses declared c (sides z v (variable_tree k x) t ∷ [])
open_refuses declared z c x k v t has formed escapes =
    record {
      none = λ j w solves judges settled h.
          (let J = judging_of declared j in
          let s = sides_settle z J j.lawful w v (variable_tree k x) t h.0 in
          let value = solves.fitting.each x k has in
          let closed : IsClosed (inst w t) = (settles_closed J j.lawful v (w.tree x) (inst w t) s 0).0 value.closed in
          escapes (closed_back w 0 t formed closed));
    }

-- whether bound variables escape
pub some_escapes : (t : Tree) → true ≡ is_some (escaping t) → IsClosed t → ⊥
some_escapes t e = open_tree t (by_level (escaping t) e)
  where
    by_level : (o : Option ℕ) → true ≡ is_some o → none_escapes o ≡ false
    by_level None e = cc
    by_level (Some d) e = refl

pub none_escape : (t : Tree) → false ≡ is_some (escaping t) → IsClosed t
none_escape t e = closed_tree t (by_level (escaping t) e)
  where
    by_level : (o : Option ℕ) → false ≡ is_some o → none_escapes o ≡ true
    by_level None e = refl
    by_level (Some d) e = cc
