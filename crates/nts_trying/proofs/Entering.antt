-- Entering a binder: the trees of what was opened, and the table in a new universe.
use Rattle.std.proofs.Common.{◌≡◌, ℕ, zero, suc, ◌+◌, ◌-◌, ◌<◌, ◌≤◌, Bool, true, false, List, [], ◌∷◌, Option, Some, refl, sym, ap, ◌∙◌, subst, rules, arith}
use Rattle.std.specs.Prelude.{nat_lt, ◌==◌, if◌then◌else◌}
use Rattle.nts_model.specs.declared.labels.Sort.{Sort}
use Rattle.nts_model.specs.declared.labels.Sort.TheVariants as sort
use Rattle.nts_model.specs.declared.labels.Leaf.{Leaf}
use Rattle.nts_model.specs.declared.labels.BoundVarIndexKind.TheVariants as index
use Rattle.nts_model.specs.declared.labels.ListHead.TheVariants as list
use Rattle.nts_model.specs.declared.labels.Label.{Label}
use Rattle.nts_model.specs.declared.labels.Label.TheVariants as label
use Rattle.nts_model.specs.Terms.Trees.{row_at, Tree, empty, more, node, children, IsRow, row_length, binders, IsBoundBelow, IsClosed, IsClosedUnder, IsFormed}
use Rattle.nts_model.specs.Tables.Contents.{Content, in_universe}
use Rattle.nts_model.specs.Tables.Resolving.{Knows}
use Rattle.nts_model.specs.Derivations.Related.{unbound}
use Rattle.nts_model.specs.Terms.Substitutions.{leaf_tree}
use Rattle.nts_model.specs.Derivations.Rules.{opened, opened_at, statement_of}
use Rattle.nts_model.specs.Refutation.Opening.{binds, placeholder_in, entered_table, opened_in}
use Rattle.nts_model.proofs.Tables.Held.{Continues-in_universe}
use Rattle.nts_model.proofs.Terms.Scoping.{closed_listed}
use Rattle.nts_store.specs.Growth.{tree_at, Extends}
use Rattle.nts_terms.specs.declared.handles.Binder.{Binder}
use Rattle.nts_terms.specs.declared.kinds.PredicateKind.{PredicateKind}
use Rattle.nts_terms.specs.Kinds.{tree_of_statement, tree_of_predicate}
use Rattle.nts_unify.specs.Entries.{Entries, moved}
use Rattle.nts_unify.specs.Lawful.{content_of-extended}
use Rattle.nts_unify.specs.Reading.{content_of}
use Rattle.nts_table.specs.Tables.{Table, IsTable}
use Rattle.nts_table.specs.Frames.{ChangesEntries}
use Rattle.nts_placeholder.specs.Opening.{placeholder_label, opened_label, opened_by, universe_at}
use Rattle.nts_placeholder.specs.declared.maps.BoundVar.{BoundVar}
use Rattle.nts_placeholder.specs.Knowing.{NamesListed, IsKnownAfter}
use Rattle.nts_model.proofs.Tables.Slots.{Knows-kept}
use Rattle.nts_placeholder.specs.Universes.{filled_universes, open_before, AreFilled}
use Rattle.nts_terms.specs.declared.handles.Goal.{Goal}
use Rattle.nts_terms.specs.declared.handles.Predicate.{Predicate}
use Rattle.nts_trying.specs.Opening.{IsOpenedTo, CannotOpen}
use Rattle.nts_meaning.specs.Evaluation.{Goes}
use Rattle.nts_model.proofs.Terms.Substituting.{no_children as no_places}

-- under one listed universe a bound variable of the binder outside opens to its placeholder
same_label : (u : ℕ) (s : Sort) (n : ℕ) → placeholder_label s (record { universe = u; var = n }) ≡ label.Leaf (placeholder_in u s n)
same_label u sort.Ty n = refl
same_label u sort.Const n = refl
same_label u sort.Region n = refl

the_universe : (u d c : ℕ) → d ≡ c → universe_at (Some u ∷ []) (1 + c - d - 1) ≡ u
the_universe u d c e =
    let none : 1 + c - d - 1 ≡ 0 = omega (arith, e) in
    ap (universe_at (Some u ∷ [])) none

bound_opens : (u c d n : ℕ) (s : Sort) → d < suc c → node (opened_label (Some u ∷ []) c (label.Bound s (index.Bound d) n)) empty ≡ opened_at (placeholder_in u) c (label.Bound s (index.Bound d) n) empty
bound_opens u c d n s l = by_test (nat_lt d c) refl
  where
    by_test : (b : Bool) → nat_lt d c ≡ b → node (opened_label (Some u ∷ []) c (label.Bound s (index.Bound d) n)) empty ≡ opened_at (placeholder_in u) c (label.Bound s (index.Bound d) n) empty
    by_test true e =
        let less : d < c = search (rules, e) in
        let apart : (d == c) ≡ false = search (rules, less) in
        rw (e, apart) refl
    by_test false e =
        let least : c ≤ d = search (rules, e) in
        let is : d ≡ c = omega (arith, least, l) in
        let same : (d == c) ≡ true = search (rules, is) in
        let placeholder = ap (λ v. placeholder_label s (record { universe = v; var = n })) (the_universe u d c is) ∙ same_label u s n in
        rw (e, same, placeholder) refl

label_opens : (u c : ℕ) (l : Label) (t : Tree) → IsFormed (node l t) → IsBoundBelow (suc c) l → node (opened_label (Some u ∷ []) c l) (opened (placeholder_in u) (c + binders l) t) ≡ opened_at (placeholder_in u) c l (opened (placeholder_in u) (c + binders l) t)
label_opens u c (label.Bound s (index.Bound d) n) t f h = rw (no_places t f.0) (bound_opens u c d n s h)
label_opens u c (label.Bound s index.Canonical n) t f h = refl
label_opens u c (label.Leaf x) t f h = refl
label_opens u c (label.Ty x) t f h = refl
label_opens u c (label.Const x) t f h = refl
label_opens u c (label.Clause x) t f h = refl
label_opens u c (label.Predicate x) t f h = refl
label_opens u c (label.List x) t f h = refl

pub opens_as : (u c d : ℕ) (t : Tree) → d ≡ suc c → IsFormed t → IsClosedUnder d t → opened_by (Some u ∷ []) c t ≡ opened (placeholder_in u) c t
opens_as u c d empty e f h = refl
opens_as u c d (more a b) e f h = cc (opens_as u c d a e f.0 h.0, opens_as u c d b e f.1 h.1)
opens_as u c d (node l t) e f h =
    ap (node (opened_label (Some u ∷ []) c l)) (opens_as u (c + binders l) (d + binders l) t (omega (arith, e)) f.1 h.1)
    ∙ label_opens u c l t f (subst (λ z. IsBoundBelow z l) e h.0)

-- a list of one universe stays, and no other one is made
one_list : (u v n : ℕ) → filled_universes v n (Some u ∷ []) ≡ Some u ∷ []
one_list u v zero = refl
one_list u v (suc zero) = refl
one_list u v (suc (suc n)) = refl

one_made : (u n : ℕ) → open_before n (Some u ∷ []) ≡ 0
one_made u zero = refl
one_made u (suc zero) = refl
one_made u (suc (suc n)) = refl

pub one_universe : {E : Sort → BoundVar → Bool} {e f : Entries} {V : List (Option ℕ)} (u : ℕ) → AreFilled E (Some u ∷ []) V e f → (V ≡ Some u ∷ []) × (f ≡ moved e e.universe)
one_universe {E} {e} {f} {V} u h =
    (h.list ∙ one_list u e.universe h.reach, h.entries ∙ ap (moved e) (let none = one_made u h.reach in omega (arith, none)))

-- what is opened is closed
closed_if : (b : Bool) (c d n : ℕ) (x : Leaf) (s : Sort) (t : Tree) → (b ≡ false → d < c) → IsClosedUnder (c + 0) t → IsClosedUnder c (if b then leaf_tree x else node (label.Bound s (index.Bound d) n) t)
closed_if true c d n x s t h k = (tt, tt)
closed_if false c d n x s t h k = (h refl, k)

label_closed : (f : Sort → ℕ → Leaf) (c : ℕ) (l : Label) (t : Tree) → IsBoundBelow (suc c) l → IsClosedUnder (c + binders l) t → IsClosedUnder c (opened_at f c l t)
label_closed f c (label.Bound s (index.Bound d) n) t h k =
    closed_if (d == c) c d n (f s n) s t (λ e. (let apart : d ≡ c → ⊥ = search (rules, e) in omega (arith, h, apart))) k
label_closed f c (label.Bound s index.Canonical n) t h k = (tt, k)
label_closed f c (label.Leaf x) t h k = (tt, k)
label_closed f c (label.Ty x) t h k = (tt, k)
label_closed f c (label.Const x) t h k = (tt, k)
label_closed f c (label.Clause x) t h k = (tt, k)
label_closed f c (label.Predicate x) t h k = (tt, k)
label_closed f c (label.List x) t h k = (tt, k)

pub opened_is_closed : (f : Sort → ℕ → Leaf) (c d : ℕ) (t : Tree) → d ≡ suc c → IsClosedUnder d t → IsClosedUnder c (opened f c t)
opened_is_closed f c d empty e h = tt
opened_is_closed f c d (more a b) e h = (opened_is_closed f c d a e h.0, opened_is_closed f c d b e h.1)
opened_is_closed f c d (node l t) e h =
    label_closed f c l (opened f (c + binders l) t) (subst (λ z. IsBoundBelow z l) e h.0) (opened_is_closed f (c + binders l) (d + binders l) t (omega (arith, e)) h.1)

-- a predicate that binds nothing and states something closed that a table knows
pub knows_unbound : (c : Content) (t : Tree) → IsClosed t → Knows c t → Knows c (unbound t)
knows_unbound c t closed h =
    ((tt, tt, refl), (((tt, tt, refl), tt, tt), (h, tt)), (closed_listed empty 0 (more (unsorted) (more t empty)) ((tt, tt), (closed, tt))))
  where
    unsorted : Tree
    unsorted = node (label.List list.Sorts) empty

pub goes_entered : {a b : List Tree} {t u : Table} → IsTable a t → Extends a b → IsTable b u → ChangesEntries t u → u.entries ≡ moved t.entries (t.entries.universe + 1) → Goes a b t u
goes_entered {a} {b} {t} {u} w e k s h =
    let c = content_of a t.entries in
    let v = t.entries.universe + 1 in
    let same : content_of b u.entries ≡ in_universe c v = ap (content_of b) h ∙ ap (λ z. in_universe z v) (content_of-extended e w.now) in
    record {
      sound = w.now.sound;
      extends = e;
      table = k;
      continues = rw same (Continues-in_universe c v (omega arith) w.now.sound);
      saved = s.saved;
      mode = s.mode;
      hidden = ap (λ (z : Entries). z.hidden) h;
      sides = λ x. rw same (record { left = x.left; right = x.right });
    }

-- what opening arguments in a new universe leaves
pub record HaveEntered (a b : List Tree) (t u : Table) (x y : Tree) : Type 0 where
  pub goes : Goes a b t u
  pub entries : u.entries ≡ moved t.entries (t.entries.universe + 1)
  pub tree : y ≡ opened (placeholder_in (t.entries.universe + 1)) 0 x
  pub knows : Knows (content_of b u.entries) y

pub have_entered : {a b : List Tree} {t s u : Table} {E : Sort → BoundVar → Bool} {U V : List (Option ℕ)} {x y : Tree} → IsFormed x → IsTable a t → IsClosedUnder 1 x → Knows (content_of a t.entries) x → s.entries ≡ moved t.entries (t.entries.universe + 1) → IsTable a s → ChangesEntries t s → U ≡ Some (t.entries.universe + 1) ∷ []
    → AreFilled E U V s.entries u.entries → ChangesEntries s u → Extends a b → IsTable b u → y ≡ opened_by V 0 x → (IsTable a s → NamesListed s.entries.universe U → IsKnownAfter a b s u x y) → HaveEntered a b t u x y
have_entered {a} {b} {t} {s} {u} {E} {U} {V} {x} {y} formed w closed known moves ws ts list fill su e wu is after =
    let v = t.entries.universe + 1 in
    let one = one_universe {E = E} {e = s.entries} {f = u.entries} {V = V} v (subst (λ z. AreFilled E z V s.entries u.entries) list fill) in
    let universe : s.entries.universe ≡ v = ap (λ (z : Entries). z.universe) moves in
    let entries : u.entries ≡ moved t.entries v = one.1 ∙ ap (λ z. moved z s.entries.universe) moves ∙ ap (moved t.entries) universe in
    let here : Knows (content_of a s.entries) x = rw moves (Knows-kept (content_of a t.entries) (in_universe (content_of a t.entries) v) x (record { grows = omega arith; kinds = λ n k q. q }) known) in
    record {
      goes = goes_entered w e wu (record { saved = su.saved ∙ ts.saved; mode = su.mode ∙ ts.mode }) entries;
      entries = entries;
      tree = is ∙ ap (λ z. opened_by z 0 x) one.0 ∙ opens_as v 0 1 x refl formed closed;
      knows = after ws (rw (list, universe) (omega arith, tt)) here;
    }

some_listed : (r s : Tree) → IsRow r → (row_length r ≡ 0 → ⊥) → binds (node (label.List list.Binder) (more (node (label.List list.Sorts) r) (more s empty))) ≡ true
some_listed empty s h e = absurd (e refl)
some_listed (more a b) s h e = refl
some_listed (node l c) s h e = absurd h

-- a goal that was opened
pub goal_opened : {a b : List Tree} {t u : Table} {g : Goal} (q : Predicate) (v s : Tree) → tree_at a g.predicate.node ≡ node (label.List list.Binder) (more v (more s empty)) → v ≡ node (label.List list.Sorts) (children v) → IsRow (children v) → (row_length (children v) ≡ 0 → ⊥)
    → IsClosed (tree_at a g.predicate.node) → IsTable a t → Extends a b → u.entries ≡ moved t.entries (t.entries.universe + 1) → tree_at b q.node ≡ unbound (opened (placeholder_in (t.entries.universe + 1)) 0 s) → IsOpenedTo a b t u g (record { param_env = g.param_env; predicate = q })
goal_opened {a} {b} {t} {u} {g} q v s is sorts row some closed w e moves says =
    let c = content_of a t.entries in
    let p = tree_at a g.predicate.node in
    let bound : binds p ≡ true = ap binds (is ∙ ap (λ z. node (label.List list.Binder) (more z (more s empty))) sorts) ∙ some_listed (children v) s row some in
    let enters : entered_table c p ≡ in_universe c (c.universe + 1) = ap (λ z. if z then in_universe c (c.universe + 1) else c) bound in
    let opens : opened_in c p ≡ unbound (opened (placeholder_in (c.universe + 1)) 0 (statement_of p)) = ap (λ z. if z then unbound (opened (placeholder_in (c.universe + 1)) 0 (statement_of p)) else p) bound in
    let states : statement_of p ≡ s = ap statement_of is in
    record {
      closed = λ z. closed;
      table = ap (content_of b) moves ∙ ap (λ z. in_universe z (t.entries.universe + 1)) (content_of-extended e w.now) ∙ sym enters;
      environment = refl;
      predicate = says ∙ sym (opens ∙ ap (λ z. unbound (opened (placeholder_in (c.universe + 1)) 0 z)) states);
    }

-- what a predicate states is its second part
pub statement_tree : (ts : List Tree) (b : Binder PredicateKind) (p s : Tree) → p ≡ tree_of_predicate ts b → s ≡ row_at (children p) 1 → p ≡ node (label.List list.Binder) (more (tree_at ts b.vars.node) (more s empty))
statement_tree ts b p s is at = is ∙ ap (λ z. node (label.List list.Binder) (more (tree_at ts b.vars.node) (more z empty))) (sym (at ∙ ap (λ z. row_at (children z) 1) is))

-- what a closed goal states is closed one binder deeper
pub statement_closed : (p v s : Tree) → p ≡ node (label.List list.Binder) (more v (more s empty)) → IsClosed p → IsClosedUnder 1 s
statement_closed p v s is h = (let z : IsClosed (node (label.List list.Binder) (more v (more s empty))) = subst IsClosed is h in z.1.1.0)

-- a goal that lists what it binds, and is not closed
pub cannot_open : (ts : List Tree) (b : Binder PredicateKind) (p : Tree) → p ≡ tree_of_predicate ts b → tree_at ts b.vars.node ≡ node (label.List list.Sorts) (children (tree_at ts b.vars.node)) → IsRow (children (tree_at ts b.vars.node)) → (row_length (children (tree_at ts b.vars.node)) ≡ 0 → ⊥)
    → (IsClosed p → ⊥) → CannotOpen p
cannot_open ts b p is sorts row some why =
    let s = tree_of_statement ts b.value in
    record {
      binds_some = ap binds (is ∙ ap (λ z. node (label.List list.Binder) (more z (more s empty))) sorts) ∙ some_listed (children (tree_at ts b.vars.node)) s row some;
      escapes = why;
    }
