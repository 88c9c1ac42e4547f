-- A walk that puts variables gives each outermost alias without escaping bound variables one of its own.
use Rattle.std.proofs.Common.{◌≡◌, inl, ℕ, zero, suc, ◌+◌, false, List, [], ◌∷◌, ◌++◌, length, Some, None, refl, sym, ap, ◌∙◌, subst}
use Rattle.std.proofs.lemmas.List.{append-nil, append_assoc}
use Rattle.nts_model.specs.declared.labels.Sort.{Sort}
use Rattle.nts_model.specs.declared.labels.Sort.TheVariants as sort
use Rattle.nts_model.specs.declared.labels.AliasHead.{AliasHead}
use Rattle.nts_model.specs.declared.labels.AliasHead.TheVariants as alias_of
use Rattle.nts_model.specs.declared.labels.Label.{Label}
use Rattle.nts_model.specs.Terms.Trees.{Tree, empty, more, node, NodeKind, of_sort, arguments, environment, bound_predicate, statement, sort_list, one_sort, binders, any_label, is_alias, kind_of, kind_of_label, row_push, variable_tree}
use Rattle.nts_model.specs.Tables.Contents.{Content}
use Rattle.nts_model.specs.Tables.Resolving.{Knows}
use Rattle.nts_model.specs.Derivations.Related.{IsAlias, alias_label}
use Rattle.nts_model.specs.Derivations.Rules.{Replaced, chosen, kept_empty, kept_more, kept_node}
use Rattle.nts_model.specs.Lists.{Among}
use Rattle.nts_model.proofs.Lists.{among_left, among_right}
use Rattle.nts_model.proofs.Tables.AliasLabels.{not_alias}
use Rattle.nts_model.proofs.Terms.Unpositioned.{or_false}
use Rattle.nts_folding.specs.Folding.{MayAnswer, asked_as, AtBinder, GoesInto, ComesBack, HandsOver, Walk, done, next, answer, down, StaysHere, StaysMade}
use Rattle.nts_unify.specs.Entries.{Entries, added}
use Rattle.nts_table.specs.Making.{new_variable}
use Rattle.nts_table.specs.Fresh.{variable_kind, fresh_row, IsFreshLike}
use Rattle.nts_table.proofs.FreshLemmas.{with_fresh-push, length-with_fresh, fresh_row-push}
use Rattle.nts_variance_model.specs.Variances.Relations.{Relating as Pair}
use Rattle.nts_adding.specs.Putting.{Standing, Puts, plain, put, goes_on, right_sides, IsPutFor, AllPut, AreVariables}
use Rattle.nts_theory.specs.Posing.{HasPut, put_alias, put_empty, put_more, put_node, equal_pair}

-- a tree without aliases stays
pub nothing_put : (t : Tree) → any_label is_alias t ≡ false → HasPut [] t t
nothing_put empty e = put_empty
nothing_put (more a b) e = let h = or_false (any_label is_alias a) (any_label is_alias b) e in put_more (nothing_put a h.0) (nothing_put b h.1)
nothing_put (node l c) e = let h = or_false (is_alias l) (any_label is_alias c) e in put_node (not_alias l c h.0) (nothing_put c h.1)

-- what was put is chosen for the aliases
replaced_more : {C D : Tree → Tree → Type 0} → ((a v : Tree) → C a v → D a v) → {x u : Tree} → Replaced C x u → Replaced D x u
replaced_more f (chosen found ends h) = chosen found ends (f _ _ h)
replaced_more f kept_empty = kept_empty
replaced_more f (kept_more p q) = kept_more (replaced_more f p) (replaced_more f q)
replaced_more f (kept_node n p) = kept_node n (replaced_more f p)

pub put_replaces : {ps : List Pair} {x u : Tree} → HasPut ps x u → Replaced (λ a v. Among ps (equal_pair a v)) x u
put_replaces (put_alias found ends) = chosen found ends (inl refl)
put_replaces put_empty = kept_empty
put_replaces (put_more {ps = ps} {qs = qs} h k) =
    kept_more (replaced_more (λ a v i. among_left ps qs (equal_pair a v) i) (put_replaces h)) (replaced_more (λ a v i. among_right ps qs (equal_pair a v) i) (put_replaces k))
put_replaces (put_node n h) = kept_node n (put_replaces h)

-- the lefts are known to a table
abbrev pub LeftsKnown : Content → List Pair → Type 0
LeftsKnown c [] = Unit {0}
LeftsKnown c (p ∷ ps) = Knows c p.left × LeftsKnown c ps

lefts_push : (c : Content) (ps : List Pair) (p : Pair) → LeftsKnown c ps → Knows c p.left → LeftsKnown c (ps ++ p ∷ [])
lefts_push c [] p h k = (k, tt)
lefts_push c (q ∷ ps) p h k = (h.0, lefts_push c ps p h.1 k)

rights_push : (ps : List Pair) (p : Pair) → right_sides (ps ++ p ∷ []) ≡ row_push (right_sides ps) p.right
rights_push [] p = refl
rights_push (q ∷ ps) p = ap (more q.right) (rights_push ps p)

all_push : (ps : List Pair) (p : Pair) → AllPut ps → IsPutFor p → AllPut (ps ++ p ∷ [])
all_push [] p h k = (k, tt)
all_push (q ∷ ps) p h k = (h.0, all_push ps p h.1 k)

-- a new variable is of its sort
pub variable_sort : (s : Sort) (n : ℕ) → kind_of (variable_tree (variable_kind s) n) ≡ Some (of_sort s)
variable_sort sort.Ty n = refl
variable_sort sort.Region n = refl
variable_sort sort.Const n = refl

put_for : (v : Tree) (g : Entries) (t : Tree) (f : Entries) → IsAlias t → IsFreshLike (kind_of t) v f g → IsPutFor (equal_pair t v)
put_for v g t f found new =
    record { equal = refl; alias = found; closed = rw new.tree (tt, tt); kind = ap kind_of new.tree ∙ variable_sort new.sort (length f.variables) ∙ sym new.is }

-- one more variable
pub put_one : (e f g : Entries) (ps : List Pair) (t v : Tree) → AreVariables e f ps → IsAlias t → IsFreshLike (kind_of t) v f g → AreVariables e g (ps ++ equal_pair t v ∷ [])
put_one e f g ps t v h found new =
    let s = new.sort in
    let long : length f.variables ≡ length e.variables + length h.sorts = ap (λ (z : Entries). length z.variables) h.entries ∙ length-with_fresh e h.sorts in
    let pushed = fresh_row-push (length e.variables) (length f.variables) h.sorts s long in
    record {
      sorts = h.sorts ++ s ∷ [];
      entries = new.entries ∙ ap (λ (z : Entries). added z (new_variable z (variable_kind s))) h.entries ∙ sym (with_fresh-push e h.sorts s);
      row = rights_push ps (equal_pair t v) ∙ ap (λ r. row_push r v) h.row ∙ ap (row_push (fresh_row (length e.variables) h.sorts)) new.tree ∙ sym pushed;
      puts = all_push ps (equal_pair t v) h.puts (put_for v g t f found new);
    }

-- what a walk makes of a tree: each outermost closed alias has a variable in its place, and what was put before stays
pub record IsWalked (s t : Standing) (x u : Tree) : Type 0 where
  pub put : List Pair
  pub replaced : HasPut put x u
  pub grows : t.puts ≡ s.puts ++ put
  pub variables : (e : Entries) → AreVariables e s.entries s.puts → AreVariables e t.entries t.puts
  pub known : (c : Content) → Knows c x → LeftsKnown c s.puts → LeftsKnown c t.puts

stays_walked : (s : Standing) (x u : Tree) → HasPut [] x u → IsWalked s s x u
stays_walked s x u h = record { put = []; replaced = h; grows = sym (append-nil s.puts); variables = λ e v. v; known = λ c k l. l }

may_some : (k : NodeKind) (s t : Standing) (x u : Tree) → MayAnswer Puts k s x (Some u) t → Puts s x (Some u) t
may_some (of_sort k) s t x u h = h
may_some bound_predicate s t x u h = h
may_some k s t x u h = absurd (let e = h.0 in cc e)

-- what is gone into is no alias, and the walk stands where it stood
record Goes (s t : Standing) (x : Tree) : Type 0 where
  none : IsAlias x → ⊥
  same : t ≡ s

goes : (s t : Standing) (x : Tree) → Puts s x None t → Goes s t x
goes s t x (goes_on n) = record { none = n; same = refl }

alias_asked : (h : AliasHead) (c : Tree) (s t : Standing) (x : Tree) → MayAnswer Puts (asked_as (node (alias_label h) c)) s x None t → Puts s x None t
alias_asked (alias_of.Ty i) c s t x q = q
alias_asked (alias_of.Const i) c s t x q = q

label_of_alias : (l m : Label) (c d : Tree) → node l c ≡ node m d → l ≡ m
label_of_alias l m c d e = cc e

not_asked : (s t : Standing) (l : Label) (c : Tree) → MayAnswer Puts (asked_as (node l c)) s (node l c) None t → IsAlias (node l c) → ⊥
not_asked s t l c q x =
    let same = label_of_alias l (alias_label x.head) c _ x.is in
    let there : MayAnswer Puts (asked_as (node (alias_label x.head) c)) s (node l c) None t = subst (λ m. MayAnswer Puts (asked_as (node m c)) s (node l c) None t) same q in
    let g = goes s t (node l c) (alias_asked x.head c s t (node l c) there) in
    g.none x

stays_asked : (k : NodeKind) (s t : Standing) (x : Tree) → MayAnswer Puts k s x None t → t ≡ s
stays_asked (of_sort k) s t x q = (let g = goes s t x q in g.same)
stays_asked bound_predicate s t x q = (let g = goes s t x q in g.same)
stays_asked k s t x q = q.1

at_binder : (n : ℕ) (s t : Standing) → AtBinder StaysHere n s t → t ≡ s
at_binder zero s t h = h
at_binder (suc n) s t h = h

handed : (k : NodeKind) (s t : Standing) (x y : Tree) → HandsOver StaysMade k s x y t → (y ≡ x) × (t ≡ s)
handed (of_sort sort.Ty) s t x y h = h
handed (of_sort sort.Const) s t x y h = h
handed (of_sort sort.Region) s t x y h = h
handed arguments s t x y h = h
handed environment s t x y h = h
handed bound_predicate s t x y h = h
handed statement s t x y h = h
handed sort_list s t x y h = h
handed one_sort s t x y h = h

answered : (s t : Standing) (x u : Tree) → Puts s x (Some u) t → IsWalked s t x u
answered s t x u (plain e) = stays_walked s x x (nothing_put x e)
answered s t x u (put v f found new) =
    let closed : IsPutFor (equal_pair x u) = put_for u f x s.entries found new in
    record {
      put = equal_pair x u ∷ [];
      replaced = put_alias found closed.closed;
      grows = refl;
      variables = λ e h. put_one e s.entries f s.puts x u h found new;
      known = λ c k l. lefts_push c s.puts (equal_pair x u) l k;
    }

-- a node of which the children were walked
came_back : (r q t u : Standing) (l : Label) (c d e : Tree) → GoesInto Puts StaysHere l r (node l c) q → ComesBack StaysHere StaysMade l t d e u → IsWalked q t c d → IsWalked r u (node l c) e
came_back r q t u l c d e g b h =
    let none = not_asked r g.asked l c g.asks in
    let first : q ≡ r = at_binder (binders l) g.asked q g.enters_binder ∙ stays_asked (asked_as (node l c)) r g.asked (node l c) g.asks in
    let over = handed (kind_of_label l) b.left u (node l d) e b.hands in
    let last : u ≡ t = over.1 ∙ at_binder (binders l) t b.left b.leaves_binder in
    let made : IsWalked r t (node l c) (node l d) = subst (λ z. IsWalked z t (node l c) (node l d)) first (record { put = h.put; replaced = put_node none h.replaced; grows = h.grows; variables = h.variables; known = λ c k m. h.known c k.1 m }) in
    subst (λ z. IsWalked r z (node l c) e) (sym last) (subst (λ y. IsWalked r t (node l c) y) (sym over.0) made)

pub walked : {s t : Standing} {x u : Tree} → Walk Puts StaysHere StaysHere StaysMade s x u t → IsWalked s t x u
walked (done {s = s}) = stays_walked s empty empty put_empty
walked (next {r = r} {s = s} {t = t} {a = a} {b = b} {c = c} {d = d} w v) =
    let x = walked w in
    let y = walked v in
    record {
      put = x.put ++ y.put;
      replaced = put_more x.replaced y.replaced;
      grows = y.grows ∙ ap (λ z. z ++ y.put) x.grows ∙ append_assoc r.puts x.put y.put;
      variables = λ e h. y.variables e (x.variables e h);
      known = λ c k l. y.known c k.1 (x.known c k.0 l);
    }
walked (answer {s = s} {t = t} {l = l} {c = c} {u = u} h) = answered s t (node l c) u (may_some (asked_as (node l c)) s t (node l c) u h.asks)
walked (down {r = r} {s = s} {t = t} {u = u} {l = l} {c = c} {d = d} {e = e} g w b) = came_back r s t u l c d e g b (walked w)
