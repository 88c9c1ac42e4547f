-- From a decided goal that binds variables none escapes: so it can be opened. And a plain goal is one that handlers are asked.
use Rattle.std.proofs.Common.{◌≡◌, inl, inr, ℕ, ◌<◌, ◌+◌, Bool, true, false, Some, [], ◌∷◌, refl, sym, ap, subst, ◌∙◌, arith}
use Rattle.std.specs.Prelude.{◌==◌, if◌then◌else◌}
use Rattle.std.proofs.lemmas.Bool.Decides.{eqb_tells}
use Rattle.nts_model.specs.declared.labels.Sort.{Sort}
use Rattle.nts_model.specs.declared.labels.Leaf.{Leaf}
use Rattle.nts_model.specs.declared.labels.BoundVarIndexKind.TheVariants as index
use Rattle.nts_model.specs.declared.labels.ClauseHead.TheVariants as clause
use Rattle.nts_model.specs.declared.labels.ListHead.TheVariants as list
use Rattle.nts_model.specs.declared.labels.Relation.TheVariants as relation
use Rattle.nts_model.specs.declared.labels.Label.{Label}
use Rattle.nts_model.specs.declared.labels.Label.TheVariants as label
use Rattle.nts_model.specs.Terms.Trees.{Tree, empty, more, node, kind_of, one_sort, is, Place, a_type, a_region, HavePlaces, AllFit, binders, IsClosedUnder, IsClosed, IsFormed}
use Rattle.nts_model.specs.Tables.Contents.{Content}
use Rattle.nts_model.specs.Terms.Substitutions.{leaf_tree}
use Rattle.nts_model.specs.Derivations.Related.{Constraint, pair, unbound}
use Rattle.nts_model.specs.Derivations.Rules.{Mode, statement_of, opened, opened_at, IsHandlers, bound}
use Rattle.nts_model.specs.Derivations.Handlers.{Handler, Candidate, Judgements}
use Rattle.nts_model.specs.Refutation.Opening.{binds, placeholder_in, opened_in}
use Rattle.nts_model.proofs.Terms.Substituting.{leaf_alone, no_children}
use Rattle.nts_theory.specs.Outliving.{SaysOutlives, region_outlives, type_outlives, IsOutlives}
use Rattle.nts_theory.specs.Affirming.{SaysAffirmed, IsDenied, HasOwnWay}
use Rattle.nts_theory.specs.Telling.{IsTraitStatement, IsAliasStatement}
use Rattle.nts_theory.proofs.Refutation.Affirming.{affirmed_no_handlers, denied_no_handlers, way_no_handlers}
use Rattle.nts_theory.proofs.Refutation.Subtyping.{subtyping_no_handlers}
use Rattle.nts_theory.specs.Subtyping.{IsSubtyping}
use Rattle.nts_decisions.specs.Deciding.{blurred, blurred_environment, IsDecidable, SaysOfRegion, IsPlainGoal, top_level, opened_next, IsGoalDecided}
use Rattle.nts_decisions.proofs.BlurredWorlds.{merged_leaf}
use Rattle.nts_decisions.proofs.Deciding.{closed_once}
use Rattle.nts_decisions.proofs.DecidedOpening.{as_leaves, opened_so}
use Rattle.nts_decisions.proofs.Reopening.{binding}
use Rattle.nts_decisions.proofs.AskedGoals.{by_leaves, unbound_raw}

-- what a trait says, before and after
trait_blurred : (t : Tree) → IsDecidable (by_leaves merged_leaf t) → IsTraitStatement t
trait_blurred (node (label.Clause (clause.Trait i)) ts) h = tt
trait_blurred (node (label.Clause (clause.HostEffect i)) ts) h = tt
trait_blurred t h = absurd h

trait_opened : (f : Sort → ℕ → Leaf) (t : Tree) → IsTraitStatement (opened f 0 t) → IsTraitStatement t
trait_opened f (node (label.Clause (clause.Trait i)) ts) h = tt
trait_opened f (node (label.Clause (clause.HostEffect i)) ts) h = tt
trait_opened f (node (label.Bound s (index.Bound d) n) ts) h = absurd (not_bound (d == 0) h)
  where
    not_bound : (b : Bool) → IsTraitStatement (if b then leaf_tree (f s n) else node (label.Bound s (index.Bound d) n) (opened f 0 ts)) → ⊥
    not_bound true k = k
    not_bound false k = k
trait_opened f t h = absurd h

-- the statement of a plain goal
pub plain_statement : (e o : Tree) → IsPlainGoal (blurred_environment e) (blurred o) → IsTraitStatement (statement_of o)
plain_statement e o p =
    let a = p.asked in
    let u = unbound_raw merged_leaf o a.statement (sym (as_leaves o) ∙ a.binds_nothing) in
    subst IsTraitStatement (sym (ap statement_of u.is)) (trait_blurred u.says (subst IsDecidable (sym u.same) p.kind))

-- .. says of nothing that it outlives a region
says_not_both : (s : Tree) (x : Constraint) → IsTraitStatement s → SaysOutlives x s → ⊥
says_not_both s x t region_outlives = t
says_not_both s x t type_outlives = t

pub trait_outlives_nothing : (g : Tree) (x : Constraint) → IsTraitStatement (statement_of g) → IsOutlives g x → ⊥
trait_outlives_nothing g x t o = says_not_both o.statement x (subst (λ z. IsTraitStatement (statement_of z)) o.binds_nothing t) o.says

-- .. and no handler affirms or denies it
pub statement_handlers : (s : Tree) → IsTraitStatement s → IsHandlers s
statement_handlers (node (label.Clause (clause.Trait i)) ts) t = tt
statement_handlers (node (label.Clause (clause.HostEffect i)) ts) t = tt
statement_handlers s t = absurd t

pub trait_not_affirmed : (j : Judgements) (e g : Tree) → IsTraitStatement (statement_of g) → SaysAffirmed j e g → ⊥
trait_not_affirmed j e g t a = affirmed_no_handlers j e a.statement a.affirmed (statement_handlers a.statement (subst (λ z. IsTraitStatement (statement_of z)) a.binds_nothing t))

pub trait_has_no_way : (j : Judgements) (e g : Tree) (x : Candidate) → IsTraitStatement (statement_of g) → HasOwnWay j e g x → ⊥
trait_has_no_way j e g x t w = way_no_handlers j e w.statement x w.way (statement_handlers w.statement (subst (λ z. IsTraitStatement (statement_of z)) w.binds_nothing t))

pub trait_not_denied : (j : Judgements) (g : Tree) → IsTraitStatement (statement_of g) → IsDenied j (statement_of g) → ⊥
trait_not_denied j g t d = denied_no_handlers j (statement_of g) d (statement_handlers (statement_of g) t)

pub trait_says_no_subtype : (g a b : Tree) → IsTraitStatement (statement_of g) → IsSubtyping g a b → ⊥
trait_says_no_subtype g a b t said = subtyping_no_handlers g a b said (statement_handlers (statement_of g) t)

-- .. is not about an alias
pub trait_says_no_alias : (s : Tree) → IsTraitStatement s → IsAliasStatement s → ⊥
trait_says_no_alias (node (label.Clause (clause.Trait i)) ts) t a = a
trait_says_no_alias (node (label.Clause (clause.HostEffect i)) ts) t a = a
trait_says_no_alias s t a = absurd t

-- what says something of a region says so with its regions
pub region_blurred : (t : Tree) → SaysOfRegion (by_leaves merged_leaf t) → SaysOfRegion t
region_blurred (node (label.Clause clause.RegionOutlives) ts) h = tt
region_blurred (node (label.Clause clause.TypeOutlives) ts) h = tt
region_blurred t h = absurd h

pub region_of : (s : Tree) (x : Constraint) → SaysOutlives x s → SaysOfRegion s
region_of s x region_outlives = tt
region_of s x type_outlives = tt

-- the two sides
sides : (p q : Place) (c : Tree) → HavePlaces (p ∷ q ∷ []) c → (a : Tree) × (b : Tree) × (c ≡ pair a b)
sides p q (more a (more b empty)) h = (a, b, refl)
sides p q (more a empty) h = absurd h.1
sides p q (more a (node l c)) h = absurd h.1
sides p q (more a (more b (more c d))) h = absurd h.1.1
sides p q (more a (more b (node l c))) h = absurd h.1.1
sides p q c h = absurd h

pub says_outlives : (s : Tree) → SaysOfRegion s → IsFormed s → (x : Constraint) × SaysOutlives x s
says_outlives (node (label.Clause clause.RegionOutlives) ts) h f = (let w = sides a_region a_region ts f.0 in (_, subst (λ z. SaysOutlives (record { relation = relation.RegionOutlives; left = w.0; right = w.1 }) (node (label.Clause clause.RegionOutlives) z)) (sym w.2) region_outlives))
says_outlives (node (label.Clause clause.TypeOutlives) ts) h f = (let w = sides a_type a_region ts f.0 in (_, subst (λ z. SaysOutlives (record { relation = relation.TypeOutlives; left = w.0; right = w.1 }) (node (label.Clause clause.TypeOutlives) z)) (sym w.2) type_outlives))
says_outlives s h f = absurd h

-- what is closed once it is opened is closed but for one binder
if_closed : (b : Bool) (c d n : ℕ) (s : Sort) (x : Leaf) (u : Tree) → (b ≡ true → d ≡ c) → IsClosedUnder c (blurred (if b then leaf_tree x else node (label.Bound s (index.Bound d) n) u)) → d < c + 1
if_closed true c d n s x u e h = (let q : d ≡ c = e refl in omega (arith, q))
if_closed false c d n s x u e h = (let q : d < c = h.0 in omega (arith, q))

further : (c k : ℕ) (t : Tree) → IsClosedUnder (c + k + 1) t → IsClosedUnder (c + 1 + k) t
further c k t h = subst (λ z. IsClosedUnder z t) (let e : c + k + 1 ≡ c + 1 + k = omega arith in e) h

closed_label : (f : Sort → ℕ → Leaf) (c : ℕ) (l : Label) (t u : Tree) → IsFormed (node l t) → (IsClosedUnder (c + binders l) (blurred u) → IsClosedUnder (c + binders l + 1) t) → IsClosedUnder c (blurred (opened_at f c l u)) → IsClosedUnder (c + 1) (node l t)
closed_label f c (label.Leaf x) t u k up h = (tt, rw (leaf_alone x t k) tt)
closed_label f c (label.Bound s (index.Bound d) n) t u k up h = (if_closed (d == c) c d n s (f s n) u (λ e. same d c e) h, rw (no_children t k.0) tt)
  where
    same : (d c : ℕ) → (d == c) ≡ true → d ≡ c
    same d c e = elim (eqb_tells d c) [ inl q ↦ q.1 | inr q ↦ absurd (cc (e, q.0)) ]
closed_label f c (label.Bound s index.Canonical n) t u k up h = (tt, rw (no_children t k.0) tt)
closed_label f c (label.Ty x) t u k up h = (tt, further c (binders (label.Ty x)) t (up h.1))
closed_label f c (label.Const x) t u k up h = (tt, further c (binders (label.Const x)) t (up h.1))
closed_label f c (label.Clause x) t u k up h = (tt, further c (binders (label.Clause x)) t (up h.1))
closed_label f c (label.Predicate x) t u k up h = (tt, further c (binders (label.Predicate x)) t (up h.1))
closed_label f c (label.List x) t u k up h = (tt, further c (binders (label.List x)) t (up h.1))

closed_once_opened : (f : Sort → ℕ → Leaf) (c : ℕ) (t : Tree) → IsFormed t → IsClosedUnder c (blurred (opened f c t)) → IsClosedUnder (c + 1) t
closed_once_opened f c empty k h = tt
closed_once_opened f c (more a b) k h = (closed_once_opened f c a k.0 h.0, closed_once_opened f c b k.1 h.1)
closed_once_opened f c (node l t) k h = closed_label f c l t (opened f (c + binders l) t) k (closed_once_opened f (c + binders l) t k.1) h

-- the sorts that a binder lists
sort_closed : (d : ℕ) (a : Tree) → kind_of a ≡ Some one_sort → IsFormed a → IsClosedUnder d a
sort_closed d (node (label.List (list.Sort s)) c) k f = (tt, rw (no_children c f.0) tt)
sort_closed d a k f = absurd (cc k)

sorts_closed : (d : ℕ) (ss : Tree) → AllFit (is one_sort) ss → IsFormed ss → IsClosedUnder d ss
sorts_closed d empty h f = tt
sorts_closed d (more a b) h f = (sort_closed d a h.0 f.0, sorts_closed d b h.1 f.1)
sorts_closed d (node l c) h f = absurd h

unbound_statement : (s t : Tree) → unbound s ≡ unbound t → s ≡ t
unbound_statement s t e = cc e

-- a decided goal that binds variables is closed
pub decided_is_closed : (h : Handler) (mode : Mode) (n : ℕ) (c : Content) (e g : Tree) (b : Bool) → c.universe ≡ top_level (pair (blurred_environment e) (blurred g)) → IsFormed g → binds g ≡ true → IsGoalDecided h mode n e g b → IsClosed g
decided_is_closed h mode n c e g b u formed some d =
    let a = closed_once h mode (blurred_environment e) (blurred g) n b d in
    let o : blurred (opened_in c g) ≡ opened_next (blurred_environment e) (blurred g) = opened_so c e g (sym u) in
    let f : Sort → ℕ → Leaf = placeholder_in (c.universe + 1) in
    let shown : opened_in c g ≡ unbound (opened f 0 (statement_of g)) = rw some refl in
    let same : blurred (opened f 0 (statement_of g)) ≡ a.statement = unbound_statement (blurred (opened f 0 (statement_of g))) a.statement (ap blurred (sym shown) ∙ o ∙ a.binds_nothing) in
    let inner : IsClosedUnder 0 (blurred (opened f 0 (statement_of g))) = subst IsClosed (sym same) a.closed in
    let y = binding g some in
    let whole : IsFormed (bound (more y.sort y.sorts) y.says) = subst IsFormed y.is formed in
    let says : IsFormed (statement_of g) = subst IsFormed (sym (ap statement_of y.is)) whole.1.1.0 in
    let under : IsClosedUnder 1 (statement_of g) = closed_once_opened f 0 (statement_of g) says inner in
    subst IsClosed (sym y.is) (tt, ((tt, sorts_closed 1 (more y.sort y.sorts) whole.1.0.0 whole.1.0.1), (subst (IsClosedUnder 1) (ap statement_of y.is) under, tt)))
