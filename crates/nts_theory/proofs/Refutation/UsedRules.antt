-- What follows by a rule in coherence, by values without aliases, follows by a use of a clause.
use Rattle.std.proofs.Common.{◌≡◌, ◌⊎◌, inl, inr, ℕ, ◌+◌, Bool, true, false, Some, List, refl, sym, ap, subst, ◌∙◌}
use Rattle.std.specs.Prelude.{◌==◌, if◌then◌else◌}
use Rattle.nts_model.specs.declared.labels.Sort.{Sort}
use Rattle.nts_model.specs.declared.labels.Variance.TheVariants as variance
use Rattle.nts_model.specs.declared.labels.Relation.TheVariants as relation
use Rattle.nts_model.specs.declared.labels.Leaf.{Leaf}
use Rattle.nts_model.specs.declared.labels.BoundVarIndexKind.TheVariants as index
use Rattle.nts_model.specs.declared.labels.ClauseHead.TheVariants as clause
use Rattle.nts_model.specs.declared.labels.PredicateHead.TheVariants as predicate
use Rattle.nts_model.specs.declared.labels.AliasHead.{AliasHead}
use Rattle.nts_model.specs.declared.labels.AliasHead.TheVariants as alias_of
use Rattle.nts_model.specs.declared.labels.Label.{Label}
use Rattle.nts_model.specs.declared.labels.Label.TheVariants as label
use Rattle.nts_model.specs.Terms.Trees.{Tree, empty, more, node, kind_of, statement, binders, any_term, FitsPlace, IsClosed, IsFormed}
use Rattle.nts_model.specs.Tables.Passing.{AllLabels}
use Rattle.nts_model.specs.Terms.Substitutions.{leaf_tree, put, replace}
use Rattle.nts_model.specs.Derivations.Related.{Constraint, pair, unbound, value, alias, alias_goal, IsAlias}
use Rattle.nts_model.specs.Lists.{Among}
use Rattle.nts_model.specs.Derivations.Sequents.{Premise, Hidden}
use Rattle.nts_model.specs.Derivations.Rules.{coherence, Equation, related, alike, Application, Meaning, GoalKind, IsTerm, goal_kind, Replaced, choice, Stands, opened, opened_at, relating, IsHandlers, KeepsAliases, statement_of, HoldsEquation, IsApplied, AreFresh, HasConstType, of_value, of_alias, of_constant, IsConstResult, const_error, IsBuiltIn, IsPlainRule, bound, IsRule}
use Rattle.nts_model.specs.Derivations.Rules.{region_lives, type_lives, subtyped, coerced, const_typed, error_typed, allowed, dyn_compatible, formed, constant_evaluated, value_evaluated, error_evaluated, alias_evaluated, aliases_relate}
use Rattle.nts_model.specs.Refutation.Choosing.{left_of, right_of}
use Rattle.nts_model.specs.Derivations.Handlers.{Handler}
use Rattle.nts_model.specs.Refutation.Containing.{IsAliasFree, Truth, IsTrueBy, IsGroundLabel, AreGround}
use Rattle.nts_theory.specs.Refutation.Refutation.{HasNoAlias, StandsAsIs, HasPlainSides, HasBareLeaves, IsProvedWithValues, IsGranted, IsNormalAlias, AreMadeOne, unmoved, UsesClause, UsesOpened, binding}
use Rattle.nts_theory.specs.Affirming.{has_type, is_well_formed, SaysOfTwo, outlives_it, is_its_type}
use Rattle.nts_theory.proofs.Derivations.ClosedStatements.{opened_closed}
use Rattle.nts_theory.proofs.Refutation.Outliving.{built_in_holds}
use Rattle.nts_theory.proofs.Derivations.Monotone.{replaced_more}
use Rattle.nts_theory.proofs.Refutation.OpenedTerms.{opened_formed}
use Rattle.nts_theory.proofs.Refutation.Together.{related_together}
use Rattle.nts_theory.proofs.Refutation.WithValues.{bare_formed, bare_replaced}
use Rattle.nts_theory.proofs.Refutation.Covering.{related_equal, related_other, related_apart, alike_equal, predicate_with, unreplaced_goal, replaced_labels, not_built_in, applied_by_rule}

-- statements of a handler, by their labels
abbrev HandlersHead : Label → Type 0
HandlersHead (label.Clause (clause.Trait i)) = Unit {0}
HandlersHead (label.Clause (clause.HostEffect i)) = Unit {0}
HandlersHead (label.Clause (clause.Projection i)) = Unit {0}
HandlersHead (label.Predicate (predicate.NormalizesTo i)) = Unit {0}
HandlersHead l = ⊥

head_of : (l : Label) (c : Tree) → IsHandlers (node l c) → HandlersHead l
head_of (label.Clause (clause.Trait i)) c h = tt
head_of (label.Clause (clause.HostEffect i)) c h = tt
head_of (label.Clause (clause.Projection i)) c h = tt
head_of (label.Predicate (predicate.NormalizesTo i)) c h = tt
head_of l c h = h

by_head : (l : Label) (c : Tree) → HandlersHead l → IsHandlers (node l c)
by_head (label.Clause (clause.Trait i)) c h = tt
by_head (label.Clause (clause.HostEffect i)) c h = tt
by_head (label.Clause (clause.Projection i)) c h = tt
by_head (label.Predicate (predicate.NormalizesTo i)) c h = tt
by_head l c h = h

put_head : (f : Leaf → Tree) (l : Label) (c : Tree) → HandlersHead l → put f l c ≡ node l c
put_head f (label.Clause x) c h = refl
put_head f (label.Predicate x) c h = refl
put_head f l c h = absurd h

pub handlers_replaced : (f : Leaf → Tree) (s : Tree) → IsHandlers s → IsHandlers (replace f s)
handlers_replaced f empty h = absurd h
handlers_replaced f (more a b) h = absurd h
handlers_replaced f (node l c) h = let k = head_of l c h in subst IsHandlers (sym (put_head f l (replace f c) k)) (by_head l (replace f c) k)

opened_head : (f : Sort → ℕ → Leaf) (c : ℕ) (l : Label) (t : Tree) → HandlersHead l → opened_at f c l t ≡ node l t
opened_head f c (label.Clause x) t h = refl
opened_head f c (label.Predicate x) t h = refl
opened_head f c l t h = absurd h

pub handlers_opened : (f : Sort → ℕ → Leaf) (c : ℕ) (s : Tree) → IsHandlers s → IsHandlers (opened f c s)
handlers_opened f c empty h = absurd h
handlers_opened f c (more a b) h = absurd h
handlers_opened f c (node l t) h =
    let k = head_of l t h in
    subst IsHandlers (sym (opened_head f c l (opened f (c + binders l) t) k)) (by_head l (opened f (c + binders l) t) k)

not_bound : (b : Bool) (f : Sort → ℕ → Leaf) (s : Sort) (d n : ℕ) (t : Tree) → IsHandlers (if b then leaf_tree (f s n) else node (label.Bound s (index.Bound d) n) t) → ⊥
not_bound true f s d n t h = h
not_bound false f s d n t h = h

opened_label : (f : Sort → ℕ → Leaf) (c : ℕ) (l : Label) (t u : Tree) → IsHandlers (opened_at f c l t) → IsHandlers (node l u)
opened_label f c (label.Bound s (index.Bound d) n) t u h = absurd (not_bound (d == c) f s d n t h)
opened_label f c (label.Bound s index.Canonical n) t u h = h
opened_label f c (label.Leaf x) t u h = h
opened_label f c (label.Ty x) t u h = h
opened_label f c (label.Const x) t u h = h
opened_label f c (label.Clause x) t u h = by_head (label.Clause x) u (head_of (label.Clause x) t h)
opened_label f c (label.Predicate x) t u h = by_head (label.Predicate x) u (head_of (label.Predicate x) t h)
opened_label f c (label.List x) t u h = h

pub handlers_before : (f : Sort → ℕ → Leaf) (c : ℕ) (s : Tree) → IsHandlers (opened f c s) → IsHandlers s
handlers_before f c empty h = absurd h
handlers_before f c (more a b) h = absurd h
handlers_before f c (node l t) h = opened_label f c l (opened f (c + binders l) t) t h

-- a predicate has a binder
pub record IsPredicate (g : Tree) : Type 0 where
  pub sorts : Tree
  pub statement : Tree
  pub is : g ≡ predicate_with sorts statement

not_unbound : (x xs s t : Tree) → binding x xs s ≡ unbound t → ⊥
not_unbound x xs s t e = let z : more x xs ≡ empty = cc e in cc z

bound_statement : (x xs s y t : Tree) → binding x xs s ≡ bound y t → s ≡ t
bound_statement x xs s y t e = cc e

-- a statement that is not the handler's follows by a rule of the engine
module _ (m : Meaning) (G : Tree → Type 0) (H : Constraint → Type 0) (D : Hidden → Type 0) (P : Premise → Type 0) where
  abbrev pub Engine : Tree → Tree → Type 0
  Engine e s = IsBuiltIn m G H (Stands G P (goal_kind m (unbound s))) e s

  engine_plain : (e s : Tree) → (IsHandlers s → ⊥) → IsPlainRule m coherence G H D P e s → Engine e s
  engine_plain e s n (inl (i, a)) = absurd (n i)
  engine_plain e s n (inr b) = b

  one_unbound : (s t : Tree) → unbound s ≡ unbound t → s ≡ t
  one_unbound s t e = cc e

  one_bound : (sorts s t : Tree) → unbound s ≡ bound sorts t → s ≡ t
  one_bound sorts s t e = cc e

  pub engine_unbound : (e s : Tree) → (IsHandlers s → ⊥) → IsClosed s → IsRule m coherence G H D P e (unbound s) → Engine e s
  engine_unbound e s n c (inl (t, is, r)) = engine_plain e s n (subst (IsPlainRule m coherence G H D P e) (sym (one_unbound s t is)) r)
  engine_unbound e s n c (inr (sorts, t, f, is, fresh, r)) = engine_plain e s n (subst (IsPlainRule m coherence G H D P e) (ap (opened f 0) (sym (one_bound sorts s t is)) ∙ opened_closed f 0 s c) r)

  -- .. with fresh placeholders for what it binds
  pub record EngineOpened (e x xs s : Tree) : Type 0 where
    pub fresh : Sort → ℕ → Leaf
    pub are_fresh : AreFresh (pair e (binding x xs s)) fresh
    pub follows : (IsHandlers (opened fresh 0 s) → ⊥) → Engine e (opened fresh 0 s)

  pub engine_binding : (e x xs s : Tree) → IsRule m coherence G H D P e (binding x xs s) → EngineOpened e x xs s
  engine_binding e x xs s (inl (t, is, r)) = absurd (not_unbound x xs s t is)
  engine_binding e x xs s (inr (y, t, f, is, fresh, r)) =
      record { fresh = f; are_fresh = fresh; follows = λ n. engine_plain e (opened f 0 s) n (subst (λ z. IsPlainRule m coherence G H D P e (opened f 0 z)) (sym (bound_statement x xs s y t is)) r) }

-- where what may be chosen has no aliases, rules of the handler are uses of clauses
module _ (h : Handler) (m : Meaning) (truth : Truth) (Proves : Tree → Tree → Type 0) (same : (a : Application) → m.applies coherence a → h.applies coherence a) (ground : AreGround Proves) (shaped : (e g : Tree) → Proves e g → IsPredicate g)
    (G : Tree → Type 0) (H : Constraint → Type 0) (D : Hidden → Type 0) (P : Premise → Type 0) (unaliased : (v : Tree) → G v → IsAliasFree v) (holds : (x : Constraint) → H x → IsTrueBy truth x.relation x.left x.right) (premised : (q : Premise) → P q → Proves q.environment q.predicate)
    (resolves : (e a b : Tree) → IsAlias a ⊎ IsAlias b → IsClosed a → IsClosed b → Proves e (alias_goal variance.Invariant a b) → AreMadeOne (IsGranted Proves) e a b) where
  abbrev Chosen : GoalKind → Premise → Tree → Tree → Type 0
  Chosen k p a v = G v × P (choice k p a v) × IsTerm v

  alias_fits : (e a v : Tree) → Proves e (alias_goal variance.Invariant a v) → FitsPlace any_term (kind_of v)
  alias_fits e a v p = (let f = ground.formed e (alias_goal variance.Invariant a v) p in f.1.0.1.1.0.0.1.0)

  choice_fits : (k : GoalKind) (p : Premise) (a v : Tree) → Chosen k p a v → FitsPlace any_term (kind_of v)
  choice_fits k p a v c = alias_fits p.environment a v (premised (choice k p a v) c.1)

  choice_ground : (k : GoalKind) (p : Premise) (a v : Tree) → Chosen k p a v → AllLabels IsGroundLabel a
  choice_ground k p a v c = (let f = ground.ground p.environment (alias_goal variance.Invariant a v) (premised (choice k p a v) c.1) in f.1.0.1.1.0.1.0)

  stands_ground : (k : GoalKind) (p : Premise) → Stands G P k p → AllLabels IsGroundLabel (pair p.environment p.predicate)
  stands_ground k p (inl (i, q)) = ground.ground p.environment p.predicate (premised p q)
  stands_ground k p (inr (n, (u, r, q))) =
      let f = ground.ground p.environment u (premised (record p { predicate = u }) q) in
      (f.0, (replaced_labels IsGroundLabel (Chosen k p) (choice_ground k p) p.predicate u f.1.0 r, tt))

  stands_proved : (k : GoalKind) (p : Premise) → Stands G P k p → StandsAsIs p.predicate → Proves p.environment p.predicate
  stands_proved k p (inl (i, q)) s = premised p q
  stands_proved k p (inr (n, (u, r, q))) (inr keeps) = absurd (n keeps)
  stands_proved k p (inr (n, (u, r, q))) (inl none) =
      let here = premised (record p { predicate = u }) q in
      let x = shaped p.environment u here in
      let f = ground.formed p.environment u here in
      let one = unreplaced_goal (Chosen k p) (choice_fits k p) x.sorts x.statement (subst IsFormed x.is f.1.0) p.predicate none (subst (Replaced (Chosen k p) p.predicate) x.is r) in
      subst (Proves p.environment) (x.is ∙ sym one) here

  choice_bare : (k : GoalKind) (p : Premise) (a v : Tree) → Chosen k p a v → HasBareLeaves a
  choice_bare k p a v c = (let f = ground.formed p.environment (alias_goal variance.Invariant a v) (premised (choice k p a v) c.1) in bare_formed a f.1.0.1.1.0.1.0)

  choice_some : (k : GoalKind) (p : Premise) (v a : Tree) → Chosen k p a v → v ≡ empty → ⊥
  choice_some k p v a c e = (let fits = choice_fits k p a v c in subst (λ z. FitsPlace any_term (kind_of z)) e fits)

  stands_with : (k : GoalKind) (p : Premise) → Stands G P k p → (KeepsAliases (statement_of p.predicate) → ⊥) → IsProvedWithValues Proves p.environment p.predicate
  stands_with k p (inl (i, q)) n = absurd (n i)
  stands_with k p (inr (m, (u, r, q))) n =
      let here = premised (record p { predicate = u }) q in
      let f = ground.formed p.environment u here in
      record {
        goal = u;
        bare = bare_replaced (Chosen k p) (choice_bare k p) (choice_some k p) p.predicate u r (bare_formed u f.1.0);
        values = replaced_more (λ a v c. (unaliased v c.0, premised (choice k p a v) c.1)) r;
        proved = here;
      }

  stands_granted : (k : GoalKind) (p : Premise) → Stands G P k p → IsGranted Proves p.environment p.predicate
  stands_granted k p s = record { ground = stands_ground k p s; proved = stands_proved k p s; with_values = stands_with k p s }

  stands_fits : (k : GoalKind) (e a b : Tree) → Stands G P k (relating e (alias_goal variance.Invariant a b)) → FitsPlace any_term (kind_of b)
  stands_fits k e a b s = alias_fits e a b (stands_proved k (relating e (alias_goal variance.Invariant a b)) s (inr tt))

  one_side : (a b : Tree) → H (record { relation = relation.Equal; left = a; right = b }) → a ≡ b
  one_side a b x = holds (record { relation = relation.Equal; left = a; right = b }) x

  equation_equal : (k : GoalKind) (e : Tree) (q : Equation) → HasPlainSides q → HoldsEquation m G H (Stands G P k) e q → left_of q ≡ right_of q
  equation_equal k e (related a b) (inl n) r = related_other m.variances G H (λ z. Stands G P k (relating e z)) one_side (stands_fits k e) variance.Invariant a b refl n r
  equation_equal k e (related a b) (inr n) r = related_equal m.variances G H (λ z. Stands G P k (relating e z)) one_side variance.Invariant a b refl n.0 n.1 r
  equation_equal k e (alike a b) n r = alike_equal _ one_side a b r

  -- the sides of an equation come to one tree
  normal_is : (e a t : Tree) → IsNormalAlias (IsGranted Proves) e a t → IsAlias a × IsClosed t × (kind_of t ≡ kind_of a)
  normal_is e a t x = (x.alias, x.ends, x.kind)

  made_one : (k : GoalKind) (e a b : Tree) → IsFormed a → HoldsEquation m G H (Stands G P k) e (related a b) → AreMadeOne (IsGranted Proves) e a b
  made_one k e a b f r =
      related_together m.variances G H (λ z. Stands G P k (relating e z)) (IsNormalAlias (IsGranted Proves) e) one_side unaliased (normal_is e)
      (λ x y i cx cy p. resolves e x y i cx cy (stands_proved k (relating e (alias_goal variance.Invariant x y)) p (inr tt))) variance.Invariant a b refl f r

  uses_applied : (k : GoalKind) (e s : Tree) → IsFormed (pair e (unbound s)) → IsApplied m coherence G H D (Stands G P k) e (unbound s) → UsesClause h truth Proves e s
  uses_applied k e s f a =
      record {
        use_of = a.use_of;
        carrier = unmoved;
        applies = same a.use_of a.applies;
        formed = (subst IsFormed (sym a.environment) f.0, (subst IsFormed (sym a.conclusion) f.1.0, tt));
        environment = a.environment;
        conclusion = a.conclusion;
        values = λ v i. (let x = a.values v i in unaliased v x.0);
        equal = λ q i n. equation_equal k e q n (a.equations q i);
        aliased = λ x y i fx. made_one k e x y fx (a.equations (related x y) i);
        apart = λ x y i t. related_apart m.variances G H (λ z. Stands G P k (relating e z)) one_side variance.Invariant x y refl t (a.equations (related x y) i);
        met = λ x i. holds x (a.constraints x i);
        goals = λ p i. stands_granted k p (a.goals p i);
      }

  uses_plain : (e s : Tree) → IsFormed (pair e (unbound s)) → IsHandlers s → IsPlainRule m coherence G H D P e s → UsesClause h truth Proves e s
  uses_plain e s f i (inl (j, a)) = uses_applied (goal_kind m (unbound s)) e s f a
  uses_plain e s f i (inr b) = absurd (not_built_in m G H _ e s i b)

  pub uses_unbound : (e s : Tree) → IsFormed (pair e (unbound s)) → IsHandlers s → IsClosed s → IsRule m coherence G H D P e (unbound s) → UsesClause h truth Proves e s
  uses_unbound e s f i c r = uses_applied (goal_kind m (unbound s)) e s f (applied_by_rule m coherence G H D P e s i c r)

  pub unbound_unmoved : (e s : Tree) (f : IsFormed (pair e (unbound s))) (i : IsHandlers s) (c : IsClosed s) (r : IsRule m coherence G H D P e (unbound s)) → (uses_unbound e s f i c r).carrier ≡ unmoved
  unfolding uses_unbound uses_applied
  unbound_unmoved e s f i c r = refl

  handlers_statement : (s : Tree) → IsHandlers s → kind_of s ≡ Some statement
  handlers_statement (node (label.Clause x) c) i = refl
  handlers_statement (node (label.Predicate x) c) i = refl
  handlers_statement (node (label.Leaf x) c) i = absurd i
  handlers_statement (node (label.Bound x y z) c) i = absurd i
  handlers_statement (node (label.Ty x) c) i = absurd i
  handlers_statement (node (label.Const x) c) i = absurd i
  handlers_statement (node (label.List x) c) i = absurd i
  handlers_statement empty i = absurd i
  handlers_statement (more a b) i = absurd i

  -- .. opened with fresh placeholders
  pub uses_binding : (e x xs s : Tree) → IsFormed (pair e (binding x xs s)) → IsHandlers s → IsRule m coherence G H D P e (binding x xs s) → UsesOpened h truth Proves e (binding x xs s) s
  uses_binding e x xs s g i (inl (t, is, r)) = absurd (not_unbound x xs s t is)
  uses_binding e x xs s g i (inr (y, t, f, is, fresh, r)) =
      let same : s ≡ t = bound_statement x xs s y t is in
      let there = handlers_opened f 0 s i in
      let inside : IsFormed (opened f 0 s) = opened_formed f fresh.sorts 0 s (let b = g.1.0 in b.1.1.0) in
      record {
        fresh = f;
        are_fresh = fresh;
        uses = uses_plain e (opened f 0 s) (g.0, (((refl, (handlers_statement (opened f 0 s) there, tt)), ((tt, tt), (inside, tt))), tt)) there (subst (λ z. IsPlainRule m coherence G H D P e (opened f 0 z)) (sym same) r);
      }

  -- the type of a value is the one that it has
  value_no_alias : (b : ℕ) (u : Tree) → IsAlias (value b u) → ⊥
  value_no_alias b u i = by_kind i.head i.is
    where
      by_kind : (a : AliasHead) → value b u ≡ alias a i.parts → ⊥
      by_kind (alias_of.Ty n) q = cc q
      by_kind (alias_of.Const n) q = cc q

  value_itself : (e c r : Tree) (k : GoalKind) (b : ℕ) (u : Tree) → IsConstResult G (Stands G P k) e c r → c ≡ value b u → r ≡ value b u
  value_itself e c r k b u (inl (same, x)) q = same ∙ q
  value_itself e c r k b u (inr (i, z, x, y)) q = absurd (value_no_alias b u (subst IsAlias q i))

  type_itself : (e r w : Tree) (b : ℕ) (u : Tree) → HasConstType m e r w → r ≡ value b u → w ≡ u
  type_itself e r w b u of_value q = cc q
  type_itself e r w b u of_alias q = cc q
  type_itself e r w b u (of_constant x) q = cc q

  pub typed_equal : (e s : Tree) (b : ℕ) (u t : Tree) → HasNoAlias u → HasNoAlias t → Engine m G H D P e s → s ≡ has_type (value b u) t → u ≡ t
  typed_equal e s b u t nu nt (const_typed {c = c} {t = z} r w x y rel) q =
      let k = goal_kind m (unbound s) in
      let const : c ≡ value b u = cc q in
      let last : z ≡ t = cc q in
      let own : w ≡ u = type_itself e r w b u y (value_itself e c r k b u x const) in
      sym own ∙ related_equal m.variances G H (λ v. Stands G P k (relating e v)) one_side variance.Invariant w z refl (subst HasNoAlias (sym own) nu) (subst HasNoAlias (sym last) nt) rel ∙ last
  typed_equal e s b u t nu nt (error_typed {c = c} x) q =
      let const : c ≡ value b u = cc q in
      let wrong : const_error ≡ value b u = value_itself e c const_error (goal_kind m (unbound s)) b u x const in
      cc wrong
  typed_equal e s b u t nu nt (region_lives i j x) q = cc q
  typed_equal e s b u t nu nt (type_lives i x) q = cc q
  typed_equal e s b u t nu nt (subtyped x r) q = cc q
  typed_equal e s b u t nu nt (coerced r) q = cc q
  typed_equal e s b u t nu nt (allowed x) q = cc q
  typed_equal e s b u t nu nt (dyn_compatible x) q = cc q
  typed_equal e s b u t nu nt (formed gs x y) q = cc q
  typed_equal e s b u t nu nt constant_evaluated q = cc q
  typed_equal e s b u t nu nt value_evaluated q = cc q
  typed_equal e s b u t nu nt error_evaluated q = cc q
  typed_equal e s b u t nu nt (alias_evaluated x) q = cc q
  typed_equal e s b u t nu nt (aliases_relate r w x y z) q = cc q

  -- what a term is well formed by is granted
  some_is : (xs ys : List Premise) → Some xs ≡ Some ys → xs ≡ ys
  some_is xs ys e = cc e

  pub formed_proved : (e s t : Tree) (gs : List Premise) → Engine m G H D P e s → s ≡ is_well_formed t → m.well_formed_goals e t ≡ Some gs → (g : Premise) → Among gs g → IsGranted Proves g.environment g.predicate
  formed_proved e s t gs (formed {t = u} hs given each) q same g i =
      let one : u ≡ t = cc q in
      let all : hs ≡ gs = some_is hs gs (sym given ∙ ap (m.well_formed_goals e) one ∙ same) in
      stands_granted (goal_kind m (unbound s)) g (each g (subst (λ z. Among z g) (sym all) i))
  formed_proved e s t gs (region_lives i j x) q same g a = cc q
  formed_proved e s t gs (type_lives i x) q same g a = cc q
  formed_proved e s t gs (subtyped x r) q same g a = cc q
  formed_proved e s t gs (coerced r) q same g a = cc q
  formed_proved e s t gs (const_typed r w x y z) q same g a = cc q
  formed_proved e s t gs (error_typed x) q same g a = cc q
  formed_proved e s t gs (allowed x) q same g a = cc q
  formed_proved e s t gs (dyn_compatible x) q same g a = cc q
  formed_proved e s t gs constant_evaluated q same g a = cc q
  formed_proved e s t gs value_evaluated q same g a = cc q
  formed_proved e s t gs error_evaluated q same g a = cc q
  formed_proved e s t gs (alias_evaluated x) q same g a = cc q
  formed_proved e s t gs (aliases_relate r w x y z) q same g a = cc q

  -- what is said of two terms is so
  pub said_true : (e s : Tree) (x : Constraint) → Engine m G H D P e s → HasNoAlias s → SaysOfTwo x s → IsTrueBy truth x.relation x.left x.right
  said_true e s x b n (outlives_it says) = holds x (built_in_holds m G H (Stands G P (goal_kind m (unbound s))) e s x says b)
  said_true e s x b n (is_its_type {b = i} {u = u} {t = t}) = typed_equal e s i u t n.1.0.1.0 n.1.1.0 b refl
