-- A goal that binds variables: where it is proved, it follows with the placeholders that an engine chose, once the proof is renamed.
use Rattle.std.proofs.Common.{◌≡◌, inl, inr, ℕ, ◌+◌, true, false, Some, refl, sym, ap, subst, ◌∙◌}
use Rattle.std.specs.Prelude.{◌⊎◌, Bool, ◌==◌, if◌then◌else◌}
use Rattle.nts_model.specs.declared.labels.Sort.{Sort}
use Rattle.nts_model.specs.declared.labels.VariableKind.{VariableKind}
use Rattle.nts_model.specs.declared.labels.Leaf.{Leaf}
use Rattle.nts_model.specs.declared.labels.Leaf.TheVariants as leaf
use Rattle.nts_model.specs.declared.labels.BoundVarIndexKind.TheVariants as index
use Rattle.nts_model.specs.declared.labels.Label.{Label}
use Rattle.nts_model.specs.declared.labels.Label.TheVariants as label
use Rattle.nts_model.specs.Terms.Trees.{Tree, empty, more, node, binders, IsFormed, variable_of}
use Rattle.nts_model.specs.Tables.Contents.{Content}
use Rattle.nts_model.specs.Tables.Resolving.{Knows, KnowsVariable}
use Rattle.nts_model.specs.Tables.Worlds.{World, inst, IsFitting}
use Rattle.nts_model.specs.Terms.Substitutions.{leaf_tree, put, replace, Occurs, Renaming, rename}
use Rattle.nts_model.specs.Derivations.Related.{Constraint, pair, unbound}
use Rattle.nts_model.specs.Derivations.Sequents.{Premise, Hidden}
use Rattle.nts_model.specs.Derivations.Rules.{Mode, Meaning, opened, opened_at, AreFresh, bound, IsPlainRule, IsRule}
use Rattle.nts_model.proofs.Terms.Substituting.{leaf_alone}
use Rattle.nts_model.proofs.Tables.Fitting.{IsClosed-under}
use Rattle.nts_theory.proofs.Derivations.ClosedStatements.{opened_closed}

-- a rule for a goal that binds variables is one for the goal with fresh placeholders, as a goal that binds nothing
module _ (m : Meaning) (mode : Mode) (G : Tree → Type 0) (H : Constraint → Type 0) (D : Hidden → Type 0) (P : Premise → Type 0) where
  abbrev Follows : Tree → Tree → Type 0
  Follows e g = IsRule m mode G H D P e g

  pub record FollowsOpened (e sorts s : Tree) : Type 0 where
    pub fresh : Sort → ℕ → Leaf
    pub are_fresh : AreFresh (pair e (bound sorts s)) fresh
    pub follows : IsRule m mode G H D P e (unbound (opened fresh 0 s))

  bound_parts : (x s y t : Tree) → bound x s ≡ bound y t → s ≡ t
  bound_parts x s y t e = cc e

  pub follows_opened : (e sorts s : Tree) → IsRule m mode G H D P e (bound sorts s) → IsRule m mode G H D P e (unbound s) ⊎ FollowsOpened e sorts s
  follows_opened e sorts s (inl (t, is, plain)) = inl (inl (s, refl, subst (IsPlainRule m mode G H D P e) (sym (bound_parts sorts s empty t is)) plain))
  follows_opened e sorts s (inr (x, t, f, is, fresh, plain)) =
      let same : s ≡ t = bound_parts sorts s x t is in
      inr (record {
        fresh = f;
        are_fresh = fresh;
        follows = inl (opened f 0 s, refl, subst (λ z. IsPlainRule m mode G H D P e (opened f 0 z)) (sym same) plain);
      })

-- opening and renaming
renamed_if : (g : Leaf → Tree) (b : Bool) (x : Leaf) (s : Sort) (d n : ℕ) (t : Tree) → replace g (if b then leaf_tree x else node (label.Bound s (index.Bound d) n) t) ≡ (if b then g x else node (label.Bound s (index.Bound d) n) (replace g t))
renamed_if g true x s d n t = refl
renamed_if g false x s d n t = refl

rename_label : (ρ : Renaming) (f : Sort → ℕ → Leaf) (c : ℕ) (l : Label) (t u : Tree) → rename ρ (opened f (c + binders l) t) ≡ u → opened (λ s n. ρ.to (f s n)) (c + binders l) (rename ρ t) ≡ u
    → rename ρ (opened_at f c l (opened f (c + binders l) t)) ≡ opened (λ s n. ρ.to (f s n)) c (rename ρ (node l t))
rename_label ρ f c (label.Leaf x) t u e k = refl
rename_label ρ f c (label.Bound s (index.Bound d) n) t u e k =
    renamed_if (λ l. leaf_tree (ρ.to l)) (d == c) (f s n) s d n (opened f (c + 0) t)
    ∙ ap (λ z. if d == c then leaf_tree (ρ.to (f s n)) else node (label.Bound s (index.Bound d) n) z) (e ∙ sym k)
rename_label ρ f c (label.Bound s index.Canonical n) t u e k = ap (node (label.Bound s index.Canonical n)) (e ∙ sym k)
rename_label ρ f c (label.Ty x) t u e k = ap (node (label.Ty x)) (e ∙ sym k)
rename_label ρ f c (label.Const x) t u e k = ap (node (label.Const x)) (e ∙ sym k)
rename_label ρ f c (label.Clause x) t u e k = ap (node (label.Clause x)) (e ∙ sym k)
rename_label ρ f c (label.Predicate x) t u e k = ap (node (label.Predicate x)) (e ∙ sym k)
rename_label ρ f c (label.List x) t u e k = ap (node (label.List x)) (e ∙ sym k)

pub rename_opened : (ρ : Renaming) (f : Sort → ℕ → Leaf) (c : ℕ) (t : Tree) → rename ρ (opened f c t) ≡ opened (λ s n. ρ.to (f s n)) c (rename ρ t)
rename_opened ρ f c empty = refl
rename_opened ρ f c (more a b) = cc (rename_opened ρ f c a, rename_opened ρ f c b)
rename_opened ρ f c (node l t) = rename_label ρ f c l t _ (rename_opened ρ f (c + binders l) t) refl

-- a renaming that keeps the leaves of a term keeps the term
kept_put : (g : Leaf → Tree) (l : Label) (c d : Tree) → IsFormed (node l c) → ((x : Leaf) → Occurs x (node l c) → g x ≡ leaf_tree x) → d ≡ c → put g l d ≡ node l c
kept_put g (label.Leaf x) c d f h e = h x (inl refl) ∙ ap (node (label.Leaf x)) (sym (leaf_alone x c f))
kept_put g (label.Bound a b n) c d f h e = ap (node (label.Bound a b n)) e
kept_put g (label.Ty x) c d f h e = ap (node (label.Ty x)) e
kept_put g (label.Const x) c d f h e = ap (node (label.Const x)) e
kept_put g (label.Clause x) c d f h e = ap (node (label.Clause x)) e
kept_put g (label.Predicate x) c d f h e = ap (node (label.Predicate x)) e
kept_put g (label.List x) c d f h e = ap (node (label.List x)) e

pub kept_tree : (g : Leaf → Tree) (t : Tree) → IsFormed t → ((x : Leaf) → Occurs x t → g x ≡ leaf_tree x) → replace g t ≡ t
kept_tree g empty f h = refl
kept_tree g (more a b) f h = cc (kept_tree g a f.0 (λ x i. h x (inl i)), kept_tree g b f.1 (λ x i. h x (inr i)))
kept_tree g (node l c) f h = kept_put g l c (replace g c) f h (kept_tree g c f.1 (λ x i. h x (inr i)))

-- a renaming that keeps the goal's leaves and brings the rule's placeholders to the engine's
pub record Exchanges (ρ : Renaming) (e s : Tree) (f p : Sort → ℕ → Leaf) : Type 0 where
  pub keeps : (l : Leaf) → Occurs l (pair e s) → ρ.to l ≡ l
  pub brings : (o : Sort) (n : ℕ) → ρ.to (f o n) ≡ p o n

kept_opened : (f p : Sort → ℕ → Leaf) → ((o : Sort) (n : ℕ) → f o n ≡ p o n) → (c : ℕ) (t : Tree) → opened f c t ≡ opened p c t
kept_opened f p h c empty = refl
kept_opened f p h c (more a b) = cc (kept_opened f p h c a, kept_opened f p h c b)
kept_opened f p h c (node l t) = ap (opened_at f c l) (kept_opened f p h (c + binders l) t) ∙ by_label l (opened p (c + binders l) t)
  where
    by_label : (l : Label) (u : Tree) → opened_at f c l u ≡ opened_at p c l u
    by_label (label.Bound s (index.Bound d) n) u = ap (λ z. if d == c then leaf_tree z else node (label.Bound s (index.Bound d) n) u) (h s n)
    by_label (label.Bound s index.Canonical n) u = refl
    by_label (label.Leaf x) u = refl
    by_label (label.Ty x) u = refl
    by_label (label.Const x) u = refl
    by_label (label.Clause x) u = refl
    by_label (label.Predicate x) u = refl
    by_label (label.List x) u = refl

-- what follows is renamed: the goal follows with the engine's placeholders
pub engine_opened : (F : Tree → Tree → Type 0) (ρ : Renaming) → ((e g : Tree) → F e g → F (rename ρ e) (rename ρ g)) → (e s : Tree) (f p : Sort → ℕ → Leaf) → IsFormed (pair e s) → Exchanges ρ e s f p
    → F e (unbound (opened f 0 s)) → F e (unbound (opened p 0 s))
engine_opened F ρ h e s f p k x y =
    let a : rename ρ e ≡ e = kept_tree (λ l. leaf_tree (ρ.to l)) e k.0 (λ l i. ap leaf_tree (x.keeps l (inl i))) in
    let b : rename ρ s ≡ s = kept_tree (λ l. leaf_tree (ρ.to l)) s (k.1.0) (λ l i. ap leaf_tree (x.keeps l (inr (inl i)))) in
    let c : rename ρ (unbound (opened f 0 s)) ≡ unbound (opened p 0 s) =
    ap unbound (rename_opened ρ f 0 s ∙ ap (opened (λ o n. ρ.to (f o n)) 0) b ∙ kept_opened (λ o n. ρ.to (f o n)) p x.brings 0 s) in
    subst (λ z. F z (unbound (opened p 0 s))) a (subst (F (rename ρ e)) c (h e (unbound (opened f 0 s)) y))

-- the engine's opened goal in a world in which the placeholders stand for themselves
module _ (c : Content) (w : World) (fitting : IsFitting c w) (p : Sort → ℕ → Leaf) (themselves : (o : Sort) (n : ℕ) → inst w (leaf_tree (p o n)) ≡ leaf_tree (p o n)) where
  inst_if : (b : Bool) (s : Sort) (d n : ℕ) (t : Tree) → inst w (if b then leaf_tree (p s n) else node (label.Bound s (index.Bound d) n) t) ≡ (if b then leaf_tree (p s n) else node (label.Bound s (index.Bound d) n) (inst w t))
  inst_if true s d n t = themselves s n
  inst_if false s d n t = refl

  opened_variable : (b : ℕ) (k : VariableKind) (n : ℕ) → KnowsVariable c (Some (k, n)) → opened p b (w.tree n) ≡ w.tree n
  opened_variable b k n h = opened_closed p b (w.tree n) (let v = fitting.each n k h in IsClosed-under b (w.tree n) v.closed)

  inst_label : (b : ℕ) (l : Label) (t : Tree) → KnowsVariable c (variable_of l) → inst w (opened p (b + binders l) t) ≡ opened p (b + binders l) (inst w t) → inst w (opened_at p b l (opened p (b + binders l) t)) ≡ opened p b (inst w (node l t))
  inst_label b (label.Leaf (leaf.Variable k n)) t h e = sym (opened_variable b k n h)
  inst_label b (label.Leaf (leaf.Region r)) t h e = ap (node (label.Leaf (leaf.Region (w.region r)))) e
  inst_label b (label.Leaf (leaf.TyConstant a)) t h e = ap (node (label.Leaf (leaf.TyConstant a))) e
  inst_label b (label.Leaf (leaf.ConstConstant a)) t h e = ap (node (label.Leaf (leaf.ConstConstant a))) e
  inst_label b (label.Bound s (index.Bound d) n) t h e = inst_if (d == b) s d n (opened p (b + 0) t) ∙ ap (λ z. if d == b then leaf_tree (p s n) else node (label.Bound s (index.Bound d) n) z) e
  inst_label b (label.Bound s index.Canonical n) t h e = ap (node (label.Bound s index.Canonical n)) e
  inst_label b (label.Ty x) t h e = ap (node (label.Ty x)) e
  inst_label b (label.Const x) t h e = ap (node (label.Const x)) e
  inst_label b (label.Clause x) t h e = ap (node (label.Clause x)) e
  inst_label b (label.Predicate x) t h e = ap (node (label.Predicate x)) e
  inst_label b (label.List x) t h e = ap (node (label.List x)) e

  pub inst_opened : (b : ℕ) (t : Tree) → Knows c t → inst w (opened p b t) ≡ opened p b (inst w t)
  inst_opened b empty k = refl
  inst_opened b (more x y) k = cc (inst_opened b x k.0, inst_opened b y k.1)
  inst_opened b (node l t) k = inst_label b l t k.0.0 (inst_opened (b + binders l) t k.1)
