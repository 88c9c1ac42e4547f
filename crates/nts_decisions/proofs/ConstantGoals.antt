-- Terms without variables, whose placeholders a universe names.
use Rattle.std.proofs.Common.{◌≡◌, inl, inr, ℕ, zero, suc, ◌+◌, ◌≤◌, Bool, true, false, List, [], ◌∷◌, Some, None, refl, subst, arith}
use Rattle.std.specs.Prelude.{Option, get_or, if◌then◌else◌, ◌==◌}
use Rattle.nts_model.specs.declared.labels.Sort.{Sort}
use Rattle.nts_model.specs.declared.labels.Sort.TheVariants as sort
use Rattle.nts_model.specs.declared.labels.FreeRegion.TheVariants as region
use Rattle.nts_model.specs.declared.labels.Leaf.{Leaf}
use Rattle.nts_model.specs.declared.labels.Leaf.TheVariants as leaf
use Rattle.nts_model.specs.declared.labels.BoundVarIndexKind.TheVariants as index
use Rattle.nts_model.specs.declared.labels.Label.{Label}
use Rattle.nts_model.specs.declared.labels.Label.TheVariants as label
use Rattle.nts_model.specs.Terms.Trees.{Tree, empty, more, node, is_infer, is_region_infer, binders}
use Rattle.nts_model.specs.Terms.Placeholders.{leaf_level, CanName}
use Rattle.nts_model.specs.Tables.Levels.{term_level, NamesAll}
use Rattle.nts_model.specs.Terms.Substitutions.{leaf_tree, filled, position_of, value_or}
use Rattle.nts_model.specs.Lists.{Among}
use Rattle.nts_model.specs.Derivations.Related.{pair}
use Rattle.nts_model.specs.Derivations.Rules.{Equation, related, alike, opened, opened_at}
use Rattle.nts_model.specs.Derivations.Handlers.{Candidate, IsFixed, IsOver, IsCandidateFor, IsEquationOver}
use Rattle.nts_model.specs.Refutation.Choosing.{left_of, right_of}
use Rattle.nts_model.specs.Refutation.Opening.{placeholder_in}
use Rattle.nts_decisions.specs.Deciding.{level_or_root, top_level}
use Rattle.nts_decisions.proofs.DecidedGoals.{IsOfConstants}
use Rattle.nts_decisions.specs.Queries.{AreConstants, HasNoVariables, IsNamedConstant}

abbrev AtLabel : ℕ → Label → Type 0
AtLabel u l = (x : Leaf) → label.Leaf x ≡ l → IsNamedConstant u x

plain_leaf : (u : ℕ) (x : Leaf) → IsNamedConstant u x → (is_infer (label.Leaf x) ≡ false) × (is_region_infer (label.Leaf x) ≡ false)
plain_leaf u (leaf.Variable k n) h = absurd h
plain_leaf u (leaf.Region r) h = (refl, refl)
plain_leaf u (leaf.TyConstant a) h = (refl, refl)
plain_leaf u (leaf.ConstConstant a) h = (refl, refl)

plain_label : (u : ℕ) (l : Label) → AtLabel u l → (is_infer l ≡ false) × (is_region_infer l ≡ false)
plain_label u (label.Leaf x) h = plain_leaf u x (h x refl)
plain_label u (label.Bound s i n) h = (refl, refl)
plain_label u (label.Ty x) h = (refl, refl)
plain_label u (label.Const x) h = (refl, refl)
plain_label u (label.Clause x) h = (refl, refl)
plain_label u (label.Predicate x) h = (refl, refl)
plain_label u (label.List x) h = (refl, refl)

pub no_variables : (u : ℕ) (t : Tree) → AreConstants u t → HasNoVariables t
no_variables u empty h = record { infer = refl; regions = refl }
no_variables u (more a b) h =
    let x = no_variables u a (λ l o. h l (inl o)) in
    let y = no_variables u b (λ l o. h l (inr o)) in
    record { infer = rw (x.infer, y.infer) refl; regions = rw (x.regions, y.regions) refl }
no_variables u (node l c) h =
    let x = plain_label u l (λ x e. h x (inl e)) in
    let y = no_variables u c (λ l o. h l (inr o)) in
    record { infer = rw (x.0, y.infer) refl; regions = rw (x.1, y.regions) refl }

named_leaf : (u : ℕ) (x : Leaf) → IsNamedConstant u x → CanName u (term_level (label.Leaf x))
named_leaf u (leaf.Variable k n) h = absurd h
named_leaf u (leaf.Region r) h = tt
named_leaf u (leaf.TyConstant a) h = h
named_leaf u (leaf.ConstConstant a) h = h

named_label : (u : ℕ) (l : Label) → AtLabel u l → CanName u (term_level l)
named_label u (label.Leaf x) h = named_leaf u x (h x refl)
named_label u (label.Bound s i n) h = tt
named_label u (label.Ty x) h = tt
named_label u (label.Const x) h = tt
named_label u (label.Clause x) h = tt
named_label u (label.Predicate x) h = tt
named_label u (label.List x) h = tt

pub names_terms : (u : ℕ) (t : Tree) → AreConstants u t → NamesAll term_level u t
names_terms u empty h = tt
names_terms u (more a b) h = (names_terms u a (λ l o. h l (inl o)), names_terms u b (λ l o. h l (inr o)))
names_terms u (node l c) h = (named_label u l (λ x e. h x (inl e)), names_terms u c (λ x o. h x (inr o)))

low_leaf : (u : ℕ) (x : Leaf) → IsNamedConstant u x → CanName u (leaf_level (label.Leaf x))
low_leaf u (leaf.Variable k n) h = absurd h
low_leaf u (leaf.Region r) h = h
low_leaf u (leaf.TyConstant a) h = h
low_leaf u (leaf.ConstConstant a) h = h

low_label : (u : ℕ) (l : Label) → AtLabel u l → CanName u (leaf_level l)
low_label u (label.Leaf x) h = low_leaf u x (h x refl)
low_label u (label.Bound s i n) h = tt
low_label u (label.Ty x) h = tt
low_label u (label.Const x) h = tt
low_label u (label.Clause x) h = tt
low_label u (label.Predicate x) h = tt
low_label u (label.List x) h = tt

low_enough : (u : ℕ) (o : Option ℕ) → CanName u o → level_or_root o ≤ u
low_enough u None h = omega arith
low_enough u (Some v) h = h

pub top_below : (u : ℕ) (t : Tree) → AreConstants u t → top_level t ≤ u
top_below u empty h = omega arith
top_below u (more a b) h =
    let x = top_below u a (λ l o. h l (inl o)) in
    let y = top_below u b (λ l o. h l (inr o)) in
    omega (arith, x, y)
top_below u (node l c) h =
    let x = low_enough u (leaf_level l) (low_label u l (λ x e. h x (inl e))) in
    let y = top_below u c (λ l o. h l (inr o)) in
    omega (arith, x, y)

-- opening and filling
pub of_leaf : (u : ℕ) (x : Leaf) → IsNamedConstant u x → AreConstants u (leaf_tree x)
of_leaf u x h l (inl e) = subst (IsNamedConstant u) (cc e) h
of_leaf u x h l (inr o) = absurd o

own_name : (v : ℕ) (s : Sort) (n : ℕ) → IsNamedConstant v (placeholder_in v s n)
own_name v sort.Ty n = omega arith
own_name v sort.Const n = omega arith
own_name v sort.Region n = omega arith

if_opened : (v : ℕ) (b : Bool) (x : Leaf) (l : Label) (t : Tree) → IsNamedConstant v x → AreConstants v (node l t) → AreConstants v (if b then leaf_tree x else node l t)
if_opened v true x l t h k = of_leaf v x h
if_opened v false x l t h k = k

above_label : (v : ℕ) (l : Label) (t : Tree) → ((x : Leaf) → label.Leaf x ≡ l → IsNamedConstant v x) → AreConstants v t → AreConstants v (node l t)
above_label v l t h k x (inl e) = h x e
above_label v l t h k x (inr o) = k x o

opened_label : (v c : ℕ) (l : Label) (t : Tree) → AtLabel v l → AreConstants v t → AreConstants v (opened_at (placeholder_in v) c l t)
opened_label v c (label.Leaf x) t h k = above_label v (label.Leaf x) t h k
opened_label v c (label.Bound s (index.Bound d) n) t h k = if_opened v (d == c) (placeholder_in v s n) (label.Bound s (index.Bound d) n) t (own_name v s n) (above_label v (label.Bound s (index.Bound d) n) t h k)
opened_label v c (label.Bound s index.Canonical n) t h k = above_label v (label.Bound s index.Canonical n) t h k
opened_label v c (label.Ty x) t h k = above_label v (label.Ty x) t h k
opened_label v c (label.Const x) t h k = above_label v (label.Const x) t h k
opened_label v c (label.Clause x) t h k = above_label v (label.Clause x) t h k
opened_label v c (label.Predicate x) t h k = above_label v (label.Predicate x) t h k
opened_label v c (label.List x) t h k = above_label v (label.List x) t h k

pub opened_constants : (v c : ℕ) (t : Tree) → AreConstants v t → AreConstants v (opened (placeholder_in v) c t)
opened_constants v c empty h = h
opened_constants v c (more a b) h = λ x o. elim o [
  | inl p ↦ opened_constants v c a (λ l q. h l (inl q)) x p
  | inr p ↦ opened_constants v c b (λ l q. h l (inr q)) x p
]
opened_constants v c (node l t) h = opened_label v c l (opened (placeholder_in v) (c + binders l) t) (λ x e. h x (inl e)) (opened_constants v (c + binders l) t (λ x o. h x (inr o)))

value_is : (u : ℕ) (vs : List Tree) (n : ℕ) (d : Tree) → ((v : Tree) → Among vs v → AreConstants u v) → AreConstants u (get_or vs n empty)
value_is u [] n d h = λ l o. absurd o
value_is u (v ∷ vs) zero d h = h v (inl refl)
value_is u (v ∷ vs) (suc n) d h = value_is u vs n d (λ w i. h w (inr i))

filled_label : (u : ℕ) (vs : List Tree) (l : Label) (t : Tree) → ((v : Tree) → Among vs v → AreConstants u v) → AtLabel u l → AreConstants u t → AreConstants u (value_or (position_of l) vs (node l t))
filled_label u vs (label.Leaf x) t g h k = above_label u (label.Leaf x) t h k
filled_label u vs (label.Bound s (index.Bound d) n) t g h k = above_label u (label.Bound s (index.Bound d) n) t h k
filled_label u vs (label.Bound s index.Canonical n) t g h k = value_is u vs n empty g
filled_label u vs (label.Ty x) t g h k = above_label u (label.Ty x) t h k
filled_label u vs (label.Const x) t g h k = above_label u (label.Const x) t h k
filled_label u vs (label.Clause x) t g h k = above_label u (label.Clause x) t h k
filled_label u vs (label.Predicate x) t g h k = above_label u (label.Predicate x) t h k
filled_label u vs (label.List x) t g h k = above_label u (label.List x) t h k

pub filled_constants : (u : ℕ) (vs : List Tree) (t : Tree) → ((v : Tree) → Among vs v → AreConstants u v) → AreConstants u t → AreConstants u (filled vs t)
filled_constants u vs empty g h = h
filled_constants u vs (more a b) g h = λ x o. elim o [
  | inl p ↦ filled_constants u vs a g (λ l q. h l (inl q)) x p
  | inr p ↦ filled_constants u vs b g (λ l q. h l (inr q)) x p
]
filled_constants u vs (node l t) g h = filled_label u vs l (filled vs t) g (λ x e. h x (inl e)) (filled_constants u vs t g (λ x o. h x (inr o)))

-- what stays itself has no name
pub fixed_constant : (u : ℕ) (l : Leaf) → IsFixed l → IsNamedConstant u l
fixed_constant u (leaf.Region region.Static) h = tt
fixed_constant u (leaf.Region region.Erased) h = tt
fixed_constant u (leaf.Region region.Error) h = tt
fixed_constant u (leaf.Region (region.EarlyParam n)) h = absurd h
fixed_constant u (leaf.Region (region.LateParam n)) h = absurd h
fixed_constant u (leaf.Region (region.Placeholder v n)) h = absurd h
fixed_constant u (leaf.Variable k n) h = absurd h
fixed_constant u (leaf.TyConstant a) h = absurd h
fixed_constant u (leaf.ConstConstant a) h = absurd h

pub over_constants : (u : ℕ) (fresh : List Sort) (e g t : Tree) → AreConstants u (pair e g) → IsOver fresh e g t → AreConstants u t
over_constants u fresh e g t h o l i = elim (o.leaves l i) [ inl j ↦ h l j | inr j ↦ fixed_constant u l j ]

sides_over : (fresh : List Sort) (e g : Tree) (q : Equation) → IsEquationOver fresh e g q → IsOver fresh e g (left_of q) × IsOver fresh e g (right_of q)
sides_over fresh e g (related a b) h = h
sides_over fresh e g (alike a b) h = h

-- the terms of a candidate for a goal without variables
pub candidate_constants : (u : ℕ) (e g : Tree) (x : Candidate) → AreConstants u (pair e g) → IsCandidateFor e g x → IsOfConstants x
candidate_constants u e g x h k =
    record {
      equations = λ q i.
          (let s = sides_over x.fresh e g q (k.equations q i) in
          (no_variables u (left_of q) (over_constants u x.fresh e g (left_of q) h s.0), no_variables u (right_of q) (over_constants u x.fresh e g (right_of q) h s.1)));
      formed = λ q i. (let s = sides_over x.fresh e g q (k.equations q i) in let a = s.0 in let b = s.1 in (a.formed, b.formed));
      goals = λ p i. (let n = k.goals p i in no_variables u p.predicate (over_constants u x.fresh e g p.predicate h n.predicate));
      goals_formed = λ p i. (let n = k.goals p i in let o = n.predicate in o.formed);
    }

pub candidate_names : (u : ℕ) (e g : Tree) (x : Candidate) → AreConstants u (pair e g) → IsCandidateFor e g x → (q : Equation) → Among x.equations q → NamesAll term_level u (left_of q) × NamesAll term_level u (right_of q)
candidate_names u e g x h k q i =
    let s = sides_over x.fresh e g q (k.equations q i) in
    (names_terms u (left_of q) (over_constants u x.fresh e g (left_of q) h s.0), names_terms u (right_of q) (over_constants u x.fresh e g (right_of q) h s.1))
