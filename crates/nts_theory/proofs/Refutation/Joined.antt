-- A theory with the equalities that follow of what aliases normalize to: it is one too.
use Rattle.std.proofs.Common.{◌≡◌, ◌⊎◌, inl, inr, ℕ, ◌+◌, refl, sym, ap, subst, ◌∙◌}
use Rattle.nts_model.specs.declared.labels.AliasRelationDirection.TheVariants as direction
use Rattle.nts_model.specs.declared.labels.PredicateHead.TheVariants as predicate
use Rattle.nts_model.specs.declared.labels.Label.TheVariants as label
use Rattle.nts_model.specs.declared.labels.AliasHead.{AliasHead}
use Rattle.nts_model.specs.declared.labels.AliasHead.TheVariants as alias_of
use Rattle.nts_model.specs.declared.labels.ListHead.TheVariants as list
use Rattle.nts_model.specs.Terms.Trees.{Tree, empty, more, node, kind_of, any_term, FitsPlace, IsClosed, IsFormed}
use Rattle.nts_model.specs.Terms.Placeholders.{leaf_level}
use Rattle.nts_model.specs.Terms.Substitutions.{Renaming, rename}
use Rattle.nts_model.specs.Tables.Levels.{NamesAll}
use Rattle.nts_model.specs.Tables.Passing.{AllLabels}
use Rattle.nts_model.specs.Derivations.Related.{Constraint, pair, unbound, alias, IsAlias}
use Rattle.nts_model.specs.Derivations.Rules.{statement_of, opened, IsHandlers, normalization_goal}
use Rattle.nts_model.specs.Derivations.Handlers.{Handler}
use Rattle.nts_model.specs.Refutation.Opening.{placeholder_in}
use Rattle.nts_model.specs.Refutation.Containing.{Truth, IsTrueBy, IsGroundLabel}
use Rattle.nts_theory.proofs.Derivations.Monotone.{replaced_more}
use Rattle.nts_theory.specs.Affirming.{IsDenied, SaysOfTwo, outlives_it, is_its_type, is_well_formed}
use Rattle.nts_theory.specs.Outliving.{region_outlives, type_outlives}
use Rattle.nts_theory.specs.Aliasing.{alias_relation}
use Rattle.nts_theory.specs.Refutation.Refutation.{HasNoAlias, IsGranted, NormalizeToOne, IsCarrying, IsNormalAlias, AreMadeOne, carry, ComesTo, same_tree, by_alias, by_row, by_node, UsesClause, UsesNamed, binding, GrantsFormed, IsTheory, JoinsEqualities}
use Rattle.nts_theory.proofs.Refutation.PlainTerms.{none_is_alias}
use Rattle.nts_theory.proofs.Refutation.ReachedGoals.{one_alias}
use Rattle.nts_theory.proofs.Refutation.Theories.{granted_renamed, normal_renamed}
use Rattle.nts_theory.proofs.Refutation.Together.{none_free}

-- an alias normalizes to a term, and the other side is that, or normalizes to it
pub record Meets (Granted : Tree → Tree → Type 0) (e a b : Tree) : Type 0 where
  pub term : Tree
  pub first : IsNormalAlias Granted e a term
  pub second : (b ≡ term) ⊎ IsNormalAlias Granted e b term

-- what is proved, or is an equality of two such terms, either way round
pub record IsJoined (Proves : Tree → Tree → Type 0) (e g : Tree) : Type 0 where
  pub left : Tree
  pub right : Tree
  pub is : g ≡ alias_relation direction.Equate left right
  pub meets : Meets (IsGranted Proves) e left right ⊎ Meets (IsGranted Proves) e right left

abbrev pub Joined : (Tree → Tree → Type 0) → Tree → Tree → Type 0
Joined Proves e g = Proves e g ⊎ IsJoined Proves e g

module _ (h : Handler) (truth : Truth) (Proves : Tree → Tree → Type 0) (theory : IsTheory h truth Proves) where
  abbrev Later : Tree → Tree → Type 0
  Later = Joined Proves

  joined_granted : (e g : Tree) → IsGranted Proves e g → IsGranted Later e g
  joined_granted e g x =
      record {
        ground = x.ground;
        proved = λ s. inl (x.proved s);
        with_values = λ n. (let y = x.with_values n in record { goal = y.goal; bare = y.bare; values = replaced_more (λ a v c. (c.0, inl c.1)) y.values; proved = inl y.proved });
      }

  -- what an alias normalizes to later, it does before
  normal_later : (e a t : Tree) → IsNormalAlias (IsGranted Proves) e a t → IsNormalAlias (IsGranted Later) e a t
  normal_later e a t x = (let i = x.alias in record { alias = i; ends = x.ends; none = x.none; kind = x.kind; granted = joined_granted e (normalization_goal i.head i.parts t) x.granted })

  no_normalization : (h : AliasHead) (ts t a b : Tree) → normalization_goal h ts t ≡ alias_relation direction.Equate a b → ⊥
  no_normalization h ts t a b i = cc i

  normal_before : (e a t : Tree) → IsNormalAlias (IsGranted Later) e a t → IsNormalAlias (IsGranted Proves) e a t
  normal_before e a t x =
      let i = x.alias in
      let g = x.granted in
      let p : Proves e (normalization_goal i.head i.parts t) = elim (g.proved (inr tt)) [ inl q ↦ q | inr j ↦ absurd (no_normalization i.head i.parts t j.left j.right j.is) ] in
      record { alias = i; ends = x.ends; none = x.none; kind = x.kind; granted = record { ground = g.ground; proved = λ s. p; with_values = λ n. absurd (n tt) } }

  pub joined_equalities : JoinsEqualities Later
  joined_equalities e a b t x y =
      let one : Meets (IsGranted Proves) e a b = record { term = t; first = normal_before e a t x; second = elim y [ inl s ↦ inl s | inr z ↦ inr (normal_before e b t z) ] } in (
        inr (record { left = a; right = b; is = refl; meets = inl one }),
        inr (record { left = b; right = a; is = refl; meets = inr one }),
      )

  -- uses of clauses
  joined_comes : (e a b : Tree) → ComesTo (IsNormalAlias (IsGranted Proves) e) a b → ComesTo (IsNormalAlias (IsGranted Later) e) a b
  joined_comes e a b same_tree = same_tree
  joined_comes e a b (by_alias x) = by_alias (normal_later e a b x)
  joined_comes e a b (by_row {a = x} {b = y} {s = s} {t = t} p q) = by_row (joined_comes e x y p) (joined_comes e s t q)
  joined_comes e a b (by_node {c = c} {d = d} p) = by_node (joined_comes e c d p)

  joined_made : (e a b : Tree) → AreMadeOne (IsGranted Proves) e a b → AreMadeOne (IsGranted Later) e a b
  joined_made e a b m = record { term = m.term; formed = m.formed; settled = m.settled; left = joined_comes e a m.term m.left; right = joined_comes e b m.term m.right }

  joined_uses : (e s : Tree) → UsesClause h truth Proves e s → UsesClause h truth Later e s
  joined_uses e s u =
      let c = u.carrier in
      record {
        use_of = u.use_of;
        carrier = u.carrier;
        applies = u.applies;
        formed = u.formed;
        environment = u.environment;
        conclusion = u.conclusion;
        values = u.values;
        equal = u.equal;
        aliased = λ a b i f. joined_made e (carry c a) (carry c b) (u.aliased a b i f);
        apart = u.apart;
        met = u.met;
        goals = λ p i. joined_granted (carry c p.environment) (carry c p.predicate) (u.goals p i);
      }

  joined_named : (u : ℕ) (e s : Tree) → UsesNamed h truth Proves u e s → UsesNamed h truth Later u e s
  unfolding joined_uses
  joined_named u e s n = record { uses = joined_uses e s n.uses; named = n.named }

  -- an equality of terms says nothing else
  no_binding : (x xs s a b : Tree) → binding x xs s ≡ alias_relation direction.Equate a b → ⊥
  no_binding x xs s a b i = (let z : more x xs ≡ empty = cc i in cc z)

  says_no_more : (s a b : Tree) (y : Constraint) → SaysOfTwo y s → unbound s ≡ alias_relation direction.Equate a b → ⊥
  says_no_more s a b y (outlives_it region_outlives) i = cc i
  says_no_more s a b y (outlives_it type_outlives) i = cc i
  says_no_more s a b y is_its_type i = cc i

  no_rule : (s a b : Tree) → IsHandlers s → unbound s ≡ alias_relation direction.Equate a b → ⊥
  no_rule s a b k i =
      let same : s ≡ node (label.Predicate (predicate.AliasRelate direction.Equate)) (pair a b) = cc i in
      subst IsHandlers same k

  -- the terms are formed, and without region variables
  side_formed : (h : AliasHead) (ts : Tree) → IsFormed (node (label.List list.Args) ts) → FitsPlace any_term (kind_of (alias h ts)) × IsFormed (alias h ts)
  side_formed (alias_of.Ty i) ts f = ((λ e. cc e), ((refl, tt), (f, tt)))
  side_formed (alias_of.Const i) ts f = ((λ e. cc e), ((refl, tt), (f, tt)))

  side_ground : (h : AliasHead) (ts : Tree) → AllLabels IsGroundLabel (node (label.List list.Args) ts) → AllLabels IsGroundLabel (alias h ts)
  side_ground (alias_of.Ty i) ts g = (refl, (g, tt))
  side_ground (alias_of.Const i) ts g = (refl, (g, tt))

  -- of an alias and what it normalizes to
  record AreSides (e a t : Tree) : Type 0 where
    pub environment : IsFormed e × AllLabels IsGroundLabel e
    pub alias : FitsPlace any_term (kind_of a) × IsFormed a × AllLabels IsGroundLabel a
    pub term : FitsPlace any_term (kind_of t) × IsFormed t × AllLabels IsGroundLabel t

  sides_of : (e a t : Tree) → IsNormalAlias (IsGranted Proves) e a t → AreSides e a t
  sides_of e a t x =
      let i = x.alias in
      let y = x.granted in
      let p = y.proved (inr tt) in
      let f = theory.ground.formed e (normalization_goal i.head i.parts t) p in
      let g = theory.ground.ground e (normalization_goal i.head i.parts t) p in
      let w = f.1.0.1.1.0.1 in
      let v = g.1.0.1.1.0.1 in
      let side = side_formed i.head i.parts w.0 in
      let fits : FitsPlace any_term (kind_of a) = subst (λ z. FitsPlace any_term (kind_of z)) (sym i.is) side.0 in
      record {
        environment = (f.0, g.0);
        alias = (fits, subst IsFormed (sym i.is) side.1, subst (AllLabels IsGroundLabel) (sym i.is) (side_ground i.head i.parts v.0));
        term = (subst (FitsPlace any_term) (sym x.kind) fits, w.1.0, v.1.0);
      }

  other_side : (e a b : Tree) (m : Meets (IsGranted Proves) e a b) → FitsPlace any_term (kind_of b) × IsFormed b × AllLabels IsGroundLabel b
  other_side e a b m = elim m.second [
    | inl same ↦ (let s = sides_of e a m.term m.first in rw same s.term)
    | inr y ↦ (let s = sides_of e b m.term y in s.alias)
  ]

  relation_formed : (e a b : Tree) → IsFormed e → FitsPlace any_term (kind_of a) × IsFormed a × AllLabels IsGroundLabel a → FitsPlace any_term (kind_of b) × IsFormed b × AllLabels IsGroundLabel b → IsFormed (pair e (alias_relation direction.Equate a b))
  relation_formed e a b f x y = (f, (((refl, (refl, tt)), ((tt, tt), (((x.0, (y.0, tt)), (x.1, (y.1, tt))), tt))), tt))

  relation_ground : (e a b : Tree) → AllLabels IsGroundLabel e → AllLabels IsGroundLabel a → AllLabels IsGroundLabel b → AllLabels IsGroundLabel (pair e (alias_relation direction.Equate a b))
  relation_ground e a b g x y = (g, ((refl, ((refl, tt), ((refl, (x, (y, tt))), tt))), tt))

  joined_formed : (e a b : Tree) → Meets (IsGranted Proves) e a b ⊎ Meets (IsGranted Proves) e b a → IsFormed (pair e (alias_relation direction.Equate a b)) × AllLabels IsGroundLabel (pair e (alias_relation direction.Equate a b))
  joined_formed e a b (inl m) =
      let s = sides_of e a m.term m.first in
      let o = other_side e a b m in
      (relation_formed e a b s.environment.0 s.alias o, relation_ground e a b s.environment.1 s.alias.2 o.2)
  joined_formed e a b (inr m) =
      let s = sides_of e b m.term m.first in
      let o = other_side e b a m in
      (relation_formed e a b s.environment.0 o s.alias, relation_ground e a b s.environment.1 o.2 s.alias.2)

  formed_later : (e g : Tree) → Later e g → IsFormed (pair e g)
  formed_later e g (inl p) = theory.ground.formed e g p
  formed_later e g (inr t) = subst (λ z. IsFormed (pair e z)) (sym t.is) (joined_formed e t.left t.right t.meets).0

  ground_later : (e g : Tree) → Later e g → AllLabels IsGroundLabel (pair e g)
  ground_later e g (inl p) = theory.ground.ground e g p
  ground_later e g (inr t) = subst (λ z. AllLabels IsGroundLabel (pair e z)) (sym t.is) (joined_formed e t.left t.right t.meets).1

  meets_kept : (ρ : Renaming) (k : IsCarrying ρ) (e a b : Tree) → Meets (IsGranted Proves) e a b → Meets (IsGranted Proves) (rename ρ e) (rename ρ a) (rename ρ b)
  meets_kept ρ k e a b m =
      let kept = granted_renamed Proves Proves ρ k (theory.kept ρ k) in
      record {
        term = rename ρ m.term;
        first = normal_renamed (IsGranted Proves) (IsGranted Proves) ρ k kept e a m.term m.first;
        second = elim m.second [ inl s ↦ inl (ap (rename ρ) s) | inr y ↦ inr (normal_renamed (IsGranted Proves) (IsGranted Proves) ρ k kept e b m.term y) ];
      }

  kept_later : (ρ : Renaming) → IsCarrying ρ → (e g : Tree) → Later e g → Later (rename ρ e) (rename ρ g)
  kept_later ρ k e g (inl p) = inl (theory.kept ρ k e g p)
  kept_later ρ k e g (inr t) =
      inr (record { left = rename ρ t.left; right = rename ρ t.right; is = ap (rename ρ) t.is; meets = elim t.meets [ inl m ↦ inl (meets_kept ρ k e t.left t.right m) | inr m ↦ inr (meets_kept ρ k e t.right t.left m) ] })

  says_later : (e s : Tree) (y : Constraint) → Later e (unbound s) → SaysOfTwo y s → IsClosed s → HasNoAlias s → IsTrueBy truth y.relation y.left y.right
  says_later e s y (inl p) says closed none = theory.says e s y p says closed none
  says_later e s y (inr t) says closed none = absurd (says_no_more s t.left t.right y says t.is)

  denies_later : (e g : Tree) → Later e g → IsDenied h.judges (statement_of g) → ⊥
  denies_later e g (inl p) d = theory.denies e g p d
  denies_later e g (inr t) d = (let z : node (label.Predicate (predicate.DynCompatible d.of_trait)) empty ≡ node (label.Predicate (predicate.AliasRelate direction.Equate)) (pair t.left t.right) = sym d.is ∙ ap statement_of t.is in cc z)

  says_opened_later : (u : ℕ) (e x xs s : Tree) (y : Constraint) → Later e (binding x xs s) → SaysOfTwo y (opened (placeholder_in (u + 1)) 0 s) → NamesAll leaf_level u (pair e s) → HasNoAlias s → IsTrueBy truth y.relation y.left y.right
  says_opened_later u e x xs s y (inl p) says named none = theory.says_opened u e x xs s y p says named none
  says_opened_later u e x xs s y (inr t) says named none = absurd (no_binding x xs s t.left t.right t.is)

  grants_later : (e s : Tree) → GrantsFormed h.judges Proves e s → GrantsFormed h.judges Later e s
  grants_later e s f t ps is given p i = joined_granted e p (f t ps is given p i)

  formed_goals : (e s : Tree) → Later e (unbound s) → IsClosed s → GrantsFormed h.judges Later e s
  formed_goals e s (inl p) closed = grants_later e s (theory.formed e s p closed)
  formed_goals e s (inr t) closed = λ v ps is given p i. (let z : unbound (is_well_formed v) ≡ alias_relation direction.Equate t.left t.right = ap unbound (sym is) ∙ t.is in cc z)

  opened_goals : (u : ℕ) (e x xs s : Tree) → Later e (binding x xs s) → NamesAll leaf_level u (pair e s) → GrantsFormed h.judges Later e (opened (placeholder_in (u + 1)) 0 s)
  opened_goals u e x xs s (inl p) named = grants_later e (opened (placeholder_in (u + 1)) 0 s) (theory.formed_opened u e x xs s p named)
  opened_goals u e x xs s (inr t) named = absurd (no_binding x xs s t.left t.right t.is)

  -- what the sides of such an equality are
  sides_are : (e a b : Tree) (t : IsJoined Proves e (alias_relation direction.Equate a b)) → (a ≡ t.left) × (b ≡ t.right)
  sides_are e a b t = (let i = t.is in (cc i, cc i))

  meets_here : (e a b : Tree) (t : IsJoined Proves e (alias_relation direction.Equate a b)) → Meets (IsGranted Proves) e a b ⊎ Meets (IsGranted Proves) e b a
  meets_here e a b t = (let s = sides_are e a b t in rw (s.0, s.1) t.meets)

  -- of an alias and a term in which none stands
  normal_meets : (e a t : Tree) (x : IsAlias a) → HasNoAlias t → Meets (IsGranted Proves) e a t ⊎ Meets (IsGranted Proves) e t a → Proves e (normalization_goal x.head x.parts t) × (kind_of t ≡ kind_of a)
  normal_meets e a t x none (inl m) = elim m.second [
    | inl same ↦
        let n = m.first in
        let i = n.alias in
        let g = n.granted in
        let s = one_alias i.head x.head i.parts x.parts (sym i.is ∙ x.is) in
        let p = subst (λ z. Proves e (normalization_goal z x.parts m.term)) s.0 (subst (λ z. Proves e (normalization_goal i.head z m.term)) s.1 (g.proved (inr tt))) in
        (subst (λ z. Proves e (normalization_goal x.head x.parts z)) (sym same) p, ap kind_of same ∙ n.kind)
    | inr y ↦ absurd (none_is_alias t none y.alias)
  ]
  normal_meets e a t x none (inr m) = (let n = m.first in absurd (none_is_alias t none n.alias))

  equates_later : (e a t : Tree) (x : IsAlias a) → Later e (alias_relation direction.Equate a t) ⊎ Later e (alias_relation direction.Equate t a) → IsClosed t → HasNoAlias t → Later e (normalization_goal x.head x.parts t) × (kind_of t ≡ kind_of a)
  equates_later e a t x (inl (inl p)) closed none = (let q = theory.equates e a t x (inl p) closed none in (inl q.0, q.1))
  equates_later e a t x (inr (inl p)) closed none = (let q = theory.equates e a t x (inr p) closed none in (inl q.0, q.1))
  equates_later e a t x (inl (inr j)) closed none = (let q = normal_meets e a t x none (meets_here e a t j) in (inl q.0, q.1))
  equates_later e a t x (inr (inr j)) closed none =
      let q = normal_meets e a t x none (elim (meets_here e t a j) [ inl m ↦ inr m | inr m ↦ inl m ]) in
      (inl q.0, q.1)

  both_here : (e a b : Tree) → NormalizeToOne Proves e a b → NormalizeToOne Later e a b
  both_here e a b n = record { left = n.left; right = n.right; term = n.term; ends = n.ends; free = n.free; kind = n.kind; kind_too = n.kind_too; first = inl n.first; second = inl n.second }

  -- of two aliases
  both_meet : (e a b : Tree) → IsAlias b → Meets (IsGranted Proves) e a b → NormalizeToOne Proves e a b
  both_meet e a b y m = elim m.second [
    | inl same ↦ (let n = m.first in absurd (none_is_alias m.term n.none (subst IsAlias same y)))
    | inr z ↦
        let n = m.first in
        let f = n.granted in
        let g = z.granted in
        let s = sides_of e a m.term n in
        record { left = n.alias; right = z.alias; term = m.term; ends = n.ends; free = none_free m.term s.term.1 n.none; kind = n.kind; kind_too = z.kind; first = f.proved (inr tt); second = g.proved (inr tt) }
  ]

  both_turned : (e a b : Tree) → NormalizeToOne Proves e b a → NormalizeToOne Proves e a b
  both_turned e a b n = record { left = n.right; right = n.left; term = n.term; ends = n.ends; free = n.free; kind = n.kind_too; kind_too = n.kind; first = n.second; second = n.first }

  equates_both_later : (e a b : Tree) → IsAlias a → IsAlias b → Later e (alias_relation direction.Equate a b) → NormalizeToOne Later e a b
  equates_both_later e a b x y (inl p) = both_here e a b (theory.equates_both e a b x y p)
  equates_both_later e a b x y (inr j) = both_here e a b (elim (meets_here e a b j) [ inl m ↦ both_meet e a b y m | inr m ↦ both_turned e a b (both_meet e b a x m) ])

  plain_later : (u : ℕ) (e s : Tree) → Later e (unbound s) → IsHandlers s → IsClosed s → NamesAll leaf_level u (pair e s) → UsesNamed h truth Later u e s
  plain_later u e s (inl p) k closed named = joined_named u e s (theory.plain u e s p k closed named)
  plain_later u e s (inr t) k closed named = absurd (no_rule s t.left t.right k t.is)

  opened_later : (u : ℕ) (e x xs s : Tree) → Later e (binding x xs s) → IsHandlers (opened (placeholder_in (u + 1)) 0 s) → IsFormed (opened (placeholder_in (u + 1)) 0 s) → NamesAll leaf_level u (pair e s)
      → UsesNamed h truth Later (u + 1) e (opened (placeholder_in (u + 1)) 0 s)
  opened_later u e x xs s (inl p) k formed named = joined_named (u + 1) e (opened (placeholder_in (u + 1)) 0 s) (theory.opened u e x xs s p k formed named)
  opened_later u e x xs s (inr t) k formed named = absurd (no_binding x xs s t.left t.right t.is)

  pub joined_theory : IsTheory h truth Later
  joined_theory =
      record {
        ground = record { formed = formed_later; ground = ground_later };
        kept = kept_later;
        says = says_later;
        denies = denies_later;
        says_opened = says_opened_later;
        formed = formed_goals;
        equates = equates_later;
        equates_both = equates_both_later;
        formed_opened = opened_goals;
        plain = plain_later;
        opened = opened_later;
      }
