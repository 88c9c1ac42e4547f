-- What follows by rules is kept by renaming; so the renamings of proved goals are a theory.
use Rattle.std.proofs.lemmas.Bool.{cases_lt}
use Rattle.std.proofs.Common.{◌≡◌, inl, inr, ℕ, zero, suc, ◌+◌, ◌≤◌, Bool, true, false, max, List, [], ◌∷◌, map, Option, Some, None, refl, sym, ap, subst, ◌∙◌, arith}
use Rattle.std.specs.Prelude.{◌⊎◌, ◌<◌, ◌==◌, if◌then◌else◌}
use Rattle.std.proofs.Math.Nat.{le-max_left, le-max_right}
use Rattle.nts_model.specs.declared.labels.Sort.{Sort}
use Rattle.nts_model.specs.declared.labels.Sort.TheVariants as sort
use Rattle.nts_model.specs.declared.labels.Relation.{Relation}
use Rattle.nts_model.specs.declared.labels.Relation.TheVariants as relation
use Rattle.nts_model.specs.declared.labels.FreeRegion.{FreeRegion}
use Rattle.nts_model.specs.declared.labels.FreeRegion.TheVariants as region
use Rattle.nts_model.specs.declared.labels.Leaf.{Leaf}
use Rattle.nts_model.specs.declared.labels.Leaf.TheVariants as leaf
use Rattle.nts_model.specs.declared.labels.BoundVarIndexKind.TheVariants as index
use Rattle.nts_model.specs.declared.labels.TyHead.{TyHead}
use Rattle.nts_model.specs.declared.labels.ListHead.TheVariants as list
use Rattle.nts_model.specs.declared.labels.Label.{Label}
use Rattle.nts_model.specs.declared.labels.Label.TheVariants as label
use Rattle.nts_model.specs.Terms.Trees.{Tree, empty, more, node, kind_of, label_of, binders, sort_of_leaf, is_placeholder, IsClosed, IsFormed}
use Rattle.nts_model.specs.Terms.Placeholders.{CanName, leaf_level_of, leaf_level}
use Rattle.nts_model.specs.Tables.Levels.{NamesAll}
use Rattle.nts_model.specs.Tables.Passing.{AllLabels}
use Rattle.nts_model.specs.Terms.Substitutions.{leaf_tree, put, Occurs, StaysItself, leaf_sort, Renaming, rename}
use Rattle.nts_model.specs.Derivations.Related.{Constraint, pair, unbound, alias, IsAlias}
use Rattle.nts_model.specs.Lists.{Among}
use Rattle.nts_model.specs.Derivations.Rules.{statement_of, Equation, related, alike, opened, opened_at, AreFresh, IsHandlers, normalization_goal}
use Rattle.nts_model.specs.Canonical.Numbered.{seen, AreDistinct}
use Rattle.nts_model.specs.Refutation.Opening.{placeholder_in}
use Rattle.nts_model.specs.Refutation.Choosing.{left_of, right_of}
use Rattle.nts_model.specs.Derivations.Handlers.{Handler, equation_by, constraint_by, InstancesAreRules, JudgementsAreKept}
use Rattle.nts_model.specs.Refutation.Containing.{Truth, IsTrueBy, IsGroundLabel}
use Rattle.nts_theory.specs.Affirming.{IsDenied, SaysOfTwo, is_well_formed}
use Rattle.nts_theory.proofs.Refutation.OpenedTerms.{opened_formed}
use Rattle.nts_theory.proofs.Refutation.Affirming.{denied_replaced}
use Rattle.nts_theory.proofs.Refutation.Outliving.{true_again}
use Rattle.nts_theory.proofs.Refutation.Saying.{was_formed, said_renamed, both_formed, said_before, said_opened, both_moved}
use Rattle.nts_theory.specs.RelatingCandidates.{may_be_argument, AreTypesApart}
use Rattle.nts_theory.specs.Refutation.Refutation.{HasNoAlias, HasPlainSides, IsGranted, IsGrantedAsAsked, NormalizeToOne, IsCarrying, IsFair, IsNormalAlias, AreMadeOne, Carrier, unmoved, moves, carry, ComesTo, same_tree, by_alias, by_row, by_node, UsesClause, UsesNamed, binding, GrantsFormed, AreUsed, IsTheory}
use Rattle.nts_model.proofs.Terms.Substituting.{replace-equal, replace-leaf, kind_of-replace}
use Rattle.nts_model.proofs.Terms.Composing.{IsFormed-instance, IsClosed-instance, instance_kinds}
use Rattle.nts_model.proofs.Tables.Solving.{NamesAll-more}
use Rattle.nts_model.proofs.Canonical.Numbering.{distinct-seen}
use Rattle.nts_model.proofs.Canonical.Moving.{among-seen, occurs-seen}
use Rattle.nts_model.proofs.Tables.Naming.{fresh_in}
use Rattle.nts_model.proofs.Terms.Listed.{map-map, map-tells}
use Rattle.nts_theory.proofs.Responses.Standing.{distinct_images}
use Rattle.nts_model.proofs.Terms.Renamings.{forward, extension, map-forward}
use Rattle.nts_theory.proofs.Refutation.OpenedGoals.{rename_opened, kept_tree}
use Rattle.nts_theory.proofs.Refutation.Carrying.{names_replaced}
use Rattle.nts_theory.proofs.Refutation.Carriers.{forward_others, forward_property, none_renamed, none_carrying, then_by, then_carrying, rename_then, back_to, back_carrying, region_carried, instance_by, AreMovable, extension_carrying, shifted, shifted_carrying, shifted_low}
use Rattle.nts_theory.proofs.Refutation.PlainTerms.{no_alias_renamed, no_alias_before, free_renamed, statement_before, kept_before, rules_before}
use Rattle.nts_theory.proofs.Refutation.ReachedGoals.{one_alias}
use Rattle.nts_theory.proofs.Refutation.Together.{settled_renamed}
use Rattle.nts_theory.proofs.Refutation.WithValues.{still_alias, values_renamed, kept_later}
use Rattle.nts_theory.proofs.Refutation.UsedRules.{handlers_replaced, handlers_before}
use Rattle.nts_model.specs.declared.labels.AliasHead.{AliasHead}
use Rattle.nts_model.specs.declared.labels.AliasHead.TheVariants as alias_of
use Rattle.nts_model.specs.declared.labels.AliasRelationDirection.TheVariants as direction
use Rattle.nts_theory.specs.Aliasing.{alias_relation}

-- elements of mapped lists
mapped : {X Y : Type 0} (f : X → Y) (xs : List X) (y : Y) → Among (map f xs) y → (x : X) × Among xs x × (y ≡ f x)
mapped f [] y i = absurd i
mapped f (x ∷ xs) y (inl e) = (x, inl refl, e)
mapped f (x ∷ xs) y (inr i) = (let r = mapped f xs y i in (r.0, inr r.1, r.2))

equal_by : (f : Tree → Tree) (q : Equation) → left_of q ≡ right_of q → left_of (equation_by f q) ≡ right_of (equation_by f q)
equal_by f (related a b) e = ap f e
equal_by f (alike a b) e = ap f e

-- a renaming leaves what kind of tree it is, and by what a type is built
argument_renamed : (ρ : Renaming) (t : Tree) → may_be_argument (kind_of (rename ρ t)) ≡ false → may_be_argument (kind_of t) ≡ false
argument_renamed ρ empty e = refl
argument_renamed ρ (more a b) e = refl
argument_renamed ρ (node (label.Leaf x) c) e = cc e
argument_renamed ρ (node (label.Bound s i n) c) e = cc e
argument_renamed ρ (node (label.Ty x) c) e = cc e
argument_renamed ρ (node (label.Const x) c) e = cc e
argument_renamed ρ (node (label.Clause x) c) e = refl
argument_renamed ρ (node (label.Predicate x) c) e = refl
argument_renamed ρ (node (label.List list.Args) c) e = refl
argument_renamed ρ (node (label.List list.Env) c) e = refl
argument_renamed ρ (node (label.List list.Sorts) c) e = refl
argument_renamed ρ (node (label.List (list.Sort s)) c) e = refl
argument_renamed ρ (node (label.List list.Binder) c) e = refl

plain_before_renaming : (ρ : Renaming) (q : Equation) → HasPlainSides (equation_by (rename ρ) q) → HasPlainSides q
plain_before_renaming ρ (related a b) (inl e) = inl (argument_renamed ρ b e)
plain_before_renaming ρ (related a b) (inr n) = inr (no_alias_before ρ a n.0, no_alias_before ρ b n.1)
plain_before_renaming ρ (alike a b) n = tt

head_before : (ρ : Renaming) (t : Tree) (h : TyHead) → label_of (rename ρ t) ≡ Some (label.Ty h) → label_of t ≡ Some (label.Ty h)
head_before ρ (node (label.Ty k) c) h e = e
head_before ρ (node (label.Leaf x) c) h e = cc e
head_before ρ (node (label.Bound s i n) c) h e = cc e
head_before ρ (node (label.Const x) c) h e = cc e
head_before ρ (node (label.Clause x) c) h e = cc e
head_before ρ (node (label.Predicate x) c) h e = cc e
head_before ρ (node (label.List x) c) h e = cc e
head_before ρ empty h e = cc e
head_before ρ (more a b) h e = cc e

types_before : (ρ : Renaming) (a b : Tree) → AreTypesApart (rename ρ a) (rename ρ b) → AreTypesApart a b
types_before ρ a b x =
    record { left = x.left; right = x.right; of_left = head_before ρ a x.left x.of_left; of_right = head_before ρ b x.right x.of_right; apart = x.apart; left_plain = x.left_plain; right_plain = x.right_plain }

apart_before : (ρ : Renaming) (qs : List Equation) (q : Equation) (a b : Tree) → related a b ≡ equation_by (rename ρ) q → AreTypesApart a b → ((x y : Tree) → Among qs (related x y) → AreTypesApart x y → ⊥) → Among qs q → ⊥
apart_before ρ qs (related x y) a b e t none i =
    let left : a ≡ rename ρ x = cc e in
    let right : b ≡ rename ρ y = cc e in
    none x y i (types_before ρ x y (subst (λ z. AreTypesApart z (rename ρ y)) left (subst (AreTypesApart a) right t)))
apart_before ρ qs (alike x y) a b e t none i = cc e

ground_leaf : (ρ : Renaming) → IsCarrying ρ → (l : Leaf) → IsGroundLabel (label.Leaf l) → AllLabels IsGroundLabel (leaf_tree (ρ.to l))
ground_leaf ρ k (leaf.Variable v n) h = rw (k.variables v n) (h, tt)
ground_leaf ρ k (leaf.Region r) h = let q = region_carried ρ k r in rw (q.1) (refl, tt)
ground_leaf ρ k (leaf.TyConstant a) h = by_sort (ρ.to (leaf.TyConstant a)) (ρ.keeps_sorts (leaf.TyConstant a))
  where
    by_sort : (m : Leaf) → leaf_sort m ≡ leaf_sort (leaf.TyConstant a) → AllLabels IsGroundLabel (leaf_tree m)
    by_sort (leaf.TyConstant b) e = (refl, tt)
    by_sort (leaf.ConstConstant b) e = (refl, tt)
    by_sort (leaf.Region b) e = (refl, tt)
    by_sort (leaf.Variable v n) e = cc e
ground_leaf ρ k (leaf.ConstConstant a) h = by_sort (ρ.to (leaf.ConstConstant a)) (ρ.keeps_sorts (leaf.ConstConstant a))
  where
    by_sort : (m : Leaf) → leaf_sort m ≡ leaf_sort (leaf.ConstConstant a) → AllLabels IsGroundLabel (leaf_tree m)
    by_sort (leaf.TyConstant b) e = (refl, tt)
    by_sort (leaf.ConstConstant b) e = (refl, tt)
    by_sort (leaf.Region b) e = (refl, tt)
    by_sort (leaf.Variable v n) e = cc e

ground_put : (ρ : Renaming) → IsCarrying ρ → (l : Label) (c : Tree) → IsGroundLabel l → AllLabels IsGroundLabel c → AllLabels IsGroundLabel (put (λ x. leaf_tree (ρ.to x)) l c)
ground_put ρ k (label.Leaf x) c h i = ground_leaf ρ k x h
ground_put ρ k (label.Bound a b n) c h i = (h, i)
ground_put ρ k (label.Ty x) c h i = (h, i)
ground_put ρ k (label.Const x) c h i = (h, i)
ground_put ρ k (label.Clause x) c h i = (h, i)
ground_put ρ k (label.Predicate x) c h i = (h, i)
ground_put ρ k (label.List x) c h i = (h, i)

ground_renamed : (ρ : Renaming) → IsCarrying ρ → (t : Tree) → AllLabels IsGroundLabel t → AllLabels IsGroundLabel (rename ρ t)
ground_renamed ρ k empty h = tt
ground_renamed ρ k (more a b) h = (ground_renamed ρ k a h.0, ground_renamed ρ k b h.1)
ground_renamed ρ k (node l c) h = ground_put ρ k l (rename ρ c) h.0 (ground_renamed ρ k c h.1)

-- what is granted of a goal is granted of the renamed one
pub granted_renamed : (Proves Later : Tree → Tree → Type 0) (ρ : Renaming) → IsCarrying ρ → ((e g : Tree) → Proves e g → Later (rename ρ e) (rename ρ g)) → (e g : Tree) → IsGranted Proves e g → IsGranted Later (rename ρ e) (rename ρ g)
granted_renamed Proves Later ρ k later e g x =
    record {
      ground = (let f = x.ground in (ground_renamed ρ k e f.0, (ground_renamed ρ k g f.1.0, tt)));
      proved = λ s. later e g (x.proved (elim s [ inl n ↦ inl (statement_before ρ g n) | inr n ↦ inr (kept_before ρ g n) ]));
      with_values = λ n. values_renamed Proves Later ρ k later e g (x.with_values (λ y. n (kept_later ρ g y)));
    }

-- .. and so it is of one that is asked
pub asked_renamed : (Proves Later : Tree → Tree → Type 0) (ρ : Renaming) → IsCarrying ρ → ((e g : Tree) → Proves e g → Later (rename ρ e) (rename ρ g)) → (e g : Tree) → IsGrantedAsAsked Proves e g → IsGrantedAsAsked Later (rename ρ e) (rename ρ g)
asked_renamed Proves Later ρ k later e g x =
    record {
      ground = (let f = x.ground in (ground_renamed ρ k e f.0, (ground_renamed ρ k g f.1.0, tt)));
      proved = λ s. later e g (x.proved (elim s [ inl n ↦ inl (elim n [ inl y ↦ inl (statement_before ρ g y) | inr y ↦ inr (kept_before ρ g y) ]) | inr y ↦ inr (rules_before ρ g y) ]));
    }

true_renamed : (truth : Truth) → IsFair truth → (ρ : Renaming) → IsCarrying ρ → (r : Relation) (a b : Tree) → IsTrueBy truth r a b → IsTrueBy truth r (rename ρ a) (rename ρ b)
true_renamed truth fair ρ k relation.Equal a b h = ap (rename ρ) h
true_renamed truth fair ρ k relation.RegionOutlives a b (inl e) = inl (ap (rename ρ) e)
true_renamed truth fair ρ k relation.RegionOutlives a b (inr e) = inr (fair.renamed ρ k a b ∙ e)
true_renamed truth fair ρ k relation.TypeOutlives a b e = fair.renamed ρ k a b ∙ e

-- what aliases normalize to, renamed
module _ (Granted Later : Tree → Tree → Type 0) (ρ : Renaming) (k : IsCarrying ρ) (later : (e g : Tree) → Granted e g → Later (rename ρ e) (rename ρ g)) where
  pub normal_renamed : (e a t : Tree) → IsNormalAlias Granted e a t → IsNormalAlias Later (rename ρ e) (rename ρ a) (rename ρ t)
  normal_renamed e a t x =
      let kinds = instance_kinds (instance_by ρ k) in
      let i = x.alias in
      record {
        alias = still_alias ρ k a i;
        ends = IsClosed-instance (instance_by ρ k) t x.ends;
        none = no_alias_renamed ρ t x.none;
        kind = kind_of-replace (λ z. leaf_tree (ρ.to z)) kinds t ∙ x.kind ∙ sym (kind_of-replace (λ z. leaf_tree (ρ.to z)) kinds a);
        granted = later e (normalization_goal i.head i.parts t) x.granted;
      }

  put_comes : (R : Tree → Tree → Type 0) (f : Leaf → Tree) (l : Label) (c d : Tree) → ComesTo R c d → ComesTo R (put f l c) (put f l d)
  put_comes R f (label.Leaf x) c d q = same_tree
  put_comes R f (label.Bound s i n) c d q = by_node q
  put_comes R f (label.Ty x) c d q = by_node q
  put_comes R f (label.Const x) c d q = by_node q
  put_comes R f (label.Clause x) c d q = by_node q
  put_comes R f (label.Predicate x) c d q = by_node q
  put_comes R f (label.List x) c d q = by_node q

  comes_renamed : (e a b : Tree) → ComesTo (IsNormalAlias Granted e) a b → ComesTo (IsNormalAlias Later (rename ρ e)) (rename ρ a) (rename ρ b)
  comes_renamed e a b same_tree = same_tree
  comes_renamed e a b (by_alias x) = by_alias (normal_renamed e a b x)
  comes_renamed e (more a s) (more b t) (by_row p q) = by_row (comes_renamed e a b p) (comes_renamed e s t q)
  comes_renamed e (node l c) (node m d) (by_node p) = put_comes _ (λ x. leaf_tree (ρ.to x)) l (rename ρ c) (rename ρ d) (comes_renamed e c d p)

  made_renamed : (e a b : Tree) → AreMadeOne Granted e a b → AreMadeOne Later (rename ρ e) (rename ρ a) (rename ρ b)
  made_renamed e a b m =
      record {
        term = rename ρ m.term;
        formed = IsFormed-instance (instance_by ρ k) m.term m.formed;
        settled = settled_renamed ρ m.term m.formed m.settled;
        left = comes_renamed e a m.term m.left;
        right = comes_renamed e b m.term m.right;
      }

-- carried on by a renaming
abbrev pub then_carried : (ρ : Renaming) → IsCarrying ρ → Carrier → Carrier
then_carried ρ k unmoved = moves ρ k
then_carried ρ k (moves σ j) = moves (then_by σ ρ) (then_carrying σ ρ j k)

carry_then : (ρ : Renaming) (k : IsCarrying ρ) (c : Carrier) (t : Tree) → carry (then_carried ρ k c) t ≡ rename ρ (carry c t)
carry_then ρ k unmoved t = refl
carry_then ρ k (moves σ j) t = sym (rename_then σ ρ t)

-- a use of a clause, renamed
pub uses_renamed : (h : Handler) (truth : Truth) (Proves Later : Tree → Tree → Type 0) → IsFair truth → (ρ : Renaming) (k : IsCarrying ρ)
    → ((e g : Tree) → IsGranted Proves e g → IsGranted Later (rename ρ e) (rename ρ g)) → (e s : Tree) → UsesClause h truth Proves e s → UsesClause h truth Later (rename ρ e) (rename ρ s)
uses_renamed h truth Proves Later fair ρ k later e s x =
    let c = x.carrier in
    record {
      use_of = x.use_of;
      carrier = then_carried ρ k c;
      applies = x.applies;
      formed = x.formed;
      environment = carry_then ρ k c _ ∙ ap (rename ρ) x.environment;
      conclusion = carry_then ρ k c _ ∙ ap (rename ρ) x.conclusion;
      values = x.values;
      equal = x.equal;
      aliased = λ a b i f. rw (carry_then ρ k c a, carry_then ρ k c b) (made_renamed (IsGranted Proves) (IsGranted Later) ρ k later e (carry c a) (carry c b) (x.aliased a b i f));
      apart = x.apart;
      met = λ y i. rw (carry_then ρ k c y.left, carry_then ρ k c y.right) (true_renamed truth fair ρ k y.relation (carry c y.left) (carry c y.right) (x.met y i));
      goals = λ p i. rw (carry_then ρ k c p.environment, carry_then ρ k c p.predicate) (later (carry c p.environment) (carry c p.predicate) (x.goals p i));
    }

-- a universe that names a tree, and trees
abbrev level_or : Option ℕ → ℕ
level_or None = 0
level_or (Some u) = u

abbrev top : Tree → ℕ
top empty = 0
top (more a b) = max (top a) (top b)
top (node l c) = max (level_or (leaf_level l)) (top c)

can_level : (o : Option ℕ) → CanName (level_or o) o
can_level None = tt
can_level (Some u) = omega arith

can_more : (a b : ℕ) (o : Option ℕ) → a ≤ b → CanName a o → CanName b o
can_more a b None l h = tt
can_more a b (Some u) l h = omega (arith, l, h)

named_top : (t : Tree) → NamesAll leaf_level (top t) t
named_top empty = tt
named_top (more a b) = (
  NamesAll-more leaf_level (top a) (max (top a) (top b)) a (le-max_left (top a) (top b)) (named_top a),
  NamesAll-more leaf_level (top b) (max (top a) (top b)) b (le-max_right (top a) (top b)) (named_top b),
)
named_top (node l c) =
    let m = level_or (leaf_level l) in (
      can_more m (max m (top c)) (leaf_level l) (le-max_left m (top c)) (can_level (leaf_level l)),
      NamesAll-more leaf_level (top c) (max m (top c)) c (le-max_right m (top c)) (named_top c),
    )

abbrev top_of : List Tree → ℕ
top_of [] = 0
top_of (v ∷ vs) = max (top v) (top_of vs)

named_tops : (vs : List Tree) (v : Tree) → Among vs v → NamesAll leaf_level (top_of vs) v
named_tops [] v i = absurd i
named_tops (x ∷ xs) v (inl e) = rw e (NamesAll-more leaf_level (top x) (max (top x) (top_of xs)) x (le-max_left (top x) (top_of xs)) (named_top x))
named_tops (x ∷ xs) v (inr i) = NamesAll-more leaf_level (top_of xs) (max (top x) (top_of xs)) v (le-max_right (top x) (top_of xs)) (named_tops xs v i)

named_leaf_in : (u : ℕ) (t : Tree) (l : Leaf) → Occurs l t → NamesAll leaf_level u t → CanName u (leaf_level_of l)
named_leaf_in u empty l i h = absurd i
named_leaf_in u (more a b) l (inl i) h = named_leaf_in u a l i h.0
named_leaf_in u (more a b) l (inr i) h = named_leaf_in u b l i h.1
named_leaf_in u (node m c) l (inl e) h = subst (λ z. CanName u (leaf_level z)) (sym e) h.0
named_leaf_in u (node m c) l (inr i) h = named_leaf_in u c l i h.1

-- the leaves that a carrying renaming may move
abbrev stays_region : FreeRegion → Bool
stays_region region.Static = true
stays_region region.Erased = true
stays_region region.Error = true
stays_region r = false

abbrev pub stays : Leaf → Bool
stays (leaf.Variable k n) = true
stays (leaf.Region r) = stays_region r
stays l = false

fixed_stays : (r : FreeRegion) → StaysItself r → stays_region r ≡ true
fixed_stays region.Static h = refl
fixed_stays region.Erased h = refl
fixed_stays region.Error h = refl
fixed_stays r h = absurd h

stays_or : (l : Leaf) → (stays l ≡ true) ⊎ (stays l ≡ false)
stays_or l = by_bool (stays l)
  where
    by_bool : (b : Bool) → (b ≡ true) ⊎ (b ≡ false)
    by_bool true = inl refl
    by_bool false = inr refl

region_stays : (r : FreeRegion) → stays_region r ≡ true → StaysItself r
region_stays region.Static h = tt
region_stays region.Erased h = tt
region_stays region.Error h = tt
region_stays r h = cc h

stay_carried : (ρ : Renaming) → IsCarrying ρ → (l : Leaf) → stays l ≡ true → ρ.to l ≡ l
stay_carried ρ k (leaf.Variable v n) h = k.variables v n
stay_carried ρ k (leaf.Region r) h = k.plain r (region_stays r h)
stay_carried ρ k (leaf.TyConstant a) h = cc h
stay_carried ρ k (leaf.ConstConstant a) h = cc h

pub movable_by : (xs : List Leaf) → ((l : Leaf) → Among xs l → stays l ≡ false) → AreMovable xs
movable_by xs h = record {
  no_variables = λ k n i. (let e = h (leaf.Variable k n) i in cc e);
  no_fixed = λ r s i. (let e = h (leaf.Region r) i in let q = fixed_stays r s in let z : true ≡ false = sym q ∙ e in cc z);
}

-- a moved leaf may be moved again
back_stay : (ρ : Renaming) → IsCarrying ρ → (l : Leaf) → stays l ≡ false → stays (ρ.to l) ≡ false
back_stay ρ k l h = elim (stays_or (ρ.to l)) [
  | inl s ↦ (let e : l ≡ ρ.to l = sym (ρ.back l) ∙ stay_carried (back_to ρ) (back_carrying ρ k) (ρ.to l) s in ap stays (sym e) ∙ h)
  | inr n ↦ n
]

-- values are named by a universe that names the goal, once what is foreign is renamed
module _ (t : Tree) (formed : IsFormed t) (u : ℕ) (low : NamesAll leaf_level u t) (vs : List Tree) where
  abbrev bound_up : ℕ
  bound_up = max u (top_of vs)

  abbrev own : List Leaf
  own = seen stays [] t

  abbrev lower : Renaming
  lower = shifted bound_up

  abbrev lowered_own : List Leaf
  lowered_own = map (lower.to) own

  own_inside : (l : Leaf) → Among own l → (stays l ≡ false) × Occurs l t
  own_inside l i = elim (among-seen stays [] t l i) [ inl j ↦ absurd j | inr p ↦ p ]

  pub own_sorts : (s : List Leaf) → map leaf_sort (map (lower.to) s) ≡ map leaf_sort s
  own_sorts [] = refl
  own_sorts (x ∷ xs) = cc (lower.keeps_sorts x, own_sorts xs)

  lowered_inside : (l : Leaf) → Among lowered_own l → stays l ≡ false
  lowered_inside l i = let r = mapped (lower.to) own l i in subst (λ z. stays z ≡ false) (sym r.2) (back_stay lower (shifted_carrying bound_up) r.0 (own_inside r.0 r.1).0)

  abbrev restore : Renaming
  restore = extension lowered_own own (own_sorts own)

  restore_carrying : IsCarrying restore
  restore_carrying = extension_carrying lowered_own own (own_sorts own) (movable_by lowered_own lowered_inside) (movable_by own (λ l i. (own_inside l i).0))

  abbrev pub homed : Renaming
  homed = then_by lower restore

  pub homed_carrying : IsCarrying homed
  homed_carrying = then_carrying lower restore (shifted_carrying bound_up) restore_carrying

  own_distinct : AreDistinct own
  own_distinct = distinct-seen stays [] t tt

  lowered_distinct : AreDistinct lowered_own
  lowered_distinct = distinct_images (lower.to) own own_distinct (λ a b i j e. sym (lower.back a) ∙ ap (lower.from) e ∙ lower.back b)

  back_home : (l : Leaf) → Among own l → homed.to l ≡ l
  back_home l i =
      let all : map (λ x. forward lowered_own own (lower.to x)) own ≡ map (λ x. x) own =
      sym (map-map (forward lowered_own own) (lower.to) own) ∙ map-forward lowered_own own lowered_distinct own_distinct (own_sorts own) ∙ sym (map_same own) in
      map-tells (λ x. forward lowered_own own (lower.to x)) (λ x. x) own all l i
    where
      map_same : (s : List Leaf) → map (λ x. x) s ≡ s
      map_same [] = refl
      map_same (x ∷ xs) = ap (λ z. x ∷ z) (map_same xs)

  homed_leaf : (l : Leaf) → Occurs l t → homed.to l ≡ l
  homed_leaf l i = elim (stays_or l) [
    | inl s ↦ stay_carried homed homed_carrying l s
    | inr n ↦ back_home l (occurs-seen stays [] t l formed n i)
  ]

  pub homed_same : rename homed t ≡ t
  homed_same = kept_tree (λ l. leaf_tree (homed.to l)) t formed (λ l i. ap leaf_tree (homed_leaf l i))

  own_low : (l : Leaf) → Among own l → CanName u (leaf_level_of l)
  own_low l i = named_leaf_in u t l (own_inside l i).1 low

  lowered_low : (l : Leaf) → Among lowered_own l → CanName u (leaf_level_of l)
  lowered_low l i =
      let r = mapped (lower.to) own l i in
      let c = can_more u bound_up (leaf_level_of r.0) (le-max_left u (top_of vs)) (own_low r.0 r.1) in
      subst (λ z. CanName u (leaf_level_of z)) (sym r.2) (can_more 0 u (leaf_level_of (lower.to r.0)) (omega arith) (shifted_low bound_up r.0 c))

  homed_level : (l : Leaf) → CanName bound_up (leaf_level_of l) → CanName u (leaf_level_of (homed.to l))
  homed_level l h =
      forward_property (λ z. CanName u (leaf_level_of z)) lowered_own own lowered_low own_low (lower.to l)
      (can_more 0 u (leaf_level_of (lower.to l)) (omega arith) (shifted_low bound_up l h))

  pub homed_named : (v : Tree) → Among vs v → NamesAll leaf_level u (rename homed v)
  homed_named v i =
      names_replaced (λ l. leaf_tree (homed.to l)) bound_up u (λ l h. (homed_level l h, tt)) v
      (NamesAll-more leaf_level (top_of vs) bound_up v (le-max_right u (top_of vs)) (named_tops vs v i))

-- so uses of clauses have named values
carried_among : (c : Carrier) (vs : List Tree) (v : Tree) → Among vs v → Among (map (carry c) vs) (carry c v)
carried_among c [] v i = absurd i
carried_among c (x ∷ vs) v (inl e) = inl (ap (carry c) e)
carried_among c (x ∷ vs) v (inr i) = inr (carried_among c vs v i)

pub uses_named : (h : Handler) (truth : Truth) (Proves : Tree → Tree → Type 0) → IsFair truth → ((ρ : Renaming) → IsCarrying ρ → (e g : Tree) → Proves e g → Proves (rename ρ e) (rename ρ g))
    → (u : ℕ) (e s : Tree) → IsFormed (pair e s) → NamesAll leaf_level u (pair e s) → UsesClause h truth Proves e s → UsesNamed h truth Proves u e s
unfolding uses_renamed
uses_named h truth Proves fair kept u e s f n x =
    let t = pair e s in
    let c = x.carrier in
    let vs = (let a = x.use_of in map (carry c) a.values) in
    let ρ = homed t f u n vs in
    let k = homed_carrying t f u n vs in
    let same = homed_same t f u n vs in
    let y = uses_renamed h truth Proves Proves fair ρ k (granted_renamed Proves Proves ρ k (kept ρ k)) e s x in
    let left : rename ρ e ≡ e = first _ _ _ _ same in
    let right : rename ρ s ≡ s = second _ _ _ _ same in
    let here : UsesNamed h truth Proves u (rename ρ e) (rename ρ s) = record {
      uses = y;
      named = λ v i. rw (carry_then ρ k c v) (homed_named t f u n vs (carry c v) (carried_among c x.use_of.values v i));
    } in
    subst (λ z. UsesNamed h truth Proves u z s) left (subst (λ z. UsesNamed h truth Proves u (rename ρ e) z) right here)
  where
    first : (a b c d : Tree) → pair a b ≡ pair c d → a ≡ c
    first a b c d e = cc e

    second : (a b c d : Tree) → pair a b ≡ pair c d → b ≡ d
    second a b c d e = cc e

-- leaves that stand for bound variables, and do not stand in a tree
pub record AreAbsent (t : Tree) (f : Sort → ℕ → Leaf) : Type 0 where
  pub moves : (s : Sort) (n : ℕ) → stays (f s n) ≡ false
  pub sorts : (s : Sort) (n : ℕ) → sort_of_leaf (f s n) ≡ s
  pub distinct : (s : Sort) (n m : ℕ) → f s n ≡ f s m → n ≡ m
  pub absent : (s : Sort) (n : ℕ) → Occurs (f s n) t → ⊥

placeholder_moves : (l : Leaf) → is_placeholder (label.Leaf l) ≡ true → stays l ≡ false
placeholder_moves (leaf.Variable k n) h = cc h
placeholder_moves (leaf.Region (region.Placeholder u n)) h = refl
placeholder_moves (leaf.Region region.Static) h = cc h
placeholder_moves (leaf.Region region.Erased) h = cc h
placeholder_moves (leaf.Region region.Error) h = cc h
placeholder_moves (leaf.Region (region.EarlyParam n)) h = cc h
placeholder_moves (leaf.Region (region.LateParam n)) h = cc h
placeholder_moves (leaf.TyConstant a) h = refl
placeholder_moves (leaf.ConstConstant a) h = refl

sort_moved : (l m : Leaf) → stays l ≡ false → stays m ≡ false → leaf_sort l ≡ leaf_sort m → sort_of_leaf l ≡ sort_of_leaf m
sort_moved (leaf.Region r) (leaf.Region q) h k e = refl
sort_moved (leaf.Region r) (leaf.TyConstant q) h k e = cc e
sort_moved (leaf.Region r) (leaf.ConstConstant q) h k e = cc e
sort_moved (leaf.Region r) (leaf.Variable q n) h k e = cc k
sort_moved (leaf.TyConstant a) (leaf.TyConstant b) h k e = refl
sort_moved (leaf.TyConstant a) (leaf.ConstConstant b) h k e = cc e
sort_moved (leaf.TyConstant a) (leaf.Region b) h k e = cc e
sort_moved (leaf.TyConstant a) (leaf.Variable q n) h k e = cc k
sort_moved (leaf.ConstConstant a) (leaf.ConstConstant b) h k e = refl
sort_moved (leaf.ConstConstant a) (leaf.TyConstant b) h k e = cc e
sort_moved (leaf.ConstConstant a) (leaf.Region b) h k e = cc e
sort_moved (leaf.ConstConstant a) (leaf.Variable q n) h k e = cc k
sort_moved (leaf.Variable q n) m h k e = cc h

moved_sort : (l m : Leaf) → stays l ≡ false → stays m ≡ false → sort_of_leaf l ≡ sort_of_leaf m → leaf_sort l ≡ leaf_sort m
moved_sort (leaf.Region r) (leaf.Region q) h k e = refl
moved_sort (leaf.Region r) (leaf.TyConstant q) h k e = cc e
moved_sort (leaf.Region r) (leaf.ConstConstant q) h k e = cc e
moved_sort (leaf.Region r) (leaf.Variable q n) h k e = cc k
moved_sort (leaf.TyConstant a) (leaf.TyConstant b) h k e = refl
moved_sort (leaf.TyConstant a) (leaf.ConstConstant b) h k e = cc e
moved_sort (leaf.TyConstant a) (leaf.Region b) h k e = cc e
moved_sort (leaf.TyConstant a) (leaf.Variable q n) h k e = cc k
moved_sort (leaf.ConstConstant a) (leaf.ConstConstant b) h k e = refl
moved_sort (leaf.ConstConstant a) (leaf.TyConstant b) h k e = cc e
moved_sort (leaf.ConstConstant a) (leaf.Region b) h k e = cc e
moved_sort (leaf.ConstConstant a) (leaf.Variable q n) h k e = cc k
moved_sort (leaf.Variable q n) m h k e = cc h

pub absent_fresh : (t : Tree) (f : Sort → ℕ → Leaf) → AreFresh t f → AreAbsent t f
absent_fresh t f h = record { moves = λ s n. placeholder_moves (f s n) (h.placeholders s n); sorts = h.sorts; distinct = h.distinct; absent = h.absent }

-- what stands in a renamed tree stood there before
leaf_before : (ρ : Renaming) (l : Label) (c : Tree) (x : Leaf) → (Occurs (ρ.to x) (rename ρ c) → Occurs x c) → Occurs (ρ.to x) (put (λ y. leaf_tree (ρ.to y)) l (rename ρ c)) → Occurs x (node l c)
leaf_before ρ (label.Leaf y) c x f (inl e) = inl (ap label.Leaf (sym (ρ.back x) ∙ ap (ρ.from) (one (ρ.to x) (ρ.to y) e) ∙ ρ.back y))
  where
    one : (a b : Leaf) → label.Leaf a ≡ label.Leaf b → a ≡ b
    one a b e = cc e
leaf_before ρ (label.Leaf y) c x f (inr i) = absurd i
leaf_before ρ (label.Bound a b n) c x f (inl e) = cc e
leaf_before ρ (label.Bound a b n) c x f (inr i) = inr (f i)
leaf_before ρ (label.Ty y) c x f (inl e) = cc e
leaf_before ρ (label.Ty y) c x f (inr i) = inr (f i)
leaf_before ρ (label.Const y) c x f (inl e) = cc e
leaf_before ρ (label.Const y) c x f (inr i) = inr (f i)
leaf_before ρ (label.Clause y) c x f (inl e) = cc e
leaf_before ρ (label.Clause y) c x f (inr i) = inr (f i)
leaf_before ρ (label.Predicate y) c x f (inl e) = cc e
leaf_before ρ (label.Predicate y) c x f (inr i) = inr (f i)
leaf_before ρ (label.List y) c x f (inl e) = cc e
leaf_before ρ (label.List y) c x f (inr i) = inr (f i)

occurs_before : (ρ : Renaming) (t : Tree) (x : Leaf) → Occurs (ρ.to x) (rename ρ t) → Occurs x t
occurs_before ρ empty x i = i
occurs_before ρ (more a b) x (inl i) = inl (occurs_before ρ a x i)
occurs_before ρ (more a b) x (inr i) = inr (occurs_before ρ b x i)
occurs_before ρ (node l c) x i = leaf_before ρ l c x (occurs_before ρ c x) i

pub absent_renamed : (ρ : Renaming) → IsCarrying ρ → (t : Tree) (f : Sort → ℕ → Leaf) → AreAbsent t f → AreAbsent (rename ρ t) (λ s n. ρ.to (f s n))
absent_renamed ρ k t f h = record {
  moves = λ s n. back_stay ρ k (f s n) (h.moves s n);
  sorts = λ s n. sort_moved (ρ.to (f s n)) (f s n) (back_stay ρ k (f s n) (h.moves s n)) (h.moves s n) (ρ.keeps_sorts (f s n)) ∙ h.sorts s n;
  distinct = λ s n m e. h.distinct s n m (sym (ρ.back (f s n)) ∙ ap (ρ.from) e ∙ ρ.back (f s m));
  absent = λ s n i. h.absent s n (occurs_before ρ t (f s n) i);
}

-- the leaves for the bound variables of names below n
abbrev below : (Sort → ℕ → Leaf) → ℕ → List Leaf
below f zero = []
below f (suc n) = f sort.Ty n ∷ f sort.Region n ∷ f sort.Const n ∷ below f n

below_is : (f : Sort → ℕ → Leaf) (n : ℕ) (l : Leaf) → Among (below f n) l → (s : Sort) × (m : ℕ) × (m < n) × (l ≡ f s m)
below_is f zero l i = absurd i
below_is f (suc n) l (inl e) = (sort.Ty, n, omega arith, e)
below_is f (suc n) l (inr (inl e)) = (sort.Region, n, omega arith, e)
below_is f (suc n) l (inr (inr (inl e))) = (sort.Const, n, omega arith, e)
below_is f (suc n) l (inr (inr (inr i))) = (let r = below_is f n l i in let q = r.2 in (r.0, r.1, omega (arith, q), r.3))

module _ (t : Tree) (f : Sort → ℕ → Leaf) (h : AreAbsent t f) where
  one_sort : (s o : Sort) (n m : ℕ) → f s n ≡ f o m → s ≡ o
  one_sort s o n m e = sym (h.sorts s n) ∙ ap sort_of_leaf e ∙ h.sorts o m

  not_below : (s : Sort) (n : ℕ) → Among (below f n) (f s n) → ⊥
  not_below s n i =
      let r = below_is f n (f s n) i in
      let o = one_sort s r.0 n r.1 r.3 in
      let same = h.distinct s n r.1 (r.3 ∙ ap (λ z. f z r.1) (sym o)) in
      let q = r.2 in omega (arith, q, same)

  apart_sorts : (s o : Sort) (n : ℕ) → (s ≡ o → ⊥) → f s n ≡ f o n → ⊥
  apart_sorts s o n d e = d (one_sort s o n n e)

  ty_region : sort.Ty ≡ sort.Region → ⊥
  ty_region e = cc e

  ty_const : sort.Ty ≡ sort.Const → ⊥
  ty_const e = cc e

  region_const : sort.Region ≡ sort.Const → ⊥
  region_const e = cc e

  below_distinct : (n : ℕ) → AreDistinct (below f n)
  below_distinct zero = tt
  below_distinct (suc n) = (
    (λ i. elim i [
      | inl e ↦ apart_sorts sort.Ty sort.Region n ty_region e
      | inr j ↦ (elim j [ inl e ↦ apart_sorts sort.Ty sort.Const n ty_const e | inr k ↦ not_below sort.Ty n k ])
    ]),
    ((λ i. elim i [ inl e ↦ apart_sorts sort.Region sort.Const n region_const e | inr k ↦ not_below sort.Region n k ]), ((λ i. not_below sort.Const n i), below_distinct n)),
  )

  below_moves : (n : ℕ) (l : Leaf) → Among (below f n) l → stays l ≡ false
  below_moves n l i = let r = below_is f n l i in subst (λ z. stays z ≡ false) (sym r.3) (h.moves r.0 r.1)

  below_absent : (n : ℕ) (l : Leaf) → Occurs l t → Among (below f n) l → ⊥
  below_absent n l o i = let r = below_is f n l i in h.absent r.0 r.1 (subst (λ z. Occurs z t) r.3 o)

-- one more than the greatest index of a bound variable
abbrev name_of : Label → ℕ
name_of (label.Bound s (index.Bound d) n) = suc n
name_of l = 0

abbrev names_below : Tree → ℕ
names_below empty = 0
names_below (more a b) = max (names_below a) (names_below b)
names_below (node l c) = max (name_of l) (names_below c)

left_below : (a b n : ℕ) → max a b ≤ n → a ≤ n
left_below a b n h = let l = le-max_left a b in omega (arith, l, h)

right_below : (a b n : ℕ) → max a b ≤ n → b ≤ n
right_below a b n h = let l = le-max_right a b in omega (arith, l, h)

-- two families of leaves that agree up to that number open a tree alike
module _ (f p : Sort → ℕ → Leaf) (k : ℕ) (agree : (s : Sort) (n : ℕ) → n < k → f s n ≡ p s n) where
  alike_label : (c : ℕ) (l : Label) (u : Tree) → name_of l ≤ k → opened_at f c l u ≡ opened_at p c l u
  alike_label c (label.Bound s (index.Bound d) n) u h = ap (λ z. if d == c then leaf_tree z else node (label.Bound s (index.Bound d) n) u) (agree s n (omega (arith, h)))
  alike_label c (label.Bound s index.Canonical n) u h = refl
  alike_label c (label.Leaf x) u h = refl
  alike_label c (label.Ty x) u h = refl
  alike_label c (label.Const x) u h = refl
  alike_label c (label.Clause x) u h = refl
  alike_label c (label.Predicate x) u h = refl
  alike_label c (label.List x) u h = refl

  alike_opened : (c : ℕ) (t : Tree) → names_below t ≤ k → opened f c t ≡ opened p c t
  alike_opened c empty h = refl
  alike_opened c (more a b) h = cc (alike_opened c a (left_below (names_below a) (names_below b) k h), alike_opened c b (right_below (names_below a) (names_below b) k h))
  alike_opened c (node l t) h =
      ap (opened_at f c l) (alike_opened (c + binders l) t (right_below (name_of l) (names_below t) k h))
      ∙ alike_label c l (opened p (c + binders l) t) (left_below (name_of l) (names_below t) k h)

below_sorts : (f p : Sort → ℕ → Leaf) → ((s : Sort) (n : ℕ) → leaf_sort (f s n) ≡ leaf_sort (p s n)) → (n : ℕ) → map leaf_sort (below f n) ≡ map leaf_sort (below p n)
below_sorts f p h zero = refl
below_sorts f p h (suc n) = (let a = h sort.Ty n in let b = h sort.Region n in let c = h sort.Const n in let d = below_sorts f p h n in cc (a, b, c, d))

picked : (g : Leaf → Leaf) (f p : Sort → ℕ → Leaf) (n : ℕ) → map g (below f n) ≡ below p n → (s : Sort) (m : ℕ) → m < n → g (f s m) ≡ p s m
picked g f p zero e s m h = absurd (omega (arith, h))
picked g f p (suc n) e s m h = elim (cases_lt m n) [
  | inl l ↦ picked g f p n (tail e) s m l
  | inr l ↦ (let q : m ≡ n = omega (arith, h, l) in rw q (at_first s e))
]
  where
    tail : map g (below f (suc n)) ≡ below p (suc n) → map g (below f n) ≡ below p n
    tail e = cc

    at_first : (s : Sort) → map g (below f (suc n)) ≡ below p (suc n) → g (f s n) ≡ p s n
    at_first sort.Ty e = cc
    at_first sort.Region e = cc
    at_first sort.Const e = cc

-- one family gives place to another
module _ (e s : Tree) (formed : IsFormed (pair e s)) (f p : Sort → ℕ → Leaf) (a : AreAbsent (pair e s) f) (b : AreAbsent (pair e s) p) where
  abbrev count : ℕ
  count = names_below s

  same_sorts : (o : Sort) (n : ℕ) → leaf_sort (f o n) ≡ leaf_sort (p o n)
  same_sorts o n = moved_sort (f o n) (p o n) (a.moves o n) (b.moves o n) (a.sorts o n ∙ sym (b.sorts o n))

  pub all_sorts : map leaf_sort (below f (names_below s)) ≡ map leaf_sort (below p (names_below s))
  all_sorts = below_sorts f p same_sorts (names_below s)

  abbrev pub swap : Renaming
  swap = extension (below f (names_below s)) (below p (names_below s)) all_sorts

  pub swap_carrying : IsCarrying swap
  swap_carrying = extension_carrying (below f count) (below p count) all_sorts (movable_by (below f count) (below_moves (pair e s) f a count)) (movable_by (below p count) (below_moves (pair e s) p b count))

  swap_keeps : rename swap (pair e s) ≡ pair e s
  swap_keeps =
      kept_tree (λ l. leaf_tree (swap.to l)) (pair e s) formed
      (λ l i. ap leaf_tree (forward_others (below f count) (below p count) l (below_absent (pair e s) f a count l i) (below_absent (pair e s) p b count l i)))

  swap_environment : rename swap e ≡ e
  swap_environment = first_of_pair _ _ _ _ swap_keeps
    where
      first_of_pair : (x y z w : Tree) → pair x y ≡ pair z w → x ≡ z
      first_of_pair x y z w q = cc q

  swap_brings : (o : Sort) (n : ℕ) → n < count → swap.to (f o n) ≡ p o n
  swap_brings = picked swap.to f p count (map-forward (below f count) (below p count) (below_distinct (pair e s) f a count) (below_distinct (pair e s) p b count) all_sorts)

  first_same : (x y z w : Tree) → pair x y ≡ pair z w → x ≡ z
  first_same x y z w q = cc q

  second_same : (x y z w : Tree) → pair x y ≡ pair z w → y ≡ w
  second_same x y z w q = cc q

  le_self : (n : ℕ) → n ≤ n
  le_self n = omega arith

  swap_opened : rename swap (opened f 0 s) ≡ opened p 0 s
  swap_opened =
      rename_opened swap f 0 s
      ∙ ap (opened (λ o n. swap.to (f o n)) 0) (second_same _ _ _ _ swap_keeps)
      ∙ alike_opened (λ o n. swap.to (f o n)) p count swap_brings 0 s (le_self count)

  pub uses_swapped : (h : Handler) (truth : Truth) (Proves : Tree → Tree → Type 0) (rules : InstancesAreRules h) → IsFair truth → ((ρ : Renaming) → IsCarrying ρ → (x y : Tree) → Proves x y → Proves (rename ρ x) (rename ρ y))
      → UsesClause h truth Proves e (opened f 0 s) → UsesClause h truth Proves e (opened p 0 s)
  uses_swapped h truth Proves rules fair kept u =
      subst (λ z. UsesClause h truth Proves z (opened p 0 s)) (first_same _ _ _ _ swap_keeps)
      (subst (λ z. UsesClause h truth Proves (rename swap e) z) swap_opened
      (uses_renamed h truth Proves Proves fair swap swap_carrying (granted_renamed Proves Proves swap swap_carrying (kept swap swap_carrying)) e (opened f 0 s) u))

-- a goal that is opened with placeholders of the next universe is named by that
level_in : (u : ℕ) (s : Sort) (n : ℕ) → CanName u (leaf_level (label.Leaf (placeholder_in u s n)))
level_in u sort.Ty n = omega arith
level_in u sort.Const n = omega arith
level_in u sort.Region n = omega arith

named_if : (b : Bool) (u : ℕ) (s : Sort) (d n : ℕ) (t : Tree) → NamesAll leaf_level u t → NamesAll leaf_level u (if b then leaf_tree (placeholder_in u s n) else node (label.Bound s (index.Bound d) n) t)
named_if true u s d n t h = (level_in u s n, tt)
named_if false u s d n t h = (tt, h)

named_label : (u c : ℕ) (l : Label) (t : Tree) → CanName u (leaf_level l) → NamesAll leaf_level u t → NamesAll leaf_level u (opened_at (placeholder_in u) c l t)
named_label u c (label.Bound s (index.Bound d) n) t h k = named_if (d == c) u s d n t k
named_label u c (label.Bound s index.Canonical n) t h k = (h, k)
named_label u c (label.Leaf x) t h k = (h, k)
named_label u c (label.Ty x) t h k = (h, k)
named_label u c (label.Const x) t h k = (h, k)
named_label u c (label.Clause x) t h k = (h, k)
named_label u c (label.Predicate x) t h k = (h, k)
named_label u c (label.List x) t h k = (h, k)

pub named_opened : (u c : ℕ) (t : Tree) → NamesAll leaf_level u t → NamesAll leaf_level u (opened (placeholder_in u) c t)
named_opened u c empty h = tt
named_opened u c (more a b) h = (named_opened u c a h.0, named_opened u c b h.1)
named_opened u c (node l t) h = named_label u c l (opened (placeholder_in u) (c + binders l) t) h.0 (named_opened u (c + binders l) t h.1)

-- the goals of which a renaming is proved
pub record Carried (Proves : Tree → Tree → Type 0) (e g : Tree) : Type 0 where
  pub by : Renaming
  pub carrying : IsCarrying by
  pub environment : Tree
  pub predicate : Tree
  pub proved : Proves environment predicate
  pub is_environment : rename by environment ≡ e
  pub is_predicate : rename by predicate ≡ g

pub back_again : (ρ : Renaming) (t : Tree) → IsFormed t → rename (back_to ρ) (rename ρ t) ≡ t
back_again ρ t f = rename_then ρ (back_to ρ) t ∙ replace-equal (λ l. leaf_tree (ρ.from (ρ.to l))) leaf_tree (λ l. ap leaf_tree (ρ.back l)) t ∙ replace-leaf t f

pub forth_again : (ρ : Renaming) (t : Tree) → IsFormed t → rename ρ (rename (back_to ρ) t) ≡ t
forth_again ρ t f = rename_then (back_to ρ) ρ t ∙ replace-equal (λ l. leaf_tree (ρ.to (ρ.from l))) leaf_tree (λ l. ap leaf_tree (ρ.forth l)) t ∙ replace-leaf t f

-- what a goal that binds variables lacks, what it says lacks
fewer : (e x xs s : Tree) (f : Sort → ℕ → Leaf) → AreAbsent (pair e (binding x xs s)) f → AreAbsent (pair e s) f
fewer e x xs s f a = record {
  moves = a.moves;
  sorts = a.sorts;
  distinct = a.distinct;
  absent = λ o n i. a.absent o n (elim i [
    | inl j ↦ inl j
    | inr j ↦ (elim j [ inl k ↦ inr (inl (inr (inr (inl k)))) | inr k ↦ absurd k ])
  ]);
}

binding_same : (x xs s y ys t : Tree) → binding x xs s ≡ binding y ys t → s ≡ t
binding_same x xs s y ys t e = cc e

module _ (h : Handler) (truth : Truth) (Proves : Tree → Tree → Type 0) (rules : InstancesAreRules h) (judged : JudgementsAreKept h) (fair : IsFair truth) (used : AreUsed h truth Proves) where
  abbrev Later : Tree → Tree → Type 0
  Later = Carried Proves

  pub carried_kept : (ρ : Renaming) → IsCarrying ρ → (e g : Tree) → Later e g → Later (rename ρ e) (rename ρ g)
  carried_kept ρ k e g c =
      record {
        by = then_by c.by ρ;
        carrying = then_carrying c.by ρ c.carrying k;
        environment = c.environment;
        predicate = c.predicate;
        proved = c.proved;
        is_environment = sym (rename_then c.by ρ c.environment) ∙ ap (rename ρ) c.is_environment;
        is_predicate = sym (rename_then c.by ρ c.predicate) ∙ ap (rename ρ) c.is_predicate;
      }

  pub carried_itself : (e g : Tree) → Proves e g → Later e g
  carried_itself e g p =
      let f = used.ground.formed e g p in
      record {
        by = none_renamed;
        carrying = none_carrying;
        environment = e;
        predicate = g;
        proved = p;
        is_environment = replace-leaf e f.0;
        is_predicate = replace-leaf g f.1.0;
      }

  formed_later : (e g : Tree) → Later e g → IsFormed (pair e g)
  formed_later e g c =
      let f = used.ground.formed c.environment c.predicate c.proved in
      let ι = instance_by c.by c.carrying in
      (subst IsFormed c.is_environment (IsFormed-instance ι c.environment f.0), (subst IsFormed c.is_predicate (IsFormed-instance ι c.predicate f.1.0), tt))

  ground_later : (e g : Tree) → Later e g → AllLabels IsGroundLabel (pair e g)
  ground_later e g c =
      let f = used.ground.ground c.environment c.predicate c.proved in
      (subst (AllLabels IsGroundLabel) c.is_environment (ground_renamed c.by c.carrying c.environment f.0), (subst (AllLabels IsGroundLabel) c.is_predicate (ground_renamed c.by c.carrying c.predicate f.1.0), tt))

  -- the goal before, by the renaming back
  before : (e g : Tree) (c : Later e g) → c.predicate ≡ rename (back_to c.by) g
  before e g c = let f = used.ground.formed c.environment c.predicate c.proved in sym (back_again c.by c.predicate f.1.0) ∙ ap (rename (back_to c.by)) c.is_predicate

  carried_later : (ρ : Renaming) (k : IsCarrying ρ) (e g : Tree) → Proves e g → Later (rename ρ e) (rename ρ g)
  carried_later ρ k e g p = carried_kept ρ k e g (carried_itself e g p)

  granted_later : (ρ : Renaming) (k : IsCarrying ρ) (e g : Tree) → IsGranted Proves e g → IsGranted Later (rename ρ e) (rename ρ g)
  granted_later ρ k = granted_renamed Proves Later ρ k (carried_later ρ k)

  -- .. of a goal that binds nothing
  plain_before : (e s : Tree) → Later e (unbound s) → IsHandlers s → IsClosed s → UsesClause h truth Later e s
  plain_before e s c i z =
      let b = back_to c.by in
      let k = back_carrying c.by c.carrying in
      let t = rename b s in
      let is : c.predicate ≡ unbound t = before e (unbound s) c in
      let u = used.plain c.environment t (subst (Proves c.environment) is c.proved) (handlers_replaced (λ l. leaf_tree (b.to l)) s i) (IsClosed-instance (instance_by b k) s z) in
      let v = uses_renamed h truth Proves Later fair c.by c.carrying (granted_later c.by c.carrying) c.environment t u in
      let f = formed_later e (unbound s) c in
      subst (λ y. UsesClause h truth Later y s) c.is_environment (subst (λ y. UsesClause h truth Later (rename c.by c.environment) y) (forth_again c.by s (let y = f.1.0 in y.1.1.0)) v)

  plain_named : (u : ℕ) (e s : Tree) → Later e (unbound s) → IsHandlers s → IsClosed s → NamesAll leaf_level u (pair e s) → UsesNamed h truth Later u e s
  plain_named u e s c i z n =
      let f = formed_later e (unbound s) c in
      uses_named h truth Later fair carried_kept u e s (f.0, ((let y = f.1.0 in y.1.1.0), tt)) n (plain_before e s c i z)

  -- .. and of one that binds variables
  opened_before : (e x xs s : Tree) (p : Sort → ℕ → Leaf) → Later e (binding x xs s) → IsHandlers (opened p 0 s) → AreAbsent (pair e s) p → UsesClause h truth Later e (opened p 0 s)
  opened_before e x xs s p c i a =
      let b = back_to c.by in
      let k = back_carrying c.by c.carrying in
      let t = rename b s in
      let is : c.predicate ≡ binding (rename b x) (rename b xs) t = before e (binding x xs s) c in
      let hs = handlers_replaced (λ l. leaf_tree (b.to l)) s (handlers_before p 0 s i) in
      let u = used.opened c.environment (rename b x) (rename b xs) t (subst (Proves c.environment) is c.proved) hs in
      let v = uses_renamed h truth Proves Later fair c.by c.carrying (granted_later c.by c.carrying) c.environment (opened u.fresh 0 t) u.uses in
      let f = formed_later e (binding x xs s) c in
      let fs : IsFormed s = (let y = f.1.0 in y.1.1.0) in
      let back : rename c.by t ≡ s = forth_again c.by s fs in
      let fresh : Sort → ℕ → Leaf = λ o n. c.by.to (u.fresh o n) in
      let q : rename c.by (opened u.fresh 0 t) ≡ opened fresh 0 s = rename_opened c.by u.fresh 0 t ∙ ap (opened fresh 0) back in
      let w = subst (λ y. UsesClause h truth Later y (opened fresh 0 s)) c.is_environment (subst (λ y. UsesClause h truth Later (rename c.by c.environment) y) q v) in
      let old : AreAbsent (pair c.environment t) u.fresh = fewer c.environment (rename b x) (rename b xs) t u.fresh (absent_fresh (pair c.environment (binding (rename b x) (rename b xs) t)) u.fresh u.are_fresh) in
      let new : AreAbsent (pair e s) fresh =
      subst (λ y. AreAbsent (pair y s) fresh) c.is_environment (subst (λ y. AreAbsent (pair (rename c.by c.environment) y) fresh) back (absent_renamed c.by c.carrying (pair c.environment t) u.fresh old)) in
      uses_swapped e s (f.0, (fs, tt)) fresh p new a h truth Later rules fair carried_kept w

  opened_named : (u : ℕ) (e x xs s : Tree) → Later e (binding x xs s) → IsHandlers (opened (placeholder_in (u + 1)) 0 s) → IsFormed (opened (placeholder_in (u + 1)) 0 s) → NamesAll leaf_level u (pair e s)
      → UsesNamed h truth Later (u + 1) e (opened (placeholder_in (u + 1)) 0 s)
  opened_named u e x xs s c i fo n =
      let f = formed_later e (binding x xs s) c in
      let fresh = absent_fresh (pair e s) (placeholder_in (u + 1)) (fresh_in u (u + 1) (pair e s) (omega arith) n) in
      let up = NamesAll-more leaf_level u (u + 1) (pair e s) (omega arith) n in
      uses_named h truth Later fair carried_kept (u + 1) e (opened (placeholder_in (u + 1)) 0 s) (f.0, (fo, tt)) (up.0, (named_opened (u + 1) 0 s up.1.0, tt))
      (opened_before e x xs s (placeholder_in (u + 1)) c i fresh)

  -- what is said of two terms before is so later
  says_later : (e s : Tree) (x : Constraint) → Later e (unbound s) → SaysOfTwo x s → IsClosed s → HasNoAlias s → IsTrueBy truth x.relation x.left x.right
  says_later e s x c says z plain =
      let b = back_to c.by in
      let k = back_carrying c.by c.carrying in
      let is : c.predicate ≡ unbound (rename b s) = before e (unbound s) c in
      let f = formed_later e (unbound s) c in
      let sides = both_formed x s says (let y = f.1.0 in y.1.1.0) in
      true_again truth fair c.by c.carrying (forth_again c.by) x.relation x.left x.right sides.0 sides.1
      (used.says c.environment (rename b s) (constraint_by (rename b) x) (subst (Proves c.environment) is c.proved) (said_renamed b x s says) (IsClosed-instance (instance_by b k) s z) (no_alias_renamed b s plain))

  -- what a goal says with the fresh placeholders of its rule, moved to those of the next universe
  record Moves (u : ℕ) (e x xs s : Tree) (c : Later e (binding x xs s)) (f : Sort → ℕ → Leaf) : Type 0 where
    pub by : Renaming
    pub carries : IsCarrying by
    pub environment : rename by c.environment ≡ e
    pub whole : rename by (opened f 0 (rename (back_to c.by) s)) ≡ opened (placeholder_in (u + 1)) 0 s

  moves_to : (u : ℕ) (e x xs s : Tree) (c : Later e (binding x xs s)) (f : Sort → ℕ → Leaf) → (let b = back_to c.by in AreFresh (pair c.environment (binding (rename b x) (rename b xs) (rename b s))) f) → NamesAll leaf_level u (pair e s) → Moves u e x xs s c f
  moves_to u e x xs s c g are n =
      let p = placeholder_in (u + 1) in
      let a = absent_fresh (pair e s) p (fresh_in u (u + 1) (pair e s) (omega arith) n) in
      let b = back_to c.by in
      let t = rename b s in
      let f = formed_later e (binding x xs s) c in
      let fs : IsFormed s = (let z = f.1.0 in z.1.1.0) in
      let fresh : Sort → ℕ → Leaf = λ o i. c.by.to (g o i) in
      let back : rename c.by t ≡ s = forth_again c.by s fs in
      let q : rename c.by (opened g 0 t) ≡ opened fresh 0 s = rename_opened c.by g 0 t ∙ ap (opened fresh 0) back in
      let old : AreAbsent (pair c.environment t) g = fewer c.environment (rename b x) (rename b xs) t g (absent_fresh (pair c.environment (binding (rename b x) (rename b xs) t)) g are) in
      let new : AreAbsent (pair e s) fresh =
      subst (λ z. AreAbsent (pair z s) fresh) c.is_environment (subst (λ z. AreAbsent (pair (rename c.by c.environment) z) fresh) back (absent_renamed c.by c.carrying (pair c.environment t) g old)) in
      let w = swap e s (f.0, (fs, tt)) fresh p new a in
      record {
        by = then_by c.by w;
        carries = then_carrying c.by w c.carrying (swap_carrying e s (f.0, (fs, tt)) fresh p new a);
        environment = sym (rename_then c.by w c.environment) ∙ ap (rename w) c.is_environment ∙ swap_environment e s (f.0, (fs, tt)) fresh p new a;
        whole = sym (rename_then c.by w (opened g 0 t)) ∙ ap (rename w) q ∙ swap_opened e s (f.0, (fs, tt)) fresh p new a;
      }

  -- .. and with placeholders of the next universe
  says_opened_later : (u : ℕ) (e x xs s : Tree) (y : Constraint) → Later e (binding x xs s) → SaysOfTwo y (opened (placeholder_in (u + 1)) 0 s) → NamesAll leaf_level u (pair e s) → HasNoAlias s → IsTrueBy truth y.relation y.left y.right
  says_opened_later u e x xs s y c says n plain =
      let p = placeholder_in (u + 1) in
      let b = back_to c.by in
      let is : c.predicate ≡ binding (rename b x) (rename b xs) (rename b s) = before e (binding x xs s) c in
      let v = used.says_opened c.environment (rename b x) (rename b xs) (rename b s) (subst (Proves c.environment) is c.proved) (no_alias_renamed b s plain) in
      let f = formed_later e (binding x xs s) c in
      let m = moves_to u e x xs s c v.fresh v.are_fresh n in
      let o = said_before p s y (let z = f.1.0 in z.1.1.0) says in
      let moved = both_moved m.by b v.fresh p o.before s o.says m.whole in
      let there = v.holds _ (said_opened b v.fresh o.before s o.says) in
      let r = o.before.relation in
      let known : IsTrueBy truth r (rename m.by (opened v.fresh 0 (rename b o.before.left))) (rename m.by (opened v.fresh 0 (rename b o.before.right))) = true_renamed truth fair m.by m.carries r _ _ there in
      subst (λ z. IsTrueBy truth z.relation z.left z.right) (sym o.same) (subst (λ z. IsTrueBy truth r (opened p 0 o.before.left) z) moved.1 (subst (λ z. IsTrueBy truth r z (rename m.by (opened v.fresh 0 (rename b o.before.right)))) moved.0 known))

  -- nothing is carried that the handler denies
  denies_later : (e g : Tree) → Later e g → IsDenied h.judges (statement_of g) → ⊥
  denies_later e g c d =
      let back = back_to c.by in
      let there = denied_replaced h.judges (λ l. leaf_tree (back.to l)) g d in
      used.denies c.environment c.predicate c.proved (subst (λ z. IsDenied h.judges (statement_of z)) (sym (before e g c)) there)

  -- what is well formed before is so later
  image_among : (f : Tree → Tree) (ps : List Tree) (p : Tree) → Among ps p → Among (map f ps) (f p)
  image_among f [] p i = absurd i
  image_among f (q ∷ ps) p (inl e) = inl (ap f e)
  image_among f (q ∷ ps) p (inr i) = inr (image_among f ps p i)

  formed_carried : (e s : Tree) → Later e (unbound s) → IsClosed s → GrantsFormed h.judges Later e s
  formed_carried e s c z t ps is given p i =
      let b = back_to c.by in
      let k = back_carrying c.by c.carrying in
      let same : c.predicate ≡ unbound (rename b s) = before e (unbound s) c in
      let f = formed_later e (unbound s) c in
      let ft : IsFormed (is_well_formed t) = subst IsFormed is (let y = f.1.0 in y.1.1.0) in
      let fe : IsFormed (pair e t) = (f.0, (ft.1.0, tt)) in
      let there = judged.well_formed e t ps (instance_by b k) fe given in
      let fb = used.ground.formed c.environment c.predicate c.proved in
      let env : rename b e ≡ c.environment = ap (rename b) (sym c.is_environment) ∙ back_again c.by c.environment fb.0 in
      let q = used.formed c.environment (rename b s) (subst (Proves c.environment) same c.proved) (IsClosed-instance (instance_by b k) s z) (rename b t) (map (rename b) ps) (ap (rename b) is)
      (subst (λ y. (let j = h.judges in j.well_formed y (rename b t) ≡ Some (map (rename b) ps))) env there) (rename b p) (image_among (rename b) ps p i) in
      let over = (judged.goals e t ps p fe given i).0 in
      let l = granted_later c.by c.carrying c.environment (rename b p) q in
      subst (λ y. IsGranted Later y p) c.is_environment (subst (IsGranted Later (rename c.by c.environment)) (forth_again c.by p over.formed) l)

  -- .. and with placeholders of the next universe
  opened_carried : (u : ℕ) (e x xs s : Tree) → Later e (binding x xs s) → NamesAll leaf_level u (pair e s) → GrantsFormed h.judges Later e (opened (placeholder_in (u + 1)) 0 s)
  opened_carried u e x xs s c n t ps is given p i =
      let w = was_formed (placeholder_in (u + 1)) s t is in
      let b = back_to c.by in
      let same : c.predicate ≡ binding (rename b x) (rename b xs) (rename b s) = before e (binding x xs s) c in
      let v = used.formed_opened c.environment (rename b x) (rename b xs) (rename b s) (subst (Proves c.environment) same c.proved) in
      let m = moves_to u e x xs s c v.fresh v.are_fresh n in
      let β = back_to m.by in
      let kβ = back_carrying m.by m.carries in
      let f = formed_later e (binding x xs s) c in
      let fs : IsFormed (is_well_formed w.term) = subst IsFormed w.is (let y = f.1.0 in y.1.1.0) in
      let fw : IsFormed w.term = fs.1.0 in
      let fresh_in_universe = fresh_in u (u + 1) (pair e s) (omega arith) n in
      let ft : IsFormed t = subst IsFormed w.opens (opened_formed (placeholder_in (u + 1)) fresh_in_universe.sorts 0 w.term fw) in
      let there : Tree = opened v.fresh 0 (rename b w.term) in
      let fb : IsFormed (rename b w.term) = IsFormed-instance (instance_by b (back_carrying c.by c.carrying)) w.term fw in
      let fo : IsFormed there = opened_formed v.fresh (let a = v.are_fresh in a.sorts) 0 (rename b w.term) fb in
      let says : opened v.fresh 0 (rename b s) ≡ is_well_formed there = ap (λ y. opened v.fresh 0 (rename b y)) w.is in
      let whole : rename m.by (is_well_formed there) ≡ is_well_formed t = ap (rename m.by) (sym says) ∙ m.whole ∙ is in
      let moved : rename m.by there ≡ t = cc whole in
      let back : rename β t ≡ there = ap (rename β) (sym moved) ∙ back_again m.by there fo in
      let fe : IsFormed (pair e t) = (f.0, (ft, tt)) in
      let fc = used.ground.formed c.environment c.predicate c.proved in
      let env : rename β e ≡ c.environment = ap (rename β) (sym m.environment) ∙ back_again m.by c.environment fc.0 in
      let known = judged.well_formed e t ps (instance_by β kβ) fe given in
      let q = v.goals there (map (rename β) ps) says (subst (λ y. (let j = h.judges in j.well_formed y there ≡ Some (map (rename β) ps))) env (subst (λ y. (let j = h.judges in j.well_formed (rename β e) y ≡ Some (map (rename β) ps))) back known)) (rename β p) (image_among (rename β) ps p i) in
      let over = (judged.goals e t ps p fe given i).0 in
      let l = granted_later m.by m.carries c.environment (rename β p) q in
      subst (λ y. IsGranted Later y p) m.environment (subst (IsGranted Later (rename m.by c.environment)) (forth_again m.by p over.formed) l)

  -- what an alias is equal to before it is later
  parts_formed : (h : AliasHead) (ts : Tree) → IsFormed (alias h ts) → IsFormed ts
  parts_formed (alias_of.Ty i) ts f = f.1.0.1
  parts_formed (alias_of.Const i) ts f = f.1.0.1

  equated_carried : (e g a t : Tree) (x : IsAlias a) (c : Later e g) → IsFormed a → IsFormed t → IsClosed t → HasNoAlias t
      → (let b = back_to c.by in (c.predicate ≡ alias_relation direction.Equate (rename b a) (rename b t)) ⊎ (c.predicate ≡ alias_relation direction.Equate (rename b t) (rename b a))) → Later e (normalization_goal x.head x.parts t) × (kind_of t ≡ kind_of a)
  equated_carried e g a t x c fa ft closed none says =
      let b = back_to c.by in
      let k = back_carrying c.by c.carrying in
      let y : IsAlias (rename b a) = still_alias b k a x in
      let p = used.equates c.environment (rename b a) (rename b t) y (elim says [ inl s ↦ inl (subst (Proves c.environment) s c.proved) | inr s ↦ inr (subst (Proves c.environment) s c.proved) ]) (IsClosed-instance (instance_by b k) t closed) (no_alias_renamed b t none) in
      let l = carried_later c.by c.carrying c.environment (normalization_goal x.head (rename b x.parts) (rename b t)) p.0 in
      let parts = forth_again c.by x.parts (parts_formed x.head x.parts (subst IsFormed x.is fa)) in
      let term = forth_again c.by t ft in
      let same : rename c.by (normalization_goal x.head (rename b x.parts) (rename b t)) ≡ normalization_goal x.head x.parts t = ap (λ z. normalization_goal x.head z (rename c.by (rename b t))) parts ∙ ap (normalization_goal x.head x.parts) term in
      let kinds = instance_kinds (instance_by b k) in (
        subst (λ z. Later z (normalization_goal x.head x.parts t)) c.is_environment (subst (Later (rename c.by c.environment)) same l),
        sym (kind_of-replace (λ y. leaf_tree (b.to y)) kinds t) ∙ p.1 ∙ kind_of-replace (λ y. leaf_tree (b.to y)) kinds a,
      )

  equates_later : (e a t : Tree) (x : IsAlias a) → Later e (alias_relation direction.Equate a t) ⊎ Later e (alias_relation direction.Equate t a) → IsClosed t → HasNoAlias t → Later e (normalization_goal x.head x.parts t) × (kind_of t ≡ kind_of a)
  equates_later e a t x (inl c) closed none =
      let f = formed_later e (alias_relation direction.Equate a t) c in
      let w = f.1.0 in
      equated_carried e (alias_relation direction.Equate a t) a t x c w.1.1.0.1.0 w.1.1.0.1.1.0 closed none (inl (before e (alias_relation direction.Equate a t) c))
  equates_later e a t x (inr c) closed none =
      let f = formed_later e (alias_relation direction.Equate t a) c in
      let w = f.1.0 in
      equated_carried e (alias_relation direction.Equate t a) a t x c w.1.1.0.1.1.0 w.1.1.0.1.0 closed none (inr (before e (alias_relation direction.Equate t a) c))

  -- what an alias normalizes to before it does later
  normal_carried : (e g : Tree) (c : Later e g) (v a : Tree) (x : IsAlias a) → IsFormed a → (y : IsAlias (rename (back_to c.by) a)) → Proves c.environment (normalization_goal y.head y.parts v) → Later e (normalization_goal x.head x.parts (rename c.by v))
  normal_carried e g c v a x fa y p =
      let b = back_to c.by in
      let k = back_carrying c.by c.carrying in
      let z = still_alias b k a x in
      let s = one_alias y.head x.head y.parts (rename b x.parts) (sym y.is ∙ z.is) in
      let q : Proves c.environment (normalization_goal x.head (rename b x.parts) v) = subst (λ h. Proves c.environment (normalization_goal h (rename b x.parts) v)) s.0 (subst (λ h. Proves c.environment (normalization_goal y.head h v)) s.1 p) in
      let l = carried_later c.by c.carrying c.environment (normalization_goal x.head (rename b x.parts) v) q in
      let parts = forth_again c.by x.parts (parts_formed x.head x.parts (subst IsFormed x.is fa)) in
      subst (λ h. Later h (normalization_goal x.head x.parts (rename c.by v))) c.is_environment (subst (λ h. Later (rename c.by c.environment) (normalization_goal x.head h (rename c.by v))) parts l)

  -- .. and so are two aliases that are equal before
  both_carried : (e a t : Tree) (c : Later e (alias_relation direction.Equate a t)) → IsAlias a → IsAlias t → NormalizeToOne Later e a t
  both_carried e a t c x y =
      let b = back_to c.by in
      let k = back_carrying c.by c.carrying in
      let f = formed_later e (alias_relation direction.Equate a t) c in
      let w = f.1.0 in
      let fa : IsFormed a = w.1.1.0.1.0 in
      let ft : IsFormed t = w.1.1.0.1.1.0 in
      let p = used.equates_both c.environment (rename b a) (rename b t) (still_alias b k a x) (still_alias b k t y) (subst (Proves c.environment) (before e (alias_relation direction.Equate a t) c) c.proved) in
      let kinds = instance_kinds (instance_by b k) in
      let forth = instance_kinds (instance_by c.by c.carrying) in
      let there = normal_carried e (alias_relation direction.Equate a t) c p.term in
      record {
        left = x;
        right = y;
        term = rename c.by p.term;
        ends = IsClosed-instance (instance_by c.by c.carrying) p.term p.ends;
        free = free_renamed c.by p.term p.free;
        kind = kind_of-replace (λ z. leaf_tree (let r = c.by in r.to z)) forth p.term ∙ p.kind ∙ kind_of-replace (λ z. leaf_tree (b.to z)) kinds a;
        kind_too = kind_of-replace (λ z. leaf_tree (let r = c.by in r.to z)) forth p.term ∙ p.kind_too ∙ kind_of-replace (λ z. leaf_tree (b.to z)) kinds t;
        first = there a x fa p.left p.first;
        second = there t y ft p.right p.second;
      }

  -- what is carried is a theory
  pub carried_theory : IsTheory h truth Later
  carried_theory =
      record {
        ground = record { formed = formed_later; ground = ground_later };
        kept = carried_kept;
        plain = plain_named;
        opened = opened_named;
        says = says_later;
        denies = denies_later;
        formed = formed_carried;
        equates = equates_later;
        equates_both = λ e a t x y c. both_carried e a t c x y;
        formed_opened = opened_carried;
        says_opened = says_opened_later;
      }
