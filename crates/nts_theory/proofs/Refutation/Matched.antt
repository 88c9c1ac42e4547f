-- A goal in which variables stand in the places of aliases, in a world: where the goal is proved with values in the places of its aliases,
-- the variables are to have these values.
use Rattle.std.proofs.Common.{◌≡◌, inl, ℕ, Bool, true, false, List, [], ◌∷◌, ◌++◌, refl, sym, ap, subst, ◌∙◌}
use Rattle.nts_model.specs.declared.labels.Leaf.{Leaf}
use Rattle.nts_model.specs.declared.labels.AliasRelationDirection.TheVariants as direction
use Rattle.nts_model.specs.declared.labels.Label.{Label}
use Rattle.nts_model.specs.declared.labels.Label.TheVariants as label
use Rattle.nts_model.specs.Terms.Trees.{Tree, empty, more, node, is_alias, IsClosed, IsFormed}
use Rattle.nts_model.specs.Terms.Placeholders.{leaf_level}
use Rattle.nts_model.specs.Terms.Substitutions.{leaf_tree, rename}
use Rattle.nts_model.specs.Tables.Contents.{Content}
use Rattle.nts_model.specs.Tables.Levels.{NamesAll}
use Rattle.nts_model.specs.Tables.Resolving.{Knows}
use Rattle.nts_model.specs.Tables.Worlds.{World, inst, IsFitting}
use Rattle.nts_model.specs.Lists.{Among}
use Rattle.nts_model.specs.Derivations.Related.{pair, IsAlias}
use Rattle.nts_model.specs.Derivations.Rules.{Replaced, chosen, kept_empty, kept_more, kept_node}
use Rattle.nts_model.specs.Derivations.Handlers.{Handler}
use Rattle.nts_model.specs.Refutation.Containing.{IsAliasFree, IsPlainWorld, Truth}
use Rattle.nts_model.proofs.Lists.{among_left, among_right}
use Rattle.nts_model.proofs.Tables.AliasLabels.{not_alias, empty_no_alias, row_no_alias}
use Rattle.nts_model.proofs.Tables.AlikeNodes.{closed_alias}
use Rattle.nts_model.proofs.Tables.Fitting.{IsClosed-inst}
use Rattle.nts_model.proofs.Terms.Substituting.{leaf_alone}
use Rattle.nts_model.proofs.Terms.Unpositioned.{formed_term, known_no_positions, known_well_bound}
use Rattle.nts_variance_model.specs.Variances.Relations.{Relating as Pair}
use Rattle.nts_theory.specs.Aliasing.{alias_relation}
use Rattle.nts_theory.specs.Posing.{HasPut, put_alias, put_empty, put_more, put_node}
use Rattle.nts_theory.specs.Refutation.Refutation.{IsTheory, IsProvedWithValues}
use Rattle.nts_theory.proofs.Refutation.Equating.{inst_alias}
use Rattle.nts_theory.proofs.Refutation.OfferMeeting.{replace_inst}
use Rattle.nts_theory.proofs.Refutation.OneSided.{free_inst, no_alias_node}
use Rattle.nts_theory.proofs.Refutation.PlainTerms.{free_renamed}
use Rattle.nts_theory.proofs.Refutation.Theories.{homed, homed_carrying, homed_same, homed_named}
use Rattle.nts_theory.proofs.Refutation.WithValues.{bare_formed, closed_bare, replaced_renamed}
use Rattle.nts_theory.proofs.Derivations.Monotone.{replaced_more}

-- the values that were put in
abbrev pub values_of : {C : Tree → Tree → Type 0} {t u : Tree} → Replaced C t u → List Tree
values_of (chosen {v = v} i c x) = v ∷ []
values_of kept_empty = []
values_of (kept_more p q) = values_of p ++ values_of q
values_of (kept_node n p) = values_of p

pub collected : {C : Tree → Tree → Type 0} {t u : Tree} (r : Replaced C t u) → Replaced (λ a v. C a v × Among (values_of r) v) t u
collected (chosen i c x) = chosen i c (x, inl refl)
collected kept_empty = kept_empty
collected (kept_more p q) = kept_more (replaced_more (λ a v y. (y.0, among_left (values_of p) (values_of q) v y.1)) (collected p)) (replaced_more (λ a v y. (y.0, among_right (values_of p) (values_of q) v y.1)) (collected q))
collected (kept_node n p) = kept_node n (collected p)

-- a goal is proved with values that a universe names
pub record IsNamedWithValues (Proves : Tree → Tree → Type 0) (u : ℕ) (e g : Tree) : Type 0 where
  pub goal : Tree
  pub values : Replaced (λ a v. IsAliasFree v × Proves e (alias_relation direction.Equate a v) × NamesAll leaf_level u v) g goal
  pub proved : Proves e goal

-- so it is where the universe names the goal: what is foreign is renamed
pub named_values : (h : Handler) (truth : Truth) (Proves : Tree → Tree → Type 0) → IsTheory h truth Proves → (u : ℕ) (e g : Tree) → IsFormed (pair e g) → NamesAll leaf_level u (pair e g) → IsProvedWithValues Proves e g → IsNamedWithValues Proves u e g
named_values h truth Proves theory u e g f n x =
    let vs = values_of x.values in
    let ρ = homed (pair e g) f u n vs in
    let k = homed_carrying (pair e g) f u n vs in
    let same = homed_same (pair e g) f u n vs in
    let left : rename ρ e ≡ e = first _ _ _ _ same in
    let right : rename ρ g ≡ g = second _ _ _ _ same in
    let there : Replaced (λ a v. IsAliasFree v × Proves (rename ρ e) (alias_relation direction.Equate a v) × NamesAll leaf_level u v) (rename ρ g) (rename ρ x.goal) =
    replaced_renamed (λ a v. (IsAliasFree v × Proves e (alias_relation direction.Equate a v)) × Among vs v) (λ a v. IsAliasFree v × Proves (rename ρ e) (alias_relation direction.Equate a v) × NamesAll leaf_level u v) ρ k
    (λ a v y. (free_renamed ρ v y.0.0, theory.kept ρ k e (alias_relation direction.Equate a v) y.0.1, homed_named (pair e g) f u n vs v y.1)) g x.goal x.bare (collected x.values) in
    record { goal = rename ρ x.goal; values = rw (left, right) at there; proved = rw left at (theory.kept ρ k e x.goal x.proved) }
  where
    first : (a b c d : Tree) → pair a b ≡ pair c d → a ≡ c
    first a b c d e = cc e

    second : (a b c d : Tree) → pair a b ≡ pair c d → b ≡ d
    second a b c d e = cc e

-- nothing is put into nothing
put_nothing : (ps : List Pair) (t d : Tree) → HasPut ps t d → t ≡ empty → (ps ≡ []) × (d ≡ empty)
put_nothing ps t d (put_alias i c) e = absurd (empty_no_alias (subst IsAlias e i))
put_nothing ps t d put_empty e = (refl, refl)
put_nothing ps t d (put_more p q) e = cc e
put_nothing ps t d (put_node n p) e = cc e

-- where no alias stands, none gave place
replaced_same : (R : Tree → Tree → Type 0) (t u : Tree) → IsAliasFree t → Replaced R t u → u ≡ t
replaced_same R empty u h (chosen i c x) = absurd (empty_no_alias i)
replaced_same R (more a b) u h (chosen i c x) = absurd (row_no_alias a b i)
replaced_same R (node l t) u h (chosen i c x) = absurd (no_alias_node l t h.0 i)
replaced_same R t u h kept_empty = refl
replaced_same R (more a b) (more x y) h (kept_more p q) = cc (replaced_same R a x h.0 p, replaced_same R b y h.1 q)
replaced_same R (node l c) (node m d) h (kept_node n p) = ap (node l) (replaced_same R c d h.1 p)

value_there : (R : Tree → Tree → Type 0) (a u : Tree) → IsAlias a → Replaced R a u → IsClosed u × R a u
value_there R a u i (chosen j c x) = (c, x)
value_there R a u i kept_empty = absurd (empty_no_alias i)
value_there R a u i (kept_more {a = x} {s = y} p q) = absurd (row_no_alias x y i)
value_there R a u i (kept_node n p) = absurd (n i)

empty_there : (R : Tree → Tree → Type 0) (t u : Tree) → Replaced R t u → t ≡ empty → u ≡ empty
empty_there R t u (chosen i c x) e = absurd (empty_no_alias (subst IsAlias e i))
empty_there R t u kept_empty e = refl
empty_there R t u (kept_more p q) e = cc e
empty_there R t u (kept_node n p) e = cc e

record IsRow (R : Tree → Tree → Type 0) (a b u : Tree) : Type 0 where
  pub left : Tree
  pub right : Tree
  pub is : u ≡ more left right
  pub of_left : Replaced R a left
  pub of_right : Replaced R b right

row_there : (R : Tree → Tree → Type 0) (a b u : Tree) → Replaced R (more a b) u → IsRow R a b u
row_there R a b u (chosen i c x) = absurd (row_no_alias a b i)
row_there R a b u (kept_more {b = x} {t = y} p q) = record { left = x; right = y; is = refl; of_left = p; of_right = q }

record IsNode (R : Tree → Tree → Type 0) (l : Label) (c u : Tree) : Type 0 where
  pub below : Tree
  pub is : u ≡ node l below
  pub of_below : Replaced R c below

node_there : (R : Tree → Tree → Type 0) (l : Label) (c u : Tree) → (IsAlias (node l c) → ⊥) → Replaced R (node l c) u → IsNode R l c u
node_there R l c u n (chosen i k x) = absurd (n i)
node_there R l c u n (kept_node {d = d} m p) = record { below = d; is = refl; of_below = p }

module _ (c : Content) (w : World) (fitting : IsFitting c w) (plain : IsPlainWorld c w) (R : Tree → Tree → Type 0) where
  -- each alias in the world has its value
  abbrev pub AllEqual : List Pair → List Tree → Type 0
  AllEqual [] [] = Unit {0}
  AllEqual (z ∷ zs) (t ∷ ts) = (Knows c z.left × IsAlias z.left × IsClosed t × R (inst w z.left) t) × AllEqual zs ts
  AllEqual zs ts = ⊥

  -- the variables have the values in another world
  abbrev pub AllAre : World → List Pair → List Tree → Type 0
  AllAre v [] [] = Unit {0}
  AllAre v (z ∷ zs) (t ∷ ts) = (inst v z.right ≡ t) × AllAre v zs ts
  AllAre v zs ts = ⊥

  equal_both : (zs ys : List Pair) (ts us : List Tree) → AllEqual zs ts → AllEqual ys us → AllEqual (zs ++ ys) (ts ++ us)
  equal_both [] ys [] us h k = k
  equal_both [] ys (t ∷ ts) us h k = absurd h
  equal_both (z ∷ zs) ys [] us h k = absurd h
  equal_both (z ∷ zs) ys (t ∷ ts) us h k = (h.0, equal_both zs ys ts us h.1 k)

  are_both : (v : World) (zs ys : List Pair) (ts us : List Tree) → AllEqual zs ts → AllAre v (zs ++ ys) (ts ++ us) → AllAre v zs ts × AllAre v ys us
  are_both v [] ys [] us h k = (tt, k)
  are_both v [] ys (t ∷ ts) us h k = absurd h
  are_both v (z ∷ zs) ys [] us h k = absurd h
  are_both v (z ∷ zs) ys (t ∷ ts) us h k = (let r = are_both v zs ys ts us h.1 k.1 in ((k.0, r.0), r.1))

  pub record Matches (zs : List Pair) (q goal : Tree) : Type 0 where
    pub values : List Tree
    pub equal : AllEqual zs values
    pub image : (v : World) → ((x : Tree) → Knows c x → inst v x ≡ inst w x) → AllAre v zs values → inst v q ≡ goal

  pub alias_there : (a : Tree) → Knows c a → IsAlias a → IsAlias (inst w a)
  alias_there a k x = record { head = x.head; parts = inst w x.parts; is = ap (inst w) x.is ∙ inst_alias w x.head x.parts; closed = IsClosed-inst c w 0 a fitting k x.closed }

  -- what is an alias in the world was one, unless it is a variable
  alias_before : (l : Label) (t : Tree) → Knows c (node l t) → IsFormed (node l t) → inst w (node l t) ≡ node l (inst w t) → IsAlias (node l (inst w t)) → IsAlias (node l t)
  alias_before l t k f same found = by_label (is_alias l) refl
    where
      by_label : (z : Bool) → is_alias l ≡ z → IsAlias (node l t)
      by_label false e = absurd (not_alias l (inst w t) e found)
      by_label true e =
          closed_alias l t (formed_term (node l t) f (known_no_positions c (node l t) k) (known_well_bound c (node l t) k)) e
          (closed_bare (λ x. inst w (leaf_tree x)) 0 (node l t) (bare_formed (node l t) f)
          (subst IsClosed (sym same ∙ sym (replace_inst w (λ x. inst w (leaf_tree x)) (node l t) f (λ x i. refl))) found.closed))

  by_node : (zs : List Pair) (l : Label) (t d goal : Tree) → Knows c (node l t) → IsFormed (node l t) → inst w (node l t) ≡ node l (inst w t) → ((v : World) → inst v (node l d) ≡ node l (inst v d)) → (IsAlias (node l t) → ⊥)
      → ((x : Tree) → Replaced R (inst w t) x → Matches zs d x) → Replaced R (inst w (node l t)) goal → Matches zs (node l d) goal
  by_node zs l t d goal k f same each n below r =
      let y = node_there R l (inst w t) goal (λ i. n (alias_before l t k f same i)) (subst (λ z. Replaced R z goal) same r) in
      let m = below y.below y.of_below in
      record { values = m.values; equal = m.equal; image = λ v a e. each v ∙ ap (node l) (m.image v a e) ∙ sym y.is }

  by_leaf : (zs : List Pair) (x : Leaf) (t d goal : Tree) → Knows c (node (label.Leaf x) t) → IsFormed (node (label.Leaf x) t) → HasPut zs t d → Replaced R (inst w (node (label.Leaf x) t)) goal → Matches zs (node (label.Leaf x) d) goal
  by_leaf zs x t d goal k f h r =
      let none : t ≡ empty = leaf_alone x t f in
      let no = put_nothing zs t d h none in
      let same : d ≡ t = no.1 ∙ sym none in
      let free : IsAliasFree (node (label.Leaf x) t) = subst (λ z. IsAliasFree (node (label.Leaf x) z)) (sym none) (refl, tt) in
      let value : goal ≡ inst w (node (label.Leaf x) t) = replaced_same R (inst w (node (label.Leaf x) t)) goal (free_inst c w plain (node (label.Leaf x) t) k free) r in
      record {
        values = [];
        equal = subst (λ z. AllEqual z []) (sym no.0) tt;
        image = λ v a e. ap (λ z. inst v (node (label.Leaf x) z)) same ∙ a (node (label.Leaf x) t) k ∙ sym value;
      }

  by_label : (zs : List Pair) (l : Label) (t d goal : Tree) → Knows c (node l t) → IsFormed (node l t) → (IsAlias (node l t) → ⊥) → HasPut zs t d → ((x : Tree) → Replaced R (inst w t) x → Matches zs d x) → Replaced R (inst w (node l t)) goal → Matches zs (node l d) goal
  by_label zs (label.Leaf x) t d goal k f n h below r = by_leaf zs x t d goal k f h r
  by_label zs (label.Bound s i m) t d goal k f n h below r = by_node zs (label.Bound s i m) t d goal k f refl (λ v. refl) n below r
  by_label zs (label.Ty x) t d goal k f n h below r = by_node zs (label.Ty x) t d goal k f refl (λ v. refl) n below r
  by_label zs (label.Const x) t d goal k f n h below r = by_node zs (label.Const x) t d goal k f refl (λ v. refl) n below r
  by_label zs (label.Clause x) t d goal k f n h below r = by_node zs (label.Clause x) t d goal k f refl (λ v. refl) n below r
  by_label zs (label.Predicate x) t d goal k f n h below r = by_node zs (label.Predicate x) t d goal k f refl (λ v. refl) n below r
  by_label zs (label.List x) t d goal k f n h below r = by_node zs (label.List x) t d goal k f refl (λ v. refl) n below r

  pub matched : {zs : List Pair} {p q : Tree} → HasPut zs p q → Knows c p → IsFormed p → (goal : Tree) → Replaced R (inst w p) goal → Matches zs q goal
  matched {p = p} (put_alias i e) k f goal r =
      let y = value_there R (inst w p) goal (alias_there p k i) r in
      record { values = goal ∷ []; equal = ((k, i, y.0, y.1), tt); image = λ v a same. same.0 }
  matched put_empty k f goal r = record { values = []; equal = tt; image = λ v a same. sym (empty_there R empty goal r refl) }
  matched (put_more {ps = zs} {qs = ys} {a = a} {b = x} {s = s} {t = t} h j) k f goal r =
      let y = row_there R (inst w a) (inst w s) goal r in
      let one = matched h k.0 f.0 y.left y.of_left in
      let two = matched j k.1 f.1 y.right y.of_right in
      record {
        values = one.values ++ two.values;
        equal = equal_both zs ys one.values two.values one.equal two.equal;
        image = λ v g e. (let both = are_both v zs ys one.values two.values one.equal e in
            let left = one.image v g both.0 in
            let right = two.image v g both.1 in
            ap (λ z. more z (inst v t)) left ∙ ap (more y.left) right ∙ sym y.is);
      }
  matched {zs} (put_node {l = l} {c = t} {d = d} n h) k f goal r = by_label zs l t d goal k f n h (λ x y. matched h k.1 f.1 x y) r
