-- A goal that an alias is equal to a term, in which no alias stands, is begun in coherence by what is left of it: where it is proved in a
-- world, the alias normalizes to the term there.
use Rattle.std.proofs.Common.{◌≡◌, ◌⊎◌, inl, inr, false, List, [], ◌∷◌, refl, sym, ap, subst, ◌∙◌}
use Rattle.nts_model.specs.declared.labels.AliasHead.{AliasHead}
use Rattle.nts_model.specs.declared.labels.AliasHead.TheVariants as alias_of
use Rattle.nts_model.specs.declared.labels.AliasRelationDirection.{AliasRelationDirection}
use Rattle.nts_model.specs.declared.labels.AliasRelationDirection.TheVariants as direction
use Rattle.nts_model.specs.declared.labels.ListHead.TheVariants as list
use Rattle.nts_model.specs.declared.labels.Label.TheVariants as label
use Rattle.nts_model.specs.Terms.Trees.{Tree, empty, node, IsClosed}
use Rattle.nts_model.proofs.Terms.Scoping.{closed_listed}
use Rattle.nts_model.specs.Tables.Contents.{Content}
use Rattle.nts_model.specs.Tables.Resolving.{Knows}
use Rattle.nts_model.specs.Tables.Worlds.{World, inst}
use Rattle.nts_model.specs.Derivations.Related.{pair, alias, IsAlias}
use Rattle.nts_model.specs.Derivations.Sequents.{Premise}
use Rattle.nts_model.specs.Derivations.Rules.{relating, normalization_goal}
use Rattle.nts_model.specs.Derivations.Handlers.{Handler}
use Rattle.nts_model.specs.Refutation.Opening.{binds, entered_table, opened_in}
use Rattle.nts_model.specs.Refutation.Containing.{Truth, IsSolution, IsPlainWorld}
use Rattle.nts_theory.specs.Aliasing.{alias_relation, EquatesAlias, IsPlainEquality, NormalizesBoth, NormalizesSides, IsLesserGoal}
use Rattle.nts_theory.specs.Refutation.Refutation.{IsGrantedAsAsked, IsTheory, HasNoAlias}
use Rattle.nts_model.proofs.Tables.Fitting.{IsClosed-inst}
use Rattle.nts_theory.proofs.Refutation.PlainTerms.{free_none, unlabelled_free, none_inst}
use Rattle.nts_theory.proofs.Refutation.Trying.{reaches_self}
use Rattle.nts_theory.proofs.Refutation.Begun.{BegunAt}

pub one_relation : (d k : AliasRelationDirection) (a b t u : Tree) → alias_relation d a t ≡ alias_relation k b u → (d ≡ k) × (a ≡ b) × (t ≡ u)
one_relation d k a b t u e = (cc e, cc e, cc e)

-- such a goal says so of one alias and one term
record AreSameSides (g a t b u : Tree) (x : EquatesAlias g a t) (y : EquatesAlias g b u) : Type 0 where
  pub alias : a ≡ b
  pub term : t ≡ u
  pub by : x.by ≡ y.by

same_sides : (g a t b u : Tree) (x : EquatesAlias g a t) (y : EquatesAlias g b u) → AreSameSides g a t b u x y
same_sides g a t b u x y = by_says x.says y.says
  where
    by_says : (g ≡ alias_relation x.by a t) ⊎ (g ≡ alias_relation x.by t a) → (g ≡ alias_relation y.by b u) ⊎ (g ≡ alias_relation y.by u b) → AreSameSides g a t b u x y
    by_says (inl i) (inl j) = (let s = one_relation x.by y.by a b t u (sym i ∙ j) in record { alias = s.1; term = s.2; by = s.0 })
    by_says (inl i) (inr j) = (let s = one_relation x.by y.by a u t b (sym i ∙ j) in absurd (x.plain (subst IsAlias (sym s.2) y.alias)))
    by_says (inr i) (inl j) = (let s = one_relation x.by y.by t b a u (sym i ∙ j) in absurd (x.plain (subst IsAlias (sym s.1) y.alias)))
    by_says (inr i) (inr j) = (let s = one_relation x.by y.by t u a b (sym i ∙ j) in record { alias = s.2; term = s.1; by = s.0 })

-- it binds nothing, and says of no two aliases that they are one
pub equality_binds_none : (g : Tree) → IsPlainEquality g → binds g ≡ false
equality_binds_none g x = (let e = x.is in elim e.says [ inl i ↦ ap binds i | inr i ↦ ap binds i ])

no_lesser : (g a b : Tree) → IsPlainEquality g → IsLesserGoal g a b → ⊥
no_lesser g a b x l =
    let e = x.is in
    let k : direction.Equate ≡ direction.Subtype = sym x.equal ∙ elim e.says [
      | inl i ↦ (one_relation e.by direction.Subtype x.left a x.right b (sym i ∙ l.says)).0
      | inr i ↦ (one_relation e.by direction.Subtype x.right a x.left b (sym i ∙ l.says)).0
    ] in
    cc k

no_both : (c d : Content) (e g : Tree) (ps : List Premise) → IsPlainEquality g → NormalizesBoth c d e g ps → ⊥
no_both c d e g ps x n =
    let y = x.is in
    let z = n.is in
    elim y.says [
      | inl i ↦ (let s = one_relation y.by z.by x.left n.left x.right n.right (sym i ∙ z.says) in y.plain (subst IsAlias (sym s.2) z.right))
      | inr i ↦ (let s = one_relation y.by z.by x.right n.left x.left n.right (sym i ∙ z.says) in y.plain (subst IsAlias (sym s.1) z.left))
    ]

pub parts_known : (c : Content) (a : Tree) (x : IsAlias a) → Knows c a → Knows c (node (label.List list.Args) x.parts)
parts_known c a x k = (let h : Knows c (alias x.head x.parts) = subst (Knows c) x.is k in h.1.0)

parts_closed : (h : AliasHead) (ts : Tree) → IsClosed (alias h ts) → IsClosed (node (label.List list.Args) ts)
parts_closed (alias_of.Ty i) ts k = k.1.0
parts_closed (alias_of.Const i) ts k = k.1.0

pub normal_known : (c : Content) (a v : Tree) (x : IsAlias a) → IsClosed v → Knows c a → Knows c v → Knows c (normalization_goal x.head x.parts v)
normal_known c a v x ends ka kv =
    let parts = parts_known c a x ka in
    let bound = parts_closed x.head x.parts (subst IsClosed x.is x.closed) in
    ((tt, tt, refl), (((tt, tt, refl), tt, tt), (((tt, tt, refl), (parts, (kv, tt)), tt), tt)), ((tt, tt), ((tt, (closed_listed empty 0 (node (label.List list.Args) x.parts) bound, (closed_listed empty 0 v ends, tt))), tt)))

pub sides_known : (c : Content) (g a t : Tree) → EquatesAlias g a t → Knows c g → Knows c a × Knows c t
sides_known c g a t x k = elim x.says [
  | inl i ↦ (let h : Knows c (alias_relation x.by a t) = subst (Knows c) i k in (h.1.1.0.1.0, h.1.1.0.1.1.0))
  | inr i ↦ (let h : Knows c (alias_relation x.by t a) = subst (Knows c) i k in (h.1.1.0.1.1.0, h.1.1.0.1.0))
]

pub inst_alias : (w : World) (h : AliasHead) (ts : Tree) → inst w (alias h ts) ≡ alias h (inst w ts)
inst_alias w (alias_of.Ty i) ts = refl
inst_alias w (alias_of.Const i) ts = refl

module _ (h : Handler) (truth : Truth) (Proves : Tree → Tree → Type 0) (theory : IsTheory h truth Proves) where
  module _ (c : Content) (w : World) (e a t : Tree) (s : IsSolution truth 0 c w) (free : IsPlainWorld c w) (x : IsAlias a) (ke : Knows c e) (ka : Knows c a) (kt : Knows c t) (ends : IsClosed t) (none : HasNoAlias t) where
    normal_there : Proves (inst w e) (alias_relation direction.Equate (inst w a) (inst w t)) ⊎ Proves (inst w e) (alias_relation direction.Equate (inst w t) (inst w a)) → IsGrantedAsAsked Proves (inst w e) (inst w (normalization_goal x.head x.parts t))
    normal_there p =
        let y : IsAlias (inst w a) = record { head = x.head; parts = inst w x.parts; is = ap (inst w) x.is ∙ inst_alias w x.head x.parts; closed = IsClosed-inst c w 0 a s.solves.fitting ka x.closed } in
        let q = (theory.equates (inst w e) (inst w a) (inst w t) y p (IsClosed-inst c w 0 t s.solves.fitting kt ends) (none_inst c w free t kt none)).0 in
        let f = theory.ground in
        record { ground = f.ground _ _ q; proved = λ z. q }

    begun_there : (p : Premise) → p ≡ relating e (normalization_goal x.head x.parts t) → IsGrantedAsAsked Proves (inst w e) (inst w (normalization_goal x.head x.parts t)) → BegunAt truth (IsGrantedAsAsked Proves) c c w (p ∷ [])
    begun_there p is granted =
        record {
          reaches = reaches_self truth 0 c w s;
          goals = record { solution = s; plain = free; goals = λ q i. elim i [ inl z ↦ rw (z, is) granted | inr z ↦ absurd z ] };
          terms = record {
            environments = λ q i. elim i [ inl z ↦ rw (z, is) ke | inr z ↦ absurd z ];
            predicates = λ q i. elim i [ inl z ↦ rw (z, is) (normal_known c a t x ends ka kt) | inr z ↦ absurd z ];
          };
        }

  -- .. so the goal is begun by what is left of it
  module _ (c : Content) (w : World) (e g : Tree) (s : IsSolution truth 0 c w) (free : IsPlainWorld c w) (k : Knows c (pair e g)) (granted : IsGrantedAsAsked Proves (inst w e) (inst w g)) (x : IsPlainEquality g) where
    proved_there : (a t : Tree) (y : EquatesAlias g a t) → y.by ≡ direction.Equate → Proves (inst w e) (alias_relation direction.Equate (inst w a) (inst w t)) ⊎ Proves (inst w e) (alias_relation direction.Equate (inst w t) (inst w a))
    proved_there a t y equal = elim y.says [
      | inl i ↦ (let z = subst (λ v. IsGrantedAsAsked Proves (inst w e) (inst w v)) i granted in inl (subst (λ d. Proves (inst w e) (alias_relation d (inst w a) (inst w t))) equal (z.proved (inl (inr tt)))))
      | inr i ↦ (let z = subst (λ v. IsGrantedAsAsked Proves (inst w e) (inst w v)) i granted in inr (subst (λ d. Proves (inst w e) (alias_relation d (inst w t) (inst w a))) equal (z.proved (inl (inr tt)))))
    ]

    begun_by : (d : Content) (ps : List Premise) → NormalizesSides c d e g ps → BegunAt truth (IsGrantedAsAsked Proves) c d w ps
    begun_by d ps (inl (p, side, table, only)) =
        let y = side.is in
        let same = same_sides g x.left x.right side.left side.right x.is y in
        let sides = sides_known c g side.left side.right y k.1.0 in
        let ends : IsClosed side.right = subst IsClosed same.term x.ends in
        let none : HasNoAlias side.right = subst HasNoAlias same.term (free_none x.right (unlabelled_free x.right x.no_alias)) in
        let there = normal_there c w e side.left side.right s free y.alias k.0 sides.0 sides.1 ends none (proved_there side.left side.right y (sym same.by ∙ x.equal)) in
        rw (table, only) (begun_there c w e side.left side.right s free y.alias k.0 sides.0 sides.1 ends none p side.premise there)
    begun_by d ps (inr both) = absurd (no_both c d e g ps x both)

    pub equality_begins : (d : Content) (ps : List Premise) → NormalizesSides (entered_table c g) d e (opened_in c g) ps → BegunAt truth (IsGrantedAsAsked Proves) (entered_table c g) d w ps
    equality_begins d ps sides =
        let q = equality_binds_none g x in
        let there : entered_table c g ≡ c = rw q refl in
        let o : opened_in c g ≡ g = rw q refl in
        subst (λ z. BegunAt truth (IsGrantedAsAsked Proves) z d w ps) (sym there) (begun_by d ps (subst (λ z. NormalizesSides z d e g ps) there (subst (λ z. NormalizesSides (entered_table c g) d e z ps) o sides)))

pub equality_no_lesser : (c : Content) (g a b : Tree) → IsPlainEquality g → IsLesserGoal (opened_in c g) a b → ⊥
equality_no_lesser c g a b x l =
    let q = equality_binds_none g x in
    let o : opened_in c g ≡ g = rw q refl in
    no_lesser g a b x (subst (λ z. IsLesserGoal z a b) o l)
