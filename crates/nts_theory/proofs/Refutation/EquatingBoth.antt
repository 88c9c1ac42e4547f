-- A goal that two aliases are equal is begun in coherence by what is left of it: where it is proved in a world, both normalize there to
-- one term, which the new variable is to be.
use Rattle.std.proofs.Common.{◌≡◌, ◌⊎◌, inl, inr, ℕ, ◌≤◌, false, List, [], ◌∷◌, length, Some, refl, sym, ap, subst, ◌∙◌, arith}
use Rattle.std.specs.Prelude.{Contains}
use Rattle.nts_model.specs.declared.labels.Sort.{Sort}
use Rattle.nts_model.specs.declared.labels.Sort.TheVariants as sort
use Rattle.nts_model.specs.declared.labels.AliasRelationDirection.TheVariants as direction
use Rattle.nts_model.specs.declared.labels.ListHead.TheVariants as list
use Rattle.nts_model.specs.declared.labels.Label.TheVariants as label
use Rattle.nts_model.specs.Terms.Trees.{Tree, node, variable_tree, kind_of, of_sort, IsClosed, IsFormed}
use Rattle.nts_model.specs.Terms.Placeholders.{leaf_level}
use Rattle.nts_model.specs.Terms.Substitutions.{leaf_tree, rename}
use Rattle.nts_model.specs.Tables.Contents.{Content, Recorded}
use Rattle.nts_model.specs.Tables.Levels.{NamesAll, AreCurrent}
use Rattle.nts_model.specs.Tables.Resolving.{Knows}
use Rattle.nts_model.specs.Tables.Worlds.{World, inst, KnowsAll}
use Rattle.nts_model.specs.Answers.Applying.{IsProperContent}
use Rattle.nts_model.specs.Answers.Responses.{IsQueryTable}
use Rattle.nts_model.specs.Derivations.Related.{pair, IsAlias}
use Rattle.nts_model.specs.Derivations.Sequents.{Premise}
use Rattle.nts_model.specs.Derivations.Rules.{relating, normalization_goal}
use Rattle.nts_model.specs.Derivations.Handlers.{Handler, kind_of_sort}
use Rattle.nts_model.specs.Canonical.Inputs.{PositionKind}
use Rattle.nts_model.specs.Lists.{Among}
use Rattle.nts_model.specs.Refutation.Opening.{binds, entered_table, opened_in}
use Rattle.nts_model.specs.Refutation.Containing.{IsAliasFree, Truth, IsSolution, IsPlainWorld}
use Rattle.nts_theory.specs.Aliasing.{alias_relation, EquatesAlias, IsAliasEquality, SaysEqual, NormalizesBoth, NormalizesSides, IsLesserGoal}
use Rattle.nts_theory.specs.Refutation.Refutation.{IsGrantedAsAsked, IsTheory, NormalizeToOne}
use Rattle.nts_model.proofs.Tables.Fitting.{IsClosed-inst}
use Rattle.nts_model.proofs.Tables.Instances.{inst-agrees}
use Rattle.nts_model.proofs.Tables.Slots.{Knows-kept}
use Rattle.nts_model.proofs.Terms.Composing.{IsClosed-instance, instance_kinds}
use Rattle.nts_model.proofs.Terms.Substituting.{kind_of-replace}
use Rattle.nts_theory.proofs.Derivations.ProvedLater.{contains_first, contains_later}
use Rattle.nts_theory.proofs.Responses.Applying.{new_knows}
use Rattle.nts_theory.proofs.Refutation.Begun.{BegunAt}
use Rattle.nts_theory.proofs.Refutation.Carriers.{instance_by}
use Rattle.nts_theory.proofs.Refutation.Equating.{one_relation, normal_known, parts_known, inst_alias, equality_begins, equality_no_lesser}
use Rattle.nts_theory.proofs.Refutation.Freshening.{freshened}
use Rattle.nts_theory.proofs.Refutation.PlainTerms.{free_renamed}
use Rattle.nts_theory.proofs.Refutation.Posed.{fits_alias, alias_kind}
use Rattle.nts_theory.proofs.Refutation.Readying.{names_image}
use Rattle.nts_theory.proofs.Refutation.ReachedGoals.{one_alias}
use Rattle.nts_theory.proofs.Refutation.WithValues.{still_alias}
use Rattle.nts_theory.proofs.Refutation.Theories.{homed, homed_carrying, homed_same, homed_named}

-- the table of a query is proper
knows_all : (c : Content) (xs : List Recorded) → ((x : Recorded) → Contains xs x → Knows c x.left × Knows c x.right) → KnowsAll c xs
knows_all c [] f = tt
knows_all c (x ∷ xs) f = (let k = f x (contains_first x xs) in (k.0, k.1, knows_all c xs (λ y i. f y (contains_later x xs y i))))

proper_table : (ks : List PositionKind) (c : Content) (qs : List Tree) → IsQueryTable ks c qs → IsProperContent c
proper_table ks c qs t =
    let k = t.constraints in
    record { sound = t.sound; sides = knows_all c c.constraints (λ x i. (let a = k.left x i in a.knows, let b = k.right x i in b.knows)) }

-- it binds nothing, and says of no alias that it is a term that is none
both_binds_none : (g : Tree) → IsAliasEquality g → binds g ≡ false
both_binds_none g x = (let e = x.is in ap binds e.says)

both_no_lesser : (g a b : Tree) → IsAliasEquality g → IsLesserGoal g a b → ⊥
both_no_lesser g a b x l =
    let e = x.is in
    let k : direction.Equate ≡ direction.Subtype = sym x.equal ∙ (one_relation e.by direction.Subtype x.left a x.right b (sym e.says ∙ l.says)).0 in
    cc k

no_single : (g a t : Tree) → IsAliasEquality g → EquatesAlias g a t → ⊥
no_single g a t x y =
    let z = x.is in
    elim y.says [
      | inl i ↦ (let s = one_relation z.by y.by x.left a x.right t (sym z.says ∙ i) in y.plain (subst IsAlias s.2 z.right))
      | inr i ↦ (let s = one_relation z.by y.by x.left t x.right a (sym z.says ∙ i) in y.plain (subst IsAlias s.1 z.left))
    ]

-- the new variable is of its sort
variable_sort : (s : Sort) (n : ℕ) → kind_of (variable_tree (kind_of_sort s) n) ≡ Some (of_sort s)
variable_sort sort.Ty n = refl
variable_sort sort.Region n = refl
variable_sort sort.Const n = refl

variable_closed : (s : Sort) (n : ℕ) → IsClosed (variable_tree (kind_of_sort s) n)
variable_closed sort.Ty n = (tt, tt)
variable_closed sort.Region n = (tt, tt)
variable_closed sort.Const n = (tt, tt)

module _ (h : Handler) (truth : Truth) (Proves : Tree → Tree → Type 0) (theory : IsTheory h truth Proves) where
  -- the one term is one that a universe names, where it names the environment and the two
  record IsNamedOne (u : ℕ) (e a b : Tree) (x : IsAlias a) (y : IsAlias b) : Type 0 where
    pub term : Tree
    pub ends : IsClosed term
    pub free : IsAliasFree term
    pub formed : IsFormed term
    pub kind : kind_of term ≡ kind_of a
    pub named : NamesAll leaf_level u term
    pub first : Proves e (normalization_goal x.head x.parts term)
    pub second : Proves e (normalization_goal y.head y.parts term)

  named_one : (u : ℕ) (e a b : Tree) (x : IsAlias a) (y : IsAlias b) → Proves e (alias_relation direction.Equate a b) → NamesAll leaf_level u (pair e (pair a b)) → NormalizeToOne Proves e a b → IsNamedOne u e a b x y
  named_one u e a b x y p names n =
      let w = theory.ground.formed e (alias_relation direction.Equate a b) p in
      let v = w.1.0 in
      let t = pair e (pair a b) in
      let formed : IsFormed t = (w.0, ((v.1.1.0.1.0, (v.1.1.0.1.1.0, tt)), tt)) in
      let vs = n.term ∷ [] in
      let ρ = homed t formed u names vs in
      let k = homed_carrying t formed u names vs in
      let same = homed_same t formed u names vs in
      let env : rename ρ e ≡ e = cc same in
      let left : rename ρ a ≡ a = cc same in
      let right : rename ρ b ≡ b = cc same in
      let i = still_alias ρ k a n.left in
      let j = still_alias ρ k b n.right in
      let one = one_alias i.head x.head i.parts x.parts (sym i.is ∙ left ∙ x.is) in
      let other = one_alias j.head y.head j.parts y.parts (sym j.is ∙ right ∙ y.is) in
      let first : Proves e (normalization_goal i.head i.parts (rename ρ n.term)) = subst (λ z. Proves z (normalization_goal i.head i.parts (rename ρ n.term))) env (theory.kept ρ k e _ n.first) in
      let second : Proves e (normalization_goal j.head j.parts (rename ρ n.term)) = subst (λ z. Proves z (normalization_goal j.head j.parts (rename ρ n.term))) env (theory.kept ρ k e _ n.second) in
      let at_left : Proves e (normalization_goal x.head x.parts (rename ρ n.term)) = subst (λ z. Proves e (normalization_goal z x.parts (rename ρ n.term))) one.0 (subst (λ z. Proves e (normalization_goal i.head z (rename ρ n.term))) one.1 first) in
      let at_right : Proves e (normalization_goal y.head y.parts (rename ρ n.term)) = subst (λ z. Proves e (normalization_goal z y.parts (rename ρ n.term))) other.0 (subst (λ z. Proves e (normalization_goal j.head z (rename ρ n.term))) other.1 second) in
      let f = theory.ground.formed e (normalization_goal x.head x.parts (rename ρ n.term)) at_left in
      record {
        term = rename ρ n.term;
        ends = IsClosed-instance (instance_by ρ k) n.term n.ends;
        free = free_renamed ρ n.term n.free;
        formed = f.1.0.1.1.0.1.1.0;
        kind = kind_of-replace (λ z. leaf_tree (ρ.to z)) (instance_kinds (instance_by ρ k)) n.term ∙ n.kind;
        named = homed_named t formed u names vs n.term (inl refl);
        first = at_left;
        second = at_right;
      }

  -- .. in a world
  module _ (c : Content) (w : World) (e g : Tree) (s : IsSolution truth 0 c w) (free : IsPlainWorld c w) (current : AreCurrent c) (proper : IsProperContent c) (k : Knows c (pair e g)) (granted : IsGrantedAsAsked Proves (inst w e) (inst w g)) (x : IsAliasEquality g) where
    alias_there : (a : Tree) → Knows c a → IsAlias a → IsAlias (inst w a)
    alias_there a ka i = record { head = i.head; parts = inst w i.parts; is = ap (inst w) i.is ∙ inst_alias w i.head i.parts; closed = IsClosed-inst c w 0 a s.solves.fitting ka i.closed }

    -- each of the two premises is granted in a world that goes on with the term for the variable
    normal_granted : (d : Content) (a v t : Tree) (u : World) (i : IsAlias a) → Knows c a → ((z : Tree) → Knows c z → inst u z ≡ inst w z) → inst u v ≡ t → Proves (inst w e) (normalization_goal i.head (inst w i.parts) t) → IsGrantedAsAsked Proves (inst u e) (inst u (normalization_goal i.head i.parts v))
    normal_granted d a v t u i ka same image p =
        let q = same (node (label.List list.Args) i.parts) (parts_known c a i ka) in
        let parts : inst u i.parts ≡ inst w i.parts = cc q in
        let whole : inst u (normalization_goal i.head i.parts v) ≡ normalization_goal i.head (inst w i.parts) t = ap (λ z. normalization_goal i.head z (inst u v)) parts ∙ ap (normalization_goal i.head (inst w i.parts)) image in
        let there : Proves (inst u e) (inst u (normalization_goal i.head i.parts v)) = subst (λ z. Proves z (inst u (normalization_goal i.head i.parts v))) (sym (same e k.0)) (subst (Proves (inst w e)) (sym whole) p) in
        let f = theory.ground in
        record { ground = f.ground (inst u e) (inst u (normalization_goal i.head i.parts v)) there; proved = λ z. there }

    both_begun : (d : Content) (ps : List Premise) → NormalizesBoth c d e g ps → BegunAt truth (IsGrantedAsAsked Proves) c d w ps
    unfolding alias_there
    both_begun d ps n =
        let y = n.is in
        let z = x.is in
        let l = y.left in
        let r = y.right in
        let v = n.variable in
        let ways = one_relation z.by y.by x.left n.left x.right n.right (sym z.says ∙ y.says) in
        let says : g ≡ alias_relation direction.Equate n.left n.right = subst (λ b. g ≡ alias_relation b n.left n.right) (sym ways.0 ∙ x.equal) y.says in
        let there : Knows c (alias_relation direction.Equate n.left n.right) = subst (Knows c) says k.1.0 in
        let ka : Knows c n.left = there.1.1.0.1.0 in
        let kb : Knows c n.right = there.1.1.0.1.1.0 in
        let here = subst (λ q. IsGrantedAsAsked Proves (inst w e) (inst w q)) says granted in
        let p : Proves (inst w e) (alias_relation direction.Equate (inst w n.left) (inst w n.right)) = here.proved (inl (inr tt)) in
        let ia = alias_there n.left ka l in
        let ib = alias_there n.right kb r in
        let image = names_image truth 0 c w s current in
        let one = named_one c.universe (inst w e) (inst w n.left) (inst w n.right) ia ib p (image e k.0, ((image n.left ka, (image n.right kb, tt)), tt)) (theory.equates_both (inst w e) (inst w n.left) (inst w n.right) ia ib p) in
        let new = n.new in
        let sorted : kind_of (inst w n.left) ≡ Some (of_sort n.its_sort) = alias_kind w n.left l ∙ sym n.of_kind ∙ ap kind_of new.tree ∙ variable_sort n.its_sort (length c.slots) in
        let up : c.universe ≤ d.universe = rw new.entries (omega arith) in
        let f = freshened truth 0 c.universe (n.its_sort ∷ []) (v ∷ []) (one.term ∷ []) c d w proper (d, new, up, refl)
        (record { fits = fits_alias n.its_sort (inst w n.left) one.term ia sorted one.kind; formed = one.formed; closed = one.ends }, tt) (one.named, tt) (λ t i. elim i [ inl q ↦ subst IsAliasFree (sym q) one.free | inr q ↦ absurd q ]) s in
        let same : (t : Tree) → Knows c t → inst f.world t ≡ inst w t = λ t kt. inst-agrees c w f.world t f.agrees kt in
        let is : inst f.world v ≡ one.term = (let i = f.images in cc i) in
        let closed : IsClosed v = subst IsClosed (sym new.tree) (variable_closed n.its_sort (length c.slots)) in
        let kv = new_knows c d c.universe (kind_of_sort n.its_sort) v new in
        let ke = Knows-kept c d e f.keeps k.0 in
        let first = normal_granted d n.left v one.term f.world l ka same is one.first in
        let second = normal_granted d n.right v one.term f.world r kb same is one.second in
        let each : (q : Premise) → Among ps q → (q ≡ relating e (normalization_goal l.head l.parts v)) ⊎ (q ≡ relating e (normalization_goal r.head r.parts v)) =
        λ q i. elim (subst (λ qs. Among qs q) n.premises i) [ inl j ↦ inl j | inr j ↦ elim j [ inl m ↦ inr m | inr m ↦ absurd m ] ] in
        record {
          reaches = record { world = f.world; agrees = f.agrees; solution = f.solution; plain = f.plain; longer = f.longer; keeps = f.keeps };
          goals = record { solution = f.solution; plain = f.plain free; goals = λ q i. elim (each q i) [ inl j ↦ rw j first | inr j ↦ rw j second ] };
          terms = record {
            environments = λ q i. elim (each q i) [ inl j ↦ rw j ke | inr j ↦ rw j ke ];
            predicates = λ q i. elim (each q i) [
              | inl j ↦ rw j (normal_known d n.left v l closed (Knows-kept c d n.left f.keeps ka) kv)
              | inr j ↦ rw j (normal_known d n.right v r closed (Knows-kept c d n.right f.keeps kb) kv)
            ];
          };
        }

    both_by : (d : Content) (ps : List Premise) → NormalizesSides c d e g ps → BegunAt truth (IsGrantedAsAsked Proves) c d w ps
    both_by d ps (inl (p, side, table, only)) = absurd (no_single g side.left side.right x side.is)
    both_by d ps (inr both) = both_begun d ps both

    both_begins : (d : Content) (ps : List Premise) → NormalizesSides (entered_table c g) d e (opened_in c g) ps → BegunAt truth (IsGrantedAsAsked Proves) (entered_table c g) d w ps
    both_begins d ps sides =
        let q = both_binds_none g x in
        let there : entered_table c g ≡ c = rw q refl in
        let o : opened_in c g ≡ g = rw q refl in
        subst (λ z. BegunAt truth (IsGrantedAsAsked Proves) z d w ps) (sym there) (both_by d ps (subst (λ z. NormalizesSides z d e g ps) there (subst (λ z. NormalizesSides (entered_table c g) d e z ps) o sides)))

  -- a goal that is open to normalizing is begun by what is left of it
  pub normal_begins : (ks : List PositionKind) (c : Content) (w : World) (e g : Tree) (qs : List Tree) → IsSolution truth 0 c w → IsPlainWorld c w → AreCurrent c → IsQueryTable ks c qs → Knows c (pair e g) → IsGrantedAsAsked Proves (inst w e) (inst w g) → SaysEqual g
      → (d : Content) (ps : List Premise) → NormalizesSides (entered_table c g) d e (opened_in c g) ps → BegunAt truth (IsGrantedAsAsked Proves) (entered_table c g) d w ps
  normal_begins ks c w e g qs s free current table k granted (inl plain) d ps sides = equality_begins h truth Proves theory c w e g s free k granted plain d ps sides
  normal_begins ks c w e g qs s free current table k granted (inr both) d ps sides = both_begins c w e g s free current (proper_table ks c qs table) k granted both d ps sides

pub normal_no_lesser : (c : Content) (g a b : Tree) → SaysEqual g → IsLesserGoal (opened_in c g) a b → ⊥
normal_no_lesser c g a b (inl plain) l = equality_no_lesser c g a b plain l
normal_no_lesser c g a b (inr both) l =
    let q = both_binds_none g both in
    let o : opened_in c g ≡ g = rw q refl in
    both_no_lesser g a b both (subst (λ z. IsLesserGoal z a b) o l)
