-- Trees without aliases: renamed, opened, and in a world; and worlds in which no alias stands for a variable.
use Rattle.std.proofs.Common.{◌≡◌, inl, inr, ℕ, ◌+◌, Bool, true, false, List, [], ◌∷◌, Option, Some, None, refl, sym, ap, subst, ◌∙◌, arith}
use Rattle.std.specs.Prelude.{◌==◌, ◌||◌, if◌then◌else◌, slice_get}
use Rattle.nts_model.specs.declared.labels.Sort.{Sort}
use Rattle.nts_model.specs.declared.labels.VariableKind.{VariableKind}
use Rattle.nts_model.specs.declared.labels.Leaf.{Leaf}
use Rattle.nts_model.specs.declared.labels.Leaf.TheVariants as leaf
use Rattle.nts_model.specs.declared.labels.BoundVarIndexKind.TheVariants as index
use Rattle.nts_model.specs.declared.labels.AliasHead.{AliasHead}
use Rattle.nts_model.specs.declared.labels.AliasHead.TheVariants as alias_of
use Rattle.nts_model.specs.declared.labels.ClauseHead.TheVariants as clause
use Rattle.nts_model.specs.declared.labels.PredicateHead.TheVariants as predicate
use Rattle.nts_model.specs.declared.labels.ListHead.TheVariants as list
use Rattle.nts_model.specs.declared.labels.Label.{Label}
use Rattle.nts_model.specs.declared.labels.Label.TheVariants as label
use Rattle.nts_model.specs.Terms.Trees.{Tree, empty, more, node, any_label, is_alias, binders}
use Rattle.nts_model.specs.Terms.Substitutions.{leaf_tree, put, replace, Renaming, rename}
use Rattle.nts_model.specs.Tables.Contents.{Content, Slot, map_slot, kind_at, universe_of}
use Rattle.nts_model.specs.Terms.Placeholders.{CanName}
use Rattle.nts_model.specs.Tables.Levels.{NamesAll, IfNamesAll}
use Rattle.nts_model.specs.Tables.Resolving.{Knows}
use Rattle.nts_model.specs.Tables.Worlds.{World, inst, IsNameable}
use Rattle.nts_model.specs.Derivations.Related.{alias, IsAlias}
use Rattle.nts_model.specs.Derivations.Rules.{opened, opened_at, statement_of, KeepsAliases, IsHandlers}
use Rattle.nts_model.specs.Canonical.Inputs.{PositionKind, type_variable, integer_variable, float_variable, const_variable, region_variable, placeholder}
use Rattle.nts_model.specs.Answers.Responses.{IsNamedBy, AreNamedBy, bound_of}
use Rattle.nts_model.specs.Lists.{Among}
use Rattle.nts_model.specs.Refutation.Choosing.{AreNamedValues}
use Rattle.nts_model.specs.Refutation.Containing.{IsNoAlias, IsAliasFree, IsPlainWorld}
use Rattle.nts_theory.specs.Refutation.Refutation.{IfItHasParts, HasNoAlias}

-- what has no alias label has none
parts_free : (l : Label) (T : Type 0) → T → IfItHasParts l T
parts_free (label.Leaf x) T t = tt
parts_free (label.Bound s i n) T t = tt
parts_free (label.Ty x) T t = t
parts_free (label.Const x) T t = t
parts_free (label.Clause x) T t = t
parts_free (label.Predicate x) T t = t
parts_free (label.List x) T t = t

pub free_none : (t : Tree) → IsAliasFree t → HasNoAlias t
free_none empty h = tt
free_none (more a b) h = (free_none a h.0, free_none b h.1)
free_none (node l c) h = (h.0, parts_free l (HasNoAlias c) (free_none c h.1))

pub either_false : (a b : Bool) → (a || b) ≡ false → (a ≡ false) × (b ≡ false)
either_false false false e = (refl, refl)
either_false false true e = cc e
either_false true b e = cc e

pub unlabelled_free : (t : Tree) → any_label is_alias t ≡ false → IsAliasFree t
unlabelled_free empty e = tt
unlabelled_free (more a b) e = (let x = either_false (any_label is_alias a) (any_label is_alias b) e in (unlabelled_free a x.0, unlabelled_free b x.1))
unlabelled_free (node l c) e = (let x = either_false (is_alias l) (any_label is_alias c) e in (x.0, unlabelled_free c x.1))

-- such a tree is no alias
pub no_head : (h : AliasHead) (ts : Tree) → HasNoAlias (alias h ts) → ⊥
no_head (alias_of.Ty i) ts n = (let e : true ≡ false = n.0 in cc e)
no_head (alias_of.Const i) ts n = (let e : true ≡ false = n.0 in cc e)

pub none_is_alias : (t : Tree) → HasNoAlias t → IsAlias t → ⊥
none_is_alias t n i = no_head i.head i.parts (subst HasNoAlias i.is n)

-- renamed
put_none : (f : Leaf → Leaf) (l : Label) (c d : Tree) → HasNoAlias (node l c) → (HasNoAlias c → HasNoAlias d) → HasNoAlias (put (λ x. leaf_tree (f x)) l d)
put_none f (label.Leaf x) c d h g = (refl, tt)
put_none f (label.Bound s i n) c d h g = (h.0, tt)
put_none f (label.Ty x) c d h g = (h.0, g h.1)
put_none f (label.Const x) c d h g = (h.0, g h.1)
put_none f (label.Clause x) c d h g = (h.0, g h.1)
put_none f (label.Predicate x) c d h g = (h.0, g h.1)
put_none f (label.List x) c d h g = (h.0, g h.1)

pub no_alias_renamed : (ρ : Renaming) (t : Tree) → HasNoAlias t → HasNoAlias (rename ρ t)
no_alias_renamed ρ empty h = tt
no_alias_renamed ρ (more a b) h = (no_alias_renamed ρ a h.0, no_alias_renamed ρ b h.1)
no_alias_renamed ρ (node l c) h = put_none ρ.to l c (rename ρ c) h (no_alias_renamed ρ c)

put_before : (f : Leaf → Leaf) (l : Label) (c d : Tree) → HasNoAlias (put (λ x. leaf_tree (f x)) l d) → (HasNoAlias d → HasNoAlias c) → HasNoAlias (node l c)
put_before f (label.Leaf x) c d h g = (refl, tt)
put_before f (label.Bound s i n) c d h g = (h.0, tt)
put_before f (label.Ty x) c d h g = (h.0, g h.1)
put_before f (label.Const x) c d h g = (h.0, g h.1)
put_before f (label.Clause x) c d h g = (h.0, g h.1)
put_before f (label.Predicate x) c d h g = (h.0, g h.1)
put_before f (label.List x) c d h g = (h.0, g h.1)

pub no_alias_before : (ρ : Renaming) (t : Tree) → HasNoAlias (rename ρ t) → HasNoAlias t
no_alias_before ρ empty h = tt
no_alias_before ρ (more a b) h = (no_alias_before ρ a h.0, no_alias_before ρ b h.1)
no_alias_before ρ (node l c) h = put_before ρ.to l c (rename ρ c) h (no_alias_before ρ c)

free_put : (f : Leaf → Leaf) (l : Label) (d : Tree) → IsNoAlias l → IsAliasFree d → IsAliasFree (put (λ x. leaf_tree (f x)) l d)
free_put f (label.Leaf x) d h g = (refl, tt)
free_put f (label.Bound s i n) d h g = (h, g)
free_put f (label.Ty x) d h g = (h, g)
free_put f (label.Const x) d h g = (h, g)
free_put f (label.Clause x) d h g = (h, g)
free_put f (label.Predicate x) d h g = (h, g)
free_put f (label.List x) d h g = (h, g)

pub free_renamed : (ρ : Renaming) (t : Tree) → IsAliasFree t → IsAliasFree (rename ρ t)
free_renamed ρ empty h = tt
free_renamed ρ (more a b) h = (free_renamed ρ a h.0, free_renamed ρ b h.1)
free_renamed ρ (node l c) h = free_put ρ.to l (rename ρ c) h.0 (free_renamed ρ c h.1)

-- an instance that puts trees without aliases in place of leaves
instance_put : (f : Leaf → Tree) → ((l : Leaf) → IsAliasFree (f l)) → (l : Label) (d : Tree) → IsNoAlias l → IsAliasFree d → IsAliasFree (put f l d)
instance_put f h (label.Leaf x) d n g = h x
instance_put f h (label.Bound s i k) d n g = (n, g)
instance_put f h (label.Ty x) d n g = (n, g)
instance_put f h (label.Const x) d n g = (n, g)
instance_put f h (label.Clause x) d n g = (n, g)
instance_put f h (label.Predicate x) d n g = (n, g)
instance_put f h (label.List x) d n g = (n, g)

pub free_instance : (f : Leaf → Tree) → ((l : Leaf) → IsAliasFree (f l)) → (t : Tree) → IsAliasFree t → IsAliasFree (replace f t)
free_instance f h empty k = tt
free_instance f h (more a b) k = (free_instance f h a k.0, free_instance f h b k.1)
free_instance f h (node l c) k = instance_put f h l (replace f c) k.0 (free_instance f h c k.1)

-- opened
opened_before : (f : Sort → ℕ → Leaf) (c : ℕ) (l : Label) (t u : Tree) → HasNoAlias (opened_at f c l u) → (HasNoAlias u → HasNoAlias t) → HasNoAlias (node l t)
opened_before f c (label.Bound s i n) t u h g = (refl, tt)
opened_before f c (label.Leaf x) t u h g = (refl, tt)
opened_before f c (label.Ty x) t u h g = (h.0, g h.1)
opened_before f c (label.Const x) t u h g = (h.0, g h.1)
opened_before f c (label.Clause x) t u h g = (h.0, g h.1)
opened_before f c (label.Predicate x) t u h g = (h.0, g h.1)
opened_before f c (label.List x) t u h g = (h.0, g h.1)

pub none_opened : (f : Sort → ℕ → Leaf) (c : ℕ) (t : Tree) → HasNoAlias (opened f c t) → HasNoAlias t
none_opened f c empty h = tt
none_opened f c (more a b) h = (none_opened f c a h.0, none_opened f c b h.1)
none_opened f c (node l t) h = opened_before f c l t (opened f (c + binders l) t) h (none_opened f (c + binders l) t)

opened_if : (b : Bool) (l : Leaf) (m : Label) (t : Tree) → HasNoAlias (node m t) → HasNoAlias (if b then leaf_tree l else node m t)
opened_if true l m t h = (refl, tt)
opened_if false l m t h = h

opened_after : (f : Sort → ℕ → Leaf) (c : ℕ) (l : Label) (t u : Tree) → HasNoAlias (node l t) → (HasNoAlias t → HasNoAlias u) → HasNoAlias (opened_at f c l u)
opened_after f c (label.Bound s (index.Bound d) n) t u h g = opened_if (d == c) (f s n) (label.Bound s (index.Bound d) n) u (refl, tt)
opened_after f c (label.Bound s index.Canonical n) t u h g = (refl, tt)
opened_after f c (label.Leaf x) t u h g = (refl, tt)
opened_after f c (label.Ty x) t u h g = (h.0, g h.1)
opened_after f c (label.Const x) t u h g = (h.0, g h.1)
opened_after f c (label.Clause x) t u h g = (h.0, g h.1)
opened_after f c (label.Predicate x) t u h g = (h.0, g h.1)
opened_after f c (label.List x) t u h g = (h.0, g h.1)

pub opened_none : (f : Sort → ℕ → Leaf) (c : ℕ) (t : Tree) → HasNoAlias t → HasNoAlias (opened f c t)
opened_none f c empty h = tt
opened_none f c (more a b) h = (opened_none f c a h.0, opened_none f c b h.1)
opened_none f c (node l t) h = opened_after f c l t (opened f (c + binders l) t) h (opened_none f (c + binders l) t)

-- in a world in which no alias stands for a variable
pub none_inst : (c : Content) (w : World) → IsPlainWorld c w → (t : Tree) → Knows c t → HasNoAlias t → HasNoAlias (inst w t)
none_inst c w p empty k h = tt
none_inst c w p (more a b) k h = (none_inst c w p a k.0 h.0, none_inst c w p b k.1 h.1)
none_inst c w p (node (label.Leaf (leaf.Variable v n)) t) k h = free_none (w.tree n) (p.each n v k.0.0)
none_inst c w p (node (label.Leaf (leaf.Region r)) t) k h = (refl, tt)
none_inst c w p (node (label.Leaf (leaf.TyConstant a)) t) k h = (refl, tt)
none_inst c w p (node (label.Leaf (leaf.ConstConstant a)) t) k h = (refl, tt)
none_inst c w p (node (label.Bound s i n) t) k h = (h.0, tt)
none_inst c w p (node (label.Ty x) t) k h = (h.0, none_inst c w p t k.1 h.1)
none_inst c w p (node (label.Const x) t) k h = (h.0, none_inst c w p t k.1 h.1)
none_inst c w p (node (label.Clause x) t) k h = (h.0, none_inst c w p t k.1 h.1)
none_inst c w p (node (label.Predicate x) t) k h = (h.0, none_inst c w p t k.1 h.1)
none_inst c w p (node (label.List x) t) k h = (h.0, none_inst c w p t k.1 h.1)

pub leaf_free : (c : Content) (w : World) → IsPlainWorld c w → (l : Leaf) → Knows c (leaf_tree l) → IsAliasFree (inst w (leaf_tree l))
leaf_free c w p (leaf.Variable v n) k = p.each n v k.0.0
leaf_free c w p (leaf.Region r) k = (refl, tt)
leaf_free c w p (leaf.TyConstant a) k = (refl, tt)
leaf_free c w p (leaf.ConstConstant a) k = (refl, tt)

-- a level above each universe for aliases
abbrev alias_if : Bool → ℕ → Option ℕ
alias_if true m = Some m
alias_if false m = None

abbrev pub alias_level : ℕ → Label → Option ℕ
alias_level m l = alias_if (is_alias l) m

pub barred : (m u : ℕ) (t : Tree) → IsAliasFree t → NamesAll (alias_level m) u t
barred m u empty h = tt
barred m u (more a b) h = (barred m u a h.0, barred m u b h.1)
barred m u (node l c) h = (let e = h.0 in rw e tt, barred m u c h.1)

named_free : (u : ℕ) (b : Bool) → CanName u (alias_if b (u + 1)) → b ≡ false
named_free u false h = refl
named_free u true h = absurd (omega (arith, h))

unbarred : (u : ℕ) (t : Tree) → NamesAll (alias_level (u + 1)) u t → IsAliasFree t
unbarred u empty h = tt
unbarred u (more a b) h = (unbarred u a h.0, unbarred u b h.1)
unbarred u (node l c) h = (named_free u (is_alias l) h.0, unbarred u c h.1)

plain_nameable : (c : Content) (w : World) → IsPlainWorld c w → (m : ℕ) → IsNameable (alias_level m) c w
plain_nameable c w p m = record { each = λ n. by_slot n (slice_get c.slots n) refl }
  where
    by_slot : (n : ℕ) (o : Option Slot) → slice_get c.slots n ≡ o → IfNamesAll (alias_level m) (universe_of c n) (w.tree n)
    by_slot n None e = rw e tt
    by_slot n (Some v) e = rw e (barred m v.universe (w.tree n) (p.each n v.kind (ap (map_slot (λ x. x.kind)) e)))

nameable_plain : (c : Content) (w : World) → ((m : ℕ) → IsNameable (alias_level m) c w) → IsPlainWorld c w
nameable_plain c w h = record { each = λ n k e. by_slot n k e (slice_get c.slots n) refl }
  where
    by_slot : (n : ℕ) (k : VariableKind) → kind_at c n ≡ Some k → (o : Option Slot) → slice_get c.slots n ≡ o → IsAliasFree (w.tree n)
    by_slot n k e None q = absurd (let z : map_slot (λ x. x.kind) None ≡ Some k = ap (map_slot (λ x. x.kind)) (sym q) ∙ e in cc z)
    by_slot n k e (Some v) q =
        let there : universe_of c n ≡ Some v.universe = ap (map_slot (λ x. x.universe)) q in
        let a = h (v.universe + 1) in
        unbarred v.universe (w.tree n) (rw there at (a.each n))

-- where a later world keeps each universe's names, it keeps that no alias stands for a variable
pub plain_later : (c d : Content) (w v : World) → ((f : Label → Option ℕ) → IsNameable f c w → IsNameable f d v) → IsPlainWorld c w → IsPlainWorld d v
plain_later c d w v h p = nameable_plain d v (λ m. h (alias_level m) (plain_nameable c w p m))

pub free_values : (m u : ℕ) (vs : List Tree) → ((v : Tree) → Among vs v → IsAliasFree v) → AreNamedValues (alias_level m) u vs
free_values m u [] h = tt
free_values m u (v ∷ vs) h = (barred m u v (h v (inl refl)), free_values m u vs (λ x i. h x (inr i)))

free_named_by : (m p : ℕ) (k : PositionKind) (t : Tree) → IsAliasFree t → IsNamedBy (alias_level m) p k t
free_named_by m p (type_variable u r) t h = barred m (bound_of p (type_variable u r)) t h
free_named_by m p integer_variable t h = barred m (bound_of p integer_variable) t h
free_named_by m p float_variable t h = barred m (bound_of p float_variable) t h
free_named_by m p (const_variable u) t h = barred m (bound_of p (const_variable u)) t h
free_named_by m p (region_variable u) t h = barred m (bound_of p (region_variable u)) t h
free_named_by m p (placeholder s u n) t h = tt

pub free_are_named : (f : Label → Option ℕ) (m p : ℕ) (ks : List PositionKind) (ts : List Tree) → AreNamedBy f p ks ts → ((t : Tree) → Among ts t → IsAliasFree t) → AreNamedBy (alias_level m) p ks ts
free_are_named f m p [] [] n h = tt
free_are_named f m p [] (t ∷ ts) n h = absurd n
free_are_named f m p (k ∷ ks) [] n h = absurd n
free_are_named f m p (k ∷ ks) (t ∷ ts) n h = (free_named_by m p k t (h t (inl refl)), free_are_named f m p ks ts n.1 (λ x i. h x (inr i)))

pub plain_by_names : (c d : Content) (w v : World) → ((m : ℕ) → IsNameable (alias_level m) c w → IsNameable (alias_level m) d v) → IsPlainWorld c w → IsPlainWorld d v
plain_by_names c d w v h p = nameable_plain d v (λ m. h m (plain_nameable c w p m))

-- what a renamed goal says without aliases, or with aliases that stay, it said so before
pub statement_before : (ρ : Renaming) (g : Tree) → HasNoAlias (statement_of (rename ρ g)) → HasNoAlias (statement_of g)
statement_before ρ (node (label.List list.Binder) (more v (more s empty))) h = no_alias_before ρ s h
statement_before ρ g h = tt

keeps_before : (ρ : Renaming) (s : Tree) → KeepsAliases (rename ρ s) → KeepsAliases s
keeps_before ρ (node (label.Clause clause.WellFormed) c) h = tt
keeps_before ρ (node (label.Clause (clause.UnstableFeature f)) c) h = tt
keeps_before ρ (node (label.Predicate (predicate.AliasRelate d)) c) h = tt
keeps_before ρ (node (label.Predicate (predicate.NormalizesTo i)) c) h = tt
keeps_before ρ s h = absurd h

-- a predicate that is none says nothing, renamed too
no_row : (P : Tree → Type 0) → (P empty → ⊥) → (f : Leaf → Leaf) (l : Label) (d : Tree) → P (statement_of (node (label.List list.Binder) (put (λ x. leaf_tree (f x)) l d))) → ⊥
no_row P q f (label.Leaf x) d h = q h
no_row P q f (label.Bound s i n) d h = q h
no_row P q f (label.Ty x) d h = q h
no_row P q f (label.Const x) d h = q h
no_row P q f (label.Clause x) d h = q h
no_row P q f (label.Predicate x) d h = q h
no_row P q f (label.List x) d h = q h

no_rest : (P : Tree → Type 0) → (P empty → ⊥) → (v : Tree) (f : Leaf → Leaf) (l : Label) (d : Tree) → P (statement_of (node (label.List list.Binder) (more v (put (λ x. leaf_tree (f x)) l d)))) → ⊥
no_rest P q v f (label.Leaf x) d h = q h
no_rest P q v f (label.Bound s i n) d h = q h
no_rest P q v f (label.Ty x) d h = q h
no_rest P q v f (label.Const x) d h = q h
no_rest P q v f (label.Clause x) d h = q h
no_rest P q v f (label.Predicate x) d h = q h
no_rest P q v f (label.List x) d h = q h

no_end : (P : Tree → Type 0) → (P empty → ⊥) → (v s : Tree) (f : Leaf → Leaf) (l : Label) (d : Tree) → P (statement_of (node (label.List list.Binder) (more v (more s (put (λ x. leaf_tree (f x)) l d))))) → ⊥
no_end P q v s f (label.Leaf x) d h = q h
no_end P q v s f (label.Bound o i n) d h = q h
no_end P q v s f (label.Ty x) d h = q h
no_end P q v s f (label.Const x) d h = q h
no_end P q v s f (label.Clause x) d h = q h
no_end P q v s f (label.Predicate x) d h = q h
no_end P q v s f (label.List x) d h = q h

pub kept_before : (ρ : Renaming) (g : Tree) → KeepsAliases (statement_of (rename ρ g)) → KeepsAliases (statement_of g)
kept_before ρ (node (label.List list.Binder) (more v (more s empty))) h = keeps_before ρ s h
kept_before ρ (node (label.List list.Binder) (more v (more s (node l c)))) h = absurd (no_end KeepsAliases (λ z. z) (rename ρ v) (rename ρ s) ρ.to l (rename ρ c) h)
kept_before ρ (node (label.List list.Binder) (more v (node l c))) h = absurd (no_rest KeepsAliases (λ z. z) (rename ρ v) ρ.to l (rename ρ c) h)
kept_before ρ (node (label.List list.Binder) (node l c)) h = absurd (no_row KeepsAliases (λ z. z) ρ.to l (rename ρ c) h)
kept_before ρ g h = absurd h

-- .. and what rules of a handler say
said_before : (ρ : Renaming) (s : Tree) → IsHandlers (rename ρ s) → IsHandlers s
said_before ρ (node (label.Clause (clause.Trait i)) c) h = tt
said_before ρ (node (label.Clause (clause.HostEffect i)) c) h = tt
said_before ρ (node (label.Clause (clause.Projection i)) c) h = tt
said_before ρ (node (label.Predicate (predicate.NormalizesTo i)) c) h = tt
said_before ρ s h = absurd h

pub rules_before : (ρ : Renaming) (g : Tree) → IsHandlers (statement_of (rename ρ g)) → IsHandlers (statement_of g)
rules_before ρ (node (label.List list.Binder) (more v (more s empty))) h = said_before ρ s h
rules_before ρ (node (label.List list.Binder) (more v (more s (node l c)))) h = absurd (no_end IsHandlers (λ z. z) (rename ρ v) (rename ρ s) ρ.to l (rename ρ c) h)
rules_before ρ (node (label.List list.Binder) (more v (node l c))) h = absurd (no_rest IsHandlers (λ z. z) (rename ρ v) ρ.to l (rename ρ c) h)
rules_before ρ (node (label.List list.Binder) (node l c)) h = absurd (no_row IsHandlers (λ z. z) ρ.to l (rename ρ c) h)
rules_before ρ g h = absurd h

-- what a term without aliases says has none
pub statement_free : (g : Tree) → IsAliasFree g → HasNoAlias (statement_of g)
statement_free (node (label.List list.Binder) (more v (more s empty))) f = free_none s f.1.1.0
statement_free g f = tt
