-- What a statement says of two terms, it says under a renaming, in a world, and once it is opened; and what it says opened, it said before.
use Rattle.std.proofs.Common.{◌≡◌, ℕ, Bool, true, false, refl, sym, ap, ◌∙◌, subst}
use Rattle.std.specs.Prelude.{◌==◌, if◌then◌else◌}
use Rattle.nts_model.specs.declared.labels.Sort.{Sort}
use Rattle.nts_model.specs.declared.labels.Leaf.{Leaf}
use Rattle.nts_model.specs.declared.labels.BoundVarIndexKind.TheVariants as index
use Rattle.nts_model.specs.declared.labels.ConstHead.TheVariants as konst
use Rattle.nts_model.specs.declared.labels.ClauseHead.{ClauseHead}
use Rattle.nts_model.specs.declared.labels.ClauseHead.TheVariants as clause
use Rattle.nts_model.specs.declared.labels.Label.{Label}
use Rattle.nts_model.specs.declared.labels.Label.TheVariants as label
use Rattle.nts_model.specs.declared.labels.Relation.TheVariants as relation
use Rattle.nts_model.specs.Terms.Trees.{Tree, empty, more, node, IsFormed}
use Rattle.nts_model.specs.Tables.Worlds.{World, inst}
use Rattle.nts_model.specs.Terms.Substitutions.{leaf_tree, Renaming, rename}
use Rattle.nts_model.specs.Derivations.Related.{Constraint, value}
use Rattle.nts_model.specs.Derivations.Rules.{opened, opened_at, IsHandlers}
use Rattle.nts_model.specs.Derivations.Handlers.{constraint_by}
use Rattle.nts_theory.specs.Affirming.{has_type, is_well_formed, SaysOfTwo, outlives_it, is_its_type}
use Rattle.nts_theory.proofs.Refutation.Outliving.{no_handlers, opened_says, outlives_renamed, says_opened, sides_moved, outlives_inst, sides_formed}

pub said_no_handlers : (x : Constraint) (s : Tree) → SaysOfTwo x s → IsHandlers s → ⊥
said_no_handlers x s (outlives_it o) h = no_handlers x s o h
said_no_handlers x s is_its_type h = h

pub said_renamed : (ρ : Renaming) (x : Constraint) (s : Tree) → SaysOfTwo x s → SaysOfTwo (constraint_by (rename ρ) x) (rename ρ s)
said_renamed ρ x s (outlives_it o) = outlives_it (outlives_renamed ρ x s o)
said_renamed ρ x s is_its_type = is_its_type

pub said_opened : (ρ : Renaming) (f : Sort → ℕ → Leaf) (x : Constraint) (s : Tree) → SaysOfTwo x s → SaysOfTwo (constraint_by (λ z. opened f 0 (rename ρ z)) x) (opened f 0 (rename ρ s))
said_opened ρ f x s (outlives_it o) = outlives_it (says_opened ρ f x s o)
said_opened ρ f x s is_its_type = is_its_type

pub both_moved : (σ ρ : Renaming) (f p : Sort → ℕ → Leaf) (x : Constraint) (s : Tree) → SaysOfTwo x s → rename σ (opened f 0 (rename ρ s)) ≡ opened p 0 s
    → (rename σ (opened f 0 (rename ρ x.left)) ≡ opened p 0 x.left) × (rename σ (opened f 0 (rename ρ x.right)) ≡ opened p 0 x.right)
both_moved σ ρ f p x s (outlives_it o) e = sides_moved σ ρ f p x s o e
both_moved σ ρ f p x s is_its_type e = (cc e, cc e)

pub said_inst : (w : World) (x : Constraint) (s : Tree) → SaysOfTwo x s → SaysOfTwo (constraint_by (inst w) x) (inst w s)
said_inst w x s (outlives_it o) = outlives_it (outlives_inst w x s o)
said_inst w x s is_its_type = is_its_type

pub both_formed : (x : Constraint) (s : Tree) → SaysOfTwo x s → IsFormed s → IsFormed x.left × IsFormed x.right
both_formed x s (outlives_it o) f = sides_formed x s o f
both_formed x s is_its_type f = (let y = f.1 in let v = y.0 in (v.1.0, y.1.0))

-- what opening does not make
no_row_if : (b : Bool) (l : Leaf) (m : Label) (u a c : Tree) → (if b then leaf_tree l else node m u) ≡ more a c → ⊥
no_row_if true l m u a c e = cc e
no_row_if false l m u a c e = cc e

no_row : (f : Sort → ℕ → Leaf) (c : ℕ) (l : Label) (u a b : Tree) → opened_at f c l u ≡ more a b → ⊥
no_row f c (label.Bound s (index.Bound d) n) u a b e = no_row_if (d == c) (f s n) (label.Bound s (index.Bound d) n) u a b e
no_row f c l u a b e = cc e

no_empty_if : (b : Bool) (l : Leaf) (m : Label) (u : Tree) → (if b then leaf_tree l else node m u) ≡ empty → ⊥
no_empty_if true l m u e = cc e
no_empty_if false l m u e = cc e

no_empty : (f : Sort → ℕ → Leaf) (c : ℕ) (l : Label) (u : Tree) → opened_at f c l u ≡ empty → ⊥
no_empty f c (label.Bound s (index.Bound d) n) u e = no_empty_if (d == c) (f s n) (label.Bound s (index.Bound d) n) u e
no_empty f c l u e = cc e

no_value_if : (x : Bool) (l : Leaf) (s : Sort) (d n b : ℕ) (u v : Tree) → (if x then leaf_tree l else node (label.Bound s (index.Bound d) n) v) ≡ value b u → ⊥
no_value_if true l s d n b u v e = cc e
no_value_if false l s d n b u v e = cc e

no_clause_if : (x : Bool) (l : Leaf) (s : Sort) (d n : ℕ) (v : Tree) (h : ClauseHead) (c : Tree) → (if x then leaf_tree l else node (label.Bound s (index.Bound d) n) v) ≡ node (label.Clause h) c → ⊥
no_clause_if true l s d n v h c e = cc e
no_clause_if false l s d n v h c e = cc e

pub was_empty : (f : Sort → ℕ → Leaf) (c : ℕ) (t : Tree) → opened f c t ≡ empty → t ≡ empty
was_empty f c empty e = refl
was_empty f c (more a b) e = cc e
was_empty f c (node l t) e = absurd (no_empty f c l _ e)

-- a row of one was one, and of two
record WasOne (f : Sort → ℕ → Leaf) (c u : Tree) : Type 0 where
  pub one : Tree
  pub is : c ≡ more one empty
  pub opens : opened f 0 one ≡ u

was_one : (f : Sort → ℕ → Leaf) (c u : Tree) → opened f 0 c ≡ more u empty → WasOne f c u
was_one f empty u e = cc e
was_one f (more a b) u e =
    let first : opened f 0 a ≡ u = cc e in
    let none : opened f 0 b ≡ empty = cc e in
    record { one = a; is = ap (more a) (was_empty f 0 b none); opens = first }
was_one f (node l t) u e = absurd (no_row f 0 l _ u empty e)

record WereTwo (f : Sort → ℕ → Leaf) (c u v : Tree) : Type 0 where
  pub first : Tree
  pub second : Tree
  pub is : c ≡ more first (more second empty)
  pub opens_first : opened f 0 first ≡ u
  pub opens_second : opened f 0 second ≡ v

were_two : (f : Sort → ℕ → Leaf) (c u v : Tree) → opened f 0 c ≡ more u (more v empty) → WereTwo f c u v
were_two f empty u v e = cc e
were_two f (more a b) u v e =
    let first : opened f 0 a ≡ u = cc e in
    let rest : opened f 0 b ≡ more v empty = cc e in
    let o = was_one f b v rest in
    record { first = a; second = o.one; is = ap (more a) o.is; opens_first = first; opens_second = o.opens }
were_two f (node l t) u v e = absurd (no_row f 0 l _ u (more v empty) e)

-- a value was one
record WasValue (f : Sort → ℕ → Leaf) (c : Tree) (b : ℕ) (u : Tree) : Type 0 where
  pub type_of : Tree
  pub is : c ≡ value b type_of
  pub opens : opened f 0 type_of ≡ u

child : (l m : Label) (t u : Tree) → node l t ≡ node m u → t ≡ u
child l m t u e = cc e

was_value : (f : Sort → ℕ → Leaf) (c : Tree) (b : ℕ) (u : Tree) → opened f 0 c ≡ value b u → WasValue f c b u
was_value f (node (label.Const (konst.Value k)) t) b u e =
    let o = was_one f t u (child (label.Const (konst.Value k)) (label.Const (konst.Value b)) (opened f 0 t) (more u empty) e) in
    let same : k ≡ b = cc e in
    record { type_of = o.one; is = (let q = o.is in cc (q, same)); opens = o.opens }
was_value f (node (label.Bound s (index.Bound d) n) t) b u e = absurd (no_value_if (d == 0) (f s n) s d n b u _ e)
was_value f t b u e = cc e

-- what a value's type is to be was said before
pub record WasType (f : Sort → ℕ → Leaf) (s : Tree) (b : ℕ) (u t : Tree) : Type 0 where
  pub type_of : Tree
  pub type_to_be : Tree
  pub is : s ≡ has_type (value b type_of) type_to_be
  pub opens_type : opened f 0 type_of ≡ u
  pub opens_to_be : opened f 0 type_to_be ≡ t

pub was_type : (f : Sort → ℕ → Leaf) (s : Tree) (b : ℕ) (u t : Tree) → opened f 0 s ≡ has_type (value b u) t → WasType f s b u t
was_type f (node (label.Clause clause.ConstArgHasType) c) b u t e =
    let o = were_two f c (value b u) t (child (label.Clause clause.ConstArgHasType) (label.Clause clause.ConstArgHasType) (opened f 0 c) (more (value b u) (more t empty)) e) in
    let v = was_value f o.first b u o.opens_first in
    record { type_of = v.type_of; type_to_be = o.second; is = ap (node (label.Clause clause.ConstArgHasType)) (o.is ∙ ap (λ z. more z (more o.second empty)) v.is); opens_type = v.opens; opens_to_be = o.opens_second }
was_type f (node (label.Bound s (index.Bound d) n) c) b u t e = absurd (no_clause_if (d == 0) (f s n) s d n _ clause.ConstArgHasType _ e)
was_type f s b u t e = cc e

-- and that a term is well formed
pub record WasFormed (f : Sort → ℕ → Leaf) (s t : Tree) : Type 0 where
  pub term : Tree
  pub is : s ≡ is_well_formed term
  pub opens : opened f 0 term ≡ t

pub was_formed : (f : Sort → ℕ → Leaf) (s t : Tree) → opened f 0 s ≡ is_well_formed t → WasFormed f s t
was_formed f (node (label.Clause clause.WellFormed) c) t e =
    let o = was_one f c t (child (label.Clause clause.WellFormed) (label.Clause clause.WellFormed) (opened f 0 c) (more t empty) e) in
    record { term = o.one; is = ap (node (label.Clause clause.WellFormed)) o.is; opens = o.opens }
was_formed f (node (label.Bound s (index.Bound d) n) c) t e = absurd (no_clause_if (d == 0) (f s n) s d n _ clause.WellFormed _ e)
was_formed f s t e = cc e

-- so what is said opened was said before
pub record SaidBefore (f : Sort → ℕ → Leaf) (s : Tree) (y : Constraint) : Type 0 where
  pub before : Constraint
  pub says : SaysOfTwo before s
  pub same : y ≡ constraint_by (opened f 0) before

pub said_before : (f : Sort → ℕ → Leaf) (s : Tree) (y : Constraint) → IsFormed s → SaysOfTwo y (opened f 0 s) → SaidBefore f s y
said_before f s y k says = by_kind (opened f 0 s) y refl says
  where
    by_kind : (o : Tree) (z : Constraint) → o ≡ opened f 0 s → SaysOfTwo z o → SaidBefore f s z
    by_kind o z e (outlives_it w) = (let x = opened_says f s z k (rw e at w) in record { before = x.before; says = outlives_it x.says; same = x.same })
    by_kind o z e (is_its_type {b = b} {u = u} {t = t}) =
        let x = was_type f s b u t (sym e) in
        record {
          before = record { relation = relation.Equal; left = x.type_of; right = x.type_to_be };
          says = subst (SaysOfTwo _) (sym x.is) is_its_type;
          same = (let l = x.opens_type in let r = x.opens_to_be in rw (l, r) refl);
        }
