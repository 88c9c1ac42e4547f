-- What is proved to outlive a region does: by the rule of the engine, under a renaming, and in a world.
use Rattle.std.proofs.Common.{◌≡◌, inl, inr, ℕ, Bool, true, false, refl, sym, ap, ◌∙◌}
use Rattle.std.specs.Prelude.{◌==◌, if◌then◌else◌}
use Rattle.nts_model.specs.declared.labels.Sort.{Sort}
use Rattle.nts_model.specs.declared.labels.Leaf.{Leaf}
use Rattle.nts_model.specs.declared.labels.BoundVarIndexKind.TheVariants as index
use Rattle.nts_model.specs.declared.labels.ClauseHead.TheVariants as clause
use Rattle.nts_model.specs.declared.labels.Label.TheVariants as label
use Rattle.nts_model.specs.declared.labels.Relation.{Relation}
use Rattle.nts_model.specs.declared.labels.Relation.TheVariants as relation
use Rattle.nts_model.specs.Terms.Trees.{Tree, empty, more, node, IsFormed}
use Rattle.nts_model.specs.Tables.Worlds.{World, inst}
use Rattle.nts_model.specs.Terms.Substitutions.{leaf_tree, Renaming, rename}
use Rattle.nts_model.specs.Derivations.Related.{Constraint}
use Rattle.nts_model.specs.Derivations.Sequents.{Premise}
use Rattle.nts_model.specs.Derivations.Rules.{Meaning, opened, IsHandlers, IsBuiltIn, region_lives, type_lives}
use Rattle.nts_model.specs.Derivations.Handlers.{constraint_by}
use Rattle.nts_model.specs.Refutation.Containing.{Truth, IsTrueBy}
use Rattle.nts_theory.specs.Outliving.{SaysOutlives, region_outlives, type_outlives}
use Rattle.nts_theory.specs.Refutation.Refutation.{IsCarrying, IsFair}
use Rattle.nts_theory.proofs.Refutation.Carriers.{back_to, back_carrying}

-- no rule of a handler says so, and that of the engine has the constraint
pub no_handlers : (x : Constraint) (s : Tree) → SaysOutlives x s → IsHandlers s → ⊥
no_handlers x s region_outlives h = h
no_handlers x s type_outlives h = h

pub built_in_holds : (m : Meaning) (G : Tree → Type 0) (H : Constraint → Type 0) (P : Premise → Type 0) (e s : Tree) (x : Constraint) → SaysOutlives x s → IsBuiltIn m G H P e s → H x
built_in_holds m G H P e s x region_outlives (region_lives i j k) = k
built_in_holds m G H P e s x type_outlives (type_lives i k) = k

-- what a statement says once it is opened, it says of bound variables before
pub record OpenedSays (f : Sort → ℕ → Leaf) (s : Tree) (y : Constraint) : Type 0 where
  pub before : Constraint
  pub says : SaysOutlives before s
  pub same : y ≡ constraint_by (opened f 0) before

not_bound : (f : Sort → ℕ → Leaf) (b : Bool) (o : Sort) (d n : ℕ) (t : Tree) (y : Constraint) → SaysOutlives y (if b then leaf_tree (f o n) else node (label.Bound o (index.Bound d) n) t) → ⊥
not_bound f true o d n t y says = elim says [ ]
not_bound f false o d n t y says = elim says [ ]

region_says : (f : Sort → ℕ → Leaf) (c : Tree) (y : Constraint) → IsFormed (node (label.Clause clause.RegionOutlives) c) → SaysOutlives y (node (label.Clause clause.RegionOutlives) (opened f 0 c)) → OpenedSays f (node (label.Clause clause.RegionOutlives) c) y
region_says f empty y k says = absurd k.0
region_says f (more a empty) y k says = absurd (let p = k.0 in p.1)
region_says f (more a (more b empty)) y k region_outlives = record { before = record { relation = relation.RegionOutlives; left = a; right = b }; says = region_outlives; same = refl }
region_says f (more a (more b (more x z))) y k says = absurd (let p = k.0 in p.1.1)
region_says f (more a (more b (node l z))) y k says = absurd (let p = k.0 in p.1.1)
region_says f (more a (node l z)) y k says = absurd (let p = k.0 in p.1)
region_says f (node l z) y k says = absurd k.0

type_says : (f : Sort → ℕ → Leaf) (c : Tree) (y : Constraint) → IsFormed (node (label.Clause clause.TypeOutlives) c) → SaysOutlives y (node (label.Clause clause.TypeOutlives) (opened f 0 c)) → OpenedSays f (node (label.Clause clause.TypeOutlives) c) y
type_says f empty y k says = absurd k.0
type_says f (more a empty) y k says = absurd (let p = k.0 in p.1)
type_says f (more a (more b empty)) y k type_outlives = record { before = record { relation = relation.TypeOutlives; left = a; right = b }; says = type_outlives; same = refl }
type_says f (more a (more b (more x z))) y k says = absurd (let p = k.0 in p.1.1)
type_says f (more a (more b (node l z))) y k says = absurd (let p = k.0 in p.1.1)
type_says f (more a (node l z)) y k says = absurd (let p = k.0 in p.1)
type_says f (node l z) y k says = absurd k.0

pub opened_says : (f : Sort → ℕ → Leaf) (s : Tree) (y : Constraint) → IsFormed s → SaysOutlives y (opened f 0 s) → OpenedSays f s y
opened_says f (node (label.Clause clause.RegionOutlives) c) y k says = region_says f c y k says
opened_says f (node (label.Clause clause.TypeOutlives) c) y k says = type_says f c y k says
opened_says f (node (label.Bound o (index.Bound d) n) c) y k says = absurd (not_bound f (d == 0) o d n (opened f 0 c) y says)
opened_says f empty y k says = elim says [ ]
opened_says f (more _ _) y k says = elim says [ ]
opened_says f (node (label.Leaf _) c) y k says = elim says [ ]
opened_says f (node (label.Bound o index.Canonical n) c) y k says = elim says [ ]
opened_says f (node (label.Ty _) c) y k says = elim says [ ]
opened_says f (node (label.Const _) c) y k says = elim says [ ]
opened_says f (node (label.Clause (clause.Trait _)) c) y k says = elim says [ ]
opened_says f (node (label.Clause (clause.HostEffect _)) c) y k says = elim says [ ]
opened_says f (node (label.Clause (clause.Projection _)) c) y k says = elim says [ ]
opened_says f (node (label.Clause clause.ConstArgHasType) c) y k says = elim says [ ]
opened_says f (node (label.Clause clause.WellFormed) c) y k says = elim says [ ]
opened_says f (node (label.Clause clause.ConstEvaluatable) c) y k says = elim says [ ]
opened_says f (node (label.Clause (clause.UnstableFeature _)) c) y k says = elim says [ ]
opened_says f (node (label.Predicate _) c) y k says = elim says [ ]
opened_says f (node (label.List _) c) y k says = elim says [ ]

-- a renaming moves the sides, and so does a world
pub outlives_renamed : (ρ : Renaming) (x : Constraint) (s : Tree) → SaysOutlives x s → SaysOutlives (constraint_by (rename ρ) x) (rename ρ s)
outlives_renamed ρ x s region_outlives = region_outlives
outlives_renamed ρ x s type_outlives = type_outlives

pub says_opened : (ρ : Renaming) (f : Sort → ℕ → Leaf) (x : Constraint) (s : Tree) → SaysOutlives x s → SaysOutlives (constraint_by (λ z. opened f 0 (rename ρ z)) x) (opened f 0 (rename ρ s))
says_opened ρ f x s region_outlives = region_outlives
says_opened ρ f x s type_outlives = type_outlives

pub sides_moved : (σ ρ : Renaming) (f p : Sort → ℕ → Leaf) (x : Constraint) (s : Tree) → SaysOutlives x s → rename σ (opened f 0 (rename ρ s)) ≡ opened p 0 s
    → (rename σ (opened f 0 (rename ρ x.left)) ≡ opened p 0 x.left) × (rename σ (opened f 0 (rename ρ x.right)) ≡ opened p 0 x.right)
sides_moved σ ρ f p x s region_outlives e = (cc e, cc e)
sides_moved σ ρ f p x s type_outlives e = (cc e, cc e)

pub outlives_inst : (w : World) (x : Constraint) (s : Tree) → SaysOutlives x s → SaysOutlives (constraint_by (inst w) x) (inst w s)
outlives_inst w x s region_outlives = region_outlives
outlives_inst w x s type_outlives = type_outlives

-- the sides of a statement are formed as it is
pub sides_formed : (x : Constraint) (s : Tree) → SaysOutlives x s → IsFormed s → IsFormed x.left × IsFormed x.right
sides_formed x s region_outlives f = (let y = f.1 in (y.0, y.1.0))
sides_formed x s type_outlives f = (let y = f.1 in (y.0, y.1.0))

-- what is true of the sides renamed back is true of them
module _ (truth : Truth) (fair : IsFair truth) (ρ : Renaming) (carrying : IsCarrying ρ) (forth : (t : Tree) → IsFormed t → rename ρ (rename (back_to ρ) t) ≡ t) where
  one_again : (a b : Tree) → IsFormed a → IsFormed b → rename (back_to ρ) a ≡ rename (back_to ρ) b → a ≡ b
  one_again a b f g e = sym (forth a f) ∙ ap (rename ρ) e ∙ forth b g

  pub true_again : (r : Relation) (a b : Tree) → IsFormed a → IsFormed b → IsTrueBy truth r (rename (back_to ρ) a) (rename (back_to ρ) b) → IsTrueBy truth r a b
  true_again relation.Equal a b f g e = one_again a b f g e
  true_again relation.RegionOutlives a b f g (inl e) = inl (one_again a b f g e)
  true_again relation.RegionOutlives a b f g (inr t) = inr (sym (fair.renamed (back_to ρ) (back_carrying ρ carrying) a b) ∙ t)
  true_again relation.TypeOutlives a b f g t = sym (fair.renamed (back_to ρ) (back_carrying ρ carrying) a b) ∙ t
