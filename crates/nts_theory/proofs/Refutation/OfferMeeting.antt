-- Instances of terms in a world, terms without aliases once values are put in, and a candidate that a world meets.
use Rattle.std.proofs.Common.{◌≡◌, inl, inr, ℕ, zero, suc, List, [], ◌∷◌, get_or, Option, Some, None, refl, sym, ap, ◌∙◌}
use Rattle.nts_model.specs.declared.labels.Leaf.{Leaf}
use Rattle.nts_model.specs.declared.labels.ClauseHead.{ClauseHead}
use Rattle.nts_model.specs.declared.labels.ClauseHead.TheVariants as clause
use Rattle.nts_model.specs.declared.labels.PredicateHead.{PredicateHead}
use Rattle.nts_model.specs.declared.labels.PredicateHead.TheVariants as predicate
use Rattle.nts_model.specs.declared.labels.Label.{Label}
use Rattle.nts_model.specs.declared.labels.Label.TheVariants as label
use Rattle.nts_model.specs.Terms.Trees.{Tree, empty, more, node, IsFormed}
use Rattle.nts_model.specs.Tables.Worlds.{World, inst}
use Rattle.nts_model.specs.Terms.Substitutions.{leaf_tree, put, replace, Occurs, Instance, instance_of, filled_under, position_of, value_or}
use Rattle.nts_model.specs.Derivations.Related.{Constraint}
use Rattle.nts_model.specs.Lists.{Among}
use Rattle.nts_model.specs.Derivations.Sequents.{Premise}
use Rattle.nts_model.specs.Derivations.Rules.{coherence, Equation, IsHandlers}
use Rattle.nts_model.specs.Derivations.Handlers.{Handler, Candidate, AreValuesOf}
use Rattle.nts_model.specs.Refutation.Containing.{IsNoAlias, IsAliasFree, Truth, IsTrueBy}
use Rattle.nts_theory.specs.RelatingCandidates.{plain_equations, aliased_equations, HasTypesApart}
use Rattle.nts_theory.specs.Refutation.Refutation.{IsGranted, AreMadeOne}
use Rattle.nts_model.proofs.Terms.Substituting.{leaf_alone}
use Rattle.nts_theory.proofs.Refutation.AskingWorlds.{IsOfParts}
use Rattle.nts_model.specs.Refutation.Choosing.{left_of, right_of}

-- an instance of a formed tree is its image, where that is so of its leaves
put_inst : (w : World) (f : Leaf → Tree) (l : Label) (c d : Tree) → IsFormed (node l c) → ((x : Leaf) → Occurs x (node l c) → f x ≡ inst w (leaf_tree x)) → d ≡ inst w c → put f l d ≡ inst w (node l c)
put_inst w f (label.Leaf x) c d g h e = h x (inl refl) ∙ ap (λ z. inst w (node (label.Leaf x) z)) (sym (leaf_alone x c g))
put_inst w f (label.Bound a b n) c d g h e = ap (node (label.Bound a b n)) e
put_inst w f (label.Ty x) c d g h e = ap (node (label.Ty x)) e
put_inst w f (label.Const x) c d g h e = ap (node (label.Const x)) e
put_inst w f (label.Clause x) c d g h e = ap (node (label.Clause x)) e
put_inst w f (label.Predicate x) c d g h e = ap (node (label.Predicate x)) e
put_inst w f (label.List x) c d g h e = ap (node (label.List x)) e

pub replace_inst : (w : World) (f : Leaf → Tree) (t : Tree) → IsFormed t → ((x : Leaf) → Occurs x t → f x ≡ inst w (leaf_tree x)) → replace f t ≡ inst w t
replace_inst w f empty g h = refl
replace_inst w f (more a b) g h = cc (replace_inst w f a g.0 (λ x i. h x (inl i)), replace_inst w f b g.1 (λ x i. h x (inr i)))
replace_inst w f (node l c) g h = put_inst w f l c (replace f c) g h (replace_inst w f c g.1 (λ x i. h x (inr i)))

-- a handler's statement is one in each world
clause_inst : (w : World) (x : ClauseHead) (ts : Tree) → IsHandlers (node (label.Clause x) ts) → IsHandlers (node (label.Clause x) (inst w ts))
clause_inst w (clause.Trait i) ts h = tt
clause_inst w (clause.HostEffect i) ts h = tt
clause_inst w (clause.Projection i) ts h = tt
clause_inst w clause.TypeOutlives ts h = absurd h
clause_inst w clause.RegionOutlives ts h = absurd h
clause_inst w clause.ConstArgHasType ts h = absurd h
clause_inst w clause.WellFormed ts h = absurd h
clause_inst w clause.ConstEvaluatable ts h = absurd h
clause_inst w (clause.UnstableFeature i) ts h = absurd h

predicate_inst : (w : World) (x : PredicateHead) (ts : Tree) → IsHandlers (node (label.Predicate x) ts) → IsHandlers (node (label.Predicate x) (inst w ts))
predicate_inst w (predicate.NormalizesTo i) ts h = tt
predicate_inst w (predicate.Subtype e) ts h = absurd h
predicate_inst w predicate.Coerce ts h = absurd h
predicate_inst w predicate.ConstEquate ts h = absurd h
predicate_inst w (predicate.AliasRelate d) ts h = absurd h
predicate_inst w (predicate.DynCompatible i) ts h = absurd h
predicate_inst w predicate.Ambiguous ts h = absurd h

pub handlers_inst : (w : World) (s : Tree) → IsHandlers s → IsHandlers (inst w s)
handlers_inst w empty h = absurd h
handlers_inst w (more a b) h = absurd h
handlers_inst w (node (label.Clause x) ts) h = clause_inst w x ts h
handlers_inst w (node (label.Predicate x) ts) h = predicate_inst w x ts h
handlers_inst w (node (label.Leaf x) ts) h = absurd h
handlers_inst w (node (label.Bound a b n) ts) h = absurd h
handlers_inst w (node (label.Ty x) ts) h = absurd h
handlers_inst w (node (label.Const x) ts) h = absurd h
handlers_inst w (node (label.List x) ts) h = absurd h

-- filled terms without aliases
value_free : (vs : List Tree) → ((v : Tree) → Among vs v → IsAliasFree v) → (i : ℕ) → IsAliasFree (get_or vs i empty)
value_free [] h i = tt
value_free (v ∷ vs) h zero = h v (inl refl)
value_free (v ∷ vs) h (suc i) = value_free vs (λ u j. h u (inr j)) i

put_free : (f : Leaf → Tree) (l : Label) (c d : Tree) → ((x : Leaf) → Occurs x (node l c) → IsAliasFree (f x)) → IsNoAlias l → IsAliasFree d → IsAliasFree (put f l d)
put_free f (label.Leaf x) c d h e i = h x (inl refl)
put_free f (label.Bound a b n) c d h e i = (e, i)
put_free f (label.Ty x) c d h e i = (e, i)
put_free f (label.Const x) c d h e i = (e, i)
put_free f (label.Clause x) c d h e i = (e, i)
put_free f (label.Predicate x) c d h e i = (e, i)
put_free f (label.List x) c d h e i = (e, i)

either_free : (o : Option ℕ) (vs : List Tree) (t : Tree) → ((v : Tree) → Among vs v → IsAliasFree v) → IsAliasFree t → IsAliasFree (value_or o vs t)
either_free None vs t h f = f
either_free (Some i) vs t h f = value_free vs h i

pub filled_free : (f : Leaf → Tree) (vs : List Tree) (t : Tree) → ((v : Tree) → Among vs v → IsAliasFree v) → ((x : Leaf) → Occurs x t → IsAliasFree (f x)) → IsAliasFree t → IsAliasFree (filled_under f vs t)
filled_free f vs empty h g i = tt
filled_free f vs (more a b) h g i = (filled_free f vs a h (λ x o. g x (inl o)) i.0, filled_free f vs b h (λ x o. g x (inr o)) i.1)
filled_free f vs (node l c) h g i = either_free (position_of l) vs (put f l (filled_under f vs c)) h (put_free f l c (filled_under f vs c) g i.0 (filled_free f vs c h (λ x o. g x (inr o)) i.1))

pub free_parts : IsOfParts IsAliasFree
free_parts = record { left = λ a b h. h.0; right = λ a b h. h.1; below = λ l c h. h.1 }

-- a candidate that a world meets: no alias stands in the values, its plain equations are equalities, and the sides of those with aliases
-- come to one tree; no two types are apart that it equates, its constraints are true, and its goals are granted
pub record MeetsOffered (h : Handler) (truth : Truth) (Proves : Tree → Tree → Type 0) (e g : Tree) (ι : Instance) : Type 0 where
  pub candidate : Candidate
  pub offered : Among (h.offers coherence e g) candidate
  pub chosen : List Tree
  pub values : AreValuesOf candidate.fresh chosen
  pub free : (v : Tree) → Among chosen v → IsAliasFree v
  pub equal : (q : Equation) → Among (plain_equations candidate.equations) q → filled_under ι.value chosen (left_of q) ≡ filled_under ι.value chosen (right_of q)
  pub aliased : (q : Equation) → Among (aliased_equations candidate.equations) q → AreMadeOne (IsGranted Proves) (instance_of ι e) (filled_under ι.value chosen (left_of q)) (filled_under ι.value chosen (right_of q))
  pub apart : HasTypesApart candidate → ⊥
  pub met : (x : Constraint) → Among candidate.constraints x → IsTrueBy truth x.relation (filled_under ι.value chosen x.left) (filled_under ι.value chosen x.right)
  pub goals : (p : Premise) → Among candidate.goals p → IsGranted Proves (filled_under ι.value chosen p.environment) (filled_under ι.value chosen p.predicate)
