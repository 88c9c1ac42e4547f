-- Predicates and heads that are as the traits are declared, and stay so.
use Rattle.std.proofs.Common.{◌≡◌, ℕ, List, Option, None, Some, slice_get, refl, sym, ap, subst, ◌∙◌}
use Rattle.nts_model.specs.declared.labels.Sort.{Sort}
use Rattle.nts_model.specs.Terms.Trees.{Tree}
use Rattle.nts_store.specs.declared.nodes.NodeId.{NodeId}
use Rattle.nts_store.specs.Growth.{tree_at, IsIn, Extends}
use Rattle.nts_store.proofs.Growing.{IsIn-extended}
use Rattle.nts_terms.specs.declared.cx.Cx.{Cx}
use Rattle.nts_terms.specs.declared.handles.BoundVars.{BoundVars}
use Rattle.nts_terms.specs.declared.handles.DefId.TheVariants as def
use Rattle.nts_terms.specs.declared.kinds.ClauseKind.{ClauseKind}
use Rattle.nts_terms.specs.declared.kinds.ClauseKind.TheVariants as clause
use Rattle.nts_terms.specs.declared.kinds.PredicateKind.TheVariants as predicate
use Rattle.nts_terms.specs.Handles.{HoldsArgs}
use Rattle.nts_terms.specs.Kinds.{tree_of_clause, tree_of_predicate, ClauseFits}
use Rattle.nts_terms.specs.Rest.{Grows}
use Rattle.nts_terms.specs.Signatures.{Declared, AreDeclared, AreArgumentsOfSorts, ClauseIsDeclared}
use Rattle.nts_delegate.specs.Offers.{trait_read}
use Rattle.nts_delegate.specs.declared.clauses.Clause.{Clause}
use Rattle.nts_wording.specs.Fitting.{AreTraitArguments, FitTraitIfAny, IsDeclaredPredicate, HeadFits}

stated : (d : Declared) (ts : List Tree) (k : ClauseKind) → ClauseFits ts k → ClauseIsDeclared d ts k → FitTraitIfAny d (trait_read (tree_of_clause ts k))
stated d ts (clause.Trait r) h e = record { list = h.fits; declared = e }
stated d ts k h e = tt

-- the predicate that states what is declared
pub predicate_declared : (d e : Declared) (ts us : List Tree) (vars : BoundVars) (k : ClauseKind) (n : NodeId) → e ≡ d → tree_at us n ≡ tree_of_predicate ts (record { vars = vars; value = predicate.Clause k })
    → ClauseFits ts k → ClauseIsDeclared d ts k → IsDeclaredPredicate e (tree_at us n)
predicate_declared d e ts us vars k n same tree h f =
    subst (λ x. IsDeclaredPredicate x (tree_at us n)) (sym same) (subst (IsDeclaredPredicate d) (sym tree) (stated d ts k h f))

-- the head of the clause that states it
pub head_fits : (d : Declared) (ts : List Tree) (k : ClauseKind) (c : Clause) → k ≡ clause.Trait (record { def_id = c.trait_id; args = c.head }) → ClauseFits ts k → ClauseIsDeclared d ts k → HeadFits d ts c.trait_id.number c
head_fits d ts k c is h e =
    let fits : HoldsArgs ts c.head = subst (ClauseFits ts) is h in
    let declared : AreDeclared d (def.Trait c.trait_id) (tree_at ts c.head.node) = subst (ClauseIsDeclared d ts) is e in
    record { within = fits.within; given = record { list = fits.fits; declared = declared } }

sorts_kept : (o p : Option (List Sort)) (t : Tree) → ((ss : List Sort) → o ≡ Some ss → p ≡ Some ss) → AreArgumentsOfSorts o t → AreArgumentsOfSorts p t
sorts_kept None p t k h = absurd h
sorts_kept (Some ss) p t k h = subst (λ q. AreArgumentsOfSorts q t) (sym (k ss refl)) h

-- a head in a store that has grown, where the trait is declared as before
pub head_later : (d e : Declared) (a b : List Tree) (i : ℕ) (c : Clause) → ((ss : List Sort) → slice_get d.traits i ≡ Some ss → slice_get e.traits i ≡ Some ss) → Extends a b → HeadFits d a i c → HeadFits e b i c
head_later d e a b i c kept up h =
    let declared = sorts_kept (slice_get d.traits i) (slice_get e.traits i) (tree_at a c.head.node) kept h.given.declared in
    record {
      within = IsIn-extended up c.head.node h.within;
      given = subst (AreTraitArguments e i) (sym (up.kept c.head.node h.within)) (record { list = h.given.list; declared = declared });
    }

pub head_grown : (x y : Cx) (i : ℕ) (c : Clause) → Grows x y → HeadFits x.declarations x.nodes i c → HeadFits y.declarations y.nodes i c
head_grown x y i c g h =
    head_later x.declarations y.declarations x.nodes y.nodes i c (λ ss e. ap (λ d. slice_get d.traits i) g.rest.declarations ∙ e) g.extends h

-- a predicate in a store that has grown
pub predicate_grown : (x y : Cx) (n : NodeId) → Grows x y → IsIn x.nodes n → IsDeclaredPredicate x.declarations (tree_at x.nodes n) → IsDeclaredPredicate y.declarations (tree_at y.nodes n)
predicate_grown x y n g l h =
    subst (λ d. IsDeclaredPredicate d (tree_at y.nodes n)) (sym g.rest.declarations) (subst (IsDeclaredPredicate x.declarations) (sym (g.extends.kept n l)) h)
