-- Goals that are posed with variables in place of aliases, and goals that are not.
use Rattle.std.proofs.Common.{◌≡◌, ◌≤◌, inl, inr, false, List, [], ◌∷◌, refl, sym, subst, arith}
use Rattle.nts_model.specs.declared.labels.Sort.TheVariants as sort
use Rattle.nts_model.specs.declared.labels.VariableKind.TheVariants as variable
use Rattle.nts_model.specs.declared.labels.ClauseHead.TheVariants as clause
use Rattle.nts_model.specs.declared.labels.ListHead.TheVariants as list
use Rattle.nts_model.specs.declared.labels.Label.TheVariants as label
use Rattle.nts_model.specs.Terms.Trees.{Tree, empty, more, node, any_label, is_alias, IsClosed, IsFormed}
use Rattle.nts_model.specs.Tables.Contents.{Content}
use Rattle.nts_model.specs.Tables.Resolving.{Knows}
use Rattle.nts_model.specs.Tables.Levels.{AreCurrent}
use Rattle.nts_model.specs.Lists.{Among}
use Rattle.nts_model.specs.Derivations.Related.{constructor, unbound}
use Rattle.nts_model.specs.Derivations.Sequents.{Premise}
use Rattle.nts_model.specs.Derivations.Rules.{other_goal, choice, relating}
use Rattle.nts_model.specs.Answers.Applying.{IsNew, IsProperContent}
use Rattle.nts_model.proofs.Tables.AliasLabels.{not_alias}
use Rattle.nts_theory.specs.Posing.{equal_pair, put_alias, put_empty, put_more, put_node, PutsNew, Poses}
use Rattle.nts_theory.proofs.Examples.InputExamples.{no_clauses as nowhere}
use Rattle.nts_theory.proofs.Examples.AliasExamples.{item, item_alias}
use Rattle.nts_theory.proofs.Refutation.PosedGoals.{plain_posed}

abbrev auto_of : Tree → Tree
auto_of t = unbound (node (label.Clause (clause.Trait 0)) (more (node (label.List list.Args) (more t empty)) empty))

abbrev asked_of : Tree → Premise
asked_of t = relating nowhere (auto_of t)

-- that Auto holds of Item is posed as that Item is equal to a new variable, and that Auto holds of that
pub item_is_posed : (c d : Content) (v : Tree) → IsProperContent c → AreCurrent c → Knows c nowhere × Knows c (auto_of item) → IsNew c d variable.Ty c.universe v → IsClosed v
    → ((q : Premise) → Among (choice other_goal (asked_of item) item v ∷ asked_of v ∷ []) q → Knows d q.environment × Knows d q.predicate × IsFormed q.predicate)
    → PutsNew other_goal c (asked_of item) d (choice other_goal (asked_of item) item v ∷ asked_of v ∷ [])
item_is_posed c d v proper current knows new closed terms =
    record {
      proper = proper;
      current = current;
      says = tt;
      formed = ((tt, tt), ((refl, (refl, tt)), ((tt, tt), (((refl, tt), (((tt, tt), (((refl, tt), ((tt, tt), tt)), tt)), tt)), tt))));
      knows = knows;
      sorts = sort.Ty ∷ [];
      variables = v ∷ [];
      fresh = (d, new, subst (λ (z : Content). c.universe ≤ z.universe) (sym new.entries) (omega arith), refl);
      pairs = equal_pair item v ∷ [];
      of_sorts = (refl, tt);
      rights = refl;
      goal = auto_of v;
      put = put_node (not_alias _ _ refl) (put_more (put_node (not_alias _ _ refl) put_empty) (put_more (put_node (not_alias _ _ refl) (put_more (put_node (not_alias _ _ refl) (put_more (put_alias item_alias closed) put_empty)) put_empty)) put_empty));
      posed = refl;
      terms = terms;
    }

-- that Auto holds of List is posed as it is, and no goal is left out
list_is_posed_as_it_is : (c d : Content) (qs : List Premise) → Poses other_goal c (asked_of (constructor 1 empty) ∷ []) d qs → (d ≡ c) × (qs ≡ asked_of (constructor 1 empty) ∷ [])
list_is_posed_as_it_is c d qs x = plain_posed other_goal c d (asked_of (constructor 1 empty) ∷ []) qs x (λ p i. elim i [ inl e ↦ subst (λ (z : Premise). any_label is_alias z.predicate ≡ false) (sym e) refl | inr j ↦ absurd j ])

pub no_goal_is_left_out : (c d : Content) → Poses other_goal c (asked_of (constructor 1 empty) ∷ []) d [] → ⊥
no_goal_is_left_out c d x = (let y = list_is_posed_as_it_is c d [] x in cc y.1)
