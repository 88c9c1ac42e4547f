-- The rule that a line says.
use Rattle.std.proofs.Common.{◌≡◌, ℕ, ◌+◌, ◌<◌, List, [], ◌∷◌, ◌++◌, All, map, reverse, take, get_or, length, sym, ap, ◌∙◌}
use Rattle.std.proofs.lemmas.List.{map-append, take_more}
use Rattle.nts_model.specs.declared.labels.Sort.{Sort}
use Rattle.nts_model.specs.Terms.Trees.{Tree}
use Rattle.nts_store.specs.Growth.{tree_at, Extends}
use Rattle.nts_store.proofs.Growing.{Extends-trans}
use Rattle.nts_terms.specs.declared.handles.GenericArg.{GenericArg}
use Rattle.nts_terms.specs.declared.handles.Predicate.{Predicate}
use Rattle.nts_terms.specs.Kinds.{tree_of_clause}
use Rattle.nts_wording.specs.declared.build.BoundClause.{BoundClause}
use Rattle.nts_text.specs.declared.resolver.Resolved.{Resolved}
use Rattle.nts_wording.specs.declared.variables.LineVariables.{LineVariables}
use Rattle.nts_wording.specs.Meaning.{statements, AreSaid, States, AreConditions, predicate_tree, HasOwnPlaces, HasPlace, AreClausePositions, IsStatedRule}

-- what holds of the predicates holds of the conditions
pub conditions_said : (a ts : List Tree) (variables : LineVariables) (values : List GenericArg) (rs : List Resolved) (traits : List BoundClause) (ps : List Predicate)
    → AreSaid a variables values rs traits → Extends a ts
    → ((us : List Tree) → Extends ts us → map (λ p. tree_at us p.node) ps ≡ map predicate_tree (statements us traits))
    → AreConditions ts variables values rs ps
conditions_said a ts variables values rs traits ps said e stated = λ us later. stated us later ∙ ap (map predicate_tree) (said us (Extends-trans e later))

-- one condition more
pub stated_push : (mid ts : List Tree) (traits : List BoundClause) (i : ℕ) (d : BoundClause) (ps : List Predicate) (p : Predicate) → i < length traits
    → ((us : List Tree) → Extends mid us → map (λ q. tree_at us q.node) ps ≡ map predicate_tree (statements us (take i traits)))
    → Extends mid ts → States ts (get_or traits i d) p
    → (us : List Tree) → Extends ts us → map (λ q. tree_at us q.node) (ps ++ p ∷ []) ≡ map predicate_tree (statements us (take (i + 1) traits))
stated_push mid ts traits i d ps p lt h e states us later =
    let r : BoundClause = get_or traits i d in
    let parts : statements us (take (i + 1) traits) ≡ statements us (take i traits) ++ statements us (r ∷ []) = ap (statements us) (take_more traits i d lt) ∙ map-append _ (take i traits) (r ∷ []) in
    map-append (λ q. tree_at us q.node) ps (p ∷ []) ∙ ap (λ xs. xs ++ tree_at us p.node ∷ []) (h us (Extends-trans e later))
    ∙ ap (λ t. map predicate_tree (statements us (take i traits)) ++ t ∷ []) (states us later)
    ∙ sym (ap (map predicate_tree) parts ∙ map-append predicate_tree (statements us (take i traits)) (statements us (r ∷ [])))

-- the rule of the one predicate that the head says
pub rule_of : (a b ts : List Tree) (variables : LineVariables) (values : List GenericArg) (head body : List Resolved) (found : List BoundClause) (r : BoundClause) (fresh : List Sort) (conditions : List Predicate)
    → HasOwnPlaces variables → All (HasPlace variables) head × All (HasPlace variables) body → fresh ≡ variables.sorts.items → r.binds.items ≡ []
    → AreClausePositions ts variables.sorts.items values → AreSaid a variables values head found → found ≡ r ∷ [] → Extends a ts
    → AreConditions b variables values body conditions → Extends b ts
    → IsStatedRule ts head body fresh (tree_of_clause ts r.clause) conditions
rule_of a b ts variables values head body found r fresh conditions own placed sorts unbound positions said one e are f = record {
  variables = variables;
  values = values;
  own = own;
  placed = placed;
  sorts = sorts;
  positions = rw sorts positions;
  head = sym (said ts e) ∙ ap (statements ts) one ∙ ap (λ xs. record { binds = reverse xs; statement = tree_of_clause ts r.clause } ∷ []) unbound;
  body = are ts f;
}
