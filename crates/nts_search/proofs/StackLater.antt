-- A stack in a store that has grown.
use Rattle.std.proofs.Common.{◌≡◌, List, [], ◌∷◌, Option, Some, None, map, refl}
use Rattle.std.specs.Prelude.{reverse}
use Rattle.nts_model.specs.Terms.Trees.{Tree}
use Rattle.nts_store.specs.Growth.{Extends}
use Rattle.nts_store.proofs.Growing.{Extends-trans}
use Rattle.nts_response.specs.nts_candidates.specs.Offered.{path_kind_of, hidden_of}
use Rattle.nts_response.specs.nts_canonical.specs.declared.types.Canonical.{Canonical}
use Rattle.nts_response.specs.nts_canonical.specs.declared.types.CanonicalInput.{CanonicalInput}
use Rattle.nts_response.specs.nts_canonical.specs.Forms.{form_of, kind_of_var, IsHidden, HoldsQuery}
use Rattle.nts_response.specs.nts_canonical.specs.Folds.{HoldsQuery-kept}
use Rattle.nts_response.specs.nts_canonical.proofs.PairLists.{hidden_row-kept}
use Rattle.nts_terms.specs.Handles.{HoldsArg}
use Rattle.nts_response.specs.declared.types.Response.{Response}
use Rattle.nts_response.specs.Forms.{response_at, recorded_at, premise_at, StoreHoldsConstraint, HoldsOpen, HoldsResponse}
use Rattle.nts_response.specs.Replacing.{argument_value}
use Rattle.nts_response.proofs.Each.{same_views, values_kept, constraints_kept, hidden_kept, goals_kept}
use Rattle.nts_response.proofs.Each.{response_kept}
use Rattle.nts_search.specs.declared.stack.StackEntry.{StackEntry}
use Rattle.nts_search.specs.declared.stack.SearchGraph.{SearchGraph}
use Rattle.nts_search.specs.Searching.{answer_at, certainty_in, entry_at, entries_at, HoldsAnswer, HoldsEntry, IsStack}
use Rattle.nts_search.proofs.Each.{Each, each_of, all_of, each_by, each_reversed}

-- a response stays the same
pub response_same : (a b : List Tree) (r : Canonical Response) → Extends a b → HoldsResponse a r.value → response_at b r ≡ response_at a r
response_same a b r e h =
    let v = r.value in
    let x = v.external_constraints in
    let values = same_views HoldsArg argument_value values_kept a b v.var_values.items h.values e in
    let constraints = same_views StoreHoldsConstraint recorded_at constraints_kept a b x.region_constraints.items h.constraints e in
    let hidden = same_views IsHidden hidden_of hidden_kept a b x.opaque_types.items h.hidden e in
    let goals = same_views HoldsOpen premise_at goals_kept a b x.normalization_nested_goals.items h.open_goals e in
    λ i. record {
      findings = record { values = values i; constraints = constraints i; hidden = hidden i; open_goals = goals i };
      kinds = map kind_of_var r.var_kinds.items;
      max_universe = r.max_universe;
    }

-- .. and so does an input
pub form_same : (a b : List Tree) (i : CanonicalInput) → Extends a b → HoldsQuery a i.canonical.value → form_of b i ≡ form_of a i
form_same a b i e h =
    let q = i.canonical.value in
    let environment = e.kept q.goal.param_env.node h.environment.within in
    let predicate = e.kept q.goal.predicate.node h.predicate.within in
    let hidden = hidden_row-kept a b q.predefined_opaques_in_body.items h.hidden e in
    λ j. record { environment = environment j; predicate = predicate j; hidden = hidden j; kinds = map kind_of_var i.canonical.var_kinds.items }

pub answer_kept : (a b : List Tree) (o : Option (Canonical Response)) → Extends a b → HoldsAnswer a o → HoldsAnswer b o
answer_kept a b None e h = tt
answer_kept a b (Some r) e h = response_kept a b r.value e h

answer_same : (a b : List Tree) (i : CanonicalInput) (o : Option (Canonical Response)) → Extends a b → HoldsAnswer a o → answer_at b i o ≡ answer_at a i o
answer_same a b i None e h = refl
answer_same a b i (Some r) e h = response_same a b r e h

pub held_later : (a b : List Tree) (x : StackEntry) → Extends a b → HoldsEntry a x → HoldsEntry b x
held_later a b x e h =
    record { input = HoldsQuery-kept a b x.input.canonical.value h.input e; provisional = answer_kept a b x.provisional e h.provisional }

pub entry_same : (a b : List Tree) (x : StackEntry) → Extends a b → HoldsEntry a x → entry_at b x ≡ entry_at a x
entry_same a b x e h =
    let input = form_same a b x.input e h.input in
    let response = answer_same a b x.input x.provisional e h.provisional in
    λ i. record { input = input i; kind = path_kind_of x.step_kind; response = response i; certainty = certainty_in x.provisional; is_read = x.is_read }

entries_same : (a b : List Tree) (xs : List StackEntry) → Extends a b → Each (HoldsEntry a) xs → map (entry_at b) xs ≡ map (entry_at a) xs
entries_same a b [] e h = refl
entries_same a b (x ∷ xs) e h = let one = entry_same a b x e h.0 in let more = entries_same a b xs e h.1 in λ i. one i ∷ more i

-- a stack of a store is one of a later store, of the same entries
pub IsStack-later : (ts us : List Tree) (g : SearchGraph) → Extends ts us → IsStack ts g → IsStack us g
IsStack-later ts us g e h =
    record {
      held = all_of (HoldsEntry us) g.stack.items (each_by (HoldsEntry ts) (HoldsEntry us) (λ x. held_later ts us x e) g.stack.items (each_of (HoldsEntry ts) g.stack.items h.held));
      index = h.index;
      counted = h.counted;
      nested = h.nested;
    }

pub entries_kept : (ts us : List Tree) (g : SearchGraph) → Extends ts us → IsStack ts g → entries_at us g ≡ entries_at ts g
entries_kept ts us g e h =
    entries_same ts us (reverse g.stack.items) e (each_reversed (HoldsEntry ts) g.stack.items (each_of (HoldsEntry ts) g.stack.items h.held))

-- what stays while the store grows, for proofs by a tactic
pub ruleset later = (IsStack-later, held_later, answer_kept, HoldsQuery-kept, Extends-trans)
