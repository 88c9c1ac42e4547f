-- A response applied to a table: what was chosen, and what follows once it was put into the table.
use Rattle.std.proofs.Common.{◌≡◌, ⊎_elim, ℕ, suc, ◌+◌, List, [], ◌∷◌, map, get_or, sym, subst, arith}
use Rattle.std.specs.Prelude.{All, Bool}
use Rattle.nts_model.specs.Terms.Trees.{Tree, IsClosed}
use Rattle.nts_model.specs.Tables.Contents.{in_universe}
use Rattle.nts_model.specs.Tables.Resolving.{Knows}
use Rattle.nts_model.specs.Answers.Applying.{IsProperContent, ChoosesAll, AreKnownTrees}
use Rattle.nts_model.specs.Answers.Responses.{Findings, RefusesResponse}
use Rattle.nts_model.specs.Terms.Substitutions.{filled}
use Rattle.nts_model.specs.Tables.Passing.{BringsOnly}
use Rattle.nts_model.proofs.Tables.Bringing.{brings-trans, only-trans, only-none}
use Rattle.nts_theory.proofs.Responses.ChosenLabels.{brings-in_universe, chosen_brings, chosen_passes}
use Rattle.nts_theory.proofs.Responses.Answering.{AllTrees}
use Rattle.nts_theory.proofs.Responses.Applied.{FailsToEqual, applied, refused}
use Rattle.nts_model.proofs.Tables.Slots.{Knows-kept}
use Rattle.nts_store.specs.Growth.{tree_at, AllIn, Extends}
use Rattle.nts_store.specs.Formed.{AreFormed}
use Rattle.nts_canonical.specs.nts_folding.specs.FoldLaws.{list_holds}
use Rattle.nts_terms.specs.declared.cx.Cx.{Cx}
use Rattle.nts_terms.specs.declared.handles.GenericArg.{GenericArg}
use Rattle.nts_terms.specs.declared.handles.Goal.{Goal}
use Rattle.nts_terms.specs.Handles.{HoldsArg}
use Rattle.nts_candidates.specs.nts_certainty.specs.declared.sources.GoalSource.{GoalSource}
use Rattle.nts_unify.specs.Entries.{Entries, moved}
use Rattle.nts_theory.proofs.Responses.ChosenClosed.{chosen_records}
use Rattle.nts_unify.specs.Changing.{AddsVisible}
use Rattle.nts_unify.specs.Reading.{content_of}
use Rattle.nts_unify.specs.Lawful.{IsLawful-moved}
use Rattle.nts_table.specs.Tables.{Table, IsTable}
use Rattle.nts_table.proofs.TermTables.{proper_content, holds_terms}
use Rattle.nts_candidates.specs.Offered.{hidden_of}
use Rattle.nts_canonical.specs.declared.types.Canonical.{Canonical}
use Rattle.nts_canonical.specs.declared.types.CanonicalVarKind.{CanonicalVarKind}
use Rattle.nts_canonical.specs.Forms.{kind_of_var, trees_of, IsHidden}
use Rattle.nts_canonical.specs.Building.{IsArgOf}
use Rattle.nts_response.specs.declared.types.Response.{Response}
use Rattle.nts_response.specs.Forms.{findings_at, response_at, HoldsResponse, StoreHoldsConstraint, HoldsOpen, recorded_at, premise_at}
use Rattle.nts_response.specs.Replacing.{argument_value}
use Rattle.nts_response.specs.Applied.{StepKeeps, content_within, PositionsHaveSorts}
use Rattle.nts_response.specs.Applicable.{IsKindFor, response_sorts, IsApplicable, IsResponseApplied, IsPut}
use Rattle.nts_response.specs.Registered.{TakesAll}
use Rattle.nts_response.specs.Placing.{ArePlaced, JoinsNew}
use Rattle.nts_applying.proofs.Placed.{placed_moved, joins_since}
use Rattle.nts_response.proofs.Each.{same_views, values_kept, constraints_kept, hidden_kept, goals_kept, response_kept}
use Rattle.nts_applying.proofs.LabelSteps.{among_either, only_by, values_pass, sides_pass}
use Rattle.nts_applying.proofs.Stepping.{arg_later}
use Rattle.nts_applying.proofs.MadeValues.{known_originals}
use Rattle.nts_applying.proofs.Chosen.{IsClosedTerm, NameOriginals, regions_chosen, all_closed}
use Rattle.nts_applying.proofs.Readying.{CanPut, can_put, values_over, sides_over}

-- values were chosen for positions of these kinds, where the values vs are applied to the originals os and m universes were
-- made
pub record ChoseFor (a b : List Tree) (t u : Table) (os vs : List GenericArg) (ks : List CanonicalVarKind) (m : ℕ) (chosen : List GenericArg) : Type 0 where
  pub chooses : ChoosesAll (content_of a t.entries) (trees_of a vs) (trees_of a os) 0 (map kind_of_var ks) (trees_of b chosen) (in_universe (content_of a t.entries) (t.entries.universe + m)) (content_of b u.entries)
  pub args : All (IsArgOf b u.entries) chosen
  pub placed : JoinsNew (ArePlaced (map kind_of_var ks) (trees_of b chosen)) (content_of a t.entries) (content_of b u.entries)
  pub sorts : PositionsHaveSorts (map kind_of_var ks) (trees_of b chosen)
  pub extends : Extends a b

-- .. of the response r
abbrev pub Chose : List Tree → List Tree → Table → Table → List GenericArg → Canonical Response → List GenericArg → Type 0
Chose a b t u os r chosen = ChoseFor a b t u os r.value.var_values.items r.var_kinds.items r.max_universe chosen

pub chose : (a b : List Tree) (t w u : Table) (os vs : List GenericArg) (ks : List CanonicalVarKind) (m : ℕ) (chosen : List GenericArg) (p : ℕ) → p ≡ t.entries.universe → w.entries ≡ moved t.entries (t.entries.universe + m)
    → ChoosesAll (content_within a w.entries p) (trees_of a vs) (trees_of a os) 0 (map kind_of_var ks) (trees_of b chosen) (content_of a w.entries) (content_of b u.entries)
    → JoinsNew (ArePlaced (map kind_of_var ks) (trees_of b chosen)) (content_of a w.entries) (content_of b u.entries)
    → All (IsArgOf b u.entries) chosen → PositionsHaveSorts (map kind_of_var ks) (trees_of b chosen) → Extends a b → ChoseFor a b t u os vs ks m chosen
chose a b t w u os vs ks m chosen p q e h placed args sorts up =
    let xs = trees_of a vs in
    let kinds = map kind_of_var ks in
    record {
      chooses = subst (λ (z : Entries). ChoosesAll (content_within a z t.entries.universe) xs (trees_of a os) 0 kinds (trees_of b chosen) (content_of a z) (content_of b u.entries)) e
          (subst (λ z. ChoosesAll (content_within a w.entries z) xs (trees_of a os) 0 kinds (trees_of b chosen) (content_of a w.entries) (content_of b u.entries)) q h);
      args = args;
      placed = placed_moved (ArePlaced kinds (trees_of b chosen)) (content_of a t.entries) (content_of b u.entries) (t.entries.universe + m)
          (subst (λ (z : Entries). JoinsNew (ArePlaced kinds (trees_of b chosen)) (content_of a z) (content_of b u.entries)) e placed);
      sorts = sorts;
      extends = up;
    }

-- the originals are arguments of the table later, and so are their nodes of the store
pub args_later : (a b : Cx) (t w u : Table) (os : List GenericArg) (m : ℕ) → w.entries ≡ moved t.entries (t.entries.universe + m) → StepKeeps a b w u → All (IsArgOf a.nodes t.entries) os → All (IsArgOf b.nodes u.entries) os
args_later a b t w u os m e s h = λ k d l.
    (let y = h k d l in
    let known : Knows (content_of a.nodes (moved t.entries (t.entries.universe + m))) (tree_at a.nodes (get_or os k d).node) =
    Knows-kept (content_of a.nodes t.entries) (in_universe (content_of a.nodes t.entries) (t.entries.universe + m)) (tree_at a.nodes (get_or os k d).node) (record { grows = omega arith; kinds = λ n j q. q }) y.known in
    arg_later s (record { holds = y.holds; known = subst (λ (z : Entries). Knows (content_of a.nodes z) (tree_at a.nodes (get_or os k d).node)) (sym e) known }))

pub nodes_in : (ts : List Tree) (e : Entries) (xs : List GenericArg) → All (IsArgOf ts e) xs → AllIn ts (map (λ x. x.node) xs)
nodes_in ts e [] h = tt
nodes_in ts e (x ∷ xs) h = ((let y = h 0 x (omega arith) in let held = y.holds in held.within), nodes_in ts e xs (λ k d l. h (suc k) d (omega (arith, l))))

-- the originals as trees
pub originals_known : (ts : List Tree) (e : Entries) (os : List GenericArg) → All (IsArgOf ts e) os → AreKnownTrees (content_of ts e) (trees_of ts os)
originals_known ts e [] h = tt
originals_known ts e (x ∷ xs) h = ((let y = h 0 x (omega arith) in y.known), originals_known ts e xs (λ k d l. h (suc k) d (omega (arith, l))))

pub originals_closed : (ts : List Tree) (e : Entries) (os : List GenericArg) → AreFormed ts → All (IsArgOf ts e) os → All (λ o. IsClosed (tree_at ts o.node)) os → AllTrees (IsClosedTerm (content_of ts e)) (trees_of ts os)
originals_closed ts e [] f h c = tt
originals_closed ts e (x ∷ xs) f h c =
    let y = h 0 x (omega arith) in
    let held = y.holds in (
      record { knows = y.known; formed = f x.node held.within; closed = c 0 x (omega arith) },
      originals_closed ts e xs f (λ k d l. h (suc k) d (omega (arith, l))) (λ k d l. c (suc k) d (omega (arith, l))),
    )

pub name_originals : (m : ℕ) (os : List Tree) (ks : List CanonicalVarKind) → All (λ k. IsKindFor m os (kind_of_var k)) ks → NameOriginals os (map kind_of_var ks)
name_originals m os [] h = tt
name_originals m os (k ∷ ks) h = ((let y = h 0 k (omega arith) in y.original), name_originals m os ks (λ j d l. h (suc j) d (omega (arith, l))))

module _ (a b : List Tree) (t u : Table) (os : List GenericArg) (r : Canonical Response) (chosen : List GenericArg) (formed : AreFormed a) (table : IsTable a t)
    (args : All (IsArgOf a t.entries) os) (closed : All (λ o. IsClosed (tree_at a o.node)) os) (fits : IsApplicable a (trees_of a os) r) (chosen_so : Chose a b t u os r chosen) where
  -- what was chosen can be put in
  pub chosen_ready : CanPut a b (content_of b u.entries) (trees_of b chosen) r
  chosen_ready =
      let h = fits.holds in
      can_put a b (content_of b u.entries) (trees_of a os) (trees_of b chosen) r formed chosen_so.extends fits chosen_so.sorts
      (regions_chosen (content_of a t.entries) (trees_of a r.value.var_values.items) (trees_of a os) (originals_closed a t.entries os formed args closed) 0 (map kind_of_var r.var_kinds.items) (trees_of b chosen)
      (in_universe (content_of a t.entries) (t.entries.universe + r.max_universe)) (content_of b u.entries) (name_originals r.max_universe (trees_of a os) r.var_kinds.items fits.kinds) chosen_so.chooses)
      (λ j. known_originals b u.entries (content_of b u.entries) chosen j (λ z k. k) chosen_so.args)
      (all_closed (content_of a t.entries) (trees_of a r.value.var_values.items) (trees_of a os) (originals_closed a t.entries os formed args closed) 0 (map kind_of_var r.var_kinds.items) (trees_of b chosen)
      (in_universe (content_of a t.entries) (t.entries.universe + r.max_universe)) (content_of b u.entries) chosen_so.chooses)
      (response_kept a b r.value chosen_so.extends h)

  -- the content with its new universes
  moved_proper : IsProperContent (in_universe (content_of a t.entries) (t.entries.universe + r.max_universe))
  moved_proper = proper_content {ts = a} {t = record t { entries = moved t.entries (t.entries.universe + r.max_universe) }} (record { now = IsLawful-moved a t.entries (t.entries.universe + r.max_universe) (omega arith) table.now; saved = table.saved })

  -- choosing records nothing
  chosen_constraints : (let c = content_of b u.entries in c.constraints) ≡ (let c = content_of a t.entries in c.constraints)
  chosen_constraints = chosen_records (content_of a t.entries) (trees_of a r.value.var_values.items) (trees_of a os) 0 (map kind_of_var r.var_kinds.items) (trees_of b chosen) (in_universe (content_of a t.entries) (t.entries.universe + r.max_universe)) (content_of b u.entries) chosen_so.chooses

  -- what the response found, and the originals, in the store after choosing
  found_same : findings_at b r.value ≡ findings_at a r.value
  found_same =
      let h = fits.holds in
      let x = r.value.external_constraints in
      cc (
        same_views HoldsArg argument_value values_kept a b r.value.var_values.items h.values chosen_so.extends,
        same_views StoreHoldsConstraint recorded_at constraints_kept a b x.region_constraints.items h.constraints chosen_so.extends,
        same_views IsHidden hidden_of hidden_kept a b x.opaque_types.items h.hidden chosen_so.extends,
        same_views HoldsOpen premise_at goals_kept a b x.normalization_nested_goals.items h.open_goals chosen_so.extends,
      )

  originals_same : trees_of b os ≡ trees_of a os
  originals_same = same_views HoldsArg argument_value values_kept a b os (λ k d l. (let y = args k d l in y.holds)) chosen_so.extends

  -- it was refused
  pub refuses : FailsToEqual (trees_of b chosen) (trees_of b r.value.var_values.items) (trees_of b os) (content_of b u.entries) → RefusesResponse (content_of a t.entries) (trees_of a os) (response_at a r)
  refuses fails =
      let h = fits.holds in
      let k = chosen_ready in
      refused (content_of a t.entries) (content_of b u.entries) (trees_of a os) (trees_of b chosen) (response_at a r) (proper_content table) moved_proper (originals_known a t.entries os args)
      (values_over a _ r.value.var_values.items formed h.values fits.values) chosen_so.chooses k.values
      (subst (λ z. FailsToEqual (trees_of b chosen) (trees_of a r.value.var_values.items) z (content_of b u.entries)) originals_same
      (subst (λ (z : Findings). FailsToEqual (trees_of b chosen) z.values (trees_of b os) (content_of b u.entries)) found_same fails))

  -- it was put into the table
  pub is_applied : (d : List Tree) (v : Table) (visible : Bool) (goals : List (GoalSource × Goal)) → AreFormed d → IsTable d v → u.entries.hidden ≡ t.entries.hidden
      → IsPut b d u.entries v.entries (trees_of b os) (trees_of b chosen) (findings_at b r.value) visible goals → IsResponseApplied a d t.entries v.entries (trees_of a os) (response_at a r) visible goals
  is_applied d v visible goals formed_later table_later hidden put_there =
      let h = fits.holds in
      let k = chosen_ready in
      let x = r.value.external_constraints in
      let put : IsPut b d u.entries v.entries (trees_of a os) (trees_of b chosen) (findings_at a r.value) visible goals =
      subst (λ z. IsPut b d u.entries v.entries z (trees_of b chosen) (findings_at a r.value) visible goals) originals_same
      (subst (λ z. IsPut b d u.entries v.entries (trees_of b os) (trees_of b chosen) z visible goals) found_same put_there) in
      record {
        applies = applied (content_of a t.entries) (content_of b u.entries) put.equal (content_of d v.entries) (trees_of a os) (trees_of b chosen) (response_at a r) (proper_content table) moved_proper (originals_known a t.entries os args)
            (values_over a _ r.value.var_values.items formed h.values fits.values) (sides_over a _ x.region_constraints.items formed h.constraints fits.constraints) chosen_so.chooses k.values put.makes k.sides put.records (holds_terms formed_later table_later);
        hidden_types = put.hidden_types;
        hidden = put.hidden;
        registers = subst (λ z. TakesAll d (content_of d v.entries) z put.hidden_types v.entries.hidden) hidden put.registers;
        open_goals = put.open_goals;
        shares = joins_since (ArePlaced (map kind_of_var r.var_kinds.items) (trees_of b chosen)) (content_of a t.entries) (content_of b u.entries) (content_of d v.entries) chosen_so.placed put.joins;
        held = put.held;
        known = put.known;
        shows = record { equal = let c = put.equal in c.constraints; related = subst (λ xs. AddsVisible xs (let c = put.equal in c.constraints)) chosen_constraints put.related; seen = put.seen };
      }

  -- it brought no labels but those of the originals and of queries
  pub applied_labels : (d : List Tree) (v : Table) (visible : Bool) (goals : List (GoalSource × Goal)) → IsPut b d u.entries v.entries (trees_of b os) (trees_of b chosen) (findings_at b r.value) visible goals → BringsOnly (trees_of a os) (content_of a t.entries) (content_of d v.entries)
  applied_labels d v visible goals put_there =
      let x = r.value.external_constraints in
      let put : IsPut b d u.entries v.entries (trees_of a os) (trees_of b chosen) (findings_at a r.value) visible goals =
      subst (λ z. IsPut b d u.entries v.entries z (trees_of b chosen) (findings_at a r.value) visible goals) originals_same
      (subst (λ z. IsPut b d u.entries v.entries (trees_of b os) (trees_of b chosen) z visible goals) found_same put_there) in
      let c = content_of a t.entries in
      let moved_there = in_universe c (t.entries.universe + r.max_universe) in
      let vs = trees_of a r.value.var_values.items in
      let ks = map kind_of_var r.var_kinds.items in
      let xs = trees_of b chosen in
      only-trans (only-none (trees_of a os) (brings-trans (brings-in_universe c (t.entries.universe + r.max_universe)) (chosen_brings c vs (trees_of a os) 0 ks xs moved_there (content_of b u.entries) chosen_so.chooses)))
      (only-trans
      (only_by put.equal_labels (λ P q g z i. ⊎_elim
      (λ j. values_pass P q a (response_sorts r) xs (chosen_passes P q c vs (trees_of a os) 0 ks xs moved_there (content_of b u.entries) g chosen_so.chooses) r.value.var_values.items fits.values z j)
      (λ j. g z j) (among_either (map (filled xs) vs) (trees_of a os) z i)))
      (only_by put.recorded_labels (λ P q g z i. sides_pass P q a (response_sorts r) xs (chosen_passes P q c vs (trees_of a os) 0 ks xs moved_there (content_of b u.entries) g chosen_so.chooses) x.region_constraints.items fits.constraints z i)))
