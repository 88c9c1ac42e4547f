-- Values applied to as many originals: what was chosen, and what follows once they were made equal.
use Rattle.std.proofs.Common.{◌≡◌, ℕ, ◌+◌, List, map, get_or, refl, subst, arith}
use Rattle.std.specs.Prelude.{All}
use Rattle.nts_model.specs.Terms.Trees.{Tree, empty, IsClosed}
use Rattle.nts_model.specs.Tables.Contents.{in_universe}
use Rattle.nts_model.specs.Answers.Applying.{IsProperContent, MakesEqual}
use Rattle.nts_model.specs.Answers.Responses.{RefusesResponse}
use Rattle.nts_theory.proofs.Responses.Applied.{FailsToEqual, AreKnownFilled, applied, refused}
use Rattle.nts_store.specs.Growth.{tree_at}
use Rattle.nts_store.specs.Formed.{AreFormed}
use Rattle.nts_terms.specs.declared.handles.GenericArg.{GenericArg}
use Rattle.nts_terms.specs.Handles.{HoldsArg}
use Rattle.nts_unify.specs.Entries.{moved}
use Rattle.nts_unify.specs.Lawful.{IsLawful-moved}
use Rattle.nts_theory.proofs.Responses.ChosenClosed.{chosen_records}
use Rattle.nts_unify.specs.Changing.{IsLater, AddsVisible}
use Rattle.nts_unify.specs.Reading.{content_of}
use Rattle.nts_table.specs.Tables.{Table, IsTable}
use Rattle.nts_table.proofs.TermTables.{proper_content, holds_terms}
use Rattle.nts_canonical.specs.declared.types.CanonicalVarKind.{CanonicalVarKind}
use Rattle.nts_canonical.specs.Forms.{kind_of_var, trees_of}
use Rattle.nts_canonical.specs.Building.{IsArgOf}
use Rattle.nts_response.specs.Applied.{IsFillable}
use Rattle.nts_response.specs.Instantiated.{values_alone, AreValuesFor, AreValuesEquated}
use Rattle.nts_response.specs.Replacing.{argument_value}
use Rattle.nts_response.specs.Placing.{ArePlaced}
use Rattle.nts_applying.proofs.Placed.{joins_since}
use Rattle.nts_response.proofs.Each.{same_views, values_kept}
use Rattle.nts_applying.proofs.MadeValues.{known_originals}
use Rattle.nts_applying.proofs.Chosen.{AreRegionsAt, regions_chosen, all_closed}
use Rattle.nts_applying.proofs.Readying.{fillable, values_known, values_over}
use Rattle.nts_applying.proofs.ApplySteps.{ChoseFor, originals_known, originals_closed, name_originals}

module _ (a b : List Tree) (t u : Table) (os vs : List GenericArg) (ks : List CanonicalVarKind) (m : ℕ) (chosen : List GenericArg) (formed : AreFormed a) (table : IsTable a t)
    (args : All (IsArgOf a t.entries) os) (closed : All (λ o. IsClosed (tree_at a o.node)) os) (fits : AreValuesFor a (trees_of a os) m ks vs) (chosen_so : ChoseFor a b t u os vs ks m chosen) where
  regions : AreRegionsAt (map kind_of_var ks) (trees_of b chosen)
  regions =
      regions_chosen (content_of a t.entries) (trees_of a vs) (trees_of a os) (originals_closed a t.entries os formed args closed) 0 (map kind_of_var ks) (trees_of b chosen)
      (in_universe (content_of a t.entries) (t.entries.universe + m)) (content_of b u.entries) (name_originals m (trees_of a os) ks fits.kinds) chosen_so.chooses

  closed_values : (j : ℕ) → IsClosed (get_or (trees_of b chosen) j empty)
  closed_values =
      all_closed (content_of a t.entries) (trees_of a vs) (trees_of a os) (originals_closed a t.entries os formed args closed) 0 (map kind_of_var ks) (trees_of b chosen)
      (in_universe (content_of a t.entries) (t.entries.universe + m)) (content_of b u.entries) chosen_so.chooses

  -- the values can be filled
  pub values_ready : All (λ v. IsFillable b (content_of b u.entries) (trees_of b chosen) v.node) vs
  values_ready = λ k d l.
      (let held = fits.held k d l in
      fillable a b (content_of b u.entries) ks (trees_of b chosen) formed chosen_so.extends chosen_so.sorts regions (λ j. known_originals b u.entries (content_of b u.entries) chosen j (λ z p. p) chosen_so.args) closed_values _ held.within (fits.values k d l))

  filled_known : AreKnownFilled (content_of b u.entries) (trees_of b chosen) (trees_of a vs)
  filled_known =
      values_known a b (content_of b u.entries) ks (trees_of b chosen) formed chosen_so.extends chosen_so.sorts regions (λ j. known_originals b u.entries (content_of b u.entries) chosen j (λ z p. p) chosen_so.args) closed_values vs fits.held fits.values

  moved_proper : IsProperContent (in_universe (content_of a t.entries) (t.entries.universe + m))
  moved_proper = proper_content {ts = a} {t = record t { entries = moved t.entries (t.entries.universe + m) }} (record { now = IsLawful-moved a t.entries (t.entries.universe + m) (omega arith) table.now; saved = table.saved })

  originals_same : trees_of b os ≡ trees_of a os
  originals_same = same_views HoldsArg argument_value values_kept a b os (λ k d l. (let y = args k d l in y.holds)) chosen_so.extends

  values_same : trees_of b vs ≡ trees_of a vs
  values_same = same_views HoldsArg argument_value values_kept a b vs fits.held chosen_so.extends

  -- they could not be made equal
  pub values_refused : FailsToEqual (trees_of b chosen) (trees_of b vs) (trees_of b os) (content_of b u.entries) → RefusesResponse (content_of a t.entries) (trees_of a os) (values_alone (trees_of a vs) (map kind_of_var ks) m)
  values_refused fails =
      refused (content_of a t.entries) (content_of b u.entries) (trees_of a os) (trees_of b chosen) (values_alone (trees_of a vs) (map kind_of_var ks) m) (proper_content table) moved_proper (originals_known a t.entries os args)
      (values_over a _ vs formed fits.held fits.values) chosen_so.chooses filled_known
      (subst (λ z. FailsToEqual (trees_of b chosen) (trees_of a vs) z (content_of b u.entries)) originals_same
      (subst (λ z. FailsToEqual (trees_of b chosen) z (trees_of b os) (content_of b u.entries)) values_same fails))

  -- choosing records nothing
  recorded_nothing : (content_of b u.entries).constraints ≡ (content_of a t.entries).constraints
  recorded_nothing = chosen_records (content_of a t.entries) (trees_of a vs) (trees_of a os) 0 (map kind_of_var ks) (trees_of b chosen) (in_universe (content_of a t.entries) (t.entries.universe + m)) (content_of b u.entries) chosen_so.chooses

  -- they were made equal
  pub values_applied : (d : List Tree) (v : Table) → AreFormed d → IsTable d v → IsLater (content_of b u.entries) (content_of d v.entries) → MakesEqual (trees_of b chosen) (trees_of b vs) (trees_of b os) (content_of b u.entries) (content_of d v.entries)
      → AreValuesEquated (content_of a t.entries) (content_of d v.entries) (trees_of a os) (values_alone (trees_of a vs) (map kind_of_var ks) m) (trees_of b chosen)
  values_applied d v formed_later table_later later equal =
      let makes : MakesEqual (trees_of b chosen) (trees_of a vs) (trees_of a os) (content_of b u.entries) (content_of d v.entries) =
      subst (λ z. MakesEqual (trees_of b chosen) (trees_of a vs) z (content_of b u.entries) (content_of d v.entries)) originals_same
      (subst (λ z. MakesEqual (trees_of b chosen) z (trees_of b os) (content_of b u.entries) (content_of d v.entries)) values_same equal) in
      record {
        applies = applied (content_of a t.entries) (content_of b u.entries) (content_of d v.entries) (content_of d v.entries) (trees_of a os) (trees_of b chosen) (values_alone (trees_of a vs) (map kind_of_var ks) m) (proper_content table) moved_proper (originals_known a t.entries os args)
            (values_over a _ vs formed fits.held fits.values) tt chosen_so.chooses filled_known makes tt refl (holds_terms formed_later table_later);
        is = refl;
        shares = joins_since (ArePlaced (map kind_of_var ks) (trees_of b chosen)) (content_of a t.entries) (content_of b u.entries) (content_of d v.entries) chosen_so.placed later.subs;
        shows = record { equal = (content_of d v.entries).constraints; related = subst (λ xs. AddsVisible xs (content_of d v.entries).constraints) recorded_nothing later.visible; seen = refl };
      }
