-- A state put into a table, after new originals were made for the values that had none.
use Rattle.std.proofs.Common.{◌≡◌, ℕ, zero, suc, ◌≤◌, List, [], ◌∷◌, ◌++◌, map, length, drop, get_or, Option, None, refl, sym, ap, subst, ◌∙◌, arith}
use Rattle.std.specs.Prelude.{◌↔◌, All, Bool, IsTrue}
use Rattle.std.proofs.lemmas.List.{drop-map, map-append, length-map, length-append, length-drop}
use Rattle.nts_model.specs.declared.labels.Sort.{Sort}
use Rattle.nts_model.specs.Terms.Trees.{Tree, NodeKind, empty, kind_of, IsClosed}
use Rattle.nts_model.specs.Tables.Contents.{Content}
use Rattle.nts_model.specs.Canonical.Inputs.{PositionKind, type_variable, integer_variable, float_variable, const_variable, region_variable, placeholder}
use Rattle.nts_model.specs.Derivations.Handlers.{NamesFresh}
use Rattle.nts_model.specs.Terms.Substitutions.{Occurs, filled}
use Rattle.nts_model.specs.Answers.Responses.{RefusesResponse}
use Rattle.nts_model.specs.Terms.Scoping.{IsWellBound}
use Rattle.nts_store.specs.declared.nodes.NodeId.{NodeId}
use Rattle.nts_store.specs.Growth.{IsIn, Extends}
use Rattle.nts_store.proofs.Growing.{Extends-trans}
use Rattle.nts_terms.specs.declared.cx.Cx.{Cx}
use Rattle.nts_terms.specs.declared.handles.GenericArg.{GenericArg}
use Rattle.nts_terms.specs.Handles.{HoldsArg}
use Rattle.nts_unify.specs.Reading.{content_of}
use Rattle.nts_unify.specs.Lawful.{content_of-extended}
use Rattle.nts_table.specs.Tables.{Table, IsTable}
use Rattle.nts_canonical.specs.declared.types.Canonical.{Canonical}
use Rattle.nts_canonical.specs.Forms.{kind_of_var, trees_of}
use Rattle.nts_canonical.specs.Building.{IsArgOf}
use Rattle.nts_canonical.specs.Folds.{AreHeld-kept}
use Rattle.nts_response.specs.declared.types.State.{State}
use Rattle.nts_response.specs.Applied.{StepKeeps, NamesOriginal}
use Rattle.nts_response.specs.Applicable.{IsOverSorts, IsKindFor}
use Rattle.nts_response.specs.OverSorts.{IsArgIn}
use Rattle.nts_response.specs.States.{state_at}
use Rattle.nts_response.specs.Instantiated.{values_alone, answer_of, missing, MakesLike, AddsMissing, AreValuesFor, AreValuesEquated, state_sorts, IsInstantiable, IsInstantiated, RefusesState}
use Rattle.nts_response.specs.Placing.{JoinsBy, PlacedOrOne}
use Rattle.nts_response.specs.Replacing.{argument_value}
use Rattle.nts_response.proofs.Each.{same_views, values_kept}
use Rattle.nts_applying.proofs.MissingSteps.{all_behind, kinds_like}
use Rattle.nts_response.proofs.StateFits.{missing_trees}

-- originals of the same kinds are named alike
abbrev kind_or : List (Option NodeKind) → ℕ → Option NodeKind
kind_or [] n = None
kind_or (k ∷ ks) zero = k
kind_or (k ∷ ks) (suc n) = kind_or ks n

kind_there : (xs : List Tree) (n : ℕ) → kind_of (get_or xs n empty) ≡ kind_or (map kind_of xs) n
kind_there [] n = refl
kind_there (x ∷ xs) zero = refl
kind_there (x ∷ xs) (suc n) = kind_there xs n

names_alike : (xs ys : List Tree) (k : PositionKind) → map kind_of ys ≡ map kind_of xs → NamesOriginal xs k → NamesOriginal ys k
names_alike xs ys (type_variable u r) e h = tt
names_alike xs ys integer_variable e h = tt
names_alike xs ys float_variable e h = tt
names_alike xs ys (const_variable u) e h = tt
names_alike xs ys (region_variable u) e h = tt
names_alike xs ys (placeholder s zero n) e h = kind_there ys n ∙ ap (λ z. kind_or z n) e ∙ sym (kind_there xs n) ∙ h
names_alike xs ys (placeholder s (suc u) n) e h = tt

like_long : (vs ts : List Tree) (c d : Content) → MakesLike vs ts c d → length ts ≡ length vs
like_long [] [] c d h = refl
like_long [] (t ∷ ts) c d h = absurd h
like_long (v ∷ vs) [] c d h = absurd h
like_long (v ∷ vs) (t ∷ ts) c d (e, one, rest) = ap suc (like_long vs ts e d rest)

over_later : (a b : List Tree) (ss : List Sort) (t : NodeId) → IsIn a t → Extends a b → IsOverSorts a ss t → IsOverSorts b ss t
over_later a b ss t w e h =
    let same = e.kept t w in
    record { names = subst (NamesFresh ss) (sym same) h.names; leaves = λ l o. h.leaves l (subst (Occurs l) same o); closed = subst IsClosed (sym same) h.closed; well_bound = subst IsWellBound (sym same) h.well_bound }

-- the trees of the missing values
module _ {T : Type 0} (a b : Cx) (t u : Table) (os new : List GenericArg) (s : Canonical (State T)) (keeps : StepKeeps a b t u) (args : All (IsArgOf a.nodes t.entries) os) (fits : IsInstantiable a.nodes (trees_of a.nodes os) s)
    (m : AddsMissing a b t u os (drop (length os) s.value.var_values.items) new) where
  -- the originals, new ones too
  pub lengthened : trees_of b.nodes new ≡ trees_of a.nodes os ++ trees_of b.nodes m.fresh
  lengthened =
      let g = keeps.grows in
      ap (trees_of b.nodes) m.is ∙ map-append (argument_value b.nodes) os m.fresh ∙ ap (λ z. z ++ trees_of b.nodes m.fresh) (same_views HoldsArg argument_value values_kept a.nodes b.nodes os (λ k d l. (let x = args k d l in x.holds)) g.extends)

  pub makes_missing : MakesLike (missing (trees_of a.nodes os) (trees_of a.nodes s.value.var_values.items)) (trees_of b.nodes m.fresh) (content_of a.nodes t.entries) (content_of b.nodes u.entries)
  makes_missing = subst (λ z. MakesLike z (trees_of b.nodes m.fresh) (content_of a.nodes t.entries) (content_of b.nodes u.entries)) (sym (missing_trees a.nodes os s.value.var_values.items)) m.makes

  same_kinds : map kind_of (trees_of b.nodes new) ≡ map kind_of (trees_of a.nodes os ++ missing (trees_of a.nodes os) (trees_of a.nodes s.value.var_values.items))
  same_kinds =
      let vs = missing (trees_of a.nodes os) (trees_of a.nodes s.value.var_values.items) in
      ap (map kind_of) lengthened ∙ map-append kind_of (trees_of a.nodes os) (trees_of b.nodes m.fresh)
      ∙ ap (λ z. map kind_of (trees_of a.nodes os) ++ z) (kinds_like vs (trees_of b.nodes m.fresh) (content_of a.nodes t.entries) (content_of b.nodes u.entries) makes_missing) ∙ sym (map-append kind_of (trees_of a.nodes os) vs)

  -- the values can be applied to them
  pub values_for : AreValuesFor b.nodes (trees_of b.nodes new) s.max_universe s.var_kinds.items s.value.var_values.items
  values_for =
      let g = keeps.grows in
      let vs = s.value.var_values.items in
      let held = fits.held in
      let long = fits.long in
      let os_long = length-map os (argument_value a.nodes) in
      let fresh_long = like_long (trees_of a.nodes (drop (length os) vs)) (trees_of b.nodes m.fresh) (content_of a.nodes t.entries) (content_of b.nodes u.entries) m.makes in
      let values_long = length-map (drop (length os) vs) (argument_value a.nodes) in
      let dropped = length-drop (length os) vs in
      let both = length-append (trees_of a.nodes os) (trees_of b.nodes m.fresh) in
      let all = ap length lengthened in
      record {
        held = AreHeld-kept a.nodes b.nodes vs held g.extends;
        kinds = λ k d l. (let x = fits.kinds k d l in record { universe = x.universe; original = names_alike _ (trees_of b.nodes new) (kind_of_var (get_or s.var_kinds.items k d)) same_kinds x.original });
        values = λ k d l. (let h = held k d l in over_later a.nodes b.nodes _ (get_or vs k d).node h.within g.extends (fits.values k d l));
        long = omega (arith, all, both, fresh_long, values_long, dropped, os_long, long);
      }

  values_same : trees_of b.nodes s.value.var_values.items ≡ trees_of a.nodes s.value.var_values.items
  values_same = (let g = keeps.grows in same_views HoldsArg argument_value values_kept a.nodes b.nodes s.value.var_values.items fits.held g.extends)

  -- they were refused
  pub refused_state : (tree : List Tree → T → Tree) → RefusesResponse (content_of b.nodes u.entries) (trees_of b.nodes new) (values_alone (trees_of b.nodes s.value.var_values.items) (map kind_of_var s.var_kinds.items) s.max_universe)
      → RefusesState (content_of a.nodes t.entries) (trees_of a.nodes os) (state_at tree a.nodes s)
  refused_state tree r = record {
    fresh = trees_of b.nodes m.fresh;
    made = content_of b.nodes u.entries;
    makes = makes_missing;
    refuses = subst (λ z. RefusesResponse (content_of b.nodes u.entries) z (values_alone (trees_of a.nodes s.value.var_values.items) (map kind_of_var s.var_kinds.items) s.max_universe)) lengthened
        (subst (λ z. RefusesResponse (content_of b.nodes u.entries) (trees_of b.nodes new) (values_alone z (map kind_of_var s.var_kinds.items) s.max_universe)) values_same r);
  }

  -- they were applied in the store d, and then the payload was filled
  pub instantiated_state : (tree : List Tree → T → Tree) (d z : List Tree) (w : Table) (chosen : List GenericArg) (p : T) → Extends b.nodes d → Extends d z → IsTable d w → w.entries.hidden ≡ u.entries.hidden
      → AreValuesEquated (content_of b.nodes u.entries) (content_of d w.entries) (trees_of b.nodes new) (values_alone (trees_of b.nodes s.value.var_values.items) (map kind_of_var s.var_kinds.items) s.max_universe) (trees_of d chosen)
      → tree z p ≡ filled (trees_of d chosen) (tree a.nodes s.value.payload) → IsInstantiated a.nodes z t.entries w.entries os new (state_at tree a.nodes s) (tree z p)
  instantiated_state tree d z w chosen p first second table hidden x is =
      let behind : All (IsArgOf b.nodes u.entries) m.fresh = all_behind (IsArgOf b.nodes u.entries) os m.fresh (subst (All (IsArgOf b.nodes u.entries)) m.is m.args) in
      let fresh_same : trees_of z m.fresh ≡ trees_of b.nodes m.fresh = same_views HoldsArg argument_value values_kept b.nodes z m.fresh (λ k j l. (let y = behind k j l in y.holds)) (Extends-trans first second) in
      let originals : trees_of b.nodes new ≡ trees_of a.nodes os ++ trees_of z m.fresh = lengthened ∙ ap (λ v. trees_of a.nodes os ++ v) (sym fresh_same) in
      let content : content_of z w.entries ≡ content_of d w.entries = content_of-extended second table.now in
      let answer = answer_of (state_at tree a.nodes s) in
      let y : AreValuesEquated (content_of b.nodes u.entries) (content_of z w.entries) (trees_of a.nodes os ++ trees_of z m.fresh) answer (trees_of d chosen) =
      subst (λ v. AreValuesEquated (content_of b.nodes u.entries) v (trees_of a.nodes os ++ trees_of z m.fresh) answer (trees_of d chosen)) (sym content)
      (subst (λ v. AreValuesEquated (content_of b.nodes u.entries) (content_of d w.entries) v answer (trees_of d chosen)) originals
      (subst (λ v. AreValuesEquated (content_of b.nodes u.entries) (content_of d w.entries) (trees_of b.nodes new) (values_alone v (map kind_of_var s.var_kinds.items) s.max_universe) (trees_of d chosen)) values_same x)) in
      record {
        fresh = m.fresh;
        originals = m.is;
        made = content_of b.nodes u.entries;
        makes = subst (λ v. MakesLike (missing (trees_of a.nodes os) (trees_of a.nodes s.value.var_values.items)) v (content_of a.nodes t.entries) (content_of b.nodes u.entries)) (sym fresh_same) makes_missing;
        applies = y.applies;
        filled_in = is ∙ ap (λ v. filled v (tree a.nodes s.value.payload)) (sym y.is);
        shares = subst (λ v. JoinsBy (PlacedOrOne (content_of b.nodes u.entries) (content_of z w.entries) (map kind_of_var s.var_kinds.items) v) (content_of b.nodes u.entries) (content_of z w.entries)) (sym y.is) y.shares;
        shows = y.shows;
        hidden = hidden ∙ keeps.hidden;
      }
