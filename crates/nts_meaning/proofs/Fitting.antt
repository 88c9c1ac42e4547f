-- The response of a query's table answers each input of the query's kinds.
use Rattle.std.proofs.Common.{◌≡◌, inl, inr, ℕ, ◌+◌, List, [], ◌∷◌, map, length, refl, sym, ap, ◌∙◌, subst, arith}
use Rattle.std.specs.Prelude.{Contains}
use Rattle.std.proofs.lemmas.List.{length-map}
use Rattle.nts_model.specs.Terms.Trees.{Tree, kind_of, FitsPlace, IsClosed}
use Rattle.nts_model.specs.Tables.Contents.{Content, Recorded}
use Rattle.nts_model.specs.Tables.Resolving.{Knows}
use Rattle.nts_model.specs.Terms.Substitutions.{leaf_tree}
use Rattle.nts_model.specs.Lists.{Among}
use Rattle.nts_model.specs.Canonical.Inputs.{Input, PositionKind, position_kind, canonical_of, originals}
use Rattle.nts_model.specs.Tables.Passing.{AllPass}
use Rattle.nts_model.specs.Answers.Responses.{Findings, IsLabelIn, IsQueryTable, IsResponseTo}
use Rattle.nts_model.proofs.Lists.{contains_none}
use Rattle.nts_theory.proofs.Responses.Querying.{query_fits}
use Rattle.nts_certainty.specs.declared.certainty.Certainty.{Certainty}
use Rattle.nts_certainty.specs.declared.certainty.Certainty.TheVariants as certainty
use Rattle.nts_store.specs.Formed.{AreFormed}
use Rattle.nts_unify.specs.Reading.{content_of}
use Rattle.nts_table.specs.Tables.{Table, IsTable}
use Rattle.nts_canonical.specs.declared.types.Canonical.{Canonical}
use Rattle.nts_canonical.specs.Kinds.{AreInputKinds, count_of, kind_of_position, value_leaves}
use Rattle.nts_response.specs.declared.types.Response.{Response}
use Rattle.nts_response.specs.Forms.{response_at, HoldsResponse}
use Rattle.nts_response.specs.Applicable.{left_place, IsApplicable}
use Rattle.nts_applying.proofs.Answered.{table_places, answered_applicable}
use Rattle.nts_meaning.specs.Asking.{first_values}
use Rattle.nts_theory.specs.Telling.{without_constraints, IsResponseOf}
use Rattle.nts_unify.specs.Changing.{HasClosedSides}
use Rattle.nts_meaning.specs.Answering.{told_in, IsAnswerTo}
use Rattle.nts_meaning.proofs.Running.{term_table}
use Rattle.nts_meaning.proofs.QueryTables.{values_pass, value_formed}
use Rattle.nts_theory.proofs.Refutation.QueryLabels.{labels_in, query_without}

-- a query's table, with what its constraints are between
record IsFoundTable (ks : List PositionKind) (c : Content) : Type 0 where
  pub table : IsQueryTable ks c (first_values ks)
  pub places : (y : Recorded) → Contains c.constraints y → FitsPlace (left_place y.relation) (kind_of y.left)
  pub sides : HasClosedSides c

root_without : (ks : List PositionKind) (c : Content) → IsFoundTable ks c → IsFoundTable ks (without_constraints c)
root_without ks c h =
    record {
      table = query_without ks c (first_values ks) h.table;
      places = λ y i. absurd (contains_none y i);
      sides = record { left = λ x i. absurd (contains_none x i); right = λ x i. absurd (contains_none x i) };
    }

root_told : (ks : List PositionKind) (c : Content) (x : Certainty) → IsFoundTable ks c → IsFoundTable ks (told_in x c)
root_told ks c certainty.Yes h = h
root_told ks c (certainty.Maybe y) h = root_without ks c h

-- the values of the positions are closed, one for each
value_closed : (ks : List PositionKind) (n : ℕ) (v : Tree) → Among (map leaf_tree (value_leaves n ks)) v → IsClosed v
value_closed [] n v m = absurd m
value_closed (k ∷ ks) n v (inl e) = rw e (tt, tt)
value_closed (k ∷ ks) n v (inr m) = value_closed ks (n + count_of (kind_of_position k)) v m

many_values : (ks : List PositionKind) (n : ℕ) → length (map leaf_tree (value_leaves n ks)) ≡ length ks
many_values [] n = refl
many_values (k ∷ ks) n = (let e = many_values ks (n + count_of (kind_of_position k)) in omega (arith, e))

-- what such a table answers
module _ (e : List Tree) (ks : List PositionKind) (q : Content) (r : Canonical Response) (h : IsFoundTable ks q) (says : IsResponseOf q (first_values ks) (response_at e r))
    (holds : HoldsResponse e r.value) (no_hidden : r.value.external_constraints.opaque_types.items ≡ []) (no_goals : r.value.external_constraints.normalization_nested_goals.items ≡ []) where
  abbrev found : Findings
  found = says.findings

  applicable_to : (i : Input) → (let f = canonical_of i in f.kinds) ≡ ks → IsApplicable e (map leaf_tree (originals i)) r
  applicable_to i same =
      let long : length (first_values ks) ≡ length (originals i) = many_values ks 0 ∙ sym (ap length same) ∙ length-map (originals i) (position_kind i.sub_root (originals i)) in
      answered_applicable e i q (first_values ks) says.roots found r (subst (λ z. IsQueryTable z q (first_values ks)) (sym same) h.table) says.reads says.no_hidden says.no_goals
      (value_closed ks 0) h.places h.sides holds says.is long

  found_answers : IsAnswerTo e ks r
  found_answers =
      record {
        holds = holds;
        to = subst (IsResponseTo ks) (sym says.is) (query_fits ks q (first_values ks) says.roots found h.table says.reads says.no_hidden says.no_goals);
        applicable = λ i input same. applicable_to i same;
        no_more = record { no_hidden = no_hidden; no_goals = no_goals };
      }

pub answer_to : {b e : List Tree} {u : Table} (ks : List PositionKind) (x : Certainty) (r : Canonical Response) → AreFormed b → IsTable b u → AreInputKinds ks → AllPass (IsLabelIn ks) (content_of b u.entries)
    → ((t : Tree) → Among (first_values ks) t → Knows (content_of b u.entries) t) → IsResponseOf (told_in x (content_of b u.entries)) (first_values ks) (response_at e r) → HoldsResponse e r.value → HasClosedSides (content_of b u.entries)
    → r.value.external_constraints.opaque_types.items ≡ [] → r.value.external_constraints.normalization_nested_goals.items ≡ [] → IsAnswerTo e ks r
answer_to {b} {e} {u} ks x r formed table kinds labels known says holds sides no_hidden no_goals =
    let c = content_of b u.entries in
    let terms = term_table formed table in
    let now : IsFoundTable ks c = record {
      table = record {
        sound = terms.sound;
        values = terms.values;
        constraints = terms.constraints;
        labels = labels;
        terms = λ t m. (record { knows = known t m; formed = value_formed ks 0 t m }, labels_in ks t (values_pass ks kinds t m));
      };
      places = table_places table;
      sides = sides;
    } in
    found_answers e ks (told_in x c) r (root_told ks c x now) says holds no_hidden no_goals
