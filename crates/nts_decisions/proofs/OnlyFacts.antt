-- A goal that one candidate without goals decides: it has a fact, and that candidate decides the goal of its query too.
use Rattle.std.proofs.Common.{◌≡◌, ℕ, inl, inr, List, [], ◌∷◌, map, refl, sym, ap, subst}
use Rattle.nts_model.specs.declared.labels.Leaf.{Leaf}
use Rattle.nts_model.specs.Terms.Trees.{Tree, empty, any_label, is_canonical, IsFormed}
use Rattle.nts_model.specs.Tables.Contents.{Content}
use Rattle.nts_model.specs.Tables.Resolving.{Knows, IsSound}
use Rattle.nts_model.specs.Tables.Levels.{AreCurrent}
use Rattle.nts_model.specs.Terms.Substitutions.{leaf_tree, filled}
use Rattle.nts_model.specs.Lists.{Among}
use Rattle.nts_model.specs.Derivations.Related.{pair}
use Rattle.nts_model.specs.Derivations.Rules.{Mode}
use Rattle.nts_model.specs.Derivations.Handlers.{Handler, Candidate, IsAsked, IsCandidateFor, IsLawfulHandler}
use Rattle.nts_model.specs.Canonical.Numbered.{no_leaf, numbered}
use Rattle.nts_model.specs.Canonical.Inputs.{Input, IsInput, canonical_of, PositionKind, after_predicate, HaveKinds, made_of, AreAlikeInputs}
use Rattle.nts_model.specs.Refutation.Choosing.{IsCandidateMet}
use Rattle.nts_model.proofs.Terms.Unpositioned.{known_no_positions}
use Rattle.nts_model.proofs.Canonical.CanonicalForms.{forms_tell_inputs, making_gives_form}
use Rattle.nts_theory.specs.Telling.{Queries, IsInputFor}
use Rattle.nts_theory.proofs.Refutation.Queried.{IsFirst, BeginsEach}
use Rattle.nts_decisions.specs.Deciding.{blurred_candidate}
use Rattle.nts_decisions.specs.Facts.{IsFactIn, IsOnlyMet, here, later, IsOnlyFactIn, IsAskedAs}
use Rattle.nts_decisions.specs.FirstTables.{IsSettledFact}
use Rattle.nts_decisions.proofs.FactsThere.{moved, asked_there, settled_there}
use Rattle.nts_decisions.proofs.MetFacts.{met_there}
use Rattle.nts_decisions.proofs.UnrefusedFacts.{HasLeavesEach}

-- the candidate that decides
pub record IsFactAmong (c : Content) (xs : List Candidate) : Type 0 where
  pub candidate : Candidate
  pub offered : Among xs candidate
  pub no_goals : candidate.goals ≡ []
  pub met : IsCandidateMet c candidate

fact_among : (c : Content) (xs : List Candidate) → IsOnlyMet c xs → IsFactAmong c xs
fact_among c [] n = elim n [ ]
fact_among c (x ∷ xs) (here none met n) = record { candidate = x; offered = inl refl; no_goals = none; met = met }
fact_among c (x ∷ xs) (later unmet n) = (let r = fact_among c xs n in record { candidate = r.candidate; offered = inr r.offered; no_goals = r.no_goals; met = r.met })

pub only_is_fact : (h : Handler) (mode : Mode) (c : Content) (e g : Tree) → IsOnlyFactIn h mode c e g → IsFactIn h mode c e g
only_is_fact h mode c e g f =
    let r = fact_among c (h.offers mode e g) f.only in
    record { goal = f.goal; candidate = r.candidate; offered = r.offered; no_goals = r.no_goals; met = r.met }

module _ (h : Handler) (law : IsLawfulHandler h) (mode : Mode) (c : Content) (i : Input) (from : IsAskedAs c i.environment i.predicate i) (fact : IsOnlyFactIn h mode c i.environment i.predicate) (q : Content) (u : List Leaf) (roots : ℕ → ℕ)
    (have : HaveKinds (canonical_of i) u roots) (first : IsFirst (canonical_of i) q (map leaf_tree u)) (environment : IsFormed (filled (map leaf_tree u) (canonical_of i).environment)) (predicate : IsFormed (filled (map leaf_tree u) (canonical_of i).predicate)) where
  made : IsInput (made_of (canonical_of i) u roots)
  made =
      let x = from.input in
      let knows = first.knows in
      let none : filled (map leaf_tree u) (canonical_of i).hidden ≡ empty = ap (λ z. filled (map leaf_tree u) (numbered no_leaf (after_predicate i) z)) x.hidden in
      record {
        formed = (environment, (predicate, (subst IsFormed (sym none) tt, tt)));
        no_positions = rw (known_no_positions q (filled (map leaf_tree u) (canonical_of i).environment) knows.0, known_no_positions q (filled (map leaf_tree u) (canonical_of i).predicate) knows.1.0, ap (any_label is_canonical) none) refl;
      }

  renaming : AreAlikeInputs i (made_of (canonical_of i) u roots)
  renaming = (let x = from.input in (forms_tell_inputs i (made_of (canonical_of i) u roots) x.proper made).0 (sym (making_gives_form i u roots x.proper have)))

  asked : IsAsked (filled (map leaf_tree u) (canonical_of i).environment) (filled (map leaf_tree u) (canonical_of i).predicate)
  asked = (let x = from.input in let goal = fact.goal in asked_there i (made_of (canonical_of i) u roots) x.proper made renaming.0 renaming.1 q first.knows goal.asked)

  met_here : (x y : Candidate) → Among (h.offers mode i.environment i.predicate) x → Among (h.offers mode (filled (map leaf_tree u) (canonical_of i).environment) (filled (map leaf_tree u) (canonical_of i).predicate)) y → blurred_candidate y ≡ moved renaming.0 x
      → IsCandidateMet c x → IsCandidateMet q y
  met_here x y offered there same m =
      let keep = law.keep in
      let goal = fact.goal in
      let own : IsCandidateFor i.environment i.predicate x = keep.each mode i.environment i.predicate x goal.asked offered in
      let over : IsCandidateFor (filled (map leaf_tree u) (canonical_of i).environment) (filled (map leaf_tree u) (canonical_of i).predicate) y = keep.each mode _ _ y asked there in
      met_there h law mode c m.world m.solves i from goal q u roots have first.begins asked first.knows renaming.0 renaming.1 x y same own over m.values m.fit m.named m.equal

  only_settled : IsSettledFact h mode q (filled (map leaf_tree u) (canonical_of i).environment) (filled (map leaf_tree u) (canonical_of i).predicate)
  only_settled =
      let x = from.input in
      let goal = fact.goal in
      settled_there i (made_of (canonical_of i) u roots) x.proper made renaming.0 renaming.1 q first.knows goal.asked h law mode goal c met_here fact.only

-- the goal of the query, in its first table
module _ (Q : Queries) (begins : BeginsEach Q) (each : HasLeavesEach Q) (h : Handler) (law : IsLawfulHandler h) (mode : Mode) (c : Content) (e g : Tree) (fact : IsOnlyFactIn h mode c e g) (known : Knows c (pair e g)) (sound : IsSound c) (current : AreCurrent c) (i : Input) (of : IsInputFor c e g i) where
  abbrev ks : List PositionKind
  ks = (canonical_of i).kinds

  pub query_settled : IsFormed (filled (Q.values ks) (canonical_of i).environment) → IsFormed (filled (Q.values ks) (canonical_of i).predicate) → IsSettledFact h mode (Q.table ks) (filled (Q.values ks) (canonical_of i).environment) (filled (Q.values ks) (canonical_of i).predicate)
  query_settled environment predicate =
      let from : IsAskedAs c i.environment i.predicate i =
      record {
        input = record { environment = refl; predicate = refl; hidden = of.hidden; classes = of.classes; proper = of.proper };
        knows = subst (λ z. Knows c (pair z i.predicate)) (sym of.environment) (subst (λ z. Knows c (pair e z)) (sym of.predicate) known);
        sound = sound;
        current = current;
      } in
      let own : IsOnlyFactIn h mode c i.environment i.predicate = subst (λ z. IsOnlyFactIn h mode c z i.predicate) (sym of.environment) (subst (IsOnlyFactIn h mode c e) (sym of.predicate) fact) in
      let first : IsFirst (canonical_of i) (Q.table ks) (map leaf_tree (each.leaves ks)) = subst (IsFirst (canonical_of i) (Q.table ks)) (each.values ks) (begins.first c e g i of known) in
      let env : IsFormed (filled (map leaf_tree (each.leaves ks)) (canonical_of i).environment) = subst (λ z. IsFormed (filled z (canonical_of i).environment)) (each.values ks) environment in
      let says : IsFormed (filled (map leaf_tree (each.leaves ks)) (canonical_of i).predicate) = subst (λ z. IsFormed (filled z (canonical_of i).predicate)) (each.values ks) predicate in
      subst (λ z. IsSettledFact h mode (Q.table ks) (filled z (canonical_of i).environment) (filled z (canonical_of i).predicate)) (sym (each.values ks))
      (only_settled h law mode c i from own (Q.table ks) (each.leaves ks) (each.roots ks) (each.have i of.proper) first env says)
