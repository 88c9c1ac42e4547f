-- A goal of the engine's own kinds, which was opened: what is known of it where it was opened is known of the goal; and what decides it.
use Rattle.std.proofs.Common.{◌≡◌, inl, inr, ℕ, Bool, true, false, List, refl, sym, ap, subst, ◌∙◌}
use Rattle.nts_model.specs.declared.labels.Variance.{Variance}
use Rattle.nts_model.specs.Terms.Trees.{Tree, any_label, is_alias}
use Rattle.nts_model.specs.Tables.Holding.{Continues}
use Rattle.nts_model.specs.Derivations.Rules.{Mode, statement_of}
use Rattle.nts_model.specs.Derivations.Handlers.{Handler, Judgements, certain, meaning, IsLawfulHandler}
use Rattle.nts_model.specs.Derivations.Proofs.{Assumed}
use Rattle.nts_model.specs.Searching.Stacks.{IsProvedFrom}
use Rattle.nts_store.specs.Growth.{tree_at, Extends}
use Rattle.nts_store.specs.Formed.{AreFormed}
use Rattle.nts_terms.specs.declared.handles.Goal.{Goal}
use Rattle.nts_terms.specs.declared.handles.GenericArg.{GenericArg}
use Rattle.nts_terms.specs.declared.modes.TypingMode.{TypingMode}
use Rattle.nts_terms.specs.Handles.{HoldsGoal}
use Rattle.nts_delegate.specs.SameHandlers.{MeansSame}
use Rattle.nts_model.proofs.Terms.Unpositioned.{known_no_positions, known_well_bound, pair_no_positions}
use Rattle.nts_unify.specs.Reading.{content_of}
use Rattle.nts_table.specs.Tables.{Table}
use Rattle.nts_canonical.specs.declared.types.Canonical.{Canonical}
use Rattle.nts_canonical.specs.Forms.{trees_of}
use Rattle.nts_response.specs.declared.types.Response.{Response}
use Rattle.nts_meaning.specs.Telling.{Ruling}
use Rattle.nts_meaning.specs.Evaluation.{Goes, IsPosed}
use Rattle.nts_meaning.specs.Meant.{IsTold, IsRefuted}
use Rattle.nts_trying.specs.Opening.{IsOpenedTo}
use Rattle.std.specs.Global.{Box}
use Rattle.nts_candidates.specs.declared.data.CandidateData.{CandidateData}
use Rattle.nts_theory.specs.RelatingCandidates.{HasPlainEquations}
use Rattle.nts_theory.specs.Affirming.{SaysAffirmed, IsDenied, HasOwnWay}
use Rattle.nts_trying.specs.Owning.{IsOwnGoal, IsPlainGoal, IsWay, IsAllJudged}
use Rattle.nts_trying.specs.declared.own.Judged.{Judged}
use Rattle.nts_trying.specs.declared.own.Judged.TheVariants as judged
use Rattle.nts_decisions.specs.Faring.{Fares}
use Rattle.nts_decisions.proofs.OwnWays.{one_own_way}
use Rattle.nts_terms.specs.Modes.{mode_of}
use Rattle.nts_candidates.specs.Offered.{candidate_of}
use Rattle.nts_evaluation.specs.Deciding.{SaysJudged, IsWaySettled, IsOwnSettled, IsSettled}
use Rattle.nts_trying.specs.declared.own.OwnGoal.{OwnGoal}
use Rattle.nts_trying.proofs.Judging.{way_plain}
use Rattle.nts_trying.proofs.Owning.{unbound_none}
use Rattle.nts_trying.proofs.Opened.{affirmed_through, own_through, affirmed_told, own_told, nothing_through, denied_refuted, own_refuted}
use Rattle.nts_evaluation.specs.Promises.{HoldsOwn, OwnTold, OwnRefuted}

-- a goal that a table knows has no positions, and its bound variables are of the lists of their binders
pub posed_plain : (ts : List Tree) (t : Table) (g : Goal) → IsPosed ts t g → IsPlainGoal ts g
posed_plain ts t g posed =
    let c = content_of ts t.entries in
    let e = tree_at ts g.param_env.node in
    let p = tree_at ts g.predicate.node in
    let k = posed.knows in
    record {
      no_positions = pair_no_positions e p (known_no_positions c e k.env) (known_no_positions c p k.predicate);
      well_bound = (known_well_bound c e k.env, (known_well_bound c p k.predicate, tt));
    }

-- what is judged of a goal, of an earlier store by what the handler meant there
pub judged_before : {h k : Handler} {a b : List Tree} {g : Goal} (P : Judgements → Tree → Tree → Type 0) → MeansSame h k → Extends a b → HoldsGoal a g → P h.judges (tree_at b g.param_env.node) (tree_at b g.predicate.node) → P k.judges (tree_at a g.param_env.node) (tree_at a g.predicate.node)
judged_before {h} {k} {a} {b} {g} P same up holds x =
    subst (λ j. P j (tree_at a g.param_env.node) (tree_at a g.predicate.node)) same.judges
    (subst (λ z. P h.judges z (tree_at a g.predicate.node)) (up.kept g.param_env.node holds.env.within)
    (subst (λ z. P h.judges (tree_at b g.param_env.node) z) (up.kept g.predicate.node holds.predicate.within) x))

-- where the handler affirms or denies a goal of an earlier store, that is known
module _ {h k : Handler} {a b : List Tree} {g : Goal} (same : MeansSame h k) (up : Extends a b) (holds : HoldsGoal a g) (x : Judged) (all : IsAllJudged h.judges b g x) where
  later : (P : Judgements → Tree → Tree → Type 0) → P k.judges (tree_at a g.param_env.node) (tree_at a g.predicate.node) → P h.judges (tree_at b g.param_env.node) (tree_at b g.predicate.node)
  later P y =
      subst (λ j. P j (tree_at b g.param_env.node) (tree_at b g.predicate.node)) (sym same.judges)
      (subst (λ z. P k.judges z (tree_at b g.predicate.node)) (sym (up.kept g.param_env.node holds.env.within))
      (subst (λ z. P k.judges (tree_at a g.param_env.node) z) (sym (up.kept g.predicate.node holds.predicate.within)) y))

  abbrev answer : Bool → Judged
  answer true = judged.Yes
  answer false = judged.No

  known : (c : Bool) → SaysJudged k.judges (tree_at a g.param_env.node) (tree_at a g.predicate.node) c → x ≡ answer c
  known true y = all.affirmed (later SaysAffirmed y)
  known false y = all.denied (later (λ j e p. IsDenied j (statement_of p)) y)

  pub judged_yes : (c : Bool) → x ≡ judged.Yes → SaysJudged k.judges (tree_at a g.param_env.node) (tree_at a g.predicate.node) c → c ≡ true
  judged_yes true q y = refl
  judged_yes false q y = (let clash : judged.Yes ≡ judged.No = sym q ∙ known false y in absurd (cc clash))

  pub judged_no : (c : Bool) → x ≡ judged.No → SaysJudged k.judges (tree_at a g.param_env.node) (tree_at a g.predicate.node) c → c ≡ false
  judged_no false q y = refl
  judged_no true q y = (let clash : judged.No ≡ judged.Yes = sym q ∙ known true y in absurd (cc clash))

  pub judged_unknown : (c : Bool) → x ≡ judged.Unknown → SaysJudged k.judges (tree_at a g.param_env.node) (tree_at a g.predicate.node) c → ⊥
  judged_unknown true q y = (let clash : judged.Unknown ≡ judged.Yes = sym q ∙ known true y in cc clash)
  judged_unknown false q y = (let clash : judged.Unknown ≡ judged.No = sym q ∙ known false y in cc clash)

  pub judged_way : (c : Bool) (w : Box CandidateData) → x ≡ judged.Way w → SaysJudged k.judges (tree_at a g.param_env.node) (tree_at a g.predicate.node) c → ⊥
  judged_way true w q y = (let clash : judged.Way w ≡ judged.Yes = sym q ∙ known true y in cc clash)
  judged_way false w q y = (let clash : judged.Way w ≡ judged.No = sym q ∙ known false y in cc clash)

  -- .. and where the one way of such a goal fares somehow, the way is known
  module _ {mode : TypingMode} {n : ℕ} {t : Table} where
    known_way : (c : Bool) → IsWaySettled k mode n a t g c → IsWay x
    known_way c y = (let w = y.has_way in all.way y.way (later (λ j e p. HasOwnWay j e p y.way) w) (way_plain k.judges (tree_at a g.param_env.node) w.statement y.way w.way (unbound_none w.statement (subst (λ z. any_label is_alias z ≡ false) w.binds_nothing y.no_alias))))

    pub settled_yes : (c : Bool) → x ≡ judged.Yes → IsOwnSettled k mode n a t g c → c ≡ true
    settled_yes c q (inl y) = judged_yes c q y
    settled_yes c q (inr y) = absurd (subst IsWay q (known_way c y))

    pub settled_no : (c : Bool) → x ≡ judged.No → IsOwnSettled k mode n a t g c → c ≡ false
    settled_no c q (inl y) = judged_no c q y
    settled_no c q (inr y) = absurd (subst IsWay q (known_way c y))

    pub settled_unknown : (c : Bool) → x ≡ judged.Unknown → IsOwnSettled k mode n a t g c → ⊥
    settled_unknown c q (inl y) = judged_unknown c q y
    settled_unknown c q (inr y) = subst IsWay q (known_way c y)

    pub settled_way : (c : Bool) (w : Box CandidateData) → x ≡ judged.Way w → HasOwnWay h.judges (tree_at b g.param_env.node) (tree_at b g.predicate.node) (candidate_of b w.value) → HasPlainEquations (candidate_of b w.value) → content_of b t.entries ≡ content_of a t.entries → IsOwnSettled k mode n a t g c → IsSettled k mode n b t w.value c
    settled_way c w q has plain here (inl y) = absurd (judged_way c w q y)
    settled_way c w q has plain here (inr y) =
        let before = judged_before (λ j e p. HasOwnWay j e p (candidate_of b w.value)) same up holds has in
        let one : y.way ≡ candidate_of b w.value = one_own_way k.judges (tree_at a g.param_env.node) (tree_at a g.predicate.node) y.way (candidate_of b w.value) y.has_way before in
        record {
          fares = subst (λ z. Fares k (mode_of mode) n z (candidate_of b w.value) c) (sym here) (subst (λ z. Fares k (mode_of mode) n (content_of a t.entries) z c) one y.fares);
          sure = subst (λ z. z.certainty ≡ certain) one y.sure;
          plain = plain;
        }

module _ {a b : List Tree} {t u : Table} {g o : Goal} (posed : IsPosed a t g) (opens : IsOpenedTo a b t u g o) (up : Extends a b) (there : IsPosed b u o) (x : OwnGoal) (says : IsOwnGoal b o x) where
  pub own_holds : (h : Handler) (V : ℕ → List Variance) (mode : Mode) (A : List Assumed) {d : List Tree} {v : Table} → Goes b d u v → Continues (content_of a t.entries) (content_of d v.entries) → AreFormed d → IsLawfulHandler h
      → HoldsOwn h (meaning h V) mode A b o (content_of d v.entries) → IsProvedFrom (meaning h V) mode A (content_of d v.entries) (tree_at d g.param_env.node) (tree_at d g.predicate.node)
  own_holds h V mode A goes later formed law (inl affirmed) = affirmed_through posed opens up h V mode A there says.environment goes later formed law affirmed
  own_holds h V mode A goes later formed law (inr (y, way, holds)) = own_through posed opens up h V mode A there says.environment goes later formed law y way holds

  pub own_says : AreFormed b → (h : Ruling) (mode : TypingMode) (qs : List GenericArg) (e : List Tree) (r : Canonical Response) → trees_of b qs ≡ trees_of a qs → OwnTold h mode b u o qs e r → IsTold h mode a t g qs e r
  own_says formed h mode qs e r same (inl (affirmed, sure, response)) = affirmed_told posed opens up h mode qs e r same affirmed sure response
  own_says formed h mode qs e r same (inr (inl (y, way, plain, reply))) = own_told posed opens up there formed h mode qs e r y same way plain reply
  own_says formed h mode qs e r same (inr (inr (unsure, plain))) = nothing_through posed opens up h mode qs e r same unsure plain

  pub own_none : AreFormed b → (h : Ruling) (mode : TypingMode) (qs : List GenericArg) → OwnRefuted h mode b u o → IsRefuted h mode a t g qs
  own_none formed h mode qs (inl denied) = denied_refuted posed opens up h mode qs denied
  own_none formed h mode qs (inr (y, way, plain, fails)) = own_refuted posed opens up there formed h mode qs y way plain fails
