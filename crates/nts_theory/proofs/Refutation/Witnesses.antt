-- In coherence each answer contains each solution, and what is refused has none.
use Rattle.std.proofs.Common.{ℕ, ◌≡◌, inl, inr, List, [], ◌∷◌, map, length, refl, sym, subst, ◌∙◌}
use Rattle.nts_model.specs.Terms.Trees.{Tree}
use Rattle.nts_model.specs.Tables.Contents.{Content}
use Rattle.nts_model.specs.Tables.Resolving.{Knows}
use Rattle.nts_model.specs.Tables.Levels.{AreCurrent}
use Rattle.nts_model.specs.Tables.Worlds.{World, inst}
use Rattle.nts_model.specs.Derivations.Related.{pair}
use Rattle.nts_model.specs.Lists.{Among}
use Rattle.nts_model.specs.Derivations.Sequents.{Premise}
use Rattle.nts_model.specs.Derivations.Rules.{Mode, coherence, GoalKind}
use Rattle.nts_model.specs.Terms.Substitutions.{instance_of}
use Rattle.nts_model.specs.Derivations.Handlers.{Handler, Candidate, IsLawfulHandler}
use Rattle.nts_model.specs.Refutation.Opening.{entered_table, opened_in}
use Rattle.nts_model.specs.Canonical.Inputs.{PositionKind, canonical_of, originals}
use Rattle.nts_model.specs.Answers.Responses.{IsQueryTable}
use Rattle.nts_model.specs.Refutation.Containing.{IsAliasFree, IsPlainWorld, Truth, IsSolution, AreInputValues, ContainsSolution, AnswerContains, HasNoSolution, SolvesGoals, ExtendsTo}
use Rattle.nts_model.specs.Refutation.Coherence.{RulesAreOffered}
use Rattle.nts_model.specs.Derivations.Rules.{statement_of}
use Rattle.nts_theory.specs.AskedGoals.{asked_in}
use Rattle.nts_theory.specs.Refutation.Refutation.{IsPlainFor, IsGranted, IsGrantedAsAsked, IsFair, RespectsLeaks, IsTheory, JoinsEqualities}
use Rattle.nts_model.proofs.Tables.Instances.{Agrees-trans}
use Rattle.nts_model.proofs.Tables.Slots.{KeepsKinds-refl, KeepsKinds-trans}
use Rattle.nts_theory.proofs.Refutation.AskingWorlds.{image, contained_granted}
use Rattle.nts_model.proofs.Lists.{among_left, among_right}
use Rattle.nts_theory.proofs.Refutation.Answered.{AreTermsOf, askable, asked_solution, asked_refuses, asked_extends, kept_same, among_split}
use Rattle.nts_theory.proofs.Refutation.Entering.{entered as enters}
use Rattle.nts_theory.proofs.Refutation.Trying.{same_positions}
use Rattle.nts_theory.proofs.Refutation.Agreeing.{AreNumberedKinds, identity_contains, nothing_contains, kinds_agree, terms_long}
use Rattle.nts_theory.proofs.Refutation.Opening.{CanBegin, added}
use Rattle.nts_theory.proofs.Refutation.Recording.{recorded_true}
use Rattle.nts_theory.proofs.Refutation.Readying.{some_begins, says_trait, says_alias}
use Rattle.nts_theory.proofs.Refutation.AskedGoals.{granted_weakly, begun_asked}
use Rattle.nts_theory.proofs.Refutation.Posed.{posed_begun}
use Rattle.nts_theory.proofs.Refutation.Affirming.{denied_inst, denied_before, denied_plain}
use Rattle.nts_theory.proofs.Refutation.Stating.{own_begins}
use Rattle.nts_theory.proofs.Refutation.EquatingBoth.{normal_begins, normal_no_lesser}
use Rattle.nts_theory.specs.Telling.{Verdict, Queries, kind_for, AreTermsOfKinds, StandsForAll, SaysOf, IsFound, without_constraints, IsPlainResponse, Tells, tells_nothing, says_nothing, tells_one, tells_outlives, tells_affirmed, tells_own, tells_subtype, tells_alias, tells_normal, Refutes, all_fail, is_denied, own_fails, is_no_subtype, subtype_refused, aliases_fail, normal_refused, by_lesser, by_one, Outcomes, no_outcome, then_fails, then_replies, Replies, replies, Fails, is_unmet, has_types_apart, is_unrelated, is_refused, is_leaky, Reaches, asks_nothing, then_asks, RefusesOne, refuses_one, cuts_one, Asked, asked_by, Refused, by_query, by_response}
use Rattle.nts_theory.proofs.Refutation.Queried.{BeginsEach, Leads, Reached, IsSolved, IsQuery, first_query, IsTried, tried, tried_knows, found_table, solution_without, plain_without, entered_solution, entered_plain, says_contains, says_long}
use Rattle.nts_theory.proofs.Refutation.Begun.{asked_from, originals_plain, BegunAt, asks_more, goal_known, goal_plain, goal_there}
use Rattle.nts_theory.proofs.Refutation.OneSided.{never_unrelated, begun_with}
use Rattle.nts_theory.proofs.Refutation.QueryLabels.{entered_query, query_without}

-- each verdict of candidates has as many values as there are positions
reply_long : (c found : Content) (qs : List Tree) (v : Verdict) → SaysOf c found qs v → (let r = v.response in let x = r.findings in length x.values ≡ length qs)
reply_long c found qs v (inl (y, r)) = says_long found qs v.response r
reply_long c found qs v (inr (y, inl r)) = says_long (without_constraints found) qs v.response r
reply_long c found qs v (inr (y, inr r)) = says_long (without_constraints c) qs v.response r

pub outcome_long : {Q : Queries} {h : Handler} {mode : Mode} {c : Content} {e g : Tree} {qs : List Tree} {xs : List Candidate} {vs : List Verdict} → Outcomes Q h mode c e g qs xs vs → (v : Verdict) → Among vs v → (let r = v.response in let x = r.findings in length x.values ≡ length qs)
outcome_long no_outcome v i = absurd i
outcome_long (then_fails before fails) v i = outcome_long before v i
outcome_long {c = c} {qs = qs} (then_replies {vs = vs} {v = u} before (replies ps gs met posed found begun poses reach is says)) v i =
    elim (among_split vs (u ∷ []) v i) [
      | inl j ↦ outcome_long before v j
      | inr j ↦ (elim j [ inl e ↦ subst (λ (z : Verdict). (let r = z.response in let x = r.findings in length x.values ≡ length qs)) (sym e) (reply_long c found qs u says) | inr k ↦ absurd k ])
    ]

-- one of the verdicts contains the solution
pub record OneContains (truth : Truth) (vs : List Verdict) (ts : List Tree) : Type 0 where
  pub verdict : Verdict
  pub among : Among vs verdict
  pub contains : ContainsSolution truth verdict.response ts

-- the theorem: in coherence each answer contains each solution, and what is refused has none
module _ (Q : Queries) (begins : BeginsEach Q) (h : Handler) (truth : Truth) (Proves : Tree → Tree → Type 0) (theory : IsTheory h truth Proves) (joins : JoinsEqualities Proves) (fair : IsFair truth) (respects : RespectsLeaks h truth) (lawful : IsLawfulHandler h) (law : RulesAreOffered h) where
  abbrev Granted : Tree → Tree → Type 0
  Granted = IsGrantedAsAsked Proves

  -- what a candidate that is begun is granted of its goals
  abbrev Weakly : Tree → Tree → Type 0
  Weakly = IsGranted Proves

  some_says : (ks : List PositionKind) (c met found : Content) (w : World) (e g : Tree) (qs : List Tree) (v : Verdict) (gs : List Premise) → IsTried ks c e g qs → IsFound c e g found → IsSolution truth 0 c w → IsPlainWorld c w
      → BegunAt truth Granted c met w gs → Reached truth Granted met found gs → SaysOf c found qs v → ContainsSolution truth v.response (map (inst w) qs)
  some_says ks c met found w e g qs v gs t is s free b x says = by_case says
    where
      there : ExtendsTo truth 0 Granted met found gs b.reaches.world
      there = x.solutions.each b.reaches.world b.goals

      images : map (inst there.world) qs ≡ map (inst w) qs
      images = same_positions c w there.world qs (Agrees-trans (length c.slots) (length met.slots) w b.reaches.world there.world b.reaches.longer b.reaches.agrees there.agrees) (tried_knows ks c e g qs t)

      table : IsQueryTable ks found qs
      table = found_table ks c found e g qs t is (KeepsKinds-trans b.reaches.keeps x.keeps)

      by_case : SaysOf c found qs v → ContainsSolution truth v.response (map (inst w) qs)
      by_case (inl (y, r)) = subst (ContainsSolution truth v.response) images (says_contains truth ks found qs v.response t.placed table r there.world there.solves.solution there.solves.plain)
      by_case (inr (y, inl r)) =
          subst (ContainsSolution truth v.response) images (says_contains truth ks (without_constraints found) qs v.response t.placed (query_without ks found qs table) r there.world (solution_without truth 0 found there.world there.solves.solution) (plain_without found there.world there.solves.plain))
      by_case (inr (y, inr r)) = says_contains truth ks (without_constraints c) qs v.response t.placed (query_without ks c qs t.table) r w (solution_without truth 0 c w s) (plain_without c w free)

  stands_contains : (ks : List PositionKind) (qs : List Tree) (vs : List Verdict) (v : Verdict) (ts : List Tree) → AreNumberedKinds 0 ks → AreTermsOfKinds ks qs → AreInputValues ks ts → ((t : Tree) → Among ts t → IsAliasFree t) → ((u : Verdict) → Among vs u → (let r = u.response in let x = r.findings in length x.values ≡ length qs))
      → StandsForAll qs vs v → OneContains truth vs ts → ContainsSolution truth v.response ts
  stands_contains ks qs vs v ts n terms values free long (a, inl same) one =
      (let r = v.response in identity_contains truth ks r ts n same.same (long v a ∙ terms_long ks qs terms) (kinds_agree ks r.kinds qs terms same.kinds) values free)
  stands_contains ks qs vs v ts n terms values free long (a, inr same) one = subst (λ (z : Verdict). ContainsSolution truth z.response ts) (same one.verdict one.among) one.contains

  mutual
    pub tells_contain : {ks : List PositionKind} {c : Content} {e g : Tree} {qs : List Tree} {v : Verdict} → Tells Q h coherence ks c e g qs v → IsQuery ks c e g qs → (ts : List Tree) (w : World) → IsSolved truth Granted ks c e g qs ts w
        → ContainsSolution truth v.response ts
    tells_contain {ks} {c} {e} {g} {qs} {v} (tells_nothing d (inl is) y says) q ts w s =
        subst (ContainsSolution truth v.response) s.images
        (says_contains truth ks (without_constraints c) qs v.response q.placed (query_without ks c qs q.table) (subst (λ z. IsPlainResponse z qs v.response) is says) w (solution_without truth 0 c w s.solution) (plain_without c w s.free))
    tells_contain {ks} {c} {e} {g} {qs} {v} (tells_nothing d (inr is) y says) q ts w s =
        let there = entered_table c g in
        subst (ContainsSolution truth v.response) s.images
        (says_contains truth ks (without_constraints there) qs v.response q.placed (query_without ks there qs (entered_query ks c g qs q.table)) (subst (λ z. IsPlainResponse z qs v.response) is says) w (solution_without truth 0 there w (entered_solution truth c g w s.solution)) (plain_without there w (entered_plain c g w s.free)))
    tells_contain {ks} {c} {e} {g} {qs} {v} (says_nothing says) q ts w s = nothing_contains truth ks v.response ts q.numbered says s.values s.plain
    tells_contain {ks} {c} {e} {g} {qs} {v} (tells_one vs ready all stands) q ts w s =
        let x = some_begins h truth Proves theory lawful law c e g w s.solution q.current q.knows s.free s.proved ready.asked (says_trait e (opened_in c g) ready.trait_goal) ready.knows ready.proper in
        let one = outcomes_contain all (tried ks c e g qs q) w x.solution (entered_plain c g w s.free) x.candidate x.offered x.begins in
        stands_contains ks qs vs v ts q.numbered q.kinds s.values s.plain (outcome_long all) stands (subst (OneContains truth vs) s.images one)
    tells_contain {ks} {c} {e} {g} {qs} {v} (tells_outlives x is none r) q ts w s =
        let here = entered_table c g in
        let true_there = recorded_true h truth Proves theory lawful law c e g w s.solution q.current q.knows s.free (granted_weakly Proves (inst w e) (inst w g) s.proved) x is none in
        let there = added truth 0 x here r.found w r.adds (entered_solution truth c g w s.solution) true_there in
        let t = tried ks c e g qs q in
        subst (ContainsSolution truth v.response) (same_positions here w there.world qs there.agrees (tried_knows ks here e (opened_in c g) qs t) ∙ s.images)
        (says_contains truth ks r.found qs v.response q.placed (found_table ks here r.found e (opened_in c g) qs t r.is_found there.keeps) r.says there.world there.solution (there.plain (entered_plain c g w s.free)))
    tells_contain {ks} {c} {e} {g} {qs} {v} (tells_affirmed is sure says) q ts w s =
        subst (ContainsSolution truth v.response) s.images
        (says_contains truth ks (entered_table c g) qs v.response q.placed (entered_query ks c g qs q.table) says w (entered_solution truth c g w s.solution) (entered_plain c g w s.free))
    tells_contain {ks} {c} {e} {g} {qs} {v} (tells_own x own plain reply) q ts w s =
        let begins = own_begins h truth Proves theory lawful law c e g w s.solution q.current q.knows s.free (granted_weakly Proves (inst w e) (inst w g) s.proved) x own.way plain own.environment own.knows in
        subst (ContainsSolution truth v.response) s.images (replies_contain reply (tried ks c e g qs q) w (entered_solution truth c g w s.solution) (entered_plain c g w s.free) begins)
    tells_contain (tells_subtype ps met found outside related reach is says) q ts w s = absurd (outside refl)
    tells_contain {ks} {c} {e} {g} {qs} {v} (tells_alias vs ready all stands) q ts w s =
        let x = some_begins h truth Proves theory lawful law c e g w s.solution q.current q.knows s.free s.proved ready.asked (says_alias e (opened_in c g) ready.alias_goal) ready.knows ready.proper in
        let one = outcomes_contain all (tried ks c e g qs q) w x.solution (entered_plain c g w s.free) x.candidate x.offered x.begins in
        stands_contains ks qs vs v ts q.numbered q.kinds s.values s.plain (outcome_long all) stands (subst (OneContains truth vs) s.images one)
    tells_contain (tells_normal ps met found (inl outside) left reach is says) q ts w s = absurd (outside refl)
    tells_contain {ks} {c} {e} {g} {qs} {v} (tells_normal ps met found (inr plain) (by_lesser left) reach is says) q ts w s = absurd (normal_no_lesser c g left.left left.right plain left.is)
    tells_contain {ks} {c} {e} {g} {qs} {v} (tells_normal ps met found (inr plain) (by_one left refused) reach is says) q ts w s =
        let b = normal_begins h truth Proves theory ks c w e g qs s.solution s.free q.current q.table q.knows s.proved plain met ps left in
        subst (ContainsSolution truth v.response) s.images
        (some_says ks (entered_table c g) met found w e (opened_in c g) qs v ps (tried ks c e g qs q) is (entered_solution truth c g w s.solution) (entered_plain c g w s.free) b (reaches_keep reach b.terms) says)

    pub refutes_none : {ks : List PositionKind} {c : Content} {e g : Tree} {qs : List Tree} → Refutes Q h coherence c e g qs → IsQuery ks c e g qs → (ts : List Tree) (w : World) → IsSolved truth Granted ks c e g qs ts w → ⊥
    refutes_none {ks} {c} {e} {g} {qs} (all_fail ready all) q ts w s =
        let x = some_begins h truth Proves theory lawful law c e g w s.solution q.current q.knows s.free s.proved ready.asked (says_trait e (opened_in c g) ready.trait_goal) ready.knows ready.proper in
        let one = outcomes_contain all (tried ks c e g qs q) w x.solution (entered_plain c g w s.free) x.candidate x.offered x.begins in
        one.among
    refutes_none {ks} {c} {e} {g} {qs} (is_denied d) q ts w s =
        let there = denied_inst h.judges w g (denied_before h.judges c g d) in
        theory.denies (inst w e) (inst w g) (s.proved.proved (inl (inl (denied_plain h.judges (statement_of (inst w g)) there)))) there
    refutes_none {ks} {c} {e} {g} {qs} (own_fails x own plain fails) q ts w s =
        fails_never fails w (entered_solution truth c g w s.solution) (entered_plain c g w s.free) (own_begins h truth Proves theory lawful law c e g w s.solution q.current q.knows s.free (granted_weakly Proves (inst w e) (inst w g) s.proved) x own.way plain own.environment own.knows)
    refutes_none (is_no_subtype outside none) q ts w s = outside refl
    refutes_none (subtype_refused ps met outside related refused) q ts w s = outside refl
    refutes_none {ks} {c} {e} {g} {qs} (aliases_fail ready all) q ts w s =
        let x = some_begins h truth Proves theory lawful law c e g w s.solution q.current q.knows s.free s.proved ready.asked (says_alias e (opened_in c g) ready.alias_goal) ready.knows ready.proper in
        let one = outcomes_contain all (tried ks c e g qs q) w x.solution (entered_plain c g w s.free) x.candidate x.offered x.begins in
        one.among
    refutes_none (normal_refused ps met (inl outside) left refused other) q ts w s = outside refl
    refutes_none {ks} {c} {e} {g} {qs} (normal_refused ps met (inr plain) left refused other) q ts w s =
        let b = normal_begins h truth Proves theory ks c w e g qs s.solution s.free q.current q.table q.knows s.proved plain met ps left in
        refuses_goals refused b.terms b.reaches.world b.goals

    outcomes_contain : {ks : List PositionKind} {c : Content} {e g : Tree} {qs : List Tree} {xs : List Candidate} {vs : List Verdict} → Outcomes Q h coherence c e g qs xs vs → IsTried ks c e g qs
        → (w : World) → IsSolution truth 0 c w → IsPlainWorld c w → (x : Candidate) → Among xs x → CanBegin truth Weakly c w e x → OneContains truth vs (map (inst w) qs)
    outcomes_contain no_outcome t w s f y a k = absurd a
    outcomes_contain {ks} {c} {e} {g} {qs} (then_fails {xs = xs} {vs = vs} {x = x} before fails) t w s f y a k =
        let rest = λ (i : Among xs y). outcomes_contain before t w s f y i k in
        elim (among_split xs (x ∷ []) y a) [
          | inl i ↦ rest i
          | inr i ↦ (elim i [ inl q ↦ absurd (fails_never fails w s f (subst (CanBegin truth Weakly c w e) q k)) | inr j ↦ absurd j ])
        ]
    outcomes_contain {ks} {c} {e} {g} {qs} (then_replies {xs = xs} {vs = vs} {x = x} {v = v} before reply) t w s f y a k =
        let rest = λ (i : Among xs y). outcomes_contain before t w s f y i k in
        elim (among_split xs (x ∷ []) y a) [
          | inl i ↦ (let o = rest i in record { verdict = o.verdict; among = among_left vs (v ∷ []) o.verdict o.among; contains = o.contains })
          | inr i ↦ (elim i [
            | inl q ↦ record { verdict = v; among = among_right vs (v ∷ []) v (inl refl); contains = replies_contain reply t w s f (subst (CanBegin truth Weakly c w e) q k) }
            | inr j ↦ absurd j
          ])
        ]

    replies_contain : {ks : List PositionKind} {c : Content} {e g : Tree} {qs : List Tree} {x : Candidate} {v : Verdict} → Replies Q h coherence c e g qs x v → IsTried ks c e g qs
        → (w : World) → IsSolution truth 0 c w → IsPlainWorld c w → CanBegin truth Weakly c w e x → ContainsSolution truth v.response (map (inst w) qs)
    replies_contain {ks} {c} {e} {g} {qs} {x} {v} (replies ps gs met posed found begun poses reach is says) t w s f k =
        let first = begun_with h truth Proves theory fair joins Q.variances c w e x f k met ps begun in
        let b = begun_asked truth Proves c posed w gs (posed_begun h truth Proves theory (kind_for h g) c met posed w ps gs f first poses) in
        some_says ks c posed found w e g qs v (asked_in coherence gs) t is s f b (reaches_keep reach b.terms) says

    fails_never : {k : GoalKind} {c : Content} {e : Tree} {x : Candidate} → Fails Q h coherence k c e x → (w : World) → IsSolution truth 0 c w → IsPlainWorld c w → CanBegin truth Weakly c w e x → ⊥
    fails_never {c = c} {x = x} (is_unmet n) w s f k = n k.is_met
    fails_never {c = c} {x = x} (has_types_apart y) w s f k = k.apart y
    fails_never {c = c} {e = e} {x = x} (is_unrelated n) w s f k = never_unrelated h truth Proves theory fair joins Q.variances c w e x f k n
    fails_never {k = z} {c = c} {e = e} {x = x} (is_refused ps gs met posed begun poses refused) w s f k =
        let first = begun_with h truth Proves theory fair joins Q.variances c w e x f k met ps begun in
        let b = begun_asked truth Proves c posed w gs (posed_begun h truth Proves theory z c met posed w ps gs f first poses) in
        refuses_goals refused b.terms b.reaches.world b.goals
    fails_never {k = z} {c = c} {e = e} {x = x} (is_leaky ps gs met posed found begun poses reach leaks) w s f k =
        let first = begun_with h truth Proves theory fair joins Q.variances c w e x f k met ps begun in
        let b = begun_asked truth Proves c posed w gs (posed_begun h truth Proves theory z c met posed w ps gs f first poses) in
        let r = reaches_keep reach b.terms in
        let there = r.solutions.each b.reaches.world b.goals in
        respects.none found 0 there.world leaks there.solves.solution

    reaches_keep : {gs : List Premise} {c d : Content} → Reaches Q h coherence gs c d → AreTermsOf c gs → Reached truth Granted c d gs
    reaches_keep {gs} {c} asks_nothing t = record { keeps = KeepsKinds-refl c; solutions = kept_same truth 0 Granted c gs gs (λ q i. i) }
    reaches_keep {gs} {c} {d = e} (then_asks d p before a can asked) t =
        let r = reaches_keep before t in
        asks_more truth Granted c d e gs p a t can r (asked_leads asked (goal_known truth Granted c d gs p a t can r) can.current)

    refuses_goals : {k : GoalKind} {gs : List Premise} {c : Content} → RefusesOne Q h coherence k gs c → AreTermsOf c gs → (w : World) → SolvesGoals truth 0 Granted c gs w → ⊥
    refuses_goals {gs} {c} (refuses_one d p before a can refused) t w s =
        let r = reaches_keep before t in
        let x = r.solutions.each w s in
        refused_none refused (goal_known truth Granted c d gs p a t can r) can.current 0 x.world x.solves.solution (goal_plain truth Granted c d gs p a t can r x.world x.solves.plain) (goal_there truth Granted d gs p a can x.world x.solves)
    refuses_goals (cuts_one d p before a i cut) t w s = cut refl

    pub asked_leads : {c d : Content} {e g : Tree} → Asked Q h coherence c d e g → Knows c (pair e g) → AreCurrent c → Leads truth Granted c d e g
    asked_leads {c} {d} {e} {g} (asked_by i v of tells fit applies) k current =
        let grows = applies.continues in
        let from = asked_from h truth Proves theory fair c e g i of k current in
        let first = begins.first c e g i of k in
        let ks = (canonical_of i).kinds in
        let all : AnswerContains truth Granted (canonical_of i) v.response =
        λ ts s. (let en = enters truth Granted (canonical_of i) (Q.table ks) (Q.values ks) ts first.begins s in
        tells_contain tells (first_query (canonical_of i) (Q.table ks) (Q.values ks) first) ts en.world (record { values = s.values; plain = s.plain; solution = en.solution; free = en.plain; images = en.images; proved = en.proved })) in
        record {
          longer = grows.more;
          keeps = record { grows = grows.grows; kinds = grows.kinds };
          each = λ base w s f p. asked_extends truth base Granted c i from v.response d fit applies grows.grows all w s (originals_plain h truth Proves theory fair c e g i of w f)
              (subst (λ z. Granted (inst w z) (inst w i.predicate)) (sym of.environment) (subst (λ z. Granted (inst w e) (inst w z)) (sym of.predicate) p));
        }

    pub refused_none : {c : Content} {e g : Tree} → Refused Q h coherence c e g → Knows c (pair e g) → AreCurrent c → (base : ℕ) (w : World) → IsSolution truth base c w → IsPlainFor w (pair e g) → Granted (inst w e) (inst w g) → ⊥
    refused_none {c} {e} {g} (by_query i of refutes) k current base w s f p =
        let from = asked_from h truth Proves theory fair c e g i of k current in
        let first = begins.first c e g i of k in
        let ks = (canonical_of i).kinds in
        let none : HasNoSolution Granted (canonical_of i) =
        λ ts z. (let en = enters truth Granted (canonical_of i) (Q.table ks) (Q.values ks) ts first.begins z in
        refutes_none refutes (first_query (canonical_of i) (Q.table ks) (Q.values ks) first) ts en.world (record { values = z.values; plain = z.plain; solution = en.solution; free = en.plain; images = en.images; proved = en.proved })) in
        asked_refuses truth base Granted c i from none w s (originals_plain h truth Proves theory fair c e g i of w f) (subst (λ z. Granted (inst w z) (inst w i.predicate)) (sym of.environment) (subst (λ z. Granted (inst w e) (inst w z)) (sym of.predicate) p))
    refused_none {c} {e} {g} (by_response i v of tells fit refuses) k current base w s f p =
        let from = asked_from h truth Proves theory fair c e g i of k current in
        let first = begins.first c e g i of k in
        let ks = (canonical_of i).kinds in
        let here = subst (λ z. Granted (inst w z) (inst w i.predicate)) (sym of.environment) (subst (λ z. Granted (inst w e) (inst w z)) (sym of.predicate) p) in
        let ts = map (image truth base c w s (originals i) from.carrier) (originals i) in
        let plain = originals_plain h truth Proves theory fair c e g i of w f in
        let z = asked_solution truth base Granted c i from w s plain here in
        let en = enters truth Granted (canonical_of i) (Q.table ks) (Q.values ks) ts first.begins z in
        let x = tells_contain tells (first_query (canonical_of i) (Q.table ks) (Q.values ks) first) ts en.world (record { values = z.values; plain = z.plain; solution = en.solution; free = en.plain; images = en.images; proved = en.proved }) in
        let granted = contained_granted truth base c w s (originals i) from.carrier (askable truth base Granted c i from w s plain here) from.fair (canonical_of i).kinds v.response fit x in
        refuses.none w (map (instance_of from.carrier.back) x.own) s.solves granted.images granted.named granted.equal
