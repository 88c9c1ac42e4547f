-- The clauses of an environment keep the environment and have no foreign leaves: so they are a lawful handler.
use Rattle.std.proofs.Common.{◌≡◌, ◌⊎◌, inl, inr, ℕ, false, [], None, refl}
use Rattle.nts_model.specs.declared.labels.Leaf.{Leaf}
use Rattle.nts_model.specs.declared.labels.ListHead.TheVariants as list
use Rattle.nts_model.specs.declared.labels.Label.TheVariants as label
use Rattle.nts_model.specs.Terms.Trees.{Tree, empty, more, node, IsInRow, any_label, is_canonical, IsFormed, IsClosed, IsClosedUnder}
use Rattle.nts_model.specs.Terms.Scoping.{IsWellBound}
use Rattle.nts_model.specs.Lists.{Among}
use Rattle.nts_model.specs.Terms.Substitutions.{Occurs}
use Rattle.nts_model.specs.Derivations.Handlers.{Candidate, IsAsked, IsOver, IsCandidateFor, RulesHaveSources, CandidatesKeep, IsLawfulHandler}
use Rattle.nts_delegate.specs.Offers.{trait_of}
use Rattle.nts_delegate.specs.ClauseHandlers.{trait_goal}
use Rattle.nts_delegate.specs.Judging.{objects_judged, FastAnswersHold-never}
use Rattle.nts_delegate.specs.HandlerLaws.{IsTraitGoal, IsOtherGoal, trait_or_other, asked_of, args_over, equations_over}
use Rattle.nts_assembly.specs.Assumptions.{rows_of, sorts_in, positioned, assumed_offer, offers_over, assumed_offers, assumed_clause, assuming}
use Rattle.nts_assembly.specs.Positioned.{positioned_leaves, positioned_closed, positioned_names}
use Rattle.nts_assembly.specs.PositionedTerms.{positioned_formed, positioned_well_bound}
use Rattle.nts_assembly.specs.Assuming.{IsTraitRow, offered_in, clause_shape, offer_for, none_among, row_positions, head_free, commute, rules}

-- what stands in a row
pub row_leaves : (x : Leaf) (t r : Tree) → IsInRow t r → Occurs x t → Occurs x r
row_leaves x t empty i o = absurd i
row_leaves x t (more u us) (inl e) o = inl (rw e at o)
row_leaves x t (more u us) (inr i) o = inr (row_leaves x t us i o)
row_leaves x t (node l c) i o = absurd i

pub row_closed : (n : ℕ) (t r : Tree) → IsInRow t r → IsClosedUnder n r → IsClosedUnder n t
row_closed n t empty i h = absurd i
row_closed n t (more u us) (inl e) h = rw e h.0
row_closed n t (more u us) (inr i) h = row_closed n t us i h.1
row_closed n t (node l c) i h = absurd i

pub row_well_bound : (t r : Tree) → IsInRow t r → IsWellBound r → IsWellBound t
row_well_bound t empty i h = absurd i
row_well_bound t (more u us) (inl e) h = rw e h.0
row_well_bound t (more u us) (inr i) h = row_well_bound t us i h.1
row_well_bound t (node l c) i h = absurd i

-- the arguments of a trait's clause
in_env : (l : Leaf) (e rows p : Tree) → e ≡ node (label.List list.Env) rows → IsInRow p rows → (s : IsTraitRow p) → Occurs l (positioned 0 s.head) → Occurs l e
in_env l e rows p env among s x =
    let said : Occurs l (assumed_clause s.sorts s.of_trait s.head) = inr (inr (inl (inr (inl (inr (positioned_leaves l 0 s.head x)))))) in
    let here : Occurs l p = rw s.is said in
    let there : Occurs l (node (label.List list.Env) rows) = inr (row_leaves l p rows among here) in
    rw env there

head_over : (e g rows p : Tree) → e ≡ node (label.List list.Env) rows → IsInRow p rows → any_label is_canonical e ≡ false → IsClosed e → IsWellBound e → IsFormed p → (s : IsTraitRow p) → IsOver (sorts_in s.sorts) e g (positioned 0 s.head)
head_over e g rows p env among free closed bound formed s =
    let free_rows : any_label is_canonical rows ≡ false = rw env at free in
    let free_p : any_label is_canonical (assumed_clause s.sorts s.of_trait s.head) ≡ false = rw s.is at (row_positions p rows among free_rows) in
    let closed_env : IsClosed (node (label.List list.Env) rows) = rw env at closed in
    let closed_p : IsClosed (assumed_clause s.sorts s.of_trait s.head) = rw s.is at (row_closed 0 p rows among closed_env.1) in
    let bound_env : IsWellBound (node (label.List list.Env) rows) = rw env at bound in
    let bound_p : IsWellBound (assumed_clause s.sorts s.of_trait s.head) = rw s.is at (row_well_bound p rows among bound_env.1) in
    let formed_p : IsFormed (assumed_clause s.sorts s.of_trait s.head) = rw s.is at formed in
    record {
      names = positioned_names s.sorts 0 s.head (head_free s.sorts s.of_trait s.head free_p) bound_p.0.1.0.1.0.1;
      leaves = λ l x. inl (inl (in_env l e rows p env among s x));
      formed = positioned_formed 0 s.head formed_p.1.1.0.1.0.1;
      closed = positioned_closed 0 s.head closed_p.1.1.0.1.0.1;
      well_bound = positioned_well_bound 0 s.head bound_p.1.1.0.1.0.1;
    }

candidate_over : (e us ss hs : Tree) (i : ℕ) (c : Candidate) → c ≡ assumed_offer us (sorts_in ss) hs → IsOver (sorts_in ss) e (trait_goal i us) us → IsOver (sorts_in ss) e (trait_goal i us) (positioned 0 hs) → IsCandidateFor e (trait_goal i us) c
candidate_over e us ss hs i c same u h =
    rw same (record {
      equations = λ q x. equations_over (sorts_in ss) e (trait_goal i us) us (positioned 0 hs) u h q x;
      constraints = λ x k. absurd k;
      constrains = λ x k. absurd k;
      goals = λ q k. absurd k;
      no_hidden = refl;
      no_access = refl;
    })

keep_shape : (e g : Tree) (c : Candidate) → IsAsked e g → IsTraitGoal g ⊎ IsOtherGoal g → Among (assumed_offers e (trait_of g)) c → IsCandidateFor e g c
keep_shape e g c asked (inl t) among =
    let offers : Among (offers_over t.of_trait t.with_arguments (rows_of e)) c = rw t.is at among in
    let here : IsAsked e (trait_goal t.of_trait t.with_arguments) = rw t.is at asked in
    let o = offered_in t.of_trait t.with_arguments e c asked.formed.0 offers in
    elim (clause_shape o.from.predicate o.from.kind o.from.formed) [
      | inl s ↦
          let f = offer_for t.of_trait t.with_arguments o.from.predicate c s o.from.here in
          rw t.is (candidate_over e t.with_arguments s.sorts s.head t.of_trait c f.is (args_over (sorts_in s.sorts) e t.with_arguments t.of_trait here)
          (head_over e (trait_goal t.of_trait t.with_arguments) o.rows o.from.predicate o.is o.from.among (asked_of e t.with_arguments t.of_trait here.no_positions).environment asked.closed.0 asked.well_bound.0 o.from.formed s))
      | inr n ↦ absurd (none_among t.of_trait t.with_arguments o.from.predicate c n o.from.here)
    ]
keep_shape e g c asked (inr o) among =
    let nothing : Among (assumed_offers e None) c = rw o.none at among in absurd nothing

keep : CandidatesKeep assuming
keep = record { each = λ mode e g c asked among. keep_shape e g c asked (trait_or_other e g asked) among }

-- a rule has no premises
sources : RulesHaveSources assuming
sources = record { each = λ mode a q m among. let none : Among [] q = rw m.no_goals at among in absurd none }

pub IsLawfulHandler-assuming : IsLawfulHandler assuming
IsLawfulHandler-assuming = record { commute = commute; rules = rules; sources = sources; keep = keep; judges = objects_judged assuming (λ i. false) refl; at_once = FastAnswersHold-never assuming (λ e g c x. x) }
