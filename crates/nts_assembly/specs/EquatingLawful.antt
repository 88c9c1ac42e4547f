-- What an environment says that aliases are is a lawful handler.
use Rattle.std.proofs.Common.{◌≡◌, ◌⊎◌, inl, inr, ℕ, false, None, refl, ap, subst, sym}
use Rattle.nts_model.specs.declared.labels.Leaf.{Leaf}
use Rattle.nts_model.specs.declared.labels.ListHead.TheVariants as list
use Rattle.nts_model.specs.declared.labels.Label.TheVariants as label
use Rattle.nts_model.specs.Terms.Trees.{Tree, empty, more, node, row_push, IsRow, IsInRow, any_label, is_canonical, IsFormed, IsClosed}
use Rattle.nts_model.specs.Terms.Scoping.{IsWellBound}
use Rattle.nts_model.specs.Lists.{Among}
use Rattle.nts_model.specs.Terms.Substitutions.{Occurs}
use Rattle.nts_model.specs.Derivations.Rules.{normalization_goal}
use Rattle.nts_model.specs.Derivations.Handlers.{Candidate, IsAsked, IsOver, IsCandidateFor, RulesHaveSources, CandidatesKeep, IsLawfulHandler}
use Rattle.nts_delegate.specs.ClauseHandlers.{AliasAsked, asked_row, normalization_of}
use Rattle.nts_delegate.specs.Judging.{objects_judged, FastAnswersHold-never}
use Rattle.nts_delegate.specs.HandlerLaws.{equations_over}
use Rattle.nts_delegate.specs.AliasGoals.{IsNormalizing, IsNoNormalizing, normalizes_or_not, normalized_parts}
use Rattle.nts_delegate.specs.AliasRows.{push_over}
use Rattle.nts_assembly.specs.Assumptions.{rows_of, sorts_in, positioned, assumed_offer}
use Rattle.nts_assembly.specs.Positioned.{positioned_leaves, positioned_closed, positioned_names}
use Rattle.nts_assembly.specs.PositionedTerms.{positioned_formed, positioned_well_bound}
use Rattle.nts_assembly.specs.Assuming.{positioned_row, row_positions}
use Rattle.nts_assembly.specs.Assumed.{row_leaves, row_closed, row_well_bound}
use Rattle.nts_assembly.specs.Projections.{results_over, assumed_results, assumed_projection, equating}
use Rattle.nts_assembly.specs.Equating.{IsProjectionRow, projection_shape, said_free, result_offered_in, result_for, none_offered, commute, rules}

pub positioned_push : (c : ℕ) (t v : Tree) → IsRow t → positioned c (row_push t v) ≡ row_push (positioned c t) (positioned c v)
positioned_push c empty v h = refl
positioned_push c (more a b) v h = ap (more (positioned c a)) (positioned_push c b v h)
positioned_push c (node l t) v h = absurd h

-- the arguments and the term of a clause, where what it binds has positions, are over the goal
in_env : (l : Leaf) (e rows p : Tree) → e ≡ node (label.List list.Env) rows → IsInRow p rows → Occurs l p → Occurs l e
in_env l e rows p env among x =
    let there : Occurs l (node (label.List list.Env) rows) = inr (row_leaves l p rows among x) in rw env there

record IsSaidOver (e g ss : Tree) (r : AliasAsked) : Type 0 where
  parts : IsOver (sorts_in ss) e g (positioned 0 r.parts)
  term : IsOver (sorts_in ss) e g (positioned 0 r.term)

said_over : (e g rows p : Tree) → e ≡ node (label.List list.Env) rows → IsInRow p rows → any_label is_canonical e ≡ false → IsClosed e → IsWellBound e → IsFormed p → (s : IsProjectionRow p) → IsSaidOver e g s.sorts s.said
said_over e g rows p env among free closed bound formed s =
    let r = s.said in
    let free_rows : any_label is_canonical rows ≡ false = rw env at free in
    let free_p : any_label is_canonical (assumed_projection s.sorts r) ≡ false = rw s.is at (row_positions p rows among free_rows) in
    let lacks = said_free s.sorts r free_p in
    let closed_env : IsClosed (node (label.List list.Env) rows) = rw env at closed in
    let closed_p : IsClosed (assumed_projection s.sorts r) = rw s.is at (row_closed 0 p rows among closed_env.1) in
    let bound_env : IsWellBound (node (label.List list.Env) rows) = rw env at bound in
    let bound_p : IsWellBound (assumed_projection s.sorts r) = rw s.is at (row_well_bound p rows among bound_env.1) in
    let formed_p : IsFormed (assumed_projection s.sorts r) = rw s.is at formed in
    let here : (l : Leaf) → Occurs l (assumed_projection s.sorts r) → Occurs l e = λ l x. in_env l e rows p env among (subst (Occurs l) (sym s.is) x) in
    record {
      parts = record {
        names = positioned_names s.sorts 0 r.parts lacks.parts bound_p.0.1.0.1.0.1;
        leaves = λ l x. inl (inl (here l (inr (inr (inl (inr (inl (inr (positioned_leaves l 0 r.parts x)))))))));
        formed = positioned_formed 0 r.parts formed_p.1.1.0.1.0.1;
        closed = positioned_closed 0 r.parts closed_p.1.1.0.1.0.1;
        well_bound = positioned_well_bound 0 r.parts bound_p.1.1.0.1.0.1;
      };
      term = record {
        names = positioned_names s.sorts 0 r.term lacks.term bound_p.0.1.0.1.1.0;
        leaves = λ l x. inl (inl (here l (inr (inr (inl (inr (inr (inl (positioned_leaves l 0 r.term x)))))))));
        formed = positioned_formed 0 r.term formed_p.1.1.0.1.1.0;
        closed = positioned_closed 0 r.term closed_p.1.1.0.1.1.0;
        well_bound = positioned_well_bound 0 r.term bound_p.1.1.0.1.1.0;
      };
    }

candidate_over : (e g us ss hs : Tree) (c : Candidate) → c ≡ assumed_offer us (sorts_in ss) hs → IsOver (sorts_in ss) e g us → IsOver (sorts_in ss) e g (positioned 0 hs) → IsCandidateFor e g c
candidate_over e g us ss hs c same u h =
    rw same (record {
      equations = λ q x. equations_over (sorts_in ss) e g us (positioned 0 hs) u h q x;
      constraints = λ x k. absurd k;
      constrains = λ x k. absurd k;
      goals = λ q k. absurd k;
      no_hidden = refl;
      no_access = refl;
    })

pub keep_shape : (e g : Tree) (c : Candidate) → IsAsked e g → IsNormalizing g ⊎ IsNoNormalizing g → Among (assumed_results e (normalization_of g)) c → IsCandidateFor e g c
keep_shape e g c asked (inl t) among =
    let w = t.asked in
    let goal = normalization_goal w.head w.parts w.term in
    let offers : Among (results_over w (rows_of e)) c = subst (λ k. Among (assumed_results e (normalization_of k)) c) t.is among in
    let here : IsAsked e goal = subst (IsAsked e) t.is asked in
    let free = normalized_parts e w.head w.parts w.term here in
    let o = result_offered_in w e c asked.formed.0 offers in
    elim (projection_shape o.from.predicate o.from.kind o.from.formed) [
      | inl s ↦
          let f = result_for w o.from.predicate c s o.from.here in
          let fresh = sorts_in s.sorts in
          let said = s.said in
          let over = said_over e goal o.rows o.from.predicate o.is o.from.among free.environment asked.closed.0 asked.well_bound.0 o.from.formed s in
          let head : IsOver fresh e goal (positioned 0 (asked_row said)) = subst (IsOver fresh e goal) (sym (positioned_push 0 said.parts said.term s.formed.row)) (push_over fresh e goal (positioned 0 said.parts) (positioned 0 said.term) (positioned_row 0 said.parts s.formed.row) over.parts over.term) in
          let row : IsOver fresh e goal (asked_row w) = push_over fresh e goal w.parts w.term t.formed.row (free.parts fresh) (free.term fresh) in
          subst (λ k. IsCandidateFor e k c) (sym t.is) (candidate_over e goal (asked_row w) s.sorts (asked_row said) c f.is row head)
      | inr n ↦ absurd (none_offered w o.from.predicate c n o.from.here)
    ]
keep_shape e g c asked (inr o) among =
    let nothing : Among (assumed_results e None) c = subst (λ k. Among (assumed_results e k) c) o.none among in absurd nothing

keep : CandidatesKeep equating
keep = record { each = λ mode e g c asked among. keep_shape e g c asked (normalizes_or_not e g asked) among }

-- a rule has no premises
sources : RulesHaveSources equating
sources = record { each = λ mode a q m among. absurd (subst (λ ps. Among ps q) m.no_goals among) }

pub IsLawfulHandler-equating : IsLawfulHandler equating
IsLawfulHandler-equating = record { commute = commute; rules = rules; sources = sources; keep = keep; judges = objects_judged equating (λ i. false) refl; at_once = FastAnswersHold-never equating (λ e g c x. x) }
