-- Each rule that an environment's clauses give of what aliases are, for an instance of a goal, is an instance of what they offer
-- for the goal.
use Rattle.std.proofs.Common.{◌≡◌, ◌⊎◌, inl, inr, true, false, map, Option, Some, None, refl, sym, ap, subst, ◌∙◌, eq-eqb}
use Rattle.nts_model.specs.declared.labels.AliasHead.{AliasHead}
use Rattle.nts_model.specs.declared.labels.AliasHead.TheVariants as alias_of
use Rattle.nts_model.specs.declared.labels.ListHead.TheVariants as list
use Rattle.nts_model.specs.declared.labels.Label.TheVariants as label
use Rattle.nts_model.specs.Terms.Trees.{Tree, empty, more, node, row_length, IsRow, IsInRow, any_label, is_canonical, IsFormed}
use Rattle.nts_model.specs.Lists.{Among}
use Rattle.nts_model.specs.Terms.Substitutions.{replace, Instance, instance_of, filled_under}
use Rattle.nts_model.specs.Derivations.Rules.{coherence, Application, normalization_goal}
use Rattle.nts_model.specs.Derivations.Handlers.{Candidate, equation_by, AreValuesOf, use_of, IsInstanceFor, IsAsked}
use Rattle.nts_model.specs.Refutation.Coherence.{RulesAreOffered}
use Rattle.nts_model.proofs.Terms.Composing.{instance_kinds}
use Rattle.nts_delegate.specs.ClauseHandlers.{AliasAsked, asked_row, equations_of, normalization_of, projection_of}
use Rattle.nts_delegate.specs.OwnTerms.{row_length-replace, filled_nowhere}
use Rattle.nts_delegate.specs.Both.{in_first, in_second}
use Rattle.nts_delegate.specs.AliasGoals.{IsNormalizing, IsNoNormalizing, normalizes_or_not, AreAskedParts, normalized_parts}
use Rattle.nts_delegate.specs.AliasLaws.{asked_under}
use Rattle.nts_delegate.specs.AliasRows.{push_lacks}
use Rattle.nts_delegate.specs.SameHandlers.{MeansSame}
use Rattle.nts_assembly.specs.Assumptions.{rows_of, sorts_in, positioned, valued, assumed_offer}
use Rattle.nts_assembly.specs.Positioned.{filled_positioned}
use Rattle.nts_assembly.specs.Assuming.{positioned_row, equations-filled, sorts-replace, closed_below, row_positions}
use Rattle.nts_assembly.specs.AssumedOffers.{env_of, IsRowOf, row_of_instance, where_true, same_use, instance_covers}
use Rattle.nts_assembly.specs.Projections.{same_alias, fits_alias, result_if, results_over, assumed_results, assumed_projection, IsAssumedResult, equating}
use Rattle.nts_assembly.specs.Equating.{IsProjectionRow, projection_shape, said_row, said_free, moved_rows}

pub among_results : (w : AliasAsked) (p ps : Tree) (c : Candidate) → IsInRow p ps → Among (result_if w p (projection_of p)) c → Among (results_over w ps) c
among_results w p empty c m a = absurd m
among_results w p (more q ps) c (inl e) a =
    in_first (result_if w q (projection_of q)) (results_over w ps) c (subst (λ z. Among (result_if w z (projection_of z)) c) e a)
among_results w p (more q ps) c (inr m) a = in_second (result_if w q (projection_of q)) (results_over w ps) c (among_results w p ps c m a)
among_results w p (node l t) c m a = absurd m

-- what is said of the alias that is asked for, with as many arguments, is offered
alias_itself : (h : AliasHead) → same_alias h h ≡ true
alias_itself (alias_of.Ty i) = eq-eqb i i refl
alias_itself (alias_of.Const i) = eq-eqb i i refl

alias_true : (h k : AliasHead) → h ≡ k → same_alias h k ≡ true
alias_true h k e = subst (λ z. same_alias h z ≡ true) e (alias_itself h)

fits_said : (w r : AliasAsked) → r.head ≡ w.head → row_length w.parts ≡ row_length r.parts → fits_alias w r ≡ true
fits_said w r e n = let a = alias_true r.head w.head e in let b = eq-eqb (row_length w.parts) (row_length r.parts) n in rw a b

-- goals that are one ask the same, and clauses that are one say the same
abbrev asked_or : AliasAsked → Option AliasAsked → AliasAsked
asked_or d None = d
asked_or d (Some w) = w

one_asked : (v w : AliasAsked) → normalization_goal v.head v.parts v.term ≡ normalization_goal w.head w.parts w.term → v ≡ w
one_asked v w e = ap (λ g. asked_or v (normalization_of g)) e

one_said : (s t : Tree) (v w : AliasAsked) → assumed_projection s v ≡ assumed_projection t w → v ≡ w
one_said s t v w e = ap (λ p. asked_or v (projection_of p)) e

one_list : (s t : Tree) (v w : AliasAsked) → assumed_projection s v ≡ assumed_projection t w → s ≡ t
one_list s t v w e = cc

-- the rule is an instance of what is offered
record IsMetByResult (e g : Tree) (ι : Instance) (a : Application) : Type 0 where
  pub candidate : Candidate
  pub among : Among (assumed_results e (normalization_of g)) candidate
  pub instance : IsInstanceFor candidate e g ι a

made_of : (e ps : Tree) (w : AliasAsked) (ι : Instance) (a : Application) (h : IsAssumedResult a) → IsRow w.parts → AreAskedParts e (normalization_goal w.head w.parts w.term) w
    → e ≡ node (label.List list.Env) ps → a.environment ≡ instance_of ι e → a.conclusion ≡ instance_of ι (normalization_goal w.head w.parts w.term) → h.asked ≡ asked_under ι.value w
    → (p : Tree) → IsInRow p ps → (s : IsProjectionRow p) → h.sorts ≡ instance_of ι s.sorts → h.said ≡ asked_under ι.value s.said → IsMetByResult e (normalization_goal w.head w.parts w.term) ι a
made_of e ps w ι a h r free env in_env concludes asked p among s sorted said =
    let us = asked_row w in
    let hs = asked_row s.said in
    let c = assumed_offer us (sorts_in s.sorts) hs in
    let same : s.said.head ≡ w.head = ap (λ (x : AliasAsked). x.head) (sym said) ∙ h.same ∙ ap (λ (x : AliasAsked). x.head) asked in
    let as_many : row_length w.parts ≡ row_length s.said.parts =
    sym (row_length-replace ι.value w.parts r) ∙ ap (λ (x : AliasAsked). row_length x.parts) (sym asked) ∙ h.as_many ∙ ap (λ (x : AliasAsked). row_length x.parts) said ∙ row_length-replace ι.value s.said.parts s.formed.row in
    let one : Among (result_if w p (projection_of p)) c = rw s.is (where_true (fits_alias w s.said) c (fits_said w s.said same as_many)) in
    let rows : rows_of e ≡ ps = ap rows_of env in
    let free_rows : any_label is_canonical ps ≡ false = rw env at free.environment in
    let free_said : any_label is_canonical (assumed_projection s.sorts s.said) ≡ false = rw s.is at (row_positions p ps among free_rows) in
    let lacks = said_free s.sorts s.said free_said in
    let no_us = push_lacks is_canonical w.parts w.term r free.no_parts free.no_term in
    let no_hs = push_lacks is_canonical s.said.parts s.said.term s.formed.row lacks.parts lacks.term in
    let made : map (equation_by (filled_under ι.value a.values)) (equations_of us (positioned 0 hs)) ≡ equations_of (asked_row (asked_under ι.value w)) (valued a.values 0 (asked_row (asked_under ι.value s.said))) =
    equations-filled ι.value a.values us (positioned 0 hs) (said_row w r) (positioned_row 0 hs (said_row s.said s.formed.row))
    ∙ ap (λ x. equations_of x (filled_under ι.value a.values (positioned 0 hs))) (filled_nowhere ι.value a.values us no_us)
    ∙ ap (equations_of (instance_of ι us)) (filled_positioned ι.value a.values (closed_below ι) 0 hs no_hs) ∙ moved_rows ι.value a.values w s.said r s.formed.row in
    let has : a.equations ≡ equations_of (asked_row (asked_under ι.value w)) (valued a.values 0 (asked_row (asked_under ι.value s.said))) =
    h.equations ∙ ap (λ (x : AliasAsked). equations_of (asked_row x) (valued a.values 0 (asked_row h.said))) asked ∙ ap (λ (x : AliasAsked). equations_of (asked_row (asked_under ι.value w)) (valued a.values 0 (asked_row x))) said in
    let equations : a.equations ≡ map (equation_by (filled_under ι.value a.values)) (equations_of us (positioned 0 hs)) = has ∙ sym made in
    let sorts : sorts_in h.sorts ≡ sorts_in s.sorts = ap sorts_in sorted ∙ sorts-replace ι.value s.sorts s.listed in
    record {
      candidate = c;
      among = subst (λ z. Among (results_over w z) c) (sym rows) (among_results w p ps c among one);
      instance = record {
        values = subst (λ ss. AreValuesOf ss a.values) sorts h.values;
        same = same_use a (use_of c e (normalization_goal w.head w.parts w.term) ι a.values) in_env concludes refl equations h.no_goals h.no_constraints h.no_hidden;
      };
    }

by_row : (e ps : Tree) (w : AliasAsked) (ι : Instance) (a : Application) (h : IsAssumedResult a) → IsRow w.parts → AreAskedParts e (normalization_goal w.head w.parts w.term) w
    → e ≡ node (label.List list.Env) ps → a.environment ≡ instance_of ι e → a.conclusion ≡ instance_of ι (normalization_goal w.head w.parts w.term) → h.asked ≡ asked_under ι.value w
    → IsRowOf ι.value (assumed_projection h.sorts h.said) ps → IsMetByResult e (normalization_goal w.head w.parts w.term) ι a
by_row e ps w ι a h r free env in_env concludes asked o =
    elim (projection_shape o.predicate o.kind o.formed) [
      | inl s ↦
          let same : assumed_projection h.sorts h.said ≡ assumed_projection (instance_of ι s.sorts) (asked_under ι.value s.said) = o.same ∙ ap (instance_of ι) s.is in
          made_of e ps w ι a h r free env in_env concludes asked o.predicate o.among s (one_list _ _ _ _ same) (one_said _ _ _ _ same)
      | inr n ↦
          let some : projection_of (assumed_projection h.sorts h.said) ≡ None = ap projection_of o.same ∙ n.none_under ι.value in
          absurd (none_said h.sorts h.said some)
    ]
  where
    none_said : (ss : Tree) (r : AliasAsked) → projection_of (assumed_projection ss r) ≡ None → ⊥
    none_said ss r e = cc

by_goal : (e g : Tree) (ι : Instance) (a : Application) → IsAsked e g → IsAssumedResult a → a.environment ≡ instance_of ι e → a.conclusion ≡ instance_of ι g → IsNormalizing g ⊎ IsNoNormalizing g → IsMetByResult e g ι a
by_goal e g ι a asked h in_env concludes (inl t) =
    let w = t.asked in
    let here : IsAsked e (normalization_goal w.head w.parts w.term) = subst (IsAsked e) t.is asked in
    let concluded : a.conclusion ≡ instance_of ι (normalization_goal w.head w.parts w.term) = subst (λ k. a.conclusion ≡ instance_of ι k) t.is concludes in
    let same : h.asked ≡ asked_under ι.value w = one_asked h.asked (asked_under ι.value w) (sym h.conclusion ∙ concluded) in
    let env = env_of ι.value (instance_kinds ι) e h.rows (sym h.environment ∙ in_env) in
    let formed : IsFormed (node (label.List list.Env) env.own) = rw env.is at here.formed.0 in
    let among : IsInRow (assumed_projection h.sorts h.said) (replace ι.value env.own) = subst (IsInRow (assumed_projection h.sorts h.said)) env.same h.among in
    let row = row_of_instance ι.value (assumed_projection h.sorts h.said) env.own formed.0 formed.1 among in
    subst (λ k. IsMetByResult e k ι a) (sym t.is) (by_row e env.own w ι a h t.formed.row (normalized_parts e w.head w.parts w.term here) env.is in_env concluded same row)
by_goal e g ι a asked h in_env concludes (inr o) =
    let none : normalization_of (normalization_goal h.asked.head h.asked.parts h.asked.term) ≡ None = ap normalization_of (sym h.conclusion ∙ concludes) ∙ o.none_under ι.value in
    absurd (none_asked h.asked none)
  where
    none_asked : (w : AliasAsked) → normalization_of (normalization_goal w.head w.parts w.term) ≡ None → ⊥
    none_asked w e = cc

pub RulesAreOffered-equating : RulesAreOffered equating
RulesAreOffered-equating =
    record {
      covered = λ e g ι a asked h env con.
          let m = by_goal e g ι a asked h env con (normalizes_or_not e g asked) in
          instance_covers equating coherence e g ι a m.candidate m.among m.instance;
    }

-- it means the same in each store
pub MeansSame-equating : MeansSame equating equating
MeansSame-equating = record { applies = λ mode a. (λ x. x, λ x. x); offers = λ mode e g. refl; is_coinductive = λ i. refl; judges = refl; leaks = λ c u l. l; at_once = λ e g c x. x }
