-- What an environment says that aliases are keeps the laws of handlers: candidates commute with renaming, and their instances are
-- rules.
use Rattle.std.proofs.Common.{◌≡◌, ◌⊎◌, inl, inr, true, false, List, [], ◌∷◌, map, Some, None, refl, sym, ap, subst, ◌∙◌, eqb-true}
use Rattle.std.proofs.lemmas.List.{map-append}
use Rattle.nts_model.specs.declared.labels.Leaf.{Leaf}
use Rattle.nts_model.specs.declared.labels.AliasHead.{AliasHead}
use Rattle.nts_model.specs.declared.labels.AliasHead.TheVariants as alias_of
use Rattle.nts_model.specs.declared.labels.ClauseHead.TheVariants as clause
use Rattle.nts_model.specs.declared.labels.ListHead.TheVariants as list
use Rattle.nts_model.specs.declared.labels.Label.TheVariants as label
use Rattle.nts_model.specs.Terms.Trees.{Tree, empty, more, node, row_length, IsRow, IsInRow, any_label, is_canonical, kind_of, AllFit, is, one_sort, sort_list, bound_predicate, statement, HavePlaces, IsFormed}
use Rattle.nts_model.specs.Derivations.Related.{pair}
use Rattle.nts_model.specs.Lists.{Among}
use Rattle.nts_model.specs.Terms.Substitutions.{leaf_tree, replace, Instance, instance_of, Renaming, rename, filled_under}
use Rattle.nts_model.specs.Derivations.Rules.{Application, normalization_goal}
use Rattle.nts_model.specs.Derivations.Handlers.{Candidate, equation_by, AreValuesOf, use_of, IsInstanceFor, application_under, renamed_candidate, IsAsked, CandidatesCommute, InstancesAreRules}
use Rattle.nts_delegate.specs.ClauseHandlers.{AliasAsked, asked_row, equations_of, normalization_of, projection_of}
use Rattle.nts_delegate.specs.OwnTerms.{both_false, IsRow-replace, row_length-replace, filled_nowhere}
use Rattle.nts_delegate.specs.Both.{parted}
use Rattle.nts_delegate.specs.HandlerLaws.{values_under}
use Rattle.nts_delegate.specs.AliasGoals.{IsFormedAsked, IsNormalizing, IsNoNormalizing, two_parts, normalizes_or_not, AreAskedParts, normalized_parts}
use Rattle.nts_delegate.specs.AliasLaws.{asked_under, row_moved}
use Rattle.nts_delegate.specs.AliasRows.{push_row, push_lacks}
use Rattle.nts_assembly.specs.Assumptions.{rows_of, sorts_in, positioned, valued, assumed_offer, offer_where}
use Rattle.nts_assembly.specs.Positioned.{filled_positioned, replaced_valued}
use Rattle.nts_assembly.specs.Assuming.{positioned_row, valued_row, in_row-replace, equations-replace, equations-filled, sorts-replace, listed-replace, IsSortList, sort_list_shape, renamed_where, offer_renamed, closed_below, row_positions, where_among, fits_both}
use Rattle.nts_assembly.specs.Projections.{same_alias, fits_alias, result_if, results_over, assumed_results, assumed_projection, IsAssumedResult, equating}

-- a predicate of an environment says what an alias is, or does not
pub record IsProjectionRow (p : Tree) : Type 0 where
  pub sorts : Tree
  pub listed : AllFit (is one_sort) sorts
  pub said : AliasAsked
  pub formed : IsFormedAsked said
  pub is : p ≡ assumed_projection sorts said

pub record IsNoProjectionRow (p : Tree) : Type 0 where
  pub none : projection_of p ≡ None
  pub none_under : (f : Leaf → Tree) → projection_of (replace f p) ≡ None

statement_shape : (v s : Tree) → IsSortList v → kind_of s ≡ Some statement → IsFormed s → IsProjectionRow (node (label.List list.Binder) (pair v s)) ⊎ IsNoProjectionRow (node (label.List list.Binder) (pair v s))
statement_shape v (node (label.Clause (clause.Projection i)) ts) l k f =
    let a = two_parts i ts f.0 f.1 in
    inl (record { sorts = l.sorts; listed = l.listed; said = record { head = i; parts = a.parts; term = a.term }; formed = a.formed; is = cc (l.is, a.is) })
statement_shape v (node (label.Clause h) ts) l k f = inr (record { none = refl; none_under = λ g. refl })
statement_shape v (node (label.Predicate h) ts) l k f = inr (record { none = refl; none_under = λ g. refl })
statement_shape v (node (label.List list.Args) ts) l k f = cc
statement_shape v (node (label.List list.Env) ts) l k f = cc
statement_shape v (node (label.List list.Sorts) ts) l k f = cc
statement_shape v (node (label.List (list.Sort x)) ts) l k f = cc
statement_shape v (node (label.List list.Binder) ts) l k f = cc
statement_shape v s l k f = cc

two_shape : (c : Tree) → HavePlaces (is sort_list ∷ is statement ∷ []) c → IsFormed c → IsProjectionRow (node (label.List list.Binder) c) ⊎ IsNoProjectionRow (node (label.List list.Binder) c)
two_shape (more v (more s empty)) h f = statement_shape v s (sort_list_shape v h.0 f.0) h.1.0 f.1.0
two_shape (more v (more s (more t u))) h f = absurd h.1.1
two_shape (more v (more s (node l t))) h f = absurd h.1.1
two_shape (more v empty) h f = absurd h.1
two_shape (more v (node l t)) h f = absurd h.1
two_shape empty h f = absurd h
two_shape (node l t) h f = absurd h

pub projection_shape : (p : Tree) → kind_of p ≡ Some bound_predicate → IsFormed p → IsProjectionRow p ⊎ IsNoProjectionRow p
projection_shape (node (label.List list.Binder) c) k f = two_shape c f.0 f.1
projection_shape p k f = cc

pub said_row : (w : AliasAsked) → IsRow w.parts → IsRow (asked_row w)
said_row w r = push_row w.parts w.term r

-- candidates commute with plain renaming
fits_replaced : (f : Leaf → Tree) (w r : AliasAsked) → IsRow w.parts → IsRow r.parts → fits_alias (asked_under f w) (asked_under f r) ≡ fits_alias w r
fits_replaced f w r a b =
    let x = row_length-replace f w.parts a in
    let y = row_length-replace f r.parts b in
    cc (x, y)

result_renamed : (ρ : Renaming) (w : AliasAsked) (ss : Tree) (r : AliasAsked) → IsRow w.parts → AllFit (is one_sort) ss → IsRow r.parts
    → assumed_offer (asked_row (asked_under (λ l. leaf_tree (ρ.to l)) w)) (sorts_in (rename ρ ss)) (asked_row (asked_under (λ l. leaf_tree (ρ.to l)) r)) ≡ renamed_candidate ρ (assumed_offer (asked_row w) (sorts_in ss) (asked_row r))
result_renamed ρ w ss r a l b =
    let f = λ (x : Leaf). leaf_tree (ρ.to x) in
    ap (λ t. assumed_offer t (sorts_in (rename ρ ss)) (asked_row (asked_under f r))) (sym (row_moved f w a))
    ∙ ap (assumed_offer (rename ρ (asked_row w)) (sorts_in (rename ρ ss))) (sym (row_moved f r b))
    ∙ offer_renamed ρ (asked_row w) ss (asked_row r) (said_row w a) l (said_row r b)

one_renamed : (ρ : Renaming) (w : AliasAsked) (p : Tree) → IsRow w.parts → IsProjectionRow p ⊎ IsNoProjectionRow p
    → result_if (asked_under (λ l. leaf_tree (ρ.to l)) w) (rename ρ p) (projection_of (rename ρ p)) ≡ map (renamed_candidate ρ) (result_if w p (projection_of p))
one_renamed ρ w p r (inl a) =
    let f = λ (x : Leaf). leaf_tree (ρ.to x) in
    let there = assumed_offer (asked_row (asked_under f w)) (sorts_in (rename ρ a.sorts)) (asked_row (asked_under f a.said)) in
    let here = assumed_offer (asked_row w) (sorts_in a.sorts) (asked_row a.said) in
    rw a.is (ap (λ b. offer_where b there) (fits_replaced f w a.said r a.formed.row) ∙ renamed_where ρ (fits_alias w a.said) there here (result_renamed ρ w a.sorts a.said r a.listed a.formed.row))
one_renamed ρ w p r (inr n) =
    ap (result_if (asked_under (λ l. leaf_tree (ρ.to l)) w) (rename ρ p)) (n.none_under (λ l. leaf_tree (ρ.to l))) ∙ sym (ap (λ o. map (renamed_candidate ρ) (result_if w p o)) n.none)

over_renamed : (ρ : Renaming) (w : AliasAsked) (ps : Tree) → IsRow w.parts → AllFit (is bound_predicate) ps → IsFormed ps → results_over (asked_under (λ l. leaf_tree (ρ.to l)) w) (rename ρ ps) ≡ map (renamed_candidate ρ) (results_over w ps)
over_renamed ρ w empty r h f = refl
over_renamed ρ w (more p ps) r h f =
    let one = one_renamed ρ w p r (projection_shape p h.0 f.0) in
    let rest = over_renamed ρ w ps r h.1 f.1 in
    cc (one, rest) ∙ sym (map-append (renamed_candidate ρ) (result_if w p (projection_of p)) (results_over w ps))
over_renamed ρ w (node l c) r h f = absurd h

env_renamed : (ρ : Renaming) (w : AliasAsked) (e : Tree) → IsRow w.parts → IsFormed e → results_over (asked_under (λ l. leaf_tree (ρ.to l)) w) (rows_of (rename ρ e)) ≡ map (renamed_candidate ρ) (results_over w (rows_of e))
env_renamed ρ w (node (label.List list.Env) ps) r f = over_renamed ρ w ps r f.0 f.1
env_renamed ρ w e r f = refl

goal_renamed : (e g : Tree) (ρ : Renaming) → IsFormed e → IsNormalizing g ⊎ IsNoNormalizing g → assumed_results (rename ρ e) (normalization_of (rename ρ g)) ≡ map (renamed_candidate ρ) (assumed_results e (normalization_of g))
goal_renamed e g ρ f (inl t) = rw t.is (env_renamed ρ t.asked e t.formed.row f)
goal_renamed e g ρ f (inr o) =
    ap (assumed_results (rename ρ e)) (o.none_under (λ l. leaf_tree (ρ.to l))) ∙ sym (ap (λ x. map (renamed_candidate ρ) (assumed_results e x)) o.none)

pub commute : CandidatesCommute equating
commute = record { renaming = λ mode e g ρ p h. goal_renamed e g ρ h.formed.0 (normalizes_or_not e g h) }

-- rules are closed under instances
pub moved_rows : (f : Leaf → Tree) (vs : List Tree) (w r : AliasAsked) → IsRow w.parts → IsRow r.parts → equations_of (replace f (asked_row w)) (valued vs 0 (replace f (asked_row r))) ≡ equations_of (asked_row (asked_under f w)) (valued vs 0 (asked_row (asked_under f r)))
moved_rows f vs w r a b =
    ap (λ t. equations_of t (valued vs 0 (replace f (asked_row r)))) (row_moved f w a) ∙ ap (λ t. equations_of (asked_row (asked_under f w)) (valued vs 0 t)) (row_moved f r b)

rule_under : (a : Application) (ι : Instance) → IsAssumedResult a → IsAssumedResult (application_under ι a)
rule_under a ι h =
    let here = asked_row h.asked in
    let there = asked_row h.said in
    record {
      rows = instance_of ι h.rows;
      environment = ap (instance_of ι) h.environment;
      sorts = instance_of ι h.sorts;
      listed = listed-replace ι.value h.sorts h.listed;
      said = asked_under ι.value h.said;
      said_row = IsRow-replace ι.value h.said.parts h.said_row;
      among = in_row-replace ι.value (assumed_projection h.sorts h.said) h.rows h.among;
      values = subst (λ ss. AreValuesOf ss (map (instance_of ι) a.values)) (sym (sorts-replace ι.value h.sorts h.listed)) (values_under ι (sorts_in h.sorts) a.values h.values);
      asked = asked_under ι.value h.asked;
      row = IsRow-replace ι.value h.asked.parts h.row;
      same = h.same;
      as_many = row_length-replace ι.value h.asked.parts h.row ∙ h.as_many ∙ sym (row_length-replace ι.value h.said.parts h.said_row);
      conclusion = ap (instance_of ι) h.conclusion;
      equations = ap (map (equation_by (instance_of ι))) h.equations ∙ equations-replace ι.value here (valued a.values 0 there) (said_row h.asked h.row) (valued_row a.values 0 there (said_row h.said h.said_row))
          ∙ ap (equations_of (instance_of ι here)) (replaced_valued ι.value a.values (closed_below ι) 0 there) ∙ moved_rows ι.value (map (instance_of ι) a.values) h.asked h.said h.row h.said_row;
      no_goals = ap (map _) h.no_goals;
      no_constraints = ap (map _) h.no_constraints;
      no_hidden = ap (map _) h.no_hidden;
    }

-- where an offer comes from
pub record IsResultOffered (w : AliasAsked) (ps : Tree) (c : Candidate) : Type 0 where
  pub predicate : Tree
  pub among : IsInRow predicate ps
  pub kind : kind_of predicate ≡ Some bound_predicate
  pub formed : IsFormed predicate
  pub here : Among (result_if w predicate (projection_of predicate)) c

offered_from : (w : AliasAsked) (ps : Tree) (c : Candidate) → AllFit (is bound_predicate) ps → IsFormed ps → Among (results_over w ps) c → IsResultOffered w ps c
offered_from w empty c h f a = absurd a
offered_from w (more p ps) c h f a = elim (parted (result_if w p (projection_of p)) (results_over w ps) c a) [
  | inl b ↦ record { predicate = p; among = inl refl; kind = h.0; formed = f.0; here = b }
  | inr b ↦ let o = offered_from w ps c h.1 f.1 b in record { predicate = o.predicate; among = inr o.among; kind = o.kind; formed = o.formed; here = o.here }
]
offered_from w (node l c') c h f a = absurd h

-- .. of an environment
pub record IsResultOfferedIn (w : AliasAsked) (e : Tree) (c : Candidate) : Type 0 where
  pub rows : Tree
  pub is : e ≡ node (label.List list.Env) rows
  pub from : IsResultOffered w rows c

pub result_offered_in : (w : AliasAsked) (e : Tree) (c : Candidate) → IsFormed e → Among (results_over w (rows_of e)) c → IsResultOfferedIn w e c
result_offered_in w (node (label.List list.Env) ps) c f a = record { rows = ps; is = refl; from = offered_from w ps c f.0 f.1 a }
result_offered_in w (node (label.List list.Args) ps) c f a = absurd a
result_offered_in w (node (label.List list.Sorts) ps) c f a = absurd a
result_offered_in w (node (label.List (list.Sort s)) ps) c f a = absurd a
result_offered_in w (node (label.List list.Binder) ps) c f a = absurd a
result_offered_in w e c f a = absurd a

-- what is offered for a clause
pub record IsResultFor (w : AliasAsked) (ss : Tree) (r : AliasAsked) (c : Candidate) : Type 0 where
  pub same : r.head ≡ w.head
  pub as_many : row_length w.parts ≡ row_length r.parts
  pub is : c ≡ assumed_offer (asked_row w) (sorts_in ss) (asked_row r)

alias_is_same : (h k : AliasHead) → same_alias h k ≡ true → h ≡ k
alias_is_same (alias_of.Ty i) (alias_of.Ty j) e = ap alias_of.Ty (eqb-true i j e)
alias_is_same (alias_of.Const i) (alias_of.Const j) e = ap alias_of.Const (eqb-true i j e)
alias_is_same (alias_of.Ty i) (alias_of.Const j) e = cc
alias_is_same (alias_of.Const i) (alias_of.Ty j) e = cc

pub result_for : (w : AliasAsked) (p : Tree) (c : Candidate) → (a : IsProjectionRow p) → Among (result_if w p (projection_of p)) c → IsResultFor w a.sorts a.said c
result_for w p c a among =
    let offer = assumed_offer (asked_row w) (sorts_in a.sorts) (asked_row a.said) in
    let here : Among (offer_where (fits_alias w a.said) offer) c = rw a.is at among in
    let x = where_among (fits_alias w a.said) offer c here in
    let b = fits_both (same_alias a.said.head w.head) (row_length w.parts) (row_length a.said.parts) x.0 in
    record { same = alias_is_same a.said.head w.head b.0; as_many = eqb-true (row_length w.parts) (row_length a.said.parts) b.1; is = x.1 }

pub none_offered : (w : AliasAsked) (p : Tree) (c : Candidate) → IsNoProjectionRow p → Among (result_if w p (projection_of p)) c → ⊥
none_offered w p c n among = let nothing : Among (result_if w p None) c = rw n.none at among in absurd nothing

-- the clause has no positions
pub record IsFree (r : AliasAsked) : Type 0 where
  pub parts : any_label is_canonical r.parts ≡ false
  pub term : any_label is_canonical r.term ≡ false

pub said_free : (ss : Tree) (r : AliasAsked) → any_label is_canonical (assumed_projection ss r) ≡ false → IsFree r
said_free ss r h =
    let said = node (label.Clause (clause.Projection r.head)) (pair (node (label.List list.Args) r.parts) r.term) in
    let two = both_false (any_label is_canonical (node (label.List list.Sorts) ss)) (any_label is_canonical (more said empty)) h in
    let one = both_false (any_label is_canonical said) false two.1 in
    let parts = both_false (any_label is_canonical r.parts) (any_label is_canonical (more r.term empty)) one.0 in
    let term = both_false (any_label is_canonical r.term) false parts.1 in
    record { parts = parts.0; term = term.0 }

instance_of_result : (e rows p : Tree) (w : AliasAsked) (c : Candidate) (ι : Instance) (a : Application) → IsRow w.parts → AreAskedParts e (normalization_goal w.head w.parts w.term) w
    → e ≡ node (label.List list.Env) rows → IsInRow p rows → (s : IsProjectionRow p) → IsResultFor w s.sorts s.said c → IsInstanceFor c e (normalization_goal w.head w.parts w.term) ι a → IsAssumedResult a
instance_of_result e rows p w c ι a r free env among s o inst =
    let us = asked_row w in
    let hs = asked_row s.said in
    let made : a ≡ use_of (assumed_offer us (sorts_in s.sorts) hs) e (normalization_goal w.head w.parts w.term) ι a.values = rw o.is at inst.same in
    let free_rows : any_label is_canonical rows ≡ false = rw env at free.environment in
    let free_said : any_label is_canonical (assumed_projection s.sorts s.said) ≡ false = rw s.is at (row_positions p rows among free_rows) in
    let lacks = said_free s.sorts s.said free_said in
    let no_us = push_lacks is_canonical w.parts w.term r free.no_parts free.no_term in
    let no_hs = push_lacks is_canonical s.said.parts s.said.term s.formed.row lacks.parts lacks.term in
    let placed_eq : equations_of (filled_under ι.value a.values us) (filled_under ι.value a.values (positioned 0 hs)) ≡ equations_of (instance_of ι us) (valued a.values 0 (instance_of ι hs)) =
    ap (λ x. equations_of x (filled_under ι.value a.values (positioned 0 hs))) (filled_nowhere ι.value a.values us no_us)
    ∙ ap (equations_of (instance_of ι us)) (filled_positioned ι.value a.values (closed_below ι) 0 hs no_hs) in
    record {
      rows = instance_of ι rows;
      environment = ap (λ x. x.environment) made ∙ ap (instance_of ι) env;
      sorts = instance_of ι s.sorts;
      listed = listed-replace ι.value s.sorts s.listed;
      said = asked_under ι.value s.said;
      said_row = IsRow-replace ι.value s.said.parts s.formed.row;
      among = subst (λ q. IsInRow q (instance_of ι rows)) (ap (instance_of ι) s.is) (in_row-replace ι.value p rows among);
      values = subst (λ ss. AreValuesOf ss a.values) (sym (sorts-replace ι.value s.sorts s.listed)) (rw o.is at inst.values);
      asked = asked_under ι.value w;
      row = IsRow-replace ι.value w.parts r;
      same = o.same;
      as_many = row_length-replace ι.value w.parts r ∙ o.as_many ∙ sym (row_length-replace ι.value s.said.parts s.formed.row);
      conclusion = ap (λ x. x.conclusion) made;
      equations = ap (λ x. x.equations) made ∙ equations-filled ι.value a.values us (positioned 0 hs) (said_row w r) (positioned_row 0 hs (said_row s.said s.formed.row)) ∙ placed_eq ∙ moved_rows ι.value a.values w s.said r s.formed.row;
      no_goals = ap (λ x. x.goals) made;
      no_constraints = ap (λ x. x.constraints) made;
      no_hidden = ap (λ x. x.hidden) made;
    }

used_shape : (e g : Tree) (c : Candidate) (ι : Instance) (a : Application) → IsAsked e g → Among (assumed_results e (normalization_of g)) c → IsInstanceFor c e g ι a → IsNormalizing g ⊎ IsNoNormalizing g → IsAssumedResult a
used_shape e g c ι a h among inst (inl t) =
    let w = t.asked in
    let offers : Among (results_over w (rows_of e)) c = subst (λ k. Among (assumed_results e (normalization_of k)) c) t.is among in
    let here : IsAsked e (normalization_goal w.head w.parts w.term) = subst (IsAsked e) t.is h in
    let free = normalized_parts e w.head w.parts w.term here in
    let instance : IsInstanceFor c e (normalization_goal w.head w.parts w.term) ι a = subst (λ k. IsInstanceFor c e k ι a) t.is inst in
    let o = result_offered_in w e c h.formed.0 offers in
    elim (projection_shape o.from.predicate o.from.kind o.from.formed) [
      | inl s ↦ instance_of_result e o.rows o.from.predicate w c ι a t.formed.row free o.is o.from.among s (result_for w o.from.predicate c s o.from.here) instance
      | inr n ↦ absurd (none_offered w o.from.predicate c n o.from.here)
    ]
used_shape e g c ι a h among inst (inr o) =
    let nothing : Among (assumed_results e None) c = subst (λ k. Among (assumed_results e k) c) o.none among in absurd nothing

pub rules : InstancesAreRules equating
rules =
    record {
      instances = λ mode e g c ι a h among sure inst. used_shape e g c ι a h among inst (normalizes_or_not e g h);
      closed = λ mode a ι h. rule_under a ι h;
    }
