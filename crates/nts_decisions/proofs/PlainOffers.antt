-- What a handler offers for a goal has no aliases in its equations, where what it offers for all goals that are it but for regions has none.
use Rattle.std.proofs.Common.{◌≡◌, inl, inr, Bool, true, false, List, [], ◌∷◌, map, refl, sym, ap, ◌∙◌, subst}
use Rattle.std.specs.Prelude.{◌&&◌, ◌||◌}
use Rattle.nts_model.specs.Terms.Trees.{Tree, any_label, is_alias, kind_of, IsFormed}
use Rattle.nts_model.specs.Lists.{Among}
use Rattle.nts_model.specs.Derivations.Rules.{Equation, related, alike}
use Rattle.nts_model.specs.Derivations.Handlers.{Candidate, equation_by, IsCandidateFor}
use Rattle.nts_model.specs.Refutation.Choosing.{left_of, right_of}
use Rattle.nts_theory.specs.RelatingCandidates.{may_be_argument, relates_aliases, aliased_equations, HasPlainEquations}
use Rattle.nts_theory.specs.Affirming.{IsOwnWay, by_type, by_goals}
use Rattle.nts_model.specs.Derivations.Handlers.{Judgements}
use Rattle.nts_model.specs.Derivations.Related.{value}
use Rattle.nts_model.proofs.Terms.Unpositioned.{or_false}
use Rattle.nts_decisions.specs.Deciding.{blurred, blurred_candidate, HasNoAliases, IsFormedCandidate}
use Rattle.nts_decisions.proofs.DecidingRenamed.{labels_renamed, left_by, right_by}
use Rattle.nts_decisions.proofs.DecidedOpening.{as_leaves}
use Rattle.nts_decisions.proofs.BlurredWorlds.{merged_leaf}
use Rattle.nts_decisions.proofs.Faring.{among_by}

both_false : (x y z : Bool) → y ≡ false → z ≡ false → x && (y || z) ≡ false
both_false true y z e h = rw (e, h) refl
both_false false y z e h = refl

pub relates_none : (q : Equation) → HasNoAliases q → relates_aliases q ≡ false
relates_none (related a b) n = both_false (may_be_argument (kind_of b)) (any_label is_alias a) (any_label is_alias b) n.0 n.1
relates_none (alike a b) n = refl

pub none_relates : (qs : List Equation) → ((q : Equation) → Among qs q → relates_aliases q ≡ false) → aliased_equations qs ≡ []
none_relates [] f = refl
none_relates (x ∷ qs) f = (let e = f x (inl refl) in rw e (none_relates qs (λ q i. f q (inr i))))

pub alias_blurred : (t : Tree) → IsFormed t → any_label is_alias (blurred t) ≡ any_label is_alias t
alias_blurred t f = ap (any_label is_alias) (as_leaves t) ∙ labels_renamed is_alias merged_leaf (λ l. refl) t f

sides_formed : (e g : Tree) (x : Candidate) → IsCandidateFor e g x → (q : Equation) → Among x.equations q → IsFormed (left_of q) × IsFormed (right_of q)
sides_formed e g x k (related a b) i = (let y = k.equations (related a b) i in (let l = y.0 in l.formed, let r = y.1 in r.formed))
sides_formed e g x k (alike a b) i = (let y = k.equations (alike a b) i in (let l = y.0 in l.formed, let r = y.1 in r.formed))

pub offered_plain : (e g : Tree) (xs ys : List Candidate) → ((y : Candidate) → Among ys y → IsCandidateFor e g y) → map blurred_candidate ys ≡ xs → ((x : Candidate) → Among xs x → IsFormedCandidate x) → (y : Candidate) → Among ys y → HasPlainEquations y
offered_plain e g xs ys keeps same formed y i =
    none_relates y.equations
    (λ q j.
    let there = subst (λ z. Among z (blurred_candidate y)) same (among_by blurred_candidate ys y i) in
    let f = formed (blurred_candidate y) there in
    let n = f.no_aliases (equation_by blurred q) (among_by (equation_by blurred) y.equations q j) in
    let k = sides_formed e g y (keeps y i) q j in
    relates_none q (sym (alias_blurred (left_of q) k.0) ∙ ap (any_label is_alias) (sym (left_by blurred q)) ∙ n.0, sym (alias_blurred (right_of q) k.1) ∙ ap (any_label is_alias) (sym (right_by blurred q)) ∙ n.1))

-- .. nor has the one way of a goal in which no alias stands
pub way_plain : (j : Judgements) (e s : Tree) (x : Candidate) → IsOwnWay j e s x → any_label is_alias s ≡ false → HasPlainEquations x
way_plain j e s x (by_type {b = b} {u = u} {t = t}) none =
    let outer = or_false (any_label is_alias (value b u)) (any_label is_alias t || false) none in
    let left = or_false (any_label is_alias u) false outer.0 in
    let right = or_false (any_label is_alias t) false outer.1 in
    none_relates (related u t ∷ []) (λ q i. elim i [ inl same ↦ rw same (relates_none (related u t) (left.0, right.0)) | inr k ↦ absurd k ])
way_plain j e s x (by_goals q) none = refl
