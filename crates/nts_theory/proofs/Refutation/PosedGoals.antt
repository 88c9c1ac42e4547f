-- Goals in which no alias stands are posed as they are.
use Rattle.std.proofs.Common.{◌≡◌, inl, inr, false, ℕ, List, [], ◌∷◌, refl, ap, subst, ◌∙◌}
use Rattle.nts_model.specs.declared.labels.Sort.{Sort}
use Rattle.nts_model.specs.Terms.Trees.{Tree, empty, more, node, any_label, is_alias}
use Rattle.nts_model.specs.Tables.Contents.{Content}
use Rattle.nts_model.specs.Lists.{Among}
use Rattle.nts_model.specs.Derivations.Related.{IsAlias}
use Rattle.nts_model.specs.Derivations.Sequents.{Premise}
use Rattle.nts_model.specs.Derivations.Rules.{Mode, coherence, post_analysis, erased, analysis, borrowck, post_borrowck, GoalKind}
use Rattle.nts_model.specs.Refutation.Choosing.{Freshens}
use Rattle.nts_model.proofs.Tables.AliasLabels.{not_alias}
use Rattle.nts_variance_model.specs.Variances.Relations.{Relating as Pair}
use Rattle.nts_theory.specs.Posing.{AreOfSorts, HasPut, put_alias, put_empty, put_more, put_node, posed_with, PutsNew, Poses, poses_none, as_it_is, with_variables, PosesIn}
use Rattle.nts_theory.proofs.Refutation.PlainTerms.{either_false}

-- no goals are posed as none
nothing_posed : (k : GoalKind) (c d : Content) (ps qs : List Premise) → Poses k c ps d qs → ps ≡ [] → qs ≡ []
nothing_posed k c d ps qs poses_none e = refl
nothing_posed k c d ps qs (as_it_is p rest) e = cc e
nothing_posed k c d ps qs (with_variables p xs one rest) e = cc e

pub no_goals_posed : (mode : Mode) (k : GoalKind) (c d : Content) (ps qs : List Premise) → PosesIn mode k c ps d qs → ps ≡ [] → qs ≡ []
no_goals_posed coherence k c d ps qs x e = nothing_posed k c d ps qs x e
no_goals_posed post_analysis k c d ps qs x e = x.1 ∙ e
no_goals_posed erased k c d ps qs x e = x.1 ∙ e
no_goals_posed (analysis l) k c d ps qs x e = x.1 ∙ e
no_goals_posed (borrowck l) k c d ps qs x e = x.1 ∙ e
no_goals_posed (post_borrowck l) k c d ps qs x e = x.1 ∙ e

-- where no alias stands, nothing is put
alias_labelled : (a : Tree) → IsAlias a → any_label is_alias a ≡ false → ⊥
alias_labelled empty x e = (let h = x.is in cc h)
alias_labelled (more a b) x e = (let h = x.is in cc h)
alias_labelled (node l c) x e = not_alias l c (either_false (is_alias l) (any_label is_alias c) e).0 x

nothing_put : {zs : List Pair} {p q : Tree} → HasPut zs p q → any_label is_alias p ≡ false → (zs ≡ []) × (q ≡ p)
nothing_put {p = p} (put_alias i c) e = absurd (alias_labelled p i e)
nothing_put put_empty e = (refl, refl)
nothing_put (put_more {ps = zs} {qs = ys} {a = a} {b = b} {s = s} {t = t} h k) e =
    let both = either_false (any_label is_alias a) (any_label is_alias s) e in
    let x = nothing_put h both.0 in
    let y = nothing_put k both.1 in
    (rw (x.0, y.0) refl, rw (x.1, y.1) refl)
nothing_put (put_node {l = l} {c = c} {d = d} n h) e = (let x = nothing_put h (either_false (is_alias l) (any_label is_alias c) e).1 in (x.0, ap (node l) x.1))

no_sorts : (ss : List Sort) → AreOfSorts ss [] → ss ≡ []
no_sorts [] h = refl
no_sorts (s ∷ ss) h = absurd h

none_fresh : (u : ℕ) (ss : List Sort) (ts : List Tree) (c d : Content) → ss ≡ [] → Freshens u ss ts c d → d ≡ c
none_fresh u [] [] c d e h = h
none_fresh u [] (t ∷ ts) c d e h = absurd h
none_fresh u (s ∷ ss) ts c d e h = cc e

plain_put : (k : GoalKind) (c d : Content) (p : Premise) (ps : List Premise) → PutsNew k c p d ps → any_label is_alias p.predicate ≡ false → (d ≡ c) × (ps ≡ p ∷ [])
plain_put k c d p ps x e =
    let n = nothing_put x.put e in
    let none = no_sorts x.sorts (subst (AreOfSorts x.sorts) n.0 x.of_sorts) in
    (none_fresh c.universe x.sorts x.variables c d none x.fresh, x.posed ∙ ap (λ z. posed_with k p z x.goal) n.0 ∙ ap (λ z. record p { predicate = z } ∷ []) n.1)

-- so goals without aliases are posed as they are
pub plain_posed : (k : GoalKind) (c d : Content) (ps qs : List Premise) → Poses k c ps d qs → ((p : Premise) → Among ps p → any_label is_alias p.predicate ≡ false) → (d ≡ c) × (qs ≡ ps)
plain_posed k c d ps qs poses_none none = (refl, refl)
plain_posed k c d ps qs (as_it_is {ps = rest} {qs = others} p x) none = (let y = plain_posed k c d rest others x (λ z i. none z (inr i)) in (y.0, ap (λ z. p ∷ z) y.1))
plain_posed k c d ps qs (with_variables {d = m} {ps = rest} {qs = others} p xs one x) none =
    let h = plain_put k c m p xs one (none p (inl refl)) in
    let y = plain_posed k m d rest others x (λ z i. none z (inr i)) in
    (y.0 ∙ h.0, rw (h.1, y.1) refl)

pub plain_posed_in : (mode : Mode) (k : GoalKind) (c d : Content) (ps qs : List Premise) → PosesIn mode k c ps d qs → ((p : Premise) → Among ps p → any_label is_alias p.predicate ≡ false) → (d ≡ c) × (qs ≡ ps)
plain_posed_in coherence k c d ps qs x none = plain_posed k c d ps qs x none
plain_posed_in post_analysis k c d ps qs x none = x
plain_posed_in erased k c d ps qs x none = x
plain_posed_in (analysis l) k c d ps qs x none = x
plain_posed_in (borrowck l) k c d ps qs x none = x
plain_posed_in (post_borrowck l) k c d ps qs x none = x

-- each may be posed as it is
pub posed_as_it_is : (k : GoalKind) (c : Content) (ps : List Premise) → Poses k c ps c ps
posed_as_it_is k c [] = poses_none
posed_as_it_is k c (p ∷ ps) = as_it_is p (posed_as_it_is k c ps)

pub posed_in_as_it_is : (mode : Mode) (k : GoalKind) (c : Content) (ps : List Premise) → PosesIn mode k c ps c ps
posed_in_as_it_is coherence k c ps = posed_as_it_is k c ps
posed_in_as_it_is post_analysis k c ps = (refl, refl)
posed_in_as_it_is erased k c ps = (refl, refl)
posed_in_as_it_is (analysis l) k c ps = (refl, refl)
posed_in_as_it_is (borrowck l) k c ps = (refl, refl)
posed_in_as_it_is (post_borrowck l) k c ps = (refl, refl)

pub none_posed : (mode : Mode) (k : GoalKind) (c d : Content) (ps qs : List Premise) → PosesIn mode k c ps d qs → ps ≡ [] → (d ≡ c) × (qs ≡ [])
none_posed mode k c d ps qs x e = (let y = plain_posed_in mode k c d ps qs x (λ p i. absurd (subst (λ z. Among z p) e i)) in (y.0, y.1 ∙ e))
