-- Candidates that a handler left out fail, since no values meet their equations.
use Rattle.std.proofs.Common.{◌≡◌, ◌⊎◌, inl, inr, List, [], ◌∷◌, ◌++◌, Some, false, refl, ap, sym, ◌∙◌, subst, arith, length, length-append}
use Rattle.nts_model.specs.declared.labels.TyHead.{TyHead}
use Rattle.nts_model.specs.declared.labels.TyHead.TheVariants as ty
use Rattle.nts_model.specs.declared.labels.Leaf.{Leaf}
use Rattle.nts_model.specs.declared.labels.Label.TheVariants as label
use Rattle.nts_model.specs.Terms.Trees.{Tree, empty, more, node, label_of, is_alias}
use Rattle.nts_model.specs.Tables.Contents.{Content}
use Rattle.nts_model.specs.Lists.{Among}
use Rattle.nts_model.specs.Derivations.Rules.{Mode, related}
use Rattle.nts_model.specs.Terms.Substitutions.{filled_under}
use Rattle.nts_model.specs.Derivations.Handlers.{Candidate, Handler}
use Rattle.nts_meaning.specs.Telling.{Ruling, Outcomes, Replies, Fails}
use Rattle.nts_model.specs.Refutation.Choosing.{IsCandidateMet}
use Rattle.nts_delegate.specs.Relevant.{built_by, IsIrrelevant, LeavesOut}
use Rattle.nts_delegate.specs.Relevant.LeavesOut.{none, offered, left_out}
use Rattle.nts_theory.specs.Telling.Outcomes.{no_outcome, then_fails, then_replies}
use Rattle.nts_theory.specs.Telling.Fails.{has_types_apart}
use Rattle.nts_theory.specs.RelatingCandidates.{HasTypesApart}
use Rattle.nts_unify.proofs.SavedLemmas.{push_inj}
use Rattle.nts_meaning.specs.Meant.{offers_of, AreOffered}
use Rattle.nts_terms.specs.declared.handles.Goal.{Goal}
use Rattle.nts_terms.specs.declared.modes.TypingMode.{TypingMode}
use Rattle.nts_terms.specs.Modes.{mode_of}
use Rattle.nts_candidates.specs.declared.data.CandidateData.{CandidateData}
use Rattle.nts_candidates.specs.Offered.{candidates_of}
use Rattle.nts_theory.specs.Telling.{Verdict, kind_for}

some_inj : (a b : TyHead) → Some a ≡ Some b → a ≡ b
some_inj a b e = cc e

-- what is built differently is apart
built_label : (t : Tree) (h : TyHead) → built_by t ≡ Some h → (label_of t ≡ Some (label.Ty h)) × (is_alias (label.Ty h) ≡ false)
built_label (node (label.Ty (ty.Ctor i)) c) h e = (cc e, let same = some_inj (ty.Ctor i) h e in rw (← same) refl)
built_label (node (label.Ty (ty.Int i)) c) h e = (cc e, let same = some_inj (ty.Int i) h e in rw (← same) refl)
built_label (node (label.Ty (ty.Uint i)) c) h e = (cc e, let same = some_inj (ty.Uint i) h e in rw (← same) refl)
built_label (node (label.Ty (ty.Float i)) c) h e = (cc e, let same = some_inj (ty.Float i) h e in rw (← same) refl)
built_label (node (label.Ty ty.FnPtr) c) h e = (cc e, let same = some_inj ty.FnPtr h e in rw (← same) refl)
built_label (node (label.Ty ty.Error) c) h e = (cc e, let same = some_inj ty.Error h e in rw (← same) refl)
built_label (node (label.Ty (ty.Alias i)) c) h e = absurd (cc e)
built_label (node (label.Leaf x) c) h e = absurd (cc e)
built_label (node (label.Bound s i n) c) h e = absurd (cc e)
built_label (node (label.Const x) c) h e = absurd (cc e)
built_label (node (label.Clause x) c) h e = absurd (cc e)
built_label (node (label.Predicate x) c) h e = absurd (cc e)
built_label (node (label.List x) c) h e = absurd (cc e)
built_label empty h e = absurd (cc e)
built_label (more a b) h e = absurd (cc e)

built_apart : (x : Candidate) → IsIrrelevant x → HasTypesApart x
built_apart x r =
    let y = r.apart in
    let a = built_label r.left y.left y.of_left in
    let b = built_label r.right y.right y.of_right in
    record { left = r.left; right = r.right; equation = r.equation; apart = record { left = y.left; right = y.right; of_left = a.0; of_right = b.0; apart = y.apart; left_plain = a.1; right_plain = b.1 } }

-- values leave what a type is built by
built_filled : (f : Leaf → Tree) (vs : List Tree) (t : Tree) (h : TyHead) → built_by t ≡ Some h → built_by (filled_under f vs t) ≡ Some h
built_filled f vs (node (label.Ty k) c) h e = e
built_filled f vs (node (label.Leaf x) c) h e = cc e
built_filled f vs (node (label.Bound s i n) c) h e = cc e
built_filled f vs (node (label.Const x) c) h e = cc e
built_filled f vs (node (label.Clause x) c) h e = cc e
built_filled f vs (node (label.Predicate x) c) h e = cc e
built_filled f vs (node (label.List x) c) h e = cc e
built_filled f vs empty h e = cc e
built_filled f vs (more a b) h e = cc e

pub unmet : (c : Content) (x : Candidate) → IsIrrelevant x → IsCandidateMet c x → ⊥
unmet c x r m =
    let one = m.equal (related r.left r.right) r.equation in
    let left = built_filled _ m.values r.left r.apart.left r.apart.of_left in
    let right = built_filled _ m.values r.right r.apart.right r.apart.of_right in
    r.apart.apart (some_inj r.apart.left r.apart.right (sym left ∙ ap built_by one ∙ right))

-- the outcomes of one more, where there are outcomes of more than those before it
last_outcome : {h : Ruling} {mode : Mode} {c : Content} {k p : Tree} {qs : List Tree} {rs : List Verdict} (xs ys zs : List Candidate) (x : Candidate) → zs ≡ ys ++ x ∷ [] → ((ws : List Candidate) (ps : List Verdict) → ws ≡ ys → Outcomes h mode c k p qs ws ps → Outcomes h mode c k p qs xs ps) → Outcomes h mode c k p qs zs rs → Outcomes h mode c k p qs (xs ++ x ∷ []) rs
last_outcome xs ys zs x e before no_outcome = absurd (let l = ap length e in omega (arith, l, length-append ys (x ∷ [])))
last_outcome {h} {mode} {c} {k} {p} {qs} xs ys zs x e before (then_fails {xs = ws} {vs = ps} {x = w} o f) =
    let same = push_inj ws ys w x e in then_fails (before ws ps same.0 o) (subst (Fails h mode (kind_for h.handler p) c k) same.1 f)
last_outcome {h} {mode} {c} {k} {p} {qs} xs ys zs x e before (then_replies {xs = ws} {vs = ps} {x = w} {v = r} o f) =
    let same = push_inj ws ys w x e in then_replies (before ws ps same.0 o) (subst (λ z. Replies h mode c k p qs z r) same.1 f)

-- so the outcomes of the others are outcomes of all
pub all_outcomes : {h : Ruling} {mode : Mode} {c : Content} {k p : Tree} {qs : List Tree} {xs ys : List Candidate} → LeavesOut xs ys → (zs : List Candidate) (rs : List Verdict) → zs ≡ ys → Outcomes h mode c k p qs zs rs → Outcomes h mode c k p qs xs rs
all_outcomes {h} {mode} {c} {k} {p} {qs} none zs rs e o = subst (λ z. Outcomes h mode c k p qs z rs) e o
all_outcomes {h} {mode} {c} {k} {p} {qs} (left_out {xs} {ys} x l r) zs rs e o = then_fails (all_outcomes l zs rs e o) (has_types_apart (built_apart x r))
all_outcomes {h} {mode} {c} {k} {p} {qs} (offered {xs} {ys} x l) zs rs e o = last_outcome xs ys zs x e (λ ws ps q p. all_outcomes l ws ps q p) o

-- .. and each of the others is among all
before_last : {A : Type 0} (xs : List A) (x z : A) → Among xs z → Among (xs ++ x ∷ []) z
before_last [] x z i = absurd i
before_last (y ∷ xs) x z (inl e) = inl e
before_last (y ∷ xs) x z (inr i) = inr (before_last xs x z i)

at_last : {A : Type 0} (xs : List A) (x z : A) → z ≡ x → Among (xs ++ x ∷ []) z
at_last [] x z e = inl e
at_last (y ∷ xs) x z e = inr (at_last xs x z e)

last_or_before : {A : Type 0} (xs : List A) (x z : A) → Among (xs ++ x ∷ []) z → Among xs z ⊎ (z ≡ x)
last_or_before [] x z (inl e) = inr e
last_or_before [] x z (inr i) = absurd i
last_or_before (y ∷ xs) x z (inl e) = inl (inl e)
last_or_before (y ∷ xs) x z (inr i) = elim (last_or_before xs x z i) [ inl j ↦ inl (inr j) | inr e ↦ inr e ]

pub among_all : {xs ys : List Candidate} (z : Candidate) → LeavesOut xs ys → Among ys z → Among xs z
among_all z none i = absurd i
among_all z (offered {xs} {ys} x l) i = elim (last_or_before ys x z i) [ inl j ↦ before_last xs x z (among_all z l j) | inr e ↦ at_last xs x z e ]
among_all z (left_out {xs} {ys} x l r) i = before_last xs x z (among_all z l i)

-- .. so what is so of those that are left, or of irrelevant ones, is so of each
pub each_offered : {P : Candidate → Type 0} {xs ys : List Candidate} → LeavesOut xs ys → ((x : Candidate) → Among ys x → P x) → (x : Candidate) → Among xs x → P x ⊎ IsIrrelevant x
each_offered none f z i = absurd i
each_offered {P} (offered {xs} {ys} x l) f z i =
    elim (last_or_before xs x z i) [ inl j ↦ each_offered l (λ w k. f w (before_last ys x w k)) z j | inr e ↦ inl (f z (at_last ys x z e)) ]
each_offered {P} (left_out {xs} {ys} x l r) f z i =
    elim (last_or_before xs x z i) [ inl j ↦ each_offered l f z j | inr e ↦ inr (subst IsIrrelevant (sym e) r) ]

pub kept_offered : (ts : List Tree) (g : Goal) (xs : List CandidateData) (h : Handler) (mode : TypingMode) → LeavesOut (offers_of h (mode_of mode) ts g) (candidates_of ts xs) → AreOffered h mode ts g xs
kept_offered ts g xs h mode same z i = among_all z same i
