-- Goals that are decided stay so where others are posed with variables in place of their aliases.
use Rattle.std.proofs.Common.{◌≡◌, inl, inr, ℕ, Bool, true, false, not, List, [], ◌∷◌, ◌++◌, refl, sym, subst}
use Rattle.nts_model.specs.declared.labels.ClauseHead.TheVariants as clause
use Rattle.nts_model.specs.declared.labels.Label.TheVariants as label
use Rattle.nts_model.specs.Terms.Trees.{Tree, node, any_label, is_alias}
use Rattle.nts_model.specs.Tables.Contents.{Content}
use Rattle.nts_model.specs.Tables.Holding.{Continues}
use Rattle.nts_model.specs.Tables.Resolving.{deeply_resolved}
use Rattle.nts_model.specs.Lists.{Among}
use Rattle.nts_model.specs.Derivations.Sequents.{Premise}
use Rattle.nts_model.specs.Derivations.Rules.{Mode, GoalKind, statement_of}
use Rattle.nts_model.specs.Derivations.Handlers.{Handler}
use Rattle.nts_theory.specs.AskedGoals.{is_engines, is_asked}
use Rattle.nts_variance_model.specs.Variances.Relations.{Relating as Pair}
use Rattle.nts_theory.specs.Posing.{TakesValues, posed_with, PutsNew, Poses, poses_none, as_it_is, with_variables}
use Rattle.nts_theory.proofs.Refutation.Answered.{among_split}
use Rattle.nts_theory.proofs.Refutation.PosedGoals.{plain_posed}
use Rattle.nts_decisions.specs.Deciding.{IsGoalDecided}
use Rattle.nts_decisions.specs.Faring.{AreDecidedIn, none_asked, next_yes, next_no, IsOfTable}
use Rattle.nts_decisions.proofs.Faring.{one_then}

-- what takes values and is asked as it stands has no alias
no_engine : (s : Tree) → TakesValues s → is_engines s ≡ false
no_engine (node (label.Clause (clause.Trait i)) ts) t = refl
no_engine (node (label.Clause (clause.HostEffect i)) ts) t = refl
no_engine (node (label.Clause (clause.Projection i)) ts) t = refl
no_engine s t = absurd t

not_true : (b : Bool) → not b ≡ true → b ≡ false
not_true false e = refl
not_true true e = absurd (cc e)

values_asked : (g : Tree) → TakesValues (statement_of g) → is_asked g ≡ true → any_label is_alias g ≡ false
values_asked g t e = (let none = no_engine (statement_of g) t in not_true (any_label is_alias g) (rw none at e))

one_alone : (xs : List Premise) (p : Premise) → xs ++ [] ≡ p ∷ [] → xs ≡ p ∷ []
one_alone [] p e = cc e
one_alone (x ∷ []) p e = e
one_alone (x ∷ y ∷ ys) p e = cc e

put_alone : (k : GoalKind) (c d : Content) (p : Premise) (xs : List Premise) → PutsNew k c p d xs → any_label is_alias p.predicate ≡ false → xs ≡ p ∷ []
put_alone k c d p xs one e =
    one_alone xs p (plain_posed k c d (p ∷ []) (xs ++ []) (with_variables p xs one poses_none) (λ q i. elim i [ inl s ↦ subst (λ (z : Premise). any_label is_alias z.predicate ≡ false) (sym s) e | inr j ↦ absurd j ])).1

module _ (h : Handler) (mode : Mode) (n : ℕ) (c d : Content) (later : Continues c d) where
  abbrev IsAskedHere : Premise → Type 0
  IsAskedHere p = (m : ℕ) (b : Bool) → IsGoalDecided h mode m (deeply_resolved c p.environment) (deeply_resolved c p.predicate) b → is_asked p.predicate ≡ true

  head_then : (p : Premise) (others : List Premise) (b : Bool) (ps : List Premise) → IsOfTable c p → AreDecidedIn h mode n c (p ∷ ps) b → (AreDecidedIn h mode n c ps b → AreDecidedIn h mode n d others b) → AreDecidedIn h mode n d (p ∷ others) b
  head_then p others b ps own (next_yes m l x rest) f = next_yes m l (one_then h mode m c d p true later own x) (f rest)
  head_then p others b ps own (next_no m l x) f = next_no m l (one_then h mode m c d p false later own x)

  head_asked : (p : Premise) (b : Bool) (ps : List Premise) → IsAskedHere p → AreDecidedIn h mode n c (p ∷ ps) b → is_asked p.predicate ≡ true
  head_asked p b ps asked (next_yes m l x rest) = asked m true x
  head_asked p b ps asked (next_no m l x) = asked m false x

  pub decided_posed : (k : GoalKind) (from to : Content) (ps qs : List Premise) → Poses k from ps to qs → (b : Bool) → ((p : Premise) → Among ps p → IsOfTable c p) → ((p : Premise) → Among ps p → IsAskedHere p) → AreDecidedIn h mode n c ps b → AreDecidedIn h mode n d qs b
  decided_posed k from to ps qs poses_none b own asked none_asked = none_asked
  decided_posed k from to ps qs (as_it_is {ps = rest} {qs = others} p x) b own asked decided =
      head_then p others b rest (own p (inl refl)) decided (λ r. decided_posed k from to rest others x b (λ q i. own q (inr i)) (λ q i. asked q (inr i)) r)
  decided_posed k from to ps qs (with_variables {d = between} {ps = rest} {qs = others} p xs one x) b own asked decided =
      let alone : xs ≡ p ∷ [] = put_alone k from between p xs one (values_asked p.predicate one.says (head_asked p b rest (asked p (inl refl)) decided)) in
      subst (λ z. AreDecidedIn h mode n d (z ++ others) b) (sym alone)
      (head_then p others b rest (own p (inl refl)) decided (λ r. decided_posed k between to rest others x b (λ q i. own q (inr i)) (λ q i. asked q (inr i)) r))

with_environment : (k : GoalKind) (p : Premise) (zs : List Pair) (g : Tree) (P : Tree → Type 0) → P p.environment → (q : Premise) → Among (posed_with k p zs g) q → P q.environment
with_environment k p [] g P x q (inl e) = subst (λ (z : Premise). P z.environment) (sym e) x
with_environment k p [] g P x q (inr i) = absurd i
with_environment k p (z ∷ zs) g P x q (inl e) = subst (λ (y : Premise). P y.environment) (sym e) x
with_environment k p (z ∷ zs) g P x q (inr i) = with_environment k p zs g P x q i

-- an environment of what is posed is one of what was there
pub posed_environment : (k : GoalKind) (c d : Content) (ps qs : List Premise) → Poses k c ps d qs → (P : Tree → Type 0) → ((p : Premise) → Among ps p → P p.environment) → (q : Premise) → Among qs q → P q.environment
posed_environment k c d ps qs poses_none P f q i = absurd i
posed_environment k c d ps qs (as_it_is {ps = rest} {qs = others} p x) P f q (inl e) = subst (λ (z : Premise). P z.environment) (sym e) (f p (inl refl))
posed_environment k c d ps qs (as_it_is {ps = rest} {qs = others} p x) P f q (inr i) = posed_environment k c d rest others x P (λ r j. f r (inr j)) q i
posed_environment k c d ps qs (with_variables {d = m} {ps = rest} {qs = others} p xs one x) P f q i = elim (among_split xs others q i) [
  | inl j ↦ with_environment k p one.pairs one.goal P (f p (inl refl)) q (subst (λ z. Among z q) one.posed j)
  | inr j ↦ posed_environment k m d rest others x P (λ r l. f r (inr l)) q j
]
