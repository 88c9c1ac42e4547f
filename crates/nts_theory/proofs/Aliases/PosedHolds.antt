-- Goals that are posed with variables in the places of aliases: where all that was posed is proved, each goal is, as it is or with these.
use Rattle.std.proofs.Common.{◌⊎◌, inl, inr, List, [], ◌∷◌, refl, sym, ap, subst}
use Rattle.nts_model.specs.declared.labels.Variance.TheVariants as variance
use Rattle.nts_model.specs.Terms.Trees.{Tree}
use Rattle.nts_model.specs.Tables.Contents.{Content}
use Rattle.nts_model.specs.Tables.Resolving.{Knows}
use Rattle.nts_model.specs.Lists.{Among}
use Rattle.nts_model.specs.Derivations.Related.{alias_goal}
use Rattle.nts_model.specs.Derivations.Sequents.{Premise}
use Rattle.nts_model.specs.Derivations.Rules.{Meaning, Mode, GoalKind, Replaced, chosen, kept_empty, kept_more, kept_node, choice, step_kind}
use Rattle.nts_model.specs.Derivations.Proofs.{Assumed, passed}
use Rattle.nts_model.specs.Derivations.Proving.{IsTermOf}
use Rattle.nts_model.specs.Searching.Stacks.{IsProvedFrom}
use Rattle.nts_model.proofs.Lists.{among_left, among_right}
use Rattle.nts_model.proofs.Tables.Slots.{KeepsKinds, KeepsKinds-refl, KeepsKinds-trans, Knows-kept}
use Rattle.nts_variance_model.specs.Variances.Relations.{Relating as Pair}
use Rattle.nts_theory.specs.Posing.{equal_pair, HasPut, put_alias, put_empty, put_more, put_node, posed_with, PutsNew, Poses, poses_none, as_it_is, with_variables}
use Rattle.nts_theory.specs.RelatingCandidates.{IsProvedPut}
use Rattle.nts_theory.proofs.Derivations.Monotone.{replaced_more}
use Rattle.nts_theory.proofs.Refutation.Choosing.{fresh_known}

-- what is put takes the places of aliases
pub put_replaced : {zs : List Pair} {t u : Tree} → HasPut zs t u → Replaced (λ a v. Among zs (equal_pair a v)) t u
put_replaced (put_alias i c) = chosen i c (inl refl)
put_replaced put_empty = kept_empty
put_replaced (put_more {ps = zs} {qs = ys} h k) = kept_more (replaced_more (λ a v i. among_left zs ys (equal_pair a v) i) (put_replaced h)) (replaced_more (λ a v i. among_right zs ys (equal_pair a v) i) (put_replaced k))
put_replaced (put_node n h) = kept_node n (put_replaced h)

-- terms of the table stay terms of it
pub puts_keep : (k : GoalKind) (c d : Content) (p : Premise) (ps : List Premise) → PutsNew k c p d ps → KeepsKinds c d
puts_keep k c d p ps x = (let f = fresh_known c.universe x.sorts x.variables c d x.fresh in f.keeps)

pub poses_keep : (k : GoalKind) (c d : Content) (ps qs : List Premise) → Poses k c ps d qs → KeepsKinds c d
poses_keep k c d ps qs poses_none = KeepsKinds-refl c
poses_keep k c d ps qs (as_it_is {ps = rest} {qs = others} p x) = poses_keep k c d rest others x
poses_keep k c d ps qs (with_variables {d = m} {ps = rest} {qs = others} p xs one x) = KeepsKinds-trans (puts_keep k c m p xs one) (poses_keep k m d rest others x)

pair_among : (k : GoalKind) (p : Premise) (zs : List Pair) (g : Tree) (z : Pair) → Among zs z → Among (posed_with k p zs g) (choice k p z.left z.right)
pair_among k p (y ∷ zs) g z (inl e) = inl (ap (λ (r : Pair). choice k p r.left r.right) e)
pair_among k p (y ∷ zs) g z (inr i) = inr (pair_among k p zs g z i)
pair_among k p [] g z i = absurd i

last_among : (k : GoalKind) (p : Premise) (zs : List Pair) (g : Tree) → Among (posed_with k p zs g) (record p { predicate = g })
last_among k p [] g = inl refl
last_among k p (y ∷ zs) g = inr (last_among k p zs g)

module _ (m : Meaning) (mode : Mode) (A : List Assumed) (k : GoalKind) (f : Content) where
  abbrev pub IsProvedHere : Premise → Type 0
  IsProvedHere q = IsProvedFrom m mode (passed (step_kind k q.source) A) f q.environment q.predicate

  pub put_holds : (c d : Content) (p : Premise) (ps : List Premise) → PutsNew k c p d ps → KeepsKinds d f → ((q : Premise) → Among ps q → IsProvedHere q) → IsProvedPut m mode A f k p
  put_holds c d p ps x keeps proved =
      let all : (q : Premise) → Among (posed_with k p x.pairs x.goal) q → Among ps q = λ q i. subst (λ z. Among z q) (sym x.posed) i in
      let first = KeepsKinds-trans (puts_keep k c d p ps x) keeps in
      record {
        environment = record { knows = Knows-kept c f p.environment first x.knows.0; formed = x.formed.0 };
        predicate = record { knows = Knows-kept c f p.predicate first x.knows.1; formed = x.formed.1 };
        says = x.says;
        goal = x.goal;
        replaced = replaced_more (λ a v i. each a v (all (choice k p a v) (pair_among k p x.pairs x.goal (equal_pair a v) i))) (put_replaced x.put);
        proved = proved (record p { predicate = x.goal }) (all (record p { predicate = x.goal }) (last_among k p x.pairs x.goal));
      }
    where
      each : (a v : Tree) → Among ps (choice k p a v) → IsTermOf f v × IsProvedHere (choice k p a v)
      each a v i =
          let t = x.terms (choice k p a v) i in
          let known : Knows d (alias_goal variance.Invariant a v) = t.1 in
          let formed = t.2 in
          (record { knows = Knows-kept d f v keeps known.1.1.0.1.1.0; formed = formed.1.1.0.1.1.0 }, proved (choice k p a v) i)

  pub all_hold : (c d : Content) (ps qs : List Premise) → Poses k c ps d qs → KeepsKinds d f → ((q : Premise) → Among qs q → IsProvedHere q) → (p : Premise) → Among ps p → IsProvedHere p ⊎ IsProvedPut m mode A f k p
  all_hold c d ps qs poses_none keeps proved p i = absurd i
  all_hold c d ps qs (as_it_is q x) keeps proved p (inl e) = inl (subst IsProvedHere (sym e) (proved q (inl refl)))
  all_hold c d ps qs (as_it_is {ps = rest} {qs = others} q x) keeps proved p (inr i) = all_hold c d rest others x keeps (λ y j. proved y (inr j)) p i
  all_hold c d ps qs (with_variables {d = n} {ps = rest} {qs = others} q xs one x) keeps proved p (inl e) =
      inr (subst (IsProvedPut m mode A f k) (sym e) (put_holds c n q xs one (KeepsKinds-trans (poses_keep k n d rest others x) keeps) (λ y j. proved y (among_left xs others y j))))
  all_hold c d ps qs (with_variables {d = n} {ps = rest} {qs = others} q xs one x) keeps proved p (inr i) = all_hold n d rest others x keeps (λ y j. proved y (among_right xs others y j)) p i
