-- The handler that judges keeps the laws of a handler.
use Rattle.std.proofs.Common.{◌≡◌, ℕ, Bool, true, false, List, [], ◌∷◌, Some, None, map, refl, inl, inr, sym, ap, subst, ◌∙◌}
use Rattle.std.specs.Prelude.{if◌then◌else◌}
use Rattle.nts_model.specs.declared.labels.TyHead.TheVariants as ty
use Rattle.nts_model.specs.declared.labels.ConstHead.TheVariants as konst
use Rattle.nts_model.specs.declared.labels.Leaf.{Leaf}
use Rattle.nts_model.specs.declared.labels.Label.TheVariants as label
use Rattle.nts_model.specs.Terms.Trees.{Tree, node}
use Rattle.nts_model.specs.Terms.Substitutions.{replace, Occurs, instance_of}
use Rattle.nts_model.specs.Lists.{Among}
use Rattle.nts_model.specs.Derivations.Rules.{const_error, statement_of}
use Rattle.nts_model.specs.Derivations.Handlers.{IsOver, IsEmitted, CandidatesCommute, InstancesAreRules, JudgementsAreKept, IsLawfulHandler}
use Rattle.nts_delegate.specs.Judging.{FastAnswersHold-never}
use Rattle.nts_model.specs.Refutation.Coherence.{RulesAreOffered}
use Rattle.nts_marker.specs.Judgement.{is_constant, is_constructor, allowed, judging}

-- a term stays what it is, whatever stands for its leaves
constant_kept : (i : ℕ) (f : Leaf → Tree) (c : Tree) → is_constant i c ≡ true → is_constant i (replace f c) ≡ true
constant_kept i f (node (label.Const (konst.Unevaluated j)) ts) e = e
constant_kept i f c e = cc

constructor_kept : (i : ℕ) (f : Leaf → Tree) (t : Tree) → is_constructor i t ≡ true → is_constructor i (replace f t) ≡ true
constructor_kept i f (node (label.Ty (ty.Ctor j)) ts) e = e
constructor_kept i f t e = cc

-- what is answered only where a test says so
record IsAnswered {A : Type 0} (b : Bool) (x v : A) : Type 0 where
  so : b ≡ true
  same : x ≡ v

answered : {A : Type 0} (b : Bool) (x v : A) → (if b then Some x else None) ≡ Some v → IsAnswered b x v
answered true x v e = record { so = refl; same = cc e }
answered false x v e = absurd (let n : ⊥ = cc e in n)

-- that a feature is allowed has no leaves
no_leaves : (f : ℕ) (l : Leaf) → Occurs l (allowed f) → ⊥
no_leaves f l (inl h) = cc h
no_leaves f l (inr (inl (inl h))) = cc h
no_leaves f l (inr (inl (inr h))) = h
no_leaves f l (inr (inr (inl (inl h)))) = cc h
no_leaves f l (inr (inr (inl (inr h)))) = h
no_leaves f l (inr (inr (inr h))) = h

over : (f : ℕ) (e t : Tree) → IsOver [] e t (allowed f)
over f e t =
    record {
      names = (tt, ((tt, tt), ((tt, tt), tt)));
      leaves = λ l o. absurd (no_leaves f l o);
      formed = ((refl, (refl, tt)), ((tt, tt), ((tt, tt), tt)));
      closed = (tt, ((tt, tt), ((tt, tt), tt)));
      well_bound = (((tt, tt), ((tt, tt), tt)), ((tt, tt), ((tt, tt), tt)));
    }

goal_kept : (f : ℕ) (e t : Tree) (ps : List Tree) (p : Tree) → allowed f ∷ [] ≡ ps → Among ps p → IsOver [] e t p × IsEmitted (statement_of p)
goal_kept f e t ps p same among =
    let one : Among (allowed f ∷ []) p = subst (λ xs. Among xs p) (sym same) among in
    elim one [
      | inl h ↦ subst (λ q. IsOver [] e t q × IsEmitted (statement_of q)) (sym h) (over f e t, tt)
      | inr h ↦ absurd h
    ]

judges : (o f c d n : ℕ) → JudgementsAreKept (judging o f c d n)
judges o f c d n =
    record {
      allows = λ e g ι k a. a;
      evaluates = λ e x v ι k q.
          (let a = answered (is_constant c x) const_error v q in
          ap (λ b. if b then Some const_error else None) (constant_kept c ι.value x a.so) ∙ ap (λ y. Some (instance_of ι y)) a.same);
      well_formed = λ e t ps ι k q.
          (let a = answered (is_constructor d t) (allowed n ∷ []) ps q in
          ap (λ b. if b then Some (allowed n ∷ []) else None) (constructor_kept d ι.value t a.so) ∙ ap (λ ys. Some (map (instance_of ι) ys)) a.same);
      goals = λ e t ps p k q among.
          (let a = answered (is_constructor d t) (allowed n ∷ []) ps q in
          goal_kept n e t ps p a.same among);
    }

commute : (o f c d n : ℕ) → CandidatesCommute (judging o f c d n)
commute o f c d n = record { renaming = λ mode e g ρ plain asked. refl }

rules : (o f c d n : ℕ) → InstancesAreRules (judging o f c d n)
rules o f c d n = record { instances = λ mode e g x ι a asked among sure is. absurd among; closed = λ mode a ι m. m }

pub IsLawfulHandler-judging : (o f c d n : ℕ) → IsLawfulHandler (judging o f c d n)
IsLawfulHandler-judging o f c d n =
    record {
      commute = commute o f c d n;
      rules = rules o f c d n;
      sources = record { each = λ mode a q m among. absurd m };
      keep = record { each = λ mode e g x asked among. absurd among };
      judges = judges o f c d n;
      at_once = FastAnswersHold-never (judging o f c d n) (λ e g c x. x);
    }

-- there are no rules
pub RulesAreOffered-judging : (o f c d n : ℕ) → RulesAreOffered (judging o f c d n)
RulesAreOffered-judging o f c d n = record { covered = λ e g ι a asked m env con. absurd m }
