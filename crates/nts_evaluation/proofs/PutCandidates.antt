-- A candidate that was run holds: each of its goals is proved, or each as it is or with terms in the places of its aliases.
use Rattle.std.proofs.Common.{◌≡◌, ◌⊎◌, inl, inr, List, [], ◌∷◌, map, sym, ap, subst}
use Rattle.nts_model.specs.Lists.{Among}
use Rattle.nts_model.specs.Terms.Trees.{Tree}
use Rattle.nts_model.specs.Terms.Substitutions.{filled}
use Rattle.nts_model.specs.Tables.Contents.{Content}
use Rattle.nts_model.specs.Tables.Resolving.{Knows}
use Rattle.nts_model.proofs.Tables.Held.{Continues-refl}
use Rattle.nts_model.specs.Derivations.Sequents.{Premise}
use Rattle.nts_model.specs.Derivations.Handlers.{Candidate, certain, premise_by, AreValuesOf}
use Rattle.nts_model.specs.Derivations.Proofs.{Assumed}
use Rattle.nts_theory.specs.Telling.{IsTermTable}
use Rattle.nts_model.specs.Derivations.Rules.{Meaning, Mode, Equation, related, alike, goal_kind, statement_of, IsHandlers}
use Rattle.nts_theory.specs.RelatingCandidates.{HoldsEquationFrom, goals_with}
use Rattle.nts_meaning.specs.Evaluation.{AllKnown}
use Rattle.nts_meaning.specs.Meant.{HoldsSurely}
use Rattle.nts_meaning.specs.Running.{Stays, EachStays, EquationHolds, ConstraintHolds, PremiseHolds}
use Rattle.nts_meaning.proofs.Running.{has_run}
use Rattle.nts_trying.specs.Asking.{IsProvedAsked}
use Rattle.nts_trying.proofs.HeldRelating.{asked_at}

among_image : {X Y : Type 0} (f : X → Y) (xs : List X) (x : X) → Among xs x → Among (map f xs) (f x)
among_image f [] x i = absurd i
among_image f (y ∷ xs) x (inl e) = inl (ap f e)
among_image f (y ∷ xs) x (inr i) = inr (among_image f xs x i)

each_stays : {A : Type 0} (c : Content) (P : A → Content → Type 0) (xs : List A) (x : A) → EachStays c P xs → Among xs x → Stays c (P x)
each_stays c P [] x h i = absurd i
each_stays c P (y ∷ xs) x h (inl e) = subst (λ z. Stays c (P z)) (sym e) h.0
each_stays c P (y ∷ xs) x h (inr i) = each_stays c P xs x h.1 i

one_known : (c : Content) (vs : List Tree) (v : Tree) → AllKnown c vs → Among vs v → Knows c v
one_known c [] v h i = absurd i
one_known c (x ∷ xs) v h (inl e) = rw e h.0
one_known c (x ∷ xs) v h (inr i) = one_known c xs v h.1 i

plain_holds : (m : Meaning) (mode : Mode) (A : List Assumed) (c : Content) (e : Tree) (vs : List Tree) (q : Equation) → EquationHolds vs q c → HoldsEquationFrom m mode A c e vs q
plain_holds m mode A c e vs (related s o) h = inl h
plain_holds m mode A c e vs (alike s o) h = h

pub either_run : (m : Meaning) (mode : Mode) (A : List Assumed) (c : Content) (x : Candidate) (vs : List Tree) (e g : Tree) → IsTermTable c → x.certainty ≡ certain → AreValuesOf x.fresh vs → AllKnown c vs → EachStays c (EquationHolds vs) x.equations → EachStays c (ConstraintHolds vs) x.constraints
    → EachStays c (PremiseHolds m mode (goal_kind m g) A vs) x.goals ⊎ IsHandlers (statement_of g) × ((p : Premise) → Among (goals_with vs x.goals) p → IsProvedAsked m mode A c (goal_kind m g) p) → HoldsSurely m mode A c e g x
either_run m mode A c x vs e g t sure values known equations constraints (inl goals) =
    has_run m mode A c x vs e g t (record { sure = sure; values = values; known = known; equations = equations; constraints = constraints; goals = goals })
either_run m mode A c x vs e g t sure values known equations constraints (inr w) =
    let same = Continues-refl c t.sound in
    record {
      sure = sure;
      holds = inr (
        inr w.0,
        record {
          chosen = vs;
          values = values;
          known = λ v i. one_known c vs v known i;
          equations = λ q i. (let s = each_stays c (EquationHolds vs) x.equations q equations i in plain_holds m mode A c e vs q (s.later c t same));
          constraints = λ q i. (let s = each_stays c (ConstraintHolds vs) x.constraints q constraints i in s.later c t same);
          goals = λ q i. asked_at m mode A c (goal_kind m g) vs q (w.1 (premise_by (filled vs) q) (among_image (premise_by (filled vs)) x.goals q i));
        },
      );
    }
