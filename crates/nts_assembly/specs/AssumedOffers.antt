-- Each rule that an environment's clauses give for an instance of a goal is an instance of what they offer for the goal.
use Rattle.std.proofs.Common.{◌≡◌, ◌⊎◌, inl, inr, ℕ, Bool, true, false, map, Some, None, refl, sym, ap, subst, ◌∙◌, eq-eqb}
use Rattle.nts_model.specs.declared.labels.Leaf.{Leaf}
use Rattle.nts_model.specs.declared.labels.ListHead.TheVariants as list
use Rattle.nts_model.specs.declared.labels.Label.TheVariants as label
use Rattle.nts_model.specs.Terms.Trees.{Tree, empty, more, node, row_length, IsRow, IsInRow, any_label, is_canonical, kind_of, environment, AllFit, is, bound_predicate, IsFormed}
use Rattle.nts_model.specs.Lists.{Among}
use Rattle.nts_model.specs.Terms.Substitutions.{replace, Instance, instance_of}
use Rattle.nts_model.specs.Derivations.Rules.{Mode, coherence, Application}
use Rattle.nts_model.specs.Refutation.Coherence.{Covers, RulesAreOffered}
use Rattle.nts_model.specs.Derivations.Handlers.{Handler, Candidate, equation_by, constraint_by, premise_by, AreValuesOf, use_of, IsInstanceFor, IsAsked}
use Rattle.nts_delegate.specs.SameHandlers.{MeansSame}
use Rattle.nts_model.specs.Terms.Substitutions.{filled_under}
use Rattle.nts_model.proofs.Terms.Substituting.{kind_of-replace, KeepsKinds}
use Rattle.nts_model.proofs.Terms.Composing.{instance_kinds}
use Rattle.nts_delegate.specs.Offers.{trait_of}
use Rattle.nts_delegate.specs.ClauseHandlers.{equations_of, trait_goal}
use Rattle.nts_delegate.specs.OwnTerms.{row_length-replace, filled_nowhere}
use Rattle.nts_delegate.specs.Both.{in_first, in_second}
use Rattle.nts_delegate.specs.HandlerLaws.{IsTraitGoal, IsOtherGoal, trait_or_other, asked_of, mapped_among, one_trait, one_row}
use Rattle.nts_assembly.specs.Assumptions.{rows_of, sorts_in, positioned, valued, assumed_offer, offer_where, fits_trait, offer_if, offers_over, assumed_offers, assumed_clause, IsAssumed, assuming}
use Rattle.nts_assembly.specs.Positioned.{filled_positioned}
use Rattle.nts_assembly.specs.Assuming.{IsTraitRow, clause_shape, row_positions, head_free, sorts-replace, equations-filled, positioned_row, closed_below}

-- an environment whose instance has rows has rows
pub record IsEnvOf (f : Leaf → Tree) (e rows : Tree) : Type 0 where
  pub own : Tree
  pub is : e ≡ node (label.List list.Env) own
  pub same : rows ≡ replace f own

abbrev pub own_rows : Tree → Tree
own_rows (node l ps) = ps
own_rows t = empty

pub env_is : (e : Tree) → kind_of e ≡ Some environment → e ≡ node (label.List list.Env) (own_rows e)
env_is (node (label.List list.Env) ps) k = refl
env_is (node (label.List list.Args) ps) k = cc
env_is (node (label.List list.Sorts) ps) k = cc
env_is (node (label.List (list.Sort s)) ps) k = cc
env_is (node (label.List list.Binder) ps) k = cc
env_is e k = cc

pub env_of : (f : Leaf → Tree) → KeepsKinds f → (e rows : Tree) → node (label.List list.Env) rows ≡ replace f e → IsEnvOf f e rows
env_of f keeps e rows q =
    let kind : kind_of e ≡ Some environment = sym (kind_of-replace f keeps e) ∙ sym (ap kind_of q) in
    let own = env_is e kind in
    let moved : node (label.List list.Env) rows ≡ node (label.List list.Env) (replace f (own_rows e)) = q ∙ ap (replace f) own in
    record { own = own_rows e; is = own; same = cc }

-- a row of an instance is the instance of a row
pub record IsRowOf (f : Leaf → Tree) (t ps : Tree) : Type 0 where
  pub predicate : Tree
  pub among : IsInRow predicate ps
  pub kind : kind_of predicate ≡ Some bound_predicate
  pub formed : IsFormed predicate
  pub same : t ≡ replace f predicate

pub row_of_instance : (f : Leaf → Tree) (t ps : Tree) → AllFit (is bound_predicate) ps → IsFormed ps → IsInRow t (replace f ps) → IsRowOf f t ps
row_of_instance f t empty h k i = absurd i
row_of_instance f t (more p ps) h k (inl e) = record { predicate = p; among = inl refl; kind = h.0; formed = k.0; same = e }
row_of_instance f t (more p ps) h k (inr i) =
    let r = row_of_instance f t ps h.1 k.1 i in
    record { predicate = r.predicate; among = inr r.among; kind = r.kind; formed = r.formed; same = r.same }
row_of_instance f t (node l c) h k i = absurd h

pub among_over : (i : ℕ) (us p ps : Tree) (c : Candidate) → IsInRow p ps → Among (offer_if i us p (trait_of p)) c → Among (offers_over i us ps) c
among_over i us p empty c m a = absurd m
among_over i us p (more q ps) c (inl e) a =
    in_first (offer_if i us q (trait_of q)) (offers_over i us ps) c (subst (λ z. Among (offer_if i us z (trait_of z)) c) e a)
among_over i us p (more q ps) c (inr m) a = in_second (offer_if i us q (trait_of q)) (offers_over i us ps) c (among_over i us p ps c m a)
among_over i us p (node l t) c m a = absurd m

pub where_true : (w : Bool) (c : Candidate) → w ≡ true → Among (offer_where w c) c
where_true true c h = inl refl
where_true false c h = cc

fits_true : (i j : ℕ) (us hs : Tree) → j ≡ i → row_length us ≡ row_length hs → fits_trait i us (j, node (label.List list.Args) hs) ≡ true
fits_true i j us hs e n = let a = eq-eqb j i e in let b = eq-eqb (row_length us) (row_length hs) n in rw a b

-- a trait's clause by its parts
record AreParts (s t : Tree) (i j : ℕ) (us vs : Tree) : Type 0 where
  pub sorts : s ≡ t
  pub traits : i ≡ j
  pub rows : us ≡ vs

parts : (s t : Tree) (i j : ℕ) (us vs : Tree) → assumed_clause s i us ≡ assumed_clause t j vs → AreParts s t i j us vs
parts s t i j us vs e = record { sorts = cc; traits = cc; rows = cc }

-- the rule is an instance of what is offered
record IsMetBy (e g : Tree) (ι : Instance) (a : Application) : Type 0 where
  pub candidate : Candidate
  pub among : Among (assumed_offers e (trait_of g)) candidate
  pub instance : IsInstanceFor candidate e g ι a

pub same_use : (a b : Application) → a.environment ≡ b.environment → a.conclusion ≡ b.conclusion → a.values ≡ b.values → a.equations ≡ b.equations → a.goals ≡ b.goals → a.constraints ≡ b.constraints → a.hidden ≡ b.hidden → a ≡ b
same_use a b e c v q g x h =
    λ j. record { environment = e j; conclusion = c j; values = v j; equations = q j; goals = g j; constraints = x j; hidden = h j }

made_of : (e us ps : Tree) (i : ℕ) (ι : Instance) (a : Application) (h : IsAssumed a) → IsRow us → any_label is_canonical e ≡ false → any_label is_canonical us ≡ false
    → e ≡ node (label.List list.Env) ps → a.environment ≡ instance_of ι e → a.conclusion ≡ instance_of ι (trait_goal i us)
    → h.of_trait ≡ i → h.with_arguments ≡ instance_of ι us → (p : Tree) → IsInRow p ps → (s : IsTraitRow p) → AreParts h.sorts (instance_of ι s.sorts) h.of_trait s.of_trait h.head (instance_of ι s.head)
    → IsMetBy e (trait_goal i us) ι a
made_of e us ps i ι a h r ne nu env in_env concludes trait args p among s q =
    let c = assumed_offer us (sorts_in s.sorts) s.head in
    let as_many : row_length us ≡ row_length s.head =
    sym (row_length-replace ι.value us r) ∙ ap row_length (sym args) ∙ h.as_many ∙ ap row_length q.rows ∙ row_length-replace ι.value s.head s.row in
    let fits = fits_true i s.of_trait us s.head (sym q.traits ∙ trait) as_many in
    let one : Among (offer_if i us p (trait_of p)) c = rw s.is (where_true (fits_trait i us (s.of_trait, node (label.List list.Args) s.head)) c fits) in
    let rows : rows_of e ≡ ps = ap rows_of env in
    let free_rows : any_label is_canonical ps ≡ false = rw env at ne in
    let free : any_label is_canonical (assumed_clause s.sorts s.of_trait s.head) ≡ false = rw s.is at (row_positions p ps among free_rows) in
    let made : map (equation_by (filled_under ι.value a.values)) (equations_of us (positioned 0 s.head)) ≡ equations_of (instance_of ι us) (valued a.values 0 (instance_of ι s.head)) =
    equations-filled ι.value a.values us (positioned 0 s.head) r (positioned_row 0 s.head s.row)
    ∙ ap (λ x. equations_of x (filled_under ι.value a.values (positioned 0 s.head))) (filled_nowhere ι.value a.values us nu)
    ∙ ap (equations_of (instance_of ι us)) (filled_positioned ι.value a.values (closed_below ι) 0 s.head (head_free s.sorts s.of_trait s.head free)) in
    let said : a.equations ≡ equations_of (instance_of ι us) (valued a.values 0 (instance_of ι s.head)) =
    h.equations ∙ ap (λ x. equations_of x (valued a.values 0 h.head)) args ∙ ap (λ x. equations_of (instance_of ι us) (valued a.values 0 x)) q.rows in
    let equations : a.equations ≡ map (equation_by (filled_under ι.value a.values)) (equations_of us (positioned 0 s.head)) = said ∙ sym made in
    let sorts : sorts_in h.sorts ≡ sorts_in s.sorts = ap sorts_in q.sorts ∙ sorts-replace ι.value s.sorts s.listed in
    record {
      candidate = c;
      among = subst (λ z. Among (offers_over i us z) c) (sym rows) (among_over i us p ps c among one);
      instance = record {
        values = subst (λ ss. AreValuesOf ss a.values) sorts h.values;
        same = same_use a (use_of c e (trait_goal i us) ι a.values) in_env concludes refl equations h.no_goals h.no_constraints h.no_hidden;
      };
    }

by_row : (e us ps : Tree) (i : ℕ) (ι : Instance) (a : Application) (h : IsAssumed a) → IsRow us → any_label is_canonical e ≡ false → any_label is_canonical us ≡ false
    → e ≡ node (label.List list.Env) ps → a.environment ≡ instance_of ι e → a.conclusion ≡ instance_of ι (trait_goal i us)
    → h.of_trait ≡ i → h.with_arguments ≡ instance_of ι us → IsRowOf ι.value (assumed_clause h.sorts h.of_trait h.head) ps → IsMetBy e (trait_goal i us) ι a
by_row e us ps i ι a h r ne nu env in_env concludes trait args w =
    elim (clause_shape w.predicate w.kind w.formed) [
      | inl s ↦
          let same : assumed_clause h.sorts h.of_trait h.head ≡ assumed_clause (instance_of ι s.sorts) s.of_trait (instance_of ι s.head) = w.same ∙ ap (instance_of ι) s.is in
          made_of e us ps i ι a h r ne nu env in_env concludes trait args w.predicate w.among s (parts _ _ _ _ _ _ same)
      | inr n ↦
          let some : trait_of (assumed_clause h.sorts h.of_trait h.head) ≡ None = ap trait_of w.same ∙ n.none_under ι.value in
          absurd (no_trait h.sorts h.of_trait h.head some)
    ]
  where
    no_trait : (ss : Tree) (i : ℕ) (hs : Tree) → trait_of (assumed_clause ss i hs) ≡ None → ⊥
    no_trait ss i hs e = cc

by_goal : (e g : Tree) (ι : Instance) (a : Application) → IsAsked e g → IsAssumed a → a.environment ≡ instance_of ι e → a.conclusion ≡ instance_of ι g → IsTraitGoal g ⊎ IsOtherGoal g → IsMetBy e g ι a
by_goal e g ι a asked h in_env concludes (inl t) =
    let here : IsAsked e (trait_goal t.of_trait t.with_arguments) = rw t.is at asked in
    let concluded : a.conclusion ≡ instance_of ι (trait_goal t.of_trait t.with_arguments) = rw t.is at concludes in
    let same = sym h.conclusion ∙ concluded in
    let trait = one_trait h.of_trait t.of_trait h.with_arguments (instance_of ι t.with_arguments) same in
    let row = one_row h.of_trait t.of_trait h.with_arguments (instance_of ι t.with_arguments) same in
    let env = env_of ι.value (instance_kinds ι) e h.rows (sym h.environment ∙ in_env) in
    let formed : IsFormed (node (label.List list.Env) env.own) = rw env.is at here.formed.0 in
    let among : IsInRow (assumed_clause h.sorts h.of_trait h.head) (replace ι.value env.own) = subst (IsInRow (assumed_clause h.sorts h.of_trait h.head)) env.same h.among in
    let free = asked_of e t.with_arguments t.of_trait here.no_positions in
    rw t.is (by_row e t.with_arguments env.own t.of_trait ι a h t.row free.environment free.arguments env.is in_env concluded trait row
    (row_of_instance ι.value (assumed_clause h.sorts h.of_trait h.head) env.own formed.0 formed.1 among))
by_goal e g ι a asked h in_env concludes (inr o) =
    let none : trait_of (trait_goal h.of_trait h.with_arguments) ≡ None = ap trait_of (sym h.conclusion ∙ concludes) ∙ o.none_under ι.value in
    absurd (no_trait h.of_trait h.with_arguments none)
  where
    no_trait : (i : ℕ) (us : Tree) → trait_of (trait_goal i us) ≡ None → ⊥
    no_trait i us e = cc

rule_is_offered : (e g : Tree) (ι : Instance) (a : Application) → IsAsked e g → IsAssumed a → a.environment ≡ instance_of ι e → a.conclusion ≡ instance_of ι g → IsMetBy e g ι a
rule_is_offered e g ι a asked h in_env concludes = by_goal e g ι a asked h in_env concludes (trait_or_other e g asked)

-- a rule that is an instance of an offered candidate is covered by it
pub instance_covers : (h : Handler) (mode : Mode) (e g : Tree) (ι : Instance) (a : Application) (c : Candidate) → Among (h.offers mode e g) c → IsInstanceFor c e g ι a → Covers h mode e g ι a
instance_covers h mode e g ι a c among inst =
    let f = filled_under ι.value a.values in
    record {
      candidate = c;
      offered = among;
      chosen = a.values;
      values = inst.values;
      of_rule = λ v j. j;
      equations = λ q j. subst (λ z. Among z (equation_by f q)) (sym (ap (λ x. x.equations) inst.same)) (mapped_among (equation_by f) c.equations q j);
      constraints = λ x j. subst (λ z. Among z (constraint_by f x)) (sym (ap (λ y. y.constraints) inst.same)) (mapped_among (constraint_by f) c.constraints x j);
      goals = λ p j. subst (λ z. Among z (premise_by f p)) (sym (ap (λ x. x.goals) inst.same)) (mapped_among (premise_by f) c.goals p j);
    }

pub RulesAreOffered-assuming : RulesAreOffered assuming
RulesAreOffered-assuming =
    record {
      covered = λ e g ι a asked h env con.
          let m = rule_is_offered e g ι a asked h env con in
          instance_covers assuming coherence e g ι a m.candidate m.among m.instance;
    }

-- it means the same in each store
pub MeansSame-assuming : MeansSame assuming assuming
MeansSame-assuming = record { applies = λ mode a. (λ x. x, λ x. x); offers = λ mode e g. refl; is_coinductive = λ i. refl; judges = refl; leaks = λ c u l. l; at_once = λ e g c x. x }
