-- A handler made of clauses over their own terms keeps the laws.
use Rattle.std.proofs.Common.{◌≡◌, subst, ◌⊎◌, inl, inr, ℕ, ◌==◌, ◌||◌, Bool, true, false, cond, List, [], ◌∷◌, map, None, refl, sym, ap, ◌∙◌, eqb-true}
use Rattle.std.specs.List.{filter}
use Rattle.nts_model.specs.declared.labels.Sort.{Sort}
use Rattle.nts_model.specs.declared.labels.Leaf.{Leaf}
use Rattle.nts_model.specs.declared.labels.ClauseHead.TheVariants as clause
use Rattle.nts_model.specs.declared.labels.PredicateHead.TheVariants as predicate
use Rattle.nts_model.specs.declared.labels.ListHead.TheVariants as list
use Rattle.nts_model.specs.declared.labels.Label.TheVariants as label
use Rattle.nts_model.specs.Terms.Trees.{Tree, empty, more, node, children, any_label, is_canonical, row_length, IsRow, IsClosed, IsFormed, AllFit, any_argument, HavePlaces}
use Rattle.nts_model.specs.Terms.Trees as trees
use Rattle.nts_model.specs.Terms.Substitutions.{leaf_tree, replace, Instance, instance_of, Renaming, rename, IsPlain, filled, filled_under}
use Rattle.nts_model.specs.Derivations.Related.{pair, unbound, arguments}
use Rattle.nts_model.specs.Lists.{Among}
use Rattle.nts_model.specs.Derivations.Sequents.{Premise}
use Rattle.nts_model.specs.Derivations.Rules.{Equation, Application, statement_of, IsHandlers}
use Rattle.nts_model.proofs.Tables.Under.{eq-self}
use Rattle.nts_model.specs.Refutation.Coherence.{Covers, RulesAreOffered}
use Rattle.nts_model.specs.Derivations.Rules.{coherence}
use Rattle.nts_model.specs.Derivations.Handlers.{Candidate, equation_by, premise_by, AreValuesOf, use_of, IsInstanceFor, application_under, renamed_candidate, IsAsked, IsOver, IsEquationOver, IsEmitted, IsNested, IsCandidateFor, CandidatesCommute, InstancesAreRules, RulesHaveSources, IsHandlersSource, CandidatesKeep, IsLawfulHandler, kind_of_sort}
use Rattle.nts_model.proofs.Terms.Composing.{IsFormed-instance, IsClosed-instance, Fits-instance}
use Rattle.nts_terms.proofs.Standing.{args_tree}
use Rattle.nts_delegate.specs.Clauses.{is_foreign}
use Rattle.nts_delegate.specs.Offers.{trait_of}
use Rattle.nts_delegate.specs.Judging.{objects_judged, FastAnswersHold-never}
use Rattle.nts_delegate.specs.ClauseHandlers.{offers_of_clauses, ClauseTree, ClausesOfTraits, equations_of, asked_in, trait_goal, IsInstanceOfClause, offer_by, takes_all, offers_by, handler_by}
use Rattle.nts_delegate.specs.OwnTerms.{both_false, KeepsFixed, names_nothing, leaves_fixed, IsRow-replace, row_length-replace}
use Rattle.nts_delegate.specs.OwnClauses.{IsOwnTerm, AreOwnTerms, IsOwnClause, AreOwnClauses, AreOwn, own_among, replaced_equations, filled_equations, moved_equations, replaced_goals, filled_goals, moved_goals}
use Rattle.nts_model.proofs.Terms.Substituting.{no_children as no_places}

-- a goal that is asked is a trait's, or has no offers
pub record IsTraitGoal (g : Tree) : Type 0 where
  pub of_trait : ℕ
  pub with_arguments : Tree
  pub row : IsRow with_arguments
  pub is : g ≡ trait_goal of_trait with_arguments

pub record IsOtherGoal (g : Tree) : Type 0 where
  pub none : trait_of g ≡ None
  pub none_under : (f : Leaf → Tree) → trait_of (replace f g) ≡ None

pub record AreArguments (ts : Tree) : Type 0 where
  pub with_arguments : Tree
  pub row : IsRow with_arguments
  pub is : ts ≡ arguments with_arguments

pub row_of : (t : Tree) → AllFit any_argument t → IsRow t
row_of empty h = tt
row_of (more a b) h = row_of b h.1
row_of (node l c) h = absurd h

pub one_list : (ts : Tree) → HavePlaces (trees.is trees.arguments ∷ []) ts → IsFormed ts → AreArguments ts
one_list empty p f = absurd p
one_list (more a b) p f =
    let listed : a ≡ node (label.List list.Args) (children a) = args_tree a p.0 in
    let formed : IsFormed (node (label.List list.Args) (children a)) = rw listed at f.0 in
    record {
      with_arguments = children a;
      row = row_of (children a) formed.0;
      is = cc (listed, no_places b p.1);
    }
one_list (node l c) p f = absurd p

goal_shape : (s : Tree) → IsHandlers s → IsFormed s → IsTraitGoal (unbound s) ⊎ IsOtherGoal (unbound s)
goal_shape (node (label.Clause (clause.Trait i)) ts) h f =
    let a = one_list ts f.0 f.1 in
    inl (record { of_trait = i; with_arguments = a.with_arguments; row = a.row; is = ap (λ x. unbound (node (label.Clause (clause.Trait i)) x)) a.is })
goal_shape (node (label.Clause (clause.HostEffect i)) ts) h f = inr (record { none = refl; none_under = λ g. refl })
goal_shape (node (label.Clause (clause.Projection i)) ts) h f = inr (record { none = refl; none_under = λ g. refl })
goal_shape (node (label.Predicate (predicate.NormalizesTo i)) ts) h f = inr (record { none = refl; none_under = λ g. refl })
goal_shape s h f = absurd h

pub formed_goal : (e g : Tree) → (h : IsAsked e g) → IsFormed (pair e (unbound h.statement))
formed_goal e g h = rw h.binds_nothing at h.formed

pub trait_or_other : (e g : Tree) → IsAsked e g → IsTraitGoal g ⊎ IsOtherGoal g
trait_or_other e g h = rw h.binds_nothing (goal_shape h.statement h.handlers (formed_goal e g h).1.0.1.1.0)

-- what the clauses that take as many arguments offer
pub record IsOfferOf (cs : List ClauseTree) (e us : Tree) (c : Candidate) : Type 0 where
  pub of_clause : ClauseTree
  pub among : Among cs of_clause
  pub takes : takes_all us of_clause ≡ true
  pub is : c ≡ offer_by e us of_clause

offer_later : (cs : List ClauseTree) (d : ClauseTree) (e us : Tree) (c : Candidate) → IsOfferOf cs e us c → IsOfferOf (d ∷ cs) e us c
offer_later cs d e us c o =
    record { of_clause = o.of_clause; among = inr o.among; takes = o.takes; is = o.is }

offer_first : (cs : List ClauseTree) (d : ClauseTree) (e us : Tree) (c : Candidate) → (Among (map (offer_by e us) (filter (takes_all us) cs)) c → IsOfferOf cs e us c) → (w : Bool) → takes_all us d ≡ w → Among (map (offer_by e us) (cond w (d ∷ filter (takes_all us) cs) (filter (takes_all us) cs))) c → IsOfferOf (d ∷ cs) e us c
offer_first cs d e us c rest true t (inl i) = record { of_clause = d; among = inl refl; takes = t; is = i }
offer_first cs d e us c rest true t (inr b) = offer_later cs d e us c (rest b)
offer_first cs d e us c rest false t b = offer_later cs d e us c (rest b)

pub offer_among : (cs : List ClauseTree) (e us : Tree) (c : Candidate) → Among (map (offer_by e us) (filter (takes_all us) cs)) c → IsOfferOf cs e us c
offer_among [] e us c a = absurd a
offer_among (d ∷ cs) e us c a = offer_first cs d e us c (λ b. offer_among cs e us c b) (takes_all us d) refl a

-- candidates commute with plain renaming
keeps_renamed : (ρ : Renaming) → IsPlain ρ → KeepsFixed (λ l. leaf_tree (ρ.to l))
keeps_renamed ρ p r s = ap leaf_tree (p r s)

offer_renamed : (ρ : Renaming) → IsPlain ρ → (e us : Tree) → IsRow us → (c : ClauseTree) → IsOwnClause c → offer_by (rename ρ e) (rename ρ us) c ≡ renamed_candidate ρ (offer_by e us c)
offer_renamed ρ p e us r c o =
    let k = keeps_renamed ρ p in
    let equations = replaced_equations (λ l. leaf_tree (ρ.to l)) k c.fresh us c.head r o.head in
    let goals = replaced_goals (λ l. leaf_tree (ρ.to l)) k c.fresh e c.body o.body in
    cc (equations, goals)

offers_renamed_case : (ρ : Renaming) (e us : Tree) (c : ClauseTree) (xs : List ClauseTree) (ys : List ClauseTree) → offer_by (rename ρ e) (rename ρ us) c ≡ renamed_candidate ρ (offer_by e us c) → map (offer_by (rename ρ e) (rename ρ us)) xs ≡ map (renamed_candidate ρ) (map (offer_by e us) ys) → (w : Bool) → map (offer_by (rename ρ e) (rename ρ us)) (cond w (c ∷ xs) xs) ≡ map (renamed_candidate ρ) (map (offer_by e us) (cond w (c ∷ ys) ys))
offers_renamed_case ρ e us c xs ys one rest true = cc (one, rest)
offers_renamed_case ρ e us c xs ys one rest false = rest

pub offers_renamed : (ρ : Renaming) → IsPlain ρ → (e us : Tree) → IsRow us → (cs : List ClauseTree) → AreOwnClauses cs → map (offer_by (rename ρ e) (rename ρ us)) (filter (takes_all (rename ρ us)) cs) ≡ map (renamed_candidate ρ) (map (offer_by e us) (filter (takes_all us) cs))
offers_renamed ρ p e us r [] o = refl
offers_renamed ρ p e us r (c ∷ cs) o =
    let xs = filter (takes_all (rename ρ us)) cs in
    let as_many : takes_all (rename ρ us) c ≡ takes_all us c = ap (λ n. n == row_length c.head) (row_length-replace (λ l. leaf_tree (ρ.to l)) us r) in
    ap (λ w. map (offer_by (rename ρ e) (rename ρ us)) (cond w (c ∷ xs) xs)) as_many ∙ offers_renamed_case ρ e us c xs (filter (takes_all us) cs) (offer_renamed ρ p e us r c o.0) (offers_renamed ρ p e us r cs o.1) (takes_all us c)

commute_shape : (clauses : ClausesOfTraits) → AreOwn clauses → (e g : Tree) (ρ : Renaming) → IsPlain ρ → IsTraitGoal g ⊎ IsOtherGoal g → offers_by clauses (rename ρ e) (trait_of (rename ρ g)) ≡ map (renamed_candidate ρ) (offers_by clauses e (trait_of g))
commute_shape clauses own e g ρ p (inl t) =
    rw t.is (offers_renamed ρ p e t.with_arguments t.row (clauses t.of_trait) (own t.of_trait))
commute_shape clauses own e g ρ p (inr o) =
    ap (offers_by clauses (rename ρ e)) (o.none_under (λ l. leaf_tree (ρ.to l))) ∙ sym (ap (λ x. map (renamed_candidate ρ) (offers_by clauses e x)) o.none)

commute : (clauses : ClausesOfTraits) (is_coinductive : ℕ → Bool) → AreOwn clauses → CandidatesCommute (handler_by clauses is_coinductive)
commute clauses is_coinductive own =
    record { renaming = λ mode e g ρ p h. commute_shape clauses own e g ρ p (trait_or_other e g h) }

-- instances of candidates are rules

-- what is asked for a trait: an environment and arguments without positions
pub record IsAskedOf (e us : Tree) : Type 0 where
  pub environment : any_label is_canonical e ≡ false
  pub arguments : any_label is_canonical us ≡ false

pub or_false : (p : Bool) → (p || false) ≡ false → p ≡ false
or_false p h = (both_false p false h).0

pub asked_of : (e us : Tree) (i : ℕ) → any_label is_canonical (pair e (trait_goal i us)) ≡ false → IsAskedOf e us
asked_of e us i h =
    let s = both_false (any_label is_canonical e) (any_label is_canonical (more (trait_goal i us) empty)) h in
    record {
      environment = s.0;
      arguments = or_false (any_label is_canonical us) (or_false (any_label is_canonical us || false) (or_false ((any_label is_canonical us || false) || false) s.1));
    }

instance_of_offer : (clauses : ClausesOfTraits) → AreOwn clauses → (e us : Tree) (i : ℕ) (c : Candidate) (ι : Instance) (a : Application) → IsRow us → IsAskedOf e us → IsOfferOf (clauses i) e us c → IsInstanceFor c e (trait_goal i us) ι a → IsInstanceOfClause clauses a
instance_of_offer clauses own e us i c ι a r n o is =
    let k = o.of_clause in
    let mine = own_among (clauses i) k (own i) o.among in
    let made : a ≡ use_of (offer_by e us k) e (trait_goal i us) ι a.values = rw o.is at is.same in
    record {
      of_trait = i;
      of_clause = k;
      among = o.among;
      values = rw o.is at is.values;
      with_arguments = instance_of ι us;
      row = IsRow-replace ι.value us r;
      as_many = row_length-replace ι.value us r ∙ same_length us k o.takes;
      conclusion = ap (λ x. x.conclusion) made;
      equations = ap (λ x. x.equations) made ∙ filled_equations ι.value ι.stays a.values k.fresh us k.head r n.arguments mine.row mine.head;
      goals = ap (λ x. x.goals) made ∙ filled_goals ι.value ι.stays a.values k.fresh e k.body n.environment mine.body ∙ ap (λ x. map (asked_in x) (map (filled a.values) k.body)) (sym (ap (λ x. x.environment) made));
      no_constraints = ap (λ x. x.constraints) made;
      no_hidden = ap (λ x. x.hidden) made;
    }
  where
    same_length : (us : Tree) (k : ClauseTree) → takes_all us k ≡ true → row_length us ≡ row_length k.head
    same_length us k h = eqb-true (row_length us) (row_length k.head) h

instance_shape : (clauses : ClausesOfTraits) → AreOwn clauses → (e g : Tree) (c : Candidate) (ι : Instance) (a : Application) → any_label is_canonical (pair e g) ≡ false → IsTraitGoal g ⊎ IsOtherGoal g → Among (offers_by clauses e (trait_of g)) c → IsInstanceFor c e g ι a → IsInstanceOfClause clauses a
instance_shape clauses own e g c ι a n (inl t) among is =
    let offers : Among (offers_by clauses e (trait_of (trait_goal t.of_trait t.with_arguments))) c = rw t.is at among in
    let lacks : any_label is_canonical (pair e (trait_goal t.of_trait t.with_arguments)) ≡ false = rw t.is at n in
    let instance : IsInstanceFor c e (trait_goal t.of_trait t.with_arguments) ι a = rw t.is at is in
    instance_of_offer clauses own e t.with_arguments t.of_trait c ι a t.row (asked_of e t.with_arguments t.of_trait lacks) (offer_among (clauses t.of_trait) e t.with_arguments c offers) instance
instance_shape clauses own e g c ι a n (inr o) among is =
    let nothing : Among (offers_by clauses e None) c = rw o.none at among in absurd nothing

-- rules are closed under instances
pub values_under : (ι : Instance) (ss : List Sort) (vs : List Tree) → AreValuesOf ss vs → AreValuesOf ss (map (instance_of ι) vs)
values_under ι [] [] h = tt
values_under ι [] (v ∷ vs) h = absurd h
values_under ι (s ∷ ss) [] h = absurd h
values_under ι (s ∷ ss) (v ∷ vs) h = (
  record {
    fits = Fits-instance ι (kind_of_sort s) v h.0.fits;
    formed = IsFormed-instance ι v h.0.formed;
    closed = IsClosed-instance ι v h.0.closed;
  },
  values_under ι ss vs h.1,
)

rule_under : (clauses : ClausesOfTraits) → AreOwn clauses → (a : Application) (ι : Instance) → IsInstanceOfClause clauses a → IsInstanceOfClause clauses (application_under ι a)
rule_under clauses own a ι h =
    let k = h.of_clause in
    let mine = own_among (clauses h.of_trait) k (own h.of_trait) h.among in
    record {
      of_trait = h.of_trait;
      of_clause = k;
      among = h.among;
      values = values_under ι k.fresh a.values h.values;
      with_arguments = instance_of ι h.with_arguments;
      row = IsRow-replace ι.value h.with_arguments h.row;
      as_many = row_length-replace ι.value h.with_arguments h.row ∙ h.as_many;
      conclusion = ap (instance_of ι) h.conclusion;
      equations = ap (map (equation_by (instance_of ι))) h.equations ∙ moved_equations ι.value ι.stays a.values k.fresh h.with_arguments k.head h.row mine.row mine.head;
      goals = ap (map (premise_by (instance_of ι))) h.goals ∙ moved_goals ι.value ι.stays a.values k.fresh a.environment k.body mine.body;
      no_constraints = ap (map _) h.no_constraints;
      no_hidden = ap (map _) h.no_hidden;
    }

rules : (clauses : ClausesOfTraits) (is_coinductive : ℕ → Bool) → AreOwn clauses → InstancesAreRules (handler_by clauses is_coinductive)
rules clauses is_coinductive own =
    record {
      instances = λ mode e g c ι a asked among sure is. instance_shape clauses own e g c ι a asked.no_positions (trait_or_other e g asked) among is;
      closed = λ mode a ι h. rule_under clauses own a ι h;
    }

-- candidates keep the environment, and have no foreign leaves, sorts or sources
pub own_over : (fresh : List Sort) (e g t : Tree) → IsOwnTerm fresh t → IsOver fresh e g t
own_over fresh e g t o =
    record { names = o.names; leaves = λ l x. inr (leaves_fixed t o.own l x); formed = o.formed; closed = o.closed; well_bound = o.well_bound }

first_over : (fresh : List Sort) (e g a b : Tree) → IsOver fresh e g (more a b) → IsOver fresh e g a
first_over fresh e g a b o =
    record { names = o.names.0; leaves = λ l x. o.leaves l (inl x); formed = o.formed.0; closed = o.closed.0; well_bound = o.well_bound.0 }

rest_over : (fresh : List Sort) (e g a b : Tree) → IsOver fresh e g (more a b) → IsOver fresh e g b
rest_over fresh e g a b o =
    record { names = o.names.1; leaves = λ l x. o.leaves l (inr x); formed = o.formed.1; closed = o.closed.1; well_bound = o.well_bound.1 }

pub equations_over : (fresh : List Sort) (e g us hs : Tree) → IsOver fresh e g us → IsOver fresh e g hs → (q : Equation) → Among (equations_of us hs) q → IsEquationOver fresh e g q
equations_over fresh e g (more a us) (more b hs) u h q (inl i) =
    rw i (first_over fresh e g a us u, first_over fresh e g b hs h)
equations_over fresh e g (more a us) (more b hs) u h q (inr i) =
    equations_over fresh e g us hs (rest_over fresh e g a us u) (rest_over fresh e g b hs h) q i
equations_over fresh e g us hs u h q i = absurd i

emitted : (t : Tree) → any_label is_foreign t ≡ false → IsEmitted t
emitted (node (label.Predicate (predicate.NormalizesTo i)) ts) h = cc
emitted (node (label.Predicate predicate.ConstEquate) ts) h = cc
emitted t h = tt

own_statement : (t : Tree) → any_label is_foreign t ≡ false → any_label is_foreign (statement_of t) ≡ false
own_statement (node (label.List list.Binder) (more v (more s empty))) h =
    or_false (any_label is_foreign s) (both_false (any_label is_foreign v) (any_label is_foreign s || false) h).1
own_statement t h = refl

pub goals_over : (fresh : List Sort) (e g : Tree) (ps : List Tree) → AreOwnTerms fresh ps → (q : Premise) → Among (map (asked_in e) ps) q → IsNested fresh e g q
goals_over fresh e g [] o q i = absurd i
goals_over fresh e g (p ∷ ps) o q (inl i) =
    rw i (record { environment = refl; predicate = own_over fresh e g p o.0; emitted = emitted (statement_of p) (own_statement p o.0.own); source = tt })
goals_over fresh e g (p ∷ ps) o q (inr i) = goals_over fresh e g ps o.1 q i

pub args_over : (fresh : List Sort) (e us : Tree) (i : ℕ) → IsAsked e (trait_goal i us) → IsOver fresh e (trait_goal i us) us
args_over fresh e us i h =
    let said : node (label.Clause (clause.Trait i)) (arguments us) ≡ h.statement = ap statement_of h.binds_nothing in
    let closed : IsClosed (pair e (node (label.Clause (clause.Trait i)) (arguments us))) = rw (← said) at h.closed in
    record {
      names = names_nothing fresh us (asked_of e us i h.no_positions).arguments;
      leaves = λ l x. inl (inr (inl (inr (inr (inl (inr (inl (inr x))))))));
      formed = h.formed.1.0.1.1.0.1.0.1;
      closed = closed.1.0.1.0.1;
      well_bound = h.well_bound.1.0.1.1.0.1.0.1;
    }

candidate_over : (e us : Tree) (i : ℕ) (c : Candidate) (cs : List ClauseTree) → AreOwnClauses cs → IsAsked e (trait_goal i us) → IsOfferOf cs e us c → IsCandidateFor e (trait_goal i us) c
candidate_over e us i c cs own asked o =
    let k = o.of_clause in
    let mine = own_among cs k own o.among in
    rw o.is (record {
      equations = λ q x. equations_over k.fresh e (trait_goal i us) us k.head (args_over k.fresh e us i asked) (own_over k.fresh e (trait_goal i us) k.head mine.head) q x;
      constraints = λ x h. absurd h;
      constrains = λ x h. absurd h;
      goals = λ q x. goals_over k.fresh e (trait_goal i us) k.body mine.body q x;
      no_hidden = refl;
      no_access = refl;
    })

keep_shape : (clauses : ClausesOfTraits) → AreOwn clauses → (e g : Tree) (c : Candidate) → IsAsked e g → IsTraitGoal g ⊎ IsOtherGoal g → Among (offers_by clauses e (trait_of g)) c → IsCandidateFor e g c
keep_shape clauses own e g c asked (inl t) among =
    let offers : Among (offers_by clauses e (trait_of (trait_goal t.of_trait t.with_arguments))) c = rw t.is at among in
    let here : IsAsked e (trait_goal t.of_trait t.with_arguments) = rw t.is at asked in
    rw t.is (candidate_over e t.with_arguments t.of_trait c (clauses t.of_trait) (own t.of_trait) here (offer_among (clauses t.of_trait) e t.with_arguments c offers))
keep_shape clauses own e g c asked (inr o) among =
    let nothing : Among (offers_by clauses e None) c = rw o.none at among in absurd nothing

keep : (clauses : ClausesOfTraits) (is_coinductive : ℕ → Bool) → AreOwn clauses → CandidatesKeep (handler_by clauses is_coinductive)
keep clauses is_coinductive own =
    record { each = λ mode e g c asked among. keep_shape clauses own e g c asked (trait_or_other e g asked) among }

-- the conditions of a clause are asked as such
pub asked_sources : (e : Tree) (ps : List Tree) (q : Premise) → Among (map (asked_in e) ps) q → IsHandlersSource q.source
asked_sources e [] q i = absurd i
asked_sources e (p ∷ ps) q (inl i) = rw i tt
asked_sources e (p ∷ ps) q (inr i) = asked_sources e ps q i

sources : (clauses : ClausesOfTraits) (is_coinductive : ℕ → Bool) → RulesHaveSources (handler_by clauses is_coinductive)
sources clauses is_coinductive =
    record {
      each = λ mode a q x i.
          let k = x.of_clause in
          let there : Among (map (asked_in a.environment) (map (filled a.values) k.body)) q = rw x.goals at i in
          asked_sources a.environment (map (filled a.values) k.body) q there;
    }

pub IsLawfulHandler-clauses : (clauses : ClausesOfTraits) (is_coinductive : ℕ → Bool) → AreOwn clauses → IsLawfulHandler (handler_by clauses is_coinductive)
IsLawfulHandler-clauses clauses is_coinductive own =
    record { commute = commute clauses is_coinductive own; rules = rules clauses is_coinductive own; sources = sources clauses is_coinductive; keep = keep clauses is_coinductive own; judges = objects_judged (handler_by clauses is_coinductive) (λ i. true) refl; at_once = FastAnswersHold-never (handler_by clauses is_coinductive) (λ e g c x. x) }

-- every rule for an instance of a goal is one of an offered candidate
pub offer_has : (cs : List ClauseTree) (d : ClauseTree) (e us : Tree) → Among cs d → takes_all us d ≡ true → Among (offers_of_clauses e us cs) (offer_by e us d)
offer_has [] d e us i t = absurd i
offer_has (c ∷ cs) d e us (inl same) t = rw (ap (takes_all us) (sym same) ∙ t) (inl (ap (offer_by e us) same))
offer_has (c ∷ cs) d e us (inr i) t = later (takes_all us c) (offer_has cs d e us i t)
  where
    later : (w : Bool) → Among (map (offer_by e us) (filter (takes_all us) cs)) (offer_by e us d) → Among (map (offer_by e us) (cond w (c ∷ filter (takes_all us) cs) (filter (takes_all us) cs))) (offer_by e us d)
    later true j = inr j
    later false j = j

pub mapped_among : {X Y : Type 0} (f : X → Y) (xs : List X) (x : X) → Among xs x → Among (map f xs) (f x)
mapped_among f [] x i = absurd i
mapped_among f (y ∷ xs) x (inl e) = inl (ap f e)
mapped_among f (y ∷ xs) x (inr i) = inr (mapped_among f xs x i)

pub one_trait : (i j : ℕ) (us vs : Tree) → trait_goal i us ≡ trait_goal j vs → i ≡ j
one_trait i j us vs e = cc e

pub one_row : (i j : ℕ) (us vs : Tree) → trait_goal i us ≡ trait_goal j vs → us ≡ vs
one_row i j us vs e = cc e

pub none_trait : (i : ℕ) (us : Tree) → None ≡ trait_of (trait_goal i us) → ⊥
none_trait i us e = cc e

covered_trait : (clauses : ClausesOfTraits) → AreOwn clauses → (is_coinductive : ℕ → Bool) (e : Tree) (i : ℕ) (us : Tree) (ι : Instance) (a : Application) → IsRow us → IsAskedOf e us → IsInstanceOfClause clauses a
    → a.environment ≡ instance_of ι e → a.conclusion ≡ instance_of ι (trait_goal i us) → Covers (handler_by clauses is_coinductive) coherence e (trait_goal i us) ι a
covered_trait clauses own is_coinductive e i us ι a row n h env con =
    let k = h.of_clause in
    let mine = own_among (clauses h.of_trait) k (own h.of_trait) h.among in
    let both : trait_goal i (instance_of ι us) ≡ trait_goal h.of_trait h.with_arguments = sym con ∙ h.conclusion in
    let of_trait : h.of_trait ≡ i = sym (one_trait i h.of_trait (instance_of ι us) h.with_arguments both) in
    let args : h.with_arguments ≡ instance_of ι us = sym (one_row i h.of_trait (instance_of ι us) h.with_arguments both) in
    let length : row_length us ≡ row_length k.head = sym (row_length-replace ι.value us row) ∙ ap row_length (sym args) ∙ h.as_many in
    let takes : takes_all us k ≡ true = ap (λ z. z == row_length k.head) length ∙ eq-self (row_length k.head) in
    let among : Among (clauses i) k = subst (λ z. Among (clauses z) k) of_trait h.among in
    let equations : a.equations ≡ map (equation_by (filled_under ι.value a.values)) (equations_of us k.head) =
    h.equations ∙ ap (λ z. equations_of z (filled a.values k.head)) args ∙ sym (filled_equations ι.value ι.stays a.values k.fresh us k.head row n.arguments mine.row mine.head) in
    let goals : a.goals ≡ map (premise_by (filled_under ι.value a.values)) (map (asked_in e) k.body) =
    h.goals ∙ ap (λ z. map (asked_in z) (map (filled a.values) k.body)) env ∙ sym (filled_goals ι.value ι.stays a.values k.fresh e k.body n.environment mine.body) in
    record {
      candidate = offer_by e us k;
      offered = offer_has (clauses i) k e us among takes;
      chosen = a.values;
      values = h.values;
      of_rule = λ v j. j;
      equations = λ q j. subst (λ z. Among z (equation_by (filled_under ι.value a.values) q)) (sym equations) (mapped_among (equation_by (filled_under ι.value a.values)) (equations_of us k.head) q j);
      constraints = λ x j. absurd j;
      goals = λ p j. subst (λ z. Among z (premise_by (filled_under ι.value a.values) p)) (sym goals) (mapped_among (premise_by (filled_under ι.value a.values)) (map (asked_in e) k.body) p j);
    }

covered_shape : (clauses : ClausesOfTraits) → AreOwn clauses → (is_coinductive : ℕ → Bool) (e g : Tree) (ι : Instance) (a : Application) → any_label is_canonical (pair e g) ≡ false → IsTraitGoal g ⊎ IsOtherGoal g → IsInstanceOfClause clauses a
    → a.environment ≡ instance_of ι e → a.conclusion ≡ instance_of ι g → Covers (handler_by clauses is_coinductive) coherence e g ι a
covered_shape clauses own is_coinductive e g ι a n (inl t) h env con =
    let lacks : any_label is_canonical (pair e (trait_goal t.of_trait t.with_arguments)) ≡ false = rw t.is at n in
    let there : a.conclusion ≡ instance_of ι (trait_goal t.of_trait t.with_arguments) = rw t.is at con in
    rw t.is (covered_trait clauses own is_coinductive e t.of_trait t.with_arguments ι a t.row (asked_of e t.with_arguments t.of_trait lacks) h env there)
covered_shape clauses own is_coinductive e g ι a n (inr o) h env con =
    absurd (none_trait h.of_trait h.with_arguments (sym (o.none_under ι.value) ∙ ap trait_of (sym con ∙ h.conclusion)))

pub AreOffered-clauses : (clauses : ClausesOfTraits) (is_coinductive : ℕ → Bool) → AreOwn clauses → RulesAreOffered (handler_by clauses is_coinductive)
AreOffered-clauses clauses is_coinductive own =
    record { covered = λ e g ι a asked applies env con. covered_shape clauses own is_coinductive e g ι a asked.no_positions (trait_or_other e g asked) applies env con }
