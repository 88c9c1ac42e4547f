-- The one way in which a statement may hold by the engine: no goal of a trait has one, nor one that says something of a region, nor one
-- that is judged; and a statement has one such way at most.
use Rattle.std.proofs.Common.{◌≡◌, Bool, true, false, List, [], ◌∷◌, Option, Some, None, refl, sym, ap, subst, ◌∙◌}
use Rattle.nts_model.specs.declared.labels.ClauseHead.TheVariants as clause
use Rattle.nts_model.specs.declared.labels.ConstHead.TheVariants as const_head
use Rattle.nts_model.specs.declared.labels.Label.TheVariants as label
use Rattle.nts_model.specs.Terms.Trees.{Tree, more, node}
use Rattle.nts_model.specs.Derivations.Related.{unbound}
use Rattle.nts_model.specs.Derivations.Rules.{related}
use Rattle.nts_model.specs.Derivations.Handlers.{Candidate, Judgements, certain}
use Rattle.nts_theory.specs.Affirming.{IsAffirmed, feature_allowed, has_objects, named_const, value_const, error_const, error_type, evaluated_const, by_type, by_goals, plain_way, goals_there, IsOwnWay, HasOwnWay}
use Rattle.nts_decisions.specs.Deciding.{IsDecidable, SaysOfRegion, IsJudged}

-- what a statement says that has one way
abbrev pub says_way : Tree → Type 0
says_way (node (label.Clause clause.ConstArgHasType) (more (node (label.Const (const_head.Value b)) us) ts)) = Unit {0}
says_way (node (label.Clause clause.WellFormed) ts) = Unit {0}
says_way s = ⊥

pub way_says : (j : Judgements) (e s : Tree) (y : Candidate) → IsOwnWay j e s y → says_way s
way_says j e s y by_type = tt
way_says j e s y (by_goals q) = tt

pub decidable_no_way : (s : Tree) → IsDecidable s → says_way s → ⊥
decidable_no_way (node (label.Clause (clause.Trait i)) ts) a b = b
decidable_no_way (node (label.Clause (clause.HostEffect i)) ts) a b = b
decidable_no_way s a b = absurd a

pub region_no_way : (s : Tree) → SaysOfRegion s → says_way s → ⊥
region_no_way (node (label.Clause clause.RegionOutlives) ts) a b = b
region_no_way (node (label.Clause clause.TypeOutlives) ts) a b = b
region_no_way s a b = absurd a

affirmed_no_way : (j : Judgements) (e s : Tree) → IsAffirmed j e s → says_way s → ⊥
affirmed_no_way j e s (feature_allowed x) h = h
affirmed_no_way j e s (has_objects x) h = h
affirmed_no_way j e s named_const h = h
affirmed_no_way j e s value_const h = h
affirmed_no_way j e s error_const h = h
affirmed_no_way j e s error_type h = h
affirmed_no_way j e s (evaluated_const x) h = h

pub judged_no_way : (j : Judgements) (e s : Tree) (b : Bool) → IsJudged j e s b → says_way s → ⊥
judged_no_way j e s true x h = affirmed_no_way j e s x h
judged_no_way j e s false x h = subst says_way x.is h

abbrev by_named : Tree → Option (List Tree) → Option Candidate
by_named e None = None
by_named e (Some ps) = Some (plain_way [] (goals_there e ps))

abbrev way_in : Judgements → Tree → Tree → Option Candidate
way_in j e (node (label.Clause clause.ConstArgHasType) (more (node (label.Const (const_head.Value b)) (more u us)) (more t ts))) = Some (plain_way (related u t ∷ []) [])
way_in j e (node (label.Clause clause.WellFormed) (more t ts)) = by_named e (j.well_formed e t)
way_in j e s = None

is_way_in : (j : Judgements) (e s : Tree) (y : Candidate) → IsOwnWay j e s y → way_in j e s ≡ Some y
is_way_in j e s y by_type = refl
is_way_in j e s y (by_goals q) = ap (by_named e) q

pub one_way : (j : Judgements) (e s : Tree) (x y : Candidate) → IsOwnWay j e s x → IsOwnWay j e s y → x ≡ y
one_way j e s x y a b = (let q : Some x ≡ Some y = sym (is_way_in j e s x a) ∙ is_way_in j e s y b in cc q)

pub way_sure : (j : Judgements) (e s : Tree) (y : Candidate) → IsOwnWay j e s y → y.certainty ≡ certain
way_sure j e s y by_type = refl
way_sure j e s y (by_goals q) = refl

-- a goal has one way at most
said_once : (s t : Tree) → unbound s ≡ unbound t → s ≡ t
said_once s t q = cc q

pub one_own_way : (j : Judgements) (e g : Tree) (x y : Candidate) → HasOwnWay j e g x → HasOwnWay j e g y → x ≡ y
one_own_way j e g x y v w = one_way j e w.statement x y (subst (λ z. IsOwnWay j e z x) (said_once v.statement w.statement (sym v.binds_nothing ∙ w.binds_nothing)) v.way) w.way
