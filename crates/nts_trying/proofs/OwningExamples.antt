-- Goals of the engine's own kinds in a small store, and what is known of them.
use Rattle.std.proofs.Common.{◌≡◌, ℕ, true, false, List, [], ◌∷◌, refl, sym, subst}
use Rattle.std.specs.Prelude.{◌==◌, Some}
use Rattle.nts_model.specs.declared.labels.ClauseHead.TheVariants as clause
use Rattle.nts_model.specs.declared.labels.ListHead.TheVariants as list
use Rattle.nts_model.specs.declared.labels.PredicateHead.TheVariants as predicate
use Rattle.nts_model.specs.declared.labels.TyHead.TheVariants as ty
use Rattle.nts_model.specs.declared.labels.Label.TheVariants as label
use Rattle.nts_model.specs.Terms.Trees.{Tree, empty, node, IsInRow}
use Rattle.nts_model.specs.Derivations.Related.{unbound}
use Rattle.nts_model.specs.Derivations.Handlers.{Judgements, no_judgements}
use Rattle.nts_theory.specs.Affirming.{IsAffirmed, HasOwnWay, by_goals, feature_allowed, is_well_formed, plain_way}
use Rattle.nts_terms.specs.declared.handles.Goal.{Goal}
use Rattle.nts_trying.specs.Outliving.{IsClosedEnv}
use Rattle.nts_trying.specs.Owning.{IsOwnStatement, IsOwnGoal, StatesOwn, IsJudgedBy, IsAllJudged}
use Rattle.nts_trying.proofs.Judging.{HasWayBy, has_way}
use Rattle.nts_trying.specs.declared.own.OwnGoal.TheVariants as own
use Rattle.nts_trying.specs.declared.own.Judged.TheVariants as judged

abbrev feature : ℕ → Tree
feature f = node (label.Clause (clause.UnstableFeature f)) empty

abbrev nowhere : Tree
nowhere = node (label.List list.Env) empty

-- the feature 7 is allowed, in an empty environment
abbrev store : List Tree
store = unbound (feature 7) ∷ nowhere ∷ []

abbrev allowed : Goal
allowed = record { param_env = record { node = record { number = 1 } }; predicate = record { node = record { number = 0 } } }

feature_is_own : IsOwnGoal store allowed (own.UnstableFeature 7)
feature_is_own = record { binds_nothing = refl; fits = tt; closed = (tt, tt); environment = record { closed = (tt, tt); statements = λ ps p is found. absurd (let q : empty ≡ ps = cc is in subst (λ z. IsInRow p z → ⊥) q (λ x. x) found) } }

other_feature_is_not : IsOwnGoal store allowed (own.UnstableFeature 8) → ⊥
other_feature_is_not h = (let e : unbound (feature 7) ≡ unbound (feature 8) = h.binds_nothing in cc e)

-- a handler that allows it affirms the goal; one that judges nothing neither affirms nor denies it
abbrev allows_it : Judgements
allows_it = record no_judgements { allows = λ e f. f == 7 }

affirmed_is_yes : IsJudgedBy allows_it store allowed judged.Yes
affirmed_is_yes = record { statement = feature 7; binds_nothing = refl; affirmed = feature_allowed refl; formed = (tt, tt); closed = (tt, tt) }

never_affirmed : IsAffirmed no_judgements nowhere (feature 7) → ⊥
never_affirmed (feature_allowed x) = (let z : false ≡ true = x in cc z)

nothing_is_yes : IsJudgedBy no_judgements store allowed judged.Yes → ⊥
nothing_is_yes s = (let e = s.binds_nothing in let q : feature 7 ≡ s.statement = cc e in never_affirmed (subst (IsAffirmed no_judgements nowhere) (sym q) s.affirmed))

nothing_is_no : IsJudgedBy no_judgements store allowed judged.No → ⊥
nothing_is_no d = (let e = d.is in cc e)

-- so a body that says nothing of what the handler allows does not say all
all_known : IsAllJudged allows_it store allowed judged.Yes
all_known = record { affirmed = λ x. refl; denied = λ d. absurd (let e = d.is in cc e); way = λ y w plain. (let e = w.binds_nothing in let q : feature 7 ≡ w.statement = cc e in subst (HasWayBy allows_it nowhere) (sym q) (has_way allows_it nowhere w.statement y w.way)) }

doubt_is_less : IsAllJudged allows_it store allowed judged.Unknown → ⊥
doubt_is_less a = (let e : judged.Unknown ≡ judged.Yes = a.affirmed affirmed_is_yes in cc e)

-- a handler that names no goal for what is well formed leaves one way, and a doubt does not say so
abbrev names_none : Judgements
names_none = record no_judgements { well_formed = λ e t. Some [] }

abbrev error : Tree
error = node (label.Ty ty.Error) empty

abbrev posed : List Tree
posed = unbound (is_well_formed error) ∷ nowhere ∷ []

has_one_way : HasOwnWay names_none nowhere (unbound (is_well_formed error)) (plain_way [] [])
has_one_way = record { statement = is_well_formed error; binds_nothing = refl; way = by_goals refl; formed = (((λ e. cc e), tt), ((tt, tt), tt)); closed = (tt, ((tt, tt), tt)) }

way_in_doubt_is_less : IsAllJudged names_none posed allowed judged.Unknown → ⊥
way_in_doubt_is_less a = a.way (plain_way [] []) has_one_way refl

-- the goal is of the engine's own kinds; one that is always ambiguous is not
closed_there : IsClosedEnv nowhere
closed_there = record { closed = (tt, tt); statements = λ ps p is found. absurd (let q : empty ≡ ps = cc is in subst (λ z. IsInRow p z → ⊥) q (λ x. x) found) }

feature_states_own : StatesOwn nowhere (unbound (feature 7))
feature_states_own = record { statement = feature 7; binds_nothing = refl; own = tt; closed = (tt, tt); environment = closed_there }

abbrev ambiguous : Tree
ambiguous = node (label.Predicate predicate.Ambiguous) empty

ambiguous_states_nothing : StatesOwn nowhere (unbound ambiguous) → ⊥
ambiguous_states_nothing s = (let e : unbound ambiguous ≡ unbound s.statement = s.binds_nothing in let q : ambiguous ≡ s.statement = cc e in subst IsOwnStatement (sym q) s.own)
