use Rattle.std.proofs.Common.{◌≡◌, ◌++◌, ◌∷◌, [], refl, ◌∙◌, ap}
use Rattle.nts_model.specs.Derivations.Related.{alias}
use Rattle.nts_model.specs.Terms.Trees.{children}
use Rattle.nts_store.specs.Growth.{tree_at, Extends}
use Rattle.nts_store.proofs.Growing.{Extends-trans}
use Rattle.nts_candidates.specs.declared.data.CandidateGoal.{CandidateGoal}
use Rattle.nts_candidates.specs.declared.data.CandidateData.{CandidateData}
use Rattle.nts_candidates.specs.nts_certainty.specs.declared.certainty.Certainty.TheVariants as certainty
use Rattle.nts_candidates.specs.nts_certainty.specs.declared.sources.GoalSource.TheVariants as source
use Rattle.nts_candidates.specs.nts_certainty.specs.declared.reruns.RerunCondition.TheVariants as rerun
use Rattle.nts_terms.specs.Handles.{alias_head}
use Rattle.nts_delegate.specs.ClauseHandlers.{alias_asked}
use Rattle.nts_delegate.specs.Keeping.{same_goal}
use Rattle.nts_delegate.proofs.AliasSingle.{IsProjectedOffer, projected_read, projected_is_candidate, alias_made, related_made}
use Rattle.nts_delegate.proofs.alias_offers.offer_projected.Goals as goal

abbrev asked : goal.After-new-4 → CandidateGoal
asked c =
    record { source = source.Misc; goal = record { param_env = c.args.goal.param_env; predicate = c.in_ok-predicate.predicate } }

abbrev made : goal.After-new-4 → CandidateData
made c =
    record { fresh = c.new.result; equations = c.new-2.result; region_constraints = c.new-3.result; hidden_types = c.new-4.result; goals = c.push.new.self; certainty = certainty.Yes; accesses = rerun.Never }

grown : (c : goal.After-new-4) → Extends c.args.cx.now.nodes c.mk_predicate.new.self.nodes
grown c = Extends-trans (Extends-trans c.alias_term.ensures.grows.extends c.mk_bound_vars.ensures.grows.extends) c.mk_predicate.ensures.grows.extends

offer : (c : goal.After-new-4) → IsProjectedOffer c.mk_predicate.new.self.nodes c.args.goal (alias_asked c.args.cx.now.nodes c.args.alias c.args.term) (made c)
offer c =
    let a = c.args.cx.now.nodes in
    let before = c.mk_bound_vars.ensures.grows.extends in
    let both = Extends-trans c.alias_term.ensures.grows.extends before in
    let lhs : tree_at c.mk_bound_vars.new.self.nodes c.in_ok-lhs.lhs.node ≡ alias (alias_head c.args.alias.def_id) (children (tree_at c.args.cx.now.nodes c.args.alias.args.node)) =
    before.kept c.in_ok-lhs.lhs.node c.in_ok-lhs.ensures.holds.within ∙ alias_made a c.args.alias _ c.requires.args c.in_ok-lhs.ensures.tree in
    record {
      fresh = c.new.ensures.items;
      equations = c.new-2.ensures.items;
      asks = asked c;
      goals = c.in_ok-push.ensures.items ∙ ap (λ xs. xs ++ asked c ∷ []) c.new-goals.ensures.items;
      source = refl;
      environment = refl;
      holds = c.in_ok-predicate.ensures.holds;
      predicate = related_made _ _ _ _ _ _ c.in_ok-predicate.ensures.tree c.in_ok-vars.ensures.tree lhs (both.kept c.args.term.node c.requires.term.within);
      constraints = c.new-3.ensures.items;
      hidden = c.new-4.ensures.items;
      certainty = refl;
      accesses = refl;
    }

pub returns-clause-offered : goal.returns-clause-offered
returns-clause-offered c =
    projected_read c.args.cx.now.nodes c.mk_predicate.new.self.nodes c.args.goal (alias_asked c.args.cx.now.nodes c.args.alias c.args.term) (made c) (same_goal c.requires.goal.holds (grown c)) (offer c)

pub returns-clause-candidate : goal.returns-clause-candidate
returns-clause-candidate c =
    projected_is_candidate c.args.cx.now.nodes c.mk_predicate.new.self.nodes c.args.goal (alias_asked c.args.cx.now.nodes c.args.alias c.args.term) (made c) (grown c) c.requires.goal c.requires.asked (offer c)
