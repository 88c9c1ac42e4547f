use Rattle.std.proofs.Common.{◌++◌, ◌∷◌, [], refl, ◌∙◌, ap}
use Rattle.nts_store.proofs.Growing.{IsIn-extended}
use Rattle.nts_candidates.specs.declared.data.Equation.{Equation}
use Rattle.nts_candidates.specs.declared.data.EquationKind.TheVariants as equation
use Rattle.nts_candidates.specs.declared.data.CandidateData.{CandidateData}
use Rattle.nts_candidates.specs.nts_certainty.specs.declared.certainty.Certainty.TheVariants as certainty
use Rattle.nts_candidates.specs.nts_certainty.specs.declared.reruns.RerunCondition.TheVariants as rerun
use Rattle.nts_delegate.specs.ClauseHandlers.{alias_asked}
use Rattle.nts_delegate.proofs.AliasSingle.{IsRigidOffer, rigid_read, rigid_is_candidate, alias_made}
use Rattle.nts_delegate.proofs.alias_offers.offer_rigid.Goals as goal

abbrev asked : goal.After-new-4 → Equation
asked c =
    record { kind = equation.Structural; lhs = record { node = c.args.term.node }; rhs = record { node = c.in_ok-stands.stands.node } }

abbrev made : goal.After-new-4 → CandidateData
made c =
    record { fresh = c.new.result; equations = c.push.new.self; region_constraints = c.new-2.result; hidden_types = c.new-3.result; goals = c.new-4.result; certainty = certainty.Yes; accesses = rerun.Never }

offer : (c : goal.After-new-4) → IsRigidOffer c.alias_term.new.cx.nodes (alias_asked c.args.cx.now.nodes c.args.alias c.args.term) (made c)
offer c =
    let e = c.alias_term.ensures.grows.extends in
    record {
      fresh = c.new.ensures.items;
      asks = asked c;
      equations = c.in_ok-push.ensures.items ∙ ap (λ xs. xs ++ asked c ∷ []) c.new-equations.ensures.items;
      kind = refl;
      left_in = IsIn-extended e c.args.term.node c.requires.term.within;
      right_in = c.in_ok-stands.ensures.holds.within;
      left = e.kept c.args.term.node c.requires.term.within;
      right = alias_made c.args.cx.now.nodes c.args.alias _ c.requires.args c.in_ok-stands.ensures.tree;
      constraints = c.new-2.ensures.items;
      hidden = c.new-3.ensures.items;
      goals = c.new-4.ensures.items;
      certainty = refl;
      accesses = refl;
    }

pub returns-clause-offered : goal.returns-clause-offered
returns-clause-offered c =
    rigid_read c.alias_term.new.cx.nodes (alias_asked c.args.cx.now.nodes c.args.alias c.args.term) (made c) (offer c)

pub returns-clause-candidate : goal.returns-clause-candidate
returns-clause-candidate c =
    rigid_is_candidate c.args.cx.now.nodes c.alias_term.new.cx.nodes c.args.goal (alias_asked c.args.cx.now.nodes c.args.alias c.args.term) (made c) c.alias_term.ensures.grows.extends c.requires.goal c.requires.asked (offer c)
