use Rattle.std.proofs.Common.{subst}
use Rattle.nts_model.specs.Derivations.Handlers.{Candidate}
use Rattle.nts_unify.specs.Entries.{Entries}
use Rattle.nts_candidates.specs.Offered.{candidate_of}
use Rattle.nts_store.specs.Growth.{tree_at}
use Rattle.nts_terms.specs.Signatures.{variances_in}
use Rattle.nts_unify.specs.Reading.{content_of}
use Rattle.nts_evaluation.specs.nts_meaning.proofs.Evaluating.{IsPosed-opened}
use Rattle.nts_explaining.specs.Explaining.{CannotBegin, IsBegunSo, first_part}
use Rattle.nts_explaining.proofs.RelatedParts.{related_fits, part_is}
use Rattle.nts_explaining.proofs.related.is_begun.Goals as goal

pub begins-tried-requires-clause-posed : goal.begins-tried-requires-clause-posed
begins-tried-requires-clause-posed c = IsPosed-opened c.requires.posed c.start_snapshot.ensures.entries c.in_ok-snapshot.ensures.saved

pub begins-tried-requires-clause-candidate : goal.begins-tried-requires-clause-candidate
begins-tried-requires-clause-candidate c =
    let p = c.in_ok-part.ensures in
    related_fits c.args.cx.now.nodes c.args.goal c.args.count c.args.candidate.now c.in_ok-part.part p.fresh p.equations p.constraints p.hidden p.goals p.accesses c.requires.candidate

pub returns-clause-no : goal.returns-clause-no
returns-clause-no c = λ no.
    let p = c.in_ok-part.ensures in
    let is = part_is c.args.cx.now.nodes c.args.goal c.args.count c.args.candidate.now c.in_ok-part.part p.fresh p.equations p.constraints p.hidden p.goals p.accesses p.certainty c.requires.candidate in
    let there = λ (z : Entries) (y : Candidate). CannotBegin (variances_in c.args.cx.now.declarations) (content_of c.args.cx.now.nodes z) y in
    subst (λ z. there z (first_part c.args.count (candidate_of c.args.cx.now.nodes c.args.candidate.now))) c.start_snapshot.ensures.entries (subst (there c.start_snapshot.new.self.entries) is (c.begins-tried.ensures.no no))

pub returns-clause-yes : goal.returns-clause-yes
returns-clause-yes c = λ yes.
    let p = c.in_ok-part.ensures in
    let is = part_is c.args.cx.now.nodes c.args.goal c.args.count c.args.candidate.now c.in_ok-part.part p.fresh p.equations p.constraints p.hidden p.goals p.accesses p.certainty c.requires.candidate in
    let there = λ (z : Entries) (y : Candidate). IsBegunSo (variances_in c.args.cx.now.declarations) (content_of c.args.cx.now.nodes z) (tree_at c.args.cx.now.nodes c.args.goal.param_env.node) y in
    subst (λ z. there z (first_part c.args.count (candidate_of c.args.cx.now.nodes c.args.candidate.now))) c.start_snapshot.ensures.entries (subst (there c.start_snapshot.new.self.entries) is (c.begins-tried.ensures.yes yes))
