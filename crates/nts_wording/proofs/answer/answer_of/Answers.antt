use Rattle.std.proofs.Common.{map, subst}
use Rattle.nts_unify.specs.Reading.{recorded_of}
use Rattle.nts_model.specs.Tables.Recording.{resolved_constraints, AreNews}
use Rattle.nts_unify.specs.Lawful.{content_of-extended}
use Rattle.nts_table.specs.TableLaws.{IsTable-extended}
use Rattle.nts_wording.proofs.Telling.{resolved_later}
use Rattle.nts_wording.proofs.answer.answer_of.Goals as goal

pub make_deduplicated_region_constraints-requires : goal.make_deduplicated_region_constraints-requires
make_deduplicated_region_constraints-requires c = record { table = IsTable-extended c.in_ok-values.ensures.grows.extends c.requires.table }

pub returns-clause-found : goal.returns-clause-found
returns-clause-found c =
    let same = content_of-extended c.in_ok-values.ensures.grows.extends c.requires.table.now in (
      resolved_later _ _ _ _ _ _ c.in_ok-facts.ensures.grows.extends c.in_ok-values.ensures.resolved,
      subst (λ k. AreNews (resolved_constraints k) (map (recorded_of c.make_deduplicated_region_constraints.new.cx.nodes) c.in_ok-facts.facts.items)) same c.in_ok-facts.ensures.news,
    )
