use Rattle.std.proofs.Common.{refl, ap, ◌∙◌}
use Rattle.nts_model.specs.Terms.Trees.{kind_of}
use Rattle.nts_store.specs.Filled.{kind_of-filled}
use Rattle.nts_store.proofs.Filling.{filled-known}
use Rattle.nts_meaning.proofs.Evaluating.{has-values}
use Rattle.nts_trying.proofs.candidate.Trial.instantiate.Goals as goal

pub instantiate_canonical-requires-clause-positions : goal.instantiate_canonical-requires-clause-positions
instantiate_canonical-requires-clause-positions c = has-values _ _ _ c.requires.values.sorts c.requires.over.names

pub returns-then-not-flags-clause-instance : goal.returns-then-not-flags-clause-instance
returns-then-not-flags-clause-instance c = record {
  formed = c.terms_are_formed.ensures;
  within = c.requires.over.within;
  kind = refl;
  tree = filled-known _ _ c.flags.result c.flags.ensures c.if-not-flags.true;
}

pub returns-clause-instance : goal.returns-clause-instance
returns-clause-instance c =
    let e = c.in_ok-made.ensures in
    record {
      formed = c.terms_are_formed-2.ensures;
      within = e.within;
      kind = ap kind_of e.tree ∙ kind_of-filled _ _ (has-values _ _ _ c.requires.values.sorts c.requires.over.names);
      tree = e.tree;
    }
