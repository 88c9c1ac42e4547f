use Rattle.std.proofs.Common.{◌≡◌, inl, true, refl, ap, ◌∙◌, subst}
use Rattle.std.specs.Prelude.{IfOk}
use Rattle.nts_model.specs.declared.labels.Variance.{Variance}
use Rattle.nts_model.specs.declared.labels.Variance.TheVariants as variance
use Rattle.nts_variance_model.specs.Variances.Judging.{opposite}
use Rattle.nts_store.specs.declared.nodes.NodeId.{NodeId}
use Rattle.nts_store.specs.Growth.{tree_at}
use Rattle.nts_terms.specs.Signatures.{variances_in}
use Rattle.nts_unify.specs.Reading.{content_of}
use Rattle.nts_variance.specs.Varying.{pair_in}
use Rattle.nts_variance.specs.Taking.{IsTaken}
use Rattle.nts_variance.proofs.Refusals.{refuses_owed}
use Rattle.nts_variance.proofs.equating.take_right.Goals as goal

pub returns-then-is_loose-clause-no : goal.returns-then-is_loose-clause-no
returns-then-is_loose-clause-no c = λ q.
    let ts = c.args.nodes.now in
    let p = c.args.pair in
    let known = c.requires.pair in
    let loose = c.is_loose.ensures.yes c.if-is_loose.true in
    refuses_owed (variances_in c.args.declarations.now) (content_of ts c.args.table.now.entries) p.variance (tree_at ts p.left) (tree_at ts p.right) known.left.sort known.right.sort known.left.knows known.right.knows (c.terms_are_formed.ensures.formed p.left known.left.within) (c.terms_are_formed.ensures.formed p.right known.right.within) known.left.kind known.right.kind (inl loose.closed) (c.owe.ensures.no q)

-- a pair turned twice
turned_back : (v : Variance) (a b : NodeId) → pair_in true (opposite v) b a ≡ record { variance = v; left = a; right = b }
turned_back variance.Invariant a b = refl
turned_back variance.Covariant a b = refl
turned_back variance.Contravariant a b = refl

pub returns-clause-taken : goal.returns-clause-taken
returns-clause-taken c =
    let p = c.args.pair in
    let same : pair_in true c.opposite-turned.result p.right p.left ≡ p = ap (λ v. pair_in true v p.right p.left) c.opposite-turned.ensures ∙ turned_back p.variance p.left p.right in
    subst (λ q. IfOk c.bind_head.result (IsTaken (variances_in c.args.declarations.now) c.args.nodes.now c.bind_head.new.nodes c.args.table.now.entries c.bind_head.new.table.entries q)) same c.bind_head.ensures.taken
