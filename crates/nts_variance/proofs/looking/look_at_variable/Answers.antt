use Rattle.std.proofs.Common.{inl, refl}
use Rattle.nts_model.specs.declared.labels.VariableKind.TheVariants as kind
use Rattle.nts_store.specs.Growth.{tree_at}
use Rattle.nts_unify.proofs.Leading.{Reaches-leads}
use Rattle.nts_variance.proofs.Looks.{labelled_node, looked_type_value, looked_own, fresh_at, variable_closed}
use Rattle.nts_variance.proofs.looking.look_at_variable.Goals as goal

pub returns-then-root-target-clause-no : goal.returns-then-root-target-clause-no
returns-then-root-target-clause-no c = λ q.
    let t = tree_at c.args.nodes.now c.args.spot.term in
    inl (looked_own c.args.nodes.now c.args.table.now.entries t _ c.args.n c.in-Err.root c.args.target.variable c.requires.lawful c.requires.part.knows (labelled_node t _ c.requires.is) c.requires.formed refl c.in-Err.ensures.root c.if-root-target.true)

pub returns-in-Ok-clause-look : goal.returns-in-Ok-clause-look
returns-in-Ok-clause-look c = λ declared.
    let k = looked_type_value c.args.nodes.now c.args.table.now.entries (tree_at c.args.nodes.now c.args.spot.term) c.args.n _ c.in-Ok.value c.requires.lawful c.requires.part.knows c.requires.formed c.requires.is c.in-Ok.ensures.value.1 in
    (refl, refl, refl, k.0, k.1, c.requires.varies)

pub returns-in_ok-made-in-Err-clause-look : goal.returns-in_ok-made-in-Err-clause-look
returns-in_ok-made-in-Err-clause-look c = λ declared.
    let s = c.in_ok-made-in-Err.ensures in
    let v = variable_closed (tree_at c.args.nodes.now c.args.spot.term) c.args.n c.requires.is c.requires.formed in
    fresh_at declared c.args.target.is_turned c.args.target.universe c.args.target.variable c.args.nodes.now c.make_fresh.new.nodes c.args.table.now.entries c.make_fresh.new.table.entries c.args.spot c.in_ok-made-in-Err.made c.args.goals.now.items c.make_fresh.new.goals.items kind.Ty _ c.requires.known (inl refl) c.requires.lawful (s.lawful c.requires.lawful) s.extends c.requires.part c.requires.formed v.0 v.1 (inl v.2) (λ i. (c.requires.varies, refl)) (λ i. record { number = c.args.n; is = c.requires.is; root = c.in-Err.root; reaches = Reaches-leads c.args.nodes.now c.args.table.now.entries c.args.n c.in-Err.root c.in-Err.ensures.root.root.leads; link = refl }) s.within s.tree s.entries s.goals
