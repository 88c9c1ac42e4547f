use Rattle.nts_terms.proofs.handles.Ty.kind.Goals as goal

pub returns-in-Leaf-clause-fits : goal.returns-in-Leaf-clause-fits
returns-in-Leaf-clause-fits c = c.ty_of_leaf.ensures.fits c.args.cx.now.nodes
