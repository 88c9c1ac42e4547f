use Rattle.std.proofs.Common.{refl, ap, ◌∙◌, map}
use Rattle.nts_model.specs.Terms.Substitutions.{leaf_tree}
use Rattle.nts_model.specs.Canonical.Inputs.{whole, position_kind}
use Rattle.nts_model.proofs.Terms.Unpositioned.{known_no_positions, known_well_bound}
use Rattle.nts_unify.specs.Reading.{content_of}
use Rattle.nts_canonical.specs.SubRoots.{sub_root_in}
use Rattle.nts_canonical.specs.Forms.{input_of}
use Rattle.nts_canonical.proofs.PairLists.{are_hidden-kept, AreLeafArgs-kept, trees_of-leaves, AreLeafArgs-hold}
use Rattle.nts_canonicalizer.proofs.Canonizing.{owned-originals, form_is}
use Rattle.nts_canonicalizer.proofs.Handed.{handed_in, form-kinds, form-positions, form-no_name, form-well_bound}
use Rattle.nts_canonicalizer.proofs.Having.{originals_are_values, values_of}
use Rattle.nts_canonicalizer.proofs.canonicalize.canonicalize_over.Goals as goal
use Rattle.nts_model.proofs.Canonical.CanonicalForms.{distinct-originals}

pub kinds_of-requires-clause-owned : goal.kinds_of-requires-clause-owned
kinds_of-requires-clause-owned c =
    let i = input_of c.args.cx.now.nodes c.args.table.now.entries c.args.goal c.args.opaque_types.now in
    rw (c.as_slice.ensures, c.requires.leaves) (owned-originals c.args.cx.now.nodes c.args.table.now.entries i c.requires.knows)

pub kinds_of-requires-clause-distinct : goal.kinds_of-requires-clause-distinct
kinds_of-requires-clause-distinct c =
    let i = input_of c.args.cx.now.nodes c.args.table.now.entries c.args.goal c.args.opaque_types.now in
    rw (c.as_slice.ensures, c.requires.leaves) (distinct-originals i)

pub numbered_query-requires-clause-hidden : goal.numbered_query-requires-clause-hidden
numbered_query-requires-clause-hidden c =
    are_hidden-kept c.args.cx.now.nodes c.arguments.new.nodes c.args.opaque_types.now c.requires.hidden c.arguments.ensures.extends

pub returns-clause-canonical : goal.returns-clause-canonical
returns-clause-canonical c =
    let e = c.args.table.now.entries in
    let q = c.in_ok-value.ensures in
    let kinds = c.in_ok-var_kinds.ensures ∙ ap (λ z. map (position_kind (sub_root_in e) z) z) c.as_slice.ensures in
    let are = AreLeafArgs-kept c.arguments.new.nodes c.numbered_query.new.nodes c.in_ok-originals.originals.items c.as_slice-2.result.now c.in_ok-originals.ensures.arguments c.numbered_query.ensures.extends in
    record {
      form = form_is c.args.cx.now.nodes c.arguments.new.nodes c.numbered_query.new.nodes e c.args.leaves.now c.args.goal c.args.opaque_types.now (record { canonical = record { value = c.in_ok-value.value; max_universe = 0; var_kinds = c.in_ok-var_kinds.var_kinds }; typing_mode = c.args.mode }) c.arguments.ensures.extends c.requires.goal.env c.requires.goal.predicate c.requires.hidden c.requires.leaves (record { environment = q.environment; predicate = q.predicate; hidden = q.hidden }) kinds;
      universe = refl;
      mode = refl;
      originals = trees_of-leaves c.numbered_query.new.nodes c.in_ok-originals.originals.items c.as_slice-2.result.now are ∙ ap (map leaf_tree) (c.as_slice-2.ensures ∙ c.requires.leaves);
      holds_originals = AreLeafArgs-hold c.numbered_query.new.nodes c.in_ok-originals.originals.items c.as_slice-2.result.now are;
      holds = q.holds;
    }

pub returns-clause-askable : goal.returns-clause-askable
returns-clause-askable c =
    let i = input_of c.args.cx.now.nodes c.args.table.now.entries c.args.goal c.args.opaque_types.now in
    let h = known_no_positions (content_of c.args.cx.now.nodes c.args.table.now.entries) (whole i) c.requires.knows in
    let is = returns-clause-canonical c in
    record {
      positions = values_of (originals_are_values i h) is.form is.originals;
      input = handed_in is.holds refl is.form (form-kinds i) (form-positions i h) (form-no_name i) (form-well_bound i (known_well_bound (content_of c.args.cx.now.nodes c.args.table.now.entries) (whole i) c.requires.knows));
    }
