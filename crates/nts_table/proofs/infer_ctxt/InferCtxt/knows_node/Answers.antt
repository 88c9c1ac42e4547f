use Rattle.std.proofs.Common.{rules, ◌≡◌, Bool, true, false, refl, sym, ap, ◌∙◌}
use Rattle.std.specs.Prelude.{IsTrue}
use Rattle.nts_model.specs.Terms.Trees.{any_label, is_infer, is_region_infer, is_placeholder, is_canonical}
use Rattle.nts_model.proofs.Terms.Unpositioned.{known_no_positions, known_well_bound, leaves_known}
use Rattle.nts_store.specs.declared.type_flags.TypeFlags.{TypeFlags}
use Rattle.nts_store.specs.Growth.{tree_at}
use Rattle.nts_unify.specs.Reading.{content_of}
use Rattle.nts_unify.proofs.Looking.{Knows-none, labels_known, known_labels, if_both}
use Rattle.nts_table.proofs.infer_ctxt.InferCtxt.knows_node.Goals as goal
use Rattle.nts_store.proofs.Filling.{from_not}

pub returns-then-flags : goal.returns-then-flags
returns-then-flags c =
    let ts = c.args.nodes.now in
    let t = tree_at ts c.args.t in
    let named : c.flags-flags.result.has_canonical ≡ true = first_of (cc, search rules) in
    let some : any_label is_canonical t ≡ true = sym (ap (λ (f : TypeFlags). f.has_canonical) c.flags-flags.ensures) ∙ named in
    let different : (b : Bool) → b ≡ true → b ≡ false → ⊥ = λ b h k. (let z : true ≡ false = sym h ∙ k in cc z) in
    ((λ h. cc), λ k. absurd (different (any_label is_canonical t) some (known_no_positions (content_of ts c.args.self.now.entries) t k)))

pub returns-then-not-is_well_bound : goal.returns-then-not-is_well_bound
returns-then-not-is_well_bound c = (
  (λ h. cc),
  λ k. let yes : IsTrue c.is_well_bound.result = c.is_well_bound.ensures.1 (known_well_bound (content_of c.args.nodes.now c.args.self.now.entries) (tree_at c.args.nodes.now c.args.t) k) in cc,
)

pub returns-then-not-flags-3 : goal.returns-then-not-flags-3
returns-then-not-flags-3 c =
    let t = tree_at c.args.nodes.now c.args.t in
    let infer : any_label is_infer t ≡ false = sym (ap (λ (f : TypeFlags). f.has_infer) c.flags-flags.ensures) ∙ from_not c.flags-flags.result.has_infer c.if-not-flags.true in
    let region : any_label is_region_infer t ≡ false = sym (ap (λ (f : TypeFlags). f.has_region_infer) c.flags-flags.ensures) ∙ from_not c.flags-flags.result.has_region_infer c.if-not-flags-2.true in
    let placeholder : any_label is_placeholder t ≡ false = sym (ap (λ (f : TypeFlags). f.has_placeholder) c.flags-flags.ensures) ∙ from_not c.flags-flags.result.has_placeholder c.if-not-flags-3.true in
    let unnamed : c.flags-flags.result.has_canonical ≡ false = first_of (cc, search rules) in
    let positions : any_label is_canonical t ≡ false = sym (ap (λ (f : TypeFlags). f.has_canonical) c.flags-flags.ensures) ∙ unnamed in
    ((λ h. Knows-none (content_of c.args.nodes.now c.args.self.now.entries) t infer region placeholder positions (c.is_well_bound.ensures.0 c.if-not-is_well_bound.false)), λ h. refl)

pub returns : goal.returns
returns c =
    let ts = c.args.nodes.now in
    let e = c.args.self.now.entries in
    let t = tree_at ts c.args.t in
    let unnamed : c.flags-flags.result.has_canonical ≡ false = first_of (cc, search rules) in
    let positions : any_label is_canonical t ≡ false = sym (ap (λ (f : TypeFlags). f.has_canonical) c.flags-flags.ensures) ∙ unnamed in
    if_both c.all_labels.result (λ h. leaves_known (content_of ts e) t (labels_known ts e t h) positions (c.is_well_bound.ensures.0 c.if-not-is_well_bound.false)) (known_labels ts e t) c.all_labels.ensures
