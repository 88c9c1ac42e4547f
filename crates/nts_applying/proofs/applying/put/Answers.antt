use Rattle.std.proofs.Common.{◌≡◌, List, map, sym, ap, subst, ◌∙◌}
use Rattle.nts_model.specs.Terms.Trees.{Tree}
use Rattle.nts_model.specs.Tables.Contents.{Content}
use Rattle.nts_model.specs.Terms.Substitutions.{filled}
use Rattle.nts_model.specs.Derivations.Handlers.{hidden_by, premise_by}
use Rattle.nts_model.specs.Answers.Applying.{Records}
use Rattle.nts_model.specs.Tables.Passing.{BringsOnly}
use Rattle.nts_model.specs.Tables.SubUnifying.{JoinsSubRoots}
use Rattle.nts_store.specs.Growth.{tree_at, Extends}
use Rattle.nts_store.specs.Kept.{map-kept}
use Rattle.nts_store.proofs.Growing.{AllIn-extended, Extends-trans}
use Rattle.nts_unify.specs.Reading.{content_of}
use Rattle.nts_unify.specs.Lawful.{content_of-extended}
use Rattle.nts_unify.specs.Recording.{is_visible}
use Rattle.nts_table.specs.TableLaws.{IsTable-extended}
use Rattle.nts_candidates.specs.Offered.{hidden_of}
use Rattle.nts_canonical.specs.Forms.{IsHidden}
use Rattle.nts_response.specs.Applied.{StepKeeps}
use Rattle.nts_response.specs.Recorded.{sides_of, AddsAllSeen}
use Rattle.nts_response.specs.Registered.{TakesAll}
use Rattle.nts_response.specs.Applicable.{AreKnownPremises}
use Rattle.nts_response.specs.Forms.{StoreHoldsConstraint, HoldsOpen, recorded_at, premise_at}
use Rattle.nts_response.proofs.Each.{same_views, constraints_kept, hidden_kept, goals_kept, replaced_later}
use Rattle.nts_applying.proofs.Stepping.{step_then, joins_next, nodes_grown}
use Rattle.nts_applying.proofs.RecordSteps.{recordable_later}
use Rattle.nts_applying.proofs.OpenSteps.{openable_later}
use Rattle.nts_applying.proofs.PutSteps.{registrable_later, registered_ready, images_views, premises_later}
use Rattle.nts_applying.proofs.applying.put.Goals as goal

-- the constraints are recorded after the originals were made equal
pub record_constraints-requires-clause-chosen : goal.record_constraints-requires-clause-chosen
record_constraints-requires-clause-chosen c = AllIn-extended c.equate_values.ensures.keeps.grows.extends c.args.chosen.now c.requires.chosen

pub record_constraints-requires-clause-constraints : goal.record_constraints-requires-clause-constraints
record_constraints-requires-clause-constraints c =
    rw c.deref-2.ensures.value (λ k d l. recordable_later c.args.cx.now c.equate_values.new.cx c.args.table.now c.equate_values.new.table c.args.chosen.now c.equate_values.ensures.keeps c.requires.chosen _ (c.requires.ready.constraints k d l))

-- both steps
recorded : (c : goal.After-deref-3) → StepKeeps c.args.cx.now c.record_constraints.new.cx c.args.table.now c.record_constraints.new.table
recorded c = step_then c.equate_values.ensures.keeps c.record_constraints.ensures.keeps

pub fill_hidden-requires-clause-holds : goal.fill_hidden-requires-clause-holds
fill_hidden-requires-clause-holds c =
    rw c.deref-3.ensures.value (registrable_later c.args.cx.now c.record_constraints.new.cx c.args.table.now c.record_constraints.new.table c.args.chosen.now _ (recorded c) c.requires.chosen c.requires.ready.hidden).held

pub fill_hidden-requires-clause-values : goal.fill_hidden-requires-clause-values
fill_hidden-requires-clause-values c = (let g = (recorded c).grows in AllIn-extended g.extends c.args.chosen.now c.requires.chosen)

pub fill_hidden-requires-clause-positions : goal.fill_hidden-requires-clause-positions
fill_hidden-requires-clause-positions c =
    rw c.deref-3.ensures.value (registrable_later c.args.cx.now c.record_constraints.new.cx c.args.table.now c.record_constraints.new.table c.args.chosen.now _ (recorded c) c.requires.chosen c.requires.ready.hidden).positions

pub returns-in_err-hidden-clause-table : goal.returns-in_err-hidden-clause-table
returns-in_err-hidden-clause-table c = IsTable-extended c.fill_hidden.ensures.extends c.record_constraints.ensures.keeps.table

-- from the store at first to the one in which the hidden types are filled
filled_store : (c : goal.After-deref-4) → Extends c.args.cx.now.nodes c.fill_hidden.new.nodes
filled_store c = (let g = (step_then c.equate_values.ensures.keeps c.record_constraints.ensures.keeps).grows in Extends-trans g.extends c.fill_hidden.ensures.extends)

pub opened_goals-requires-clause-chosen : goal.opened_goals-requires-clause-chosen
opened_goals-requires-clause-chosen c = AllIn-extended (filled_store c) c.args.chosen.now c.requires.chosen

pub opened_goals-requires-clause-goals : goal.opened_goals-requires-clause-goals
opened_goals-requires-clause-goals c =
    rw c.deref-4.ensures.value (λ k d l. openable_later c.args.cx.now.nodes c.fill_hidden.new.nodes c.args.chosen.now _ (filled_store c) c.requires.chosen (c.requires.ready.open_goals k d l))

pub returns-in_err-goals-clause-table : goal.returns-in_err-goals-clause-table
returns-in_err-goals-clause-table c = IsTable-extended (Extends-trans c.fill_hidden.ensures.extends c.opened_goals.ensures.extends) c.record_constraints.ensures.keeps.table

pub register_hidden-requires-clause-table : goal.register_hidden-requires-clause-table
register_hidden-requires-clause-table c = IsTable-extended (Extends-trans c.fill_hidden.ensures.extends c.opened_goals.ensures.extends) c.record_constraints.ensures.keeps.table

pub register_hidden-requires-clause-hidden : goal.register_hidden-requires-clause-hidden
register_hidden-requires-clause-hidden c =
    let b = c.record_constraints.new.cx in
    let u = c.record_constraints.new.table in
    let s = step_then c.equate_values.ensures.keeps c.record_constraints.ensures.keeps in
    let g = s.grows in
    let up = Extends-trans c.fill_hidden.ensures.extends c.opened_goals.ensures.extends in
    rw c.deref-5.ensures.value
    (registered_ready b (record b { nodes = c.opened_goals.new.nodes }) c.fill_hidden.new.nodes u u c.args.chosen.now c.args.response.now.external_constraints.opaque_types.items c.in_ok-hidden.hidden.items (nodes_grown b c.opened_goals.new.nodes u c.record_constraints.ensures.keeps.table up)
    (AllIn-extended g.extends c.args.chosen.now c.requires.chosen) c.fill_hidden.ensures.extends c.opened_goals.ensures.extends
    (registrable_later c.args.cx.now b c.args.table.now u c.args.chosen.now c.args.response.now.external_constraints.opaque_types.items s c.requires.chosen c.requires.ready.hidden) (rw c.deref-3.ensures.value at c.in_ok-hidden.ensures.images))

pub returns-clause-put : goal.returns-clause-put
returns-clause-put c =
    let a = c.args.cx.now.nodes in
    let m = c.equate_values.new.cx.nodes in
    let n = c.record_constraints.new.cx.nodes in
    let b = c.register_hidden.new.cx.nodes in
    let t = c.record_constraints.new.table in
    let u = c.register_hidden.new.table in
    let r = c.args.response.now in
    let cs = r.external_constraints.region_constraints.items in
    let hs = r.external_constraints.opaque_types.items in
    let gs = r.external_constraints.normalization_nested_goals.items in
    let rs = c.in_ok-hidden.hidden.items in
    let nodes = c.args.chosen.now in
    let xs : List Tree = map (tree_at a) nodes in
    let equal : Content = content_of m c.equate_values.new.table.entries in
    let s = step_then c.equate_values.ensures.keeps c.record_constraints.ensures.keeps in
    let grew = s.grows in
    let first = c.equate_values.ensures.keeps.grows.extends in
    let later = Extends-trans c.opened_goals.ensures.extends c.register_hidden.ensures.grows.extends in
    let beyond = Extends-trans c.fill_hidden.ensures.extends later in
    let holds = c.requires.ready.holds in
    let is = c.in_ok-register_hidden.ensures.entries in
    let last : content_of b u.entries ≡ content_of n t.entries = ap (content_of b) is ∙ content_of-extended beyond s.table.now in
    let sides : map (recorded_at m) cs ≡ map (recorded_at a) cs = same_views StoreHoldsConstraint recorded_at constraints_kept a m cs holds.constraints first in
    let recorded_there : Records (map (tree_at m) nodes) (map (recorded_at m) cs) equal (content_of n t.entries) = rw c.deref-2.ensures.value at c.in_ok-record_constraints.ensures.recorded in
    let labels_there : BringsOnly (map (filled (map (tree_at m) nodes)) (sides_of (map (recorded_at m) cs))) equal (content_of n t.entries) = rw c.deref-2.ensures.value at c.in_ok-record_constraints.ensures.labels in
    let seen_there : AddsAllSeen (is_visible c.args.visible) (map (recorded_at m) cs) equal.constraints (content_of n t.entries).constraints = rw c.deref-2.ensures.value at c.in_ok-record_constraints.ensures.seen in
    let there : map (tree_at n) nodes ≡ xs = map-kept a n nodes c.requires.chosen grew.extends in
    let pairs : map (hidden_of n) hs ≡ map (hidden_of a) hs = same_views IsHidden hidden_of hidden_kept a n hs holds.hidden grew.extends in
    let opened = replaced_later HoldsOpen premise_at (premise_by (filled (map (tree_at c.fill_hidden.new.nodes) nodes))) goals_kept a c.fill_hidden.new.nodes c.opened_goals.new.nodes b gs c.in_ok-goals.goals.items
    (Extends-trans grew.extends c.fill_hidden.ensures.extends) c.register_hidden.ensures.grows.extends holds.open_goals (rw c.deref-4.ensures.value at c.in_ok-goals.ensures.each) in
    let views = opened.views ∙ ap (λ z. map (premise_by (filled z)) (map (premise_at a) gs)) (map-kept a c.fill_hidden.new.nodes nodes c.requires.chosen (Extends-trans grew.extends c.fill_hidden.ensures.extends)) in
    record {
      equal = equal;
      makes = rw c.deref.ensures.value at c.in_ok-equate_values.ensures.equal;
      records = subst (λ z. Records xs (map (recorded_at a) cs) equal z) (sym last)
          (subst (λ z. Records z (map (recorded_at a) cs) equal (content_of n t.entries)) (map-kept a m nodes c.requires.chosen first) (subst (λ z. Records (map (tree_at m) nodes) z equal (content_of n t.entries)) sides recorded_there));
      related = (let later = c.equate_values.ensures.later in later.visible);
      seen = subst (λ (z : Content). AddsAllSeen (is_visible c.args.visible) (map (recorded_at a) cs) equal.constraints z.constraints) (sym last)
          (subst (λ z. AddsAllSeen (is_visible c.args.visible) z equal.constraints (content_of n t.entries).constraints) sides seen_there);
      joins = subst (JoinsSubRoots (content_of a c.args.table.now.entries)) (sym last) (joins_next c.equate_values.ensures.keeps (let later = c.equate_values.ensures.later in later.subs) c.record_constraints.ensures.keeps c.in_ok-record_constraints.ensures.joins);
      equal_labels = rw c.deref.ensures.value at c.in_ok-equate_values.ensures.labels;
      recorded_labels = subst (λ z. BringsOnly (map (filled xs) (sides_of (map (recorded_at a) cs))) equal z) (sym last)
          (subst (λ z. BringsOnly (map (filled z) (sides_of (map (recorded_at a) cs))) equal (content_of n t.entries)) (map-kept a m nodes c.requires.chosen first) (subst (λ z. BringsOnly (map (filled (map (tree_at m) nodes)) (sides_of z)) equal (content_of n t.entries)) sides labels_there));
      hidden_types = rs;
      hidden = images_views (filled (map (tree_at n) nodes)) n c.fill_hidden.new.nodes b hs rs later (rw c.deref-3.ensures.value at c.in_ok-hidden.ensures.images)
          ∙ ap (map (hidden_by (filled (map (tree_at n) nodes)))) pairs ∙ ap (λ z. map (hidden_by (filled z)) (map (hidden_of a) hs)) there;
      registers = subst (λ z. TakesAll b z c.args.table.now.entries.hidden rs u.entries.hidden) (sym (ap (content_of b) is))
          (subst (λ z. TakesAll b (content_of b t.entries) z rs u.entries.hidden) s.hidden (rw c.deref-5.ensures.value at c.in_ok-register_hidden.ensures.registered));
      open_goals = views;
      held = opened.held;
      known = subst (AreKnownPremises (content_of b u.entries)) (sym views)
          (subst (λ z. AreKnownPremises z (map (premise_by (filled xs)) (map (premise_at a) gs))) (sym last)
          (premises_later (content_of a c.args.table.now.entries) (content_of n t.entries) (map (premise_by (filled xs)) (map (premise_at a) gs)) s.kinds c.requires.ready.known));
    }
