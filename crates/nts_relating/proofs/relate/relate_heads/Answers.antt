use Rattle.std.proofs.Common.{◌≡◌, ◌++◌, ◌∷◌, [], true, false, refl, sym, ap, ◌∙◌}
use Rattle.std.specs.Prelude.{get_or}
use Rattle.nts_model.specs.Terms.Trees.{empty}
use Rattle.nts_model.specs.Tables.Equations.{AreRelated}
use Rattle.nts_store.specs.Growth.{tree_at}
use Rattle.nts_store.proofs.Growing.{Extends-refl}
use Rattle.nts_unify.specs.Changing.{is_free_region}
use Rattle.nts_unify.specs.Reading.{content_of}
use Rattle.nts_unify.proofs.Keeping.{KeepsKnowing-refl, IsLater-refl}
use Rattle.nts_model.proofs.Tables.Bringing.{brings-refl, brings-of}
use Rattle.nts_relating.proofs.RegionLemmas.{region_of_term}
use Rattle.nts_relating.proofs.PairLemmas.{Stepped, last_pair, step_kept, step_pushed, heads_same, heads_regions, regions_bring}
use Rattle.nts_relating.proofs.MetPairs.{Passed, memo_done, memo_pushed, memo_noted, passed_met}
use Rattle.nts_relating.proofs.RefusalLemmas.{refuse_heads}
use Rattle.nts_unify.proofs.NodeLemmas.{true_false}
use Rattle.nts_relating.proofs.relate.relate_heads.Goals as goal
use Rattle.nts_relating.proofs.relate.relate_heads.Goals.{else-names_free_region-via-then-names_free_region+else-names_free_region-2, else-names_free_region-via-else-names_free_region}

same_related : (c : goal.Then-a-b) → AreRelated (content_of c.args.nodes.now c.args.table.now.entries) (content_of c.args.nodes.now c.args.table.now.entries) (tree_at c.args.nodes.now c.args.pair.left) (tree_at c.args.nodes.now c.args.pair.right)
same_related c =
    heads_same (content_of c.args.nodes.now c.args.table.now.entries) _ _ _ _ c.requires.valid.lawful.sound c.requires.left c.requires.right (ap (λ n. get_or c.args.nodes.now n empty) c.if-a-b.true)

same : (c : goal.Then-a-b) → Stepped c.args.nodes.now c.args.nodes.now c.args.table.now.entries c.args.table.now.entries c.args.pairs.now.items c.args.pairs.now.items c.args.pair false
same c =
    step_kept c.args.nodes.now c.args.table.now.entries c.args.table.now.entries c.args.pairs.now.items c.args.pair c.requires.valid c.requires.valid.lawful (KeepsKnowing-refl (content_of c.args.nodes.now c.args.table.now.entries)) (same_related c) (brings-of _ _ (brings-refl (content_of c.args.nodes.now c.args.table.now.entries)))

pub returns-then-a-b-clause-valid : goal.returns-then-a-b-clause-valid
returns-then-a-b-clause-valid c = (same c).valid

pub returns-then-a-b-clause-step : goal.returns-then-a-b-clause-step
returns-then-a-b-clause-step c = (same c).step

pub returns-then-a-b-clause-memo : goal.returns-then-a-b-clause-memo
returns-then-a-b-clause-memo c =
    memo_done c.args.nodes.now c.args.nodes.now c.args.table.now.entries c.args.table.now.entries c.args.pairs.now.items c.args.met.now.keys c.args.pair c.requires.valid (Extends-refl c.args.nodes.now) c.requires.valid.lawful (IsLater-refl (content_of c.args.nodes.now c.args.table.now.entries)) (same_related c) c.requires.memo

pub relate_regions-requires-clause-left : goal.relate_regions-requires-clause-left
relate_regions-requires-clause-left c =
    region_of_term c.args.nodes.now c.args.table.now.entries c.args.a c.label-left.result c.requires.left_in c.requires.left.knows c.label-left.ensures.is c.label-left.ensures.formed (sym c.names_free_region.ensures ∙ c.if-names_free_region.true)

pub relate_regions-requires-clause-right : goal.relate_regions-requires-clause-right
relate_regions-requires-clause-right c =
    region_of_term c.args.nodes.now c.args.table.now.entries c.args.b c.label-right.result c.requires.right_in c.requires.right.knows c.label-right.ensures.is c.label-right.ensures.formed (sym c.names_free_region-then-names_free_region.ensures ∙ c.if-names_free_region-2.true)

regions_related : (c : goal.In_ok-relate_regions) → AreRelated (content_of c.args.nodes.now c.args.table.now.entries) (content_of c.args.nodes.now c.relate_regions.new.table.entries) (tree_at c.args.nodes.now c.args.pair.left) (tree_at c.args.nodes.now c.args.pair.right)
regions_related c =
    let last = last_pair c.args.nodes.now c.args.table.now.entries c.args.pairs.now.items c.args.pair c.requires.valid in
    heads_regions (content_of c.args.nodes.now c.args.table.now.entries) (content_of c.args.nodes.now c.relate_regions.new.table.entries) _ _ _ _ last.left_known last.right_known c.requires.left c.requires.right c.in_ok-relate_regions.ensures.related

regions : (c : goal.In_ok-relate_regions) → Stepped c.args.nodes.now c.args.nodes.now c.args.table.now.entries c.relate_regions.new.table.entries c.args.pairs.now.items c.args.pairs.now.items c.args.pair false
regions c =
    step_kept c.args.nodes.now c.args.table.now.entries c.relate_regions.new.table.entries c.args.pairs.now.items c.args.pair c.requires.valid c.in_ok-relate_regions.ensures.lawful c.in_ok-relate_regions.ensures.related.keeps (regions_related c) (regions_bring c.requires.left c.requires.right c.in_ok-relate_regions.ensures.related)

pub returns-then-names_free_region-2-clause-valid : goal.returns-then-names_free_region-2-clause-valid
returns-then-names_free_region-2-clause-valid c = (regions c).valid

pub returns-then-names_free_region-2-clause-step : goal.returns-then-names_free_region-2-clause-step
returns-then-names_free_region-2-clause-step c = (regions c).step

pub returns-then-names_free_region-2-clause-memo : goal.returns-then-names_free_region-2-clause-memo
returns-then-names_free_region-2-clause-memo c =
    memo_done c.args.nodes.now c.args.nodes.now c.args.table.now.entries c.relate_regions.new.table.entries c.args.pairs.now.items c.args.met.now.keys c.args.pair c.requires.valid (Extends-refl c.args.nodes.now) c.in_ok-relate_regions.ensures.lawful c.in_ok-relate_regions.ensures.related.keeps.later (regions_related c) c.requires.memo

equal : (c : goal.In_ok-push_children) → c.label-left.result ≡ c.label-right.result
equal c = c.is_same.ensures.yes c.if-not-is_same.false

not_free : (c : goal.In_ok-push_children) → is_free_region c.label-left.result ≡ false
not_free c =
    elim c.else-names_free_region.branch [
      | else-names_free_region-via-then-names_free_region+else-names_free_region-2 w ↦ ap is_free_region (equal c) ∙ sym w.names_free_region-then-names_free_region.ensures ∙ w.if-names_free_region-2.false
      | else-names_free_region-via-else-names_free_region w ↦ sym c.names_free_region.ensures ∙ w.if-names_free_region.false
    ]

children_left : (c : goal.In_ok-push_children) → Stepped c.args.nodes.now c.args.nodes.now c.args.table.now.entries c.args.table.now.entries c.args.pairs.now.items c.push_children.new.pairs.items c.args.pair false
children_left c =
    step_pushed c.args.nodes.now c.args.table.now.entries c.args.pairs.now.items c.push_children.new.pairs.items c.args.pair c.args.a c.args.b c.label-left.result c.label-right.result c.requires.valid c.requires.left c.requires.right c.label-left.ensures.is c.label-right.ensures.is (equal c) (not_free c) c.in_ok-push_children.ensures.pushed

pub returns-clause-valid : goal.returns-clause-valid
returns-clause-valid c = (children_left c).valid

pub returns-clause-step : goal.returns-clause-step
returns-clause-step c = (children_left c).step

pub returns-then-not-is_same-clause-no : goal.returns-then-not-is_same-clause-no
returns-then-not-is_same-clause-no c = λ q.
    let ts = c.args.nodes.now in
    let e = c.args.table.now.entries in
    let two : is_free_region c.label-left.result ≡ true → is_free_region c.label-right.result ≡ true → ⊥ = λ f g. elim c.else-names_free_region.branch [
      | else-names_free_region-via-then-names_free_region+else-names_free_region-2 w ↦ true_false (sym g ∙ sym w.names_free_region-then-names_free_region.ensures ∙ w.if-names_free_region-2.false)
      | else-names_free_region-via-else-names_free_region w ↦ true_false (sym f ∙ sym c.names_free_region.ensures ∙ w.if-names_free_region.false)
    ] in
    refuse_heads ts e c.args.pairs.now.items c.args.pair c.args.a c.args.b c.label-left.result c.label-right.result c.requires.left c.requires.right c.label-left.ensures.is c.label-right.ensures.is two (λ s. absurd (c.is_same.ensures.no c.if-not-is_same.true s))

pub returns-then-left_count-right_count-clause-no : goal.returns-then-left_count-right_count-clause-no
returns-then-left_count-right_count-clause-no c = λ q.
    let ts = c.args.nodes.now in
    let e = c.args.table.now.entries in
    let two : is_free_region c.label-left.result ≡ true → is_free_region c.label-right.result ≡ true → ⊥ = λ f g. elim c.else-names_free_region.branch [
      | else-names_free_region-via-then-names_free_region+else-names_free_region-2 w ↦ true_false (sym g ∙ sym w.names_free_region-then-names_free_region.ensures ∙ w.if-names_free_region-2.false)
      | else-names_free_region-via-else-names_free_region w ↦ true_false (sym f ∙ sym c.names_free_region.ensures ∙ w.if-names_free_region.false)
    ] in
    refuse_heads ts e c.args.pairs.now.items c.args.pair c.args.a c.args.b c.label-left.result c.label-right.result c.requires.left c.requires.right c.label-left.ensures.is c.label-right.ensures.is two
    (λ s. record {
      left = c.child_count-left_count.ensures.row;
      right = c.child_count-right_count.ensures.row;
      differ = λ d. c.if-left_count-right_count.true (c.child_count-left_count.ensures.count ∙ d ∙ sym c.child_count-right_count.ensures.count);
    })

-- the pair was met before
passed : (c : goal.Then-not-branch) → Passed c.args.nodes.now c.args.table.now.entries c.args.pairs.now.items c.args.met.now.keys c.args.pair
passed c =
    let found = (c.in_ok-note.ensures.known c.if-not-branch.true).0 in
    passed_met c.args.nodes.now c.args.table.now.entries c.args.pairs.now.items c.args.met.now.keys c.args.pair c.args.a c.args.b c.requires.valid c.requires.left c.requires.right found c.requires.memo

pub returns-then-not-branch-clause-valid : goal.returns-then-not-branch-clause-valid
returns-then-not-branch-clause-valid c = (passed c).stepped.valid

pub returns-then-not-branch-clause-step : goal.returns-then-not-branch-clause-step
returns-then-not-branch-clause-step c = (passed c).stepped.step

pub returns-then-not-branch-clause-memo : goal.returns-then-not-branch-clause-memo
returns-then-not-branch-clause-memo c =
    rw (c.in_ok-note.ensures.known c.if-not-branch.true).1 (passed c).memo

pub returns-clause-memo : goal.returns-clause-memo
returns-clause-memo c =
    memo_noted c.args.nodes.now c.args.table.now.entries c.push_children.new.pairs.items c.args.met.now.keys c.note.new.met.keys (record { left = c.args.a; right = c.args.b }) (c.in_ok-note.ensures.new c.if-not-branch.false)
    (memo_pushed c.args.nodes.now c.args.table.now.entries c.args.pairs.now.items c.push_children.new.pairs.items c.args.met.now.keys (c.args.met.now.keys ++ record { left = c.args.a; right = c.args.b } ∷ []) c.args.pair c.args.a c.args.b c.label-left.result c.label-right.result c.requires.valid c.requires.left_in c.requires.right_in c.requires.left c.requires.right c.label-left.ensures.is c.label-right.ensures.is (equal c) (not_free c) c.in_ok-push_children.ensures.pushed refl c.requires.memo)
