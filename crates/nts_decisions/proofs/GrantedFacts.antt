-- What a query's answer says of a world with one region: it is found in the table, and granted to the caller.
use Rattle.std.proofs.Common.{◌≡◌, inl, inr, ℕ, zero, suc, false, List, [], ◌∷◌, map, get_or, Option, Some, None, refl, sym, ap, subst, ◌∙◌, arith}
use Rattle.std.specs.Prelude.{slice_get, ◌-◌}
use Rattle.std.specs.List.{position_or_len}
use Rattle.nts_model.specs.declared.labels.Sort.{Sort}
use Rattle.nts_model.specs.declared.labels.Sort.TheVariants as sort
use Rattle.nts_model.specs.declared.labels.VariableKind.{VariableKind}
use Rattle.nts_model.specs.declared.labels.VariableKind.TheVariants as kind
use Rattle.nts_model.specs.declared.labels.FreeRegion.TheVariants as region
use Rattle.nts_model.specs.declared.labels.Constant.TheVariants as constant
use Rattle.nts_model.specs.declared.labels.Leaf.{Leaf}
use Rattle.nts_model.specs.declared.labels.Leaf.TheVariants as leaf
use Rattle.nts_model.specs.Terms.Trees.{Tree, empty}
use Rattle.nts_model.specs.Tables.Contents.{Content, Slot, map_slot, universe_of, kind_at}
use Rattle.nts_model.specs.Tables.Resolving.{Knows, deeply_resolved}
use Rattle.nts_model.specs.Tables.Levels.{NamesAll}
use Rattle.nts_model.specs.Tables.Worlds.{World, inst}
use Rattle.nts_model.specs.Terms.Substitutions.{leaf_tree, filled}
use Rattle.nts_model.specs.Lists.{Among}
use Rattle.nts_model.specs.Derivations.Handlers.{IsFixed}
use Rattle.nts_model.specs.Canonical.Inputs.{PositionKind, placeholder, share}
use Rattle.nts_model.specs.Answers.Responses.{Findings, AreFindings, own_leaves, positioned, is_fixed, answer_kind, universe_or, placeholder_tree, response_of, IsLeafIn, IsQueryTable}
use Rattle.nts_model.specs.Terms.Placeholders.{leaf_level}
use Rattle.nts_model.specs.Refutation.Containing.{IsOwnValue}
use Rattle.nts_model.proofs.Tables.Worlds.{inst-deeply_resolved}
use Rattle.nts_model.proofs.Canonical.Positioned.{get_or-map, inst-filled}
use Rattle.nts_theory.proofs.Responses.Answering.{AllTrees, AreSeen, IsPlainTerm, filled-positioned, all_found_seen, positioned_over, own_loose}
use Rattle.nts_theory.proofs.Responses.Querying.{all_plain, own_in}
use Rattle.nts_theory.proofs.Refutation.AskingWorlds.{integer_leaf, float_leaf}
use Rattle.nts_model.specs.Terms.Trees.{IsFormed}
use Rattle.nts_model.specs.Tables.Worlds.{Solves}
use Rattle.nts_model.specs.Terms.Substitutions.{filled_under}
use Rattle.nts_model.specs.Canonical.Inputs.{type_variable, integer_variable, float_variable, const_variable, region_variable}
use Rattle.nts_model.specs.Answers.Responses.{Response}
use Rattle.nts_model.proofs.Canonical.Positioned.{replace-filled}
use Rattle.nts_theory.specs.Telling.{IsResponseOf}
use Rattle.nts_theory.proofs.Refutation.Responding.{ArePlaced}
use Rattle.nts_theory.proofs.Refutation.Freshening.{filled_agree}
use Rattle.nts_decisions.specs.Deciding.{blurred_leaf, blurred}
use Rattle.nts_decisions.proofs.BlurredWorlds.{merged, blurred_world, solves_blurred, inst_blurred}
use Rattle.nts_decisions.proofs.OneRegion.{merged_one, blurred_same, names_regions}
use Rattle.nts_decisions.proofs.FactWorlds.{MergedWorld, leaf_one}
use Rattle.nts_theory.proofs.Refutation.Queried.{own_known}

-- a value for a position of a response, but for regions
abbrev pub IsMergedValue : List Tree → PositionKind → Tree → Type 0
IsMergedValue vs (type_variable u r) t = IsOwnValue u kind.Ty t
IsMergedValue vs integer_variable t = IsOwnValue 0 kind.Int t
IsMergedValue vs float_variable t = IsOwnValue 0 kind.Float t
IsMergedValue vs (const_variable u) t = IsOwnValue u kind.Const t
IsMergedValue vs (region_variable u) t = IsOwnValue u kind.Region t
IsMergedValue vs (placeholder s zero n) t = t ≡ get_or vs n empty
IsMergedValue vs (placeholder s (suc u) n) t = t ≡ merged (placeholder_tree s (suc u) n)

abbrev pub AreMergedValues : List Tree → List PositionKind → List Tree → Type 0
AreMergedValues vs [] [] = Unit {0}
AreMergedValues vs (k ∷ ks) (t ∷ ts) = IsMergedValue vs k t × AreMergedValues vs ks ts
AreMergedValues vs ks ts = ⊥

-- for some values of its positions the response's values are these trees, but for regions
pub record ContainsMerged (r : Response) (vs : List Tree) : Type 0 where
  pub own : List Tree
  pub one : map blurred own ≡ own
  pub values : AreMergedValues vs r.kinds own
  pub equal : map (λ t. blurred (filled own t)) r.findings.values ≡ vs

fixed_blurred : (w : World) (l : Leaf) → IsFixed l → blurred_leaf l ≡ inst (blurred_world w) (leaf_tree l)
fixed_blurred w (leaf.Region r) i = refl
fixed_blurred w (leaf.Variable k n) i = absurd i
fixed_blurred w (leaf.TyConstant a) i = absurd i
fixed_blurred w (leaf.ConstConstant a) i = absurd i

-- values with one region in a term over positions
pub blurred_filled : (own : List Tree) (t : Tree) → map blurred own ≡ own → blurred (filled own t) ≡ filled_under blurred_leaf own t
blurred_filled own t e = replace-filled blurred_leaf own t ∙ ap (λ z. filled_under blurred_leaf z t) e

module _ (ks : List PositionKind) (q : Content) (qs ts : List Tree) (x : Findings) (table : IsQueryTable ks q qs) (found : AreFindings q qs x) (no_hidden : x.hidden ≡ []) (no_goals : x.open_goals ≡ []) (placed : ArePlaced ks qs) (m : MergedWorld q qs ts) where
  known_here : (l : Leaf) → Among (own_leaves x) l → Knows q (leaf_tree l)
  known_here l i = own_known ks q qs x table found no_hidden no_goals l i

  abbrev world : World
  world = blurred_world m.world

  solved : Solves q (blurred_world m.world)
  solved = solves_blurred q m.world m.solves

  abbrev own_trees : List Leaf → List Tree
  own_trees ls = map (inst (blurred_world m.world)) (map leaf_tree ls)

  leaf_formed : (l : Leaf) → Knows q (leaf_tree l) → IsFormed (inst (blurred_world m.world) (leaf_tree l))
  leaf_formed (leaf.Variable k n) h = (let f = solved.fitting in let v = f.each n k h.0.0 in v.formed)
  leaf_formed (leaf.Region r) h = (tt, tt)
  leaf_formed (leaf.TyConstant a) h = (tt, tt)
  leaf_formed (leaf.ConstConstant a) h = (tt, tt)

  own_one : (ls : List Leaf) → ((l : Leaf) → Among ls l → Among (own_leaves x) l) → map blurred (own_trees ls) ≡ own_trees ls
  own_one [] h = refl
  own_one (l ∷ ls) h = cc (blurred_same (inst (blurred_world m.world) (leaf_tree l)) (leaf_one m.world l) (leaf_formed l (known_here l (h l (inl refl)))), own_one ls (λ k i. h k (inr i)))

  all_one : map blurred (own_trees (own_leaves x)) ≡ own_trees (own_leaves x)
  all_one = own_one (own_leaves x) (λ l i. i)

  -- a tree that was found out is what its form over positions says
  own_filled : (t : Tree) → IsPlainTerm t → AreSeen (own_leaves x) t → blurred (filled (own_trees (own_leaves x)) (positioned (own_leaves x) t)) ≡ inst (blurred_world m.world) t
  own_filled t p h =
      let o = positioned_over (own_leaves x) t p.formed in
      blurred_filled (own_trees (own_leaves x)) (positioned (own_leaves x) t) all_one
      ∙ filled_agree blurred_leaf (λ l. inst (blurred_world m.world) (leaf_tree l)) (own_trees (own_leaves x)) (positioned (own_leaves x) t) o.formed (λ l i. fixed_blurred m.world l (o.leaves l i))
      ∙ sym (inst-filled (blurred_world m.world) (map leaf_tree (own_leaves x)) (positioned (own_leaves x) t) o.formed)
      ∙ ap (inst (blurred_world m.world)) (filled-positioned (own_leaves x) t p.formed p.no_positions h)

  -- values
  variable_level : (n : ℕ) (k : VariableKind) → kind_at q n ≡ Some k → NamesAll leaf_level (universe_or (universe_of q n)) (merged (m.world.tree n))
  variable_level n k e = by_slot (slice_get q.slots n) refl
    where
      by_slot : (o : Option Slot) → slice_get q.slots n ≡ o → NamesAll leaf_level (universe_or (universe_of q n)) (merged (m.world.tree n))
      by_slot None r = absurd (let z : map_slot (λ v. v.kind) None ≡ Some k = ap (map_slot (λ v. v.kind)) (sym r) ∙ e in cc z)
      by_slot (Some v) r =
          let there : universe_of q n ≡ Some v.universe = ap (map_slot (λ y. y.universe)) r in
          let s = solved.nameable in
          rw there (names_regions v.universe (merged (m.world.tree n)) (merged_one (m.world.tree n)) (rw there at (s.each n)))

  same_universe : (u : ℕ) → u - 0 ≡ u
  same_universe u = omega arith

  own_variable : (n : ℕ) (k : VariableKind) → kind_at q n ≡ Some k → IsOwnValue (universe_or (universe_of q n) - 0) k (merged (m.world.tree n))
  own_variable n k e = record { value = (let f = solved.fitting in f.each n k e); named = rw (same_universe (universe_or (universe_of q n))) (variable_level n k e) }

  root_placeholder : (o : Sort) (n : ℕ) → slice_get ks n ≡ Some (placeholder o 0 n) → inst (blurred_world m.world) (placeholder_tree o 0 n) ≡ get_or ts n empty
  root_placeholder o n e =
      sym (inst_blurred m.world (placeholder_tree o 0 n)) ∙ ap (λ z. merged (inst m.world z)) (sym (placed n o e)) ∙ sym (get_or-map (λ t. merged (inst m.world t)) refl qs n) ∙ ap (λ z. get_or z n empty) m.images

  own_value : (f : ℕ) (l : Leaf) → Knows q (leaf_tree l) → IsLeafIn ks l → is_fixed l ≡ false → IsMergedValue ts (answer_kind q 0 f l) (inst (blurred_world m.world) (leaf_tree l))
  own_value f (leaf.Variable kind.Ty n) k i e = own_variable n kind.Ty k.0.0
  own_value f (leaf.Variable kind.Const n) k i e = own_variable n kind.Const k.0.0
  own_value f (leaf.Variable kind.Region n) k i e = own_variable n kind.Region k.0.0
  own_value f (leaf.Variable kind.Int n) k i e = (let z = solved.fitting in let v = z.each n kind.Int k.0.0 in record { value = v; named = integer_leaf (merged (m.world.tree n)) v.fits v.formed })
  own_value f (leaf.Variable kind.Float n) k i e = (let z = solved.fitting in let v = z.each n kind.Float k.0.0 in record { value = v; named = float_leaf (merged (m.world.tree n)) v.fits v.formed })
  own_value f (leaf.Region (region.Placeholder zero n)) k i e = root_placeholder sort.Region n i
  own_value f (leaf.Region (region.Placeholder (suc u) n)) k i e = rw (same_universe (suc u)) refl
  own_value f (leaf.Region region.Static) k i e = cc e
  own_value f (leaf.Region region.Erased) k i e = cc e
  own_value f (leaf.Region region.Error) k i e = cc e
  own_value f (leaf.Region (region.EarlyParam n)) k i e = absurd i
  own_value f (leaf.Region (region.LateParam n)) k i e = absurd i
  own_value f (leaf.TyConstant (constant.Placeholder zero n)) k i e = root_placeholder sort.Ty n i
  own_value f (leaf.TyConstant (constant.Placeholder (suc u) n)) k i e = rw (same_universe (suc u)) refl
  own_value f (leaf.TyConstant (constant.Param n)) k i e = absurd i
  own_value f (leaf.ConstConstant (constant.Placeholder zero n)) k i e = root_placeholder sort.Const n i
  own_value f (leaf.ConstConstant (constant.Placeholder (suc u) n)) k i e = rw (same_universe (suc u)) refl
  own_value f (leaf.ConstConstant (constant.Param n)) k i e = absurd i

  own_values : (sub : ℕ → ℕ) (all ls : List Leaf) → ((l : Leaf) → Among ls l → Among (own_leaves x) l)
      → AreMergedValues ts (map (λ l. answer_kind q 0 (position_or_len (share sub l) all) l) ls) (own_trees ls)
  own_values sub all [] h = tt
  own_values sub all (l ∷ ls) h =
      let i = h l (inl refl) in (
        own_value (position_or_len (share sub l) all) l (known_here l i) (own_in ks q qs x table found no_hidden [] no_goals (λ y j. absurd j) l i) (own_loose x l i),
        own_values sub all ls (λ k j. h k (inr j)),
      )

  equal_each : (zs : List Tree) → AllTrees IsPlainTerm (map (deeply_resolved q) zs) → AllTrees (AreSeen (own_leaves x)) (map (deeply_resolved q) zs)
      → map (λ t. blurred (filled (own_trees (own_leaves x)) t)) (map (positioned (own_leaves x)) (map (deeply_resolved q) zs)) ≡ map (λ t. merged (inst m.world t)) zs
  equal_each [] p h = refl
  equal_each (t ∷ zs) p h = cc (own_filled (deeply_resolved q t) p.0 h.0 ∙ inst-deeply_resolved q (blurred_world m.world) t table.sound solved ∙ sym (inst_blurred m.world t), equal_each zs p.1 h.1)

  pub found_merged : (sub : ℕ → ℕ) → ContainsMerged (response_of q sub 0 x) ts
  found_merged sub =
      let plain = all_plain ks q qs x table found no_hidden [] no_goals (λ y j. absurd j) in
      let seen = all_found_seen x in
      record {
        own = own_trees (own_leaves x);
        one = all_one;
        values = own_values sub (own_leaves x) (own_leaves x) (λ l i. i);
        equal =
            ap (λ z. map (λ t. blurred (filled (own_trees (own_leaves x)) t)) (map (positioned (own_leaves x)) z)) found.values
            ∙ equal_each qs (subst (AllTrees IsPlainTerm) found.values plain.values) (subst (AllTrees (AreSeen (own_leaves x))) found.values seen.values) ∙ m.images;
      }

pub says_merged : (ks : List PositionKind) (q : Content) (qs ts : List Tree) (r : Response) → ArePlaced ks qs → IsQueryTable ks q qs → IsResponseOf q qs r → MergedWorld q qs ts → ContainsMerged r ts
says_merged ks q qs ts r placed table h m = subst (λ z. ContainsMerged z ts) (sym h.is) (found_merged ks q qs ts h.findings table h.reads h.no_hidden h.no_goals placed m h.roots)
