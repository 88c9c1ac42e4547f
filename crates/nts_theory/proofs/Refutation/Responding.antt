-- The response of a query's table contains each solution of the table.
use Rattle.std.proofs.Common.{◌≡◌, inl, inr, ℕ, zero, suc, false, List, [], ◌∷◌, map, get_or, Option, Some, None, refl, sym, ap, subst, ◌∙◌, arith}
use Rattle.std.specs.Prelude.{slice_get, Contains, ◌-◌}
use Rattle.std.specs.List.{position_or_len}
use Rattle.nts_model.specs.declared.labels.Sort.{Sort}
use Rattle.nts_model.specs.declared.labels.Sort.TheVariants as sort
use Rattle.nts_model.specs.declared.labels.Relation.{Relation}
use Rattle.nts_model.specs.declared.labels.Relation.TheVariants as relation
use Rattle.nts_model.specs.declared.labels.VariableKind.{VariableKind}
use Rattle.nts_model.specs.declared.labels.VariableKind.TheVariants as kind
use Rattle.nts_model.specs.declared.labels.FreeRegion.TheVariants as region
use Rattle.nts_model.specs.declared.labels.Constant.TheVariants as constant
use Rattle.nts_model.specs.declared.labels.Leaf.{Leaf}
use Rattle.nts_model.specs.declared.labels.Leaf.TheVariants as leaf
use Rattle.nts_model.specs.Terms.Trees.{Tree, empty}
use Rattle.nts_model.specs.Tables.Contents.{Content, Slot, Recorded, map_slot, universe_of, kind_at}
use Rattle.nts_model.specs.Tables.Resolving.{Knows, deeply_resolved}
use Rattle.nts_model.specs.Tables.Levels.{NamesAll}
use Rattle.nts_model.specs.Tables.Worlds.{World, inst, IsTrueOf, IsMet, AreMet}
use Rattle.nts_model.specs.Terms.Substitutions.{leaf_tree, filled}
use Rattle.nts_model.specs.Lists.{Among}
use Rattle.nts_model.specs.Derivations.Handlers.{IsFixed}
use Rattle.nts_model.specs.Canonical.Inputs.{PositionKind, placeholder, share}
use Rattle.nts_model.specs.Answers.Responses.{Findings, recorded_by, AreFindings, own_leaves, positioned, is_fixed, answer_kind, universe_or, placeholder_tree, response_of, IsLeafIn, IsQueryTable}
use Rattle.nts_model.specs.Terms.Placeholders.{leaf_level}
use Rattle.nts_model.specs.Refutation.Containing.{IsAliasFree, IsPlainWorld, Truth, IsTrueBy, IsSolution, IsOwnValue, IsAnswerValue, AreAnswerValues, AreMetBy, ContainsSolution}
use Rattle.nts_model.proofs.Tables.Worlds.{inst-deeply_resolved}
use Rattle.nts_model.proofs.Lists.{contains_none, first_or_later}
use Rattle.nts_theory.proofs.Derivations.ProvedLater.{contains_first, contains_later}
use Rattle.nts_model.proofs.Canonical.Positioned.{get_or-map, inst-filled, filled_under-fixed}
use Rattle.nts_theory.proofs.Responses.Answering.{AllTrees, AllSides, AreSeen, IsPlainTerm, filled-positioned, all_found_seen, positioned_over, own_loose}
use Rattle.nts_theory.proofs.Responses.Querying.{all_plain, own_in}
use Rattle.nts_theory.proofs.Refutation.AskingWorlds.{integer_leaf, float_leaf}
use Rattle.nts_theory.proofs.Refutation.PlainTerms.{leaf_free}

-- in the query's table each placeholder of the input stands for itself
abbrev pub ArePlaced : List PositionKind → List Tree → Type 0
ArePlaced ks qs = (n : ℕ) (s : Sort) → slice_get ks n ≡ Some (placeholder s 0 n) → get_or qs n empty ≡ placeholder_tree s 0 n

met_each : (w : World) (xs : List Recorded) (x : Recorded) → AreMet w xs → Contains xs x → IsMet w x
met_each w [] x m i = absurd (contains_none x i)
met_each w (y ∷ ys) x m i = elim (first_or_later y ys x i) [ inl e ↦ subst (IsMet w) e m.0 | inr j ↦ met_each w ys x m.1 j ]

module _ (truth : Truth) (ks : List PositionKind) (q : Content) (qs : List Tree) (x : Findings) (table : IsQueryTable ks q qs) (found : AreFindings q qs x) (no_hidden : x.hidden ≡ []) (no_goals : x.open_goals ≡ []) (placed : ArePlaced ks qs)
    (known : (l : Leaf) → Among (own_leaves x) l → Knows q (leaf_tree l)) (w : World) (s : IsSolution truth 0 q w) where
  abbrev pub own_trees : List Leaf → List Tree
  own_trees ls = map (inst w) (map leaf_tree ls)

  fixed_leaf : (l : Leaf) → IsFixed l → inst w (leaf_tree l) ≡ leaf_tree l
  fixed_leaf (leaf.Region region.Static) i = ap (λ z. leaf_tree (leaf.Region z)) s.fixed.static
  fixed_leaf (leaf.Region region.Erased) i = ap (λ z. leaf_tree (leaf.Region z)) s.fixed.erased
  fixed_leaf (leaf.Region region.Error) i = ap (λ z. leaf_tree (leaf.Region z)) s.fixed.error
  fixed_leaf (leaf.Region (region.Placeholder u n)) i = absurd i
  fixed_leaf (leaf.Region (region.EarlyParam n)) i = absurd i
  fixed_leaf (leaf.Region (region.LateParam n)) i = absurd i
  fixed_leaf (leaf.Variable k n) i = absurd i
  fixed_leaf (leaf.TyConstant a) i = absurd i
  fixed_leaf (leaf.ConstConstant a) i = absurd i

  -- a tree that was found out is what its form over positions says, with the images of the own leaves
  own_filled : (t : Tree) → IsPlainTerm t → AreSeen (own_leaves x) t → filled (own_trees (own_leaves x)) (positioned (own_leaves x) t) ≡ inst w t
  own_filled t p h =
      let o = positioned_over (own_leaves x) t p.formed in
      sym (ap (inst w) (sym (filled-positioned (own_leaves x) t p.formed p.no_positions h))
      ∙ inst-filled w (map leaf_tree (own_leaves x)) (positioned (own_leaves x) t) o.formed
      ∙ filled_under-fixed (λ l. inst w (leaf_tree l)) (own_trees (own_leaves x)) (positioned (own_leaves x) t) fixed_leaf o)

  -- values
  variable_level : (n : ℕ) (k : VariableKind) → kind_at q n ≡ Some k → NamesAll leaf_level (universe_or (universe_of q n)) (w.tree n)
  variable_level n k e = by_slot (slice_get q.slots n) refl
    where
      by_slot : (o : Option Slot) → slice_get q.slots n ≡ o → NamesAll leaf_level (universe_or (universe_of q n)) (w.tree n)
      by_slot None r = absurd (let z : map_slot (λ v. v.kind) None ≡ Some k = ap (map_slot (λ v. v.kind)) (sym r) ∙ e in cc z)
      by_slot (Some v) r =
          let there : universe_of q n ≡ Some v.universe = ap (map_slot (λ y. y.universe)) r in
          rw there (rw there at (s.named.each n))

  same_universe : (u : ℕ) → u - 0 ≡ u
  same_universe u = omega arith

  own_variable : (n : ℕ) (k : VariableKind) → kind_at q n ≡ Some k → IsOwnValue (universe_or (universe_of q n) - 0) k (w.tree n)
  own_variable n k e = record { value = s.solves.fitting.each n k e; named = rw (same_universe (universe_or (universe_of q n))) (variable_level n k e) }

  root_placeholder : (o : Sort) (n : ℕ) → slice_get ks n ≡ Some (placeholder o 0 n) → inst w (placeholder_tree o 0 n) ≡ get_or (map (inst w) qs) n empty
  root_placeholder o n e = sym (get_or-map (inst w) refl qs n ∙ ap (inst w) (placed n o e))

  own_value : (f : ℕ) (l : Leaf) → Knows q (leaf_tree l) → IsLeafIn ks l → is_fixed l ≡ false → IsAnswerValue (map (inst w) qs) (answer_kind q 0 f l) (inst w (leaf_tree l))
  own_value f (leaf.Variable kind.Ty n) k i e = own_variable n kind.Ty k.0.0
  own_value f (leaf.Variable kind.Const n) k i e = own_variable n kind.Const k.0.0
  own_value f (leaf.Variable kind.Region n) k i e = own_variable n kind.Region k.0.0
  own_value f (leaf.Variable kind.Int n) k i e = let v = s.solves.fitting.each n kind.Int k.0.0 in record { value = v; named = integer_leaf (w.tree n) v.fits v.formed }
  own_value f (leaf.Variable kind.Float n) k i e = let v = s.solves.fitting.each n kind.Float k.0.0 in record { value = v; named = float_leaf (w.tree n) v.fits v.formed }
  own_value f (leaf.Region (region.Placeholder zero n)) k i e = root_placeholder sort.Region n i
  own_value f (leaf.Region (region.Placeholder (suc u) n)) k i e = rw (same_universe (suc u)) (ap (λ z. leaf_tree (leaf.Region z)) (s.new (suc u) n (omega arith)))
  own_value f (leaf.Region region.Static) k i e = cc e
  own_value f (leaf.Region region.Erased) k i e = cc e
  own_value f (leaf.Region region.Error) k i e = cc e
  own_value f (leaf.Region (region.EarlyParam n)) k i e = absurd i
  own_value f (leaf.Region (region.LateParam n)) k i e = absurd i
  own_value f (leaf.TyConstant (constant.Placeholder zero n)) k i e = root_placeholder sort.Ty n i
  own_value f (leaf.TyConstant (constant.Placeholder (suc u) n)) k i e = rw (same_universe (suc u)) refl
  own_value f (leaf.TyConstant (constant.Param n)) k i e = absurd i
  own_value f (leaf.ConstConstant (constant.Placeholder zero n)) k i e = root_placeholder sort.Const n i
  own_value f (leaf.ConstConstant (constant.Placeholder (suc u) n)) k i e = rw (same_universe (suc u)) refl
  own_value f (leaf.ConstConstant (constant.Param n)) k i e = absurd i

  own_values : (sub : ℕ → ℕ) (all ls : List Leaf) → ((l : Leaf) → Among ls l → Among (own_leaves x) l)
      → AreAnswerValues (map (inst w) qs) (map (λ l. answer_kind q 0 (position_or_len (share sub l) all) l) ls) (own_trees ls)
  own_values sub all [] h = tt
  own_values sub all (l ∷ ls) h =
      let i = h l (inl refl) in (
        own_value (position_or_len (share sub l) all) l (known l i) (own_in ks q qs x table found no_hidden [] no_goals (λ y j. absurd j) l i) (own_loose x l i),
        own_values sub all ls (λ m j. h m (inr j)),
      )

  equal_each : (ts : List Tree) → AllTrees IsPlainTerm (map (deeply_resolved q) ts) → AllTrees (AreSeen (own_leaves x)) (map (deeply_resolved q) ts)
      → map (filled (own_trees (own_leaves x))) (map (positioned (own_leaves x)) (map (deeply_resolved q) ts)) ≡ map (inst w) ts
  equal_each [] p h = refl
  equal_each (t ∷ ts) p h = cc (own_filled (deeply_resolved q t) p.0 h.0 ∙ inst-deeply_resolved q w t table.sound s.solves, equal_each ts p.1 h.1)

  true_here : (r : Relation) (a b : Tree) → IsTrueOf w r a b → IsTrueBy truth r a b
  true_here relation.Equal a b h = h
  true_here relation.RegionOutlives a b (inl e) = inl e
  true_here relation.RegionOutlives a b (inr e) = inr (sym (s.outlives a b) ∙ e)
  true_here relation.TypeOutlives a b e = sym (s.outlives a b) ∙ e

  met_one : (y : Recorded) → Contains x.constraints y → IsTrueBy truth y.relation (inst w y.left) (inst w y.right)
  met_one y i =
      let r = found.found y i in
      let m = met_each w q.constraints r.0 s.solves.constraints r.1 in
      let a = inst-deeply_resolved q w r.0.left table.sound s.solves in
      let b = inst-deeply_resolved q w r.0.right table.sound s.solves in
      subst (λ z. IsTrueBy truth z.relation (inst w z.left) (inst w z.right)) (sym r.2)
      (subst (λ z. IsTrueBy truth r.0.relation z (inst w (deeply_resolved q r.0.right))) (sym a)
      (subst (λ z. IsTrueBy truth r.0.relation (inst w r.0.left) z) (sym b) (true_here r.0.relation (inst w r.0.left) (inst w r.0.right) m)))

  met_all : (xs : List Recorded) → ((y : Recorded) → Contains xs y → Contains x.constraints y) → AllSides IsPlainTerm xs → AllSides (AreSeen (own_leaves x)) xs
      → AreMetBy truth (own_trees (own_leaves x)) (map (recorded_by (positioned (own_leaves x))) xs)
  met_all [] h p g = tt
  met_all (y ∷ ys) h p g = (
    subst (λ z. IsTrueBy truth y.relation z (filled (own_trees (own_leaves x)) (positioned (own_leaves x) y.right))) (sym (own_filled y.left p.0 g.0))
        (subst (λ z. IsTrueBy truth y.relation (inst w y.left) z) (sym (own_filled y.right p.1 g.1)) (met_one y (h y (contains_first y ys)))),
    met_all ys (λ z i. h z (contains_later y ys z i)) p.2 g.2,
  )

  -- the solution is contained
  own_free : IsPlainWorld q w → (ls : List Leaf) → ((l : Leaf) → Among ls l → Among (own_leaves x) l) → (v : Tree) → Among (own_trees ls) v → IsAliasFree v
  own_free p [] h v i = absurd i
  own_free p (l ∷ ls) h v (inl e) = subst IsAliasFree (sym e) (leaf_free q w p l (known l (h l (inl refl))))
  own_free p (l ∷ ls) h v (inr i) = own_free p ls (λ m j. h m (inr j)) v i

  pub answer_contains : IsPlainWorld q w → (sub : ℕ → ℕ) → ContainsSolution truth (response_of q sub 0 x) (map (inst w) qs)
  answer_contains free sub =
      let plain = all_plain ks q qs x table found no_hidden [] no_goals (λ y j. absurd j) in
      let seen = all_found_seen x in
      record {
        own = own_trees (own_leaves x);
        values = own_values sub (own_leaves x) (own_leaves x) (λ l i. i);
        plain = own_free free (own_leaves x) (λ l i. i);
        equal =
            ap (λ z. map (filled (own_trees (own_leaves x))) (map (positioned (own_leaves x)) z)) found.values
            ∙ equal_each qs (subst (AllTrees IsPlainTerm) found.values plain.values) (subst (AllTrees (AreSeen (own_leaves x))) found.values seen.values);
        met = met_all x.constraints (λ y i. i) plain.constraints seen.constraints;
      }
