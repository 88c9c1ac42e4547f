-- A response's positions, filled with its own leaves, give what the query found out.
use Rattle.std.proofs.Common.{◌≡◌, ◌⊎◌, inl, inr, Bool, true, false, List, [], ◌∷◌, map, Some, refl, sym, ◌∙◌, subst}
use Rattle.nts_model.specs.declared.labels.FreeRegion.TheVariants as region
use Rattle.nts_model.specs.declared.labels.Leaf.{Leaf}
use Rattle.nts_model.specs.declared.labels.Leaf.TheVariants as leaf
use Rattle.nts_model.specs.declared.labels.Label.{Label}
use Rattle.nts_model.specs.declared.labels.Label.TheVariants as label
use Rattle.nts_model.specs.Terms.Trees.{Tree, empty, more, node, IsFormed, kind_of, sort_of_leaf, kind_of_label}
use Rattle.nts_model.specs.Tables.Contents.{Recorded}
use Rattle.nts_model.specs.Terms.Scoping.{IsWellBound}
use Rattle.nts_model.specs.Terms.Substitutions.{leaf_tree, put, replace, Occurs, filled}
use Rattle.nts_model.specs.Lists.{Among}
use Rattle.nts_model.specs.Derivations.Sequents.{Hidden, Premise}
use Rattle.nts_model.specs.Derivations.Handlers.{IsFixed}
use Rattle.nts_model.specs.Canonical.Numbered.{seen, position, number, numbered_leaf, no_leaf, AreDistinct}
use Rattle.nts_model.specs.Canonical.Inputs.{Input, is_static, after_environment, after_predicate, canonical_of, IsInput}
use Rattle.nts_model.specs.Answers.Responses.{Findings, value_row, constraint_row, hidden_row, goal_row, row_of, is_fixed, own_leaves, positioned, IsOverPositions}
use Rattle.nts_model.proofs.Terms.Substituting.{replace-leaf, IsFormed-replace}
use Rattle.nts_model.proofs.Terms.Listed.{either, original, among-added}
use Rattle.nts_model.proofs.Canonical.Numbering.{AllLeaves, AllLeaves-map, replace-agree, HasNoPositions, filled-replace, IsSeen, all-seen, extends-self, distinct-seen, numbered-replace}

-- the leaves of a tree are fixed or in the list
abbrev pub AreSeen : List Leaf → Tree → Type 0
AreSeen s = AllLeaves (IsSeen is_fixed s)

filled_leaf : (s : List Leaf) (l : Leaf) → IsSeen is_fixed s l → filled (map leaf_tree s) (numbered_leaf is_fixed s l) ≡ leaf_tree l
filled_leaf s l h = elim (either (is_fixed l)) [ inl e ↦ rw e refl | inr e ↦ rw e (original s l (h e)) ]

-- with the leaves in place of positions a term over positions is the tree
pub filled-positioned : (s : List Leaf) (t : Tree) → IsFormed t → HasNoPositions t → AreSeen s t → filled (map leaf_tree s) (positioned s t) ≡ t
filled-positioned s t f p h =
    filled-replace (map leaf_tree s) (numbered_leaf is_fixed s) t p
    ∙ replace-agree (λ l. filled (map leaf_tree s) (numbered_leaf is_fixed s l)) leaf_tree t (AllLeaves-map _ _ t (filled_leaf s) h)
    ∙ replace-leaf t f

-- each tree of what was found out is so
abbrev pub AllTrees : (Tree → Type 0) → List Tree → Type 0
AllTrees P [] = Unit {0}
AllTrees P (t ∷ ts) = P t × AllTrees P ts

abbrev pub AllSides : (Tree → Type 0) → List Recorded → Type 0
AllSides P [] = Unit {0}
AllSides P (x ∷ xs) = P x.left × P x.right × AllSides P xs

abbrev pub AllHidden : (Tree → Type 0) → List Hidden → Type 0
AllHidden P [] = Unit {0}
AllHidden P (h ∷ hs) = P h.key × P h.hidden_type × AllHidden P hs

abbrev pub AllGoals : (Tree → Type 0) → List Premise → Type 0
AllGoals P [] = Unit {0}
AllGoals P (g ∷ gs) = P g.environment × P g.predicate × AllGoals P gs

pub record AllFound (P : Tree → Type 0) (x : Findings) : Type 0 where
  pub values : AllTrees P x.values
  pub constraints : AllSides P x.constraints
  pub hidden : AllHidden P x.hidden
  pub open_goals : AllGoals P x.open_goals

seen_values : (s : List Leaf) (ts : List Tree) (r : Tree) → AreSeen s (value_row ts r) → AllTrees (AreSeen s) ts × AreSeen s r
seen_values s [] r h = (tt, h)
seen_values s (t ∷ ts) r h = let k = seen_values s ts r h.1 in ((h.0, k.0), k.1)

seen_sides : (s : List Leaf) (xs : List Recorded) (r : Tree) → AreSeen s (constraint_row xs r) → AllSides (AreSeen s) xs × AreSeen s r
seen_sides s [] r h = (tt, h)
seen_sides s (x ∷ xs) r h = let k = seen_sides s xs r h.1.1 in ((h.0, h.1.0, k.0), k.1)

seen_hidden : (s : List Leaf) (hs : List Hidden) (r : Tree) → AreSeen s (hidden_row hs r) → AllHidden (AreSeen s) hs × AreSeen s r
seen_hidden s [] r h = (tt, h)
seen_hidden s (x ∷ xs) r h = let k = seen_hidden s xs r h.1.1 in ((h.0, h.1.0, k.0), k.1)

seen_goals : (s : List Leaf) (gs : List Premise) (r : Tree) → AreSeen s (goal_row gs r) → AllGoals (AreSeen s) gs × AreSeen s r
seen_goals s [] r h = (tt, h)
seen_goals s (x ∷ xs) r h = let k = seen_goals s xs r h.1.1 in ((h.0, h.1.0, k.0), k.1)

-- the own leaves are distinct, and have all leaves of what was found out
pub all_found_seen : (x : Findings) → AllFound (AreSeen (own_leaves x)) x
all_found_seen x =
    let s = own_leaves x in
    let all : AreSeen s (row_of x) = all-seen is_fixed [] (row_of x) s (extends-self s) in
    let a = seen_values s x.values (constraint_row x.constraints (hidden_row x.hidden (goal_row x.open_goals empty))) all in
    let b = seen_sides s x.constraints (hidden_row x.hidden (goal_row x.open_goals empty)) a.1 in
    let c = seen_hidden s x.hidden (goal_row x.open_goals empty) b.1 in
    let d = seen_goals s x.open_goals empty c.1 in
    record { values = a.0; constraints = b.0; hidden = c.0; open_goals = d.0 }

pub own_distinct : (x : Findings) → AreDistinct (own_leaves x)
own_distinct x = distinct-seen is_fixed [] (row_of x) tt

-- terms without positions, whose binders list what they bind
pub record IsPlainTerm (t : Tree) : Type 0 where
  pub formed : IsFormed t
  pub no_positions : HasNoPositions t
  pub well_bound : IsWellBound t

-- what stands for leaves is over positions
fixed_stays : (l : Leaf) → is_fixed l ≡ true → IsFixed l
fixed_stays (leaf.Region region.Static) e = tt
fixed_stays (leaf.Region region.Erased) e = tt
fixed_stays (leaf.Region region.Error) e = tt
fixed_stays l e = cc e

module _ (stays : Leaf → Bool) (fixed : (l : Leaf) → stays l ≡ true → IsFixed l) (s : List Leaf) where
  numbered_over : (l x : Leaf) → Occurs x (numbered_leaf stays s l) → IsFixed x
  numbered_over l x i = elim (either (stays l)) [ inl e ↦ leaf_case e (rw e at i) | inr e ↦ none (rw e at i) ]
    where
      one : (x y : Leaf) → label.Leaf x ≡ label.Leaf y → x ≡ y
      one x y e = cc e

      leaf_case : stays l ≡ true → Occurs x (leaf_tree l) → IsFixed x
      leaf_case e (inl q) = subst IsFixed (sym (one x l q)) (fixed l e)
      leaf_case e (inr j) = absurd j

      none : Occurs x (position (sort_of_leaf l) (number s l)) → IsFixed x
      none (inl q) = cc q
      none (inr j) = absurd j

  put_over : (x : Leaf) (l : Label) (c : Tree) → (Occurs x c → IsFixed x) → Occurs x (put (numbered_leaf stays s) l c) → IsFixed x
  put_over x (label.Leaf y) c f i = numbered_over y x i
  put_over x (label.Bound a b d) c f (inl q) = cc q
  put_over x (label.Bound a b d) c f (inr j) = f j
  put_over x (label.Ty h) c f (inl q) = cc q
  put_over x (label.Ty h) c f (inr j) = f j
  put_over x (label.Const h) c f (inl q) = cc q
  put_over x (label.Const h) c f (inr j) = f j
  put_over x (label.Clause h) c f (inl q) = cc q
  put_over x (label.Clause h) c f (inr j) = f j
  put_over x (label.Predicate h) c f (inl q) = cc q
  put_over x (label.Predicate h) c f (inr j) = f j
  put_over x (label.List h) c f (inl q) = cc q
  put_over x (label.List h) c f (inr j) = f j

  replaced_leaves : (t : Tree) (x : Leaf) → Occurs x (replace (numbered_leaf stays s) t) → IsFixed x
  replaced_leaves empty x i = absurd i
  replaced_leaves (more a b) x (inl i) = replaced_leaves a x i
  replaced_leaves (more a b) x (inr i) = replaced_leaves b x i
  replaced_leaves (node l c) x i = put_over x l (replace (numbered_leaf stays s) c) (replaced_leaves c x) i

  numbered_kind : (l : Leaf) → (kind_of (numbered_leaf stays s l) ≡ Some (kind_of_label (label.Leaf l))) × IsFormed (numbered_leaf stays s l)
  numbered_kind l = elim (either (stays l)) [ inl e ↦ rw e (refl, (tt, tt)) | inr e ↦ rw e (refl, (tt, tt)) ]

  pub replaced_over : (t : Tree) → IsFormed t → IsOverPositions (replace (numbered_leaf stays s) t)
  replaced_over t f =
      record {
        leaves = λ l i. replaced_leaves t l i;
        formed = IsFormed-replace (numbered_leaf stays s) (λ l. (numbered_kind l).0) (λ l. (numbered_kind l).1) t f;
      }

pub positioned_over : (s : List Leaf) (t : Tree) → IsFormed t → IsOverPositions (positioned s t)
positioned_over s t f = replaced_over is_fixed fixed_stays s t f

-- the trees of a canonical input are over positions
static_stays : (l : Leaf) → is_static l ≡ true → IsFixed l
static_stays (leaf.Region region.Static) e = tt
static_stays l e = cc

none_stays : (l : Leaf) → no_leaf l ≡ true → IsFixed l
none_stays l e = cc e

pub canonical_environment_over : (i : Input) → IsInput i → IsOverPositions (canonical_of i).environment
canonical_environment_over i h =
    subst IsOverPositions (sym (numbered-replace is_static [] i.environment (after_environment i) (extends-self (after_environment i)))) (replaced_over is_static static_stays (after_environment i) i.environment h.formed.0)

pub canonical_predicate_over : (i : Input) → IsInput i → IsOverPositions (canonical_of i).predicate
canonical_predicate_over i h =
    subst IsOverPositions (sym (numbered-replace no_leaf (after_environment i) i.predicate (after_predicate i) (extends-self (after_predicate i)))) (replaced_over no_leaf none_stays (after_predicate i) i.predicate h.formed.1.0)

-- an own leaf is none of those that stay
seen_loose : (stays : Leaf → Bool) (t : Tree) (s : List Leaf) (l : Leaf) → Among (seen stays s t) l → Among s l ⊎ (stays l ≡ false)
seen_loose stays empty s l i = inl i
seen_loose stays (more a b) s l i = elim (seen_loose stays b (seen stays s a) l i) [ inl j ↦ seen_loose stays a s l j | inr e ↦ inr e ]
seen_loose stays (node (label.Leaf x) c) s l i = elim (either (stays x)) [
  | inl e ↦ inl (rw e at i)
  | inr e ↦ elim (among-added s x l (rw e at i)) [ inl p ↦ inr (rw p e) | inr j ↦ inl j ]
]
seen_loose stays (node (label.Bound a b d) c) s l i = seen_loose stays c s l i
seen_loose stays (node (label.Ty h) c) s l i = seen_loose stays c s l i
seen_loose stays (node (label.Const h) c) s l i = seen_loose stays c s l i
seen_loose stays (node (label.Clause h) c) s l i = seen_loose stays c s l i
seen_loose stays (node (label.Predicate h) c) s l i = seen_loose stays c s l i
seen_loose stays (node (label.List h) c) s l i = seen_loose stays c s l i

pub own_loose : (x : Findings) (l : Leaf) → Among (own_leaves x) l → is_fixed l ≡ false
own_loose x l i = elim (seen_loose is_fixed (row_of x) [] l i) [ inl j ↦ absurd j | inr e ↦ e ]
