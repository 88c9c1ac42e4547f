-- What an insertion does to a store, and what is read at a place.
use Rattle.std.proofs.Common.{◌≡◌, ⊎_elim, ℕ, zero, suc, ◌+◌, ◌<◌, ◌≤◌, List, [], ◌∷◌, ◌++◌, length, get_or, Option, Some, None, refl, sym, ap, subst, ◌∙◌, arith, rules, length-append, add-zero, zero-add}
use Rattle.std.specs.Prelude.{◌↔◌, IsTrue, slice_get}
use Rattle.std.proofs.lemmas.Bool.{cases_lt}
use Rattle.std.proofs.lemmas.Option.{slice_get_within, get_or_from_slice_get, slice_get-get_or}
use Rattle.nts_model.specs.declared.labels.Label.{Label}
use Rattle.nts_model.specs.Terms.Trees.{Tree, empty, node, shape, Meets}
use Rattle.nts_model.specs.Terms.Scoping.{IsWellBound}
use Rattle.nts_store.specs.declared.nodes.NodeId.{NodeId}
use Rattle.nts_store.specs.declared.nodes.Node.{Node}
use Rattle.nts_store.specs.TypeFlags.{flags_of}
use Rattle.nts_store.specs.Growth.{tree_at, trees_at, IsIn, AllIn, AllBelow, Extends, AreApart, IsTheOne}
use Rattle.nts_store.specs.Store.{tree_of_node, grown, trees, IsNode, IsGrown, IsShared}
use Rattle.nts_store.proofs.Growing.{Extends-refl, Extends-trans, AllIn-extended, trees_at-extended, Extends-push, get_or-front, get_or-last}
use Rattle.nts_store.specs.declared.index.Shape.{Shape}
use Rattle.nts_store.specs.declared.index.Index.{Index}
use Rattle.nts_store.specs.Index.{HasShape, IsOfShape, HasShapeAt, number_in, IsIndex}
use Rattle.nts_store.specs.Children.{listed}

pub grown-push : (ts : List Tree) (ns : List Node) (n : Node) → grown ts (ns ++ n ∷ []) ≡ grown ts ns ++ tree_of_node (grown ts ns) n ∷ []
grown-push ts [] n = refl
grown-push ts (m ∷ ns) n = grown-push (ts ++ tree_of_node ts m ∷ []) ns n

pub length-grown : (ts : List Tree) (ns : List Node) → length (grown ts ns) ≡ length ts + length ns
length-grown ts [] = omega arith
length-grown ts (n ∷ ns) =
    omega (arith, length-grown (ts ++ tree_of_node ts n ∷ []) ns, length-append ts (tree_of_node ts n ∷ []))

pub Extends-grown : (ts : List Tree) (ns : List Node) → Extends ts (grown ts ns)
Extends-grown ts [] = Extends-refl ts
Extends-grown ts (n ∷ ns) =
    Extends-trans (Extends-push ts (tree_of_node ts n)) (Extends-grown (ts ++ tree_of_node ts n ∷ []) ns)

pub IsGrown-push : (ts : List Tree) (ns : List Node) (n : Node) → IsGrown ts ns → IsNode (grown ts ns) n → IsGrown ts (ns ++ n ∷ [])
IsGrown-push ts [] n h k = (k, tt)
IsGrown-push ts (m ∷ ns) n h k = (h.0, IsGrown-push (ts ++ tree_of_node ts m ∷ []) ns n h.1 k)

tree_of_node-extended : {a b : List Tree} → Extends a b → (n : Node) → AllIn a (listed n.children) → tree_of_node b n ≡ tree_of_node a n
tree_of_node-extended e n h = ap (node n.label) (trees_at-extended e (listed n.children) h)

IsNode-extended : {a b : List Tree} → Extends a b → (n : Node) → IsNode a n → IsNode b n
IsNode-extended e n k =
    let same = trees_at-extended e (listed n.children) k.all in
    record {
      all = AllIn-extended e (listed n.children) k.all;
      formed = rw same k.formed;
      flags = k.flags ∙ ap flags_of (sym (tree_of_node-extended e n k.all));
      well_bound = subst (λ t. IsTrue n.is_well_bound ↔ IsWellBound t) (sym (tree_of_node-extended e n k.all)) k.well_bound;
    }

-- the node at a place is one over the trees before it, which the whole store extends
record StandsAt (ts : List Tree) (ns : List Node) (i : ℕ) (n : Node) : Type 0 where
  below : List Tree
  is_node : IsNode below n
  long : length below ≡ length ts + i
  extends : Extends below (grown ts ns)
  here : get_or (grown ts ns) (length ts + i) empty ≡ tree_of_node below n

stands_at : (ts : List Tree) (ns : List Node) (i : ℕ) (n : Node) → IsGrown ts ns → i < length ns → get_or ns i n ≡ n → StandsAt ts ns i n
stands_at ts [] i n h k e = absurd (omega arith)
stands_at ts (m ∷ ns) zero n h k e =
    let x = tree_of_node ts m in
    let up = Extends-grown (ts ++ x ∷ []) ns in
    let at : get_or (grown (ts ++ x ∷ []) ns) (length ts) empty ≡ x =
    up.kept (record { number = length ts }) (omega (arith, length-append ts (x ∷ []))) ∙ get_or-last ts x in
    record {
      below = ts;
      is_node = rw (← e) h.0;
      long = omega arith;
      extends = Extends-trans (Extends-push ts x) up;
      here = rw add-zero (at ∙ ap (tree_of_node ts) e);
    }
stands_at ts (m ∷ ns) (suc i) n h k e =
    let x = tree_of_node ts m in
    let shift : length (ts ++ x ∷ []) + i ≡ length ts + suc i = omega (arith, length-append ts (x ∷ [])) in
    let r = stands_at (ts ++ x ∷ []) ns i n h.1 (omega arith) e in
    record {
      below = r.below;
      is_node = r.is_node;
      long = r.long ∙ shift;
      extends = r.extends;
      here = rw (← shift) r.here;
    }

AllBelow-AllIn : (ts : List Tree) (cs : List NodeId) (i : ℕ) → length ts ≡ i → AllIn ts cs → AllBelow i cs
AllBelow-AllIn ts [] i e h = tt
AllBelow-AllIn ts (c ∷ cs) i e h = (omega (arith, h.0), AllBelow-AllIn ts cs i e h.1)

-- what is read at a place of the whole store
pub record Found (ts : List Tree) (i : ℕ) (n : Node) : Type 0 where
  pub is : get_or ts i empty ≡ tree_of_node ts n
  pub is_node : IsNode ts n
  pub before : AllBelow i (listed n.children)

pub found : (ns : List Node) (ts : List Tree) (i : ℕ) (n : Node) → trees ns ≡ ts → IsShared ns → i < length ns → get_or ns i n ≡ n → Found ts i n
found ns ts i n v s k e =
    let r = stands_at [] ns i n s.ordered k e in
    let here : get_or (trees ns) i empty ≡ tree_of_node r.below n = rw zero-add at r.here in
    let long : length r.below ≡ i = omega (arith, r.long) in
    record {
      is = rw (← v) (here ∙ sym (tree_of_node-extended r.extends n r.is_node.all));
      is_node = rw (← v) (IsNode-extended r.extends n r.is_node);
      before = AllBelow-AllIn r.below (listed n.children) i long r.is_node.all;
    }

pub length-trees : (ns : List Node) → length (trees ns) ≡ length ns
length-trees ns = rw zero-add at (length-grown [] ns)

-- equal trees of terms are equal terms
pub term-apart : (ts : List Tree) (c d : NodeId) → AreApart ts → IsIn ts c → IsIn ts d → tree_at ts c ≡ tree_at ts d → c ≡ d
term-apart ts c d a h k e = let n : c.number ≡ d.number = a c.number d.number h k e in ap (λ m. record { number = m }) n

trees_at-apart : (ts : List Tree) (cs ds : List NodeId) → AreApart ts → AllIn ts cs → AllIn ts ds → trees_at ts cs ≡ trees_at ts ds → cs ≡ ds
trees_at-apart ts [] [] a h k e = refl
trees_at-apart ts [] (d ∷ ds) a h k e = cc
trees_at-apart ts (c ∷ cs) [] a h k e = cc
trees_at-apart ts (c ∷ cs) (d ∷ ds) a h k e =
    let first : tree_at ts c ≡ tree_at ts d = cc in
    let rest : trees_at ts cs ≡ trees_at ts ds = cc in
    cc (term-apart ts c d a h.0 k.0 first, trees_at-apart ts cs ds a h.1 k.1 rest)

-- a node that the store lacks is no tree of the store
new_tree : (x : Index) (n : Node) (s : Shape) (j : ℕ) → IsShared x.nodes.items → IsIndex x → IsNode (trees x.nodes.items) n → HasShape n s → number_in x s ≡ None → j < length x.nodes.items
    → tree_of_node (trees x.nodes.items) n ≡ get_or (trees x.nodes.items) j empty → ⊥
new_tree x n s j shared index h shape none k e =
    let ns = x.nodes.items in
    let m = get_or ns j n in
    let at : get_or ns j m ≡ m = search (rules, get_or_from_slice_get, slice_get-get_or) in
    let r = found ns (trees ns) j m refl shared k at in
    let is = e ∙ r.is in
    let label : n.label ≡ m.label = cc in
    let kids : trees_at (trees ns) (listed n.children) ≡ trees_at (trees ns) (listed m.children) = cc in
    let items = trees_at-apart (trees ns) (listed n.children) (listed m.children) shared.apart h.all r.is_node.all kids in
    let of_shape : HasShape m s = record { label = sym label ∙ shape.label; children = sym items ∙ shape.children } in
    let there : slice_get ns j ≡ Some m = slice_get-get_or ns j n k in
    index.all s j (rw there of_shape) none

apart-push : (ts : List Tree) (t : Tree) → AreApart ts → ((j : ℕ) → j < length ts → t ≡ get_or ts j empty → ⊥) → AreApart (ts ++ t ∷ [])
apart-push ts t a new i j h k e =
    let len = length-append ts (t ∷ []) in
    ⊎_elim
    (λ (p : i < length ts). ⊎_elim
    (λ (q : j < length ts). a i j p q (sym (get_or-front ts (t ∷ []) i p) ∙ e ∙ get_or-front ts (t ∷ []) j q))
    (λ (q : length ts ≤ j). let w : j ≡ length ts = omega (arith, len) in
    absurd (new i p (sym (rw w at (e) ∙ get_or-last ts t) ∙ get_or-front ts (t ∷ []) i p)))
    (cases_lt j (length ts)))
    (λ (p : length ts ≤ i). let v : i ≡ length ts = omega (arith, len) in
    ⊎_elim
    (λ (q : j < length ts). absurd (new j q (sym (get_or-last ts t) ∙ rw v at (e) ∙ get_or-front ts (t ∷ []) j q)))
    (λ (q : length ts ≤ j). omega (arith, len))
    (cases_lt j (length ts)))
    (cases_lt i (length ts))

pub record Kept (ns ms : List Node) : Type 0 where
  pub shared : IsShared ms
  pub extends : Extends (trees ns) (trees ms)

pub kept_same : (ns : List Node) → IsShared ns → Kept ns ns
kept_same ns s = record { shared = s; extends = Extends-refl (trees ns) }

-- what adding a node does whose shape is new
pub kept_more : (x : Index) (ms : List Node) (n : Node) (s : Shape) → IsShared x.nodes.items → IsIndex x → IsNode (trees x.nodes.items) n → HasShape n s → number_in x s ≡ None → ms ≡ x.nodes.items ++ n ∷ [] → Kept x.nodes.items ms
kept_more x ms n s shared index h shape none more_of =
    let ns = x.nodes.items in
    let t = tree_of_node (trees ns) n in
    let is : trees ms ≡ trees ns ++ t ∷ [] = ap trees more_of ∙ grown-push [] ns n in
    let len = length-trees ns in
    record {
      shared = record {
        ordered = rw more_of (IsGrown-push [] ns n shared.ordered h);
        apart = rw is (apart-push (trees ns) t shared.apart (λ j k w. new_tree x n s j shared index h shape none (omega (arith, len)) w));
      };
      extends = rw is (Extends-push (trees ns) t);
    }

-- the tree that it answers
pub record Answered (ms : List Node) (ts : List Tree) (at : ℕ) (l : Label) (cs : List NodeId) : Type 0 where
  pub within : at < length (trees ms)
  pub is : get_or (trees ms) at empty ≡ node l (trees_at ts cs)

answered_at : (ns ms : List Node) (at : ℕ) (s : Shape) (o : Option Node) → slice_get ms at ≡ o → Kept ns ms → AllIn (trees ns) (listed s.children) → IsOfShape o s → Answered ms (trees ns) at s.label (listed s.children)
answered_at ns ms at s None e kept all h = absurd h
answered_at ns ms at s (Some k) e kept all h =
    let within : at < length ms = slice_get_within ms at k e in
    let here : get_or ms at k ≡ k = get_or_from_slice_get ms at k k e in
    let same : trees_at (trees ms) (listed k.children) ≡ trees_at (trees ns) (listed s.children) =
    ap (trees_at (trees ms)) h.children ∙ trees_at-extended kept.extends (listed s.children) all in
    record {
      within = omega (arith, length-trees ms);
      is = (found ms (trees ms) at k refl kept.shared within here).is ∙ cc (same, h.label);
    }

pub answered : (ns ms : List Node) (at : ℕ) (s : Shape) → Kept ns ms → AllIn (trees ns) (listed s.children) → HasShapeAt ms at s → Answered ms (trees ns) at s.label (listed s.children)
answered ns ms at s kept all h = answered_at ns ms at s (slice_get ms at) refl kept all h

-- the node that was added stands last
pub last_has : (ns : List Node) (n : Node) (s : Shape) → HasShape n s → HasShapeAt (ns ++ n ∷ []) (length ns) s
last_has [] n s h = h
last_has (m ∷ ns) n s h = last_has ns n s h

pub only_one : {ns : List Node} (ms : List Node) (t : NodeId) → Kept ns ms → IsIn (trees ms) t → IsTheOne (trees ms) t
only_one ms t kept h = λ u k e. term-apart (trees ms) u t kept.shared.apart k h e

-- a term of the store with that label and these children
pub record IsMade (ts us : List Tree) (at : ℕ) (l : Label) (cs : List NodeId) : Type 0 where
  pub within : at < length us
  pub is : get_or us at empty ≡ node l (trees_at ts cs)
  pub one : IsTheOne us (record { number = at })
  pub extends : Extends ts us

made : (ns ms : List Node) (ts us : List Tree) (at : ℕ) (s : Shape) (cs : List NodeId) → trees ns ≡ ts → trees ms ≡ us → Kept ns ms → AllIn ts cs → listed s.children ≡ cs → HasShapeAt ms at s → IsMade ts us at s.label cs
made ns ms ts us at s cs v w kept all same h =
    let a = answered ns ms at s kept (rw (same, v) all) h in
    record {
      within = rw (← w) a.within;
      is = rw (← w, ← v, ← same) a.is;
      one = rw (← w) (only_one ms (record { number = at }) kept a.within);
      extends = rw (← w, ← v) kept.extends;
    }

-- it was there
pub found_again : (ns : List Node) (ts : List Tree) (at : ℕ) (s : Shape) (cs : List NodeId) → trees ns ≡ ts → IsShared ns → AllIn ts cs → listed s.children ≡ cs → HasShapeAt ns at s → IsMade ts ts at s.label cs
found_again ns ts at s cs v shared all same h = made ns ns ts ts at s cs v v (kept_same ns shared) all same h

-- or is added
pub made_anew : (x : Index) (ms : List Node) (n : Node) (ts : List Tree) (at : ℕ) (s : Shape) (cs : List NodeId) → trees x.nodes.items ≡ ts → Kept x.nodes.items ms → AllIn ts cs → listed s.children ≡ cs → HasShape n s → at ≡ length x.nodes.items → ms ≡ x.nodes.items ++ n ∷ []
    → IsMade ts (trees ms) at s.label cs
made_anew x ms n ts at s cs v kept all same shape last nodes =
    made x.nodes.items ms ts (trees ms) at s cs v refl kept all same (rw (nodes, last) (last_has x.nodes.items n s shape))

-- the facts of a node over its children
pub is_node : (ns : List Node) (ts : List Tree) (n : Node) (cs : List NodeId) → trees ns ≡ ts → AllIn ts cs → listed n.children ≡ cs → Meets (shape n.label) (trees_at ts cs) → n.flags ≡ flags_of (node n.label (trees_at ts cs)) → (IsTrue n.is_well_bound ↔ IsWellBound (node n.label (trees_at ts cs))) → IsNode (trees ns) n
is_node ns ts n cs v all same formed flags bound =
    rw v (record {
      all = rw same all;
      formed = rw same formed;
      flags = rw same flags;
      well_bound = rw same bound;
    })
