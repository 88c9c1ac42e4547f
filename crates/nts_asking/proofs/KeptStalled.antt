-- The variables that a goal may wait for, as arguments and as leaves.
use Rattle.std.proofs.Common.{◌≡◌, ℕ, zero, suc, ◌≤◌, length, Bool, true, false, cond, ◌||◌, List, [], ◌∷◌, map, refl, sym, ap, ◌∙◌}
use Rattle.std.specs.Prelude.{All, filter, Result, Ok, Err, IfOk}
use Rattle.std.specs.Global.{Vec}
use Rattle.std.specs.List.{filter_map}
use Rattle.std.proofs.lemmas.Option.{slice_get_past}
use Rattle.std.proofs.lemmas.List.Elements.{All-head, All-tail, All-filter}
use Rattle.nts_model.specs.declared.labels.Leaf.{Leaf}
use Rattle.nts_model.specs.declared.labels.Label.{Label}
use Rattle.nts_model.specs.declared.labels.Label.TheVariants as label
use Rattle.nts_model.specs.Terms.Trees.{Tree, empty, more, node, any_label, is_infer}
use Rattle.nts_model.specs.Terms.Substitutions.{leaf_tree}
use Rattle.nts_model.specs.Canonical.Numbered.{same, added, seen_node, seen, no_leaf}
use Rattle.nts_model.specs.Canonical.Inputs.{is_static, after_environment}
use Rattle.nts_store.specs.Growth.{tree_at, Extends}
use Rattle.nts_store.proofs.Filling.{both_false}
use Rattle.nts_terms.specs.declared.handles.Goal.{Goal}
use Rattle.nts_terms.specs.declared.handles.GenericArg.{GenericArg}
use Rattle.nts_terms.specs.Handles.{HoldsArg, HoldsGoal}
use Rattle.nts_terms.proofs.Moved.{Holds-extended}
use Rattle.nts_unify.specs.Entries.{Entries}
use Rattle.nts_canonical.specs.Building.{IsArgOf}
use Rattle.nts_canonical.specs.Forms.{input_of, trees_of}
use Rattle.nts_canonical.specs.SubRoots.{sub_root_in}
use Rattle.nts_asking.specs.declared.stalling.Asked.{Asked}
use Rattle.nts_asking.specs.Stalling.{is_stalling, type_number, stalling, number_of_tree, MayStall}

-- a leaf that no goal waits for adds nothing to what goals wait for
added_at : (b : Bool) (x l : Leaf) (xs : List Leaf) → filter is_stalling (added xs l) ≡ filter is_stalling xs → filter is_stalling (cond b (x ∷ xs) (x ∷ added xs l)) ≡ filter is_stalling (x ∷ xs)
added_at true x l xs h = refl
added_at false x l xs h = rw h refl

added_quiet : (s : List Leaf) (l : Leaf) → is_stalling l ≡ false → filter is_stalling (added s l) ≡ filter is_stalling s
added_quiet [] l h = rw h refl
added_quiet (x ∷ xs) l h = added_at (same l x) x l xs (added_quiet xs l h)

stays_or_added : (b : Bool) (s : List Leaf) (l : Leaf) → is_stalling l ≡ false → filter is_stalling (cond b s (added s l)) ≡ filter is_stalling s
stays_or_added true s l h = refl
stays_or_added false s l h = added_quiet s l h

node_quiet : (stays : Leaf → Bool) (s inside : List Leaf) (l : Label) → is_infer l ≡ false → filter is_stalling inside ≡ filter is_stalling s → filter is_stalling (seen_node stays s l inside) ≡ filter is_stalling s
node_quiet stays s inside (label.Leaf x) h k = stays_or_added (stays x) s x h
node_quiet stays s inside (label.Bound o i n) h k = k
node_quiet stays s inside (label.Ty x) h k = k
node_quiet stays s inside (label.Const x) h k = k
node_quiet stays s inside (label.Clause x) h k = k
node_quiet stays s inside (label.Predicate x) h k = k
node_quiet stays s inside (label.List x) h k = k

seen_quiet : (stays : Leaf → Bool) (s : List Leaf) (t : Tree) → any_label is_infer t ≡ false → filter is_stalling (seen stays s t) ≡ filter is_stalling s
seen_quiet stays s empty h = refl
seen_quiet stays s (more a b) h =
    let w = both_false (any_label is_infer a) (any_label is_infer b) h in
    seen_quiet stays (seen stays s a) b w.1 ∙ seen_quiet stays s a w.0
seen_quiet stays s (node l c) h =
    let w = both_false (is_infer l) (any_label is_infer c) h in
    node_quiet stays s (seen stays s c) l w.0 (seen_quiet stays s c w.1)

-- a goal without variables waits for nothing
pub nothing_stalls : (ts : List Tree) (e : Entries) (g : Goal) → any_label is_infer (tree_at ts g.param_env.node) ≡ false → any_label is_infer (tree_at ts g.predicate.node) ≡ false → stalling (input_of ts e g []) ≡ []
nothing_stalls ts e g h k =
    let i = input_of ts e g [] in
    seen_quiet no_leaf (after_environment i) (tree_at ts g.predicate.node) k ∙ seen_quiet is_static [] (tree_at ts g.param_env.node) h

or_nothing : (b : Bool) → (b || false) ≡ b
or_nothing true = refl
or_nothing false = refl

filtered : (ts : List Tree) (b : Bool) (x : GenericArg) (xs : List GenericArg) (l : Leaf) (ls : List Leaf) → tree_at ts x.node ≡ leaf_tree l → trees_of ts xs ≡ map leaf_tree ls → trees_of ts (cond b (x ∷ xs) xs) ≡ map leaf_tree (cond b (l ∷ ls) ls)
filtered ts true x xs l ls h k = cc
filtered ts false x xs l ls h k = k

-- the arguments that are such variables, and the leaves
open_leaves : (ts : List Tree) (xs : List GenericArg) (ls : List Leaf) → trees_of ts xs ≡ map leaf_tree ls → trees_of ts (filter (λ a. any_label is_infer (tree_at ts a.node)) xs) ≡ map leaf_tree (filter is_stalling ls)
open_leaves ts [] [] q = refl
open_leaves ts [] (l ∷ ls) q = cc
open_leaves ts (x ∷ xs) [] q = cc
open_leaves ts (x ∷ xs) (l ∷ ls) q =
    let first : tree_at ts x.node ≡ leaf_tree l = cc in
    let rest : trees_of ts xs ≡ map leaf_tree ls = cc in
    let tested : any_label is_infer (tree_at ts x.node) ≡ is_stalling l = rw first (or_nothing (is_stalling l)) in
    rw tested (filtered ts (is_stalling l) x (filter (λ a. any_label is_infer (tree_at ts a.node)) xs) l (filter is_stalling ls) first (open_leaves ts xs ls rest))

-- .. and the numbers of those of types
pub numbers_of_leaves : (ts : List Tree) (xs : List GenericArg) (ls : List Leaf) → trees_of ts xs ≡ map leaf_tree ls → filter_map (λ a. number_of_tree (tree_at ts a.node)) xs ≡ filter_map type_number ls
numbers_of_leaves ts [] [] q = refl
numbers_of_leaves ts [] (l ∷ ls) q = cc
numbers_of_leaves ts (x ∷ xs) [] q = cc
numbers_of_leaves ts (x ∷ xs) (l ∷ ls) q =
    let first : tree_at ts x.node ≡ leaf_tree l = cc in
    let rest : trees_of ts xs ≡ map leaf_tree ls = cc in
    rw (first, numbers_of_leaves ts xs ls rest) refl

-- arguments of a table are of its store
args_held : (ts : List Tree) (e : Entries) (xs : List GenericArg) → All (IsArgOf ts e) xs → All (λ x. HoldsArg ts x) xs
args_held ts e xs h = λ i d l. (let a = h i d l in a.holds)

-- of arguments that stand for leaves those are found that are such variables
pub found_open : {E : Type 0} (ts : List Tree) (xs : List GenericArg) (ls : List Leaf) (r : Result (Vec GenericArg) E) → trees_of ts xs ≡ map leaf_tree ls → IfOk r (λ v. v.items ≡ filter (λ a. any_label is_infer (tree_at ts a.node)) xs) → IfOk r (λ v. trees_of ts v.items ≡ map leaf_tree (filter is_stalling ls))
found_open ts xs ls (Ok v) q h = rw h (open_leaves ts xs ls q)
found_open ts xs ls (Err e) q h = tt

pub found_held : {E : Type 0} (ts : List Tree) (e : Entries) (xs : List GenericArg) (r : Result (Vec GenericArg) E) → All (IsArgOf ts e) xs → IfOk r (λ v. v.items ≡ filter (λ a. any_label is_infer (tree_at ts a.node)) xs) → IfOk r (λ v. All (λ x. HoldsArg ts x) v.items)
found_held ts e xs (Ok v) q h = rw h (All-filter (λ a. any_label is_infer (tree_at ts a.node)) (λ x. HoldsArg ts x) xs (args_held ts e xs q))
found_held ts e xs (Err z) q h = tt

-- arguments in a store that has grown
held_later : {a b : List Tree} → Extends a b → (xs : List GenericArg) → All (λ x. HoldsArg a x) xs → All (λ x. HoldsArg b x) xs
held_later {a} {b} e xs h = λ i d l. Holds-extended _ _ e (h i d l)

trees_later : {a b : List Tree} → Extends a b → (xs : List GenericArg) → All (λ x. HoldsArg a x) xs → trees_of b xs ≡ trees_of a xs
trees_later e [] h = refl
trees_later {a} {b} e (x ∷ xs) h =
    let held = All-head (λ z. HoldsArg a z) x xs h in
    cc (e.kept x.node held.within, trees_later e xs (All-tail (λ z. HoldsArg a z) x xs h))

-- a goal waits for what it waited for, in a store that has grown
pub stalling_later : {a b : List Tree} → Extends a b → (e f : Entries) (g : Goal) → HoldsGoal a g → stalling (input_of b f g []) ≡ stalling (input_of a e g [])
stalling_later {a} {b} x e f g h = rw (x.kept g.param_env.node h.env.within, x.kept g.predicate.node h.predicate.within) refl

pub MayStall-later : {a b : List Tree} → Extends a b → (e f : Entries) (x : Asked) → HoldsGoal a x.goal → MayStall a e x → MayStall b f x
MayStall-later {a} {b} x e f asked h s =
    let same = stalling_later x e f asked.goal h in
    record {
      vars = trees_later x asked.vars.items s.held ∙ s.vars ∙ ap (map leaf_tree) (sym same);
      held = held_later x asked.vars.items s.held;
      types = s.types ∙ ap (filter_map type_number) (sym same);
    }

-- a variable that the table lacks is its own sub root
pub unknown_root : (e : Entries) (n : ℕ) → length e.variables ≤ n → n ≡ sub_root_in e n
unknown_root e zero h = refl
unknown_root e (suc n) h = rw (slice_get_past e.variables (suc n) h) refl
