-- A cycle that is cut later on in a search was one before: the same inputs stand on the stack, asked by the same steps.
use Rattle.std.proofs.Common.{◌≡◌, inl, inr, ◌⊎◌, ℕ, zero, suc, ◌<◌, ◌-◌, List, [], ◌∷◌, map, reverse, length, get_or, refl, sym, ap, ◌∙◌, subst, arith}
use Rattle.std.specs.Prelude.{All}
use Rattle.nts_model.specs.Terms.Trees.{Tree}
use Rattle.nts_model.specs.Tables.Contents.{Content}
use Rattle.nts_model.specs.Derivations.Sequents.{PathKind, inductive}
use Rattle.nts_model.specs.Searching.Stacks.{path_kind, stronger}
use Rattle.nts_model.specs.Canonical.Inputs.{CanonicalInput as Form}
use Rattle.nts_certainty.specs.declared.sources.PathKind.{PathKind as PathKindData}
use Rattle.nts_store.specs.Growth.{Extends}
use Rattle.nts_terms.specs.declared.modes.TypingMode.{TypingMode}
use Rattle.nts_canonical.specs.Forms.{form_of}
use Rattle.nts_candidates.specs.Offered.{path_kind_of}
use Rattle.nts_search.specs.declared.stack.StackEntry.{StackEntry}
use Rattle.nts_search.specs.declared.stack.SearchGraph.{SearchGraph}
use Rattle.nts_search.specs.Searching.{IsStack, entry_at}
use Rattle.nts_terms.specs.declared.cx.Cx.{Cx}
use Rattle.nts_meaning.specs.Searching.{IsHead, IsSearch, Searches, AreLater, IsCut, IsGoalCut}
use Rattle.nts_meaning.proofs.Searching.{later_long, later_reversed, cut_earlier}

-- the input of an entry later on, and the path to a step
input_later : (xs ys : List StackEntry) (n : ℕ) (d : StackEntry) → AreLater xs ys → n < length xs → (get_or ys n d).input ≡ (get_or xs n d).input
input_later [] ys n d h l = absurd (omega (arith, l))
input_later (x ∷ xs) [] n d h l = absurd h
input_later (x ∷ xs) (y ∷ ys) zero d h l = (let e = h.0 in e.input)
input_later (x ∷ xs) (y ∷ ys) (suc n) d h l = input_later xs ys n d h.1 (omega (arith, l))

path_later : (ts : List Tree) (xs ys : List StackEntry) (n : ℕ) (k : PathKind) → AreLater xs ys → path_kind (map (entry_at ts) ys) n k ≡ path_kind (map (entry_at ts) xs) n k
path_later ts [] [] n k h = refl
path_later ts [] (y ∷ ys) n k h = absurd h
path_later ts (x ∷ xs) [] n k h = absurd h
path_later ts (x ∷ xs) (y ∷ ys) zero k h = refl
path_later ts (x ∷ xs) (y ∷ ys) (suc n) k h =
    let e = h.0 in
    ap (stronger k) (ap (λ z. path_kind (map (entry_at ts) ys) n (path_kind_of z)) e.kind ∙ path_later ts xs ys n (path_kind_of x.step_kind) h.1)

pub cut_before : {a b : List Tree} {g h : SearchGraph} {f : Form} {mode : TypingMode} {k : PathKindData} → Extends a b → IsStack a g → All (IsHead a) g.stack.items → AreLater g.stack.items h.stack.items → IsCut b h f mode k → IsCut a g f mode k
cut_before {a} {b} {g} {h} {f} {mode} {k} e stack heads later c =
    let long = later_long g.stack.items h.stack.items later in
    let below : c.head < length g.stack.items = omega (arith, c.below, long) in
    let n = length g.stack.items - suc c.head in
    let same : length h.stack.items - suc c.head ≡ n = ap (λ m. m - suc c.head) long in
    let path : path_kind (map (entry_at b) (reverse h.stack.items)) n (path_kind_of k) ≡ inductive = subst (λ m. path_kind (map (entry_at b) (reverse h.stack.items)) m (path_kind_of k) ≡ inductive) same c.path in
    cut_earlier e stack heads
    (record {
      head = c.head;
      below = below;
      same = λ d. ap (form_of b) (sym (input_later g.stack.items h.stack.items c.head d later below)) ∙ c.same d;
      path = sym (path_later b (reverse g.stack.items) (reverse h.stack.items) n (path_kind_of k) (later_reversed g.stack.items h.stack.items later)) ∙ path;
      elsewhere = c.elsewhere;
    })

pub goal_cut_before : {a b : List Tree} {g h : SearchGraph} {c : Content} {mode : TypingMode} {x y : Tree} {k : PathKindData} → Extends a b → IsStack a g → All (IsHead a) g.stack.items → AreLater g.stack.items h.stack.items → IsGoalCut b h c mode x y k → IsGoalCut a g c mode x y k
goal_cut_before e stack heads later (i, of, c) = (i, of, cut_before e stack heads later c)

-- .. while the search goes on
pub cut_at_first : {P : Type 0} {a b : Cx} {g h : SearchGraph} {n : ℕ} {c : Content} {mode : TypingMode} {x y : Tree} {k : PathKindData} → Extends a.nodes b.nodes → IsSearch a g n → Searches a b g h → P ⊎ IsGoalCut b.nodes h c mode x y k → P ⊎ IsGoalCut a.nodes g c mode x y k
cut_at_first e search searches (inl p) = inl p
cut_at_first e search searches (inr z) = inr (goal_cut_before e search.stack search.heads searches.later z)
