-- Lemmas on growing lists of trees, and on the trees of lists of terms.
use Rattle.std.proofs.Common.{◌≡◌, ℕ, zero, suc, ◌+◌, ◌<◌, List, [], ◌∷◌, ◌++◌, length, get_or, refl, ap, ◌∙◌, arith, length-append, add-one}
use Rattle.std.proofs.lemmas.Grind.{common_steps}
use Rattle.nts_model.specs.Terms.Trees.{Tree, empty, more, node, row_length, row_at, row_take, row_push, IsRow}
use Rattle.nts_store.specs.declared.nodes.NodeId.{NodeId}
use Rattle.nts_store.specs.Growth.{tree_at, trees_at, IsIn, AllIn, AllBelow, Extends}

pub Extends-refl : (ts : List Tree) → Extends ts ts
Extends-refl ts = record { longer = omega arith; kept = λ t h. refl }

pub Extends-trans : {a b c : List Tree} → Extends a b → Extends b c → Extends a c
Extends-trans e f =
    record { longer = omega (arith, e.longer, f.longer); kept = λ t h. f.kept t (omega (arith, e.longer)) ∙ e.kept t h }

pub IsIn-extended : {a b : List Tree} → Extends a b → (t : NodeId) → IsIn a t → IsIn b t
IsIn-extended e t h = omega (arith, e.longer)

pub AllIn-extended : {a b : List Tree} → Extends a b → (cs : List NodeId) → AllIn a cs → AllIn b cs
AllIn-extended e [] h = tt
AllIn-extended e (c ∷ cs) h = (IsIn-extended e c h.0, AllIn-extended e cs h.1)

pub trees_at-extended : {a b : List Tree} → Extends a b → (cs : List NodeId) → AllIn a cs → trees_at b cs ≡ trees_at a cs
trees_at-extended e [] h = refl
trees_at-extended e (c ∷ cs) h = cc (e.kept c h.0, trees_at-extended e cs h.1)

pub get_or-front : (ts us : List Tree) (i : ℕ) → i < length ts → get_or (ts ++ us) i empty ≡ get_or ts i empty
get_or-front ts us i h = grind (arith, common_steps)

pub get_or-last : (ts : List Tree) (t : Tree) → get_or (ts ++ t ∷ []) (length ts) empty ≡ t
get_or-last ts t = grind (arith, common_steps)

pub Extends-push : (ts : List Tree) (t : Tree) → Extends ts (ts ++ t ∷ [])
Extends-push ts t =
    record { longer = omega (arith, length-append ts (t ∷ [])); kept = λ c h. get_or-front ts (t ∷ []) c.number h }

pub row_length-trees_at : (ts : List Tree) (cs : List NodeId) → row_length (trees_at ts cs) ≡ length cs
row_length-trees_at ts [] = refl
row_length-trees_at ts (c ∷ cs) = omega (arith, row_length-trees_at ts cs)

pub IsRow-trees_at : (ts : List Tree) (cs : List NodeId) → IsRow (trees_at ts cs)
IsRow-trees_at ts [] = tt
IsRow-trees_at ts (c ∷ cs) = IsRow-trees_at ts cs

pub row_at-trees_at : (ts : List Tree) (cs : List NodeId) (k : ℕ) (c : NodeId) → k < length cs → get_or cs k c ≡ c → row_at (trees_at ts cs) k ≡ tree_at ts c
row_at-trees_at ts [] k c l e = absurd (omega arith)
row_at-trees_at ts (d ∷ cs) zero c l e = ap (tree_at ts) e
row_at-trees_at ts (d ∷ cs) (suc k) c l e = row_at-trees_at ts cs k c (omega arith) e

pub AllIn-get_or : (ts : List Tree) (cs : List NodeId) (k : ℕ) (c : NodeId) → AllIn ts cs → k < length cs → get_or cs k c ≡ c → c.number < length ts
AllIn-get_or ts [] k c h l e = absurd (omega arith)
AllIn-get_or ts (d ∷ cs) zero c h l e = rw (← e) h.0
AllIn-get_or ts (d ∷ cs) (suc k) c h l e = AllIn-get_or ts cs k c h.1 (omega arith) e

pub AllBelow-get_or : (n : ℕ) (cs : List NodeId) (k : ℕ) (c : NodeId) → AllBelow n cs → k < length cs → get_or cs k c ≡ c → c.number < n
AllBelow-get_or n [] k c h l e = absurd (omega arith)
AllBelow-get_or n (d ∷ cs) zero c h l e = rw (← e) h.0
AllBelow-get_or n (d ∷ cs) (suc k) c h l e = AllBelow-get_or n cs k c h.1 (omega arith) e

pub trees_at-push : (ts : List Tree) (cs : List NodeId) (c : NodeId) → trees_at ts (cs ++ c ∷ []) ≡ row_push (trees_at ts cs) (tree_at ts c)
trees_at-push ts [] c = refl
trees_at-push ts (d ∷ cs) c = ap (more (tree_at ts d)) (trees_at-push ts cs c)

pub row_take-more : (i : ℕ) (r : Tree) → i < row_length r → row_take (i + 1) r ≡ row_push (row_take i r) (row_at r i)
row_take-more i empty h = absurd (omega arith)
row_take-more zero (more a b) h = refl
row_take-more (suc i) (more a b) h =
    let e : suc i + 1 ≡ suc (i + 1) = omega arith in
    rw e (ap (more a) (row_take-more i b (omega arith)))
row_take-more i (node l c) h = absurd (omega arith)

pub row_take-all : (r : Tree) → IsRow r → row_take (row_length r) r ≡ r
row_take-all empty h = refl
row_take-all (more a b) h = rw add-one (ap (more a) (row_take-all b h))
row_take-all (node l c) h = absurd h

pub AllIn-push : (ts : List Tree) (cs : List NodeId) (c : NodeId) → AllIn ts cs → IsIn ts c → AllIn ts (cs ++ c ∷ [])
AllIn-push ts [] c h k = (k, tt)
AllIn-push ts (d ∷ cs) c h k = (h.0, AllIn-push ts cs c h.1 k)

-- within a list the default is of no account
pub get_or_from_fits : (cs : List NodeId) (k : ℕ) (d : NodeId) → k < length cs → get_or cs k (get_or cs k d) ≡ get_or cs k d
get_or_from_fits [] k d h = absurd (omega arith)
get_or_from_fits (c ∷ cs) zero d h = refl
get_or_from_fits (c ∷ cs) (suc k) d h = get_or_from_fits cs k d (omega arith)
