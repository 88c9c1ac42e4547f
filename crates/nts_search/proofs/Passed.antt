-- The kind of a path, from its end on.
use Rattle.std.proofs.Common.{◌≡◌, ℕ, zero, suc, ◌+◌, ◌-◌, ◌<◌, ◌≤◌, List, [], ◌∷◌, ◌++◌, length, get_or, take, map, refl, sym, ap, ◌∙◌, arith}
use Rattle.std.specs.Prelude.{reverse}
use Rattle.std.proofs.lemmas.List.{reverse-append}
use Rattle.nts_model.specs.Terms.Trees.{Tree}
use Rattle.nts_model.specs.Derivations.Sequents.{PathKind, coinductive, unknown, inductive, forced_ambiguity}
use Rattle.nts_model.specs.Searching.Stacks.{Entry, stronger, path_kind}
use Rattle.nts_response.specs.nts_candidates.specs.Offered.{path_kind_of}
use Rattle.nts_certainty.specs.declared.sources.PathKind.{PathKind as PathKindData}
use Rattle.nts_search.specs.declared.stack.StackEntry.{StackEntry}
use Rattle.nts_search.specs.Searching.{entry_at}

-- the strongest of three kinds
stronger-stronger : (a b c : PathKind) → stronger (stronger a b) c ≡ stronger a (stronger b c)
stronger-stronger forced_ambiguity b c = refl
stronger-stronger inductive b c = refl
stronger-stronger coinductive forced_ambiguity c = refl
stronger-stronger coinductive inductive c = refl
stronger-stronger coinductive coinductive forced_ambiguity = refl
stronger-stronger coinductive coinductive coinductive = refl
stronger-stronger coinductive coinductive unknown = refl
stronger-stronger coinductive coinductive inductive = refl
stronger-stronger coinductive unknown forced_ambiguity = refl
stronger-stronger coinductive unknown coinductive = refl
stronger-stronger coinductive unknown unknown = refl
stronger-stronger coinductive unknown inductive = refl
stronger-stronger unknown forced_ambiguity c = refl
stronger-stronger unknown inductive c = refl
stronger-stronger unknown coinductive forced_ambiguity = refl
stronger-stronger unknown coinductive coinductive = refl
stronger-stronger unknown coinductive unknown = refl
stronger-stronger unknown coinductive inductive = refl
stronger-stronger unknown unknown forced_ambiguity = refl
stronger-stronger unknown unknown coinductive = refl
stronger-stronger unknown unknown unknown = refl
stronger-stronger unknown unknown inductive = refl

-- a path that ends a step further
path_further : (x : Entry) (xs : List Entry) (n : ℕ) (k : PathKind) → path_kind (x ∷ xs) (suc n) k ≡ path_kind xs n (stronger k x.kind)
path_further x [] n k = refl
path_further x (y ∷ ys) zero k = refl
path_further x (y ∷ ys) (suc n) k = sym (stronger-stronger k x.kind (path_kind ys n y.kind))

-- the path from the newest entry
pub path_here : (xs : List Entry) (k : PathKind) → path_kind xs 0 k ≡ k
path_here [] k = refl
path_here (x ∷ xs) k = refl

take_one : (xs : List StackEntry) (n : ℕ) (d : StackEntry) → n < length xs → take (suc n) xs ≡ take n xs ++ get_or xs n d ∷ []
take_one [] n d h = absurd (omega arith)
take_one (x ∷ xs) zero d h = refl
take_one (x ∷ xs) (suc n) d h = ap (λ l. x ∷ l) (take_one xs n d (omega arith))

-- the path over the oldest entries, and over one less
pub path_onwards : (ts : List Tree) (xs : List StackEntry) (a b head : ℕ) (d : StackEntry) (k q : PathKindData) → b ≡ a - 1 → head + 1 < a → a ≤ length xs
    → path_kind_of q ≡ stronger (path_kind_of k) (path_kind_of (get_or xs b d).step_kind)
    → path_kind (map (entry_at ts) (reverse (take a xs))) (a - suc head) (path_kind_of k) ≡ path_kind (map (entry_at ts) (reverse (take b xs))) (b - suc head) (path_kind_of q)
path_onwards ts xs a b head d k q e m l s =
    let x = get_or xs b d in
    let rest = map (entry_at ts) (reverse (take b xs)) in
    let next : a ≡ suc b = omega arith in
    let steps : a - suc head ≡ suc (b - suc head) = omega arith in
    let below : b < length xs = omega arith in
    let split : reverse (take a xs) ≡ x ∷ reverse (take b xs) = ap (λ n. reverse (take n xs)) next ∙ ap reverse (take_one xs b d below) ∙ reverse-append (take b xs) (x ∷ []) in
    ap (λ l. path_kind (map (entry_at ts) l) (a - suc head) (path_kind_of k)) split
    ∙ ap (λ n. path_kind (entry_at ts x ∷ rest) n (path_kind_of k)) steps
    ∙ path_further (entry_at ts x) rest (b - suc head) (path_kind_of k)
    ∙ ap (path_kind rest (b - suc head)) (sym s)
