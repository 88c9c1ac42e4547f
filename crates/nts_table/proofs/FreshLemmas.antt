-- New variables, one after another.
use Rattle.std.proofs.Common.{◌≡◌, ℕ, suc, ◌+◌, ◌<◌, List, [], ◌∷◌, ◌++◌, length, refl, sym, ap, ◌∙◌, arith, length-append, take, get_or}
use Rattle.std.proofs.lemmas.List.{take_more}
use Rattle.nts_model.specs.declared.labels.Sort.{Sort}
use Rattle.nts_model.specs.declared.labels.Sort.TheVariants as sort
use Rattle.nts_model.specs.Terms.Trees.{Tree, more, row_push, AllFit, any_argument, variable_tree}
use Rattle.nts_store.specs.declared.nodes.NodeId.{NodeId}
use Rattle.nts_store.specs.Growth.{tree_at, trees_at, IsIn, AllIn, Extends}
use Rattle.nts_store.proofs.Growing.{trees_at-push, trees_at-extended, AllIn-extended, AllIn-push}
use Rattle.nts_unify.specs.Entries.{Entries, added}
use Rattle.nts_unify.specs.Reading.{content_of, IsLawful}
use Rattle.nts_unify.specs.Lawful.{content_of-extended}
use Rattle.nts_unify.proofs.Labelled.{new_brings}
use Rattle.nts_model.specs.Tables.Passing.{BringsNoLabels}
use Rattle.nts_model.proofs.Tables.Bringing.{brings-refl, brings-trans}
use Rattle.nts_table.specs.Making.{new_variable}
use Rattle.nts_table.specs.Fresh.{variable_kind, with_fresh, fresh_row}

pub with_fresh-push : (e : Entries) (ss : List Sort) (s : Sort) → with_fresh e (ss ++ s ∷ []) ≡ added (with_fresh e ss) (new_variable (with_fresh e ss) (variable_kind s))
with_fresh-push e [] s = refl
with_fresh-push e (r ∷ ss) s = with_fresh-push (added e (new_variable e (variable_kind r))) ss s

pub length-with_fresh : (e : Entries) (ss : List Sort) → length ((with_fresh e ss).variables) ≡ length e.variables + length ss
length-with_fresh e [] = omega arith
length-with_fresh e (s ∷ ss) =
    omega (arith, length-with_fresh (added e (new_variable e (variable_kind s))) ss, length-append e.variables (new_variable e (variable_kind s) ∷ []))

pub fresh_row-push : (n m : ℕ) (ss : List Sort) (s : Sort) → m ≡ n + length ss → fresh_row n (ss ++ s ∷ []) ≡ row_push (fresh_row n ss) (variable_tree (variable_kind s) m)
fresh_row-push n m [] s e = let same : m ≡ n = omega arith in rw same refl
fresh_row-push n m (r ∷ ss) s e =
    ap (more (variable_tree (variable_kind r) n)) (fresh_row-push (suc n) m ss s (omega arith))

-- variables are arguments
pub AllFit-fresh_row : (n : ℕ) (ss : List Sort) → AllFit any_argument (fresh_row n ss)
AllFit-fresh_row n [] = tt
AllFit-fresh_row n (sort.Ty ∷ ss) = (tt, AllFit-fresh_row (suc n) ss)
AllFit-fresh_row n (sort.Region ∷ ss) = (tt, AllFit-fresh_row (suc n) ss)
AllFit-fresh_row n (sort.Const ∷ ss) = (tt, AllFit-fresh_row (suc n) ss)

-- the nodes and the entries after i of the variables
pub record FreshSoFar (ts : List Tree) (ns : List NodeId) (e f : Entries) (ss : List Sort) : Type 0 where
  pub trees : trees_at ts ns ≡ fresh_row (length e.variables) ss
  pub within : AllIn ts ns
  pub entries : f ≡ with_fresh e ss

-- .. and one more
pub fresh_more : (a b : List Tree) (ns : List NodeId) (n : NodeId) (e f g : Entries) (ss : List Sort) (i : ℕ) → FreshSoFar a ns e f (take i ss) → Extends a b → i < length ss → IsIn b n → tree_at b n ≡ variable_tree (variable_kind (get_or ss i sort.Ty)) (length f.variables) → g ≡ added f (new_variable f (variable_kind (get_or ss i sort.Ty))) → FreshSoFar b (ns ++ n ∷ []) e g (take (i + 1) ss)
fresh_more a b ns n e f g ss i h x below within tree entries =
    let s = get_or ss i sort.Ty in
    let taken : take (i + 1) ss ≡ take i ss ++ s ∷ [] = take_more ss i sort.Ty below in
    let long : length f.variables ≡ length e.variables + length (take i ss) = ap (λ (z : Entries). length z.variables) h.entries ∙ length-with_fresh e (take i ss) in
    let row = fresh_row-push (length e.variables) (length f.variables) (take i ss) s long in
    let old : trees_at b ns ≡ fresh_row (length e.variables) (take i ss) = trees_at-extended x ns h.within ∙ h.trees in
    let push = trees_at-push b ns n in
    record {
      trees = rw taken (push ∙ ap (λ r. row_push r (tree_at b n)) old ∙ ap (row_push (fresh_row (length e.variables) (take i ss))) tree ∙ sym row);
      within = AllIn-push b ns n (AllIn-extended x ns h.within) within;
      entries = rw taken (entries ∙ ap (λ z. added z (new_variable z (variable_kind s))) h.entries ∙ sym (with_fresh-push e (take i ss) s));
    }

-- new variables bring no labels
pub fresh_brings : (ts us : List Tree) (e f : Entries) (ss : List Sort) → IsLawful ts e → Extends ts us → f ≡ with_fresh e ss → BringsNoLabels (content_of ts e) (content_of us f)
fresh_brings ts us e f ss h ext q = rw (q, ← content_of-extended ext h) (by_list e ss)
  where
    by_list : (c : Entries) (rs : List Sort) → BringsNoLabels (content_of us c) (content_of us (with_fresh c rs))
    by_list c [] = brings-refl (content_of us c)
    by_list c (s ∷ rs) =
        brings-trans (new_brings us c (new_variable c (variable_kind s)) refl) (by_list (added c (new_variable c (variable_kind s))) rs)
