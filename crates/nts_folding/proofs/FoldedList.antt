-- What a walk over a list of values has made so far.
use Rattle.std.proofs.Common.{◌≡◌, suc, List, [], ◌∷◌, ◌++◌, map, Option, All, refl, sym, ap, ◌∙◌, arith, append_assoc}
use Rattle.std.proofs.lemmas.List.{map-append}
use Rattle.std.proofs.lemmas.List.Elements.{All-nil, All-push}
use Rattle.nts_model.specs.Terms.Trees.{Tree, more, row_push}
use Rattle.nts_terms.specs.nts_store.specs.Growth.{Extends}
use Rattle.nts_folding.specs.FoldLaws.{list_holds, list_same}
use Rattle.nts_folding.specs.Folding.{Walk, done, Stops, tree_of_list}
use Rattle.nts_terms.specs.nts_store.proofs.Growing.{Extends-refl, Extends-trans}
use Rattle.nts_folding.proofs.Folded.{walk_push, stops_at}
use Rattle.nts_terms.proofs.Standing.{all_rest}

all_at : {X : Type 0} (P : X → Type 0) (xs ys : List X) (x : X) → All P (xs ++ x ∷ ys) → P x
all_at P [] ys x h = h 0 x (omega arith)
all_at P (y ∷ xs) ys x h = all_at P xs ys x (all_rest P y (xs ++ x ∷ ys) h)

map_push : {X : Type 0} (f : X → Tree) (xs : List X) (x : X) → map f (xs ++ x ∷ []) ≡ map f xs ++ f x ∷ []
map_push f [] x = refl
map_push f (y ∷ xs) x = ap (λ zs. f y ∷ zs) (map_push f xs x)

tree_push : (xs : List Tree) (x : Tree) → tree_of_list (xs ++ x ∷ []) ≡ row_push (tree_of_list xs) x
tree_push [] x = refl
tree_push (y ∷ xs) x = ap (more y) (tree_push xs x)

module _ {S X : Type 0} (A : S → Tree → Option Tree → S → Type 0) (E L : S → S → Type 0) (R : S → Tree → Tree → S → Type 0) (H : List Tree → X → Type 0) (T : List Tree → X → Tree) where
  -- the values taken are folded, and the others are left
  pub record ListFolded (first now : S) (old new : List Tree) (all taken left folded : List X) : Type 0 where
    pub extends : Extends old new
    pub items : taken ++ left ≡ all
    pub holds : All (H new) folded
    pub walk : Walk A E L R first (tree_of_list (map (T old) taken)) (tree_of_list (map (T new) folded)) now

  pub list_start : (s : S) (ts : List Tree) (all left folded : List X) → left ≡ all → folded ≡ [] → ListFolded s s ts ts all [] left folded
  list_start s ts all left folded e q =
      record { extends = Extends-refl ts; items = e; holds = rw q (All-nil (H ts)); walk = rw q done }

  pub record LeftHolds (old mid : List Tree) (x : X) : Type 0 where
    pub before : H old x
    pub now : H mid x

  pub left_holds : ((a b : List Tree) (x : X) → H a x → Extends a b → H b x) → (first now : S) (old mid : List Tree) (all taken left folded rest : List X) (x : X) → ListFolded first now old mid all taken left folded → All (H old) all → left ≡ x ∷ rest → LeftHolds old mid x
  left_holds kept first now old mid all taken left folded rest x p h e =
      let is : taken ++ x ∷ rest ≡ all = rw e at p.items in
      let here = all_at (H old) taken rest x (rw (sym is) at h) in
      record { before = here; now = kept old mid x here p.extends }

  pub list_more : ((a b : List Tree) (x : X) → H a x → Extends a b → H b x) → ((a b : List Tree) (x : X) → H a x → Extends a b → T b x ≡ T a x) → (first now last : S) (old mid new : List Tree) (all taken left folded rest more_folded : List X) (x y : X) → ListFolded first now old mid all taken left folded → All (H old) all → left ≡ x ∷ rest → Extends mid new → H new y → Walk A E L R now (T mid x) (T new y) last → more_folded ≡ folded ++ y ∷ [] → ListFolded first last old new all (taken ++ x ∷ []) rest more_folded
  list_more kept same first now last old mid new all taken left folded rest more_folded x y p h e up k w q =
      let at = left_holds kept first now old mid all taken left folded rest x p h e in
      let was : T mid x ≡ T old x = same old mid x at.before p.extends in
      let still : tree_of_list (map (T new) folded) ≡ tree_of_list (map (T mid) folded) = list_same (H mid) (T mid) (T new) (λ z j. same mid new z j up) folded p.holds in
      let one : Walk A E L R now (T old x) (T new y) last = rw was at w in
      let pushed : tree_of_list (map (T new) (folded ++ y ∷ [])) ≡ row_push (tree_of_list (map (T mid) folded)) (T new y) = ap tree_of_list (map_push (T new) folded y) ∙ tree_push (map (T new) folded) (T new y) ∙ ap (λ z. row_push z (T new y)) still in
      let walked = walk_push A E L R (map (T old) taken) first now last (T old x) (T new y) (tree_of_list (map (T mid) folded)) p.walk one in
      record {
        extends = Extends-trans p.extends up;
        items = append_assoc taken (x ∷ []) rest ∙ ap (λ zs. taken ++ zs) (sym e) ∙ p.items;
        holds = rw q (All-push (H new) folded y (list_holds (H mid) (H new) (λ z j. kept mid new z j up) folded p.holds) k);
        walk = rw (q, pushed, map_push (T old) taken x) walked;
      }

  -- the walk stops at the next value
  pub list_stops : {Z : Type 0} (N : S → Option Tree → Z → Type 0) → ((a b : List Tree) (x : X) → H a x → Extends a b → H b x) → ((a b : List Tree) (x : X) → H a x → Extends a b → T b x ≡ T a x) → (first now : S) (old mid : List Tree) (all taken left folded rest : List X) (x : X) (e : Z) → ListFolded first now old mid all taken left folded → All (H old) all → left ≡ x ∷ rest → Stops A E L R N now (T mid x) e → Stops A E L R N first (tree_of_list (map (T old) all)) e
  list_stops N kept same first now old mid all taken left folded rest x e p h q w =
      let at = left_holds kept first now old mid all taken left folded rest x p h q in
      let one = rw (same old mid x at.before p.extends) at w in
      let is : map (T old) all ≡ map (T old) taken ++ T old x ∷ map (T old) rest = rw (← p.items, q, map-append) refl in
      rw is (stops_at A E L R N (map (T old) taken) (map (T old) rest) first now (T old x) _ e p.walk one)
