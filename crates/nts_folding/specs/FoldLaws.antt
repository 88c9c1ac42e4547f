-- What a store that grows keeps of values that can be folded, for the laws of folds.
use Rattle.std.specs.Prelude.{◌≡◌, suc, List, [], ◌∷◌, map, All, refl}
use Rattle.std.proofs.Common.{arith}
use Rattle.std.specs.Prelude.{Option, Some, None, IfSome, option_map}
use Rattle.nts_model.specs.declared.labels.ClauseHead.{ClauseHead}
use Rattle.nts_model.specs.Terms.Trees.{Tree, Place}
use Rattle.nts_model.specs.Derivations.Related.{pair}
use Rattle.nts_terms.specs.Handles.{Holds}
use Rattle.nts_folding.specs.Folding.{statement_about, tree_of_binder, tree_of_option, tree_of_list}
use Rattle.nts_terms.specs.nts_store.specs.declared.nodes.NodeId.{NodeId}
use Rattle.nts_terms.specs.nts_store.specs.Growth.{Extends}

pub Holds-kept : (p : Place) (a b : List Tree) (n : NodeId) → Holds p a n → Extends a b → Holds p b n
Holds-kept p a b n h e =
    let kept = e.kept n h.within in
    record { within = omega (arith, e.longer, h.within); fits = rw kept h.fits }

pub same_pair : {a b c d : Tree} → b ≡ a → d ≡ c → pair b d ≡ pair a c
same_pair e q = cc (e, q)

pub same_statement : {h : ClauseHead} {a b : Tree} → b ≡ a → statement_about h b ≡ statement_about h a
same_statement e = cc e

pub same_binder : {a b c d : Tree} → b ≡ a → d ≡ c → tree_of_binder b d ≡ tree_of_binder a c
same_binder e q = cc (e, q)

pub option_holds : {T : Type 0} (P Q : T → Type 0) → ((x : T) → P x → Q x) → (o : Option T) → IfSome o P → IfSome o Q
option_holds P Q f None h = h
option_holds P Q f (Some x) h = f x h

pub option_same : {T : Type 0} (P : T → Type 0) (f g : T → Tree) → ((x : T) → P x → g x ≡ f x) → (o : Option T) → IfSome o P → tree_of_option (option_map g o) ≡ tree_of_option (option_map f o)
option_same P f g e None h = refl
option_same P f g e (Some x) h = cc (e x h)

pub list_holds : {T : Type 0} (P Q : T → Type 0) → ((x : T) → P x → Q x) → (xs : List T) → All P xs → All Q xs
list_holds P Q f xs h = λ k d l. f _ (h k d l)

all_first : {T : Type 0} (P : T → Type 0) (x : T) (xs : List T) → All P (x ∷ xs) → P x
all_first P x xs h = h 0 x (omega arith)

all_rest : {T : Type 0} (P : T → Type 0) (x : T) (xs : List T) → All P (x ∷ xs) → All P xs
all_rest P x xs h = λ k d l. h (suc k) d (omega arith)

pub list_same : {T : Type 0} (P : T → Type 0) (f g : T → Tree) → ((x : T) → P x → g x ≡ f x) → (xs : List T) → All P xs → tree_of_list (map g xs) ≡ tree_of_list (map f xs)
list_same P f g e [] h = refl
list_same P f g e (x ∷ xs) h = cc (e x (all_first P x xs h), list_same P f g e xs (all_rest P x xs h))
