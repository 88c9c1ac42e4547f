-- Hidden types whose terms are replaced.
use Rattle.std.proofs.Common.{◌≡◌, ℕ, zero, suc, ◌+◌, ◌<◌, List, [], ◌∷◌, ◌++◌, map, length, take, get_or, All, subst, refl, sym, ap, ◌∙◌, arith}
use Rattle.std.proofs.lemmas.List.{take_more}
use Rattle.nts_model.specs.declared.labels.Leaf.{Leaf}
use Rattle.nts_model.specs.Terms.Substitutions.{leaf_tree, replace, filled}
use Rattle.nts_terms.specs.declared.handles.GenericArg.{GenericArg}
use Rattle.nts_model.specs.Terms.Trees.{Tree, empty, more, node, Place}
use Rattle.nts_model.specs.Derivations.Related.{alias_label}
use Rattle.nts_store.specs.declared.nodes.NodeId.{NodeId}
use Rattle.nts_terms.specs.declared.handles.AliasDefId.{AliasDefId}
use Rattle.nts_terms.specs.declared.handles.AliasDefId.TheVariants as alias_def
use Rattle.nts_terms.specs.declared.handles.AliasTerm.{AliasTerm}
use Rattle.nts_terms.specs.declared.handles.Ty.{Ty}
use Rattle.nts_store.specs.Growth.{tree_at, IsIn, Extends}
use Rattle.nts_terms.specs.Handles.{Holds, HoldsArg, alias_head}
use Rattle.nts_store.proofs.Growing.{IsIn-extended}
use Rattle.nts_terms.specs.Kinds.{tree_of_alias}
use Rattle.nts_canonical.specs.Forms.{hidden_pairs, trees_of, IsHidden, AreHidden}
use Rattle.nts_canonical.specs.Replaced.{IsImage, AreImages, IsLeafArg, AreLeafArgs}

-- a replacement goes into an alias
pub alias_replaced : (f : Leaf → Tree) (a : AliasDefId) (c : Tree) → replace f (node (alias_label (alias_head a)) c) ≡ node (alias_label (alias_head a)) (replace f c)
alias_replaced f (alias_def.Ty a) c = refl
alias_replaced f (alias_def.Const a) c = refl

-- values in place of positions leave the label of an alias
pub label_filled : (vs : List Tree) (a : AliasDefId) (c : Tree) → filled vs (node (alias_label (alias_head a)) c) ≡ node (alias_label (alias_head a)) (filled vs c)
label_filled vs (alias_def.Ty a) c = refl
label_filled vs (alias_def.Const a) c = refl

pub alias-filled : (vs a b : List Tree) (x : AliasTerm) (n : NodeId) → tree_at b n ≡ filled vs (tree_at a x.args.node) → tree_of_alias b (record x { args = record { node = n } }) ≡ filled vs (tree_of_alias a x)
alias-filled vs a b x n e = ap (λ t. node (alias_label (alias_head x.def_id)) (more t empty)) e ∙ sym (label_filled vs x.def_id (more (tree_at a x.args.node) empty))

-- what is held stays so, with its tree, when the store grows
pub holds_kept : (p : Place) (a b : List Tree) (n : NodeId) → Holds p a n → Extends a b → Holds p b n
holds_kept p a b n h e = record { within = IsIn-extended e n h.within; fits = rw (e.kept n h.within) h.fits }

pub alias-kept : (a b : List Tree) (x : AliasTerm) → IsIn a x.args.node → Extends a b → tree_of_alias b x ≡ tree_of_alias a x
alias-kept a b x h e = ap (λ t. node (alias_label (alias_head x.def_id)) (more t empty)) (e.kept x.args.node h)

pub is_hidden-kept : (a b : List Tree) (h : AliasTerm × Ty) → IsHidden a h → Extends a b → IsHidden b h
is_hidden-kept a b h i e = record { of_types = i.of_types; args = holds_kept _ a b h.0.args.node i.args e; hidden_type = holds_kept _ a b h.1.node i.hidden_type e }

pub are_hidden-kept : (a b : List Tree) (hs : List (AliasTerm × Ty)) → AreHidden a hs → Extends a b → AreHidden b hs
are_hidden-kept a b [] h e = tt
are_hidden-kept a b (x ∷ xs) h e = (is_hidden-kept a b x h.0 e, are_hidden-kept a b xs h.1 e)

pub hidden_row-kept : (a b : List Tree) (hs : List (AliasTerm × Ty)) → AreHidden a hs → Extends a b → hidden_pairs b hs ≡ hidden_pairs a hs
hidden_row-kept a b [] h e = refl
hidden_row-kept a b (x ∷ xs) h e =
    cc (alias-kept a b x.0 h.0.args.within e, e.kept x.1.node h.0.hidden_type.within, hidden_row-kept a b xs h.1 e)

-- one more of them
pub IsImage-later : (f : Tree → Tree) (a b c : List Tree) (h r : AliasTerm × Ty) → IsHidden a h → Extends a b → IsImage f b c h r → IsImage f a c h r
IsImage-later f a b c h r i e m = record {
  alias = m.alias ∙ ap f (alias-kept a b h.0 i.args.within e);
  hidden_type = m.hidden_type ∙ ap f (e.kept h.1.node i.hidden_type.within);
  held = m.held;
}

IsImage-kept : (f : Tree → Tree) (a b c : List Tree) (h r : AliasTerm × Ty) → IsImage f a b h r → Extends b c → IsImage f a c h r
IsImage-kept f a b c h r m e = record {
  alias = alias-kept b c r.0 m.held.args.within e ∙ m.alias;
  hidden_type = e.kept r.1.node m.held.hidden_type.within ∙ m.hidden_type;
  held = is_hidden-kept b c r m.held e;
}

pub AreImages-kept : (f : Tree → Tree) (a b c : List Tree) (hs rs : List (AliasTerm × Ty)) → AreImages f a b hs rs → Extends b c → AreImages f a c hs rs
AreImages-kept f a b c [] [] m e = tt
AreImages-kept f a b c [] (r ∷ rs) m e = absurd m
AreImages-kept f a b c (h ∷ hs) [] m e = absurd m
AreImages-kept f a b c (h ∷ hs) (r ∷ rs) m e = (IsImage-kept f a b c h r m.0 e, AreImages-kept f a b c hs rs m.1 e)

pub AreImages-push : (f : Tree → Tree) (a b : List Tree) (hs rs : List (AliasTerm × Ty)) (h r : AliasTerm × Ty) → AreImages f a b hs rs → IsImage f a b h r → AreImages f a b (hs ++ h ∷ []) (rs ++ r ∷ [])
AreImages-push f a b [] [] h r m n = (n, tt)
AreImages-push f a b [] (x ∷ xs) h r m n = absurd m
AreImages-push f a b (y ∷ ys) [] h r m n = absurd m
AreImages-push f a b (y ∷ ys) (x ∷ xs) h r m n = (m.0, AreImages-push f a b ys xs h r m.1 n)

-- a replacement that goes into rows and aliases
pub record GoesInside (f : Tree → Tree) : Type 0 where
  pub of_empty : f empty ≡ empty
  pub of_more : (s t : Tree) → f (more s t) ≡ more (f s) (f t)

pub AreImages-row : (f : Tree → Tree) → GoesInside f → (a b : List Tree) (hs rs : List (AliasTerm × Ty)) → AreImages f a b hs rs → hidden_pairs b rs ≡ f (hidden_pairs a hs)
AreImages-row f g a b [] [] m = sym g.of_empty
AreImages-row f g a b [] (r ∷ rs) m = absurd m
AreImages-row f g a b (h ∷ hs) [] m = absurd m
AreImages-row f g a b (h ∷ hs) (r ∷ rs) m =
    rw (m.0.alias, m.0.hidden_type, AreImages-row f g a b hs rs m.1) (sym (g.of_more _ _ ∙ ap (more (f (tree_of_alias a h.0))) (g.of_more _ _)))

pub AreImages-held : (f : Tree → Tree) (a b : List Tree) (hs rs : List (AliasTerm × Ty)) → AreImages f a b hs rs → AreHidden b rs
AreImages-held f a b [] [] m = tt
AreImages-held f a b [] (r ∷ rs) m = absurd m
AreImages-held f a b (h ∷ hs) [] m = absurd m
AreImages-held f a b (h ∷ hs) (r ∷ rs) m = (m.0.held, AreImages-held f a b hs rs m.1)

-- the hidden type at a place
pub are_hidden-at : (ts : List Tree) (hs : List (AliasTerm × Ty)) (i : ℕ) (d : AliasTerm × Ty) → AreHidden ts hs → i < length hs → IsHidden ts (get_or hs i d)
are_hidden-at ts [] i d h l = absurd (omega arith)
are_hidden-at ts (x ∷ xs) zero d h l = h.0
are_hidden-at ts (x ∷ xs) (suc i) d h l = are_hidden-at ts xs i d h.1 (omega arith)

-- arguments that are leaves
IsLeafArg-kept : (a b : List Tree) (x : GenericArg) (l : Leaf) → IsLeafArg a x l → Extends a b → IsLeafArg b x l
IsLeafArg-kept a b x l h e = record { within = IsIn-extended e x.node h.within; tree = e.kept x.node h.within ∙ h.tree }

pub AreLeafArgs-kept : (a b : List Tree) (xs : List GenericArg) (ls : List Leaf) → AreLeafArgs a xs ls → Extends a b → AreLeafArgs b xs ls
AreLeafArgs-kept a b [] [] h e = tt
AreLeafArgs-kept a b [] (l ∷ ls) h e = absurd h
AreLeafArgs-kept a b (x ∷ xs) [] h e = absurd h
AreLeafArgs-kept a b (x ∷ xs) (l ∷ ls) h e = (IsLeafArg-kept a b x l h.0 e, AreLeafArgs-kept a b xs ls h.1 e)

pub AreLeafArgs-push : (ts : List Tree) (xs : List GenericArg) (ls : List Leaf) (x : GenericArg) (l : Leaf) → AreLeafArgs ts xs ls → IsLeafArg ts x l → AreLeafArgs ts (xs ++ x ∷ []) (ls ++ l ∷ [])
AreLeafArgs-push ts [] [] x l h k = (k, tt)
AreLeafArgs-push ts [] (m ∷ ls) x l h k = absurd h
AreLeafArgs-push ts (y ∷ xs) [] x l h k = absurd h
AreLeafArgs-push ts (y ∷ xs) (m ∷ ls) x l h k = (h.0, AreLeafArgs-push ts xs ls x l h.1 k)

pub trees_of-leaves : (ts : List Tree) (xs : List GenericArg) (ls : List Leaf) → AreLeafArgs ts xs ls → trees_of ts xs ≡ map leaf_tree ls
trees_of-leaves ts [] [] h = refl
trees_of-leaves ts [] (l ∷ ls) h = absurd h
trees_of-leaves ts (x ∷ xs) [] h = absurd h
trees_of-leaves ts (x ∷ xs) (l ∷ ls) h = cc (h.0.tree, trees_of-leaves ts xs ls h.1)

IsLeafArg-holds : (ts : List Tree) (x : GenericArg) (l : Leaf) → IsLeafArg ts x l → HoldsArg ts x
IsLeafArg-holds ts x l h = record { within = h.within; fits = rw h.tree tt }

pub AreLeafArgs-hold : (ts : List Tree) (xs : List GenericArg) (ls : List Leaf) → AreLeafArgs ts xs ls → All (HoldsArg ts) xs
AreLeafArgs-hold ts [] ls h = λ k d l. absurd (omega arith)
AreLeafArgs-hold ts (x ∷ xs) [] h = absurd h
AreLeafArgs-hold ts (x ∷ xs) (l ∷ ls) h = go (AreLeafArgs-hold ts xs ls h.1)
  where
    go : All (HoldsArg ts) xs → (k : ℕ) (d : GenericArg) → k < length (x ∷ xs) → HoldsArg ts (get_or (x ∷ xs) k d)
    go rest zero d j = IsLeafArg-holds ts x l h.0
    go rest (suc k) d j = rest k d (omega arith)

pub leaf_more : (ts : List Tree) (xs zs : List GenericArg) (ls : List Leaf) (i : ℕ) (d : Leaf) (x : GenericArg) → AreLeafArgs ts xs (take i ls) → i < length ls → IsIn ts x.node → tree_at ts x.node ≡ leaf_tree (get_or ls i d) → zs ≡ xs ++ x ∷ [] → AreLeafArgs ts zs (take (i + 1) ls)
leaf_more ts xs zs ls i d x h l w t e =
    subst (λ u. AreLeafArgs ts u (take (i + 1) ls)) (sym e) (subst (AreLeafArgs ts (xs ++ x ∷ [])) (sym (take_more ls i d l)) (AreLeafArgs-push ts xs (take i ls) x (get_or ls i d) h (record { within = w; tree = t })))

pub image_more : (f : Tree → Tree) (a b : List Tree) (hs rs us : List (AliasTerm × Ty)) (i : ℕ) (d r : AliasTerm × Ty) → AreImages f a b (take i hs) rs → i < length hs → IsImage f a b (get_or hs i d) r → us ≡ rs ++ r ∷ [] → AreImages f a b (take (i + 1) hs) us
image_more f a b hs rs us i d r h l m e =
    subst (AreImages f a b (take (i + 1) hs)) (sym e) (subst (λ z. AreImages f a b z (rs ++ r ∷ [])) (sym (take_more hs i d l)) (AreImages-push f a b (take i hs) rs (get_or hs i d) r h m))
