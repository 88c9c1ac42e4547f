-- Trees in which no alias stands, with values in place of variables, have none after a step of relating.
use Rattle.std.proofs.Common.{◌≡◌, ◌≢◌, ◌⊎◌, ⊎_elim, ℕ, zero, suc, ◌<◌, arith, ◌==◌, Bool, true, false, List, [], ◌∷◌, ◌++◌, Option, Some, None, if◌then◌else◌, refl, sym, ap, ◌∙◌}
use Rattle.std.specs.Prelude.{◌||◌}
use Rattle.nts_model.specs.declared.labels.VariableKind.{VariableKind}
use Rattle.nts_model.specs.declared.labels.VariableKind.TheVariants as kind
use Rattle.nts_model.specs.declared.labels.Leaf.TheVariants as leaf
use Rattle.nts_model.specs.declared.labels.Label.{Label}
use Rattle.nts_model.specs.declared.labels.Label.TheVariants as label
use Rattle.nts_model.specs.Terms.Trees.{Tree, empty, more, node, any_label, is_alias, row_length, row_at, infer_of, variable_of, variable_tree}
use Rattle.nts_model.specs.Tables.Contents.{Content, Slot, unset, link, state_of, kind_at, bound_to}
use Rattle.nts_model.specs.Tables.Resolving.{resolved, rooted, rooted_variable, deeply_resolved, replaced, replaced_at, Knows, IsSound, AllUnset}
use Rattle.nts_model.specs.Terms.Regions.{IsRegion, RegionName, name_of_label}
use Rattle.nts_model.specs.Tables.Holding.{Continues}
use Rattle.nts_model.specs.Tables.Alike.{Alike, one_tree, two_regions, one_label, two_rows, AreAlike}
use Rattle.nts_model.proofs.Tables.Roots.{Lacks-rooted}
use Rattle.nts_model.proofs.Tables.Resolved.{resolved-empty, resolved-more, resolved-node, resolved-variable_unset, Lacks-resolved}
use Rattle.nts_model.proofs.Tables.Open.{AllUnset-lacks, Knows-deeply_resolved}
use Rattle.nts_model.proofs.Tables.Fitting.{region_label}
use Rattle.nts_model.proofs.Tables.Binding.{IsKnowable, resolved-known}
use Rattle.nts_unify.specs.Changing.{IsLater, KeepsKnowing}
use Rattle.nts_unify.proofs.Keeping.{Knows-later}
use Rattle.nts_relating.specs.Relating.{IsPlainIn, KeepsPlain, PairsArePlain, AreKnown}
use Rattle.nts_relating.proofs.AliasCounts.{joined_variable}

-- an alias in neither of two parts
pub neither : (p q : Bool) → p || q ≡ false → (p ≡ false) × (q ≡ false)
neither false q h = (refl, h)
neither true q h = cc

-- trees that are one but for regions
region_plain_label : (l : Label) (x : RegionName) → name_of_label l ≡ Some x → is_alias l ≡ false
region_plain_label (label.Leaf y) x e = refl
region_plain_label (label.Bound s i n) x e = refl
region_plain_label (label.Ty h) x e = cc
region_plain_label (label.Const h) x e = cc
region_plain_label (label.Clause h) x e = cc
region_plain_label (label.Predicate h) x e = cc
region_plain_label (label.List h) x e = cc

region_plain : (t : Tree) → IsRegion t → any_label is_alias t ≡ false
region_plain empty h = refl
region_plain (more a b) h = (let e = h.1 in cc)
region_plain (node l t) h =
    let q = region_label l t h.0 h.1 in
    let alone : t ≡ empty = q.1 in
    rw (alone, region_plain_label l h.0 q.0) refl

plain_alike : (R : Tree → Tree → Type 0) (a b : Tree) → Alike R a b → any_label is_alias a ≡ any_label is_alias b
plain_alike R a b one_tree = refl
plain_alike R a b (two_regions p q r) = region_plain a p ∙ sym (region_plain b q)
plain_alike R a b (one_label {l = l} {c = x} {d = y} e h) = ap (λ z. is_alias l || z) (plain_alike R x y h)
plain_alike R a b (two_rows {a = s} {b = t} {c = x} {d = y} h k) = rw (plain_alike R s x h, plain_alike R t y k) refl

-- roots of regions
pub plain_rooted : (c : Content) (t : Tree) → any_label is_alias (rooted c t) ≡ any_label is_alias t
plain_rooted c empty = refl
plain_rooted c (more a b) = (let p = plain_rooted c a in let q = plain_rooted c b in cc (p, q))
plain_rooted c (node l t) = (let p = same l in let q = plain_rooted c t in cc (p, q))
  where
    same : (l : Label) → is_alias (rooted_variable c (variable_of l) l) ≡ is_alias l
    same (label.Leaf (leaf.Variable kind.Ty n)) = refl
    same (label.Leaf (leaf.Variable kind.Int n)) = refl
    same (label.Leaf (leaf.Variable kind.Float n)) = refl
    same (label.Leaf (leaf.Variable kind.Const n)) = refl
    same (label.Leaf (leaf.Variable kind.Region n)) = refl
    same (label.Leaf (leaf.Region r)) = refl
    same (label.Leaf (leaf.TyConstant r)) = refl
    same (label.Leaf (leaf.ConstConstant r)) = refl
    same (label.Bound s i n) = refl
    same (label.Ty h) = refl
    same (label.Const h) = refl
    same (label.Clause h) = refl
    same (label.Predicate h) = refl
    same (label.List h) = refl

pub plain_one : (d : Content) (r t : Tree) → AreAlike d r t → any_label is_alias (resolved d r) ≡ any_label is_alias (resolved d t)
plain_one d r t h =
    sym (plain_rooted d (resolved d r)) ∙ plain_alike _ (deeply_resolved d r) (deeply_resolved d t) h ∙ plain_rooted d (resolved d t)

-- a variable
pub variable_plain : (k : VariableKind) (n : ℕ) → any_label is_alias (variable_tree k n) ≡ false
variable_plain k n = refl

pub unset_plain : (c : Content) (k : VariableKind) (n : ℕ) → IsSound c → infer_of (label.Leaf (leaf.Variable k n)) ≡ Some n → state_of c n ≡ Some unset → IsPlainIn c (variable_tree k n)
unset_plain c k n s e q = ap (any_label is_alias) (resolved-variable_unset c (label.Leaf (leaf.Variable k n)) empty n s e q) ∙ variable_plain k n

-- a variable that gets a value without aliases
plain_replaced : (n : ℕ) (s t : Tree) → any_label is_alias s ≡ false → any_label is_alias t ≡ false → any_label is_alias (replaced n s t) ≡ false
plain_replaced n s empty h k = refl
plain_replaced n s (more a b) h k =
    let p = neither (any_label is_alias a) (any_label is_alias b) k in
    rw (plain_replaced n s a h p.0, plain_replaced n s b h p.1) refl
plain_replaced n s (node l t) h k =
    let p = neither (is_alias l) (any_label is_alias t) k in
    by (infer_of l) (rw (p.0, plain_replaced n s t h p.1) refl)
  where
    by : (o : Option ℕ) → any_label is_alias (node l (replaced n s t)) ≡ false → any_label is_alias (replaced_at o n s (node l t) (node l (replaced n s t))) ≡ false
    by None q = q
    by (Some m) q = by_case (m == n)
      where
        by_case : (z : Bool) → any_label is_alias (if z then s else node l t) ≡ false
        by_case true = h
        by_case false = k

pub plain_known : (d : Content) (n : ℕ) (w : Slot) (v : Tree) → IsSound d → IsKnowable d n w v → IsPlainIn d v → (a : Tree) → IsPlainIn d a → IsPlainIn (bound_to d n w) a
plain_known d n w v s b none a h =
    ap (any_label is_alias) (resolved-known d n w v s b a) ∙ plain_replaced n (resolved d v) (resolved d a) none h

-- two variables that are joined
abbrev VariablesArePlain : Content → Content → Type 0
VariablesArePlain c d = (l : Label) (x : Tree) (n : ℕ) → infer_of l ≡ Some n → state_of c n ≡ Some unset → any_label is_alias (node l x) ≡ false → IsPlainIn d (node l x)

plain_later : (c d : Content) (t : Tree) → IsSound d → VariablesArePlain c d → AllUnset c t → any_label is_alias t ≡ false → IsPlainIn d t
plain_later c d empty s h k e = ap (any_label is_alias) (resolved-empty d)
plain_later c d (more a b) s h k e =
    let p = neither (any_label is_alias a) (any_label is_alias b) e in
    rw (resolved-more d a b, plain_later c d a s h k.0 p.0, plain_later c d b s h k.1 p.1) refl
plain_later c d (node l t) s h k e = by_case (infer_of l) refl (plain_later c d t s h)
  where
    by_case : (o : Option ℕ) → infer_of l ≡ o → (AllUnset c t → any_label is_alias t ≡ false → IsPlainIn d t) → IsPlainIn d (node l t)
    by_case None q rec =
        let inner : AllUnset c t = rw q at k in
        let p = neither (is_alias l) (any_label is_alias t) e in
        rw (resolved-node d l t q, p.0, rec inner p.1) refl
    by_case (Some n) q rec =
        let free : state_of c n ≡ Some unset = rw q at k in
        h l t n q free e

plain_continue : (c d : Content) → IsSound c → IsSound d → Continues c d → VariablesArePlain c d → KeepsPlain c d
plain_continue c d s z h v =
    record {
      plain = λ t k e.
          (let deep = deeply_resolved c t in
          let free : AllUnset c deep = AllUnset-lacks c deep s (Knows-deeply_resolved c t s k) (λ n q. Lacks-rooted c n (resolved c t) (Lacks-resolved c t n s q)) in
          let none : any_label is_alias deep ≡ false = plain_rooted c (resolved c t) ∙ e in
          sym (plain_rooted d (resolved d t)) ∙ ap (any_label is_alias) (sym (h.values t k)) ∙ plain_rooted d (resolved d deep) ∙ plain_later c d deep z v free none);
    }

pub joined_plain : (c d : Content) (low high : ℕ) (k : VariableKind) → IsSound c → IsSound d → Continues c d → (low ≡ high → ⊥) → state_of c low ≡ Some unset → kind_at d high ≡ Some k → k ≢ kind.Region → state_of d high ≡ Some (link low) → ((n : ℕ) → (n ≡ high → ⊥) → state_of d n ≡ state_of c n) → KeepsPlain c d
joined_plain c d low high k z s on apart free has no_region linked others =
    plain_continue c d z s on
    (λ l x n is state e. ⊎_elim (λ q. ap (any_label is_alias) q ∙ e) (λ q. ap (any_label is_alias) q ∙ variable_plain k low) (joined_variable c d low high k s apart free has no_region linked others l x n is state))

-- nothing changed, and one step after another
pub plain_kept : {c d : Content} → KeepsKnowing c d → KeepsPlain c d
plain_kept h = record { plain = λ t k e. ap (any_label is_alias) (h.trees t k) ∙ e }

pub plain_refl : (c : Content) → KeepsPlain c c
plain_refl c = record { plain = λ t k e. e }

pub plain_then : {c d e : Content} → IsLater c d → KeepsPlain c d → KeepsPlain d e → KeepsPlain c e
plain_then l a b = record { plain = λ t k h. b.plain t (Knows-later t l k) (a.plain t k h) }

-- pairs
pub plain_front : (c : Content) (ps : List (Tree × Tree)) (p : Tree × Tree) → PairsArePlain c (ps ++ p ∷ []) → PairsArePlain c ps × IsPlainIn c p.0 × IsPlainIn c p.1
plain_front c [] p h = (tt, h.0.0, h.0.1)
plain_front c (q ∷ ps) p h = (let i = plain_front c ps p h.1 in ((h.0, i.0), i.1, i.2))

pub pairs_plain : {c d : Content} (ps : List (Tree × Tree)) → KeepsPlain c d → AreKnown c ps → PairsArePlain c ps → PairsArePlain d ps
pairs_plain [] k h e = tt
pairs_plain (p ∷ ps) k h e = ((k.plain p.0 h.0 e.0.0, k.plain p.1 h.1 e.0.1), pairs_plain ps k h.2 e.1)

pub plain_push : (c : Content) (ps : List (Tree × Tree)) (p : Tree × Tree) → PairsArePlain c ps → IsPlainIn c p.0 → IsPlainIn c p.1 → PairsArePlain c (ps ++ p ∷ [])
plain_push c [] p h l r = ((l, r), tt)
plain_push c (q ∷ ps) p h l r = (h.0, plain_push c ps p h.1 l r)

pub plain_row_at : (c : Content) (r : Tree) (i : ℕ) → i < row_length r → IsPlainIn c r → IsPlainIn c (row_at r i)
plain_row_at c empty i l h = absurd (omega (arith, l))
plain_row_at c (node m t) i l h = absurd (omega (arith, l))
plain_row_at c (more a b) zero l h = (neither (any_label is_alias (resolved c a)) (any_label is_alias (resolved c b)) (ap (any_label is_alias) (sym (resolved-more c a b)) ∙ h)).0
plain_row_at c (more a b) (suc i) l h =
    plain_row_at c b i (omega (arith, l)) (neither (any_label is_alias (resolved c a)) (any_label is_alias (resolved c b)) (ap (any_label is_alias) (sym (resolved-more c a b)) ∙ h)).1
